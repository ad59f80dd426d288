-- What the laws of the typing rules claim.
use Rattle.std.specs.Prelude.{◌≡◌, ◌↔◌, ℕ, false, ◌&&◌, cond, List, ◌++◌, map, length, None, Some, Ok, is_none, slice_get}
use Rattle.perm_tree.specs.declared.ast.Block.{Block}
use Rattle.perm_tree.specs.declared.ast.Method.{Method}
use Rattle.perm_tree.specs.Code.{Code, Return, Routine, UnitCode}
use Rattle.perm_tree.specs.CodeNames.{argument}
use Rattle.perm_tree.specs.CodeOf.{code_of}
use Rattle.perm_tree.specs.Resolves.{IsResolved}
use Rattle.perm_tree.specs.TextOrder.{ends, IsRising}
use Rattle.perm_tree.specs.UnitTables.{Tables}
use Rattle.perm_tree.specs.Vars.{Vars, below, IsWithin}
use Rattle.perm_rules.specs.Parts.{Context, type_of}
use Rattle.perm_rules.specs.Effects.{effect, changed}
use Rattle.perm_rules.specs.Goes.{Goes, IsAccepted, context, first_live}
use Rattle.perm_rules.specs.Sharing.{AllSharePlainly}
use Rattle.perm_rules.specs.FirstRefused.{Entry, entries, method_entries, unit_entries, first_error, first_refused, method_refusal, unit_refusal}
use Rattle.perm_tree.specs.InBody.{method_at, IsStmtOf, AreParOf, vars_at, setting_at}
use Rattle.perm_rules.specs.AtPlace.{context_at, whole_effect_of, effect_of, par_mode_of, plain_mode_of, stmt_code_at, StmtGoes, flow_of, flows_of, refusal_then}

-- a code that goes from a live set goes to that without what its effect loses, with what it makes
abbrev pub GoesByEffect : Type 0
GoesByEffect = (c : Context) (a : Code) (G H : Vars) → Goes c a G H → H ≡ changed (effect a) G

-- the effect of a code that goes loses nothing that it makes
abbrev pub LosesOrMakes : Type 0
LosesOrMakes = (c : Context) (a : Code) (G H : Vars) → Goes c a G H → (x : ℕ) → ((effect a).lost x && (effect a).made x) ≡ false

-- a code that goes from a live set goes from each larger one, to one that is no smaller
abbrev pub GoesFromMore : Type 0
GoesFromMore = (c : Context) (a : Code) (G H K : Vars) → IsWithin G K → Goes c a G H → (L : Vars) × Goes c a K L × IsWithin H L

-- of the variables of a method each changes by the effect of a block as by the whole effect, and no other number changes
abbrev pub ChangesKnown : Type 0
ChangesKnown = (u : Tables) (m : ℕ) (b : Block) (G : Vars) (x : ℕ) → changed (effect_of u m b) G x ≡ cond (below (length (vars_at u m)) x) (changed (whole_effect_of u m b) G x) (G x)

-- a code goes from a live set exactly where no part of it is refused
abbrev pub GoesUnrefused : Type 0
GoesUnrefused = (c : Context) (a : Code) (G : Vars) → ((H : Vars) × Goes c a G H) ↔ (first_refused c a G ≡ None)

-- a unit is accepted exactly where no part of it is refused
abbrev pub AcceptedUnrefused : Type 0
AcceptedUnrefused = (u : UnitCode) → IsAccepted u ↔ (unit_refusal u ≡ None)

-- a statement goes from a live set to another exactly where its flow gives that
abbrev pub FlowGoes : Type 0
FlowGoes = (u : Tables) (m at : ℕ) (G H : Vars) → StmtGoes u m at G H ↔ (flow_of u m at G ≡ Ok H)

-- among some entries stand, one behind the other, those of a code that is entered with some live set
pub record HasStretch (c : Context) (a : Code) (all : List Entry) : Type 0 where
  pub live : Vars
  pub before : List Entry
  pub behind : List Entry
  pub split : all ≡ before ++ (entries c a live ++ behind)

-- among the entries of a method of a unit stand those of each of its statements, checked by what is told of its place
abbrev pub PlaceContext : Type 0
PlaceContext = (u : Tables) (m at : ℕ) (r : Routine) → IsResolved u → slice_get (code_of u).routines m ≡ Some r → IsStmtOf u m at
    → HasStretch (context_at u m at) (stmt_code_at u m at) (entries (context (code_of u) r) r.code (first_live r))

-- two live sets have the same known variables
abbrev pub AgreeOnKnown : Context → Vars → Vars → Type 0
AgreeOnKnown c G H = (x : ℕ) → is_none (type_of c x) ≡ false → G x ≡ H x

-- what is first refused of a code depends on the live set only in its known variables
abbrev pub RefusedByKnown : Type 0
RefusedByKnown = (c : Context) (a : Code) (G H : Vars) → AgreeOnKnown c G H → first_refused c a G ≡ first_refused c a H

-- in each par of a unit, what the blocks declare is no reason to refuse it
abbrev pub PlainlyShared : Type 0
PlainlyShared = (u : Tables) (m : ℕ) (r : Routine) → IsResolved u → slice_get (code_of u).routines m ≡ Some r → AllSharePlainly (context (code_of u) r) r.code

-- the first refused part of a method of a unit is that of the statements of its body, one behind the other, or else its `return`
abbrev pub RefusedByBody : Type 0
RefusedByBody = (u : Tables) (m : ℕ) (r : Routine) (d : Method) → IsResolved u → slice_get (code_of u).routines m ≡ Some r → method_at u m ≡ Some d
    → method_refusal (code_of u) r ≡ refusal_then (flows_of u m d.body.stmts (first_live r)) (λ H. first_refused (context (code_of u) r) (Return d.span (argument (setting_at u m) d.back)) H)

-- the mode of the blocks of a par of a unit, or why they may not be side by side, is told by what they assign and consume alone
abbrev pub ModeByWrites : Type 0
ModeByWrites = (u : Tables) (m : ℕ) (left right : Block) → IsResolved u → AreParOf u m left right → par_mode_of u m left right ≡ plain_mode_of u m left right

-- the parts of a method of a unit stand in text order: each ends no sooner than the one before it
abbrev pub PartsInOrder : Type 0
PartsInOrder = (u : Tables) (m : ℕ) (r : Routine) → IsResolved u → slice_get (code_of u).routines m ≡ Some r → IsRising 0 (map (λ e. ends e.at.end) (method_entries (code_of u) r))

-- the parts of a unit stand in text order, within each method and from each method to the next: each ends no sooner than the one before it
abbrev pub UnitInOrder : Type 0
UnitInOrder = (u : Tables) → IsResolved u → IsRising 0 (map (λ e. ends e.at.end) (unit_entries (code_of u)))

-- what is refused of a unit is the first of its parts that is refused
abbrev pub RefusedAtFirst : Type 0
RefusedAtFirst = (u : UnitCode) → unit_refusal u ≡ first_error (unit_entries u)
