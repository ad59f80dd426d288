-- The first part that is refused, and its kind.
use Rattle.std.specs.Prelude.{List, [], ◌∷◌, ◌++◌, flat_map, Option, Some, None}
use Rattle.perm_tree.specs.declared.ast.Span.{Span}
use Rattle.perm_tree.specs.declared.errors.TypeKind.{TypeKind}
use Rattle.perm_tree.specs.declared.errors.TypeError.{TypeError}
use Rattle.perm_tree.specs.Code.{Code, End, Give, Return, Do, If, While, Par, Recover, Routine, UnitCode}
use Rattle.perm_tree.specs.Vars.{Vars, minus}
use Rattle.perm_rules.specs.Parts.{Context, Part, Simple, Condition, RecoverHead, Given, Returned}
use Rattle.perm_rules.specs.Pars.{par_head}
use Rattle.perm_rules.specs.Refusals.{refusal}
use Rattle.perm_rules.specs.Effects.{changed, instruction_effect, block_effect, either, both}
use Rattle.perm_rules.specs.Goes.{context, first_live, hiding}

-- a part with its span, what it is checked by, and the live set with which it is entered
pub record Entry : Type 0 where
  pub at : Span
  pub context : Context
  pub part : Part
  pub live : Vars

-- an entry from its parts
abbrev pub entry : Context → Span → Part → Vars → Entry
entry c at p G = record { at = at; context = c; part = p; live = G }

-- the parts of a code in text order, a head before its blocks. What comes before a part changes the live set by its effect, whether it is allowed or not; the condition and the body of a `while` are entered without what the body loses
abbrev pub entries : Context → Code → Vars → List Entry
entries c End G = []
entries c (Give at w x) G = entry c at (Given w x) G ∷ []
entries c (Return at a) G = entry c at (Returned a) G ∷ []
entries c (Do at i rest) G = entry c at (Simple i) G ∷ entries c rest (changed (instruction_effect i) G)
entries c (If at e own1 a own2 b rest) G =
    entry c at (Condition e) G ∷ (entries c a G ++ (entries c b G ++ entries c rest (changed (either (block_effect own1 a) (block_effect own2 b)) G)))
entries c (While at e own body rest) G =
    let K : Vars = minus G (block_effect own body).lost in
    entry c at (Condition e) K ∷ (entries c body K ++ entries c rest K)
entries c (Par at own1 a own2 b rest) G =
    entry c at (par_head c own1 a own2 b) G ∷ (entries c a G ++ (entries c b G ++ entries c rest (changed (both (block_effect own1 a) (block_effect own2 b)) G)))
entries c (Recover at x own hides body rest) G =
    entry c at (RecoverHead x) G ∷ (entries (hiding hides c) body G ++ entries c rest (changed (block_effect own body) G))

-- the parts of a method
abbrev pub method_entries : UnitCode → Routine → List Entry
method_entries u r = entries (context u r) r.code (first_live r)

-- the parts of a unit: those of its methods, one method behind the other
abbrev pub unit_entries : UnitCode → List Entry
unit_entries u = flat_map (method_entries u) u.routines

-- the kind at the span, or else what comes later
abbrev pub error_or : Span → Option TypeKind → Option TypeError → Option TypeError
error_or at None later = later
error_or at (Some k) later = Some (record { span = at; kind = k })

-- the first entry that is refused, with the lowest kind that applies
abbrev pub first_error : List Entry → Option TypeError
first_error [] = None
first_error (e ∷ rest) = error_or e.at (refusal e.context e.part e.live) (first_error rest)

-- the first refused part of a code that is entered with G
abbrev pub first_refused : Context → Code → Vars → Option TypeError
first_refused c a G = first_error (entries c a G)

-- the first refused part of a method
abbrev pub method_refusal : UnitCode → Routine → Option TypeError
method_refusal u r = first_refused (context u r) r.code (first_live r)

-- the one error, or else a later one
abbrev pub or_later : Option TypeError → Option TypeError → Option TypeError
or_later None later = later
or_later (Some e) later = Some e

-- the first refused part of some methods
abbrev pub methods_refusal : UnitCode → List Routine → Option TypeError
methods_refusal u [] = None
methods_refusal u (r ∷ rs) = or_later (method_refusal u r) (methods_refusal u rs)

-- the first refused part of a unit
abbrev pub unit_refusal : UnitCode → Option TypeError
unit_refusal u = methods_refusal u u.routines
