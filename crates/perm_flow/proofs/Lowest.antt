-- The lowest kind that applies to a part.
use Rattle.std.proofs.Common.{◌≡◌, ◌∙◌, ℕ, ◌++◌, inl, inr, Bool, true, false, cond, List, [], ◌∷◌, length, Some, None, refl, ap, sym, append-nil}
use Rattle.std.specs.Prelude.{◌||◌, Option, is_none}
use Rattle.std.specs.List.{list_any}
use Rattle.std.proofs.lemmas.Bool.{or_parts, cases_lt}
use Rattle.std.proofs.lemmas.Option.{slice_get_past}
use Rattle.perm_tree.specs.declared.errors.TypeKind.{TypeKind}
use Rattle.perm_tree.specs.declared.errors.TypeKind.TheVariants.{ParShared, ParPermission}
use Rattle.perm_tree.specs.declared.var_set.VarSet.{VarSet}
use Rattle.perm_tree.specs.Code.{Argument, Instruction, Declare, Assign, LoadField, LoadLength, LoadItem, TakeField, NewObject, NewArray, StoreField, StoreItem, Invoke, Print}
use Rattle.perm_tree.specs.Mentions.{any_in_term, any_in_argument, any_in_option, any_in_instruction}
use Rattle.perm_tree.specs.VarSets.{member}
use Rattle.perm_tree.specs.Vars.{Vars, those}
use Rattle.perm_rules.specs.Goes.{hiding}
use Rattle.perm_rules.specs.MethodBodies.{Body, context_of}
use Rattle.perm_rules.specs.Pars.{par_permission, par_shared}
use Rattle.perm_rules.specs.Parts.{Context, any_in_part, type_of}
use Rattle.perm_rules.specs.Parts as rules
use Rattle.perm_rules.specs.Permissions.{is_hidden, needs_consume, not_allowed_through, permission_too_weak}
use Rattle.perm_rules.specs.Liveness.{gone}
use Rattle.perm_rules.specs.Refusals.{refusal}
use Rattle.perm_rules.specs.Shapes.{bad_give, lacks_member, unknown_name, wrong_kind}
use Rattle.perm_rules.proofs.Refusals.KnownOnly.{Agree, argument-agree, or-same, term-agree}
use Rattle.perm_flow.specs.declared.part.Part.{Part}
use Rattle.perm_flow.specs.declared.part.Part.TheVariants.{Simple, Condition, Recover, Given, Returned}
use Rattle.perm_flow.specs.Lowest.{any_hidden, first_of, lowest}
use Rattle.perm_flow.specs.Parts.{part_of, HoldsHidden}

-- ---------- tests that agree on what is known ----------
module _ (U S T : Vars) (w : Agree U S T) where
  arguments-agree : (args : List Argument) → list_any (any_in_argument U) args ≡ false → list_any (any_in_argument S) args ≡ list_any (any_in_argument T) args
  arguments-agree [] h = refl
  arguments-agree (a ∷ rest) h =
      let u = or_parts (any_in_argument U a) (list_any (any_in_argument U) rest) h in
      or-same _ _ _ _ (argument-agree U S T w a u.0) (arguments-agree rest u.1)

  option-agree : (o : Option ℕ) → any_in_option U o ≡ false → any_in_option S o ≡ any_in_option T o
  option-agree None h = refl
  option-agree (Some x) h = w x h

  two-agree : (x y : ℕ) → (U x || U y) ≡ false → (S x || S y) ≡ (T x || T y)
  two-agree x y h = let u = or_parts (U x) (U y) h in or-same _ _ _ _ (w x u.0) (w y u.1)

  instruction-agree : (i : Instruction) → any_in_instruction U i ≡ false → any_in_instruction S i ≡ any_in_instruction T i
  instruction-agree (Declare x) h = w x h
  instruction-agree (Assign x a) h = let u = or_parts (U x) (any_in_argument U a) h in or-same _ _ _ _ (w x u.0) (argument-agree U S T w a u.1)
  instruction-agree (LoadField x y f) h = two-agree x y h
  instruction-agree (LoadLength x y) h = two-agree x y h
  instruction-agree (LoadItem x y e) h =
      let u = or_parts (U x) (U y || any_in_term U e) h in
      let v = or_parts (U y) (any_in_term U e) u.1 in
      or-same _ _ _ _ (w x u.0) (or-same _ _ _ _ (w y v.0) (term-agree U S T w e v.1))
  instruction-agree (TakeField x y f) h = two-agree x y h
  instruction-agree (NewObject x class) h = w x h
  instruction-agree (NewArray x e) h = let u = or_parts (U x) (any_in_term U e) h in or-same _ _ _ _ (w x u.0) (term-agree U S T w e u.1)
  instruction-agree (StoreField y f a) h = let u = or_parts (U y) (any_in_argument U a) h in or-same _ _ _ _ (w y u.0) (argument-agree U S T w a u.1)
  instruction-agree (StoreItem y i e) h =
      let u = or_parts (U y) (any_in_term U i || any_in_term U e) h in
      let v = or_parts (any_in_term U i) (any_in_term U e) u.1 in
      or-same _ _ _ _ (w y u.0) (or-same _ _ _ _ (term-agree U S T w i v.0) (term-agree U S T w e v.1))
  instruction-agree (Invoke into tie consumed y routine args) h =
      let u = or_parts (any_in_option U into) (U y || list_any (any_in_argument U) args) h in
      let v = or_parts (U y) (list_any (any_in_argument U) args) u.1 in
      or-same _ _ _ _ (option-agree into u.0) (or-same _ _ _ _ (w y v.0) (arguments-agree args v.1))
  instruction-agree (Print e) h = term-agree U S T w e h

  hidden-agree : (p : rules.Part) → any_in_part U p ≡ false → any_hidden S p ≡ any_hidden T p
  hidden-agree (rules.Simple i) h = instruction-agree i h
  hidden-agree (rules.Condition e) h = term-agree U S T w e h
  hidden-agree (rules.ParHead u1 u2 a1 a2) h = refl
  hidden-agree (rules.RecoverHead x) h = w x h
  hidden-agree (rules.Given v x) h = w v (or_parts (U v) (U x) h).0
  hidden-agree (rules.Returned a) h = argument-agree U S T w a h

-- the test of a context is that of what it hides
hidden-is : (c : Context) (p : rules.Part) → any_hidden (those c.hidden) p ≡ is_hidden c p
hidden-is c (rules.Simple i) = refl
hidden-is c (rules.Condition e) = refl
hidden-is c (rules.ParHead u1 u2 a1 a2) = refl
hidden-is c (rules.RecoverHead x) = refl
hidden-is c (rules.Given v x) = refl
hidden-is c (rules.Returned a) = refl

-- where all variables of a part are known, its hidden ones are those of the set
hidden-same : (b : Body) (set : VarSet) (hides : List ℕ) → HoldsHidden b set hides → (p : rules.Part) → unknown_name (context_of b) p ≡ false
    → any_hidden (member set) p ≡ is_hidden (hiding hides (context_of b)) p
hidden-same b set hides holds p known =
    hidden-agree (λ x. is_none (type_of (context_of b) x)) (member set) (those (hides ++ [])) each p (or_parts (any_in_part (λ x. is_none (type_of (context_of b) x)) p) (lacks_member (context_of b) p) known).0
    ∙ hidden-is (hiding hides (context_of b)) p
  where
    each : (x : ℕ) → is_none (type_of (context_of b) x) ≡ false → member set x ≡ those (hides ++ []) x
    each x there = elim (cases_lt x (length (context_of b).vars)) [
      | inl within ↦ holds x within ∙ ap (λ (xs : List ℕ). those xs x) (sym (append-nil hides))
      | inr past ↦ absurd (let no : ⊥ = cc (ap is_none (slice_get_past (context_of b).vars x past), there) in no)
    ]

-- ---------- the chain ----------
-- what is said of no par
no_par : (c : Context) (b : Body) (part : Part) → (par_shared c (part_of b part) ≡ false) × (par_permission c (part_of b part) ≡ false)
no_par c b (Simple a) = (refl, refl)
no_par c b (Condition e) = (refl, refl)
no_par c b (Recover x) = (refl, refl)
no_par c b (Given w x) = (refl, refl)
no_par c b (Returned a) = (refl, refl)

none-later : (a b : Bool) → a ≡ false → b ≡ false → cond a (Some ParShared) (cond b (Some ParPermission) None) ≡ None
none-later a b first second = ap (λ x. cond x (Some ParShared) (cond b (Some ParPermission) None)) first ∙ ap (λ x. cond x (Some ParPermission) None) second

hidden-after : (u h k w g n t s d : Bool) (later : Option TypeKind) → (u ≡ false → h ≡ k) → first_of u w g n t s h d later ≡ first_of u w g n t s k d later
hidden-after true h k w g n t s d later same = refl
hidden-after false h k w g n t s d later same = ap (λ x. first_of false w g n t s x d later) (same refl)

-- the refusal of a part is the lowest of the kinds, since those of pars don't apply
pub lowest-refusal : (b : Body) (part : Part) (G : Vars) (set : VarSet) (hides : List ℕ) → HoldsHidden b set hides
    → lowest (context_of b) (member set) (part_of b part) G ≡ refusal (hiding hides (context_of b)) (part_of b part) G
lowest-refusal b part G set hides holds =
    let c = context_of b in
    let p = part_of b part in
    let none = no_par (hiding hides c) b part in
    hidden-after (unknown_name c p) (any_hidden (member set) p) (is_hidden (hiding hides c) p) (wrong_kind c p) (gone p G) (needs_consume c p) (not_allowed_through c p) (permission_too_weak c p) (bad_give c p) None
    (hidden-same b set hides holds p)
    ∙ ap (first_of (unknown_name c p) (wrong_kind c p) (gone p G) (needs_consume c p) (not_allowed_through c p) (permission_too_weak c p) (is_hidden (hiding hides c) p) (bad_give c p)) (sym (none-later _ _ none.0 none.1))
