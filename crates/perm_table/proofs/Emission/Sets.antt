-- What codes write, and the sets that hold it.
use Rattle.std.proofs.Common.{◌≡◌, ◌∙◌, ℕ, ◌+◌, ◌<◌, Bool, true, false, List, [], ◌∷◌, ◌++◌, length, Option, Some, refl, sym, ap, subst, drop, get_or, map, nat_eq, ◌≤◌}
use Rattle.std.specs.Prelude.{◌||◌, ◌&&◌, not, slice_get, slice_index}
use Rattle.std.proofs.lemmas.List.{drop_all, drop_more}
use Rattle.perm_tree.specs.declared.ast.FieldDecl.{FieldDecl}
use Rattle.perm_tree.specs.declared.ast.Span.{Span}
use Rattle.perm_tree.specs.declared.ast.Stmt.{Stmt}
use Rattle.perm_tree.specs.declared.bodies.Argument.{Argument}
use Rattle.perm_tree.specs.declared.bodies.Operation.{Operation}
use Rattle.perm_tree.specs.declared.var_set.VarSet.{VarSet}
use Rattle.perm_tree.specs.BodyTerms.{argument_of}
use Rattle.perm_tree.specs.Code.{Code, End, Give, Recover}
use Rattle.perm_tree.specs.CodeNames.{Setting, own_vars, var_at}
use Rattle.perm_tree.specs.Links.{most_variables}
use Rattle.perm_tree.specs.Mentions.{argument_consumes, arguments_consume, block_writes, written}
use Rattle.perm_tree.specs.Scopes.{declared_by, declared_if}
use Rattle.perm_tree.specs.Vars.{Vars, none, just, those, plus, minus}
use Rattle.perm_tree.specs.VarSets.{member}
use Rattle.perm_table.specs.Emission.{Holds, HoldsWritten}

-- ---------- tests ----------
-- laws of or
pub or-assoc : (a b c : Bool) → a || (b || c) ≡ (a || b) || c
or-assoc true b c = refl
or-assoc false b c = refl

pub or-true : (a : Bool) → a || true ≡ true
or-true true = refl
or-true false = refl

pub or-false : (a : Bool) → a || false ≡ a
or-false true = refl
or-false false = refl

pub or-comm : (a b : Bool) → a || b ≡ b || a
or-comm true b = sym (or-true b)
or-comm false b = sym (or-false b)

-- the first comes second
or-swap : (a b c : Bool) → a || (b || c) ≡ (b || a) || c
or-swap true true c = refl
or-swap true false c = refl
or-swap false true c = refl
or-swap false false c = refl

-- what a recover block writes, with the given variable and the one that takes it
or-recover : (x b w n r : Bool) → x || (((b || (w || x)) && n) || r) ≡ ((((b || w) || x) && n) || x) || r
or-recover true b w n r = ap (λ t. t || r) (sym (or-true (((b || w) || true) && n)))
or-recover false true w true r = refl
or-recover false true w false r = refl
or-recover false false true true r = refl
or-recover false false true false r = refl
or-recover false false false n r = refl

-- ---------- sets ----------
-- an empty set adds nothing
pub holds-none : (s : VarSet) (G : Vars) → member s ≡ none → (x : ℕ) → G x ≡ plus (member s) G x
holds-none s G is x = ap (λ (H : Vars). plus H G x) (sym is)

-- one more part of a set is added
pub holds-more : (s t : VarSet) (H K L : Vars) (x : ℕ) → member t x ≡ plus (member s) H x → plus (member s) (plus H K) x ≡ L x → plus (member t) K x ≡ L x
holds-more s t H K L x is before = ap (λ b. b || K x) is ∙ sym (or-assoc (member s x) (H x) (K x)) ∙ before

-- a set that has all parts
pub holds-all : (s : VarSet) (G : Vars) (x : ℕ) → plus (member s) none x ≡ G x → member s x ≡ G x
holds-all s G x is = sym (or-false (member s x)) ∙ is

-- ---------- codes ----------
-- nothing is written
pub written-none : (s : VarSet) → member s ≡ none → HoldsWritten s (λ c. c)
written-none s is rest x within = holds-none s (written rest) is x

-- one code before another
pub written-then : (s t r : VarSet) (f g : Code → Code) → HoldsWritten s f → HoldsWritten t g → member r ≡ plus (member s) (member t) → HoldsWritten r (λ c. g (f c))
written-then s t r f g one two is rest x within =
    two (f rest) x within ∙ ap (λ b. member t x || b) (one rest x within) ∙ or-swap (member t x) (member s x) (written rest x) ∙ ap (λ (G : Vars). plus G (written rest) x) (sym is)

-- the same code in other words
pub written-as : (s : VarSet) (f g : Code → Code) → ((rest : Code) → f rest ≡ g rest) → HoldsWritten s f → HoldsWritten s g
written-as s f g same one rest x within = ap (λ c. written c x) (sym (same rest)) ∙ one rest x within

-- a block without what it declares itself
pub written-block : (s r : VarSet) (own : List ℕ) (f : Code → Code) → HoldsWritten s f → Holds r (minus (member s) (those own)) → Holds r (block_writes own (f End))
written-block s r own f one is x within =
    is x within ∙ ap (λ b. b && not (those own x)) (sym (one End x within ∙ or-false (member s x)))

-- two blocks
pub written-two : (s t r : VarSet) (G H : Vars) (rest : Code) (x : ℕ) → x < most_variables → Holds s G → Holds t H → member r ≡ plus (member s) (member t)
    → plus G (plus H (written rest)) x ≡ plus (member r) (written rest) x
written-two s t r G H rest x within one two is =
    let first = sym (one x within) in
    let second = sym (two x within) in
    or-assoc (G x) (H x) (written rest x)
    ∙ (λ j. (first j || second j) || written rest x)
    ∙ ap (λ (K : Vars). plus K (written rest) x) (sym is)

-- a recover block: the body, the given variable, the one that takes it
pub written-recover : (s s1 s2 out r : VarSet) (at give : Span) (own hides : List ℕ) (w y : ℕ) (f : Code → Code)
    → HoldsWritten s f → Holds s1 (plus (member s) (just w)) → Holds s2 (plus (member s1) (just y)) → Holds out (minus (member s2) (those own)) → Holds r (plus (member out) (just y))
    → HoldsWritten r (λ rest. Recover at y own hides (f (Give give w y)) rest)
written-recover s s1 s2 out r at give own hides w y f body one two three four rest x within =
    ap (λ b. just y x || ((b && not (those own x)) || written rest x)) (body (Give give w y) x within)
    ∙ or-recover (just y x) (member s x) (just w x) (not (those own x)) (written rest x)
    ∙ ap (λ b. b || written rest x) (sym whole)
  where
    whole : member r x ≡ (((member s x || just w x) || just y x) && not (those own x)) || just y x
    whole =
        four x within
        ∙ ap (λ b. b || just y x) (three x within ∙ ap (λ b. b && not (those own x)) (two x within ∙ ap (λ b. b || just y x) (one x within)))

-- ---------- what is consumed ----------
-- one more argument
pub consumed-step : (all : List Operation) (args : List Argument) (i : ℕ) (d : Argument) (s t : VarSet) (x : ℕ) (b : Bool) → i < length args → member t x ≡ plus (member s) (argument_consumes (argument_of all (get_or args i d))) x
    → plus (member s) (arguments_consume (map (argument_of all) (drop i args))) x ≡ b → plus (member t) (arguments_consume (map (argument_of all) (drop (i + 1) args))) x ≡ b
consumed-step all args i d s t x b within is before =
    holds-more s t (argument_consumes (argument_of all (get_or args i d))) (arguments_consume (map (argument_of all) (drop (i + 1) args))) (λ y. b) x is
    (subst (λ (l : List Argument). plus (member s) (arguments_consume (map (argument_of all) l)) x ≡ b) (drop_more args i d within) before)

-- all arguments
pub consumed-done : (all : List Operation) (args : List Argument) (i : ℕ) (s : VarSet) (x : ℕ) (b : Bool) → length args ≤ i
    → plus (member s) (arguments_consume (map (argument_of all) (drop i args))) x ≡ b → member s x ≡ b
consumed-done all args i s x b end before =
    holds-all s (λ y. b) x (subst (λ (l : List Argument). plus (member s) (arguments_consume (map (argument_of all) l)) x ≡ b) (drop_all i args end) before)

-- what a call writes
pub call-writes : (result taken given : VarSet) (G H K : Vars) (x : ℕ) → member result x ≡ plus (member taken) K x → member taken x ≡ plus (member given) G x → member given x ≡ H x → member result x ≡ plus (plus G H) K x
call-writes result taken given G H K x one two three = one ∙ ap (λ b. b || K x) (two ∙ ap (λ b. b || G x) three ∙ or-comm (H x) (G x))

-- ---------- what a block declares ----------
-- the set of two lists
those-append : (xs ys : List ℕ) (x : ℕ) → those (xs ++ ys) x ≡ plus (those xs) (those ys) x
those-append [] ys x = refl
those-append (y ∷ xs) ys x = ap (λ b. nat_eq x y || b) (those-append xs ys x) ∙ or-assoc (nat_eq x y) (those xs x) (those ys x)

module _ (k : Setting) where
  -- the numbers of declared variables
  abbrev numbers : List FieldDecl → List ℕ
  numbers ds = map (λ d. var_at k d.name) ds

  -- one more statement
  pub own-step : (stmts : List ℕ) (i : ℕ) (found : Stmt) (s t : VarSet) (x : ℕ) (b : Bool) → i < length stmts → slice_get k.tables.program.stmts (slice_index stmts i) ≡ Some found
      → member t x ≡ plus (member s) (those (map (λ d. var_at k d.name) (declared_by found.kind))) x
      → plus (member s) (those (own_vars k (drop i stmts))) x ≡ b → plus (member t) (those (own_vars k (drop (i + 1) stmts))) x ≡ b
  own-step stmts i found s t x b within here is before =
      let at = slice_index stmts i in
      let rest = own_vars k (drop (i + 1) stmts) in
      let own = numbers (declared_by found.kind) in
      let next : plus (member s) (those (own_vars k (at ∷ drop (i + 1) stmts))) x ≡ b = subst (λ (l : List ℕ). plus (member s) (those (own_vars k l)) x ≡ b) (drop_more stmts i 0 within) before in
      let declared : own_vars k (at ∷ drop (i + 1) stmts) ≡ own ++ rest = ap (λ (o : Option Stmt). numbers (declared_if o) ++ rest) here in
      holds-more s t (those own) (those rest) (λ y. b) x is
      (ap (λ c. member s x || c) (sym (those-append own rest x)) ∙ ap (λ (l : List ℕ). member s x || those l x) (sym declared) ∙ next)

  -- all statements of a block
  pub own-done : (stmts : List ℕ) (i : ℕ) (s : VarSet) (x : ℕ) (b : Bool) → length stmts ≤ i → plus (member s) (those (own_vars k (drop i stmts))) x ≡ b → member s x ≡ b
  own-done stmts i s x b end before = holds-all s (λ y. b) x (subst (λ (l : List ℕ). plus (member s) (those (own_vars k l)) x ≡ b) (drop_all i stmts end) before)
