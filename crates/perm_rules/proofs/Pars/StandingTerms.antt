-- The variables that stand in expressions, arguments and calls have scopes that meet the stretch of their marks.
use Rattle.std.proofs.Common.{◌≡◌, ℕ, zero, suc, ◌≤◌, true, List, [], ◌∷◌, ◌++◌, sym, subst, arith, inl, inr}
use Rattle.std.specs.Prelude.{◌⊎◌, nat_eq, map, get_or}
use Rattle.std.specs.List.{list_any}
use Rattle.std.proofs.lemmas.Bool.{eqb-true, or_cases}
use Rattle.perm_tree.specs.declared.ast.Arg.{Arg}
use Rattle.perm_tree.specs.declared.ast.Arg.TheVariants.{Expr as Plain, Consume}
use Rattle.perm_tree.specs.declared.ast.Call.{Call}
use Rattle.perm_tree.specs.declared.ast.Expr.{Expr}
use Rattle.perm_tree.specs.declared.ast.Expr.TheVariants.{Number, Bool as Truth, Null, Var, Unary, Binary}
use Rattle.perm_tree.specs.declared.ast.Ident.{Ident}
use Rattle.perm_tree.specs.declared.unit.VarInfo.{VarInfo}
use Rattle.perm_tree.specs.Code.{Term, NullLit, Argument}
use Rattle.perm_tree.specs.CodeNames.{Setting, term_of, term_at, var_at, argument}
use Rattle.perm_tree.specs.Entries.{entries_from}
use Rattle.perm_tree.specs.Lookup.{var_place}
use Rattle.perm_tree.specs.Mentions.{any_in_argument, term_mentions, argument_mentions}
use Rattle.perm_tree.specs.TextOrder.{Mark, names, IsRising, Marks, expr_marks, marks_at, arg_marks, args_marks, call_marks}
use Rattle.perm_tree.specs.Vars.{Vars, none, just, plus, IsWithin}
use Rattle.perm_tree.proofs.Passing.{past-name}
use Rattle.perm_rules.proofs.Pars.Scoped.{Meets, meets-more, named-meets}

-- ---------- what stands in front of marks ----------
-- up to a place, from which the marks rise, stand the variables of a set
abbrev pub Stands : List VarInfo → ℕ → List Mark → Vars → Type 0
Stands vars lo rest G = (hi : ℕ) × (lo ≤ hi) × IsRising hi rest × ((x : ℕ) → G x ≡ true → Meets vars lo hi x)

module _ (vars : List VarInfo) where
  pub stands-none : (lo : ℕ) (rest : List Mark) → IsRising lo rest → Stands vars lo rest none
  stands-none lo rest rise = (lo, omega arith, rise, λ x e. absurd (let no : ⊥ = cc e in no))

  pub stands-name : (lo : ℕ) (i : Ident) (rest : List Mark) → IsRising lo (names i ∷ rest) → Stands vars lo rest (just (var_place vars i))
  stands-name lo i rest rise =
      let low : lo ≤ i.span.start = rise.0 in (
        suc i.span.start,
        omega arith,
        rise.1,
        λ x e. subst (Meets vars lo (suc i.span.start)) (sym (eqb-true x (var_place vars i) e)) (named-meets vars lo (suc i.span.start) i low (omega arith)),
      )

  pub stands-less : (lo : ℕ) (rest : List Mark) (G H : Vars) → IsWithin H G → Stands vars lo rest G → Stands vars lo rest H
  stands-less lo rest G H less (hi, room, rise, meets) = (hi, room, rise, λ x e. meets x (less x e))

  -- from an earlier place
  pub stands-from : (lo from : ℕ) (rest : List Mark) (G : Vars) → lo ≤ from → Stands vars from rest G → Stands vars lo rest G
  stands-from lo from rest G low (hi, room, rise, meets) = (hi, omega arith, rise, λ x e. meets-more vars from hi lo hi x low (omega arith) (meets x e))

  -- a variable that stands in front
  pub stands-also : (lo from : ℕ) (x : ℕ) (rest : List Mark) (G : Vars) → lo ≤ from → Meets vars lo from x → Stands vars from rest G → Stands vars lo rest (plus (just x) G)
  stands-also lo from x rest G low meets (hi, room, rise, standing) = (hi, omega arith, rise, λ y e. pick y (or_cases (just x y) (G y) e))
    where
      pick : (y : ℕ) → (just x y ≡ true) ⊎ (G y ≡ true) → Meets vars lo hi y
      pick y (inl e) = subst (Meets vars lo hi) (sym (eqb-true y x e)) (meets-more vars lo from lo hi x (omega arith) room meets)
      pick y (inr g) = meets-more vars from hi lo hi y low (omega arith) (standing y g)

  -- behind a name that is no variable
  pub stands-past : (lo : ℕ) (f : Ident) (rest : List Mark) (G : Vars) → Stands vars lo (names f ∷ rest) G → Stands vars lo rest G
  stands-past lo f rest G (hi, room, rise, standing) = (hi, room, past-name f hi rest rise, standing)

  -- one part, and behind it another one
  pub stands-then : (lo : ℕ) (on rest : List Mark) (G H : Vars) → Stands vars lo on G → ((mid : ℕ) → lo ≤ mid → IsRising mid on → Stands vars mid rest H) → Stands vars lo rest (plus G H)
  stands-then lo on rest G H (mid, room, rise, meets) later = both (later mid room rise)
    where
      both : Stands vars mid rest H → Stands vars lo rest (plus G H)
      both (hi, more, end, behind) = (hi, omega arith, end, λ x e. pick x (or_cases (G x) (H x) e))
        where
          pick : (x : ℕ) → (G x ≡ true) ⊎ (H x ≡ true) → Meets vars lo hi x
          pick x (inl g) = meets-more vars lo mid lo hi x (omega arith) more (meets x g)
          pick x (inr h) = meets-more vars mid hi lo hi x room (omega arith) (behind x h)

  -- ---------- expressions ----------
  -- what stands in an expression stands before what is behind its marks
  abbrev pub TermStands : Marks → Term → Type 0
  TermStands m t = (lo : ℕ) (rest : List Mark) → IsRising lo (m rest) → Stands vars lo rest (term_mentions t)

  abbrev pub AllTermsStand : List Marks → List Term → Type 0
  AllTermsStand [] [] = Unit {0}
  AllTermsStand [] (t ∷ ts) = ⊥
  AllTermsStand (m ∷ ms) [] = ⊥
  AllTermsStand (m ∷ ms) (t ∷ ts) = TermStands m t × AllTermsStand ms ts

  term-at : (ms : List Marks) (ts : List Term) (e : ℕ) → AllTermsStand ms ts → TermStands (marks_at ms e) (get_or ts e NullLit)
  term-at [] [] e all lo rest rise = stands-none lo rest rise
  term-at [] (t ∷ ts) e all lo rest rise = absurd all
  term-at (m ∷ ms) [] e all lo rest rise = absurd all
  term-at (m ∷ ms) (t ∷ ts) zero all lo rest rise = all.0 lo rest rise
  term-at (m ∷ ms) (t ∷ ts) (suc e) all lo rest rise = term-at ms ts e all.1 lo rest rise

  terms-append : (ms : List Marks) (ts : List Term) (m : Marks) (t : Term) → AllTermsStand ms ts → TermStands m t → AllTermsStand (ms ++ m ∷ []) (ts ++ t ∷ [])
  terms-append [] [] m t all more = (more, tt)
  terms-append [] (u ∷ ts) m t all more = absurd all
  terms-append (n ∷ ms) [] m t all more = absurd all
  terms-append (n ∷ ms) (u ∷ ts) m t all more = (all.0, terms-append ms ts m t all.1 more)

  expr-stands : (before : List Marks) (ts : List Term) (e : Expr) → AllTermsStand before ts → TermStands (expr_marks before e) (term_of vars ts e)
  expr-stands before ts (Number n) all lo rest rise = stands-none lo rest rise
  expr-stands before ts (Truth b) all lo rest rise = stands-none lo rest rise
  expr-stands before ts Null all lo rest rise = stands-none lo rest rise
  expr-stands before ts (Var i) all lo rest rise = stands-name lo i rest rise
  expr-stands before ts (Unary op a) all lo rest rise = term-at before ts a all lo rest rise
  expr-stands before ts (Binary op a b) all lo rest rise =
      stands-then lo (marks_at before b rest) rest (term_mentions (get_or ts a NullLit)) (term_mentions (get_or ts b NullLit)) (term-at before ts a all lo (marks_at before b rest) rise)
      (λ mid room on. term-at before ts b all mid rest on)

  pub exprs-stand : (before : List Marks) (ts : List Term) (es : List Expr) → AllTermsStand before ts → AllTermsStand (entries_from expr_marks before es) (entries_from (term_of vars) ts es)
  exprs-stand before ts [] all = all
  exprs-stand before ts (e ∷ es) all =
      exprs-stand (before ++ expr_marks before e ∷ []) (ts ++ term_of vars ts e ∷ []) es (terms-append before ts (expr_marks before e) (term_of vars ts e) all (expr-stands before ts e all))

-- ---------- arguments and calls ----------
module _ (k : Setting) (exprs : List Marks) (all : AllTermsStand k.vars exprs k.terms) where
  pub expr-at : (e lo : ℕ) (rest : List Mark) → IsRising lo (marks_at exprs e rest) → Stands k.vars lo rest (term_mentions (term_at k e))
  expr-at e lo rest rise = term-at k.vars exprs k.terms e all lo rest rise

  pub arg-stands : (a : Arg) (lo : ℕ) (rest : List Mark) → IsRising lo (arg_marks exprs a rest) → Stands k.vars lo rest (argument_mentions (argument k a))
  arg-stands (Plain e) lo rest rise = expr-at e lo rest rise
  arg-stands (Consume y) lo rest rise = stands-name k.vars lo y rest rise

  -- the variables that stand in some arguments
  abbrev pub args_mention : List Argument → Vars
  args_mention list x = list_any (any_in_argument (nat_eq x)) list

  args-stand : (list : List Arg) (lo : ℕ) (rest : List Mark) → IsRising lo (args_marks exprs list rest) → Stands k.vars lo rest (args_mention (map (argument k) list))
  args-stand [] lo rest rise = stands-none k.vars lo rest rise
  args-stand (a ∷ list) lo rest rise =
      stands-then k.vars lo (args_marks exprs list rest) rest (argument_mentions (argument k a)) (args_mention (map (argument k) list)) (arg-stands a lo (args_marks exprs list rest) rise)
      (λ mid room on. args-stand list mid rest on)

  pub call-stands : (c : Call) (lo : ℕ) (rest : List Mark) → IsRising lo (call_marks exprs c rest) → Stands k.vars lo rest (plus (just (var_at k c.on)) (args_mention (map (argument k) c.args)))
  call-stands c lo rest rise =
      let args = args_marks exprs c.args rest in
      stands-then k.vars lo (names c.«method» ∷ args) rest (just (var_at k c.on)) (args_mention (map (argument k) c.args)) (stands-name k.vars lo c.on (names c.«method» ∷ args) rise)
      (λ mid room on. let low : mid ≤ c.«method».span.start = on.0 in stands-from k.vars mid (suc c.«method».span.start) rest (args_mention (map (argument k) c.args)) (omega arith) (args-stand c.args (suc c.«method».span.start) rest on.1))
