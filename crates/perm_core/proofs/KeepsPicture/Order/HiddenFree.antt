-- Code that goes on mentions nothing that is hidden where it stands.
use Rattle.std.proofs.Common.{◌≡◌, ℕ, Bool, true, false, Option, Some, None, List, [], ◌∷◌, refl, sym, ap, ◌∙◌, inl, inr}
use Rattle.std.specs.Prelude.{◌⊎◌, ◌||◌, nat_eq}
use Rattle.std.specs.List.{list_any}
use Rattle.std.proofs.lemmas.Bool.{or_cases, or_parts}
use Rattle.perm_tree.specs.declared.errors.TypeKind.TheVariants.{Hidden}
use Rattle.perm_tree.specs.Code.{Term, LongLit, BoolLit, NullLit, Local, Unary, Binary, Argument, Expression, Consumed, Instruction, Declare, Assign, LoadField, LoadLength, LoadItem, TakeField, NewObject, NewArray, StoreField, StoreItem, Invoke, Print, Code, End, Give, Return, Do, If, While, Par, Recover}
use Rattle.perm_tree.specs.Mentions.{any_in_term, any_in_argument, any_in_option, any_in_instruction, term_mentions, argument_mentions, mentions}
use Rattle.perm_tree.specs.Vars.{Vars, those}
use Rattle.perm_rules.specs.Parts.{Context, Simple, Condition, Given, Returned}
use Rattle.perm_rules.specs.Goes.{Goes, hiding}
use Rattle.perm_rules.proofs.PartLaws.{applies-none}
use Rattle.perm_meaning.proofs.SameName.{eq-true}
use Rattle.perm_core.proofs.KeepsPicture.Calls.CallEnds.{any-right}
use Rattle.perm_core.proofs.KeepsPicture.Order.FewerLive.{IsFree}

-- where no variable passes a test, none that stands there does
module _ (t : Vars) (y : ℕ) where
  split : (a b c d : Bool) → (a ≡ false → c ≡ true → t y ≡ false) → (b ≡ false → d ≡ true → t y ≡ false) → a || b ≡ false → c || d ≡ true → t y ≡ false
  split a b c d f g e m = go (or_cases c d m)
    where
      go : (c ≡ true) ⊎ (d ≡ true) → t y ≡ false
      go (inl q) = f (or_parts a b e).0 q
      go (inr q) = g (or_parts a b e).1 q

  pub just-none : (x : ℕ) → t x ≡ false → nat_eq y x ≡ true → t y ≡ false
  just-none x e m = ap t (eq-true y x m) ∙ e

  term-none : (e : Term) → any_in_term t e ≡ false → term_mentions e y ≡ true → t y ≡ false
  term-none (LongLit n) e m = absurd (let f : false ≡ true = m in cc)
  term-none (BoolLit b) e m = absurd (let f : false ≡ true = m in cc)
  term-none NullLit e m = absurd (let f : false ≡ true = m in cc)
  term-none (Local x) e m = just-none x e m
  term-none (Unary op a) e m = term-none a e m
  term-none (Binary op a b) e m = split (any_in_term t a) (any_in_term t b) (term_mentions a y) (term_mentions b y) (term-none a) (term-none b) e m

  argument-none : (r : Argument) → any_in_argument t r ≡ false → argument_mentions r y ≡ true → t y ≡ false
  argument-none (Expression e) n m = term-none e n m
  argument-none (Consumed x) n m = just-none x n m

  arguments-none : (rs : List Argument) → list_any (any_in_argument t) rs ≡ false → list_any (any_in_argument (nat_eq y)) rs ≡ true → t y ≡ false
  arguments-none [] n m = absurd (let f : false ≡ true = m in cc)
  arguments-none (r ∷ rs) n m = split (any_in_argument t r) (list_any (any_in_argument t) rs) (argument_mentions r y) (list_any (any_in_argument (nat_eq y)) rs) (argument-none r) (arguments-none rs) n m

  option-none : (o : Option ℕ) → any_in_option t o ≡ false → any_in_option (nat_eq y) o ≡ true → t y ≡ false
  option-none None n m = absurd (let f : false ≡ true = m in cc)
  option-none (Some x) n m = just-none x n m

  pub instruction-none : (i : Instruction) → any_in_instruction t i ≡ false → mentions i y ≡ true → t y ≡ false
  instruction-none (Declare x) n m = just-none x n m
  instruction-none (Assign x r) n m = split (t x) (any_in_argument t r) (nat_eq y x) (argument_mentions r y) (just-none x) (argument-none r) n m
  instruction-none (LoadField x z f) n m = split (t x) (t z) (nat_eq y x) (nat_eq y z) (just-none x) (just-none z) n m
  instruction-none (LoadLength x z) n m = split (t x) (t z) (nat_eq y x) (nat_eq y z) (just-none x) (just-none z) n m
  instruction-none (LoadItem x z j) n m =
      split (t x) (t z || any_in_term t j) (nat_eq y x) (nat_eq y z || term_mentions j y) (just-none x) (λ p q. split (t z) (any_in_term t j) (nat_eq y z) (term_mentions j y) (just-none z) (term-none j) p q) n m
  instruction-none (TakeField x z f) n m = split (t x) (t z) (nat_eq y x) (nat_eq y z) (just-none x) (just-none z) n m
  instruction-none (NewObject x k) n m = just-none x n m
  instruction-none (NewArray x a) n m = split (t x) (any_in_term t a) (nat_eq y x) (term_mentions a y) (just-none x) (term-none a) n m
  instruction-none (StoreField z f r) n m = split (t z) (any_in_argument t r) (nat_eq y z) (argument_mentions r y) (just-none z) (argument-none r) n m
  instruction-none (StoreItem z j a) n m =
      split (t z) (any_in_term t j || any_in_term t a) (nat_eq y z) (term_mentions j y || term_mentions a y) (just-none z) (λ p q. split (any_in_term t j) (any_in_term t a) (term_mentions j y) (term_mentions a y) (term-none j) (term-none a) p q) n m
  instruction-none (Invoke into tie consumed z k rs) n m =
      split (any_in_option t into) (t z || list_any (any_in_argument t) rs) (any_in_option (nat_eq y) into) (nat_eq y z || list_any (any_in_argument (nat_eq y)) rs) (option-none into)
      (λ p q. split (t z) (list_any (any_in_argument t) rs) (nat_eq y z) (list_any (any_in_argument (nat_eq y)) rs) (just-none z) (arguments-none rs) p q) n m
  instruction-none (Print e) n m = term-none e n m

-- of what is hidden nothing stands in the code
module _ (D : Vars) where
  abbrev pub AllHidden : Context → Type 0
  AllHidden c = (y : ℕ) → D y ≡ true → those c.hidden y ≡ true

  pub out : (c : Context) (y : ℕ) → AllHidden c → those c.hidden y ≡ false → D y ≡ false
  out c y all e = go (D y) refl
    where
      go : (b : Bool) → D y ≡ b → D y ≡ false
      go false q = q
      go true q = absurd (let f : true ≡ false = sym (all y q) ∙ e in cc)

  deeper : (c : Context) (hides : List ℕ) → AllHidden c → AllHidden (hiding hides c)
  deeper c hides all y e = any-right y hides c.hidden (all y e)

  pub hidden-free : (c : Context) (a : Code) (G H : Vars) → AllHidden c → Goes c a G H → IsFree D a
  hidden-free c End G H all goes = tt
  hidden-free c (Give at w x) G H all goes = out c w all (applies-none c (Given w x) G goes.0 Hidden)
  hidden-free c (Return at r) G H all goes = λ y m. out c y all (argument-none (those c.hidden) y r (applies-none c (Returned r) G goes.0 Hidden) m)
  hidden-free c (Do at i rest) G H all goes = (λ y m. out c y all (instruction-none (those c.hidden) y i (applies-none c (Simple i) G goes.0 Hidden) m), hidden-free c rest _ H all goes.1)
  hidden-free c (If at e own1 a own2 b rest) G H all goes =
      (λ y m. out c y all (term-none (those c.hidden) y e (applies-none c (Condition e) G goes.0 Hidden) m), (hidden-free c a G goes.1.left_ends all goes.1.left, (hidden-free c b G goes.1.right_ends all goes.1.right, hidden-free c rest _ H all goes.1.rest)))
  hidden-free c (While at e own body rest) G H all goes =
      (λ y m. out c y all (term-none (those c.hidden) y e (applies-none c (Condition e) goes.0 goes.1.holds.tested Hidden) m), (hidden-free c body goes.0 goes.1.holds.ends all goes.1.holds.body, hidden-free c rest goes.0 H all goes.2))
  hidden-free c (Par at own1 a own2 b rest) G H all goes = (hidden-free c a G goes.1.left_ends all goes.1.left, (hidden-free c b G goes.1.right_ends all goes.1.right, hidden-free c rest _ H all goes.1.rest))
  hidden-free c (Recover at x own hides body rest) G H all goes = (hidden-free (hiding hides c) body G goes.1.ends (deeper c hides all) goes.1.body, hidden-free c rest _ H all goes.1.rest)
