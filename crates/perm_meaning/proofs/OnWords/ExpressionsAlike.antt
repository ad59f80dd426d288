-- What expressions give on words is what they give on names.
use Rattle.std.proofs.Common.{◌≡◌, ℕ, ◌<◌, ◌^◌, Bool, true, false, cond, Option, Some, None, List, ◌⊎◌, inl, inr, refl, sym, ap, ◌∙◌, subst}
use Rattle.std.specs.Prelude.{nat_eq, not, ℤ, pos, slice_get, FitsSigned, int_div, int_rem}
use mir.Syntax.{w64}
use Rattle.perm_tree.specs.declared.ast.UnaryOp.{UnaryOp}
use Rattle.perm_tree.specs.declared.ast.UnaryOp.TheVariants.{Minus as Negative, Not}
use Rattle.perm_tree.specs.declared.ast.BinaryOp.{BinaryOp}
use Rattle.perm_tree.specs.declared.ast.BinaryOp.TheVariants.{Mul, Div, Rem, Plus, Minus, Less, AtMost, Greater, AtLeast, Equal, Differs, And, Or}
use Rattle.perm_tree.specs.declared.errors.TrapKind.TheVariants.{DivideByZero, Overflow}
use Rattle.perm_tree.specs.Code.{Argument, Expression, Consumed, Term, LongLit, BoolLit, NullLit, Local, Unary, Binary}
use Rattle.perm_meaning.specs.Values as values
use Rattle.perm_meaning.specs.Values.{Value, Number, Truth, Null, Reference, Eval, Gives, Traps, Mistyped, int_eq, overflows, divided, bool_eq, on_numbers}
use Rattle.perm_meaning.specs.Words as as_words
use Rattle.perm_meaning.specs.Words.{words, truth_word, number_word, reference_word, number_in, value_word}
use Rattle.perm_meaning.specs.Expressions.{tagged, filled, slot_unary, slot_binary, held, look_up, then_unary, then_binary, unless_decided, left_then_right, eval, value_of}
use Rattle.perm_meaning.specs.Names.{Name}
use Rattle.perm_meaning.specs.NamedHeap.{Held}
use Rattle.perm_meaning.specs.Relate.{OptionR, VarsR}
use Rattle.perm_meaning.specs.Shows.{Bases, IsWordOf}
use Rattle.perm_meaning.specs.Literals.{TermFits, ArgumentFits}
use Rattle.perm_meaning.proofs.OnWords.Related.{vars-at}
use Rattle.perm_meaning.proofs.OnWords.Numbers.{number-back, word-below, in-fits, wrapped-fits, equal-words, quotient-fits, remainder-fits, not-null, not-null-either}

module _ (b : Bases) where
  -- a value is given as its word, or the same trap; of what is mistyped nothing is said. What is given on names is a value
  abbrev pub EvalR : Eval Held → Eval ℕ → Type 0
  EvalR (Gives (Some v)) (Gives w) = IsWordOf b (Some v) w
  EvalR (Gives None) e = ⊥
  EvalR (Traps k) (Traps j) = k ≡ j
  EvalR Mistyped e = Unit {0}
  EvalR _ _ = ⊥

  -- ---------- operators on numbers ----------
  number-given : (z : ℤ) → FitsSigned w64 z → EvalR (Gives (Some (Number z))) (Gives (number_word z))
  number-given z f = (number-back z f, word-below z f)

  truth-is : (s t : Bool) → s ≡ t → EvalR (Gives (Some (Truth s))) (Gives (truth_word t))
  truth-is s t e = ap truth_word (sym e)

  divided-alike : (x y q : ℤ) → (int_eq y (pos 0) ≡ false → overflows x y ≡ false → FitsSigned w64 q) → EvalR (filled (divided x y (Number q))) (value_word (divided x y (Number q)))
  divided-alike x y q f = go (int_eq y (pos 0)) (overflows x y) f
    where
      go : (s t : Bool) → (s ≡ false → t ≡ false → FitsSigned w64 q)
          → EvalR (filled (cond s (Traps DivideByZero) (cond t (Traps Overflow) (Gives (Number q))))) (value_word (cond s (Traps DivideByZero) (cond t (Traps Overflow) (Gives (Number q)))))
      go true t f = refl
      go false true f = refl
      go false false f = number-given q (f refl refl)

  numbers-alike : (op : BinaryOp) (w x : ℕ) → w < 2 ^ 64 → x < 2 ^ 64 → EvalR (filled (on_numbers op (number_in w) (number_in x))) (as_words.binary op w x)
  numbers-alike Mul w x h k = number-given _ (wrapped-fits _)
  numbers-alike Div w x h k = divided-alike (number_in w) (number_in x) (int_div (number_in w) (number_in x)) (λ e o. quotient-fits (number_in w) (number_in x) (in-fits w h) o)
  numbers-alike Rem w x h k = divided-alike (number_in w) (number_in x) (int_rem (number_in w) (number_in x)) (λ e o. remainder-fits (number_in w) (number_in x) (in-fits x k) e)
  numbers-alike Plus w x h k = number-given _ (wrapped-fits _)
  numbers-alike Minus w x h k = number-given _ (wrapped-fits _)
  numbers-alike Less w x h k = refl
  numbers-alike AtMost w x h k = refl
  numbers-alike Greater w x h k = refl
  numbers-alike AtLeast w x h k = refl
  numbers-alike Equal w x h k = truth-is _ _ (equal-words w x h k)
  numbers-alike Differs w x h k = truth-is _ _ (ap (λ t. not t) (equal-words w x h k))
  numbers-alike And w x h k = tt
  numbers-alike Or w x h k = tt

  truths-alike : (op : BinaryOp) (s t : Bool) → EvalR (filled (values.on_truths op s t)) (as_words.binary op (truth_word s) (truth_word t))
  truths-alike Equal true true = refl
  truths-alike Equal true false = refl
  truths-alike Equal false true = refl
  truths-alike Equal false false = refl
  truths-alike Differs true true = refl
  truths-alike Differs true false = refl
  truths-alike Differs false true = refl
  truths-alike Differs false false = refl
  truths-alike And s t = refl
  truths-alike Or s t = refl
  truths-alike op s t = tt

  -- a test against null, on two words of which the test says so
  null-alike : (op : BinaryOp) (is : Bool) (w x : ℕ) → nat_eq w x ≡ is → EvalR (filled (values.on_null_test op is)) (as_words.binary op w x)
  null-alike Equal is w x e = truth-is is (nat_eq w x) (sym e)
  null-alike Differs is w x e = truth-is (not is) (not (nat_eq w x)) (ap (λ t. not t) (sym e))
  null-alike op is w x e = tt

  binary-alike : (op : BinaryOp) (v v' : Value Name) (w w' : ℕ) → IsWordOf b (Some v) w → IsWordOf b (Some v') w' → EvalR (slot_binary op (Some v) (Some v')) (as_words.binary op w w')
  binary-alike op (Number n) (Number m) w w' h k =
      subst (λ z. EvalR (filled (on_numbers op z m)) (as_words.binary op w w')) (sym h.0) (subst (λ z. EvalR (filled (on_numbers op (number_in w) z)) (as_words.binary op w w')) (sym k.0) (numbers-alike op w w' h.1 k.1))
  binary-alike op (Truth s) (Truth t) w w' h k =
      subst (λ z. EvalR (filled (values.on_truths op s t)) (as_words.binary op z w')) (sym h) (subst (λ z. EvalR (filled (values.on_truths op s t)) (as_words.binary op (truth_word s) z)) (sym k) (truths-alike op s t))
  binary-alike op Null Null w w' h k = null-alike op true w w' (ap (λ z. nat_eq z w') h ∙ ap (nat_eq 0) k)
  binary-alike op (Reference r n) Null w w' h k = null-alike op false w w' (ap (λ z. nat_eq z w') h.4 ∙ ap (nat_eq (reference_word h.0 n)) k ∙ not-null h.0 n)
  binary-alike op Null (Reference r n) w w' h k = null-alike op false w w' (ap (λ z. nat_eq z w') h ∙ ap (nat_eq 0) k.4 ∙ not-null-either k.0 n)
  binary-alike op v v' w w' h k = tt

  unary-alike : (op : UnaryOp) (v : Value Name) (w : ℕ) → IsWordOf b (Some v) w → EvalR (slot_unary op (Some v)) (as_words.unary op w)
  unary-alike Negative (Number n) w h = subst (λ z. EvalR (Gives (Some (Number (values.negative z)))) (Gives (number_word (values.negative (number_in w))))) (sym h.0) (number-given _ (wrapped-fits _))
  unary-alike Not (Truth true) w h = ap (λ z. truth_word (nat_eq z 0)) h
  unary-alike Not (Truth false) w h = ap (λ z. truth_word (nat_eq z 0)) h
  unary-alike Negative v w h = tt
  unary-alike Not v w h = tt

  -- ---------- what decides ----------
  decided-alike : (op : BinaryOp) (v : Value Name) (w : ℕ) → IsWordOf b (Some v) w → (values.decided op v ≡ None) ⊎ (values.decided op v ≡ as_words.decided op w)
  decided-alike And (Truth true) w h = inr (ap (λ z. Some (nat_eq z 0)) (sym h))
  decided-alike And (Truth false) w h = inr (ap (λ z. Some (nat_eq z 0)) (sym h))
  decided-alike And (Number n) w h = inl refl
  decided-alike And Null w h = inl refl
  decided-alike And (Reference r n) w h = inl refl
  decided-alike Or (Truth true) w h = inr (ap (λ z. Some (not (nat_eq z 0))) (sym h))
  decided-alike Or (Truth false) w h = inr (ap (λ z. Some (not (nat_eq z 0))) (sym h))
  decided-alike Or (Number n) w h = inl refl
  decided-alike Or Null w h = inl refl
  decided-alike Or (Reference r n) w h = inl refl
  decided-alike op v w h = inr refl

  unless-alike : (p q : Option Bool) (l r : Eval Held) (l' r' : Eval ℕ) → (p ≡ None) ⊎ (p ≡ q) → EvalR l l' → EvalR r r' → EvalR (unless_decided tagged p l r) (unless_decided words q l' r')
  unless-alike None q l r l' r' e h k = tt
  unless-alike (Some true) (Some true) l r l' r' e h k = h
  unless-alike (Some false) (Some false) l r l' r' e h k = k
  unless-alike (Some true) (Some false) l r l' r' (inl e) h k = absurd (cc)
  unless-alike (Some true) (Some false) l r l' r' (inr e) h k = absurd (cc)
  unless-alike (Some false) (Some true) l r l' r' (inl e) h k = absurd (cc)
  unless-alike (Some false) (Some true) l r l' r' (inr e) h k = absurd (cc)
  unless-alike (Some t) None l r l' r' (inl e) h k = absurd (cc)
  unless-alike (Some t) None l r l' r' (inr e) h k = absurd (cc)

  then-alike : (op : BinaryOp) (v : Value Name) (w : ℕ) (e : Eval Held) (f : Eval ℕ) → IsWordOf b (Some v) w → EvalR e f → EvalR (then_binary tagged op (Some v) e) (then_binary words op w f)
  then-alike op v w (Gives (Some x)) (Gives y) h k = binary-alike op v x w y h k
  then-alike op v w (Gives (Some x)) (Traps j) h k = absurd k
  then-alike op v w (Gives (Some x)) Mistyped h k = absurd k
  then-alike op v w (Gives None) f h k = absurd k
  then-alike op v w (Traps t) (Traps j) h k = k
  then-alike op v w (Traps t) (Gives y) h k = absurd k
  then-alike op v w (Traps t) Mistyped h k = absurd k
  then-alike op v w Mistyped f h k = tt

  sides-alike : (op : BinaryOp) (l r : Eval Held) (l' r' : Eval ℕ) → EvalR l l' → EvalR r r' → EvalR (left_then_right tagged op l r) (left_then_right words op l' r')
  sides-alike op (Gives (Some v)) r (Gives w) r' h k =
      unless-alike (values.decided op v) (as_words.decided op w) (Gives (Some v)) (then_binary tagged op (Some v) r) (Gives w) (then_binary words op w r') (decided-alike op v w h) h (then-alike op v w r r' h k)
  sides-alike op (Gives (Some v)) r (Traps j) r' h k = absurd h
  sides-alike op (Gives (Some v)) r Mistyped r' h k = absurd h
  sides-alike op (Gives None) r l' r' h k = absurd h
  sides-alike op (Traps t) r (Traps j) r' h k = h
  sides-alike op (Traps t) r (Gives w) r' h k = absurd h
  sides-alike op (Traps t) r Mistyped r' h k = absurd h
  sides-alike op Mistyped r l' r' h k = tt

  operand-alike : (op : UnaryOp) (e : Eval Held) (f : Eval ℕ) → EvalR e f → EvalR (then_unary tagged op e) (then_unary words op f)
  operand-alike op (Gives (Some v)) (Gives w) h = unary-alike op v w h
  operand-alike op (Gives (Some v)) (Traps j) h = absurd h
  operand-alike op (Gives (Some v)) Mistyped h = absurd h
  operand-alike op (Gives None) f h = absurd h
  operand-alike op (Traps t) (Traps j) h = h
  operand-alike op (Traps t) (Gives w) h = absurd h
  operand-alike op (Traps t) Mistyped h = absurd h
  operand-alike op Mistyped f h = tt

  -- ---------- variables and expressions ----------
  held-alike : (v : Option Held) (w : Option ℕ) → OptionR (IsWordOf b) v w → EvalR (held tagged v) (held words w)
  held-alike None w h = tt
  held-alike (Some None) (Some w) h = tt
  held-alike (Some (Some v)) (Some w) h = h
  held-alike (Some None) None h = absurd h
  held-alike (Some (Some v)) None h = absurd h

  -- the value of a variable
  pub look_up-alike : (vs : List Held) (ws : List ℕ) (x : ℕ) → VarsR (IsWordOf b) vs ws → EvalR (look_up tagged vs x) (look_up words ws x)
  look_up-alike vs ws x h = held-alike (slice_get vs x) (slice_get ws x) (vars-at (IsWordOf b) vs ws x h)

  -- what an expression gives
  pub eval-alike : (e : Term) (vs : List Held) (ws : List ℕ) → TermFits e → VarsR (IsWordOf b) vs ws → EvalR (eval tagged e vs) (eval words e ws)
  eval-alike (LongLit n) vs ws f h = number-given n f
  eval-alike (BoolLit t) vs ws f h = refl
  eval-alike NullLit vs ws f h = refl
  eval-alike (Local x) vs ws f h = look_up-alike vs ws x h
  eval-alike (Unary op a) vs ws f h = operand-alike op (eval tagged a vs) (eval words a ws) (eval-alike a vs ws f h)
  eval-alike (Binary op a c) vs ws f h = sides-alike op (eval tagged a vs) (eval tagged c vs) (eval words a ws) (eval words c ws) (eval-alike a vs ws f.0 h) (eval-alike c vs ws f.1 h)

  -- the value of an argument that nothing comes after
  pub value-alike : (a : Argument) (vs : List Held) (ws : List ℕ) → ArgumentFits a → VarsR (IsWordOf b) vs ws → EvalR (value_of tagged a vs) (value_of words a ws)
  value-alike (Expression e) vs ws f h = eval-alike e vs ws f h
  value-alike (Consumed y) vs ws f h = look_up-alike vs ws y h
