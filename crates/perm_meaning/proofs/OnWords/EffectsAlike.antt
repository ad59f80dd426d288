-- What simple statements ask of the heap and do on words is what they ask and do on names.
use Rattle.std.proofs.Common.{◌≡◌, ℕ, zero, suc, ◌+◌, ◌-◌, ◌<◌, ◌^◌, Bool, true, false, cond, Option, Some, None, List, [], ◌∷◌, ◌++◌, length, refl, sym, ap, ◌∙◌, subst, arith}
use Rattle.std.specs.Prelude.{nat_eq, nat_lt, ℤ, pos, negsuc, slice_get, replicate, map, FitsSigned}
use mir.Syntax.{w64}
use Rattle.perm_tree.specs.declared.ast.Shape.{Shape}
use Rattle.perm_tree.specs.declared.ast.Shape.TheVariants.{Class, Array}
use Rattle.perm_tree.specs.declared.ast.Ty.{Ty}
use Rattle.perm_tree.specs.declared.errors.TrapKind.{TrapKind}
use Rattle.perm_tree.specs.declared.errors.TrapKind.TheVariants.{NullReference, IndexOutOfRange, Overflow, StackOverflow}
use Rattle.perm_tree.specs.Code.{Argument, Expression, Consumed, Instruction, Declare, Assign, LoadField, LoadLength, LoadItem, TakeField, NewObject, NewArray, StoreField, StoreItem, Invoke, Print, Routine, UnitCode}
use Rattle.perm_meaning.specs.Values.{Value, Number, Truth, Null, Reference, Eval, Gives, Traps, Mistyped}
use Rattle.perm_meaning.specs.Words.{words, number_word, reference_in}
use Rattle.perm_meaning.specs.Expressions.{tagged, slot_reference, cleared_slot, clear, clear_all, look_up, eval}
use Rattle.perm_meaning.specs.Names.{Name, Mark}
use Rattle.perm_meaning.specs.Objects.{zero_of, types_or_none, first_values}
use Rattle.perm_meaning.specs.Effects.{Load, Store, Take, Calling, Act, GoesOn, Calls, Halts, Resumption, Does, Sticks, depth_limit, choose, first_vars, ticks, halts, with_vars, on_value, if_number, on_number, on_referred, on_object, on_argument, on_arguments, on_index, on_length, on_class, on_call, on_routine, below_limit, into_var, makes, effect}
use Rattle.perm_meaning.specs.NamedHeap as named
use Rattle.perm_meaning.specs.NamedHeap.{Held, marks}
use Rattle.perm_meaning.specs.WordHeap as worded
use Rattle.perm_meaning.specs.WordHeap.{NoMark, no_marks}
use Rattle.perm_meaning.specs.Relate.{VarsR, OwnR}
use Rattle.perm_meaning.specs.Shows.{Bases, Grows, IsWordOf, AnyMark}
use Rattle.perm_meaning.specs.Literals.{ArgumentFits, ArgumentsFit, InstructionFits}
use Rattle.perm_meaning.proofs.OnWords.Related.{vars-append, vars-repeat, vars-length, vars-set, vars-up, own-up}
use Rattle.perm_meaning.proofs.OnWords.Heaps.{word-grows}
use Rattle.perm_meaning.proofs.OnWords.NewObjects.{Asks}
use Rattle.perm_meaning.proofs.OnWords.Numbers.{number-back, word-below, decoded}
use Rattle.perm_meaning.proofs.OnWords.ExpressionsAlike.{EvalR, look_up-alike, eval-alike}

-- ---------- variables ----------
module _ (b : Bases) where
  abbrev pub Vars : List Held → List ℕ → Type 0
  Vars vs ws = VarsR (IsWordOf b) vs ws

  abbrev pub Owns : named.Own → worded.Own → Type 0
  Owns l m = OwnR (IsWordOf b) AnyMark l m

  cleared-alike : (v : Option Held) (w : Option ℕ) → IsWordOf b (cleared_slot tagged v) (cleared_slot words w)
  cleared-alike None w = tt
  cleared-alike (Some v) w = tt

  -- a variable loses its value
  pub clear-alike : (vs : List Held) (ws : List ℕ) (x : ℕ) → Vars vs ws → Vars (clear tagged vs x) (clear words ws x)
  clear-alike vs ws x h = vars-set (IsWordOf b) vs ws x (cleared_slot tagged (slice_get vs x)) (cleared_slot words (slice_get ws x)) h (cleared-alike (slice_get vs x) (slice_get ws x))

  -- all of these do
  pub clear_all-alike : (vs : List Held) (ws : List ℕ) (xs : List ℕ) → Vars vs ws → Vars (clear_all tagged vs xs) (clear_all words ws xs)
  clear_all-alike vs ws [] h = h
  clear_all-alike vs ws (x ∷ xs) h = clear_all-alike (clear tagged vs x) (clear words ws x) xs (clear-alike vs ws x h)

-- what turns may change, with more bases
pub owns-grow : (b c : Bases) → Grows b c → (l : named.Own) (m : worded.Own) → Owns b l m → Owns c l m
owns-grow b c g l m h = own-up (IsWordOf b) (IsWordOf c) (word-grows b c g) AnyMark AnyMark (λ k j q. tt) l m h

-- variables, with more bases
pub vars-grow : (b c : Bases) → Grows b c → (vs : List Held) (ws : List ℕ) → Vars b vs ws → Vars c vs ws
vars-grow b c g vs ws h = vars-up (IsWordOf b) (IsWordOf c) (word-grows b c g) vs ws h

-- other variables
pub with-alike : (b : Bases) (l : named.Own) (m : worded.Own) (vs : List Held) (ws : List ℕ) → Owns b l m → Vars b vs ws → Owns b (with_vars tagged l vs) (with_vars words m ws)
with-alike b l m vs ws h q = record { vars = q; routine = h.routine; depth = h.depth; printed = h.printed; mark = h.mark }

module _ (u : UnitCode) where
  -- ---------- what is related ----------
  -- calls that begin alike
  pub record CallingR (b : Bases) (p : Calling Held) (q : Calling ℕ) : Type 0 where
    pub routine : p.routine ≡ q.routine
    pub code : p.code ≡ q.code
    pub first : Vars b p.first q.first
    pub tie : p.tie ≡ q.tie
    pub receiver : IsWordOf b p.receiver q.receiver
    pub y : p.y ≡ q.y
    pub into : p.into ≡ q.into

  -- acts
  abbrev pub ActR : Bases → Act Held Mark → Act ℕ NoMark → Type 0
  ActR b (GoesOn l) (GoesOn m) = Owns b l m
  ActR b (Calls x l) (Calls y m) = CallingR b x y × Owns b l m
  ActR b (Halts k) (Halts j) = k ≡ j
  ActR b _ _ = ⊥

  -- effects
  abbrev pub EffectR : Bases → Resumption Held Name Mark → Resumption ℕ ℕ NoMark → Type 0
  EffectR b Sticks e = Unit {0}
  EffectR b (Does o told) Sticks = ⊥
  EffectR b (Does o told) (Does p said) = Asks u b o p × ((c : Bases) → Grows b c → (v : Held) (w : ℕ) → IsWordOf c v w → ActR c (told v) (said w))

  -- ---------- ways out ----------
  halts-alike : (b : Bases) (k j : TrapKind) → k ≡ j → EffectR b (halts tagged k) (halts words j)
  halts-alike b k j e = ((tt, tt), λ c g v w r. e)

  goes-alike : (b : Bases) (l : named.Own) (m : worded.Own) → Owns b l m → EffectR b (ticks tagged (GoesOn l)) (ticks words (GoesOn m))
  goes-alike b l m h = ((tt, tt), λ c g v w r. owns-grow b c g l m h)

  value-to : (b : Bases) (e : Eval Held) (f : Eval ℕ) (go : Held → Resumption Held Name Mark) (go' : ℕ → Resumption ℕ ℕ NoMark) → EvalR b e f → ((v : Value Name) (w : ℕ) → IsWordOf b (Some v) w → EffectR b (go (Some v)) (go' w))
      → EffectR b (on_value tagged e go) (on_value words f go')
  value-to b (Gives (Some v)) (Gives w) go go' h k = k v w h
  value-to b (Gives (Some v)) (Traps j) go go' h k = absurd h
  value-to b (Gives (Some v)) Mistyped go go' h k = absurd h
  value-to b (Gives None) f go go' h k = absurd h
  value-to b (Traps t) (Traps j) go go' h k = halts-alike b t j h
  value-to b (Traps t) (Gives w) go go' h k = absurd h
  value-to b (Traps t) Mistyped go go' h k = absurd h
  value-to b Mistyped f go go' h k = tt

  if-to : (b : Bases) (v : Value Name) (w : ℕ) (go : ℤ → Resumption Held Name Mark) (go' : ℤ → Resumption ℕ ℕ NoMark) → IsWordOf b (Some v) w → ((n : ℤ) → EffectR b (go n) (go' n)) → EffectR b (if_number tagged (tagged.as_number (Some v)) go) (if_number words (words.as_number w) go')
  if-to b (Number n) w go go' h k = subst (λ z. EffectR b (go n) (go' z)) h.0 (k n)
  if-to b (Truth t) w go go' h k = tt
  if-to b Null w go go' h k = tt
  if-to b (Reference r n) w go go' h k = tt

  number-to : (b : Bases) (e : Eval Held) (f : Eval ℕ) (go : ℤ → Resumption Held Name Mark) (go' : ℤ → Resumption ℕ ℕ NoMark) → EvalR b e f → ((n : ℤ) → EffectR b (go n) (go' n)) → EffectR b (on_number tagged e go) (on_number words f go')
  number-to b e f go go' h k = value-to b e f (λ v. if_number tagged (tagged.as_number v) go) (λ w. if_number words (words.as_number w) go') h (λ v w r. if-to b v w go go' r k)

  referred-to : (b : Bases) (v : Value Name) (w : ℕ) (go : Name → ℕ → Resumption Held Name Mark) (go' : ℕ → ℕ → Resumption ℕ ℕ NoMark) → IsWordOf b (Some v) w → ((r : Name) (k n : ℕ) → b r ≡ Some k → n < 2 ^ 32 → EffectR b (go r n) (go' k n))
      → EffectR b (on_referred tagged (slot_reference (Some v)) go) (on_referred words (reference_in w) go')
  referred-to b (Number n) w go go' h k = tt
  referred-to b (Truth t) w go go' h k = tt
  referred-to b Null w go go' h k = subst (λ z. EffectR b (halts tagged NullReference) (on_referred words (reference_in z) go')) (sym h) (halts-alike b NullReference NullReference refl)
  referred-to b (Reference r n) w go go' h k = subst (λ z. EffectR b (go r n) (on_referred words z go')) (sym (ap reference_in h.4 ∙ decoded h.0 n h.2)) (k r h.0 n h.1 h.3)

  object-to : (b : Bases) (vs : List Held) (ws : List ℕ) (y : ℕ) (go : Name → ℕ → Resumption Held Name Mark) (go' : ℕ → ℕ → Resumption ℕ ℕ NoMark) → Vars b vs ws → ((r : Name) (k n : ℕ) → b r ≡ Some k → n < 2 ^ 32 → EffectR b (go r n) (go' k n))
      → EffectR b (on_object tagged vs y go) (on_object words ws y go')
  object-to b vs ws y go go' h k =
      value-to b (look_up tagged vs y) (look_up words ws y) (λ v. on_referred tagged (tagged.as_reference v) go) (λ w. on_referred words (words.as_reference w) go') (look_up-alike b vs ws y h) (λ v w r. referred-to b v w go go' r k)

  argument-to : (b : Bases) (a : Argument) (vs : List Held) (ws : List ℕ) (go : Held → List Held → Resumption Held Name Mark) (go' : ℕ → List ℕ → Resumption ℕ ℕ NoMark) → ArgumentFits a → Vars b vs ws
      → ((v : Value Name) (w : ℕ) (vs : List Held) (ws : List ℕ) → IsWordOf b (Some v) w → Vars b vs ws → EffectR b (go (Some v) vs) (go' w ws)) → EffectR b (on_argument tagged a vs go) (on_argument words a ws go')
  argument-to b (Expression e) vs ws go go' f h k = value-to b (eval tagged e vs) (eval words e ws) (λ v. go v vs) (λ w. go' w ws) (eval-alike b e vs ws f h) (λ v w r. k v w vs ws r h)
  argument-to b (Consumed y) vs ws go go' f h k =
      value-to b (look_up tagged vs y) (look_up words ws y) (λ v. go v (clear tagged vs y)) (λ w. go' w (clear words ws y)) (look_up-alike b vs ws y h) (λ v w r. k v w (clear tagged vs y) (clear words ws y) r (clear-alike b vs ws y h))

  arguments-to : (b : Bases) (as' : List Argument) (found vs : List Held) (found' ws : List ℕ) (go : List Held → List Held → Resumption Held Name Mark) (go' : List ℕ → List ℕ → Resumption ℕ ℕ NoMark) → ArgumentsFit as' → Vars b found found' → Vars b vs ws
      → ((found : List Held) (found' : List ℕ) (vs : List Held) (ws : List ℕ) → Vars b found found' → Vars b vs ws → EffectR b (go found vs) (go' found' ws)) → EffectR b (on_arguments tagged as' found vs go) (on_arguments words as' found' ws go')
  arguments-to b [] found vs found' ws go go' f q h k = k found found' vs ws q h
  arguments-to b (a ∷ rest) found vs found' ws go go' f q h k =
      argument-to b a vs ws (λ v vs. on_arguments tagged rest (found ++ v ∷ []) vs go) (λ w ws. on_arguments words rest (found' ++ w ∷ []) ws go') f.0 h
      (λ v w vs ws r h. arguments-to b rest (found ++ Some v ∷ []) vs (found' ++ w ∷ []) ws go go' f.1 (vars-append (IsWordOf b) found found' (Some v ∷ []) (w ∷ []) q (r, tt)) h k)

  index-to : (b : Bases) (i : ℤ) (n : ℕ) (go : ℕ → Resumption Held Name Mark) (go' : ℕ → Resumption ℕ ℕ NoMark) → ((f : ℕ) → EffectR b (go f) (go' f)) → EffectR b (on_index tagged i n go) (on_index words i n go')
  index-to b (pos i) n go go' k = which (nat_lt i n)
    where
      which : (t : Bool) → EffectR b (cond t (go i) (halts tagged IndexOutOfRange)) (cond t (go' i) (halts words IndexOutOfRange))
      which true = k i
      which false = halts-alike b IndexOutOfRange IndexOutOfRange refl
  index-to b (negsuc i) n go go' k = halts-alike b IndexOutOfRange IndexOutOfRange refl

  length-to : (b : Bases) (n : ℤ) (go : ℕ → Resumption Held Name Mark) (go' : ℕ → Resumption ℕ ℕ NoMark) → ((n : ℕ) → EffectR b (go n) (go' n)) → EffectR b (on_length tagged n go) (on_length words n go')
  length-to b (pos n) go go' k = k n
  length-to b (negsuc n) go go' k = halts-alike b Overflow Overflow refl

  class-to : (b : Bases) (o : Option (List Ty)) (go : ℕ → Resumption Held Name Mark) (go' : ℕ → Resumption ℕ ℕ NoMark) → ((ts : List Ty) → o ≡ Some ts → EffectR b (go (length ts)) (go' (length ts))) → EffectR b (on_class tagged o go) (on_class words o go')
  class-to b None go go' k = tt
  class-to b (Some ts) go go' k = k ts refl

  call-to : (b : Bases) (consumed : Bool) (y : ℕ) (args : List Argument) (vs : List Held) (ws : List ℕ) (go : Held → List Held → List Held → Resumption Held Name Mark) (go' : ℕ → List ℕ → List ℕ → Resumption ℕ ℕ NoMark) → ArgumentsFit args → Vars b vs ws
      → ((v : Value Name) (w : ℕ) (found : List Held) (found' : List ℕ) (vs : List Held) (ws : List ℕ) → IsWordOf b (Some v) w → Vars b found found' → Vars b vs ws → EffectR b (go (Some v) found vs) (go' w found' ws))
      → EffectR b (on_call tagged consumed y args vs go) (on_call words consumed y args ws go')
  call-to b true y args vs ws go go' f h k =
      value-to b (look_up tagged vs y) (look_up words ws y) (λ v. on_arguments tagged args [] (clear tagged vs y) (λ found vs. go v found vs)) (λ w. on_arguments words args [] (clear words ws y) (λ found ws. go' w found ws)) (look_up-alike b vs ws y h)
      (λ v w r. arguments-to b args [] (clear tagged vs y) [] (clear words ws y) (λ found vs. go (Some v) found vs) (λ found ws. go' w found ws) f tt (clear-alike b vs ws y h) (λ found found' vs ws q h. k v w found found' vs ws r q h))
  call-to b false y args vs ws go go' f h k =
      arguments-to b args [] vs [] ws (λ found vs. on_value tagged (look_up tagged vs y) (λ v. go v found vs)) (λ found ws. on_value words (look_up words ws y) (λ w. go' w found ws)) f tt h
      (λ found found' vs ws q h. value-to b (look_up tagged vs y) (look_up words ws y) (λ v. go v found vs) (λ w. go' w found' ws) (look_up-alike b vs ws y h) (λ v w r. k v w found found' vs ws r q h))

  routine-to : (b : Bases) (o : Option Routine) (args : List Held) (args' : List ℕ) (go : Routine → Resumption Held Name Mark) (go' : Routine → Resumption ℕ ℕ NoMark) → Vars b args args' → ((r : Routine) → EffectR b (go r) (go' r))
      → EffectR b (on_routine tagged o args go) (on_routine words o args' go')
  routine-to b None args args' go go' h k = tt
  routine-to b (Some r) args args' go go' h k = subst (λ n. EffectR b (choose (nat_eq (length args) (length r.params)) go (λ r. Sticks) r) (choose (nat_eq n (length r.params)) go' (λ r. Sticks) r)) (vars-length (IsWordOf b) args args' h) (which (nat_eq (length args) (length r.params)))
    where
      which : (t : Bool) → EffectR b (choose t go (λ r. Sticks) r) (choose t go' (λ r. Sticks) r)
      which true = k r
      which false = tt

  limit-to : (b : Bases) (d e : ℕ) (a : Act Held Mark) (a' : Act ℕ NoMark) → d ≡ e → ((c : Bases) → Grows b c → ActR c a a') → EffectR b (below_limit tagged d a) (below_limit words e a')
  limit-to b d e a a' q k = subst (λ n. EffectR b (below_limit tagged d a) (below_limit words n a')) q (which (nat_lt d depth_limit))
    where
      which : (t : Bool) → EffectR b (cond t (ticks tagged a) (halts tagged StackOverflow)) (cond t (ticks words a') (halts words StackOverflow))
      which true = ((tt, tt), λ c g v w r. k c g)
      which false = halts-alike b StackOverflow StackOverflow refl

  -- ---------- objects and variables ----------
  into-alike : (b : Bases) (x : ℕ) (vs : List Held) (ws : List ℕ) (l : named.Own) (m : worded.Own) (v : Held) (w : ℕ) → Vars b vs ws → Owns b l m → IsWordOf b v w → ActR b (into_var tagged x vs l v) (into_var words x ws m w)
  into-alike b x vs ws l m v w h o r = with-alike b l m _ _ o (vars-set (IsWordOf b) vs ws x v w h r)

  -- what is found comes into x
  found-alike : (b : Bases) (x : ℕ) (l : named.Own) (m : worded.Own) → Owns b l m → (c : Bases) → Grows b c → (v : Held) (w : ℕ) → IsWordOf c v w → ActR c (into_var tagged x l.vars l v) (into_var words x m.vars m w)
  found-alike b x l m o c g v w r = into-alike c x l.vars m.vars l m v w (vars-grow b c g l.vars m.vars o.vars) (owns-grow b c g l m o) r

  makes-alike : (b : Bases) (x : ℕ) (shape : Shape) (n : ℕ) (l : named.Own) (m : worded.Own) → Owns b l m → length (first_values {R = Name} u shape n) ≡ n → EffectR b (makes tagged marks x shape n l) (makes words no_marks x shape n m)
  makes-alike b x shape n l m o e =
      (((refl, refl), e), λ c g v w r. (let q = owns-grow b c g l m o in record { vars = vars-set (IsWordOf c) l.vars m.vars x v w q.vars r; routine = q.routine; depth = q.depth; printed = q.printed; mark = tt }))

  fields-many : (k : ℕ) (ts : List Ty) → slice_get u.classes k ≡ Some ts → length (first_values {R = Name} u (Class k) (length ts)) ≡ length ts
  fields-many k ts e = ap (λ o. length (map (zero_of {R = Name}) (types_or_none o))) e ∙ mapped ts
    where
      mapped : (ts : List Ty) → length (map (zero_of {R = Name}) ts) ≡ length ts
      mapped [] = refl
      mapped (t ∷ ts) = ap (λ n. suc n) (mapped ts)

  items-many : (n : ℕ) → length (first_values {R = Name} u Array n) ≡ n
  items-many zero = refl
  items-many (suc n) = ap (λ z. suc z) (items-many n)

  -- the variables at the start of a method
  pub first-alike : (b : Bases) (r : Routine) (v : Held) (w : ℕ) (args : List Held) (args' : List ℕ) → IsWordOf b v w → Vars b args args' → Vars b (first_vars tagged r v args) (first_vars words r w args')
  first-alike b r v w args args' h q = (
    h,
    vars-append (IsWordOf b) args args' _ _ q (subst (λ n. Vars b (replicate (length r.vars - (1 + length args)) None) (replicate (length r.vars - (1 + n)) 0)) (vars-length (IsWordOf b) args args' q)
        (vars-repeat (IsWordOf b) (length r.vars - (1 + length args)) None 0 tt)),
  )

  -- ---------- the table ----------
  pub effect-alike : (b : Bases) (i : Instruction) (l : named.Own) (m : worded.Own) → InstructionFits i → Owns b l m → EffectR b (effect tagged u marks i l) (effect words u no_marks i m)
  effect-alike b (Declare x) l m f o = goes-alike b _ _ (with-alike b l m _ _ o (clear-alike b l.vars m.vars x o.vars))
  effect-alike b (Assign x a) l m f o =
      argument-to b a l.vars m.vars (λ v vs. ticks tagged (into_var tagged x vs l v)) (λ w ws. ticks words (into_var words x ws m w)) f o.vars
      (λ v w vs ws r h. ((tt, tt), λ c g v' w' r'. into-alike c x vs ws l m (Some v) w (vars-grow b c g vs ws h) (owns-grow b c g l m o) (word-grows b c g (Some v) w r)))
  effect-alike b (LoadField x y f) l m q o = object-to b l.vars m.vars y (λ r n. Does (Load r f) (into_var tagged x l.vars l)) (λ k n. Does (Load k f) (into_var words x m.vars m)) o.vars (λ r k n e lt. (((e, refl), tt), found-alike b x l m o))
  effect-alike b (LoadLength x y) l m f o =
      object-to b l.vars m.vars y (λ r n. ticks tagged (into_var tagged x l.vars l (tagged.number (pos n)))) (λ k n. ticks words (into_var words x m.vars m (words.number (pos n)))) o.vars
      (λ r k n e lt. ((tt, tt), λ c g v w z. found-alike b x l m o c g (Some (Number (pos n))) (number_word (pos n)) (let q : FitsSigned w64 (pos n) = record { sfits = omega arith } in (number-back (pos n) q, word-below (pos n) q))))
  effect-alike b (LoadItem x y i) l m f o =
      number-to b (eval tagged i l.vars) (eval words i m.vars) (λ i. on_object tagged l.vars y (λ r n. on_index tagged i n (λ f. Does (Load r f) (into_var tagged x l.vars l)))) (λ i. on_object words m.vars y (λ k n. on_index words i n (λ f. Does (Load k f) (into_var words x m.vars m)))) (eval-alike b i l.vars m.vars f o.vars)
      (λ i. object-to b l.vars m.vars y (λ r n. on_index tagged i n (λ f. Does (Load r f) (into_var tagged x l.vars l))) (λ k n. on_index words i n (λ f. Does (Load k f) (into_var words x m.vars m))) o.vars
      (λ r k n e lt. index-to b i n (λ f. Does (Load r f) (into_var tagged x l.vars l)) (λ f. Does (Load k f) (into_var words x m.vars m)) (λ f. (((e, refl), tt), found-alike b x l m o))))
  effect-alike b (TakeField x y f) l m q o = object-to b l.vars m.vars y (λ r n. Does (Take r f) (into_var tagged x l.vars l)) (λ k n. Does (Take k f) (into_var words x m.vars m)) o.vars (λ r k n e lt. (((e, refl), tt), found-alike b x l m o))
  effect-alike b (NewObject x k) l m f o =
      class-to b (slice_get u.classes k) (λ n. makes tagged marks x (Class k) n l) (λ n. makes words no_marks x (Class k) n m) (λ ts e. makes-alike b x (Class k) (length ts) l m o (fields-many k ts e))
  effect-alike b (NewArray x n) l m f o =
      number-to b (eval tagged n l.vars) (eval words n m.vars) (λ n. on_length tagged n (λ n. makes tagged marks x Array n l)) (λ n. on_length words n (λ n. makes words no_marks x Array n m)) (eval-alike b n l.vars m.vars f o.vars)
      (λ n. length-to b n (λ n. makes tagged marks x Array n l) (λ n. makes words no_marks x Array n m) (λ n. makes-alike b x Array n l m o (items-many n)))
  effect-alike b (StoreField y f a) l m q o =
      argument-to b a l.vars m.vars (λ v vs. on_object tagged vs y (λ r n. Does (Store r f v) (λ w. GoesOn (with_vars tagged l vs)))) (λ v ws. on_object words ws y (λ k n. Does (Store k f v) (λ w. GoesOn (with_vars words m ws)))) q o.vars
      (λ v w vs ws r h. object-to b vs ws y (λ r n. Does (Store r f (Some v)) (λ w. GoesOn (with_vars tagged l vs))) (λ k n. Does (Store k f w) (λ w. GoesOn (with_vars words m ws))) h
      (λ p k n e lt. (((e, refl, r), tt), λ c g v' w' r'. with-alike c l m vs ws (owns-grow b c g l m o) (vars-grow b c g vs ws h))))
  effect-alike b (StoreItem y i e) l m f o =
      number-to b (eval tagged i l.vars) (eval words i m.vars) _ _ (eval-alike b i l.vars m.vars f.0 o.vars)
      (λ i. value-to b (eval tagged e l.vars) (eval words e m.vars) _ _ (eval-alike b e l.vars m.vars f.1 o.vars)
      (λ v w r. if-to b v w _ _ r
      (λ z. object-to b l.vars m.vars y (λ r n. on_index tagged i n (λ f. Does (Store r f (Some v)) (λ w. GoesOn l))) (λ k n. on_index words i n (λ f. Does (Store k f w) (λ w. GoesOn m))) o.vars
      (λ p k n q lt. index-to b i n (λ f. Does (Store p f (Some v)) (λ w. GoesOn l)) (λ f. Does (Store k f w) (λ w. GoesOn m)) (λ f. (((q, refl, r), tt), λ c g v' w' r'. owns-grow b c g l m o))))))
  effect-alike b (Invoke into tie consumed y k args) l m f o =
      call-to b consumed y args l.vars m.vars _ _ f o.vars
      (λ v w found found' vs ws r q h. referred-to b v w _ _ r
      (λ p base n e lt. routine-to b (slice_get u.routines k) found found' _ _ q
      (λ z. limit-to b l.depth m.depth _ _ o.depth
      (λ c g. (
        record { routine = refl; code = refl; first = first-alike c z (Some v) w found found' (word-grows b c g (Some v) w r) (vars-grow b c g found found' q); tie = refl; receiver = word-grows b c g (Some v) w r; y = refl; into = refl },
        with-alike c l m vs ws (owns-grow b c g l m o) (vars-grow b c g vs ws h),
      )))))
  effect-alike b (Print e) l m f o =
      number-to b (eval tagged e l.vars) (eval words e m.vars) (λ n. ticks tagged (GoesOn (record l { printed = l.printed ++ n ∷ [] }))) (λ n. ticks words (GoesOn (record m { printed = m.printed ++ n ∷ [] }))) (eval-alike b e l.vars m.vars f o.vars)
      (λ n. goes-alike b (record l { printed = l.printed ++ n ∷ [] }) (record m { printed = m.printed ++ n ∷ [] }) (record { vars = o.vars; routine = o.routine; depth = o.depth; printed = ap (λ z. z ++ n ∷ []) o.printed; mark = o.mark }))
