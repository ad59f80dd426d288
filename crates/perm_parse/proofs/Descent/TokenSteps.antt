-- Steps of the reading, as a descent over the tokens makes them.
use Rattle.std.proofs.Common.{◌≡◌, ℕ, zero, suc, ◌+◌, ◌<◌, ◌≤◌, List, [], ◌∷◌, length, drop, Option, Some, None, Ok, Err, Bool, true, false, refl, sym, ap, ◌∙◌, arith, add-one, inl, inr}
use Rattle.std.specs.List.{slice_get}
use Rattle.std.proofs.Math.Seq.{drop-cons, drop-nil}
use Rattle.std.proofs.lemmas.Option.{slice_get_within, get_or_from_slice_get}
use Rattle.std.proofs.lemmas.Bool.{le-leb, lt-leb}
use denote.Enum.Bare.{false_same}
use Rattle.perm_tree.specs.contracts.tokens.TokenKind.{the_type}
use Rattle.perm_tree.specs.declared.errors.ParseError.{ParseError}
use Rattle.perm_tree.specs.declared.errors.ParseError.TheVariants.{Unexpected, TooDeep, NoMemory}
use Rattle.perm_tree.specs.declared.tokens.Token.{Token}
use Rattle.perm_tree.specs.declared.tokens.TokenKind.{TokenKind}
use Rattle.perm_tree.specs.declared.tokens.TokenKind.TheVariants as kind
use Rattle.perm_parse.specs.declared.parser.Parser.{Parser}
use Rattle.perm_parse.specs.Grammar.{Is, IsVar}
use Rattle.perm_parse.specs.States.{State, Wanted, level_state}
use Rattle.perm_parse.specs.Machine.{step, step_as, is_variable, state_if}
use Rattle.perm_parse.specs.Answers.{read_from, answer_at_end, unexpected, too_deep}
use Rattle.perm_parse.specs.ParserResults.{rest, From, Next, IsAhead, IsHere, Onward, TakesToken, TakesVar, Leads, Refuses}
use Rattle.perm_parse.specs.Parses.{deepest}

-- ---- the token that comes next

pub drop-some : (ts : List Token) (n : ℕ) (c : Token) → slice_get ts n ≡ Some c → drop n ts ≡ c ∷ drop (n + 1) ts
drop-some ts n c e =
    let lt : n < length ts = slice_get_within ts n c e in
    rw (add-one, drop-cons ts n c lt, get_or_from_slice_get ts n c c e) refl

pub drop-none : (ts : List Token) (n : ℕ) → slice_get ts n ≡ None → drop n ts ≡ []
drop-none [] n e = drop-nil n
drop-none (c ∷ ts) zero e = absurd cc
drop-none (c ∷ ts) (suc n) e = drop-none ts n e

-- ---- one step

steps : (ts after : List Token) (n : ℕ) (c : Token) (q r : State) → ts ≡ c ∷ after → step q c ≡ Some r → level_state r ≤ deepest → read_from ts q n ≡ read_from after r (n + 1)
steps ts after n c q r e h le = rw (e, h, le-leb (level_state r) 100 le) refl

pub stepped : (p new : Parser) (t : Token) (q r : State) → Next p t → IsAhead p new → step q t ≡ Some r → level_state r ≤ deepest → Leads p q new r
stepped p new t q r n a h le = record {
  same = steps (rest p) (drop (p.at + 1) p.tokens.now) p.at t q r (drop-some p.tokens.now p.at t n) h le ∙ rw (a.at, a.tokens) refl;
}

-- the same where the program grows
pub stepped-on : (p new : Parser) (t : Token) (q r : State) → Next p t → new.tokens ≡ p.tokens → new.at ≡ p.at + 1 → step q t ≡ Some r → level_state r ≤ deepest → Leads p q new r
stepped-on p new t q r n tokens at h le = record {
  same = steps (rest p) (drop (p.at + 1) p.tokens.now) p.at t q r (drop-some p.tokens.now p.at t n) h le ∙ rw (at, tokens) refl;
}

pub dead : (p : Parser) (t : Token) (q : State) → Next p t → step q t ≡ None → Refuses p q (Unexpected p.at)
dead p t q n h = record { says = refuses (rest p) (drop (p.at + 1) p.tokens.now) (drop-some p.tokens.now p.at t n) }
  where
    refuses : (ts after : List Token) → ts ≡ t ∷ after → read_from ts q p.at ≡ unexpected p.at
    refuses ts after e = rw (e, h) refl

pub too-deep : (p : Parser) (t : Token) (q r : State) → Next p t → step q t ≡ Some r → deepest < level_state r → Refuses p q (TooDeep p.at)
too-deep p t q r n h lt = record { says = refuses (rest p) (drop (p.at + 1) p.tokens.now) (drop-some p.tokens.now p.at t n) }
  where
    refuses : (ts after : List Token) → ts ≡ t ∷ after → read_from ts q p.at ≡ too_deep p.at
    refuses ts after e = rw (e, h, lt-leb (level_state r) 100 lt) refl

pub at-end : (p : Parser) (q : State) → slice_get p.tokens.now p.at ≡ None → answer_at_end q p.at ≡ unexpected p.at → Refuses p q (Unexpected p.at)
at-end p q n h = record { says = refuses (rest p) (drop-none p.tokens.now p.at n) }
  where
    refuses : (ts : List Token) → ts ≡ [] → read_from ts q p.at ≡ unexpected p.at
    refuses ts e = rw e h

-- ---- one after another

pub via : {p : Parser} {q : State} {r : Parser} {s : State} {v : Parser} {w : State} → Leads p q r s → Leads r s v w → Leads p q v w
via h g = record { same = h.same ∙ g.same }

pub refused : {p : Parser} {q : State} {r : Parser} {s : State} {e : ParseError} → Leads p q r s → Refuses r s e → Refuses p q e
refused {e = Unexpected i} h g = record { says = h.same ∙ g.says }
refused {e = TooDeep i} h g = record { says = h.same ∙ g.says }
refused {e = NoMemory} h g = record { says = tt }

pub here : (p new : Parser) (q : State) → IsHere p new → Leads p q new q
here p new q h = record { same = rw (h.at, h.tokens) refl }

pub no-memory : (p : Parser) (q : State) (e : ParseError) → e ≡ NoMemory → Refuses p q e
no-memory p q e is = record { says = rw is tt }

-- ---- a token that has to come next

-- the state takes no other token that comes next, and doesn't end the program
pub record Only (p : Parser) (wanted : TokenKind) (q : State) : Type 0 where
  pub others : (t : Token) → Next p t → (Is wanted t → ⊥) → step q t ≡ None
  pub ends : answer_at_end q p.at ≡ unexpected p.at

pub only-expects : (p : Parser) (so_far : List Token → List Token) (d : ℕ) (wanted : TokenKind) (next : Token → State) → Only p wanted (State.expects so_far d (Wanted.exactly wanted) next)
only-expects p so_far d wanted next = record {
  others = λ t n h. rw (false_same the_type tt wanted t.kind (λ e. h (sym e))) refl;
  ends = refl;
}

pub takes : (p new : Parser) (wanted : TokenKind) (t : Token) (q r : State) → TakesToken wanted p new (Ok t) → step_as q t wanted ≡ Some r → level_state r ≤ deepest → Leads p q new r
takes p new wanted t q r h e le = stepped p new t q r h.0 h.2 (ap (λ (x : TokenKind). step_as q t x) h.1 ∙ e) le

pub misses : (p new : Parser) (wanted : TokenKind) (e : ParseError) (q : State) → TakesToken wanted p new (Err e) → Only p wanted q → Refuses p q e
misses p new wanted e q h only = rw h.0 (cases (slice_get p.tokens.now p.at) refl)
  where
    cases : (o : Option Token) → slice_get p.tokens.now p.at ≡ o → Refuses p q (Unexpected p.at)
    cases None n = at-end p q n only.ends
    cases (Some t) n = dead p t q n (only.others t n (h.1 t n))

-- ---- onward

pub onward-via : (p q r : Parser) → Onward p q → Onward q r → Onward p r
onward-via p q r h g = record { text = g.text ∙ h.text; tokens = g.tokens ∙ h.tokens; at = omega (arith, h.at, g.at); exprs = omega (arith, h.exprs, g.exprs); stmts = omega (arith, h.stmts, g.stmts) }

pub onward-ahead : (p q : Parser) → IsAhead p q → Onward p q
onward-ahead p q a = record { text = a.text; tokens = a.tokens; at = omega (arith, a.at); exprs = rw a.program (omega arith); stmts = rw a.program (omega arith) }

pub onward-same : (p : Parser) → Onward p p
onward-same p = record { text = refl; tokens = refl; at = omega arith; exprs = omega arith; stmts = omega arith }

-- ---- two states at the next token

same-over : (ts after : List Token) (t : Token) (n : ℕ) (q r : State) → ts ≡ t ∷ after → step q t ≡ step r t → read_from ts q n ≡ read_from ts r n
same-over ts after t n q r e h = rw (e, h) refl

none-over : (ts : List Token) (n : ℕ) (q r : State) → ts ≡ [] → answer_at_end q n ≡ answer_at_end r n → read_from ts q n ≡ read_from ts r n
none-over ts n q r e h = rw e h

-- two states that do the same at the next token, and at the end
pub same-next : (p : Parser) (q r : State) → ((t : Token) → Next p t → step q t ≡ step r t) → answer_at_end q p.at ≡ answer_at_end r p.at → Leads p q p r
same-next p q r h ends = record { same = cases (slice_get p.tokens.now p.at) refl }
  where
    cases : (o : Option Token) → slice_get p.tokens.now p.at ≡ o → From p q ≡ From p r
    cases None n = none-over (rest p) p.at q r (drop-none p.tokens.now p.at n) ends
    cases (Some t) n = same-over (rest p) (drop (p.at + 1) p.tokens.now) t p.at q r (drop-some p.tokens.now p.at t n) (h t n)

-- ---- a name or `this` that has to come next

var-takes : (t : Token) (k : TokenKind) → Is k t → IsVar t → is_variable k ≡ true
var-takes t k is (inl h) = ap is_variable (sym is ∙ h)
var-takes t k is (inr h) = ap is_variable (sym is ∙ h)

var-misses : (t : Token) (k : TokenKind) → Is k t → (IsVar t → ⊥) → is_variable k ≡ false
var-misses t kind.Name is h = absurd (h (inl is))
var-misses t kind.This is h = absurd (h (inr is))
var-misses t _ is h = refl

pub takes-var : (p new : Parser) (t : Token) (so_far : List Token → List Token) (d : ℕ) (next : Token → State) → TakesVar p new (Ok t) → level_state (next t) ≤ deepest → Leads p (State.expects so_far d Wanted.a_variable next) new (next t)
takes-var p new t so_far d next h le = stepped p new t (State.expects so_far d Wanted.a_variable next) (next t) h.0 h.2 (ap (λ (b : Bool). state_if b (next t)) (var-takes t t.kind refl h.1)) le

pub misses-var : (p new : Parser) (e : ParseError) (so_far : List Token → List Token) (d : ℕ) (next : Token → State) → TakesVar p new (Err e) → Refuses p (State.expects so_far d Wanted.a_variable next) e
misses-var p new e so_far d next h = rw h.0 (cases (slice_get p.tokens.now p.at) refl)
  where
    cases : (o : Option Token) → slice_get p.tokens.now p.at ≡ o → Refuses p (State.expects so_far d Wanted.a_variable next) (Unexpected p.at)
    cases None n = at-end p (State.expects so_far d Wanted.a_variable next) n refl
    cases (Some t) n = dead p t (State.expects so_far d Wanted.a_variable next) n (ap (λ (b : Bool). state_if b (next t)) (var-misses t t.kind refl (h.1 t n)))
