-- Tokens are one program or have one refusal, and not both.
pub mod ArgumentRuns
pub mod Completion
pub mod Exactness
pub mod ExpressionRuns
pub mod GoodStates
pub mod ProgramRuns
pub mod Runs
pub mod Soundness
pub mod StatementRuns
pub mod Steps
use Rattle.std.proofs.Common.{◌≡◌, ℕ, ◌+◌, ◌<◌, ◌≤◌, ◌⊎◌, inl, inr, List, [], ◌∷◌, ◌++◌, length, take, drop, Option, Some, None, Result, Ok, Err, MatchResult, IfOk, refl, sym, ap, ◌∙◌, ◌≢◌, subst, append-nil, append_assoc, arith}
use Rattle.std.specs.Prelude.{IfErr}
use Rattle.std.proofs.lemmas.List.{length-take, take-append-drop, take-append-le}
use Rattle.std.proofs.lemmas.Bool.{cases_order, le-leb, lt-leb}
use Rattle.std.proofs.lemmas.Option.{same_Some}
use Rattle.perm_tree.specs.Places.{Listing}
use Rattle.perm_tree.specs.declared.errors.ParseError.{ParseError}
use Rattle.perm_tree.specs.declared.errors.ParseError.TheVariants.{Unexpected, TooDeep, NoMemory}
use Rattle.perm_tree.specs.declared.tokens.Token.{Token}
use Rattle.perm_parse.specs.Grammar.{Classes, program_text}
use Rattle.perm_parse.specs.Levels.{program_levels}
use Rattle.perm_parse.specs.States.{State, level_state}
use Rattle.perm_parse.specs.Machine.{step, walk, note_level}
use Rattle.perm_parse.specs.Meaning.{meaning}
use Rattle.perm_parse.specs.Parses.{Parses, IsFront, IsFirstDead, IsTooDeepAt, IsUnexpected, IsRefused, HasOneAnswer, Shallow, deepest}
use Rattle.perm_parse.specs.Answers.{Answer, parsed, unexpected, too_deep, answer_after, read_from, start, read, IsAnswer}
use Rattle.perm_parse.specs.MemberResults.{Gives}
use Rattle.perm_parse.proofs.OneAnswer.Exactness.{complete, exact}

-- ---- what the levels of a walk say of the reading

-- a walk with no level past the deepest is read to its end
shallow-run : (ts : List Token) (q r : State) (ls : List ℕ) (n : ℕ) → walk q ts ≡ (ls, Some r) → Shallow ls → read_from ts q n ≡ read_from [] r (n + length ts)
shallow-run [] q r ls n e low = rw (same_Some q r (ap (λ (w : List ℕ × Option State). w.1) e)) (ap (λ (m : ℕ). read_from [] r m) (omega arith))
shallow-run (t ∷ ts) q r ls n e low = behind (step q t) ls e low (λ s ms f lo. shallow-run ts s r ms (n + 1) f lo)
  where
    behind : (x : Option State) (ls : List ℕ) → note_level x (λ s. walk s ts) ≡ (ls, Some r) → Shallow ls → ((s : State) (ms : List ℕ) → walk s ts ≡ (ms, Some r) → Shallow ms → read_from ts s (n + 1) ≡ read_from [] r (n + 1 + length ts)) →
        answer_after n x (λ s. read_from ts s (n + 1)) ≡ read_from [] r (n + length (t ∷ ts))
    behind None ls e low more = absurd (let f = ap (λ (w : List ℕ × Option State). w.1) e in cc)
    behind (Some s) [] e low more = absurd (let f = ap (λ (w : List ℕ × Option State). w.0) e in cc)
    behind (Some s) (l ∷ ls) e low more =
        let levels = ap (λ (w : List ℕ × Option State). w.0) e in
        let top : level_state s ≡ l = cc in
        let under : (walk s ts).0 ≡ ls = cc in
        let last : (walk s ts).1 ≡ Some r = ap (λ (w : List ℕ × Option State). w.1) e in
        rw (le-leb (level_state s) 100 (omega (arith, low.0))) (more s ls (λ i. (under i, last i)) low.1 ∙ ap (λ (m : ℕ). read_from [] r m) (omega arith))

-- a walk whose first level past the deepest is here is refused here, whatever comes behind
deep-run : (ts more other : List Token) (q : State) (before : List ℕ) (level : ℕ) (behind : List ℕ) (n : ℕ) → (walk q (ts ++ more)).0 ≡ before ++ (level ∷ behind) → length before < length ts → Shallow before → deepest < level →
    read_from (ts ++ other) q n ≡ too_deep (n + length before)
deep-run [] more other q before level behind n e lt low deep = absurd (omega arith)
deep-run (t ∷ ts) more other q before level behind n e lt low deep = at (step q t) before e lt low (λ s ms f l lo. deep-run ts more other s ms level behind (n + 1) f l lo deep)
  where
    at : (x : Option State) (before : List ℕ) → (note_level x (λ s. walk s (ts ++ more))).0 ≡ before ++ (level ∷ behind) → length before < length (t ∷ ts) → Shallow before →
        ((s : State) (ms : List ℕ) → (walk s (ts ++ more)).0 ≡ ms ++ (level ∷ behind) → length ms < length ts → Shallow ms → read_from (ts ++ other) s (n + 1) ≡ too_deep (n + 1 + length ms)) →
        answer_after n x (λ s. read_from (ts ++ other) s (n + 1)) ≡ too_deep (n + length before)
    at None [] e lt low go = absurd cc
    at None (b ∷ bs) e lt low go = absurd cc
    at (Some s) [] e lt low go =
        let top : level_state s ≡ level = cc in
        rw (lt-leb (level_state s) 100 (omega arith)) (ap too_deep (omega arith))
    at (Some s) (b ∷ bs) e lt low go =
        let top : level_state s ≡ b = cc in
        let under : (walk s (ts ++ more)).0 ≡ bs ++ (level ∷ behind) = cc in
        rw (le-leb (level_state s) 100 (omega (arith, low.0))) (go s bs under (omega arith) low.1 ∙ ap too_deep (omega arith))

-- ---- each answer is that of the reading

read-program : (text : List ℕ) (ts : List Token) (p : Listing) (h : Parses text ts p) → read ts ≡ parsed h.tree
read-program text ts p h = subst (λ (x : List Token). read x ≡ parsed h.tree) h.spells (shallow-run (program_text h.tree []) start (State.between_classes h.tree) (program_levels h.tree []) 0 (complete h.tree h.is_tree) h.shallow)

read-deep : (ts : List Token) (place : ℕ) → IsTooDeepAt ts place → read ts ≡ too_deep place
read-deep ts place h =
    let front = take (place + 1) ts in
    let whole : (walk start (front ++ h.front.more)).0 ≡ h.before ++ (h.level ∷ h.behind) =
    ap (λ (x : List Token). (walk start x).0) (sym h.front.spells) ∙ ap (λ (w : List ℕ × Option State). w.0) (complete h.front.tree h.front.is_tree) ∙ h.levels in
    let long = length-take (place + 1) ts in
    let within = h.within in
    let here = h.here in
    ap read (sym (take-append-drop (place + 1) ts)) ∙ deep-run front h.front.more (drop (place + 1) ts) start h.before h.level h.behind 0 whole (omega arith) h.shallow h.deep ∙ ap too_deep (omega arith)

-- the front of a front is one
shorter : (n : ℕ) (ts : List Token) → IsFront ts → IsFront (take n ts)
shorter n ts f = record {
  more = drop n ts ++ f.more;
  tree = f.tree;
  is_tree = f.is_tree;
  spells = f.spells ∙ ap (λ (x : List Token). x ++ f.more) (sym (take-append-drop n ts)) ∙ append_assoc (take n ts) (drop n ts) f.more;
}

-- a program is a front
whole-front : (text : List ℕ) (ts : List Token) (p : Listing) → Parses text ts p → IsFront ts
whole-front text ts p h = record { more = []; tree = h.tree; is_tree = h.is_tree; spells = h.spells ∙ sym (append-nil ts) }

take-less : (m n : ℕ) (ts : List Token) → m ≤ n → n ≤ length ts → take m (take n ts) ≡ take m ts
take-less m n ts le within = let long = length-take n ts in sym (take-append-le m (take n ts) (drop n ts) (omega arith)) ∙ ap (λ (x : List Token). take m x) (take-append-drop n ts)

earlier : (ts : List Token) (i k : ℕ) → i < k → IsFirstDead ts i → IsFirstDead ts k → ⊥
earlier ts i k lt h g = let within = g.within in h.dead (omega arith) (subst IsFront (take-less (i + 1) k ts (omega arith) within) (shorter (i + 1) (take k ts) g.front))

one-dead : (ts : List Token) (i k : ℕ) → IsFirstDead ts i → IsFirstDead ts k → i ≡ k
one-dead ts i k h g = pick (cases_order i k)
  where
    pick : (i ≡ k) ⊎ ((i < k) ⊎ (k < i)) → i ≡ k
    pick (inl e) = e
    pick (inr (inl lt)) = absurd (earlier ts i k lt h g)
    pick (inr (inr lt)) = absurd (earlier ts k i lt g h)

not-program : (text : List ℕ) (ts : List Token) (p : Listing) (place : ℕ) → Parses text ts p → IsFirstDead ts place → ⊥
not-program text ts p place h d = pick (cases_order place (length ts))
  where
    pick : (place ≡ length ts) ⊎ ((place < length ts) ⊎ (length ts < place)) → ⊥
    pick (inl e) = d.ended e h.tree h.is_tree h.spells
    pick (inr (inl lt)) = d.dead lt (shorter (place + 1) ts (whole-front text ts p h))
    pick (inr (inr lt)) = let within = d.within in absurd (omega arith)

read-dead : (ts : List Token) (place : ℕ) → IsUnexpected ts place → read ts ≡ unexpected place
read-dead ts place h = at (read ts) refl (exact [] ts)
  where
    at : (a : Answer) → read ts ≡ a → IsAnswer [] ts a → a ≡ unexpected place
    at (parsed c) e is = absurd (not-program [] ts (meaning [] c) place is h.dead)
    at (unexpected i) e is = ap unexpected (one-dead ts i place is h.dead)
    at (too_deep i) e is = absurd (h.first i is)

-- ---- and the other way round

is-program : (text : List ℕ) (ts : List Token) (c : Classes) → read ts ≡ parsed c → Parses text ts (meaning text c)
is-program text ts c e = subst (IsAnswer text ts) e (exact text ts)

is-deep : (ts : List Token) (place : ℕ) → read ts ≡ too_deep place → IsTooDeepAt ts place
is-deep ts place e = subst (IsAnswer [] ts) e (exact [] ts)

is-dead : (ts : List Token) (place : ℕ) → read ts ≡ unexpected place → IsUnexpected ts place
is-dead ts place e = record {
  dead = subst (IsAnswer [] ts) e (exact [] ts);
  first = λ deep h. let f = sym e ∙ read-deep ts deep h in absurd cc;
}

-- ---- one answer

-- the answer that a refusal is
abbrev answer_of : ParseError → Answer
answer_of (Unexpected place) = unexpected place
answer_of (TooDeep place) = too_deep place
answer_of NoMemory = unexpected 0

read-refused : (ts : List Token) (e : ParseError) → IsRefused ts e → read ts ≡ answer_of e
read-refused ts (Unexpected place) h = read-dead ts place h
read-refused ts (TooDeep place) h = read-deep ts place h
read-refused ts NoMemory h = absurd h

some-answer : (text : List ℕ) (ts : List Token) (a : Answer) → read ts ≡ a → ((p : Listing) × Parses text ts p) ⊎ ((e : ParseError) × IsRefused ts e)
some-answer text ts (parsed c) e = inl (meaning text c, is-program text ts c e)
some-answer text ts (unexpected place) e = inr (Unexpected place, is-dead ts place e)
some-answer text ts (too_deep place) e = inr (TooDeep place, is-deep ts place e)

one-program : (text : List ℕ) (ts : List Token) (p q : Listing) → Parses text ts p → Parses text ts q → p ≡ q
one-program text ts p q h g =
    let same : h.tree ≡ g.tree = let e = sym (read-program text ts p h) ∙ read-program text ts q g in cc in
    sym h.means ∙ ap (meaning text) same ∙ g.means

one-refusal : (ts : List Token) (e f : ParseError) → IsRefused ts e → IsRefused ts f → e ≡ f
one-refusal ts e f h g = pick e f h g (sym (read-refused ts e h) ∙ read-refused ts f g)
  where
    pick : (e f : ParseError) → IsRefused ts e → IsRefused ts f → answer_of e ≡ answer_of f → e ≡ f
    pick (Unexpected i) (Unexpected k) h g same = cc
    pick (Unexpected i) (TooDeep k) h g same = absurd cc
    pick (TooDeep i) (Unexpected k) h g same = absurd cc
    pick (TooDeep i) (TooDeep k) h g same = cc
    pick NoMemory f h g same = absurd h
    pick (Unexpected i) NoMemory h g same = absurd g
    pick (TooDeep i) NoMemory h g same = absurd g

never-both : (text : List ℕ) (ts : List Token) (p : Listing) (e : ParseError) → Parses text ts p → IsRefused ts e → ⊥
never-both text ts p e h g = pick e g (sym (read-program text ts p h) ∙ read-refused ts e g)
  where
    pick : (e : ParseError) → IsRefused ts e → parsed h.tree ≡ answer_of e → ⊥
    pick (Unexpected i) g same = cc
    pick (TooDeep i) g same = cc
    pick NoMemory g same = g

pub one-answer : (text : List ℕ) (ts : List Token) → HasOneAnswer text ts
one-answer text ts = record { some = some-answer text ts (read ts) refl; programs = one-program text ts; refusals = one-refusal ts; apart = never-both text ts }

-- ---- what the answer of a call says

pub gives-program : (text : List ℕ) (ts : List Token) (r : Result Listing ParseError) → Gives text ts r → IfOk r (λ p. Parses text ts p)
gives-program text ts (Ok p) g = subst (Parses text ts) (sym g.2) (is-program text ts g.0 g.1)
gives-program text ts (Err e) g = tt

pub gives-refusal : (text : List ℕ) (ts : List Token) (r : Result Listing ParseError) → Gives text ts r → IfErr r (λ e. e ≢ NoMemory → IsRefused ts e)
gives-refusal text ts (Ok p) g = tt
gives-refusal text ts (Err (Unexpected place)) g = λ some. is-dead ts place g
gives-refusal text ts (Err (TooDeep place)) g = λ some. is-deep ts place g
gives-refusal text ts (Err NoMemory) g = λ some. absurd (some refl)

pub only-program : (text : List ℕ) (ts : List Token) (r : Result Listing ParseError) → Gives text ts r → (p : Listing) → Parses text ts p → MatchResult r (λ q. q ≡ p) (λ e. e ≡ NoMemory)
only-program text ts (Ok q) g p h = one-program text ts q p (gives-program text ts (Ok q) g) h
only-program text ts (Err NoMemory) g p h = refl
only-program text ts (Err (Unexpected place)) g p h = absurd (never-both text ts p (Unexpected place) h (is-dead ts place g))
only-program text ts (Err (TooDeep place)) g p h = absurd (never-both text ts p (TooDeep place) h (is-deep ts place g))

pub only-refusal : (text : List ℕ) (ts : List Token) (r : Result Listing ParseError) → Gives text ts r → (e : ParseError) → IsRefused ts e → MatchResult r (λ q. ⊥) (λ f. (f ≡ e) ⊎ (f ≡ NoMemory))
only-refusal text ts (Ok q) g e h = never-both text ts q e (gives-program text ts (Ok q) g) h
only-refusal text ts (Err NoMemory) g e h = inr refl
only-refusal text ts (Err (Unexpected place)) g e h = inl (one-refusal ts (Unexpected place) e (is-dead ts place g) h)
only-refusal text ts (Err (TooDeep place)) g e h = inl (one-refusal ts (TooDeep place) e (is-deep ts place g) h)
