-- Reading is exact: the program where the tokens are one, and otherwise the first refused token.
use Rattle.std.proofs.Common.{◌≡◌, ℕ, ◌+◌, ◌≤◌, List, [], ◌∷◌, ◌++◌, length, take, Option, Some, None, refl, sym, ap, ◌∙◌, subst, append-nil, append_assoc, arith, Bool, true, false, cond, nat_le}
use Rattle.std.proofs.Math.Seq.{take-append_seam, take-append-add, take-length}
use Rattle.std.proofs.lemmas.List.{length-append}
use Rattle.std.proofs.lemmas.Bool.{leb-true, leb-false}
use Rattle.std.proofs.lemmas.Option.{same_Some}
use Rattle.perm_tree.specs.declared.tokens.Token.{Token}
use Rattle.perm_parse.specs.Grammar.{Classes, IsProgram, program_text}
use Rattle.perm_parse.specs.Levels.{program_levels}
use Rattle.perm_parse.specs.States.{State, level_state}
use Rattle.perm_parse.specs.Machine.{step, walk, note_level}
use Rattle.perm_parse.specs.Meaning.{meaning}
use Rattle.perm_parse.specs.Parses.{Parses, IsFront, IsFirstDead, Shallow, deepest}
use Rattle.perm_parse.specs.Answers.{too_deep, answer_at_end, answer_after, read_from, start, read, IsAnswer}
use Rattle.perm_parse.proofs.OneAnswer.GoodStates.{state_text, IsState}
use Rattle.perm_parse.proofs.OneAnswer.ProgramRuns.{program}
use Rattle.perm_parse.proofs.OneAnswer.Soundness.{Extends}
use Rattle.perm_parse.proofs.OneAnswer.Steps.{step-is}
use Rattle.perm_parse.proofs.OneAnswer.Completion.{ends, end_state}

-- ---- walks over two lists

-- a walk that goes on
abbrev goes_on : List ℕ × Option State → (State → List ℕ × Option State) → List ℕ × Option State
goes_on (ls, None) more = (ls, None)
goes_on (ls, Some q) more = let r = more q in (ls ++ r.0, r.1)

walk-append : (q : State) (xs ys : List Token) → walk q (xs ++ ys) ≡ goes_on (walk q xs) (λ r. walk r ys)
walk-append q [] ys = refl
walk-append q (x ∷ xs) ys = behind (step q x) (λ r. walk-append r xs ys)
  where
    under : (l : ℕ) (w : List ℕ × Option State) → (let r = goes_on w (λ r. walk r ys) in (l ∷ r.0, r.1)) ≡ goes_on (l ∷ w.0, w.1) (λ r. walk r ys)
    under l (ls, None) = refl
    under l (ls, Some q) = refl

    behind : (o : Option State) → ((r : State) → walk r (xs ++ ys) ≡ goes_on (walk r xs) (λ z. walk z ys)) → note_level o (λ r. walk r (xs ++ ys)) ≡ goes_on (note_level o (λ r. walk r xs)) (λ z. walk z ys)
    behind None h = refl
    behind (Some r) h = ap (λ (w : List ℕ × Option State). (level_state r ∷ w.0, w.1)) (h r) ∙ under (level_state r) (walk r xs)

-- the walk over these tokens ends in a state, with these levels
abbrev Walks : List Token → List ℕ → State → Type 0
Walks ts ls q = walk start ts ≡ (ls, Some q)

walks-on : (pre post : List Token) (ls : List ℕ) (q : State) → Walks pre ls q → walk start (pre ++ post) ≡ (ls ++ (walk q post).0, (walk q post).1)
walks-on pre post ls q e = walk-append start pre post ∙ ap (λ (w : List ℕ × Option State). goes_on w (λ r. walk r post)) e

walks-one : (pre : List Token) (t : Token) (ls : List ℕ) (q r : State) → Walks pre ls q → step q t ≡ Some r → Walks (pre ++ (t ∷ [])) (ls ++ (level_state r ∷ [])) r
walks-one pre t ls q r e s = walks-on pre (t ∷ []) ls q e ∙ ap (λ (x : Option State). (ls ++ (note_level x (λ z. walk z [])).0, (note_level x (λ z. walk z [])).1)) s

-- what a program's tree spells is read
pub complete : (c : Classes) → IsProgram c → Walks (program_text c []) (program_levels c []) (State.between_classes c)
complete c h = (program c [] h).same

-- ---- what is read is the front of a program

walk-is : (ts : List Token) (q r : State) → IsState q → (walk q ts).1 ≡ Some r → IsState r × ((rest : List Token) → state_text r rest ≡ state_text q (ts ++ rest))
walk-is [] q r h e = subst (λ (z : State). IsState z × ((rest : List Token) → state_text z rest ≡ state_text q rest)) (same_Some q r e) (h, λ rest. refl)
walk-is (t ∷ ts) q r h e = behind (step q t) (step-is q t h) (λ y hy ey. walk-is ts y r hy ey) e
  where
    behind : (z : Option State) → Extends (state_text q) t z →
        ((y : State) → IsState y → (walk y ts).1 ≡ Some r → IsState r × ((rest : List Token) → state_text r rest ≡ state_text y (ts ++ rest))) →
        (note_level z (λ y. walk y ts)).1 ≡ Some r → IsState r × ((rest : List Token) → state_text r rest ≡ state_text q (t ∷ (ts ++ rest)))
    behind None x more e = absurd cc
    behind (Some y) x more e = let d = more y x.0 e in (d.0, λ rest. d.1 rest ∙ x.1 (ts ++ rest))

-- tokens that lead to the end of a class are those of a program
tree-of : (ts : List Token) (c : Classes) → (walk start ts).1 ≡ Some (State.between_classes c) → IsProgram c × (program_text c [] ≡ ts)
tree-of ts c e = let d = walk-is ts start (State.between_classes c) tt e in (d.0, d.1 [] ∙ append-nil ts)

pub front : (ts : List Token) (ls : List ℕ) (q : State) → Walks ts ls q → IsFront ts
front ts ls q e =
    let d = ends q in
    let whole : (walk start (ts ++ end_state q)).1 ≡ Some (State.between_classes d.0) = ap (λ (w : List ℕ × Option State). w.1) (walks-on ts (end_state q) ls q e) ∙ d.1 in
    let there = tree-of (ts ++ end_state q) d.0 whole in
    record { more = end_state q; tree = d.0; is_tree = there.0; spells = there.1 }

-- ---- the theorem

never : {A : Type 0} (x : A) → Some x ≡ None → ⊥
never x e = cc

step-dead : (pre : List Token) (t : Token) (ls : List ℕ) (q : State) → Walks pre ls q → step q t ≡ None → ¬ IsFront (pre ++ (t ∷ []))
step-dead pre t ls q e stop f =
    let yes = complete f.tree f.is_tree in
    let same : program_text f.tree [] ≡ pre ++ (t ∷ f.more) = f.spells ∙ append_assoc pre (t ∷ []) f.more in
    let no : (walk start (pre ++ (t ∷ f.more))).1 ≡ None =
    ap (λ (w : List ℕ × Option State). w.1) (walks-on pre (t ∷ f.more) ls q e) ∙ ap (λ (x : Option State). (note_level x (λ z. walk z f.more)).1) stop in
    never (State.between_classes f.tree) (sym (ap (λ (w : List ℕ × Option State). w.1) yes) ∙ ap (λ (x : List Token). (walk start x).1) same ∙ no)

-- a program, however deep, is read to its end
only : (ts : List Token) (c : Classes) → IsProgram c → program_text c [] ≡ ts → (walk start ts).1 ≡ Some (State.between_classes c)
only ts c is spells = ap (λ (x : List Token). (walk start x).1) (sym spells) ∙ ap (λ (w : List ℕ × Option State). w.1) (complete c is)

program-is : (text : List ℕ) (ts : List Token) (ls : List ℕ) (c : Classes) → Walks ts ls (State.between_classes c) → Shallow ls → Parses text ts (meaning text c)
program-is text ts ls c e low =
    let d = tree-of ts c (ap (λ (w : List ℕ × Option State). w.1) e) in
    let levels : ls ≡ program_levels c [] = sym (ap (λ (w : List ℕ × Option State). w.0) e) ∙ ap (λ (x : List Token). (walk start x).0) (sym d.1) ∙ ap (λ (w : List ℕ × Option State). w.0) (complete c d.0) in
    record { tree = c; is_tree = d.0; spells = d.1; means = refl; shallow = subst Shallow levels low }

not-end : (text : List ℕ) (ts : List Token) (ls : List ℕ) (q : State) → Walks ts ls q → ((c : Classes) → q ≡ State.between_classes c → ⊥) → IsFirstDead ts (length ts)
not-end text ts ls q e h = record {
  within = omega arith;
  front = rw take-length (front ts ls q e);
  dead = λ lt. absurd (omega arith);
  ended = λ lt c is spells. h c (same_Some q (State.between_classes c) (sym (ap (λ (w : List ℕ × Option State). w.1) e) ∙ only ts c is spells));
}

at-end : (text : List ℕ) (ts : List Token) (ls : List ℕ) (q : State) → Walks ts ls q → Shallow ls → IsAnswer text ts (answer_at_end q (length ts))
at-end text ts ls (State.between_classes c) e low = program-is text ts ls c e low
at-end text ts ls (State.expects so_far d wanted next) e low = not-end text ts ls (State.expects so_far d wanted next) e (λ a h. cc)
at-end text ts ls (State.in_class c) e low = not-end text ts ls (State.in_class c) e (λ a h. cc)
at-end text ts ls (State.perm_seen k p t) e low = not-end text ts ls (State.perm_seen k p t) e (λ a h. cc)
at-end text ts ls (State.member_named c ty name) e low = not-end text ts ls (State.member_named c ty name) e (λ a h. cc)
at-end text ts ls (State.params_due part) e low = not-end text ts ls (State.params_due part) e (λ a h. cc)
at-end text ts ls (State.type_due k) e low = not-end text ts ls (State.type_due k) e (λ a h. cc)
at-end text ts ls (State.param_named part list) e low = not-end text ts ls (State.param_named part list) e (λ a h. cc)
at-end text ts ls (State.perm_due part list closing) e low = not-end text ts ls (State.perm_due part list closing) e (λ a h. cc)
at-end text ts ls (State.listing o) e low = not-end text ts ls (State.listing o) e (λ a h. cc)
at-end text ts ls (State.after_then o word opening c closing a) e low = not-end text ts ls (State.after_then o word opening c closing a) e (λ b h. cc)
at-end text ts ls (State.local_named o ty name) e low = not-end text ts ls (State.local_named o ty name) e (λ a h. cc)
at-end text ts ls (State.begun o name) e low = not-end text ts ls (State.begun o name) e (λ a h. cc)
at-end text ts ls (State.member_seen o name dot member) e low = not-end text ts ls (State.member_seen o name dot member) e (λ a h. cc)
at-end text ts ls (State.value_due x) e low = not-end text ts ls (State.value_due x) e (λ a h. cc)
at-end text ts ls (State.value_named x name) e low = not-end text ts ls (State.value_named x name) e (λ a h. cc)
at-end text ts ls (State.value_member x name dot member) e low = not-end text ts ls (State.value_member x name dot member) e (λ a h. cc)
at-end text ts ls (State.value_consumed x word name) e low = not-end text ts ls (State.value_consumed x word name) e (λ a h. cc)
at-end text ts ls (State.paren_seen x opening) e low = not-end text ts ls (State.paren_seen x opening) e (λ a h. cc)
at-end text ts ls (State.new_seen x word) e low = not-end text ts ls (State.new_seen x word) e (λ a h. cc)
at-end text ts ls (State.args_due c) e low = not-end text ts ls (State.args_due c) e (λ a h. cc)
at-end text ts ls (State.arg_due k) e low = not-end text ts ls (State.arg_due k) e (λ a h. cc)
at-end text ts ls (State.arg_taken k x) e low = not-end text ts ls (State.arg_taken k x) e (λ a h. cc)
at-end text ts ls (State.operand ps k) e low = not-end text ts ls (State.operand ps k) e (λ a h. cc)
at-end text ts ls (State.after x ps k) e low = not-end text ts ls (State.after x ps k) e (λ a h. cc)

one-more : (pre post : List Token) (t : Token) → take (length pre + 1) (pre ++ (t ∷ post)) ≡ pre ++ (t ∷ [])
one-more pre post t = take-append-add pre (t ∷ post) 1

shallow-more : (ls : List ℕ) (l : ℕ) → Shallow ls → l ≤ deepest → Shallow (ls ++ (l ∷ []))
shallow-more [] l h le = (le, tt)
shallow-more (m ∷ ls) l h le = (h.0, shallow-more ls l h.1 le)

next : (text : List ℕ) (pre post : List Token) (ls : List ℕ) (q : State) → Walks pre ls q → Shallow ls → length ls ≡ length pre → IsAnswer text (pre ++ post) (read_from post q (length pre))
next text pre [] ls q e low long = rw append-nil (at-end text pre ls q e low)
next text pre (t ∷ post) ls q e low long = behind (step q t) refl (λ r h low long. next text (pre ++ (t ∷ [])) post (ls ++ (level_state r ∷ [])) r h low long)
  where
    behind : (x : Option State) → step q t ≡ x →
        ((r : State) → Walks (pre ++ (t ∷ [])) (ls ++ (level_state r ∷ [])) r → Shallow (ls ++ (level_state r ∷ [])) → length (ls ++ (level_state r ∷ [])) ≡ length (pre ++ (t ∷ [])) →
        IsAnswer text ((pre ++ (t ∷ [])) ++ post) (read_from post r (length (pre ++ (t ∷ []))))) →
        IsAnswer text (pre ++ (t ∷ post)) (answer_after (length pre) x (λ r. read_from post r (length pre + 1)))
    behind None h more = record {
      within = omega (arith, length-append pre (t ∷ post));
      front = rw take-append_seam (front pre ls q e);
      dead = λ lt. rw one-more (step-dead pre t ls q e h);
      ended = λ eq. absurd (omega (arith, length-append pre (t ∷ post)));
    }
    behind (Some r) h more = limit (nat_le (level_state r) 100) refl
      where
        final : Walks (pre ++ (t ∷ [])) (ls ++ (level_state r ∷ [])) r
        final = walks-one pre t ls q r e h

        limit : (b : Bool) → nat_le (level_state r) 100 ≡ b → IsAnswer text (pre ++ (t ∷ post)) (cond b (read_from post r (length pre + 1)) (too_deep (length pre)))
        limit true le =
            let l : length (pre ++ (t ∷ [])) ≡ length pre + 1 = length-append pre (t ∷ []) in
            let both : length (ls ++ (level_state r ∷ [])) ≡ length (pre ++ (t ∷ [])) = omega (arith, l, length-append ls (level_state r ∷ [])) in
            subst (λ (n : ℕ). IsAnswer text (pre ++ (t ∷ post)) (read_from post r n)) l
            (subst (λ (x : List Token). IsAnswer text x (read_from post r (length (pre ++ (t ∷ []))))) (append_assoc pre (t ∷ []) post) (more r final (shallow-more ls (level_state r) low (leb-true (level_state r) 100 le)) both))
        limit false gt =
            let f = front (pre ++ (t ∷ [])) (ls ++ (level_state r ∷ [])) r final in
            let along : program_levels f.tree [] ≡ (ls ++ (level_state r ∷ [])) ++ (walk r f.more).0 =
            sym (ap (λ (w : List ℕ × Option State). w.0) (complete f.tree f.is_tree)) ∙ ap (λ (x : List Token). (walk start x).0) f.spells
            ∙ ap (λ (w : List ℕ × Option State). w.0) (walks-on (pre ++ (t ∷ [])) f.more (ls ++ (level_state r ∷ [])) r final) in
            record {
              within = omega (arith, length-append pre (t ∷ post));
              front = record { more = f.more; tree = f.tree; is_tree = f.is_tree; spells = f.spells ∙ sym (ap (λ (x : List Token). x ++ f.more) (one-more pre post t)) };
              before = ls;
              level = level_state r;
              behind = (walk r f.more).0;
              levels = along ∙ append_assoc ls (level_state r ∷ []) (walk r f.more).0;
              here = long;
              shallow = low;
              deep = leb-false (level_state r) 100 gt;
            }

-- parsed: a tree with these tokens that means this program, nowhere too deep; unexpected: the first dead token, however deep; too deep: a front whose last token is the first past the deepest level
pub exact : (text : List ℕ) (tokens : List Token) → IsAnswer text tokens (read tokens)
exact text tokens = next text [] tokens [] start refl tt refl
