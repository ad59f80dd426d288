-- What a comment at the front of a text is.
use Rattle.std.proofs.Common.{◌≡◌, ℕ, ◌+◌, ◌-◌, ◌<◌, ◌≤◌, Bool, true, List, [], ◌∷◌, ◌++◌, length, take, drop, codes, suc, eqb, sym, refl, ◌∙◌, ap, arith, append_assoc}
use Rattle.std.specs.Prelude.{take_while, Contains}
use Rattle.std.specs.List.{list_all, starts_with}
use Rattle.std.proofs.lemmas.Bool.{false≢true, not-false, eqb-true}
use Rattle.std.proofs.lemmas.List.{take-append-drop, take_rest, drop-drop, length-append, drop_at, length-take-le}
use Rattle.std.proofs.lemmas.Bool.Decides.{Decides-eqb}
use Rattle.std.proofs.lemmas.Slice.Eq.{starts_is}
use Rattle.std.proofs.lemmas.List.Elements.{All-contains}
use Rattle.std.proofs.lemmas.List.Sums.{AllPass-from_list_all, take_while-cons}
use Rattle.perm_lex.specs.Lexes.{Begins, EndsLine}
use Rattle.perm_lex.specs.Lexes.Piece.{line_comment, block_comment}
use Rattle.perm_lex.specs.Reading.{ReadsPiece, IsUnclosed, is_in_line}
use Rattle.perm_lex.proofs.Runs.{Stops, run_of}

ends_line : (after : List ℕ) → Stops is_in_line after → EndsLine after
ends_line [] h = tt
ends_line (b ∷ bs) h = eqb-true b 10 (not-false (eqb b 10) h)

no_line_feed : (inside : List ℕ) → list_all is_in_line inside ≡ true → Contains inside 10 → ⊥
no_line_feed inside all h = false≢true (All-contains (λ b. is_in_line b ≡ true) inside 10 (AllPass-from_list_all is_in_line inside all) h)

pub line_found : (text : List ℕ) (len at : ℕ) → Begins (codes "//") text → len ≡ length (take_while is_in_line text) → ReadsPiece at text len []
line_found text len at begins e =
    let inside = begins.0 in
    let run = run_of is_in_line inside (length (take_while is_in_line inside)) refl in
    record {
      piece = line_comment run.front;
      after = run.after;
      whole = begins.1 ∙ ap (λ l. 47 ∷ 47 ∷ l) run.whole;
      is = (no_line_feed run.front run.passes, ends_line run.after run.stops);
      long = e ∙ ap (λ t. length (take_while is_in_line t)) begins.1
          ∙ ap length (take_while-cons is_in_line 47 (47 ∷ inside) ∙ ap (λ l. 47 ∷ l) (take_while-cons is_in_line 47 inside)) ∙ ap (λ n. suc (suc n)) run.long;
      told = refl;
    }

-- the rest of the text behind so many bytes does not begin with the end of a comment
abbrev pub NotEnded : List ℕ → ℕ → Type 0
NotEnded text n = Begins (codes "*/") (drop n text) → ⊥

-- what the test for the end of a comment says
pub ended_test : (text : List ℕ) (place : ℕ) (r : Bool) → r ≡ starts_with eqb (take (length text - place) (drop place text)) (codes "*/") → (r ≡ true → Begins (codes "*/") (drop place text)) × (Begins (codes "*/") (drop place text) → r ≡ true)
ended_test text place r e =
    let test = starts_is Decides-eqb (drop place text) (42 ∷ 47 ∷ []) r (e ∙ ap (λ t. starts_with eqb t (42 ∷ 47 ∷ [])) (take_rest text place)) in
    ((λ h. (_, test.0 h)), (λ b. test.1 b.0 b.1))

drop_front : (x y : ℕ) (front back : List ℕ) → drop (2 + length front) (x ∷ y ∷ (front ++ back)) ≡ back
drop_front x y front back = drop_at (x ∷ y ∷ front) back (2 + length front) (omega arith)

pub comment_found : (text : List ℕ) (place len at : ℕ) → Begins (codes "/*") text → 2 ≤ place → place < length text → ((n : ℕ) → 2 ≤ n → n < place → NotEnded text n) → Begins (codes "*/") (drop place text) → len ≡ place + 2 → ReadsPiece at text len []
comment_found text place len at begins low high earlier ended e =
    let body = begins.0 in
    let after = ended.0 in
    let n = place - 2 in
    let inside = take n body in
    let sum : 2 + n ≡ place = omega arith in
    let left : drop n body ≡ 42 ∷ 47 ∷ after =
    drop-drop n 2 (47 ∷ 42 ∷ body) ∙ ap (λ k. drop k (47 ∷ 42 ∷ body)) sum ∙ ap (drop place) (sym begins.1) ∙ ended.1 in
    let body_is : body ≡ inside ++ (42 ∷ 47 ∷ after) = sym (take-append-drop n body) ∙ ap (λ l. inside ++ l) left in
    let text_is : text ≡ 47 ∷ 42 ∷ ((inside ++ (42 ∷ 47 ∷ [])) ++ after) =
    begins.1 ∙ ap (λ l. 47 ∷ 42 ∷ l) (body_is ∙ sym (append_assoc inside (42 ∷ 47 ∷ []) after)) in
    let size : length text ≡ 2 + length body = ap length begins.1 ∙ omega arith in
    let inside_len : length inside ≡ n = length-take-le n body (omega arith) in
    record {
      piece = block_comment inside;
      after = after;
      whole = text_is;
      is = go inside after inside_len text_is;
      long = let total : length (inside ++ (42 ∷ 47 ∷ [])) ≡ length inside + 2 = length-append inside (42 ∷ 47 ∷ []) in omega arith;
      told = refl;
    }
  where
    go : (inside after : List ℕ) → length inside ≡ place - 2 → text ≡ 47 ∷ 42 ∷ ((inside ++ (42 ∷ 47 ∷ [])) ++ after) → (front back : List ℕ) → inside ++ (42 ∷ 47 ∷ []) ≡ front ++ (42 ∷ 47 ∷ back) → back ≡ []
    go inside after size text_is front [] same = refl
    go inside after size text_is front (b ∷ bs) same =
        let lengths : length inside + 2 ≡ length front + (2 + (length bs + 1)) = sym (length-append inside (42 ∷ 47 ∷ [])) ∙ ap length same ∙ length-append front (42 ∷ 47 ∷ b ∷ bs) ∙ omega arith in
        let again : text ≡ 47 ∷ 42 ∷ (front ++ (42 ∷ 47 ∷ b ∷ (bs ++ after))) =
        text_is ∙ ap (λ l. 47 ∷ 42 ∷ (l ++ after)) same ∙ ap (λ l. 47 ∷ 42 ∷ l) (append_assoc front (42 ∷ 47 ∷ b ∷ bs) after) in
        absurd (earlier (2 + length front) (omega arith) (omega arith)
        (b ∷ (bs ++ after), ap (drop (2 + length front)) again ∙ drop_front 47 42 front (42 ∷ 47 ∷ b ∷ (bs ++ after))))

pub comment_unclosed : (text : List ℕ) → Begins (codes "/*") text → ((n : ℕ) → 2 ≤ n → n < length text → NotEnded text n) → IsUnclosed text
comment_unclosed text begins never = (
  begins.0,
  begins.1,
  λ front back e.
      let text_is : text ≡ 47 ∷ 42 ∷ (front ++ (42 ∷ 47 ∷ back)) = begins.1 ∙ ap (λ l. 47 ∷ 42 ∷ l) e in
      let size : length text ≡ 2 + (length front + (2 + length back)) = ap length text_is ∙ ap (λ k. suc (suc k)) (length-append front (42 ∷ 47 ∷ back)) ∙ omega arith in
      never (2 + length front) (omega arith) (omega arith) (back, ap (drop (2 + length front)) text_is ∙ drop_front 47 42 front (42 ∷ 47 ∷ back)),
)
