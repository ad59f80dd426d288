-- What stands at the front of a text: a word, a number or a sign, and no longer one.
use Rattle.std.proofs.Common.{◌≡◌, ◌≢◌, ℕ, ◌+◌, ◌<◌, ◌≤◌, Bool as Boolean, true, false, ◌⊎◌, inl, inr, ⊎_elim, List, [], ◌∷◌, ◌++◌, length, take, drop, Option, Some, None, unwrap_or, find, leb, eqb, sym, refl, ◌∙◌, ap, subst, arith, append_assoc}
use Rattle.std.specs.Prelude.{slice_index, take_while, is_some}
use Rattle.std.specs.Char.{is_ascii_digit}
use Rattle.std.specs.Int.{is_in_range}
use Rattle.std.specs.List.{list_all, starts_with}
use Rattle.std.specs.Str.Parse.{digits_value}
use Rattle.std.proofs.lemmas.Bool.{both_ways, and_parts, and_from, or_left, or_right, or_cases, or_parts, cases_Bool, cond-true, cond-false, leb-true, eqb-true, false≢true}
use Rattle.std.proofs.lemmas.Bool.Decides.{Decides-eqb}
use Rattle.std.proofs.lemmas.Slice.Eq.{starts_is, bytes_eq-Decides}
use Rattle.std.proofs.lemmas.List.{length-append, nil_from_length}
use Rattle.perm_tree.specs.declared.tokens.TokenKind.{TokenKind}
use Rattle.perm_tree.specs.declared.tokens.TokenKind.TheVariants.{Name, Number}
use Rattle.perm_lex.specs.declared.table.TheConstants.{KEYWORDS, SIGNS}
use Rattle.perm_lex.specs.Tokens.{spelling, is_letter, is_word_byte, IsWord, IsToken, IsLongest, value_of, largest}
use Rattle.perm_lex.specs.Reading.{IsLexeme, IsTooLarge, NoSign}
use Rattle.perm_lex.proofs.Runs.{run_of, run_first, head_of, all_append, all_weaker, nothing_passes}
use Rattle.perm_lex.proofs.Spellings.{Among, IsKeyword, IsSign, spelled, spells, spelled_so, IsDescending, descending}

-- a keyword or a sign is a token
pub token_spelled : (k : TokenKind) (bytes : List ℕ) → spelling k ≡ Some bytes → IsToken k bytes
token_spelled Name bytes e = absurd (cc)
token_spelled Number bytes e = absurd (cc)
token_spelled k bytes e = e

pub value-spelled : (k : TokenKind) (bytes : List ℕ) → spelling k ≡ Some bytes → value_of k bytes ≡ 0
value-spelled Name bytes e = absurd (cc)
value-spelled Number bytes e = absurd (cc)
value-spelled k bytes e = refl

-- a token is a name, a number, a keyword or a sign
abbrev pub TokenIs : TokenKind → List ℕ → Type 0
TokenIs k bytes = ((k ≡ Name) × IsToken Name bytes) ⊎ (((k ≡ Number) × IsToken Number bytes) ⊎ ((spelling k ≡ Some bytes) × (IsKeyword k bytes ⊎ IsSign k bytes)))

pub token_cases : (k : TokenKind) (bytes : List ℕ) → IsToken k bytes → TokenIs k bytes
token_cases Name bytes t = inl (refl, t)
token_cases Number bytes t = inr (inl (refl, t))
token_cases k bytes t = inr (inr (t, spelled k bytes t))

in_range : (low high b : ℕ) → is_in_range low high b ≡ true → (low ≤ b) × (b ≤ high)
in_range low high b h =
    let parts = and_parts _ _ h in (leb-true _ _ parts.0, leb-true _ _ parts.1)

pub letter_no_digit : (b : ℕ) → is_letter b ≡ true → is_ascii_digit b ≡ true → ⊥
letter_no_digit b letter digit =
    let d = in_range 48 57 b digit in
    ⊎_elim
    (λ alphabetic. ⊎_elim
    (λ upper. let u = in_range 65 90 b upper in absurd (omega arith))
    (λ lower. let u = in_range 97 122 b lower in absurd (omega arith))
    (or_cases _ _ alphabetic))
    (λ underscore. let u = eqb-true b 95 underscore in absurd (omega arith))
    (or_cases _ _ letter)

word_all : (bytes : List ℕ) → IsWord bytes → list_all is_word_byte bytes ≡ true
word_all [] w = absurd w
word_all (b ∷ bs) w = and_from (is_word_byte b) (list_all is_word_byte bs) (or_left (is_letter b) (is_ascii_digit b) w.0) w.1

-- a token that begins with a letter is a word
pub word_token : (k : TokenKind) (b : ℕ) (bs : List ℕ) → is_letter b ≡ true → IsToken k (b ∷ bs) → list_all is_word_byte (b ∷ bs) ≡ true
word_token k b bs letter t = ⊎_elim
    (λ name. word_all (b ∷ bs) name.1.0)
    (⊎_elim
    (λ number. all_weaker is_ascii_digit is_word_byte (λ x h. or_right (is_letter x) (is_ascii_digit x) h) (b ∷ bs) number.1.1)
    (λ s. ⊎_elim (λ keyword. word_all (b ∷ bs) keyword.0) (λ sign. absurd (both_ways _ sign.1 (or_left (is_letter b) (is_ascii_digit b) letter))) s.1))
    (token_cases k (b ∷ bs) t)

pub word_begins : (bytes : List ℕ) → IsWord bytes → is_letter (slice_index bytes 0) ≡ true
word_begins [] w = absurd w
word_begins (b ∷ bs) w = w.0

-- a token that begins with a digit is a number
pub digit_token : (k : TokenKind) (b : ℕ) (bs : List ℕ) → is_ascii_digit b ≡ true → IsToken k (b ∷ bs) → (k ≡ Number) × (list_all is_ascii_digit (b ∷ bs) ≡ true)
digit_token k b bs digit t = ⊎_elim
    (λ name. absurd (letter_no_digit b (word_begins (b ∷ bs) name.1.0) digit))
    (⊎_elim
    (λ number. (number.0, number.1.1))
    (λ s. ⊎_elim (λ keyword. absurd (letter_no_digit b (word_begins (b ∷ bs) keyword.0) digit)) (λ sign. absurd (both_ways _ sign.1 (or_right (is_letter b) (is_ascii_digit b) digit))) s.1))
    (token_cases k (b ∷ bs) t)

-- a token that begins with neither a letter nor a digit is a sign
pub sign_token : (k : TokenKind) (bytes after text : List ℕ) → text ≡ bytes ++ after → is_word_byte (slice_index text 0) ≡ false → IsToken k bytes → (spelling k ≡ Some bytes) × Among k SIGNS
sign_token k [] after text e first t = ⊎_elim
    (λ name. absurd name.1.0)
    (⊎_elim (λ number. absurd (number.1.0 refl)) (λ s. ⊎_elim (λ keyword. absurd keyword.0) (λ sign. absurd (sign.0 refl)) s.1))
    (token_cases k [] t)
sign_token k (b ∷ bs) after text e first t =
    let none : is_word_byte b ≡ false = ap (λ l. is_word_byte (slice_index l 0)) (sym e) ∙ first in
    let parts = or_parts (is_letter b) (is_ascii_digit b) none in
    ⊎_elim
    (λ name. absurd (both_ways _ parts.0 (word_begins (b ∷ bs) name.1.0)))
    (⊎_elim
    (λ number. absurd (both_ways _ parts.1 (and_parts _ _ number.1.1).0))
    (λ s. ⊎_elim (λ keyword. absurd (both_ways _ parts.0 (word_begins (b ∷ bs) keyword.0))) (λ sign. (s.0, sign.2)) s.1))
    (token_cases k (b ∷ bs) t)

-- what a search through kinds finds
pub found_among : (test : TokenKind → Boolean) (ks : List TokenKind) (k : TokenKind) → find test ks ≡ Some k → (test k ≡ true) × Among k ks
found_among test [] k e = absurd (cc)
found_among test (j ∷ js) k e = ⊎_elim
    (λ yes'. let same : j ≡ k = (let f = sym (cond-true (test j) (Some j) (find test js) yes') ∙ e in cc) in (ap test (sym same) ∙ yes', inl (sym same)))
    (λ no'. let later = found_among test js k (sym (cond-false (test j) (Some j) (find test js) no') ∙ e) in (later.0, inr later.1))
    (cases_Bool (test j))

pub none_among : (test : TokenKind → Boolean) (ks : List TokenKind) (k : TokenKind) → find test ks ≡ None → Among k ks → test k ≡ true → ⊥
none_among test [] k e among h = among
none_among test (j ∷ js) k e among h = ⊎_elim
    (λ yes'. let f = sym (cond-true (test j) (Some j) (find test js) yes') ∙ e in absurd (cc))
    (λ no'. ⊎_elim
    (λ same. both_ways (test j) no' (ap test (sym same) ∙ h))
    (λ later. none_among test js k (sym (cond-false (test j) (Some j) (find test js) no') ∙ e) later h)
    among)
    (cases_Bool (test j))

pub among_all : (p : TokenKind → Boolean) (ks : List TokenKind) (k : TokenKind) → list_all p ks ≡ true → Among k ks → p k ≡ true
among_all p [] k h among = absurd among
among_all p (j ∷ js) k h among =
    let parts = and_parts (p j) (list_all p js) h in
    ⊎_elim (λ same. ap p same ∙ parts.0) (λ later. among_all p js k parts.1 later) among

abbrev spelled_len : TokenKind → ℕ
spelled_len k = length (unwrap_or (spelling k) [])

-- of kinds in the order of their length, the first that passes is the longest
first_longest : (test : TokenKind → Boolean) (ks : List TokenKind) (j k : TokenKind) → IsDescending ks → find test ks ≡ Some k → Among j ks → test j ≡ true → spelled_len j ≤ spelled_len k
first_longest test [] j k order e among h = absurd among
first_longest test (i ∷ is) j k order e among h = ⊎_elim
    (λ yes'.
    let same : i ≡ k = (let f = sym (cond-true (test i) (Some i) (find test is) yes') ∙ e in cc) in
    subst (λ t. spelled_len j ≤ spelled_len t) same
    (⊎_elim
    (λ here. let eq = ap spelled_len here in omega arith)
    (λ later. leb-true (spelled_len j) (spelled_len i) (among_all (λ t. leb (spelled_len t) (spelled_len i)) is j order.0 later))
    among))
    (λ no'. ⊎_elim
    (λ here. absurd (both_ways (test i) no' (ap test (sym here) ∙ h)))
    (λ later. first_longest test is j k order.1 (sym (cond-false (test i) (Some i) (find test is) no') ∙ e) later h)
    among)
    (cases_Bool (test i))

some_spelling : (o : Option (List ℕ)) → is_some o ≡ true → o ≡ Some (unwrap_or o [])
some_spelling None h = absurd (false≢true h)
some_spelling (Some x) h = refl

-- a sign is spelled
pub sign_spelled : (k : TokenKind) → Among k SIGNS → spelling k ≡ Some (unwrap_or (spelling k) [])
sign_spelled k among = some_spelling (spelling k) (among_all (λ t. is_some (spelling t)) SIGNS k refl among)

abbrev pub begins_so : List ℕ → TokenKind → Boolean
begins_so text k = starts_with eqb text (unwrap_or (spelling k) [])

begins_spelled : (text after bytes : List ℕ) (k : TokenKind) → spelling k ≡ Some bytes → text ≡ bytes ++ after → begins_so text k ≡ true
begins_spelled text after bytes k e whole =
    (starts_is Decides-eqb text (unwrap_or (spelling k) []) (begins_so text k) refl).1 after (whole ∙ ap (λ o. unwrap_or o [] ++ after) (sym e))

pub sign_found : (text : List ℕ) (k : TokenKind) → is_word_byte (slice_index text 0) ≡ false → find (begins_so text) SIGNS ≡ Some k → IsLexeme text (record { kind = k; len = spelled_len k; value = 0 })
sign_found text k first e =
    let found = found_among (begins_so text) SIGNS k e in
    let bytes = unwrap_or (spelling k) [] in
    let is' = sign_spelled k found.1 in
    let whole = (starts_is Decides-eqb text bytes (begins_so text k) refl).0 found.0 in
    let after = drop (length bytes) text in
    record {
      bytes = bytes;
      after = after;
      whole = whole;
      is = token_spelled k bytes is';
      longest = λ j more rest split t.
          let longer : text ≡ (bytes ++ more) ++ rest = whole ∙ ap (λ l. bytes ++ l) split ∙ sym (append_assoc bytes more rest) in
          let sign = sign_token j (bytes ++ more) rest text longer first t in
          let le = first_longest (begins_so text) SIGNS j k descending e sign.1 (begins_spelled text rest (bytes ++ more) j sign.0 longer) in
          let size : spelled_len j ≡ length bytes + length more = ap (λ o. length (unwrap_or o [])) sign.0 ∙ length-append bytes more in
          nil_from_length more (omega arith);
      long = refl;
      told = sym (value-spelled k bytes is');
    }

pub no_sign : (text : List ℕ) → is_word_byte (slice_index text 0) ≡ false → find (begins_so text) SIGNS ≡ None → NoSign text
no_sign text first e k bytes after is' whole =
    let sign = sign_token k bytes after text whole first (token_spelled k bytes is') in
    none_among (begins_so text) SIGNS k e sign.1 (begins_spelled text after bytes k is' whole)

-- what a word is, and that it is the longest
pub word_found : (text word : List ℕ) (len : ℕ) (found : Option TokenKind) (kind : TokenKind) → is_letter (slice_index text 0) ≡ true → len ≡ length (take_while is_word_byte text) → word ≡ take len text →
    found ≡ find (spells word) KEYWORDS → kind ≡ unwrap_or found Name → IsLexeme text (record { kind = kind; len = len; value = 0 })
word_found text word len found kind letter long same found_is kind_is =
    let run = run_of is_word_byte text len long in
    let some = run_first is_word_byte text len refl (or_left (is_letter (slice_index text 0)) (is_ascii_digit (slice_index text 0)) letter) run in
    let head = head_of run.front run.after text run.whole some in
    let letter' : is_letter head.first ≡ true = ap is_letter head.same ∙ letter in
    let passes : list_all is_word_byte (head.first ∷ head.others) ≡ true = ap (list_all is_word_byte) (sym head.is) ∙ run.passes in
    let word' : IsWord run.front = subst IsWord (sym head.is) (letter', (and_parts _ _ passes).1) in
    let search' : find (spells run.front) KEYWORDS ≡ found = ap (λ w. find (spells w) KEYWORDS) (run.taken ∙ sym same) ∙ sym found_is in
    let told = go run.front some word' letter' head.is found search' in
    record {
      bytes = run.front;
      after = run.after;
      whole = run.whole;
      is = subst (λ k. IsToken k run.front) (sym kind_is) told.0;
      longest = λ k more rest split t.
          nothing_passes is_word_byte run.after more rest run.stops split
          (all_append is_word_byte (head.first ∷ head.others) more (word_token k head.first (head.others ++ more) letter' (subst (λ f. IsToken k (f ++ more)) head.is t))).1;
      long = run.long;
      told = sym (ap (λ k. value_of k run.front) kind_is ∙ told.1);
    }
  where
    go : (bytes : List ℕ) → bytes ≢ [] → IsWord bytes → {b : ℕ} {bs : List ℕ} → is_letter b ≡ true → bytes ≡ b ∷ bs → (o : Option TokenKind) → find (spells bytes) KEYWORDS ≡ o → IsToken (unwrap_or o Name) bytes × (value_of (unwrap_or o Name) bytes ≡ 0)
    go bytes some w {b} {bs} letter e None h = (
      (
        w,
        λ k s. ⊎_elim
            (λ keyword. none_among (spells bytes) KEYWORDS k h keyword.1 ((bytes_eq-Decides (unwrap_or (spelling k) []) bytes).1 (ap (λ o. unwrap_or o []) s)))
            (λ sign. both_ways _ (sym (ap (λ l. is_word_byte (slice_index l 0)) e) ∙ sign.1) (or_left (is_letter b) (is_ascii_digit b) letter))
            (spelled k bytes s),
      ),
      refl,
    )
    go bytes some w letter e (Some k) h =
        let test = (found_among (spells bytes) KEYWORDS k h).0 in
        let s = spelled_so k bytes some ((bytes_eq-Decides (unwrap_or (spelling k) []) bytes).0 test) in
        (token_spelled k bytes s, value-spelled k bytes s)

-- digits at the front, and no more digits behind them
record IsNumberRun (text digits : List ℕ) (len : ℕ) : Type 0 where
  after : List ℕ
  whole : text ≡ digits ++ after
  is : IsToken Number digits
  longest : IsLongest digits after
  long : len ≡ length digits

number_run : (text digits : List ℕ) (len : ℕ) → is_ascii_digit (slice_index text 0) ≡ true → len ≡ length (take_while is_ascii_digit text) → digits ≡ take len text → IsNumberRun text digits len
number_run text digits len digit long same =
    let run = run_of is_ascii_digit text len long in
    let some = run_first is_ascii_digit text len refl digit run in
    let head = head_of run.front run.after text run.whole some in
    let front_is : run.front ≡ digits = run.taken ∙ sym same in
    let longest' : IsLongest run.front run.after = λ k more rest split t.
    nothing_passes is_ascii_digit run.after more rest run.stops split
    (all_append is_ascii_digit (head.first ∷ head.others) more (digit_token k head.first (head.others ++ more) (ap is_ascii_digit head.same ∙ digit) (subst (λ f. IsToken k (f ++ more)) head.is t)).1).1 in
    record {
      after = run.after;
      whole = run.whole ∙ ap (λ f. f ++ run.after) front_is;
      is = ((λ e. some (front_is ∙ e)), ap (list_all is_ascii_digit) (sym front_is) ∙ run.passes);
      longest = subst (λ f. IsLongest f run.after) front_is longest';
      long = run.long ∙ ap length front_is;
    }

pub all_digits : (text digits : List ℕ) (len : ℕ) → len ≡ length (take_while is_ascii_digit text) → digits ≡ take len text → list_all is_ascii_digit digits ≡ true
all_digits text digits len long same =
    let run = run_of is_ascii_digit text len long in ap (list_all is_ascii_digit) (same ∙ sym run.taken) ∙ run.passes

pub number_found : (text digits : List ℕ) (len n : ℕ) → is_ascii_digit (slice_index text 0) ≡ true → len ≡ length (take_while is_ascii_digit text) → digits ≡ take len text → n ≡ digits_value 10 digits →
    IsLexeme text (record { kind = Number; len = len; value = n })
number_found text digits len n digit long same told =
    let r = number_run text digits len digit long same in
    record { bytes = digits; after = r.after; whole = r.whole; is = r.is; longest = r.longest; long = r.long; told = told }

pub too_large : (text digits : List ℕ) (len : ℕ) → is_ascii_digit (slice_index text 0) ≡ true → len ≡ length (take_while is_ascii_digit text) → digits ≡ take len text → largest < digits_value 10 digits → IsTooLarge text len
too_large text digits len digit long same large =
    let r = number_run text digits len digit long same in
    record { bytes = digits; after = r.after; whole = r.whole; is = r.is; longest = r.longest; long = r.long; large = large }
