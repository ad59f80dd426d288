-- The opening on words shows the opening on names.
use Rattle.std.proofs.Common.{◌≡◌, ℕ, zero, suc, ◌+◌, ◌<◌, ◌≤◌, ◌^◌, max, Bool, true, false, Some, None, List, [], ◌∷◌, length, refl, sym, ap, ◌∙◌, subst, arith}
use Rattle.std.specs.Prelude.{nat_lt, ℤ, slice_get, map}
use Rattle.std.proofs.lemmas.Bool.Decides.{nat_tests}
use Rattle.perm_tree.specs.declared.ast.Shape.TheVariants.{Class}
use Rattle.perm_tree.specs.declared.ast.Ty.{Ty}
use Rattle.perm_tree.specs.Code.{Routine, UnitCode}
use Rattle.perm_meaning.specs.Values.{Value, Number, Reference}
use Rattle.perm_meaning.specs.Words.{number_word}
use Rattle.perm_meaning.specs.Names.{Name, input_name, root_name, root_mark, same_name}
use Rattle.perm_meaning.specs.Objects.{Object, size, zero_of, field_types, new_object, input_object, no_objects, this_or, add, value_in}
use Rattle.perm_meaning.specs.NamedHeap.{Heap}
use Rattle.perm_meaning.specs.WordHeap as on_words
use Rattle.perm_meaning.specs.WordHeap.{Cells, opening_word, input_word, root_word}
use Rattle.perm_meaning.specs.Outcome.{opening_need, opening_heap, opening_state}
use Rattle.perm_meaning.specs.Shows.{Bases, IsWordOf, IsWithin, HeapShown, IsShownBy}
use Rattle.perm_meaning.specs.Literals.{CodeFits, NumbersFit}
use Rattle.perm_meaning.proofs.Leads.{some-inj, none-some}
use Rattle.perm_meaning.proofs.SameName.{name-true}
use Rattle.perm_meaning.proofs.OnWords.NewObjects.{base_or, based, grows, itself, made}
use Rattle.perm_meaning.proofs.OnWords.Numbers.{number-back, word-below}
use Rattle.perm_meaning.proofs.OnWords.EffectsAlike.{first-alike}
use Rattle.perm_meaning.proofs.OnWords.Kept.{not-itself, IsBefore, AreBefore, TaskKept}

lt-true : (a b : ℕ) → nat_lt a b ≡ true → a < b
lt-true a b e = grind (arith, nat_tests)

lt-false : (a b : ℕ) → nat_lt a b ≡ false → b ≤ a
lt-false a b e = grind (arith, nat_tests)

-- ---------- the input array ----------
-- as many values as numbers
many : (ns : List ℤ) → length {A = Value Name} (map Number ns) ≡ length ns
many [] = refl
many (n ∷ ns) = ap (λ k. suc k) (many ns)

item-word : (b : Bases) (ns : List ℤ) (f : ℕ) (v : Value Name) → NumbersFit ns → slice_get (map Number ns) f ≡ Some v → IsWordOf b (Some v) (opening_word ns f)
item-word b [] f v h e = none-some e
item-word b (n ∷ ns) zero v h e = subst (λ z. IsWordOf b (Some z) (number_word n)) (some-inj e) (number-back n h.0, word-below n h.0)
item-word b (n ∷ ns) (suc f) v h e = item-word b ns f v h.1 e

-- behind the input nothing was written
pub past-input : (ns : List ℤ) (i : ℕ) → length ns ≤ i → opening_word ns i ≡ 0
past-input [] i h = refl
past-input (n ∷ ns) zero h = absurd (omega arith)
past-input (n ∷ ns) (suc i) h = past-input ns i (omega arith)

module _ (input : List ℤ) where
  abbrev pub object : Object Name
  object = input_object input

  abbrev pub first_bases : Bases
  first_bases m = base_or (same_name m input_name) 0 None

  abbrev pub first_heap : Heap
  first_heap = record { objects = add same_name no_objects input_name object; given = size (length input) }

  abbrev pub first_cells : Cells
  first_cells = record { word = opening_word input; given = size (length input) }

  is-input : (m : Name) (k : ℕ) (t : Bool) → same_name m input_name ≡ t → base_or t 0 None ≡ Some k → (m ≡ input_name) × (0 ≡ k)
  is-input m k true d p = (name-true m input_name d, some-inj p)
  is-input m k false d p = none-some p

  input-at : (m : Name) (k : ℕ) → first_bases m ≡ Some k → (m ≡ input_name) × (0 ≡ k)
  input-at m k p = is-input m k (same_name m input_name) refl p

  object-is : (o : Object Name) (t : Bool) → this_or t object None ≡ Some o → object ≡ o
  object-is o true e = some-inj e
  object-is o false e = none-some e

  words-of : (o : Object Name) → object ≡ o → max 1 (length o.values) ≡ size (length input)
  words-of o e = ap (λ (z : Object Name). max 1 (length z.values)) (sym e) ∙ ap (λ z. max 1 z) (many input)

  first-based : (o : Object Name) (t : Bool) → this_or t object None ≡ Some o → (k : ℕ) × (base_or t 0 None ≡ Some k)
  first-based o true e = (0, refl)
  first-based o false e = none-some e

  first-made : (k : ℕ) (t : Bool) → base_or t 0 None ≡ Some k → (o : Object Name) × (this_or t object None ≡ Some o)
  first-made k true e = (object, refl)
  first-made k false e = none-some e

  first-field : (fit : NumbersFit input) (k f : ℕ) (v : Value Name) (t : Bool) → base_or t 0 None ≡ Some k → value_in (this_or t object None) f ≡ Some v → IsWordOf first_bases (Some v) (opening_word input (k + f))
  first-field fit k f v true p e = subst (λ z. IsWordOf first_bases (Some v) (opening_word input z)) (let z = some-inj p in omega arith) (item-word first_bases input f v fit e)
  first-field fit k f v false p e = none-some p

  first-unused : (i : ℕ) → ((n : Name) (k : ℕ) (o : Object Name) → first_bases n ≡ Some k → first_heap.objects n ≡ Some o → IsWithin i k o → ⊥) → opening_word input i ≡ 0
  first-unused i d = go (nat_lt i (size (length input))) refl
    where
      go : (t : Bool) → nat_lt i (size (length input)) ≡ t → opening_word input i ≡ 0
      go true e = absurd (d input_name 0 object refl refl (omega arith, (let x = lt-true i (size (length input)) e in let y = words-of object refl in omega (arith, x, y))))
      go false e = past-input input i (let x = lt-false i (size (length input)) e in omega arith)

  pub first-shown : NumbersFit input → HeapShown first_bases first_heap first_cells
  first-shown fit =
      record {
        given = refl;
        based = λ n o e. first-based o (same_name n input_name) e;
        made = λ n k p. first-made k (same_name n input_name) p;
        fields = λ n k f v p e. first-field fit k f v (same_name n input_name) p e;
        below = λ n k o p e.
            (let x = (input-at n k p).1 in let y = words-of o (object-is o (same_name n input_name) e) in omega (arith, x, y));
        apart = λ n m k l i o q p p' e e' x x'. (input-at n k p).0 ∙ sym (input-at m l p').0;
        unused = first-unused;
        filler = λ n k o p e z.
            (let x = (input-at n k p).1 in
            let y = ap (λ (j : Object Name). length j.values) (object-is o (same_name n input_name) e) in
            past-input input k (let w = many input in omega (arith, w, x, y, z)));
      }

-- ---------- the opening ----------
pub fields-many : (ts : List Ty) → length (map (zero_of {R = Name}) ts) ≡ length ts
fields-many [] = refl
fields-many (t ∷ ts) = ap (λ n. suc n) (fields-many ts)

module _ (u : UnitCode) (input : List ℤ) (fit : NumbersFit input) where
  abbrev pub fields : ℕ
  fields = length (field_types u u.main)

  -- the bases of the two objects
  abbrev pub opening_bases : Bases
  opening_bases = based u (first_bases input) (first_heap input) (first_cells input) (first-shown input fit) root_name (Class u.main) fields refl (fields-many (field_types u u.main))

  pub root-base : opening_bases root_name ≡ Some (size (length input))
  root-base = itself u (first_bases input) (first_heap input) (first_cells input) (first-shown input fit) root_name (Class u.main) fields refl (fields-many (field_types u u.main)) (same_name root_name root_name) refl

  input-base : opening_bases input_name ≡ Some 0
  input-base = grows u (first_bases input) (first_heap input) (first_cells input) (first-shown input fit) root_name (Class u.main) fields refl (fields-many (field_types u u.main)) input_name 0 refl

  heap-shown : HeapShown opening_bases (opening_heap u input) (record { word = opening_word input; given = opening_need u input })
  heap-shown = made u (first_bases input) (first_heap input) (first_cells input) (first-shown input fit) root_name (Class u.main) fields refl (fields-many (field_types u u.main))

  -- the opening is shown
  pub opening-shown : (limit turns : ℕ) (r : Routine) → opening_need u input ≤ limit → limit < 2 ^ 32 → IsShownBy opening_bases (opening_state u input turns r) (on_words.opening_state u input turns r)
  opening-shown limit turns r le small =
      record {
        task =
            record {
              own =
                  record {
                    vars = first-alike u opening_bases r (Some (Reference root_name 0)) (root_word input) (Some (Reference input_name (length input)) ∷ []) (input_word input ∷ [])
                        (size (length input), root-base, omega arith, omega arith, refl) ((0, input-base, omega arith, omega arith, refl), tt);
                    routine = refl;
                    depth = refl;
                    printed = refl;
                    mark = tt;
                  };
              turns = refl;
              code = refl;
              stack = tt;
              close = tt;
            };
        heap = heap-shown;
      }

-- the names to come are new
pub opening-kept : (u : UnitCode) (limit : ℕ) (input : List ℤ) (turns : ℕ) (r : Routine) → CodeFits r.code → TaskKept [] (opening_heap u input).objects (opening_state u input turns r).task
opening-kept u limit input turns r f = record { path = refl; before = before; code = f; stack = tt }
  where
    is_one : (n : Name) → (n ≡ input_name) → IsBefore root_mark n
    is_one n e = subst (λ z. IsBefore root_mark z) (sym e) (record { own = λ z. omega arith; sides = λ k s z. absurd (not-itself (k, s) [] z) })

    is_root : (n : Name) → (n ≡ root_name) → IsBefore root_mark n
    is_root n e = subst (λ z. IsBefore root_mark z) (sym e) (record { own = λ z. omega arith; sides = λ k s z. absurd (not-itself (k, s) [] z) })

    before : AreBefore root_mark (opening_heap u input).objects
    before n o e = go (same_name n root_name) (same_name n input_name) refl refl e
      where
        go : (s t : Bool) → same_name n root_name ≡ s → same_name n input_name ≡ t → this_or s (new_object u (Class u.main) 0) (this_or t (input_object input) None) ≡ Some o → IsBefore root_mark n
        go true t d d' e = is_root n (name-true n root_name d)
        go false true d d' e = is_one n (name-true n input_name d')
        go false false d d' e = none-some e
