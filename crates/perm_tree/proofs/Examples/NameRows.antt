-- Worked refusals of names, by computation.
use Rattle.std.specs.Prelude.{◌≡◌, ℕ, zero, suc, true, List, [], ◌∷◌, None, Some, codes, refl}
use Rattle.perm_tree.specs.declared.ast.Span.{Span}
use Rattle.perm_tree.specs.declared.ast.Ident.{Ident}
use Rattle.perm_tree.specs.declared.ast.Perm.TheVariants.{Isolated, Immutable, Readable, Writable}
use Rattle.perm_tree.specs.declared.errors.Limit.TheVariants.{Variables}
use Rattle.perm_tree.specs.declared.errors.TableError.TheVariants.{DuplicateName, UnknownClass, NoMain, BadMain, TooMany}
use Rattle.perm_tree.specs.Names.{names_refusal}
use Rattle.perm_tree.proofs.Builder.{Writes, Source, listing_of, text_of, flat_listing_of, flat_text_of, place_in, class, field, «method», param, long, ref, array, num, truth, value, word, digits_within, declare, declare_as, init, expr, new, if_else}
use Rattle.perm_tree.proofs.ParPrograms.{p3, p4, p4_read, p4_both, p4_shared, p9, p10, p11, p11_shared}
use Rattle.perm_tree.proofs.Programs.{run_method, main_only, p1, p1_gone, p2, p5, p5_new, p5_test, p6, p6_immutable, p7, p8, p12, p13, p14}

abbrev span : ℕ → ℕ → Span
span start end = record { start = start; end = end }

-- ---------- no Main ----------
-- the empty text
pub empty_text : names_refusal (listing_of []) ≡ Some NoMain
empty_text = refl

-- a class Main without a method Run
pub no_run : names_refusal (listing_of (main_only (field long "Run" ∷ []))) ≡ Some NoMain
no_run = refl

-- ---------- equal names ----------
abbrev two_classes : Source
two_classes = class "A" [] ∷ class "A" [] ∷ []

pub two_classes-text : flat_text_of two_classes ≡ codes "class A { } class A { } "
two_classes-text = refl

-- two classes of one name: refused at 1:19
pub two_classes-refused : names_refusal (flat_listing_of two_classes) ≡ Some (DuplicateName (span 18 19))
two_classes-refused = refl

pub two_classes-place : place_in (flat_text_of two_classes) 18 ≡ (1, 19)
two_classes-place = refl

abbrev two_members : Source
two_members = class "A" («method» long "x" [] Readable [] (value (num 0)) ∷ field long "x" ∷ []) ∷ []

-- a field and a method of one name: refused at the later one, 1:48
pub two_members-refused : names_refusal (flat_listing_of two_members) ≡ Some (DuplicateName (span 47 48))
two_members-refused = refl

pub two_members-place : place_in (flat_text_of two_members) 47 ≡ (1, 48)
two_members-place = refl

abbrev two_blocks : Source
two_blocks =
    main_only (run_method (if_else (truth true) (init long "a" (expr (num 1)) ∷ []) (init long "a" (expr (num 2)) ∷ []) ∷ []) (num 0) ∷ [])

-- two variables of one name, in blocks that don't enclose each other: refused at 6:12
pub two_blocks-refused : names_refusal (listing_of two_blocks) ≡ Some (DuplicateName (span 117 118))
two_blocks-refused = refl

pub two_blocks-place : place_in (text_of two_blocks) 117 ≡ (6, 12)
two_blocks-place = refl

abbrev as_parameter : Source
as_parameter = main_only (run_method (declare long "input" ∷ []) (num 0) ∷ [])

-- a variable that is named as a parameter
pub as_parameter-refused : names_refusal (listing_of as_parameter) ≡ Some (DuplicateName (span 68 73))
as_parameter-refused = refl

-- ---------- unknown classes ----------
abbrev unknown_field : Source
unknown_field = main_only (field (ref Isolated "B") "b" ∷ [])

pub unknown_field-text : flat_text_of unknown_field ≡ codes "class Main { isolated B b; } "
unknown_field-text = refl

-- in the type of a field: refused at 1:23
pub unknown_field-refused : names_refusal (flat_listing_of unknown_field) ≡ Some (UnknownClass (span 22 23))
unknown_field-refused = refl

pub unknown_field-place : place_in (flat_text_of unknown_field) 22 ≡ (1, 23)
unknown_field-place = refl

abbrev unknown_new : Source
unknown_new = main_only (run_method (init (ref Isolated "Main") "b" (new "B") ∷ []) (num 0) ∷ [])

-- behind `new`
pub unknown_new-refused : names_refusal (listing_of unknown_new) ≡ Some (UnknownClass (span 85 86))
unknown_new-refused = refl

abbrev unknown_first : Source
unknown_first = class "A" (field (ref Isolated "B") "a" ∷ field long "a" ∷ []) ∷ []

-- the first in the text is answered
pub unknown_first-refused : names_refusal (flat_listing_of unknown_first) ≡ Some (UnknownClass (span 19 20))
unknown_first-refused = refl

-- ---------- another Run ----------
abbrev run_without : Source
run_without = main_only («method» long "Run" [] Writable [] (value (num 0)) ∷ [])

pub run_without-text : flat_text_of run_without ≡ codes "class Main { long Run() writable { return 0; } } "
run_without-text = refl

-- without a parameter: refused at 1:19
pub run_without-refused : names_refusal (flat_listing_of run_without) ≡ Some (BadMain (span 18 21))
run_without-refused = refl

pub run_without-place : place_in (flat_text_of run_without) 18 ≡ (1, 19)
run_without-place = refl

abbrev run_readable : Source
run_readable = main_only («method» long "Run" (param (array Immutable) "x" ∷ []) Readable [] (value (num 0)) ∷ [])

-- with another permission
pub run_readable-refused : names_refusal (flat_listing_of run_readable) ≡ Some (BadMain (span 18 21))
run_readable-refused = refl

abbrev run_isolated : Source
run_isolated = main_only («method» long "Run" (param (array Isolated) "x" ∷ []) Writable [] (value (num 0)) ∷ [])

-- with another parameter
pub run_isolated-refused : names_refusal (flat_listing_of run_isolated) ≡ Some (BadMain (span 18 21))
run_isolated-refused = refl

-- ---------- limits ----------
-- the names of so many declarations: `v` and a number
abbrev numbered : {A : Type 0} → (Writes Ident → A) → ℕ → List A
numbered f zero = []
numbered f (suc n) = f (word (118 ∷ digits_within 4 n)) ∷ numbered f n

abbrev locals : ℕ → Source
locals n = main_only (run_method (numbered (declare_as long) n) (num 0) ∷ [])

-- 256 variables with `this` and the parameter
pub locals-most : names_refusal (listing_of (locals 254)) ≡ None
locals-most = refl

pub locals-many : names_refusal (flat_listing_of (locals 255)) ≡ Some (TooMany (span 2748 2750) Variables)
locals-many = refl

-- ---------- the worked programs ----------
-- nothing is refused of the names of a program
abbrev IsFine : Source → Type 0
IsFine s = names_refusal (listing_of s) ≡ None

pub straight_programs : IsFine p1 × IsFine p1_gone × IsFine p2 × IsFine p5 × IsFine p5_new × IsFine p5_test × IsFine p6 × IsFine p6_immutable
straight_programs = (refl, refl, refl, refl, refl, refl, refl, refl)

pub other_programs : IsFine p7 × IsFine p8 × IsFine p12 × IsFine p13 × IsFine p14
other_programs = (refl, refl, refl, refl, refl)

pub par_programs : IsFine (p3 2) × IsFine p4 × IsFine p4_read × IsFine p4_both × IsFine p4_shared × IsFine p9 × IsFine p10 × IsFine p11 × IsFine p11_shared
par_programs = (refl, refl, refl, refl, refl, refl, refl, refl, refl)
