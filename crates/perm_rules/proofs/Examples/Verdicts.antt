-- Programs that are accepted, and programs that are refused, by computation.
use Rattle.std.specs.Prelude.{◌≡◌, ℕ, Option, Some, None, refl, List, [], take, drop, codes, ◌-◌}
use Rattle.perm_tree.specs.declared.errors.TypeKind.{TypeKind}
use Rattle.perm_tree.specs.declared.errors.TypeKind.TheVariants.{Gone, NeedsConsume, Hidden, ParShared, ParPermission}
use Rattle.perm_tree.specs.declared.errors.TypeError.{TypeError}
use Rattle.perm_tree.specs.CodeOf.{code_of}
use Rattle.perm_tree.proofs.Builder.{Source, place_in, text_of}
use Rattle.perm_tree.proofs.Programs.{unit, p1, p1_gone, p2, p5, p5_new, p5_test, p6, p6_immutable, p7, p8, p12, p13, p14}
use Rattle.perm_tree.proofs.ParPrograms.{p3, p4, p4_read, p4_both, p4_shared, p9, p10, p11, p11_shared}
use Rattle.perm_rules.specs.FirstRefused.{unit_refusal}

-- what is told of a program: that it is accepted, or the kind of its first refused part with the line and the column at which that starts
pub data Verdict : Type 0 where
  Accepted : Verdict
  Refused : (k : TypeKind) (line column : ℕ) → Verdict

abbrev refused_at : TypeKind → ℕ × ℕ → Verdict
refused_at k place = Refused k place.0 place.1

abbrev verdict_by : Source → Option TypeError → Verdict
verdict_by s None = Accepted
verdict_by s (Some e) = refused_at e.kind (place_in (text_of s) e.span.start)

abbrev pub verdict : Source → Verdict
verdict s = verdict_by s (unit_refusal (code_of (unit s)))

-- ---------- accepted ----------
-- two fields, read back and added
p1-accepted : verdict p1 ≡ Accepted
p1-accepted = refl

-- a list that a recover block builds in a loop, raised to immutable
p2-accepted : verdict p2 ≡ Accepted
p2-accepted = refl

-- recursion with a par in each call, and isolated results
p3-accepted : verdict (p3 2) ≡ Accepted
p3-accepted = refl

-- a par whose left side lends an isolated variable, and whose right side writes a field of `this`
p4-accepted : verdict p4 ≡ Accepted
p4-accepted = refl

-- a loop that makes anew what it consumes
p5_new-accepted : verdict p5_new ≡ Accepted
p5_new-accepted = refl

-- an immutable variable within a recover block
p6_immutable-accepted : verdict p6_immutable ≡ Accepted
p6_immutable-accepted = refl

-- items of an array
p8-accepted : verdict p8 ≡ Accepted
p8-accepted = refl

-- a par of prints
p9-accepted : verdict p9 ≡ Accepted
p9-accepted = refl

-- a par whose right side makes an array of its own
p10-accepted : verdict p10 ≡ Accepted
p10-accepted = refl

-- a par whose sides assign one variable each
p11-accepted : verdict p11 ≡ Accepted
p11-accepted = refl

-- a ring of writable fields with an immutable leaf
p12-accepted : verdict p12 ≡ Accepted
p12-accepted = refl

-- a method that calls itself
p13-accepted : verdict p13 ≡ Accepted
p13-accepted = refl

-- an immutable array kept in a field
p14-accepted : verdict p14 ≡ Accepted
p14-accepted = refl

-- ---------- refused ----------
-- a consumed variable is read
p1_gone-refused : verdict p1_gone ≡ Refused Gone 9 5
p1_gone-refused = refl

-- an isolated field is read without a take
p4_read-refused : verdict p4_read ≡ Refused NeedsConsume 15 5
p4_read-refused = refl

-- both sides write through `this`
p4_both-refused : verdict p4_both ≡ Refused ParPermission 17 5
p4_both-refused = refl

-- the right side reads what the left one assigns
p4_shared-refused : verdict p4_shared ≡ Refused ParShared 17 5
p4_shared-refused = refl

-- both sides assign one variable
p11_shared-refused : verdict p11_shared ≡ Refused ParShared 5 5
p11_shared-refused = refl

-- the second round would consume the variable again
p5-refused : verdict p5 ≡ Refused Gone 9 7
p5-refused = refl

-- the condition of a loop is entered without what its body loses
p5_test-refused : verdict p5_test ≡ Refused Gone 8 5
p5_test-refused = refl

-- a readable variable from outside stands in a recover block
p6-refused : verdict p6 ≡ Refused Hidden 10 7
p6-refused = refl

-- an argument consumes the receiver, which is looked at after it
p7-refused : verdict p7 ≡ Refused Gone 9 5
p7-refused = refl

-- ---------- what the span of a refusal holds ----------
abbrev stretch : Source → Option TypeError → List ℕ
stretch s None = []
stretch s (Some e) = take (e.span.end - e.span.start) (drop e.span.start (text_of s))

-- the text that is refused
abbrev pub refused_text : Source → List ℕ
refused_text s = stretch s (unit_refusal (code_of (unit s)))

-- a simple statement with its semicolon
p6-text : refused_text p6 ≡ codes "w.other = r;"
p6-text = refl

p4_read-text : refused_text p4_read ≡ codes "isolated Child d = this.child;"
p4_read-text = refl

-- of a loop its head, up to the bracket
p5_test-text : refused_text p5_test ≡ codes "while (b != null)"
p5_test-text = refl

-- of a par its keyword
p4_both-text : refused_text p4_both ≡ codes "par"
p4_both-text = refl
