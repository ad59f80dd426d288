-- Dumps of the heaps that the worked programs leave, by computation.
use Rattle.std.specs.Prelude.{◌≡◌, ℕ, ℤ, pos, negsuc, List, [], ◌∷◌, codes, refl}
use Rattle.std.specs.Fmt.{digits}
use Rattle.perm_tree.proofs.Builder.{Source, listing_of, unit_of}
use Rattle.perm_tree.proofs.Programs.{p1, p2, p12, p14}
use Rattle.perm_tree.proofs.ParPrograms.{p4}
use Rattle.perm_meaning.specs.Names.{same_name, root_name}
use Rattle.perm_meaning.specs.Outcome.{Outcome, Ran, RanFull, RanStuck, outcome}
use Rattle.perm_meaning.proofs.Examples.Shown.{code, turn_limit, heap_words}
use Rattle.perm_meaning.specs.Layout.{same_spot, objects_in, root_spot}
use Rattle.perm_canon.specs.DumpText.{dump_text}
use Rattle.perm_canon.proofs.Walk.{walk}

abbrev dump_if : Source → Outcome → List ℕ
dump_if s (Ran r) = dump_text same_name (unit_of (listing_of s)).program r.objects (walk same_name r.objects root_name)
dump_if s RanFull = []
dump_if s RanStuck = []

-- the dump of the objects that a run leaves
abbrev dump : Source → List ℤ → List ℕ
dump s input = dump_if s (outcome (code s) input turn_limit heap_words)

two_fields : dump p1 [] ≡ codes "#0 Main x=0 y=0\n"
unfolding digits
two_fields = refl

list_summed : dump p2 (pos 5 ∷ pos 6 ∷ pos 7 ∷ []) ≡ codes "#0 Main list=#1\n#1 Cell value=7 next=#2\n#2 Cell value=6 next=#3\n#3 Cell value=5 next=null\n"
unfolding digits
list_summed = refl

child_bumped : dump p4 [] ≡ codes "#0 Main child=#1 mark=5\n#1 Child n=1\n"
unfolding digits
child_bumped = refl

-- a ring, whose two objects share a leaf
ring : dump p12 [] ≡ codes "#0 Main ring=#1\n#1 Ring next=#2 leaf=#3\n#2 Ring next=#1 leaf=#3\n#3 Leaf n=9\n"
unfolding digits
ring = refl

input_kept : dump p14 (pos 5 ∷ negsuc 5 ∷ []) ≡ codes "#0 Main kept=#1 on=true\n#1 long[2] 5 -6\n"
unfolding digits
input_kept = refl

-- ---------- words ----------
-- the words of the ring as one branch lays them out: the empty input, Main, the leaf and the two objects of the ring
abbrev ring_words : List ℕ
ring_words = 0 ∷ 4 ∷ 9 ∷ 6 ∷ 3 ∷ 4 ∷ 3 ∷ []

abbrev word_dump : Source → List ℕ → ℕ → List ℕ
word_dump s words base =
    dump_text same_spot (unit_of (listing_of s)).program (objects_in (code s) words) (walk same_spot (objects_in (code s) words) (root_spot (code s) base))

ring_in_words : word_dump p12 ring_words 1 ≡ dump p12 []
unfolding digits
ring_in_words = refl

-- the same objects at other places: the numbers go by first meeting, and not by place
moved_ring_words : word_dump p12 (5 ∷ 5 ∷ 7 ∷ 0 ∷ 2 ∷ 7 ∷ 9 ∷ []) 0 ≡ dump p12 []
unfolding digits
moved_ring_words = refl

-- an array of two numbers at base 0, whose reference bears its length
input_in_words : word_dump p14 (5 ∷ 18446744073709551610 ∷ 8589934593 ∷ 1 ∷ []) 2 ≡ dump p14 (pos 5 ∷ negsuc 5 ∷ [])
unfolding digits
input_in_words = refl
