-- The classes stay as the parts of a class are read.
use Rattle.std.proofs.Common.{◌≡◌, ℕ, List, Option, Some, None, refl, ◌∙◌}
use Rattle.perm_tree.specs.Places.{Listing}
use Rattle.perm_parse.specs.Meaning.{number_at}
use Rattle.perm_parse.proofs.Walks.{IsKept}

-- the same classes
abbrev pub SameClasses : Listing → Listing → Type 0
SameClasses s t = t.classes ≡ s.classes

-- no class comes inside a class
pub same-classes : IsKept SameClasses
same-classes = record {
  stays = λ s. refl;
  then = λ {s} {t} {u} f g. g ∙ f;
  name = λ text t s. number_at-same _ s _;
  expr = λ e s. refl;
  mention = λ i s. refl;
}
  where
    number_at-same : (name : List ℕ) (s : Listing) (o : Option ℕ) → SameClasses s (number_at name s o).1
    number_at-same name s (Some at) = refl
    number_at-same name s None = refl
