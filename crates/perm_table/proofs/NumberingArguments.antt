-- Arguments one after another.
use Rattle.std.proofs.Common.{◌≡◌, ◌∙◌, ℕ, zero, suc, ◌+◌, ◌<◌, List, [], ◌∷◌, ◌++◌, length, get_or, take, refl, sym, ap, arith, append_assoc, append-nil}
use Rattle.std.specs.Prelude.{map}
use Rattle.std.proofs.lemmas.List.{map-append, take_more}
use Rattle.perm_tree.specs.declared.ast.Arg.{Arg}
use Rattle.perm_tree.specs.declared.bodies.Argument.{Argument}
use Rattle.perm_tree.specs.declared.bodies.Bodies.{Bodies}
use Rattle.perm_tree.specs.declared.bodies.Operation.{Operation}
use Rattle.perm_tree.specs.BodyTerms.{argument_of, AreArgumentsIn}
use Rattle.perm_tree.specs.Code as code
use Rattle.perm_tree.specs.Places.{ArgPlaced, ArgsPlaced}
use Rattle.perm_table.specs.Numbered.{TellsArgument, TellsArguments}
use Rattle.perm_table.proofs.Growth.{Grows-refl, Grows-trans, arguments-in-stay, arguments-stay}

AreArgumentsIn-append : (all : List Operation) (xs ys : List Argument) → AreArgumentsIn all xs → AreArgumentsIn all ys → AreArgumentsIn all (xs ++ ys)
AreArgumentsIn-append all [] ys are more = more
AreArgumentsIn-append all (x ∷ xs) ys are more = (are.0, AreArgumentsIn-append all xs ys are.1 more)

-- no argument is added at first
pub arguments-none : (b : Bodies) → TellsArguments b b []
arguments-none b = record { grows = Grows-refl b; added = []; arguments = sym (append-nil b.arguments); inside = tt; values = refl }

-- one argument more
pub arguments-more : (old mid new : Bodies) (vs : List code.Argument) (v : code.Argument) (a : Argument) → TellsArguments old mid vs → TellsArgument mid new v a
    → TellsArguments old (record new { arguments = new.arguments ++ a ∷ [] }) (vs ++ v ∷ [])
arguments-more old mid new vs v a tells one = record {
  grows = Grows-trans old mid made tells.grows (record {
    operations = one.grows.operations;
    arguments = (a ∷ [], ap (λ l. l ++ a ∷ []) one.arguments);
    sides = one.grows.sides;
    steps = one.grows.steps;
    places = one.grows.places;
    entries = one.grows.entries;
    run = one.grows.run;
    fields = one.grows.fields;
  });
  added = tells.added ++ a ∷ [];
  arguments = ap (λ l. l ++ a ∷ []) (one.arguments ∙ tells.arguments) ∙ append_assoc old.arguments tells.added (a ∷ []);
  inside =
      AreArgumentsIn-append new.operations tells.added (a ∷ []) (arguments-in-stay mid.operations new.operations one.grows.operations tells.added tells.inside) (one.inside, tt);
  values =
      map-append (argument_of new.operations) tells.added (a ∷ [])
      ∙ (λ j. arguments-stay mid.operations new.operations one.grows.operations tells.added tells.inside j ++ one.value j ∷ [])
      ∙ ap (λ l. l ++ v ∷ []) tells.values;
}
  where
    made : Bodies
    made = record new { arguments = new.arguments ++ a ∷ [] }

-- what is made of one element more
pub map-more : {A B : Type 0} (f : A → B) (xs : List A) (i : ℕ) (d : A) → i < length xs → map f (take (i + 1) xs) ≡ map f (take i xs) ++ f (get_or xs i d) ∷ []
map-more f xs i d within = ap (map f) (take_more xs i d within) ∙ map-append f (take i xs) (get_or xs i d ∷ [])

-- an argument of those that are placed is placed
pub args-placed-at : (exprs : ℕ) (xs : List Arg) (i : ℕ) (d : Arg) → ArgsPlaced exprs xs → i < length xs → ArgPlaced exprs (get_or xs i d)
args-placed-at exprs [] i d are within = absurd (omega arith)
args-placed-at exprs (x ∷ xs) zero d are within = are.0
args-placed-at exprs (x ∷ xs) (suc i) d are within = args-placed-at exprs xs i d are.1 (omega arith)
