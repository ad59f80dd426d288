-- A unit made by hand in which a method is called on an object of another class: it is accepted, but its code isn't whole. Where it were, no law could hold of it: after the call nothing is a picture.
use Rattle.std.proofs.Common.{◌≡◌, Option, Some, None, [], ◌∷◌, refl}
use Rattle.std.specs.Prelude.{pos, true, false}
use Rattle.perm_tree.specs.declared.ast.Perm.TheVariants.{Immutable, Writable}
use Rattle.perm_tree.specs.declared.ast.Shape.TheVariants.{Class, Array}
use Rattle.perm_tree.specs.declared.ast.Ty.TheVariants.{Long, Ref}
use Rattle.perm_tree.specs.declared.ast.Span.{Span}
use Rattle.perm_tree.specs.Code.{Expression, LongLit, Invoke, Code, Return, Do, Shares, Routine, UnitCode}
use Rattle.perm_rules.specs.Goes.{IsAccepted}
use Rattle.perm_meaning.specs.Machine.{Here}
use Rattle.perm_meaning.specs.NamedHeap.{State}
use Rattle.perm_meaning.specs.Outcome.{opening_state}
use Rattle.perm_core.specs.Core.{step}
use Rattle.perm_core.specs.Whole.{IsWhole}
use Rattle.perm_core.specs.Picture.{IsPicture}
use Rattle.perm_core.specs.Regions.{Labels}

abbrev here : Span
here = record { start = 0; end = 0 }

abbrev back : Code
back = Return here (Expression (LongLit (pos 0)))

-- `Run` calls a method of class 1 on its own object, which is of class 0
abbrev run : Routine
run = record { class = 0; receiver = Writable; result = Long; params = Ref Immutable Array ∷ []; vars = Ref Writable (Class 0) ∷ Ref Immutable Array ∷ []; code = Do here (Invoke None Shares false 0 1 []) back }

abbrev foreign : Routine
foreign = record { class = 1; receiver = Writable; result = Long; params = []; vars = Ref Writable (Class 1) ∷ []; code = back }

abbrev u : UnitCode
u = record { classes = [] ∷ [] ∷ []; routines = run ∷ foreign ∷ []; main = 0; run = 0 }

accepted : IsAccepted u
accepted = ((_, (refl, (refl, refl))), ((_, (refl, refl)), tt))

-- its code isn't whole
pub foreign-not-whole : IsWhole u → ⊥
foreign-not-whole w = let e = (w.routines 0 run refl).calls in let no : false ≡ true = e in cc

abbrev start : State
start = opening_state u [] 10 run

abbrev after : State
after = get (step u 100 start Here)
  where
    get : Option State → State
    get (Some t) = t
    get None = start

-- after the call there is no picture
pub lost : (labels : Labels) → IsPicture u labels after → ⊥
lost labels p = let e = p.variables in let no : false ≡ true = e in cc
