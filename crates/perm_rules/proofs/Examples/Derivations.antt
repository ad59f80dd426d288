-- Derivations of whole units: two written out, and others by the law that what isn't refused has one.
use Rattle.std.proofs.Common.{◌≡◌, Option, Some, None, refl, sym, ◌∙◌}
use Rattle.perm_tree.specs.declared.errors.TypeError.{TypeError}
use Rattle.perm_tree.specs.CodeOf.{code_of}
use Rattle.perm_tree.proofs.Programs.{unit, p1, p2, p5}
use Rattle.perm_tree.proofs.ParPrograms.{p3, p4, p11}
use Rattle.perm_rules.specs.FirstRefused.{unit_refusal}
use Rattle.perm_rules.specs.Goes.{IsAccepted}
use Rattle.perm_rules.proofs.Refusals.{accepted-unrefused}

-- six statements and a `return`
p1-derived : IsAccepted (code_of (unit p1))
p1-derived = ((_, (refl, (refl, (refl, (refl, (refl, (refl, (refl, refl)))))))), tt)

-- two declarations, a par whose sides assign one variable each, a print and a `return`
p11-derived : IsAccepted (code_of (unit p11))
p11-derived = ((_, (refl, (refl, (refl, record { left_ends = _; right_ends = _; left = (refl, refl); right = (refl, refl); rest = (refl, (refl, refl)) })))), tt)

-- a recover block with a loop, and a recursive method
p2-derived : IsAccepted (code_of (unit p2))
p2-derived = (accepted-unrefused (code_of (unit p2))).1 refl

-- isolated results, and a par in each call of a recursion
p3-derived : IsAccepted (code_of (unit (p3 2)))
p3-derived = (accepted-unrefused (code_of (unit (p3 2)))).1 refl

-- a lent variable beside a field of `this`
p4-derived : IsAccepted (code_of (unit p4))
p4-derived = (accepted-unrefused (code_of (unit p4))).1 refl

some-isnt-none : (o : Option TypeError) (e : TypeError) → o ≡ Some e → o ≡ None → ⊥
some-isnt-none o e f g = let both : Some e ≡ None = sym f ∙ g in cc

-- a loop that would consume a variable again
p5-isnt : IsAccepted (code_of (unit p5)) → ⊥
p5-isnt d = some-isnt-none (unit_refusal (code_of (unit p5))) _ refl ((accepted-unrefused (code_of (unit p5))).0 d)
