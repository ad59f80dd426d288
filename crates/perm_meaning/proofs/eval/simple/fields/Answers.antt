use Rattle.std.proofs.Common.{◌≡◌, ◌∙◌, ℕ, ◌<◌, ◌≤◌, false, List, Some, None, get_or, length, sym, ap, arith}
use Rattle.std.specs.Prelude.{nat_lt, slice_get}
use Rattle.std.proofs.lemmas.Bool.Decides.{nat_tests}
use Rattle.std.proofs.lemmas.Option.{slice_get-get_or, slice_get_past}
use Rattle.perm_tree.specs.declared.ast.ClassDecl.{ClassDecl}
use Rattle.perm_tree.specs.Places.{Listing}
use Rattle.perm_meaning.proofs.Evaluator.Asks.{class-there, class-gone}
use Rattle.perm_meaning.proofs.eval.simple.fields.Goals as goal

there : (xs ys : List ClassDecl) (at : ℕ) (c d : ClassDecl) → xs ≡ ys → at < length xs → c ≡ get_or xs at d → slice_get ys at ≡ Some c
there xs ys at c d same within is = ap (λ (l : List ClassDecl). slice_get l at) (sym same) ∙ slice_get-get_or xs at d within ∙ ap (λ z. Some z) (sym is)

gone : (xs ys : List ClassDecl) (at : ℕ) → xs ≡ ys → false ≡ nat_lt at (length xs) → slice_get ys at ≡ None
gone xs ys at same e = ap (λ (l : List ClassDecl). slice_get l at) (sym same) ∙ slice_get_past xs at (let le : length xs ≤ at = grind (arith, nat_tests) in le)

pub returns-in-Some : goal.returns-in-Some
returns-in-Some c =
    let same = c.classes.ensures.value ∙ ap (λ (p : Listing). p.classes) c.program.ensures in
    ap (λ n. Some n) c.len.ensures.value
    ∙ sym (class-there c.args.unit.now.program c.args.unit.now.tables c.args.class c.in-Some.declared.now
    (there c.classes.result.now c.args.unit.now.program.classes c.args.class c.in-Some.declared.now _ same c.in-Some.ensures.lookup.3.0 c.in-Some.ensures.lookup.1))

pub returns-in-None : goal.returns-in-None
returns-in-None c =
    let same = c.classes.ensures.value ∙ ap (λ (p : Listing). p.classes) c.program.ensures in
    sym (class-gone c.args.unit.now.program c.args.unit.now.tables c.args.class (gone c.classes.result.now c.args.unit.now.program.classes c.args.class same c.in-None.ensures.lookup.0))
