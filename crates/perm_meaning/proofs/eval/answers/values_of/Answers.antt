use Rattle.std.proofs.Common.{◌≡◌, ◌∙◌, ℕ, ◌<◌, ◌≤◌, false, List, [], Some, None, get_or, length, sym, ap, arith}
use Rattle.std.specs.Prelude.{map, nat_lt, slice_get}
use Rattle.std.proofs.lemmas.Bool.Decides.{nat_tests}
use Rattle.std.proofs.lemmas.Option.{slice_get-get_or, slice_get_past}
use Rattle.std.proofs.lemmas.Result.{IfOk-weaker}
use Rattle.perm_tree.specs.declared.ast.ClassDecl.{ClassDecl}
use Rattle.perm_tree.specs.declared.ast.FieldDecl.{FieldDecl}
use Rattle.perm_tree.specs.declared.ast.Shape.TheVariants.{Class}
use Rattle.perm_tree.specs.CodeOf.{code_of}
use Rattle.perm_tree.specs.Places.{Listing}
use Rattle.perm_meaning.specs.Objects.{field_types}
use Rattle.perm_meaning.specs.Evaluator.NumberedHeap.{StartsAs, zero_value}
use Rattle.perm_meaning.proofs.Evaluator.NewObjects.{types-there, types-gone, object-start, object-count}
use Rattle.perm_meaning.proofs.eval.answers.values_of.Goals as goal

there : (xs ys : List ClassDecl) (at : ℕ) (c d : ClassDecl) → xs ≡ ys → at < length xs → c ≡ get_or xs at d → slice_get ys at ≡ Some c
there xs ys at c d same within is = ap (λ (l : List ClassDecl). slice_get l at) (sym same) ∙ slice_get-get_or xs at d within ∙ ap (λ z. Some z) (sym is)

gone : (xs ys : List ClassDecl) (at : ℕ) → xs ≡ ys → false ≡ nat_lt at (length xs) → slice_get ys at ≡ None
gone xs ys at same e = ap (λ (l : List ClassDecl). slice_get l at) (sym same) ∙ slice_get_past xs at (let le : length xs ≤ at = grind (arith, nat_tests) in le)

pub returns-in-Some-clause-start : goal.returns-in-Some-clause-start
returns-in-Some-clause-start c =
    let u = c.args.unit.now in
    let d = c.in-Some.declared.now in
    let types = types-there u.program u.tables c.args.class d
    (there c.classes.result.now u.program.classes c.args.class d _ (c.classes.ensures.value ∙ ap (λ (p : Listing). p.classes) c.program.ensures) c.in-Some.ensures.lookup.3.0 c.in-Some.ensures.lookup.1) in
    IfOk-weaker c.first_values.result (λ o. o ≡ map (λ (f : FieldDecl). zero_value f.ty) c.as_slice.result.now) (λ o. StartsAs (code_of u) (Class c.args.class) (length o) o)
    (λ o q. object-start (code_of u) c.args.class (length o) d.fields o types (q ∙ ap (map (λ (f : FieldDecl). zero_value f.ty)) c.as_slice.ensures)) c.first_values.ensures

pub returns-in-Some-clause-count : goal.returns-in-Some-clause-count
returns-in-Some-clause-count c =
    let u = c.args.unit.now in
    let d = c.in-Some.declared.now in
    let types = types-there u.program u.tables c.args.class d
    (there c.classes.result.now u.program.classes c.args.class d _ (c.classes.ensures.value ∙ ap (λ (p : Listing). p.classes) c.program.ensures) c.in-Some.ensures.lookup.3.0 c.in-Some.ensures.lookup.1) in
    IfOk-weaker c.first_values.result (λ o. o ≡ map (λ (f : FieldDecl). zero_value f.ty) c.as_slice.result.now) (λ o. length o ≡ length (field_types (code_of u) c.args.class))
    (λ o q. object-count (code_of u) c.args.class d.fields o types (q ∙ ap (map (λ (f : FieldDecl). zero_value f.ty)) c.as_slice.ensures)) c.first_values.ensures

pub returns-in-None-clause-start : goal.returns-in-None-clause-start
returns-in-None-clause-start c =
    let u = c.args.unit.now in
    let types = types-gone u.program u.tables c.args.class (gone c.classes.result.now u.program.classes c.args.class (c.classes.ensures.value ∙ ap (λ (p : Listing). p.classes) c.program.ensures) c.in-None.ensures.lookup.0) in
    object-start (code_of u) c.args.class (length c.new.result) [] c.new.result types c.new.ensures

pub returns-in-None-clause-count : goal.returns-in-None-clause-count
returns-in-None-clause-count c =
    let u = c.args.unit.now in
    let types = types-gone u.program u.tables c.args.class (gone c.classes.result.now u.program.classes c.args.class (c.classes.ensures.value ∙ ap (λ (p : Listing). p.classes) c.program.ensures) c.in-None.ensures.lookup.0) in
    object-count (code_of u) c.args.class [] c.new.result types c.new.ensures
