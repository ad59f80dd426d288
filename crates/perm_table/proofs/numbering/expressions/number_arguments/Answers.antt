use Rattle.std.proofs.Common.{◌+◌, List, ◌∷◌, [], ◌++◌, length, get_or, take, sym, subst}
use Rattle.std.specs.Prelude.{map}
use Rattle.perm_tree.specs.declared.ast.Arg.TheVariants.{Expr as Plain}
use Rattle.perm_tree.specs.declared.bodies.Argument.{Argument}
use Rattle.perm_tree.specs.declared.bodies.Bodies.{Bodies}
use Rattle.perm_tree.specs.Code as code
use Rattle.perm_tree.specs.CodeNames.{argument}
use Rattle.perm_table.specs.Numbered.{TellsArguments}
use Rattle.perm_table.specs.Numbering.{setting_of}
use Rattle.perm_table.proofs.NumberingArguments.{arguments-none, arguments-more, args-placed-at, map-more}
use Rattle.perm_table.proofs.numbering.expressions.number_arguments.Goals as goal

pub number_argument-requires : goal.number_argument-requires
number_argument-requires c = args-placed-at (length c.args.names.now.tables.program.exprs) c.args.args.now c.each.arg-index (Plain 0) c.requires c.each-test.true

pub each-init : goal.each-init
each-init c = arguments-none c.args.bodies.now

pub each-preserved : goal.each-preserved
each-preserved c =
    let old = c.args.bodies.now in
    let b = c.number_argument.new.bodies in
    let f = argument (setting_of c.args.names.now) in
    let i = c.each.arg-index in
    let xs = c.args.args.now in
    let x = get_or xs i (Plain 0) in
    let more = arguments-more old c.each.bodies b (map f (take i xs)) (f x) c.in_ok-argument.argument c.each.invariant c.in_ok-argument.ensures in
    subst (λ (l : List Argument). let d : Bodies = record b { arguments = l } in TellsArguments old d (map f (take (i + 1) xs))) (sym c.in_ok-push.ensures.ok)
    (subst (λ (vs : List code.Argument). let d : Bodies = record b { arguments = b.arguments ++ c.in_ok-argument.argument ∷ [] } in TellsArguments old d vs) (sym (map-more f xs i (Plain 0) c.each-test.true)) more)
