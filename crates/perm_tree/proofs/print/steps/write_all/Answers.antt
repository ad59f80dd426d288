use Rattle.std.proofs.Common.{arith, ◌≡◌, ◌∙◌, sym, refl, [], append-nil}
use Rattle.perm_tree.proofs.Printer.Stacks.{empty}
use Rattle.perm_tree.proofs.Printer.Steps.{finished, lighter, popped, stepped}
use Rattle.perm_tree.proofs.print.steps.write_all.Goals as goal

pub loop-part-init : goal.loop-part-init
loop-part-init c = record { whole = refl; fits = c.requires }

pub write_part-requires : goal.write_part-requires
write_part-requires c =
    popped c.args.program.now c.args.text.now.items c.loop-part.text.items c.args.stack.now.items c.loop-part.stack.items c.pop.new.self.items c.in-Some.part c.loop-part.invariant c.in-Some.ensures.items

pub loop-part-preserved : goal.loop-part-preserved
loop-part-preserved c =
    stepped c.args.program.now c.args.text.now.items c.loop-part.text.items c.write_part.new.text.items c.args.stack.now.items c.loop-part.stack.items c.pop.new.self.items c.write_part.new.stack.items c.in-Some.part
    c.loop-part.invariant c.in-Some.ensures.items c.in_ok-write_part.ensures

pub loop-part-smaller : goal.loop-part-smaller
loop-part-smaller c =
    lighter c.args.program.now c.loop-part.text.items c.write_part.new.text.items c.loop-part.stack.items c.pop.new.self.items c.write_part.new.stack.items c.in-Some.part c.in-Some.ensures.items c.in_ok-write_part.ensures

pub returns : goal.returns
returns c =
    let none : c.loop-part.stack.items ≡ [] = empty c.loop-part.stack.items (omega (arith, c.in_default.ensures.cases.0, c.loop-part.stack.ok.0)) in
    record {
      text = finished c.args.program.now c.args.text.now.items c.loop-part.text.items c.args.stack.now.items c.loop-part.stack.items c.loop-part.invariant none;
      empty = sym (append-nil c.pop.new.self.items) ∙ sym c.in_default.ensures.items ∙ none;
    }
