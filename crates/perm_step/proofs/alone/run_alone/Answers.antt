use Rattle.std.proofs.Common.{◌≡◌, ◌+◌, refl, subst, arith}
use Rattle.std.proofs.lemmas.Result.{IfOk-weaker}
use Rattle.perm_meaning.specs.declared.Outcome.{Outcome}
use Rattle.perm_meaning.specs.Outcome.{outcome}
use Rattle.perm_meaning.specs.WordHeap.{root_word}
use Rattle.perm_tree.specs.CodeOf.{code_of}
use Rattle.perm_step.specs.declared.alone.Run.{Run}
use Rattle.perm_step.specs.declared.heap.Shortage.TheVariants as shortages
use Rattle.perm_step.specs.Heaps.{Heaped}
use Rattle.perm_step.specs.Opens.{opening_size, IsNotOpened}
use Rattle.perm_step.specs.ParMoves.{final_of}
use Rattle.perm_step.specs.Reports.{IsReport}
use Rattle.perm_step.specs.Tells.{IsFull, Tells}
use Rattle.perm_step.proofs.WholeRuns.OpeningRuns.{begun, begun-comes, bodies-of, has-begun, run-there}
use Rattle.perm_step.proofs.WholeRuns.Reporting.{never-fine, short-tells, through-tells, unopened-full}
use Rattle.perm_step.proofs.StepEvents.{step-claims}
use Rattle.perm_step.proofs.alone.run_alone.Goals as goal

pub open-requires-clause-there : goal.open-requires-clause-there
open-requires-clause-there c = run-there (code_of c.args.checked.now) c.bodies-bodies.result.now (bodies-of c.unit-unit.ensures c.bodies-bodies.ensures) c.checked.ensures

pub returns-in-Err-clause-tells : goal.returns-in-Err-clause-tells
returns-in-Err-clause-tells c =
    let b = c.bodies-bodies.result.now in
    let u = code_of c.args.checked.now in
    let meant = outcome u c.args.input.now c.args.turns c.args.heap in
    let refused = subst (λ (g : Heaped). IsNotOpened (opening_size b c.args.input.now) g.limit c.in-Err.shortage) c.new-heap.ensures c.in-Err.ensures.refused in
    let tells = λ (told : Outcome) (h : (c.in-Err.shortage ≡ shortages.HeapFull) × IsFull told).
    unopened-full u b (bodies-of c.unit-unit.ensures c.bodies-bodies.ensures) c.checked.ensures c.args.input.now c.args.turns c.args.heap c.in-Err.shortage told refused h.0 h.1 in
    IfOk-weaker c.full.result (λ told. (c.in-Err.shortage ≡ shortages.HeapFull) × IsFull told) (Tells meant) tells c.full.ensures

pub to_end-requires : goal.to_end-requires
to_end-requires c =
    let x = has-begun c.unit-unit.ensures c.bodies-bodies.ensures c.resolved.ensures.resolved c.checked.ensures c.requires.turns c.requires.heap c.new-heap.ensures c.in-Ok.ensures.opened in
    let r : Run = record { leaf = c.running.result; waiting = c.new.result; heap = c.open.new.heap } in
    record { coming = (begun x, begun-comes x r c.running.ensures c.new.ensures.items refl) }

pub report-requires : goal.report-requires
report-requires c =
    let x = has-begun c.unit-unit.ensures c.bodies-bodies.ensures c.resolved.ensures.resolved c.checked.ensures c.requires.turns c.requires.heap c.new-heap.ensures c.in-Ok.ensures.opened in
    let r : Run = record { leaf = c.running.result; waiting = c.new.result; heap = c.open.new.heap } in
    let through = c.in-Ok-to_end.ensures.through (begun x) (begun-comes x r c.running.ensures c.new.ensures.items refl) in
    never-fine step-claims (begun x) c.bodies-bodies.result.now c.to_end.new.self c.in-Ok-to_end.end through

pub returns-in-Ok-to_end-clause-tells : goal.returns-in-Ok-to_end-clause-tells
returns-in-Ok-to_end-clause-tells c =
    let x = has-begun c.unit-unit.ensures c.bodies-bodies.ensures c.resolved.ensures.resolved c.checked.ensures c.requires.turns c.requires.heap c.new-heap.ensures c.in-Ok.ensures.opened in
    let r : Run = record { leaf = c.running.result; waiting = c.new.result; heap = c.open.new.heap } in
    let run = c.to_end.new.self in
    let end = c.in-Ok-to_end.end in
    let through = c.in-Ok-to_end.ensures.through (begun x) (begun-comes x r c.running.ensures c.new.ensures.items refl) in
    let root : c.max.result + 1 ≡ root_word c.args.input.now = omega arith in
    let report = subst (λ n. IsReport c.args.turns (final_of run.leaf.control end) run.heap.words n c.report.result) root c.report.ensures in
    through-tells step-claims (begun x) c.bodies-bodies.result.now run end through c.report.result report

pub returns-in-Err-to_end-clause-tells : goal.returns-in-Err-to_end-clause-tells
returns-in-Err-to_end-clause-tells c =
    let x = has-begun c.unit-unit.ensures c.bodies-bodies.ensures c.resolved.ensures.resolved c.checked.ensures c.requires.turns c.requires.heap c.new-heap.ensures c.in-Ok.ensures.opened in
    let r : Run = record { leaf = c.running.result; waiting = c.new.result; heap = c.open.new.heap } in
    let meant = outcome (code_of c.args.checked.now) c.args.input.now c.args.turns c.args.heap in
    let shortage = c.in-Err-to_end.shortage in
    let short = c.in-Err-to_end.ensures.short (begun x) (begun-comes x r c.running.ensures c.new.ensures.items refl) in
    let tells = λ (told : Outcome) (h : (shortage ≡ shortages.HeapFull) × IsFull told). short-tells (begun x) shortage told short h.0 h.1 in
    IfOk-weaker c.full-in-Err-to_end.result (λ told. (shortage ≡ shortages.HeapFull) × IsFull told) (Tells meant) tells c.full-in-Err-to_end.ensures
