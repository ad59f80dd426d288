use Rattle.std.proofs.Common.{◌≡◌, ◌∙◌, ◌<◌, [], ◌∷◌, ◌++◌, length, take, ap, sym, subst, arith, append_assoc, add-one, length-append}
use Rattle.std.proofs.lemmas.List.{length-take-le}
use Rattle.std.proofs.lemmas.Result.{err_from_is_err_and}
use Rattle.perm_step.specs.CallParts.{locals_before}
use Rattle.perm_step.specs.Working.{Working}
use Rattle.perm_step.proofs.Routines.CallArguments.{argument-in, before-stays, found-length, gives-more, room-at, traps-at}
use Rattle.perm_step.proofs.control.Control.push_arguments.Goals as goal

pub argument_below-requires-clause-there : goal.argument_below-requires-clause-there
argument_below-requires-clause-there c = argument-in c.args.operations.now c.args.arguments.now c.loop-a.a-index _ c.loop-a-test.true c.requires.there

pub argument_below-requires-clause-room : goal.argument_below-requires-clause-room
argument_below-requires-clause-room c =
    room-at c.args.self.now c.loop-a.self c.args.arguments.now c.loop-a.a-index _ c.loop-a-test.true (ap (λ (s : Working). s.room) c.loop-a.invariant.2) c.requires.room

pub returns-in_err-word-clause-traps : goal.returns-in_err-word-clause-traps
returns-in_err-word-clause-traps c =
    let p = err_from_is_err_and c.from_residual.result c.from_residual.ensures.1 in
    let found = c.loop-a.invariant.0 in
    let same = before-stays c.args.end c.args.self.now c.loop-a.self found c.requires.end c.loop-a.invariant.2 in
    rw (p.1, p.2) (traps-at c.args.operations.now (locals_before c.args.end c.args.self.now) c.args.arguments.now c.loop-a.a-index _ found (locals_before c.args.end c.loop-a.self)
    c.in_err-word.field-0.0 c.loop-a-test.true c.loop-a.invariant.1 same c.in_err-word.ensures.halted)

pub push_word-requires : goal.push_word-requires
push_word-requires c =
    let count = found-length c.args.operations.now (locals_before c.args.end c.args.self.now) (take c.loop-a.a-index c.args.arguments.now) c.loop-a.invariant.0 c.loop-a.invariant.1 in
    let few : length (take c.loop-a.a-index c.args.arguments.now) ≡ c.loop-a.a-index = length-take-le c.loop-a.a-index c.args.arguments.now (omega arith) in
    let fits : length (c.args.self.now.vars ++ c.loop-a.invariant.0) < c.args.self.now.room.vars = omega (arith, length-append c.args.self.now.vars c.loop-a.invariant.0, c.requires.fits) in
    record { fits = subst (λ (s : Working). length s.vars < s.room.vars) (sym (c.in_ok-word.ensures.same ∙ c.loop-a.invariant.2)) fits }

pub loop-a-preserved : goal.loop-a-preserved
loop-a-preserved c =
    let old = c.args.self.now in
    let i = c.loop-a.a-index in
    let args = c.args.arguments.now in
    let found = c.loop-a.invariant.0 in
    let w = c.in_ok-word.word in
    let vs = locals_before c.args.end old in
    let same = before-stays c.args.end old c.loop-a.self found c.requires.end c.loop-a.invariant.2 in
    let all = gives-more c.args.operations.now vs args i _ found (locals_before c.args.end c.loop-a.self) w c.loop-a-test.true c.loop-a.invariant.1 same c.in_ok-word.ensures.given in
    let pushed = c.push_word.ensures ∙ ap (λ (s : Working). record s { vars = s.vars ++ w ∷ [] }) (c.in_ok-word.ensures.same ∙ c.loop-a.invariant.2) in
    let joined = ap (λ vars. record old { vars = vars }) (append_assoc old.vars found (w ∷ [])) in
    (found ++ w ∷ [], rw add-one all, pushed ∙ joined)
