use Rattle.std.proofs.Common.{◌≡◌, length, ap, arith}
use Rattle.std.specs.Prelude.{vec_capacity}
use Rattle.perm_step.specs.Working.{Working}
use Rattle.perm_step.proofs.Routines.CallEnters.{enters-after}
use Rattle.perm_step.proofs.control.Control.invoke.Goals as goal

pub returns-clause-enters : goal.returns-clause-enters
returns-clause-enters c =
    let old = c.args.self.now in
    let s = c.self-2.inside in
    let before = ap (λ (s : Working). length s.vars) c.self.view_is in
    let end : c.len-end.result ≡ length old.vars = omega arith in
    let count : c.len-count.result ≡ length s.vars.items = omega arith in
    enters-after c.args.bodies.now c.args.call.now c.variable-this.result old c.open.new.self c.in_default.ensures.opens c.as_slice.result.now _ c.len-end.result c.saturating_sub.result c.len-count.result _ _ c.push_zeros.new.self _
    c.variable-this.ensures c.requires.callable c.as_slice.ensures end c.self-2.view_is
    (λ i. record {
      at = s.at;
      base = s.base;
      calls = c.push_reserved.ensures.items i;
      vars = s.vars.items;
      printed = s.printed.items;
      depth = s.depth;
      turns = s.turns;
      room = record { calls = c.push_reserved.ensures.capacity i; vars = vec_capacity s.vars; printed = vec_capacity s.printed; values = length s.values.items };
    })
    count c.saturating_sub.ensures c.push_zeros.ensures c.self-3.view_is
