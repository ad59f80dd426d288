use Rattle.std.proofs.Common.{◌≡◌, ◌≤◌, ◌<◌, length, None, refl, subst, sym}
use Rattle.std.specs.Prelude.{slice_get}
use Rattle.std.proofs.lemmas.Option.{slice_get_read}
use Rattle.std.proofs.lemmas.Bool.{ltb-true}
use Rattle.perm_tree.specs.CodeOf.{code_of}
use Rattle.perm_rules.specs.MethodBodies.{Body, IsRoutineOf}
use Rattle.perm_rules.proofs.BodiesThere.{table-there, routine-there, routine-past}
use Rattle.perm_rules.proofs.body.MethodBody.routine.Goals as goal

pub method_of-requires : goal.method_of-requires
method_of-requires c =
    let within : c.args.n < length c.self.inside.tables.now = ltb-true c.args.n (length c.self.inside.tables.now) (sym c.in-Some.ensures.lookup.0) in
    let here = slice_get_read c.self.inside.tables.now (length c.self.inside.tables.now) c.args.n c.in-Some.table.now refl within c.in-Some.ensures.lookup.1 in
    table-there (record { program = c.self.inside.program.now; tables = c.self.inside.tables.now }) c.args.n c.in-Some.table.now c.self.invariant.resolved here

pub returns-in-Some-clause-some : goal.returns-in-Some-clause-some
returns-in-Some-clause-some c =
    let within : c.args.n < length c.self.inside.tables.now = ltb-true c.args.n (length c.self.inside.tables.now) (sym c.in-Some.ensures.lookup.0) in
    let here = slice_get_read c.self.inside.tables.now (length c.self.inside.tables.now) c.args.n c.in-Some.table.now refl within c.in-Some.ensures.lookup.1 in
    subst (λ (b : Body). IsRoutineOf b.unit c.args.n c.method_of.result.now) c.self.view_is
    (routine-there (record { program = c.self.inside.program.now; tables = c.self.inside.tables.now }) c.args.n c.in-Some.table.now c.method_of.result.now c.self.invariant.resolved here c.method_of.ensures)

pub returns-in-None-clause-none : goal.returns-in-None-clause-none
returns-in-None-clause-none c e =
    let past : length c.self.inside.tables.now ≤ c.args.n = c.in-None.ensures.lookup.3 in
    subst (λ (b : Body). slice_get (code_of b.unit).routines c.args.n ≡ None) c.self.view_is
    (routine-past (record { program = c.self.inside.program.now; tables = c.self.inside.tables.now }) c.args.n c.self.invariant.resolved past)
