use Rattle.std.proofs.Common.{sym, inl, inr}
use Rattle.std.proofs.lemmas.Bool.{cases_lt}
use Rattle.perm_tree.proofs.SetWords.{member_small}
use Rattle.perm_par.proofs.modes.holds.Goals as goal

pub returns-in-Err : goal.returns-in-Err
returns-in-Err c = elim (cases_lt c.args.x 256) [ inl less ↦ absurd (c.in-Err.ensures less) | inr past ↦ sym (member_small c.args.set c.args.x past) ]
