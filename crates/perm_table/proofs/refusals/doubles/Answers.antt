use Rattle.std.proofs.Common.{◌≡◌, ◌∙◌, Some, ap, map, nat_eq, reverse, subst, sym}
use Rattle.std.specs.Prelude.{cond}
use Rattle.indexmap.specs.IndexMap.{get}
use Rattle.perm_table.specs.Findings.{double_with, first_before, sooner, told_if}
use Rattle.perm_table.proofs.Doubles.{AreDoubles, doubles-more}
use Rattle.perm_table.proofs.FirstFindings.{reversed-one}
use Rattle.perm_table.proofs.refusals.doubles.Goals as goal

pub names-preserved : goal.names-preserved
names-preserved c =
    let i = c.in-Some.name.now in
    let met = get nat_eq c.names.firsts in
    let equal : c.copied-equal.result ≡ met i.name = c.copied-equal.ensures ∙ c.get.ensures.value in
    subst (λ is. AreDoubles is (told_if c.args.rest) (get nat_eq c.insert.new.self) (told_if c.double_with-first.result))
    (sym (reversed-one (λ j. j.now) c.names.yielded c.in-Some.name))
    (doubles-more i (reverse (map (λ j. j.now) c.names.yielded)) (told_if c.args.rest) (told_if c.names.first) (told_if c.double_with-first.result) met (get nat_eq c.insert.new.self) c.names.invariant
    (λ n. c.in_ok-insert.ensures.updates.0 n ∙ ap (λ j. cond (nat_eq i.name n) (Some j) (met n)) (c.sooner.ensures ∙ ap (sooner i) equal))
    (c.double_with-first.ensures ∙ ap (λ o. first_before (double_with i o) (told_if c.names.first)) equal))
