use Rattle.std.proofs.Common.{true, false, refl, sym, subst, ⊎_elim, arith}
use Rattle.std.proofs.lemmas.Bool.{false≢true, cases_eq}
use Rattle.perm_lex.proofs.Comments.{NotEnded, comment_found, comment_unclosed, ended_test}
use Rattle.perm_lex.proofs.gaps.block_comment.Goals as goal

pub returns-then-starts_with : goal.returns-then-starts_with
returns-then-starts_with c at =
    comment_found c.args.rest.now c.loop-place.place _ at c.requires c.loop-place.auto.place c.loop-place-test.true c.loop-place.invariant
    ((ended_test c.args.rest.now c.loop-place.place true c.if-starts_with.ensures.value).0 refl) refl

pub loop-place-preserved : goal.loop-place-preserved
loop-place-preserved c n low below =
    ⊎_elim
    (λ same. subst (NotEnded c.args.rest.now) (sym same) (λ b. false≢true ((ended_test c.args.rest.now c.loop-place.place false c.if-starts_with.ensures.value).1 b)))
    (λ other. c.loop-place.invariant n low (omega arith))
    (cases_eq n c.loop-place.place)

pub returns : goal.returns
returns c = comment_unclosed c.args.rest.now c.requires (λ n low below. c.loop-place.invariant n low (omega (arith, c.loop-place-test.false)))
