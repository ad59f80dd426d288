use Rattle.std.proofs.Common.{◌≡◌, ℕ, suc, [], ap, refl, ◌∙◌, arith}
use Rattle.perm_step.specs.ParMoves.{IsSide}
use Rattle.perm_step.specs.Working.{Working, locals}
use Rattle.perm_step.proofs.control.Control.side.Goals as goal

-- a branch of these parts is a side
side-of : (at turns : ℕ) (old side : Working) → side.at ≡ at → side.base ≡ 0 → side.calls ≡ [] → side.vars ≡ locals old → side.printed ≡ [] → side.depth ≡ suc old.depth → side.turns ≡ turns → IsSide at turns old side
side-of at turns old side place base calls vars printed depth left =
    record { room = side.room; is = λ i. record { at = place i; base = base i; calls = calls i; vars = vars i; printed = printed i; depth = depth i; turns = left i; room = side.room } }

pub returns : goal.returns
returns c =
    let same = ap (λ (w : Working). w.depth) c.self.view_is in
    side-of c.args.at c.args.turns c.args.self.now _ refl refl c.new.ensures.items (c.in_ok-to_vec.ensures.items_if_clones_equal (λ x y h. h) ∙ c.locals.ensures) c.new-2.ensures.items (omega arith) refl
