use Rattle.std.proofs.Common.{◌≡◌, ◌∙◌, ℕ, sym}
use Rattle.perm_tree.specs.declared.bodies.Action.TheVariants as actions
use Rattle.perm_tree.specs.declared.bodies.Bodies.{Bodies}
use Rattle.perm_tree.specs.declared.bodies.Expression.{Expression}
use Rattle.perm_tree.specs.Code as code
use Rattle.perm_tree.specs.Code.{Do, Shares, Term, UnitCode}
use Rattle.perm_tree.specs.CodeNames.{term_at, var_at}
use Rattle.perm_tree.specs.CodeOf.{code_of}
use Rattle.perm_table.specs.Numbered.{does, TellsCode, TellsTerm}
use Rattle.perm_table.specs.Numbering.{setting_of}
use Rattle.perm_table.proofs.Growth.{Grows-trans, expression-in-stays, expression-stays}
use Rattle.perm_table.proofs.numbering.simple.store_item.Goals as goal

-- two expressions one after the other
both : (old mid new : Bodies) (u : UnitCode) (y z : ℕ) (s t : Term) (e f : Expression) → z ≡ y → TellsTerm old mid s e → TellsTerm mid new t f → TellsCode old new u (does (code.StoreItem y s t)) (actions.StoreItem z e f)
both old mid new u y z s t e f same first second =
    let more = second.grows.operations in
    let kept = expression-stays mid.operations new.operations more e first.inside ∙ first.term in
    record {
      grows = Grows-trans old mid new first.grows second.grows;
      inside = (expression-in-stays mid.operations new.operations more e first.inside, second.inside);
      simple = tt;
      tie = Shares;
      code = λ codes s rest j. Do s.span (code.StoreItem (sym same j) (sym kept j) (sym second.term j)) rest;
    }

pub returns : goal.returns
returns c =
    let k = setting_of c.args.names.now in
    both c.args.bodies.now c.number_expression.new.bodies c.number_expression-2.new.bodies (code_of c.args.names.now.tables) (var_at k c.args.y) c.in_ok-into.into (term_at k c.args.index) (term_at k c.args.root) c.in_ok-place.place
    c.in_ok-value.value c.in_ok-into.ensures c.in_ok-place.ensures c.in_ok-value.ensures
