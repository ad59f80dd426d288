-- Effects that are held in sets, of statements one behind the other and of blocks.
use Rattle.std.proofs.Common.{◌≡◌, ◌∙◌, ℕ, ◌+◌, ◌<◌, ◌≤◌, List, length, Option, Some, refl, sym, ap, subst, drop}
use Rattle.std.specs.Prelude.{slice_get, slice_index}
use Rattle.std.proofs.lemmas.List.{drop_all, drop_more}
use Rattle.perm_tree.specs.declared.ast.Block.{Block}
use Rattle.perm_tree.specs.declared.ast.Ident.{Ident}
use Rattle.perm_tree.specs.declared.ast.Rhs.TheVariants.{Recover}
use Rattle.perm_tree.specs.declared.ast.Span.{Span}
use Rattle.perm_tree.specs.declared.ast.Stmt.{Stmt}
use Rattle.perm_tree.specs.declared.ast.StmtKind.{StmtKind}
use Rattle.perm_tree.specs.declared.ast.StmtKind.TheVariants.{Assign}
use Rattle.perm_tree.specs.declared.ast.Ty.{Ty}
use Rattle.perm_tree.specs.declared.bodies.Action.{Action}
use Rattle.perm_tree.specs.declared.bodies.Action.TheVariants as actions
use Rattle.perm_tree.specs.declared.var_set.VarSet.{VarSet}
use Rattle.perm_tree.specs.Code as code
use Rattle.perm_tree.specs.Code.{Code, End, Give, Instruction, Declare, LoadField, LoadLength, LoadItem, TakeField, NewObject, NewArray, StoreField, StoreItem, Invoke, Print}
use Rattle.perm_tree.specs.CodeNames.{own_vars, var_at}
use Rattle.perm_tree.specs.CodeOf.{block_code, codes_of, kind_code, stmt_code}
use Rattle.perm_tree.specs.Mentions.{assigns, consumes}
use Rattle.perm_tree.specs.StatementSteps.{Says, SaysAssignment, SaysSimple}
use Rattle.perm_tree.specs.Vars as sets
use Rattle.perm_tree.specs.Vars.{Vars, none, just, those, plus, minus}
use Rattle.perm_tree.specs.VarSets.{member}
use Rattle.perm_tree.proofs.CodeLaws.{stmt_code-is}
use Rattle.perm_rules.specs.declared.Effect as held
use Rattle.perm_rules.specs.Effects.{Effect, block_effect, both, closed, effect, either, instruction_effect, known_effect, no_effect, repeated, then}
use Rattle.perm_rules.specs.MethodBodies.{Body, IsBody, setting_of}
use Rattle.perm_par.specs.BlockEffects.{seen, stmts_effect, without, HasEffect, IsEffect}
use Rattle.perm_par.specs.Known.{count_of, HoldsKnown}
use Rattle.perm_par.specs.StepVariables.{declares}
use Rattle.perm_par.proofs.KnownSets.{known-both, known-closed, known-either, known-no-effect, known-none, known-then, minus-none, nothing-then, plus-none, same-effect, then-assoc, then-nothing}
use Rattle.perm_par.proofs.StepCodes.{recover-gift, step_of}

-- an effect by its two sets
pub effect-held : (b : Body) (r : held.Effect) (e : Effect) → HoldsKnown b r.lost e.lost → HoldsKnown b r.made e.made → HasEffect b r e
effect-held b r e lost made = same-effect (seen r) (known_effect (count_of b) e) lost made

pub effect-nothing : (b : Body) (r : held.Effect) → seen r ≡ no_effect → HasEffect b r no_effect
effect-nothing b r is = is ∙ sym (known-no-effect (count_of b))

pub effect-then : (b : Body) (r s t : held.Effect) (e f : Effect) → seen t ≡ then (seen r) (seen s) → HasEffect b r e → HasEffect b s f → HasEffect b t (then e f)
effect-then b r s t e f is one two = is ∙ (λ i. then (one i) (two i)) ∙ sym (known-then (count_of b) e f)

-- ---------- statements one behind the other ----------
-- an effect is that of the first i statements
pub record HasDone (b : Body) (r : held.Effect) (is : List ℕ) (i : ℕ) : Type 0 where
  pub whole : Effect
  pub holds : HasEffect b r whole
  pub before : (end : Code) → then whole (effect (block_code (setting_of b) (drop i is) end)) ≡ effect (block_code (setting_of b) is end)

pub done-none : (b : Body) (r : held.Effect) (is : List ℕ) → seen r ≡ no_effect → HasDone b r is 0
done-none b r is none = record { whole = no_effect; holds = effect-nothing b r none; before = λ end. nothing-then (effect (block_code (setting_of b) is end)) }

pub done-more : (b : Body) (r s t : held.Effect) (is : List ℕ) (i : ℕ) → i < length is → HasDone b r is i → IsEffect b s (stmt_code (setting_of b) (slice_index is i)) → seen t ≡ then (seen r) (seen s) → HasDone b t is (i + 1)
done-more b r s t is i less done one both = record {
  whole = then done.whole one.whole;
  holds = effect-then b r s t done.whole one.whole both done.holds one.holds;
  before = λ end.
      then-assoc done.whole one.whole (effect (block_code (setting_of b) (drop (i + 1) is) end))
      ∙ ap (λ (e : Effect). then done.whole e) (sym (one.before (block_code (setting_of b) (drop (i + 1) is) end)))
      ∙ ap (λ (js : List ℕ). then done.whole (effect (block_code (setting_of b) js end))) (sym (drop_more is i 0 less))
      ∙ done.before end;
}

pub done-all : (b : Body) (r : held.Effect) (is : List ℕ) (i : ℕ) → length is ≤ i → HasDone b r is i → IsEffect b r (block_code (setting_of b) is)
done-all b r is i end done = record {
  whole = done.whole;
  holds = done.holds;
  before = λ rest. sym (done.before rest) ∙ ap (λ (js : List ℕ). then done.whole (effect (block_code (setting_of b) js rest))) (drop_all i is end);
}

-- ---------- blocks ----------
pub effect-before : (b : Body) (r s t : held.Effect) (f : Code → Code) (rest : Code) → IsEffect b r f → HasEffect b s (effect rest) → seen t ≡ then (seen r) (seen s) → HasEffect b t (effect (f rest))
effect-before b r s t f rest one two is = subst (HasEffect b t) (sym (one.before rest)) (effect-then b r s t one.whole (effect rest) is one.holds two)

pub effect-end : (b : Body) (r : held.Effect) (f : Code → Code) → IsEffect b r f → HasEffect b r (effect (f End))
effect-end b r f one = subst (HasEffect b r) (sym (one.before End ∙ then-nothing one.whole)) one.holds

pub effect-closed : (b : Body) (r s : held.Effect) (own : VarSet) (xs : List ℕ) (e : Effect) → HoldsKnown b own (those xs) → HasEffect b s e → seen r ≡ without (member own) (seen s) → HasEffect b r (closed xs e)
effect-closed b r s own xs e mine one is = is ∙ (λ i. without (mine i) (one i)) ∙ sym (known-closed (count_of b) xs e)

-- a block with its own variables lost at its end
pub effect-block : (b : Body) (r inner : held.Effect) (own : VarSet) (is js : List ℕ) → js ≡ is → IsEffect b inner (block_code (setting_of b) js) → HoldsKnown b own (those (own_vars (setting_of b) is)) → seen r ≡ without (member own) (seen inner)
    → HasEffect b r (stmts_effect (setting_of b) is)
effect-block b r inner own is js same one mine closes =
    effect-closed b r inner own (own_vars (setting_of b) is) (effect (block_code (setting_of b) is End)) mine
    (effect-end b inner (block_code (setting_of b) is) (subst (λ (l : List ℕ). IsEffect b inner (block_code (setting_of b) l)) same one)) closes

-- a recover block, which ends with its `give`
pub effect-given : (b : Body) (r inner give whole : held.Effect) (own : VarSet) (is js : List ℕ) (last : Code) → js ≡ is → IsEffect b inner (block_code (setting_of b) js) → HasEffect b give (effect last) → seen whole ≡ then (seen inner) (seen give)
    → HoldsKnown b own (those (own_vars (setting_of b) is)) → seen r ≡ without (member own) (seen whole) → HasEffect b r (block_effect (own_vars (setting_of b) is) (block_code (setting_of b) is last))
effect-given b r inner give whole own is js last same one two both mine closes =
    effect-closed b r whole own (own_vars (setting_of b) is) (effect (block_code (setting_of b) is last)) mine
    (effect-before b inner give whole (block_code (setting_of b) is) last (subst (λ (l : List ℕ). IsEffect b inner (block_code (setting_of b) l)) same one) two both) closes

pub effect-either : (b : Body) (r s t : held.Effect) (e f : Effect) → seen t ≡ either (seen r) (seen s) → HasEffect b r e → HasEffect b s f → HasEffect b t (either e f)
effect-either b r s t e f is one two = is ∙ (λ i. either (one i) (two i)) ∙ sym (known-either (count_of b) e f)

pub effect-both : (b : Body) (r s t : held.Effect) (e f : Effect) → seen t ≡ both (seen r) (seen s) → HasEffect b r e → HasEffect b s f → HasEffect b t (both e f)
effect-both b r s t e f is one two = is ∙ (λ i. both (one i) (two i)) ∙ sym (known-both (count_of b) e f)

pub effect-repeated : (b : Body) (r : held.Effect) (none : VarSet) (e : Effect) → HoldsKnown b r.lost e.lost → member none ≡ sets.none → HasEffect b (record { lost = r.lost; made = none }) (repeated e)
effect-repeated b r none e lost made = effect-held b (record { lost = r.lost; made = none }) (repeated e) lost (made ∙ sym (known-none (count_of b)))

-- ---------- statements ----------
-- a statement has the effect of its kind
pub stmt-effect : (b : Body) (at : ℕ) (s : Stmt) (r : held.Effect) (e : Effect) → IsBody b → slice_get b.unit.program.stmts at ≡ Some s → HasEffect b r e
    → ((rest : Code) → effect (kind_code (setting_of b) (codes_of (setting_of b)) s s.kind rest) ≡ then e (effect rest)) → IsEffect b r (stmt_code (setting_of b) at)
stmt-effect b at s r e is here holds code = record {
  whole = e;
  holds = holds;
  before = λ rest. ap effect (stmt_code-is (setting_of b) at s rest is.resolved.formed.placed here) ∙ code rest;
}

-- a simple one has that of its step
pub simple-effect : (b : Body) (at : ℕ) (s : Stmt) (r : held.Effect) (action : Action) → IsBody b → slice_get b.unit.program.stmts at ≡ Some s → SaysSimple (setting_of b) b.bodies s action
    → HasEffect b r (instruction_effect (step_of (setting_of b) b.bodies action)) → IsEffect b r (stmt_code (setting_of b) at)
simple-effect b at s r action is here says holds = stmt-effect b at s r (instruction_effect (step_of (setting_of b) b.bodies action)) is here holds (λ rest. ap effect (says.code rest))

-- a recover has that of its block, which ends with its `give`
pub recover-effect : (b : Body) (at : ℕ) (s : Stmt) (r : held.Effect) (t : Option Ty) (x : Ident) (a : Block) (w : Ident) (give : Span) (action : Action) (g y : ℕ) → IsBody b → slice_get b.unit.program.stmts at ≡ Some s
    → s.kind ≡ Assign t x (Recover a w give) → Says (setting_of b) b.bodies s s.kind action → action ≡ actions.Give g y
    → ((span : Span) → HasEffect b r (block_effect (own_vars (setting_of b) a.stmts) (block_code (setting_of b) a.stmts (Give span g y)))) → IsEffect b r (stmt_code (setting_of b) at)
recover-effect b at s r t x a w give action g y body here is says gives holds =
    let k = setting_of b in
    let own = own_vars k a.stmts in
    let gift = recover-gift k b.bodies s x a w give g y (subst (λ (q : Action). SaysAssignment k b.bodies s x (Recover a w give) q) gives (subst (λ (q : StmtKind). Says k b.bodies s q action) is says)) in
    stmt-effect b at s r (block_effect own (block_code k a.stmts (Give give (var_at k w) (var_at k x)))) body here
    (subst (λ n. HasEffect b r (block_effect own (block_code k a.stmts (Give give n (var_at k x))))) gift.0 (subst (λ n. HasEffect b r (block_effect own (block_code k a.stmts (Give give g n)))) gift.1 (holds give)))
    (λ rest. ap (λ (q : StmtKind). effect (kind_code k (codes_of k) s q rest)) is)

-- a step that loses what it declares or consumes, but for what it assigns, and makes that
pub step-effect : (i : Instruction) → instruction_effect i ≡ record { lost = minus (plus (declares i) (consumes i)) (assigns i); made = assigns i }
step-effect (Declare x) = same-effect _ _ (sym (minus-none (plus (just x) none) ∙ plus-none (just x))) refl
step-effect (code.Assign x e) = refl
step-effect (LoadField x y f) = refl
step-effect (LoadLength x y) = refl
step-effect (LoadItem x y i) = refl
step-effect (TakeField x y f) = refl
step-effect (NewObject x class) = refl
step-effect (NewArray x n) = refl
step-effect (StoreField y f e) = refl
step-effect (StoreItem y i v) = refl
step-effect (Invoke into tie consumed y routine args) = refl
step-effect (Print v) = refl
