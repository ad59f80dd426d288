-- What is left of a branch that enters a method, step by step.
use Rattle.std.proofs.Common.{◌≡◌, ◌∙◌, ℕ, suc, ◌+◌, ◌-◌, List, [], ◌∷◌, ◌++◌, length, replicate, get_or, Some, ap, arith, append_assoc, length-append}
use Rattle.std.specs.Prelude.{slice_get}
use Rattle.std.proofs.lemmas.Option.{get_or_from_slice_get}
use Rattle.perm_tree.specs.declared.bodies.Bodies.{Bodies}
use Rattle.perm_tree.specs.declared.bodies.Entry.{Entry}
use Rattle.perm_tree.specs.declared.bodies.Invocation.{Invocation}
use Rattle.perm_step.specs.CallParts.{Opens}
use Rattle.perm_step.specs.Given.{VariableGives}
use Rattle.perm_step.specs.StepMoves.{Enters, HasMethod}
use Rattle.perm_step.specs.Working.{Working, locals}

module _ (b : Bodies) (v : Invocation) (this : ℕ) (old mid : Working) (o : Opens b v this old mid) where
  -- the branch as it enters a method
  abbrev pub entered : Entry → Working
  entered e = record old {
    at = e.first;
    base = length old.vars;
    calls = old.calls ++ record { place = old.at; base = old.base } ∷ [];
    vars = old.vars ++ (this ∷ (o.found ++ replicate (e.variables - (1 + length o.found)) 0));
    depth = suc old.depth;
  }

  -- the words 0 that come behind the receiver and the arguments
  filled : (e : Entry) (zeros : ℕ) → zeros ≡ length old.vars + e.variables - length mid.vars → mid.vars ++ replicate zeros 0 ≡ old.vars ++ (this ∷ (o.found ++ replicate (e.variables - (1 + length o.found)) 0))
  filled e zeros is =
      let vars = ap (λ (s : Working). s.vars) o.after in
      let count : zeros ≡ e.variables - (1 + length o.found) = omega (arith, is, ap (λ (l : List ℕ). length l) vars, length-append old.vars (this ∷ o.found)) in
      ap (λ (l : List ℕ). l ++ replicate zeros 0) vars ∙ append_assoc old.vars (this ∷ o.found) (replicate zeros 0) ∙ ap (λ n. old.vars ++ (this ∷ (o.found ++ replicate n 0))) count

  -- the branch where the call is open and the variables are there
  becomes : (e : Entry) (end zeros : ℕ) → end ≡ length old.vars → zeros ≡ length old.vars + e.variables - length mid.vars
      → ◌≡◌ {A = Working} (record mid { at = e.first; base = end; calls = mid.calls ++ record { place = mid.at; base = mid.base } ∷ []; vars = mid.vars ++ replicate zeros 0; depth = mid.depth + 1 }) (entered e)
  becomes e end zeros is count =
      let deeper : old.depth + 1 ≡ suc old.depth = omega arith in
      (λ i. let s : Working = o.after i in record s { at = e.first; base = is i; calls = s.calls ++ record { place = s.at; base = s.base } ∷ []; vars = filled e zeros count i; depth = s.depth + 1 })
      ∙ (λ i. record (entered e) { depth = deeper i })

  -- a method is entered
  pub enters-by : (e : Entry) → VariableGives (locals old) v.receiver this → slice_get b.entries v.routine ≡ Some e → (new : Working) → new ≡ entered e → Enters b v old new
  enters-by e receiver there new after = record { this = this; receiver = receiver; object = o.object; found = o.found; arguments = o.arguments; deep = o.deep; entry = e; there = there; after = after }

  -- so where the steps to it are these
  pub enters-after : (seen : List Entry) (d : Entry) (end zeros count : ℕ) (opened pushed filled_up last : Working) → VariableGives (locals old) v.receiver this → HasMethod b v old → seen ≡ b.entries → end ≡ length old.vars → opened ≡ mid
      → pushed ≡ record opened { calls = opened.calls ++ record { place = opened.at; base = opened.base } ∷ [] } → count ≡ length opened.vars → zeros ≡ end + (get_or seen v.routine d).variables - count
      → filled_up ≡ record pushed { vars = pushed.vars ++ replicate zeros 0 } → last ≡ filled_up
      → Enters b v old (record last { at = (get_or seen v.routine d).first; base = end; depth = last.depth + 1 })
  enters-after seen d end zeros count opened pushed filled_up last receiver callable same is_end is_open is_pushed is_count is_zeros is_filled is_last =
      let method = callable this o.found receiver o.arguments o.object o.deep in
      let e = method.0 in
      let entry : get_or seen v.routine d ≡ e = ap (λ (l : List Entry). get_or l v.routine d) same ∙ get_or_from_slice_get b.entries v.routine e d method.1 in
      let variables = ap (λ (x : Entry). x.variables) entry in
      let vars = ap (λ (s : Working). length s.vars) is_open in
      let fill : zeros ≡ length old.vars + e.variables - length mid.vars = omega (arith, is_zeros, is_end, is_count, variables, vars) in
      let pushed_is = is_pushed ∙ ap (λ (s : Working). record s { calls = s.calls ++ record { place = s.at; base = s.base } ∷ [] }) is_open in
      let last_is = is_last ∙ is_filled ∙ ap (λ (s : Working). record s { vars = s.vars ++ replicate zeros 0 }) pushed_is in
      let new_is = (λ i. let s : Working = last_is i in record s { at = (entry i).first; base = end; depth = s.depth + 1 }) ∙ becomes e end zeros is_end fill in
      enters-by e receiver method.1 (record last { at = (get_or seen v.routine d).first; base = end; depth = last.depth + 1 }) new_is
