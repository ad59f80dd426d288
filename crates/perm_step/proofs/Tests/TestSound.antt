-- A running branch stays sound that comes to another place of its method.
use Rattle.std.proofs.Common.{◌≡◌, ℕ, ◌<◌, ◌≤◌, List, [], ◌∷◌, length, take, drop, slice_get, Some, None, refl, sym, ap, subst, ◌∙◌}
use Rattle.std.specs.Prelude.{reverse}
use Rattle.perm_tree.specs.declared.bodies.Bodies.{Bodies}
use Rattle.perm_tree.specs.Code.{UnitCode}
use Rattle.perm_tree.specs.Links.{Spot}
use Rattle.perm_meaning.specs.Effects.{depth_limit}
use Rattle.perm_step.specs.declared.control.Called.{Called}
use Rattle.perm_step.specs.declared.control.Ending.{Ending}
use Rattle.perm_step.specs.declared.control.Leaf.{Leaf}
use Rattle.perm_step.specs.Events.{AreLong, HasVariables, IsSound, bottom_from}
use Rattle.perm_step.specs.LeafMoves.{spent}
use Rattle.perm_step.specs.Standing.{AreOpenCalls, Open, opens_of}
use Rattle.perm_step.specs.Working.{Working, locals}

-- calls below a base don't see what stands from there on
pub opens-same : (base : ℕ) (vs ws : List ℕ) (cs : List Called) → take base vs ≡ take base ws → opens_of base vs cs ≡ opens_of base ws cs
opens-same base vs ws [] same = refl
opens-same base vs ws (c ∷ cs) same = ap (λ (l : List ℕ). let o : Open = record { place = c.place; saved = drop c.base l } in o ∷ opens_of c.base l cs) same

-- the open calls are the same where they are the same, and so are the variables below
pub opens-kept : (c n : Working) → n.base ≡ c.base → n.calls ≡ c.calls → take c.base n.vars ≡ take c.base c.vars → opens_of n.base n.vars (reverse n.calls) ≡ opens_of c.base c.vars (reverse c.calls)
opens-kept c n base calls vars = (λ i. opens_of (base i) n.vars (reverse (calls i))) ∙ opens-same c.base n.vars c.vars (reverse c.calls) vars

-- a leaf that has an ending doesn't go on
pub no-ending : (new : Leaf) (n : Working) (e : Ending) → new ≡ record { control = n; ending = Some e } → new.ending ≡ None → ⊥
no-ending new n e is on = let clash : Some e ≡ None = sym (ap (λ (l : Leaf). l.ending) is) ∙ on in let no : ⊥ = cc in no

module _ (u : UnitCode) (spot : ℕ → Spot) where
  -- the method below all calls is the same
  pub bottom-same : (at to : ℕ) (cs : List Called) → (spot to).routine ≡ (spot at).routine → bottom_from u spot to cs ≡ bottom_from u spot at cs
  bottom-same at to [] same = same
  bottom-same at to (c ∷ cs) same = refl

  -- two places of one method have the same number of variables
  pub variables-there : (at to count more : ℕ) → HasVariables u spot at count → (spot to).routine ≡ (spot at).routine → more ≡ count → HasVariables u spot to more
  variables-there at to count more has same as_many = record { routine = has.routine; there = ap (λ m. slice_get u.routines m) same ∙ has.there; many = as_many ∙ has.many }

  -- the branch at another place of its method, with as many variables, and the same ones below
  pub sound-moves : (b : Bodies) (m : ℕ) (c n : Working) → IsSound u spot b m c → n.at < length b.steps → (spot n.at).routine ≡ (spot c.at).routine → n.base ≡ c.base → n.calls ≡ c.calls → length (locals n) ≡ length (locals c)
      → take c.base n.vars ≡ take c.base c.vars → n.depth ≡ c.depth → IsSound u spot b m n
  sound-moves b m c n sound here method base calls count vars depth = record {
    here = here;
    calls = subst (AreOpenCalls b) (sym calls) sound.calls;
    variables = variables-there c.at n.at (length (locals c)) (length (locals n)) sound.variables method count;
    callers = subst (AreLong u spot) (sym (opens-kept c n base calls vars)) sound.callers;
    below = ap (λ cs. bottom_from u spot n.at cs) calls ∙ bottom-same c.at n.at c.calls method ∙ sound.below;
    deep = subst (λ d. d ≤ depth_limit) (sym depth) sound.deep;
  }

  -- a turn that changes nothing but the place
  pub sound-goes : (b : Bodies) (m : ℕ) (c : Working) (to : ℕ) (n : Working) → IsSound u spot b m c → to < length b.steps → (spot to).routine ≡ (spot c.at).routine → n ≡ record (spent c) { at = to } → IsSound u spot b m n
  sound-goes b m c to n sound here method is =
      subst (IsSound u spot b m) (sym is) (sound-moves b m c (record (spent c) { at = to }) sound here method refl refl refl refl refl)
