-- The law `refusals`: no part is refused exactly where each part is allowed, and so exactly where the code goes.
pub mod ErrorLists
pub mod KnownOnly
use Rattle.std.proofs.Common.{◌≡◌, List, [], ◌∷◌, Option, Some, None, Ok, refl, sym, ap, subst}
use Rattle.perm_tree.specs.declared.errors.TypeError.{TypeError}
use Rattle.perm_tree.specs.Code.{Code, End, Give, Return, Do, If, While, Par, Recover, Routine, UnitCode}
use Rattle.perm_tree.specs.Vars.{Vars, minus}
use Rattle.perm_rules.specs.Parts.{Context, Simple, Condition, RecoverHead, Given, Returned}
use Rattle.perm_rules.specs.Pars.{par_head}
use Rattle.perm_rules.specs.Refusals.{refusal}
use Rattle.perm_rules.specs.Effects.{changed, effect, instruction_effect, block_effect, either, both, repeated}
use Rattle.perm_rules.specs.Goes.{Goes, hiding, context, first_live, HaveDerivations}
use Rattle.perm_rules.specs.FirstRefused.{entry, entries, first_refused, method_refusal, methods_refusal}
use Rattle.perm_rules.specs.AtPlace.{context_at, stmt_code_at, flow_unless}
use Rattle.perm_rules.specs.Laws.{GoesUnrefused, AcceptedUnrefused, FlowGoes}
use Rattle.perm_rules.proofs.SetLaws.{lost-changed}
use Rattle.perm_rules.proofs.Fine.{IsFine}
use Rattle.perm_rules.proofs.Agree.{agree}
use Rattle.perm_rules.proofs.Effects.{goes-by-effect}
use Rattle.perm_rules.proofs.Refusals.ErrorLists.{or_later-none, or_later-both, error_or-both, first_error-none-both, entry-none, block-none, blocks-none}

-- ---------- codes ----------
fine-of-same : (c : Context) (rest : Code) (G K : Vars) → G ≡ K → IsFine c rest G → IsFine c rest K
fine-of-same c rest G K e f = subst (λ (M : Vars). IsFine c rest M) e f

pub fine-from-unrefused : (c : Context) (a : Code) (G : Vars) → first_refused c a G ≡ None → IsFine c a G
fine-from-unrefused c End G h = tt
fine-from-unrefused c (Give at w x) G h = (entry-none (entry c at (Given w x) G) [] h).0
fine-from-unrefused c (Return at a) G h = (entry-none (entry c at (Returned a) G) [] h).0
fine-from-unrefused c (Do at i rest) G h =
    let q = entry-none (entry c at (Simple i) G) (entries c rest (changed (instruction_effect i) G)) h in
    (q.0, fine-from-unrefused c rest (changed (instruction_effect i) G) q.1)
fine-from-unrefused c (If at e own1 a own2 b rest) G h =
    let q = blocks-none (entry c at (Condition e) G) (entries c a G) (entries c b G) (entries c rest (changed (either (block_effect own1 a) (block_effect own2 b)) G)) h in
    (q.0, fine-from-unrefused c a G q.1, fine-from-unrefused c b G q.2, fine-from-unrefused c rest (changed (either (block_effect own1 a) (block_effect own2 b)) G) q.3)
fine-from-unrefused c (While at e own body rest) G h =
    let q =
    block-none (entry c at (Condition e) (minus G (block_effect own body).lost)) (entries c body (minus G (block_effect own body).lost))
    (entries c rest (minus G (block_effect own body).lost)) h in (
      q.0,
      fine-from-unrefused c body (minus G (block_effect own body).lost) q.1,
      fine-of-same c rest (minus G (block_effect own body).lost) (changed (repeated (block_effect own body)) G) (lost-changed (block_effect own body).lost G)
          (fine-from-unrefused c rest (minus G (block_effect own body).lost) q.2),
    )
fine-from-unrefused c (Par at own1 a own2 b rest) G h =
    let q =
    blocks-none (entry c at (par_head c own1 a own2 b) G) (entries c a G) (entries c b G)
    (entries c rest (changed (both (block_effect own1 a) (block_effect own2 b)) G)) h in
    (q.0, fine-from-unrefused c a G q.1, fine-from-unrefused c b G q.2, fine-from-unrefused c rest (changed (both (block_effect own1 a) (block_effect own2 b)) G) q.3)
fine-from-unrefused c (Recover at x own hides body rest) G h =
    let q = block-none (entry c at (RecoverHead x) G) (entries (hiding hides c) body G) (entries c rest (changed (block_effect own body) G)) h in
    (q.0, fine-from-unrefused (hiding hides c) body G q.1, fine-from-unrefused c rest (changed (block_effect own body) G) q.2)

pub unrefused-from-fine : (c : Context) (a : Code) (G : Vars) → IsFine c a G → first_refused c a G ≡ None
unrefused-from-fine c End G h = refl
unrefused-from-fine c (Give at w x) G h = error_or-both at (refusal c (Given w x) G) None h refl
unrefused-from-fine c (Return at a) G h = error_or-both at (refusal c (Returned a) G) None h refl
unrefused-from-fine c (Do at i rest) G h = error_or-both at (refusal c (Simple i) G) _ h.0 (unrefused-from-fine c rest _ h.1)
unrefused-from-fine c (If at e own1 a own2 b rest) G h =
    error_or-both at (refusal c (Condition e) G) _ h.0
    (first_error-none-both (entries c a G) _ (unrefused-from-fine c a G h.1) (first_error-none-both (entries c b G) _ (unrefused-from-fine c b G h.2) (unrefused-from-fine c rest _ h.3)))
unrefused-from-fine c (While at e own body rest) G h =
    let K : Vars = minus G (block_effect own body).lost in
    error_or-both at (refusal c (Condition e) K) _ h.0
    (first_error-none-both (entries c body K) _ (unrefused-from-fine c body K h.1)
    (unrefused-from-fine c rest K (fine-of-same c rest _ K (sym (lost-changed (block_effect own body).lost G)) h.2)))
unrefused-from-fine c (Par at own1 a own2 b rest) G h =
    error_or-both at (refusal c (par_head c own1 a own2 b) G) _ h.0
    (first_error-none-both (entries c a G) _ (unrefused-from-fine c a G h.1) (first_error-none-both (entries c b G) _ (unrefused-from-fine c b G h.2) (unrefused-from-fine c rest _ h.3)))
unrefused-from-fine c (Recover at x own hides body rest) G h =
    error_or-both at (refusal c (RecoverHead x) G) _ h.0
    (first_error-none-both (entries (hiding hides c) body G) _ (unrefused-from-fine (hiding hides c) body G h.1) (unrefused-from-fine c rest _ h.2))

-- ---------- units ----------
pub goes-unrefused : GoesUnrefused
goes-unrefused c a G = (
  λ p. unrefused-from-fine c a G ((agree c a G).fine p.0 p.1),
  λ h. (changed (effect a) G, (agree c a G).to (fine-from-unrefused c a G h)),
)

derived-from-unrefused : (u : UnitCode) (rs : List Routine) → methods_refusal u rs ≡ None → HaveDerivations u rs
derived-from-unrefused u [] h = tt
derived-from-unrefused u (r ∷ rs) h =
    let parts = or_later-none (method_refusal u r) (methods_refusal u rs) h in
    ((goes-unrefused (context u r) r.code (first_live r)).1 parts.0, derived-from-unrefused u rs parts.1)

unrefused-from-derived : (u : UnitCode) (rs : List Routine) → HaveDerivations u rs → methods_refusal u rs ≡ None
unrefused-from-derived u [] d = refl
unrefused-from-derived u (r ∷ rs) d =
    or_later-both (method_refusal u r) (methods_refusal u rs) ((goes-unrefused (context u r) r.code (first_live r)).0 d.0) (unrefused-from-derived u rs d.1)

pub accepted-unrefused : AcceptedUnrefused
accepted-unrefused u = (unrefused-from-derived u u.routines, derived-from-unrefused u u.routines)

-- ---------- statements by their places ----------
flow-passes : (o : Option TypeError) (H K : Vars) → o ≡ None → H ≡ K → flow_unless o K ≡ Ok H
flow-passes None H K e f = ap Ok (sym f)
flow-passes (Some x) H K e f = absurd (cc)

flow-parts : (o : Option TypeError) (H K : Vars) → flow_unless o K ≡ Ok H → (o ≡ None) × (K ≡ H)
flow-parts None H K h = (refl, cc)
flow-parts (Some x) H K h = absurd (cc)

pub flow-goes : FlowGoes
flow-goes u m at G H =
    let c : Context = context_at u m at in
    let a : Code = stmt_code_at u m at in (
      λ g. flow-passes (first_refused c a G) H (changed (effect a) G) ((goes-unrefused c a G).0 (H, g)) (goes-by-effect c a G H g),
      λ h.
          let parts = flow-parts (first_refused c a G) H (changed (effect a) G) h in
          subst (λ (M : Vars). Goes c a G M) parts.1 ((agree c a G).to (fine-from-unrefused c a G parts.0)),
    )
