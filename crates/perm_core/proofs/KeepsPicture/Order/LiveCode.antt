-- After an event the code to come goes on from what has a value then.
use Rattle.std.proofs.Common.{◌≡◌, ℕ, ◌<◌, true, Some, None, List, [], ◌∷◌, length, sym, subst, arith, inl, inr}
use Rattle.std.specs.Prelude.{◌⊎◌, ◌||◌, not, nat_eq}
use Rattle.std.specs.List.{list_any}
use Rattle.std.proofs.lemmas.Bool.{or_cases, or_left, or_right, and_parts}
use Rattle.perm_tree.specs.declared.ast.Span.{Span}
use Rattle.perm_tree.specs.Code.{Term, Instruction, Declare, Assign, LoadField, LoadLength, LoadItem, TakeField, NewObject, NewArray, StoreField, StoreItem, Invoke, Print, Code, End, Give, Return, Do, If, While, Par, Recover, UnitCode}
use Rattle.perm_tree.specs.Mentions.{argument_consumes, any_in_argument, just_if, just_option, arguments_consume, consumes, assigns, mentions, written, block_writes}
use Rattle.perm_tree.specs.Vars.{Vars, just, below, those, plus, minus, meet, IsWithin}
use Rattle.perm_tree.proofs.MentionLaws.{same-within, within-plus, within-minus}
use Rattle.perm_rules.specs.Parts.{Context, Simple}
use Rattle.perm_rules.specs.Liveness.{after}
use Rattle.perm_rules.specs.Effects as effects
use Rattle.perm_rules.specs.Effects.{instruction_effect, effect, block_effect}
use Rattle.perm_rules.specs.Goes.{Goes, GoesRound}
use Rattle.perm_rules.proofs.PartLaws.{part-known}
use Rattle.perm_rules.proofs.Effects.{goes-from-more}
use Rattle.perm_meaning.specs.Expressions.{tagged, clear_all}
use Rattle.perm_meaning.specs.Machine.{Frame, OpenBlock, OpenRecover, OpenCall, Leaf, On, settled, done}
use Rattle.perm_meaning.specs.NamedHeap.{Held, Own, Branch}
use Rattle.perm_core.specs.Core.{core}
use Rattle.perm_core.specs.Picture.{context_of, valued, live_after, rest_of, routine_below, context_above, RestGoes, TreeGoes}
use Rattle.perm_core.proofs.KeepsPicture.Order.GoesOfTrees.{Further, live-more, rest-more}
use Rattle.perm_core.proofs.KeepsPicture.Order.LiveLists.{clear_all-has}

-- ---------- code made of parts ----------
-- what is made is written
block-made : (own : List ℕ) (a : Code) → IsWithin (effect a).made (written a) → IsWithin (block_effect own a).made (block_writes own a)
block-made own a less = within-minus (effect a).made (written a) (those own) less

then-made : (s : effects.Effect) (W R : Vars) (t : effects.Effect) → IsWithin s.made W → IsWithin t.made R → IsWithin (effects.then s t).made (plus W R)
then-made s W R t f g x e = pick (or_cases (minus s.made t.lost x) (t.made x) e)
  where
    pick : (minus s.made t.lost x ≡ true) ⊎ (t.made x ≡ true) → plus W R x ≡ true
    pick (inl q) = or_left (W x) (R x) (f x (and_parts (s.made x) (not (t.lost x)) q).0)
    pick (inr q) = or_right (W x) (R x) (g x q)

instruction-made : (i : Instruction) → IsWithin (instruction_effect i).made (plus (consumes i) (assigns i))
instruction-made (Declare y) x e = absurd (let no : ⊥ = cc e in no)
instruction-made (Assign y a) x e = or_right (argument_consumes a x) (just y x) e
instruction-made (LoadField y z f) x e = e
instruction-made (LoadLength y z) x e = e
instruction-made (LoadItem y z t) x e = e
instruction-made (TakeField y z f) x e = e
instruction-made (NewObject y k) x e = e
instruction-made (NewArray y t) x e = e
instruction-made (StoreField y f a) x e = absurd (let no : ⊥ = cc e in no)
instruction-made (StoreItem y t v) x e = absurd (let no : ⊥ = cc e in no)
instruction-made (Invoke into tie consumed y m args) x e = or_right (plus (just_if consumed y) (arguments_consume args) x) (just_option into x) e
instruction-made (Print t) x e = absurd (let no : ⊥ = cc e in no)

-- what a simple statement assigns stands in it
assigns-stand : (i : Instruction) → IsWithin (assigns i) (mentions i)
assigns-stand (Declare y) x e = absurd (let no : ⊥ = cc e in no)
assigns-stand (Assign y a) x e = or_left (nat_eq x y) (any_in_argument (nat_eq x) a) e
assigns-stand (LoadField y z f) x e = or_left (nat_eq x y) (nat_eq x z) e
assigns-stand (LoadLength y z) x e = or_left (nat_eq x y) (nat_eq x z) e
assigns-stand (LoadItem y z t) x e = or_left (nat_eq x y) _ e
assigns-stand (TakeField y z f) x e = or_left (nat_eq x y) (nat_eq x z) e
assigns-stand (NewObject y k) x e = e
assigns-stand (NewArray y t) x e = or_left (nat_eq x y) _ e
assigns-stand (StoreField y f a) x e = absurd (let no : ⊥ = cc e in no)
assigns-stand (StoreItem y t v) x e = absurd (let no : ⊥ = cc e in no)
assigns-stand (Invoke None tie consumed y m args) x e = absurd (let no : ⊥ = cc e in no)
assigns-stand (Invoke (Some z) tie consumed y m args) x e = or_left (nat_eq x z) (nat_eq x y || list_any (any_in_argument (nat_eq x)) args) e
assigns-stand (Print t) x e = absurd (let no : ⊥ = cc e in no)

regroup : (A B R : Vars) → IsWithin (plus (plus A B) R) (plus A (plus B R))
regroup A B R x e = first (or_cases (plus A B x) (R x) e)
  where
    second : (A x ≡ true) ⊎ (B x ≡ true) → plus A (plus B R) x ≡ true
    second (inl q) = or_left (A x) (plus B R x) q
    second (inr q) = or_right (A x) (plus B R x) (or_left (B x) (R x) q)

    first : (plus A B x ≡ true) ⊎ (R x ≡ true) → plus A (plus B R) x ≡ true
    first (inl q) = second (or_cases (A x) (B x) q)
    first (inr q) = or_right (A x) (plus B R x) (or_right (B x) (R x) q)

-- what a code makes live it writes
pub made-written : (a : Code) → IsWithin (effect a).made (written a)
made-written End x e = absurd (let no : ⊥ = cc e in no)
made-written (Give at w z) x e = or_right (just w x) (just z x) e
made-written (Return at a) x e = absurd (let no : ⊥ = cc e in no)
made-written (Do at i rest) x e = then-made (instruction_effect i) (plus (consumes i) (assigns i)) (written rest) (effect rest) (instruction-made i) (made-written rest) x e
made-written (If at t own1 a own2 b rest) x e =
    let writes1 = block_writes own1 a in
    let writes2 = block_writes own2 b in
    regroup writes1 writes2 (written rest) x
    (then-made (effects.either (block_effect own1 a) (block_effect own2 b)) (plus writes1 writes2) (written rest) (effect rest)
    (λ y q. or_left (writes1 y) (writes2 y) (block-made own1 a (made-written a) y (and_parts ((block_effect own1 a).made y) ((block_effect own2 b).made y) q).0)) (made-written rest) x e)
made-written (While at t own body rest) x e =
    then-made (effects.repeated (block_effect own body)) (block_writes own body) (written rest) (effect rest) (λ y q. absurd (let no : ⊥ = cc q in no)) (made-written rest) x e
made-written (Par at own1 a own2 b rest) x e =
    let writes1 = block_writes own1 a in
    let writes2 = block_writes own2 b in
    regroup writes1 writes2 (written rest) x
    (then-made (effects.both (block_effect own1 a) (block_effect own2 b)) (plus writes1 writes2) (written rest) (effect rest)
    (within-plus (block_effect own1 a).made writes1 (block_effect own2 b).made writes2 (block-made own1 a (made-written a)) (block-made own2 b (made-written b))) (made-written rest) x e)
made-written (Recover at z own hides body rest) x e =
    or_right (just z x) (plus (block_writes own body) (written rest) x)
    (then-made (block_effect own body) (block_writes own body) (written rest) (effect rest) (block-made own body (made-written body)) (made-written rest) x e)

-- from the greatest part from which a `while` goes round it goes too
round-again : (c : Context) (at : Span) (t : Term) (own : List ℕ) (body rest : Code) (G H : Vars) (goes : Goes c (While at t own body rest) G H) → Goes c (While at t own body rest) goes.0 H
round-again c at t own body rest G H goes =
    let r = goes.1.holds in
    (goes.0, record { holds = record { part = same-within goes.0; tested = r.tested; ends = r.ends; body = r.body; again = r.again }; greatest = λ K round. round.part }, goes.2)

module _ (u : UnitCode) where
  -- ---------- stacks ----------
  -- the code on top, and what goes on in its place to no fewer
  pub record Top (below : List ℕ) (m : ℕ) (c : Code) (st : List (Frame Held)) (G H : Vars) : Type 0 where
    pub ends : Vars
    pub goes : Goes (context_above u below m st) c G ends
    pub instead : (a : Code) (K L : Vars) → Goes (context_above u below m st) a K L → IsWithin ends L → Further (λ M. RestGoes u below m a st K M) H

  pub top : (below : List ℕ) (m : ℕ) (c : Code) (st : List (Frame Held)) (G H : Vars) → RestGoes u below m c st G H → Top below m c st G H
  top below m c [] G H goes = record { ends = H; goes = goes; instead = λ a K L on more. record { ends = L; goes = on; more = more } }
  top below m c (f ∷ st) G H goes = record {
    ends = goes.0;
    goes = goes.1;
    instead = λ a K L on more.
        let r = rest-more u below (routine_below f m) (rest_of f) st (live_after f goes.0) H (live_after f L) (live-more f goes.0 L more) goes.2 in
        record { ends = r.ends; goes = (L, on, r.goes); more = r.more };
  }

  -- from more, and to more
  pub further-more : {P : Vars → Type 0} {H K : Vars} → IsWithin H K → Further P K → Further P H
  further-more less f = record { ends = f.ends; goes = f.goes; more = λ x e. f.more x (less x e) }

  -- code that goes in its place, from no fewer variables than it needs
  instead-from : (below : List ℕ) (m : ℕ) (c : Code) (st : List (Frame Held)) (G H : Vars) (t : Top below m c st G H) (a : Code) (K V : Vars) → Goes (context_above u below m st) a K t.ends → IsWithin K V → Further (λ M. RestGoes u below m a st V M) H
  instead-from below m c st G H t a K V goes less = let o = goes-from-more (context_above u below m st) a K t.ends V less goes in t.instead a V o.0 o.1 o.2

  -- ---------- a branch that goes on ----------
  pub settled-goes : (below : List ℕ) (b : Branch) (vs : List Held) (c : Code) (st : List (Frame Held)) (H : Vars) → RestGoes u below b.own.routine c st (valued vs) H → Further (λ L. TreeGoes u below (Leaf (settled (core u) b vs c st)) L) H
  settled-goes below b vs End (OpenBlock own rest ∷ st) H goes =
      let less : IsWithin (minus goes.0 (those own)) (valued (clear_all tagged vs own)) = λ x e. clear_all-has own vs x (subst (λ (G : Vars). minus G (those own) x ≡ true) goes.1 e) in
      let r = rest-more u below b.own.routine rest st (minus goes.0 (those own)) H (valued (clear_all tagged vs own)) less goes.2 in
      further-more r.more (settled-goes below b (clear_all tagged vs own) rest st r.ends r.goes)
  settled-goes below b vs End [] H goes = record { ends = H; goes = inr goes; more = same-within H }
  settled-goes below b vs End (OpenRecover own hides saved rest ∷ st) H goes = record { ends = H; goes = inr goes; more = same-within H }
  settled-goes below b vs End (OpenCall tie into y saved lent caller rest ∷ st) H goes = record { ends = H; goes = inr goes; more = same-within H }
  settled-goes below b vs (Give at w x) st H goes = record { ends = H; goes = inr goes; more = same-within H }
  settled-goes below b vs (Return at a) st H goes = record { ends = H; goes = inr goes; more = same-within H }
  settled-goes below b vs (Do at i rest) st H goes = record { ends = H; goes = inr goes; more = same-within H }
  settled-goes below b vs (If at x own1 a own2 d rest) st H goes = record { ends = H; goes = inr goes; more = same-within H }
  settled-goes below b vs (While at x own a rest) st H goes = record { ends = H; goes = inr goes; more = same-within H }
  settled-goes below b vs (Par at own1 a own2 d rest) st H goes = record { ends = H; goes = inr goes; more = same-within H }
  settled-goes below b vs (Recover at x own hides a rest) st H goes = record { ends = H; goes = inr goes; more = same-within H }

  pub on-goes : (below : List ℕ) (b : Branch) (l : Own) (t m : ℕ) (vs : List Held) (c : Code) (st : List (Frame Held)) (H : Vars) → l.vars ≡ vs → l.routine ≡ m → Further (λ L. RestGoes u below m c st (valued vs) L) H
      → Further (λ L. TreeGoes u below (done (core u) b t (On l c st)) L) H
  on-goes below b l t m vs c st H vars routine f =
      let goes = subst (λ (n : ℕ). RestGoes u below n c st (valued l.vars) f.ends) (sym routine) (subst (λ (ws : List Held). RestGoes u below m c st (valued ws) f.ends) (sym vars) f.goes) in
      further-more f.more (settled-goes below (record b { own = l; turns = t }) l.vars c st f.ends goes)

  -- ---------- simple statements ----------
  -- what is assigned is a variable of the method
  pub assigned-there : (below : List ℕ) (m : ℕ) (at : Span) (i : Instruction) (rest : Code) (st : List (Frame Held)) (G H : Vars) (vs : List Held) → length (context_of u m).vars ≡ length vs → Top below m (Do at i rest) st G H → (x : ℕ) → assigns i x ≡ true → x < length vs
  assigned-there below m at i rest st G H vs even t x e = let less : x < length (context_of u m).vars = part-known (context_above u below m st) (Simple i) G t.goes.0 x (assigns-stand i x e) in omega (arith, less, even)

  -- the rest of a code behind a simple statement goes on from what has a value after it
  pub do-goes : (below : List ℕ) (m : ℕ) (at : Span) (i : Instruction) (rest : Code) (st : List (Frame Held)) (G H V : Vars) → RestGoes u below m (Do at i rest) st G H → IsWithin (after i G) V → Further (λ M. RestGoes u below m rest st V M) H
  do-goes below m at i rest st G H V goes less = let t = top below m (Do at i rest) st G H goes in instead-from below m (Do at i rest) st G H t rest (after i G) V t.goes.1 less

  -- ---------- blocks ----------
  pub if-goes : (below : List ℕ) (m : ℕ) (at : Span) (x : Term) (own1 : List ℕ) (a : Code) (own2 : List ℕ) (d rest : Code) (st : List (Frame Held)) (G H : Vars) → RestGoes u below m (If at x own1 a own2 d rest) st G H
      → Further (λ M. RestGoes u below m a (OpenBlock own1 rest ∷ st) G M) H × Further (λ M. RestGoes u below m d (OpenBlock own2 rest ∷ st) G M) H
  if-goes below m at x own1 a own2 d rest st G H goes = (block own1 a A t.goes.1.left left_part, block own2 d B t.goes.1.right right_part)
    where
      c : Code
      c = If at x own1 a own2 d rest

      t : Top below m c st G H
      t = top below m c st G H goes

      A : Vars
      A = t.goes.1.left_ends

      B : Vars
      B = t.goes.1.right_ends

      left_part : IsWithin (meet (minus A (those own1)) (minus B (those own2))) (minus A (those own1))
      left_part y e = (and_parts (minus A (those own1) y) (minus B (those own2) y) e).0

      right_part : IsWithin (meet (minus A (those own1)) (minus B (those own2))) (minus B (those own2))
      right_part y e = (and_parts (minus A (those own1) y) (minus B (those own2) y) e).1

      block : (own : List ℕ) (e : Code) (E : Vars) → Goes (context_above u below m st) e G E → IsWithin (meet (minus A (those own1)) (minus B (those own2))) (minus E (those own)) → Further (λ M. RestGoes u below m e (OpenBlock own rest ∷ st) G M) H
      block own e E on less = let r = instead-from below m c st G H t rest (meet (minus A (those own1)) (minus B (those own2))) (minus E (those own)) t.goes.1.rest less in record { ends = r.ends; goes = (E, on, r.goes); more = r.more }

  pub while-goes : (below : List ℕ) (m : ℕ) (at : Span) (x : Term) (own : List ℕ) (body rest : Code) (st : List (Frame Held)) (G H : Vars) → RestGoes u below m (While at x own body rest) st G H
      → Further (λ M. RestGoes u below m body (OpenBlock own (While at x own body rest) ∷ st) G M) H × Further (λ M. RestGoes u below m rest st G M) H
  while-goes below m at x own body rest st G H goes = (in_loop, instead-from below m c st G H t rest K G t.goes.2 round.part)
    where
      c : Code
      c = While at x own body rest

      k : Context
      k = context_above u below m st

      t : Top below m c st G H
      t = top below m c st G H goes

      K : Vars
      K = t.goes.0

      round : GoesRound k x own (λ K L. Goes k body K L) G K
      round = t.goes.1.holds

      in_loop : Further (λ M. RestGoes u below m body (OpenBlock own c ∷ st) G M) H
      in_loop =
          let o = goes-from-more k body K round.ends G round.part round.body in
          let less : IsWithin K (minus o.0 (those own)) = λ y e. within-minus round.ends o.0 (those own) o.2 y (round.again y e) in
          let r = instead-from below m c st G H t c K (minus o.0 (those own)) (round-again k at x own body rest G t.ends t.goes) less in
          record { ends = r.ends; goes = (o.0, o.1, r.goes); more = r.more }
