-- The ends of two related sides make related ends of their par.
use Rattle.std.proofs.Common.{◌≡◌, ◌+◌, List, ◌++◌}
use Rattle.std.specs.Prelude.{ℤ}
use Rattle.perm_meaning.specs.Machine.{Final, Fine, GaveBack, Failed, worse, join_final}
use Rattle.perm_meaning.specs.Relate.{VarsR, FinalR}

-- two ways to merge variables keep them related
module _ {V W : Type 0} (R : V → W → Type 0) (merge : List V → List V → List V → List V) (merge' : List W → List W → List W → List W) (vs : List V) (ws : List W) (out out' : List ℤ) (h : VarsR R vs ws) (o : out ≡ out')
    (merges : (ls : List V) (ls' : List W) (rs : List V) (rs' : List W) → VarsR R ls ls' → VarsR R rs rs' → VarsR R (merge vs ls rs) (merge' ws ls' rs')) where
  -- the join is related
  pub join-alike : (x : Final V) (x' : Final W) (y : Final V) (y' : Final W) → FinalR R x x' → FinalR R y y' → FinalR R (join_final merge vs out x y) (join_final merge' ws out' x' y')
  join-alike (Fine vs1 t1 p1) (Fine vs2 t2 p2) (Fine vs3 t3 p3) (Fine vs4 t4 p4) f g = (merges vs1 vs2 vs3 vs4 f.0 g.0, (λ i. f.1 i + g.1 i), (λ i. o i ++ (f.2 i ++ g.2 i)))
  join-alike (Fine vs1 t1 p1) (Fine vs2 t2 p2) (GaveBack v3 t3 p3) (GaveBack v4 t4 p4) f g = (h, (λ i. f.1 i + g.1 i), (λ i. o i ++ (f.2 i ++ g.2 i)))
  join-alike (Fine vs1 t1 p1) (Fine vs2 t2 p2) (Failed e3 t3 p3) (Failed e4 t4 p4) f g = (g.0, (λ i. f.1 i + g.1 i), (λ i. o i ++ (f.2 i ++ g.2 i)))
  join-alike (GaveBack v1 t1 p1) (GaveBack v2 t2 p2) (Fine vs3 t3 p3) (Fine vs4 t4 p4) f g = (h, (λ i. f.1 i + g.1 i), (λ i. o i ++ (f.2 i ++ g.2 i)))
  join-alike (GaveBack v1 t1 p1) (GaveBack v2 t2 p2) (GaveBack v3 t3 p3) (GaveBack v4 t4 p4) f g = (h, (λ i. f.1 i + g.1 i), (λ i. o i ++ (f.2 i ++ g.2 i)))
  join-alike (GaveBack v1 t1 p1) (GaveBack v2 t2 p2) (Failed e3 t3 p3) (Failed e4 t4 p4) f g = (g.0, (λ i. f.1 i + g.1 i), (λ i. o i ++ (f.2 i ++ g.2 i)))
  join-alike (Failed e1 t1 p1) (Failed e2 t2 p2) (Fine vs3 t3 p3) (Fine vs4 t4 p4) f g = (f.0, (λ i. f.1 i + g.1 i), (λ i. o i ++ f.2 i))
  join-alike (Failed e1 t1 p1) (Failed e2 t2 p2) (GaveBack v3 t3 p3) (GaveBack v4 t4 p4) f g = (f.0, (λ i. f.1 i + g.1 i), (λ i. o i ++ f.2 i))
  join-alike (Failed e1 t1 p1) (Failed e2 t2 p2) (Failed e3 t3 p3) (Failed e4 t4 p4) f g = ((λ i. worse (f.0 i) (g.0 i)), (λ i. f.1 i + g.1 i), (λ i. o i ++ f.2 i))
  join-alike (Fine vs1 t1 p1) (GaveBack v2 t2 p2) y y' f g = absurd f
  join-alike (Fine vs1 t1 p1) (Failed e2 t2 p2) y y' f g = absurd f
  join-alike (GaveBack v1 t1 p1) (Fine vs2 t2 p2) y y' f g = absurd f
  join-alike (GaveBack v1 t1 p1) (Failed e2 t2 p2) y y' f g = absurd f
  join-alike (Failed e1 t1 p1) (Fine vs2 t2 p2) y y' f g = absurd f
  join-alike (Failed e1 t1 p1) (GaveBack v2 t2 p2) y y' f g = absurd f
  join-alike (Fine vs1 t1 p1) (Fine vs2 t2 p2) (Fine vs3 t3 p3) (GaveBack v4 t4 p4) f g = absurd g
  join-alike (Fine vs1 t1 p1) (Fine vs2 t2 p2) (Fine vs3 t3 p3) (Failed e4 t4 p4) f g = absurd g
  join-alike (Fine vs1 t1 p1) (Fine vs2 t2 p2) (GaveBack v3 t3 p3) (Fine vs4 t4 p4) f g = absurd g
  join-alike (Fine vs1 t1 p1) (Fine vs2 t2 p2) (GaveBack v3 t3 p3) (Failed e4 t4 p4) f g = absurd g
  join-alike (Fine vs1 t1 p1) (Fine vs2 t2 p2) (Failed e3 t3 p3) (Fine vs4 t4 p4) f g = absurd g
  join-alike (Fine vs1 t1 p1) (Fine vs2 t2 p2) (Failed e3 t3 p3) (GaveBack v4 t4 p4) f g = absurd g
  join-alike (GaveBack v1 t1 p1) (GaveBack v2 t2 p2) (Fine vs3 t3 p3) (GaveBack v4 t4 p4) f g = absurd g
  join-alike (GaveBack v1 t1 p1) (GaveBack v2 t2 p2) (Fine vs3 t3 p3) (Failed e4 t4 p4) f g = absurd g
  join-alike (GaveBack v1 t1 p1) (GaveBack v2 t2 p2) (GaveBack v3 t3 p3) (Fine vs4 t4 p4) f g = absurd g
  join-alike (GaveBack v1 t1 p1) (GaveBack v2 t2 p2) (GaveBack v3 t3 p3) (Failed e4 t4 p4) f g = absurd g
  join-alike (GaveBack v1 t1 p1) (GaveBack v2 t2 p2) (Failed e3 t3 p3) (Fine vs4 t4 p4) f g = absurd g
  join-alike (GaveBack v1 t1 p1) (GaveBack v2 t2 p2) (Failed e3 t3 p3) (GaveBack v4 t4 p4) f g = absurd g
  join-alike (Failed e1 t1 p1) (Failed e2 t2 p2) (Fine vs3 t3 p3) (GaveBack v4 t4 p4) f g = absurd g
  join-alike (Failed e1 t1 p1) (Failed e2 t2 p2) (Fine vs3 t3 p3) (Failed e4 t4 p4) f g = absurd g
  join-alike (Failed e1 t1 p1) (Failed e2 t2 p2) (GaveBack v3 t3 p3) (Fine vs4 t4 p4) f g = absurd g
  join-alike (Failed e1 t1 p1) (Failed e2 t2 p2) (GaveBack v3 t3 p3) (Failed e4 t4 p4) f g = absurd g
  join-alike (Failed e1 t1 p1) (Failed e2 t2 p2) (Failed e3 t3 p3) (Fine vs4 t4 p4) f g = absurd g
  join-alike (Failed e1 t1 p1) (Failed e2 t2 p2) (Failed e3 t3 p3) (GaveBack v4 t4 p4) f g = absurd g
