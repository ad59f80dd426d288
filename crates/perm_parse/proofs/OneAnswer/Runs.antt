-- Runs of the machine over some tokens, with the levels behind them.
use Rattle.std.proofs.Common.{◌≡◌, ℕ, List, ◌∷◌, Option, Some, refl, ◌∙◌, ap}
use Rattle.perm_tree.specs.declared.tokens.Token.{Token}
use Rattle.perm_tree.specs.declared.tokens.TokenKind.{TokenKind}
use Rattle.perm_parse.specs.Grammar.{Is}
use Rattle.perm_parse.specs.States.{State, level_state}
use Rattle.perm_parse.specs.Machine.{step, step_as, walk, note_level}

-- the levels of some tokens before those of a walk
abbrev pub with_levels : (List ℕ → List ℕ) → List ℕ × Option State → List ℕ × Option State
with_levels levels r = (levels r.0, r.1)

-- over these tokens, up to the last ones, the machine goes from one state to another, with these levels
pub record Runs (q : State) (ts : List Token) (levels : List ℕ → List ℕ) (r : State) (rest : List Token) : Type 0 where
  pub same : walk q ts ≡ with_levels levels (walk r rest)

pub stop : {q : State} {ts : List Token} → Runs q ts (λ ls. ls) q ts
stop = record { same = refl }

-- a token at which the step is known
pub moves : {q : State} {t : Token} {ts : List Token} {r : State} {levels : List ℕ → List ℕ} {s : State} {rest : List Token} →
    step q t ≡ Some r → Runs r ts levels s rest → Runs q (t ∷ ts) (λ ls. level_state r ∷ levels ls) s rest
moves {ts = ts} {r = r} e h = record {
  same = ap (λ (x : Option State). note_level x (λ z. walk z ts)) e ∙ ap (λ (x : List ℕ × Option State). with_levels (λ ls. level_state r ∷ ls) x) h.same;
}

-- a token of a known kind
pub go : {wanted : TokenKind} {q : State} {t : Token} {ts : List Token} {r : State} {levels : List ℕ → List ℕ} {s : State} {rest : List Token} →
    Is wanted t → step_as q t wanted ≡ Some r → Runs r ts levels s rest → Runs q (t ∷ ts) (λ ls. level_state r ∷ levels ls) s rest
go {q = q} {t = t} is e h = moves (ap (λ (x : TokenKind). step_as q t x) is ∙ e) h

-- one run and then another
pub via : {q : State} {ts : List Token} {first : List ℕ → List ℕ} {r : State} {mid : List Token} {second : List ℕ → List ℕ} {s : State} {rest : List Token} →
    Runs q ts first r mid → Runs r mid second s rest → Runs q ts (λ ls. first (second ls)) s rest
via {first = first} h g = record { same = h.same ∙ ap (λ (x : List ℕ × Option State). with_levels first x) g.same }
