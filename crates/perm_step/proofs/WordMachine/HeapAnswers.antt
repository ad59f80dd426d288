-- What the heap answers is what the machine's heap finds and leaves.
use Rattle.std.proofs.Common.{◌≡◌, ℕ, ◌+◌, ◌<◌, ◌≤◌, length, get_or, set, sym, ap, ◌∙◌, subst, arith}
use Rattle.std.specs.Prelude.{cond}
use Rattle.std.proofs.lemmas.Bool.{lt-leb}
use Rattle.perm_meaning.specs.Effects.{Tick, Load, Store, Take, Make}
use Rattle.perm_meaning.specs.Objects.{size, length_of}
use Rattle.perm_meaning.specs.Steps.{Found, Refused, within}
use Rattle.perm_meaning.specs.WordHeap.{Ask, find, after}
use Rattle.perm_meaning.specs.Words.{reference_word}
use Rattle.perm_step.specs.declared.ask.Ask as interpreter
use Rattle.perm_step.specs.declared.ask.Ask.TheVariants as asks
use Rattle.perm_step.specs.HeapAsks.{IsAskFor}
use Rattle.perm_step.specs.declared.heap.Shortage.TheVariants as shortages
use Rattle.perm_step.specs.Heaps.{Heaped, Answers, Refuses}
use Rattle.perm_step.specs.Running.{IsInHeap}
use Rattle.perm_step.specs.Working.{cells_of}
use Rattle.perm_step.proofs.WordMachine.Cells.{write_cells, make_found, make_after}

-- the machine finds this word, and its heap is then this
pub record Finds (limit : ℕ) (o : Ask) (old : Heaped) (word : ℕ) (new : Heaped) : Type 0 where
  pub found : find (within limit) o (cells_of old.words) ≡ Found word
  pub left : after (within limit) o (cells_of old.words) ≡ cells_of new.words
  pub same : new.limit ≡ old.limit

module _ (limit : ℕ) (old : Heaped) (is : old.limit ≡ limit) where
  -- of the machine's operation
  to : (o p : Ask) (word : ℕ) (new : Heaped) → o ≡ p → Finds limit p old word new → Finds limit o old word new
  to o p word new same f = subst (λ (x : Ask). Finds limit x old word new) (sym same) f

  inside_of : (o p : Ask) → o ≡ p → IsInHeap o (cells_of old.words) → IsInHeap p (cells_of old.words)
  inside_of o p same h = subst (λ (x : Ask). IsInHeap x (cells_of old.words)) same h

  -- what the interpreter's heap answers
  pub answers-found : (q : interpreter.Ask) (o : Ask) (word : ℕ) (new : Heaped) → IsAskFor q o → IsInHeap o (cells_of old.words) → Answers q old word new → Finds limit o old word new
  answers-found asks.Nothing o word new ask inside (zero, same) =
      to o Tick word new ask (record { found = ap Found (sym zero); left = ap (λ (h : Heaped). cells_of h.words) (sym same); same = ap (λ (h : Heaped). h.limit) same })
  answers-found asks.Fork o word new ask inside (zero, same) =
      to o Tick word new ask (record { found = ap Found (sym zero); left = ap (λ (h : Heaped). cells_of h.words) (sym same); same = ap (λ (h : Heaped). h.limit) same })
  answers-found (asks.Load at) o word new (base, f, ask, place) inside (read, same) =
      to o (Load base f) word new ask (record {
        found = ap Found (ap (λ n. get_or old.words n 0) (sym place) ∙ sym read);
        left = ap (λ (h : Heaped). cells_of h.words) (sym same);
        same = ap (λ (h : Heaped). h.limit) same;
      })
  answers-found (asks.Store at w) o word new (base, f, ask, place) inside (zero, same) =
      to o (Store base f w) word new ask (record {
        found = ap Found (sym zero);
        left =
            write_cells old.words (base + f) w (inside_of o (Store base f w) ask inside)
            ∙ ap (λ n. cells_of (set old.words n w)) (sym place)
            ∙ ap (λ (h : Heaped). cells_of h.words) (sym same);
        same = ap (λ (h : Heaped). h.limit) same;
      })
  answers-found (asks.Take at) o word new (base, f, ask, place) inside (read, same) =
      to o (Take base f) word new ask (record {
        found = ap Found (ap (λ n. get_or old.words n 0) (sym place) ∙ sym read);
        left =
            write_cells old.words (base + f) 0 (inside_of o (Take base f) ask inside)
            ∙ ap (λ n. cells_of (set old.words n 0)) (sym place)
            ∙ ap (λ (h : Heaped). cells_of h.words) (sym same);
        same = ap (λ (h : Heaped). h.limit) same;
      })
  answers-found (asks.Make count len) o word new (shape, ask, length_is) inside (word_is, room, same) =
      let fits : length old.words + size count ≤ limit = omega (arith, room, is) in
      to o (Make tt shape count) word new ask (record {
        found = make_found limit old.words shape count fits ∙ ap (λ n. Found (reference_word (length old.words) n)) (sym length_is) ∙ ap Found (sym word_is);
        left = make_after limit old.words shape count fits ∙ ap (λ (h : Heaped). cells_of h.words) (sym same);
        same = ap (λ (h : Heaped). h.limit) same;
      })

  -- an object that isn't made since the heap has no room
  pub refuses-found : (q : interpreter.Ask) (o : Ask) (new : Heaped) → IsAskFor q o → Refuses q old new shortages.HeapFull → find (within limit) o (cells_of old.words) ≡ Refused
  refuses-found q o new ask (count, len, q_is, full, same) = by (subst (λ (x : interpreter.Ask). IsAskFor x o) q_is ask)
    where
      by : IsAskFor (asks.Make count len) o → find (within limit) o (cells_of old.words) ≡ Refused
      by (shape, o_is, length_is) =
          let none : limit < length old.words + size count = omega (arith, full, is) in
          ap (λ (x : Ask). find (within limit) x (cells_of old.words)) o_is
          ∙ ap (λ t. cond t (Found (reference_word (length old.words) (length_of shape count))) Refused) (lt-leb (length old.words + size count) limit none)
