-- What an expression gives, by its value.
use Rattle.std.proofs.Common.{◌≡◌, ℕ, sym, ap, ◌∙◌}
use Rattle.perm_tree.specs.declared.errors.TrapKind.{TrapKind}
use Rattle.perm_meaning.specs.Values.{Eval, Gives, Traps, Mistyped}
use Rattle.perm_step.specs.declared.values.Value.{Value}
use Rattle.perm_step.specs.declared.values.Value.TheVariants.{Word, Trap}
use Rattle.perm_step.specs.Evaluation.{as_eval, IsAnswer}
use Rattle.perm_step.specs.Given.{IsGiven, IsTrap}

-- an answer that is a word is given
pub word-given : (e : Eval ℕ) (v : Value) (w : ℕ) → v ≡ Word w → IsAnswer e v → IsGiven e w
word-given (Gives x) v w is a = let same : Gives w ≡ Gives x = sym (ap as_eval is) ∙ a in cc
word-given (Traps k) v w is a = absurd (let no : Gives w ≡ Traps k = sym (ap as_eval is) ∙ a in let r : ⊥ = cc in r)
word-given Mistyped v w is a = tt

-- an answer that is a trap is one
pub trap-given : (e : Eval ℕ) (v : Value) (k : TrapKind) → v ≡ Trap k → IsAnswer e v → IsTrap e k
trap-given (Gives x) v k is a = absurd (let no : Traps k ≡ Gives x = sym (ap as_eval is) ∙ a in let r : ⊥ = cc in r)
trap-given (Traps j) v k is a = let same : Traps k ≡ Traps j = sym (ap as_eval is) ∙ a in cc
trap-given Mistyped v k is a = tt
