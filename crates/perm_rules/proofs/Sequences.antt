-- A statement before a rest: first the statement alone, and then the rest from the live set to which its effect leads.
use Rattle.std.proofs.Common.{◌≡◌, ℕ, List, [], ◌∷◌, ◌++◌, Some, sym, ap, ◌∙◌, subst, append_assoc}
use Rattle.std.specs.Prelude.{slice_get}
use mathlib.Core.Path.{fun_ext}
use Rattle.perm_tree.specs.declared.ast.Span.{Span}
use Rattle.perm_tree.specs.declared.ast.Stmt.{Stmt}
use Rattle.perm_tree.specs.declared.ast.StmtKind.{StmtKind}
use Rattle.perm_tree.specs.declared.ast.StmtKind.TheVariants.{Declare as DeclareStmt, Assign as AssignStmt, SetField, SetItem, Call as CallStmt, Print as PrintStmt, If as IfStmt, While as WhileStmt, Par as ParStmt}
use Rattle.perm_tree.specs.declared.ast.Rhs.{Rhs}
use Rattle.perm_tree.specs.declared.ast.Rhs.TheVariants.{Value, Field, TakeField as TakeRhs, Item, New, NewArray as NewArrayRhs, Call as CallRhs, Recover as RecoverRhs}
use Rattle.perm_tree.specs.Code.{Term, Instruction, Code, End, Do, If, While, Par, Recover}
use Rattle.perm_tree.specs.CodeNames.{Setting}
use Rattle.perm_tree.specs.CodeOf.{assignment, kind_code, codes_of, stmt_code, block_code}
use Rattle.perm_tree.specs.Places.{IsPlaced}
use Rattle.perm_tree.specs.Vars.{Vars, minus}
use Rattle.perm_tree.proofs.CodeLaws.{stmt_code-is, block_code-cons}
use Rattle.perm_rules.specs.Parts.{Context, Simple}
use Rattle.perm_rules.specs.Effects.{Effect, changed, then, no_effect, effect, instruction_effect, block_effect, either, both, repeated}
use Rattle.perm_rules.specs.Goes.{hiding}
use Rattle.perm_rules.specs.FirstRefused.{Entry, entry, entries, first_error, first_refused, or_later}
use Rattle.perm_rules.proofs.SetLaws.{then-changed, lost-changed, empty-changed}
use Rattle.perm_rules.proofs.Refusals.ErrorLists.{first_error-append}

-- what is one statement before any rest
pub record IsStatement (f : Code → Code) : Type 0 where
  pub parts : (c : Context) (rest : Code) (G : Vars) → entries c (f rest) G ≡ entries c (f End) G ++ entries c rest (changed (effect (f End)) G)
  pub effects : (rest : Code) (G : Vars) → changed (effect (f rest)) G ≡ changed (effect rest) (changed (effect (f End)) G)

-- with no rest nothing more is lost or made
then-nothing : (e : Effect) (G : Vars) → changed e G ≡ changed (then e no_effect) G
then-nothing e G = empty-changed (changed e G) ∙ then-changed e no_effect G

effects-then : (e : Effect) (rest : Code) (G : Vars) → changed (then e (effect rest)) G ≡ changed (effect rest) (changed (then e no_effect) G)
effects-then e rest G = sym (then-changed e (effect rest) G) ∙ ap (λ (M : Vars). changed (effect rest) M) (then-nothing e G)

rest-entries-same : (c : Context) (rest : Code) (G K : Vars) → G ≡ K → entries c rest G ≡ entries c rest K
rest-entries-same c rest G K e = ap (λ (M : Vars). entries c rest M) e

-- one list behind an entry and the entries of a block
behind-block : (x : Entry) (xs rs ss : List Entry) → rs ≡ ss → x ∷ (xs ++ rs) ≡ (x ∷ (xs ++ [])) ++ ss
behind-block x xs rs ss e = rw e (simp append_assoc)

behind-blocks : (x : Entry) (xs ys rs ss : List Entry) → rs ≡ ss → x ∷ (xs ++ (ys ++ rs)) ≡ (x ∷ (xs ++ (ys ++ []))) ++ ss
behind-blocks x xs ys rs ss e = rw e (simp append_assoc)

-- ---------- each form ----------
do-statement : (at : Span) (i : Instruction) → IsStatement (λ rest. Do at i rest)
do-statement at i = record {
  parts = λ c rest G. ap (λ (es : List Entry). entry c at (Simple i) G ∷ es) (rest-entries-same c rest _ _ (then-nothing (instruction_effect i) G));
  effects = λ rest G. effects-then (instruction_effect i) rest G;
}

if-statement : (at : Span) (e : Term) (own1 : List ℕ) (a : Code) (own2 : List ℕ) (b : Code) → IsStatement (λ rest. If at e own1 a own2 b rest)
if-statement at e own1 a own2 b = record {
  parts = λ c rest G. behind-blocks _ (entries c a G) (entries c b G) _ _ (rest-entries-same c rest _ _ (then-nothing (either (block_effect own1 a) (block_effect own2 b)) G));
  effects = λ rest G. effects-then (either (block_effect own1 a) (block_effect own2 b)) rest G;
}

while-statement : (at : Span) (e : Term) (own : List ℕ) (body : Code) → IsStatement (λ rest. While at e own body rest)
while-statement at e own body = record {
  parts = λ c rest G.
      behind-block _ (entries c body (minus G (block_effect own body).lost)) _ _
      (rest-entries-same c rest _ _ (lost-changed (block_effect own body).lost G ∙ then-nothing (repeated (block_effect own body)) G));
  effects = λ rest G. effects-then (repeated (block_effect own body)) rest G;
}

par-statement : (at : Span) (own1 : List ℕ) (a : Code) (own2 : List ℕ) (b : Code) → IsStatement (λ rest. Par at own1 a own2 b rest)
par-statement at own1 a own2 b = record {
  parts = λ c rest G. behind-blocks _ (entries c a G) (entries c b G) _ _ (rest-entries-same c rest _ _ (then-nothing (both (block_effect own1 a) (block_effect own2 b)) G));
  effects = λ rest G. effects-then (both (block_effect own1 a) (block_effect own2 b)) rest G;
}

recover-statement : (at : Span) (x : ℕ) (own hides : List ℕ) (body : Code) → IsStatement (λ rest. Recover at x own hides body rest)
recover-statement at x own hides body = record {
  parts = λ c rest G. behind-block _ (entries (hiding hides c) body G) _ _ (rest-entries-same c rest _ _ (then-nothing (block_effect own body) G));
  effects = λ rest G. effects-then (block_effect own body) rest G;
}

-- ---------- the statements of a program ----------
assignment-statement : (k : Setting) (codes : List (Code → Code)) (s : Stmt) (x : ℕ) (r : Rhs) → IsStatement (λ rest. assignment k codes s x r rest)
assignment-statement k codes s x (Value a) = do-statement s.span _
assignment-statement k codes s x (Field y f) = do-statement s.span _
assignment-statement k codes s x (TakeRhs y f) = do-statement s.span _
assignment-statement k codes s x (Item y e) = do-statement s.span _
assignment-statement k codes s x (New n) = do-statement s.span _
assignment-statement k codes s x (NewArrayRhs e) = do-statement s.span _
assignment-statement k codes s x (CallRhs n) = do-statement s.span _
assignment-statement k codes s x (RecoverRhs b w give) = recover-statement s.head x _ _ _

kind-statement : (k : Setting) (codes : List (Code → Code)) (s : Stmt) (kind : StmtKind) → IsStatement (λ rest. kind_code k codes s kind rest)
kind-statement k codes s (DeclareStmt t x) = do-statement s.span _
kind-statement k codes s (AssignStmt t x r) = assignment-statement k codes s _ r
kind-statement k codes s (SetField y f a) = do-statement s.span _
kind-statement k codes s (SetItem y i e) = do-statement s.span _
kind-statement k codes s (CallStmt n) = do-statement s.span _
kind-statement k codes s (PrintStmt e) = do-statement s.span _
kind-statement k codes s (IfStmt e a b) = if-statement s.head _ _ _ _ _
kind-statement k codes s (WhileStmt e a) = while-statement s.head _ _ _
kind-statement k codes s (ParStmt a b) = par-statement s.head _ _ _ _

-- the code of the statement at a place is one statement
pub placed-statement : (k : Setting) (at : ℕ) (s : Stmt) → IsPlaced k.tables.program → slice_get k.tables.program.stmts at ≡ Some s → IsStatement (stmt_code k at)
placed-statement k at s placed here =
    subst IsStatement (sym (fun_ext (λ rest. stmt_code-is k at s rest placed here))) (kind-statement k (codes_of k) s s.kind)

-- ---------- blocks ----------
-- what is first refused before a rest: what is of the statement, or else of the rest
pub refused-then : (f : Code → Code) → IsStatement f → (c : Context) (rest : Code) (G : Vars)
    → first_refused c (f rest) G ≡ or_later (first_refused c (f End) G) (first_refused c rest (changed (effect (f End)) G))
refused-then f one c rest G =
    ap first_error (one.parts c rest G) ∙ first_error-append (entries c (f End) G) (entries c rest (changed (effect (f End)) G))

-- of a block with a first statement: what is first refused of that, or else of the others
pub refused-cons : (k : Setting) (i : ℕ) (is : List ℕ) (end : Code) → IsStatement (stmt_code k i) → (c : Context) (G : Vars)
    → first_refused c (block_code k (i ∷ is) end) G ≡ or_later (first_refused c (stmt_code k i End) G) (first_refused c (block_code k is end) (changed (effect (stmt_code k i End)) G))
refused-cons k i is end one c G =
    ap (λ (a : Code). first_refused c a G) (block_code-cons k i is end) ∙ refused-then (stmt_code k i) one c (block_code k is end) G

-- and its effect: that of the first statement, and then that of the others
pub effect-cons : (k : Setting) (i : ℕ) (is : List ℕ) (end : Code) → IsStatement (stmt_code k i) → (G : Vars)
    → changed (effect (block_code k (i ∷ is) end)) G ≡ changed (effect (block_code k is end)) (changed (effect (stmt_code k i End)) G)
effect-cons k i is end one G =
    ap (λ (a : Code). changed (effect a) G) (block_code-cons k i is end) ∙ one.effects (block_code k is end) G
