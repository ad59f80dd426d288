-- The code from a place on, one statement at a time.
use Rattle.std.proofs.Common.{◌≡◌, ◌∙◌, ℕ, zero, suc, List, [], ◌∷◌, drop, Option, Some, None, refl, sym, ap}
use Rattle.std.specs.Prelude.{slice_get}
use Rattle.perm_tree.specs.declared.ast.Block.{Block}
use Rattle.perm_tree.specs.declared.ast.Ident.{Ident}
use Rattle.perm_tree.specs.declared.ast.Rhs.{Rhs}
use Rattle.perm_tree.specs.declared.ast.Rhs.TheVariants as rhs
use Rattle.perm_tree.specs.declared.ast.Span.{Span}
use Rattle.perm_tree.specs.declared.ast.Stmt.{Stmt}
use Rattle.perm_tree.specs.declared.ast.StmtKind.{StmtKind}
use Rattle.perm_tree.specs.declared.ast.StmtKind.TheVariants as kinds
use Rattle.perm_tree.specs.declared.ast.Ty.{Ty}
use Rattle.perm_tree.specs.Code.{Instruction, Code, End, Do, If, While, Par, Recover}
use Rattle.perm_tree.specs.CodeNames.{Setting, term_at, var_at, own_vars, tied_before}
use Rattle.perm_tree.specs.CodeOf.{assignment, block_code, codes_of, kind_code, stmt_code}
use Rattle.perm_tree.specs.InBody.{setting_at}
use Rattle.perm_tree.specs.Places.{IsPlaced}
use Rattle.perm_tree.specs.UnitTables.{Tables}
use Rattle.perm_tree.proofs.CodeLaws.{stmt_code-is}
use Rattle.perm_meaning.specs.declared.eval.parts.Part.{Part}
use Rattle.perm_meaning.specs.declared.eval.parts.Part.TheVariants as parts
use Rattle.perm_meaning.specs.Evaluator.Parts.{code_from, end_in, first_end_if, first_if, second_if, stmts_in}
use Rattle.perm_meaning.specs.Evaluator.SimpleStatements.{assignment_to, simple_of}
use Rattle.perm_meaning.proofs.Leads.{some-inj, none-some}

-- ---------- one statement after the other ----------
next-of : (k : Setting) (is : List ℕ) (at i : ℕ) (end : Code) → slice_get is at ≡ Some i → block_code k (drop at is) end ≡ stmt_code k i (block_code k (drop (suc at) is) end)
next-of k [] at i end e = none-some e
next-of k (j ∷ is) zero i end e = ap (λ n. stmt_code k n (block_code k is end)) (some-inj e)
next-of k (j ∷ is) (suc at) i end e = next-of k is at i end e

-- the code at a statement begins with it
pub code-next : (u : Tables) (m : ℕ) (p : Part) (at i : ℕ) → slice_get (stmts_in u m p) at ≡ Some i → code_from u m p at ≡ stmt_code (setting_at u m) i (code_from u m p (suc at))
code-next u m p at i e = next-of (setting_at u m) (stmts_in u m p) at i (end_in u m p) e

end-of : (k : Setting) (is : List ℕ) (at : ℕ) (end : Code) → slice_get is at ≡ None → block_code k (drop at is) end ≡ end
end-of k [] zero end e = refl
end-of k [] (suc at) end e = refl
end-of k (j ∷ is) zero end e = none-some (sym e)
end-of k (j ∷ is) (suc at) end e = end-of k is at end e

-- where no statement is left the part ends
pub code-end : (u : Tables) (m : ℕ) (p : Part) (at : ℕ) → slice_get (stmts_in u m p) at ≡ None → code_from u m p at ≡ end_in u m p
code-end u m p at e = end-of (setting_at u m) (stmts_in u m p) at (end_in u m p) e

-- ---------- simple statements ----------
assignment-simple : (k : Setting) (codes : List (Code → Code)) (s : Stmt) (x : ℕ) (r : Rhs) (i : Instruction) (rest : Code) → assignment_to k x r ≡ Some i → assignment k codes s x r rest ≡ Do s.span i rest
assignment-simple k codes s x (rhs.Value a) i rest e = ap (λ j. Do s.span j rest) (some-inj e)
assignment-simple k codes s x (rhs.Field y f) i rest e = ap (λ j. Do s.span j rest) (some-inj e)
assignment-simple k codes s x (rhs.TakeField y f) i rest e = ap (λ j. Do s.span j rest) (some-inj e)
assignment-simple k codes s x (rhs.Item y n) i rest e = ap (λ j. Do s.span j rest) (some-inj e)
assignment-simple k codes s x (rhs.New c) i rest e = ap (λ j. Do s.span j rest) (some-inj e)
assignment-simple k codes s x (rhs.NewArray n) i rest e = ap (λ j. Do s.span j rest) (some-inj e)
assignment-simple k codes s x (rhs.Call c) i rest e = none-some e
assignment-simple k codes s x (rhs.Recover b w give) i rest e = none-some e

kind-simple : (k : Setting) (codes : List (Code → Code)) (s : Stmt) (kind : StmtKind) (i : Instruction) (rest : Code) → simple_of k kind ≡ Some i → kind_code k codes s kind rest ≡ Do s.span i rest
kind-simple k codes s (kinds.Declare t x) i rest e = ap (λ j. Do s.span j rest) (some-inj e)
kind-simple k codes s (kinds.Assign t x r) i rest e = assignment-simple k codes s (var_at k x) r i rest e
kind-simple k codes s (kinds.SetField y f a) i rest e = ap (λ j. Do s.span j rest) (some-inj e)
kind-simple k codes s (kinds.SetItem y n a) i rest e = ap (λ j. Do s.span j rest) (some-inj e)
kind-simple k codes s (kinds.Call c) i rest e = none-some e
kind-simple k codes s (kinds.Print n) i rest e = ap (λ j. Do s.span j rest) (some-inj e)
kind-simple k codes s (kinds.If n a b) i rest e = none-some e
kind-simple k codes s (kinds.While n a) i rest e = none-some e
kind-simple k codes s (kinds.Par a b) i rest e = none-some e

-- ---------- the statements of a program ----------
module _ (u : Tables) (m i : ℕ) (s : Stmt) (rest : Code) (placed : IsPlaced u.program) (here : slice_get u.program.stmts i ≡ Some s) where
  by-kind : (kind : StmtKind) → s.kind ≡ kind → stmt_code (setting_at u m) i rest ≡ kind_code (setting_at u m) (codes_of (setting_at u m)) s kind rest
  by-kind kind e = stmt_code-is (setting_at u m) i s rest placed here ∙ ap (λ q. kind_code (setting_at u m) (codes_of (setting_at u m)) s q rest) e

  -- where its first block begins
  first-is : (kind : StmtKind) → s.kind ≡ kind → code_from u m (parts.First i) 0 ≡ block_code (setting_at u m) (first_if (Some (record s { kind = kind }))) (first_end_if (setting_at u m) (Some (record s { kind = kind })))
  first-is kind e =
      ap (λ o. block_code (setting_at u m) (first_if o) (first_end_if (setting_at u m) o)) here
      ∙ ap (λ q. block_code (setting_at u m) (first_if (Some (record s { kind = q }))) (first_end_if (setting_at u m) (Some (record s { kind = q })))) e

  -- where its second block begins
  second-is : (kind : StmtKind) → s.kind ≡ kind → code_from u m (parts.Second i) 0 ≡ block_code (setting_at u m) (second_if (Some (record s { kind = kind }))) End
  second-is kind e =
      ap (λ o. block_code (setting_at u m) (second_if o) End) here ∙ ap (λ q. block_code (setting_at u m) (second_if (Some (record s { kind = q }))) End) e

  -- a simple statement that is no call
  pub code-simple : (j : Instruction) → simple_of (setting_at u m) s.kind ≡ Some j → stmt_code (setting_at u m) i rest ≡ Do s.span j rest
  code-simple j e = by-kind s.kind refl ∙ kind-simple (setting_at u m) (codes_of (setting_at u m)) s s.kind j rest e

  -- an `if`
  pub code-if : (n : ℕ) (a : Block) (b : Option Block) → s.kind ≡ kinds.If n a b → stmt_code (setting_at u m) i rest
      ≡ If s.head (term_at (setting_at u m) n) (own_vars (setting_at u m) (first_if (Some s))) (code_from u m (parts.First i) 0) (own_vars (setting_at u m) (second_if (Some s))) (code_from u m (parts.Second i) 0) rest
  code-if n a b e =
      let k = setting_at u m in
      let kind = kinds.If n a b in
      let p = first-is kind e in
      let q = second-is kind e in
      let r : first_if (Some (record s { kind = kind })) ≡ first_if (Some s) = ap (λ z. first_if (Some (record s { kind = z }))) (sym e) in
      let t : second_if (Some (record s { kind = kind })) ≡ second_if (Some s) = ap (λ z. second_if (Some (record s { kind = z }))) (sym e) in
      by-kind kind e ∙ (λ j. If s.head (term_at k n) (own_vars k (r j)) (sym p j) (own_vars k (t j)) (sym q j) rest)

  -- a `while`
  pub code-while : (n : ℕ) (a : Block) → s.kind ≡ kinds.While n a → stmt_code (setting_at u m) i rest
      ≡ While s.head (term_at (setting_at u m) n) (own_vars (setting_at u m) (first_if (Some s))) (code_from u m (parts.First i) 0) rest
  code-while n a e =
      let k = setting_at u m in
      let kind = kinds.While n a in
      let p = first-is kind e in
      let r : first_if (Some (record s { kind = kind })) ≡ first_if (Some s) = ap (λ z. first_if (Some (record s { kind = z }))) (sym e) in
      by-kind kind e ∙ (λ j. While s.head (term_at k n) (own_vars k (r j)) (sym p j) rest)

  -- a `par`
  pub code-par : (a b : Block) → s.kind ≡ kinds.Par a b → stmt_code (setting_at u m) i rest
      ≡ Par s.head (own_vars (setting_at u m) (first_if (Some s))) (code_from u m (parts.First i) 0) (own_vars (setting_at u m) (second_if (Some s))) (code_from u m (parts.Second i) 0) rest
  code-par a b e =
      let k = setting_at u m in
      let kind = kinds.Par a b in
      let p = first-is kind e in
      let q = second-is kind e in
      let r : first_if (Some (record s { kind = kind })) ≡ first_if (Some s) = ap (λ z. first_if (Some (record s { kind = z }))) (sym e) in
      let t : second_if (Some (record s { kind = kind })) ≡ second_if (Some s) = ap (λ z. second_if (Some (record s { kind = z }))) (sym e) in
      by-kind kind e ∙ (λ j. Par s.head (own_vars k (r j)) (sym p j) (own_vars k (t j)) (sym q j) rest)

  -- a recover block
  pub code-recover : (t : Option Ty) (x : Ident) (b : Block) (w : Ident) (give : Span) → s.kind ≡ kinds.Assign t x (rhs.Recover b w give) → stmt_code (setting_at u m) i rest
      ≡ Recover s.head (var_at (setting_at u m) x) (own_vars (setting_at u m) (first_if (Some s))) (tied_before s.head.end 0 (setting_at u m).vars) (code_from u m (parts.First i) 0) rest
  code-recover t x b w give e =
      let k = setting_at u m in
      let kind = kinds.Assign t x (rhs.Recover b w give) in
      let p = first-is kind e in
      let r : first_if (Some (record s { kind = kind })) ≡ first_if (Some s) = ap (λ z. first_if (Some (record s { kind = z }))) (sym e) in
      by-kind kind e ∙ (λ j. Recover s.head (var_at k x) (own_vars k (r j)) (tied_before s.head.end 0 k.vars) (sym p j) rest)
