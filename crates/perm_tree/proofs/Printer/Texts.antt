-- The texts of the parts of which each form is made.
use Rattle.std.proofs.Common.{◌≡◌, ◌∙◌, ap, sym, refl, ℕ, ◌+◌, List, [], ◌∷◌, ◌++◌, map, append_assoc, arith, Option, Some, None}
use Rattle.std.specs.Prelude.{reverse, get_or, zero, suc}
use mathlib.Core.List.{reverse-append, reverse-reverse, map-append}
use Rattle.perm_tree.specs.declared.ast.Arg.{Arg}
use Rattle.perm_tree.specs.declared.ast.Call.{Call}
use Rattle.perm_tree.specs.declared.ast.Block.{Block}
use Rattle.perm_tree.specs.declared.ast.FieldDecl.{FieldDecl}
use Rattle.perm_tree.specs.declared.ast.Method.{Method}
use Rattle.perm_tree.specs.declared.ast.Ident.{Ident}
use Rattle.perm_tree.specs.declared.ast.Span.{Span}
use Rattle.perm_tree.specs.declared.ast.Rhs.{Rhs}
use Rattle.perm_tree.specs.declared.ast.Rhs.TheVariants as right
use Rattle.perm_tree.specs.declared.ast.StmtKind.{StmtKind}
use Rattle.perm_tree.specs.declared.ast.StmtKind.TheVariants as form
use Rattle.perm_tree.specs.declared.print.part.Part.{Part}
use Rattle.perm_tree.specs.declared.print.part.Part.TheVariants as piece
use Rattle.perm_tree.specs.declared.print.part.Part.TheVariants.{Word as Fixed, Indent}
use Rattle.perm_tree.specs.declared.print.part.Word.TheVariants as fixed
use Rattle.perm_tree.specs.Printer.Expressions.{parts_text}
use Rattle.perm_tree.specs.Printer.Programs.{Wording, wording, args_parts, more_args_parts, arg_text, block_parts, call_parts, declared_text, else_parts, field_parts, indent, method_parts, more_params_parts, params_parts, rhs_parts, stmt_parts, stmt_texts}
use Rattle.perm_tree.specs.Printer.PendingParts.{part_text, part_text_in, rest_text}
use Rattle.perm_tree.specs.Places.{Listing}
use Rattle.perm_tree.specs.Printer.Parts.{onto, args_tasks, block_tasks, call_tasks, else_tasks, field_tasks, method_tasks, more_args_tasks, more_params_tasks, params_tasks, recover_tasks, rhs_tasks, stmt_tasks}

-- ---------- texts of stacks ----------
pub parts_text-append : (xs ys : List (List ℕ)) → parts_text (xs ++ ys) ≡ parts_text xs ++ parts_text ys
parts_text-append [] ys = refl
parts_text-append (x ∷ xs) ys = ap (λ l. x ++ l) (parts_text-append xs ys) ∙ sym (append_assoc x (parts_text xs) (parts_text ys))

-- the text of parts that are pushed stands before the rest
pub rest_text-onto : (p : Listing) (stack parts : List Part) → rest_text p (onto stack parts) ≡ parts_text (map (part_text p) parts) ++ rest_text p stack
unfolding onto rest_text
rest_text-onto p stack parts =
    let order : reverse (stack ++ reverse parts) ≡ parts ++ reverse stack = reverse-append stack (reverse parts) ∙ ap (λ l. l ++ reverse stack) (reverse-reverse parts) in
    ap (λ l. parts_text (map (part_text p) l)) order ∙ ap parts_text (map-append (part_text p) parts (reverse stack)) ∙ parts_text-append (map (part_text p) parts) (map (part_text p) (reverse stack))

-- the last part of a stack is the next one
pub rest_text-last : (p : Listing) (stack : List Part) (part : Part) → rest_text p (stack ++ part ∷ []) ≡ part_text p part ++ rest_text p stack
unfolding rest_text
rest_text-last p stack part = ap (λ l. parts_text (map (part_text p) l)) (reverse-append stack (part ∷ []))

pub rest_text-none : (p : Listing) → rest_text p [] ≡ []
unfolding rest_text
rest_text-none p = refl

-- one level more
pub indent-more : (depth : ℕ) → indent (depth + 1) ≡ indent depth ++ 32 ∷ 32 ∷ []
indent-more zero = refl
indent-more (suc depth) =
    let more : suc depth + 1 ≡ suc (depth + 1) = omega arith in
    ap indent more ∙ ap (λ l. 32 ∷ 32 ∷ l) (indent-more depth)

-- ---------- texts of forms ----------
module _ (w : Wording) (texts : List (ℕ → List ℕ)) where
  abbrev T : Part → List ℕ
  T = part_text_in w texts

  pub block-texts : (depth : ℕ) (is : List ℕ) → map T (block_tasks depth is) ≡ block_parts texts depth is
  block-texts depth [] = refl
  block-texts depth (i ∷ is) = ap (λ l. get_or texts i (λ d. []) depth ∷ l) (block-texts depth is)

  pub more_args-texts : (args : List Arg) → map T (more_args_tasks args) ≡ more_args_parts w args
  more_args-texts [] = refl
  more_args-texts (a ∷ args) = ap (λ l. (44 ∷ 32 ∷ []) ∷ arg_text w a ∷ l) (more_args-texts args)

  pub args-texts : (args : List Arg) → map T (args_tasks args) ≡ args_parts w args
  args-texts [] = refl
  args-texts (a ∷ args) = ap (λ l. arg_text w a ∷ l) (more_args-texts args)

  -- parts behind others
  behind : (xs ys : List Part) (us vs : List (List ℕ)) → map T xs ≡ us → map T ys ≡ vs → map T (xs ++ ys) ≡ us ++ vs
  behind xs ys us vs p q = map-append T xs ys ∙ ap (λ l. l ++ map T ys) p ∙ ap (λ l. us ++ l) q

  pub call-texts : (c : Call) → map T (call_tasks c) ≡ call_parts w c
  call-texts c = ap (λ l. T (piece.Receiver c.consumed c.on) ∷ T (Fixed fixed.Dot) ∷ T (piece.Name c.«method») ∷ T (Fixed fixed.Open) ∷ l) (behind (args_tasks c.args) (Fixed fixed.Close ∷ []) _ _ (args-texts c.args) refl)

  pub recover-texts : (depth : ℕ) (b : Block) (y : Ident) (give : Span) → map T (recover_tasks depth b y) ≡ rhs_parts w texts depth (right.Recover b y give)
  recover-texts depth b y give =
      ap (λ l. T (Fixed fixed.Recover) ∷ l)
      (behind (block_tasks (depth + 1) b.stmts) (Indent (depth + 1) ∷ Fixed fixed.Give ∷ piece.Name y ∷ Fixed fixed.End ∷ Indent depth ∷ Fixed fixed.RecoverEnd ∷ []) _ _ (block-texts (depth + 1) b.stmts) refl)

  pub rhs-texts : (depth : ℕ) (r : Rhs) → map T (rhs_tasks depth r) ≡ rhs_parts w texts depth r
  rhs-texts depth (right.Value a) = refl
  rhs-texts depth (right.Field y f) = refl
  rhs-texts depth (right.TakeField y f) = refl
  rhs-texts depth (right.Item y e) = refl
  rhs-texts depth (right.New c) = refl
  rhs-texts depth (right.NewArray e) = refl
  rhs-texts depth (right.Call c) = behind (call_tasks c) (Fixed fixed.End ∷ []) _ _ (call-texts c) refl
  rhs-texts depth (right.Recover b y give) = recover-texts depth b y give

  else-texts : (depth : ℕ) (b : Option Block) → map T (else_tasks depth b) ≡ else_parts texts depth b
  else-texts depth None = refl
  else-texts depth (Some b) =
      ap (λ l. T (Indent depth) ∷ T (Fixed fixed.Else) ∷ l) (behind (block_tasks (depth + 1) b.stmts) (Indent depth ∷ Fixed fixed.BlockEnd ∷ []) _ _ (block-texts (depth + 1) b.stmts) refl)

  pub stmt-texts : (depth : ℕ) (k : StmtKind) → map T (stmt_tasks depth k) ≡ stmt_parts w texts depth k
  stmt-texts depth (form.Declare t x) = refl
  stmt-texts depth (form.Assign t x r) = ap (λ l. T (Indent depth) ∷ T (piece.Target t x) ∷ T (Fixed fixed.Gets) ∷ l) (rhs-texts depth r)
  stmt-texts depth (form.SetField y f a) = refl
  stmt-texts depth (form.SetItem y i e) = refl
  stmt-texts depth (form.Call c) = ap (λ l. T (Indent depth) ∷ l) (behind (call_tasks c) (Fixed fixed.End ∷ []) _ _ (call-texts c) refl)
  stmt-texts depth (form.Print e) = refl
  stmt-texts depth (form.If e a b) =
      ap (λ l. T (Indent depth) ∷ T (Fixed fixed.If) ∷ T (piece.Expr e) ∷ T (Fixed fixed.Body) ∷ l)
      (behind (block_tasks (depth + 1) a.stmts) (else_tasks depth b) _ _ (block-texts (depth + 1) a.stmts) (else-texts depth b))
  stmt-texts depth (form.While e a) =
      ap (λ l. T (Indent depth) ∷ T (Fixed fixed.While) ∷ T (piece.Expr e) ∷ T (Fixed fixed.Body) ∷ l)
      (behind (block_tasks (depth + 1) a.stmts) (Indent depth ∷ Fixed fixed.BlockEnd ∷ []) _ _ (block-texts (depth + 1) a.stmts) refl)
  stmt-texts depth (form.Par a b) =
      ap (λ l. T (Indent depth) ∷ T (Fixed fixed.Par) ∷ l)
      (behind (block_tasks (depth + 1) a.stmts) (Indent depth ∷ Fixed fixed.Beside ∷ (block_tasks (depth + 1) b.stmts ++ Indent depth ∷ Fixed fixed.BlockEnd ∷ [])) _ _ (block-texts (depth + 1) a.stmts)
      (ap (λ l. T (Indent depth) ∷ T (Fixed fixed.Beside) ∷ l) (behind (block_tasks (depth + 1) b.stmts) (Indent depth ∷ Fixed fixed.BlockEnd ∷ []) _ _ (block-texts (depth + 1) b.stmts) refl)))

  more_params-texts : (ds : List FieldDecl) → map T (more_params_tasks ds) ≡ more_params_parts w ds
  more_params-texts [] = refl
  more_params-texts (d ∷ ds) = ap (λ l. (44 ∷ 32 ∷ []) ∷ declared_text w.names d.ty d.name ∷ l) (more_params-texts ds)

  pub params-texts : (ds : List FieldDecl) → map T (params_tasks ds) ≡ params_parts w ds
  params-texts [] = refl
  params-texts (d ∷ ds) = ap (λ l. declared_text w.names d.ty d.name ∷ l) (more_params-texts ds)

-- ---------- texts of members ----------
pub method-texts : (p : Listing) (m : Method) → map (part_text p) (method_tasks m) ≡ method_parts p m
method-texts p m =
    let T = part_text p in
    let end : List Part = Indent 2 ∷ Fixed fixed.Return ∷ piece.Arg m.back ∷ Fixed fixed.End ∷ Indent 1 ∷ Fixed fixed.BlockEnd ∷ [] in
    let body = behind (wording p) (stmt_texts p) (block_tasks 2 m.body.stmts) end _ _ (block-texts (wording p) (stmt_texts p) 2 m.body.stmts) refl in
    ap (λ l. T (Indent 1) ∷ T (piece.Declared m.result m.name) ∷ T (Fixed fixed.Open) ∷ l)
    (behind (wording p) (stmt_texts p) (params_tasks m.params) (Fixed fixed.ParamsEnd ∷ piece.Perm m.receiver ∷ Fixed fixed.MethodBody ∷ (block_tasks 2 m.body.stmts ++ end)) _ _
    (params-texts (wording p) (stmt_texts p) m.params)
    (ap (λ l. T (Fixed fixed.ParamsEnd) ∷ T (piece.Perm m.receiver) ∷ T (Fixed fixed.MethodBody) ∷ l) body))

pub field-texts : (p : Listing) (f : FieldDecl) → map (part_text p) (field_tasks f) ≡ field_parts p f
field-texts p f = refl
