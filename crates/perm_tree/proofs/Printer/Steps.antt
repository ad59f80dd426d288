-- What a part's text and work are, by those of the parts of which it is made.
use Rattle.std.proofs.Common.{◌≡◌, ◌∙◌, ap, sym, refl, subst, ℕ, suc, ◌+◌, ◌<◌, ◌≤◌, List, [], ◌∷◌, ◌++◌, length, map, append_assoc, append-nil, arith, Bool, true, false, Some, None, Result, Ok, Err, ◌⊎◌, inl, inr}
use Rattle.std.specs.Prelude.{OnOk, codes, get_or, nat_lt, nat_le, reverse, slice_get}
use Rattle.std.proofs.lemmas.Option.{slice_get_cases, slice_get-get_or, slice_get_read}
use Rattle.std.specs.Fmt.{signed_decimal}
use Rattle.std.proofs.Math.ListN.{get_or-append, get_or-eq_default}
use mathlib.Core.List.{map-append, reverse-cons}
use mathlib.Core.Path.{fun_ext}
use Rattle.perm_tree.specs.declared.ast.Arg.{Arg}
use Rattle.perm_tree.specs.declared.ast.Arg.TheVariants.{Expr as Plain, Consume}
use Rattle.perm_tree.specs.declared.ast.Expr.{Expr}
use Rattle.perm_tree.specs.declared.ast.Expr.TheVariants as node
use Rattle.perm_tree.specs.declared.ast.Ident.{Ident}
use Rattle.perm_tree.specs.declared.ast.Stmt.{Stmt}
use Rattle.perm_tree.specs.declared.print.part.Part.{Part}
use Rattle.perm_tree.specs.declared.print.part.Part.TheVariants.{Operator, Arg as Argument, Expr as Expression, Stmt as Statement}
use Rattle.perm_tree.specs.Printer.Expressions.{ExprText, parts_text, left_operand, level, operand, operator_text, right_operand, sign_text, tight_text, unary_operand, word, expr_text_of, expr_text_at}
use Rattle.perm_tree.specs.Printer.Programs.{Wording, name_text, wording, stmt_text, stmt_texts}
use Rattle.perm_tree.specs.Printer.PendingParts.{AllFit, AreParts, Fits, IsPart, Remains, Steps, expr_work, exprs_work, part_text, part_text_in, part_work, rest_text, rest_work, stmt_work, stmts_work, total, work_in}
use Rattle.perm_tree.specs.Places.{ExprBelow, IsPlaced, KindPlaced, Listing}
use Rattle.perm_tree.specs.Printer.Parts.{onto, expr_tasks, looseness, looseness_at, looseness_if, operand_tasks, stmt_tasks, truth_task}
use Rattle.perm_tree.proofs.Entries.{ReadsBefore, entries_of-at, length-entries_of}
use Rattle.perm_tree.proofs.Printer.Fits.{expr_fits, first_ones, fits-onto, last_one, stmt_fits}
use Rattle.perm_tree.proofs.Printer.Texts.{rest_text-last, rest_text-none, rest_text-onto, stmt-texts}

-- ---------- parts that are read alike ----------
map-alike : {A : Type 0} (exprs stmts room : ℕ) (f g : Part → A) → ((x : Part) → Fits exprs stmts room x → f x ≡ g x) → (xs : List Part) → AllFit exprs stmts room xs → map f xs ≡ map g xs
map-alike exprs stmts room f g alike [] fit = refl
map-alike exprs stmts room f g alike (x ∷ xs) fit = ap (λ v. v ∷ map f xs) (alike x fit.0) ∙ ap (λ l. g x ∷ l) (map-alike exprs stmts room f g alike xs fit.1)

-- the texts of more statements
texts-front : (w : Wording) (before after : List (ℕ → List ℕ)) (exprs at room : ℕ) → length before ≡ at → (x : Part) → Fits exprs at room x → part_text_in w (before ++ after) x ≡ part_text_in w before x
texts-front w before after exprs at room len (Statement i d) fit = ap (λ f. f d) (get_or-append before after (λ d. []) i (omega (arith, fit.0)))
texts-front w before after exprs at room len _ fit = refl

-- the work of more statements
stmts-front : (ew : List ℕ) (before after : List (ℕ → ℕ)) (exprs at room : ℕ) → length before ≡ at → (x : Part) → Fits exprs at room x → work_in ew (before ++ after) x ≡ work_in ew before x
stmts-front ew before after exprs at room len (Statement i d) fit = ap (λ f. suc (f d)) (get_or-append before after (λ d. 0) i (omega (arith, fit.0)))
stmts-front ew before after exprs at room len (Argument (Plain e)) fit = refl
stmts-front ew before after exprs at room len (Argument (Consume y)) fit = refl
stmts-front ew before after exprs at room len _ fit = refl

-- the work of more expressions
exprs-front : (before after : List ℕ) (at room : ℕ) → length before ≡ at → (x : Part) → Fits at 0 room x → work_in (before ++ after) [] x ≡ work_in before [] x
exprs-front before after at room len (Argument (Plain e)) fit = ap (λ n. suc (suc n)) (get_or-append before after 0 e (omega arith))
exprs-front before after at room len (Argument (Consume y)) fit = refl
exprs-front before after at room len (Expression e) fit = ap suc (get_or-append before after 0 e (omega arith))
exprs-front before after at room len (Statement i d) fit = absurd (omega (arith, fit.0))
exprs-front before after at room len _ fit = refl

-- expressions hold no statements
no-stmts : (ew : List ℕ) (sw : List (ℕ → ℕ)) (exprs room : ℕ) → (x : Part) → Fits exprs 0 room x → work_in ew [] x ≡ work_in ew sw x
no-stmts ew sw exprs room (Statement i d) fit = absurd (omega (arith, fit.0))
no-stmts ew sw exprs room (Argument (Plain e)) fit = refl
no-stmts ew sw exprs room (Argument (Consume y)) fit = refl
no-stmts ew sw exprs room _ fit = refl

-- ---------- entries by those before them ----------
written-reads : (names : List (List ℕ)) (at : ℕ) (e : Expr) → ExprBelow at e → ReadsBefore (expr_text_of names) at e
written-reads names at (node.Number n) below before after len = refl
written-reads names at (node.Bool b) below before after len = refl
written-reads names at node.Null below before after len = refl
written-reads names at (node.Var x) below before after len = refl
written-reads names at (node.Unary o a) below before after len =
    ap (λ v. tight_text (parts_text (sign_text o ∷ unary_operand v))) (get_or-append before after (tight_text []) a (omega arith))
written-reads names at (node.Binary o a b) below before after len =
    let left = get_or-append before after (tight_text []) a (omega (arith, below.0)) in
    let right = get_or-append before after (tight_text []) b (omega (arith, below.1)) in
    let whole : ExprText → ExprText → ExprText = λ v u. record { text = parts_text (left_operand o v ++ operator_text o ∷ right_operand o u); looseness = level o } in
    ap (λ v. whole v (expr_text_at (before ++ after) b)) left ∙ ap (whole (expr_text_at before a)) right

expr_work-reads : (exprs : List Expr) (at : ℕ) (e : Expr) → ExprBelow at e → ReadsBefore (expr_work exprs) at e
expr_work-reads exprs at e below before after len =
    ap total (map-alike at 0 0 (work_in (before ++ after) []) (work_in before []) (exprs-front before after at 0 len) (expr_tasks exprs e) (expr_fits at 0 0 exprs at e (omega arith) below))

stmt_text-reads : (w : Wording) (exprs at : ℕ) (s : Stmt) → KindPlaced exprs at s.kind → ReadsBefore (stmt_text w) at s
stmt_text-reads w exprs at s placed before after len =
    fun_ext (λ depth.
    ap parts_text (sym (stmt-texts w (before ++ after) depth s.kind)
    ∙ map-alike exprs at (depth + at) (part_text_in w (before ++ after)) (part_text_in w before) (texts-front w before after exprs at (depth + at) len) (stmt_tasks depth s.kind) (stmt_fits exprs at (depth + at) depth at s.kind (omega arith) (omega arith) placed)
    ∙ stmt-texts w before depth s.kind))

stmt_work-reads : (ew : List ℕ) (exprs at : ℕ) (s : Stmt) → KindPlaced exprs at s.kind → ReadsBefore (stmt_work ew) at s
stmt_work-reads ew exprs at s placed before after len =
    fun_ext (λ depth.
    ap total (map-alike exprs at (depth + at) (work_in ew (before ++ after)) (work_in ew before) (stmts-front ew before after exprs at (depth + at) len) (stmt_tasks depth s.kind) (stmt_fits exprs at (depth + at) depth at s.kind (omega arith) (omega arith) placed)))

-- ---------- the parts of a whole program ----------
module _ (p : Listing) (placed : IsPlaced p) where
  abbrev W : Wording
  W = wording p

  abbrev T : Part → List ℕ
  T = part_text p

  -- an expression as it is written
  written-here : (at : ℕ) (e : Expr) → slice_get p.exprs at ≡ Some e → expr_text_at W.expr_texts at ≡ expr_text_of p.names W.expr_texts e
  written-here at e here = entries_of-at (expr_text_of p.names) p.exprs at e (tight_text []) here (written-reads p.names at e (placed.exprs at e here))

  looseness-written : (e : Expr) → looseness e ≡ (expr_text_of p.names W.expr_texts e).looseness
  looseness-written (node.Number n) = refl
  looseness-written (node.Bool b) = refl
  looseness-written node.Null = refl
  looseness-written (node.Var x) = refl
  looseness-written (node.Unary o a) = refl
  looseness-written (node.Binary o a b) = refl

  looseness-here : (at : ℕ) → looseness_at p.exprs at ≡ (expr_text_at W.expr_texts at).looseness
  looseness-here at = go (slice_get_cases p.exprs at).1
    where
      go : ((x : Expr) × (at < length p.exprs) × (slice_get p.exprs at ≡ Some x) × (get_or p.exprs at x ≡ x)) ⊎ ((length p.exprs ≤ at) × (slice_get p.exprs at ≡ None))
          → looseness_at p.exprs at ≡ (expr_text_at W.expr_texts at).looseness
      go (inl (e, within, here, same)) = ap looseness_if here ∙ looseness-written e ∙ sym (ap (λ (v : ExprText). v.looseness) (written-here at e here))
      go (inr (past, none)) =
          ap looseness_if none ∙ sym (ap (λ (v : ExprText). v.looseness) (get_or-eq_default W.expr_texts (tight_text []) (omega (arith, length-entries_of (expr_text_of p.names) p.exprs))))

  operand-text : (b : Bool) (at : ℕ) → map T (operand_tasks b at) ≡ operand b (expr_text_at W.expr_texts at).text
  operand-text true at = refl
  operand-text false at = refl

  truth-text : (b : Bool) → parts_text (T (truth_task b) ∷ []) ≡ (expr_text_of p.names W.expr_texts (node.Bool b)).text
  truth-text true = refl
  truth-text false = refl

  parts-written : (e : Expr) → parts_text (map T (expr_tasks p.exprs e)) ≡ (expr_text_of p.names W.expr_texts e).text
  parts-written (node.Number n) = append-nil (signed_decimal n)
  parts-written (node.Bool b) = truth-text b
  parts-written node.Null = refl
  parts-written (node.Var x) = append-nil (word p.names x.name)
  parts-written (node.Unary o a) =
      ap (λ l. parts_text (sign_text o ∷ l))
      (operand-text (nat_lt 0 (looseness_at p.exprs a)) a ∙ ap (λ n. operand (nat_lt 0 n) (expr_text_at W.expr_texts a).text) (looseness-here a))
  parts-written (node.Binary o a b) =
      let left = operand-text (nat_lt (level o) (looseness_at p.exprs a)) a ∙ ap (λ n. operand (nat_lt (level o) n) (expr_text_at W.expr_texts a).text) (looseness-here a) in
      let right = operand-text (nat_le (level o) (looseness_at p.exprs b)) b ∙ ap (λ n. operand (nat_le (level o) n) (expr_text_at W.expr_texts b).text) (looseness-here b) in
      ap parts_text
      (map-append T (operand_tasks (nat_lt (level o) (looseness_at p.exprs a)) a) (Operator o ∷ operand_tasks (nat_le (level o) (looseness_at p.exprs b)) b)
      ∙ ap (λ l. l ++ operator_text o ∷ map T (operand_tasks (nat_le (level o) (looseness_at p.exprs b)) b)) left
      ∙ ap (λ l. left_operand o (expr_text_at W.expr_texts a) ++ operator_text o ∷ l) right)

  -- the text of an expression is that of its parts
  pub expr-text : (at : ℕ) (e : Expr) → slice_get p.exprs at ≡ Some e → T (Expression at) ≡ parts_text (map T (expr_tasks p.exprs e))
  expr-text at e here = ap (λ (v : ExprText). v.text) (written-here at e here) ∙ sym (parts-written e)

  -- so for a statement
  pub stmt-text : (at depth : ℕ) (s : Stmt) → slice_get p.stmts at ≡ Some s → T (Statement at depth) ≡ parts_text (map T (stmt_tasks depth s.kind))
  stmt-text at depth s here =
      ap (λ (f : ℕ → List ℕ). f depth) (entries_of-at (stmt_text W) p.stmts at s (λ d. []) here (stmt_text-reads W (length p.exprs) at s (placed.stmts at s here)))
      ∙ ap parts_text (sym (stmt-texts W (stmt_texts p) depth s.kind))

  -- an expression takes one step more than its parts
  pub expr-work : (at : ℕ) (e : Expr) → slice_get p.exprs at ≡ Some e → part_work p (Expression at) ≡ suc (total (map (part_work p) (expr_tasks p.exprs e)))
  expr-work at e here =
      let below = placed.exprs at e here in
      ap suc
      (entries_of-at (expr_work p.exprs) p.exprs at e 0 here (expr_work-reads p.exprs at e below)
      ∙ ap total (map-alike at 0 0 (work_in (exprs_work p.exprs) []) (part_work p) (no-stmts (exprs_work p.exprs) (stmts_work p) at 0) (expr_tasks p.exprs e) (expr_fits at 0 0 p.exprs at e (omega arith) below)))

  -- so for a statement
  pub stmt-work : (at depth : ℕ) (s : Stmt) → slice_get p.stmts at ≡ Some s → part_work p (Statement at depth) ≡ suc (total (map (part_work p) (stmt_tasks depth s.kind)))
  stmt-work at depth s here =
      ap (λ (f : ℕ → ℕ). suc (f depth)) (entries_of-at (stmt_work (exprs_work p.exprs)) p.stmts at s (λ d. 0) here (stmt_work-reads (exprs_work p.exprs) (length p.exprs) at s (placed.stmts at s here)))

-- ---------- the work of stacks ----------
total-append : (xs ys : List ℕ) → total (xs ++ ys) ≡ total xs + total ys
total-append [] ys = omega arith
total-append (x ∷ xs) ys = omega (arith, total-append xs ys)

-- the work of parts in any of two orders
total-reversed : (f : Part → ℕ) (xs : List Part) → total (map f (reverse xs)) ≡ total (map f xs)
total-reversed f [] = refl
total-reversed f (x ∷ xs) =
    ap (λ l. total (map f l)) (reverse-cons x xs) ∙ ap total (map-append f (reverse xs) (x ∷ [])) ∙ total-append (map f (reverse xs)) (f x ∷ [])
    ∙ ap (λ n. n + (f x + 0)) (total-reversed f xs) ∙ turned (total (map f xs)) (f x)
  where
    turned : (a b : ℕ) → a + (b + 0) ≡ b + a
    turned a b = omega arith

pub rest_work-onto : (p : Listing) (stack parts : List Part) → rest_work p (onto stack parts) ≡ total (map (part_work p) parts) + rest_work p stack
unfolding onto
rest_work-onto p stack parts =
    ap total (map-append (part_work p) stack (reverse parts)) ∙ total-append (map (part_work p) stack) (map (part_work p) (reverse parts))
    ∙ ap (λ n. rest_work p stack + n) (total-reversed (part_work p) parts) ∙ swapped (rest_work p stack) (total (map (part_work p) parts))
  where
    swapped : (a b : ℕ) → a + b ≡ b + a
    swapped a b = omega arith

pub rest_work-last : (p : Listing) (stack : List Part) (part : Part) → rest_work p (stack ++ part ∷ []) ≡ part_work p part + rest_work p stack
rest_work-last p stack part =
    ap total (map-append (part_work p) stack (part ∷ [])) ∙ total-append (map (part_work p) stack) (part_work p part ∷ []) ∙ turned (rest_work p stack) (part_work p part)
  where
    turned : (a b : ℕ) → a + (b + 0) ≡ b + a
    turned a b = omega arith

-- ---------- steps ----------
some-work : (p : Listing) (part : Part) → 0 < part_work p part
some-work p (Argument (Plain e)) = omega arith
some-work p (Argument (Consume y)) = omega arith
some-work p _ = omega arith

-- a part that is written down
pub leaf : {A E : Type 0} (r : Result A E) (p : Listing) (part part' : Part) (text text' : List ℕ) (stack : List Part)
    → part ≡ part' → OnOk r (text' ≡ text ++ part_text p part') → OnOk r (Steps p part text text' stack stack)
leaf (Ok a) p part part' text text' stack is more = record {
  whole = ap (λ l. l ++ rest_text p stack) (more ∙ ap (λ x. text ++ part_text p x) (sym is)) ∙ append_assoc text (part_text p part) (rest_text p stack);
  fits = λ a. a;
  less = omega (arith, some-work p part);
}
leaf (Err e) p part part' text text' stack is more = tt

-- a part that is replaced by the parts of which it is made
pub replaced : {A E : Type 0} (r : Result A E) (p : Listing) (part part' : Part) (parts : List Part) (text : List ℕ) (stack stack' : List Part)
    → part ≡ part' → part_text p part' ≡ parts_text (map (part_text p) parts) → AreParts p parts → part_work p part' ≡ suc (total (map (part_work p) parts))
    → OnOk r (stack' ≡ onto stack parts) → OnOk r (Steps p part text text stack stack')
replaced (Ok a) p part part' parts text stack stack' is same fit work pushed_all =
    let now : part_text p part ≡ parts_text (map (part_text p) parts) = ap (part_text p) is ∙ same in
    let steps : part_work p part ≡ suc (total (map (part_work p) parts)) = ap (part_work p) is ∙ work in
    record {
      whole = ap (λ l. text ++ l) (ap (rest_text p) pushed_all ∙ rest_text-onto p stack parts ∙ ap (λ l. l ++ rest_text p stack) (sym now));
      fits = λ a. subst (AreParts p) (sym pushed_all) (fits-onto (length p.exprs) (length p.stmts) (length p.stmts + 1) stack parts a fit);
      less = omega (arith, steps, ap (rest_work p) pushed_all, rest_work-onto p stack parts);
    }
replaced (Err e) p part part' parts text stack stack' is same fit work pushed_all = tt

-- ---------- steps of each kind ----------
more_below : (at n : ℕ) (e : Expr) → at ≤ n → ExprBelow at e → ExprBelow n e
more_below at n (node.Unary o a) low below = omega arith
more_below at n (node.Binary o a b) low below = (omega (arith, below.0), omega (arith, below.1))
more_below at n _ low below = tt

-- an expression of a program stands above its operands
pub operands_below : (p : Listing) (xs : List Expr) (at : ℕ) (d : Expr) → IsPlaced p → xs ≡ p.exprs → at < length p.exprs → ExprBelow (length xs) (get_or xs at d)
operands_below p xs at d placed same within =
    let here = slice_get-get_or p.exprs at d within in
    subst (λ l. ExprBelow (length l) (get_or l at d)) (sym same) (more_below at (length p.exprs) (get_or p.exprs at d) (omega arith) (placed.exprs at (get_or p.exprs at d) here))

pub expr-steps : {A E : Type 0} (r : Result A E) (p : Listing) (part : Part) (xs : List Expr) (at : ℕ) (d : Expr) (text : List ℕ) (stack stack' : List Part)
    → IsPlaced p → part ≡ Expression at → IsPart p part → xs ≡ p.exprs
    → OnOk r (stack' ≡ onto stack (expr_tasks xs (get_or xs at d))) → OnOk r (Steps p part text text stack stack')
expr-steps r p part xs at d text stack stack' placed is fit same pushed_all =
    let within : at < length p.exprs = subst (IsPart p) is fit in
    let e = get_or p.exprs at d in
    let here = slice_get-get_or p.exprs at d within in
    let parts_fit = expr_fits (length p.exprs) (length p.stmts) (length p.stmts + 1) p.exprs at e (omega arith) (placed.exprs at e here) in
    replaced r p part (Expression at) (expr_tasks p.exprs e) text stack stack' is (expr-text p placed at e here) parts_fit (expr-work p placed at e here)
    (subst (λ l. OnOk r (stack' ≡ onto stack (expr_tasks l (get_or l at d)))) same pushed_all)

pub stmt-steps : {A E : Type 0} (r : Result A E) (p : Listing) (part : Part) (xs : List Stmt) (at depth : ℕ) (s : Stmt) (text : List ℕ) (stack stack' : List Part)
    → IsPlaced p → part ≡ Statement at depth → IsPart p part → xs ≡ p.stmts → s ≡ get_or xs at s
    → OnOk r (stack' ≡ onto stack (stmt_tasks depth s.kind)) → OnOk r (Steps p part text text stack stack')
stmt-steps r p part xs at depth s text stack stack' placed is fit same read pushed_all =
    let within : (at < length p.stmts) × (depth + at ≤ length p.stmts + 1) = subst (IsPart p) is fit in
    let here = slice_get_read p.stmts (length p.stmts) at s refl within.0 (subst (λ l. s ≡ get_or l at s) same read) in
    let parts_fit = stmt_fits (length p.exprs) (length p.stmts) (length p.stmts + 1) depth at s.kind (omega (arith, within.0)) within.1 (placed.stmts at s here) in
    replaced r p part (Statement at depth) (stmt_tasks depth s.kind) text stack stack' is (stmt-text p placed at depth s here) parts_fit (stmt-work p placed at depth s here) pushed_all

pub arg-steps : {A E : Type 0} (r : Result A E) (p : Listing) (arg : Arg) (at : ℕ) (text : List ℕ) (stack stack' : List Part)
    → arg ≡ Plain at → IsPart p (Argument arg) → OnOk r (stack' ≡ onto stack (Expression at ∷ [])) → OnOk r (Steps p (Argument arg) text text stack stack')
arg-steps r p arg at text stack stack' is fit pushed_one =
    let within : at < length p.exprs = subst (λ a. IsPart p (Argument a)) is fit in
    replaced r p (Argument arg) (Argument (Plain at)) (Expression at ∷ []) text stack stack' (ap Argument is) (sym (append-nil (part_text p (Expression at)))) (within, tt) (omega arith) pushed_one

pub consumed-steps : {A E : Type 0} (r : Result A E) (p : Listing) (arg : Arg) (y : Ident) (text middle text' consume_word : List ℕ) (stack : List Part)
    → arg ≡ Consume y → consume_word ≡ codes "consume " → middle ≡ text ++ consume_word → OnOk r (text' ≡ middle ++ name_text p.names y) → OnOk r (Steps p (Argument arg) text text' stack stack)
consumed-steps {A} {E} (Err e) p arg y text middle text' consume_word stack is spelled first more = tt
consumed-steps {A} {E} (Ok a) p arg y text middle text' consume_word stack is spelled first more =
    let word_behind : text' ≡ (text ++ codes "consume ") ++ name_text p.names y = more ∙ ap (λ l. l ++ name_text p.names y) (first ∙ ap (λ l. text ++ l) spelled) in
    let nil : parts_text (codes "consume " ∷ name_text p.names y ∷ []) ≡ codes "consume " ++ name_text p.names y = ap (λ l. codes "consume " ++ l) (append-nil (name_text p.names y)) in
    leaf {A = A} {E = E} (Ok a) p (Argument arg) (Argument (Consume y)) text text' stack (ap Argument is)
    (word_behind ∙ append_assoc text (codes "consume ") (name_text p.names y) ∙ ap (λ l. text ++ l) (sym nil))

-- ---------- the loop ----------
pub popped : (p : Listing) (t0 t : List ℕ) (s0 stack before : List Part) (part : Part) → Remains p t0 t s0 stack → stack ≡ before ++ part ∷ [] → IsPart p part
popped p t0 t s0 stack before part all split =
    last_one (length p.exprs) (length p.stmts) (length p.stmts + 1) before part (subst (AreParts p) split all.fits)

pub stepped : (p : Listing) (t0 t t' : List ℕ) (s0 stack before stack' : List Part) (part : Part)
    → Remains p t0 t s0 stack → stack ≡ before ++ part ∷ [] → Steps p part t t' before stack' → Remains p t0 t' s0 stack'
stepped p t0 t t' s0 stack before stack' part all split step = record {
  whole = step.whole ∙ ap (λ l. t ++ l) (sym (rest_text-last p before part) ∙ ap (rest_text p) (sym split)) ∙ all.whole;
  fits = step.fits (first_ones (length p.exprs) (length p.stmts) (length p.stmts + 1) before (part ∷ []) (subst (AreParts p) split all.fits));
}

pub lighter : (p : Listing) (t t' : List ℕ) (stack before stack' : List Part) (part : Part) → stack ≡ before ++ part ∷ [] → Steps p part t t' before stack' → rest_work p stack' < rest_work p stack
lighter p t t' stack before stack' part split step = omega (arith, step.less, ap (rest_work p) split, rest_work-last p before part)

pub finished : (p : Listing) (t0 t : List ℕ) (s0 stack : List Part) → Remains p t0 t s0 stack → stack ≡ [] → t ≡ t0 ++ rest_text p s0
finished p t0 t s0 stack all none = sym (append-nil t) ∙ ap (λ l. t ++ l) (sym (rest_text-none p) ∙ ap (rest_text p) (sym none)) ∙ all.whole
