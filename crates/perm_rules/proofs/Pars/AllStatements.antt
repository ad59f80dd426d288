-- The marks of all statements of a method tell of their codes.
use Rattle.std.proofs.Common.{◌≡◌, ℕ, zero, suc, ◌+◌, ◌<◌, List, [], ◌∷◌, ◌++◌, length, Some, refl, sym, subst, arith, length-append, add-zero}
use borrow.Author.Count.{below_more}
use Rattle.std.specs.Prelude.{get_or, slice_get}
use Rattle.std.proofs.Math.ListN.{get_or-append}
use Rattle.std.proofs.Math.Seq.{get_or-append_seam}
use Rattle.perm_tree.specs.declared.ast.Stmt.{Stmt}
use Rattle.perm_tree.specs.declared.unit.VarInfo.{VarInfo}
use Rattle.perm_tree.specs.Code.{Code}
use Rattle.perm_tree.specs.CodeOf.{kind_code}
use Rattle.perm_tree.specs.Entries.{entries_from}
use Rattle.perm_tree.specs.Places.{KindPlaced}
use Rattle.perm_tree.specs.Scopes.{inner_vars}
use Rattle.perm_tree.specs.TextOrder.{Marks, stmt_marks}
use Rattle.perm_rules.proofs.Pars.OwnVariables.{MethodFacts}
use Rattle.perm_rules.proofs.Pars.Tellings.{TellsOf, IsTold}
use Rattle.perm_rules.proofs.Pars.KindsOfStatements.{kind-told}

module _ (facts : MethodFacts) where
  open facts use {setting as k, context as c, exprs}
  open k.tables.program use {stmts}

  -- what is told stays so behind it
  old-told : (ms : List Marks) (fs : List (Code → Code)) (inner : List (List VarInfo)) (m : Marks) (f : Code → Code) (vs : List VarInfo) (at : ℕ) → length fs ≡ length ms → length inner ≡ length ms → at < length ms
      → IsTold facts ms fs inner at → IsTold facts (ms ++ m ∷ []) (fs ++ f ∷ []) (inner ++ vs ∷ []) at
  old-told ms fs inner m f vs at same wide before (s, here, tells) = (s, here, λ lo rest. moved lo rest)
    where
      marks : get_or (ms ++ m ∷ []) at (λ ms. ms) ≡ get_or ms at (λ ms. ms)
      marks = get_or-append ms (m ∷ []) (λ ms. ms) at before

      code : get_or (fs ++ f ∷ []) at (λ c. c) ≡ get_or fs at (λ c. c)
      code = get_or-append fs (f ∷ []) (λ c. c) at (omega arith)

      within : get_or (inner ++ vs ∷ []) at [] ≡ get_or inner at []
      within = get_or-append inner (vs ∷ []) [] at (omega arith)

      moved : TellsOf facts s (get_or (ms ++ m ∷ []) at (λ ms. ms)) (get_or (fs ++ f ∷ []) at (λ c. c)) (get_or (inner ++ vs ∷ []) at [])
      moved =
          subst (λ g. TellsOf facts s g (get_or (fs ++ f ∷ []) at (λ c. c)) (get_or (inner ++ vs ∷ []) at [])) (sym marks)
          (subst (λ g. TellsOf facts s (get_or ms at (λ ms. ms)) g (get_or (inner ++ vs ∷ []) at [])) (sym code)
          (subst (λ g. TellsOf facts s (get_or ms at (λ ms. ms)) (get_or fs at (λ c. c)) g) (sym within) tells))

  new-told : (ms : List Marks) (fs : List (Code → Code)) (inner : List (List VarInfo)) (m : Marks) (f : Code → Code) (vs : List VarInfo) (s : Stmt) → length fs ≡ length ms → length inner ≡ length ms
      → slice_get stmts (length ms) ≡ Some s → TellsOf facts s m f vs → IsTold facts (ms ++ m ∷ []) (fs ++ f ∷ []) (inner ++ vs ∷ []) (length ms)
  new-told ms fs inner m f vs s same wide here tells = (s, here, moved)
    where
      marks : get_or (ms ++ m ∷ []) (length ms) (λ ms. ms) ≡ m
      marks = get_or-append_seam ms m [] (λ ms. ms)

      code : get_or (fs ++ f ∷ []) (length ms) (λ c. c) ≡ f
      code = subst (λ n. get_or (fs ++ f ∷ []) n (λ c. c) ≡ f) same (get_or-append_seam fs f [] (λ c. c))

      within : get_or (inner ++ vs ∷ []) (length ms) [] ≡ vs
      within = subst (λ n. get_or (inner ++ vs ∷ []) n [] ≡ vs) wide (get_or-append_seam inner vs [] [])

      moved : TellsOf facts s (get_or (ms ++ m ∷ []) (length ms) (λ ms. ms)) (get_or (fs ++ f ∷ []) (length ms) (λ c. c)) (get_or (inner ++ vs ∷ []) (length ms) [])
      moved =
          subst (λ g. TellsOf facts s g (get_or (fs ++ f ∷ []) (length ms) (λ c. c)) (get_or (inner ++ vs ∷ []) (length ms) [])) (sym marks)
          (subst (λ g. TellsOf facts s m g (get_or (inner ++ vs ∷ []) (length ms) [])) (sym code)
          (subst (λ g. TellsOf facts s m f g) (sym within) tells))

  module _ (count : ℕ) (placed : (at : ℕ) (s : Stmt) → slice_get stmts at ≡ Some s → KindPlaced count at s.kind) where
    -- one more statement
    more-told : (ms : List Marks) (fs : List (Code → Code)) (inner : List (List VarInfo)) (s : Stmt) → length fs ≡ length ms → length inner ≡ length ms → slice_get stmts (length ms) ≡ Some s
        → ((at : ℕ) → at < length ms → IsTold facts ms fs inner at)
        → (at : ℕ) → at < length ms + 1 → IsTold facts (ms ++ stmt_marks exprs ms s ∷ []) (fs ++ kind_code k fs s s.kind ∷ []) (inner ++ inner_vars stmts inner s.kind ∷ []) at
    more-told ms fs inner s same wide here all =
        let m : Marks = stmt_marks exprs ms s in
        let f : Code → Code = kind_code k fs s s.kind in
        let vs : List VarInfo = inner_vars stmts inner s.kind in
        let tells : TellsOf facts s m f vs = λ lo rest up rise. kind-told (record { facts = facts; marks = ms; codes = fs; inner = inner; count = length ms; told = all }) count lo s s.kind rest (placed (length ms) s here) up rise in
        below_more
        (IsTold facts (ms ++ m ∷ []) (fs ++ f ∷ []) (inner ++ vs ∷ []))
        (length ms)
        (λ at before. old-told ms fs inner m f vs at same wide before (all at before))
        (new-told ms fs inner m f vs s same wide here tells)

    -- so do the marks of all statements
    pub all-told : (ms : List Marks) (fs : List (Code → Code)) (inner : List (List VarInfo)) (xs : List Stmt) → length fs ≡ length ms → length inner ≡ length ms
        → ((at : ℕ) (s : Stmt) → slice_get xs at ≡ Some s → slice_get stmts (length ms + at) ≡ Some s) → ((at : ℕ) → at < length ms → IsTold facts ms fs inner at)
        → (at : ℕ) → at < length ms + length xs
        → IsTold facts (entries_from (stmt_marks exprs) ms xs) (entries_from (λ codes s. kind_code k codes s s.kind) fs xs) (entries_from (λ before s. inner_vars stmts before s.kind) inner xs) at
    all-told ms fs inner [] same wide there all at within = all at (omega arith)
    all-told ms fs inner (s ∷ xs) same wide there all at within =
        let m : Marks = stmt_marks exprs ms s in
        let f : Code → Code = kind_code k fs s s.kind in
        let vs : List VarInfo = inner_vars stmts inner s.kind in
        let long : length (ms ++ m ∷ []) ≡ length ms + 1 = length-append ms (m ∷ []) in
        let even : length (fs ++ f ∷ []) ≡ length fs + 1 = length-append fs (f ∷ []) in
        let broad : length (inner ++ vs ∷ []) ≡ length inner + 1 = length-append inner (vs ∷ []) in
        let here : slice_get stmts (length ms) ≡ Some s = subst (λ n. slice_get stmts n ≡ Some s) (add-zero (length ms)) (there zero s refl) in
        all-told
        (ms ++ m ∷ [])
        (fs ++ f ∷ [])
        (inner ++ vs ∷ [])
        xs
        (omega arith)
        (omega arith)
        (λ j t q. subst (λ n. slice_get stmts n ≡ Some t) (omega arith) (there (suc j) t q))
        (λ j before. more-told ms fs inner s same wide here all j (omega arith))
        at
        (omega arith)
