-- Resolving leaves the blocks of a program.
use Rattle.std.proofs.Common.{◌≡◌, ◌≢◌, ◌≤◌, List, [], ◌∷◌, ◌++◌, refl, sym, ◌∙◌, ap, subst, arith}
use Rattle.std.specs.Prelude.{All, AllPairs, Contains, map}
use Rattle.std.proofs.lemmas.List.{length-map}
use Rattle.perm_tree.specs.Blocks.{kind_blocks, stmt_blocks, blocks_of, block_places, blocks_depth, stmt_depth, stmt_depths, HasShallowBlocks, HasStatementsOnce}
use Rattle.perm_tree.specs.Entries.{entries_from}
use Rattle.perm_tree.specs.Lookup.{class_place}
use Rattle.perm_tree.specs.Places.{Listing}
use Rattle.perm_tree.specs.Resolves.{renamed_kind, renamed_method, renamed_stmt, resolved}
use Rattle.perm_tree.specs.TextOrder.{methods_of}
use Rattle.perm_tree.specs.declared.ast.Method.{Method}
use Rattle.perm_tree.specs.declared.ast.StmtKind.{StmtKind}
use Rattle.perm_tree.specs.declared.ast.StmtKind.TheVariants.{Declare, Assign, SetField, SetItem, Call, Print, If, While, Par}
use Rattle.perm_tree.proofs.ResolvedLaws.{flat_map-unseen, map-unseen}
use Rattle.perm_tree.proofs.ResolvedOrder.{methods-resolved}

-- where a change of the elements isn't seen by what makes the entries, these stay
entries-unseen : {X A : Type 0} (make : List A → X → A) (g : X → X) (before : List A) (xs : List X) → ((es : List A) (x : X) → make es (g x) ≡ make es x) → entries_from make before (map g xs) ≡ entries_from make before xs
entries-unseen make g before [] same = refl
entries-unseen make g before (x ∷ xs) same = ap (λ e. entries_from make (before ++ e ∷ []) (map g xs)) (same before x) ∙ entries-unseen make g (before ++ make before x ∷ []) xs same

module _ (p : Listing) where
  -- a resolved statement has the same blocks
  kind-blocks : (kind : StmtKind) → kind_blocks (renamed_kind (class_place p) kind) ≡ kind_blocks kind
  kind-blocks (Declare t x) = refl
  kind-blocks (Assign t x r) = refl
  kind-blocks (SetField y f a) = refl
  kind-blocks (SetItem y i e) = refl
  kind-blocks (Call c) = refl
  kind-blocks (Print e) = refl
  kind-blocks (If e a b) = refl
  kind-blocks (While e a) = refl
  kind-blocks (Par a b) = refl

  stmts-blocks : stmt_blocks (resolved p).stmts ≡ stmt_blocks p.stmts
  stmts-blocks = flat_map-unseen (λ s. kind_blocks s.kind) (renamed_stmt (class_place p)) p.stmts (λ s. kind-blocks s.kind)

  bodies : map (λ d. d.body) (methods_of (resolved p)) ≡ map (λ d. d.body) (methods_of p)
  bodies = ap (map (λ (d : Method). d.body)) (methods-resolved p) ∙ map-unseen (λ d. d.body) (renamed_method (class_place p)) (methods_of p) (λ d. refl)

  -- the blocks of the resolved program are those of the program
  blocks-resolved : blocks_of (resolved p) ≡ blocks_of p
  blocks-resolved = λ j. stmts-blocks j ++ bodies j

  -- each statement of it stands in one block
  pub resolved-once : HasStatementsOnce p → HasStatementsOnce (resolved p)
  resolved-once once = record {
    held = λ at within. subst (λ bs. Contains (block_places bs) at) (sym blocks-resolved) (once.held at (omega (arith, length-map p.stmts (renamed_stmt (class_place p)))));
    apart = subst (λ bs. AllPairs (λ i j. i ≢ j) (block_places bs)) (sym blocks-resolved) once.apart;
  }

  -- blocks nest in it as deep as before
  depths-resolved : stmt_depths (resolved p).stmts ≡ stmt_depths p.stmts
  depths-resolved = entries-unseen stmt_depth (renamed_stmt (class_place p)) [] p.stmts (λ depths s. ap (blocks_depth depths) (kind-blocks s.kind))

  pub resolved-shallow : HasShallowBlocks p.stmts → HasShallowBlocks (resolved p).stmts
  resolved-shallow shallow = subst (All (λ n. n ≤ 98)) (sym depths-resolved) shallow
