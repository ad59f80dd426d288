-- Blocks and operands of a program that is read are shallow.
use Rattle.std.proofs.Common.{ℕ, ◌+◌, ◌≤◌, List, [], ◌∷◌, refl, arith}
use Rattle.perm_tree.specs.Blocks.{rhs_blocks, kind_blocks, HasShallowBlocks}
use Rattle.perm_tree.specs.Operands.{HasShallowOperands}
use Rattle.perm_tree.specs.Places.{Listing}
use Rattle.perm_tree.specs.declared.ast.FieldDecl.{FieldDecl}
use Rattle.perm_tree.specs.declared.ast.Method.{Method}
use Rattle.perm_parse.specs.Grammar.{RhsTree, BlockTree, StmtTree, Stmts, MemberTree, Members, Classes, IsRhs, IsBlock, IsStmt, AreStmts, IsMember, AreMembers, IsProgram}
use Rattle.perm_parse.specs.Levels.{rhs_levels, block_levels, stmt_levels, stmts_levels, member_levels, members_levels, program_levels}
use Rattle.perm_parse.specs.Meaning.{ident, var, type_of, expr_of, target_of, rhs_of, block_of, stmt_of, stmts_of, params_of, member_of, members_of, classes_of, meaning, nothing_yet}
use Rattle.perm_parse.specs.Parses.{Shallow}
use Rattle.perm_parse.proofs.WellFormed.NestedBlocks.{Reads, over, under, join, after, upto, forget, stays, listed, empty, push, ident-reads, mention-reads, var-reads, type-reads, expr-reads, arg-reads, call-reads, target-reads, params-reads}

-- ---------- statements ----------
mutual
  rhs-reads : (text : List ℕ) (a : RhsTree) (s : Listing) (d : ℕ) (rest : List ℕ) → IsRhs a → 2 ≤ d → d ≤ 100 → Reads d (rhs_levels d a rest) rest s (rhs_of text a s).1 (rhs_blocks (rhs_of text a s).0)
  rhs-reads text (RhsTree.value a) s d rest is two le = arg-reads text a s d rest is le two le
  rhs-reads text (RhsTree.field name dot member) s d rest is two le = over (over (over (after (var-reads text name s le) (ident-reads text member _ le))))
  rhs-reads text (RhsTree.take_field word name dot member) s d rest is two le = over (over (over (over (after (var-reads text name s le) (ident-reads text member _ le)))))
  rhs-reads text (RhsTree.item name opening e closing) s d rest is two le =
      over (under (λ more. after (var-reads text name s le) (upto (expr-reads text e (var text name s).1 (d + 1) (d + 1) (d ∷ rest) is.index le (omega arith) more))))
  rhs-reads text (RhsTree.new_object word name opening closing) s d rest is two le = over (over (over (over (mention-reads text name s le))))
  rhs-reads text (RhsTree.new_array word long opening e closing) s d rest is two le =
      over (over (under (λ more. upto (expr-reads text e s (d + 1) (d + 1) (d ∷ rest) is.size le (omega arith) more))))
  rhs-reads text (RhsTree.called c) s d rest is two le = call-reads text c s d rest is two le
  rhs-reads text (RhsTree.recover word opening b give name end closing) s d rest is two le =
      over (under (λ more. join (stmts-reads text b s d _ is.body (omega arith) more) (over (over (over (over (ident-reads text name (stmts_of text b s).1 le)))))))

  block-reads : (text : List ℕ) (a : BlockTree) (s : Listing) (d : ℕ) (rest : List ℕ) → IsBlock a → 2 ≤ d → Reads d (block_levels d a rest) rest s (block_of text a s).1 ((block_of text a s).0 ∷ [])
  block-reads text (BlockTree.block opening b closing) s d rest is two =
      under (λ more. upto (stmts-reads text b s d (d ∷ rest) is.1 (omega arith) more))

  stmt-reads : (text : List ℕ) (a : StmtTree) (s : Listing) (d : ℕ) (rest : List ℕ) → IsStmt a → 2 ≤ d → d ≤ 100 → Reads d (stmt_levels d a rest) rest s (stmt_of text a s).1 (kind_blocks (stmt_of text a s).0.kind)
  stmt-reads text (StmtTree.declare ty name end) s d rest is two le = after (type-reads text ty s d le) (over (over (ident-reads text name (type_of text ty s).1 le)))
  stmt-reads text (StmtTree.assign target equals r end) s d rest is two le =
      after (target-reads text target s d le) (over (upto (rhs-reads text r (target_of text target s).2 d (d ∷ rest) is.right two le)))
  stmt-reads text (StmtTree.set_field name dot member equals a end) s d rest is two le =
      let x = var text name s in
      let y = ident text member x.1 in
      over (over (over (over (after (var-reads text name s le) (after (ident-reads text member x.1 le) (upto (arg-reads text a y.1 d (d ∷ rest) is.value le two le)))))))
  stmt-reads text (StmtTree.set_item name opening i closing equals e end) s d rest is two le =
      let x = var text name s in
      let y = expr_of text i x.1 in
      over (under (λ more. after (var-reads text name s le) (after (expr-reads text i x.1 (d + 1) (d + 1) _ is.index le (omega arith) more) (over (over (upto (expr-reads text e y.1 d d (d ∷ rest) is.value le two le)))))))
  stmt-reads text (StmtTree.run_call c end) s d rest is two le = upto (call-reads text c s d (d ∷ rest) is.0 two le)
  stmt-reads text (StmtTree.print word e end) s d rest is two le = over (upto (expr-reads text e s d d (d ∷ rest) is.1 le two le))
  stmt-reads text (StmtTree.if_then word opening e closing a) s d rest is two le =
      let x = expr_of text e s in
      over (under (λ more. after (expr-reads text e s (d + 1) (d + 1) _ is.test le (omega arith) more) (over (block-reads text a x.1 d rest is.block two))))
  stmt-reads text (StmtTree.if_else word opening e closing a otherwise b) s d rest is two le =
      let x = expr_of text e s in
      let y = block_of text a x.1 in
      over (under (λ more. after (expr-reads text e s (d + 1) (d + 1) _ is.test le (omega arith) more) (over (join (block-reads text a x.1 d _ is.first two) (over (block-reads text b y.1 d rest is.second two))))))
  stmt-reads text (StmtTree.repeat word opening e closing a) s d rest is two le =
      let x = expr_of text e s in
      over (under (λ more. after (expr-reads text e s (d + 1) (d + 1) _ is.test le (omega arith) more) (over (block-reads text a x.1 d rest is.block two))))
  stmt-reads text (StmtTree.par word a b) s d rest is two le = over (join (block-reads text a s d _ is.1 two) (block-reads text b (block_of text a s).1 d rest is.2 two))

  -- the statements of a block within the level d stand at the next one
  stmts-reads : (text : List ℕ) (a : Stmts) (s : Listing) (d : ℕ) (rest : List ℕ) → AreStmts a → 1 ≤ d → d + 1 ≤ 100 → Reads d (stmts_levels (d + 1) a rest) rest s (stmts_of text a s).1 (record { stmts = (stmts_of text a s).0 } ∷ [])
  stmts-reads text Stmts.no_stmts s d rest is one le = empty le
  stmts-reads text (Stmts.more_stmts b x) s d rest is one le =
      let y = stmts_of text b s in
      let z = stmt_of text x y.1 in
      push z.0 y.0 one (stmts-reads text b s d _ is.0 one le) (stmt-reads text x y.1 (d + 1) rest is.1 (omega arith) le)

-- ---------- methods and classes ----------
member-reads : (text : List ℕ) (x : MemberTree) (fs : List FieldDecl) (ds : List Method) (s : Listing) (rest : List ℕ) → IsMember x → Reads 0 (member_levels x rest) rest s (member_of text x fs ds s).2 []
member-reads text (MemberTree.field_member ty name end) fs ds s rest is = after (type-reads text ty s 1 (omega arith)) (over (over (ident-reads text name (type_of text ty s).1 (omega arith))))
member-reads text (MemberTree.method ty name opening list closing p perm start b word a end finish) fs ds s rest is =
    let x = type_of text ty s in
    let y = ident text name x.1 in
    let z = params_of text list y.1 in
    let v = stmts_of text b z.1 in
    after (type-reads text ty s 1 (omega arith))
    (after (over (over (ident-reads text name x.1 (omega arith))))
    (after (params-reads text list y.1 2 (omega arith))
    (over (over (over (after (forget (stmts-reads text b z.1 1 _ is.body (omega arith) (omega arith))) (over (after (arg-reads text a v.1 2 (2 ∷ 1 ∷ rest) is.back (omega arith) (omega arith) (omega arith)) (over (over (stays (omega arith))))))))))))

members-reads : (text : List ℕ) (a : Members) (s : Listing) (rest : List ℕ) → AreMembers a → Reads 0 (members_levels a rest) rest s (members_of text a s).2 []
members-reads text Members.no_members s rest is = stays (omega arith)
members-reads text (Members.more_members list x) s rest is =
    let r = members_of text list s in
    after (members-reads text list s _ is.0) (member-reads text x r.0 r.1 r.2 rest is.1)

classes-reads : (text : List ℕ) (a : Classes) (s : Listing) (rest : List ℕ) → IsProgram a → Reads 0 (program_levels a rest) rest s (classes_of text a s) []
classes-reads text Classes.no_classes s rest is = stays (omega arith)
classes-reads text (Classes.more_classes list word name opening members closing) s rest is =
    let front = classes_of text list s in
    let x = ident text name front in
    let r = members_of text members x.1 in
    listed refl refl (after (classes-reads text list s _ is.list) (over (over (over (after (ident-reads text name front (omega arith)) (upto (members-reads text members x.1 (0 ∷ rest) is.members)))))))

pub meaning-blocks : (text : List ℕ) (tree : Classes) → IsProgram tree → Shallow (program_levels tree []) → HasShallowBlocks (meaning text tree).stmts
meaning-blocks text tree is low = ((classes-reads text tree nothing_yet [] is).left low).blocks (λ k d within. absurd (omega arith))

pub meaning-operands : (text : List ℕ) (tree : Classes) → IsProgram tree → Shallow (program_levels tree []) → HasShallowOperands (meaning text tree).exprs
meaning-operands text tree is low = ((classes-reads text tree nothing_yet [] is).left low).operands (λ k d within. absurd (omega arith))
