-- A program's tree without its redundant parentheses is a tree, means the same, is as shallow, and has no other tokens but parentheses.
use Rattle.std.proofs.Common.{◌≡◌, ℕ, ◌+◌, ◌≤◌, List, [], ◌∷◌, refl, arith}
use Rattle.perm_tree.specs.Places.{Listing}
use Rattle.perm_tree.specs.declared.ast.FieldDecl.{FieldDecl}
use Rattle.perm_tree.specs.declared.ast.Method.{Method}
use Rattle.perm_tree.specs.declared.tokens.Token.{Token}
use Rattle.perm_parse.specs.Grammar.{ExprTree, ArgTree, ArgList, Args, CallTree, RhsTree, BlockTree, StmtTree, Stmts, MemberTree, Members, Classes}
use Rattle.perm_parse.specs.Grammar.{TypeTree, RecvTree, TargetTree, ParamList, Params}
use Rattle.perm_parse.specs.Grammar.{IsExpr, IsArg, IsArgList, AreArgs, IsCall, IsRhs, IsBlock, IsStmt, AreStmts, IsMember, AreMembers, IsProgram}
use Rattle.perm_parse.specs.Levels.{type_levels, recv_levels, target_levels, param_list_levels, params_levels}
use Rattle.perm_parse.specs.Levels.{expr_levels, arg_levels, arg_list_levels, args_levels, call_levels, rhs_levels, block_levels, stmt_levels, stmts_levels, member_levels, members_levels, program_levels}
use Rattle.perm_parse.specs.Meaning.{ident, var, target_of, expr_of, arg_of, arg_list_of, args_of, call_of, rhs_of, stmt_of, stmts_of, method_of, member_of, members_of, classes_of, head_last}
use Rattle.perm_parse.specs.Parses.{Shallow, deepest}
use Rattle.perm_parse.proofs.RoundTrip.CanonicalTrees.{bare, bare-is, bare-of, bare-low}

abbrev pub bare_arg : ArgTree → ArgTree
bare_arg (ArgTree.plain e) = ArgTree.plain (bare e)
bare_arg (ArgTree.consumed word name) = ArgTree.consumed word name

abbrev pub bare_arg_list : ArgList → ArgList
bare_arg_list (ArgList.one_arg a) = ArgList.one_arg (bare_arg a)
bare_arg_list (ArgList.more_args list comma a) = ArgList.more_args (bare_arg_list list) comma (bare_arg a)

abbrev pub bare_args : Args → Args
bare_args Args.no_args = Args.no_args
bare_args (Args.args list) = Args.args (bare_arg_list list)

abbrev pub bare_call : CallTree → CallTree
bare_call (CallTree.call recv dot name opening list closing) = CallTree.call recv dot name opening (bare_args list) closing

abbrev mutual
  pub bare_rhs : RhsTree → RhsTree
  bare_rhs (RhsTree.value a) = RhsTree.value (bare_arg a)
  bare_rhs (RhsTree.field name dot member) = RhsTree.field name dot member
  bare_rhs (RhsTree.take_field word name dot member) = RhsTree.take_field word name dot member
  bare_rhs (RhsTree.item name opening e closing) = RhsTree.item name opening (bare e) closing
  bare_rhs (RhsTree.new_object word name opening closing) = RhsTree.new_object word name opening closing
  bare_rhs (RhsTree.new_array word long opening e closing) = RhsTree.new_array word long opening (bare e) closing
  bare_rhs (RhsTree.called c) = RhsTree.called (bare_call c)
  bare_rhs (RhsTree.recover word opening b give name end closing) = RhsTree.recover word opening (bare_stmts b) give name end closing

  pub bare_block : BlockTree → BlockTree
  bare_block (BlockTree.block opening b closing) = BlockTree.block opening (bare_stmts b) closing

  pub bare_stmt : StmtTree → StmtTree
  bare_stmt (StmtTree.declare ty name end) = StmtTree.declare ty name end
  bare_stmt (StmtTree.assign target equals r end) = StmtTree.assign target equals (bare_rhs r) end
  bare_stmt (StmtTree.set_field name dot member equals a end) = StmtTree.set_field name dot member equals (bare_arg a) end
  bare_stmt (StmtTree.set_item name opening i closing equals e end) = StmtTree.set_item name opening (bare i) closing equals (bare e) end
  bare_stmt (StmtTree.run_call c end) = StmtTree.run_call (bare_call c) end
  bare_stmt (StmtTree.print word e end) = StmtTree.print word (bare e) end
  bare_stmt (StmtTree.if_then word opening e closing a) = StmtTree.if_then word opening (bare e) closing (bare_block a)
  bare_stmt (StmtTree.if_else word opening e closing a otherwise b) = StmtTree.if_else word opening (bare e) closing (bare_block a) otherwise (bare_block b)
  bare_stmt (StmtTree.repeat word opening e closing a) = StmtTree.repeat word opening (bare e) closing (bare_block a)
  bare_stmt (StmtTree.par word a b) = StmtTree.par word (bare_block a) (bare_block b)

  pub bare_stmts : Stmts → Stmts
  bare_stmts Stmts.no_stmts = Stmts.no_stmts
  bare_stmts (Stmts.more_stmts b x) = Stmts.more_stmts (bare_stmts b) (bare_stmt x)

abbrev pub bare_member : MemberTree → MemberTree
bare_member (MemberTree.field_member ty name end) = MemberTree.field_member ty name end
bare_member (MemberTree.method ty name opening list closing p perm start b word a end finish) = MemberTree.method ty name opening list closing p perm start (bare_stmts b) word (bare_arg a) end finish

abbrev pub bare_members : Members → Members
bare_members Members.no_members = Members.no_members
bare_members (Members.more_members list x) = Members.more_members (bare_members list) (bare_member x)

abbrev pub bare_classes : Classes → Classes
bare_classes Classes.no_classes = Classes.no_classes
bare_classes (Classes.more_classes list word name opening members closing) = Classes.more_classes (bare_classes list) word name opening (bare_members members) closing

-- ---- it is a tree

bare_arg-is : (a : ArgTree) → IsArg a → IsArg (bare_arg a)
bare_arg-is (ArgTree.plain e) h = bare-is e h
bare_arg-is (ArgTree.consumed word name) h = h

bare_arg_list-is : (list : ArgList) → IsArgList list → IsArgList (bare_arg_list list)
bare_arg_list-is (ArgList.one_arg a) h = bare_arg-is a h
bare_arg_list-is (ArgList.more_args list comma a) h = (bare_arg_list-is list h.0, h.1, bare_arg-is a h.2)

bare_args-is : (list : Args) → AreArgs list → AreArgs (bare_args list)
bare_args-is Args.no_args h = tt
bare_args-is (Args.args list) h = bare_arg_list-is list h

bare_call-is : (c : CallTree) → IsCall c → IsCall (bare_call c)
bare_call-is (CallTree.call recv dot name opening list closing) h = record { receiver = h.receiver; dot = h.dot; name = h.name; opening = h.opening; args = bare_args-is list h.args; closing = h.closing }

mutual
  bare_rhs-is : (r : RhsTree) → IsRhs r → IsRhs (bare_rhs r)
  bare_rhs-is (RhsTree.value a) h = bare_arg-is a h
  bare_rhs-is (RhsTree.field name dot member) h = h
  bare_rhs-is (RhsTree.take_field word name dot member) h = h
  bare_rhs-is (RhsTree.item name opening e closing) h = record { name = h.name; opening = h.opening; index = bare-is e h.index; closing = h.closing }
  bare_rhs-is (RhsTree.new_object word name opening closing) h = h
  bare_rhs-is (RhsTree.new_array word long opening e closing) h = record { word = h.word; long = h.long; opening = h.opening; size = bare-is e h.size; closing = h.closing }
  bare_rhs-is (RhsTree.called c) h = bare_call-is c h
  bare_rhs-is (RhsTree.recover word opening b give name end closing) h = record { word = h.word; opening = h.opening; body = bare_stmts-is b h.body; give = h.give; name = h.name; end = h.end; closing = h.closing }

  bare_block-is : (a : BlockTree) → IsBlock a → IsBlock (bare_block a)
  bare_block-is (BlockTree.block opening b closing) h = (h.0, bare_stmts-is b h.1, h.2)

  bare_stmt-is : (x : StmtTree) → IsStmt x → IsStmt (bare_stmt x)
  bare_stmt-is (StmtTree.declare ty name end) h = h
  bare_stmt-is (StmtTree.assign target equals r end) h = record { target = h.target; equals = h.equals; right = bare_rhs-is r h.right; end = h.end }
  bare_stmt-is (StmtTree.set_field name dot member equals a end) h = record { name = h.name; dot = h.dot; member = h.member; equals = h.equals; value = bare_arg-is a h.value; end = h.end }
  bare_stmt-is (StmtTree.set_item name opening i closing equals e end) h = record { name = h.name; opening = h.opening; index = bare-is i h.index; closing = h.closing; equals = h.equals; value = bare-is e h.value; end = h.end }
  bare_stmt-is (StmtTree.run_call c end) h = (bare_call-is c h.0, h.1)
  bare_stmt-is (StmtTree.print word e end) h = (h.0, bare-is e h.1, h.2)
  bare_stmt-is (StmtTree.if_then word opening e closing a) h = record { word = h.word; opening = h.opening; test = bare-is e h.test; closing = h.closing; block = bare_block-is a h.block }
  bare_stmt-is (StmtTree.if_else word opening e closing a otherwise b) h = record { word = h.word; opening = h.opening; test = bare-is e h.test; closing = h.closing; first = bare_block-is a h.first; otherwise = h.otherwise; second = bare_block-is b h.second }
  bare_stmt-is (StmtTree.repeat word opening e closing a) h = record { word = h.word; opening = h.opening; test = bare-is e h.test; closing = h.closing; block = bare_block-is a h.block }
  bare_stmt-is (StmtTree.par word a b) h = (h.0, bare_block-is a h.1, bare_block-is b h.2)

  bare_stmts-is : (b : Stmts) → AreStmts b → AreStmts (bare_stmts b)
  bare_stmts-is Stmts.no_stmts h = tt
  bare_stmts-is (Stmts.more_stmts b x) h = (bare_stmts-is b h.0, bare_stmt-is x h.1)

bare_member-is : (x : MemberTree) → IsMember x → IsMember (bare_member x)
bare_member-is (MemberTree.field_member ty name end) h = h
bare_member-is (MemberTree.method ty name opening list closing p perm start b word a end finish) h = record { ty = h.ty; name = h.name; opening = h.opening; params = h.params; closing = h.closing; perm = h.perm; start = h.start; body = bare_stmts-is b h.body; word = h.word; back = bare_arg-is a h.back; end = h.end; finish = h.finish }

bare_members-is : (list : Members) → AreMembers list → AreMembers (bare_members list)
bare_members-is Members.no_members h = tt
bare_members-is (Members.more_members list x) h = (bare_members-is list h.0, bare_member-is x h.1)

pub bare_classes-is : (list : Classes) → IsProgram list → IsProgram (bare_classes list)
bare_classes-is Classes.no_classes h = tt
bare_classes-is (Classes.more_classes list word name opening members closing) h = record { list = bare_classes-is list h.list; word = h.word; name = h.name; opening = h.opening; members = bare_members-is members h.members; closing = h.closing }

-- ---- it means the same

bare_arg-of : (text : List ℕ) (a : ArgTree) (s : Listing) → arg_of text (bare_arg a) s ≡ arg_of text a s
bare_arg-of text (ArgTree.plain e) s = rw (bare-of text e s) refl
bare_arg-of text (ArgTree.consumed word name) s = refl

bare_arg_list-of : (text : List ℕ) (list : ArgList) (s : Listing) → arg_list_of text (bare_arg_list list) s ≡ arg_list_of text list s
bare_arg_list-of text (ArgList.one_arg a) s = rw (bare_arg-of text a s) refl
bare_arg_list-of text (ArgList.more_args list comma a) s = rw (bare_arg_list-of text list s, bare_arg-of text a (arg_list_of text list s).1) refl

bare_args-of : (text : List ℕ) (list : Args) (s : Listing) → args_of text (bare_args list) s ≡ args_of text list s
bare_args-of text Args.no_args s = refl
bare_args-of text (Args.args list) s = bare_arg_list-of text list s

bare_call-of : (text : List ℕ) (c : CallTree) (s : Listing) → call_of text (bare_call c) s ≡ call_of text c s
bare_call-of text (CallTree.call recv dot name opening list closing) s = rw bare_args-of refl

bare-head : (r : RhsTree) (end : Token) → head_last (bare_rhs r) end ≡ head_last r end
bare-head (RhsTree.value a) end = refl
bare-head (RhsTree.field name dot member) end = refl
bare-head (RhsTree.take_field word name dot member) end = refl
bare-head (RhsTree.item name opening e closing) end = refl
bare-head (RhsTree.new_object word name opening closing) end = refl
bare-head (RhsTree.new_array word long opening e closing) end = refl
bare-head (RhsTree.called c) end = refl
bare-head (RhsTree.recover word opening b give name semicolon closing) end = refl

mutual
  bare_rhs-of : (text : List ℕ) (r : RhsTree) (s : Listing) → rhs_of text (bare_rhs r) s ≡ rhs_of text r s
  bare_rhs-of text (RhsTree.value a) s = rw (bare_arg-of text a s) refl
  bare_rhs-of text (RhsTree.field name dot member) s = refl
  bare_rhs-of text (RhsTree.take_field word name dot member) s = refl
  bare_rhs-of text (RhsTree.item name opening e closing) s = rw bare-of refl
  bare_rhs-of text (RhsTree.new_object word name opening closing) s = refl
  bare_rhs-of text (RhsTree.new_array word long opening e closing) s = rw (bare-of text e s) refl
  bare_rhs-of text (RhsTree.called c) s = rw (bare_call-of text c s) refl
  bare_rhs-of text (RhsTree.recover word opening b give name end closing) s = rw (bare_stmts-of text b s) refl

  bare_stmt-of : (text : List ℕ) (x : StmtTree) (s : Listing) → stmt_of text (bare_stmt x) s ≡ stmt_of text x s
  bare_stmt-of text (StmtTree.declare ty name end) s = refl
  bare_stmt-of text (StmtTree.assign target equals r end) s = let rest : (z : Listing) → rhs_of text (bare_rhs r) z ≡ rhs_of text r z = λ z. bare_rhs-of text r z in rw (bare-head r end, rest (target_of text target s).2) refl
  bare_stmt-of text (StmtTree.set_field name dot member equals a end) s = rw bare_arg-of refl
  bare_stmt-of text (StmtTree.set_item name opening i closing equals e end) s =
      let x : (z : Listing) → expr_of text (bare i) z ≡ expr_of text i z = λ z. bare-of text i z in
      let y : (z : Listing) → expr_of text (bare e) z ≡ expr_of text e z = λ z. bare-of text e z in
      rw (x (var text name s).1, y (expr_of text i (var text name s).1).1) refl
  bare_stmt-of text (StmtTree.run_call (CallTree.call recv dot name opening list closing) end) s = rw bare_args-of refl
  bare_stmt-of text (StmtTree.print word e end) s = rw (bare-of text e s) refl
  bare_stmt-of text (StmtTree.if_then word opening e closing (BlockTree.block start b finish)) s = rw (bare-of text e s, bare_stmts-of text b (expr_of text e s).1) refl
  bare_stmt-of text (StmtTree.if_else word opening e closing (BlockTree.block start b finish) otherwise (BlockTree.block start2 b2 finish2)) s =
      rw (bare-of text e s, bare_stmts-of text b (expr_of text e s).1, bare_stmts-of text b2 (stmts_of text b (expr_of text e s).1).1) refl
  bare_stmt-of text (StmtTree.repeat word opening e closing (BlockTree.block start b finish)) s = rw (bare-of text e s, bare_stmts-of text b (expr_of text e s).1) refl
  bare_stmt-of text (StmtTree.par word (BlockTree.block start b finish) (BlockTree.block start2 b2 finish2)) s = rw (bare_stmts-of text b s, bare_stmts-of text b2 (stmts_of text b s).1) refl

  bare_stmts-of : (text : List ℕ) (b : Stmts) (s : Listing) → stmts_of text (bare_stmts b) s ≡ stmts_of text b s
  bare_stmts-of text Stmts.no_stmts s = refl
  bare_stmts-of text (Stmts.more_stmts b x) s = rw (bare_stmts-of text b s, bare_stmt-of text x (stmts_of text b s).1) refl

bare_member-of : (text : List ℕ) (x : MemberTree) (fields : List FieldDecl) (methods : List Method) (s : Listing) → member_of text (bare_member x) fields methods s ≡ member_of text x fields methods s
bare_member-of text (MemberTree.field_member ty name end) fields methods s = refl
bare_member-of text (MemberTree.method ty name opening list closing p perm start b word a end finish) fields methods s =
    let z = (method_of text ty name list s).program in
    rw (bare_stmts-of text b z, bare_arg-of text a (stmts_of text b z).1) refl

bare_members-of : (text : List ℕ) (list : Members) (s : Listing) → members_of text (bare_members list) s ≡ members_of text list s
bare_members-of text Members.no_members s = refl
bare_members-of text (Members.more_members list x) s =
    let r = members_of text list s in
    rw (bare_members-of text list s, bare_member-of text x r.0 r.1 r.2) refl

pub bare_classes-of : (text : List ℕ) (list : Classes) (s : Listing) → classes_of text (bare_classes list) s ≡ classes_of text list s
bare_classes-of text Classes.no_classes s = refl
bare_classes-of text (Classes.more_classes list word name opening members closing) s =
    let x = ident text name (classes_of text list s) in
    rw (bare_classes-of text list s, bare_members-of text members x.1) refl

-- ---- it is as shallow

-- where the first levels aren't too deep, neither are the others
record Lows (rest others : List ℕ) : Type 0 where
  pub keeps : Shallow rest → Shallow others

one : {d : ℕ} {rest others : List ℕ} → Lows rest others → Lows (d ∷ rest) (d ∷ others)
one more = record { keeps = λ h. (h.0, more.keeps h.1) }

under : {d : ℕ} {rest others : List ℕ} → (d ≤ deepest → Lows rest others) → Lows (d ∷ rest) (d ∷ others)
under more = record { keeps = λ h. (h.0, (more h.0).keeps h.1) }

type-low : (d : ℕ) (t : TypeTree) (rest others : List ℕ) → Lows rest others → Lows (type_levels d t rest) (type_levels d t others)
type-low d (TypeTree.long_type t) rest others more = one more
type-low d (TypeTree.bool_type t) rest others more = one more
type-low d (TypeTree.object_type p perm name) rest others more = one (one more)
type-low d (TypeTree.array_type p perm word opening closing) rest others more = one (one (one (one more)))

expr-low : (i d : ℕ) (e : ExprTree) (rest others : List ℕ) → IsExpr e → i ≤ deepest → Lows rest others → Lows (expr_levels i d e rest) (expr_levels i d (bare e) others)
expr-low i d e rest others is le more = record { keeps = bare-low i d e rest others is le more.keeps }

arg-low : (d : ℕ) (a : ArgTree) (rest others : List ℕ) → IsArg a → d ≤ deepest → Lows rest others → Lows (arg_levels d a rest) (arg_levels d (bare_arg a) others)
arg-low d (ArgTree.plain e) rest others is le more = expr-low d d e rest others is le more
arg-low d (ArgTree.consumed word name) rest others is le more = one (one more)

arg_list-low : (d : ℕ) (list : ArgList) (rest others : List ℕ) → IsArgList list → d ≤ deepest → Lows rest others → Lows (arg_list_levels d list rest) (arg_list_levels d (bare_arg_list list) others)
arg_list-low d (ArgList.one_arg a) rest others is le more = arg-low d a rest others is le more
arg_list-low d (ArgList.more_args list comma a) rest others is le more =
    arg_list-low d list (d ∷ arg_levels d a rest) (d ∷ arg_levels d (bare_arg a) others) is.0 le (one (arg-low d a rest others is.2 le more))

args-low : (d : ℕ) (list : Args) (rest others : List ℕ) → AreArgs list → d ≤ deepest → Lows rest others → Lows (args_levels d list rest) (args_levels d (bare_args list) others)
args-low d Args.no_args rest others is le more = more
args-low d (Args.args list) rest others is le more = arg_list-low d list rest others is le more

recv-low : (d : ℕ) (r : RecvTree) (rest others : List ℕ) → Lows rest others → Lows (recv_levels d r rest) (recv_levels d r others)
recv-low d (RecvTree.lent name) rest others more = one more
recv-low d (RecvTree.given opening word name closing) rest others more = one (one (one (one more)))

call-low : (d : ℕ) (c : CallTree) (rest others : List ℕ) → IsCall c → Lows rest others → Lows (call_levels d c rest) (call_levels d (bare_call c) others)
call-low d (CallTree.call recv dot name opening list closing) rest others is more =
    recv-low d recv _ _ (one (one (under (λ le. args-low (d + 1) list (d ∷ rest) (d ∷ others) is.args le (one more)))))

target-low : (d : ℕ) (t : TargetTree) (rest others : List ℕ) → Lows rest others → Lows (target_levels d t rest) (target_levels d t others)
target-low d (TargetTree.known name) rest others more = one more
target-low d (TargetTree.declared ty name) rest others more = type-low d ty (d ∷ rest) (d ∷ others) (one more)

mutual
  rhs-low : (d : ℕ) (r : RhsTree) (rest others : List ℕ) → IsRhs r → d ≤ deepest → Lows rest others → Lows (rhs_levels d r rest) (rhs_levels d (bare_rhs r) others)
  rhs-low d (RhsTree.value a) rest others is le more = arg-low d a rest others is le more
  rhs-low d (RhsTree.field name dot member) rest others is le more = one (one (one more))
  rhs-low d (RhsTree.take_field word name dot member) rest others is le more = one (one (one (one more)))
  rhs-low d (RhsTree.item name opening e closing) rest others is le more = one (under (λ l. expr-low (d + 1) (d + 1) e (d ∷ rest) (d ∷ others) is.index l (one more)))
  rhs-low d (RhsTree.new_object word name opening closing) rest others is le more = one (one (one (one more)))
  rhs-low d (RhsTree.new_array word long opening e closing) rest others is le more = one (one (under (λ l. expr-low (d + 1) (d + 1) e (d ∷ rest) (d ∷ others) is.size l (one more))))
  rhs-low d (RhsTree.called c) rest others is le more = call-low d c rest others is more
  rhs-low d (RhsTree.recover word opening b give name end closing) rest others is le more =
      one (under (λ l. stmts-low (d + 1) b _ _ is.body l (one (one (one (one more))))))

  block-low : (d : ℕ) (a : BlockTree) (rest others : List ℕ) → IsBlock a → Lows rest others → Lows (block_levels d a rest) (block_levels d (bare_block a) others)
  block-low d (BlockTree.block opening b closing) rest others is more = under (λ l. stmts-low (d + 1) b (d ∷ rest) (d ∷ others) is.1 l (one more))

  stmt-low : (d : ℕ) (x : StmtTree) (rest others : List ℕ) → IsStmt x → d ≤ deepest → Lows rest others → Lows (stmt_levels d x rest) (stmt_levels d (bare_stmt x) others)
  stmt-low d (StmtTree.declare ty name end) rest others is le more = type-low d ty (d ∷ d ∷ rest) (d ∷ d ∷ others) (one (one more))
  stmt-low d (StmtTree.assign target equals r end) rest others is le more =
      target-low d target _ _ (one (rhs-low d r (d ∷ rest) (d ∷ others) is.right le (one more)))
  stmt-low d (StmtTree.set_field name dot member equals a end) rest others is le more = one (one (one (one (arg-low d a (d ∷ rest) (d ∷ others) is.value le (one more)))))
  stmt-low d (StmtTree.set_item name opening i closing equals e end) rest others is le more =
      one (under (λ l. expr-low (d + 1) (d + 1) i _ _ is.index l (one (one (expr-low d d e (d ∷ rest) (d ∷ others) is.value le (one more))))))
  stmt-low d (StmtTree.run_call c end) rest others is le more = call-low d c (d ∷ rest) (d ∷ others) is.0 (one more)
  stmt-low d (StmtTree.print word e end) rest others is le more = one (expr-low d d e (d ∷ rest) (d ∷ others) is.1 le (one more))
  stmt-low d (StmtTree.if_then word opening e closing a) rest others is le more =
      one (under (λ l. expr-low (d + 1) (d + 1) e _ _ is.test l (one (block-low d a rest others is.block more))))
  stmt-low d (StmtTree.if_else word opening e closing a otherwise b) rest others is le more =
      one (under (λ l. expr-low (d + 1) (d + 1) e _ _ is.test l (one (block-low d a _ _ is.first (one (block-low d b rest others is.second more))))))
  stmt-low d (StmtTree.repeat word opening e closing a) rest others is le more =
      one (under (λ l. expr-low (d + 1) (d + 1) e _ _ is.test l (one (block-low d a rest others is.block more))))
  stmt-low d (StmtTree.par word a b) rest others is le more = one (block-low d a _ _ is.1 (block-low d b rest others is.2 more))

  stmts-low : (d : ℕ) (b : Stmts) (rest others : List ℕ) → AreStmts b → d ≤ deepest → Lows rest others → Lows (stmts_levels d b rest) (stmts_levels d (bare_stmts b) others)
  stmts-low d Stmts.no_stmts rest others is le more = more
  stmts-low d (Stmts.more_stmts b x) rest others is le more = stmts-low d b _ _ is.0 le (stmt-low d x rest others is.1 le more)

param_list-low : (d : ℕ) (list : ParamList) (rest others : List ℕ) → Lows rest others → Lows (param_list_levels d list rest) (param_list_levels d list others)
param_list-low d (ParamList.one_param ty name) rest others more = type-low d ty (d ∷ rest) (d ∷ others) (one more)
param_list-low d (ParamList.more_params list comma ty name) rest others more = param_list-low d list _ _ (one (type-low d ty (d ∷ rest) (d ∷ others) (one more)))

params-low : (d : ℕ) (list : Params) (rest others : List ℕ) → Lows rest others → Lows (params_levels d list rest) (params_levels d list others)
params-low d Params.no_params rest others more = more
params-low d (Params.params list) rest others more = param_list-low d list rest others more

member-low : (x : MemberTree) (rest others : List ℕ) → IsMember x → Lows rest others → Lows (member_levels x rest) (member_levels (bare_member x) others)
member-low (MemberTree.field_member ty name end) rest others is more = type-low 1 ty (1 ∷ 1 ∷ rest) (1 ∷ 1 ∷ others) (one (one more))
member-low (MemberTree.method ty name opening list closing p perm start b word a end finish) rest others is more =
    type-low 1 ty _ _ (one (one (params-low 2 list _ _ (one (one (one
    (stmts-low 2 b _ _ is.body (omega arith) (one (arg-low 2 a (2 ∷ 1 ∷ rest) (2 ∷ 1 ∷ others) is.back (omega arith) (one (one more)))))))))))

members-low : (list : Members) (rest others : List ℕ) → AreMembers list → Lows rest others → Lows (members_levels list rest) (members_levels (bare_members list) others)
members-low Members.no_members rest others is more = more
members-low (Members.more_members list x) rest others is more = members-low list _ _ is.0 (member-low x rest others is.1 more)

classes-low : (list : Classes) (rest others : List ℕ) → IsProgram list → Lows rest others → Lows (program_levels list rest) (program_levels (bare_classes list) others)
classes-low Classes.no_classes rest others is more = more
classes-low (Classes.more_classes list word name opening members closing) rest others is more =
    classes-low list _ _ is.list (one (one (one (members-low members (0 ∷ rest) (0 ∷ others) is.members (one more)))))

pub bare_classes-low : (list : Classes) → IsProgram list → Shallow (program_levels list []) → Shallow (program_levels (bare_classes list) [])
bare_classes-low list is h = (classes-low list [] [] is (record { keeps = λ k. k })).keeps h
