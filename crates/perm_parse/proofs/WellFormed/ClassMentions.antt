-- Each class that a type of the meant program names is among its mentions.
use Rattle.std.proofs.Common.{ℕ, List, [], ◌∷◌, ◌++◌, map, Option, Some, None}
use Rattle.std.specs.Prelude.{All, Contains, flat_map}
use Rattle.std.proofs.lemmas.List.{map-append, flat_map_more}
use Rattle.std.proofs.lemmas.List.Elements.{All-nil, All-cons, All-append, All-weaker, Contains-append_left, Contains-push}
use Rattle.perm_tree.specs.Places.{Listing}
use Rattle.perm_tree.specs.WellFormed.{ty_classes, decl_classes, method_classes, member_classes, stmt_classes, type_classes}
use Rattle.perm_tree.specs.declared.ast.Ident.{Ident}
use Rattle.perm_tree.specs.declared.ast.Ty.{Ty}
use Rattle.perm_tree.specs.declared.ast.FieldDecl.{FieldDecl}
use Rattle.perm_tree.specs.declared.ast.Method.{Method}
use Rattle.perm_tree.specs.declared.ast.Expr.{Expr}
use Rattle.perm_tree.specs.declared.ast.Stmt.{Stmt}
use Rattle.perm_tree.specs.declared.ast.ClassDecl.{ClassDecl}
use Rattle.perm_tree.specs.declared.tokens.Token.{Token}
use Rattle.perm_tree.specs.declared.tokens.TokenKind.{TokenKind}
use Rattle.perm_tree.specs.declared.tokens.TokenKind.TheVariants as kinds
use Rattle.perm_parse.specs.Grammar.{TypeTree, ExprTree, ArgTree, ArgList, Args, RecvTree, CallTree, TargetTree, RhsTree, BlockTree, StmtTree, Stmts, ParamList, Params, MemberTree, Members, Classes}
use Rattle.perm_parse.specs.Meaning.{number_at, ident, var_as, var, push_expr, push_stmt, push_mention, type_of, expr_of, arg_of, arg_list_of, args_of, recv_of, call_of, target_of, rhs_of, block_of, stmt_of, stmts_of, param_list_of, params_of, method_of, member_of, members_of, classes_of, meaning, nothing_yet}
use Rattle.perm_parse.proofs.Walks.{IsKept, ident-kept, rhs-kept, type-kept, params-kept, stmts-kept, arg-kept, member-kept}

-- ---- numbers among the mentions

abbrev mention_names : Listing → List ℕ
mention_names s = map (λ i. i.name) s.mentions

abbrev Among : Listing → List ℕ → Type 0
Among s ns = All (Contains (mention_names s)) ns

abbrev StayAmong : List ℕ → Listing → Listing → Type 0
StayAmong ns s t = Among s ns → Among t ns

none-among : (ms : List ℕ) → All (Contains ms) []
none-among ms = All-nil (Contains ms)

both-among : (s : Listing) (ms ns : List ℕ) → Among s ms → Among s ns → Among s (ms ++ ns)
both-among s = All-append (Contains (mention_names s))

-- what some elements name, and one more behind them
more-among : {X : Type 0} (s : Listing) (f : X → List ℕ) (xs : List X) (x : X) → Among s (flat_map f xs) → Among s (f x) → Among s (flat_map f (xs ++ x ∷ []))
more-among s f xs x h k = rw (← flat_map_more f [] xs x) (both-among s (flat_map f xs) (f x) h k)

-- a mention more leaves them among the mentions, and is one
mention-among : (ns : List ℕ) (i : Ident) (s : Listing) → StayAmong ns s (push_mention i s)
mention-among ns i s h =
    rw (map-append (λ (j : Ident). j.name) s.mentions (i ∷ []))
    (All-weaker (Contains (mention_names s)) (Contains (mention_names s ++ i.name ∷ [])) (λ n. Contains-append_left (mention_names s) (i.name ∷ []) n) ns h)

itself-among : (i : Ident) (s : Listing) → Among (push_mention i s) (i.name ∷ [])
itself-among i s =
    rw (map-append (λ (j : Ident). j.name) s.mentions (i ∷ []))
    (All-cons (Contains (mention_names s ++ i.name ∷ [])) i.name [] (Contains-push (mention_names s) i.name) (All-nil (Contains (mention_names s ++ i.name ∷ []))))

number_at-among : (ns : List ℕ) (name : List ℕ) (s : Listing) (o : Option ℕ) → StayAmong ns s (number_at name s o).1
number_at-among ns name s (Some at) h = h
number_at-among ns name s None h = h

-- so the mentions only grow
among : (ns : List ℕ) → IsKept (StayAmong ns)
among ns = record {
  stays = λ s h. h;
  then = λ {s} {t} {u} f g h. g (f h);
  name = λ text t s. number_at-among ns _ s _;
  expr = λ e s h. h;
  mention = mention-among ns;
}

-- ---- what is made where a tree is read

-- the class of a type is mentioned where the type is read
type-among : (text : List ℕ) (a : TypeTree) (s : Listing) → Among (type_of text a s).1 (ty_classes (type_of text a s).0)
type-among text (TypeTree.long_type t) s = none-among _
type-among text (TypeTree.bool_type t) s = none-among _
type-among text (TypeTree.object_type p perm name) s = let r = ident text name s in itself-among r.0 r.1
type-among text (TypeTree.array_type p perm word opening closing) s = none-among _

-- a type is still known after the name that follows it
type-still-among : (text : List ℕ) (a : TypeTree) (name : Token) (s : Listing) → Among (ident text name (type_of text a s).1).1 (ty_classes (type_of text a s).0)
type-still-among text a name s = let ns = ty_classes (type_of text a s).0 in ident-kept (StayAmong ns) (among ns) text name (type_of text a s).1 (type-among text a s)

-- a declaration more
decl-among : (s : Listing) (ds : List FieldDecl) (t : Ty) (x : Ident) → Among s (decl_classes ds) → Among s (ty_classes t) → Among s (decl_classes (ds ++ record { ty = t; name = x } ∷ []))
decl-among s ds t x h k = more-among s (λ (d : FieldDecl). ty_classes d.ty) ds (record { ty = t; name = x }) h k

-- a statement declares a variable in two forms only
stmt-among : (text : List ℕ) (a : StmtTree) (s : Listing) → Among (stmt_of text a s).1 (stmt_classes (stmt_of text a s).0)
stmt-among text (StmtTree.declare ty name end) s =
    let x = type_of text ty s in
    let y = ident text name x.1 in
    decl-among y.1 [] x.0 y.0 (none-among _) (type-still-among text ty name s)
stmt-among text (StmtTree.assign (TargetTree.known name) equals r end) s = none-among _
stmt-among text (StmtTree.assign (TargetTree.declared ty name) equals r end) s =
    let x = type_of text ty s in
    let y = ident text name x.1 in
    let ns = ty_classes x.0 in
    let t = (rhs_of text r y.1).1 in
    decl-among t [] x.0 y.0 (none-among _) (rhs-kept (StayAmong ns) (among ns) (λ x s h. h) text r y.1 (type-still-among text ty name s))
stmt-among text (StmtTree.set_field name dot member equals a end) s = none-among _
stmt-among text (StmtTree.set_item name opening i closing equals e end) s = none-among _
stmt-among text (StmtTree.run_call c end) s = none-among _
stmt-among text (StmtTree.print word e end) s = none-among _
stmt-among text (StmtTree.if_then word opening e closing a) s = none-among _
stmt-among text (StmtTree.if_else word opening e closing a otherwise b) s = none-among _
stmt-among text (StmtTree.repeat word opening e closing a) s = none-among _
stmt-among text (StmtTree.par word a b) s = none-among _

-- the types of parameters, and then of the members of a class
param_list-among : (text : List ℕ) (a : ParamList) (s : Listing) → Among (param_list_of text a s).1 (decl_classes (param_list_of text a s).0)
param_list-among text (ParamList.one_param ty name) s =
    let x = type_of text ty s in
    let y = ident text name x.1 in
    decl-among y.1 [] x.0 y.0 (none-among _) (type-still-among text ty name s)
param_list-among text (ParamList.more_params list comma ty name) s =
    let z = param_list_of text list s in
    let x = type_of text ty z.1 in
    let y = ident text name x.1 in
    let ns = decl_classes z.0 in
    let before = ident-kept (StayAmong ns) (among ns) text name x.1 (type-kept (StayAmong ns) (among ns) text ty z.1 (param_list-among text list s)) in
    decl-among y.1 z.0 x.0 y.0 before (type-still-among text ty name z.1)

params-among : (text : List ℕ) (a : Params) (s : Listing) → Among (params_of text a s).1 (decl_classes (params_of text a s).0)
params-among text Params.no_params s = none-among _
params-among text (Params.params list) s = param_list-among text list s

-- the fields and the methods of a class so far
abbrev MembersAmong : Listing → List FieldDecl → List Method → Type 0
MembersAmong s fs ms = Among s (decl_classes fs) × Among s (flat_map method_classes ms)

member-among : (text : List ℕ) (a : MemberTree) (fs : List FieldDecl) (ms : List Method) (s : Listing) → MembersAmong s fs ms →
    MembersAmong (member_of text a fs ms s).2 (member_of text a fs ms s).0 (member_of text a fs ms s).1
member-among text (MemberTree.field_member ty name end) fs ms s h =
    let whole = MemberTree.field_member ty name end in
    let x = type_of text ty s in
    let y = ident text name x.1 in
    let fields = decl_classes fs in
    let methods = flat_map method_classes ms in (
      decl-among y.1 fs x.0 y.0 (member-kept (StayAmong fields) (among fields) (λ x s h. h) text whole fs ms s h.0) (type-still-among text ty name s),
      member-kept (StayAmong methods) (among methods) (λ x s h. h) text whole fs ms s h.1,
    )
member-among text (MemberTree.method ty name opening list closing p perm start b word a end finish) fs ms s h =
    let whole = MemberTree.method ty name opening list closing p perm start b word a end finish in
    let r = member_of text whole fs ms s in
    let head = method_of text ty name list s in
    let fields = decl_classes fs in
    let methods = flat_map method_classes ms in
    let result = ty_classes head.result in
    let params = decl_classes head.params in
    let behind : (ns : List ℕ) → Among head.program ns → Among r.2 ns = λ ns k. arg-kept (StayAmong ns) (among ns) text a _ (stmts-kept (StayAmong ns) (among ns) (λ x s h. h) text b head.program k) in
    let first = behind result (params-kept (StayAmong result) (among result) text list _ (type-still-among text ty name s)) in
    let second = behind params (params-among text list _) in (
      member-kept (StayAmong fields) (among fields) (λ x s h. h) text whole fs ms s h.0,
      more-among r.2 method_classes ms _ (member-kept (StayAmong methods) (among methods) (λ x s h. h) text whole fs ms s h.1) (both-among r.2 result params first second),
    )

members-among : (text : List ℕ) (a : Members) (s : Listing) → MembersAmong (members_of text a s).2 (members_of text a s).0 (members_of text a s).1
members-among text Members.no_members s = (none-among _, none-among _)
members-among text (Members.more_members list x) s = let r = members_of text list s in member-among text x r.0 r.1 r.2 (members-among text list s)

-- ---- the classes and the statements of the whole program

-- the classes that the types of a program name are among its mentions
record IsMentioned (s : Listing) : Type 0 where
  classes : Among s (flat_map member_classes s.classes)
  stmts : Among s (flat_map stmt_classes s.stmts)

-- each move keeps it, for a statement or a class where what its types name is known
number_at-mentioned : (name : List ℕ) (s : Listing) (o : Option ℕ) → IsMentioned s → IsMentioned (number_at name s o).1
number_at-mentioned name s (Some at) m = m
number_at-mentioned name s None m = record { classes = m.classes; stmts = m.stmts }

ident-mentioned : (text : List ℕ) (t : Token) (s : Listing) → IsMentioned s → IsMentioned (ident text t s).1
ident-mentioned text t s m = number_at-mentioned _ s _ m

mention-mentioned : (i : Ident) (s : Listing) → IsMentioned s → IsMentioned (push_mention i s)
mention-mentioned i s m = record { classes = mention-among (flat_map member_classes s.classes) i s m.classes; stmts = mention-among (flat_map stmt_classes s.stmts) i s m.stmts }

push_expr-mentioned : (e : Expr) (s : Listing) → IsMentioned s → IsMentioned (push_expr e s).1
push_expr-mentioned e s m = record { classes = m.classes; stmts = m.stmts }

push_stmt-mentioned : (x : Stmt) (s : Listing) → IsMentioned s → Among s (stmt_classes x) → IsMentioned (push_stmt x s).1
push_stmt-mentioned x s m h = record { classes = m.classes; stmts = more-among s stmt_classes s.stmts x m.stmts h }

class-mentioned : (c : ClassDecl) (s : Listing) → IsMentioned s → Among s (member_classes c) → IsMentioned (record s { classes = s.classes ++ c ∷ [] })
class-mentioned c s m h = record { classes = more-among s member_classes s.classes c m.classes h; stmts = m.stmts }

var_as-mentioned : (text : List ℕ) (t : Token) (s : Listing) (k : TokenKind) → IsMentioned s → IsMentioned (var_as text t s k).1
var_as-mentioned text t s kinds.This m = m
var_as-mentioned text t s _ m = ident-mentioned text t s m

var-mentioned : (text : List ℕ) (t : Token) (s : Listing) → IsMentioned s → IsMentioned (var text t s).1
var-mentioned text t s m = var_as-mentioned text t s t.kind m

-- the walk over each kind of tree keeps it
type-mentioned : (text : List ℕ) (a : TypeTree) (s : Listing) → IsMentioned s → IsMentioned (type_of text a s).1
type-mentioned text (TypeTree.long_type t) s m = m
type-mentioned text (TypeTree.bool_type t) s m = m
type-mentioned text (TypeTree.object_type p perm name) s m = mention-mentioned _ _ (ident-mentioned text name s m)
type-mentioned text (TypeTree.array_type p perm word opening closing) s m = m

expr-mentioned : (text : List ℕ) (a : ExprTree) (s : Listing) → IsMentioned s → IsMentioned (expr_of text a s).1
expr-mentioned text (ExprTree.number t) s m = push_expr-mentioned _ s m
expr-mentioned text (ExprTree.true_word t) s m = push_expr-mentioned _ s m
expr-mentioned text (ExprTree.false_word t) s m = push_expr-mentioned _ s m
expr-mentioned text (ExprTree.null_word t) s m = push_expr-mentioned _ s m
expr-mentioned text (ExprTree.variable t) s m = push_expr-mentioned _ _ (var-mentioned text t s m)
expr-mentioned text (ExprTree.parens opening e closing) s m = expr-mentioned text e s m
expr-mentioned text (ExprTree.unary o t e) s m = push_expr-mentioned _ _ (expr-mentioned text e s m)
expr-mentioned text (ExprTree.binary o a t b) s m = push_expr-mentioned _ _ (expr-mentioned text b _ (expr-mentioned text a s m))

arg-mentioned : (text : List ℕ) (a : ArgTree) (s : Listing) → IsMentioned s → IsMentioned (arg_of text a s).1
arg-mentioned text (ArgTree.plain e) s m = expr-mentioned text e s m
arg-mentioned text (ArgTree.consumed word name) s m = var-mentioned text name s m

arg_list-mentioned : (text : List ℕ) (a : ArgList) (s : Listing) → IsMentioned s → IsMentioned (arg_list_of text a s).1
arg_list-mentioned text (ArgList.one_arg a) s m = arg-mentioned text a s m
arg_list-mentioned text (ArgList.more_args list comma a) s m = arg-mentioned text a _ (arg_list-mentioned text list s m)

args-mentioned : (text : List ℕ) (a : Args) (s : Listing) → IsMentioned s → IsMentioned (args_of text a s).1
args-mentioned text Args.no_args s m = m
args-mentioned text (Args.args list) s m = arg_list-mentioned text list s m

recv-mentioned : (text : List ℕ) (a : RecvTree) (s : Listing) → IsMentioned s → IsMentioned (recv_of text a s).2
recv-mentioned text (RecvTree.lent name) s m = var-mentioned text name s m
recv-mentioned text (RecvTree.given opening word name closing) s m = var-mentioned text name s m

call-mentioned : (text : List ℕ) (a : CallTree) (s : Listing) → IsMentioned s → IsMentioned (call_of text a s).1
call-mentioned text (CallTree.call recv dot name opening list closing) s m = args-mentioned text list _ (ident-mentioned text name _ (recv-mentioned text recv s m))

target-mentioned : (text : List ℕ) (a : TargetTree) (s : Listing) → IsMentioned s → IsMentioned (target_of text a s).2
target-mentioned text (TargetTree.known name) s m = ident-mentioned text name s m
target-mentioned text (TargetTree.declared ty name) s m = ident-mentioned text name _ (type-mentioned text ty s m)

mutual
  rhs-mentioned : (text : List ℕ) (a : RhsTree) (s : Listing) → IsMentioned s → IsMentioned (rhs_of text a s).1
  rhs-mentioned text (RhsTree.value a) s m = arg-mentioned text a s m
  rhs-mentioned text (RhsTree.field name dot member) s m = ident-mentioned text member _ (var-mentioned text name s m)
  rhs-mentioned text (RhsTree.take_field word name dot member) s m = ident-mentioned text member _ (var-mentioned text name s m)
  rhs-mentioned text (RhsTree.item name opening e closing) s m = expr-mentioned text e _ (var-mentioned text name s m)
  rhs-mentioned text (RhsTree.new_object word name opening closing) s m = mention-mentioned _ _ (ident-mentioned text name s m)
  rhs-mentioned text (RhsTree.new_array word long opening e closing) s m = expr-mentioned text e s m
  rhs-mentioned text (RhsTree.called c) s m = call-mentioned text c s m
  rhs-mentioned text (RhsTree.recover word opening b give name end closing) s m = ident-mentioned text name _ (stmts-mentioned text b s m)

  block-mentioned : (text : List ℕ) (a : BlockTree) (s : Listing) → IsMentioned s → IsMentioned (block_of text a s).1
  block-mentioned text (BlockTree.block opening b closing) s m = stmts-mentioned text b s m

  stmt-mentioned : (text : List ℕ) (a : StmtTree) (s : Listing) → IsMentioned s → IsMentioned (stmt_of text a s).1
  stmt-mentioned text (StmtTree.declare ty name end) s m = ident-mentioned text name _ (type-mentioned text ty s m)
  stmt-mentioned text (StmtTree.assign target equals r end) s m = rhs-mentioned text r _ (target-mentioned text target s m)
  stmt-mentioned text (StmtTree.set_field name dot member equals a end) s m = arg-mentioned text a _ (ident-mentioned text member _ (var-mentioned text name s m))
  stmt-mentioned text (StmtTree.set_item name opening i closing equals e end) s m = expr-mentioned text e _ (expr-mentioned text i _ (var-mentioned text name s m))
  stmt-mentioned text (StmtTree.run_call c end) s m = call-mentioned text c s m
  stmt-mentioned text (StmtTree.print word e end) s m = expr-mentioned text e s m
  stmt-mentioned text (StmtTree.if_then word opening e closing a) s m = block-mentioned text a _ (expr-mentioned text e s m)
  stmt-mentioned text (StmtTree.if_else word opening e closing a otherwise b) s m = block-mentioned text b _ (block-mentioned text a _ (expr-mentioned text e s m))
  stmt-mentioned text (StmtTree.repeat word opening e closing a) s m = block-mentioned text a _ (expr-mentioned text e s m)
  stmt-mentioned text (StmtTree.par word a b) s m = block-mentioned text b _ (block-mentioned text a s m)

  stmts-mentioned : (text : List ℕ) (a : Stmts) (s : Listing) → IsMentioned s → IsMentioned (stmts_of text a s).1
  stmts-mentioned text Stmts.no_stmts s m = m
  stmts-mentioned text (Stmts.more_stmts b x) s m = push_stmt-mentioned _ _ (stmt-mentioned text x _ (stmts-mentioned text b s m)) (stmt-among text x _)

param_list-mentioned : (text : List ℕ) (a : ParamList) (s : Listing) → IsMentioned s → IsMentioned (param_list_of text a s).1
param_list-mentioned text (ParamList.one_param ty name) s m = ident-mentioned text name _ (type-mentioned text ty s m)
param_list-mentioned text (ParamList.more_params list comma ty name) s m = ident-mentioned text name _ (type-mentioned text ty _ (param_list-mentioned text list s m))

params-mentioned : (text : List ℕ) (a : Params) (s : Listing) → IsMentioned s → IsMentioned (params_of text a s).1
params-mentioned text Params.no_params s m = m
params-mentioned text (Params.params list) s m = param_list-mentioned text list s m

member-mentioned : (text : List ℕ) (a : MemberTree) (fs : List FieldDecl) (ms : List Method) (s : Listing) → IsMentioned s → IsMentioned (member_of text a fs ms s).2
member-mentioned text (MemberTree.field_member ty name end) fs ms s m = ident-mentioned text name _ (type-mentioned text ty s m)
member-mentioned text (MemberTree.method ty name opening list closing p perm start b word a end finish) fs ms s m =
    arg-mentioned text a _ (stmts-mentioned text b _ (params-mentioned text list _ (ident-mentioned text name _ (type-mentioned text ty s m))))

members-mentioned : (text : List ℕ) (a : Members) (s : Listing) → IsMentioned s → IsMentioned (members_of text a s).2
members-mentioned text Members.no_members s m = m
members-mentioned text (Members.more_members list x) s m = member-mentioned text x _ _ _ (members-mentioned text list s m)

classes-mentioned : (text : List ℕ) (a : Classes) (s : Listing) → IsMentioned s → IsMentioned (classes_of text a s)
classes-mentioned text Classes.no_classes s m = m
classes-mentioned text (Classes.more_classes list word name opening members closing) s m =
    let x = ident text name (classes_of text list s) in
    let r = members_of text members x.1 in
    let known = members-among text members x.1 in
    class-mentioned _ r.2 (members-mentioned text members x.1 (ident-mentioned text name _ (classes-mentioned text list s m)))
    (both-among r.2 (decl_classes r.0) (flat_map method_classes r.1) known.0 known.1)

-- a program begins with no types
pub meaning-mentioned : (text : List ℕ) (tree : Classes) → All (Contains (map (λ i. i.name) (meaning text tree).mentions)) (type_classes (meaning text tree))
meaning-mentioned text tree =
    let p = meaning text tree in
    let m = classes-mentioned text tree nothing_yet (record { classes = none-among []; stmts = none-among [] }) in
    both-among p (flat_map member_classes p.classes) (flat_map stmt_classes p.stmts) m.classes m.stmts
