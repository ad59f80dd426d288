-- What reading a part of a program leaves of its blocks and operands: they nest no deeper than brackets.
use Rattle.std.proofs.Common.{◌≡◌, ℕ, ◌+◌, ◌≤◌, List, [], ◌∷◌, ◌++◌, length, max, get_or, refl, sym, subst, arith}
use Rattle.std.specs.Prelude.{All}
use Rattle.std.proofs.lemmas.List.Elements.{All-push}
use Rattle.perm_tree.specs.Blocks.{kind_blocks, deepest_at, blocks_depth, stmt_depth, stmt_depths, HasShallowBlocks}
use Rattle.perm_tree.specs.Operands.{HasShallowOperands}
use Rattle.perm_tree.specs.Places.{Listing}
use Rattle.perm_tree.specs.declared.ast.Block.{Block}
use Rattle.perm_tree.specs.declared.ast.Stmt.{Stmt}
use Rattle.perm_tree.specs.declared.tokens.Token.{Token}
use Rattle.perm_tree.proofs.Entries.{entries_from-append}
use Rattle.perm_parse.specs.Grammar.{TypeTree, ExprTree, ArgTree, ArgList, Args, RecvTree, CallTree, TargetTree, ParamList, Params, IsExpr, IsArg, IsArgList, AreArgs, IsCall}
use Rattle.perm_parse.specs.Levels.{type_levels, expr_levels, arg_levels, arg_list_levels, args_levels, recv_levels, call_levels, target_levels, param_list_levels, params_levels}
use Rattle.perm_parse.specs.Meaning.{ident, var, push_stmt, push_mention, type_of, expr_of, arg_of, arg_list_of, args_of, recv_of, call_of, target_of, param_list_of, params_of}
use Rattle.perm_parse.specs.Parses.{Shallow}
use Rattle.perm_parse.proofs.Walks.ListGrowth.{Front, front-refl, front-trans, front-push}
use Rattle.perm_parse.proofs.WellFormed.ExpressionMarks.{entry-pushed}
use Rattle.perm_parse.proofs.WellFormed.OperandDepths.{ident-exprs, var-exprs, expr-behind, expr-low}
use Rattle.perm_parse.proofs.WellFormed.SameStatements.{IsSame, pushed, ident-same, var-same, type-same, expr-same}

-- ---------- depths ----------
deepest-append : (depths is js : List ℕ) → deepest_at depths (is ++ js) ≡ max (deepest_at depths is) (deepest_at depths js)
deepest-append depths [] js = omega arith
deepest-append depths (i ∷ is) js = omega (arith, deepest-append depths is js)

blocks-append : (depths : List ℕ) (bs cs : List Block) → blocks_depth depths (bs ++ cs) ≡ max (blocks_depth depths bs) (blocks_depth depths cs)
blocks-append depths [] cs = omega arith
blocks-append depths (b ∷ bs) cs = omega (arith, blocks-append depths bs cs)

-- ---------- what is left ----------
-- The levels behind aren't past the deepest either, these blocks nest as deep at most as the level d leaves, whatever statements follow, and
-- blocks and operands that are shallow before are so behind.
pub record IsLeft (d : ℕ) (rest : List ℕ) (s t : Listing) (bs : List Block) : Type 0 where
  pub behind : Shallow rest
  pub front : Front s.stmts t.stmts
  pub nested : (ys : List Stmt) → Front t.stmts ys → blocks_depth (stmt_depths ys) bs + d ≤ 100
  pub blocks : HasShallowBlocks s.stmts → HasShallowBlocks t.stmts
  pub operands : HasShallowOperands s.exprs → HasShallowOperands t.exprs

-- so it is where no level is past the deepest
pub record Reads (d : ℕ) (ls rest : List ℕ) (s t : Listing) (bs : List Block) : Type 0 where
  pub left : Shallow ls → IsLeft d rest s t bs

-- behind one token
pub over : {d l : ℕ} {ls rest : List ℕ} {s t : Listing} {bs : List Block} → Reads d ls rest s t bs → Reads d (l ∷ ls) rest s t bs
over r = record { left = λ h. r.left h.1 }

-- behind one token whose level is no deeper than the deepest
pub under : {d l : ℕ} {ls rest : List ℕ} {s t : Listing} {bs : List Block} → (l ≤ 100 → Reads d ls rest s t bs) → Reads d (l ∷ ls) rest s t bs
under r = record { left = λ h. (r h.0).left h.1 }

-- one part behind the other
pub join : {d : ℕ} {ls ms rest : List ℕ} {s t u : Listing} {bs cs : List Block} → Reads d ls ms s t bs → Reads d ms rest t u cs → Reads d ls rest s u (bs ++ cs)
join {bs} {cs} g r = record {
  left = λ h.
      let x = g.left h in
      let y = r.left x.behind in
      record {
        behind = y.behind;
        front = front-trans x.front y.front;
        nested = λ ys f. omega (arith, blocks-append (stmt_depths ys) bs cs, x.nested ys (front-trans y.front f), y.nested ys f);
        blocks = λ k. y.blocks (x.blocks k);
        operands = λ k. y.operands (x.operands k);
      };
}

-- the same where the first part has no block
pub after : {d : ℕ} {ls ms rest : List ℕ} {s t u : Listing} {bs : List Block} → Reads d ls ms s t [] → Reads d ms rest t u bs → Reads d ls rest s u bs
after g r = join g r

-- before one token
pub upto : {d l : ℕ} {ls rest : List ℕ} {s t : Listing} {bs : List Block} → Reads d ls (l ∷ rest) s t bs → Reads d ls rest s t bs
upto r = record {
  left = λ h. (let x = r.left h in record { behind = x.behind.1; front = x.front; nested = x.nested; blocks = x.blocks; operands = x.operands });
}

-- the same where nothing is asked of the blocks
pub forget : {d : ℕ} {ls rest : List ℕ} {s t : Listing} {bs : List Block} → Reads d ls rest s t bs → Reads 0 ls rest s t []
forget r = record {
  left = λ h. (let x = r.left h in record { behind = x.behind; front = x.front; nested = λ ys f. omega arith; blocks = x.blocks; operands = x.operands });
}

-- no statement more
quiet : {d : ℕ} {ls rest : List ℕ} {s t : Listing} → d ≤ 100 → IsSame s t → (Shallow ls → Shallow rest) → (Shallow ls → HasShallowOperands s.exprs → HasShallowOperands t.exprs) → Reads d ls rest s t []
quiet {s} le same behind operands = record {
  left = λ h. record {
    behind = behind h;
    front = subst (Front s.stmts) (sym same.stmts) (front-refl s.stmts);
    nested = λ ys f. omega arith;
    blocks = λ k. subst HasShallowBlocks (sym same.stmts) k;
    operands = operands h;
  };
}

-- no expression more either
idle : {d : ℕ} {ls : List ℕ} {s t : Listing} → d ≤ 100 → IsSame s t → t.exprs ≡ s.exprs → Reads d ls ls s t []
idle le same exprs = quiet le same (λ h. h) (λ h k. subst HasShallowOperands (sym exprs) k)

pub stays : {d : ℕ} {ls : List ℕ} {s : Listing} → d ≤ 100 → Reads d ls ls s s []
stays le = idle le (record { stmts = refl }) refl

-- the same lists, with a class more
pub listed : {d : ℕ} {ls rest : List ℕ} {s t u : Listing} → u.stmts ≡ t.stmts → u.exprs ≡ t.exprs → Reads d ls rest s t [] → Reads d ls rest s u []
listed {d} {t} {u} stmts exprs r = record {
  left = λ h.
      let x = r.left h in
      record {
        behind = x.behind;
        front = subst (Front _) (sym stmts) x.front;
        nested = λ ys f. x.nested ys (subst (λ l. Front l ys) stmts f);
        blocks = λ k. subst HasShallowBlocks (sym stmts) (x.blocks k);
        operands = λ k. subst HasShallowOperands (sym exprs) (x.operands k);
      };
}

-- a block with no statement yet
pub empty : {d : ℕ} {ls : List ℕ} {s : Listing} → d + 1 ≤ 100 → Reads d ls ls s s (record { stmts = [] } ∷ [])
empty {s} le = record {
  left = λ h. record { behind = h; front = front-refl s.stmts; nested = λ ys f. omega arith; blocks = λ k. k; operands = λ k. k };
}

-- one statement more, in a block within the level d
pub push : {d : ℕ} {ls ms rest : List ℕ} {s t u : Listing} (x : Stmt) (is : List ℕ) → 1 ≤ d → Reads d ls ms s t (record { stmts = is } ∷ []) → Reads (d + 1) ms rest t u (kind_blocks x.kind)
    → Reads d ls rest s (push_stmt x u).1 (record { stmts = is ++ (push_stmt x u).0 ∷ [] } ∷ [])
push {d} {u} x is one g r = record {
  left = λ h.
      let y = g.left h in
      let z = r.left y.behind in
      let here = z.nested u.stmts (front-refl u.stmts) in
      record {
        behind = z.behind;
        front = front-trans y.front (front-trans z.front (front-push u.stmts x));
        nested = λ ys f. (
            let e : get_or (stmt_depths ys) (length u.stmts) 0 ≡ stmt_depth (stmt_depths u.stmts) x = entry-pushed stmt_depth u.stmts ys x 0 f in
            omega (arith, here, e, deepest-append (stmt_depths ys) is (length u.stmts ∷ []), y.nested ys (front-trans z.front (front-trans (front-push u.stmts x) f))));
        blocks = λ k.
            subst (All (λ n. n ≤ 98)) (sym (entries_from-append stmt_depth [] u.stmts (x ∷ [])))
            (All-push (λ n. n ≤ 98) (stmt_depths u.stmts) (stmt_depth (stmt_depths u.stmts) x) (z.blocks (y.blocks k)) (omega (arith, here)));
        operands = λ k. z.operands (y.operands k);
      };
}

-- ---------- parts that hold no block ----------
pub ident-reads : {d : ℕ} {ls : List ℕ} (text : List ℕ) (t : Token) (s : Listing) → d ≤ 100 → Reads d ls ls s (ident text t s).1 []
ident-reads text t s le = idle le (ident-same text t s) (ident-exprs text t s)

pub var-reads : {d : ℕ} {ls : List ℕ} (text : List ℕ) (t : Token) (s : Listing) → d ≤ 100 → Reads d ls ls s (var text t s).1 []
var-reads text t s le = idle le (var-same text t s) (var-exprs text t s)

pub type-reads : {d : ℕ} {rest : List ℕ} (text : List ℕ) (a : TypeTree) (s : Listing) (l : ℕ) → d ≤ 100 → Reads d (type_levels l a rest) rest s (type_of text a s).1 []
type-reads text (TypeTree.long_type t) s l le = over (stays le)
type-reads text (TypeTree.bool_type t) s l le = over (stays le)
type-reads text (TypeTree.object_type p perm name) s l le = over (over (idle le (type-same text (TypeTree.object_type p perm name) s) (ident-exprs text name s)))
type-reads text (TypeTree.array_type p perm word opening closing) s l le = over (over (over (over (stays le))))

-- the name of a class behind `new`
pub mention-reads : {d : ℕ} {ls : List ℕ} (text : List ℕ) (t : Token) (s : Listing) → d ≤ 100 → Reads d ls ls s (push_mention (ident text t s).0 (ident text t s).1) []
mention-reads text t s le = idle le (pushed (ident-same text t s) refl) (ident-exprs text t s)

pub expr-reads : {d : ℕ} (text : List ℕ) (e : ExprTree) (s : Listing) (i b : ℕ) (rest : List ℕ) → IsExpr e → d ≤ 100 → 2 ≤ i → i ≤ 100 → Reads d (expr_levels i b e rest) rest s (expr_of text e s).1 []
expr-reads text e s i b rest is le two most = quiet le (expr-same text e s) (expr-behind i b e rest) (λ h. expr-low text e s i b rest is two most h)

pub arg-reads : {d : ℕ} (text : List ℕ) (a : ArgTree) (s : Listing) (l : ℕ) (rest : List ℕ) → IsArg a → d ≤ 100 → 2 ≤ l → l ≤ 100 → Reads d (arg_levels l a rest) rest s (arg_of text a s).1 []
arg-reads text (ArgTree.plain e) s l rest is le two most = expr-reads text e s l l rest is le two most
arg-reads text (ArgTree.consumed word name) s l rest is le two most = over (over (var-reads text name s le))

arg_list-reads : {d : ℕ} (text : List ℕ) (a : ArgList) (s : Listing) (l : ℕ) (rest : List ℕ) → IsArgList a → d ≤ 100 → 2 ≤ l → l ≤ 100 → Reads d (arg_list_levels l a rest) rest s (arg_list_of text a s).1 []
arg_list-reads text (ArgList.one_arg a) s l rest is le two most = arg-reads text a s l rest is le two most
arg_list-reads text (ArgList.more_args list comma a) s l rest is le two most =
    after (arg_list-reads text list s l (l ∷ arg_levels l a rest) is.0 le two most) (over (arg-reads text a (arg_list_of text list s).1 l rest is.2 le two most))

args-reads : {d : ℕ} (text : List ℕ) (a : Args) (s : Listing) (l : ℕ) (rest : List ℕ) → AreArgs a → d ≤ 100 → 2 ≤ l → l ≤ 100 → Reads d (args_levels l a rest) rest s (args_of text a s).1 []
args-reads text Args.no_args s l rest is le two most = stays le
args-reads text (Args.args list) s l rest is le two most = arg_list-reads text list s l rest is le two most

recv-reads : {d : ℕ} {rest : List ℕ} (text : List ℕ) (a : RecvTree) (s : Listing) (l : ℕ) → d ≤ 100 → Reads d (recv_levels l a rest) rest s (recv_of text a s).2 []
recv-reads text (RecvTree.lent name) s l le = over (var-reads text name s le)
recv-reads text (RecvTree.given opening word name closing) s l le = over (over (over (over (var-reads text name s le))))

pub call-reads : (text : List ℕ) (a : CallTree) (s : Listing) (d : ℕ) (rest : List ℕ) → IsCall a → 2 ≤ d → d ≤ 100 → Reads d (call_levels d a rest) rest s (call_of text a s).1 []
call-reads text (CallTree.call recv dot name opening list closing) s d rest is two le =
    let x = recv_of text recv s in
    let y = ident text name x.2 in
    after (recv-reads text recv s d le) (over (over (under (λ more. after (ident-reads text name x.2 le) (upto (args-reads text list y.1 (d + 1) (d ∷ rest) is.args le (omega arith) more))))))

pub target-reads : {d : ℕ} {rest : List ℕ} (text : List ℕ) (a : TargetTree) (s : Listing) (l : ℕ) → d ≤ 100 → Reads d (target_levels l a rest) rest s (target_of text a s).2 []
target-reads text (TargetTree.known name) s l le = over (ident-reads text name s le)
target-reads text (TargetTree.declared ty name) s l le = after (type-reads text ty s l le) (over (ident-reads text name (type_of text ty s).1 le))

param_list-reads : {d : ℕ} (text : List ℕ) (a : ParamList) (s : Listing) (l : ℕ) (rest : List ℕ) → d ≤ 100 → Reads d (param_list_levels l a rest) rest s (param_list_of text a s).1 []
param_list-reads text (ParamList.one_param ty name) s l rest le = after (type-reads text ty s l le) (over (ident-reads text name (type_of text ty s).1 le))
param_list-reads text (ParamList.more_params list comma ty name) s l rest le =
    let z = param_list_of text list s in
    after (param_list-reads text list s l _ le) (over (after (type-reads text ty z.1 l le) (over (ident-reads text name (type_of text ty z.1).1 le))))

pub params-reads : {d : ℕ} {rest : List ℕ} (text : List ℕ) (a : Params) (s : Listing) (l : ℕ) → d ≤ 100 → Reads d (params_levels l a rest) rest s (params_of text a s).1 []
params-reads text Params.no_params s l le = stays le
params-reads text (Params.params list) s l le = param_list-reads text list s l _ le
