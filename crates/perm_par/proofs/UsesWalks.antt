-- What codes mention and write that is held in sets, of statements one behind the other and of blocks.
use Rattle.std.proofs.Common.{◌≡◌, ◌∙◌, ℕ, ◌+◌, ◌<◌, ◌≤◌, List, length, Option, Some, refl, sym, ap, subst, drop}
use Rattle.std.specs.Prelude.{slice_get, slice_index}
use Rattle.std.proofs.lemmas.List.{drop_all, drop_more}
use Rattle.perm_tree.specs.declared.ast.Block.{Block}
use Rattle.perm_tree.specs.declared.ast.Ident.{Ident}
use Rattle.perm_tree.specs.declared.ast.Rhs.TheVariants.{Recover as RecoverRhs}
use Rattle.perm_tree.specs.declared.ast.Span.{Span}
use Rattle.perm_tree.specs.declared.ast.Stmt.{Stmt}
use Rattle.perm_tree.specs.declared.ast.StmtKind.{StmtKind}
use Rattle.perm_tree.specs.declared.ast.StmtKind.TheVariants.{Assign, If as IfStmt, While as WhileStmt, Par as ParStmt}
use Rattle.perm_tree.specs.declared.ast.Ty.{Ty}
use Rattle.perm_tree.specs.declared.bodies.Action.{Action}
use Rattle.perm_tree.specs.declared.bodies.Action.TheVariants as actions
use Rattle.perm_tree.specs.declared.var_set.VarSet.{VarSet}
use Rattle.perm_tree.specs.BodyTerms.{expression_term}
use Rattle.perm_tree.specs.Code.{Code, End, Give, Term}
use Rattle.perm_tree.specs.CodeNames.{own_vars, term_at, var_at}
use Rattle.perm_tree.specs.CodeOf.{block_code, codes_of, kind_code, stmt_code}
use Rattle.perm_tree.specs.Mentions.{block_mentions, block_writes, known}
use Rattle.perm_tree.specs.StatementSteps.{Says, SaysAssignment, SaysSimple, SaysTerm, SaysTest}
use Rattle.perm_tree.specs.Vars.{Vars, none, those}
use Rattle.perm_tree.specs.VarSets.{member}
use Rattle.perm_tree.proofs.CodeLaws.{stmt_code-is}
use Rattle.perm_rules.specs.AtPlace.{block_code_at, own_at, sets_of, uses_of}
use Rattle.perm_rules.specs.MethodBodies.{Body, IsBody, setting_of}
use Rattle.perm_par.specs.declared.mentions.Uses as held
use Rattle.perm_par.specs.BlockSets.{Uses, else_uses, instruction_uses, joint, known_uses, no_uses, outside, stmts_uses, target, term_uses, test_of, told, code_uses, HasUses, IsUses}
use Rattle.perm_par.specs.Known.{count_of, HoldsKnown}
use Rattle.perm_par.proofs.KnownSets.{known-minus, known-none, known-plus, plus-assoc, plus-none}
use Rattle.perm_par.proofs.KnownVariables.{context-count}
use Rattle.perm_par.proofs.StepCodes.{recover-gift, step_of}

-- ---------- laws ----------
-- uses are the same by what is mentioned and what is written
same-uses : (s t : Uses) → s.mentioned ≡ t.mentioned → s.written ≡ t.written → s ≡ t
same-uses s t mentioned written = λ i. record { mentioned = mentioned i; written = written i }

known-no-uses : (n : ℕ) → known_uses n no_uses ≡ no_uses
known-no-uses n = same-uses (known_uses n no_uses) no_uses (known-none n) (known-none n)

known-joint : (n : ℕ) (s t : Uses) → known_uses n (joint s t) ≡ joint (known_uses n s) (known_uses n t)
known-joint n s t = same-uses (known_uses n (joint s t)) (joint (known_uses n s) (known_uses n t)) (known-plus n s.mentioned t.mentioned) (known-plus n s.written t.written)

known-outside : (n : ℕ) (own : Vars) (s : Uses) → known_uses n (outside own s) ≡ outside (known n own) (known_uses n s)
known-outside n own s = same-uses (known_uses n (outside own s)) (outside (known n own) (known_uses n s)) (known-minus n s.mentioned own) (known-minus n s.written own)

joint-assoc : (s t r : Uses) → joint (joint s t) r ≡ joint s (joint t r)
joint-assoc s t r = same-uses (joint (joint s t) r) (joint s (joint t r)) (plus-assoc s.mentioned t.mentioned r.mentioned) (plus-assoc s.written t.written r.written)

joint-nothing : (s : Uses) → joint s no_uses ≡ s
joint-nothing s = same-uses (joint s no_uses) s (plus-none s.mentioned) (plus-none s.written)

-- ---------- sets that hold uses ----------
pub uses-held : (b : Body) (r : held.Uses) (s : Uses) → HoldsKnown b r.mentioned s.mentioned → HoldsKnown b r.written s.written → HasUses b r s
uses-held b r s mentioned written = same-uses (told r) (known_uses (count_of b) s) mentioned written

pub uses-nothing : (b : Body) (r : held.Uses) → told r ≡ no_uses → HasUses b r no_uses
uses-nothing b r is = is ∙ sym (known-no-uses (count_of b))

pub uses-joint : (b : Body) (r s t : held.Uses) (e f : Uses) → told t ≡ joint (told r) (told s) → HasUses b r e → HasUses b s f → HasUses b t (joint e f)
uses-joint b r s t e f is one two = is ∙ (λ i. joint (one i) (two i)) ∙ sym (known-joint (count_of b) e f)

pub uses-outside : (b : Body) (r s : held.Uses) (own : VarSet) (xs : List ℕ) (e : Uses) → told r ≡ outside (member own) (told s) → HoldsKnown b own (those xs) → HasUses b s e → HasUses b r (outside (those xs) e)
uses-outside b r s own xs e is mine one = is ∙ (λ i. outside (mine i) (one i)) ∙ sym (known-outside (count_of b) (those xs) e)

-- ---------- statements one behind the other ----------
-- these are the uses of the first i statements
pub record HasUsed (b : Body) (r : held.Uses) (is : List ℕ) (i : ℕ) : Type 0 where
  pub whole : Uses
  pub holds : HasUses b r whole
  pub before : (end : Code) → joint whole (code_uses (block_code (setting_of b) (drop i is) end)) ≡ code_uses (block_code (setting_of b) is end)

pub used-none : (b : Body) (r : held.Uses) (is : List ℕ) → told r ≡ no_uses → HasUsed b r is 0
used-none b r is none = record { whole = no_uses; holds = uses-nothing b r none; before = λ end. refl }

pub used-more : (b : Body) (r s t : held.Uses) (is : List ℕ) (i : ℕ) → i < length is → HasUsed b r is i → IsUses b s (stmt_code (setting_of b) (slice_index is i)) → told t ≡ joint (told r) (told s) → HasUsed b t is (i + 1)
used-more b r s t is i less done one both = record {
  whole = joint done.whole one.whole;
  holds = uses-joint b r s t done.whole one.whole both done.holds one.holds;
  before = λ end.
      joint-assoc done.whole one.whole (code_uses (block_code (setting_of b) (drop (i + 1) is) end))
      ∙ ap (λ (e : Uses). joint done.whole e) (sym (one.before (block_code (setting_of b) (drop (i + 1) is) end)))
      ∙ ap (λ (js : List ℕ). joint done.whole (code_uses (block_code (setting_of b) js end))) (sym (drop_more is i 0 less))
      ∙ done.before end;
}

pub used-all : (b : Body) (r : held.Uses) (is : List ℕ) (i : ℕ) → length is ≤ i → HasUsed b r is i → IsUses b r (block_code (setting_of b) is)
used-all b r is i end done = record {
  whole = done.whole;
  holds = done.holds;
  before = λ rest. sym (done.before rest) ∙ ap (λ (js : List ℕ). joint done.whole (code_uses (block_code (setting_of b) js rest))) (drop_all i is end);
}

-- ---------- blocks ----------
pub uses-block : (b : Body) (r inner : held.Uses) (own : VarSet) (is js : List ℕ) → js ≡ is → IsUses b inner (block_code (setting_of b) js) → HoldsKnown b own (those (own_vars (setting_of b) is)) → told r ≡ outside (member own) (told inner)
    → HasUses b r (stmts_uses (setting_of b) is)
uses-block b r inner own is js same one mine closes =
    uses-outside b r inner own (own_vars (setting_of b) is) (code_uses (block_code (setting_of b) is End)) closes mine
    (subst (λ (l : List ℕ). HasUses b inner (code_uses (block_code (setting_of b) l End))) same (subst (HasUses b inner) (sym (one.before End ∙ joint-nothing one.whole)) one.holds))

-- a recover block ends with its `give`
pub uses-given : (b : Body) (taker inner give whole out r : held.Uses) (given : held.Uses) (own : VarSet) (is js : List ℕ) (at : Span) (w x : ℕ) → js ≡ is → IsUses b inner (block_code (setting_of b) js) → HasUses b given (target w) → HasUses b taker (target x)
    → told give ≡ joint (told given) (told taker) → told whole ≡ joint (told inner) (told give) → HoldsKnown b own (those (own_vars (setting_of b) is)) → told out ≡ outside (member own) (told whole) → told r ≡ joint (told taker) (told out)
    → HasUses b r (joint (target x) (outside (those (own_vars (setting_of b) is)) (code_uses (block_code (setting_of b) is (Give at w x)))))
uses-given b taker inner give whole out r given own is js at w x same one gives takes first both mine closes last =
    let k = setting_of b in
    let ended : HasUses b give (code_uses (Give at w x)) = uses-joint b given taker give (target w) (target x) first gives takes in
    let all : HasUses b whole (code_uses (block_code k js (Give at w x))) = subst (HasUses b whole) (sym (one.before (Give at w x))) (uses-joint b inner give whole one.whole (code_uses (Give at w x)) both one.holds ended) in
    uses-joint b taker out r (target x) (outside (those (own_vars k is)) (code_uses (block_code k is (Give at w x)))) last takes
    (uses-outside b out whole own (own_vars k is) (code_uses (block_code k is (Give at w x))) closes mine (subst (λ (l : List ℕ). HasUses b whole (code_uses (block_code k l (Give at w x)))) same all))

-- ---------- statements ----------
-- a statement uses what its kind does
pub stmt-uses : (b : Body) (at : ℕ) (s : Stmt) (r : held.Uses) (e : Uses) → IsBody b → slice_get b.unit.program.stmts at ≡ Some s → HasUses b r e
    → ((rest : Code) → code_uses (kind_code (setting_of b) (codes_of (setting_of b)) s s.kind rest) ≡ joint e (code_uses rest)) → IsUses b r (stmt_code (setting_of b) at)
stmt-uses b at s r e is here holds code = record {
  whole = e;
  holds = holds;
  before = λ rest. ap code_uses (stmt_code-is (setting_of b) at s rest is.resolved.formed.placed here) ∙ code rest;
}

pub simple-uses : (b : Body) (at : ℕ) (s : Stmt) (r : held.Uses) (action : Action) → IsBody b → slice_get b.unit.program.stmts at ≡ Some s → SaysSimple (setting_of b) b.bodies s action
    → HasUses b r (instruction_uses (step_of (setting_of b) b.bodies action)) → IsUses b r (stmt_code (setting_of b) at)
simple-uses b at s r action is here says holds = stmt-uses b at s r (instruction_uses (step_of (setting_of b) b.bodies action)) is here holds (λ rest. ap code_uses (says.code rest))

pub recover-uses : (b : Body) (at : ℕ) (s : Stmt) (r : held.Uses) (t : Option Ty) (x : Ident) (a : Block) (w : Ident) (give : Span) (action : Action) (g y : ℕ) → IsBody b → slice_get b.unit.program.stmts at ≡ Some s
    → s.kind ≡ Assign t x (RecoverRhs a w give) → Says (setting_of b) b.bodies s s.kind action → action ≡ actions.Give g y
    → ((span : Span) → HasUses b r (joint (target y) (outside (those (own_vars (setting_of b) a.stmts)) (code_uses (block_code (setting_of b) a.stmts (Give span g y)))))) → IsUses b r (stmt_code (setting_of b) at)
recover-uses b at s r t x a w give action g y body here is says gives holds =
    let k = setting_of b in
    let own : Vars = those (own_vars k a.stmts) in
    let gift = recover-gift k b.bodies s x a w give g y (subst (λ (q : Action). SaysAssignment k b.bodies s x (RecoverRhs a w give) q) gives (subst (λ (q : StmtKind). Says k b.bodies s q action) is says)) in
    stmt-uses b at s r (joint (target (var_at k x)) (outside own (code_uses (block_code k a.stmts (Give give (var_at k w) (var_at k x)))))) body here
    (subst (λ n. HasUses b r (joint (target (var_at k x)) (outside own (code_uses (block_code k a.stmts (Give give n (var_at k x))))))) gift.0
    (subst (λ n. HasUses b r (joint (target n) (outside own (code_uses (block_code k a.stmts (Give give g n)))))) gift.1 (holds give)))
    (λ rest.
    ap (λ (q : StmtKind). code_uses (kind_code k (codes_of k) s q rest)) is
    ∙ sym (joint-assoc (target (var_at k x)) (outside own (code_uses (block_code k a.stmts (Give give (var_at k w) (var_at k x))))) (code_uses rest)))

-- the expression that a step tests is that of its statement
pub says-test : (b : Body) (at : ℕ) (action : Action) → SaysTest (setting_of b) b.bodies at action → SaysTerm (setting_of b) b.bodies at (test_of action)
says-test b at (actions.If e other) says = says
says-test b at (actions.While e first) says = says
says-test b at _ says = absurd says

pub if-uses : (b : Body) (at : ℕ) (s : Stmt) (r : held.Uses) (action : Action) (e : ℕ) (a : Block) (o : Option Block) → IsBody b → slice_get b.unit.program.stmts at ≡ Some s → s.kind ≡ IfStmt e a o → Says (setting_of b) b.bodies s s.kind action
    → HasUses b r (joint (term_uses (expression_term b.bodies.operations (test_of action))) (joint (stmts_uses (setting_of b) a.stmts) (else_uses (setting_of b) o))) → IsUses b r (stmt_code (setting_of b) at)
if-uses b at s r action e a o body here is says holds =
    let k = setting_of b in
    let first : Uses = stmts_uses k a.stmts in
    let second : Uses = else_uses k o in
    let term = says-test b e action (subst (λ (q : StmtKind). Says k b.bodies s q action) is says) in
    stmt-uses b at s r (joint (term_uses (term_at k e)) (joint first second)) body here (subst (λ (q : Term). HasUses b r (joint (term_uses q) (joint first second))) term.term holds)
    (λ rest.
    ap (λ (q : StmtKind). code_uses (kind_code k (codes_of k) s q rest)) is
    ∙ sym (joint-assoc (term_uses (term_at k e)) (joint first second) (code_uses rest) ∙ ap (λ (q : Uses). joint (term_uses (term_at k e)) q) (joint-assoc first second (code_uses rest))))

pub while-uses : (b : Body) (at : ℕ) (s : Stmt) (r : held.Uses) (action : Action) (e : ℕ) (a : Block) → IsBody b → slice_get b.unit.program.stmts at ≡ Some s → s.kind ≡ WhileStmt e a → Says (setting_of b) b.bodies s s.kind action
    → HasUses b r (joint (term_uses (expression_term b.bodies.operations (test_of action))) (stmts_uses (setting_of b) a.stmts)) → IsUses b r (stmt_code (setting_of b) at)
while-uses b at s r action e a body here is says holds =
    let k = setting_of b in
    let first : Uses = stmts_uses k a.stmts in
    let term = says-test b e action (subst (λ (q : StmtKind). Says k b.bodies s q action) is says) in
    stmt-uses b at s r (joint (term_uses (term_at k e)) first) body here (subst (λ (q : Term). HasUses b r (joint (term_uses q) first)) term.term holds)
    (λ rest. ap (λ (q : StmtKind). code_uses (kind_code k (codes_of k) s q rest)) is ∙ sym (joint-assoc (term_uses (term_at k e)) first (code_uses rest)))

pub par-uses : (b : Body) (at : ℕ) (s : Stmt) (r : held.Uses) (a o : Block) → IsBody b → slice_get b.unit.program.stmts at ≡ Some s → s.kind ≡ ParStmt a o
    → HasUses b r (joint (stmts_uses (setting_of b) a.stmts) (stmts_uses (setting_of b) o.stmts)) → IsUses b r (stmt_code (setting_of b) at)
par-uses b at s r a o body here is holds =
    let k = setting_of b in
    stmt-uses b at s r (joint (stmts_uses k a.stmts) (stmts_uses k o.stmts)) body here holds
    (λ rest. ap (λ (q : StmtKind). code_uses (kind_code k (codes_of k) s q rest)) is ∙ sym (joint-assoc (stmts_uses k a.stmts) (stmts_uses k o.stmts) (code_uses rest)))

-- ---------- outer variables ----------
-- the sets of a block are those of the rules
pub outer-mentioned : (b : Body) (r : held.Uses) (block : Block) → IsBody b → HasUses b r (stmts_uses (setting_of b) block.stmts) → member r.mentioned ≡ uses_of b.unit b.number block
outer-mentioned b r block is holds = ap (λ (s : Uses). s.mentioned) holds ∙ ap (λ n. known n (block_mentions (own_at b.unit b.number block) (block_code_at b.unit b.number block))) (context-count b is)

pub outer-written : (b : Body) (r : held.Uses) (block : Block) → IsBody b → HasUses b r (stmts_uses (setting_of b) block.stmts) → member r.written ≡ sets_of b.unit b.number block
outer-written b r block is holds = ap (λ (s : Uses). s.written) holds ∙ ap (λ n. known n (block_writes (own_at b.unit b.number block) (block_code_at b.unit b.number block))) (context-count b is)
