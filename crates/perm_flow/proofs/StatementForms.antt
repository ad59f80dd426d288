-- What the walk gives of each form of statement, and what stands in its blocks.
use Rattle.std.proofs.Common.{◌≡◌, ◌∙◌, ℕ, ◌<◌, ◌≤◌, true, false, List, [], ◌++◌, length, Option, Some, None, Ok, Err, refl, sym, ap, subst, arith, append_assoc}
use Rattle.std.specs.Prelude.{◌||◌, ◌≢◌, Bool, Contains}
use Rattle.std.specs.Option.{IfSome}
use Rattle.std.proofs.lemmas.List.{length-map}
use Rattle.perm_tree.specs.declared.ast.Block.{Block}
use Rattle.perm_tree.specs.declared.ast.Ident.{Ident}
use Rattle.perm_tree.specs.declared.ast.Rhs.{Rhs}
use Rattle.perm_tree.specs.declared.ast.Rhs.TheVariants.{Value, Field, TakeField as TakeRhs, Item, New, NewArray as NewArrayRhs, Call as CallRhs, Recover as RecoverRhs}
use Rattle.perm_tree.specs.declared.ast.Span.{Span}
use Rattle.perm_tree.specs.declared.ast.Stmt.{Stmt}
use Rattle.perm_tree.specs.declared.ast.StmtKind.{StmtKind}
use Rattle.perm_tree.specs.declared.ast.StmtKind.TheVariants.{Declare as DeclareStmt, Assign, SetField, SetItem, Call as CallStmt, Print as PrintStmt, If as IfStmt, While as WhileStmt, Par as ParStmt}
use Rattle.perm_tree.specs.declared.ast.Ty.{Ty}
use Rattle.perm_tree.specs.declared.bodies.Action.{Action}
use Rattle.perm_tree.specs.declared.bodies.Action.TheVariants as actions
use Rattle.perm_tree.specs.declared.bodies.Bodies.{Bodies}
use Rattle.perm_tree.specs.declared.bodies.Expression.{Expression}
use Rattle.perm_tree.specs.declared.errors.TypeError.{TypeError}
use Rattle.perm_tree.specs.declared.errors.TypeKind.{TypeKind}
use Rattle.perm_tree.specs.declared.var_set.VarSet.{VarSet}
use Rattle.perm_tree.specs.Blocks.{kind_blocks}
use Rattle.perm_tree.specs.Code.{Code, End, Give, Instruction, Do, If, While, Par, Recover}
use Rattle.perm_tree.specs.CodeNames.{Setting, own_vars, term_at, tied_before, var_at}
use Rattle.perm_tree.specs.CodeOf.{block_code, kind_code, codes_of}
use Rattle.perm_tree.specs.InBody.{vars_at, HasStmt, IsBlockOf}
use Rattle.perm_tree.specs.Places.{KindPlaced}
use Rattle.perm_tree.specs.Scopes.{else_stmts}
use Rattle.perm_tree.specs.StatementSteps.{Says, SaysAssignment, SaysGive, SaysSimple, SaysTerm, SaysTest}
use Rattle.perm_tree.specs.UnitTables.{Tables}
use Rattle.perm_tree.specs.declared.unit.VarInfo.{VarInfo}
use Rattle.perm_tree.specs.VarSets.{member}
use Rattle.perm_tree.specs.Vars.{Vars, below, minus, plus, those, IsWithin}
use Rattle.perm_rules.specs.declared.ParMode.{ParMode}
use Rattle.perm_rules.specs.AtPlace.{effect_of, mode_unless, whole_effect_of}
use Rattle.perm_rules.specs.Effects.{changed, block_effect, effect}
use Rattle.perm_rules.specs.FirstRefused.{error_or, first_refused}
use Rattle.perm_rules.specs.Goes.{hiding}
use Rattle.perm_rules.specs.Liveness.{after}
use Rattle.perm_rules.specs.MethodBodies.{Body, context_of, setting_of, IsBody}
use Rattle.perm_rules.specs.Parts.{Context, Given, ParHead, Simple}
use Rattle.perm_rules.specs.Refusals.{refusal}
use Rattle.perm_tree.proofs.HeldStatements.{else-below}
use Rattle.perm_rules.proofs.MethodsAtPlace.{types-there}
use Rattle.perm_rules.proofs.SetLaws.{closed-changed, empty-changed, minus-less}
use Rattle.perm_flow.specs.Parts.{HoldsHidden}
use Rattle.perm_flow.specs.Walk.{kind_end, BlockGives, CodeGives, IsAssignment, IsIf, IsKnown, IsRecover, IsWhile, PartGives}
use Rattle.perm_flow.proofs.CodeForms.{do-gives, known-lost}
use Rattle.perm_flow.proofs.HiddenSets.{those-append}
use Rattle.perm_flow.proofs.Statements.{bound, bound-least}

-- ---------- par heads ----------
mode-err : (o : Option TypeKind) (mode : ParMode) (k : TypeKind) → Err k ≡ mode_unless o mode → o ≡ Some k
mode-err None mode k h = absurd (cc)
mode-err (Some j) mode k h = let same : k ≡ j = cc in ap Some (sym same)

mode-ok : (o : Option TypeKind) (mode m : ParMode) → Ok m ≡ mode_unless o mode → o ≡ None
mode-ok None mode m h = refl
mode-ok (Some j) mode m h = absurd (cc)

-- the head of a par is refused whatever is hidden and live
module _ (c : Context) (hides : List ℕ) (at : Span) (u1 u2 a1 a2 G : Vars) (mode : ParMode) where
  pub head-refused : (k : TypeKind) → Err k ≡ mode_unless (refusal c (ParHead u1 u2 a1 a2) (λ x. true)) mode → PartGives (hiding hides c) at (ParHead u1 u2 a1 a2) G (Err (record { span = at; kind = k }))
  head-refused k h = ap (λ o. error_or at o None) (mode-err (refusal c (ParHead u1 u2 a1 a2) (λ x. true)) mode k h)

  pub head-passes : (m : ParMode) → Ok m ≡ mode_unless (refusal c (ParHead u1 u2 a1 a2) (λ x. true)) mode → refusal (hiding hides c) (ParHead u1 u2 a1 a2) G ≡ None
  head-passes m h = mode-ok (refusal c (ParHead u1 u2 a1 a2) (λ x. true)) mode m h

-- ---------- what actions say ----------
pub no-test : (k : Setting) (b : Bodies) (at : ℕ) (a : Action) (r : Expression) → ((e : Expression) (other : ℕ) → a ≢ actions.If e other) → ((e : Expression) (first : ℕ) → a ≢ actions.While e first) → SaysTest k b at a → SaysTerm k b at r
no-test k b at (actions.If e other) r f g h = absurd (f e other refl)
no-test k b at (actions.While e first) r f g h = absurd (g e first refl)
no-test k b at (actions.Declare x) r f g h = absurd h
no-test k b at (actions.Assign x v) r f g h = absurd h
no-test k b at (actions.LoadField x y n) r f g h = absurd h
no-test k b at (actions.LoadLength x y) r f g h = absurd h
no-test k b at (actions.LoadItem x y e) r f g h = absurd h
no-test k b at (actions.TakeField x y n) r f g h = absurd h
no-test k b at (actions.NewObject x n m) r f g h = absurd h
no-test k b at (actions.NewArray x e) r f g h = absurd h
no-test k b at (actions.StoreField y n v) r f g h = absurd h
no-test k b at (actions.StoreItem y i e) r f g h = absurd h
no-test k b at (actions.Invoke v) r f g h = absurd h
no-test k b at (actions.Print e) r f g h = absurd h
no-test k b at (actions.Par p q s) r f g h = absurd h
no-test k b at actions.Recover r f g h = absurd h
no-test k b at (actions.Give w x) r f g h = absurd h
no-test k b at (actions.Return v) r f g h = absurd h
no-test k b at actions.End r f g h = absurd h

pub no-give : (k : Setting) (w x : Ident) (a : Action) (m n : ℕ) → ((v y : ℕ) → a ≢ actions.Give v y) → SaysGive k w x a → (m ≡ var_at k w) × (n ≡ var_at k x)
no-give k w x (actions.Give v y) m n f h = absurd (f v y refl)
no-give k w x (actions.If e other) m n f h = absurd h
no-give k w x (actions.While e first) m n f h = absurd h
no-give k w x (actions.Declare y) m n f h = absurd h
no-give k w x (actions.Assign y v) m n f h = absurd h
no-give k w x (actions.LoadField y z i) m n f h = absurd h
no-give k w x (actions.LoadLength y z) m n f h = absurd h
no-give k w x (actions.LoadItem y z e) m n f h = absurd h
no-give k w x (actions.TakeField y z i) m n f h = absurd h
no-give k w x (actions.NewObject y i j) m n f h = absurd h
no-give k w x (actions.NewArray y e) m n f h = absurd h
no-give k w x (actions.StoreField y i v) m n f h = absurd h
no-give k w x (actions.StoreItem y i e) m n f h = absurd h
no-give k w x (actions.Invoke v) m n f h = absurd h
no-give k w x (actions.Print e) m n f h = absurd h
no-give k w x (actions.Par p q s) m n f h = absurd h
no-give k w x actions.Recover m n f h = absurd h
no-give k w x (actions.Return v) m n f h = absurd h
no-give k w x actions.End m n f h = absurd h

-- an assignment of no recover block is simple
rhs-simple : (k : Setting) (b : Bodies) (s : Stmt) (x : Ident) (r : Rhs) (a : Action) → ((block : Block) (w : Ident) (give : Span) → r ≢ RecoverRhs block w give) → SaysAssignment k b s x r a → SaysSimple k b s a
rhs-simple k b s x (Value v) a f h = h
rhs-simple k b s x (Field y n) a f h = h
rhs-simple k b s x (TakeRhs y n) a f h = h
rhs-simple k b s x (Item y e) a f h = h
rhs-simple k b s x (New n) a f h = h
rhs-simple k b s x (NewArrayRhs e) a f h = h
rhs-simple k b s x (CallRhs v) a f h = h
rhs-simple k b s x (RecoverRhs block w give) a f h = absurd (f block w give refl)

pub assignment-simple : (k : Setting) (b : Bodies) (s : Stmt) (r : Rhs) (a : Action) → IsAssignment s.kind r → ((block : Block) (w : Ident) (give : Span) → r ≢ RecoverRhs block w give) → Says k b s s.kind a → SaysSimple k b s a
assignment-simple k b s r a is f h = rhs-simple k b s is.x r a f (subst (λ (kind : StmtKind). Says k b s kind a) is.is h)

-- a statement without blocks is simple
pub kind-simple : (k : Setting) (b : Bodies) (s : Stmt) (kind : StmtKind) (a : Action) → ((t : Option Ty) (x : Ident) (r : Rhs) → kind ≢ Assign t x r) → ((e : ℕ) (first : Block) (other : Option Block) → kind ≢ IfStmt e first other)
    → ((e : ℕ) (block : Block) → kind ≢ WhileStmt e block) → ((left right : Block) → kind ≢ ParStmt left right) → Says k b s kind a → SaysSimple k b s a
kind-simple k b s (DeclareStmt t x) a f g i j h = h
kind-simple k b s (Assign t x r) a f g i j h = absurd (f t x r refl)
kind-simple k b s (SetField y n v) a f g i j h = h
kind-simple k b s (SetItem y m e) a f g i j h = h
kind-simple k b s (CallStmt v) a f g i j h = h
kind-simple k b s (PrintStmt e) a f g i j h = h
kind-simple k b s (IfStmt e first other) a f g i j h = absurd (g e first other refl)
kind-simple k b s (WhileStmt e block) a f g i j h = absurd (i e block refl)
kind-simple k b s (ParStmt left right) a f g i j h = absurd (j left right refl)

-- ---------- simple statements ----------
pub simple-stops : (c : Context) (a : Code) (at : Span) (i : Instruction) (G : Vars) (e : TypeError) → a ≡ Do at i End → PartGives c at (Simple i) G (Err e) → first_refused c a G ≡ Some e
simple-stops c a at i G e is h = ap (λ (d : Code). first_refused c d G) is ∙ h

pub simple-gives : (c : Context) (a : Code) (at : Span) (i : Instruction) (G : Vars) (set : VarSet) → a ≡ Do at i End → length c.vars ≤ 256 → IsWithin G (below (length c.vars)) → refusal c (Simple i) G ≡ None
    → ((x : ℕ) → x < 256 → member set x ≡ after i G x) → CodeGives c a (effect a) G (Ok set)
simple-gives c a at i G set is few known fine holds = subst (λ (d : Code). CodeGives c d (effect d) G (Ok set)) (sym is) (do-gives c at i G set few known fine holds)

-- ---------- blocks ----------
-- the statements of the block end, and its own variables are lost
pub braced-gives : (c : Context) (k : Setting) (is own : List ℕ) (G : Vars) (end r : VarSet) → BlockGives c k is G (Ok end) → member r ≡ minus (member end) (those own)
    → (a : Code) → ((first_refused c a G ≡ None) × (changed (effect a) G ≡ changed (effect End) (member end))) → CodeGives c a (block_effect own a) G (Ok r)
braced-gives c k is own G end r gives lost a both = (
  both.0,
  lost ∙ (ap (λ (M : Vars). minus M (those own)) (empty-changed (member end) ∙ sym both.1) ∙ closed-changed (effect a) (those own) G),
)

pub nothing-gives : (c : Context) (G : Vars) (set : VarSet) → member set ≡ G → CodeGives c End (block_effect [] End) G (Ok set)
nothing-gives c G set is = (refl, is ∙ (empty-changed G ∙ closed-nothing))
  where
    closed-nothing : changed (effect End) G ≡ changed (block_effect [] End) G
    closed-nothing = refl

-- ---------- what stands in blocks ----------
module _ (u : Tables) (m at : ℕ) (s : Stmt) (stands : HasStmt u m at s) where
  pub if-yes : (first : Block) (other : Option Block) → IsIf s.kind first other → IsBlockOf u m first
  if-yes first other is = IsBlockOf.Inner at s stands (subst (λ (kind : StmtKind). Contains (kind_blocks kind) first) (sym is.is) (0, omega arith, refl))

  pub if-no : (first : Block) (other : Option Block) → IsIf s.kind first other → IfSome other (IsBlockOf u m)
  if-no first None is = tt
  if-no first (Some other) is = IsBlockOf.Inner at s stands (subst (λ (kind : StmtKind). Contains (kind_blocks kind) other) (sym is.is) (1, omega arith, refl))

  pub while-block : (block : Block) → IsWhile s.kind block → IsBlockOf u m block
  while-block block is = IsBlockOf.Inner at s stands (subst (λ (kind : StmtKind). Contains (kind_blocks kind) block) (sym is.is) (0, omega arith, refl))

  pub par-left : (left right : Block) → s.kind ≡ ParStmt left right → IsBlockOf u m left
  par-left left right is = IsBlockOf.Inner at s stands (subst (λ (kind : StmtKind). Contains (kind_blocks kind) left) (sym is) (0, omega arith, refl))

  pub par-right : (left right : Block) → s.kind ≡ ParStmt left right → IsBlockOf u m right
  par-right left right is = IsBlockOf.Inner at s stands (subst (λ (kind : StmtKind). Contains (kind_blocks kind) right) (sym is) (1, omega arith, refl))

  pub recover-block : (block : Block) (give : Span) → IsRecover s.kind block give → IsBlockOf u m block
  recover-block block give is = IsBlockOf.Inner at s stands (subst (λ (kind : StmtKind). Contains (kind_blocks kind) block) (sym is.is) (0, omega arith, refl))

-- the blocks of a statement stand before it
module _ (exprs at : ℕ) (kind : StmtKind) (placed : KindPlaced exprs at kind) where
  pub if-bounds : (first : Block) (other : Option Block) → IsIf kind first other → (bound first.stmts ≤ at) × (bound (else_stmts other) ≤ at)
  if-bounds first other is =
      let parts : KindPlaced exprs at (IfStmt is.condition first other) = subst (KindPlaced exprs at) is.is placed in
      (bound-least at first.stmts parts.1, bound-least at (else_stmts other) (else-below at other parts.2))

  pub while-bounds : (block : Block) → IsWhile kind block → bound block.stmts ≤ at
  while-bounds block is = let parts : KindPlaced exprs at (WhileStmt is.condition block) = subst (KindPlaced exprs at) is.is placed in bound-least at block.stmts parts.1

  pub par-bounds : (left right : Block) → kind ≡ ParStmt left right → (bound left.stmts ≤ at) × (bound right.stmts ≤ at)
  par-bounds left right is = let parts : KindPlaced exprs at (ParStmt left right) = subst (KindPlaced exprs at) is placed in (bound-least at left.stmts parts.0, bound-least at right.stmts parts.1)

  pub recover-bounds : (block : Block) (give : Span) → IsRecover kind block give → bound block.stmts ≤ at
  recover-bounds block give is = let parts : KindPlaced exprs at (Assign is.ty is.x (RecoverRhs block is.w give)) = subst (KindPlaced exprs at) is.is placed in bound-least at block.stmts parts

-- ---------- what is hidden in a recover block ----------
pub hidden-more : (b : Body) (hidden tied all : VarSet) (xs hides : List ℕ) → length (context_of b).vars ≤ 256 → HoldsHidden b hidden hides → ((x : ℕ) → x < 256 → member tied x ≡ those xs x) → ((x : ℕ) → member all x ≡ (member hidden x || member tied x))
    → HoldsHidden b all (xs ++ hides)
hidden-more b hidden tied all xs hides few holds is both x less =
    let small : x < 256 = omega arith in
    both x ∙ (ap (λ c. c || member tied x) (holds x less) ∙ (ap (λ c. those hides x || c) (is x small) ∙ (swap (those hides x) (those xs x) ∙ sym (those-append xs hides x))))
  where
    swap : (c d : Bool) → (c || d) ≡ (d || c)
    swap true true = refl
    swap true false = refl
    swap false true = refl
    swap false false = refl

pub hiding-more : (c : Context) (xs hides : List ℕ) → hiding (xs ++ hides) c ≡ hiding xs (hiding hides c)
hiding-more c xs hides = ap (λ (hs : List ℕ). let d : Context = record c { hidden = hs } in d) (append_assoc xs hides c.hidden)

-- ---------- sets ----------
pub plus-same : {A B C D : Vars} → A ≡ C → B ≡ D → plus A B ≡ plus C D
plus-same p q = λ i. plus (p i) (q i)

pub minus-same : {B D : Vars} (A : Vars) → B ≡ D → minus A B ≡ minus A D
minus-same A q = λ i. minus A (q i)

-- ---------- codes of statements ----------
pub if-code : (b : Body) (s : Stmt) (first : Block) (other : Option Block) (is : IsIf s.kind first other)
    → kind_end b s ≡ If s.head (term_at (setting_of b) is.condition) (own_vars (setting_of b) first.stmts) (block_code (setting_of b) first.stmts End) (own_vars (setting_of b) (else_stmts other)) (block_code (setting_of b) (else_stmts other) End) End
if-code b s first other is = ap (λ (kind : StmtKind). kind_code (setting_of b) (codes_of (setting_of b)) s kind End) is.is

pub while-code : (b : Body) (s : Stmt) (block : Block) (is : IsWhile s.kind block)
    → kind_end b s ≡ While s.head (term_at (setting_of b) is.condition) (own_vars (setting_of b) block.stmts) (block_code (setting_of b) block.stmts End) End
while-code b s block is = ap (λ (kind : StmtKind). kind_code (setting_of b) (codes_of (setting_of b)) s kind End) is.is

pub par-code : (b : Body) (s : Stmt) (left right : Block) → s.kind ≡ ParStmt left right
    → kind_end b s ≡ Par s.head (own_vars (setting_of b) left.stmts) (block_code (setting_of b) left.stmts End) (own_vars (setting_of b) right.stmts) (block_code (setting_of b) right.stmts End) End
par-code b s left right is = ap (λ (kind : StmtKind). kind_code (setting_of b) (codes_of (setting_of b)) s kind End) is

pub recover-code : (b : Body) (s : Stmt) (block : Block) (give : Span) (is : IsRecover s.kind block give) (w x : ℕ) → w ≡ var_at (setting_of b) is.w → x ≡ var_at (setting_of b) is.x
    → kind_end b s ≡ Recover s.head x (own_vars (setting_of b) block.stmts) (tied_before s.head.end 0 (setting_of b).vars) (block_code (setting_of b) block.stmts (Give give w x)) End
recover-code b s block give is w x p q =
    ap (λ (kind : StmtKind). kind_code (setting_of b) (codes_of (setting_of b)) s kind End) is.is
    ∙ (λ j. Recover s.head (sym q j) (own_vars (setting_of b) block.stmts) (tied_before s.head.end 0 (setting_of b).vars) (block_code (setting_of b) block.stmts (Give give (sym p j) (sym q j))) End)

-- ---------- loops ----------
-- the types of the variables are as many as the variables
pub vars-count : (b : Body) → IsBody b → length (context_of b).vars ≡ length (vars_at b.unit b.number)
vars-count b is = ap (λ (ts : List Ty). length ts) (types-there b.unit b.number is.table is.resolved is.tabled) ∙ length-map (vars_at b.unit b.number) (λ (v : VarInfo). v.ty)

-- what is kept of the live set is that without what the body loses
pub kept-is : (b : Body) → IsBody b → (block : Block) (live kept lost : VarSet) → IsKnown b live → member kept ≡ minus (member live) (member lost) → member lost ≡ (effect_of b.unit b.number block).lost
    → member kept ≡ minus (member live) (whole_effect_of b.unit b.number block).lost
kept-is b is block live kept lost known p q =
    p
    ∙ (minus-same (member live) q
    ∙ known-lost (length (vars_at b.unit b.number)) (member live) (whole_effect_of b.unit b.number block).lost (subst (λ n. IsWithin (member live) (below n)) (vars-count b is) known))

pub kept-known : (b : Body) (live kept : VarSet) (L : Vars) → IsKnown b live → member kept ≡ minus (member live) L → IsKnown b kept
kept-known b live kept L known is = subst (λ (M : Vars). IsWithin M (below (length (context_of b).vars))) (sym is) (λ x h. known x (minus-less (member live) L x h))

-- ---------- the end of a recover block ----------
-- what is refused of a block with more hidden, in other words
pub refused-as : (c : Context) (k : Setting) (xs hides is js : List ℕ) (last : Code) (G : Vars) → is ≡ js
    → first_refused (hiding xs (hiding hides c)) (block_code k js last) G ≡ first_refused (hiding (xs ++ hides) c) (block_code k is last) G
refused-as c k xs hides is js last G same =
    ap (λ (d : Context). first_refused d (block_code k js last) G) (sym (hiding-more c xs hides)) ∙ ap (λ (ns : List ℕ). first_refused (hiding (xs ++ hides) c) (block_code k ns last) G) (sym same)

-- an allowed `give` isn't refused
pub given-passes : (c : Context) (give : Span) (w x : ℕ) (G : Vars) → refusal c (Given w x) G ≡ None → first_refused c (Give give w x) G ≡ None
given-passes c give w x G h = ap (λ o. error_or give o None) h
