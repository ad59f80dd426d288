-- What the step of a statement tells of the statement's code.
use Rattle.std.proofs.Common.{◌≡◌, ◌≢◌, ◌∙◌, ℕ, Bool, true, false, map, Option, Some, None, refl, sym, ap, subst, eq-eqb}
use Rattle.std.specs.Prelude.{◌&&◌, slice_get}
use Rattle.perm_tree.specs.declared.ast.Block.{Block}
use Rattle.perm_tree.specs.declared.ast.Ident.{Ident}
use Rattle.perm_tree.specs.declared.ast.Rhs.{Rhs}
use Rattle.perm_tree.specs.declared.ast.Rhs.TheVariants.{Value, Field, TakeField as TakeRhs, Item, New, NewArray as NewArrayRhs, Call as CallRhs, Recover as RecoverRhs}
use Rattle.perm_tree.specs.declared.ast.Span.{Span}
use Rattle.perm_tree.specs.declared.ast.Stmt.{Stmt}
use Rattle.perm_tree.specs.declared.ast.StmtKind.{StmtKind}
use Rattle.perm_tree.specs.declared.ast.StmtKind.TheVariants.{Declare as DeclareStmt, Assign as AssignStmt, SetField, SetItem, Call as CallStmt, Print as PrintStmt, If as IfStmt, While as WhileStmt, Par as ParStmt}
use Rattle.perm_tree.specs.declared.ast.Ty.{Ty}
use Rattle.perm_tree.specs.declared.bodies.Action.{Action}
use Rattle.perm_tree.specs.declared.bodies.Action.TheVariants as actions
use Rattle.perm_tree.specs.declared.bodies.Argument as handed
use Rattle.perm_tree.specs.declared.bodies.Bodies.{Bodies}
use Rattle.perm_tree.specs.declared.bodies.Expression.{Expression}
use Rattle.perm_tree.specs.declared.bodies.Invocation.{Invocation}
use Rattle.perm_tree.specs.BodyTerms.{instruction_of, IsActionIn}
use Rattle.perm_tree.specs.Code.{Code, End, Do, Tie, Instruction, Declare, UnitCode}
use Rattle.perm_tree.specs.CodeNames.{Setting, var_at, read, ty_at}
use Rattle.perm_tree.specs.CodeOf.{kind_code, codes_of}
use Rattle.perm_tree.specs.Lookup.{is_array, var_ty}
use Rattle.perm_tree.specs.Mentions.{assigns, just_option, mentions}
use Rattle.perm_tree.specs.Scopes.{declared_at, declared_by, declared_if}
use Rattle.perm_tree.specs.Spelling.{length_word, is_word}
use Rattle.perm_tree.specs.StatementSteps.{action_tie, Says, SaysAssignment, SaysSimple}
use Rattle.perm_tree.specs.Vars.{Vars, none, just, those}
use Rattle.perm_par.specs.StepVariables.{declares, if_declared, taker_of, IsCallIn, IsGive}
use Rattle.perm_par.proofs.KnownSets.{plus-none}

-- the instruction of a code that begins with one
abbrev instruction_in : Code → Instruction
instruction_in (Do at i rest) = i
instruction_in c = Declare 0

-- the instruction of a step
abbrev pub step_of : Setting → Bodies → Action → Instruction
step_of k b action = instruction_of b (action_tie (var_ty k.vars) b action) action

-- ---------- simple statements ----------
-- the arguments of the call of a step are there
pub call-in : (b : Bodies) (u : UnitCode) (action : Action) → IsActionIn b u action → IsCallIn b action
call-in b u (actions.Invoke v) inside = inside.0
call-in b u _ inside = tt

-- a statement without blocks that is no assignment says what it is
pub says-simple : (k : Setting) (b : Bodies) (s : Stmt) (kind : StmtKind) (action : Action) → ((t : Option Ty) (x : Ident) (r : Rhs) → kind ≢ AssignStmt t x r) → ((e : ℕ) (y : Block) (n : Option Block) → kind ≢ IfStmt e y n)
    → ((e : ℕ) (y : Block) → kind ≢ WhileStmt e y) → ((y n : Block) → kind ≢ ParStmt y n) → Says k b s kind action → SaysSimple k b s action
says-simple k b s (DeclareStmt t x) action no_assign no_if no_while no_par says = says
says-simple k b s (AssignStmt t x r) action no_assign no_if no_while no_par says = absurd (no_assign t x r refl)
says-simple k b s (SetField y f a) action no_assign no_if no_while no_par says = says
says-simple k b s (SetItem y i e) action no_assign no_if no_while no_par says = says
says-simple k b s (CallStmt c) action no_assign no_if no_while no_par says = says
says-simple k b s (PrintStmt e) action no_assign no_if no_while no_par says = says
says-simple k b s (IfStmt e y n) action no_assign no_if no_while no_par says = absurd (no_if e y n refl)
says-simple k b s (WhileStmt e y) action no_assign no_if no_while no_par says = absurd (no_while e y refl)
says-simple k b s (ParStmt y n) action no_assign no_if no_while no_par says = absurd (no_par y n refl)

-- an assignment that is no recover says what it is
pub says-plain : (k : Setting) (b : Bodies) (s : Stmt) (x : Ident) (r : Rhs) (action : Action) → ((a : Block) (w : Ident) (give : Span) → r ≢ RecoverRhs a w give) → SaysAssignment k b s x r action → SaysSimple k b s action
says-plain k b s x (Value a) action no_recover says = says
says-plain k b s x (Field y f) action no_recover says = says
says-plain k b s x (TakeRhs y f) action no_recover says = says
says-plain k b s x (Item y e) action no_recover says = says
says-plain k b s x (New c) action no_recover says = says
says-plain k b s x (NewArrayRhs e) action no_recover says = says
says-plain k b s x (CallRhs c) action no_recover says = says
says-plain k b s x (RecoverRhs a w give) action no_recover says = absurd (no_recover a w give refl)

-- ---------- what a step declares ----------
-- the code of a statement of a kind is that of its step
said : (k : Setting) (b : Bodies) (s : Stmt) (kind : StmtKind) (action : Action) → s.kind ≡ kind → SaysSimple k b s action → kind_code k (codes_of k) s kind End ≡ Do s.span (step_of k b action) End
said k b s kind action is says = sym (ap (λ (q : StmtKind). kind_code k (codes_of k) s q End) is) ∙ says.code End

-- the step of a declaration declares the variable
pub step-declares : (k : Setting) (b : Bodies) (s : Stmt) (t : Ty) (x : Ident) (action : Action) → s.kind ≡ DeclareStmt t x → Says k b s s.kind action → declares (step_of k b action) ≡ just (var_at k x)
step-declares k b s t x action is says =
    sym (ap (λ (a : Code). declares (instruction_in a)) (said k b s (DeclareStmt t x) action is (subst (λ (q : StmtKind). Says k b s q action) is says)))

-- what a step assigns it gives a value to
assigned-taker : (b : Bodies) (tie : Tie) (action : Action) (x : ℕ) → just x ≡ assigns (instruction_of b tie action) → just_option (taker_of action) ≡ just x
assigned-taker b tie (actions.Declare y) x e = sym e
assigned-taker b tie (actions.Assign y a) x e = sym e
assigned-taker b tie (actions.LoadField y z f) x e = sym e
assigned-taker b tie (actions.LoadLength y z) x e = sym e
assigned-taker b tie (actions.LoadItem y z i) x e = sym e
assigned-taker b tie (actions.TakeField y z f) x e = sym e
assigned-taker b tie (actions.NewObject y c f) x e = sym e
assigned-taker b tie (actions.NewArray y n) x e = sym e
assigned-taker b tie (actions.StoreField y f a) x e = sym e
assigned-taker b tie (actions.StoreItem y i v) x e = sym e
assigned-taker b tie (actions.Invoke v) x e = sym e
assigned-taker b tie (actions.Print v) x e = sym e
assigned-taker b tie (actions.If v o) x e = sym e
assigned-taker b tie (actions.While v o) x e = sym e
assigned-taker b tie (actions.Par l r o) x e = sym e
assigned-taker b tie actions.Recover x e = sym e
assigned-taker b tie (actions.Give w y) x e = absurd (nothing-just x e)
  where
    nothing-just : (x : ℕ) → just x ≡ none → ⊥
    nothing-just x same = let at : just x x ≡ false = ap (λ (G : Vars). G x) same in clash x at
      where
        clash : (x : ℕ) → just x x ≡ false → ⊥
        clash x e = let same : x ≡ x = refl in cc (sym (eq-eqb x x same) ∙ e)
assigned-taker b tie (actions.Return a) x e = sym e
assigned-taker b tie actions.End x e = sym e

-- a read assigns
read-assigns : (k : Setting) (x : ℕ) (y f : Ident) → just x ≡ assigns (read k x y f)
read-assigns k x y f = by-test (is_array (ty_at k y) && is_word k.tables.program.names length_word f.name) refl
  where
    by-test : (t : Bool) → (is_array (ty_at k y) && is_word k.tables.program.names length_word f.name) ≡ t → just x ≡ assigns (read k x y f)
    by-test true e = rw e refl
    by-test false e = rw e refl

-- the step of an assignment gives the variable its value
pub step-gives : (k : Setting) (b : Bodies) (s : Stmt) (t : Option Ty) (x : Ident) (r : Rhs) (action : Action) → s.kind ≡ AssignStmt t x r → SaysAssignment k b s x r action → just_option (taker_of action) ≡ just (var_at k x)
step-gives k b s t x (Value a) action is says = assigned-taker b (action_tie (var_ty k.vars) b action) action (var_at k x) (ap (λ (c : Code). assigns (instruction_in c)) (said k b s (AssignStmt t x (Value a)) action is says))
step-gives k b s t x (Field y f) action is says =
    assigned-taker b (action_tie (var_ty k.vars) b action) action (var_at k x) (read-assigns k (var_at k x) y f ∙ ap (λ (c : Code). assigns (instruction_in c)) (said k b s (AssignStmt t x (Field y f)) action is says))
step-gives k b s t x (TakeRhs y f) action is says = assigned-taker b (action_tie (var_ty k.vars) b action) action (var_at k x) (ap (λ (c : Code). assigns (instruction_in c)) (said k b s (AssignStmt t x (TakeRhs y f)) action is says))
step-gives k b s t x (Item y e) action is says = assigned-taker b (action_tie (var_ty k.vars) b action) action (var_at k x) (ap (λ (c : Code). assigns (instruction_in c)) (said k b s (AssignStmt t x (Item y e)) action is says))
step-gives k b s t x (New n) action is says = assigned-taker b (action_tie (var_ty k.vars) b action) action (var_at k x) (ap (λ (c : Code). assigns (instruction_in c)) (said k b s (AssignStmt t x (New n)) action is says))
step-gives k b s t x (NewArrayRhs e) action is says = assigned-taker b (action_tie (var_ty k.vars) b action) action (var_at k x) (ap (λ (c : Code). assigns (instruction_in c)) (said k b s (AssignStmt t x (NewArrayRhs e)) action is says))
step-gives k b s t x (CallRhs n) action is says = assigned-taker b (action_tie (var_ty k.vars) b action) action (var_at k x) (ap (λ (c : Code). assigns (instruction_in c)) (said k b s (AssignStmt t x (CallRhs n)) action is says))
step-gives k b s t x (RecoverRhs a w give) (actions.Give g y) is says = ap just says.1
step-gives k b s t x (RecoverRhs a w give) _ is says = absurd says

-- what a statement declares, by its kind
pub declared-kind : (k : Setting) (at : ℕ) (s : Stmt) (kind : StmtKind) → slice_get k.tables.program.stmts at ≡ Some s → s.kind ≡ kind
    → those (map (λ d. var_at k d.name) (declared_by kind)) ≡ those (map (λ d. var_at k d.name) (declared_at k.tables.program.stmts at))
declared-kind k at s kind here is =
    sym (ap (λ (o : Option Stmt). those (map (λ d. var_at k d.name) (declared_if o))) here ∙ ap (λ (q : StmtKind). those (map (λ d. var_at k d.name) (declared_by q))) is)

-- the step of a declaration tells what is declared
pub declaration-owns : (k : Setting) (b : Bodies) (at : ℕ) (s : Stmt) (t : Ty) (x : Ident) (action : Action) → slice_get k.tables.program.stmts at ≡ Some s → s.kind ≡ DeclareStmt t x → Says k b s s.kind action
    → declares (step_of k b action) ≡ those (map (λ d. var_at k d.name) (declared_at k.tables.program.stmts at))
declaration-owns k b at s t x action here is says = step-declares k b s t x action is says ∙ sym (plus-none (just (var_at k x))) ∙ declared-kind k at s (DeclareStmt t x) here is

-- so does that of an assignment
pub assignment-owns : (k : Setting) (b : Bodies) (at : ℕ) (s : Stmt) (t : Option Ty) (x : Ident) (r : Rhs) (action : Action) → slice_get k.tables.program.stmts at ≡ Some s → s.kind ≡ AssignStmt t x r → Says k b s s.kind action
    → just_option (if_declared t (taker_of action)) ≡ those (map (λ d. var_at k d.name) (declared_at k.tables.program.stmts at))
assignment-owns k b at s None x r action here is says = declared-kind k at s (AssignStmt None x r) here is
assignment-owns k b at s (Some t) x r action here is says =
    step-gives k b s (Some t) x r action is (subst (λ (q : StmtKind). Says k b s q action) is says) ∙ sym (plus-none (just (var_at k x))) ∙ declared-kind k at s (AssignStmt (Some t) x r) here is

-- ---------- gives ----------
-- the step of a recover is a `give`
pub recover-gives : (k : Setting) (b : Bodies) (s : Stmt) (x : Ident) (a : Block) (w : Ident) (give : Span) (action : Action) → SaysAssignment k b s x (RecoverRhs a w give) action → IsGive action
recover-gives k b s x a w give (actions.Give g y) says = tt
recover-gives k b s x a w give _ says = absurd says

-- its variables are those of the `give`
pub recover-gift : (k : Setting) (b : Bodies) (s : Stmt) (x : Ident) (a : Block) (w : Ident) (give : Span) (g y : ℕ) → SaysAssignment k b s x (RecoverRhs a w give) (actions.Give g y) → (g ≡ var_at k w) × (y ≡ var_at k x)
recover-gift k b s x a w give g y says = says

-- ---------- what a step mentions ----------
-- a step that does nothing else mentions what it declares
pub other-mentions : (b : Bodies) (tie : Tie) (action : Action) → ((x : ℕ) (a : handed.Argument) → action ≢ actions.Assign x a) → ((x y f : ℕ) → action ≢ actions.LoadField x y f) → ((x y : ℕ) → action ≢ actions.LoadLength x y)
    → ((x y : ℕ) (e : Expression) → action ≢ actions.LoadItem x y e) → ((x y f : ℕ) → action ≢ actions.TakeField x y f) → ((x c f : ℕ) → action ≢ actions.NewObject x c f) → ((x : ℕ) (e : Expression) → action ≢ actions.NewArray x e)
    → ((y f : ℕ) (a : handed.Argument) → action ≢ actions.StoreField y f a) → ((y : ℕ) (i e : Expression) → action ≢ actions.StoreItem y i e) → ((v : Invocation) → action ≢ actions.Invoke v) → ((e : Expression) → action ≢ actions.Print e)
    → declares (instruction_of b tie action) ≡ mentions (instruction_of b tie action)
other-mentions b tie (actions.Assign x a) n1 n2 n3 n4 n5 n6 n7 n8 n9 n10 n11 = absurd (n1 x a refl)
other-mentions b tie (actions.LoadField x y f) n1 n2 n3 n4 n5 n6 n7 n8 n9 n10 n11 = absurd (n2 x y f refl)
other-mentions b tie (actions.LoadLength x y) n1 n2 n3 n4 n5 n6 n7 n8 n9 n10 n11 = absurd (n3 x y refl)
other-mentions b tie (actions.LoadItem x y e) n1 n2 n3 n4 n5 n6 n7 n8 n9 n10 n11 = absurd (n4 x y e refl)
other-mentions b tie (actions.TakeField x y f) n1 n2 n3 n4 n5 n6 n7 n8 n9 n10 n11 = absurd (n5 x y f refl)
other-mentions b tie (actions.NewObject x c f) n1 n2 n3 n4 n5 n6 n7 n8 n9 n10 n11 = absurd (n6 x c f refl)
other-mentions b tie (actions.NewArray x e) n1 n2 n3 n4 n5 n6 n7 n8 n9 n10 n11 = absurd (n7 x e refl)
other-mentions b tie (actions.StoreField y f a) n1 n2 n3 n4 n5 n6 n7 n8 n9 n10 n11 = absurd (n8 y f a refl)
other-mentions b tie (actions.StoreItem y i e) n1 n2 n3 n4 n5 n6 n7 n8 n9 n10 n11 = absurd (n9 y i e refl)
other-mentions b tie (actions.Invoke v) n1 n2 n3 n4 n5 n6 n7 n8 n9 n10 n11 = absurd (n10 v refl)
other-mentions b tie (actions.Print e) n1 n2 n3 n4 n5 n6 n7 n8 n9 n10 n11 = absurd (n11 e refl)
other-mentions b tie _ n1 n2 n3 n4 n5 n6 n7 n8 n9 n10 n11 = refl
