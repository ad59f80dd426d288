-- What an action says of a statement it says of it still where bodies are extended.
use Rattle.std.proofs.Common.{◌≡◌, ◌∙◌, ℕ, Bool, true, false, List, Option, refl, sym, ap, subst, cond}
use Rattle.std.specs.Prelude.{◌&&◌}
use Rattle.std.specs.List.{list_all}
use Rattle.perm_tree.specs.declared.ast.Ident.{Ident}
use Rattle.perm_tree.specs.declared.ast.Rhs.{Rhs}
use Rattle.perm_tree.specs.declared.ast.Rhs.TheVariants.{Value, Field, TakeField as TakeRhs, Item, New, NewArray as NewArrayRhs, Call as CallRhs, Recover as RecoverRhs}
use Rattle.perm_tree.specs.declared.ast.Stmt.{Stmt}
use Rattle.perm_tree.specs.declared.ast.StmtKind.{StmtKind}
use Rattle.perm_tree.specs.declared.ast.StmtKind.TheVariants.{Declare, Assign, SetField, SetItem, Call as CallStmt, Print, If as IfStmt, While as WhileStmt, Par as ParStmt}
use Rattle.perm_tree.specs.declared.ast.Ty.{Ty}
use Rattle.perm_tree.specs.declared.bodies.Action.{Action}
use Rattle.perm_tree.specs.declared.bodies.Action.TheVariants as actions
use Rattle.perm_tree.specs.declared.bodies.Bodies.{Bodies}
use Rattle.perm_tree.specs.declared.bodies.Expression.{Expression}
use Rattle.perm_tree.specs.BodyTerms.{instruction_of, IsActionIn}
use Rattle.perm_tree.specs.Code as code
use Rattle.perm_tree.specs.Code.{Code, Do, Instruction, Tie, UnitCode}
use Rattle.perm_tree.specs.CodeNames.{Setting, ty_at, var_at, field_at}
use Rattle.perm_tree.specs.CodeOf.{assignment, code_of, codes_of, kind_code}
use Rattle.perm_tree.specs.Lookup.{is_array, var_ty}
use Rattle.perm_tree.specs.Spelling.{length_word, is_word}
use Rattle.perm_tree.specs.StatementSteps.{action_tie, Says, SaysAssignment, SaysSimple, SaysTerm, SaysTest}
use Rattle.perm_tree.specs.Ties.{is_harmless, tie_of}
use Rattle.perm_table.specs.Growth.{Extends}
use Rattle.perm_table.specs.Numbered.{states, IsSimpleKind, IsSimpleRhs, TellsCode}
use Rattle.perm_table.proofs.Growth.{action-in-stays, action-stays, handed-stay, in-stays, term-stays}

-- ---------- what stays ----------
module _ (k : Setting) (old new : Bodies) (more : Extends old new) where
  -- a call is tied the same
  tie-stays : (ty : ℕ → Option Ty) (a : Action) → IsActionIn old (code_of k.tables) a → action_tie ty new a ≡ action_tie ty old a
  tie-stays ty (actions.Declare x) is = refl
  tie-stays ty (actions.Assign x a) is = refl
  tie-stays ty (actions.LoadField x y f) is = refl
  tie-stays ty (actions.LoadLength x y) is = refl
  tie-stays ty (actions.LoadItem x y e) is = refl
  tie-stays ty (actions.TakeField x y f) is = refl
  tie-stays ty (actions.NewObject x class fields) is = refl
  tie-stays ty (actions.NewArray x e) is = refl
  tie-stays ty (actions.StoreField y f a) is = refl
  tie-stays ty (actions.StoreItem y i e) is = refl
  tie-stays ty (actions.Invoke v) is =
      ap (λ (l : List code.Argument). tie_of (ty v.receiver) v.consumed (list_all (is_harmless ty) l)) (handed-stay old new (code_of k.tables) more v is)
  tie-stays ty (actions.Print e) is = refl
  tie-stays ty (actions.If e other) is = refl
  tie-stays ty (actions.While e body) is = refl
  tie-stays ty (actions.Par left right sides) is = refl
  tie-stays ty actions.Recover is = refl
  tie-stays ty (actions.Give w x) is = refl
  tie-stays ty (actions.Return a) is = refl
  tie-stays ty actions.End is = refl

  simple-stays : (s : Stmt) (a : Action) → SaysSimple k old s a → SaysSimple k new s a
  simple-stays s a says = record {
    code = λ rest. says.code rest ∙ ap (λ (i : Instruction). Do s.span i rest) (sym same);
    inside = action-in-stays old new (code_of k.tables) more a says.inside;
  }
    where
      same : instruction_of new (action_tie (var_ty k.vars) new a) a ≡ instruction_of old (action_tie (var_ty k.vars) old a) a
      same = ap (λ (t : Tie). instruction_of new t a) (tie-stays (var_ty k.vars) a says.inside) ∙ action-stays old new (code_of k.tables) more (action_tie (var_ty k.vars) old a) a says.inside

  pub term-says : (at : ℕ) (e : Expression) → SaysTerm k old at e → SaysTerm k new at e
  term-says at e says = record {
    term = term-stays old new (code_of k.tables) more e says.inside ∙ says.term;
    inside = in-stays old new (code_of k.tables) more e says.inside;
  }

  -- so of a test
  pub test-stays : (at : ℕ) (a : Action) → SaysTest k old at a → SaysTest k new at a
  test-stays at (actions.Declare x) says = says
  test-stays at (actions.Assign x a) says = says
  test-stays at (actions.LoadField x y f) says = says
  test-stays at (actions.LoadLength x y) says = says
  test-stays at (actions.LoadItem x y e) says = says
  test-stays at (actions.TakeField x y f) says = says
  test-stays at (actions.NewObject x class fields) says = says
  test-stays at (actions.NewArray x e) says = says
  test-stays at (actions.StoreField y f a) says = says
  test-stays at (actions.StoreItem y i e) says = says
  test-stays at (actions.Invoke v) says = says
  test-stays at (actions.Print e) says = says
  test-stays at (actions.If e other) says = term-says at e says
  test-stays at (actions.While e body) says = term-says at e says
  test-stays at (actions.Par left right sides) says = says
  test-stays at actions.Recover says = says
  test-stays at (actions.Give w x) says = says
  test-stays at (actions.Return a) says = says
  test-stays at actions.End says = says

  assignment-stays : (s : Stmt) (x : Ident) (r : Rhs) (a : Action) → SaysAssignment k old s x r a → SaysAssignment k new s x r a
  assignment-stays s x (Value b) a says = simple-stays s a says
  assignment-stays s x (Field y f) a says = simple-stays s a says
  assignment-stays s x (TakeRhs y f) a says = simple-stays s a says
  assignment-stays s x (Item y e) a says = simple-stays s a says
  assignment-stays s x (New c) a says = simple-stays s a says
  assignment-stays s x (NewArrayRhs e) a says = simple-stays s a says
  assignment-stays s x (CallRhs c) a says = simple-stays s a says
  assignment-stays s x (RecoverRhs b w give) (actions.Declare y) says = says
  assignment-stays s x (RecoverRhs b w give) (actions.Assign y h) says = says
  assignment-stays s x (RecoverRhs b w give) (actions.LoadField y z f) says = says
  assignment-stays s x (RecoverRhs b w give) (actions.LoadLength y z) says = says
  assignment-stays s x (RecoverRhs b w give) (actions.LoadItem y z e) says = says
  assignment-stays s x (RecoverRhs b w give) (actions.TakeField y z f) says = says
  assignment-stays s x (RecoverRhs b w give) (actions.NewObject y class fields) says = says
  assignment-stays s x (RecoverRhs b w give) (actions.NewArray y e) says = says
  assignment-stays s x (RecoverRhs b w give) (actions.StoreField y f h) says = says
  assignment-stays s x (RecoverRhs b w give) (actions.StoreItem y i e) says = says
  assignment-stays s x (RecoverRhs b w give) (actions.Invoke v) says = says
  assignment-stays s x (RecoverRhs b w give) (actions.Print e) says = says
  assignment-stays s x (RecoverRhs b w give) (actions.If e other) says = says
  assignment-stays s x (RecoverRhs b w give) (actions.While e body) says = says
  assignment-stays s x (RecoverRhs b w give) (actions.Par left right sides) says = says
  assignment-stays s x (RecoverRhs b w give) actions.Recover says = says
  assignment-stays s x (RecoverRhs b w give) (actions.Give given taker) says = says
  assignment-stays s x (RecoverRhs b w give) (actions.Return h) says = says
  assignment-stays s x (RecoverRhs b w give) actions.End says = says

  -- so of each statement
  pub says-stays : (s : Stmt) (kind : StmtKind) (a : Action) → Says k old s kind a → Says k new s kind a
  says-stays s (Declare t x) a says = simple-stays s a says
  says-stays s (Assign t x r) a says = assignment-stays s x r a says
  says-stays s (SetField y f h) a says = simple-stays s a says
  says-stays s (SetItem y i e) a says = simple-stays s a says
  says-stays s (CallStmt c) a says = simple-stays s a says
  says-stays s (Print e) a says = simple-stays s a says
  says-stays s (IfStmt e first other) a says = test-stays e a says
  says-stays s (WhileStmt e body) a says = test-stays e a says
  says-stays s (ParStmt left right) a says = says

-- ---------- simple statements ----------
-- an instruction that is a call is tied by the types of its variables
abbrev IsTiedBy : (ℕ → Option Ty) → Instruction → Type 0
IsTiedBy ty (code.Invoke into tie consumed receiver routine args) = tie ≡ tie_of (ty receiver) consumed (list_all (is_harmless ty) args)
IsTiedBy ty i = Unit {0}

-- so of the code of a simple statement
abbrev IsTiedCode : (ℕ → Option Ty) → Code → Type 0
IsTiedCode ty (Do at i rest) = IsTiedBy ty i
IsTiedCode ty c = Unit {0}

read-tied : (k : Setting) (x : ℕ) (y f : Ident) (b : Bool) → IsTiedBy (var_ty k.vars) (cond b (code.LoadLength x (var_at k y)) (code.LoadField x (var_at k y) (field_at k y f)))
read-tied k x y f true = tt
read-tied k x y f false = tt

module _ (k : Setting) (codes : List (Code → Code)) (s : Stmt) (rest : Code) (exprs : ℕ) where
  assignment-tied : (x : ℕ) (r : Rhs) → IsSimpleRhs exprs r → IsTiedCode (var_ty k.vars) (assignment k codes s x r rest)
  assignment-tied x (Value a) simple = tt
  assignment-tied x (Field y f) simple = read-tied k x y f (is_array (ty_at k y) && is_word k.tables.program.names length_word f.name)
  assignment-tied x (TakeRhs y f) simple = tt
  assignment-tied x (Item y e) simple = tt
  assignment-tied x (New c) simple = tt
  assignment-tied x (NewArrayRhs e) simple = tt
  assignment-tied x (CallRhs c) simple = refl
  assignment-tied x (RecoverRhs b w give) simple = absurd simple

  -- the calls of the code of a simple statement are tied so
  kind-tied : (kind : StmtKind) → IsSimpleKind exprs kind → IsTiedCode (var_ty k.vars) (kind_code k codes s kind rest)
  kind-tied (Declare t x) simple = tt
  kind-tied (Assign t x r) simple = assignment-tied (var_at k x) r simple
  kind-tied (SetField y f a) simple = tt
  kind-tied (SetItem y i e) simple = tt
  kind-tied (CallStmt c) simple = refl
  kind-tied (Print e) simple = tt
  kind-tied (IfStmt e first other) simple = absurd simple
  kind-tied (WhileStmt e body) simple = absurd simple
  kind-tied (ParStmt left right) simple = absurd simple

-- what an action asks for, where the calls in it are tied so
action-tied : (ty : ℕ → Option Ty) (b : Bodies) (tie : Tie) (a : Action) → IsTiedBy ty (instruction_of b tie a) → instruction_of b tie a ≡ instruction_of b (action_tie ty b a) a
action-tied ty b tie (actions.Declare x) tied = refl
action-tied ty b tie (actions.Assign x a) tied = refl
action-tied ty b tie (actions.LoadField x y f) tied = refl
action-tied ty b tie (actions.LoadLength x y) tied = refl
action-tied ty b tie (actions.LoadItem x y e) tied = refl
action-tied ty b tie (actions.TakeField x y f) tied = refl
action-tied ty b tie (actions.NewObject x class fields) tied = refl
action-tied ty b tie (actions.NewArray x e) tied = refl
action-tied ty b tie (actions.StoreField y f a) tied = refl
action-tied ty b tie (actions.StoreItem y i e) tied = refl
action-tied ty b tie (actions.Invoke v) tied = ap (λ (t : Tie). instruction_of b t (actions.Invoke v)) tied
action-tied ty b tie (actions.Print e) tied = refl
action-tied ty b tie (actions.If e other) tied = refl
action-tied ty b tie (actions.While e body) tied = refl
action-tied ty b tie (actions.Par left right sides) tied = refl
action-tied ty b tie actions.Recover tied = refl
action-tied ty b tie (actions.Give w x) tied = refl
action-tied ty b tie (actions.Return a) tied = refl
action-tied ty b tie actions.End tied = refl

-- the action of a simple statement says what the statement says
says-simple : (k : Setting) (old new : Bodies) (s : Stmt) (a : Action) (exprs : ℕ) → IsSimpleKind exprs s.kind → TellsCode old new (code_of k.tables) (states k s.kind) a → SaysSimple k new s a
says-simple k old new s a exprs simple is = record {
  code = λ rest.
      let same = is.code (codes_of k) s rest in
      let tied : IsTiedBy (var_ty k.vars) (instruction_of new is.tie a) = subst (IsTiedCode (var_ty k.vars)) same (kind-tied k (codes_of k) s rest exprs s.kind simple) in
      same ∙ ap (λ (i : Instruction). Do s.span i rest) (action-tied (var_ty k.vars) new is.tie a tied);
  inside = is.inside;
}

-- so it is said by the statement's kind
pub says-kind : (k : Setting) (old new : Bodies) (s : Stmt) (a : Action) (exprs : ℕ) → IsSimpleKind exprs s.kind → TellsCode old new (code_of k.tables) (states k s.kind) a → Says k new s s.kind a
says-kind k old new s a exprs simple is = by-kind s.kind simple
  where
    by-rhs : (x : Ident) (r : Rhs) → IsSimpleRhs exprs r → SaysAssignment k new s x r a
    by-rhs x (Value b) simple_rhs = says-simple k old new s a exprs simple is
    by-rhs x (Field y f) simple_rhs = says-simple k old new s a exprs simple is
    by-rhs x (TakeRhs y f) simple_rhs = says-simple k old new s a exprs simple is
    by-rhs x (Item y e) simple_rhs = says-simple k old new s a exprs simple is
    by-rhs x (New c) simple_rhs = says-simple k old new s a exprs simple is
    by-rhs x (NewArrayRhs e) simple_rhs = says-simple k old new s a exprs simple is
    by-rhs x (CallRhs c) simple_rhs = says-simple k old new s a exprs simple is
    by-rhs x (RecoverRhs b w give) simple_rhs = absurd simple_rhs

    by-kind : (kind : StmtKind) → IsSimpleKind exprs kind → Says k new s kind a
    by-kind (Declare t x) plain = says-simple k old new s a exprs simple is
    by-kind (Assign t x r) plain = by-rhs x r plain
    by-kind (SetField y f h) plain = says-simple k old new s a exprs simple is
    by-kind (SetItem y i e) plain = says-simple k old new s a exprs simple is
    by-kind (CallStmt c) plain = says-simple k old new s a exprs simple is
    by-kind (Print e) plain = says-simple k old new s a exprs simple is
    by-kind (IfStmt e first other) plain = absurd plain
    by-kind (WhileStmt e body) plain = absurd plain
    by-kind (ParStmt left right) plain = absurd plain
