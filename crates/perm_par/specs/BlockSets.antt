-- What codes mention and write, and sets of known variables that hold it.
use Rattle.std.specs.Prelude.{◌≡◌, ℕ, List, Option}
use Rattle.perm_tree.specs.declared.ast.Block.{Block}
use Rattle.perm_tree.specs.declared.bodies.Action.{Action}
use Rattle.perm_tree.specs.declared.bodies.Action.TheVariants as actions
use Rattle.perm_tree.specs.declared.bodies.Expression.{Expression}
use Rattle.perm_tree.specs.declared.bodies.Expression.TheVariants as expressions
use Rattle.perm_tree.specs.declared.bodies.Operand.TheVariants as operands
use Rattle.perm_tree.specs.Code.{Code, End, Instruction, Term}
use Rattle.perm_tree.specs.CodeNames.{Setting, own_vars}
use Rattle.perm_tree.specs.CodeOf.{block_code}
use Rattle.perm_tree.specs.Mentions.{assigns, consumes, known, mentioned, mentions, term_mentions, written}
use Rattle.perm_tree.specs.Scopes.{else_stmts}
use Rattle.perm_tree.specs.Vars.{Vars, none, just, those, plus, minus}
use Rattle.perm_tree.specs.VarSets.{member}
use Rattle.perm_rules.specs.MethodBodies.{Body}
use Rattle.perm_par.specs.declared.mentions.Uses as held
use Rattle.perm_par.specs.Known.{count_of}

-- the variables that stand in a code, and those that it assigns or consumes
pub record Uses : Type 0 where
  pub mentioned : Vars
  pub written : Vars

-- those of a code
abbrev pub code_uses : Code → Uses
code_uses c = record { mentioned = mentioned c; written = written c }

-- no variable is used
abbrev pub no_uses : Uses
no_uses = record { mentioned = none; written = none }

-- those of both
abbrev pub joint : Uses → Uses → Uses
joint s t = record { mentioned = plus s.mentioned t.mentioned; written = plus s.written t.written }

-- but for some
abbrev pub outside : Vars → Uses → Uses
outside own s = record { mentioned = minus s.mentioned own; written = minus s.written own }

-- one variable that is written
abbrev pub target : ℕ → Uses
target x = record { mentioned = just x; written = just x }

-- of a simple statement
abbrev pub instruction_uses : Instruction → Uses
instruction_uses i = record { mentioned = mentions i; written = plus (consumes i) (assigns i) }

-- of a condition, which writes nothing
abbrev pub term_uses : Term → Uses
term_uses e = record { mentioned = term_mentions e; written = none }

-- of a block of these statements
abbrev pub stmts_uses : Setting → List ℕ → Uses
stmts_uses k is = outside (those (own_vars k is)) (code_uses (block_code k is End))

-- of the block behind `else`, of which there may be none
abbrev pub else_uses : Setting → Option Block → Uses
else_uses k b = stmts_uses k (else_stmts b)

-- the known part
abbrev pub known_uses : ℕ → Uses → Uses
known_uses n s = record { mentioned = known n s.mentioned; written = known n s.written }

-- what two sets tell
abbrev pub told : held.Uses → Uses
told r = record { mentioned = member r.mentioned; written = member r.written }

-- of the variables of the method, the sets hold just these
abbrev pub HasUses : Body → held.Uses → Uses → Type 0
HasUses b r s = told r ≡ known_uses (count_of b) s

-- before any rest, a code uses variables of which the known ones are these
pub record IsUses (b : Body) (r : held.Uses) (code : Code → Code) : Type 0 where
  pub whole : Uses
  pub holds : HasUses b r whole
  pub before : (rest : Code) → code_uses (code rest) ≡ joint whole (code_uses rest)

-- the expression that an action tests
abbrev pub test_of : Action → Expression
test_of (actions.If e other) = e
test_of (actions.While e first) = e
test_of action = expressions.Operand operands.Null
