-- The variables that the statements of a block assign or consume, by the statements' kinds, and the blocks of a par by its place.
use Rattle.std.specs.Prelude.{ℕ, Bool, not, ◌||◌, ◌&&◌, List, map}
use Rattle.perm_tree.specs.declared.ast.Call.{Call}
use Rattle.perm_tree.specs.declared.ast.Rhs.{Rhs}
use Rattle.perm_tree.specs.declared.ast.Rhs.TheVariants.{Value, Call as CallRhs, Recover}
use Rattle.perm_tree.specs.declared.ast.StmtKind.{StmtKind}
use Rattle.perm_tree.specs.declared.ast.StmtKind.TheVariants.{Assign, SetField, Call as CallStmt}
use Rattle.perm_tree.specs.Code.{End}
use Rattle.perm_tree.specs.CodeNames.{Setting, argument, own_vars, var_at}
use Rattle.perm_tree.specs.CodeOf.{block_code}
use Rattle.perm_tree.specs.InBody.{setting_at}
use Rattle.perm_tree.specs.Mentions.{argument_consumes, arguments_consume, block_writes, just_if}
use Rattle.perm_tree.specs.UnitTables.{Tables}
use Rattle.perm_tree.specs.Vars.{Vars, none, just, those, plus}
use Rattle.perm_meaning.specs.declared.eval.parts.Part.{Part}
use Rattle.perm_meaning.specs.declared.eval.parts.Part.TheVariants as parts
use Rattle.perm_meaning.specs.Machine.{Blocks}
use Rattle.perm_meaning.specs.Evaluator.Parts.{first_stmts, second_stmts, stmts_in}
use Rattle.perm_meaning.specs.Turns.{blocks}

-- ---------- statements ----------
-- the variables that a call consumes
abbrev pub call_consumes : Setting → Call → Vars
call_consumes k c = plus (just_if c.consumed (var_at k c.on)) (arguments_consume (map (argument k) c.args))

-- those that a right side consumes, but for its block
abbrev pub rhs_consumes : Setting → Rhs → Vars
rhs_consumes k (Value a) = argument_consumes (argument k a)
rhs_consumes k (CallRhs c) = call_consumes k c
rhs_consumes k r = none

-- those that a statement assigns or consumes, but for its blocks
abbrev pub kind_writes : Setting → StmtKind → Vars
kind_writes k (Assign t y r) = plus (rhs_consumes k r) (just (var_at k y))
kind_writes k (SetField y f a) = argument_consumes (argument k a)
kind_writes k (CallStmt c) = call_consumes k c
kind_writes k kind = none

-- those in the `give` of a recover block that gives y a value
abbrev pub rhs_gives : Setting → ℕ → Rhs → Vars
rhs_gives k y (Recover b w give) = plus (just (var_at k w)) (just y)
rhs_gives k y r = none

-- those in the `give` at the end of a statement's first block
abbrev pub kind_gives : Setting → StmtKind → Vars
kind_gives k (Assign t y r) = rhs_gives k (var_at k y) r
kind_gives k kind = none

-- whether a variable is written in a block, by whether its code writes it
abbrev pub from_block : Setting → List ℕ → Bool → ℕ → Bool
from_block k is inner x = inner && not (those (own_vars k is) x)

-- whether a statement writes a variable, by whether the statements of its first and of its second block do
abbrev pub stmt_writes : Setting → StmtKind → Bool → Bool → ℕ → Bool
stmt_writes k kind first second x =
    kind_writes k kind x || (from_block k (first_stmts kind) (first || kind_gives k kind x) x || from_block k (second_stmts kind) second x)

-- ---------- pars ----------
-- the outer variables that a block of these statements writes
abbrev pub stmts_write : Setting → List ℕ → Vars
stmts_write k is = block_writes (own_vars k is) (block_code k is End)

-- the same of a part of a method
abbrev pub part_writes : Tables → ℕ → Part → Vars
part_writes u m p = stmts_write (setting_at u m) (stmts_in u m p)

-- the two blocks of the par at a place
abbrev pub par_at : Tables → ℕ → ℕ → Blocks
par_at u m at =
    let k = setting_at u m in
    let first = stmts_in u m (parts.First at) in
    let second = stmts_in u m (parts.Second at) in
    blocks (own_vars k first) (block_code k first End) (own_vars k second) (block_code k second End)
