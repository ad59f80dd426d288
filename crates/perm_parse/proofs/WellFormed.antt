-- The program that the tokens of a text are has its names, and is in text order.
pub mod ClassMentions
pub mod DeclaredNames
pub mod DistinctWords
pub mod ExpressionMarks
pub mod FirstName
pub mod NestedBlocks
pub mod NestedStatements
pub mod OperandDepths
pub mod ProgramMarks
pub mod SameStatements
pub mod StatementsOnce
use Rattle.std.proofs.Common.{◌≡◌, ℕ, ◌<◌, ◌≤◌, List, [], ◌++◌, length, Ok, subst}
use Rattle.std.specs.Prelude.{All, AllPairs, map, flat_map}
use Rattle.perm_tree.specs.Places.{Listing}
use Rattle.perm_tree.specs.TextOrder.{mark_names, marks_of}
use Rattle.perm_tree.specs.WellFormed.{IsOrderly}
use Rattle.perm_tree.specs.declared.tokens.Token.{Token}
use Rattle.perm_tree.proofs.Pushes.{all_append}
use Rattle.perm_parse.specs.Grammar.{Classes, IsProgram, program_text}
use Rattle.perm_parse.specs.Levels.{program_levels}
use Rattle.perm_parse.specs.Meaning.{meaning}
use Rattle.perm_parse.specs.Parses.{Parses, Shallow}
use Rattle.perm_parse.specs.MemberResults.{Gives}
use Rattle.perm_parse.proofs.WellFormed.DeclaredNames.{meaning-classes, meaning-fields}
use Rattle.perm_parse.proofs.WellFormed.FirstName.{meaning-first}
use Rattle.perm_parse.proofs.WellFormed.ExpressionMarks.{AreInOrder, in-order}
use Rattle.perm_parse.proofs.WellFormed.NestedStatements.{meaning-blocks, meaning-operands}
use Rattle.perm_parse.proofs.WellFormed.ProgramMarks.{meaning-marked, meaning-rising}
use Rattle.perm_parse.proofs.WellFormed.ClassMentions.{meaning-mentioned}
use Rattle.perm_parse.proofs.OneAnswer.{gives-program}
use Rattle.perm_parse.proofs.WellFormed.DistinctWords.{meaning-words}
use Rattle.perm_parse.proofs.WellFormed.StatementsOnce.{meaning-once}

-- the program that a tree means, where its tokens are in order
meaning-orderly : (text : List ℕ) (tokens : List Token) (tree : Classes) → AreInOrder 0 tokens → program_text tree [] ≡ tokens → IsProgram tree → Shallow (program_levels tree []) → IsOrderly (meaning text tree)
meaning-orderly text tokens tree order spells is low =
    let p = meaning text tree in
    let fields = map (λ f. f.name.name) (flat_map (λ c. c.fields) p.classes) in
    let bodies = mark_names (marks_of p) in
    record {
      words = meaning-words text tree;
      first = meaning-first text tree;
      named = all_append (length p.names) (map (λ c. c.name.name) p.classes) (fields ++ bodies) (meaning-classes text tree) (all_append (length p.names) fields bodies (meaning-fields text tree) (meaning-marked text tree));
      mentioned = meaning-mentioned text tree;
      ordered = meaning-rising text tokens tree order spells;
      once = meaning-once text tree;
      blocks = meaning-blocks text tree is low;
      operands = meaning-operands text tree is low;
    }

parses-orderly : (text : List ℕ) (tokens : List Token) (p : Listing) → AreInOrder 0 tokens → Parses text tokens p → IsOrderly p
parses-orderly text tokens p order h = subst IsOrderly h.means (meaning-orderly text tokens h.tree order h.spells h.is_tree h.shallow)

-- the program that the reading of all tokens gives
pub gives-orderly : (text : List ℕ) (tokens : List Token) (p : Listing) → All (λ t. t.span.start < t.span.end) tokens → AllPairs (λ a b. a.span.end ≤ b.span.start) tokens → Gives text tokens (Ok p) → IsOrderly p
gives-orderly text tokens p some order gives = parses-orderly text tokens p (in-order tokens some order) (gives-program text tokens (Ok p) gives)
