-- The end of a statement with no block, and its beginning with a variable: what each does to the reading that is left.
use Rattle.std.proofs.Common.{◌≡◌, ℕ, ◌≤◌, Some, Ok, Err, Result, refl, ap, ◌∙◌, arith}
use Rattle.perm_tree.specs.declared.ast.Ident.{Ident}
use Rattle.perm_tree.specs.declared.ast.Stmt.{Stmt}
use Rattle.perm_tree.specs.declared.ast.StmtKind.{StmtKind}
use Rattle.perm_tree.specs.declared.errors.ParseError.{ParseError}
use Rattle.perm_tree.specs.declared.errors.ParseError.TheVariants.{Unexpected, TooDeep, NoMemory}
use Rattle.perm_tree.specs.declared.tokens.Token.{Token}
use Rattle.perm_tree.specs.declared.tokens.TokenKind.{TokenKind}
use Rattle.perm_tree.specs.declared.tokens.TokenKind.TheVariants as kind
use Rattle.perm_parse.specs.declared.parser.Parser.{Parser}
use Rattle.perm_parse.specs.States.{State, Open, level_open, level_state}
use Rattle.perm_parse.specs.Machine.{step_as}
use Rattle.perm_parse.specs.Meaning.{simple}
use Rattle.perm_parse.specs.ParserResults.{TakesToken, TakesVar, NamesVar, Leads, Refuses, PushesStmt, StmtEnded, EndsStmt}
use Rattle.perm_parse.specs.Parses.{deepest}
use Rattle.perm_parse.proofs.Descent.TokenSteps.{Only, via, here, misses, stepped-on}
use Rattle.perm_parse.proofs.Descent.VariableValues.{takes-named}

pub no-end : (old new : Parser) (first : Token) (k : StmtKind) (e : ParseError) → TakesToken kind.Semicolon old new (Err e) → EndsStmt first k old new (Err e)
no-end old new first k e h = rw h.0 (refl, h.1)

pub end-is : (old mid new : Parser) (first end : Token) (k : StmtKind) (s : Stmt) (r : Result ℕ ParseError) → TakesToken kind.Semicolon old mid (Ok end) → s ≡ simple first end k → PushesStmt s mid new r → EndsStmt first k old new r
end-is old mid new first end k s (Ok n) h is d = record {
  end = end;
  next = h.0;
  is = h.1;
  tokens = d.2.tokens ∙ h.2.tokens;
  at = d.2.at ∙ h.2.at;
  place = d.0 ∙ rw h.2.program refl;
  program = d.1 ∙ rw (is, h.2.program) refl;
}
end-is old mid new first end k s (Err e) h is d = rw d tt

-- a state that takes the semicolon
pub ends : (old new : Parser) (first : Token) (k : StmtKind) (n : ℕ) (q r : State) → (g : StmtEnded first k old new n) → step_as q g.end kind.Semicolon ≡ Some r → level_state r ≤ deepest → Leads old q new r
ends old new first k n q r g h le = stepped-on old new g.end q r g.next g.tokens g.at (ap (λ (x : TokenKind). step_as q g.end x) g.is ∙ h) le

-- a state that takes nothing else
pub ends-not : (old new : Parser) (first : Token) (k : StmtKind) (e : ParseError) (q : State) → EndsStmt first k old new (Err e) → Only old kind.Semicolon q → Refuses old q e
ends-not old new first k (Unexpected i) q h only = rw h.0 (misses old new kind.Semicolon (Unexpected old.at) q (refl, h.1) only)
ends-not old new first k (TooDeep i) q h only = absurd h
ends-not old new first k NoMemory q h only = record { says = tt }

-- a statement that begins with a variable
pub begins : (old p1 p2 : Parser) (depth : ℕ) (t : Token) (i : Ident) (o : Open) → depth ≤ deepest → level_open o ≡ depth → TakesVar old p1 (Ok t) → NamesVar t p1 p2 (Ok i) → Leads old (State.listing o) p2 (State.begun o t)
begins old p1 p2 depth t i o le lv h1 v = via (takes-named old p1 t (State.listing o) (State.begun o t) h1 refl refl (omega arith)) (here p1 p2 (State.begun o t) v.2)
