-- Which right side comes next, by its first token.
use Rattle.std.proofs.Common.{◌≡◌, sym, ◌∙◌, inl, inr}
use Rattle.perm_tree.specs.declared.tokens.Token.{Token}
use Rattle.perm_tree.specs.declared.tokens.TokenKind.TheVariants as kind
use Rattle.perm_parse.specs.declared.parser.Parser.{Parser}
use Rattle.perm_parse.specs.Grammar.{IsVar}
use Rattle.perm_parse.specs.ParserResults.{Next, IsPlain}
use Rattle.perm_parse.proofs.Descent.Operands.{some-token}

-- a token that begins no other right side begins an expression
pub plain-other : (p : Parser) (t : Token) → Next p t → (t.kind ≡ kind.Consume → ⊥) → (t.kind ≡ kind.New → ⊥) → (t.kind ≡ kind.Recover → ⊥) → (t.kind ≡ kind.Name → ⊥) → (t.kind ≡ kind.This → ⊥) → (t.kind ≡ kind.OpenParen → ⊥) → IsPlain p
plain-other p t n consume new recover name this paren = record {
  no_consume = λ c m is. consume (rw (only c m) is);
  no_new = λ c m is. new (rw (only c m) is);
  no_recover = λ c m is. recover (rw (only c m) is);
  no_member = λ c s m v second is. variable c m v;
  no_item = λ c s m v second is. variable c m v;
  no_receiver = λ c s m is second other. paren (rw (only c m) is);
}
  where
    only : (c : Token) → Next p c → t ≡ c
    only c m = some-token t c (sym n ∙ m)

    variable : (c : Token) → Next p c → IsVar c → ⊥
    variable c m (inl is) = name (rw (only c m) is)
    variable c m (inr is) = this (rw (only c m) is)
