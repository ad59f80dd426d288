-- The arms of the descent through the type and the name of a local variable: what each does to the reading that is left.
use Rattle.std.proofs.Common.{◌≡◌, ℕ, ◌≤◌, Some, None, Ok, Err, refl, sym, ◌∙◌, subst, arith}
use Rattle.std.specs.List.{slice_get}
use Rattle.perm_tree.specs.declared.ast.Ident.{Ident}
use Rattle.perm_tree.specs.declared.ast.Ty.{Ty}
use Rattle.perm_tree.specs.declared.errors.ParseError.{ParseError}
use Rattle.perm_tree.specs.declared.tokens.Token.{Token}
use Rattle.perm_tree.specs.declared.tokens.TokenKind.{TokenKind}
use Rattle.perm_tree.specs.declared.tokens.TokenKind.TheVariants as kind
use Rattle.perm_parse.specs.Grammar.{BeginsType}
use Rattle.perm_parse.specs.declared.parser.Parser.{Parser}
use Rattle.perm_parse.specs.Meaning.{type_first}
use Rattle.perm_parse.specs.States.{State, Open, TypeFor}
use Rattle.perm_parse.specs.Machine.{step_listing, step_type}
use Rattle.perm_parse.specs.ParserResults.{Next, IsNextType, TakesToken, NamesToken, Leads, ReadsType, LocalRead, ReadsLocal}
use Rattle.perm_parse.specs.Parses.{deepest}
use Rattle.perm_parse.proofs.Descent.TokenSteps.{via, refused, here, takes, misses, only-expects, same-next}
use Rattle.perm_parse.proofs.Descent.Operands.{some-token}

type-begins : (o : Open) (t : Token) (other : TokenKind) → BeginsType other → step_listing o t other ≡ step_type (TypeFor.to_local o) t other
type-begins o t kind.Name h = absurd h
type-begins o t kind.This h = absurd h
type-begins o t kind.OpenParen h = absurd h
type-begins o t kind.Print h = absurd h
type-begins o t kind.If h = absurd h
type-begins o t kind.While h = absurd h
type-begins o t kind.Par h = absurd h
type-begins o t kind.CloseBrace h = absurd h
type-begins o t kind.Give h = absurd h
type-begins o t kind.Return h = absurd h
type-begins o t _ h = refl

-- where a type comes next, a statement is read as a declaration
pub as-local : (p : Parser) (o : Open) → IsNextType p → Leads p (State.listing o) p (State.type_due (TypeFor.to_local o))
as-local p o next =
    same-next p (State.listing o) (State.type_due (TypeFor.to_local o))
    (λ t n. type-begins o t t.kind (subst (λ (x : Token). BeginsType x.kind) (some-token next.0 t (sym next.1.0 ∙ n)) next.1.1)) refl

pub type-missed : (p : Parser) → IsNextType p → slice_get p.tokens.now p.at ≡ None → ⊥
type-missed p next n = absurd (let e : Some next.0 ≡ None = sym next.1.0 ∙ n in cc)

pub local-no-type : (old new : Parser) (depth : ℕ) (e : ParseError) → IsNextType old → ReadsType depth old new (Err e) → ReadsLocal depth old new (Err e)
local-no-type old new depth e next r = λ o lv. refused (as-local old o next) (r (TypeFor.to_local o) lv)

pub local-no-name : (old p1 new : Parser) (depth : ℕ) (ty : Ty) (e : ParseError) → IsNextType old → ReadsType depth old p1 (Ok ty) → TakesToken kind.Name p1 new (Err e) → ReadsLocal depth old new (Err e)
local-no-name old p1 new depth ty e next g miss = λ o lv. refused (via (as-local old o next) (g.leads (TypeFor.to_local o) lv)) (misses p1 new kind.Name e _ miss (only-expects p1 _ _ kind.Name _))

pub local-ok : (old p1 p2 new : Parser) (depth : ℕ) (ty : Ty) (first t : Token) (i : Ident) → depth ≤ deepest → IsNextType old → Next old first → p1.text ≡ old.text → ReadsType depth old p1 (Ok ty) → TakesToken kind.Name p1 p2 (Ok t) → NamesToken t p2 new (Ok i) →
    LocalRead depth old new (record { ty = ty; name = i; first = first })
local-ok old p1 p2 new depth ty first t i le next is text g h n = record {
  tree = g.tree;
  word = t;
  ty = g.is;
  name = n.0 ∙ rw (h.2.text, text, h.2.program, g.program) refl;
  program = n.1 ∙ rw (h.2.text, text, h.2.program, g.program) refl;
  first = some-token first (type_first g.tree) (sym is ∙ g.first);
  leads = λ o lv.
      via (as-local old o next) (via (g.leads (TypeFor.to_local o) lv)
      (via (takes p1 p2 kind.Name t _ (State.local_named o g.tree t) h refl (omega arith)) (here p2 new (State.local_named o g.tree t) n.2)));
}
