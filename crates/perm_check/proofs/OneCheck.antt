-- A text has one refusal, or one unit that is accepted.
use Rattle.std.proofs.Common.{◌≡◌, ◌∙◌, ℕ, List, None, Some, sym, ap, subst}
use Rattle.perm_tree.specs.declared.ast.Span.{Span}
use Rattle.perm_tree.specs.declared.errors.LexError.{LexError}
use Rattle.perm_tree.specs.declared.errors.ParseError.{ParseError}
use Rattle.perm_tree.specs.declared.errors.TableError.{TableError}
use Rattle.perm_tree.specs.declared.errors.TypeError.{TypeError}
use Rattle.perm_tree.specs.declared.errors.Refusal.{Refusal}
use Rattle.perm_tree.specs.declared.errors.Refusal.TheVariants.{Lex, Parse, Table, Typing}
use Rattle.perm_tree.specs.declared.tokens.Token.{Token}
use Rattle.perm_tree.specs.CodeOf.{code_of}
use Rattle.perm_tree.specs.Names.{names_refusal}
use Rattle.perm_tree.specs.Places.{Listing}
use Rattle.perm_tree.specs.Resolves.{Resolves, resolved}
use Rattle.perm_tree.specs.Scopes.{tables_of}
use Rattle.perm_tree.specs.UnitTables.{Tables}
use Rattle.perm_lex.specs.Lexes.{Lexes}
use Rattle.perm_lex.proofs.Refusals.{one_lexing, one_cause, not_both}
use Rattle.perm_parse.specs.Parses.{Parses, IsRefused}
use Rattle.perm_parse.proofs.OneAnswer.{one-answer}
use Rattle.perm_rules.specs.FirstRefused.{unit_refusal}
use Rattle.perm_rules.proofs.Refusals.{accepted-unrefused}
use Rattle.perm_check.specs.Checks.{IsAcceptedOf, IsLexical, IsOfNames, IsOfTypes, IsProgramOf, IsRefusalOf, IsSyntactic, IsUnitOf, lex_span, syntax_span, table_span}

module _ (text : List ℕ) where
  -- ---------- one program, one unit ----------
  one-program : (p q : Listing) → IsProgramOf text p → IsProgramOf text q → p ≡ q
  one-program p q a b =
      (one-answer text a.tokens).programs p q a.parses (subst (λ ts. Parses text ts q) (one_lexing text b.tokens a.tokens b.lexes a.lexes) b.parses)

  abbrev unit_of : Listing → Tables
  unit_of p = record { program = resolved p; tables = tables_of (resolved p) }

  is-unit : (p : Listing) (u : Tables) → Resolves p u → u ≡ unit_of p
  is-unit p u r = λ i. record { program = r.program i; tables = r.tables i }

  one-unit : (u v : Tables) → IsUnitOf text u → IsUnitOf text v → u ≡ v
  one-unit u v a b = is-unit a.program u a.resolves ∙ (ap unit_of (one-program a.program b.program a.reads b.reads) ∙ sym (is-unit b.program v b.resolves))

  pub one-accepted : (u v : Tables) → IsAcceptedOf text u → IsAcceptedOf text v → u ≡ v
  one-accepted u v a b = one-unit u v a.reads b.reads

  -- ---------- refusals of one stage ----------
  one-lexical : (e f : LexError) (p q : Span) → IsLexical text e p → IsLexical text f q → Lex e p ≡ Lex f q
  one-lexical e f p q a b =
      let same = one_cause text e f a.refused b.refused in
      let spans = a.at ∙ (ap lex_span same ∙ sym b.at) in
      λ i. Lex (same i) (spans i)

  one-syntactic : (e f : ParseError) (p q : Span) → IsSyntactic text e p → IsSyntactic text f q → Parse e p ≡ Parse f q
  one-syntactic e f p q a b =
      let tokens = one_lexing text b.tokens a.tokens b.lexes a.lexes in
      let same = (one-answer text a.tokens).refusals e f a.refused (subst (λ ts. IsRefused ts f) tokens b.refused) in
      let spans = a.at ∙ (ap (syntax_span text a.tokens) same ∙ (ap (λ (ts : List Token). syntax_span text ts f) (sym tokens) ∙ sym b.at)) in
      λ i. Parse (same i) (spans i)

  one-of-names : (e f : TableError) (p q : Span) → IsOfNames text e p → IsOfNames text f q → Table e p ≡ Table f q
  one-of-names e f p q a b =
      let program = one-program a.program b.program a.reads b.reads in
      let refused : Some e ≡ Some f = sym a.refused ∙ (ap names_refusal program ∙ b.refused) in
      let same : e ≡ f = cc refused in
      let spans = a.at ∙ (ap table_span same ∙ sym b.at) in
      λ i. Table (same i) (spans i)

  one-of-types : (e f : TypeError) → IsOfTypes text e → IsOfTypes text f → Typing e ≡ Typing f
  one-of-types e f a b =
      let unit = one-unit a.unit b.unit a.reads b.reads in
      let refused : Some e ≡ Some f = sym a.refused ∙ (ap (λ (u : Tables). unit_refusal (code_of u)) unit ∙ b.refused) in
      let same : e ≡ f = cc refused in
      ap Typing same

  -- ---------- stages are apart ----------
  lexical-apart : (e : LexError) (p : Span) (tokens : List Token) → IsLexical text e p → Lexes text tokens → ⊥
  lexical-apart e p tokens a lexes = not_both text tokens e lexes a.refused

  syntactic-apart : (e : ParseError) (p : Span) (program : Listing) → IsSyntactic text e p → IsProgramOf text program → ⊥
  syntactic-apart e p program a b =
      (one-answer text a.tokens).apart program e (subst (λ ts. Parses text ts program) (one_lexing text b.tokens a.tokens b.lexes a.lexes) b.parses) a.refused

  names-apart : (e : TableError) (p : Span) (unit : Tables) → IsOfNames text e p → IsUnitOf text unit → ⊥
  names-apart e p unit a b =
      let program = one-program a.program b.program a.reads b.reads in
      let clash : Some e ≡ None = sym a.refused ∙ (ap names_refusal program ∙ b.resolves.accepted) in
      absurd (let r : ⊥ = cc clash in r)

  -- a text has no two refusals
  pub one-refusal : (r s : Refusal) → IsRefusalOf text r → IsRefusalOf text s → r ≡ s
  one-refusal (Lex e p) (Lex f q) x y = one-lexical e f p q x y
  one-refusal (Lex e p) (Parse f q) x y = absurd (lexical-apart e p y.tokens x y.lexes)
  one-refusal (Lex e p) (Table f q) x y = absurd (lexical-apart e p y.reads.tokens x y.reads.lexes)
  one-refusal (Lex e p) (Typing f) x y = absurd (lexical-apart e p y.reads.reads.tokens x y.reads.reads.lexes)
  one-refusal (Parse e p) (Lex f q) x y = absurd (lexical-apart f q x.tokens y x.lexes)
  one-refusal (Parse e p) (Parse f q) x y = one-syntactic e f p q x y
  one-refusal (Parse e p) (Table f q) x y = absurd (syntactic-apart e p y.program x y.reads)
  one-refusal (Parse e p) (Typing f) x y = absurd (syntactic-apart e p y.reads.program x y.reads.reads)
  one-refusal (Table e p) (Lex f q) x y = absurd (lexical-apart f q x.reads.tokens y x.reads.lexes)
  one-refusal (Table e p) (Parse f q) x y = absurd (syntactic-apart f q x.program y x.reads)
  one-refusal (Table e p) (Table f q) x y = one-of-names e f p q x y
  one-refusal (Table e p) (Typing f) x y = absurd (names-apart e p y.unit x y.reads)
  one-refusal (Typing e) (Lex f q) x y = absurd (lexical-apart f q x.reads.reads.tokens y x.reads.reads.lexes)
  one-refusal (Typing e) (Parse f q) x y = absurd (syntactic-apart f q x.reads.program y x.reads.reads)
  one-refusal (Typing e) (Table f q) x y = absurd (names-apart f q x.unit y x.reads)
  one-refusal (Typing e) (Typing f) x y = one-of-types e f x y

  -- a text that is refused has no accepted unit
  pub refused-apart : (r : Refusal) (u : Tables) → IsRefusalOf text r → IsAcceptedOf text u → ⊥
  refused-apart (Lex e p) u x y = lexical-apart e p y.reads.reads.tokens x y.reads.reads.lexes
  refused-apart (Parse e p) u x y = syntactic-apart e p y.reads.program x y.reads.reads
  refused-apart (Table e p) u x y = names-apart e p u x y.reads
  refused-apart (Typing e) u x y =
      let unit = one-unit x.unit u x.reads y.reads in
      let none : unit_refusal (code_of u) ≡ None = (accepted-unrefused (code_of u)).0 y.accepted in
      let clash : Some e ≡ None = sym x.refused ∙ (ap (λ (t : Tables). unit_refusal (code_of t)) unit ∙ none) in
      absurd (let r : ⊥ = cc clash in r)
