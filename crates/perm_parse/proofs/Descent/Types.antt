-- The arms of the descent through a type: what each does to the reading that is left.
use Rattle.std.proofs.Common.{◌≡◌, ℕ, ◌+◌, ◌≤◌, List, ◌∷◌, Some, None, Result, Ok, Err, refl, sym, ap, ◌∙◌, arith}
use Rattle.std.specs.List.{slice_get}
use Rattle.perm_tree.specs.Places.{Listing}
use Rattle.perm_tree.specs.declared.ast.Perm.{Perm}
use Rattle.perm_tree.specs.declared.ast.Perm.TheVariants as perm
use Rattle.perm_tree.specs.declared.ast.Shape.TheVariants.{Class, Array}
use Rattle.perm_tree.specs.declared.ast.Ty.{Ty}
use Rattle.perm_tree.specs.declared.ast.Ty.TheVariants.{Ref}
use Rattle.perm_tree.specs.declared.ast.Ident.{Ident}
use Rattle.perm_tree.specs.declared.errors.ParseError.{ParseError}
use Rattle.perm_tree.specs.declared.errors.ParseError.TheVariants.{Unexpected, TooDeep, NoMemory}
use Rattle.perm_tree.specs.declared.tokens.Token.{Token}
use Rattle.perm_tree.specs.declared.tokens.TokenKind.{TokenKind}
use Rattle.perm_tree.specs.declared.tokens.TokenKind.TheVariants as kind
use Rattle.perm_parse.specs.declared.parser.Parser.{Parser}
use Rattle.perm_parse.specs.Grammar.{TypeTree, perm_word}
use Rattle.perm_parse.specs.States.{State, TypeFor, Wanted, type_for_text, level_type_for, level_state}
use Rattle.perm_parse.specs.Machine.{step_as, step_type, step_perm_seen, after_type}
use Rattle.perm_parse.specs.Meaning.{ident, type_of, type_first}
use Rattle.perm_parse.specs.ParserResults.{Next, IsNotNext, TakesToken, OpensLevel, NamesToken, MentionsClass, Leads, Refuses, ShapeRead, ReadsShape, TypeRead, ReadsType}
use Rattle.perm_parse.specs.Parses.{deepest}
use Rattle.perm_parse.proofs.Descent.TokenSteps.{via, refused, here, dead, at-end, takes, misses, only-expects, too-deep}

-- a word that is a whole type
pub word-ok : (old new : Parser) (depth : ℕ) (wanted : TokenKind) (t : Token) (tree : TypeTree) (ty : Ty) → depth ≤ deepest → TakesToken wanted old new (Ok t) → type_first tree ≡ t → ((k : TypeFor) → step_type k t wanted ≡ Some (after_type k tree)) →
    ((text : List ℕ) (s : Listing) → type_of text tree s ≡ (ty, s)) → TypeRead depth old new ty
word-ok old new depth wanted t tree ty le h at goes m = record {
  tree = tree;
  first = rw at h.0;
  is = sym (ap (λ (x : Ty × Listing). x.0) (m old.text.now old.program));
  program = h.2.program ∙ sym (ap (λ (x : Ty × Listing). x.1) (m old.text.now old.program));
  leads = λ k lv. takes old new wanted t (State.type_due k) (after_type k tree) h (goes k) (omega arith);
}

perm-seen : (k : TypeFor) (p : Perm) (t : Token) → step_type k t (perm_word p) ≡ Some (State.perm_seen k p t)
perm-seen k perm.Isolated t = refl
perm-seen k perm.Immutable t = refl
perm-seen k perm.Readable t = refl
perm-seen k perm.Writable t = refl

pub reference-err : (old mid new : Parser) (depth : ℕ) (p : Perm) (t : Token) (e : ParseError) → depth ≤ deepest → TakesToken (perm_word p) old mid (Ok t) → ReadsShape depth p mid new (Err e) → ReadsType depth old new (Err e)
reference-err old mid new depth p t e le h r = λ k lv. refused (takes old mid (perm_word p) t (State.type_due k) (State.perm_seen k p t) h (perm-seen k p t) (omega arith)) (r k t lv)

pub reference-ok : (old mid new : Parser) (depth : ℕ) (p : Perm) (t : Token) (ty : Ty) → depth ≤ deepest → TakesToken (perm_word p) old mid (Ok t) → ReadsShape depth p mid new (Ok ty) → ReadsType depth old new (Ok ty)
reference-ok old mid new depth p t ty le h g = record {
  tree = g.tree t;
  first = rw (g.first t) h.0;
  is = g.is t ∙ rw (h.2.text, h.2.program) refl;
  program = g.program t ∙ rw (h.2.text, h.2.program) refl;
  leads = λ k lv. via (takes old mid (perm_word p) t (State.type_due k) (State.perm_seen k p t) h (perm-seen k p t) (omega arith)) (g.leads k t lv);
}

pub reference-is : (old mid new : Parser) (depth : ℕ) (p : Perm) (t : Token) (r : Result Ty ParseError) → depth ≤ deepest → TakesToken (perm_word p) old mid (Ok t) → ReadsShape depth p mid new r → ReadsType depth old new r
reference-is old mid new depth p t (Ok ty) le h g = reference-ok old mid new depth p t ty le h g
reference-is old mid new depth p t (Err e) le h g = reference-err old mid new depth p t e le h g

-- ---- a class

shape-others : (k : TypeFor) (p : Perm) (word t : Token) (other : TokenKind) → (other ≡ kind.Long → ⊥) → (other ≡ kind.Name → ⊥) → step_perm_seen k p word t other ≡ None
shape-others k p word t kind.Long h g = absurd (h refl)
shape-others k p word t kind.Name h g = absurd (g refl)
shape-others k p word t _ h g = refl

pub object-missing : (old new : Parser) (depth : ℕ) (p : Perm) (e : ParseError) → IsNotNext kind.Long old → TakesToken kind.Name old new (Err e) → ReadsShape depth p old new (Err e)
object-missing old new depth p e no_long h = λ k word lv.
    misses old new kind.Name e (State.perm_seen k p word) h (record { others = λ t n other. shape-others k p word t t.kind (no_long t n) other; ends = refl })

pub object-ok : (old mid named new : Parser) (depth : ℕ) (p : Perm) (t : Token) (i : Ident) → depth ≤ deepest → TakesToken kind.Name old mid (Ok t) → NamesToken t mid named (Ok i) → MentionsClass i named new (Ok tt) → ShapeRead depth p old new (Ref p (Class i.name))
object-ok old mid named new depth p t i le h n m = record {
  tree = λ word. TypeTree.object_type p word t;
  first = λ word. refl;
  is = λ word. let same : i ≡ (ident old.text.now t old.program).0 = n.0 ∙ rw (h.2.text, h.2.program) refl in ap (λ (x : Ident). Ref p (Class x.name)) same;
  program = λ word. m.0 ∙ rw (n.0, n.1, h.2.text, h.2.program) refl;
  leads = λ k word lv.
      via (takes old mid kind.Name t (State.perm_seen k p word) (after_type k (TypeTree.object_type p word t)) h refl (omega arith))
      (via (here mid named (after_type k (TypeTree.object_type p word t)) n.2) (here named new (after_type k (TypeTree.object_type p word t)) m.1));
}

-- ---- an array

-- at the state that wants a bracket
pub opened-or : (old new : Parser) (wanted : TokenKind) (depth : ℕ) (so_far : List Token → List Token) (d : ℕ) (next : Token → State) (e : ParseError) →
    ((t : Token) → level_state (next t) ≡ depth + 1) → ((t : Token) → step_as (State.expects so_far d (Wanted.exactly wanted) next) t wanted ≡ Some (next t)) → OpensLevel wanted depth old new (Err e) →
    Refuses old (State.expects so_far d (Wanted.exactly wanted) next) e
opened-or old new wanted depth so_far d next (Unexpected i) lv goes h = misses old new wanted (Unexpected i) (State.expects so_far d (Wanted.exactly wanted) next) h (only-expects old so_far d wanted next)
opened-or old new wanted depth so_far d next (TooDeep i) lv goes h =
    let t = h.1.0 in
    rw h.0 (too-deep old t (State.expects so_far d (Wanted.exactly wanted) next) (next t) h.1.1.0 (ap (λ (x : TokenKind). step_as (State.expects so_far d (Wanted.exactly wanted) next) t x) h.1.1.1 ∙ goes t) (omega (arith, lv t, h.2)))
opened-or old new wanted depth so_far d next NoMemory lv goes h = absurd h

array-word : (old mid : Parser) (depth : ℕ) (p : Perm) (long : Token) (k : TypeFor) (word : Token) → depth ≤ deepest → level_type_for k ≡ depth → TakesToken kind.Long old mid (Ok long) →
    Leads old (State.perm_seen k p word) mid (State.expects (λ rest. type_for_text k (word ∷ long ∷ rest)) (level_type_for k) (Wanted.exactly kind.OpenBracket)
    (λ opening. State.expects (λ rest. type_for_text k (word ∷ long ∷ opening ∷ rest)) (level_type_for k + 1) (Wanted.exactly kind.CloseBracket) (λ closing. after_type k (TypeTree.array_type p word long opening closing))))
array-word old mid depth p long k word le lv h = takes old mid kind.Long long (State.perm_seen k p word) _ h refl (omega arith)

pub array-not-opened : (old mid new : Parser) (depth : ℕ) (p : Perm) (long : Token) (e : ParseError) → depth ≤ deepest → TakesToken kind.Long old mid (Ok long) → OpensLevel kind.OpenBracket depth mid new (Err e) → ReadsShape depth p old new (Err e)
array-not-opened old mid new depth p long e le h o = λ k word lv.
    refused (array-word old mid depth p long k word le lv h)
    (opened-or mid new kind.OpenBracket depth (λ rest. type_for_text k (word ∷ long ∷ rest)) (level_type_for k)
    (λ opening. State.expects (λ rest. type_for_text k (word ∷ long ∷ opening ∷ rest)) (level_type_for k + 1) (Wanted.exactly kind.CloseBracket) (λ closing. after_type k (TypeTree.array_type p word long opening closing)))
    e (λ t. omega arith) (λ t. refl) o)

array-opens : (old mid mid2 : Parser) (depth : ℕ) (p : Perm) (long opening : Token) (k : TypeFor) (word : Token) → depth ≤ deepest → level_type_for k ≡ depth → TakesToken kind.Long old mid (Ok long) → OpensLevel kind.OpenBracket depth mid mid2 (Ok opening) →
    Leads old (State.perm_seen k p word) mid2 (State.expects (λ rest. type_for_text k (word ∷ long ∷ opening ∷ rest)) (level_type_for k + 1) (Wanted.exactly kind.CloseBracket) (λ closing. after_type k (TypeTree.array_type p word long opening closing)))
array-opens old mid mid2 depth p long opening k word le lv h o =
    via (array-word old mid depth p long k word le lv h) (takes mid mid2 kind.OpenBracket opening _ _ o.0 refl (omega (arith, o.1)))

pub array-not-closed : (old mid mid2 new : Parser) (depth : ℕ) (p : Perm) (long opening : Token) (e : ParseError) → depth ≤ deepest → TakesToken kind.Long old mid (Ok long) → OpensLevel kind.OpenBracket depth mid mid2 (Ok opening) → TakesToken kind.CloseBracket mid2 new (Err e) →
    ReadsShape depth p old new (Err e)
array-not-closed old mid mid2 new depth p long opening e le h o miss = λ k word lv.
    refused (array-opens old mid mid2 depth p long opening k word le lv h o) (misses mid2 new kind.CloseBracket e _ miss (only-expects mid2 _ _ kind.CloseBracket _))

pub array-ok : (old mid mid2 new : Parser) (depth : ℕ) (p : Perm) (long opening closing : Token) → depth ≤ deepest → TakesToken kind.Long old mid (Ok long) → OpensLevel kind.OpenBracket depth mid mid2 (Ok opening) → TakesToken kind.CloseBracket mid2 new (Ok closing) →
    ShapeRead depth p old new (Ref p Array)
array-ok old mid mid2 new depth p long opening closing le h o g = record {
  tree = λ word. TypeTree.array_type p word long opening closing;
  first = λ word. refl;
  is = λ word. refl;
  program = λ word. g.2.program ∙ o.0.2.program ∙ h.2.program;
  leads = λ k word lv.
      via (array-opens old mid mid2 depth p long opening k word le lv h o)
      (takes mid2 new kind.CloseBracket closing _ (after_type k (TypeTree.array_type p word long opening closing)) g refl (omega arith));
}

-- ---- no type

no-type : (k : TypeFor) (t : Token) (other : TokenKind) → (other ≡ kind.Long → ⊥) → (other ≡ kind.Bool → ⊥) → (other ≡ kind.Isolated → ⊥) → (other ≡ kind.Immutable → ⊥) → (other ≡ kind.Readable → ⊥) → (other ≡ kind.Writable → ⊥) → step_type k t other ≡ None
no-type k t kind.Long a b c d e f = absurd (a refl)
no-type k t kind.Bool a b c d e f = absurd (b refl)
no-type k t kind.Isolated a b c d e f = absurd (c refl)
no-type k t kind.Immutable a b c d e f = absurd (d refl)
no-type k t kind.Readable a b c d e f = absurd (e refl)
no-type k t kind.Writable a b c d e f = absurd (f refl)
no-type k t _ a b c d e f = refl

pub type-dead : (p : Parser) (depth : ℕ) (t : Token) → Next p t → (t.kind ≡ kind.Long → ⊥) → (t.kind ≡ kind.Bool → ⊥) → (t.kind ≡ kind.Isolated → ⊥) → (t.kind ≡ kind.Immutable → ⊥) → (t.kind ≡ kind.Readable → ⊥) → (t.kind ≡ kind.Writable → ⊥) →
    ReadsType depth p p (Err (Unexpected p.at))
type-dead p depth t n a b c d e f = λ k lv. dead p t (State.type_due k) n (no-type k t t.kind a b c d e f)

pub type-ends : (p : Parser) (depth : ℕ) → slice_get p.tokens.now p.at ≡ None → ReadsType depth p p (Err (Unexpected p.at))
type-ends p depth n = λ k lv. at-end p (State.type_due k) n refl
