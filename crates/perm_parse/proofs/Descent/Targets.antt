-- The arms of the descent through what is assigned: what each does to the reading that is left.
use Rattle.std.proofs.Common.{◌≡◌, ℕ, ◌≤◌, None, Some, Result, Ok, Err, refl, ◌∙◌, arith}
use denote.Enum.Bare.{false_same}
use Rattle.perm_tree.specs.contracts.tokens.TokenKind.{the_type}
use Rattle.perm_tree.specs.declared.ast.Ident.{Ident}
use Rattle.perm_tree.specs.declared.ast.Stmt.{Stmt}
use Rattle.perm_tree.specs.declared.ast.StmtKind.TheVariants as form
use Rattle.perm_tree.specs.declared.errors.ParseError.{ParseError}
use Rattle.perm_tree.specs.declared.errors.ParseError.TheVariants.{Unexpected}
use Rattle.perm_tree.specs.declared.tokens.Token.{Token}
use Rattle.perm_tree.specs.declared.tokens.TokenKind.{TokenKind}
use Rattle.perm_tree.specs.declared.tokens.TokenKind.TheVariants as kind
use Rattle.perm_parse.specs.declared.parser.Parser.{Parser}
use Rattle.perm_parse.specs.declared.parser.LocalHead.{LocalHead}
use Rattle.perm_parse.specs.declared.parser.Value.{Value}
use Rattle.perm_parse.specs.Grammar.{Is, TypeTree, TargetTree, StmtTree, Stmts}
use Rattle.perm_parse.specs.States.{State, Assigning, Open, Outer, level_outer}
use Rattle.perm_parse.specs.Machine.{step_begun, step_local_named}
use Rattle.perm_parse.specs.Meaning.{simple, span_over}
use Rattle.perm_parse.specs.ParserResults.{Next, IsNotNext, IsNotSecond, IsHere, TakesToken, NamesToken, Leads, ReadsLocal, ReadsValue, PushesStmt, ReadsStmt}
use Rattle.perm_parse.specs.Parses.{deepest}
use Rattle.perm_parse.proofs.Descent.TokenSteps.{via, refused, here, no-memory, takes, misses}
use Rattle.perm_parse.proofs.Descent.NewValues.{now-next}

-- ---- `this` isn't assigned

this-dead : (o : Open) (name t : Token) (other : TokenKind) → Is kind.This name → (other ≡ kind.Dot → ⊥) → (other ≡ kind.OpenBracket → ⊥) → step_begun o name t other ≡ None
this-dead o name t kind.Dot is h g = absurd (h refl)
this-dead o name t kind.OpenBracket is h g = absurd (g refl)
this-dead o name t kind.Assign is h g = rw (false_same the_type tt kind.Name name.kind (λ e. differs (e ∙ is))) refl
  where
    differs : kind.Name ≡ kind.This → ⊥
    differs e = cc
this-dead o name t _ is h g = refl

pub this-alone : (old p1 : Parser) (depth : ℕ) (word : Token) → depth ≤ deepest → IsNotSecond kind.Dot old → IsNotSecond kind.OpenBracket old → TakesToken kind.This old p1 (Ok word) → ReadsStmt depth old p1 (Err (Unexpected p1.at))
this-alone old p1 depth word le no_dot no_bracket h = λ u b lv.
    refused (takes old p1 kind.This word (State.listing (Open.at u b)) (State.begun (Open.at u b) word) h refl (omega arith))
    (misses p1 p1 kind.Dot (Unexpected p1.at) (State.begun (Open.at u b) word) (refl, λ t n is. no_dot t (now-next old p1 t h.2 n) is)
    (record { others = λ t n other. this-dead (Open.at u b) word t t.kind h.1 other (no_bracket t (now-next old p1 t h.2 n)); ends = refl }))

-- ---- `x = R;`

begun-others : (o : Open) (name t : Token) (other : TokenKind) → (other ≡ kind.Assign → ⊥) → (other ≡ kind.Dot → ⊥) → (other ≡ kind.OpenBracket → ⊥) → step_begun o name t other ≡ None
begun-others o name t kind.Assign k h g = absurd (k refl)
begun-others o name t kind.Dot k h g = absurd (h refl)
begun-others o name t kind.OpenBracket k h g = absurd (g refl)
begun-others o name t _ k h g = refl

next-here : (p new : Parser) (t : Token) → IsHere p new → Next new t → Next p t
next-here p new t h n = rw (← h.at, ← h.tokens) n

pub assign-no-sign : (old p1 p2 new : Parser) (depth : ℕ) (name : Token) (i : Ident) (e : ParseError) → depth ≤ deepest → IsNotSecond kind.Dot old → IsNotSecond kind.OpenBracket old → TakesToken kind.Name old p1 (Ok name) → NamesToken name p1 p2 (Ok i) →
    TakesToken kind.Assign p2 new (Err e) → ReadsStmt depth old new (Err e)
assign-no-sign old p1 p2 new depth name i e le no_dot no_bracket h n miss = λ u b lv.
    let second = λ (t : Token) (m : Next p2 t). now-next old p1 t h.2 (next-here p1 p2 t n.2 m) in
    refused (via (takes old p1 kind.Name name (State.listing (Open.at u b)) (State.begun (Open.at u b) name) h refl (omega arith)) (here p1 p2 (State.begun (Open.at u b) name) n.2))
    (misses p2 new kind.Assign e (State.begun (Open.at u b) name) miss (record { others = λ t m other. begun-others (Open.at u b) name t t.kind other (no_dot t (second t m)) (no_bracket t (second t m)); ends = refl }))

assign-starts : (old p1 p2 p3 : Parser) (depth : ℕ) (name equals : Token) (i : Ident) (u : Outer) (b : Stmts) → depth ≤ deepest → level_outer u ≡ depth → TakesToken kind.Name old p1 (Ok name) → NamesToken name p1 p2 (Ok i) → TakesToken kind.Assign p2 p3 (Ok equals) →
    Leads old (State.listing (Open.at u b)) p3 (State.value_due (Assigning.assigning (Open.at u b) (TargetTree.known name) equals))
assign-starts old p1 p2 p3 depth name equals i u b le lv h n h3 =
    via (takes old p1 kind.Name name (State.listing (Open.at u b)) (State.begun (Open.at u b) name) h refl (omega arith))
    (via (here p1 p2 (State.begun (Open.at u b) name) n.2)
    (takes p2 p3 kind.Assign equals (State.begun (Open.at u b) name) (State.value_due (Assigning.assigning (Open.at u b) (TargetTree.known name) equals)) h3 (rw h.1 refl) (omega arith)))

pub assign-value : (old p1 p2 p3 new : Parser) (depth : ℕ) (name equals : Token) (i : Ident) (e : ParseError) → depth ≤ deepest → TakesToken kind.Name old p1 (Ok name) → NamesToken name p1 p2 (Ok i) → TakesToken kind.Assign p2 p3 (Ok equals) → ReadsValue depth p3 new (Err e) →
    ReadsStmt depth old new (Err e)
assign-value old p1 p2 p3 new depth name equals i e le h n h3 r = λ u b lv.
    refused (assign-starts old p1 p2 p3 depth name equals i u b le lv h n h3) (r (Assigning.assigning (Open.at u b) (TargetTree.known name) equals) lv)

pub assign-is : (old p1 p2 p3 p4 new : Parser) (depth : ℕ) (name equals : Token) (i : Ident) (v : Value) (s : Stmt) (r : Result ℕ ParseError) → depth ≤ deepest → TakesToken kind.Name old p1 (Ok name) → NamesToken name p1 p2 (Ok i) → TakesToken kind.Assign p2 p3 (Ok equals) →
    ReadsValue depth p3 p4 (Ok v) → s ≡ record { span = span_over name v.end; head = span_over name v.head; kind = form.Assign None i v.rhs } → PushesStmt s p4 new r → ReadsStmt depth old new r
assign-is old p1 p2 p3 p4 new depth name equals i v s (Ok k) le h n h3 g is d =
    let text : p3.text ≡ old.text = h3.2.text ∙ n.2.text ∙ h.2.text in
    let tree = StmtTree.assign (TargetTree.known name) equals g.tree v.end in
    record {
      tree = tree;
      place = d.0 ∙ rw (g.program, text, h3.2.program, n.1, h.2.text, h.2.program) refl;
      program = d.1 ∙ rw (is, g.is, g.head, n.0, g.program, text, h3.2.program, n.1, h.2.text, h.2.program) refl;
      leads = λ u b lv.
          via (assign-starts old p1 p2 p3 depth name equals i u b le lv h n h3)
          (via (g.leads (Assigning.assigning (Open.at u b) (TargetTree.known name) equals) lv) (here p4 new (State.listing (Open.at u (Stmts.more_stmts b tree))) d.2));
    }
assign-is old p1 p2 p3 p4 new depth name equals i v s (Err e) le h n h3 g is d = λ u b lv. no-memory old (State.listing (Open.at u b)) e d

-- ---- `T x;` and `T x = R;`

pub local-err : (old new : Parser) (depth : ℕ) (e : ParseError) → ReadsLocal depth old new (Err e) → ReadsStmt depth old new (Err e)
local-err old new depth e r = λ u b lv. r (Open.at u b) lv

pub declare-is : (old p1 p2 new : Parser) (depth : ℕ) (v : LocalHead) (end : Token) (s : Stmt) (r : Result ℕ ParseError) → depth ≤ deepest → ReadsLocal depth old p1 (Ok v) → TakesToken kind.Semicolon p1 p2 (Ok end) →
    s ≡ simple v.first end (form.Declare v.ty v.name) → PushesStmt s p2 new r → ReadsStmt depth old new r
declare-is old p1 p2 new depth v end s (Ok k) le g h is d =
    let tree = StmtTree.declare g.tree g.word end in
    record {
      tree = tree;
      place = d.0 ∙ rw (h.2.program, g.program) refl;
      program = d.1 ∙ rw (is, g.first, g.ty, g.name, h.2.program, g.program) refl;
      leads = λ u b lv.
          let q = State.listing (Open.at u (Stmts.more_stmts b tree)) in
          via (g.leads (Open.at u b) lv) (via (takes p1 p2 kind.Semicolon end (State.local_named (Open.at u b) g.tree g.word) q h refl (omega arith)) (here p2 new q d.2));
    }
declare-is old p1 p2 new depth v end s (Err e) le g h is d = λ u b lv. no-memory old (State.listing (Open.at u b)) e d

local-others : (o : Open) (ty : TypeTree) (name t : Token) (other : TokenKind) → (other ≡ kind.Semicolon → ⊥) → (other ≡ kind.Assign → ⊥) → step_local_named o ty name t other ≡ None
local-others o ty name t kind.Semicolon h g = absurd (h refl)
local-others o ty name t kind.Assign h g = absurd (g refl)
local-others o ty name t _ h g = refl

pub local-no-sign : (old p1 new : Parser) (depth : ℕ) (v : LocalHead) (e : ParseError) → ReadsLocal depth old p1 (Ok v) → IsNotNext kind.Semicolon p1 → TakesToken kind.Assign p1 new (Err e) → ReadsStmt depth old new (Err e)
local-no-sign old p1 new depth v e g no_end miss = λ u b lv.
    refused (g.leads (Open.at u b) lv)
    (misses p1 new kind.Assign e (State.local_named (Open.at u b) g.tree g.word) miss (record { others = λ t n other. local-others (Open.at u b) g.tree g.word t t.kind (no_end t n) other; ends = refl }))

local-starts : (old p1 p2 : Parser) (depth : ℕ) (v : LocalHead) (equals : Token) (u : Outer) (b : Stmts) → depth ≤ deepest → level_outer u ≡ depth → (g : ReadsLocal depth old p1 (Ok v)) → TakesToken kind.Assign p1 p2 (Ok equals) →
    Leads old (State.listing (Open.at u b)) p2 (State.value_due (Assigning.assigning (Open.at u b) (TargetTree.declared g.tree g.word) equals))
local-starts old p1 p2 depth v equals u b le lv g h =
    via (g.leads (Open.at u b) lv) (takes p1 p2 kind.Assign equals (State.local_named (Open.at u b) g.tree g.word) (State.value_due (Assigning.assigning (Open.at u b) (TargetTree.declared g.tree g.word) equals)) h refl (omega arith))

pub local-value : (old p1 p2 new : Parser) (depth : ℕ) (v : LocalHead) (equals : Token) (e : ParseError) → depth ≤ deepest → ReadsLocal depth old p1 (Ok v) → TakesToken kind.Assign p1 p2 (Ok equals) → ReadsValue depth p2 new (Err e) → ReadsStmt depth old new (Err e)
local-value old p1 p2 new depth v equals e le g h r = λ u b lv.
    refused (local-starts old p1 p2 depth v equals u b le lv g h) (r (Assigning.assigning (Open.at u b) (TargetTree.declared g.tree g.word) equals) lv)

pub local-is : (old p1 p2 p3 new : Parser) (depth : ℕ) (v : LocalHead) (equals : Token) (w : Value) (s : Stmt) (r : Result ℕ ParseError) → depth ≤ deepest → ReadsLocal depth old p1 (Ok v) → p1.text ≡ old.text → TakesToken kind.Assign p1 p2 (Ok equals) →
    ReadsValue depth p2 p3 (Ok w) → s ≡ record { span = span_over v.first w.end; head = span_over v.first w.head; kind = form.Assign (Some v.ty) v.name w.rhs } → PushesStmt s p3 new r → ReadsStmt depth old new r
local-is old p1 p2 p3 new depth v equals w s (Ok k) le g text h f is d =
    let tree = StmtTree.assign (TargetTree.declared g.tree g.word) equals f.tree w.end in
    record {
      tree = tree;
      place = d.0 ∙ rw (f.program, h.2.text, text, h.2.program, g.program) refl;
      program = d.1 ∙ rw (is, f.is, f.head, g.first, g.ty, g.name, f.program, h.2.text, text, h.2.program, g.program) refl;
      leads = λ u b lv.
          via (local-starts old p1 p2 depth v equals u b le lv g h)
          (via (f.leads (Assigning.assigning (Open.at u b) (TargetTree.declared g.tree g.word) equals) lv) (here p3 new (State.listing (Open.at u (Stmts.more_stmts b tree))) d.2));
    }
local-is old p1 p2 p3 new depth v equals w s (Err e) le g text h f is d = λ u b lv. no-memory old (State.listing (Open.at u b)) e d
