-- What the marks of a statement of each kind tell of its code, where those of earlier statements tell so of theirs.
use Rattle.std.proofs.Common.{◌≡◌, ℕ, suc, ◌<◌, ◌≤◌, true, false, List, [], ◌∷◌, ◌++◌, Some, None, sym, subst, arith, le_refl, inl, inr}
use Rattle.std.specs.Prelude.{◌⊎◌, nat_eq, map}
use Rattle.std.proofs.lemmas.Bool.{eqb-true, or_cases, or_left}
use Rattle.perm_tree.specs.declared.ast.FieldDecl.{FieldDecl}
use Rattle.perm_tree.specs.declared.ast.Ident.{Ident}
use Rattle.perm_tree.specs.declared.ast.Stmt.{Stmt}
use Rattle.perm_tree.specs.declared.ast.StmtKind.{StmtKind}
use Rattle.perm_tree.specs.declared.ast.StmtKind.TheVariants.{Declare as DeclareStmt, Assign as AssignStmt, SetField, SetItem, Call as CallStmt, Print as PrintStmt, If as IfStmt, While as WhileStmt, Par as ParStmt}
use Rattle.perm_tree.specs.declared.unit.VarInfo.{VarInfo}
use Rattle.perm_tree.specs.Code.{Instruction, Declare, StoreField, StoreItem, Print, Code, End, Do}
use Rattle.perm_tree.specs.CodeNames.{term_at, var_at, field_at, argument, call, own_vars}
use Rattle.perm_tree.specs.CodeOf.{sequence, assignment, kind_code}
use Rattle.perm_tree.specs.Mentions.{term_mentions, argument_mentions, mentions, consumes, assigns, mentioned, block_mentions}
use Rattle.perm_tree.specs.Places.{KindPlaced}
use Rattle.perm_tree.specs.Scopes.{declared_by, known_until, braced_vars, else_stmts, rhs_vars, inner_vars}
use Rattle.perm_tree.specs.TextOrder.{Mark, names, ends, IsRising, marks_at, arg_marks, block_marks, kind_marks}
use Rattle.perm_tree.specs.Vars.{Vars, none, just, plus, IsWithin}
use Rattle.perm_rules.specs.Pars.{touched_by}
use Rattle.perm_rules.proofs.Pars.Scoped.{Meets, meets-more, named-meets}
use Rattle.perm_rules.proofs.Pars.Beginnings.{among-none, Rows, rows-none, rows-more, AllNamed, named-rows, AreAll, begin-right, begin-within, Begins, AllBegin, BeginIn}
use Rattle.perm_rules.proofs.Pars.StandingTerms.{Stands, stands-name, stands-past, stands-then, expr-at, arg-stands, call-stands}
use Rattle.perm_rules.proofs.Pars.CodeWalks.{Walks, walks-more, do-walks, if-walks, par-walks, while-walks, encloses-sooner, shares-plainly}
use Rattle.perm_rules.proofs.Pars.OwnVariables.{OwnLie, own-one, own-begun}
use Rattle.perm_rules.proofs.Pars.Tellings.{Earlier, Opens, walks-open, opens-own, opens-none, Tells, tells-none, Ends, simple-ends, TellsIn}
use Rattle.perm_rules.proofs.Pars.Blocks.{InBraces, BracedTold, braced-told, BothTold, both-told, else-below}
use Rattle.perm_rules.proofs.Pars.RightSides.{rhs-told}

module _ (earlier : Earlier) where
  open earlier use {facts, marks as ms, codes as fs, inner, count as n}
  open facts use {setting as k, context as c, exprs, base}
  open k use {vars}
  open k.tables.program use {stmts}

  abbrev KindTold : ℕ → List Mark → Stmt → StmtKind → Type 0
  KindTold lo rest s kind = AllNamed lo s.span.end (declared_by kind) × Ends facts lo s.span.end rest (inner_vars stmts inner kind) (TellsIn facts lo s.span.end (declared_by kind) (inner_vars stmts inner kind) (kind_code k fs s kind))

  -- a statement that declares nothing and has no blocks
  flat-told : (lo : ℕ) (s : Stmt) (i : Instruction) (rest : List Mark) → Stands vars lo (ends s.span.end ∷ rest) (mentions i) → IsWithin (touched_by i) (plus (consumes i) (assigns i))
      → AllNamed lo s.span.end [] × Ends facts lo s.span.end rest [] (TellsIn facts lo s.span.end [] [] (Do s.span i))
  flat-told lo s i rest stands writes =
      let told = simple-ends facts lo s i rest stands writes in (
        tt,
        record {
          room = told.room;
          rise = told.rise;
          rows = told.rows;
          walk = λ end more whole.
              tells-none facts lo s.span.end end (Do s.span i) (told.walk end more)
              (opens-none facts lo s.span.end s.span.end [] (Do s.span i) (le_refl s.span.end) (λ v at. absurd (among-none v at)) whole.all (walks-open facts lo s.span.end end (Do s.span i) (told.walk end more)));
        },
      )

  -- the variable of a name that is assigned
  assigned-meets : (lo : ℕ) (x : Ident) → lo ≤ x.span.start → Meets vars lo (suc x.span.start) (var_at k x)
  assigned-meets lo x low = named-meets vars lo (suc x.span.start) x low (omega arith)

  -- what stands in a head and two blocks begins before the head's end
  head-and-blocks-open : (at : ℕ) (G : Vars) (own1 : List ℕ) (a : Code) (own2 : List ℕ) (b : Code) → AllBegin vars at G → AllBegin vars at (block_mentions own1 a) → AllBegin vars at (block_mentions own2 b) → (code : Code) (x : ℕ)
      → plus G (plus (block_mentions own1 a) (plus (block_mentions own2 b) (mentioned code))) x ≡ true → (mentioned code x ≡ true) ⊎ Begins vars at x
  head-and-blocks-open at G own1 a own2 b head left right code x e = first (or_cases (G x) (plus (block_mentions own1 a) (plus (block_mentions own2 b) (mentioned code)) x) e)
    where
      third : (block_mentions own2 b x ≡ true) ⊎ (mentioned code x ≡ true) → (mentioned code x ≡ true) ⊎ Begins vars at x
      third (inl m) = inr (right x m)
      third (inr m) = inl m

      second : (block_mentions own1 a x ≡ true) ⊎ (plus (block_mentions own2 b) (mentioned code) x ≡ true) → (mentioned code x ≡ true) ⊎ Begins vars at x
      second (inl m) = inr (left x m)
      second (inr m) = third (or_cases (block_mentions own2 b x) (mentioned code x) m)

      first : (G x ≡ true) ⊎ (plus (block_mentions own1 a) (plus (block_mentions own2 b) (mentioned code)) x ≡ true) → (mentioned code x ≡ true) ⊎ Begins vars at x
      first (inl m) = inr (head x m)
      first (inr m) = second (or_cases (block_mentions own1 a x) (plus (block_mentions own2 b) (mentioned code) x) m)

  pub kind-told : (count lo : ℕ) (s : Stmt) (kind : StmtKind) (rest : List Mark) → KindPlaced count n kind → base ≤ lo → IsRising lo (kind_marks exprs ms s.head.end kind (ends s.span.end ∷ rest)) → KindTold lo rest s kind
  kind-told count lo s (DeclareStmt t x) rest placed up rise =
      let low : lo ≤ x.span.start = rise.0 in
      let last : suc x.span.start ≤ s.span.end = rise.1.0 in (
        named low last,
        record {
          room = omega arith;
          rise = rise.1.1;
          rows = rows-none lo s.span.end s.span.end;
          walk = λ end more whole. walk end more low last whole;
        },
      )
    where
      ds : List FieldDecl
      ds = record { ty = t; name = x } ∷ []

      f : Code → Code
      f = Do s.span (Declare (var_at k x))

      named : lo ≤ x.span.start → suc x.span.start ≤ s.span.end → AllNamed lo s.span.end (record { ty = t; name = x } ∷ [])
      named low last = ((low, omega arith), tt)

      walk : (end : ℕ) → s.span.end ≤ end → lo ≤ x.span.start → suc x.span.start ≤ s.span.end → BeginIn vars lo s.span.end (map (known_until end) ds ++ []) → Tells facts lo s.span.end end (var_at k x ∷ []) f
      walk end more low last whole =
          let own : OwnLie facts lo end (record { ty = t; name = x } ∷ []) = own-one facts lo end (record { ty = t; name = x }) low whole.had.0 in
          let walks : Walks vars c lo s.span.end end f = do-walks vars c lo s.span.end end s.span (Declare (var_at k x)) (omega arith)
          (λ z e. subst (Meets vars lo s.span.end) (sym (eqb-true z (var_at k x) e)) (named-meets vars lo s.span.end x low (omega arith)))
          (λ z e. inr (own z (or_left (nat_eq z (var_at k x)) false e))) in
          record {
            walks = walks;
            lies = own;
            fresh = own-begun facts lo s.span.end end ds more ((low, omega arith), tt) whole.had;
            opens = opens-own facts lo s.span.end s.span.end end ds [] f (le_refl s.span.end) more ((low, omega arith), tt) (λ v at. absurd (among-none v at)) whole.all (walks-open facts lo s.span.end end f walks);
          }
  kind-told count lo s (AssignStmt None x r) rest placed up rise =
      let low : lo ≤ x.span.start = rise.0 in
      let told = rhs-told earlier count lo (suc x.span.start) s (var_at k x) r rest up (omega arith) (assigned-meets lo x low) placed rise.1 in (
        tt,
        record {
          room = let more : suc x.span.start ≤ s.span.end = told.room in omega arith;
          rise = told.rise;
          rows = rows-more lo (suc x.span.start) s.span.end s.span.end s.span.end s.span.end ws (omega arith) (le_refl s.span.end) (le_refl s.span.end) told.rows;
          walk = λ end more whole. walk end low told.room told.rows whole.all (told.walk end more (begin-within vars lo (suc x.span.start) s.span.end s.span.end ws (omega arith) (le_refl s.span.end) whole));
        },
      )
    where
      ws : List VarInfo
      ws = rhs_vars stmts inner r

      f : Code → Code
      f = assignment k fs s (var_at k x) r

      walk : (end : ℕ) → lo ≤ x.span.start → suc x.span.start ≤ s.span.end → Rows (suc x.span.start) s.span.end s.span.end ws → AreAll vars lo s.span.end ws → Walks vars c lo s.span.end end f × Opens facts (suc x.span.start) f → Tells facts lo s.span.end end [] f
      walk end low room rows whole (walks, opens) = tells-none facts lo s.span.end end f walks (opens-none facts lo (suc x.span.start) s.span.end ws f room (λ v i. (rows.starts v i).behind) whole opens)
  kind-told count lo s (AssignStmt (Some t) x r) rest placed up rise =
      let low : lo ≤ x.span.start = rise.0 in
      let told = rhs-told earlier count lo (suc x.span.start) s (var_at k x) r rest up (omega arith) (assigned-meets lo x low) placed rise.1 in
      let more : suc x.span.start ≤ s.span.end = told.room in (
        ((low, omega arith), tt),
        record {
          room = omega arith;
          rise = told.rise;
          rows = rows-more lo (suc x.span.start) s.span.end s.span.end s.span.end s.span.end ws (omega arith) (le_refl s.span.end) (le_refl s.span.end) told.rows;
          walk = λ end last whole. walk end last low more told.rows whole
              (told.walk end last (begin-right vars lo (suc x.span.start) s.span.end (map (known_until end) ds) ws (omega arith) (named-rows lo (suc x.span.start) end ds ((low, omega arith), tt)).starts whole));
        },
      )
    where
      ds : List FieldDecl
      ds = record { ty = t; name = x } ∷ []

      ws : List VarInfo
      ws = rhs_vars stmts inner r

      f : Code → Code
      f = assignment k fs s (var_at k x) r

      walk : (end : ℕ) → s.span.end ≤ end → lo ≤ x.span.start → suc x.span.start ≤ s.span.end → Rows (suc x.span.start) s.span.end s.span.end ws → BeginIn vars lo s.span.end (map (known_until end) ds ++ ws)
          → Walks vars c lo s.span.end end f × Opens facts (suc x.span.start) f → Tells facts lo s.span.end end (var_at k x ∷ []) f
      walk end last low room rows whole (walks, opens) = record {
        walks = walks;
        lies = own-one facts lo end (record { ty = t; name = x }) low whole.had.0;
        fresh = own-begun facts lo s.span.end end ds last ((low, omega arith), tt) (whole.had.0, tt);
        opens = opens-own facts lo (suc x.span.start) s.span.end end ds ws f room last ((low, omega arith), tt) (λ v i. (rows.starts v i).behind) whole.all opens;
      }
  kind-told count lo s (SetField y f a) rest placed up rise =
      let on = arg_marks exprs a (ends s.span.end ∷ rest) in
      flat-told lo s (StoreField (var_at k y) (field_at k y f) (argument k a)) rest
      (stands-then vars lo on (ends s.span.end ∷ rest) (just (var_at k y)) (argument_mentions (argument k a)) (stands-past vars lo f on (just (var_at k y)) (stands-name vars lo y (names f ∷ on) rise))
      (λ mid room r. arg-stands k exprs facts.terms a mid (ends s.span.end ∷ rest) r))
      (λ z e. e)
  kind-told count lo s (SetItem y i e) rest placed up rise =
      let on = marks_at exprs e (ends s.span.end ∷ rest) in
      let index = term_mentions (term_at k i) in
      let value = term_mentions (term_at k e) in
      flat-told lo s (StoreItem (var_at k y) (term_at k i) (term_at k e)) rest
      (stands-then vars lo (marks_at exprs i on) (ends s.span.end ∷ rest) (just (var_at k y)) (plus index value) (stands-name vars lo y (marks_at exprs i on) rise)
      (λ mid room r. stands-then vars mid on (ends s.span.end ∷ rest) index value (expr-at k exprs facts.terms i mid on r) (λ from more q. expr-at k exprs facts.terms e from (ends s.span.end ∷ rest) q)))
      (λ z q. q)
  kind-told count lo s (CallStmt m) rest placed up rise = flat-told lo s (call k None m) rest (call-stands k exprs facts.terms m lo (ends s.span.end ∷ rest) rise) (λ z e. e)
  kind-told count lo s (PrintStmt e) rest placed up rise = flat-told lo s (Print (term_at k e)) rest (expr-at k exprs facts.terms e lo (ends s.span.end ∷ rest) rise) (λ z q. q)
  kind-told count lo s (IfStmt e a b) rest placed up rise =
      let blocks = block_marks ms a.stmts (block_marks ms (else_stmts b) (ends s.span.end ∷ rest)) in
      go (expr-at k exprs facts.terms e lo (ends s.head.end ∷ blocks) rise) (λ higher r. both-told earlier s.head.end a.stmts (else_stmts b) (ends s.span.end ∷ rest) placed.1 (else-below earlier b placed.2) higher r)
    where
      own1 : List ℕ
      own1 = own_vars k a.stmts

      code1 : Code
      code1 = sequence fs a.stmts End

      own2 : List ℕ
      own2 = own_vars k (else_stmts b)

      code2 : Code
      code2 = sequence fs (else_stmts b) End

      ws : List VarInfo
      ws = braced_vars stmts inner a.stmts ++ braced_vars stmts inner (else_stmts b)

      f : Code → Code
      f = kind_code k fs s (IfStmt e a b)

      go : Stands vars lo (ends s.head.end ∷ block_marks ms a.stmts (block_marks ms (else_stmts b) (ends s.span.end ∷ rest))) (term_mentions (term_at k e))
          → (base ≤ s.head.end → IsRising s.head.end (block_marks ms a.stmts (block_marks ms (else_stmts b) (ends s.span.end ∷ rest))) → BothTold earlier s.head.end (ends s.span.end ∷ rest) a.stmts (else_stmts b)) → KindTold lo rest s (IfStmt e a b)
      go (test, low, r, meets) later = let head : test ≤ s.head.end = r.0 in on head (later (omega arith) r.1)
        where
          on : test ≤ s.head.end → BothTold earlier s.head.end (ends s.span.end ∷ rest) a.stmts (else_stmts b) → KindTold lo rest s (IfStmt e a b)
          on head two =
              let room : s.head.end ≤ two.mid = two.low in
              let more : two.mid ≤ two.hi = two.more in
              let last : two.hi ≤ s.span.end = two.rise.0 in (
                tt,
                record {
                  room = omega arith;
                  rise = two.rise.1;
                  rows = rows-more lo s.head.end two.hi s.span.end two.hi s.span.end ws (omega arith) last last two.rows;
                  walk = λ end behind whole. walk end behind two.mid two.hi room more last two.rows whole.all (two.blocks (begin-within vars lo s.head.end two.hi s.span.end ws (omega arith) last whole));
                },
              )
            where
              walk : (end : ℕ) → s.span.end ≤ end → (mid hi : ℕ) → s.head.end ≤ mid → mid ≤ hi → hi ≤ s.span.end → Rows s.head.end hi hi ws → AreAll vars lo s.span.end ws
                  → InBraces earlier s.head.end s.head.end mid a.stmts × InBraces earlier s.head.end mid hi (else_stmts b)
                  → Tells facts lo s.span.end end [] f
              walk end behind mid hi room more last rows whole (left, right) =
                  tells-none facts lo s.span.end end f
                  (walks-more vars c lo lo hi s.span.end end f (omega arith) last
                  (if-walks vars c lo mid hi end own1 code1 own2 code2 (omega arith) more (omega arith)
                  (encloses-sooner vars c lo s.head.end mid own1 code1 (omega arith) left.encloses)
                  right.encloses
                  s.head
                  (term_at k e)
                  (λ x z. meets-more vars lo test lo hi x (omega arith) (omega arith) (meets x z))))
                  (opens-none facts lo s.head.end s.span.end ws f (omega arith) (λ v i. (rows.starts v i).behind) whole
                  (head-and-blocks-open s.head.end (term_mentions (term_at k e)) own1 code1 own2 code2 (λ x z v here. let begins : v.scope.start < test = (meets x z v here).0 in omega arith) left.begins right.begins))
  kind-told count lo s (WhileStmt e a) rest placed up rise =
      let blocks = block_marks ms a.stmts (ends s.span.end ∷ rest) in
      go (expr-at k exprs facts.terms e lo (ends s.head.end ∷ blocks) rise) (λ higher r. braced-told earlier s.head.end a.stmts (ends s.span.end ∷ rest) placed.1 higher r)
    where
      own : List ℕ
      own = own_vars k a.stmts

      body : Code
      body = sequence fs a.stmts End

      ws : List VarInfo
      ws = braced_vars stmts inner a.stmts

      f : Code → Code
      f = kind_code k fs s (WhileStmt e a)

      go : Stands vars lo (ends s.head.end ∷ block_marks ms a.stmts (ends s.span.end ∷ rest)) (term_mentions (term_at k e))
          → (base ≤ s.head.end → IsRising s.head.end (block_marks ms a.stmts (ends s.span.end ∷ rest)) → BracedTold earlier s.head.end (ends s.span.end ∷ rest) a.stmts) → KindTold lo rest s (WhileStmt e a)
      go (test, low, r, meets) later = let head : test ≤ s.head.end = r.0 in on head (later (omega arith) r.1)
        where
          on : test ≤ s.head.end → BracedTold earlier s.head.end (ends s.span.end ∷ rest) a.stmts → KindTold lo rest s (WhileStmt e a)
          on head one =
              let room : s.head.end ≤ one.hi = one.room in
              let last : one.hi ≤ s.span.end = one.rise.0 in (
                tt,
                record {
                  room = omega arith;
                  rise = one.rise.1;
                  rows = rows-more lo s.head.end one.hi s.span.end one.hi s.span.end ws (omega arith) last last one.rows;
                  walk = λ end behind whole. walk end behind one.hi room last one.rows whole.all (one.block (begin-within vars lo s.head.end one.hi s.span.end ws (omega arith) last whole));
                },
              )
            where
              walk : (end : ℕ) → s.span.end ≤ end → (hi : ℕ) → s.head.end ≤ hi → hi ≤ s.span.end → Rows s.head.end hi hi ws → AreAll vars lo s.span.end ws
                  → InBraces earlier s.head.end s.head.end hi a.stmts → Tells facts lo s.span.end end [] f
              walk end behind hi room last rows whole block =
                  tells-none facts lo s.span.end end f
                  (walks-more vars c lo lo hi s.span.end end f (omega arith) last
                  (while-walks vars c lo s.head.end hi end s.head (term_at k e) own body (omega arith) room (omega arith) (λ x z. meets-more vars lo test lo hi x (omega arith) (omega arith) (meets x z)) block.encloses block.begins))
                  (opens-none facts lo s.head.end s.span.end ws f (omega arith) (λ v i. (rows.starts v i).behind) whole opened)
                where
                  opened : Opens facts s.head.end f
                  opened code x q = first (or_cases (term_mentions (term_at k e) x) (plus (block_mentions own body) (mentioned code) x) q)
                    where
                      second : (block_mentions own body x ≡ true) ⊎ (mentioned code x ≡ true) → (mentioned code x ≡ true) ⊎ Begins vars s.head.end x
                      second (inl m) = inr (block.begins x m)
                      second (inr m) = inl m

                      first : (term_mentions (term_at k e) x ≡ true) ⊎ (plus (block_mentions own body) (mentioned code) x ≡ true) → (mentioned code x ≡ true) ⊎ Begins vars s.head.end x
                      first (inl m) = inr (λ v here. let before : v.scope.start < test = (meets x m v here).0 in omega arith)
                      first (inr m) = second (or_cases (block_mentions own body x) (mentioned code x) m)
  kind-told count lo s (ParStmt a b) rest placed up rise = let head : lo ≤ s.head.end = rise.0 in go head (both-told earlier s.head.end a.stmts b.stmts (ends s.span.end ∷ rest) placed.0 placed.1 (omega arith) rise.1)
    where
      own1 : List ℕ
      own1 = own_vars k a.stmts

      code1 : Code
      code1 = sequence fs a.stmts End

      own2 : List ℕ
      own2 = own_vars k b.stmts

      code2 : Code
      code2 = sequence fs b.stmts End

      ws : List VarInfo
      ws = braced_vars stmts inner a.stmts ++ braced_vars stmts inner b.stmts

      f : Code → Code
      f = kind_code k fs s (ParStmt a b)

      go : lo ≤ s.head.end → BothTold earlier s.head.end (ends s.span.end ∷ rest) a.stmts b.stmts → KindTold lo rest s (ParStmt a b)
      go head two =
          let room : s.head.end ≤ two.mid = two.low in
          let more : two.mid ≤ two.hi = two.more in
          let last : two.hi ≤ s.span.end = two.rise.0 in (
            tt,
            record {
              room = omega arith;
              rise = two.rise.1;
              rows = rows-more lo s.head.end two.hi s.span.end two.hi s.span.end ws head last last two.rows;
              walk = λ end behind whole. walk end behind two.mid two.hi room more last two.rows whole.all (two.blocks (begin-within vars lo s.head.end two.hi s.span.end ws head last whole));
            },
          )
        where
          walk : (end : ℕ) → s.span.end ≤ end → (mid hi : ℕ) → s.head.end ≤ mid → mid ≤ hi → hi ≤ s.span.end → Rows s.head.end hi hi ws → AreAll vars lo s.span.end ws
              → InBraces earlier s.head.end s.head.end mid a.stmts × InBraces earlier s.head.end mid hi b.stmts
              → Tells facts lo s.span.end end [] f
          walk end behind mid hi room more last rows whole (left, right) =
              tells-none facts lo s.span.end end f
              (walks-more vars c lo s.head.end hi s.span.end end f head last
              (par-walks vars c s.head.end mid hi end own1 code1 own2 code2 room more (omega arith) left.encloses right.encloses s.head (shares-plainly vars c facts.types s.head.end mid hi own1 code1 own2 code2 left.encloses right.encloses)))
              (opens-none facts lo s.head.end s.span.end ws f (omega arith) (λ v i. (rows.starts v i).behind) whole (head-and-blocks-open s.head.end none own1 code1 own2 code2 (λ x z. absurd (let no : ⊥ = cc z in no)) left.begins right.begins))
