-- What the marks of the statements of a block tell of the codes of blocks, where those of earlier statements tell so of theirs.
use Rattle.std.proofs.Common.{◌≡◌, ℕ, ◌<◌, ◌≤◌, true, List, [], ◌∷◌, ◌++◌, Option, Some, None, sym, ap, subst, ◌∙◌, arith, le_refl, inl, inr}
use Rattle.std.specs.Prelude.{◌⊎◌, not, nat_eq, map, get_or, slice_get}
use Rattle.std.proofs.lemmas.Bool.{and_parts, or_left, or_right}
use Rattle.std.proofs.lemmas.List.{append_assoc}
use Rattle.std.proofs.lemmas.List.Folds.{list_any-append}
use Rattle.perm_tree.specs.declared.ast.Block.{Block}
use Rattle.perm_tree.specs.declared.ast.FieldDecl.{FieldDecl}
use Rattle.perm_tree.specs.declared.ast.Stmt.{Stmt}
use Rattle.perm_tree.specs.declared.unit.VarInfo.{VarInfo}
use Rattle.perm_tree.specs.Code.{Code, End}
use Rattle.perm_tree.specs.CodeNames.{var_at, own_vars}
use Rattle.perm_tree.specs.CodeOf.{sequence}
use Rattle.perm_tree.specs.Mentions.{mentioned, block_mentions}
use Rattle.perm_tree.specs.Places.{AllBelow, ElseBelow}
use Rattle.perm_tree.specs.Scopes.{declared_by, declared_if, known_until, end_if, block_end, block_vars, braced_vars, else_stmts}
use Rattle.perm_tree.specs.TextOrder.{Mark, IsRising, block_marks}
use Rattle.perm_tree.specs.Vars.{those}
use Rattle.perm_rules.proofs.Pars.Beginnings.{IsAmong, among-append, among-none, Rows, rows-none, rows-more, rows-append, AllNamed, named-rows, AreAll, begin-left, begin-right, AllBegin, declared-listed, BeginIn}
use Rattle.perm_rules.proofs.Pars.CodeWalks.{Encloses, walks-same, encloses-end}
use Rattle.perm_rules.proofs.Pars.Tellings.{Earlier, Tells, tells-none, tells-then, outer-begins, begins-sooner, Ends, TellsIn, IsTold}

module _ (earlier : Earlier) where
  open earlier use {facts, marks as ms, codes as fs, inner, count as n}
  open facts use {setting as k, context as c, base}
  open k use {vars}
  open k.tables.program use {stmts}

  -- a block ends at a place, from which the other marks rise; its variables begin in it; and its code tells what it tells
  pub record BlockEnds (lo hi : ℕ) (rest : List Mark) (ws : ℕ → List VarInfo) (own : List ℕ) (f : Code → Code) : Type 0 where
    pub room : lo ≤ hi
    pub rise : IsRising hi rest
    pub rows : (end : ℕ) → hi ≤ end → Rows lo hi end (ws end)
    pub tells : (end : ℕ) → hi ≤ end → BeginIn vars lo hi (ws end) → Tells facts lo hi end own f
    pub known : (end : ℕ) → hi ≤ end → (x : ℕ) (v : VarInfo) → slice_get vars x ≡ Some v → IsAmong v (ws end) → hi < v.scope.end → those own x ≡ true

  abbrev pub BlockTold : ℕ → List Mark → List ℕ → Type 0
  BlockTold lo rest is = BlockEnds lo (block_end stmts lo is) rest (λ end. block_vars stmts inner end is) (own_vars k is) (sequence fs is)

  pub block-told : (lo : ℕ) (is : List ℕ) (rest : List Mark) → AllBelow n is → base ≤ lo → IsRising lo (block_marks ms is rest) → BlockTold lo rest is
  block-told lo [] rest below up rise = record {
    room = le_refl lo;
    rise = rise;
    rows = λ end more. rows-none lo lo end;
    tells = λ end more these. tells-none facts lo lo end (λ code. code) (walks-same vars c lo end) (λ code x e. inl e);
    known = λ end more x v here at past. absurd (among-none v at);
  }
  block-told lo (i ∷ is) rest below up rise = go (earlier.told i below.0) (λ from higher r. block-told from is rest below.1 higher r)
    where
      go : IsTold facts ms fs inner i → ((from : ℕ) → base ≤ from → IsRising from (block_marks ms is rest) → BlockTold from rest is) → BlockTold lo rest (i ∷ is)
      go (s, here, tells) more = both (tells lo (block_marks ms is rest) up rise)
        where
          mid : ℕ
          mid = s.span.end

          f : Code → Code
          f = get_or fs i (λ c. c)

          ds : List FieldDecl
          ds = declared_by s.kind

          ws : List VarInfo
          ws = get_or inner i []

          both : AllNamed lo s.span.end (declared_by s.kind) × Ends facts lo s.span.end (block_marks ms is rest) (get_or inner i []) (TellsIn facts lo s.span.end (declared_by s.kind) (get_or inner i []) (get_or fs i (λ c. c)))
              → BlockTold lo rest (i ∷ is)
          both (named, told) =
              let room : lo ≤ mid = told.room in
              let later : BlockTold mid rest is = more mid (omega arith) told.rise in
              let on : mid ≤ block_end stmts mid is = later.room in
              subst
              (λ (o : Option Stmt). BlockEnds lo (block_end stmts (end_if lo o) is) rest (λ end. map (known_until end) (declared_if o) ++ (get_or inner i [] ++ block_vars stmts inner end is))
              (map (λ d. var_at k d.name) (declared_if o) ++ own_vars k is) (λ code. get_or fs i (λ c. c) (sequence fs is code)))
              (sym here)
              (record {
                room = omega arith;
                rise = later.rise;
                rows = λ end last. all-rows end last named told.rows (later.rows end last) room on;
                tells = λ end last whole. walk end last named told.rows (later.rows end last) room on whole (told.walk end (omega arith)) (later.tells end last);
                known = λ end last x v here at past. own-known end last named told.rows on x v here (later.known end last x v here) at past;
              })
            where
              hi : ℕ
              hi = block_end stmts s.span.end is

              others : ℕ → List VarInfo
              others end = block_vars stmts inner end is

              all-rows : (end : ℕ) → hi ≤ end → AllNamed lo mid ds → Rows lo mid mid ws → Rows mid hi end (others end) → lo ≤ mid → mid ≤ hi → Rows lo hi end (map (known_until end) ds ++ (ws ++ others end))
              all-rows end last named rows behind room on =
                  rows-append lo hi end (map (known_until end) ds) (ws ++ others end) (rows-more lo lo mid hi end end (map (known_until end) ds) (le_refl lo) on (le_refl end) (named-rows lo mid end ds named))
                  (rows-append lo hi end ws (others end) (rows-more lo lo mid hi mid end ws (le_refl lo) on (omega arith) rows) (rows-more lo mid hi hi end end (others end) room (le_refl hi) (le_refl end) behind))

              own-known : (end : ℕ) → hi ≤ end → AllNamed lo mid ds → Rows lo mid mid ws → mid ≤ hi → (x : ℕ) (v : VarInfo) → slice_get vars x ≡ Some v → (IsAmong v (others end) → hi < v.scope.end → those (own_vars k is) x ≡ true)
                  → IsAmong v (map (known_until end) ds ++ (ws ++ others end)) → hi < v.scope.end → those (map (λ d. var_at k d.name) ds ++ own_vars k is) x ≡ true
              own-known end last named rows on x v here later at past = pick (among-append v (map (known_until end) ds) (ws ++ others end) at)
                where
                  front : List ℕ
                  front = map (λ d. var_at k d.name) ds

                  ended : v.scope.end ≤ mid → ⊥
                  ended l = omega arith

                  inside : IsAmong v ws ⊎ IsAmong v (others end) → those (front ++ own_vars k is) x ≡ true
                  inside (inl i) = absurd (ended (rows.ends v i))
                  inside (inr i) = list_any-append (nat_eq x) front (own_vars k is) ∙ or_right (those front x) (those (own_vars k is) x) (later i past)

                  pick : IsAmong v (map (known_until end) ds) ⊎ IsAmong v (ws ++ others end) → those (front ++ own_vars k is) x ≡ true
                  pick (inl d) = list_any-append (nat_eq x) front (own_vars k is) ∙ or_left (those front x) (those (own_vars k is) x) (declared-listed vars lo mid end ds (omega arith) named facts.apart x v here d)
                  pick (inr i) = inside (among-append v ws (others end) i)

              walk : (end : ℕ) → hi ≤ end → AllNamed lo mid ds → Rows lo mid mid ws → Rows mid hi end (others end) → lo ≤ mid → mid ≤ hi → BeginIn vars lo hi (map (known_until end) ds ++ (ws ++ others end))
                  → TellsIn facts lo mid ds ws f end → (BeginIn vars mid hi (others end) → Tells facts mid hi end (own_vars k is) (sequence fs is))
                  → Tells facts lo hi end (map (λ d. var_at k d.name) ds ++ own_vars k is) (λ code. f (sequence fs is code))
              walk end last named rows behind room on whole first second =
                  let declared = map (known_until end) ds in
                  let regroup : (declared ++ ws) ++ others end ≡ declared ++ (ws ++ others end) = append_assoc declared ws (others end) in
                  let grouped : BeginIn vars lo hi ((declared ++ ws) ++ others end) = subst (BeginIn vars lo hi) (sym regroup) whole in
                  let front : Rows lo mid end (declared ++ ws) = rows-append lo mid end declared ws (named-rows lo mid end ds named) (rows-more lo lo mid mid mid end ws (le_refl lo) (le_refl mid) (omega arith) rows) in
                  tells-then facts lo mid hi end ds ws (others end) (own_vars k is) f (sequence fs is) room on (omega arith) named rows behind.starts whole.all
                  (first (begin-left vars lo mid hi (declared ++ ws) (others end) on behind.starts grouped))
                  (second (begin-right vars lo mid hi (declared ++ ws) (others end) room front.starts grouped))

  -- the code of a block in braces, between two places; what stands in it and isn't its own begins before a third one
  pub record InBraces (from lo hi : ℕ) (is : List ℕ) : Type 0 where
    pub encloses : Encloses vars c lo hi (own_vars k is) (sequence fs is End)
    pub begins : AllBegin vars from (block_mentions (own_vars k is) (sequence fs is End))

  -- a block in braces, and the marks behind it
  pub record BracedTold (lo : ℕ) (rest : List Mark) (is : List ℕ) : Type 0 where
    pub hi : ℕ
    pub room : lo ≤ hi
    pub rise : IsRising hi rest
    pub rows : Rows lo hi hi (braced_vars stmts inner is)
    pub block : BeginIn vars lo hi (braced_vars stmts inner is) → InBraces lo lo hi is

  in-braces : (lo hi : ℕ) (is : List ℕ) → Tells facts lo hi hi (own_vars k is) (sequence fs is) → InBraces lo lo hi is
  in-braces lo hi is t = record {
    encloses = encloses-end vars c lo hi (own_vars k is) (sequence fs is) t.walks t.lies t.fresh;
    begins = outer-begins facts lo (own_vars k is) (sequence fs is) End (λ x e. absurd (let no : ⊥ = cc e in no)) t.opens;
  }

  pub braced-told : (lo : ℕ) (is : List ℕ) (rest : List Mark) → AllBelow n is → base ≤ lo → IsRising lo (block_marks ms is rest) → BracedTold lo rest is
  braced-told lo [] rest below up rise = record {
    hi = lo;
    room = le_refl lo;
    rise = rise;
    rows = rows-none lo lo lo;
    block = λ these. in-braces lo lo [] (tells-none facts lo lo lo (λ code. code) (walks-same vars c lo lo) (λ code x e. inl e));
  }
  braced-told lo (i ∷ is) rest below up rise = go (earlier.told i below.0) (block-told lo (i ∷ is) rest below up rise)
    where
      go : IsTold facts ms fs inner i → BlockTold lo rest (i ∷ is) → BracedTold lo rest (i ∷ is)
      go (s, here, tells) told = record {
        hi = hi;
        room = told.room;
        rise = told.rise;
        rows = subst (λ e. Rows lo hi hi (block_vars stmts inner e (i ∷ is))) same (told.rows hi (le_refl hi));
        block = λ these. in-braces lo hi (i ∷ is) (told.tells hi (le_refl hi) (subst (λ e. BeginIn vars lo hi (block_vars stmts inner e (i ∷ is))) (sym same) these));
      }
        where
          hi : ℕ
          hi = block_end stmts lo (i ∷ is)

          same : hi ≡ block_end stmts 0 (i ∷ is)
          same = ap (λ (o : Option Stmt). block_end stmts (end_if lo o) is) here ∙ sym (ap (λ (o : Option Stmt). block_end stmts (end_if 0 o) is) here)

  -- two blocks in braces, and the marks behind them
  pub record BothTold (lo : ℕ) (rest : List Mark) (is js : List ℕ) : Type 0 where
    pub mid : ℕ
    pub hi : ℕ
    pub low : lo ≤ mid
    pub more : mid ≤ hi
    pub rise : IsRising hi rest
    pub rows : Rows lo hi hi (braced_vars stmts inner is ++ braced_vars stmts inner js)
    pub blocks : BeginIn vars lo hi (braced_vars stmts inner is ++ braced_vars stmts inner js) → InBraces lo lo mid is × InBraces lo mid hi js

  pub both-told : (lo : ℕ) (is js : List ℕ) (rest : List Mark) → AllBelow n is → AllBelow n js → base ≤ lo → IsRising lo (block_marks ms is (block_marks ms js rest)) → BothTold lo rest is js
  both-told lo is js rest below under up rise = go (braced-told lo is (block_marks ms js rest) below up rise)
    where
      vs : List VarInfo
      vs = braced_vars stmts inner is

      ws : List VarInfo
      ws = braced_vars stmts inner js

      sooner : {mid hi : ℕ} → Rows lo mid mid vs → AreAll vars lo mid vs → InBraces mid mid hi js → InBraces lo mid hi js
      sooner {mid} {hi} rows all block = record {
        encloses = block.encloses;
        begins = λ x e. begins-sooner facts lo mid hi x vs rows all (block.encloses.stands x (and_parts (mentioned (sequence fs js End) x) (not (those (own_vars k js) x)) e).0) (block.begins x e);
      }

      both : (left : BracedTold lo (block_marks ms js rest) is) → BracedTold left.hi rest js → BothTold lo rest is js
      both left right =
          let low : lo ≤ left.hi = left.room in
          let more : left.hi ≤ right.hi = right.room in
          record {
            mid = left.hi;
            hi = right.hi;
            low = left.room;
            more = right.room;
            rise = right.rise;
            rows = rows-append lo right.hi right.hi vs ws (rows-more lo lo left.hi right.hi left.hi right.hi vs (le_refl lo) more more left.rows) (rows-more lo left.hi right.hi right.hi right.hi right.hi ws low (le_refl right.hi) (le_refl right.hi) right.rows);
            blocks = λ these.
                let front = begin-left vars lo left.hi right.hi vs ws more right.rows.starts these in
                (left.block front, sooner left.rows front.all (right.block (begin-right vars lo left.hi right.hi vs ws low left.rows.starts these)));
          }

      go : BracedTold lo (block_marks ms js rest) is → BothTold lo rest is js
      go left = let low : lo ≤ left.hi = left.room in both left (braced-told left.hi js rest under (omega arith) left.rise)

  pub else-below : (b : Option Block) → ElseBelow n b → AllBelow n (else_stmts b)
  else-below None below = below
  else-below (Some b) below = below
