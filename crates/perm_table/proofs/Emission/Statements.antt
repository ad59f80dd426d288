-- Statements and blocks are emitted, and what they write is known.
use Rattle.std.proofs.Common.{◌≡◌, ◌≢◌, ◌∙◌, ℕ, suc, ◌+◌, ◌-◌, ◌<◌, ◌≤◌, List, [], ◌∷◌, ◌++◌, length, Some, refl, sym, ap, subst, arith, drop, append-nil, length-append}
use Rattle.std.specs.Prelude.{slice_get, slice_index, slice_set, ◌||◌, IfOk, Result, Ok, Err, Option}
use Rattle.std.proofs.Math.Seq.{drop-length}
use Rattle.std.proofs.lemmas.List.{drop_more}
use Rattle.perm_tree.specs.declared.ast.Block.{Block}
use Rattle.perm_tree.specs.declared.ast.Ident.{Ident}
use Rattle.perm_tree.specs.declared.ast.Rhs.{Rhs}
use Rattle.perm_tree.specs.declared.ast.Rhs.TheVariants.{Value, Field, TakeField, Item, New, NewArray, Call as CallRhs, Recover as RecoverRhs}
use Rattle.perm_tree.specs.declared.ast.Span.{Span}
use Rattle.perm_tree.specs.declared.ast.Stmt.{Stmt}
use Rattle.perm_tree.specs.declared.ast.StmtKind.{StmtKind}
use Rattle.perm_tree.specs.declared.ast.StmtKind.TheVariants.{Declare, Assign, SetField, SetItem, Call as CallStmt, Print, If as IfStmt, While as WhileStmt, Par as ParStmt}
use Rattle.perm_tree.specs.declared.ast.Ty.{Ty}
use Rattle.perm_tree.specs.declared.bodies.Action.{Action}
use Rattle.perm_tree.specs.declared.bodies.Action.TheVariants as actions
use Rattle.perm_tree.specs.declared.bodies.Bodies.{Bodies}
use Rattle.perm_tree.specs.declared.bodies.Expression.{Expression}
use Rattle.perm_tree.specs.declared.bodies.Step.{Step}
use Rattle.perm_tree.specs.declared.errors.NoMemory.{NoMemory}
use Rattle.perm_tree.specs.declared.var_set.VarSet.{VarSet}
use Rattle.perm_tree.specs.BodyTerms.{instruction_of}
use Rattle.perm_tree.specs.Blocks.{block_places, else_blocks, kind_blocks}
use Rattle.perm_tree.specs.Code.{Code, End, Do, Tie}
use Rattle.perm_tree.specs.CodeNames.{Setting, own_vars, term_at, tied_before, var_at}
use Rattle.perm_tree.specs.CodeOf.{block_code, code_of, codes_of, kind_code, stmt_code}
use Rattle.perm_tree.specs.InBody.{all_within, inner_places}
use Rattle.perm_tree.specs.Mentions.{block_writes, written}
use Rattle.perm_tree.specs.Places.{IsPlaced, KindPlaced, RhsPlaced}
use Rattle.perm_tree.specs.Scopes.{else_stmts}
use Rattle.perm_tree.specs.StatementSteps.{Says, SaysTest}
use Rattle.perm_tree.specs.Vars.{none, just, those, plus, minus}
use Rattle.perm_tree.specs.VarSets.{member}
use Rattle.perm_tree.proofs.CodeLaws.{stmt_code-is}
use Rattle.perm_tree.proofs.HeldStatements.{else-places, places-append, within-stmt}
use Rattle.perm_table.specs.declared.numbering.emit.Emitted.{Emitted}
use Rattle.perm_table.specs.declared.numbering.emit.Fragment.{Fragment}
use Rattle.perm_table.specs.Emission.{Emits, HasPar, Holds, IsAssignment, IsBlockEmitted, IsEmitted, IsStmtEmitted, if_code, par_code, recover_code, while_code, writes_of}
use Rattle.perm_table.specs.Growth.{Extends}
use Rattle.perm_table.specs.Numbered.{states, IsSimpleKind, IsSimpleRhs, TellsCode, TellsTerm}
use Rattle.perm_table.specs.StepPlaces.{block_holds, stmt_holds, within_stmt, SaysAt}
use Rattle.perm_table.proofs.Growth.{Extends-trans, Grows-extends}
use Rattle.perm_table.proofs.Emission.Forms.{count-more, with-sides, with-steps, HasSteps, emits-none, emits-places, emits-then, emits-as, emits-one, emits-if, emits-while, emits-par, emits-recover}
use Rattle.perm_table.proofs.Emission.Names.{at-as, get-last, get-set, keep-more, keep-set, keep-trans, named-behind, named-from, named-front, named-more, named-none, named-nothing, named-on, Keep}
use Rattle.perm_table.proofs.Emission.Says.{says-kind, says-stays, term-says}
use Rattle.perm_table.proofs.Emission.Sets.{written-none, written-then, written-as, written-block, written-two, written-recover}

-- a simple statement has no block
simple-inner : (exprs : ℕ) (kind : StmtKind) → IsSimpleKind exprs kind → block_places (kind_blocks kind) ≡ []
simple-inner exprs (Declare t x) simple = refl
simple-inner exprs (Assign t x (Value a)) simple = refl
simple-inner exprs (Assign t x (Field y f)) simple = refl
simple-inner exprs (Assign t x (TakeField y f)) simple = refl
simple-inner exprs (Assign t x (Item y e)) simple = refl
simple-inner exprs (Assign t x (New c)) simple = refl
simple-inner exprs (Assign t x (NewArray e)) simple = refl
simple-inner exprs (Assign t x (CallRhs c)) simple = refl
simple-inner exprs (Assign t x (RecoverRhs b w give)) simple = absurd simple
simple-inner exprs (SetField y f a) simple = refl
simple-inner exprs (SetItem y i e) simple = refl
simple-inner exprs (CallStmt c) simple = refl
simple-inner exprs (Print e) simple = refl
simple-inner exprs (IfStmt e a b) simple = absurd simple
simple-inner exprs (WhileStmt e a) simple = absurd simple
simple-inner exprs (ParStmt a b) simple = absurd simple

module _ (k : Setting) where
  -- emission adds steps
  emits-longer : (old new : Bodies) (next first : ℕ) (f : Code → Code) → Emits (code_of k.tables) old next new first f → length old.steps ≤ length new.steps
  emits-longer old new next first f e = omega (arith, count-more old new e.added e.steps)

  emits-keep : (from : ℕ) (old new : Bodies) (next first : ℕ) (f : Code → Code) → Emits (code_of k.tables) old next new first f → Keep from old new
  emits-keep from old new next first f e = keep-more from old new e.added e.extends e.steps

  -- ---------- blocks ----------
  -- no statement of a block yet
  pub emitted-none : (old : Bodies) (next : ℕ) (stmts : List ℕ) (w : VarSet) → next < length old.steps → member w ≡ none
      → IsEmitted k old next old (block_code k (drop (length stmts) stmts)) (block_holds k (drop (length stmts) stmts)) (record { first = next; written = w })
  emitted-none old next stmts w there is =
      subst (λ (l : List ℕ). IsEmitted k old next old (block_code k l) (block_holds k l) (record { first = next; written = w })) (sym (drop-length stmts))
      (record { emits = emits-none (code_of k.tables) old next there; writes = written-none w is; names = named-none k old old refl })

  -- the same code in other words
  pub emitted-as : (old new : Bodies) (next : ℕ) (f g : Code → Code) (held : List ℕ) (e : Fragment) → ((rest : Code) → f rest ≡ g rest) → IsEmitted k old next new f held e → IsEmitted k old next new g held e
  emitted-as old new next f g held e same is = record { emits = emits-as (code_of k.tables) old new next e.first f g same is.emits; writes = written-as e.written f g same is.writes; names = is.names }

  -- one code before another
  pub emitted-then : (old mid new : Bodies) (next : ℕ) (f g : Code → Code) (ps qs : List ℕ) (a b : Fragment) (w : VarSet) → IsEmitted k old next mid f ps a → IsEmitted k mid a.first new g qs b → member w ≡ plus (member a.written) (member b.written)
      → IsEmitted k old next new (λ c. g (f c)) (qs ++ ps) (record { first = b.first; written = w })
  emitted-then old mid new next f g ps qs a b w one two is = record {
    emits = emits-then (code_of k.tables) old mid new next a.first b.first f g one.emits two.emits;
    writes = written-then a.written b.written w f g one.writes two.writes is;
    names = named-front k old mid new ps qs (emits-longer old mid next a.first f one.emits) (emits-keep (length old.steps) mid new a.first b.first g two.emits) one.names two.names;
  }

  -- one more statement before the others of a block
  pub emitted-more : (old mid new : Bodies) (next : ℕ) (stmts : List ℕ) (left at : ℕ) (a b : Fragment) (w : VarSet) → 0 < left → left ≤ length stmts → at ≡ slice_index stmts (left - 1)
      → IsEmitted k old next mid (block_code k (drop left stmts)) (block_holds k (drop left stmts)) a → IsEmitted k mid a.first new (stmt_code k at) (stmt_holds k at) b → member w ≡ plus (member a.written) (member b.written)
      → IsEmitted k old next new (block_code k (drop (left - 1) stmts)) (block_holds k (drop (left - 1) stmts)) (record { first = b.first; written = w })
  emitted-more old mid new next stmts left at a b w some within place one two is =
      let last : drop (left - 1) stmts ≡ at ∷ drop left stmts =
      drop_more stmts (left - 1) 0 (omega arith) ∙ (let n : left - 1 + 1 ≡ left = omega arith in ap (λ n. slice_index stmts (left - 1) ∷ drop n stmts) n) ∙ ap (λ i. i ∷ drop left stmts) (sym place) in
      subst (λ (l : List ℕ). IsEmitted k old next new (block_code k l) (block_holds k l) (record { first = b.first; written = w })) (sym last)
      (emitted-then old mid new next (block_code k (drop left stmts)) (stmt_code k at) (block_holds k (drop left stmts)) (stmt_holds k at) a b w one two is)

  -- a block without what it declares itself
  pub emitted-block : (old new : Bodies) (next : ℕ) (stmts : List ℕ) (e : Fragment) (w : VarSet) → IsEmitted k old next new (block_code k stmts) (block_holds k stmts) e → Holds w (minus (member e.written) (those (own_vars k stmts)))
      → IsBlockEmitted k old next new stmts (record { first = e.first; written = w })
  emitted-block old new next stmts e w is outer = record { emits = is.emits; writes = written-block e.written w (own_vars k stmts) (block_code k stmts) is.writes outer; names = is.names }

  -- without `else` there is nothing
  pub emitted-no-else : (old : Bodies) (next : ℕ) (w : VarSet) → next < length old.steps → member w ≡ none → IsBlockEmitted k old next old [] (record { first = next; written = w })
  emitted-no-else old next w there is = record { emits = emits-none (code_of k.tables) old next there; writes = λ x within. ap (λ G. G x) is; names = named-none k old old refl }

  -- ---------- statements ----------
  -- a statement without blocks
  pub emitted-plain : (old mid new : Bodies) (s : Stmt) (next place exprs : ℕ) (a : Action) (w : VarSet) → next < length old.steps → IsSimpleKind exprs s.kind → TellsCode old mid (code_of k.tables) (states k s.kind) a
      → place ≡ length mid.steps → new ≡ record mid { steps = mid.steps ++ record { span = s.span; next = next; action = a } ∷ [] } → ((tie : Tie) → Holds w (writes_of (instruction_of mid tie a)))
      → IsStmtEmitted k old next new (kind_code k (codes_of k) s s.kind) (block_holds k (inner_places s)) (Says k new s s.kind) (record { fragment = record { first = place; written = w }; step = place })
  emitted-plain old mid new s next place exprs a w there simple is is_place added writes = record {
    emitted = emitted-as old new next f (kind_code k (codes_of k) s s.kind) (block_holds k (inner_places s)) (record { first = place; written = w }) (λ rest. sym (is.code (codes_of k) s rest))
        (record {
          emits = subst (λ p. Emits (code_of k.tables) old next new p f) (sym is_place) (emits-one (code_of k.tables) old mid new s.span next a is.tie there is.grows is.simple is.inside added);
          writes = λ rest x within. ap (λ b. b || written rest x) (sym (writes is.tie x within));
          names = named-nothing k old new (block_holds k (inner_places s)) (ap (block_holds k) (simple-inner exprs s.kind simple)) (has.places ∙ is.grows.places);
        });
    has = record {
      behind = omega (arith, is_place, ap (λ (l : List Step). length l) is.grows.steps);
      step = record { span = s.span; next = next; action = a };
      there = subst (λ (l : List Step). slice_get l place ≡ Some (let x : Step = record { span = s.span; next = next; action = a } in x)) (sym has.steps_are) (get-last mid.steps (record { span = s.span; next = next; action = a }) place is_place);
      said = says-stays k mid new has.extends s s.kind a (says-kind k old mid s a exprs simple is);
    };
  }
    where
      f : Code → Code
      f rest = Do s.span (instruction_of mid is.tie a) rest

      has : HasSteps mid new (mid.steps ++ record { span = s.span; next = next; action = a } ∷ [])
      has = with-steps mid new (mid.steps ++ record { span = s.span; next = next; action = a } ∷ []) added

  -- an if
  pub emitted-if : (old mid1 mid2 mid3 new : Bodies) (at : Span) (next root place : ℕ) (yes_stmts no_stmts : List ℕ) (e : Expression) (a b : Fragment) (w : VarSet)
      → IsBlockEmitted k old next mid1 no_stmts b → IsBlockEmitted k mid1 next mid2 yes_stmts a → TellsTerm mid2 mid3 (term_at k root) e
      → place ≡ length mid3.steps → new ≡ record mid3 { steps = mid3.steps ++ record { span = at; next = a.first; action = actions.If e b.first } ∷ [] } → member w ≡ plus (member a.written) (member b.written)
      → IsStmtEmitted k old next new (if_code k at root yes_stmts no_stmts) (block_holds k yes_stmts ++ block_holds k no_stmts) (SaysTest k new root) (record { fragment = record { first = place; written = w }; step = place })
  emitted-if old mid1 mid2 mid3 new at next root place yes_stmts no_stmts e a b w second one term is_place added writes = record {
    emitted = record {
      emits = subst (λ p. Emits (code_of k.tables) old next new p (if_code k at root yes_stmts no_stmts)) (sym is_place)
          (emits-if (code_of k.tables) old mid1 mid2 mid3 new at next a.first b.first e (term_at k root) (own_vars k yes_stmts) (own_vars k no_stmts) (block_code k yes_stmts) (block_code k no_stmts) second.emits one.emits term.grows term.inside term.term added);
      writes = λ rest x within.
          written-two a.written b.written w (block_writes (own_vars k yes_stmts) (block_code k yes_stmts End)) (block_writes (own_vars k no_stmts) (block_code k no_stmts End)) rest x within one.writes second.writes writes;
      names = named-on k old mid2 new (block_holds k yes_stmts ++ block_holds k no_stmts) longer (keep-more (length old.steps) mid2 new (s ∷ []) more steps) (has.places ∙ term.grows.places)
          (named-front k old mid1 mid2 (block_holds k no_stmts) (block_holds k yes_stmts) (emits-longer old mid1 next b.first (block_code k no_stmts) second.emits)
          (emits-keep (length old.steps) mid1 mid2 next a.first (block_code k yes_stmts) one.emits) second.names one.names);
    };
    has = record {
      behind = omega (arith, is_place, longer, ap (λ (l : List Step). length l) term.grows.steps);
      step = s;
      there = subst (λ (l : List Step). slice_get l place ≡ Some (let x : Step = record { span = at; next = a.first; action = actions.If e b.first } in x)) (sym has.steps_are) (get-last mid3.steps (record { span = at; next = a.first; action = actions.If e b.first }) place is_place);
      said = term-says k mid3 new has.extends root e (record { term = term.term; inside = term.inside });
    };
  }
    where
      s : Step
      s = record { span = at; next = a.first; action = actions.If e b.first }

      has : HasSteps mid3 new (mid3.steps ++ record { span = at; next = a.first; action = actions.If e b.first } ∷ [])
      has = with-steps mid3 new (mid3.steps ++ record { span = at; next = a.first; action = actions.If e b.first } ∷ []) added

      more : Extends mid2 new
      more = Extends-trans mid2 mid3 new (Grows-extends mid2 mid3 term.grows) has.extends

      steps : new.steps ≡ mid2.steps ++ record { span = at; next = a.first; action = actions.If e b.first } ∷ []
      steps = has.steps_are ∙ ap (λ (l : List Step). l ++ record { span = at; next = a.first; action = actions.If e b.first } ∷ []) term.grows.steps

      longer : length old.steps ≤ length mid2.steps
      longer = omega (arith, emits-longer old mid1 next b.first (block_code k no_stmts) second.emits, emits-longer mid1 mid2 next a.first (block_code k yes_stmts) one.emits)

  -- a while
  pub emitted-while : (old mid0 mid1 mid2 new : Bodies) (at : Span) (hold : Step) (next root place : ℕ) (stmts : List ℕ) (e : Expression) (a : Fragment)
      → TellsTerm old mid0 (term_at k root) e → place ≡ length mid0.steps → mid1 ≡ record mid0 { steps = mid0.steps ++ hold ∷ [] } → IsBlockEmitted k mid1 place mid2 stmts a
      → new ≡ record mid2 { steps = slice_set mid2.steps place (record { span = at; next = next; action = actions.While e a.first }) }
      → IsStmtEmitted k old next new (while_code k at root stmts) (block_holds k stmts) (SaysTest k new root) (record { fragment = record { first = place; written = a.written }; step = place })
  emitted-while old mid0 mid1 mid2 new at hold next root place stmts e a term is_place held body settled = record {
    emitted = record {
      emits = emits-while (code_of k.tables) old mid0 mid1 mid2 new at hold next place a.first e (term_at k root) (own_vars k stmts) (block_code k stmts) term.grows term.inside term.term is_place held body.emits settled;
      writes = λ rest x within. ap (λ b. b || written rest x) (sym (body.writes x within));
      names = named-from k old mid1 new (block_holds k stmts) (omega (arith, longer, same)) (has1.places ∙ term.grows.places)
          (named-on k mid1 mid2 new (block_holds k stmts) (emits-longer mid1 mid2 place a.first (block_code k stmts) body.emits)
          (keep-set (length mid1.steps) place mid2 new (record { span = at; next = next; action = actions.While e a.first }) (omega (arith, longer, is_place)) has.extends has.steps_are) has.places body.names);
    };
    has = record {
      behind = omega (arith, is_place, same);
      step = record { span = at; next = next; action = actions.While e a.first };
      there = subst (λ (l : List Step). slice_get l place ≡ Some (let x : Step = record { span = at; next = next; action = actions.While e a.first } in x)) (sym has.steps_are)
          (get-set mid2.steps place (record { span = at; next = next; action = actions.While e a.first }) (omega (arith, is_place, longer, emits-longer mid1 mid2 place a.first (block_code k stmts) body.emits)));
      said = term-says k mid0 new (Extends-trans mid0 mid1 new has1.extends (Extends-trans mid1 mid2 new body.emits.extends has.extends)) root e (record { term = term.term; inside = term.inside });
    };
  }
    where
      has1 : HasSteps mid0 mid1 (mid0.steps ++ hold ∷ [])
      has1 = with-steps mid0 mid1 (mid0.steps ++ hold ∷ []) held

      has : HasSteps mid2 new (slice_set mid2.steps place (record { span = at; next = next; action = actions.While e a.first }))
      has = with-steps mid2 new (slice_set mid2.steps place (record { span = at; next = next; action = actions.While e a.first })) settled

      same : length mid0.steps ≡ length old.steps
      same = ap (λ (l : List Step). length l) term.grows.steps

      longer : length mid1.steps ≡ suc (length mid0.steps)
      longer = omega (arith, length-append mid0.steps (hold ∷ []), ap (λ (l : List Step). length l) has1.steps_are)

  -- a par
  pub emitted-par : (old mid0 mid1 mid2 new : Bodies) (at zone : Span) (next last end place : ℕ) (left right : List ℕ) (a b : Fragment) (w : VarSet)
      → end ≡ length old.steps → mid0 ≡ record old { steps = old.steps ++ record { span = zone; next = last; action = actions.End } ∷ [] }
      → IsBlockEmitted k mid0 end mid1 left a → IsBlockEmitted k mid1 end mid2 right b → place ≡ length mid2.steps → HasPar at next a b mid2 new → member w ≡ plus (member a.written) (member b.written)
      → IsStmtEmitted k old next new (par_code k at left right) (block_holds k left ++ block_holds k right) (λ action. Unit {0}) (record { fragment = record { first = place; written = w }; step = place })
  emitted-par old mid0 mid1 mid2 new at zone next last end place left right a b w is_end held one two is_place added writes = record {
    emitted = record {
      emits = subst (λ p. Emits (code_of k.tables) old next new p (par_code k at left right)) (sym is_place)
          (emits-par (code_of k.tables) old mid0 mid1 mid2 new at zone next last end a.first b.first (own_vars k left) (own_vars k right) (block_code k left) (block_code k right) (record { left = a.written; right = b.written })
          is_end held one.emits two.emits one.writes two.writes added);
      writes = λ rest x within. written-two a.written b.written w (block_writes (own_vars k left) (block_code k left End)) (block_writes (own_vars k right) (block_code k right End)) rest x within one.writes two.writes writes;
      names = named-from k old mid0 new (block_holds k left ++ block_holds k right) (omega (arith, behind)) has0.places
          (named-on k mid0 mid2 new (block_holds k left ++ block_holds k right) longer (keep-more (length mid0.steps) mid2 new (s ∷ []) has.extends has.steps_are) has.places
          (named-behind k mid0 mid1 mid2 (block_holds k left) (block_holds k right) (emits-longer mid0 mid1 end a.first (block_code k left) one.emits) (emits-keep (length mid0.steps) mid1 mid2 end b.first (block_code k right) two.emits) one.names two.names));
    };
    has = record {
      behind = omega (arith, is_place, longer, behind);
      step = s;
      there = subst (λ (l : List Step). slice_get l place ≡ Some (let x : Step = record { span = at; next = next; action = actions.Par a.first b.first (length mid2.sides) } in x)) (sym has.steps_are)
          (get-last mid2.steps (record { span = at; next = next; action = actions.Par a.first b.first (length mid2.sides) }) place is_place);
      said = tt;
    };
  }
    where
      s : Step
      s = record { span = at; next = next; action = actions.Par a.first b.first (length mid2.sides) }

      has0 : HasSteps old mid0 (old.steps ++ record { span = zone; next = last; action = actions.End } ∷ [])
      has0 = with-steps old mid0 (old.steps ++ record { span = zone; next = last; action = actions.End } ∷ []) held

      has : HasSteps mid2 new (mid2.steps ++ record { span = at; next = next; action = actions.Par a.first b.first (length mid2.sides) } ∷ [])
      has = with-sides mid2 new (record { left = a.written; right = b.written }) (mid2.steps ++ record { span = at; next = next; action = actions.Par a.first b.first (length mid2.sides) } ∷ []) added

      behind : length mid0.steps ≡ suc (length old.steps)
      behind = omega (arith, length-append old.steps (let x : Step = record { span = zone; next = last; action = actions.End } in x ∷ []), ap (λ (l : List Step). length l) has0.steps_are)

      longer : length mid0.steps ≤ length mid2.steps
      longer = omega (arith, emits-longer mid0 mid1 end a.first (block_code k left) one.emits, emits-longer mid1 mid2 end b.first (block_code k right) two.emits)

  -- a recover
  pub emitted-recover : (old mid0 mid1 new : Bodies) (at give : Span) (next end place w x : ℕ) (stmts : List ℕ) (a : Fragment) (s1 s2 out r : VarSet)
      → end ≡ length old.steps → mid0 ≡ record old { steps = old.steps ++ record { span = give; next = next; action = actions.Give w x } ∷ [] }
      → IsEmitted k mid0 end mid1 (block_code k stmts) (block_holds k stmts) a → place ≡ length mid1.steps → new ≡ record mid1 { steps = mid1.steps ++ record { span = at; next = a.first; action = actions.Recover } ∷ [] }
      → Holds s1 (plus (member a.written) (just w)) → Holds s2 (plus (member s1) (just x)) → Holds out (minus (member s2) (those (own_vars k stmts))) → Holds r (plus (member out) (just x))
      → IsStmtEmitted k old next new (recover_code k at x stmts w give) (block_holds k stmts) (λ action. action ≡ actions.Give w x) (record { fragment = record { first = place; written = r }; step = end })
  emitted-recover old mid0 mid1 new at give next end place w x stmts a s1 s2 out r is_end held body is_place added one two three four = record {
    emitted = record {
      emits = subst (λ p. Emits (code_of k.tables) old next new p (recover_code k at x stmts w give)) (sym is_place)
          (emits-recover (code_of k.tables) old mid0 mid1 new at give next end a.first w x (own_vars k stmts) (tied_before at.end 0 k.vars) (block_code k stmts) is_end held body.emits added);
      writes = written-recover a.written s1 s2 out r at give (own_vars k stmts) (tied_before at.end 0 k.vars) w x (block_code k stmts) body.writes one two three four;
      names = named-from k old mid0 new (block_holds k stmts) (omega (arith, behind)) has0.places
          (named-on k mid0 mid1 new (block_holds k stmts) (emits-longer mid0 mid1 end a.first (block_code k stmts) body.emits) (keep-more (length mid0.steps) mid1 new (last ∷ []) has.extends has.steps_are) has.places body.names);
    };
    has = record {
      behind = omega (arith, is_end);
      step = s;
      there = new_keep.steps end (record { span = give; next = next; action = actions.Give w x }) (omega (arith, is_end))
          (subst (λ (l : List Step). slice_get l end ≡ Some (let y : Step = record { span = give; next = next; action = actions.Give w x } in y)) (sym has0.steps_are)
          (get-last old.steps (record { span = give; next = next; action = actions.Give w x }) end is_end));
      said = refl;
    };
  }
    where
      s : Step
      s = record { span = give; next = next; action = actions.Give w x }

      last : Step
      last = record { span = at; next = a.first; action = actions.Recover }

      has0 : HasSteps old mid0 (old.steps ++ record { span = give; next = next; action = actions.Give w x } ∷ [])
      has0 = with-steps old mid0 (old.steps ++ record { span = give; next = next; action = actions.Give w x } ∷ []) held

      has : HasSteps mid1 new (mid1.steps ++ record { span = at; next = a.first; action = actions.Recover } ∷ [])
      has = with-steps mid1 new (mid1.steps ++ record { span = at; next = a.first; action = actions.Recover } ∷ []) added

      behind : length mid0.steps ≡ suc (length old.steps)
      behind = omega (arith, length-append old.steps (let y : Step = record { span = give; next = next; action = actions.Give w x } in y ∷ []), ap (λ (l : List Step). length l) has0.steps_are)

      new_keep : Keep (length old.steps) mid0 new
      new_keep = keep-trans (length old.steps) mid0 mid1 new (emits-keep (length old.steps) mid0 mid1 end a.first (block_code k stmts) body.emits)
          (keep-more (length old.steps) mid1 new (record { span = at; next = a.first; action = actions.Recover } ∷ []) has.extends has.steps_are)

  -- the statement at a place, by its kind
  pub emitted-kind : (old new : Bodies) (next at : ℕ) (s : Stmt) (kind : StmtKind) (held : List ℕ) (says : Action → Type 0) (e : Emitted) → IsPlaced k.tables.program → slice_get k.tables.program.stmts at ≡ Some s → s.kind ≡ kind
      → held ≡ block_holds k (block_places (kind_blocks kind)) → ((a : Action) → says a → Says k new s kind a)
      → IsStmtEmitted k old next new (kind_code k (codes_of k) s kind) held says e → IsStmtEmitted k old next new (stmt_code k at) (within_stmt k at) (SaysAt k new at) e
  emitted-kind old new next at s kind held says e placed here is same to h = record {
    emitted = subst (λ (l : List ℕ). IsEmitted k old next new (stmt_code k at) l e.fragment) whole
        (emitted-as old new next (kind_code k (codes_of k) s kind) (stmt_code k at) held e.fragment
        (λ rest. ap (λ (q : StmtKind). kind_code k (codes_of k) s q rest) (sym is) ∙ sym (stmt_code-is k at s rest placed here)) h.emitted);
    has = at-as says (SaysAt k new at) old new e.step
        (λ a said t there.
        let one : s ≡ t = let two : Some s ≡ Some t = sym here ∙ there in cc in
        subst (λ (t : Stmt). Says k new t t.kind a) one (subst (λ (q : StmtKind). Says k new s q a) (sym is) (to a said)))
        h.has;
  }
    where
      whole : held ≡ within_stmt k at
      whole = same ∙ ap (λ (q : StmtKind). block_holds k (block_places (kind_blocks q))) (sym is) ∙ sym (within-stmt k.tables.program at s placed here)

  -- its step is named
  pub emitted-named : (old mid new : Bodies) (next at : ℕ) (e : Emitted) → at < length mid.places → new ≡ record mid { places = slice_set mid.places at e.step }
      → IsStmtEmitted k old next mid (stmt_code k at) (within_stmt k at) (SaysAt k mid at) e → IsEmitted k old next new (stmt_code k at) (stmt_holds k at) e.fragment
  emitted-named old mid new next at e within is h = record {
    emits = subst (λ (b : Bodies). Emits (code_of k.tables) old next b e.fragment.first (stmt_code k at)) (sym is) (emits-places (code_of k.tables) old mid next e.fragment.first (stmt_code k at) (slice_set mid.places at e.step) h.emitted.emits);
    writes = h.emitted.writes;
    names = named-more k old mid new at e.step (within_stmt k at) (emits-longer old mid next e.fragment.first (stmt_code k at) h.emitted.emits) within is h.has h.emitted.names;
  }

  -- ---------- answers ----------
  -- a statement whose step says what it says
  pub stmt-answer : (old new : Bodies) (next at : ℕ) (s : Stmt) (kind : StmtKind) (held : List ℕ) (says : Action → Type 0) (r : Result Emitted NoMemory) → IsPlaced k.tables.program → slice_get k.tables.program.stmts at ≡ Some s → s.kind ≡ kind
      → held ≡ block_holds k (block_places (kind_blocks kind)) → ((a : Action) → says a → Says k new s kind a)
      → IfOk r (IsStmtEmitted k old next new (kind_code k (codes_of k) s kind) held says) → IfOk r (IsStmtEmitted k old next new (stmt_code k at) (within_stmt k at) (SaysAt k new at))
  stmt-answer old new next at s kind held says (Ok e) placed here is same to h = emitted-kind old new next at s kind held says e placed here is same to h
  stmt-answer old new next at s kind held says (Err e) placed here is same to h = tt

  -- what an if holds
  pub if-holds : (e : ℕ) (a : Block) (b : Option Block) → block_holds k a.stmts ++ block_holds k (else_stmts b) ≡ block_holds k (block_places (kind_blocks (IfStmt e a b)))
  if-holds e a b = ap (λ (l : List ℕ). block_holds k a.stmts ++ block_holds k l) (sym (else-places b)) ∙ sym (places-append (all_within k.tables.program.stmts) a.stmts (block_places (else_blocks b)))

  -- a while
  pub while-holds : (e : ℕ) (a : Block) → block_holds k a.stmts ≡ block_holds k (block_places (kind_blocks (WhileStmt e a)))
  while-holds e a = ap (block_holds k) (sym (append-nil a.stmts))

  -- a par
  pub par-holds : (a b : Block) → block_holds k a.stmts ++ block_holds k b.stmts ≡ block_holds k (block_places (kind_blocks (ParStmt a b)))
  par-holds a b = ap (λ (l : List ℕ). block_holds k a.stmts ++ block_holds k l) (sym (append-nil b.stmts)) ∙ sym (places-append (all_within k.tables.program.stmts) a.stmts (b.stmts ++ []))

  -- a recover, by the numbers of its variables
  pub recover-answer : (old new : Bodies) (next : ℕ) (s : Stmt) (x w : Ident) (n m : ℕ) (block : Block) (give : Span) (rhs : Rhs) (r : Result Emitted NoMemory)
      → IsAssignment s.kind x rhs → rhs ≡ RecoverRhs block w give → n ≡ var_at k x → m ≡ var_at k w
      → IfOk r (IsStmtEmitted k old next new (recover_code k s.head n block.stmts m give) (block_holds k block.stmts) (λ action. action ≡ actions.Give m n))
      → IfOk r (IsStmtEmitted k old next new (kind_code k (codes_of k) s s.kind) (block_holds k (inner_places s)) (Says k new s s.kind))
  recover-answer old new next s x w n m block give rhs (Err e) assigns is same_x same_w h = tt
  recover-answer old new next s x w n m block give rhs (Ok e) assigns is same_x same_w h =
      subst (λ (kind : StmtKind). IsStmtEmitted k old next new (kind_code k (codes_of k) s kind) (block_holds k (block_places (kind_blocks kind))) (Says k new s kind) e) (sym (assigns.is ∙ ap (Assign assigns.ty x) is)) (record {
        emitted = subst (λ (l : List ℕ). IsEmitted k old next new (recover_code k s.head (var_at k x) block.stmts (var_at k w) give) l e.fragment) (ap (block_holds k) (sym (append-nil block.stmts)))
            (subst (λ v. IsEmitted k old next new (recover_code k s.head (var_at k x) block.stmts v give) (block_holds k block.stmts) e.fragment) same_w
            (subst (λ v. IsEmitted k old next new (recover_code k s.head v block.stmts m give) (block_holds k block.stmts) e.fragment) same_x h.emitted));
        has = at-as (λ (a : Action). a ≡ actions.Give m n) (Says k new s (Assign assigns.ty x (RecoverRhs block w give))) old new e.step
            (λ a said. subst (Says k new s (Assign assigns.ty x (RecoverRhs block w give))) (sym said) (same_w, same_x)) h.has;
      })

-- ---------- simple statements ----------
-- a right side that is no recover block is simple
simple-rhs : (exprs at : ℕ) (r : Rhs) → RhsPlaced exprs at r → ((b : Block) (w : Ident) (give : Span) → r ≢ RecoverRhs b w give) → IsSimpleRhs exprs r
simple-rhs exprs at (Value a) placed differs = placed
simple-rhs exprs at (Field y f) placed differs = tt
simple-rhs exprs at (TakeField y f) placed differs = tt
simple-rhs exprs at (Item y e) placed differs = placed
simple-rhs exprs at (New c) placed differs = tt
simple-rhs exprs at (NewArray e) placed differs = placed
simple-rhs exprs at (CallRhs c) placed differs = placed
simple-rhs exprs at (RecoverRhs b w give) placed differs = absurd (differs b w give refl)

-- so of an assignment
pub simple-assignment : (exprs at : ℕ) (kind : StmtKind) (x : Ident) (r : Rhs) → KindPlaced exprs at kind → IsAssignment kind x r → ((b : Block) (w : Ident) (give : Span) → r ≢ RecoverRhs b w give) → IsSimpleKind exprs kind
simple-assignment exprs at kind x r placed assigns differs =
    subst (IsSimpleKind exprs) (sym assigns.is) (simple-rhs exprs at r (subst (KindPlaced exprs at) assigns.is placed) differs)

-- a statement that is no assignment and has no blocks is simple
pub simple-kind : (exprs at : ℕ) (kind : StmtKind) → KindPlaced exprs at kind → ((t : Option Ty) (x : Ident) (r : Rhs) → kind ≢ Assign t x r) → ((e : ℕ) (a : Block) (b : Option Block) → kind ≢ IfStmt e a b)
    → ((e : ℕ) (a : Block) → kind ≢ WhileStmt e a) → ((a b : Block) → kind ≢ ParStmt a b) → IsSimpleKind exprs kind
simple-kind exprs at (Declare t x) placed assign if_stmt while_stmt par_stmt = tt
simple-kind exprs at (Assign t x r) placed assign if_stmt while_stmt par_stmt = absurd (assign t x r refl)
simple-kind exprs at (SetField y f a) placed assign if_stmt while_stmt par_stmt = placed
simple-kind exprs at (SetItem y i e) placed assign if_stmt while_stmt par_stmt = placed
simple-kind exprs at (CallStmt c) placed assign if_stmt while_stmt par_stmt = placed
simple-kind exprs at (Print e) placed assign if_stmt while_stmt par_stmt = placed
simple-kind exprs at (IfStmt e a b) placed assign if_stmt while_stmt par_stmt = absurd (if_stmt e a b refl)
simple-kind exprs at (WhileStmt e a) placed assign if_stmt while_stmt par_stmt = absurd (while_stmt e a refl)
simple-kind exprs at (ParStmt a b) placed assign if_stmt while_stmt par_stmt = absurd (par_stmt a b refl)
