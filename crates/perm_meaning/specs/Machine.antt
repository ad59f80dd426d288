-- The interleaved machine: a tree of branches, in which any node that has an event may make it next. It is written over what variables hold (V), what a branch bears to name its objects (G), and what a turn asks of the heap (O).
use Rattle.std.specs.Prelude.{ℕ, zero, suc, ◌+◌, ◌-◌, ◌/◌, ℤ, List, [], ◌∷◌, ◌++◌, Option, Some, None}
use Rattle.perm_tree.specs.declared.ast.Span.{Span}
use Rattle.perm_tree.specs.declared.errors.TrapKind.{TrapKind}
use Rattle.perm_tree.specs.Code.{Code, End, Tie}

-- ---------- branches ----------
-- what a turn may change of a branch: its variables, the method it is in, its depth, its printed numbers, and what it bears for names. No turn can touch the turns that are left
pub record Own (V G : Type 0) : Type 0 where
  pub vars : List V
  pub routine : ℕ
  pub depth : ℕ
  pub printed : List ℤ
  pub mark : G

-- what stands below the code of a branch: the end of a block, with its own variables; the end of a recover block, with the hidden variables that were laid by; an open call, with where its result goes, the variables of its caller, what it lends, and the caller's method. Each holds the code that comes after it
pub data Frame (V : Type 0) : Type 0 where
  OpenBlock : (own : List ℕ) (rest : Code) → Frame V
  OpenRecover : (own hides : List ℕ) (saved : List V) (rest : Code) → Frame V
  OpenCall : (tie : Tie) (into : Option ℕ) (y : ℕ) (saved : List V) (lent : Option V) (caller : ℕ) (rest : Code) → Frame V

-- why a branch has failed
pub data Failure : Type 0 where
  Trapped : (k : TrapKind) (at : Span) → Failure
  NoTurns : Failure
  NoRoom : Failure

-- how a branch has ended, where that doesn't show in its code
pub data Close (V : Type 0) : Type 0 where
  Returning : (v : V) → Close V
  Failing : (e : Failure) → Close V

-- a branch: what turns may change, the turns left, the code to come, what stands below it, and its end
pub record Branch (V G : Type 0) : Type 0 where
  pub own : Own V G
  pub turns : ℕ
  pub code : Code
  pub stack : List (Frame V)
  pub close : Option (Close V)

-- the two blocks of a par, with the variables that each declares itself
pub record Blocks : Type 0 where
  pub own_l : List ℕ
  pub left : Code
  pub own_r : List ℕ
  pub right : Code

-- a leaf, or a waiting parent with its two sides; the parent's code is what comes after the par
pub data Task (V G : Type 0) : Type 0 where
  Leaf : (b : Branch V G) → Task V G
  Fork : (b : Branch V G) (p : Blocks) (l r : Task V G) → Task V G

-- a node of the tree. An event is the node at which it happens
pub data Way : Type 0 where
  Here : Way
  GoL : (w : Way) → Way
  GoR : (w : Way) → Way

-- ---------- how branches end ----------
-- an ended branch: it went well, it gave back a value, or it failed; with the turns left and the printed numbers
pub data Final (V : Type 0) : Type 0 where
  Fine : (vars : List V) (turns : ℕ) (printed : List ℤ) → Final V
  GaveBack : (v : V) (turns : ℕ) (printed : List ℤ) → Final V
  Failed : (e : Failure) (turns : ℕ) (printed : List ℤ) → Final V

-- where a branch stands: it is over, or a step is due, with so many turns left after it
pub data Stage (V : Type 0) : Type 0 where
  Over : (f : Final V) → Stage V
  Due : (turns : ℕ) → Stage V

-- how a branch at this stage has ended
abbrev pub over : {V : Type 0} → Stage V → Option (Final V)
over (Over f) = Some f
over (Due t) = None

module _ {V G : Type 0} where
  -- a step that is due with no turn left ends the branch
  abbrev pub stage_by_turns : ℕ → Own V G → Stage V
  stage_by_turns zero l = Over (Failed NoTurns 0 l.printed)
  stage_by_turns (suc t) l = Due t

  -- no step is left where the code is at its end and nothing stands below it
  abbrev pub stage_by_code : Code → List (Frame V) → ℕ → Own V G → Stage V
  stage_by_code End [] t l = Over (Fine l.vars t l.printed)
  stage_by_code c st t l = stage_by_turns t l

  -- an end that doesn't show in the code comes first
  abbrev pub stage_from : Option (Close V) → Stage V → ℕ → Own V G → Stage V
  stage_from None other t l = other
  stage_from (Some (Returning v)) other t l = Over (GaveBack v t l.printed)
  stage_from (Some (Failing e)) other t l = Over (Failed e t l.printed)

  -- a branch is over where it has an end, where no step is left, or where a step is due with no turn left
  abbrev pub stage : Branch V G → Stage V
  stage b = stage_from b.close (stage_by_code b.code b.stack b.turns b.own) b.turns b.own

  -- how a leaf has ended
  abbrev pub final : Task V G → Option (Final V)
  final (Leaf b) = over (stage b)
  final (Fork b p l r) = None

-- ---------- the rules of the join ----------
-- want of room comes first, then the left's failure, then the right's
abbrev pub worse : Failure → Failure → Failure
worse l NoRoom = NoRoom
worse l r = l

module _ {V : Type 0} where
  -- the turns left
  abbrev pub turns_of : Final V → ℕ
  turns_of (Fine vs t p) = t
  turns_of (GaveBack v t p) = t
  turns_of (Failed e t p) = t

  -- the printed numbers
  abbrev pub printed_of : Final V → List ℤ
  printed_of (Fine vs t p) = p
  printed_of (GaveBack v t p) = p
  printed_of (Failed e t p) = p

  -- the turns of both sides come back; what the right printed is told only where the left went well. merge gives the variables, and no block of a par gives back a value
  abbrev pub join_final : (List V → List V → List V → List V) → List V → List ℤ → Final V → Final V → Final V
  join_final merge vs out (Fine ls t p) (Fine rs u q) = Fine (merge vs ls rs) (t + u) (out ++ (p ++ q))
  join_final merge vs out (Failed e t p) (Failed f u q) = Failed (worse e f) (t + u) (out ++ p)
  join_final merge vs out (Failed e t p) y = Failed e (t + turns_of y) (out ++ p)
  join_final merge vs out x (Failed f u q) = Failed f (turns_of x + u) (out ++ (printed_of x ++ q))
  join_final merge vs out x y = Fine vs (turns_of x + turns_of y) (out ++ (printed_of x ++ printed_of y))

  -- go on where both sides have ended
  abbrev pub if_both_over : {R : Type 0} → Option (Final V) → Option (Final V) → R → (Final V → Final V → R) → R
  if_both_over (Some x) (Some y) other go = go x y
  if_both_over (Some x) None other go = other
  if_both_over None y other go = other

-- ---------- what a machine is made of ----------
-- what a turn does to its branch: it goes on with this code and stack, it starts a par, it gives back the value of a whole run, or the branch fails
pub data Did (V G : Type 0) : Type 0 where
  On : (l : Own V G) (c : Code) (st : List (Frame V)) → Did V G
  Splits : (p : Blocks) (rest : Code) → Did V G
  Ends : (v : V) → Did V G
  Dies : (e : Failure) → Did V G

-- a turn asks one thing of the heap, and goes on by what it is told. Without a turn the branch is stuck
pub data Turn (V G O : Type 0) : Type 0 where
  Takes : (o : O) (told : V → Did V G) → Turn V G O
  NoTurn : Turn V G O

-- what the marks of branches become: those of the two sides of a par, that of the parent after a par, and after a new object
pub record Marks (G : Type 0) : Type 0 where
  pub to_left : G → G
  pub to_right : G → G
  pub after_par : G → G
  pub after_object : G → G

-- what becomes of variables at a par of a method: what each side gets, what the parent keeps, and what it has after the join, by its own, the left's and the right's
pub record Parting (V : Type 0) : Type 0 where
  pub to_left : ℕ → Blocks → List V → List V
  pub to_right : ℕ → Blocks → List V → List V
  pub kept : ℕ → Blocks → List V → List V
  pub joined : ℕ → Blocks → List V → List V → List V → List V

-- a machine: its marks and pars, how a block's own variables lose their values at its end, what asks nothing of the heap, and the turn of a branch
pub record Machine (V G O : Type 0) : Type 0 where
  pub marks : Marks G
  pub parting : Parting V
  pub clear_own : List V → List ℕ → List V
  pub idle : O
  pub turn : Code → List (Frame V) → Own V G → Turn V G O

-- ---------- events ----------
module _ {V G O : Type 0} (m : Machine V G O) where
  -- a block's end costs no turn: it comes at once
  abbrev pub settled : Branch V G → List V → Code → List (Frame V) → Branch V G
  settled b vs End (OpenBlock own rest ∷ st) = settled b (m.clear_own vs own) rest st
  settled b vs c st = record b { own = record b.own { vars = vs }; code = c; stack = st }

  -- a branch goes on with these variables, this code and this stack
  abbrev pub go_on : Branch V G → List V → Code → List (Frame V) → Task V G
  go_on b vs c st = Leaf (settled b vs c st)

  -- an ended branch keeps neither variables nor open calls
  abbrev pub ended : Branch V G → ℕ → List ℤ → Close V → Task V G
  ended b t printed e = Leaf (record { own = record b.own { vars = []; printed = printed }; turns = t; code = End; stack = []; close = Some e })

  -- a side starts with an empty printed list
  abbrev pub side_of : Branch V G → G → List V → ℕ → Code → Branch V G
  side_of b g vs t c = record { own = record b.own { vars = vs; depth = suc b.own.depth; printed = []; mark = g }; turns = t; code = c; stack = []; close = None }

  -- the right side gets half of the turns, rounded down, and the left side the rest
  abbrev pub split : Branch V G → ℕ → Blocks → Code → Task V G
  split b t p rest =
      Fork (record b { own = record b.own { vars = m.parting.kept b.own.routine p b.own.vars; mark = m.marks.after_par b.own.mark }; turns = 0; code = rest }) p
      (Leaf (side_of b (m.marks.to_left b.own.mark) (m.parting.to_left b.own.routine p b.own.vars) (t - t / 2) p.left))
      (Leaf (side_of b (m.marks.to_right b.own.mark) (m.parting.to_right b.own.routine p b.own.vars) (t / 2) p.right))

  -- what a turn leaves of a branch with so many turns left
  abbrev pub done : Branch V G → ℕ → Did V G → Task V G
  done b t (On l c st) = go_on (record b { own = l; turns = t }) l.vars c st
  done b t (Splits p rest) = split b t p rest
  done b t (Ends v) = ended b t b.own.printed (Returning v)
  done b t (Dies e) = ended b t b.own.printed (Failing e)

  -- a branch to which an allocation is refused has failed
  abbrev pub told_to : Branch V G → ℕ → Turn V G O → Option V → Task V G
  told_to b t NoTurn v = Leaf b
  told_to b t (Takes o told) (Some v) = done b t (told v)
  told_to b t (Takes o told) None = ended b t b.own.printed (Failing NoRoom)

  -- a waiting parent goes on as its sides have ended
  abbrev pub resumed : Branch V G → Final V → Task V G
  resumed b (Fine vs t p) = go_on (record b { own = record b.own { printed = p }; turns = t }) vs b.code b.stack
  resumed b (GaveBack v t p) = ended b t p (Returning v)
  resumed b (Failed e t p) = ended b t p (Failing e)

  -- how a waiting parent ends whose sides have ended so
  abbrev pub join_of : Branch V G → Blocks → Final V → Final V → Final V
  join_of b p x y = join_final (m.parting.joined b.own.routine p) b.own.vars b.own.printed x y

  -- what a turn asks of the heap
  abbrev pub turn_op : Turn V G O → Option O
  turn_op (Takes o told) = Some o
  turn_op NoTurn = None

  -- the next turn of a branch
  abbrev pub next_turn : Branch V G → Turn V G O
  next_turn b = m.turn b.code b.stack b.own

  -- what the next turn of a leaf asks, if a step is due
  abbrev pub leaf_op : Branch V G → Stage V → Option O
  leaf_op b (Over f) = None
  leaf_op b (Due t) = turn_op (next_turn b)

  -- what a leaf becomes by it
  abbrev pub leaf_on : Branch V G → Stage V → Option V → Task V G
  leaf_on b (Over f) v = Leaf b
  leaf_on b (Due t) v = told_to b t (next_turn b) v

  -- what the event of a node asks of the heap, if the node has one: a leaf's next turn, or the join of a parent whose sides have both ended
  abbrev pub look : Way → Task V G → Option O
  look Here (Leaf b) = leaf_op b (stage b)
  look Here (Fork b p l r) = if_both_over (final l) (final r) None (λ x y. Some m.idle)
  look (GoL w) (Leaf b) = None
  look (GoL w) (Fork b p l r) = look w l
  look (GoR w) (Leaf b) = None
  look (GoR w) (Fork b p l r) = look w r

  -- what the event makes of the tree, given what it is told, or that it is refused
  abbrev pub fill : Way → Task V G → Option V → Task V G
  fill Here (Leaf b) v = leaf_on b (stage b) v
  fill Here (Fork b p l r) v = if_both_over (final l) (final r) (Fork b p l r) (λ x y. resumed b (join_of b p x y))
  fill (GoL w) (Leaf b) v = Leaf b
  fill (GoL w) (Fork b p l r) v = Fork b p (fill w l v) r
  fill (GoR w) (Leaf b) v = Leaf b
  fill (GoR w) (Fork b p l r) v = Fork b p l (fill w r v)
