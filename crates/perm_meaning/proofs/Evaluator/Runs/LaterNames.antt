-- What waits for a branch stays as it is where the branch has made an object more.
use Rattle.std.proofs.Common.{◌≡◌, ◌∙◌, ℕ, ◌≤◌, List, [], ◌∷◌, inl, inr, refl, sym, ap, subst}
use Rattle.perm_tree.specs.UnitTables.{Tables}
use Rattle.perm_meaning.specs.declared.eval.frames.Final as ending
use Rattle.perm_meaning.specs.declared.eval.frames.Final.TheVariants as finals
use Rattle.perm_meaning.specs.declared.eval.frames.Frame.{Frame}
use Rattle.perm_meaning.specs.declared.eval.frames.Frame.TheVariants as frames
use Rattle.perm_meaning.specs.Evaluator.Frames.{code_at, final_by, AllStand, NoneStands, OneStands, StandsFor}
use Rattle.perm_meaning.specs.Machine.{Fine}
use Rattle.perm_meaning.specs.NamedHeap.{Final, Held, Own}
use Rattle.perm_meaning.specs.Names.{Mark, Name, after_object}
use Rattle.perm_meaning.specs.Evaluator.NewNames.{AreNew}
use Rattle.perm_meaning.specs.Evaluator.NumberedValues.{Names}
use Rattle.perm_meaning.specs.Objects.{Objects}
use Rattle.perm_meaning.specs.Evaluator.SimpleStatements.{own_by}
use Rattle.perm_meaning.specs.Evaluator.Runs.{FinalBelow, FrameBelow, FramesBelow}
use Rattle.perm_meaning.specs.Evaluator.Ties.{AreSame, GivesAtMost}
use Rattle.perm_meaning.specs.Evaluator.UnbornNames.{AreUnborn}
use Rattle.perm_meaning.specs.Evaluator.Waits.{Waiting, ForBlock, ForCall, ForLeft, ForRecover, ForRight}
use Rattle.perm_meaning.specs.Evaluator.Writes.{par_at}
use Rattle.perm_meaning.proofs.Evaluator.NewNames.{given-new, new-mark, running-new}
use Rattle.perm_meaning.proofs.Evaluator.Ties.Below.{all-more, all-same}
use Rattle.perm_meaning.proofs.Evaluator.Ties.Stepping.{own-same}
use Rattle.perm_meaning.proofs.Evaluator.UnbornNames.{ahead-before, still-unborn}

-- ---------- more objects ----------
-- a side that has ended refers to some of more objects
pub final-more : (n m : ℕ) → n ≤ m → (x : ending.Final) → FinalBelow n x → FinalBelow m x
final-more n m le (finals.Fine vs t p) b = all-more n m vs le b
final-more n m le (finals.Failed e t p) b = b

-- so does a frame
pub frame-more : (n m : ℕ) → n ≤ m → (f : Frame) → FrameBelow n f → FrameBelow m f
frame-more n m le (frames.Block p rest) b = b
frame-more n m le (frames.Recover p rest) b = b
frame-more n m le (frames.Call c) b = all-more n m c.vars le b
frame-more n m le (frames.Left p) b = all-more n m p.own.vars le b
frame-more n m le (frames.Right p left) b = (all-more n m p.own.vars le b.0, final-more n m le left b.1)

-- so do all frames
pub frames-more : (n m : ℕ) → n ≤ m → (fs : List Frame) → FramesBelow n fs → FramesBelow m fs
frames-more n m le [] b = b
frames-more n m le (f ∷ fs) b = (frame-more n m le f b.0, frames-more n m le fs b.1)

-- ---------- other names of later objects ----------
module _ (u : Tables) (n : ℕ) (names later : Names) (same : AreSame n names later) where
  final-later : (x : ending.Final) → FinalBelow n x → final_by names x ≡ final_by later x
  final-later (finals.Fine vs t p) b = ap (λ (ws : List Held). Fine ws t p) (all-same n names later same vs b)
  final-later (finals.Failed e t p) b = refl

  -- a frame stands for what it did
  pub stands-later : (m : ℕ) (f : Frame) (w : Waiting) → FrameBelow n f → StandsFor u names m f w → StandsFor u later m f w
  stands-later m (frames.Block p rest) w b st = st
  stands-later m (frames.Recover p rest) w b st = st
  stands-later m (frames.Call c) w b st = record { own = st.own; vars = st.vars ∙ all-same n names later same c.vars b; routine = st.routine; is = st.is }
  stands-later m (frames.Left p) w b st = record {
    mark = st.mark;
    heap = st.heap;
    is =
        st.is
        ∙ ap (λ (l : Own). ForLeft (par_at u p.own.«method» p.stmt) (record { turns = p.turns; own = l; heap = st.heap }) (code_at u p.own.«method» p.rest)) (own-same n names later same p.own b st.mark);
  }
  stands-later m (frames.Right p left) w b st = record {
    mark = st.mark;
    heap = st.heap;
    is =
        st.is
        ∙ ap (λ (l : Own). ForRight (par_at u p.own.«method» p.stmt) (record { turns = p.turns; own = l; heap = st.heap }) (final_by names left) (code_at u p.own.«method» p.rest)) (own-same n names later same p.own b.0 st.mark)
        ∙ ap (λ (x : Final). ForRight (par_at u p.own.«method» p.stmt) (record { turns = p.turns; own = own_by later st.mark p.own; heap = st.heap }) x (code_at u p.own.«method» p.rest)) (final-later left b.1);
  }

  -- so do all frames
  pub all-stand-later : (m : ℕ) (fs : List Frame) (ws : List Waiting) → FramesBelow n fs → AllStand u names m fs ws → AllStand u later m fs ws
  all-stand-later m [] [] b NoneStands = NoneStands
  all-stand-later m [] (w ∷ ws) b st = elim st [ ]
  all-stand-later m (f ∷ fs) [] b st = elim st [ ]
  all-stand-later m (f ∷ fs) (w ∷ ws) b (OneStands st rest) = OneStands (stands-later m f w b.0 st) (all-stand-later _ fs ws b.1 rest)

-- ---------- new names ----------
module _ (old new : Objects Name) where
  -- where no branch loses a name, what waits has new names still
  pub kept-new : (keeps : (m : Mark) → AreUnborn old m → AreUnborn new m) → (mark : Mark) (ws : List Waiting) → AreNew old mark ws → AreNew new mark ws
  kept-new keeps mark [] are = keeps mark are
  kept-new keeps mark (ForBlock own rest ∷ ws) are = kept-new keeps mark ws are
  kept-new keeps mark (ForRecover own rest ∷ ws) are = kept-new keeps mark ws are
  kept-new keeps mark (ForCall l into rest ∷ ws) are = kept-new keeps mark ws are
  kept-new keeps mark (ForLeft p m rest ∷ ws) are = (keeps mark are.0, are.1, keeps _ are.2, kept-new keeps _ ws are.3)
  kept-new keeps mark (ForRight p m x rest ∷ ws) are = (keeps mark are.0, are.1, kept-new keeps _ ws are.2)

  -- so has it where the branch gives one name at most
  pub grown-new : (mark : Mark) (ws : List Waiting) → GivesAtMost mark old new → AreNew old mark ws → (next : Mark) × (next.path ≡ mark.path) × AreNew new next ws
  grown-new mark ws (inl keeps) are = (mark, refl, kept-new keeps mark ws are)
  grown-new mark ws (inr gives) are =
      let unborn = running-new old mark ws are in
      let more = new-mark old mark (after_object mark) ws refl (λ name ahead. unborn name (ahead-before mark name ahead)) are in (
        after_object mark,
        refl,
        subst (λ (o : Objects Name). AreNew o (after_object mark) ws) (sym gives.1) (given-new old mark (after_object mark) gives.0 [] ws refl (still-unborn old mark gives.0 unborn) more),
      )

  -- the mark of the branch may be any that has new names
  pub step-new : (mark next : Mark) (ws : List Waiting) → GivesAtMost mark old new → next.path ≡ mark.path → AreUnborn new next → AreNew old mark ws → AreNew new next ws
  step-new mark next ws gives path unborn are =
      let grown = grown-new mark ws gives are in
      new-mark new grown.0 next ws (path ∙ sym grown.1) unborn grown.2
