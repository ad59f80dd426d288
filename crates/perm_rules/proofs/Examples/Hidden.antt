-- What is hidden at a place, by computation.
use Rattle.std.specs.Prelude.{◌≡◌, ℕ, true, false, List, [], ◌∷◌, map, nat_eq, cond, option_map, Some, None, refl}
use Rattle.perm_tree.specs.declared.ast.ClassDecl.{ClassDecl}
use Rattle.perm_tree.specs.declared.ast.Method.{Method}
use Rattle.perm_tree.specs.declared.ast.Perm.TheVariants.{Isolated, Writable}
use Rattle.perm_tree.specs.declared.ast.Stmt.{Stmt}
use Rattle.perm_tree.specs.declared.errors.TypeKind.TheVariants.{Hidden}
use Rattle.perm_tree.specs.Code.{Routine}
use Rattle.perm_tree.specs.CodeOf.{code_of}
use Rattle.perm_tree.specs.UnitTables.{Tables}
use Rattle.perm_tree.specs.Vars.{below}
use Rattle.perm_tree.proofs.Builder.{Source, class, field, «method», long, ref, num, value, var, init, new, get, init_recover, listing_of, unit_of}
use Rattle.perm_tree.proofs.Programs.{unit, p6, run_method}
use Rattle.perm_rules.specs.AtPlace.{hidden_at, routine_at, context_at, stmt_code_at}
use Rattle.perm_rules.specs.FirstRefused.{entries, first_refused, unit_refusal}
use Rattle.perm_rules.specs.Goes.{context, first_live, hiding}
use Rattle.perm_rules.proofs.Examples.Kinds.{with_lines}
use Rattle.perm_rules.proofs.Examples.Places.{flow, GoesTo}

-- the places of the recover block's statements, of the recover block and of what stands before it
places_of_one : map (hidden_at (unit p6) 0) (0 ∷ 1 ∷ 2 ∷ 3 ∷ 4 ∷ []) ≡ [] ∷ [] ∷ (0 ∷ 3 ∷ []) ∷ (0 ∷ 3 ∷ []) ∷ [] ∷ []
places_of_one = refl

-- `isolated Box z = recover { writable Box y = new Box(); isolated Box q = recover { isolated Box e = new Box(); give e; }; give y; };`
abbrev nested : Tables
nested = unit (with_lines (
    init_recover (ref Isolated "Box") "z" (
    init (ref Writable "Box") "y" (new "Box")
    ∷ init_recover (ref Isolated "Box") "q" (init (ref Isolated "Box") "e" (new "Box") ∷ []) "e"
    ∷ []
    ) "y"
    ∷ []))

-- `this` and w are hidden in the outer block, and y too in the inner one
places_of_two : map (hidden_at nested 4) (3 ∷ 4 ∷ 5 ∷ 6 ∷ 7 ∷ []) ≡ [] ∷ (0 ∷ 4 ∷ []) ∷ (0 ∷ 4 ∷ 6 ∷ 0 ∷ 4 ∷ []) ∷ (0 ∷ 4 ∷ []) ∷ [] ∷ []
places_of_two = refl

-- what is hidden at the parts of a method
abbrev hidden_in : Tables → Routine → List (List ℕ)
hidden_in u r = map (λ e. e.context.hidden) (entries (context (code_of u) r) r.code (first_live r))

-- b, f, w, the head of z, y, the head of q, e, `give e`, `give y` and `return`
parts_of_two : hidden_in nested (routine_at nested 4) ≡ [] ∷ [] ∷ [] ∷ [] ∷ (0 ∷ 4 ∷ []) ∷ (0 ∷ 4 ∷ []) ∷ (0 ∷ 4 ∷ 6 ∷ 0 ∷ 4 ∷ []) ∷ (0 ∷ 4 ∷ 6 ∷ 0 ∷ 4 ∷ []) ∷ (0 ∷ 4 ∷ []) ∷ [] ∷ []
parts_of_two = refl

-- at a place that isn't there nothing is hidden, nor in a method that isn't there
nowhere : hidden_at nested 4 99 ≡ []
nowhere = refl

no-method : hidden_at nested 9 5 ≡ []
no-method = refl

-- ---------- methods whose spans overlap ----------
-- a method `Look` with `long z = this.n;`, and `Run` with a recover block
abbrev apart : Source
apart =
    class "Box" (field long "n" ∷ «method» long "Look" [] Writable (init long "z" (get "this" "n") ∷ []) (value (var "z")) ∷ [])
    ∷ class "Main" (run_method (init_recover (ref Isolated "Box") "c" (init (ref Writable "Box") "y" (new "Box") ∷ []) "y" ∷ []) (num 0) ∷ [])
    ∷ []

-- the statement of `Look` is told to stand behind the head of the recover block, which ends behind it; each method alone is in text order, but not one behind the other, as those of a program are
abbrev moved : Stmt → Stmt
moved s = record s { span = record { start = cond (nat_eq s.head.end s.span.end) 10000 s.span.start; end = cond (nat_eq s.head.end s.span.end) 10001 20000 } }

abbrev ending_late : Method → Method
ending_late d = record d { span = record { start = d.span.start; end = 30000 } }

abbrev with_late_ends : ClassDecl → ClassDecl
with_late_ends c = record c { methods = map ending_late c.methods }

abbrev overlapping : Tables
overlapping = unit_of (record (listing_of apart) { classes = map with_late_ends (listing_of apart).classes; stmts = map moved (listing_of apart).stmts })

overlapping-accepted : unit_refusal (code_of overlapping) ≡ None
overlapping-accepted = refl

-- nothing is hidden in `Look`, and so its statement goes on
overlapping-hidden : hidden_at overlapping 0 0 ≡ []
overlapping-hidden = refl

overlapping-goes : flow overlapping 0 0 (below 1) ≡ GoesTo (true ∷ true ∷ false ∷ false ∷ false ∷ false ∷ [])
overlapping-goes = refl

-- it is refused where `this` is taken to be hidden there
overlapping-otherwise : option_map (λ e. e.kind) (first_refused (hiding (0 ∷ []) (context_at overlapping 0 0)) (stmt_code_at overlapping 0 0) (below 1)) ≡ Some Hidden
overlapping-otherwise = refl
