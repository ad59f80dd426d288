-- Worked programs with a par. A variant is made by the lines in which it differs.
use Prim.Native.String.{String}
use Rattle.std.specs.Prelude.{ℕ, List, [], ◌∷◌}
use Rattle.perm_tree.specs.declared.ast.Perm.TheVariants.{Isolated, Immutable, Readable, Writable}
use Rattle.perm_tree.specs.declared.ast.BinaryOp.TheVariants.{Mul, Div, Plus, Minus, Equal}
use Rattle.perm_tree.proofs.Builder.{Writes, Line, Source, class, field, «method», param, long, ref, array, num, null, var, binary, value, consume, call, init, assign, expr, consumed, get, take, get_item, new, new_array, result_of, assign_recover, set_field, print, if_else, par}
use Rattle.perm_tree.proofs.Programs.{run_method, main_only}

-- ---------- a tree of so many levels, built and added up in parallel ----------
abbrev node : Writes (Unit {0})
node =
    class "Node" (
    field (ref Writable "Node") "left"
    ∷ field (ref Writable "Node") "right"
    ∷ field long "value"
    ∷ «method» long "Sum" [] Readable (
    init long "s" (expr (num 0))
    ∷ init (ref Readable "Node") "l" (get "this" "left")
    ∷ init (ref Readable "Node") "r" (get "this" "right")
    ∷ if_else (binary (var "l") Equal null) (assign "s" (get "this" "value") ∷ []) (
    init long "a" (expr (num 0))
    ∷ init long "b" (expr (num 0))
    ∷ par (assign "a" (result_of (call "l" "Sum" [])) ∷ []) (assign "b" (result_of (call "r" "Sum" [])) ∷ [])
    ∷ assign "s" (expr (binary (var "a") Plus (var "b")))
    ∷ []
    )
    ∷ []
    ) (value (var "s"))
    ∷ []
    )

abbrev depth_less : Writes ℕ
depth_less = binary (var "depth") Minus (num 1)

abbrev at_twice : Writes ℕ
at_twice = binary (var "at") Mul (num 2)

-- a half of the tree, whose first leaf has this place
abbrev half : String → Writes ℕ → Line
half x at = assign x (result_of (call "this" "Build" (value depth_less ∷ value at ∷ value (var "input") ∷ [])))

abbrev pub p3 : ℕ → Source
p3 size =
    node
    ∷ class "Main" (
    «method» (ref Isolated "Node") "Build" (param long "depth" ∷ param long "at" ∷ param (array Immutable) "input" ∷ []) Readable (
    init (ref Isolated "Node") "n" (new "Node")
    ∷ if_else (binary (var "depth") Equal (num 0)) (
    init long "v" (get_item "input" (var "at"))
    ∷ set_field "n" "value" (value (var "v"))
    ∷ []
    ) (
    init (ref Isolated "Node") "l" (expr null)
    ∷ init (ref Isolated "Node") "r" (expr null)
    ∷ par (half "l" at_twice ∷ []) (half "r" (binary at_twice Plus (num 1)) ∷ [])
    ∷ assign_recover "n" (
    init (ref Writable "Node") "w" (consumed "n")
    ∷ set_field "w" "left" (consume "l")
    ∷ set_field "w" "right" (consume "r")
    ∷ []
    ) "w"
    ∷ []
    )
    ∷ []
    ) (consume "n")
    ∷ run_method (
    init (ref Isolated "Node") "root" (result_of (call "this" "Build" (value (num size) ∷ value (num 0) ∷ value (var "input") ∷ [])))
    ∷ init long "total" (result_of (call "root" "Sum" []))
    ∷ print (var "total")
    ∷ []
    ) (num 0)
    ∷ []
    )
    ∷ []

-- ---------- an isolated object on the left, the rest on the right ----------
abbrev pub p4_with : Line → Line → Line → Source
p4_with line15 line18 line20 =
    class "Child" (
    field long "n"
    ∷ «method» long "Bump" [] Writable (
    init long "v" (get "this" "n")
    ∷ set_field "this" "n" (value (binary (var "v") Plus (num 1)))
    ∷ []
    ) (value (binary (var "v") Plus (num 1)))
    ∷ []
    )
    ∷ class "Main" (
    field (ref Isolated "Child") "child"
    ∷ field long "mark"
    ∷ run_method (
    init (ref Isolated "Child") "c" (new "Child")
    ∷ set_field "this" "child" (consume "c")
    ∷ line15
    ∷ init long "got" (expr (num 0))
    ∷ par (line18 ∷ []) (line20 ∷ [])
    ∷ set_field "this" "child" (consume "d")
    ∷ print (var "got")
    ∷ []
    ) (num 0)
    ∷ []
    )
    ∷ []

abbrev take_child : Line
take_child = init (ref Isolated "Child") "d" (take "this" "child")

abbrev bump : Line
bump = assign "got" (result_of (call "d" "Bump" []))

abbrev mark : Writes ℕ → Line
mark e = set_field "this" "mark" (value e)

abbrev pub p4 : Source
p4 = p4_with take_child bump (mark (num 5))

-- line 15 reads the isolated field without `consume`: NeedsConsume
abbrev pub p4_read : Source
p4_read = p4_with (init (ref Isolated "Child") "d" (get "this" "child")) bump (mark (num 5))

-- both sides mention the writable `this`: ParPermission at the par, in line 17
abbrev pub p4_both : Source
p4_both = p4_with take_child (mark (num 4)) (mark (num 5))

-- the right side reads what the left one assigns: ParShared at the par, in line 17
abbrev pub p4_shared : Source
p4_shared = p4_with take_child bump (mark (var "got"))

-- ---------- a left side that divides by zero ----------
abbrev zero_by : List Line → List Line → Source
zero_by ls ms = main_only (run_method (init long "z" (expr (num 0)) ∷ par ls ms ∷ []) (num 0) ∷ [])

abbrev by_zero : Line
by_zero = print (binary (num 1) Div (var "z"))

abbrev pub p9 : Source
p9 = zero_by (print (num 1) ∷ by_zero ∷ []) (print (num 2) ∷ [])

-- the right side makes an array
abbrev pub p10 : Source
p10 = zero_by (by_zero ∷ []) (init (array Writable) "a" (new_array (num 8)) ∷ [])

-- ---------- a number from each side ----------
abbrev pub p11_with : Line → Source
p11_with line8 =
    main_only (
    run_method (
    init long "a" (expr (num 0))
    ∷ init long "b" (expr (num 0))
    ∷ par (assign "a" (expr (num 1)) ∷ []) (line8 ∷ [])
    ∷ print (binary (var "a") Plus (var "b"))
    ∷ []
    ) (num 0)
    ∷ []
    )

abbrev pub p11 : Source
p11 = p11_with (assign "b" (expr (num 2)))

-- both sides assign one variable: ParShared at the par, in line 5
abbrev pub p11_shared : Source
p11_shared = p11_with (assign "a" (expr (num 2)))
