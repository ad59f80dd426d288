-- Worked programs without a par. A variant is made by the lines in which it differs.
use Rattle.std.specs.Prelude.{ℕ, true, List, [], ◌∷◌}
use Rattle.perm_tree.specs.declared.ast.Perm.{Perm}
use Rattle.perm_tree.specs.declared.ast.Perm.TheVariants.{Isolated, Immutable, Readable, Writable}
use Rattle.perm_tree.specs.declared.ast.BinaryOp.TheVariants.{Div, Rem, Plus, Minus, Less, Equal, Differs}
use Rattle.perm_tree.specs.UnitTables.{Tables}
use Rattle.perm_tree.proofs.Builder.{Writes, Member, Line, Source, listing_of, unit_of, class, field, «method», param, long, bool, ref, array, num, truth, null, var, binary, value, consume, call, init, assign, expr, consumed, get, get_item, new, result_of, init_recover, set_field, print, if_else, while, beside}

-- ---------- common parts ----------
-- `long Run(immutable long[] input) writable`
abbrev pub run_method : List Line → Writes ℕ → Writes Member
run_method ls e = «method» long "Run" (param (array Immutable) "input" ∷ []) Writable ls (value e)

-- a program of the class Main alone
abbrev pub main_only : List (Writes Member) → Source
main_only ms = class "Main" ms ∷ []

abbrev pub unit : Source → Tables
unit s = unit_of (listing_of s)

-- ---------- two fields, read back and added ----------
abbrev pub p1_with : Line → Source
p1_with line8 =
    main_only (
    field long "x"
    ∷ field long "y"
    ∷ run_method (
    init (ref Isolated "Main") "p" (new "Main")
    ∷ set_field "p" "x" (value (num 3))
    ∷ set_field "p" "y" (value (num 4))
    ∷ line8
    ∷ init long "b" (get "p" "y")
    ∷ print (binary (var "a") Plus (var "b"))
    ∷ []
    ) (num 0)
    ∷ []
    )

abbrev pub p1 : Source
p1 = p1_with (init long "a" (get "p" "x"))

-- in line 8 the object is consumed, and so line 9 is Gone
abbrev pub p1_gone : Source
p1_gone = p1_with (init (ref Immutable "Main") "q" (consumed "p"))

-- ---------- a list of the input, built in a recover block ----------
abbrev pub p2 : Source
p2 =
    class "Cell" (
    field long "value"
    ∷ field (ref Writable "Cell") "next"
    ∷ «method» long "Total" [] Readable (
    init long "s" (get "this" "value")
    ∷ init (ref Readable "Cell") "n" (get "this" "next")
    ∷ if_else (binary (var "n") Equal null) [] (
    init long "t" (result_of (call "n" "Total" []))
    ∷ assign "s" (expr (binary (var "s") Plus (var "t")))
    ∷ []
    )
    ∷ []
    ) (value (var "s"))
    ∷ []
    )
    ∷ class "Main" (
    field (ref Immutable "Cell") "list"
    ∷ run_method (
    init_recover (ref Immutable "Cell") "c" (
    init (ref Writable "Cell") "head" (expr null)
    ∷ init long "i" (expr (num 0))
    ∷ init long "n" (get "input" "Length")
    ∷ while (binary (var "i") Less (var "n")) (
    init (ref Writable "Cell") "k" (new "Cell")
    ∷ init long "v" (get_item "input" (var "i"))
    ∷ set_field "k" "value" (value (var "v"))
    ∷ set_field "k" "next" (value (var "head"))
    ∷ assign "head" (expr (var "k"))
    ∷ assign "i" (expr (binary (var "i") Plus (num 1)))
    ∷ []
    )
    ∷ init (ref Readable "Cell") "r" (expr (var "head"))
    ∷ []
    ) "r"
    ∷ set_field "this" "list" (value (var "c"))
    ∷ init long "total" (result_of (call "c" "Total" []))
    ∷ print (var "total")
    ∷ []
    ) (var "total")
    ∷ []
    )
    ∷ []

-- ---------- a variable that is consumed in a loop ----------
abbrev pub p5_with : Writes ℕ → Line → Line → Source
p5_with test line9 line10 =
    class "Box" (field long "n" ∷ [])
    ∷ class "Main" (
    run_method (
    init (ref Isolated "Box") "b" (new "Box")
    ∷ init long "i" (expr (num 0))
    ∷ while test (line9 ∷ line10 ∷ [])
    ∷ []
    ) (var "i")
    ∷ []
    )
    ∷ []

abbrev i_below_2 : Writes ℕ
i_below_2 = binary (var "i") Less (num 2)

abbrev frozen_b : Line
frozen_b = init (ref Immutable "Box") "f" (consumed "b")

abbrev next_i : Line
next_i = assign "i" (expr (binary (var "i") Plus (num 1)))

abbrev new_b : Line
new_b = assign "b" (new "Box")

-- line 9 is Gone
abbrev pub p5 : Source
p5 = p5_with i_below_2 frozen_b next_i

-- line 10 makes a new object, and the program is accepted
abbrev pub p5_new : Source
p5_new = p5_with i_below_2 frozen_b (beside new_b next_i)

-- the test of the loop, in line 8, is Gone
abbrev pub p5_test : Source
p5_test = p5_with (binary (var "b") Differs null) (beside new_b frozen_b) next_i

-- ---------- a readable variable round a recover block ----------
abbrev pub p6_with : Perm → Source
p6_with line7 =
    class "Box" (field (ref Readable "Box") "other" ∷ [])
    ∷ class "Main" (
    run_method (
    init (ref Isolated "Box") "a" (new "Box")
    ∷ init (ref line7 "Box") "r" (consumed "a")
    ∷ init_recover (ref Isolated "Box") "x" (
    init (ref Writable "Box") "w" (new "Box")
    ∷ set_field "w" "other" (value (var "r"))
    ∷ []
    ) "w"
    ∷ []
    ) (num 0)
    ∷ []
    )
    ∷ []

-- the variable is Hidden in line 10
abbrev pub p6 : Source
p6 = p6_with Readable

-- an immutable one isn't hidden, and the program is accepted
abbrev pub p6_immutable : Source
p6_immutable = p6_with Immutable

-- ---------- a receiver that is consumed as an argument ----------
-- line 9 is Gone
abbrev pub p7 : Source
p7 =
    class "Box" («method» long "Eat" (param (ref Immutable "Box") "o" ∷ []) Writable [] (value (num 0)) ∷ [])
    ∷ class "Main" (
    run_method (
    init (ref Isolated "Box") "y" (new "Box")
    ∷ init long "t" (result_of (call "y" "Eat" (consume "y" ∷ [])))
    ∷ []
    ) (var "t")
    ∷ []
    )
    ∷ []

-- ---------- quotient, remainder and difference of two numbers of the input ----------
abbrev pub p8 : Source
p8 =
    main_only (
    run_method (
    init long "a" (get_item "input" (num 0))
    ∷ init long "b" (get_item "input" (num 1))
    ∷ print (binary (var "a") Div (var "b"))
    ∷ print (binary (var "a") Rem (var "b"))
    ∷ []
    ) (binary (var "a") Minus (var "b"))
    ∷ []
    )

-- ---------- a ring of two objects that share a leaf ----------
abbrev pub p12 : Source
p12 =
    class "Leaf" (field long "n" ∷ [])
    ∷ class "Ring" (field (ref Writable "Ring") "next" ∷ field (ref Immutable "Leaf") "leaf" ∷ [])
    ∷ class "Main" (
    field (ref Writable "Ring") "ring"
    ∷ run_method (
    init (ref Isolated "Leaf") "m" (new "Leaf")
    ∷ set_field "m" "n" (value (num 9))
    ∷ init (ref Immutable "Leaf") "f" (consumed "m")
    ∷ init (ref Writable "Ring") "a" (new "Ring")
    ∷ init (ref Writable "Ring") "b" (new "Ring")
    ∷ set_field "a" "next" (value (var "b"))
    ∷ set_field "b" "next" (value (var "a"))
    ∷ set_field "a" "leaf" (value (var "f"))
    ∷ set_field "b" "leaf" (value (var "f"))
    ∷ set_field "this" "ring" (value (var "a"))
    ∷ []
    ) (num 0)
    ∷ []
    )
    ∷ []

-- ---------- a method that calls itself without end ----------
abbrev pub p13 : Source
p13 =
    main_only (
    «method» long "F" [] Readable (init long "t" (result_of (call "this" "F" [])) ∷ []) (value (var "t"))
    ∷ run_method (init long "t" (result_of (call "this" "F" [])) ∷ []) (var "t")
    ∷ []
    )

-- ---------- the input kept in a field ----------
abbrev pub p14 : Source
p14 =
    main_only (
    field (array Immutable) "kept"
    ∷ field bool "on"
    ∷ run_method (
    set_field "this" "kept" (value (var "input"))
    ∷ set_field "this" "on" (value (truth true))
    ∷ []
    ) (num 0)
    ∷ []
    )
