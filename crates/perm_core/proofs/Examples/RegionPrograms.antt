-- Programs in which regions move in every way: into fields and out of them, through calls, recover blocks and pars.
use Prim.Native.String.{String}
use Rattle.std.specs.Prelude.{List, [], ◌∷◌}
use Rattle.perm_tree.specs.declared.ast.Rhs.{Rhs}
use Rattle.perm_tree.specs.declared.ast.Perm.TheVariants.{Isolated, Immutable, Readable, Writable}
use Rattle.perm_tree.specs.declared.ast.BinaryOp.TheVariants.{Plus, Less, Div}
use Rattle.perm_tree.proofs.Builder.{Writes, Line, Member, Source, class, field, «method», param, long, ref, num, var, binary, value, consume, call, call_consumed, init, assign, expr, consumed, get, take, new, result_of, init_recover, set_field, run, while, par}
use Rattle.perm_tree.proofs.Programs.{run_method}

abbrev isolated_node : String → Writes Rhs → Line
isolated_node x r = init (ref Isolated "Node") x r

-- a node with a field of each permission, and a method of each kind
abbrev node : List (Writes Member)
node =
    field (ref Writable "Node") "next"
    ∷ field (ref Readable "Node") "other"
    ∷ field (ref Immutable "Leaf") "leaf"
    ∷ field (ref Isolated "Node") "child"
    ∷ field long "v"
    ∷ «method» (ref Writable "Node") "Same" [] Writable [] (value (var "this"))
    ∷ «method» (ref Readable "Node") "Next" [] Readable (init (ref Readable "Node") "r" (get "this" "next") ∷ []) (value (var "r"))
    ∷ «method» (ref Isolated "Node") "Hand" [] Writable (init (ref Isolated "Node") "c" (take "this" "child") ∷ []) (consume "c")
    ∷ «method» long "Set" (param long "x" ∷ []) Writable (set_field "this" "v" (value (var "x")) ∷ []) (value (var "x"))
    ∷ «method» long "Read" [] Readable (init long "s" (get "this" "v") ∷ []) (value (var "s"))
    ∷ «method» long "Keep" (param (ref Isolated "Node") "n" ∷ []) Writable (set_field "this" "child" (consume "n") ∷ []) (value (num 0))
    ∷ []

-- all goes well
abbrev pub moving_regions : Source
moving_regions =
    class "Leaf" (field long "n" ∷ [])
    ∷ class "Node" node
    ∷ class "Main" (
    field (ref Isolated "Node") "kept"
    ∷ run_method (
    init long "s" (expr (num 0))
    ∷ init long "t" (expr (num 0))
    ∷ isolated_node "a" (new "Node")
    -- a consumed receiver: the writable result is raised
    ∷ isolated_node "b" (result_of (call_consumed "a" "Same" []))
    ∷ isolated_node "c" (new "Node")
    ∷ set_field "b" "child" (consume "c")
    -- a lent receiver with an isolated result
    ∷ isolated_node "d" (result_of (call "b" "Hand" []))
    -- both sides lend what is isolated
    ∷ par (assign "s" (result_of (call "b" "Set" (value (num 3) ∷ []))) ∷ []) (assign "t" (result_of (call "d" "Set" (value (num 4) ∷ []))) ∷ [])
    ∷ init (ref Writable "Node") "w" (consumed "b")
    -- the right side stands alone
    ∷ par (assign "s" (result_of (call "w" "Set" (value (num 1) ∷ []))) ∷ []) (assign "t" (result_of (call "d" "Read" [])) ∷ [])
    -- an argument that is consumed
    ∷ run (call "w" "Keep" (consume "d" ∷ []))
    ∷ init_recover (ref Isolated "Node") "e" (
    init (ref Writable "Node") "x" (new "Node")
    ∷ init (ref Writable "Node") "y" (new "Node")
    ∷ set_field "x" "next" (value (var "y"))
    ∷ set_field "y" "next" (value (var "x"))
    ∷ set_field "y" "other" (value (var "y"))
    ∷ isolated_node "g" (new "Node")
    ∷ set_field "x" "child" (consume "g")
    ∷ []
    ) "x"
    ∷ init (ref Immutable "Node") "f" (consumed "e")
    -- what an isolated field of a frozen object leads to is frozen when it is read
    ∷ init (ref Immutable "Node") "h" (get "f" "child")
    -- an immutable receiver: the readable result is raised
    ∷ init (ref Immutable "Node") "i" (result_of (call "f" "Next" []))
    ∷ init_recover (ref Immutable "Node") "j" (init (ref Readable "Node") "r" (new "Node") ∷ []) "r"
    ∷ init_recover (ref Isolated "Node") "k" (isolated_node "z" (new "Node") ∷ []) "z"
    ∷ init (ref Readable "Node") "q" (expr (var "w"))
    -- neither side stands alone, and both read
    ∷ par (
    init (ref Readable "Node") "m" (get "q" "next")
    ∷ assign "s" (result_of (call "q" "Read" []))
    ∷ init (ref Writable "Node") "o" (new "Node")
    ∷ set_field "o" "other" (value (var "q"))
    ∷ []
    ) (
    isolated_node "u" (new "Node")
    ∷ init (ref Writable "Node") "p" (consumed "u")
    ∷ set_field "p" "v" (value (num 2))
    ∷ assign "t" (get "q" "v")
    ∷ []
    )
    ∷ set_field "this" "kept" (consume "k")
    ∷ isolated_node "n" (take "this" "kept")
    ∷ while (binary (var "s") Less (num 3)) (assign "n" (new "Node") ∷ assign "s" (expr (binary (var "s") Plus (num 1))) ∷ [])
    ∷ []
    ) (binary (var "s") Plus (var "t"))
    ∷ []
    )
    ∷ []

-- the same forms within pars within pars, where one side fails
abbrev pub failing_regions : Source
failing_regions =
    class "Leaf" (field long "n" ∷ [])
    ∷ class "Node" node
    ∷ class "Main" (
    field (ref Writable "Node") "held"
    ∷ run_method (
    init long "s" (expr (num 0))
    ∷ init long "t" (expr (num 0))
    ∷ isolated_node "a" (new "Node")
    ∷ isolated_node "b" (new "Node")
    ∷ par (
    -- the left side stands alone
    init_recover (ref Isolated "Node") "x" (
    init (ref Writable "Node") "y" (consumed "a")
    ∷ init long "l" (expr (num 0))
    ∷ par (set_field "y" "v" (value (num 1)) ∷ []) (assign "l" (result_of (call "b" "Set" (value (num 5) ∷ []))) ∷ [])
    ∷ set_field "y" "v" (value (var "l"))
    ∷ []
    ) "y"
    ∷ assign "a" (consumed "x")
    ∷ assign "s" (expr (binary (num 1) Div (var "s")))
    ∷ []
    ) (
    init (ref Writable "Node") "z" (new "Node")
    ∷ set_field "this" "held" (value (var "z"))
    ∷ assign "t" (result_of (call "z" "Set" (value (num 7) ∷ [])))
    ∷ []
    )
    ∷ []
    ) (var "t")
    ∷ []
    )
    ∷ []
