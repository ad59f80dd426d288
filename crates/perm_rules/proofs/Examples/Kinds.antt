-- Small programs for the kinds of refusal, and for what is allowed beside them.
use Prim.Native.String.{String}
use Rattle.std.specs.Prelude.{◌≡◌, true, List, [], ◌∷◌, refl, codes}
use Rattle.perm_tree.specs.declared.ast.Perm.{Perm}
use Rattle.perm_tree.specs.declared.ast.Perm.TheVariants.{Isolated, Immutable, Readable, Writable}
use Rattle.perm_tree.specs.declared.ast.BinaryOp.TheVariants.{Plus, Equal}
use Rattle.perm_tree.specs.declared.errors.TypeKind.TheVariants.{UnknownName, WrongKind, Gone, NeedsConsume, NotAllowedThrough, PermissionTooWeak, Hidden, BadGive, ParShared, ParPermission}
use Rattle.perm_tree.specs.declared.ast.Rhs.{Rhs}
use Rattle.perm_tree.proofs.Builder.{Writes, Line, Source, class, field, «method», param, long, bool, ref, num, truth, null, var, binary, negative, value, consume, call, call_consumed, declare, init, assign, expr, consumed, get, take, get_item, new, new_array, result_of, init_recover, assign_recover, set_field, set_item, run, print, if_only, if_else, par}
use Rattle.perm_tree.proofs.Programs.{run_method}
use Rattle.perm_rules.proofs.Examples.Verdicts.{Verdict, verdict, refused_text, Accepted, Refused}

-- a class with a field of each permission, and methods with each kind of receiver
abbrev box : Writes (Unit {0})
box =
    class "Box" (
    field long "n"
    ∷ field (ref Isolated "Box") "own"
    ∷ field (ref Immutable "Box") "kept"
    ∷ field (ref Readable "Box") "seen"
    ∷ field (ref Writable "Box") "next"
    ∷ «method» (ref Writable "Box") "Self" [] Writable [] (value (var "this"))
    ∷ «method» (ref Readable "Box") "See" (param (ref Readable "Box") "o" ∷ []) Readable [] (value (var "o"))
    ∷ «method» long "Eat" [] Isolated [] (value (num 1))
    ∷ «method» long "Put" (param (ref Writable "Box") "o" ∷ []) Writable (set_field "this" "next" (value (var "o")) ∷ []) (value (num 0))
    ∷ []
    )

-- `Run` has an isolated b, an immutable f and a writable w, and then these lines, of which the first is line 26
abbrev pub with_lines : List Line → Source
with_lines ls =
    box
    ∷ class "Main" (
    run_method (
    init (ref Isolated "Box") "b" (new "Box")
    ∷ init (ref Immutable "Box") "f" (new "Box")
    ∷ init (ref Writable "Box") "w" (new "Box")
    ∷ ls
    ) (num 0)
    ∷ []
    )
    ∷ []

abbrev told : List Line → Verdict
told ls = verdict (with_lines ls)

-- `perm Box x = r;`
abbrev init_box : Perm → String → Writes Rhs → Line
init_box p x r = init (ref p "Box") x r

-- `perm Box z = recover { ls give x; };`
abbrev recovered : Perm → List Line → String → Line
recovered p ls x = init_recover (ref p "Box") "z" ls x

-- ---------- names that aren't known ----------
-- `print z;`
unknown-variable : told (print (var "z") ∷ []) ≡ Refused UnknownName 26 5
unknown-variable = refl

-- `long z = z + 1;`: a variable is known in its own right side
variable-in-its-right-side : told (init long "z" (expr (binary (var "z") Plus (num 1))) ∷ []) ≡ Refused Gone 26 5
variable-in-its-right-side = refl

-- `if (true) { long z = 1; } print z;`
variable-behind-its-block : told (if_only (truth true) (init long "z" (expr (num 1)) ∷ []) ∷ print (var "z") ∷ []) ≡ Refused UnknownName 29 5
variable-behind-its-block = refl

-- `long z = w.none;`
unknown-field : told (init long "z" (get "w" "none") ∷ []) ≡ Refused UnknownName 26 5
unknown-field = refl

-- `long z = w.Eat;`: a method is no field
method-as-field : told (init long "z" (get "w" "Eat") ∷ []) ≡ Refused UnknownName 26 5
method-as-field = refl

-- `w.n();`: a field is no method
field-as-method : told (run (call "w" "n" []) ∷ []) ≡ Refused UnknownName 26 5
field-as-method = refl

-- ---------- shapes that don't fit ----------
-- `long z = true;`
truth-into-number : told (init long "z" (expr (truth true)) ∷ []) ≡ Refused WrongKind 26 5
truth-into-number = refl

-- `print 1 + true;`
truth-added : told (print (binary (num 1) Plus (truth true)) ∷ []) ≡ Refused WrongKind 26 5
truth-added = refl

-- `print -true;`
truth-negated : told (print (negative (truth true)) ∷ []) ≡ Refused WrongKind 26 5
truth-negated = refl

-- `print null;`
null-printed : told (print null ∷ []) ≡ Refused WrongKind 26 5
null-printed = refl

-- `if (1) { }`
number-tested : told (if_only (num 1) [] ∷ []) ≡ Refused WrongKind 26 5
number-tested = refl

-- `bool z = w == f;`
references-compared : told (init bool "z" (expr (binary (var "w") Equal (var "f"))) ∷ []) ≡ Refused WrongKind 26 5
references-compared = refl

-- `bool z = null == null;`
nulls-compared : told (init bool "z" (expr (binary null Equal null)) ∷ []) ≡ Refused WrongKind 26 5
nulls-compared = refl

-- `long y = 1; long z = consume y;`
number-consumed : told (init long "y" (expr (num 1)) ∷ init long "z" (consumed "y") ∷ []) ≡ Refused WrongKind 27 5
number-consumed = refl

-- `writable Box z = new Main();`
other-class-made : told (init_box Writable "z" (new "Main") ∷ []) ≡ Refused WrongKind 26 5
other-class-made = refl

-- `writable Box z = new long[1];`
array-into-object : told (init_box Writable "z" (new_array (num 1)) ∷ []) ≡ Refused WrongKind 26 5
array-into-object = refl

-- `long z = w.kept;`
object-into-number : told (init long "z" (get "w" "kept") ∷ []) ≡ Refused WrongKind 26 5
object-into-number = refl

-- `long y = 1; y.n = 2;`
field-of-number : told (init long "y" (expr (num 1)) ∷ set_field "y" "n" (value (num 2)) ∷ []) ≡ Refused WrongKind 27 5
field-of-number = refl

-- `long z = w[0];`
item-of-object : told (init long "z" (get_item "w" (num 0)) ∷ []) ≡ Refused WrongKind 26 5
item-of-object = refl

-- `input.Length = 1;`
length-assigned : told (set_field "input" "Length" (value (num 1)) ∷ []) ≡ Refused WrongKind 26 5
length-assigned = refl

-- `input.Length();`
length-called : told (run (call "input" "Length" []) ∷ []) ≡ Refused WrongKind 26 5
length-called = refl

-- `w.See();`
argument-missing : told (run (call "w" "See" []) ∷ []) ≡ Refused WrongKind 26 5
argument-missing = refl

-- `w.See(1);`
number-as-object : told (run (call "w" "See" (value (num 1) ∷ [])) ∷ []) ≡ Refused WrongKind 26 5
number-as-object = refl

-- `immutable Box z = consume w.kept;`: only an isolated field is taken
immutable-field-taken : told (init_box Immutable "z" (take "w" "kept") ∷ []) ≡ Refused WrongKind 26 5
immutable-field-taken = refl

-- `long z = recover { give b; };`
number-recovered : told (init_recover long "z" [] "b" ∷ []) ≡ Refused WrongKind 26 5
number-recovered = refl

-- ---------- variables that are gone ----------
-- `long z; print z;`
declared-only : told (declare long "z" ∷ print (var "z") ∷ []) ≡ Refused Gone 27 5
declared-only = refl

-- `b.own = consume b;`: the value is taken before the receiver is looked at
receiver-consumed-by-value : told (set_field "b" "own" (consume "b") ∷ []) ≡ Refused Gone 26 5
receiver-consumed-by-value = refl

-- `(consume b).See(b);`: the receiver is taken before the arguments
argument-consumed-as-receiver : told (run (call_consumed "b" "See" (value (var "b") ∷ [])) ∷ []) ≡ Refused Gone 26 5
argument-consumed-as-receiver = refl

-- `(consume b).Eat(); long z = b.n;`
receiver-consumed : told (run (call_consumed "b" "Eat" []) ∷ init long "z" (get "b" "n") ∷ []) ≡ Refused Gone 27 5
receiver-consumed = refl

-- `b = consume b;`
consumed-into-itself : told (assign "b" (consumed "b") ∷ []) ≡ Accepted
consumed-into-itself = refl

-- `if (true) { b = null; } else { f = consume b; } print b.n;`
consumed-in-one-branch : told (if_else (truth true) (assign "b" (expr null) ∷ []) (assign "f" (consumed "b") ∷ []) ∷ init long "z" (get "b" "n") ∷ []) ≡ Refused Gone 31 5
consumed-in-one-branch = refl

-- ---------- a consume is needed ----------
-- `isolated Box z = b;`
isolated-variable-copied : told (init_box Isolated "z" (expr (var "b")) ∷ []) ≡ Refused NeedsConsume 26 5
isolated-variable-copied = refl

-- `isolated Box z = w.own;`
isolated-field-copied : told (init_box Isolated "z" (get "w" "own") ∷ []) ≡ Refused NeedsConsume 26 5
isolated-field-copied = refl

-- `isolated Box z = b.own;`
isolated-field-of-isolated-copied : told (init_box Isolated "z" (get "b" "own") ∷ []) ≡ Refused NeedsConsume 26 5
isolated-field-of-isolated-copied = refl

-- `w.See(b);`
isolated-argument-passed : told (run (call "w" "See" (value (var "b") ∷ [])) ∷ []) ≡ Refused NeedsConsume 26 5
isolated-argument-passed = refl

-- `b.Eat();`: the method keeps its receiver
isolated-receiver-kept : told (run (call "b" "Eat" []) ∷ []) ≡ Refused NeedsConsume 26 5
isolated-receiver-kept = refl

-- `bool z = b == null;`
isolated-compared-with-null : told (init bool "z" (expr (binary (var "b") Equal null)) ∷ []) ≡ Accepted
isolated-compared-with-null = refl

-- `isolated Box z = consume w.own;`
isolated-field-taken : told (init_box Isolated "z" (take "w" "own") ∷ []) ≡ Accepted
isolated-field-taken = refl

-- `immutable Box z = f.own;`
isolated-field-of-immutable-read : told (init_box Immutable "z" (get "f" "own") ∷ []) ≡ Accepted
isolated-field-of-immutable-read = refl

-- ---------- not through this receiver ----------
-- `readable Box z = b.seen;`
readable-field-through-isolated : told (init_box Readable "z" (get "b" "seen") ∷ []) ≡ Refused NotAllowedThrough 26 5
readable-field-through-isolated = refl

-- `readable Box z = b.next;`
writable-field-through-isolated : told (init_box Readable "z" (get "b" "next") ∷ []) ≡ Refused NotAllowedThrough 26 5
writable-field-through-isolated = refl

-- `b.next = w;`
writable-stored-through-isolated : told (set_field "b" "next" (value (var "w")) ∷ []) ≡ Refused NotAllowedThrough 26 5
writable-stored-through-isolated = refl

-- `f.n = 1;`
number-stored-through-immutable : told (set_field "f" "n" (value (num 1)) ∷ []) ≡ Refused NotAllowedThrough 26 5
number-stored-through-immutable = refl

-- `isolated Box z = consume f.own;`
field-taken-through-immutable : told (init_box Isolated "z" (take "f" "own") ∷ []) ≡ Refused NotAllowedThrough 26 5
field-taken-through-immutable = refl

-- `input[0] = 1;`
item-stored-in-input : told (set_item "input" (num 0) (num 1) ∷ []) ≡ Refused NotAllowedThrough 26 5
item-stored-in-input = refl

-- `b.Self();`: a lent receiver, and a writable result
writable-result-of-lent : told (run (call "b" "Self" []) ∷ []) ≡ Refused NotAllowedThrough 26 5
writable-result-of-lent = refl

-- `b.Put(w);`: a lent receiver, and a writable argument
writable-argument-beside-lent : told (run (call "b" "Put" (value (var "w") ∷ [])) ∷ []) ≡ Refused NotAllowedThrough 26 5
writable-argument-beside-lent = refl

-- `immutable Box z = b.kept; b.kept = f; b.n = 1; b.own = new Box();`
immutable-fields-through-isolated : told (init_box Immutable "z" (get "b" "kept") ∷ set_field "b" "kept" (value (var "f")) ∷ set_field "b" "n" (value (num 1)) ∷ set_field "b" "own" (value null) ∷ []) ≡ Accepted
immutable-fields-through-isolated = refl

-- `isolated Box y = new Box(); b.Put(consume y); b.Put(null);`: b is live after it
consumed-argument-beside-lent : told (init_box Isolated "y" (new "Box") ∷ run (call "b" "Put" (consume "y" ∷ [])) ∷ run (call "b" "Put" (value null ∷ [])) ∷ init_box Immutable "z" (consumed "b") ∷ []) ≡ Accepted
consumed-argument-beside-lent = refl

-- ---------- permissions that are too weak ----------
-- `writable Box z = f;`
immutable-into-writable : told (init_box Writable "z" (expr (var "f")) ∷ []) ≡ Refused PermissionTooWeak 26 5
immutable-into-writable = refl

-- `writable Box z = w.seen;`
readable-field-into-writable : told (init_box Writable "z" (get "w" "seen") ∷ []) ≡ Refused PermissionTooWeak 26 5
readable-field-into-writable = refl

-- `w.next = f;`
immutable-stored-as-writable : told (set_field "w" "next" (value (var "f")) ∷ []) ≡ Refused PermissionTooWeak 26 5
immutable-stored-as-writable = refl

-- `f.Self();`
immutable-receiver-of-writable : told (run (call "f" "Self" []) ∷ []) ≡ Refused PermissionTooWeak 26 5
immutable-receiver-of-writable = refl

-- `w.Put(f);`
immutable-argument-for-writable : told (run (call "w" "Put" (value (var "f") ∷ [])) ∷ []) ≡ Refused PermissionTooWeak 26 5
immutable-argument-for-writable = refl

-- `immutable Box z = w.See(f);`: a writable receiver raises nothing
result-not-raised-by-writable-receiver : told (init_box Immutable "z" (result_of (call "w" "See" (value (var "f") ∷ []))) ∷ []) ≡ Refused PermissionTooWeak 26 5
result-not-raised-by-writable-receiver = refl

-- `immutable Box z = f.See(w);`: nor does an argument that isn't harmless let it
result-not-raised-by-writable-argument : told (init_box Immutable "z" (result_of (call "f" "See" (value (var "w") ∷ []))) ∷ []) ≡ Refused PermissionTooWeak 26 5
result-not-raised-by-writable-argument = refl

-- `isolated Box z = recover { readable Box r = new Box(); give r; };`
readable-given-as-isolated : told (recovered Isolated (init_box Readable "r" (new "Box") ∷ []) "r" ∷ []) ≡ Refused PermissionTooWeak 28 7
readable-given-as-isolated = refl

-- `immutable Box z = f.See(f);`: raised from readable
result-raised-to-immutable : told (init_box Immutable "z" (result_of (call "f" "See" (value (var "f") ∷ []))) ∷ []) ≡ Accepted
result-raised-to-immutable = refl

-- `isolated Box z = (consume b).Self();`: raised from writable
result-raised-to-isolated : told (init_box Isolated "z" (result_of (call_consumed "b" "Self" [])) ∷ []) ≡ Accepted
result-raised-to-isolated = refl

-- `immutable Box z = recover { readable Box r = new Box(); give r; };`
readable-given-as-immutable : told (recovered Immutable (init_box Readable "r" (new "Box") ∷ []) "r" ∷ []) ≡ Accepted
readable-given-as-immutable = refl

-- ---------- variables that are hidden in a recover block ----------
-- `isolated Box z = recover { isolated Box y = new Box(); long n = w.n; give y; };`
hidden-variable-read : told (recovered Isolated (init_box Isolated "y" (new "Box") ∷ init long "k" (get "w" "n") ∷ []) "y" ∷ []) ≡ Refused Hidden 28 7
hidden-variable-read = refl

-- `isolated Box z = recover { w = new Box(); give b; };`
hidden-variable-assigned : told (recovered Isolated (assign "w" (new "Box") ∷ []) "b" ∷ []) ≡ Refused Hidden 27 7
hidden-variable-assigned = refl

-- `isolated Box z = recover { give w; };`
hidden-variable-given : told (recovered Isolated [] "w" ∷ []) ≡ Refused Hidden 27 7
hidden-variable-given = refl

-- `isolated Box z = recover { writable Box y = new Box(); y.kept = f; y.own = consume b; give y; };`
own-variable-written : told (recovered Isolated (init_box Writable "y" (new "Box") ∷ set_field "y" "kept" (value (var "f")) ∷ set_field "y" "own" (consume "b") ∷ []) "y" ∷ []) ≡ Accepted
own-variable-written = refl

-- ---------- what is given ----------
-- `isolated Box z = recover { long k = 1; give k; };`
number-given : told (recovered Isolated (init long "k" (expr (num 1)) ∷ []) "k" ∷ []) ≡ Refused BadGive 28 7
number-given = refl

-- `isolated Box z = recover { give input; };`
other-shape-given : told (recovered Isolated [] "input" ∷ []) ≡ Refused BadGive 27 7
other-shape-given = refl

-- `b = recover { give b; };`
given-into-itself : told (assign_recover "b" [] "b" ∷ []) ≡ Accepted
given-into-itself = refl

-- ---------- two blocks side by side ----------
-- `par { long k = b.n; } { long l = b.n; }`: an isolated variable stands in both
isolated-in-both : told (par (init long "k" (get "b" "n") ∷ []) (init long "l" (get "b" "n") ∷ []) ∷ []) ≡ Refused ParShared 26 5
isolated-in-both = refl

-- `par { long k = w.n; } { long l = this.Run(input); }`: a writable one stands in each
writable-in-both : told (par (init long "k" (get "w" "n") ∷ []) (init long "l" (result_of (call "this" "Run" (value (var "input") ∷ []))) ∷ []) ∷ []) ≡ Refused ParPermission 26 5
writable-in-both = refl

-- `par { print none; } { print none; }`: a name that isn't known is shared by none
unknown-name-in-both : told (par (print (var "none") ∷ []) (print (var "none") ∷ []) ∷ []) ≡ Refused UnknownName 27 7
unknown-name-in-both = refl

-- `par { long k = f.n; } { long l = f.n; w.n = l; }`
immutable-in-both : told (par (init long "k" (get "f" "n") ∷ []) (init long "l" (get "f" "n") ∷ set_field "w" "n" (value (var "l")) ∷ []) ∷ []) ≡ Accepted
immutable-in-both = refl

-- `readable Box r = w; par { long k = r.n; } { long l = r.n; }`
readable-in-both : told (init_box Readable "r" (expr (var "w")) ∷ par (init long "k" (get "r" "n") ∷ []) (init long "l" (get "r" "n") ∷ []) ∷ []) ≡ Accepted
readable-in-both = refl

-- ---------- what the span of a refusal holds ----------
-- of a recover block its head, up to the keyword
recover-text : refused_text (with_lines (init_recover long "z" [] "b" ∷ [])) ≡ codes "long z = recover"
recover-text = refl

-- and its `give` with the semicolon
give-text : refused_text (with_lines (recovered Isolated [] "w" ∷ [])) ≡ codes "give w;"
give-text = refl

-- of a method its `return`
return-text : refused_text (class "Main" (run_method [] (truth true) ∷ []) ∷ []) ≡ codes "return true;"
return-text = refl
