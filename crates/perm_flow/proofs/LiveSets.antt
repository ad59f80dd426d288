-- Live sets that are held in words: what arguments, calls and simple statements take out of them and put in.
use Rattle.std.proofs.Common.{◌≡◌, ◌∙◌, ℕ, ◌+◌, ◌<◌, ◌≤◌, Bool, true, false, List, length, refl, sym, ap, subst, drop, get_or, map}
use Rattle.std.specs.Prelude.{◌||◌, ◌&&◌, not}
use Rattle.std.proofs.lemmas.List.{drop_all, drop_more}
use Rattle.perm_tree.specs.declared.bodies.Argument.{Argument}
use Rattle.perm_tree.specs.declared.bodies.Operation.{Operation}
use Rattle.perm_tree.specs.declared.var_set.VarSet.{VarSet}
use Rattle.perm_tree.specs.BodyTerms.{argument_of}
use Rattle.perm_tree.specs.Mentions.{argument_consumes, arguments_consume}
use Rattle.perm_tree.specs.Vars.{Vars, plus, minus}
use Rattle.perm_tree.specs.VarSets.{member}

-- ---------- arguments ----------
-- the one and then the other is taken out
less-both : (m h k : Bool) → ((m && not h) && not k) ≡ (m && not (h || k))
less-both true true k = refl
less-both true false k = refl
less-both false h k = refl

less-nothing : (m : Bool) → (m && true) ≡ m
less-nothing true = refl
less-nothing false = refl

-- a set without one more argument
pub without-more : (all : List Operation) (args : List Argument) (i : ℕ) (d : Argument) (s t : VarSet) (x : ℕ) (b : Bool) → i < length args → member t x ≡ minus (member s) (argument_consumes (argument_of all (get_or args i d))) x
    → minus (member s) (arguments_consume (map (argument_of all) (drop i args))) x ≡ b → minus (member t) (arguments_consume (map (argument_of all) (drop (i + 1) args))) x ≡ b
without-more all args i d s t x b within is before =
    ap (λ c. c && not (arguments_consume (map (argument_of all) (drop (i + 1) args)) x)) is
    ∙ (less-both (member s x) (argument_consumes (argument_of all (get_or args i d)) x) (arguments_consume (map (argument_of all) (drop (i + 1) args)) x)
    ∙ subst (λ (l : List Argument). minus (member s) (arguments_consume (map (argument_of all) l)) x ≡ b) (drop_more args i d within) before)

-- a set without all arguments
pub without-all : (all : List Operation) (args : List Argument) (i : ℕ) (s : VarSet) (x : ℕ) (b : Bool) → length args ≤ i
    → minus (member s) (arguments_consume (map (argument_of all) (drop i args))) x ≡ b → member s x ≡ b
without-all all args i s x b end before =
    sym (less-nothing (member s x)) ∙ subst (λ (l : List Argument). minus (member s) (arguments_consume (map (argument_of all) l)) x ≡ b) (drop_all i args end) before

-- ---------- calls ----------
-- what is live after a call: without its receiver, without what its arguments consume, with its result
pub call-live : (result taken given : VarSet) (live G H K : Vars) (x : ℕ) → member result x ≡ plus (member taken) K x → member taken x ≡ minus (member given) H x → member given x ≡ minus live G x
    → member result x ≡ plus (minus live (plus G H)) K x
call-live result taken given live G H K x one two three =
    one ∙ ap (λ b. b || K x) (two ∙ (ap (λ b. b && not (H x)) three ∙ less-both (live x) (G x) (H x)))
