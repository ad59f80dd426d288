-- Numbers that are the places of classes make of a program the resolved one.
use Rattle.std.proofs.Common.{◌≡◌, ℕ, suc, ◌+◌, Bool, true, false, List, [], ◌∷◌, ◌++◌, length, Option, None, refl, sym, ap, append_assoc, arith, ◌∙◌}
use Rattle.std.specs.Prelude.{◌||◌, not, cond, map, filter, nat_eq, nat_lt}
use Rattle.std.specs.List.{list_any, position_or_len}
use Rattle.std.proofs.lemmas.Bool.{le-ltb, ltb-false, ltb-true, lt-ltb}
use Rattle.perm_tree.specs.declared.ast.ClassDecl.{ClassDecl}
use Rattle.perm_tree.specs.declared.ast.Ident.{Ident}
use Rattle.perm_tree.specs.declared.errors.TableError.{TableError}
use Rattle.perm_tree.specs.declared.errors.TableError.TheVariants.{UnknownClass}
use Rattle.perm_tree.specs.declared.program.Parts.{Parts}
use Rattle.perm_tree.specs.declared.unit.MethodTable.{MethodTable}
use Rattle.perm_tree.specs.Lookup.{class_place}
use Rattle.perm_tree.specs.Names.{Complaint, class_mentions, class_names, complaints, first_of_all, main_run, names_refusal, refusal_from, run_refusal, unknowns}
use Rattle.perm_tree.specs.Places.{Listing}
use Rattle.perm_tree.specs.Resolves.{renamed_class, renamed_mention, renamed_stmt, resolved, with_types, Resolves}
use Rattle.perm_tree.specs.Scopes.{tables_of}
use Rattle.perm_tree.proofs.ResolvedLaws.{class_names-same, mentions-same, names_refusal-typed}
use Rattle.perm_table.specs.Findings.{findings, first_before, unknowns_by}
use Rattle.perm_table.proofs.FirstFindings.{first_before-append, first_before-none}
use Rattle.perm_table.specs.declared.numbers.ClassNumbers.{ClassNumbers}
use Rattle.perm_table.specs.Numbers.{knows_in, number_in}

-- ---------- known classes ----------
found-place : (b rest : Bool) (n m : ℕ) → rest ≡ nat_lt n m → b || rest ≡ nat_lt (cond (not b) (1 + n) 0) (suc m)
found-place true rest n m e = sym (lt-ltb 0 (suc m) (omega arith))
found-place false rest n m e = e ∙ cases (nat_lt n m) refl
  where
    cases : (b : Bool) → nat_lt n m ≡ b → b ≡ nat_lt (1 + n) (suc m)
    cases true q = let less = ltb-true n m q in sym (lt-ltb (1 + n) (suc m) (omega arith))
    cases false q = let least = ltb-false n m q in sym (le-ltb (1 + n) (suc m) (omega arith))

any-place : (name : ℕ) (cs : List ClassDecl) → list_any (λ i. nat_eq i.name name) (map (λ c. c.name) cs) ≡ nat_lt (position_or_len (λ c. nat_eq c.name.name name) cs) (length cs)
any-place name [] = refl
any-place name (c ∷ cs) =
    found-place (nat_eq c.name.name name) (list_any (λ i. nat_eq i.name name) (map (λ d. d.name) cs)) (position_or_len (λ d. nat_eq d.name.name name) cs) (length cs) (any-place name cs)

-- a test of class names that goes by places finds what is unknown
unknowns-same : (p : Listing) (known : ℕ → Bool) (is : List Ident) → ((name : ℕ) → known name ≡ nat_lt (class_place p name) (length p.classes)) → unknowns_by known is ≡ unknowns (class_names p) is
unknowns-same p known is same =
    ap (λ (test : Ident → Bool). map unknown (filter (λ i. not (test i)) is)) (λ j i. (same i.name ∙ sym (any-place i.name p.classes)) j)
  where
    unknown : Ident → Complaint
    unknown i = record { at = i.span; rank = 2; what = UnknownClass i.span }

-- what is found in the resolved program and of class names is what is refused
found-refusal : (p : Listing) (known : ℕ → Bool) → ((name : ℕ) → known name ≡ nat_lt (class_place p name) (length p.classes))
    → refusal_from (first_before (findings (resolved p) (tables_of (resolved p))) (first_before (unknowns_by known (class_mentions p)) None)) (run_refusal (main_run (resolved p))) ≡ names_refusal p
found-refusal p known same =
    let q = with_types p in
    let found = findings q (tables_of q) in
    let unknown : unknowns_by known (class_mentions p) ≡ unknowns (class_names q) (class_mentions q) =
    unknowns-same p known (class_mentions p) same ∙ (λ j. unknowns (sym (class_names-same p) j) (sym (mentions-same p) j)) in
    let all : found ++ unknowns_by known (class_mentions p) ≡ complaints q = ap (λ us. found ++ us) unknown ∙ simp append_assoc in
    ap (λ o. refusal_from o (run_refusal (main_run q))) (sym (first_before-append found (unknowns_by known (class_mentions p)) None) ∙ first_before-none (found ++ unknowns_by known (class_mentions p)) ∙ ap first_of_all all) ∙ names_refusal-typed p

-- ---------- the whole ----------
pub renamed-program : (p rest : Listing) (number : ℕ → ℕ) (old new : Parts) → rest ≡ record p { classes = []; stmts = []; mentions = [] } → old.classes ≡ p.classes → old.stmts ≡ p.stmts → old.mentions ≡ p.mentions
    → new.classes ≡ map (renamed_class number) old.classes → new.stmts ≡ map (renamed_stmt number) old.stmts → new.mentions ≡ map (renamed_mention number) old.mentions → ((name : ℕ) → number name ≡ class_place p name)
    → record rest { classes = new.classes; stmts = new.stmts; mentions = new.mentions } ≡ resolved p
renamed-program p rest number old new left c0 s0 m0 c s m same =
    let places : number ≡ class_place p = λ i name. same name i in
    let classes = c ∙ (λ i. map (renamed_class (places i)) (c0 i)) in
    let stmts = s ∙ (λ i. map (renamed_stmt (places i)) (s0 i)) in
    let mentions = m ∙ (λ i. map (renamed_mention (places i)) (m0 i)) in
    λ i. record (left i) { classes = classes i; stmts = stmts i; mentions = mentions i }

-- numbers of some classes, which are those of a program
pub places-of : (p : Listing) (n : ClassNumbers) (classes : List ClassDecl) → classes ≡ p.classes → ((name : ℕ) → number_in n name ≡ position_or_len (λ c. nat_eq c.name.name name) classes) → (name : ℕ) → number_in n name ≡ class_place p name
places-of p n classes is places name = places name ∙ ap (position_or_len (λ (c : ClassDecl). nat_eq c.name.name name)) is

-- what is answered by these numbers
pub answered : (p q : Listing) (tables ts : List MethodTable) (n : ClassNumbers) (classes : List ClassDecl) (unknown : Option Complaint) (r : Option TableError) → q ≡ resolved p → tables ≡ tables_of q → ts ≡ tables → classes ≡ p.classes
    → ((name : ℕ) → number_in n name ≡ position_or_len (λ c. nat_eq c.name.name name) classes) → n.count ≡ length classes → unknown ≡ first_before (unknowns_by (knows_in n) (class_mentions p)) None
    → r ≡ refusal_from (first_before (findings q ts) unknown) (run_refusal (main_run q)) → r ≡ names_refusal p
answered p q tables ts n classes unknown r is t t' k places count none found =
    let all : ts ≡ tables_of (resolved p) = t' ∙ t ∙ ap tables_of is in
    let number = places-of p n classes k places in
    let many : n.count ≡ length p.classes = count ∙ ap length k in
    found
    ∙ (λ j. refusal_from (first_before (findings (is j) (all j)) (none j)) (run_refusal (main_run (is j))))
    ∙ found-refusal p (knows_in n) (λ name j. nat_lt (number name j) (many j))

-- where nothing is refused that is the unit
pub resolves : (p q : Listing) (tables : List MethodTable) → q ≡ resolved p → tables ≡ tables_of q → names_refusal p ≡ None → Resolves p (record { program = q; tables = tables })
resolves p q tables is t accepted = record { accepted = accepted; program = is; tables = t ∙ ap tables_of is }
