-- The first of refusals that are met from the last to the first.
use Rattle.std.proofs.Common.{◌≡◌, ℕ, Bool, List, [], ◌∷◌, ◌++◌, Option, Some, None, refl, reverse, sym, ap, ◌∙◌}
use Rattle.std.specs.Prelude.{not, map, filter, flat_map, Result, IfOk}
use Rattle.std.proofs.lemmas.List.{map-append, reverse-append}
use Rattle.std.proofs.lemmas.List.Elements.{filter-append}
use Rattle.std.proofs.lemmas.Result.{IfOk-weaker}
use Rattle.perm_tree.specs.declared.ast.Ident.{Ident}
use Rattle.perm_tree.specs.declared.ast.ClassDecl.{ClassDecl}
use Rattle.perm_tree.specs.declared.ast.Stmt.{Stmt}
use Rattle.perm_tree.specs.declared.errors.Limit.TheVariants.{Classes, Fields, Methods, Variables}
use Rattle.perm_tree.specs.declared.errors.NoMemory.{NoMemory}
use Rattle.perm_tree.specs.declared.errors.TableError.TheVariants.{UnknownClass}
use Rattle.perm_tree.specs.declared.unit.MethodTable.{MethodTable}
use Rattle.perm_tree.specs.Names.{Complaint, class_mentions, class_names, doubles, earlier, first_of_all, in_class, in_method, made_class, passing}
use Rattle.perm_tree.specs.Places.{Listing}
use Rattle.perm_table.specs.declared.refusals.Finding.{Finding}
use Rattle.perm_table.specs.Findings.{findings, first_before, told_if, unknowns_by}

pub first_before-append : (cs ds : List Complaint) (rest : Option Complaint) → first_before (cs ++ ds) rest ≡ first_before cs (first_before ds rest)
first_before-append [] ds rest = refl
first_before-append (c ∷ cs) ds rest = ap (λ o. Some (earlier c o)) (first_before-append cs ds rest)

pub first_before-none : (cs : List Complaint) → first_before cs None ≡ first_of_all cs
first_before-none [] = refl
first_before-none (c ∷ cs) = ap (λ o. Some (earlier c o)) (first_before-none cs)

-- the items that came last are at the front of the reversed list
pub reversed-one : {R A : Type 0} (now : R → A) (ys : List R) (x : R) → reverse (map now (ys ++ x ∷ [])) ≡ now x ∷ reverse (map now ys)
reversed-one now ys x = ap reverse (map-append now ys (x ∷ [])) ∙ reverse-append (map now ys) (now x ∷ [])

-- one more at the front of a list of which each element has its refusals
pub one-more : {R A : Type 0} (now : R → A) (f : List A → List Complaint) (g : A → List Complaint) (ys : List R) (x : R) (rest first more : Option Complaint)
    → ((a : A) (bs : List A) → f (a ∷ bs) ≡ g a ++ f bs) → first ≡ first_before (f (reverse (map now ys))) rest → more ≡ first_before (g (now x)) first
    → more ≡ first_before (f (reverse (map now (ys ++ x ∷ [])))) rest
one-more now f g ys x rest first more split so_far adds =
    adds
    ∙ ap (first_before (g (now x))) so_far
    ∙ sym (first_before-append (g (now x)) (f (reverse (map now ys))) rest)
    ∙ ap (λ cs. first_before cs rest) (sym (split (now x) (reverse (map now ys))))
    ∙ ap (λ bs. first_before (f bs) rest) (sym (reversed-one now ys x))

-- ---------- groups ----------
-- where a last call's answer is handed on, what it tells is
told-on : (r : Result (Option Finding) NoMemory) (before now : Option Complaint) → before ≡ now → IfOk r (λ f. told_if f ≡ before) → IfOk r (λ f. told_if f ≡ now)
told-on r before now same told = IfOk-weaker r (λ f. told_if f ≡ before) (λ f. told_if f ≡ now) (λ f is. is ∙ same) told

-- the variables of a method
pub method-findings : (names ns ms : List Ident) (rest past : Option Complaint) (r : Result (Option Finding) NoMemory) → ns ≡ names → ms ≡ names → past ≡ first_before (passing Variables ns) rest
    → IfOk r (λ f. told_if f ≡ first_before (doubles ms) past) → IfOk r (λ f. told_if f ≡ first_before (doubles names ++ passing Variables names) rest)
method-findings names ns ms rest past r n m before =
    told-on r (first_before (doubles ms) past) (first_before (doubles names ++ passing Variables names) rest)
    ((λ j. first_before (doubles (m j)) (before j)) ∙ ap (λ is. first_before (doubles names) (first_before (passing Variables is) rest)) n ∙ sym (first_before-append (doubles names) (passing Variables names) rest))

-- the members of a class
pub class-findings : (fields methods fs ms both : List Ident) (rest past_methods past_fields : Option Complaint) (r : Result (Option Finding) NoMemory) → fs ≡ fields → ms ≡ methods → both ≡ fields ++ methods
    → past_methods ≡ first_before (passing Methods ms) rest → past_fields ≡ first_before (passing Fields fs) past_methods
    → IfOk r (λ f. told_if f ≡ first_before (doubles both) past_fields) → IfOk r (λ f. told_if f ≡ first_before (doubles (fields ++ methods) ++ (passing Fields fields ++ passing Methods methods)) rest)
class-findings fields methods fs ms both rest past_methods past_fields r f m b in_methods in_fields =
    told-on r (first_before (doubles both) past_fields) (first_before (doubles (fields ++ methods) ++ (passing Fields fields ++ passing Methods methods)) rest) (
    (λ j. first_before (doubles (b j)) (in_fields j))
    ∙ (λ j. first_before (doubles (fields ++ methods)) (first_before (passing Fields (f j)) (in_methods j)))
    ∙ ap (λ is. first_before (doubles (fields ++ methods)) (first_before (passing Fields fields) (first_before (passing Methods is) rest))) m
    ∙ ap (first_before (doubles (fields ++ methods))) (sym (first_before-append (passing Fields fields) (passing Methods methods) rest))
    ∙ sym (first_before-append (doubles (fields ++ methods)) (passing Fields fields ++ passing Methods methods) rest)
    )

unknowns_by-append : (known : ℕ → Bool) (is js : List Ident) → unknowns_by known (is ++ js) ≡ unknowns_by known is ++ unknowns_by known js
unknowns_by-append known is js = ap (map unknown) (filter-append (λ i. not (known i.name)) is js) ∙ map-append unknown (filter (λ i. not (known i.name)) is) (filter (λ i. not (known i.name)) js)
  where
    unknown : Ident → Complaint
    unknown i = record { at = i.span; rank = 2; what = UnknownClass i.span }

-- class names in types and behind `new`
pub unknown-findings : (known : ℕ → Bool) (p : Listing) (stmts : List Stmt) (mentions : List Ident) (made unknown : Option Complaint) → stmts ≡ p.stmts → mentions ≡ p.mentions
    → made ≡ first_before (unknowns_by known (flat_map (λ s. made_class s.kind) stmts)) None → unknown ≡ first_before (unknowns_by known mentions) made
    → unknown ≡ first_before (unknowns_by known (class_mentions p)) None
unknown-findings known p stmts mentions made unknown s m in_stmts in_mentions =
    let made_in = flat_map (λ (s : Stmt). made_class s.kind) p.stmts in
    in_mentions
    ∙ (λ j. first_before (unknowns_by known (m j)) (in_stmts j))
    ∙ ap (λ ss. first_before (unknowns_by known p.mentions) (first_before (unknowns_by known (flat_map (λ (s : Stmt). made_class s.kind) ss)) None)) s
    ∙ sym (first_before-append (unknowns_by known p.mentions) (unknowns_by known made_in) None)
    ∙ ap (λ cs. first_before cs None) (sym (unknowns_by-append known p.mentions made_in))

-- all groups one after another
pub all-findings : (p : Listing) (tables : List MethodTable) (classes : List ClassDecl) (ns ms : List Ident) (unknown variables members past : Option Complaint) (r : Result (Option Finding) NoMemory)
    → classes ≡ p.classes → ns ≡ class_names p → ms ≡ class_names p
    → variables ≡ first_before (flat_map in_method tables) unknown
    → members ≡ first_before (flat_map in_class classes) variables
    → past ≡ first_before (passing Classes ns) members
    → IfOk r (λ f. told_if f ≡ first_before (doubles ms) past)
    → IfOk r (λ f. told_if f ≡ first_before (findings p tables) unknown)
all-findings p tables classes ns ms unknown variables members past r c n n' in_methods in_classes in_limit =
    let names = class_names p in
    let behind2 = flat_map in_method tables in
    let behind1 = flat_map in_class p.classes ++ behind2 in
    let members_is : members ≡ first_before behind1 unknown = in_classes ∙ (λ j. first_before (flat_map in_class (c j)) (in_methods j)) ∙ sym (first_before-append (flat_map in_class p.classes) behind2 unknown) in
    let past_is : past ≡ first_before (passing Classes names ++ behind1) unknown = in_limit ∙ (λ j. first_before (passing Classes (n j)) (members_is j)) ∙ sym (first_before-append (passing Classes names) behind1 unknown) in
    told-on r (first_before (doubles ms) past) (first_before (findings p tables) unknown) ((λ j. first_before (doubles (n' j)) (past_is j)) ∙ sym (first_before-append (doubles names) (passing Classes names ++ behind1) unknown))
