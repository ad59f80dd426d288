-- The members of a class: their parts, their places and their texts.
use Rattle.std.proofs.Common.{◌≡◌, ◌∙◌, ap, sym, refl, subst, ℕ, zero, suc, ◌+◌, ◌<◌, List, [], ◌∷◌, ◌++◌, length, map, append_assoc, append-nil, arith, Bool, true, false, Some, Result, Ok, Err}
use Rattle.std.specs.Prelude.{OnOk, codes, get_or, nat_le, slice_get, take, if◌then◌else◌}
use mathlib.Core.List.{map-append}
use Rattle.perm_tree.specs.declared.ast.ClassDecl.{ClassDecl}
use Rattle.perm_tree.specs.declared.ast.FieldDecl.{FieldDecl}
use Rattle.perm_tree.specs.declared.ast.Method.{Method}
use Rattle.perm_tree.specs.declared.print.part.Part.{Part}
use Rattle.perm_tree.specs.Printer.Expressions.{parts_text}
use Rattle.perm_tree.specs.Printer.Programs as text
use Rattle.perm_tree.specs.Printer.Programs.{field_member, insert_by, members, method_member, sort_by}
use Rattle.perm_tree.specs.Printer.Members.{AllFormsPlaced, Form, IsFormPlaced, form_member, form_start, form_tasks, forms, forms_text, one_field, one_method}
use Rattle.perm_tree.specs.Printer.PendingParts.{AreParts, part_text, rest_text}
use Rattle.perm_tree.specs.Places.{ClassPlaced, Listing, MethodPlaced}
use Rattle.perm_tree.specs.Printer.Parts.{onto}
use Rattle.perm_tree.proofs.Printer.Fits.{fits-onto, method_fits}
use Rattle.perm_tree.proofs.Printer.Texts.{field-texts, method-texts, rest_text-none, rest_text-onto}
use Rattle.perm_tree.proofs.Printer.StableSorts.{map-sorted_by}

-- ---------- parts ----------
form_fits : (p : Listing) (f : Form) → IsFormPlaced (length p.exprs) (length p.stmts) f → AreParts p (form_tasks f)
form_fits p (one_field f) placed = (tt, (tt, (tt, tt)))
form_fits p (one_method m) placed = method_fits (length p.exprs) (length p.stmts) (length p.stmts + 1) m (omega arith) placed

pub pushed_fits : (p : Listing) (f : Form) (stack stack' : List Part) → stack ≡ [] → stack' ≡ onto stack (form_tasks f) → IsFormPlaced (length p.exprs) (length p.stmts) f → AreParts p stack'
pushed_fits p f stack stack' none pushed_all placed =
    let fit = fits-onto (length p.exprs) (length p.stmts) (length p.stmts + 1) [] (form_tasks f) tt (form_fits p f placed) in
    subst (AreParts p) (sym (pushed_all ∙ ap (λ s. onto s (form_tasks f)) none)) fit

form-text : (p : Listing) (f : Form) → parts_text (map (part_text p) (form_tasks f)) ≡ (form_member p f).text
form-text p (one_field f) = ap parts_text (field-texts p f)
form-text p (one_method m) = ap parts_text (method-texts p m)

pub written_form : {A E : Type 0} (r : Result A E) (p : Listing) (f : Form) (stack stack' : List Part) (t t' : List ℕ)
    → stack ≡ [] → stack' ≡ onto stack (form_tasks f) → OnOk r (t' ≡ t ++ rest_text p stack') → OnOk r (t' ≡ t ++ (form_member p f).text)
written_form (Ok a) p f stack stack' t t' none pushed_all more =
    let all : rest_text p stack' ≡ parts_text (map (part_text p) (form_tasks f)) ++ rest_text p [] = ap (rest_text p) (pushed_all ∙ ap (λ s. onto s (form_tasks f)) none) ∙ rest_text-onto p [] (form_tasks f) in
    let whole : rest_text p stack' ≡ (form_member p f).text =
    all ∙ ap (λ l. parts_text (map (part_text p) (form_tasks f)) ++ l) (rest_text-none p) ∙ append-nil (parts_text (map (part_text p) (form_tasks f))) ∙ form-text p f in
    more ∙ ap (λ l. t ++ l) whole
written_form (Err e) p f stack stack' t t' none pushed_all more = tt

-- ---------- places ----------
module _ (exprs stmts : ℕ) where
  abbrev Placed : List Form → Type 0
  Placed = AllFormsPlaced exprs stmts

  fields_placed : (fs : List FieldDecl) (ms : List Form) → Placed ms → Placed (map one_field fs ++ ms)
  fields_placed [] ms a = a
  fields_placed (f ∷ fs) ms a = (tt, fields_placed fs ms a)

  methods_placed : (ms : List Method) → ((k : ℕ) (m : Method) → slice_get ms k ≡ Some m → MethodPlaced exprs stmts m) → Placed (map one_method ms)
  methods_placed [] h = tt
  methods_placed (m ∷ ms) h = (h zero m refl, methods_placed ms (λ k d e. h (suc k) d e))

  insert_by-placed : (f : Form) (fs : List Form) → IsFormPlaced exprs stmts f → Placed fs → Placed (insert_by form_start f fs)
  insert_by-placed f [] a b = (a, tt)
  insert_by-placed f (g ∷ gs) a b = go (nat_le (form_start f) (form_start g)) (insert_by-placed f gs a b.1)
    where
      go : (t : Bool) → Placed (insert_by form_start f gs) → Placed (if t then f ∷ g ∷ gs else g ∷ insert_by form_start f gs)
      go true rest = (a, b)
      go false rest = (b.0, rest)

  sort_by-placed : (fs : List Form) → Placed fs → Placed (sort_by form_start fs)
  sort_by-placed [] a = tt
  sort_by-placed (f ∷ fs) a = insert_by-placed f (sort_by form_start fs) a.0 (sort_by-placed fs a.1)

  -- the sorted members of a class are there
  pub members_placed : (c : ClassDecl) (fs : List Form) → fs ≡ sort_by form_start (forms c) → ClassPlaced exprs stmts c → Placed fs
  members_placed c fs is placed = subst Placed (sym is) (sort_by-placed (forms c) (fields_placed c.fields (map one_method c.methods) (methods_placed c.methods placed)))

  pub one_placed : {A : Type 0} (f : A → Form) (xs : List A) (k : ℕ) (d : A) → k < length xs → Placed (map f xs) → IsFormPlaced exprs stmts (f (get_or xs k d))
  one_placed f [] k d within a = absurd (omega arith)
  one_placed f (x ∷ xs) zero d within a = a.0
  one_placed f (x ∷ xs) (suc k) d within a = one_placed f xs k d (omega arith) a.1

-- ---------- texts ----------
map-one : (p : Listing) (fs : List FieldDecl) → map (form_member p) (map one_field fs) ≡ map (field_member p) fs
map-one p [] = refl
map-one p (f ∷ fs) = ap (λ l. field_member p f ∷ l) (map-one p fs)

map-method : (p : Listing) (ms : List Method) → map (form_member p) (map one_method ms) ≡ map (method_member p) ms
map-method p [] = refl
map-method p (m ∷ ms) = ap (λ l. method_member p m ∷ l) (map-method p ms)

same_start : (p : Listing) (f : Form) → (form_member p f).start ≡ form_start f
same_start p (one_field f) = refl
same_start p (one_method m) = refl

members-forms : (p : Listing) (c : ClassDecl) → map (form_member p) (sort_by form_start (forms c)) ≡ members p c
members-forms p c =
    map-sorted_by form_start (λ m. m.start) (form_member p) (same_start p) (forms c)
    ∙ ap (sort_by (λ m. m.start)) (map-append (form_member p) (map one_field c.fields) (map one_method c.methods)
    ∙ ap (λ l. l ++ map (form_member p) (map one_method c.methods)) (map-one p c.fields) ∙ ap (λ l. map (field_member p) c.fields ++ l) (map-method p c.methods))

forms_text-joined : (p : Listing) (fs : List Form) (ends : List ℕ) → parts_text (map (λ m. m.text) (map (form_member p) fs) ++ ends ∷ []) ≡ forms_text p fs ++ ends
forms_text-joined p [] ends = append-nil ends
forms_text-joined p (f ∷ fs) ends = ap (λ l. (form_member p f).text ++ l) (forms_text-joined p fs ends) ∙ sym (append_assoc (form_member p f).text (forms_text p fs) ends)

-- the lines between those of the braces
pub members_text : (p : Listing) (c : ClassDecl) (fs : List Form) (ends : List ℕ) → fs ≡ sort_by form_start (forms c)
    → forms_text p fs ++ ends ≡ parts_text (map (λ m. m.text) (members p c) ++ ends ∷ [])
members_text p c fs ends is =
    ap (λ l. forms_text p l ++ ends) is ∙ sym (forms_text-joined p (sort_by form_start (forms c)) ends) ∙ ap (λ l. parts_text (map (λ (m : text.Member). m.text) l ++ ends ∷ [])) (members-forms p c)

-- ---------- the text of a class ----------
forms_text-append : (p : Listing) (fs gs : List Form) → forms_text p (fs ++ gs) ≡ forms_text p fs ++ forms_text p gs
forms_text-append p [] gs = refl
forms_text-append p (f ∷ fs) gs = ap (λ l. (form_member p f).text ++ l) (forms_text-append p fs gs) ∙ sym (append_assoc (form_member p f).text (forms_text p fs) (forms_text p gs))

forms_text-take : {A : Type 0} (p : Listing) (f : A → Form) (ms : List A) (i : ℕ) (m : A) → i < length ms
    → forms_text p (map f (take (suc i) ms)) ≡ forms_text p (map f (take i ms)) ++ (form_member p (f (get_or ms i m))).text
forms_text-take p f [] i m within = absurd (omega arith)
forms_text-take p f (x ∷ xs) zero m within = append-nil (form_member p (f x)).text
forms_text-take p f (x ∷ xs) (suc i) m within =
    ap (λ l. (form_member p (f x)).text ++ l) (forms_text-take p f xs i m (omega arith))
    ∙ sym (append_assoc (form_member p (f x)).text (forms_text p (map f (take i xs))) (form_member p (f (get_or xs i m))).text)

-- one member more
pub one_more : {A : Type 0} (p : Listing) (f : A → Form) (ms : List A) (i : ℕ) (m : A) (t0 t t' : List ℕ)
    → i < length ms → m ≡ get_or ms i m → t ≡ t0 ++ forms_text p (map f (take i ms)) → t' ≡ t ++ (form_member p (f m)).text → t' ≡ t0 ++ forms_text p (map f (take (i + 1) ms))
one_more {A} p f ms i m t0 t t' within read before more =
    let one : i + 1 ≡ suc i = omega arith in
    more ∙ ap (λ l. l ++ (form_member p (f m)).text) before ∙ append_assoc t0 (forms_text p (map f (take i ms))) (form_member p (f m)).text
    ∙ ap (λ l. t0 ++ l) (ap (λ (x : A). forms_text p (map f (take i ms)) ++ (form_member p (f x)).text) read ∙ sym (forms_text-take p f ms i m within) ∙ ap (λ k. forms_text p (map f (take k ms))) (sym one))

pub written_class : {A E : Type 0} (r : Result A E) (p : Listing) (c : ClassDecl) (fs : List Form) (t0 t1 t2 t3 t4 t5 : List ℕ)
    → t1 ≡ t0 ++ codes "class " → t2 ≡ t1 ++ text.name_text p.names c.name → t3 ≡ t2 ++ codes " {\n" → t4 ≡ t3 ++ forms_text p fs → fs ≡ sort_by form_start (forms c)
    → OnOk r (t5 ≡ t4 ++ codes "}\n") → OnOk r (t5 ≡ t0 ++ text.class_text p c)
written_class (Ok a) p c fs t0 t1 t2 t3 t4 t5 e1 e2 e3 e4 is e5 =
    let w = text.name_text p.names c.name in
    let F = forms_text p fs in
    e5 ∙ ap (λ l. l ++ codes "}\n") (e4 ∙ ap (λ l. l ++ F) (e3 ∙ ap (λ l. l ++ codes " {\n") (e2 ∙ ap (λ l. l ++ w) e1)))
    ∙ flat t0 (codes "class ") w (codes " {\n") F (codes "}\n")
    ∙ ap (λ l. t0 ++ (codes "class " ++ (w ++ (codes " {\n" ++ l)))) (members_text p c fs (codes "}\n") is)
  where
    flat : (t a w b F e : List ℕ) → ((((t ++ a) ++ w) ++ b) ++ F) ++ e ≡ t ++ (a ++ (w ++ (b ++ (F ++ e))))
    flat t a w b F e = simp append_assoc
written_class (Err e) p c fs t0 t1 t2 t3 t4 t5 e1 e2 e3 e4 is e5 = tt
