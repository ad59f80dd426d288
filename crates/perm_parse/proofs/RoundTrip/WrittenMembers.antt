-- What is written of the members of a class is what the canonical text of the program has there, in the order of the names.
use Rattle.std.proofs.Common.{◌≡◌, ℕ, ◌<◌, List, [], ◌∷◌, ◌++◌, map, codes, refl, sym, ◌∙◌, ap, append_assoc, append-nil}
use Rattle.std.proofs.lemmas.List.{map-append}
use Rattle.perm_tree.specs.Places.{Listing}
use Rattle.perm_tree.specs.Printer.Expressions.{parts_text, perm_text}
use Rattle.perm_tree.specs.Printer.Programs as whole
use Rattle.perm_tree.specs.Printer.Programs.{Wording, wording, indent, block_parts, stmt_texts, declared_text, params_parts, more_params_parts, Member, sort_by}
use Rattle.perm_tree.specs.declared.ast.FieldDecl.{FieldDecl}
use Rattle.perm_tree.specs.declared.ast.Method.{Method}
use Rattle.perm_tree.specs.declared.tokens.Token.{Token}
use Rattle.perm_tree.specs.declared.tokens.TokenKind.TheVariants as kinds
use Rattle.perm_lex.specs.Lexes.{Piece, pieces_text}
use Rattle.perm_parse.specs.Grammar.{ParamList, Params, MemberTree, Members, IsMember, AreMembers, perm_word, member_text, members_text}
use Rattle.perm_parse.specs.Meaning.{ident, type_of, arg_of, stmts_of, param_list_of, params_of, method_of, member_of, members_of}
use Rattle.perm_parse.proofs.RoundTrip.BareTrees.{bare_arg, bare_stmts, bare_member, bare_members}
use Rattle.perm_parse.proofs.RoundTrip.CanonicalPieces.{mark, space, line, end_pieces, name_piece, type_pieces, arg_pieces, stmts_pieces, param_list_pieces, params_pieces, member_pieces, members_pieces}
use Rattle.perm_parse.proofs.Walks.ListGrowth.{Grows, then, ident-grows, type-grows, arg-grows, stmts-grows, params-grows, member-grows}
use Rattle.perm_parse.proofs.RoundTrip.TextParts.{one-part, three-parts, and-part, comma-part, method-join}
use Rattle.perm_parse.proofs.RoundTrip.WrittenExpressions.{HasThis, perm-same}
use Rattle.perm_parse.proofs.RoundTrip.WrittenArguments.{arg-written, declared-written}
use Rattle.perm_parse.proofs.RoundTrip.WrittenStatements.{stmts-written}
use Rattle.perm_parse.proofs.RoundTrip.TokenSuffixes.{IsAscending, AllBehind, member_name, name-trails, from-trails, members-trails}
use Rattle.perm_parse.proofs.RoundTrip.SortedLists.{EachLess, sort_by-last}

-- ---- parameters

more-snoc : (w : Wording) (xs : List FieldDecl) (d : FieldDecl) → more_params_parts w (xs ++ d ∷ []) ≡ more_params_parts w xs ++ codes ", " ∷ declared_text w.names d.ty d.name ∷ []
more-snoc w [] d = refl
more-snoc w (x ∷ xs) d = ap (λ z. codes ", " ∷ declared_text w.names x.ty x.name ∷ z) (more-snoc w xs d)

params-snoc : (w : Wording) (xs : List FieldDecl) (d : FieldDecl) → (xs ≡ [] → ⊥) → params_parts w (xs ++ d ∷ []) ≡ params_parts w xs ++ codes ", " ∷ declared_text w.names d.ty d.name ∷ []
params-snoc w [] d some = absurd (some refl)
params-snoc w (x ∷ xs) d some = ap (λ z. declared_text w.names x.ty x.name ∷ z) (more-snoc w xs d)

snoc-some : (xs : List FieldDecl) (d : FieldDecl) → xs ++ d ∷ [] ≡ [] → ⊥
snoc-some [] d e = cc
snoc-some (x ∷ xs) d e = cc

one-none : (d : FieldDecl) → d ∷ [] ≡ [] → ⊥
one-none d e = cc

list-some : (text : List ℕ) (a : ParamList) (s : Listing) → (param_list_of text a s).0 ≡ [] → ⊥
list-some text (ParamList.one_param ty name) s = one-none (record { ty = (type_of text ty s).0; name = (ident text name (type_of text ty s).1).0 })
list-some text (ParamList.more_params list comma ty name) s =
    let z = param_list_of text list s in
    let x = type_of text ty z.1 in
    snoc-some z.0 (record { ty = x.0; name = (ident text name x.1).0 })

param_list-written : (text : List ℕ) (a : ParamList) (s p : Listing) (ps : List Piece) → Grows (param_list_of text a s).1 p →
    pieces_text (param_list_pieces text a ps) ≡ parts_text (params_parts (wording p) (param_list_of text a s).0) ++ pieces_text ps
param_list-written text (ParamList.one_param ty name) s p ps g =
    let x = type_of text ty s in
    declared-written text ty name s p ps g ∙ one-part (declared_text p.names x.0 (ident text name x.1).0) (pieces_text ps)
param_list-written text (ParamList.more_params list comma ty name) s p ps g =
    let z = param_list_of text list s in
    let x = type_of text ty z.1 in
    let y = ident text name x.1 in
    let d = declared_text p.names x.0 y.0 in
    let A = params_parts (wording p) z.0 in
    param_list-written text list s p (mark kinds.Comma ∷ space ∷ type_pieces text ty (space ∷ name_piece text name ∷ ps)) (then (type-grows text ty z.1) (then (ident-grows text name x.1) g))
    ∙ ap (λ v. parts_text A ++ (44 ∷ 32 ∷ v)) (declared-written text ty name z.1 p ps g)
    ∙ comma-part A d (pieces_text ps)
    ∙ ap (λ v. parts_text v ++ pieces_text ps) (sym (params-snoc (wording p) z.0 (record { ty = x.0; name = y.0 }) (list-some text list s)))

params-written : (text : List ℕ) (a : Params) (s p : Listing) (ps : List Piece) → Grows (params_of text a s).1 p →
    pieces_text (params_pieces text a ps) ≡ parts_text (params_parts (wording p) (params_of text a s).0) ++ pieces_text ps
params-written text Params.no_params s p ps g = refl
params-written text (Params.params list) s p ps g = param_list-written text list s p ps g

-- ---- members

-- a member of the tree as a member of the text
abbrev pub entry : List ℕ → Listing → MemberTree → Listing → Member
entry text p (MemberTree.field_member ty name end) s =
    let x = type_of text ty s in
    whole.field_member p (record { ty = x.0; name = (ident text name x.1).0 })
entry text p (MemberTree.method ty name opening list closing q perm start b word a end finish) s =
    let head = method_of text ty name list s in
    let x = stmts_of text b head.program in
    let y = arg_of text a x.1 in
    whole.method_member p (record { result = head.result; name = head.name; params = head.params; receiver = q; body = record { stmts = x.0 }; back = y.0; span = record { start = word.span.start; end = end.span.end } })

abbrev pub entries : List ℕ → Listing → Members → Listing → List Member
entries text p Members.no_members s = []
entries text p (Members.more_members list x) s = entries text p list s ++ entry text p x (members_of text list s).2 ∷ []

member-written : (text : List ℕ) (a : MemberTree) (fs : List FieldDecl) (ms : List Method) (s p : Listing) (ps : List Piece) → HasThis p → IsMember a → Grows (member_of text a fs ms s).2 p →
    pieces_text (member_pieces text (bare_member a) ps) ≡ (entry text p a s).text ++ pieces_text ps
member-written text (MemberTree.field_member ty name end) fs ms s p ps this is g =
    let x = type_of text ty s in
    ap (λ z. indent 1 ++ z) (declared-written text ty name s p (end_pieces ps) g) ∙ three-parts (indent 1) (declared_text p.names x.0 (ident text name x.1).0) (codes ";\n") (pieces_text ps)
member-written text (MemberTree.method ty name opening list closing q perm start b word a end finish) fs ms s p ps this is g =
    let x = type_of text ty s in
    let n = ident text name x.1 in
    let l = params_of text list n.1 in
    let v = stmts_of text b l.1 in
    let y = arg_of text a v.1 in
    let d = declared_text p.names x.0 n.0 in
    let A = params_parts (wording p) l.0 in
    let B = block_parts (stmt_texts p) 2 v.0 in
    let gv = then (arg-grows text a v.1) g in
    let gl = then (stmts-grows text b l.1) gv in
    let gn = then (params-grows text list n.1) gl in
    let last = end_pieces (space ∷ space ∷ mark kinds.CloseBrace ∷ line ∷ ps) in
    let back = space ∷ space ∷ space ∷ space ∷ mark kinds.Return ∷ space ∷ arg_pieces text (bare_arg a) last in
    let body = stmts_pieces text 2 (bare_stmts b) back in
    let behind = mark kinds.CloseParen ∷ space ∷ mark (perm_word q) ∷ space ∷ mark kinds.OpenBrace ∷ line ∷ body in
    ap (λ z. indent 1 ++ z) (declared-written text ty name s p (mark kinds.OpenParen ∷ params_pieces text list behind) gn)
    ∙ ap (λ z. indent 1 ++ (d ++ (codes "(" ++ z))) (params-written text list n.1 p behind gl)
    ∙ ap (λ z. indent 1 ++ (d ++ (codes "(" ++ (parts_text A ++ (codes ") " ++ (z ++ (codes " {\n" ++ pieces_text body))))))) (perm-same q)
    ∙ ap (λ z. indent 1 ++ (d ++ (codes "(" ++ (parts_text A ++ (codes ") " ++ (perm_text q ++ (codes " {\n" ++ z))))))) (stmts-written text 2 b l.1 p back this is.body gv)
    ∙ ap (λ z. indent 1 ++ (d ++ (codes "(" ++ (parts_text A ++ (codes ") " ++ (perm_text q ++ (codes " {\n" ++ (parts_text B ++ (indent 2 ++ (codes "return " ++ z)))))))))) (arg-written text a v.1 p last this is.back g)
    ∙ method-join (indent 1) d (codes "(") A (codes ") ") (perm_text q) (codes " {\n") B (indent 2) (codes "return ") (whole.arg_text (wording p) y.0) (codes ";\n") (indent 1) (codes "}\n") (pieces_text ps)

pub members-written : (text : List ℕ) (a : Members) (s p : Listing) (ps : List Piece) → HasThis p → AreMembers a → Grows (members_of text a s).2 p →
    pieces_text (members_pieces text (bare_members a) ps) ≡ parts_text (map (λ (m : Member). m.text) (entries text p a s)) ++ pieces_text ps
members-written text Members.no_members s p ps this is g = refl
members-written text (Members.more_members list x) s p ps this is g =
    let r = members_of text list s in
    let e = entry text p x r.2 in
    let A = map (λ (m : Member). m.text) (entries text p list s) in
    members-written text list s p (member_pieces text (bare_member x) ps) this is.0 (then (member-grows text x r.0 r.1 r.2) g)
    ∙ ap (λ z. parts_text A ++ z) (member-written text x r.0 r.1 r.2 p ps this is.1 g)
    ∙ and-part A e.text (pieces_text ps)
    ∙ ap (λ z. parts_text z ++ pieces_text ps) (sym (map-append (λ (m : Member). m.text) (entries text p list s) (e ∷ [])))

-- ---- their order

each-append : (n : ℕ) (xs ys : List Member) → EachLess (λ (m : Member). m.start) n xs → EachLess (λ (m : Member). m.start) n ys → EachLess (λ (m : Member). m.start) n (xs ++ ys)
each-append n [] ys h k = k
each-append n (x ∷ xs) ys h k = (h.0, each-append n xs ys h.1 k)

map-snoc : {X : Type 0} (f : X → Member) (n : ℕ) (xs : List X) (x : X) → EachLess (λ (m : Member). m.start) n (map f xs) → (f x).start < n → EachLess (λ (m : Member). m.start) n (map f (xs ++ x ∷ []))
map-snoc f n [] x h l = (l, tt)
map-snoc f n (y ∷ xs) x h l = (h.0, map-snoc f n xs x h.1 l)

-- the members so far begin before this place
pub record Early (p : Listing) (n : ℕ) (r : List FieldDecl × List Method × Listing) : Type 0 where
  pub fields : EachLess (λ (m : Member). m.start) n (map (whole.field_member p) r.0)
  pub methods : EachLess (λ (m : Member). m.start) n (map (whole.method_member p) r.1)

one-early : (text : List ℕ) (p : Listing) (x : MemberTree) (r : List FieldDecl × List Method × Listing) (n : ℕ) → Early p n r → (member_name x).span.start < n → Early p n (member_of text x r.0 r.1 r.2)
one-early text p (MemberTree.field_member ty name end) r n h l = record { fields = map-snoc (whole.field_member p) n r.0 _ h.fields l; methods = h.methods }
one-early text p (MemberTree.method ty name opening list closing q perm start b word a end finish) r n h l = record { fields = h.fields; methods = map-snoc (whole.method_member p) n r.1 _ h.methods l }

early : (text : List ℕ) (p : Listing) (a : Members) (s : Listing) (us : List Token) (n : ℕ) → IsAscending (members_text a us) → ((k : ℕ) → AllBehind k us → k < n) → Early p n (members_of text a s)
early text p Members.no_members s us n asc less = record { fields = tt; methods = tt }
early text p (Members.more_members list x) s us n asc less =
    let t = name-trails x us in
    let f = from-trails x us in
    let named = t.ascending ((members-trails list (member_text x us)).ascending asc) in
    let rest = early text p list s (member_text x us) n asc (λ k h. less k (f.behind k (t.behind k h).1)) in
    one-early text p x (members_of text list s) n rest (less (member_name x).span.start (f.behind (member_name x).span.start named.0))

one-sorted : (text : List ℕ) (p : Listing) (x : MemberTree) (r : List FieldDecl × List Method × Listing) → Early p (member_name x).span.start r →
    (let y = member_of text x r.0 r.1 r.2 in sort_by (λ (m : Member). m.start) (map (whole.field_member p) y.0 ++ map (whole.method_member p) y.1))
    ≡ sort_by (λ (m : Member). m.start) (map (whole.field_member p) r.0 ++ map (whole.method_member p) r.1) ++ entry text p x r.2 ∷ []
one-sorted text p (MemberTree.field_member ty name end) r h =
    let x = type_of text ty r.2 in
    let d : FieldDecl = record { ty = x.0; name = (ident text name x.1).0 } in
    let F = map (whole.field_member p) r.0 in
    let M = map (whole.method_member p) r.1 in
    ap (sort_by (λ (m : Member). m.start)) (ap (λ z. z ++ M) (map-append (whole.field_member p) r.0 (d ∷ [])) ∙ append_assoc F (whole.field_member p d ∷ []) M)
    ∙ sort_by-last (λ (m : Member). m.start) F (whole.field_member p d) M h.fields h.methods
one-sorted text p (MemberTree.method ty name opening list closing q perm start b word a end finish) r h =
    let head = method_of text ty name list r.2 in
    let x = stmts_of text b head.program in
    let y = arg_of text a x.1 in
    let d : Method = record { result = head.result; name = head.name; params = head.params; receiver = q; body = record { stmts = x.0 }; back = y.0; span = record { start = word.span.start; end = end.span.end } } in
    let F = map (whole.field_member p) r.0 in
    let M = map (whole.method_member p) r.1 in
    ap (sort_by (λ (m : Member). m.start)) (ap (λ z. F ++ z) (map-append (whole.method_member p) r.1 (d ∷ [])) ∙ sym (append_assoc F M (whole.method_member p d ∷ [])))
    ∙ sort_by-last (λ (m : Member). m.start) (F ++ M) (whole.method_member p d) [] (each-append (whole.method_member p d).start F M h.fields h.methods) tt
    ∙ ap (λ z. sort_by (λ (m : Member). m.start) z ++ whole.method_member p d ∷ []) (append-nil (F ++ M))

-- in the order of their names the members stand as in the tree
pub members-sorted : (text : List ℕ) (p : Listing) (a : Members) (s : Listing) (us : List Token) → IsAscending (members_text a us) →
    sort_by (λ (m : Member). m.start) (map (whole.field_member p) (members_of text a s).0 ++ map (whole.method_member p) (members_of text a s).1) ≡ entries text p a s
members-sorted text p Members.no_members s us asc = refl
members-sorted text p (Members.more_members list x) s us asc =
    let r = members_of text list s in
    one-sorted text p x r (early text p list s (member_text x us) (member_name x).span.start asc (λ k h. ((name-trails x us).behind k h).0))
    ∙ ap (λ z. z ++ entry text p x r.2 ∷ []) (members-sorted text p list s (member_text x us) asc)
