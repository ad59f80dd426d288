-- Other tokens that are alike are those of a program that is the same but for its spans.
use Rattle.std.proofs.Common.{◌≡◌, ℕ, List, [], ◌∷◌, map, refl, sym, ◌∙◌, ap, subst}
use Rattle.perm_tree.specs.Places.{Listing}
use Rattle.perm_tree.specs.declared.ast.FieldDecl.{FieldDecl}
use Rattle.perm_tree.specs.declared.ast.Method.{Method}
use Rattle.perm_tree.specs.declared.tokens.Token.{Token}
use Rattle.perm_parse.specs.Grammar.{ParamList, Params, MemberTree, Members, Classes, IsParamList, AreParams, IsMember, AreMembers, IsProgram, param_list_text, params_text, member_text, members_text, program_text}
use Rattle.perm_parse.specs.Levels.{type_levels, stmts_levels, param_list_levels, params_levels, member_levels, members_levels, program_levels}
use Rattle.perm_parse.specs.Meaning.{param_list_of, params_of, member_of, members_of, classes_of, nothing_yet, meaning}
use Rattle.perm_parse.specs.Parses.{Parses, Shallow}
use Rattle.perm_parse.specs.SameButSpans.{no_span, clear_field, clear_method, clear_class, without_spans, SameButSpans}
use Rattle.perm_parse.proofs.RoundTrip.AlikeTokens.{Same, last-same, AllAlike, Follow, first, is-same, ident-same, Renewed, renew_type}
use Rattle.perm_parse.proofs.RoundTrip.AlikeExpressions.{renew_arg}
use Rattle.perm_parse.proofs.RoundTrip.AlikeStatements.{renew_stmts}

-- ---- parameters

pub record SameParams (x y : List FieldDecl × Listing) : Type 0 where
  pub params : map clear_field x.0 ≡ map clear_field y.0
  pub rest : Same x.1 y.1

pub record LikeParamList (text other : List ℕ) (a b : ParamList) : Type 0 where
  pub is : IsParamList b
  pub levels : (d : ℕ) (ls : List ℕ) → param_list_levels d b ls ≡ param_list_levels d a ls
  pub means : (s t : Listing) → Same s t → SameParams (param_list_of text a s) (param_list_of other b t)

renew_param_list : (text other : List ℕ) (a : ParamList) (us vs : List Token) → IsParamList a → Follow text other (param_list_text a us) vs → Renewed text other param_list_text (LikeParamList text other a) us vs
renew_param_list text other (ParamList.one_param ty name) us vs is h =
    let x = renew_type text other ty _ _ is.0 h in
    let y = first x.rest in
    record {
      tree = ParamList.one_param x.tree y.token;
      behind = y.behind;
      spells = rw (y.is, x.spells) refl;
      rest = y.rest;
      like = record {
        is = (x.like.is, is-same y.alike is.1);
        levels = λ d ls. x.like.levels d (d ∷ ls);
        means = λ s t k.
            let m = x.like.means s t k in
            let n = ident-same _ _ y.alike is.1 m.rest in
            record { params = λ i. record { ty = m.ty i; name = n.ident i } ∷ []; rest = n.rest };
      };
    }
renew_param_list text other (ParamList.more_params list comma ty name) us vs is h =
    let l = renew_param_list text other list _ _ is.list h in
    let c = first l.rest in
    let x = renew_type text other ty _ _ is.ty c.rest in
    let y = first x.rest in
    record {
      tree = ParamList.more_params l.tree c.token x.tree y.token;
      behind = y.behind;
      spells = rw (y.is, x.spells, c.is, l.spells) refl;
      rest = y.rest;
      like = record {
        is = record { list = l.like.is; comma = is-same c.alike is.comma; ty = x.like.is; name = is-same y.alike is.name };
        levels = λ d ls. l.like.levels d _ ∙ ap (λ ks. param_list_levels d list (d ∷ ks)) (x.like.levels d (d ∷ ls));
        means = λ s t k.
            let o = l.like.means s t k in
            let m = x.like.means _ _ o.rest in
            let n = ident-same _ _ y.alike is.name m.rest in
            record { params = last-same clear_field _ _ _ _ o.params (λ i. record { ty = m.ty i; name = n.ident i }); rest = n.rest };
      };
    }

pub record LikeParams (text other : List ℕ) (a b : Params) : Type 0 where
  pub is : AreParams b
  pub levels : (d : ℕ) (ls : List ℕ) → params_levels d b ls ≡ params_levels d a ls
  pub means : (s t : Listing) → Same s t → SameParams (params_of text a s) (params_of other b t)

renew_params : (text other : List ℕ) (a : Params) (us vs : List Token) → AreParams a → Follow text other (params_text a us) vs → Renewed text other params_text (LikeParams text other a) us vs
renew_params text other Params.no_params us vs is h =
    record { tree = Params.no_params; behind = vs; spells = refl; rest = h; like = record { is = tt; levels = λ d ls. refl; means = λ s t k. record { params = refl; rest = k } } }
renew_params text other (Params.params list) us vs is h =
    let y = renew_param_list text other list us vs is h in
    record {
      tree = Params.params y.tree;
      behind = y.behind;
      spells = y.spells;
      rest = y.rest;
      like = record { is = y.like.is; levels = λ d ls. y.like.levels d ls; means = λ s t k. y.like.means s t k };
    }

-- ---- members

pub record SameMembers (x y : List FieldDecl × List Method × Listing) : Type 0 where
  pub fields : map clear_field x.0 ≡ map clear_field y.0
  pub methods : map clear_method x.1 ≡ map clear_method y.1
  pub rest : Same x.2 y.2

pub record LikeMember (text other : List ℕ) (a b : MemberTree) : Type 0 where
  pub is : IsMember b
  pub levels : (ls : List ℕ) → member_levels b ls ≡ member_levels a ls
  pub means : (fs gs : List FieldDecl) (ms ns : List Method) (s t : Listing) → SameMembers (fs, ms, s) (gs, ns, t) → SameMembers (member_of text a fs ms s) (member_of other b gs ns t)

renew_member : (text other : List ℕ) (a : MemberTree) (us vs : List Token) → IsMember a → Follow text other (member_text a us) vs → Renewed text other member_text (LikeMember text other a) us vs
renew_member text other (MemberTree.field_member ty name end) us vs is h =
    let x = renew_type text other ty _ _ is.0 h in
    let y = first x.rest in
    let z = first y.rest in
    record {
      tree = MemberTree.field_member x.tree y.token z.token;
      behind = z.behind;
      spells = rw (z.is, y.is, x.spells) refl;
      rest = z.rest;
      like = record {
        is = (x.like.is, is-same y.alike is.1, is-same z.alike is.2);
        levels = λ ls. x.like.levels 1 (1 ∷ 1 ∷ ls);
        means = λ fs gs ms ns s t k.
            let m = x.like.means s t k.rest in
            let n = ident-same _ _ y.alike is.1 m.rest in
            record { fields = last-same clear_field fs gs _ _ k.fields (λ i. record { ty = m.ty i; name = n.ident i }); methods = k.methods; rest = n.rest };
      };
    }
renew_member text other (MemberTree.method ty name opening list closing p perm start b word a end finish) us vs is h =
    let x1 = renew_type text other ty _ _ is.ty h in
    let x2 = first x1.rest in
    let x3 = first x2.rest in
    let x4 = renew_params text other list _ _ is.params x3.rest in
    let x5 = first x4.rest in
    let x6 = first x5.rest in
    let x7 = first x6.rest in
    let x8 = renew_stmts text other b _ _ is.body x7.rest in
    let x9 = first x8.rest in
    let y1 = renew_arg text other a _ _ is.back x9.rest in
    let y2 = first y1.rest in
    let y3 = first y2.rest in
    record {
      tree = MemberTree.method x1.tree x2.token x3.token x4.tree x5.token p x6.token x7.token x8.tree x9.token y1.tree y2.token y3.token;
      behind = y3.behind;
      spells = rw (y3.is, y2.is, y1.spells, x9.is, x8.spells, x7.is, x6.is, x5.is, x4.spells, x3.is, x2.is, x1.spells) refl;
      rest = y3.rest;
      like = record {
        is = record { ty = x1.like.is; name = is-same x2.alike is.name; opening = is-same x3.alike is.opening; params = x4.like.is; closing = is-same x5.alike is.closing; perm = is-same x6.alike is.perm; start = is-same x7.alike is.start; body = x8.like.is; word = is-same x9.alike is.word; back = y1.like.is; end = is-same y2.alike is.end; finish = is-same y3.alike is.finish };
        levels = λ ls. x1.like.levels 1 _ ∙ ap (λ ks. type_levels 1 ty (1 ∷ 2 ∷ ks)) (x4.like.levels 2 _
            ∙ ap (λ ks. params_levels 2 list (1 ∷ 1 ∷ 2 ∷ ks)) (x8.like.levels 2 _ ∙ ap (λ ks. stmts_levels 2 b (2 ∷ ks)) (y1.like.levels 2 (2 ∷ 1 ∷ ls))));
        means = λ fs gs ms ns s t k.
            let m1 = x1.like.means s t k.rest in
            let m2 = ident-same _ _ x2.alike is.name m1.rest in
            let m3 = x4.like.means _ _ m2.rest in
            let m4 = x8.like.means _ _ m3.rest in
            let m5 = y1.like.means _ _ m4.rest in
            record {
              fields = k.fields;
              methods = last-same clear_method ms ns _ _ k.methods
                  (λ i. record { result = m1.ty i; name = m2.ident i; params = m3.params i; receiver = p; body = record { stmts = m4.places i }; back = m5.arg i; span = no_span });
              rest = m5.rest;
            };
      };
    }

pub record LikeMembers (text other : List ℕ) (a b : Members) : Type 0 where
  pub is : AreMembers b
  pub levels : (ls : List ℕ) → members_levels b ls ≡ members_levels a ls
  pub means : (s t : Listing) → Same s t → SameMembers (members_of text a s) (members_of other b t)

renew_members : (text other : List ℕ) (a : Members) (us vs : List Token) → AreMembers a → Follow text other (members_text a us) vs → Renewed text other members_text (LikeMembers text other a) us vs
renew_members text other Members.no_members us vs is h =
    record { tree = Members.no_members; behind = vs; spells = refl; rest = h; like = record { is = tt; levels = λ ls. refl; means = λ s t k. record { fields = refl; methods = refl; rest = k } } }
renew_members text other (Members.more_members list a) us vs is h =
    let x = renew_members text other list _ _ is.0 h in
    let y = renew_member text other a _ _ is.1 x.rest in
    record {
      tree = Members.more_members x.tree y.tree;
      behind = y.behind;
      spells = rw (y.spells, x.spells) refl;
      rest = y.rest;
      like = record {
        is = (x.like.is, y.like.is);
        levels = λ ls. x.like.levels _ ∙ ap (members_levels list) (y.like.levels ls);
        means = λ s t k. let m = x.like.means s t k in y.like.means _ _ _ _ _ _ m;
      };
    }

-- ---- programs

pub record LikeClasses (text other : List ℕ) (a b : Classes) : Type 0 where
  pub is : IsProgram b
  pub levels : (ls : List ℕ) → program_levels b ls ≡ program_levels a ls
  pub means : (s t : Listing) → Same s t → Same (classes_of text a s) (classes_of other b t)

renew_classes : (text other : List ℕ) (a : Classes) (us vs : List Token) → IsProgram a → Follow text other (program_text a us) vs → Renewed text other program_text (LikeClasses text other a) us vs
renew_classes text other Classes.no_classes us vs is h =
    record { tree = Classes.no_classes; behind = vs; spells = refl; rest = h; like = record { is = tt; levels = λ ls. refl; means = λ s t k. k } }
renew_classes text other (Classes.more_classes list word name opening members closing) us vs is h =
    let v = renew_classes text other list _ _ is.list h in
    let w = first v.rest in
    let x = first w.rest in
    let y = first x.rest in
    let z = renew_members text other members _ _ is.members y.rest in
    let p = first z.rest in
    record {
      tree = Classes.more_classes v.tree w.token x.token y.token z.tree p.token;
      behind = p.behind;
      spells = rw (p.is, z.spells, y.is, x.is, w.is, v.spells) refl;
      rest = p.rest;
      like = record {
        is = record { list = v.like.is; word = is-same w.alike is.word; name = is-same x.alike is.name; opening = is-same y.alike is.opening; members = z.like.is; closing = is-same p.alike is.closing };
        levels = λ ls. v.like.levels _ ∙ ap (λ ks. program_levels list (0 ∷ 0 ∷ 1 ∷ ks)) (z.like.levels (0 ∷ ls));
        means = λ s t k.
            let m = v.like.means s t k in
            let n = ident-same _ _ x.alike is.name m in
            let o = z.like.means _ _ n.rest in
            let more = last-same clear_class _ _ _ _ (ap (λ (q : Listing). q.classes) o.rest.same) (λ i. record { name = n.ident i; fields = o.fields i; methods = o.methods i }) in
            record { same = λ i. record (o.rest.same i) { classes = more i } };
      };
    }

-- the program of the other tokens
pub record ParsesAlike (other : List ℕ) (tokens : List Token) (p : Listing) : Type 0 where
  pub program : Listing
  pub parses : Parses other tokens program
  pub same : SameButSpans p program

-- tokens that are alike parse alike
pub renew_program : (text other : List ℕ) (us vs : List Token) (p : Listing) → Parses text us p → AllAlike text other us vs → ParsesAlike other vs p
renew_program text other us vs p h all = go vs (renew_classes text other h.tree [] vs h.is_tree (record { all = subst (λ (z : List Token). AllAlike text other z vs) (sym h.spells) all }))
  where
    none : (text other : List ℕ) (ws : List Token) → AllAlike text other [] ws → ws ≡ []
    none text other [] k = refl
    none text other (w ∷ ws) k = absurd k

    go : (ws : List Token) → Renewed text other program_text (LikeClasses text other h.tree) [] ws → ParsesAlike other ws p
    go ws r = record {
      program = meaning other r.tree;
      parses = record {
        tree = r.tree;
        is_tree = r.like.is;
        spells = ap (program_text r.tree) (sym (none text other r.behind r.rest.all)) ∙ r.spells;
        means = refl;
        shallow = subst Shallow (sym (r.like.levels [])) h.shallow;
      };
      same = ap without_spans (sym h.means) ∙ (r.like.means nothing_yet nothing_yet (record { same = refl })).same;
    }
