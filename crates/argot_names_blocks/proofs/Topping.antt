-- What is computed of names that are declared outside functions is what the definitions say.
use Rattle.std.proofs.Common.{◌≡◌, ℕ, ◌<◌, List, Bool, true, false, Option, Some, None, refl, sym, ap, ◌∙◌, subst}
use Rattle.std.specs.Prelude.{slice_get, ◌&&◌}
use Rattle.std.proofs.lemmas.Option.{slice_get_within}
use Rattle.argot_tree.specs.declared.node_kind.NodeKind.{NodeKind}
use Rattle.argot_tree.specs.declared.node_kind.NodeKind.TheVariants as nodes
use Rattle.argot_tree.specs.declared.tree.TreeNode.{TreeNode}
use Rattle.argot_names_rules.specs.Nodes.{Spans, IsChild, HasReceiver, is_params}
use Rattle.argot_names_rules.specs.Blocks.{IsOutside}
use Rattle.argot_names_rules.specs.Bindings.{IsNameOf, specifies_values, specifies_type}
use Rattle.argot_names_rules.specs.PackageScope.{IsTopName, value, type_, function}
use Rattle.argot_names_rules.specs.PackageScope.{Sort as TopSort, Value, Kind, Function}
use Rattle.argot_names_blocks.specs.declared.tables.Found.{Found}
use Rattle.argot_names_blocks.specs.declared.blocks.Block.{Block}
use Rattle.argot_names_blocks.specs.declared.blocks.Span.{Span}
use Rattle.argot_names_blocks.specs.declared.roles.Role.{Role}
use Rattle.argot_names_blocks.specs.declared.roles.Role.TheVariants as roles
use Rattle.argot_names_blocks.specs.declared.tops.TopName.{TopName}
use Rattle.argot_names_blocks.specs.declared.tops.Sort.{Sort}
use Rattle.argot_names_blocks.specs.declared.tops.Sort.TheVariants as sorts
use Rattle.argot_files.specs.declared.marks.Wanted.TheVariants as wants
use Rattle.argot_files.specs.Marks.{HasWanted, AreMarks}
use Rattle.argot_files.specs.Parents.{AreParents}
use Rattle.argot_names_blocks.specs.Blocks.{AreBlocks, span_in}
use Rattle.argot_names_blocks.specs.Roles.{role_of}
use Rattle.argot_names_blocks.specs.Bringing.{found_in}
use Rattle.argot_names_blocks.specs.Looking.{is_out, is_func_decl, is_false, top_if, top_in_names, top_listed, top_by_above, top_below, top_by, top_at, top_of, sort_of, IsTopBy}
use Rattle.argot_files.proofs.Listed.{some_is}
use Rattle.argot_names_blocks.proofs.RoleKinds.{values_role, kind_role, are_values, are_kind, only_names, only_declared, func_decl_kind}
use Rattle.argot_names_blocks.proofs.Finding.{spans_of, is_of, parent_found, found_parent, get_some}
use Rattle.argot_names_blocks.proofs.Around.{is_outside, outside_is}

abbrev written_sort : TopSort → Sort
written_sort Value = sorts.Value
written_sort Kind = sorts.Kind
written_sort Function = sorts.Function

both_true : (a b : Bool) → (a && b) ≡ true → (a ≡ true) × (b ≡ true)
both_true true b e = (refl, e)
both_true false b e = absurd (cc)

module _ (tree : List TreeNode) (ps : List (Option ℕ)) (blocks : List Block) (receivers : List Bool) (parents_ok : AreParents tree ps) (blocks_ok : AreBlocks tree blocks) (marks_ok : AreMarks tree wants.Parameters receivers) where
  abbrev node : {k token last : ℕ} {kind : NodeKind} → Spans tree k kind token last → TreeNode
  node {k} {token} {last} {kind} s = record { kind = kind; token = token; last = last; first = s.first; next = s.next }

  abbrev There : Found → Type 0
  There f = slice_get tree f.at ≡ Some f.node

  -- outside all blocks
  out_is : (token : ℕ) → is_out (span_in blocks token) ≡ true → IsOutside tree token
  out_is token e = go (span_in blocks token) refl e
    where
      go : (o : Option Span) → span_in blocks token ≡ o → is_out o ≡ true → IsOutside tree token
      go None f g = is_outside tree blocks blocks_ok token f
      go (Some span) f g = absurd (cc)

  out_there : (token : ℕ) → IsOutside tree token → is_out (span_in blocks token) ≡ true
  out_there token out = ap is_out (outside_is tree blocks blocks_ok token out)

  -- no receiver
  no_receiver : (p : ℕ) → is_false (slice_get receivers p) ≡ true → HasReceiver tree p → ⊥
  no_receiver p e has = go (slice_get receivers p) refl e
    where
      own : HasWanted tree wants.Parameters p
      own = record { child = has.child; is = record { kind = has.is.kind; token = has.token; last = has.last; first = has.is.spans.first; next = has.is.spans.next }; under = has.under; there = has.is.spans.there; passes = has.is.passes }

      go : (o : Option Bool) → slice_get receivers p ≡ o → is_false o ≡ true → ⊥
      go None f g = absurd (cc)
      go (Some true) f g = absurd (cc)
      go (Some false) f g = marks_ok.complete p f own

  has_no_mark : (p : ℕ) (m : TreeNode) → slice_get tree p ≡ Some m → (HasReceiver tree p → ⊥) → is_false (slice_get receivers p) ≡ true
  has_no_mark p m e none =
      let some = get_some receivers p (subst (λ n. p < n) (sym marks_ok.as_long) (slice_get_within tree p m e)) in
      go some.0 some.1
    where
      go : (x : Bool) → slice_get receivers p ≡ Some x → is_false (slice_get receivers p) ≡ true
      go false f = ap is_false f
      go true f =
          let has = marks_ok.sound p f in
          absurd (none (record { child = has.child; token = has.is.token; last = has.is.last; under = has.under; is = is_of tree has.child has.is is_params has.there has.passes }))

  abbrev Right : ℕ → TopName → Type 0
  Right k t = (t.node ≡ k) × IsTopName tree (sort_of t.sort) t.node t.token

  if_right : (b : Bool) (sort : Sort) (k token : ℕ) → (b ≡ true → IsTopName tree (sort_of sort) k token) → (t : TopName) → top_if b sort k token ≡ Some t → Right k t
  if_right false sort k token make t e = absurd (cc)
  if_right true sort k token make t e = subst (Right k) (some_is (record { sort = sort; node = k; token = token }) t e) (refl, make refl)

  listed_right : (k : ℕ) (n : TreeNode) (list : Found) → Spans tree k nodes.DeclName n.token n.last → IsChild tree list.at k → Spans tree list.at nodes.Names list.node.token list.node.last → (o : Option Found) → found_in tree ps list.at ≡ o → (t : TopName) → top_listed blocks k n.token o ≡ Some t → Right k t
  listed_right k n list name among list_is None e t g = absurd (cc)
  listed_right k n list name among list_is (Some x) e t g = go (role_of x.node.kind) refl g
    where
      found : IsChild tree x.at list.at × There x
      found = found_parent tree ps list.at x parents_ok e

      names : IsNameOf tree x.at k n.token
      names = record { list = list.at; from = list.node.token; to = list.node.last; last = n.last; under = found.0; is_list = list_is; among = among; is_name = name }

      go : (role : Role) → role_of x.node.kind ≡ role → top_in_names blocks k n.token x.node role ≡ Some t → Right k t
      go roles.Values r h =
          if_right (is_out (span_in blocks x.node.token)) sorts.Value k n.token (λ out. value (is_of tree x.at x.node specifies_values found.1 (are_values x.node.kind r)) (out_is x.node.token out) names) t h
      go role r h = absurd (cc)

  below_right : (k : ℕ) (n : TreeNode) → Spans tree k nodes.DeclName n.token n.last → (o : Option Found) → found_in tree ps k ≡ o → (t : TopName) → top_below tree ps blocks receivers k n.token o ≡ Some t → Right k t
  below_right k n name None e t g = absurd (cc)
  below_right k n name (Some x) e t g = go (role_of x.node.kind) refl g
    where
      found : IsChild tree x.at k × There x
      found = found_parent tree ps k x parents_ok e

      go : (role : Role) → role_of x.node.kind ≡ role → top_by_above tree ps blocks receivers k n.token x role ≡ Some t → Right k t
      go roles.Names r h = listed_right k n x name found.0 (spans_of tree x.at x.node nodes.Names found.1 (only_names x.node.kind r)) (found_in tree ps x.at) refl t h
      go roles.Kind r h =
          if_right (is_out (span_in blocks x.node.token)) sorts.Kind k n.token (λ out. type_ (is_of tree x.at x.node specifies_type found.1 (are_kind x.node.kind r)) (out_is x.node.token out) found.0 name) t h
      go roles.Function r h =
          if_right (is_func_decl x.node.kind && is_false (slice_get receivers x.at)) sorts.Function k n.token (λ both.
          let two = both_true (is_func_decl x.node.kind) (is_false (slice_get receivers x.at)) both in
          function (spans_of tree x.at x.node nodes.FuncDecl found.1 (func_decl_kind x.node.kind two.0)) (no_receiver x.at two.1) found.0 name) t h
      go role r h = absurd (cc)

  only_top : (k : ℕ) (n : TreeNode) → slice_get tree k ≡ Some n → (role : Role) → role_of n.kind ≡ role → (t : TopName) → top_by tree ps blocks receivers k n.token role ≡ Some t → Right k t
  only_top k n there roles.Declared r t g = below_right k n (spans_of tree k n nodes.DeclName there (only_declared n.kind r)) (found_in tree ps k) refl t g
  only_top k n there role r t g = absurd (cc)

  all_top : {sort : TopSort} {k token : ℕ} → IsTopName tree sort k token → top_of tree ps blocks receivers k ≡ Some (record { sort = written_sort sort; node = k; token = token })
  all_top {k = k} {token = token} (value {spec} is out names) =
      let m : TreeNode = node is.spans in
      ap (top_at tree ps blocks receivers k) names.is_name.there
      ∙ (ap (top_below tree ps blocks receivers k token) (parent_found tree ps names.list k (node names.is_list) parents_ok names.among names.is_list.there)
      ∙ (ap (top_listed blocks k token) (parent_found tree ps spec names.list m parents_ok names.under is.spans.there)
      ∙ (ap (top_in_names blocks k token m) (values_role is.kind is.passes)
      ∙ ap (λ b. top_if b sorts.Value k token) (out_there m.token out))))
  all_top {k = k} {token = token} (type_ {spec} is out under name) =
      let m : TreeNode = node is.spans in
      ap (top_at tree ps blocks receivers k) name.there
      ∙ (ap (top_below tree ps blocks receivers k token) (parent_found tree ps spec k m parents_ok under is.spans.there)
      ∙ (ap (top_by_above tree ps blocks receivers k token (record { at = spec; node = m })) (kind_role is.kind is.passes)
      ∙ ap (λ b. top_if b sorts.Kind k token) (out_there m.token out)))
  all_top {k = k} {token = token} (function {decl} is none under name) =
      let m : TreeNode = node is in
      ap (top_at tree ps blocks receivers k) name.there
      ∙ (ap (top_below tree ps blocks receivers k token) (parent_found tree ps decl k m parents_ok under is.there)
      ∙ ap (λ b. top_if b sorts.Function k token) (has_no_mark decl m is.there none))

  written_back : (s : Sort) → written_sort (sort_of s) ≡ s
  written_back sorts.Value = refl
  written_back sorts.Kind = refl
  written_back sorts.Function = refl

  pub top_right : (k : ℕ) (result : Option TopName) → result ≡ top_of tree ps blocks receivers k → IsTopBy tree k result
  top_right k result e =
      record {
        sound = λ t g. go t (slice_get tree k) refl (sym e ∙ g);
        complete = λ t same h.
            let here : top_of tree ps blocks receivers k ≡ Some (record { sort = written_sort (sort_of t.sort); node = t.node; token = t.token }) = subst (λ x. top_of tree ps blocks receivers x ≡ Some (record { sort = written_sort (sort_of t.sort); node = t.node; token = t.token })) same (all_top h) in
            e ∙ (here ∙ (λ i. Some (record { sort = written_back t.sort i; node = t.node; token = t.token })));
      }
    where
      go : (t : TopName) → (o : Option TreeNode) → slice_get tree k ≡ o → top_at tree ps blocks receivers k o ≡ Some t → Right k t
      go t None f g = absurd (cc)
      go t (Some n) f g = only_top k n f (role_of n.kind) refl t g
