-- What is computed of names that are looked up, of members and of keys is what the definitions say.
use Rattle.std.proofs.Common.{◌≡◌, ℕ, ◌+◌, List, Bool, true, false, Option, Some, None, refl, sym, ap, ◌∙◌, subst, arith}
use Rattle.std.specs.Prelude.{slice_get, ◌==◌}
use Rattle.std.proofs.lemmas.Bool.Decides.{nat_tests}
use Rattle.argot_tree.specs.declared.node_kind.NodeKind.{NodeKind}
use Rattle.argot_tree.specs.declared.node_kind.NodeKind.TheVariants as nodes
use Rattle.argot_tree.specs.declared.tree.TreeNode.{TreeNode}
use Rattle.argot_names_rules.specs.Nodes.{Spans, IsChild, IsFirstChild, first}
use Rattle.argot_names_rules.specs.Uses.{IsKey, IsDefined, IsLookup, IsQualified, defines_expressions}
use Rattle.argot_names_rules.specs.Uses as uses
use Rattle.argot_names_blocks.specs.declared.tables.Found.{Found}
use Rattle.argot_names_blocks.specs.declared.roles.Role.{Role}
use Rattle.argot_names_blocks.specs.declared.roles.Role.TheVariants as roles
use Rattle.argot_names_blocks.specs.declared.lookup.QualifiedName.{QualifiedName}
use Rattle.argot_files.specs.Parents.{AreParents}
use Rattle.argot_names_blocks.specs.Roles.{role_of}
use Rattle.argot_names_blocks.specs.Bringing.{found_at, found_in}
use Rattle.argot_names_blocks.specs.Looking.{stmt_defines, list_defines, above_defines, unless, looked_by, looked_at, looked_of, IsLookupBy, by_operand, operand_at, by_selector, selector_at, dotted_by, dotted_at, dotted_of, IsQualifiedBy, is_link, keyed_by, keyed_at, is_key_of}
use Rattle.argot_files.proofs.Listed.{some_is}
use Rattle.argot_names_blocks.proofs.RoleKinds.{defines_role, are_defining, only_expressions, only_used, only_typed, only_qualified, only_selector, only_selected, only_keyed}
use Rattle.argot_names_blocks.proofs.Finding.{spans_of, is_of, found_there, at_found, parent_found, found_parent}

eq_is : (a b : ℕ) → (a == b) ≡ true → a ≡ b
eq_is a b e = grind (arith, nat_tests)

eq_self : (a : ℕ) → (a == a) ≡ true
eq_self a = grind (arith, nat_tests)

module _ (tree : List TreeNode) (ps : List (Option ℕ)) (parents_ok : AreParents tree ps) where
  abbrev node : {k token last : ℕ} {kind : NodeKind} → Spans tree k kind token last → TreeNode
  node {k} {token} {last} {kind} s = record { kind = kind; token = token; last = last; first = s.first; next = s.next }

  abbrev There : Found → Type 0
  There f = slice_get tree f.at ≡ Some f.node

  -- a name that a `:=` of a clause declares
  all_defined : {k : ℕ} → IsDefined tree k → above_defines tree ps (found_in tree ps k) ≡ true
  all_defined {k} d =
      ap (above_defines tree ps) (parent_found tree ps d.list k (node d.left.is_list) parents_ok d.left.among d.left.is_list.there)
      ∙ (ap stmt_defines (parent_found tree ps d.parent d.list (node d.is_parent.spans) parents_ok d.left.under d.is_parent.spans.there)
      ∙ defines_role d.is_parent.kind d.is_parent.passes)

  only_stmt : (k : ℕ) (n : TreeNode) (list : Found) → Spans tree k nodes.NameUse n.token n.last → IsChild tree list.at k → Spans tree list.at nodes.Exprs list.node.token list.node.last → (o : Option Found) → found_in tree ps list.at ≡ o → stmt_defines o ≡ true → IsDefined tree k
  only_stmt k n list name among list_is None e g = absurd (cc)
  only_stmt k n list name among list_is (Some x) e g =
      let found = found_parent tree ps list.at x parents_ok e in
      record {
        parent = x.at;
        at = x.node.token;
        end = x.node.last;
        list = list.at;
        token = n.token;
        is_parent = is_of tree x.at x.node defines_expressions found.1 (are_defining x.node.kind g);
        left = record { from = list.node.token; to = list.node.last; last = n.last; under = found.0; is_list = list_is; among = among; is_name = name };
      }

  only_defined : (k : ℕ) (n : TreeNode) → Spans tree k nodes.NameUse n.token n.last → (o : Option Found) → found_in tree ps k ≡ o → above_defines tree ps o ≡ true → IsDefined tree k
  only_defined k n name None e g = absurd (cc)
  only_defined k n name (Some x) e g = go (role_of x.node.kind) refl g
    where
      found : IsChild tree x.at k × There x
      found = found_parent tree ps k x parents_ok e

      go : (role : Role) → role_of x.node.kind ≡ role → list_defines tree ps x role ≡ true → IsDefined tree k
      go roles.Expressions r h = only_stmt k n x name found.0 (spans_of tree x.at x.node nodes.Exprs found.1 (only_expressions x.node.kind r)) (found_in tree ps x.at) refl h
      go role r h = absurd (cc)

  -- names that are looked up
  only_looked : (k token : ℕ) (n : TreeNode) → slice_get tree k ≡ Some n → (role : Role) → role_of n.kind ≡ role → looked_by tree ps k n.token role ≡ Some token → IsLookup tree k token
  only_looked k token n there roles.Used r g = go (above_defines tree ps (found_in tree ps k)) refl g
    where
      go : (b : Bool) → above_defines tree ps (found_in tree ps k) ≡ b → unless b n.token ≡ Some token → IsLookup tree k token
      go true e h = absurd (cc)
      go false e h = subst (IsLookup tree k) (some_is n.token token h) (uses.value (spans_of tree k n nodes.NameUse there (only_used n.kind r)) (λ d. absurd (cc (all_defined d))))
  only_looked k token n there roles.Typed r g = subst (IsLookup tree k) (some_is n.token token g) (uses.type_ (spans_of tree k n nodes.TypeName there (only_typed n.kind r)))
  only_looked k token n there roles.Qualified r g = subst (IsLookup tree k) (some_is n.token token g) (uses.package_ (spans_of tree k n nodes.QualifiedType there (only_qualified n.kind r)))
  only_looked k token n there role r g = absurd (cc)

  all_looked : (k token : ℕ) → IsLookup tree k token → looked_of tree ps k ≡ Some token
  all_looked k token (uses.value name free) = ap (looked_at tree ps k) name.there ∙ go (above_defines tree ps (found_in tree ps k)) refl
    where
      go : (b : Bool) → above_defines tree ps (found_in tree ps k) ≡ b → unless (above_defines tree ps (found_in tree ps k)) token ≡ Some token
      go true e = absurd (free (only_defined k (node name) name (found_in tree ps k) refl e))
      go false e = ap (λ b. unless b token) e
  all_looked k token (uses.type_ name) = ap (looked_at tree ps k) name.there
  all_looked k token (uses.package_ name) = ap (looked_at tree ps k) name.there

  pub looked_right : (k : ℕ) (result : Option ℕ) → result ≡ looked_of tree ps k → IsLookupBy tree k result
  looked_right k result e =
      record {
        sound = λ token g. go token (slice_get tree k) refl (sym e ∙ g);
        complete = λ token h. e ∙ all_looked k token h;
      }
    where
      go : (token : ℕ) → (o : Option TreeNode) → slice_get tree k ≡ o → looked_at tree ps k o ≡ Some token → IsLookup tree k token
      go token None f g = absurd (cc)
      go token (Some n) f g = only_looked k token n f (role_of n.kind) refl g

  -- members
  abbrev RightQualified : ℕ → QualifiedName → Type 0
  RightQualified k d = (d.node ≡ k) × IsQualified tree d.token d.member d.node

  right_dotted : (k : ℕ) (x d : QualifiedName) → RightQualified k x → Some x ≡ Some d → RightQualified k d
  right_dotted k x d h e = subst (RightQualified k) (some_is x d e) h

  only_operand : (k : ℕ) (n : TreeNode) (above : Found) → Spans tree k nodes.SelectedName n.token n.last → IsChild tree above.at k → There above → above.node.kind ≡ nodes.Selector → (o : Option Found) → found_at tree above.node.first ≡ o → (d : QualifiedName) → operand_at k n.token o ≡ Some d → RightQualified k d
  only_operand k n above name under there kind None e d g = absurd (cc)
  only_operand k n above name under there kind (Some x) e d g = go (role_of x.node.kind) refl g
    where
      go : (role : Role) → role_of x.node.kind ≡ role → by_operand k n.token x.node role ≡ Some d → RightQualified k d
      go roles.Used r h =
          let is = found_there tree above.node.first x e in
          let operand : IsFirstChild tree above.at x.at = record { is = above.node; there = there; first = is.link_is } in
          right_dotted k (record { token = x.node.token; member = n.token; node = k }) d
          (refl, uses.selector (spans_of tree above.at above.node nodes.Selector there kind) operand (spans_of tree x.at x.node nodes.NameUse is.there (only_used x.node.kind r)) under name) h
      go role r h = absurd (cc)

  only_selected_name : (k : ℕ) (n : TreeNode) → Spans tree k nodes.SelectedName n.token n.last → (o : Option Found) → found_in tree ps k ≡ o → (d : QualifiedName) → selector_at tree k n.token o ≡ Some d → RightQualified k d
  only_selected_name k n name None e d g = absurd (cc)
  only_selected_name k n name (Some x) e d g = go (role_of x.node.kind) refl g
    where
      found : IsChild tree x.at k × There x
      found = found_parent tree ps k x parents_ok e

      go : (role : Role) → role_of x.node.kind ≡ role → by_selector tree k n.token x.node role ≡ Some d → RightQualified k d
      go roles.Selector r h = only_operand k n x name found.0 found.1 (only_selector x.node.kind r) (found_at tree x.node.first) refl d h
      go role r h = absurd (cc)

  only_dotted : (k : ℕ) (n : TreeNode) → slice_get tree k ≡ Some n → (role : Role) → role_of n.kind ≡ role → (d : QualifiedName) → dotted_by tree ps k n.token role ≡ Some d → RightQualified k d
  only_dotted k n there roles.Selected r d g = only_selected_name k n (spans_of tree k n nodes.SelectedName there (only_selected n.kind r)) (found_in tree ps k) refl d g
  only_dotted k n there roles.Qualified r d g =
      right_dotted k (record { token = n.token; member = n.token + 2; node = k }) d (refl, uses.type_ (spans_of tree k n nodes.QualifiedType there (only_qualified n.kind r))) g
  only_dotted k n there role r d g = absurd (cc)

  all_dotted : {token member k : ℕ} → IsQualified tree token member k → dotted_of tree ps k ≡ Some (record { token = token; member = member; node = k })
  all_dotted {k = k} (uses.selector {selector = selector} {operand = operand} {member = member} is operand_first operand_is under name) =
      ap (dotted_at tree ps k) name.there
      ∙ (ap (selector_at tree k member) (parent_found tree ps selector k (node is) parents_ok under is.there)
      ∙ ap (operand_at k member) (first_found operand_first))
    where
      first_found : IsFirstChild tree selector operand → found_at tree is.first ≡ Some (record { at = operand; node = node operand_is })
      first_found f =
          let same = some_is f.is (node is) (sym f.there ∙ is.there) in
          let first_is : is.first ≡ Some operand = sym (λ i. (same i).first) ∙ f.first in
          ap (found_at tree) first_is ∙ at_found tree operand (node operand_is) operand_is.there
  all_dotted {k = k} (uses.type_ name) = ap (dotted_at tree ps k) name.there

  pub dotted_right : (k : ℕ) (result : Option QualifiedName) → result ≡ dotted_of tree ps k → IsQualifiedBy tree k result
  dotted_right k result e =
      record {
        sound = λ d g. go d (slice_get tree k) refl (sym e ∙ g);
        complete = λ d same h. e ∙ subst (λ x. dotted_of tree ps x ≡ Some d) same (all_dotted h);
      }
    where
      go : (d : QualifiedName) → (o : Option TreeNode) → slice_get tree k ≡ o → dotted_at tree ps k o ≡ Some d → RightQualified k d
      go d None f g = absurd (cc)
      go d (Some n) f g = only_dotted k n f (role_of n.kind) refl d g

  -- keys
  link_is : (o : Option ℕ) (k : ℕ) → is_link o k ≡ true → o ≡ Some k
  link_is None k e = absurd (cc)
  link_is (Some at) k e = ap Some (eq_is at k e)

  pub only_key : (k : ℕ) → is_key_of tree ps k ≡ true → IsKey tree k
  only_key k g = go (found_in tree ps k) refl g
    where
      by : (x : Found) → IsChild tree x.at k × There x → (role : Role) → role_of x.node.kind ≡ role → keyed_by k x.node role ≡ true → IsKey tree k
      by x found roles.Keyed r h =
          record {
            item = x.at;
            is_item = record { token = x.node.token; last = x.node.last; spans = spans_of tree x.at x.node nodes.KeyedItem found.1 (only_keyed x.node.kind r) };
            first = record { is = x.node; there = found.1; first = link_is x.node.first k h };
          }
      by x found role r h = absurd (cc)

      go : (o : Option Found) → found_in tree ps k ≡ o → keyed_at k o ≡ true → IsKey tree k
      go None e h = absurd (cc)
      go (Some x) e h = by x (found_parent tree ps k x parents_ok e) (role_of x.node.kind) refl h

  pub all_keys : (k : ℕ) → IsKey tree k → is_key_of tree ps k ≡ true
  all_keys k h =
      let m : TreeNode = node h.is_item.spans in
      let same = some_is h.first.is m (sym h.first.there ∙ h.is_item.spans.there) in
      let first_is : m.first ≡ Some k = sym (λ i. (same i).first) ∙ h.first.first in
      ap (keyed_at k) (parent_found tree ps h.item k m parents_ok (first h.first) h.is_item.spans.there)
      ∙ (ap (λ o. is_link o k) first_is ∙ eq_self k)
