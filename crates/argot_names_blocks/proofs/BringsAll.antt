-- What a node brings is computed.
use Rattle.std.proofs.Common.{◌≡◌, ℕ, ◌+◌, List, true, Option, Some, refl, sym, ap, ◌∙◌, subst, arith}
use Rattle.std.specs.Prelude.{slice_get}
use Rattle.argot_tree.specs.declared.node_kind.NodeKind.{NodeKind}
use Rattle.argot_tree.specs.declared.node_kind.NodeKind.TheVariants as nodes
use Rattle.argot_tree.specs.declared.tree.TreeNode.{TreeNode}
use Rattle.argot_names_rules.specs.Nodes.{Spans, IsChild, IsNext}
use Rattle.argot_names_rules.specs.Blocks.{IsInnermost}
use Rattle.argot_names_rules.specs.Bindings.{BindingKind, Brings, value, type_, define, range, receive, parameter, switched, HasParams, receiver, handed, of_case, of_default, IsNameOf, has_signature}
use Rattle.argot_names_blocks.specs.declared.blocks.Block.{Block}
use Rattle.argot_names_blocks.specs.declared.binding.BindingKind.{BindingKind as Written}
use Rattle.argot_names_blocks.specs.declared.binding.BindingKind.TheVariants as manners
use Rattle.argot_files.specs.Forms.{IsFormed}
use Rattle.argot_files.specs.Keys.{fits, AreKeys}
use Rattle.argot_files.specs.Parents.{AreParents}
use Rattle.argot_names_blocks.specs.Blocks.{AreBlocks}
use Rattle.argot_names_blocks.specs.Roles.{role_of}
use Rattle.argot_names_blocks.specs.Binding.{written_of}
use Rattle.argot_names_blocks.specs.Bringing.{found_at, found_in, brought_in, in_block, by_statement, listed, by_function, function_at, by_owner, owner_at, list_at, received_in, received, by_above, declared_below, defined_from, begins_at, ends_at, clause_at, used_below, switched_in, name_at, behind_values, behind_colon, switch_above, by_node, bring_of}
use Rattle.argot_files.proofs.Listed.{some_is}
use Rattle.argot_names_blocks.proofs.RoleKinds.{values_role, kind_role, function_role, entry_role, body_key}
use Rattle.argot_names_blocks.proofs.Finding.{parent_found, key_found, at_found}
use Rattle.argot_names_blocks.proofs.Around.{inside_is}

module _ (tree : List TreeNode) (ps keys : List (Option ℕ)) (blocks : List Block) (formed : IsFormed tree) (parents_ok : AreParents tree ps) (keys_ok : AreKeys tree keys) (blocks_ok : AreBlocks tree blocks) where
  -- the node that spans these tokens
  abbrev node : {k token last : ℕ} {kind : NodeKind} → Spans tree k kind token last → TreeNode
  node {k} {token} {last} {kind} s = record { kind = kind; token = token; last = last; first = s.first; next = s.next }

  -- the names of a node that specifies or defines them
  in_names : {stmt name token : ℕ} (n : IsNameOf tree stmt name token) → (m : TreeNode) → slice_get tree stmt ≡ Some m → bring_of tree ps keys blocks name ≡ by_statement blocks name token m (role_of m.kind)
  in_names {stmt} {name} {token} n m there =
      ap (by_node tree ps keys blocks name) n.is_name.there
      ∙ (ap (declared_below tree ps keys blocks name token) (parent_found tree ps n.list name (node n.is_list) parents_ok n.among n.is_list.there)
      ∙ ap (listed blocks name token) (parent_found tree ps stmt n.list m parents_ok n.under there))

  in_span : {opens closes : ℕ} (k : ℕ) (m : TreeNode) (manner : Written) (name token from : ℕ) → slice_get tree k ≡ Some m → IsInnermost tree m.token opens closes → in_block blocks m.token manner name token from ≡ Some (record { manner = manner; node = name; token = token; opens = opens; closes = closes; from = from })
  in_span {opens} {closes} k m manner name token from there inner =
      ap (λ s. brought_in s manner name token from) (inside_is tree blocks blocks_ok m.token opens closes inner)

  -- the function of a parameter's list
  has_function : {owner list from to : ℕ} (m : TreeNode) → HasParams tree owner list → Spans tree list nodes.NamedParams from to → slice_get tree owner ≡ Some m → has_signature m.kind ≡ true → owner_at tree ps (found_in tree ps list) ≡ Some (record { at = owner; node = m })
  has_function {owner} {list} m (receiver under) is there passes =
      ap (owner_at tree ps) (parent_found tree ps owner list m parents_ok under there)
      ∙ ap (by_owner tree ps (record { at = owner; node = m })) (function_role m.kind passes)
  has_function {owner} {list} m (handed {signature} above sig under) is there passes =
      ap (owner_at tree ps) (parent_found tree ps signature list (node sig) parents_ok under sig.there)
      ∙ (ap function_at (parent_found tree ps owner signature m parents_ok above there)
      ∙ ap (by_function (record { at = owner; node = m })) (function_role m.kind passes))

  -- a clause of a type switch with a name
  in_clause : {stmt guard name token clause at last from to end colon : ℕ} (m : TreeNode) → Spans tree stmt nodes.TypeSwitch at last → IsChild tree stmt guard → Spans tree guard nodes.NamedGuard from to → IsChild tree guard name → Spans tree name nodes.DeclName token end → IsChild tree stmt clause → behind_colon tree keys clause m (role_of m.kind) ≡ Some colon → switch_above tree keys clause m (found_in tree ps clause) ≡ Some (record { manner = manners.Switched; node = clause; token = token; opens = m.token; closes = m.last; from = colon })
  in_clause {stmt} {guard} {name} {clause = clause} {colon = colon} m is guard_under guard_is name_under name_is under behind =
      ap (switch_above tree keys clause m) (parent_found tree ps stmt clause (node is) parents_ok under is.there)
      ∙ (ap (λ b. switched_in clause m b (name_at tree keys (found_in tree keys stmt))) behind
      ∙ (ap (λ g. switched_in clause m (Some colon) (name_at tree keys g)) (key_found tree keys stmt guard (node is) (node guard_is) keys_ok guard_under is.there guard_is.there refl)
      ∙ ap (switched_in clause m (Some colon)) (key_found tree keys guard name (node guard_is) (node name_is) keys_ok name_under guard_is.there name_is.there refl)))

  -- node k brings what the computation says
  pub all_brought : {m : BindingKind} {k token opens closes from : ℕ} → Brings tree m k token opens closes from → bring_of tree ps keys blocks k ≡ Some (record { manner = written_of m; node = k; token = token; opens = opens; closes = closes; from = from })
  all_brought (value {spec} {name = k} {token} is names inner) =
      let m : TreeNode = node is.spans in
      in_names names m is.spans.there
      ∙ (ap (by_statement blocks k token m) (values_role is.kind is.passes)
      ∙ in_span spec m manners.Specified k token (m.last + 1) is.spans.there inner)
  all_brought (type_ {spec} {name = k} {token} is under name inner) =
      let m : TreeNode = node is.spans in
      ap (by_node tree ps keys blocks k) name.there
      ∙ (ap (declared_below tree ps keys blocks k token) (parent_found tree ps spec k m parents_ok under is.spans.there)
      ∙ (ap (by_above tree ps keys blocks k token (record { at = spec; node = m })) (kind_role is.kind is.passes)
      ∙ in_span spec m manners.Specified k token token is.spans.there inner))
  all_brought (define {stmt} {name = k} {token} is names inner) =
      let m : TreeNode = node is in
      in_names names m is.there ∙ in_span stmt m manners.Defined k token (m.last + 1) is.there inner
  all_brought (range {stmt} {list} {name = k} {token} {body = body} is left under braces) =
      let m : TreeNode = node is in
      ap (by_node tree ps keys blocks k) left.is_name.there
      ∙ (ap (used_below tree ps keys k token) (parent_found tree ps list k (node left.is_list) parents_ok left.among left.is_list.there)
      ∙ (ap (clause_at tree keys k token (node left.is_list)) (parent_found tree ps stmt list m parents_ok left.under is.there)
      ∙ ap (λ b. defined_from k token m (begins_at b)) (key_found tree keys stmt body m (node braces) keys_ok under is.there braces.there refl)))
  all_brought (receive {clause} {list} {name = k} {token} {operand = operand} is left next operand_is) =
      let m : TreeNode = node is in
      let l : TreeNode = node left.is_list in
      ap (by_node tree ps keys blocks k) left.is_name.there
      ∙ (ap (used_below tree ps keys k token) (parent_found tree ps list k l parents_ok left.among left.is_list.there)
      ∙ (ap (clause_at tree keys k token l) (parent_found tree ps clause list m parents_ok left.under is.there)
      ∙ ap (λ b. defined_from k token m (ends_at b)) (next_found l next left.is_list.there operand_is)))
    where
      next_found : (l : TreeNode) → (n : IsNext tree list operand) → slice_get tree list ≡ Some l → {at last : ℕ} {kind : NodeKind} (s : Spans tree operand kind at last) → found_at tree l.next ≡ Some (record { at = operand; node = node s })
      next_found l n there s =
          let same = some_is n.is l (sym n.there ∙ there) in
          let next_is : l.next ≡ Some operand = sym (λ i. (same i).next) ∙ n.next in
          ap (found_at tree) next_is ∙ at_found tree operand (node s) s.there
  all_brought (parameter {node = f} {name = k} {token} {body = body} is p under braces) =
      let m : TreeNode = node is.spans in
      let e : TreeNode = node p.is_entry.spans in
      ap (by_node tree ps keys blocks k) p.is_name.there
      ∙ (ap (declared_below tree ps keys blocks k token) (parent_found tree ps p.entry k e parents_ok p.inside p.is_entry.spans.there)
      ∙ (ap (by_above tree ps keys blocks k token (record { at = p.entry; node = e })) (entry_role p.is_entry.kind p.is_entry.passes)
      ∙ (ap (λ x. received tree keys k token (list_at tree ps x)) (parent_found tree ps p.list p.entry (node p.is_list) parents_ok p.among p.is_list.there)
      ∙ (ap (received tree keys k token) (has_function m p.has p.is_list is.spans.there is.passes)
      ∙ ap (received_in k token) (key_found tree keys f body m (node braces) keys_ok under is.spans.there braces.there (subst (λ x. fits x nodes.Block ≡ true) (sym (body_key is.kind is.passes)) refl))))))
  all_brought (switched {clause = clause} is guard_under guard name_under name under (of_case {values} {last = last} c values_under values_is)) =
      let more : last + 2 ≡ (last + 1) + 1 = omega arith in
      ap (by_node tree ps keys blocks clause) c.there
      ∙ in_clause (node c) is guard_under guard name_under name under
      (ap behind_values (key_found tree keys clause values (node c) (node values_is) keys_ok values_under c.there values_is.there refl) ∙ ap Some more)
  all_brought (switched {clause = clause} {opens = opens} is guard_under guard name_under name under (of_default c)) =
      let more : opens + 2 ≡ (opens + 1) + 1 = omega arith in
      ap (by_node tree ps keys blocks clause) c.there ∙ in_clause (node c) is guard_under guard name_under name under (ap Some more)
