-- What is computed for a node is what it brings.
use Rattle.std.proofs.Common.{◌≡◌, ℕ, ◌+◌, List, true, Option, Some, None, refl, ap, ◌∙◌, subst, arith}
use Rattle.std.specs.Prelude.{slice_get}
use Rattle.argot_tree.specs.declared.node_kind.NodeKind.TheVariants as nodes
use Rattle.argot_tree.specs.declared.tree.TreeNode.{TreeNode}
use Rattle.argot_names_rules.specs.Nodes.{Spans, IsOf, IsChild, IsNext}
use Rattle.argot_names_rules.specs.Blocks.{IsInnermost}
use Rattle.argot_names_rules.specs.Bindings.{value, type_, define, range, receive, parameter, switched, HasParams, receiver, handed, HasColon, of_case, of_default, IsNameOf, IsOnLeft, IsParameter, specifies_values, specifies_type, has_signature, names_parameter}
use Rattle.argot_names_blocks.specs.declared.blocks.Block.{Block}
use Rattle.argot_names_blocks.specs.declared.blocks.Span.{Span}
use Rattle.argot_names_blocks.specs.declared.tables.Found.{Found}
use Rattle.argot_names_blocks.specs.declared.roles.Role.{Role}
use Rattle.argot_names_blocks.specs.declared.roles.Role.TheVariants as roles
use Rattle.argot_names_blocks.specs.declared.binding.Binding.{Binding}
use Rattle.argot_names_blocks.specs.declared.binding.BindingKind.{BindingKind as Written}
use Rattle.argot_names_blocks.specs.declared.binding.BindingKind.TheVariants as manners
use Rattle.argot_files.specs.Keys.{key_of, fits, is_braces, is_named_guard, is_declared, is_values, AreKeys}
use Rattle.argot_files.specs.Parents.{AreParents}
use Rattle.argot_names_blocks.specs.Blocks.{AreBlocks, span_in}
use Rattle.argot_names_blocks.specs.Roles.{role_of}
use Rattle.argot_names_blocks.specs.Binding.{IsBinding}
use Rattle.argot_names_blocks.specs.Bringing.{found_at, found_in, brought_in, by_statement, listed, by_function, function_at, by_owner, owner_at, by_list, list_at, function_of, received_in, received, by_above, declared_below, defined_from, begins_at, ends_at, by_clause, clause_at, by_expressions, used_below, switched_in, name_at, behind_values, behind_colon, by_switch, switch_above, by_role, by_node, bring_of}
use Rattle.argot_files.proofs.Listed.{some_is}
use Rattle.argot_names_blocks.proofs.RoleKinds.{are_values, are_kind, are_function, are_entry, only_define, only_range_define, only_receive_define, only_entries, only_signature, only_names, only_expressions, only_type_switch, only_case, only_default, only_declared, only_used, body_key, braces_kind, named_guard_kind, declared_kind, values_kind}
use Rattle.argot_names_blocks.proofs.Finding.{spans_of, is_of, found_there, found_parent, found_key}
use Rattle.argot_names_blocks.proofs.Around.{is_inside}

module _ (tree : List TreeNode) (ps keys : List (Option ℕ)) (blocks : List Block) (parents_ok : AreParents tree ps) (keys_ok : AreKeys tree keys) (blocks_ok : AreBlocks tree blocks) where
  -- a node brings this
  abbrev Right : ℕ → Binding → Type 0
  Right k b = (b.node ≡ k) × IsBinding tree b

  right_one : (k : ℕ) (x b : Binding) → Right k x → Some x ≡ Some b → Right k b
  right_one k x b h e = subst (Right k) (some_is x b e) h

  -- a node that stands there
  abbrev There : Found → Type 0
  There f = slice_get tree f.at ≡ Some f.node

  in_block_right : (at : ℕ) (manner : Written) (k token from : ℕ) (o : Option Span) → span_in blocks at ≡ o → ((span : Span) → IsInnermost tree at span.opens span.closes → IsBinding tree (record { manner = manner; node = k; token = token; opens = span.opens; closes = span.closes; from = from })) → (b : Binding) → brought_in o manner k token from ≡ Some b → Right k b
  in_block_right at manner k token from None e make b g = absurd (cc)
  in_block_right at manner k token from (Some span) e make b g =
      right_one k (record { manner = manner; node = k; token = token; opens = span.opens; closes = span.closes; from = from }) b (refl, make span (is_inside tree blocks blocks_ok at span e)) g

  statement_right : (k : ℕ) (n : TreeNode) (list stmt : Found) → Spans tree k nodes.DeclName n.token n.last → IsChild tree list.at k → Spans tree list.at nodes.Names list.node.token list.node.last → IsChild tree stmt.at list.at → There stmt → (role : Role) → role_of stmt.node.kind ≡ role → (b : Binding) → by_statement blocks k n.token stmt.node role ≡ Some b → Right k b
  statement_right k n list stmt name among list_is under there roles.Values e b g =
      let names : IsNameOf tree stmt.at k n.token = record { list = list.at; from = list.node.token; to = list.node.last; last = n.last; under = under; is_list = list_is; among = among; is_name = name } in
      let is = is_of tree stmt.at stmt.node specifies_values there (are_values stmt.node.kind e) in
      in_block_right stmt.node.token manners.Specified k n.token (stmt.node.last + 1) (span_in blocks stmt.node.token) refl (λ span inner. value is names inner) b g
  statement_right k n list stmt name among list_is under there roles.Define e b g =
      let names : IsNameOf tree stmt.at k n.token = record { list = list.at; from = list.node.token; to = list.node.last; last = n.last; under = under; is_list = list_is; among = among; is_name = name } in
      let is = spans_of tree stmt.at stmt.node nodes.Define there (only_define stmt.node.kind e) in
      in_block_right stmt.node.token manners.Defined k n.token (stmt.node.last + 1) (span_in blocks stmt.node.token) refl (λ span inner. define is names inner) b g
  statement_right k n list stmt name among list_is under there role e b g = absurd (cc)

  listed_right : (k : ℕ) (n : TreeNode) (list : Found) → Spans tree k nodes.DeclName n.token n.last → IsChild tree list.at k → Spans tree list.at nodes.Names list.node.token list.node.last → (o : Option Found) → found_in tree ps list.at ≡ o → (b : Binding) → listed blocks k n.token o ≡ Some b → Right k b
  listed_right k n list name among list_is None e b g = absurd (cc)
  listed_right k n list name among list_is (Some stmt) e b g =
      let found = found_parent tree ps list.at stmt parents_ok e in
      statement_right k n list stmt name among list_is found.0 found.1 (role_of stmt.node.kind) refl b g

  -- the function of a list of parameters
  record IsOwner (list : ℕ) (f : Found) : Type 0 where
    pub has : HasParams tree f.at list
    pub there : There f
    pub passes : has_signature f.node.kind ≡ true

  function_right : (list : ℕ) (above : Found) (o : Option Found) → found_in tree ps above.at ≡ o → Spans tree above.at nodes.Signature above.node.token above.node.last → IsChild tree above.at list → (f : Found) → function_at o ≡ Some f → IsOwner list f
  function_right list above None e sig under f g = absurd (cc)
  function_right list above (Some x) e sig under f g = go (role_of x.node.kind) refl g
    where
      found : IsChild tree x.at above.at × There x
      found = found_parent tree ps above.at x parents_ok e

      go : (role : Role) → role_of x.node.kind ≡ role → by_function x role ≡ Some f → IsOwner list f
      go roles.Function r h = subst (IsOwner list) (some_is x f h) (record { has = handed found.0 sig under; there = found.1; passes = are_function x.node.kind r })
      go role r h = absurd (cc)

  owner_right : (list : ℕ) (o : Option Found) → found_in tree ps list ≡ o → (f : Found) → owner_at tree ps o ≡ Some f → IsOwner list f
  owner_right list None e f g = absurd (cc)
  owner_right list (Some x) e f g = go (role_of x.node.kind) refl g
    where
      found : IsChild tree x.at list × There x
      found = found_parent tree ps list x parents_ok e

      go : (role : Role) → role_of x.node.kind ≡ role → by_owner tree ps x role ≡ Some f → IsOwner list f
      go roles.Function r h = subst (IsOwner list) (some_is x f h) (record { has = receiver found.0; there = found.1; passes = are_function x.node.kind r })
      go roles.Signature r h =
          function_right list x (found_in tree ps x.at) refl (spans_of tree x.at x.node nodes.Signature found.1 (only_signature x.node.kind r)) found.0 f h
      go role r h = absurd (cc)

  -- the function of a parameter, with the list
  record IsFunctionOf (entry : ℕ) (f : Found) : Type 0 where
    pub list : Found
    pub among : IsChild tree list.at entry
    pub is_list : Spans tree list.at nodes.NamedParams list.node.token list.node.last
    pub owner : IsOwner list.at f

  list_right : (entry : ℕ) (o : Option Found) → found_in tree ps entry ≡ o → (f : Found) → list_at tree ps o ≡ Some f → IsFunctionOf entry f
  list_right entry None e f g = absurd (cc)
  list_right entry (Some x) e f g = go (role_of x.node.kind) refl g
    where
      found : IsChild tree x.at entry × There x
      found = found_parent tree ps entry x parents_ok e

      go : (role : Role) → role_of x.node.kind ≡ role → by_list tree ps x role ≡ Some f → IsFunctionOf entry f
      go roles.Entries r h =
          record {
            list = x;
            among = found.0;
            is_list = spans_of tree x.at x.node nodes.NamedParams found.1 (only_entries x.node.kind r);
            owner = owner_right x.at (found_in tree ps x.at) refl f h;
          }
      go role r h = absurd (cc)

  -- the body of a function, and of a `range` clause
  body_right : (p : ℕ) (m : TreeNode) (f : Found) → slice_get tree p ≡ Some m → key_of m.kind ≡ key_of nodes.FuncDecl → found_in tree keys p ≡ Some f → IsChild tree p f.at × Spans tree f.at nodes.Block f.node.token f.node.last
  body_right p m f e key g =
      let found = found_key tree keys p m f keys_ok e g in
      let fit : is_braces f.node.kind ≡ true = subst (λ x. fits x f.node.kind ≡ true) key found.fits in
      (found.under, spans_of tree f.at f.node nodes.Block found.there (braces_kind f.node.kind fit))

  parameter_right : (k : ℕ) (n : TreeNode) (entry f : Found) → Spans tree k nodes.DeclName n.token n.last → IsChild tree entry.at k → IsOf tree entry.at names_parameter entry.node.token entry.node.last → IsFunctionOf entry.at f → (o : Option Found) → found_in tree keys f.at ≡ o → (b : Binding) → received_in k n.token o ≡ Some b → Right k b
  parameter_right k n entry f name inside entry_is h None e b g = absurd (cc)
  parameter_right k n entry f name inside entry_is h (Some body) e b g =
      let under = body_right f.at f.node body h.owner.there (body_key f.node.kind h.owner.passes) e in
      let is : IsParameter tree f.at k n.token = record { list = h.list.at; entry = entry.at; list_from = h.list.node.token; list_to = h.list.node.last; from = entry.node.token; to = entry.node.last; last = n.last; has = h.owner.has; is_list = h.is_list; among = h.among; is_entry = entry_is; inside = inside; is_name = name } in
      right_one k (record { manner = manners.Received; node = k; token = n.token; opens = body.node.token; closes = body.node.last; from = body.node.token }) b
      (refl, parameter (is_of tree f.at f.node has_signature h.owner.there h.owner.passes) is under.0 under.1) g

  received_right : (k : ℕ) (n : TreeNode) (entry : Found) → Spans tree k nodes.DeclName n.token n.last → IsChild tree entry.at k → IsOf tree entry.at names_parameter entry.node.token entry.node.last → (o : Option Found) → function_of tree ps entry.at ≡ o → (b : Binding) → received tree keys k n.token o ≡ Some b → Right k b
  received_right k n entry name inside entry_is None e b g = absurd (cc)
  received_right k n entry name inside entry_is (Some f) e b g =
      parameter_right k n entry f name inside entry_is (list_right entry.at (found_in tree ps entry.at) refl f e) (found_in tree keys f.at) refl b g

  declared_right : (k : ℕ) (n : TreeNode) → Spans tree k nodes.DeclName n.token n.last → (o : Option Found) → found_in tree ps k ≡ o → (b : Binding) → declared_below tree ps keys blocks k n.token o ≡ Some b → Right k b
  declared_right k n name None e b g = absurd (cc)
  declared_right k n name (Some x) e b g = go (role_of x.node.kind) refl g
    where
      found : IsChild tree x.at k × There x
      found = found_parent tree ps k x parents_ok e

      go : (role : Role) → role_of x.node.kind ≡ role → by_above tree ps keys blocks k n.token x role ≡ Some b → Right k b
      go roles.Names r h =
          listed_right k n x name found.0 (spans_of tree x.at x.node nodes.Names found.1 (only_names x.node.kind r)) (found_in tree ps x.at) refl b h
      go roles.Kind r h =
          in_block_right x.node.token manners.Specified k n.token n.token (span_in blocks x.node.token) refl
          (λ span inner. type_ (is_of tree x.at x.node specifies_type found.1 (are_kind x.node.kind r)) found.0 name inner) b h
      go roles.Entry r h =
          received_right k n x name found.0 (is_of tree x.at x.node names_parameter found.1 (are_entry x.node.kind r)) (function_of tree ps x.at) refl b h
      go role r h = absurd (cc)

  -- a name on the left of the `:=` of a clause
  range_right : (k : ℕ) (n : TreeNode) (list stmt : Found) → IsOnLeft tree stmt.at list.at k n.token → There stmt → stmt.node.kind ≡ nodes.DefineRange → (o : Option Found) → found_in tree keys stmt.at ≡ o → (b : Binding) → defined_from k n.token stmt.node (begins_at o) ≡ Some b → Right k b
  range_right k n list stmt left there kind None e b g = absurd (cc)
  range_right k n list stmt left there kind (Some body) e b g =
      let under = body_right stmt.at stmt.node body there (ap key_of kind) e in
      right_one k (record { manner = manners.Defined; node = k; token = n.token; opens = stmt.node.token; closes = stmt.node.last; from = body.node.token }) b
      (refl, range (spans_of tree stmt.at stmt.node nodes.DefineRange there kind) left under.0 under.1) g

  receive_right : (k : ℕ) (n : TreeNode) (list stmt : Found) → IsOnLeft tree stmt.at list.at k n.token → There list → There stmt → stmt.node.kind ≡ nodes.DefineCase → (o : Option Found) → found_at tree list.node.next ≡ o → (b : Binding) → defined_from k n.token stmt.node (ends_at o) ≡ Some b → Right k b
  receive_right k n list stmt left list_there there kind None e b g = absurd (cc)
  receive_right k n list stmt left list_there there kind (Some operand) e b g =
      let next = found_there tree list.node.next operand e in
      let is_next : IsNext tree list.at operand.at = record { is = list.node; there = list_there; next = next.link_is } in
      right_one k (record { manner = manners.Defined; node = k; token = n.token; opens = stmt.node.token; closes = stmt.node.last; from = operand.node.last + 1 }) b
      (refl, receive (spans_of tree stmt.at stmt.node nodes.DefineCase there kind) left is_next (spans_of tree operand.at operand.node operand.node.kind next.there refl)) g

  clause_right : (k : ℕ) (n : TreeNode) (list : Found) → Spans tree k nodes.NameUse n.token n.last → IsChild tree list.at k → There list → list.node.kind ≡ nodes.Exprs → (o : Option Found) → found_in tree ps list.at ≡ o → (b : Binding) → clause_at tree keys k n.token list.node o ≡ Some b → Right k b
  clause_right k n list name among list_there list_kind None e b g = absurd (cc)
  clause_right k n list name among list_there list_kind (Some x) e b g = go (role_of x.node.kind) refl g
    where
      found : IsChild tree x.at list.at × There x
      found = found_parent tree ps list.at x parents_ok e

      left : IsOnLeft tree x.at list.at k n.token
      left = record { from = list.node.token; to = list.node.last; last = n.last; under = found.0; is_list = spans_of tree list.at list.node nodes.Exprs list_there list_kind; among = among; is_name = name }

      go : (role : Role) → role_of x.node.kind ≡ role → by_clause tree keys k n.token list.node x role ≡ Some b → Right k b
      go roles.RangeDefine r h = range_right k n list x left found.1 (only_range_define x.node.kind r) (found_in tree keys x.at) refl b h
      go roles.ReceiveDefine r h = receive_right k n list x left list_there found.1 (only_receive_define x.node.kind r) (found_at tree list.node.next) refl b h
      go role r h = absurd (cc)

  used_right : (k : ℕ) (n : TreeNode) → Spans tree k nodes.NameUse n.token n.last → (o : Option Found) → found_in tree ps k ≡ o → (b : Binding) → used_below tree ps keys k n.token o ≡ Some b → Right k b
  used_right k n name None e b g = absurd (cc)
  used_right k n name (Some x) e b g = go (role_of x.node.kind) refl g
    where
      found : IsChild tree x.at k × There x
      found = found_parent tree ps k x parents_ok e

      go : (role : Role) → role_of x.node.kind ≡ role → by_expressions tree ps keys k n.token x role ≡ Some b → Right k b
      go roles.Expressions r h = clause_right k n x name found.0 found.1 (only_expressions x.node.kind r) (found_in tree ps x.at) refl b h
      go role r h = absurd (cc)

  -- where the colon of a clause stands
  record IsBehindColon (clause : ℕ) (m : TreeNode) (from : ℕ) : Type 0 where
    pub colon : ℕ
    pub has : HasColon tree clause m.token m.last colon
    pub behind : colon + 1 ≡ from

  values_right : (k : ℕ) (m : TreeNode) → slice_get tree k ≡ Some m → m.kind ≡ nodes.Case → (o : Option Found) → found_in tree keys k ≡ o → (from : ℕ) → behind_values o ≡ Some from → IsBehindColon k m from
  values_right k m there kind None e from g = absurd (cc)
  values_right k m there kind (Some x) e from g =
      let found = found_key tree keys k m x keys_ok there e in
      let fit : is_values x.node.kind ≡ true = subst (λ y. fits (key_of y) x.node.kind ≡ true) kind found.fits in
      let values = spans_of tree x.at x.node nodes.Values found.there (values_kind x.node.kind fit) in
      let more : (x.node.last + 1) + 1 ≡ x.node.last + 2 = omega arith in
      record { colon = x.node.last + 1; has = of_case (spans_of tree k m nodes.Case there kind) found.under values; behind = more ∙ some_is (x.node.last + 2) from g }

  colon_right : (k : ℕ) (m : TreeNode) → slice_get tree k ≡ Some m → (role : Role) → role_of m.kind ≡ role → (from : ℕ) → behind_colon tree keys k m role ≡ Some from → IsBehindColon k m from
  colon_right k m there roles.Case r from g = values_right k m there (only_case m.kind r) (found_in tree keys k) refl from g
  colon_right k m there roles.Default r from g =
      let more : (m.token + 1) + 1 ≡ m.token + 2 = omega arith in
      record { colon = m.token + 1; has = of_default (spans_of tree k m nodes.Default there (only_default m.kind r)); behind = more ∙ some_is (m.token + 2) from g }
  colon_right k m there role r from g = absurd (cc)

  -- the name in the head of a type switch
  record IsSwitchName (stmt : ℕ) (f : Found) : Type 0 where
    pub guard : Found
    pub guard_under : IsChild tree stmt guard.at
    pub guard_is : Spans tree guard.at nodes.NamedGuard guard.node.token guard.node.last
    pub name_under : IsChild tree guard.at f.at
    pub name_is : Spans tree f.at nodes.DeclName f.node.token f.node.last

  name_right : (stmt : Found) → There stmt → stmt.node.kind ≡ nodes.TypeSwitch → (o : Option Found) → found_in tree keys stmt.at ≡ o → (f : Found) → name_at tree keys o ≡ Some f → IsSwitchName stmt.at f
  name_right stmt there kind None e f g = absurd (cc)
  name_right stmt there kind (Some x) e f g =
      let found = found_key tree keys stmt.at stmt.node x keys_ok there e in
      let fit : is_named_guard x.node.kind ≡ true = subst (λ y. fits (key_of y) x.node.kind ≡ true) kind found.fits in
      let guard_kind = named_guard_kind x.node.kind fit in
      let name = found_key tree keys x.at x.node f keys_ok found.there g in
      let name_fit : is_declared f.node.kind ≡ true = subst (λ y. fits (key_of y) f.node.kind ≡ true) guard_kind name.fits in
      record {
        guard = x;
        guard_under = found.under;
        guard_is = spans_of tree x.at x.node nodes.NamedGuard found.there guard_kind;
        name_under = name.under;
        name_is = spans_of tree f.at f.node nodes.DeclName name.there (declared_kind f.node.kind name_fit);
      }

  switched_right : (k : ℕ) (m : TreeNode) (stmt : Found) → slice_get tree k ≡ Some m → IsChild tree stmt.at k → There stmt → stmt.node.kind ≡ nodes.TypeSwitch → (o : Option ℕ) → behind_colon tree keys k m (role_of m.kind) ≡ o → (q : Option Found) → name_at tree keys (found_in tree keys stmt.at) ≡ q → (b : Binding) → switched_in k m o q ≡ Some b → Right k b
  switched_right k m stmt there under stmt_there kind None e q f b g = absurd (cc)
  switched_right k m stmt there under stmt_there kind (Some from) e None f b g = absurd (cc)
  switched_right k m stmt there under stmt_there kind (Some from) e (Some name) f b g =
      let colon = colon_right k m there (role_of m.kind) refl from e in
      let names = name_right stmt stmt_there kind (found_in tree keys stmt.at) refl name f in
      let brings = switched (spans_of tree stmt.at stmt.node nodes.TypeSwitch stmt_there kind) names.guard_under names.guard_is names.name_under names.name_is under colon.has in
      right_one k (record { manner = manners.Switched; node = k; token = name.node.token; opens = m.token; closes = m.last; from = from }) b
      (refl, subst (λ x. IsBinding tree (record { manner = manners.Switched; node = k; token = name.node.token; opens = m.token; closes = m.last; from = x })) colon.behind brings) g

  switch_right : (k : ℕ) (m : TreeNode) → slice_get tree k ≡ Some m → (o : Option Found) → found_in tree ps k ≡ o → (b : Binding) → switch_above tree keys k m o ≡ Some b → Right k b
  switch_right k m there None e b g = absurd (cc)
  switch_right k m there (Some x) e b g = go (role_of x.node.kind) refl g
    where
      found : IsChild tree x.at k × There x
      found = found_parent tree ps k x parents_ok e

      go : (role : Role) → role_of x.node.kind ≡ role → by_switch tree keys k m x role ≡ Some b → Right k b
      go roles.TypeSwitch r h =
          switched_right k m x there found.0 found.1 (only_type_switch x.node.kind r) (behind_colon tree keys k m (role_of m.kind)) refl (name_at tree keys (found_in tree keys x.at)) refl b h
      go role r h = absurd (cc)

  role_right : (k : ℕ) (n : TreeNode) → slice_get tree k ≡ Some n → (role : Role) → role_of n.kind ≡ role → (b : Binding) → by_role tree ps keys blocks k n role ≡ Some b → Right k b
  role_right k n there roles.Declared r b g = declared_right k n (spans_of tree k n nodes.DeclName there (only_declared n.kind r)) (found_in tree ps k) refl b g
  role_right k n there roles.Used r b g = used_right k n (spans_of tree k n nodes.NameUse there (only_used n.kind r)) (found_in tree ps k) refl b g
  role_right k n there roles.Case r b g = switch_right k n there (found_in tree ps k) refl b g
  role_right k n there roles.Default r b g = switch_right k n there (found_in tree ps k) refl b g
  role_right k n there role r b g = absurd (cc)

  -- what the computation says is brought by node k
  pub only_brought : (k : ℕ) (b : Binding) → bring_of tree ps keys blocks k ≡ Some b → (b.node ≡ k) × IsBinding tree b
  only_brought k b g = go (slice_get tree k) refl g
    where
      go : (o : Option TreeNode) → slice_get tree k ≡ o → by_node tree ps keys blocks k o ≡ Some b → Right k b
      go None e h = absurd (cc)
      go (Some n) e h = role_right k n e (role_of n.kind) refl b h
