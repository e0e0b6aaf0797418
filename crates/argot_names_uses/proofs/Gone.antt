-- Which nodes of a file have been gone over, and that these are all that stand for something.
use Rattle.std.proofs.Common.{◌≡◌, ℕ, ◌+◌, ◌<◌, List, length, true, false, Some, inl, inr, refl, sym, subst, arith}
use Rattle.std.specs.Prelude.{◌⊎◌, slice_get}
use Rattle.argot_tree.specs.declared.node_kind.NodeKind.TheVariants as nodes
use Rattle.argot_tree.specs.declared.tree.TreeNode.{TreeNode}
use Rattle.argot_names_rules.specs.declared.package_key.PackageKey.{PackageKey}
use Rattle.argot_names_rules.specs.Files.{SourceFiles}
use Rattle.argot_names_rules.specs.Lists.{In}
use Rattle.argot_names_rules.specs.Bindings.{Defined, Brings}
use Rattle.argot_names_rules.specs.Nodes.{Spans, Is}
use Rattle.argot_names_rules.specs.Scopes.{Declaration}
use Rattle.argot_names_rules.specs.Uses.{IsLookup, IsQualified, StandsFor}
use Rattle.argot_names_rules.specs.Uses.IsLookup.{value as looked_value, type_ as looked_type, package_ as looked_package}
use Rattle.argot_names_rules.specs.Uses.StandsFor.{value, type_, member, assigned}
use Rattle.argot_names_imports.proofs.Lists.{get_below}
use Rattle.argot_names_blocks.specs.declared.bindings.Lookup.{Lookup}
use Rattle.argot_names_blocks.specs.declared.lookup.QualifiedName.{QualifiedName}
use Rattle.argot_names_blocks.specs.declared.binding.Binding.{Binding}
use Rattle.argot_names_blocks.specs.declared.binding.BindingKind.TheVariants as manners
use Rattle.argot_names_scopes.specs.declared.file.FileNames.{FileNames}
use Rattle.argot_names_tops.specs.Tops.{IsNamesOf}
use Rattle.argot_names_uses.specs.UseTables.{IsAmong, SeenIn, Seen}
use Rattle.argot_names_uses.proofs.NodeRoles.{HasRole, role_of, role_there, one_role}
use Rattle.argot_names_uses.proofs.Keys.{key_or}
use Rattle.argot_names_uses.proofs.Filled.{among_more}

pub looked_there : (tree : List TreeNode) (node token : ℕ) → IsLookup tree node token → (x : TreeNode) × (slice_get tree node ≡ Some x)
looked_there tree node token (looked_value {last = last} s not) = role_there tree node 0 (role_of tree node nodes.NameUse token last s)
looked_there tree node token (looked_type {last = last} s) = role_there tree node 1 (role_of tree node nodes.TypeName token last s)
looked_there tree node token (looked_package {last = last} s) = role_there tree node 2 (role_of tree node nodes.QualifiedType token last s)

none_among : {A : Type 0} (node_of : A → ℕ) (items : List A) (node : ℕ) → IsAmong node_of items 0 node → ⊥
none_among node_of items node a = omega (arith, a.below)

module _ (n : FileNames) (file : ℕ) where
  -- nothing of the file yet
  pub seen_none : (f m : ℕ) → Seen n file 0 0 0 f m → f < file
  seen_none f m (inl low) = low
  seen_none f m (inr (e, inl a)) = absurd (none_among (λ (l : Lookup). l.node) n.bindings.looked.items m a.0)
  seen_none f m (inr (e, inr (inl a))) = absurd (none_among (λ (d : QualifiedName). d.node) n.bindings.dotted.items m a)
  seen_none f m (inr (e, inr (inr a))) = absurd (none_among (λ (b : Binding). b.node) n.bindings.brought.items m a)

  pub seen_lone : (k : ℕ) (l : Lookup) → slice_get n.bindings.looked.items k ≡ Some l → (f m : ℕ) → Seen n file (k + 1) 0 0 f m → Seen n file k 0 0 f m ⊎ ((f ≡ file) × (m ≡ l.node) × (Is n.tree.now.nodes l.node nodes.QualifiedType → ⊥))
  seen_lone k l at f m (inl low) = inl (inl low)
  seen_lone k l at f m (inr (e, inr rest)) = inl (inr (e, inr rest))
  seen_lone k l at f m (inr (e, inl a)) =
      elim (among_more (λ (y : Lookup). y.node) n.bindings.looked.items k m l at a.0) [
        | inl old ↦ inl (inr (e, inl (old, a.1)))
        | inr new ↦ inr (e, new, λ q. a.1 (subst (λ x. Is n.tree.now.nodes x nodes.QualifiedType) (sym new) q))
      ]

  pub seen_member : (lone k : ℕ) (d : QualifiedName) → slice_get n.bindings.dotted.items k ≡ Some d → (f m : ℕ) → Seen n file lone (k + 1) 0 f m → Seen n file lone k 0 f m ⊎ ((f ≡ file) × (m ≡ d.node) × (⊥ → ⊥))
  seen_member lone k d at f m (inl low) = inl (inl low)
  seen_member lone k d at f m (inr (e, inl a)) = inl (inr (e, inl a))
  seen_member lone k d at f m (inr (e, inr (inr a))) = inl (inr (e, inr (inr a)))
  seen_member lone k d at f m (inr (e, inr (inl a))) =
      elim (among_more (λ (y : QualifiedName). y.node) n.bindings.dotted.items k m d at a) [
        | inl old ↦ inl (inr (e, inr (inl old)))
        | inr new ↦ inr (e, new, λ q. q)
      ]

  pub seen_assigned : (lone members k : ℕ) (b : Binding) → slice_get n.bindings.brought.items k ≡ Some b → (f m : ℕ) → Seen n file lone members (k + 1) f m → Seen n file lone members k f m ⊎ ((f ≡ file) × (m ≡ b.node) × (⊥ → ⊥))
  seen_assigned lone members k b at f m (inl low) = inl (inl low)
  seen_assigned lone members k b at f m (inr (e, inl a)) = inl (inr (e, inl a))
  seen_assigned lone members k b at f m (inr (e, inr (inl a))) = inl (inr (e, inr (inl a)))
  seen_assigned lone members k b at f m (inr (e, inr (inr a))) =
      elim (among_more (λ (y : Binding). y.node) n.bindings.brought.items k m b at a) [
        | inl old ↦ inl (inr (e, inr (inr old)))
        | inr new ↦ inr (e, new, λ q. q)
      ]

-- a node of a list is among all of its nodes
among_all : {A : Type 0} (node_of : A → ℕ) (items : List A) (x : A) → In x items → IsAmong node_of items (length items) (node_of x)
among_all node_of items x i = record { place = i.0; item = x; below = get_below items i.0 x i.1; there = i.1; node_is = refl }

module _ (h : SourceFiles) (home : PackageKey) (file : ℕ) (n : FileNames) (is : IsNamesOf h file n) where
  abbrev All : ℕ → Type 0
  All node = SeenIn n (length n.bindings.looked.items) (length n.bindings.dotted.items) (length n.bindings.brought.items) node

  abbrev tree : List TreeNode
  tree = n.tree.now.nodes

  looked_among : (node token : ℕ) → IsLookup tree node token → IsAmong (λ (l : Lookup). l.node) n.bindings.looked.items (length n.bindings.looked.items) node
  looked_among node token looked =
      elim (key_or tree node) [
        | inl key ↦
            let l : Lookup = record { node = node; token = token; key = true } in
            among_all (λ (y : Lookup). y.node) n.bindings.looked.items l (is.names.brings.looked.complete l (record { looked = looked; key = λ e. key; no_key = λ e. absurd (cc) }))
        | inr none ↦
            let l : Lookup = record { node = node; token = token; key = false } in
            among_all (λ (y : Lookup). y.node) n.bindings.looked.items l (is.names.brings.looked.complete l (record { looked = looked; key = λ e. absurd (cc); no_key = λ e. none }))
      ]

  -- it isn't qualified
  plain : (node number : ℕ) → HasRole tree node number → (number ≡ 2 → ⊥) → Is tree node nodes.QualifiedType → ⊥
  plain node number r not q = not (one_role tree node number 2 r (role_of tree node nodes.QualifiedType q.token q.last q.spans))

  -- each node that stands for something has been gone over
  pub all_seen : (node : ℕ) (meant : Declaration) → StandsFor h home file node meant → All node
  all_seen node meant (value {token = t} {last = l} spans not named means) =
      let own : Spans tree node nodes.NameUse t l = subst (λ x. Spans x node nodes.NameUse t l) (sym is.nodes) spans in
      let looked : IsLookup tree node t = subst (λ x. IsLookup x node t) (sym is.nodes) (looked_value spans not) in
      inl (looked_among node t looked, plain node 0 (role_of tree node nodes.NameUse t l own) (λ e. absurd (omega (arith, e))))
  all_seen node meant (type_ {token = t} {last = l} spans named means) =
      let own : Spans tree node nodes.TypeName t l = subst (λ x. Spans x node nodes.TypeName t l) (sym is.nodes) spans in
      inl (looked_among node t (looked_type own), plain node 1 (role_of tree node nodes.TypeName t l own) (λ e. absurd (omega (arith, e))))
  all_seen node _ (member {token = t} {member = m} dotted of is_member) =
      let d : QualifiedName = record { token = t; member = m; node = node } in
      inr (inl (among_all (λ (y : QualifiedName). y.node) n.bindings.dotted.items d (is.names.brings.dotted.complete d (subst (λ x. IsQualified x t m node) (sym is.nodes) dotted))))
  all_seen node _ (assigned {token = t} {opens = opens} {closes = closes} {from = from} brings named first) =
      let b : Binding = record { manner = manners.Defined; node = node; token = t; opens = opens; closes = closes; from = from } in
      inr (inr (among_all (λ (y : Binding). y.node) n.bindings.brought.items b (is.names.brings.brought.complete b (subst (λ x. Brings x Defined node t opens closes from) (sym is.nodes) brings))))
