-- A name is the key of an item or isn't.
use Rattle.std.proofs.Common.{◌≡◌, ℕ, zero, suc, List, [], ◌∷◌, Bool, true, false, Option, Some, None, inl, inr, refl, sym, ◌∙◌, subst}
use Rattle.std.specs.Prelude.{◌⊎◌, slice_get}
use Rattle.std.proofs.lemmas.Bool.{cases_eq}
use Rattle.argot_tree.specs.declared.node_kind.NodeKind.{NodeKind}
use Rattle.argot_tree.specs.declared.node_kind.NodeKind.TheVariants as nodes
use Rattle.argot_tree.specs.declared.tree.TreeNode.{TreeNode}
use Rattle.argot_names_rules.specs.Uses.{IsKey}
use Rattle.argot_names_blocks.proofs.Finding.{spans_of}
use Rattle.argot_names_uses.proofs.Numbering.{some_is}

abbrev is_item : NodeKind → Bool
is_item nodes.KeyedItem = true
is_item _ = false

item_kind : (kind : NodeKind) → is_item kind ≡ true → kind ≡ nodes.KeyedItem
item_kind nodes.KeyedItem e = refl
item_kind kind e = absurd (cc)

-- an item with this first child
record IsItemOf (node : ℕ) (n : TreeNode) : Type 0 where
  kind_is : n.kind ≡ nodes.KeyedItem
  first_is : n.first ≡ Some node

first_or : (o : Option ℕ) (node : ℕ) → (o ≡ Some node) ⊎ (o ≡ Some node → ⊥)
first_or None node = inr (λ e. cc)
first_or (Some a) node = elim (cases_eq a node) [ inl e ↦ inl (cc) | inr h ↦ inr (λ e. h (cc)) ]

item_or : (node : ℕ) (n : TreeNode) → IsItemOf node n ⊎ (IsItemOf node n → ⊥)
item_or node n = by (is_item n.kind) refl
  where
    never : is_item n.kind ≡ false → n.kind ≡ nodes.KeyedItem → ⊥
    never e f = let not : true ≡ false = subst (λ k. is_item k ≡ false) f e in absurd (cc)

    by : (b : Bool) → is_item n.kind ≡ b → IsItemOf node n ⊎ (IsItemOf node n → ⊥)
    by false e = inr (λ i. never e i.kind_is)
    by true e = elim (first_or n.first node) [ inl f ↦ inl (record { kind_is = item_kind n.kind e; first_is = f }) | inr f ↦ inr (λ i. f i.first_is) ]

record HasItem (node : ℕ) (tree : List TreeNode) : Type 0 where
  place : ℕ
  item : TreeNode
  there : slice_get tree place ≡ Some item
  is : IsItemOf node item

search_item : (node : ℕ) (tree : List TreeNode) → HasItem node tree ⊎ (HasItem node tree → ⊥)
search_item node [] = inr (λ h. let e = h.there in absurd (cc))
search_item node (n ∷ tree) =
    elim (item_or node n) [
      | inl i ↦ inl (record { place = 0; item = n; there = refl; is = i })
      | inr not ↦ elim (search_item node tree) [
        | inl h ↦ inl (record { place = suc h.place; item = h.item; there = h.there; is = h.is })
        | inr none ↦ inr (λ h. by h.place h.item h.there h.is not none)
      ]
    ]
  where
    by : (k : ℕ) (x : TreeNode) → slice_get (n ∷ tree) k ≡ Some x → IsItemOf node x → (IsItemOf node n → ⊥) → (HasItem node tree → ⊥) → ⊥
    by zero x e i not none = not (subst (IsItemOf node) (sym (some_is n x e)) i)
    by (suc k) x e i not none = none (record { place = k; item = x; there = e; is = i })

pub key_or : (tree : List TreeNode) (node : ℕ) → IsKey tree node ⊎ (IsKey tree node → ⊥)
key_or tree node =
    elim (search_item node tree) [
      | inl h ↦ inl (record {
        item = h.place;
        is_item = record { token = h.item.token; last = h.item.last; spans = spans_of tree h.place h.item nodes.KeyedItem h.there h.is.kind_is };
        first = record { is = h.item; there = h.there; first = h.is.first_is };
      })
      | inr none ↦ inr (λ k.
          let s = k.is_item.spans in
          let x : TreeNode = record { kind = nodes.KeyedItem; token = k.is_item.token; last = k.is_item.last; first = s.first; next = s.next } in
          let same : k.first.is ≡ x = some_is k.first.is x (sym k.first.there ∙ s.there) in
          none (record { place = k.item; item = x; there = s.there; is = record { kind_is = refl; first_is = subst (λ (y : TreeNode). y.first ≡ Some node) same k.first.first } }))
    ]
