-- The links of trees lead forward, and no two to one node.
use Rattle.std.proofs.Common.{◌≡◌, ℕ, ◌+◌, ◌<◌, ◌≤◌, List, length, Some, inl, inr, refl, sym, ◌∙◌, subst, arith, length-append}
use Rattle.std.specs.Prelude.{◌⊎◌}
use Rattle.argot_tree.specs.declared.token.Token.{Token}
use Rattle.argot_tree.specs.declared.tree.Tree.{Tree}
use Rattle.argot_tree.specs.declared.tree.TreeNode.{TreeNode}
use Rattle.argot_tree.specs.Forests.{Forest, leaf, tree, nodes_from, begins, size}
use Rattle.argot_tree.specs.Trees.{SpellsTree}
use Rattle.argot_files.specs.Links.{LeadsTo, to_child, to_sibling, IsLinked}
use Rattle.argot_files.proofs.Listed.{All, AllFrom, Pairs, all_beside, all_onto, from_beside, from_at, all_at, pairs_beside, pair_at}

-- where the links of a node lead
record LeadsInto (from to : ℕ) (n : TreeNode) : Type 0 where
  pub low : (c : ℕ) → LeadsTo n c → from < c
  pub high : (c : ℕ) → LeadsTo n c → c < to

abbrev LeadsAhead : ℕ → TreeNode → Type 0
LeadsAhead at n = (c : ℕ) → LeadsTo n c → at < c

abbrev AreApart : TreeNode → TreeNode → Type 0
AreApart m n = (c : ℕ) → LeadsTo m c → LeadsTo n c → ⊥

abbrev IsApart : TreeNode → Type 0
IsApart n = (c : ℕ) → n.first ≡ Some c → n.next ≡ Some c → ⊥

begins_at : (x : Forest) (at c : ℕ) → begins at x ≡ Some c → (c ≡ at) × (1 ≤ size x)
begins_at leaf at c e = absurd (cc)
begins_at (tree kind token last kids rest) at c e = (cc, omega arith)

pub length_nodes : (x : Forest) (at : ℕ) → length (nodes_from at x) ≡ size x
length_nodes leaf at = refl
length_nodes (tree kind token last kids rest) at =
    omega (arith, length-append (nodes_from (at + 1) kids) (nodes_from (at + (size kids + 1)) rest), length_nodes kids (at + 1), length_nodes rest (at + (size kids + 1)))

into : (low high low' high' : ℕ) → low' ≤ low → high ≤ high' → (n : TreeNode) → LeadsInto low high n → LeadsInto low' high' n
into low high low' high' p q n h =
    record { low = λ c l. omega (arith, h.low c l); high = λ c l. omega (arith, h.high c l) }

-- the links of a node before the trees below and beside it
root_into : (kids rest : Forest) (at : ℕ) (n : TreeNode) → n.first ≡ begins (at + 1) kids → n.next ≡ begins (at + (size kids + 1)) rest → (c : ℕ) → LeadsTo n c → ((c ≡ at + 1) × (1 ≤ size kids)) ⊎ ((c ≡ at + (size kids + 1)) × (1 ≤ size rest))
root_into kids rest at n e f c (to_child h) = inl (begins_at kids (at + 1) c (sym e ∙ h))
root_into kids rest at n e f c (to_sibling h) = inr (begins_at rest (at + (size kids + 1)) c (sym f ∙ h))

all_into : (x : Forest) (at : ℕ) → All (LeadsInto at (at + size x)) (nodes_from at x)
all_into leaf at = tt
all_into (tree kind token last kids rest) at =
    let n : TreeNode = record { kind = kind; token = token; last = last; first = begins (at + 1) kids; next = begins (at + (size kids + 1)) rest } in
    let high = at + ((size kids + 1) + size rest) in
    let inner = nodes_from (at + 1) kids in
    let outer = nodes_from (at + (size kids + 1)) rest in (
      record {
        low = λ c l. elim (root_into kids rest at n refl refl c l) [ inl h ↦ omega (arith, h.0) | inr h ↦ omega (arith, h.0) ];
        high = λ c l. elim (root_into kids rest at n refl refl c l) [ inl h ↦ omega (arith, h.0, h.1) | inr h ↦ omega (arith, h.0, h.1) ];
      },
      all_beside (LeadsInto at high) inner outer
          (all_onto (LeadsInto (at + 1) ((at + 1) + size kids)) (LeadsInto at high) (into (at + 1) ((at + 1) + size kids) at high (omega arith) (omega arith)) inner (all_into kids (at + 1)))
          (all_onto (LeadsInto (at + (size kids + 1)) ((at + (size kids + 1)) + size rest)) (LeadsInto at high) (into (at + (size kids + 1)) ((at + (size kids + 1)) + size rest) at high (omega arith) (omega arith)) outer (all_into rest (at + (size kids + 1)))),
    )

all_ahead : (x : Forest) (at : ℕ) → AllFrom LeadsAhead at (nodes_from at x)
all_ahead leaf at = tt
all_ahead (tree kind token last kids rest) at =
    let n : TreeNode = record { kind = kind; token = token; last = last; first = begins (at + 1) kids; next = begins (at + (size kids + 1)) rest } in
    let inner = nodes_from (at + 1) kids in
    let outer = nodes_from (at + (size kids + 1)) rest in
    let long : at + (size kids + 1) ≡ (at + 1) + length inner = omega (arith, length_nodes kids (at + 1)) in (
      λ c l. elim (root_into kids rest at n refl refl c l) [ inl h ↦ omega (arith, h.0) | inr h ↦ omega (arith, h.0) ],
      from_beside LeadsAhead (at + 1) inner outer (all_ahead kids (at + 1)) (subst (λ m. AllFrom LeadsAhead m outer) long (all_ahead rest (at + (size kids + 1)))),
    )

all_apart : (x : Forest) (at : ℕ) → All IsApart (nodes_from at x)
all_apart leaf at = tt
all_apart (tree kind token last kids rest) at = (
  λ c e f.
      let one = begins_at kids (at + 1) c e in
      let two = begins_at rest (at + (size kids + 1)) c f in
      absurd (omega (arith, one.0, one.1, two.0)),
  all_beside IsApart (nodes_from (at + 1) kids) (nodes_from (at + (size kids + 1)) rest) (all_apart kids (at + 1)) (all_apart rest (at + (size kids + 1))),
)

pairs_apart : (x : Forest) (at : ℕ) → Pairs AreApart (nodes_from at x)
pairs_apart leaf at = tt
pairs_apart (tree kind token last kids rest) at =
    let n : TreeNode = record { kind = kind; token = token; last = last; first = begins (at + 1) kids; next = begins (at + (size kids + 1)) rest } in
    let inner = nodes_from (at + 1) kids in
    let outer = nodes_from (at + (size kids + 1)) rest in
    let In : TreeNode → Type 0 = LeadsInto (at + 1) ((at + 1) + size kids) in
    let Out : TreeNode → Type 0 = LeadsInto (at + (size kids + 1)) ((at + (size kids + 1)) + size rest) in
    let below : (m : TreeNode) → In m → AreApart n m = λ m h c l k. elim (root_into kids rest at n refl refl c l) [ inl e ↦ absurd (omega (arith, e.0, h.low c k)) | inr e ↦ absurd (omega (arith, e.0, h.high c k)) ] in
    let beyond : (m : TreeNode) → Out m → AreApart n m = λ m h c l k. elim (root_into kids rest at n refl refl c l) [ inl e ↦ absurd (omega (arith, e.0, h.low c k)) | inr e ↦ absurd (omega (arith, e.0, h.low c k)) ] in
    let across : (x : TreeNode) → In x → All (AreApart x) outer = λ x h. all_onto Out (AreApart x) (λ m k c l q. absurd (omega (arith, h.high c l, k.low c q))) outer (all_into rest (at + (size kids + 1))) in (
      all_beside (AreApart n) inner outer (all_onto In (AreApart n) below inner (all_into kids (at + 1))) (all_onto Out (AreApart n) beyond outer (all_into rest (at + (size kids + 1)))),
      pairs_beside AreApart inner outer (pairs_apart kids (at + 1)) (pairs_apart rest (at + (size kids + 1))) (all_onto In (λ x. All (AreApart x) outer) across inner (all_into kids (at + 1))),
    )

linked_nodes : (x : Forest) → IsLinked (nodes_from 0 x)
linked_nodes x =
    let ns = nodes_from 0 x in
    record {
      ahead = λ k c n e l.
          let h : 0 + k < c = from_at LeadsAhead 0 ns k n (all_ahead x 0) e c l in
          omega arith;
      within = λ k c n e l. omega (arith, (all_at (LeadsInto 0 (0 + size x)) ns k n (all_into x 0) e).high c l, length_nodes x 0);
      once = λ j k c m n low e f l q. pair_at AreApart ns j k m n (pairs_apart x 0) low e f c l q;
      apart = λ k c n e f g. all_at IsApart ns k n (all_apart x 0) e c f g;
    }

pub linked : (t : Tree) (tokens : List Token) → SpellsTree t tokens → IsLinked t.nodes
linked t tokens (x, spells, is) = subst IsLinked (sym is) (linked_nodes x)
