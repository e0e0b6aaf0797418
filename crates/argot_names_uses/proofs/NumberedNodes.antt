-- A number of a node is that of one node of one file.
use Rattle.std.proofs.Common.{◌≡◌, ℕ, zero, suc, ◌<◌, inl, inr, length, take, Option, Some, None, refl, ap, arith}
use Rattle.std.specs.Prelude.{◌⊎◌, slice_get}
use Rattle.argot_tree.specs.declared.tree.TreeNode.{TreeNode}
use Rattle.argot_tree.specs.declared.tree.Tree.{Tree}
use Rattle.argot_names_rules.specs.Files.{SourceFiles, nodes_in, read_of}
use Rattle.argot_names_rules.specs.Loaded.{count_nodes, number_of}
use Rattle.argot_names_imports.proofs.Lists.{get_below}
use Rattle.argot_names_uses.proofs.NodeSums.{count_before, count_below}

-- the tree of a node that is there
pub tree_of : (h : SourceFiles) (file node : ℕ) (n : TreeNode) → slice_get (read_of h file).nodes node ≡ Some n → (t : Tree) × (slice_get h.trees file ≡ Some t) × (node < length t.nodes)
tree_of h file node n e = go (slice_get h.trees file) e
  where
    go : (o : Option Tree) → slice_get (nodes_in o) node ≡ Some n → (t : Tree) × (o ≡ Some t) × (node < length t.nodes)
    go None e = absurd (cc)
    go (Some t) e = (t, refl, get_below t.nodes node n e)

pub less_or : (a b : ℕ) → (a < b) ⊎ ((a ≡ b) ⊎ (b < a))
less_or zero zero = inr (inl refl)
less_or zero (suc b) = inl (omega arith)
less_or (suc a) zero = inr (inr (omega arith))
less_or (suc a) (suc b) = elim (less_or a b) [
  | inl l ↦ inl (omega (arith, l))
  | inr e ↦ elim e [ inl s ↦ inr (inl (omega (arith, s))) | inr g ↦ inr (inr (omega (arith, g))) ]
]

pub number_below : (h : SourceFiles) (file node : ℕ) (n : TreeNode) → slice_get (read_of h file).nodes node ≡ Some n → number_of h file node < count_nodes h.trees
number_below h file node n e = let t = tree_of h file node n e in omega (arith, t.2, count_below h.trees file t.0 t.1)

-- that of an earlier file is smaller
number_before : (h : SourceFiles) (f g m n : ℕ) (x : TreeNode) → slice_get (read_of h f).nodes m ≡ Some x → f < g → number_of h f m < number_of h g n
number_before h f g m n x e low = let t = tree_of h f m x e in omega (arith, t.2, count_before h.trees f g t.0 low t.1)

pub one_node : (h : SourceFiles) (f g m n : ℕ) (x y : TreeNode) → slice_get (read_of h f).nodes m ≡ Some x → slice_get (read_of h g).nodes n ≡ Some y → number_of h f m ≡ number_of h g n → (f ≡ g) × (m ≡ n)
one_node h f g m n x y d e same =
    elim (less_or f g) [
      | inl l ↦ absurd (omega (arith, number_before h f g m n x d l, same))
      | inr o ↦ elim o [
        | inl s ↦ (s, omega (arith, same, ap (λ k. count_nodes (take k h.trees)) s))
        | inr l ↦ absurd (omega (arith, number_before h g f n m y e l, same))
      ]
    ]
