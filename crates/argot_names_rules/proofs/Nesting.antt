-- Blocks of a tree that spells tokens lie in each other or apart.
use Rattle.std.proofs.Common.{◌≡◌, ℕ, ◌<◌, ◌≤◌, List, Some, inl, inr, sym, ◌∙◌, subst, arith}
use Rattle.std.specs.Prelude.{◌⊎◌, slice_get}
use Rattle.std.proofs.lemmas.Bool.{cases_order}
use Rattle.argot_tree.specs.declared.tree.TreeNode.{TreeNode}
use Rattle.argot_names_rules.specs.Blocks.{IsBlock}
use Rattle.argot_names_rules.specs.Laws.{BlocksNest, OneBlock}
use Rattle.argot_names_rules.proofs.NodeOrder.{nodes_follow}

-- the node of a block
abbrev node_of : {tree : List TreeNode} {a b : ℕ} → IsBlock tree a b → TreeNode
node_of {tree} {a} {b} h = record { kind = h.is.kind; token = a; last = b; first = h.is.spans.first; next = h.is.spans.next }

some_is : (m n : TreeNode) → Some m ≡ Some n → m ≡ n
some_is m n e = cc

-- one node is the same at one number
same_node : (tree : List TreeNode) (j k : ℕ) (m n : TreeNode) → j ≡ k → slice_get tree j ≡ Some m → slice_get tree k ≡ Some n → m ≡ n
same_node tree j k m n e f g = some_is m n (sym f ∙ subst (λ i. slice_get tree i ≡ Some n) (sym e) g)

compared : (j k : ℕ) → (j < k) ⊎ ((j ≡ k) ⊎ (k < j))
compared j k =
    elim (cases_order j k) [ inl same ↦ inr (inl same) | inr apart ↦ elim apart [ inl before ↦ inl before | inr behind ↦ inr (inr behind) ] ]

pub blocks_nest : BlocksNest
blocks_nest tree tokens a b c d spells h k l within =
    elim (compared h.node k.node) [
      | inl before ↦ (nodes_follow tree tokens spells h.node k.node (node_of h) (node_of k) before h.is.spans.there k.is.spans.there).nested h.is.passes k.is.passes within
      | inr other ↦ elim other [
        | inl one ↦
            let same = same_node tree.nodes h.node k.node (node_of h) (node_of k) one h.is.spans.there k.is.spans.there in
            let token : a ≡ c = (λ i. (same i).token) in
            absurd (omega arith)
        | inr behind ↦
            let follows = nodes_follow tree tokens spells k.node h.node (node_of k) (node_of h) behind k.is.spans.there h.is.spans.there in
            let ascends : c ≤ a = follows.ascends in
            absurd (omega arith)
      ]
    ]

pub one_block : OneBlock
one_block tree tokens token a b c d spells h k =
    let low : c ≤ a = h.innermost c d k.around in
    let high : a ≤ c = k.innermost a b h.around in
    let m = h.around.block in
    let n = k.around.block in
    elim (compared m.node n.node) [
      | inl before ↦
          let strictly : a < c = (nodes_follow tree tokens spells m.node n.node (node_of m) (node_of n) before m.is.spans.there n.is.spans.there).strictly m.is.passes in
          absurd (omega arith)
      | inr other ↦ elim other [
        | inl one ↦
            let same = same_node tree.nodes m.node n.node (node_of m) (node_of n) one m.is.spans.there n.is.spans.there in
            ((λ i. (same i).token), (λ i. (same i).last))
        | inr behind ↦
            let strictly : c < a = (nodes_follow tree tokens spells n.node m.node (node_of n) (node_of m) behind n.is.spans.there m.is.spans.there).strictly n.is.passes in
            absurd (omega arith)
      ]
    ]
