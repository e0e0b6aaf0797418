-- What is needed of the nodes of a tree holds where it spells tokens.
use Rattle.std.proofs.Common.{◌≡◌, ℕ, ◌+◌, ◌≤◌, List, length, true, Some, refl, sym, ◌∙◌, subst, arith}
use Rattle.std.specs.Prelude.{slice_get, if◌then◌else◌}
use Rattle.argot_tree.specs.declared.token.Token.{Token}
use Rattle.argot_tree.specs.declared.node_kind.NodeKind.{NodeKind}
use Rattle.argot_tree.specs.declared.tree.Tree.{Tree}
use Rattle.argot_tree.specs.declared.tree.TreeNode.{TreeNode}
use Rattle.argot_tree.specs.Forests.{Forest, leaf, tree, nodes_from, begins, size}
use Rattle.argot_tree.specs.Trees.{SpellsTree}
use Rattle.argot_names_rules.specs.Nodes.{IsChild, first, next}
use Rattle.argot_names_rules.proofs.NodeOrder.{nodes_follow}
use Rattle.argot_names_rules.proofs.Nesting.{one_block}
use Rattle.argot_files.specs.declared.keys.Key.{Key}
use Rattle.argot_files.specs.declared.keys.Key.TheVariants as keys
use Rattle.argot_files.specs.Keys.{key_of, fits, IsKeyChild}
use Rattle.argot_files.specs.Forms.{IsFormed}
use Rattle.argot_files.proofs.Listed.{AllFrom, some_is, from_left, from_right, from_at, from_beside, places}
use Rattle.argot_files.proofs.Linked.{length_nodes, linked}
use Rattle.argot_files.proofs.Shaping.{count, Limited, Shaped}
use Rattle.argot_files.proofs.ShapedTrees.{shaped}

-- trees stand among these nodes from a number on
abbrev Sits : List TreeNode → ℕ → Forest → Type 0
Sits ns at leaf = Unit {0}
Sits ns at (tree kind token last kids rest) =
    (slice_get ns at ≡ Some (record { kind = kind; token = token; last = last; first = begins (at + 1) kids; next = begins (at + (size kids + 1)) rest })) × Sits ns (at + 1) kids × Sits ns (at + (size kids + 1)) rest

abbrev IsAt : List TreeNode → ℕ → TreeNode → Type 0
IsAt ns i n = slice_get ns i ≡ Some n

sits : (ns : List TreeNode) (x : Forest) (at : ℕ) → AllFrom (IsAt ns) at (nodes_from at x) → Sits ns at x
sits ns leaf at h = tt
sits ns (tree kind token last kids rest) at h =
    let inner = nodes_from (at + 1) kids in
    let outer = nodes_from (at + (size kids + 1)) rest in
    let long : (at + 1) + length inner ≡ at + (size kids + 1) = omega (arith, length_nodes kids (at + 1)) in (
      h.0,
      sits ns kids (at + 1) (from_left (IsAt ns) (at + 1) inner outer h.1),
      sits ns rest (at + (size kids + 1)) (subst (λ i. AllFrom (IsAt ns) i outer) long (from_right (IsAt ns) (at + 1) inner outer h.1)),
    )

-- one of the trees begins at this number and is of this kind
data RootAt : ℕ → Forest → ℕ → NodeKind → Type 0 where
  here : {at token last : ℕ} {kind : NodeKind} {kids rest : Forest} → RootAt at (tree kind token last kids rest) at kind
  behind : {at token last c : ℕ} {kind k : NodeKind} {kids rest : Forest} → RootAt (at + (size kids + 1)) rest c k → RootAt at (tree kind token last kids rest) c k

some_count : (key : Key) (at : ℕ) (x : Forest) (c : ℕ) (kind : NodeKind) → RootAt at x c kind → fits key kind ≡ true → 1 ≤ count key x
some_count key at leaf c k h e = elim h [ ]
some_count key at (tree kind token last kids rest) c k here e = subst (λ b. 1 ≤ (if b then 1 else 0) + count key rest) (sym e) (omega arith)
some_count key at (tree kind token last kids rest) c k (behind h) e = omega (arith, some_count key (at + (size kids + 1)) rest c k h e)

one_of : (key : Key) (at : ℕ) (x : Forest) (a b : ℕ) (k l : NodeKind) → count key x ≤ 1 → RootAt at x a k → RootAt at x b l → fits key k ≡ true → fits key l ≡ true → a ≡ b
one_of key at leaf a b k l low h g e f = elim h [ ]
one_of key at (tree kind token last kids rest) a b k l low here here e f = refl
one_of key at (tree kind token last kids rest) a b k l low here (behind h) e f =
    let one : 1 + count key rest ≤ 1 = subst (λ b. (if b then 1 else 0) + count key rest ≤ 1) e low in
    absurd (omega (arith, some_count key (at + (size kids + 1)) rest b l h f))
one_of key at (tree kind token last kids rest) a b k l low (behind h) here e f =
    let one : 1 + count key rest ≤ 1 = subst (λ b. (if b then 1 else 0) + count key rest ≤ 1) f low in
    absurd (omega (arith, some_count key (at + (size kids + 1)) rest a k h e))
one_of key at (tree kind token last kids rest) a b k l low (behind h) (behind g) e f =
    one_of key (at + (size kids + 1)) rest a b k l (omega (arith, low)) h g e f

-- where the first of trees stands
begun : (ns : List TreeNode) (x : Forest) (at c : ℕ) → begins at x ≡ Some c → Sits ns at x → (kind : NodeKind) × RootAt at x c kind
begun ns leaf at c e h = absurd (cc)
begun ns (tree kind token last kids rest) at c e h =
    let same : at ≡ c = cc in
    (kind, subst (λ i. RootAt at (tree kind token last kids rest) i kind) same here)

root_kind : (ns : List TreeNode) (x : Forest) (at c : ℕ) (k : NodeKind) (n : TreeNode) → Sits ns at x → RootAt at x c k → slice_get ns c ≡ Some n → n.kind ≡ k
root_kind ns leaf at c k n h r e = elim r [ ]
root_kind ns (tree kind token last kids rest) at c k n h here e = (λ i. (some_is n (record { kind = kind; token = token; last = last; first = begins (at + 1) kids; next = begins (at + (size kids + 1)) rest }) (sym e ∙ h.0) i).kind)
root_kind ns (tree kind token last kids rest) at c k n h (behind r) e = root_kind ns rest (at + (size kids + 1)) c k n h.2 r e

root_next : (ns : List TreeNode) (x : Forest) (at b c : ℕ) (k : NodeKind) (n : TreeNode) → Sits ns at x → RootAt at x b k → slice_get ns b ≡ Some n → n.next ≡ Some c → (l : NodeKind) × RootAt at x c l
root_next ns leaf at b c k n h r e f = elim r [ ]
root_next ns (tree kind token last kids rest) at b c k n h here e f =
    let same = some_is n (record { kind = kind; token = token; last = last; first = begins (at + 1) kids; next = begins (at + (size kids + 1)) rest }) (sym e ∙ h.0) in
    let next_is : begins (at + (size kids + 1)) rest ≡ Some c = sym (λ i. (same i).next) ∙ f in
    let root = begun ns rest (at + (size kids + 1)) c next_is h.2 in
    (root.0, behind root.1)
root_next ns (tree kind token last kids rest) at b c k n h (behind r) e f =
    let root = root_next ns rest (at + (size kids + 1)) b c k n h.2 r e f in
    (root.0, behind root.1)

child_root : (ns : List TreeNode) (at : ℕ) (root : TreeNode) (kids : Forest) → slice_get ns at ≡ Some root → root.first ≡ begins (at + 1) kids → Sits ns (at + 1) kids → (c : ℕ) → IsChild ns at c → (k : NodeKind) × RootAt (at + 1) kids c k
child_root ns at root kids e f h c (first g) =
    let same = some_is g.is root (sym g.there ∙ e) in
    let first_is : begins (at + 1) kids ≡ Some c = sym f ∙ (sym (λ i. (same i).first) ∙ g.first) in
    begun ns kids (at + 1) c first_is h
child_root ns at root kids e f h c (next {before = b} under g) =
    let root_b = child_root ns at root kids e f h b under in
    root_next ns kids (at + 1) b c root_b.0 g.is h root_b.1 g.there g.next

-- one child is looked for in this node
abbrev HasOne : List TreeNode → ℕ → TreeNode → Type 0
HasOne ns p n = (a b : ℕ) → IsKeyChild ns p a → IsKeyChild ns p b → a ≡ b

limited_one : (ns : List TreeNode) (at : ℕ) (root : TreeNode) (kids : Forest) → slice_get ns at ≡ Some root → root.first ≡ begins (at + 1) kids → Sits ns (at + 1) kids → Limited (key_of root.kind) kids → HasOne ns at root
limited_one ns at root kids e f h low a b one two =
    let at_a = child_root ns at root kids e f h a one.under in
    let at_b = child_root ns at root kids e f h b two.under in
    let kind_a : one.below.kind ≡ at_a.0 = root_kind ns kids (at + 1) a at_a.0 one.below h at_a.1 one.below_there in
    let kind_b : two.below.kind ≡ at_b.0 = root_kind ns kids (at + 1) b at_b.0 two.below h at_b.1 two.below_there in
    let same_a = some_is one.above root (sym one.above_there ∙ e) in
    let same_b = some_is two.above root (sym two.above_there ∙ e) in
    let fits_a : fits (key_of root.kind) at_a.0 ≡ true = subst (λ k. fits (key_of root.kind) k ≡ true) kind_a (subst (λ n. fits (key_of n.kind) one.below.kind ≡ true) same_a one.fits) in
    let fits_b : fits (key_of root.kind) at_b.0 ≡ true = subst (λ k. fits (key_of root.kind) k ≡ true) kind_b (subst (λ n. fits (key_of n.kind) two.below.kind ≡ true) same_b two.fits) in
    go (key_of root.kind) low at_a.0 at_b.0 at_a.1 at_b.1 fits_a fits_b
  where
    go : (key : Key) → Limited key kids → (k l : NodeKind) → RootAt (at + 1) kids a k → RootAt (at + 1) kids b l → fits key k ≡ true → fits key l ≡ true → a ≡ b
    go keys.Nothing low k l r s p q = absurd (cc)
    go key low k l r s p q = one_of key (at + 1) kids a b k l low r s p q

all_one : (ns : List TreeNode) (x : Forest) (at : ℕ) → Sits ns at x → Shaped x → AllFrom (HasOne ns) at (nodes_from at x)
all_one ns leaf at h k = tt
all_one ns (tree kind token last kids rest) at h k =
    let root : TreeNode = record { kind = kind; token = token; last = last; first = begins (at + 1) kids; next = begins (at + (size kids + 1)) rest } in
    let inner = nodes_from (at + 1) kids in
    let outer = nodes_from (at + (size kids + 1)) rest in
    let long : at + (size kids + 1) ≡ (at + 1) + length inner = omega (arith, length_nodes kids (at + 1)) in (
      limited_one ns at root kids h.0 refl h.1 k.0,
      from_beside (HasOne ns) (at + 1) inner outer (all_one ns kids (at + 1) h.1 k.1) (subst (λ i. AllFrom (HasOne ns) i outer) long (all_one ns rest (at + (size kids + 1)) h.2 k.2)),
    )

one_key : (x : Forest) → Shaped x → (p a b : ℕ) → IsKeyChild (nodes_from 0 x) p a → IsKeyChild (nodes_from 0 x) p b → a ≡ b
one_key x h p a b one two =
    let ns = nodes_from 0 x in
    let all = all_one ns x 0 (sits ns x 0 (places ns)) h in
    let has : HasOne ns (0 + p) one.above = from_at (HasOne ns) 0 ns p one.above all one.above_there in
    let zero_plus : 0 + p ≡ p = omega arith in
    (subst (λ i. HasOne ns i one.above) zero_plus has) a b one two

pub formed : (t : Tree) (tokens : List Token) → SpellsTree t tokens → IsFormed t.nodes
formed t tokens spells =
    record {
      links = linked t tokens spells;
      ascends = λ j k m n l e f. (nodes_follow t tokens spells j k m n l e f).ascends;
      apart = λ j k m n l e f full. (nodes_follow t tokens spells j k m n l e f).strictly full;
      one_block = λ token a b c d h k. one_block t tokens token a b c d spells h k;
      one_key = subst (λ ns. (p a b : ℕ) → IsKeyChild ns p a → IsKeyChild ns p b → a ≡ b) (sym spells.2) (one_key spells.0 (shaped tokens spells.1));
    }
