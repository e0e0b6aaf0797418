-- Linking the nodes of trees from right to left gives their nodes in preorder.
use Rattle.std.proofs.Common.{◌≡◌, ℕ, ◌+◌, ◌-◌, ◌<◌, List, [], ◌∷◌, ◌++◌, length, reverse, Option, Some, None, refl, sym, ap, ◌∙◌, arith, append_assoc, add-zero, zero-add}
use Rattle.std.proofs.lemmas.List.{append-nil, reverse-append}
use Rattle.std.proofs.lemmas.Grind.{reverse_onto}
use Rattle.std.proofs.lemmas.Bool.{ne_eqb}
use Rattle.argot_tree.specs.declared.tree.TreeNode.{TreeNode}
use Rattle.argot_tree.specs.Forests.{Forest, leaf, tree, size, begins, nodes_from}
use Rattle.argot_parse_reader.specs.declared.post.Post.{Post}
use Rattle.argot_parse_nodes.specs.declared.pending.Pending.{Pending}
use Rattle.argot_parse_reader.specs.Posts.{posts}
use Rattle.argot_parse_reader.proofs.PostLaws.{length-posts}
use Rattle.argot_parse_nodes.specs.declared.linking.Linker.{Linker}
use Rattle.argot_parse_nodes.specs.Linker.{seen, IsUnlinked}
use Rattle.argot_parse_nodes.specs.Links.{settle, linked}

-- what still waits for children stays
pub settle_stays : (e : Pending) (outer : List Pending) (at : ℕ) (nodes : List TreeNode) → 0 < e.left → settle e outer at nodes ≡ record { inner = e; outer = outer; at = at; nodes = nodes }
settle_stays e [] at nodes h = refl
settle_stays e (o ∷ outer) at nodes h = rw (ne_eqb e.left 0 (omega arith)) refl

-- the nodes of a tree and of those beside it, from right to left, and then more
reversed : (kids beside : List Post) (root : Post) (more : List Post) → reverse (kids ++ (root ∷ beside)) ++ more ≡ reverse beside ++ (root ∷ (reverse kids ++ more))
reversed kids beside root more =
    ap (λ l. l ++ more) (reverse-append kids (root ∷ beside))
    ∙ ap (λ q. (q ++ reverse kids) ++ more) (reverse_onto beside root [])
    ∙ append_assoc (reverse beside ++ root ∷ []) (reverse kids) more
    ∙ append_assoc (reverse beside) (root ∷ []) (reverse kids ++ more)

-- the node that waits, with so many nodes left and a first child
abbrev waits : Post → ℕ → Option ℕ → Option ℕ → Pending
waits p left next child = record { post = p; left = left; next = next; child = child }

-- the trees' nodes are put before what stands there, and the node around them has come to its first child
linked_trees : (x : Forest) (p : Post) (next : Option ℕ) (m b : ℕ) (outer : List Pending) (nodes : List TreeNode) (more : List Post)
    → linked (reverse (posts x) ++ more) (settle (waits p (m + size x) next None) outer (b + size x) nodes) ≡ linked more (settle (waits p m next (begins b x)) outer b (nodes_from b x ++ nodes))
linked_trees leaf p next m b outer nodes more =
    λ i. linked more (settle (waits p (add-zero m i) next None) outer (add-zero b i) nodes)
linked_trees (tree kind token last kids rest) p next m b outer nodes more =
    let root : Post = record { kind = kind; token = token; last = last; size = size kids + 1 } in
    let behind : ℕ = b + (size kids + 1) in
    let left_is : m + (size kids + 1 + size rest) ≡ m + (size kids + 1) + size rest = omega arith in
    let at_is : b + (size kids + 1 + size rest) ≡ behind + size rest = omega arith in
    let ps : List Post = reverse (posts kids) ++ more in
    let around : Pending = waits p m next (begins behind rest) in
    let right : List TreeNode = nodes_from behind rest ++ nodes in
    let inside_is : size kids + 1 - 1 ≡ 0 + size kids = omega arith in
    let around_is : m + (size kids + 1) - (size kids + 1) ≡ m = omega arith in
    let kids_at : behind ≡ b + 1 + size kids = omega arith in
    let back : b + 1 - 1 ≡ b = omega arith in
    (λ i. linked (reversed (posts kids) (posts rest) root more i) (settle (waits p (left_is i) next None) outer (at_is i) nodes))
    ∙ linked_trees rest p next (m + (size kids + 1)) behind outer nodes (root ∷ ps)
    ∙ ap (linked (root ∷ ps)) (settle_stays (waits p (m + (size kids + 1)) next (begins behind rest)) outer behind right (omega arith))
    ∙ (λ i. linked ps (settle (waits root (inside_is i) (begins behind rest) None) (waits p (around_is i) next (begins behind rest) ∷ outer) (kids_at i) right))
    ∙ linked_trees kids root (begins behind rest) 0 (b + 1) (around ∷ outer) right more
    ∙ (λ i. linked more (settle (waits p m next (Some (back i))) outer (back i) (record { kind = kind; token = token; last = last; first = begins (b + 1) kids; next = begins behind rest } ∷ sym (append_assoc (nodes_from (b + 1) kids) (nodes_from behind rest) nodes) i)))

-- all of the nodes, inside something that is never done
linked_all : (x : Forest) (p : Post) → (linked (reverse (posts x)) (record { inner = waits p (1 + size x) None None; outer = []; at = size x; nodes = [] })).nodes ≡ nodes_from 0 x
linked_all x p =
    let all = linked_trees x p None 1 0 [] [] [] in
    (λ i. (linked (sym (append-nil (reverse (posts x))) i) (record { inner = waits p (1 + size x) None None; outer = []; at = sym (zero-add (size x)) i; nodes = [] })).nodes)
    ∙ ap (λ s. s.nodes) all ∙ append-nil (nodes_from 0 x)

-- where nothing is left, the nodes are those of the trees
pub linked_whole : (x : Forest) (behind : List Post) (first last : Linker) → behind ≡ posts x → IsUnlinked first (length behind) → seen last ≡ linked (reverse behind) (seen first) → reverse last.nodes.items ≡ nodes_from 0 x
linked_whole x behind first last e u h =
    let count : length behind ≡ size x = ap length e ∙ length-posts x in
    let left : first.inner.left ≡ 1 + size x = omega (arith, u.left, count) in
    let at : first.at ≡ size x = u.at ∙ count in
    ap (λ s. s.nodes) h
    ∙ (λ j. (linked (reverse (e j)) (record { inner = waits first.inner.post (left j) (u.next j) (u.child j); outer = reverse (u.outer j); at = at j; nodes = reverse (u.nodes j) })).nodes)
    ∙ linked_all x first.inner.post
