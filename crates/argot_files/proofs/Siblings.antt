-- The list of children: one step, and what stands in it.
use Rattle.std.proofs.Common.{◌≡◌, ℕ, zero, suc, ◌-◌, ◌<◌, ◌≤◌, List, ◌∷◌, length, Option, Some, None, refl, sym, ap, ◌∙◌, subst, arith}
use Rattle.std.specs.Prelude.{slice_get}
use Rattle.argot_tree.specs.declared.tree.TreeNode.{TreeNode}
use Rattle.argot_answers.specs.Answers.{In}
use Rattle.argot_names_rules.specs.Nodes.{IsChild, IsNext, first, next}
use Rattle.argot_files.specs.Links.{IsLinked, to_child, to_sibling}
use Rattle.argot_files.specs.Children.{first_in, next_in, along, children_of, IsWithin}
use Rattle.argot_files.proofs.Listed.{some_is}

-- how many nodes there are from one on
abbrev pub room : List TreeNode → Option ℕ → ℕ
room tree None = 0
room tree (Some k) = length tree - k

module _ (tree : List TreeNode) (linked : IsLinked tree) where
  pub first_within : (k : ℕ) → IsWithin tree (first_in (slice_get tree k))
  first_within k = go (slice_get tree k) refl
    where
      go : (o : Option TreeNode) → slice_get tree k ≡ o → IsWithin tree (first_in o)
      go None e c f = absurd (cc)
      go (Some n) e c f = linked.within k c n e (to_child f)

  pub next_within : (k : ℕ) → IsWithin tree (next_in (slice_get tree k))
  next_within k = go (slice_get tree k) refl
    where
      go : (o : Option TreeNode) → slice_get tree k ≡ o → IsWithin tree (next_in o)
      go None e c f = absurd (cc)
      go (Some n) e c f = linked.within k c n e (to_sibling f)

  next_falls : (k : ℕ) → k < length tree → room tree (next_in (slice_get tree k)) < length tree - k
  next_falls k low = go (slice_get tree k) refl
    where
      at : (n : TreeNode) → slice_get tree k ≡ Some n → (o : Option ℕ) → n.next ≡ o → room tree o < length tree - k
      at n e None f = omega arith
      at n e (Some c) f = omega (arith, linked.ahead k c n e (to_sibling f), linked.within k c n e (to_sibling f))

      go : (o : Option TreeNode) → slice_get tree k ≡ o → room tree (next_in o) < length tree - k
      go None e = omega arith
      go (Some n) e = at n e n.next refl

  enough : (n m : ℕ) (at : Option ℕ) → IsWithin tree at → room tree at ≤ n → room tree at ≤ m → along n tree at ≡ along m tree at
  enough zero zero None w p q = refl
  enough zero (suc m) None w p q = refl
  enough (suc n) zero None w p q = refl
  enough (suc n) (suc m) None w p q = refl
  enough zero m (Some k) w p q = let low = w k refl in absurd (omega arith)
  enough (suc n) zero (Some k) w p q = let low = w k refl in absurd (omega arith)
  enough (suc n) (suc m) (Some k) w p q =
      let falls = next_falls k (w k refl) in
      ap (λ xs. k ∷ xs) (enough n m (next_in (slice_get tree k)) (next_within k) (omega arith) (omega arith))

  pub along_step : (n : ℕ) (k : ℕ) → k < length tree → length tree ≤ n → along n tree (Some k) ≡ k ∷ along n tree (next_in (slice_get tree k))
  along_step zero k low long = absurd (omega arith)
  along_step (suc n) k low long =
      let falls = next_falls k low in
      ap (λ xs. k ∷ xs) (enough n (suc n) (next_in (slice_get tree k)) (next_within k) (omega arith) (omega arith))

  -- what stands behind a member is a member
  along_on : (n : ℕ) (at : Option ℕ) → IsWithin tree at → room tree at ≤ n → (b c : ℕ) → In b (along n tree at) → IsNext tree b c → In c (along n tree at)
  along_on zero at w p b c i x = absurd (cc)
  along_on (suc n) None w p b c i x = absurd (cc)
  along_on (suc n) (Some k) w p b c (zero, e) x =
      let same : k ≡ b = some_is k b e in
      let link : next_in (slice_get tree k) ≡ Some c = ap (λ z. next_in (slice_get tree z)) same ∙ (ap next_in x.there ∙ x.next) in
      (suc zero, head n (next_in (slice_get tree k)) link (next_within k c link) (let falls = next_falls k (w k refl) in omega arith))
    where
      head : (m : ℕ) (o : Option ℕ) → o ≡ Some c → c < length tree → room tree o ≤ m → slice_get (along m tree o) 0 ≡ Some c
      head m None e low long = absurd (cc)
      head zero (Some d) e low long = let same = some_is d c e in absurd (omega arith)
      head (suc m) (Some d) e low long = e
  along_on (suc n) (Some k) w p b c (suc j, e) x =
      let falls = next_falls k (w k refl) in
      let rest = along_on n (next_in (slice_get tree k)) (next_within k) (omega arith) b c (j, e) x in
      (suc rest.0, rest.1)

  first_head : (n : ℕ) (at : Option ℕ) (c : ℕ) → at ≡ Some c → c < length tree → length tree ≤ n → In c (along n tree at)
  first_head n None c e low long = absurd (cc)
  first_head zero (Some d) c e low long = absurd (omega arith)
  first_head (suc n) (Some d) c e low long = (zero, e)

  room_at : (at : Option ℕ) → room tree at ≤ length tree
  room_at None = omega arith
  room_at (Some k) = omega arith

  pub in_children : (parent c : ℕ) → IsChild tree parent c → In c (children_of tree parent)
  in_children parent c (first f) =
      let link : first_in (slice_get tree parent) ≡ Some c = ap first_in f.there ∙ f.first in
      first_head (length tree) (first_in (slice_get tree parent)) c link (first_within parent c link) (omega arith)
  in_children parent c (next {before = b} under f) =
      along_on (length tree) (first_in (slice_get tree parent)) (first_within parent) (room_at (first_in (slice_get tree parent))) b c (in_children parent b under) f

  below : (parent n : ℕ) (at : Option ℕ) → ((c : ℕ) → at ≡ Some c → IsChild tree parent c) → (c : ℕ) → In c (along n tree at) → IsChild tree parent c
  below parent zero at under c i = absurd (cc)
  below parent (suc n) None under c i = absurd (cc)
  below parent (suc n) (Some k) under c (zero, e) = under c e
  below parent (suc n) (Some k) under c (suc j, e) =
      below parent n (next_in (slice_get tree k)) (λ d f. go d (slice_get tree k) refl f) c (j, e)
    where
      go : (d : ℕ) (o : Option TreeNode) → slice_get tree k ≡ o → next_in o ≡ Some d → IsChild tree parent d
      go d None h f = absurd (cc)
      go d (Some m) h f = next (under k refl) (record { is = m; there = h; next = f })

  pub is_child : (parent c : ℕ) → In c (children_of tree parent) → IsChild tree parent c
  is_child parent c i = below parent (length tree) (first_in (slice_get tree parent)) (λ d f. go d (slice_get tree parent) refl f) c i
    where
      go : (d : ℕ) (o : Option TreeNode) → slice_get tree parent ≡ o → first_in o ≡ Some d → IsChild tree parent d
      go d None h f = absurd (cc)
      go d (Some m) h f = first (record { is = m; there = h; first = f })

  pub first_ahead : (k c : ℕ) → first_in (slice_get tree k) ≡ Some c → (k < c) × (c < length tree)
  first_ahead k c e = go (slice_get tree k) refl e
    where
      go : (o : Option TreeNode) → slice_get tree k ≡ o → first_in o ≡ Some c → (k < c) × (c < length tree)
      go None h f = absurd (cc)
      go (Some n) h f = (linked.ahead k c n h (to_child f), linked.within k c n h (to_child f))

  pub next_ahead : (k c : ℕ) → next_in (slice_get tree k) ≡ Some c → (k < c) × (c < length tree)
  next_ahead k c e = go (slice_get tree k) refl e
    where
      go : (o : Option TreeNode) → slice_get tree k ≡ o → next_in o ≡ Some c → (k < c) × (c < length tree)
      go None h f = absurd (cc)
      go (Some n) h f = (linked.ahead k c n h (to_sibling f), linked.within k c n h (to_sibling f))

  -- one step of a walk over children
  pub walk_step : (at : Option ℕ) (k : ℕ) → at ≡ Some k → k < length tree → along (length tree) tree at ≡ k ∷ along (length tree) tree (next_in (slice_get tree k))
  walk_step at k e low = subst (λ o. along (length tree) tree o ≡ k ∷ along (length tree) tree (next_in (slice_get tree k))) (sym e) (along_step (length tree) k low (omega arith))
