-- Nodes in preorder: their tokens ascend, those of blocks strictly, and blocks lie in each other or apart.
use Rattle.std.proofs.Common.{◌≡◌, ℕ, zero, suc, ◌+◌, ◌-◌, ◌<◌, ◌≤◌, List, [], ◌∷◌, ◌++◌, length, true, Some, ◌∙◌, subst, arith}
use Rattle.std.specs.Prelude.{slice_get}
use Rattle.std.specs.List.{AllByRecursion}
use Rattle.std.proofs.lemmas.Bool.Decides.{nat_tests}
use Rattle.argot_tree.specs.declared.token.Token.{Token}
use Rattle.argot_tree.specs.declared.tree.Tree.{Tree}
use Rattle.argot_tree.specs.declared.tree.TreeNode.{TreeNode}
use Rattle.argot_tree.specs.Forests.{Forest, leaf, tree, nodes_from, begins, size, last_token}
use Rattle.argot_tree.specs.Trees.{SpellsTree}
use Rattle.argot_names_rules.specs.Blocks.{is_block}
use Rattle.argot_names_rules.proofs.Lying.{Lies, lies_le}
use Rattle.argot_names_rules.proofs.LyingTrees.{lies}

module _ {A : Type 0} where
  all_beside : (P : A → Type 0) (xs ys : List A) → AllByRecursion P xs → AllByRecursion P ys → AllByRecursion P (xs ++ ys)
  all_beside P [] ys h k = k
  all_beside P (x ∷ xs) ys h k = (h.0, all_beside P xs ys h.1 k)

  all_onto : (P Q : A → Type 0) → ((x : A) → P x → Q x) → (xs : List A) → AllByRecursion P xs → AllByRecursion Q xs
  all_onto P Q f [] h = tt
  all_onto P Q f (x ∷ xs) h = (f x h.0, all_onto P Q f xs h.1)

  all_under : (C : Type 0) (P : A → Type 0) (xs : List A) → (C → AllByRecursion P xs) → AllByRecursion (λ x. C → P x) xs
  all_under C P [] h = tt
  all_under C P (x ∷ xs) h = (λ c. (h c).0, all_under C P xs (λ c. (h c).1))

  all_both : (P Q R : A → Type 0) → ((x : A) → P x → Q x → R x) → (xs : List A) → AllByRecursion P xs → AllByRecursion Q xs → AllByRecursion R xs
  all_both P Q R f [] h k = tt
  all_both P Q R f (x ∷ xs) h k = (f x h.0 k.0, all_both P Q R f xs h.1 k.1)

  pub all_at : (P : A → Type 0) (xs : List A) (k : ℕ) (x : A) → AllByRecursion P xs → slice_get xs k ≡ Some x → P x
  all_at P [] k x h e = absurd (cc)
  all_at P (y ∷ xs) zero x h e = subst P (some_is y x e) h.0
    where
      some_is : (a b : A) → Some a ≡ Some b → a ≡ b
      some_is a b e = cc
  all_at P (y ∷ xs) (suc k) x h e = all_at P xs k x h.1 e

  -- each item has the relation to each behind it
  abbrev pub Pairwise : (A → A → Type 0) → List A → Type 0
  Pairwise R [] = Unit {0}
  Pairwise R (x ∷ xs) = AllByRecursion (R x) xs × Pairwise R xs

  pairs_beside : (R : A → A → Type 0) (xs ys : List A) → Pairwise R xs → Pairwise R ys → AllByRecursion (λ x. AllByRecursion (R x) ys) xs → Pairwise R (xs ++ ys)
  pairs_beside R [] ys h k m = k
  pairs_beside R (x ∷ xs) ys h k m = (all_beside (R x) xs ys h.0 m.0, pairs_beside R xs ys h.1 k m.1)

  pub pair_at : (R : A → A → Type 0) (xs : List A) (j k : ℕ) (x y : A) → Pairwise R xs → j < k → slice_get xs j ≡ Some x → slice_get xs k ≡ Some y → R x y
  pair_at R [] j k x y h l e f = absurd (cc)
  pair_at R (z ∷ xs) j zero x y h l e f = absurd (omega arith)
  pair_at R (z ∷ xs) zero (suc k) x y h l e f = subst (λ w. R w y) (some_is z x e) (all_at (R z) xs k y h.0 f)
    where
      some_is : (a b : A) → Some a ≡ Some b → a ≡ b
      some_is a b e = cc
  pair_at R (z ∷ xs) (suc j) (suc k) x y h l e f = pair_at R xs j k x y h.1 (omega arith) e f

-- a node between two places
pub record Fits (from to : ℕ) (n : TreeNode) : Type 0 where
  pub behind : ℕ
  pub low : from ≤ n.token
  pub up : n.token ≤ behind
  pub high : behind ≤ to
  pub last_is : n.last ≡ last_token n.token behind
  pub full : is_block n.kind ≡ true → n.token + 1 ≤ behind

-- a node and one behind it
pub record Follows (m n : TreeNode) : Type 0 where
  pub ascends : m.token ≤ n.token
  pub strictly : is_block m.kind ≡ true → m.token < n.token
  pub nested : is_block m.kind ≡ true → is_block n.kind ≡ true → n.token ≤ m.last → n.last ≤ m.last

last_full : (token behind : ℕ) → token + 1 ≤ behind → last_token token behind ≡ behind - 1
last_full token behind h = grind (arith, nat_tests)

fits_wide : (from to low high : ℕ) → low ≤ from → to ≤ high → (n : TreeNode) → Fits from to n → Fits low high n
fits_wide from to low high p q n h =
    record {
      behind = h.behind;
      low = omega (arith, h.low);
      up = h.up;
      high = omega (arith, h.high);
      last_is = h.last_is;
      full = h.full;
    }

all_fit : (x : Forest) (at from to : ℕ) → Lies x from to → AllByRecursion (Fits from to) (nodes_from at x)
all_fit leaf at from to h = tt
all_fit (tree kind token last kids rest) at from to h =
    let behind = h.0 in
    let after = lies_le rest behind to h.6 in
    let inner = all_onto (Fits token behind) (Fits from to) (fits_wide token behind from to h.1 after) (nodes_from (at + 1) kids) (all_fit kids (at + 1) token behind h.4) in
    let outer = all_onto (Fits behind to) (Fits from to) (fits_wide behind to from to (omega (arith, h.1, h.2)) (omega arith)) (nodes_from (at + (size kids + 1)) rest) (all_fit rest (at + (size kids + 1)) behind to h.6) in (
      record { behind = behind; low = h.1; up = h.2; high = after; last_is = h.3; full = λ e. lies_le kids (token + 1) behind (h.5 e) },
      all_beside (Fits from to) (nodes_from (at + 1) kids) (nodes_from (at + (size kids + 1)) rest) inner outer,
    )

-- a node and those below it
below : (m : TreeNode) (behind : ℕ) → m.last ≡ last_token m.token behind → (is_block m.kind ≡ true → m.token + 1 ≤ behind) → (n : TreeNode) → Fits m.token behind n → (is_block m.kind ≡ true → Fits (m.token + 1) behind n) → Follows m n
below m behind is full n fits inside =
    record {
      ascends = fits.low;
      strictly = λ e. omega (arith, (inside e).low);
      nested = λ e f l.
          let m_last : m.last ≡ behind - 1 = is ∙ last_full m.token behind (full e) in
          let n_last : n.last ≡ fits.behind - 1 = fits.last_is ∙ last_full n.token fits.behind (fits.full f) in
          omega (arith, fits.high, m_last, n_last);
    }

-- a node and those behind all below it
beyond : (m : TreeNode) (behind to : ℕ) → m.token ≤ behind → m.last ≡ last_token m.token behind → (is_block m.kind ≡ true → m.token + 1 ≤ behind) → (n : TreeNode) → Fits behind to n → Follows m n
beyond m behind to up is full n fits =
    record {
      ascends = omega (arith, fits.low);
      strictly = λ e. omega (arith, fits.low, full e);
      nested = λ e f l.
          let m_last : m.last ≡ behind - 1 = is ∙ last_full m.token behind (full e) in
          absurd (omega (arith, fits.low, full e, m_last));
    }

two_fit : (from mid to : ℕ) (m : TreeNode) → Fits from mid m → (n : TreeNode) → Fits mid to n → Follows m n
two_fit from mid to m h n k = beyond m h.behind to h.up h.last_is h.full n (fits_wide mid to h.behind to h.high (omega arith) n k)

pairs : (x : Forest) (at from to : ℕ) → Lies x from to → Pairwise Follows (nodes_from at x)
pairs leaf at from to h = tt
pairs (tree kind token last kids rest) at from to h =
    let behind = h.0 in
    let m : TreeNode = record { kind = kind; token = token; last = last; first = begins (at + 1) kids; next = begins (at + (size kids + 1)) rest } in
    let full : is_block kind ≡ true → token + 1 ≤ behind = λ e. lies_le kids (token + 1) behind (h.5 e) in
    let inner = nodes_from (at + 1) kids in
    let outer = nodes_from (at + (size kids + 1)) rest in
    let inner_fit = all_fit kids (at + 1) token behind h.4 in
    let inner_strict = all_under (is_block kind ≡ true) (Fits (token + 1) behind) inner (λ e. all_fit kids (at + 1) (token + 1) behind (h.5 e)) in
    let outer_fit = all_fit rest (at + (size kids + 1)) behind to h.6 in
    let with_inner = all_both (Fits token behind) (λ n. is_block kind ≡ true → Fits (token + 1) behind n) (Follows m) (λ n p q. below m behind h.3 full n p q) inner inner_fit inner_strict in
    let with_outer = all_onto (Fits behind to) (Follows m) (λ n p. beyond m behind to h.2 h.3 full n p) outer outer_fit in
    let across = all_onto (Fits token behind) (λ x. AllByRecursion (Follows x) outer) (λ x p. all_onto (Fits behind to) (Follows x) (two_fit token behind to x p) outer outer_fit) inner inner_fit in (
      all_beside (Follows m) inner outer with_inner with_outer,
      pairs_beside Follows inner outer (pairs kids (at + 1) token behind h.4) (pairs rest (at + (size kids + 1)) behind to h.6) across,
    )

-- two nodes of a tree that spells tokens
pub nodes_follow : (t : Tree) (tokens : List Token) → SpellsTree t tokens → (j k : ℕ) (m n : TreeNode) → j < k → slice_get t.nodes j ≡ Some m → slice_get t.nodes k ≡ Some n → Follows m n
nodes_follow t tokens (x, spells, is) j k m n l e f =
    pair_at Follows (nodes_from 0 x) j k m n (pairs x 0 0 (length tokens) (lies tokens spells)) l
    (subst (λ ns. slice_get ns j ≡ Some m) is e) (subst (λ ns. slice_get ns k ≡ Some n) is f)
