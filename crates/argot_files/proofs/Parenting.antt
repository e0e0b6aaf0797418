-- The table of parents grows by the links of one node after the other.
use Rattle.std.proofs.Common.{◌≡◌, ℕ, ◌+◌, ◌<◌, ◌≤◌, List, length, slice_set, Option, Some, None, inl, inr, refl, sym, ap, ◌∙◌, subst, arith}
use Rattle.std.specs.Prelude.{◌⊎◌, slice_get}
use Rattle.std.proofs.lemmas.Bool.{cases_eq}
use Rattle.std.proofs.lemmas.Option.{slice_get_within}
use Rattle.argot_tree.specs.declared.tree.TreeNode.{TreeNode}
use Rattle.argot_names_rules.specs.Nodes.{IsChild, first, next}
use Rattle.argot_files.specs.Links.{LeadsTo, to_child, to_sibling, IsLinked}
use Rattle.argot_files.specs.Parents.{AreParents, AreParentsUpTo, put}
use Rattle.argot_files.proofs.Listed.{some_is, get_set_same, get_set_other, length_set}

pub put_kept : (ps : List (Option ℕ)) (at parent : Option ℕ) (c : ℕ) → (at ≡ Some c → ⊥) → slice_get (put ps at parent) c ≡ slice_get ps c
put_kept ps None parent c h = refl
put_kept ps (Some a) parent c h = get_set_other ps a c parent (λ e. h (cc))

pub put_there : (ps : List (Option ℕ)) (at parent : Option ℕ) (c : ℕ) → at ≡ Some c → c < length ps → slice_get (put ps at parent) c ≡ Some parent
put_there ps None parent c h l = absurd (cc)
put_there ps (Some a) parent c h l =
    let same : a ≡ c = cc in
    subst (λ x. slice_get (slice_set ps a parent) x ≡ Some parent) same (get_set_same ps a parent (omega arith))

pub put_long : (ps : List (Option ℕ)) (at parent : Option ℕ) → length (put ps at parent) ≡ length ps
put_long ps None parent = refl
put_long ps (Some a) parent = length_set ps a parent

-- whether a link leads to a number
leads_or : (at : Option ℕ) (c : ℕ) → (at ≡ Some c) ⊎ (at ≡ Some c → ⊥)
leads_or None c = inr (λ e. cc)
leads_or (Some a) c = elim (cases_eq a c) [ inl e ↦ inl (cc) | inr h ↦ inr (λ e. h (cc)) ]

-- the first child of node k
pub put_first : (tree : List TreeNode) (k : ℕ) (n : TreeNode) (ps : List (Option ℕ)) → IsLinked tree → AreParentsUpTo tree k k ps → slice_get tree k ≡ Some n → AreParentsUpTo tree (k + 1) k (put ps n.first (Some k))
put_first tree k n ps links h e =
    record {
      as_long = put_long ps n.first (Some k) ∙ h.as_long;
      sound = λ p c g. elim (leads_or n.first c) [
        | inl is ↦
            let there = put_there ps n.first (Some k) c is (omega (arith, links.within k c n e (to_child is), h.as_long)) in
            let same : k ≡ p = cc in
            subst (λ q. IsChild tree q c) same (first (record { is = n; there = e; first = is }))
        | inr other ↦ h.sound p c (sym (put_kept ps n.first (Some k) c other) ∙ g)
      ];
      firsts = λ p c m low f is. elim (cases_eq p k) [
        | inl same ↦
            let one : m ≡ n = some_is m n (sym f ∙ subst (λ x. slice_get tree x ≡ Some n) (sym same) e) in
            let is' : n.first ≡ Some c = subst (λ x. x.first ≡ Some c) one is in
            put_there ps n.first (Some k) c is' (omega (arith, links.within k c n e (to_child is'), h.as_long)) ∙ subst (λ x. Some (Some k) ≡ Some (Some x)) (sym same) refl
        | inr other ↦
            put_kept ps n.first (Some k) c (λ g. links.once p k c m n (omega arith) f e (to_child is) (to_child g)) ∙ h.firsts p c m (omega arith) f is
      ];
      nexts = λ b c m low f is.
          let kept : slice_get (put ps n.first (Some k)) c ≡ slice_get ps c = put_kept ps n.first (Some k) c (λ g. links.once b k c m n low f e (to_sibling is) (to_child g)) in
          let own : slice_get (put ps n.first (Some k)) b ≡ slice_get ps b = put_kept ps n.first (Some k) b (λ g. absurd (omega (arith, links.ahead k b n e (to_child g)))) in
          kept ∙ (h.nexts b c m low f is ∙ sym own);
    }

-- the sibling behind node k
pub put_next : (tree : List TreeNode) (k : ℕ) (n : TreeNode) (ps : List (Option ℕ)) (parent : Option ℕ) → IsLinked tree → AreParentsUpTo tree (k + 1) k ps → slice_get tree k ≡ Some n → slice_get ps k ≡ Some parent → AreParentsUpTo tree (k + 1) (k + 1) (put ps n.next parent)
put_next tree k n ps parent links h e own =
    record {
      as_long = put_long ps n.next parent ∙ h.as_long;
      sound = λ p c g. elim (leads_or n.next c) [
        | inl is ↦
            let there = put_there ps n.next parent c is (omega (arith, links.within k c n e (to_sibling is), h.as_long)) in
            let same : parent ≡ Some p = some_is parent (Some p) (sym there ∙ g) in
            next (h.sound p k (own ∙ subst (λ x. Some parent ≡ Some x) same refl)) (record { is = n; there = e; next = is })
        | inr other ↦ h.sound p c (sym (put_kept ps n.next parent c other) ∙ g)
      ];
      firsts = λ p c m low f is.
          put_kept ps n.next parent c (λ g. elim (cases_eq p k) [
            | inl same ↦
                let one : m ≡ n = some_is m n (sym f ∙ subst (λ x. slice_get tree x ≡ Some n) (sym same) e) in
                links.apart k c n e (subst (λ x. x.first ≡ Some c) one is) g
            | inr other ↦ links.once p k c m n (omega arith) f e (to_child is) (to_sibling g)
          ]) ∙ h.firsts p c m low f is;
      nexts = λ b c m low f is.
          let before : slice_get (put ps n.next parent) b ≡ slice_get ps b = put_kept ps n.next parent b (λ g. absurd (omega (arith, links.ahead k b n e (to_sibling g)))) in
          elim (cases_eq b k) [
            | inl same ↦
                let one : m ≡ n = some_is m n (sym f ∙ subst (λ x. slice_get tree x ≡ Some n) (sym same) e) in
                let is' : n.next ≡ Some c = subst (λ x. x.next ≡ Some c) one is in
                let there = put_there ps n.next parent c is' (omega (arith, links.within k c n e (to_sibling is'), h.as_long)) in
                there ∙ (sym (subst (λ x. slice_get ps x ≡ Some parent) (sym same) own) ∙ sym before)
            | inr other ↦
                put_kept ps n.next parent c (λ g. links.once b k c m n (omega arith) f e (to_sibling is) (to_sibling g)) ∙ (h.nexts b c m (omega arith) f is ∙ sym before)
          ];
    }

-- all links have been followed
pub all_put : (tree : List TreeNode) (k : ℕ) (ps : List (Option ℕ)) → length tree ≤ k → AreParentsUpTo tree k k ps → AreParents tree ps
all_put tree k ps long h =
    record { as_long = h.as_long; sound = h.sound; complete = found }
  where
    found : (p c : ℕ) → IsChild tree p c → slice_get ps c ≡ Some (Some p)
    found p c (first f) = h.firsts p c f.is (omega (arith, slice_get_within tree p f.is f.there)) f.there f.first
    found p c (next {before = b} under f) = h.nexts b c f.is (omega (arith, slice_get_within tree b f.is f.there)) f.there f.next ∙ found p b under

-- node k with both of its links
pub put_both : (tree ns : List TreeNode) (k : ℕ) (n : TreeNode) (ps qs rs : List (Option ℕ)) (parent : Option ℕ) → ns ≡ tree → IsLinked tree → AreParentsUpTo tree k k ps → slice_get ns k ≡ Some n → qs ≡ put ps n.first (Some k) → slice_get qs k ≡ Some parent → rs ≡ put qs n.next parent → AreParentsUpTo tree (k + 1) (k + 1) rs
put_both tree ns k n ps qs rs parent same links h e q own r =
    let there : slice_get tree k ≡ Some n = subst (λ x. slice_get x k ≡ Some n) same e in
    let one : AreParentsUpTo tree (k + 1) k qs = subst (AreParentsUpTo tree (k + 1) k) (sym q) (put_first tree k n ps links h there) in
    subst (AreParentsUpTo tree (k + 1) (k + 1)) (sym r) (put_next tree k n qs parent links one there own)

pub leads_within : (tree ns : List TreeNode) (k c : ℕ) (n : TreeNode) → ns ≡ tree → IsLinked tree → slice_get ns k ≡ Some n → LeadsTo n c → c < length tree
leads_within tree ns k c n same links e l = links.within k c n (subst (λ x. slice_get x k ≡ Some n) same e) l

pub put_as_long : (ps qs : List (Option ℕ)) (at parent : Option ℕ) → qs ≡ put ps at parent → length qs ≡ length ps
put_as_long ps qs at parent e = ap length e ∙ put_long ps at parent
