-- The table of children that are looked for grows by one child after the other.
use Rattle.std.proofs.Common.{◌≡◌, ℕ, ◌+◌, ◌<◌, ◌≤◌, List, length, slice_set, true, false, Option, Some, None, inl, inr, sym, ◌∙◌, subst, arith}
use Rattle.std.specs.Prelude.{slice_get}
use Rattle.std.proofs.lemmas.Bool.{cases_eq}
use Rattle.std.proofs.lemmas.Option.{slice_get_within}
use Rattle.argot_tree.specs.declared.tree.TreeNode.{TreeNode}
use Rattle.argot_names_rules.specs.Nodes.{IsChild, first, next}
use Rattle.argot_files.specs.Forms.{IsFormed}
use Rattle.argot_files.specs.Keys.{key_of, fits, IsKeyChild, AreKeys, AreKeysUpTo}
use Rattle.argot_files.specs.Parents.{AreParents}
use Rattle.argot_files.proofs.Listed.{some_is, get_set_same, get_set_other, length_set}

-- a parent stands in the tree
pub parent_within : (ns : List TreeNode) (p c : ℕ) → IsChild ns p c → p < length ns
parent_within ns p c (first f) = slice_get_within ns p f.is f.there
parent_within ns p c (next under f) = parent_within ns p _ under

-- the node has no parent
pub key_none : (ns : List TreeNode) (ps keys : List (Option ℕ)) (c : ℕ) → AreParents ns ps → AreKeysUpTo ns c keys → slice_get ps c ≡ Some None → AreKeysUpTo ns (c + 1) keys
key_none ns ps keys c ok h e =
    record {
      as_long = h.as_long;
      sound = h.sound;
      found = λ p d low key. elim (cases_eq d c) [
        | inl same ↦
            let has = ok.complete p d key.under in
            let none : slice_get ps d ≡ Some None = subst (λ x. slice_get ps x ≡ Some None) (sym same) e in
            absurd (cc)
        | inr other ↦ h.found p d (omega arith) key
      ];
    }

-- the node isn't the one that is looked for in its parent
pub key_unfit : (ns : List TreeNode) (ps keys : List (Option ℕ)) (c p : ℕ) (m n : TreeNode) → AreParents ns ps → AreKeysUpTo ns c keys → slice_get ps c ≡ Some (Some p) → slice_get ns p ≡ Some m → slice_get ns c ≡ Some n → fits (key_of m.kind) n.kind ≡ false → AreKeysUpTo ns (c + 1) keys
key_unfit ns ps keys c p m n ok h e f g unfit =
    record {
      as_long = h.as_long;
      sound = h.sound;
      found = λ q d low key. elim (cases_eq d c) [
        | inl same ↦
            let has = ok.complete q d key.under in
            let own : slice_get ps d ≡ Some (Some p) = subst (λ x. slice_get ps x ≡ Some (Some p)) (sym same) e in
            let one : q ≡ p = cc in
            let above = some_is key.above m (sym (subst (λ x. slice_get ns x ≡ Some key.above) one key.above_there) ∙ f) in
            let below = some_is key.below n (sym (subst (λ x. slice_get ns x ≡ Some key.below) same key.below_there) ∙ g) in
            let fit : fits (key_of m.kind) n.kind ≡ true = subst (λ x. fits (key_of x.kind) n.kind ≡ true) above (subst (λ x. fits (key_of key.above.kind) x.kind ≡ true) below key.fits) in
            absurd (cc)
        | inr other ↦ h.found q d (omega arith) key
      ];
    }

-- the node is the one that is looked for in its parent
pub key_put : (ns : List TreeNode) (ps keys keys' : List (Option ℕ)) (c p : ℕ) (m n : TreeNode) → IsFormed ns → AreParents ns ps → AreKeysUpTo ns c keys → slice_get ps c ≡ Some (Some p) → slice_get ns p ≡ Some m → slice_get ns c ≡ Some n → fits (key_of m.kind) n.kind ≡ true → keys' ≡ slice_set keys p (Some c) → AreKeysUpTo ns (c + 1) keys'
key_put ns ps keys keys' c p m n formed ok h e f g fit is =
    let under : IsChild ns p c = ok.sound p c e in
    let own : IsKeyChild ns p c = record { above = m; below = n; under = under; above_there = f; below_there = g; fits = fit } in
    let there : slice_get (slice_set keys p (Some c)) p ≡ Some (Some c) = get_set_same keys p (Some c) (omega (arith, parent_within ns p c under, h.as_long)) in
    subst (AreKeysUpTo ns (c + 1)) (sym is) (record {
      as_long = length_set keys p (Some c) ∙ h.as_long;
      sound = λ q d got. elim (cases_eq q p) [
        | inl same ↦
            let here : slice_get (slice_set keys p (Some c)) p ≡ Some (Some d) = subst (λ x. slice_get (slice_set keys p (Some c)) x ≡ Some (Some d)) same got in
            let one : c ≡ d = cc in
            subst (λ x. IsKeyChild ns x d) (sym same) (subst (IsKeyChild ns p) one own)
        | inr other ↦ h.sound q d (sym (get_set_other keys p q (Some c) other) ∙ got)
      ];
      found = λ q d low key. elim (cases_eq q p) [
        | inl same ↦
            let one : d ≡ c = formed.one_key p d c (subst (λ x. IsKeyChild ns x d) same key) own in
            subst (λ x. slice_get (slice_set keys p (Some c)) x ≡ Some (Some d)) (sym same) (subst (λ x. slice_get (slice_set keys p (Some c)) p ≡ Some (Some x)) (sym one) there)
        | inr other ↦ get_set_other keys p q (Some c) other ∙ h.found q d (before q d low key other) key
      ];
    })
  where
    before : (q d : ℕ) → d < c + 1 → IsKeyChild ns q d → (q ≡ p → ⊥) → d < c
    before q d low key other = elim (cases_eq d c) [
      | inl same ↦
          let has = ok.complete q d key.under in
          let own : slice_get ps d ≡ Some (Some p) = subst (λ x. slice_get ps x ≡ Some (Some p)) (sym same) e in
          let one : q ≡ p = cc in
          absurd (other one)
      | inr apart ↦ omega arith
    ]

pub all_keys : (ns : List TreeNode) (k : ℕ) (keys : List (Option ℕ)) → length ns ≤ k → AreKeysUpTo ns k keys → AreKeys ns keys
all_keys ns k keys long h =
    record { as_long = h.as_long; sound = h.sound; complete = λ p c key. h.found p c (omega (arith, slice_get_within ns c key.below key.below_there)) key }
