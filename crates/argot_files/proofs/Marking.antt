-- The marks of nodes grow by one child after the other.
use Rattle.std.proofs.Common.{◌≡◌, ℕ, ◌+◌, ◌≤◌, List, length, slice_set, Bool, true, false, Option, Some, None, inl, inr, sym, ◌∙◌, subst, arith}
use Rattle.std.specs.Prelude.{slice_get}
use Rattle.std.proofs.lemmas.Bool.{cases_eq}
use Rattle.std.proofs.lemmas.Option.{slice_get_within}
use Rattle.argot_tree.specs.declared.tree.TreeNode.{TreeNode}
use Rattle.argot_names_rules.specs.Nodes.{IsChild}
use Rattle.argot_files.specs.declared.marks.Wanted.{Wanted}
use Rattle.argot_files.specs.Marks.{passes, HasWanted, AreMarks, AreMarksUpTo}
use Rattle.argot_files.specs.Parents.{AreParents}
use Rattle.argot_files.proofs.Listed.{some_is, get_set_same, get_set_other, length_set}
use Rattle.argot_files.proofs.Keying.{parent_within}

-- the node is unwanted, or has no parent
pub mark_none : (ns : List TreeNode) (wanted : Wanted) (marks : List Bool) (c : ℕ) → AreMarksUpTo ns wanted c marks → ((p : ℕ) → (h : HasWanted ns wanted p) → h.child ≡ c → ⊥) → AreMarksUpTo ns wanted (c + 1) marks
mark_none ns wanted marks c h never =
    record {
      as_long = h.as_long;
      sound = h.sound;
      complete = λ p e has low. elim (cases_eq has.child c) [
        | inl same ↦ never p has same
        | inr other ↦ h.complete p e has (omega arith)
      ];
    }

pub unwanted : (ns : List TreeNode) (wanted : Wanted) (c : ℕ) (n : TreeNode) → slice_get ns c ≡ Some n → passes wanted n.kind ≡ false → (p : ℕ) → (h : HasWanted ns wanted p) → h.child ≡ c → ⊥
unwanted ns wanted c n e f p h same =
    let one = some_is h.is n (sym h.there ∙ subst (λ x. slice_get ns x ≡ Some n) (sym same) e) in
    let wants : passes wanted n.kind ≡ true = subst (λ x. passes wanted x.kind ≡ true) one h.passes in
    absurd (cc)

pub orphan : (ns : List TreeNode) (ps : List (Option ℕ)) (wanted : Wanted) (c : ℕ) → AreParents ns ps → slice_get ps c ≡ Some None → (p : ℕ) → (h : HasWanted ns wanted p) → h.child ≡ c → ⊥
orphan ns ps wanted c ok e p h same =
    let has = ok.complete p h.child h.under in
    let none : slice_get ps h.child ≡ Some None = subst (λ x. slice_get ps x ≡ Some None) (sym same) e in
    absurd (cc)

pub mark_put : (ns : List TreeNode) (ps : List (Option ℕ)) (wanted : Wanted) (marks marks' : List Bool) (c p : ℕ) (n : TreeNode) → AreParents ns ps → AreMarksUpTo ns wanted c marks → slice_get ns c ≡ Some n → passes wanted n.kind ≡ true → slice_get ps c ≡ Some (Some p) → marks' ≡ slice_set marks p true → AreMarksUpTo ns wanted (c + 1) marks'
mark_put ns ps wanted marks marks' c p n ok h e f g is =
    let under : IsChild ns p c = ok.sound p c g in
    let own : HasWanted ns wanted p = record { child = c; is = n; under = under; there = e; passes = f } in
    let there : slice_get (slice_set marks p true) p ≡ Some true = get_set_same marks p true (omega (arith, parent_within ns p c under, h.as_long)) in
    subst (AreMarksUpTo ns wanted (c + 1)) (sym is) (record {
      as_long = length_set marks p true ∙ h.as_long;
      sound = λ q got. elim (cases_eq q p) [
        | inl same ↦ subst (HasWanted ns wanted) (sym same) own
        | inr other ↦ h.sound q (sym (get_set_other marks p q true other) ∙ got)
      ];
      complete = λ q got has low. elim (cases_eq q p) [
        | inl same ↦
            let here : slice_get (slice_set marks p true) p ≡ Some false = subst (λ x. slice_get (slice_set marks p true) x ≡ Some false) same got in
            absurd (cc)
        | inr other ↦ elim (cases_eq has.child c) [
          | inl same ↦
              let own_parent = ok.complete q has.child has.under in
              let parent : slice_get ps has.child ≡ Some (Some p) = subst (λ x. slice_get ps x ≡ Some (Some p)) (sym same) g in
              let one : q ≡ p = cc in
              absurd (other one)
          | inr apart ↦ h.complete q (sym (get_set_other marks p q true other) ∙ got) has (omega arith)
        ]
      ];
    })

pub all_marked : (ns : List TreeNode) (wanted : Wanted) (k : ℕ) (marks : List Bool) → length ns ≤ k → AreMarksUpTo ns wanted k marks → AreMarks ns wanted marks
all_marked ns wanted k marks long h =
    record { as_long = h.as_long; sound = h.sound; complete = λ p e has. h.complete p e has (omega (arith, slice_get_within ns has.child has.is has.there)) }
