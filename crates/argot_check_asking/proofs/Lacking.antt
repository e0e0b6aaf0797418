-- A rule that is silent so far asks a row of which nothing is known.
use Rattle.std.proofs.Common.{◌≡◌, Bool, List, [], ◌∷◌, Option, Some, None, refl, sym, ◌∙◌, inl, inr}
use Rattle.argot_check_asking.specs.Rules.{Rule, AskMaybe, bind, all_known, told, Typed}
use Rattle.argot_check_asking.specs.Needs.{Among, here, there, one, behind_one, left, right, behind_both, perhaps, behind_none, behind_some, some, behind_all, IsLoud, says, asks_one, asks_both, asks_maybe, asks_all, Lacks}
use Rattle.argot_check_asking.proofs.Steps.{neither}
use Rattle.argot_check_asking.proofs.Soundness.{all_sound}

module _ {R F : Type 0} (typed : F → Bool) (rules : R → Rule R F) (known : R → Option F) (sound : (n : R) (f : F) → known n ≡ Some f → Typed typed rules n f) where
  among : (xs : List R) → all_known known xs ≡ None → (m : R) × Among xs m × (known m ≡ None)
  among [] h = cc
  among (x ∷ xs) h = elim (neither (known x) (λ f. bind (all_known known xs) (λ fs. Some (f ∷ fs))) h) [
    | inl e ↦ (x, here, e)
    | inr q ↦ elim (neither (all_known known xs) (λ fs. Some (q.0 ∷ fs)) q.2) [
      | inl e ↦ (let r = among xs e in (r.0, there r.1, r.2))
      | inr s ↦ (let x : ⊥ = cc in absurd x)
    ]
  ]

  first_by : (o : Option F) (k : Option F → Rule R F) → bind (bind o (λ f. Some (Some f))) (λ a. told known (k a)) ≡ bind o (λ f. told known (k (Some f)))
  first_by None k = refl
  first_by (Some f) k = refl

  some_first : (x : R) (k : Option F → Rule R F) → told known (AskMaybe (Some x) k) ≡ None → bind (known x) (λ f. told known (k (Some f))) ≡ None
  some_first x k h = sym (first_by (known x) k) ∙ h

  pub lacks : {r : Rule R F} → IsLoud r → told known r ≡ None → Lacks typed rules known r
  lacks says h = cc
  lacks (asks_one {x = x} {k = k} l) h = elim (neither (known x) (λ f. told known (k f)) h) [
    | inl e ↦ record { row = x; wants = one; unknown = e }
    | inr q ↦ (let r = lacks (l q.0) q.2 in record { row = r.row; wants = behind_one (sound x q.0 q.1) r.wants; unknown = r.unknown })
  ]
  lacks (asks_both {x = x} {y = y} {k = k} l) h = elim (neither (known x) (λ f. bind (known y) (λ g. told known (k f g))) h) [
    | inl e ↦ record { row = x; wants = left; unknown = e }
    | inr q ↦ elim (neither (known y) (λ g. told known (k q.0 g)) q.2) [
      | inl e ↦ record { row = y; wants = right; unknown = e }
      | inr s ↦ (let r = lacks (l q.0 s.0) s.2 in record { row = r.row; wants = behind_both (sound x q.0 q.1) (sound y s.0 s.1) r.wants; unknown = r.unknown })
    ]
  ]
  lacks (asks_maybe {x = None} {k = k} l) h = let r = lacks (l None) h in record { row = r.row; wants = behind_none r.wants; unknown = r.unknown }
  lacks (asks_maybe {x = Some x} {k = k} l) h = elim (neither (known x) (λ f. told known (k (Some f))) (some_first x k h)) [
    | inl e ↦ record { row = x; wants = perhaps; unknown = e }
    | inr q ↦ (let r = lacks (l (Some q.0)) q.2 in record { row = r.row; wants = behind_some (sound x q.0 q.1) r.wants; unknown = r.unknown })
  ]
  lacks (asks_all {xs = xs} {k = k} l) h = elim (neither (all_known known xs) (λ fs. told known (k fs)) h) [
    | inl e ↦ (let r = among xs e in record { row = r.0; wants = some r.1; unknown = r.2 })
    | inr q ↦ (let r = lacks (l q.0) q.2 in record { row = r.row; wants = behind_all (all_sound typed rules known sound xs q.0 q.1) r.wants; unknown = r.unknown })
  ]
