-- Lists that are ordered by a number of their items.
use Rattle.std.proofs.Common.{◌≡◌, ℕ, zero, suc, ◌+◌, ◌-◌, ◌<◌, ◌≤◌, List, Some, inl, inr, sym, ap, ◌∙◌, subst, arith}
use Rattle.std.specs.Prelude.{slice_get}
use Rattle.std.proofs.lemmas.Bool.{cases_eq}
use Rattle.std.proofs.lemmas.Option.{slice_get_within}
use Rattle.argot_names_rules.specs.Lists.{IsOrdered}
use Rattle.argot_names_blocks.proofs.Finding.{get_some}
use Rattle.argot_files.proofs.Listed.{some_is}

module _ {A : Type 0} (node : A → ℕ) (xs : List A) (o : IsOrdered (λ (a b : A). node a < node b) xs) where
  by_steps : (d j : ℕ) (a b : A) → slice_get xs j ≡ Some a → slice_get xs (j + 1 + d) ≡ Some b → node a < node b
  by_steps zero j a b e f =
      let at : j + 1 + 0 ≡ j + 1 = omega arith in
      o j a b e (subst (λ k. slice_get xs k ≡ Some b) at f)
  by_steps (suc d) j a b e f =
      let m = get_some xs (j + 1 + d) (omega (arith, slice_get_within xs (j + 1 + suc d) b f)) in
      let at : j + 1 + suc d ≡ (j + 1 + d) + 1 = omega arith in
      omega (arith, by_steps d j a m.0 e m.1, o (j + 1 + d) m.0 b m.1 (subst (λ k. slice_get xs k ≡ Some b) at f))

  -- an item that doesn't stand behind another has no greater number
  pub not_behind : (j k : ℕ) (a b : A) → j ≤ k → slice_get xs j ≡ Some a → slice_get xs k ≡ Some b → node a ≤ node b
  not_behind j k a b low e f = elim (cases_eq j k) [
    | inl same ↦ omega (arith, ap node (some_is a b (sym e ∙ subst (λ x. slice_get xs x ≡ Some b) (sym same) f)))
    | inr apart ↦
        let at : k ≡ j + 1 + (k - (j + 1)) = omega (arith, low, apart) in
        let before = by_steps (k - (j + 1)) j a b e (subst (λ x. slice_get xs x ≡ Some b) at f) in
        omega (arith, before)
  ]
