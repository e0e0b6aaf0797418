-- Bytes that fit their paths, one more at a time.
use Rattle.std.proofs.Common.{◌≡◌, ℕ, ◌+◌, ◌<◌, ◌≤◌, inl, inr, List, length, Some, sym, ap, ◌∙◌, subst, arith}
use Rattle.std.specs.Prelude.{slice_get}
use Rattle.std.proofs.lemmas.Bool.{cases_order}
use Rattle.argot_names_imports.proofs.Lists.{get_below}
use Rattle.argot_names_files.specs.Files.{Fits, AreFitting}

some_is : {A : Type 0} (x y : A) → Some x ≡ Some y → x ≡ y
some_is x y e = cc

-- the files before this number fit
abbrev pub FitBelow : List (List ℕ) → List (List ℕ) → ℕ → Type 0
FitBelow paths contents k = (file : ℕ) (path bytes : List ℕ) → slice_get paths file ≡ Some path → slice_get contents file ≡ Some bytes → file < k → Fits path bytes

pub fit_more : (paths contents : List (List ℕ)) (k : ℕ) (p b : List ℕ) → FitBelow paths contents k → slice_get paths k ≡ Some p → slice_get contents k ≡ Some b → Fits p b → FitBelow paths contents (k + 1)
fit_more paths contents k p b so_far p_is b_is fits file path bytes there has below =
    elim (cases_order file k) [
      | inl same ↦
          let at = subst (λ j. slice_get paths j ≡ Some path) same there in
          let of = subst (λ j. slice_get contents j ≡ Some bytes) same has in
          subst (λ x. Fits x bytes) (some_is p path (sym p_is ∙ at)) (subst (Fits p) (some_is b bytes (sym b_is ∙ of)) fits)
      | inr other ↦
          elim other [
            | inl before ↦ so_far file path bytes there has before
            | inr behind ↦ absurd (omega (arith, below, behind))
          ]
    ]

pub fit_all : (paths contents : List (List ℕ)) (k : ℕ) → length paths ≤ k → FitBelow paths contents k → AreFitting paths contents
fit_all paths contents k all so_far file path bytes there has = so_far file path bytes there has (omega (arith, all, get_below paths file path there))
