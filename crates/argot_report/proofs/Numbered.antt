-- The problem of a number and its tables.
use Rattle.std.proofs.Common.{◌≡◌, ℕ, ◌<◌, ◌≤◌, Some, None, List, length, map, get_or, refl, sym, ap, ◌∙◌, subst}
use Rattle.std.specs.Prelude.{slice_get, option_map}
use Rattle.std.proofs.lemmas.Option.{slice_get_past, slice_get_read, slice_get-map}
use Rattle.argot_report.specs.Counted.{IsNaming, IsSubject}
use Rattle.argot_report.specs.declared.naming.Naming.{Naming}
use Rattle.argot_report.specs.declared.subject.Subject.{Subject}

module _ (s : Subject) (k : ℕ) (xs : List Naming) where
  its_place : (n : Naming) → xs ≡ s.namings.items → k < length xs → n ≡ get_or xs k n → slice_get s.namings.items k ≡ Some n
  its_place n same within is = subst (λ ys. slice_get ys k ≡ Some n) same (slice_get_read xs (length xs) k n refl within is)

  pub its_tables : (n : Naming) → IsSubject s → xs ≡ s.namings.items → k < length xs → n ≡ get_or xs k n → IsNaming s.program.now n
  its_tables n h same within is = h.namings.each k n (its_place n same within is)

  pub its_problem : (n : Naming) → IsSubject s → xs ≡ s.namings.items → k < length xs → n ≡ get_or xs k n → slice_get s.problems.now k ≡ Some n.problem.now
  its_problem n h same within is =
      subst (λ ps. slice_get ps k ≡ Some n.problem.now) h.namings.are (slice_get-map (λ (m : Naming). m.problem.now) s.namings.items k ∙ ap (option_map (λ (m : Naming). m.problem.now)) (its_place n same within is))

  pub no_problem : IsSubject s → xs ≡ s.namings.items → length xs ≤ k → slice_get s.problems.now k ≡ None
  no_problem h same past =
      subst (λ ps. slice_get ps k ≡ None) h.namings.are
      (slice_get-map (λ (m : Naming). m.problem.now) s.namings.items k ∙ ap (option_map (λ (m : Naming). m.problem.now)) (subst (λ ys. slice_get ys k ≡ None) same (slice_get_past xs k past)))
