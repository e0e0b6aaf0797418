-- Packages made one after the other.
use Rattle.std.proofs.Common.{◌≡◌, ℕ, inl, inr, List, [], ◌∷◌, ◌++◌, length, Some, sym, ap, ◌∙◌, subst}
use Rattle.std.specs.Prelude.{slice_get, Result, Ok, Err, IfOk}
use Rattle.argot_typed.specs.declared.program.Package.{Package}
use Rattle.argot_names_rules.specs.Files.{SourceFiles}
use Rattle.argot_names_imports.proofs.Lists.{get_either}
use Rattle.argot_names_packages.specs.Made.{IsMade, AreMadeUpTo}

some_is : {A : Type 0} (x y : A) → Some x ≡ Some y → x ≡ y
some_is x y e = cc

module _ (h : SourceFiles) (firsts : List ℕ) (lists : List (List ℕ)) where
  pub made_none : (packages : List Package) → packages ≡ [] → AreMadeUpTo h firsts lists packages
  made_none packages e = record { each = λ k first is at there. absurd (none k is (subst (λ ps. slice_get ps k ≡ Some is) e there)) }
    where
      none : (k : ℕ) (is : Package) → slice_get [] k ≡ Some is → ⊥
      none k is e = cc

  pub made_more : (packages new : List Package) (k first : ℕ) (is : Package) → AreMadeUpTo h firsts lists packages → length packages ≡ k → slice_get firsts k ≡ Some first → IsMade h lists first is → new ≡ packages ++ is ∷ [] → AreMadeUpTo h firsts lists new
  made_more packages new k first is made long at here e =
      record {
        each = λ j other p there has. elim (get_either packages is j p (subst (λ ps. slice_get ps j ≡ Some p) e has)) [
          | inl old ↦ made.each j other p there old
          | inr last ↦
              let same : first ≡ other = some_is first other (sym at ∙ ap (slice_get firsts) (sym long ∙ sym last.0) ∙ there) in
              subst (λ q. IsMade h lists other q) (sym last.1) (subst (λ f. IsMade h lists f is) same here)
        ];
      }

-- two facts of one answer
pub ok_both : {A E : Type 0} (r : Result A E) (P Q R : A → Type 0) → ((x : A) → P x → Q x → R x) → IfOk r P → IfOk r Q → IfOk r R
ok_both (Ok x) P Q R f p q = f x p q
ok_both (Err e) P Q R f p q = tt
