-- What the imports find, one by one.
use Rattle.std.proofs.Common.{◌≡◌, ℕ, inl, inr, List, [], ◌∷◌, ◌++◌, length, Some, sym, ap, ◌∙◌, subst}
use Rattle.std.specs.Prelude.{slice_get}
use Rattle.argot_names_rules.specs.Files.{SourceFiles}
use Rattle.argot_names_imports.specs.declared.written.Written.{Written}
use Rattle.argot_names_imports.specs.declared.find.Found.{Found}
use Rattle.argot_names_imports.specs.Found.{IsFound}
use Rattle.argot_names_imports.specs.Founds.{FindThese}
use Rattle.argot_names_imports.proofs.Lists.{get_either}

some_is : {A : Type 0} (x y : A) → Some x ≡ Some y → x ≡ y
some_is x y e = cc

pub found_none : (h : SourceFiles) (ws : List Written) (fs : List Found) → fs ≡ [] → FindThese h ws fs
found_none h ws fs e k w f a b = absurd (none k f (subst (λ gs. slice_get gs k ≡ Some f) e b))
  where
    none : (k : ℕ) (f : Found) → slice_get [] k ≡ Some f → ⊥
    none k f e = cc

pub found_more : (h : SourceFiles) (ws : List Written) (fs new : List Found) (k : ℕ) (w : Written) (f : Found) → length fs ≡ k → slice_get ws k ≡ Some w → FindThese h ws fs → IsFound h w.path f → new ≡ fs ++ f ∷ [] → FindThese h ws new
found_more h ws fs new k w f size there each is e j v g a b =
    elim (get_either fs f j g (subst (λ gs. slice_get gs j ≡ Some g) e b)) [
      | inl old ↦ each j v g a old
      | inr last ↦
          let at : slice_get ws k ≡ Some v = ap (slice_get ws) (sym size ∙ sym last.0) ∙ a in
          let same : w ≡ v = some_is w v (sym there ∙ at) in
          subst (λ (u : Written). IsFound h u.path g) same (subst (IsFound h w.path) (sym last.1) is)
    ]
