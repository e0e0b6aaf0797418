-- The least place of an import on a cycle, one import after the other.
use Rattle.std.proofs.Common.{◌≡◌, ℕ, ◌+◌, List, true, false, Option, Some, None, refl, sym, ap, ◌∙◌, subst}
use Rattle.std.specs.Prelude.{slice_get}
use Rattle.argot_tree.specs.declared.lexed.Lexed.{Lexed}
use Rattle.argot_names_rules.specs.Files.{Place, IsBefore}
use Rattle.argot_names_imports.specs.declared.written.Written.{Written}
use Rattle.argot_names_imports.specs.declared.survey.Survey.{Survey}
use Rattle.argot_names_imports.specs.Graph.{target_of, Reaches}
use Rattle.argot_files.specs.declared.place.Place.{Place as Spot}
use Rattle.argot_files.specs.Places.{place_of}
use Rattle.argot_names_packages.specs.Spots.{spot_in, comes_first, IsAt, IsLeast, IsBelow}
use Rattle.argot_names_packages.specs.Cycles.{IsStepAt, IsCycleAt}
use Rattle.argot_names_packages.proofs.Least.{first_before, not_first, least_kept, least_new}

some_is : {A : Type 0} (x y : A) → Some x ≡ Some y → x ≡ y
some_is x y e = cc

none_some : {A : Type 0} (x : A) → None ≡ Some x → ⊥
none_some x e = cc

-- an import is a step between two files
pub record AreSame (a b c d : ℕ) : Type 0 where
  pub from : a ≡ b
  pub to : c ≡ d

pub one_step : (s : Survey) (k a b c d : ℕ) → IsStepAt s k a b → IsStepAt s k c d → AreSame a c b d
one_step s k a b c d x y =
    let w : x.step.import_ ≡ y.step.import_ = some_is x.step.import_ y.step.import_ (sym x.step.is_import ∙ y.step.is_import) in
    let f : x.step.found ≡ y.step.found = some_is x.step.found y.step.found (sym x.step.is_found ∙ y.step.is_found) in
    let leads : slice_get s.leaders.items y.step.import_.file ≡ Some (Some a) = subst (λ (v : Written). slice_get s.leaders.items v.file ≡ Some (Some a)) w x.step.leader in
    record {
      from = some_is a c (some_is (Some a) (Some c) (sym leads ∙ y.step.leader));
      to = some_is b d (sym x.step.target ∙ ap target_of f ∙ y.step.target);
    }

module _ (s : Survey) (lexed : List Lexed) (lists : List (List ℕ)) (k : ℕ) where
  pub no_step : ((from to : ℕ) → IsStepAt s k from to → ⊥) → (o : Option Spot) → IsLeast (IsBelow (IsCycleAt s lexed lists) k) o → IsLeast (IsBelow (IsCycleAt s lexed lists) (k + 1)) o
  no_step none o is = least_kept (IsCycleAt s lexed lists) k o is (λ place m. absurd (none m.from m.to m.step))

  pub not_back : (from to : ℕ) → IsStepAt s k from to → (Reaches lists to from → ⊥) → (o : Option Spot) → IsLeast (IsBelow (IsCycleAt s lexed lists) k) o → IsLeast (IsBelow (IsCycleAt s lexed lists) (k + 1)) o
  not_back from to st none o is =
      least_kept (IsCycleAt s lexed lists) k o is
      (λ place m.
      let same = one_step s k m.from m.to from to m.step st in
      absurd (none (subst (λ a. Reaches lists a from) same.to (subst (λ b. Reaches lists m.to b) same.from m.back))))

  module _ (w : Written) (there : slice_get s.imports.items k ≡ Some w) where
    spot_is : (place : Place) → IsCycleAt s lexed lists k place → IsAt (spot_in lexed w.file w.at) place
    spot_is place m = subst (λ (v : Written). IsAt (spot_in lexed v.file v.at) place) (some_is m.import_ w (sym m.is_import ∙ there)) m.begins

    pub no_place : spot_in lexed w.file w.at ≡ None → (o : Option Spot) → IsLeast (IsBelow (IsCycleAt s lexed lists) k) o → IsLeast (IsBelow (IsCycleAt s lexed lists) (k + 1)) o
    no_place none o is = least_kept (IsCycleAt s lexed lists) k o is (λ place m. let p = spot_is place m in absurd (none_some p.spot (sym none ∙ p.is)))

    module _ (spot : Spot) (at : spot_in lexed w.file w.at ≡ Some spot) where
      only : (place : Place) → IsCycleAt s lexed lists k place → place_of spot ≡ place
      only place m = let p = spot_is place m in ap place_of (some_is spot p.spot (sym at ∙ p.is)) ∙ p.place_is

      pub later : (o : Option Spot) → comes_first spot o ≡ false → IsLeast (IsBelow (IsCycleAt s lexed lists) k) o → IsLeast (IsBelow (IsCycleAt s lexed lists) (k + 1)) o
      later o e is =
          let b = not_first spot o e in
          least_kept (IsCycleAt s lexed lists) k o is (λ place m. (b.0, b.1, λ l. b.2 (subst (λ p. IsBefore p (place_of b.0)) (sym (only place m)) l)))

      pub on_cycle : (from to : ℕ) → IsStepAt s k from to → Reaches lists to from → (o : Option Spot) → comes_first spot o ≡ true → IsLeast (IsBelow (IsCycleAt s lexed lists) k) o → IsLeast (IsBelow (IsCycleAt s lexed lists) (k + 1)) (Some spot)
      on_cycle from to st back o e is =
          least_new (IsCycleAt s lexed lists) k o spot is
          (record { import_ = w; from = from; to = to; is_import = there; step = st; back = back; begins = record { spot = spot; is = at; place_is = refl } }) only (λ b same. first_before spot o b e same)
