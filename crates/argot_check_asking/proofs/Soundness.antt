-- What a rule says from what is typed, the rules say.
use Rattle.std.proofs.Common.{◌≡◌, Bool, List, [], ◌∷◌, Option, Some, None, refl, sym, subst}
use Rattle.argot_check_asking.specs.Rules.{Rule, Silent, Say, Ask, AskBoth, AskMaybe, AskAll, bind, maybe_known, all_known, told, Says, says, Typed, Comes, by_saying, by_one, by_both, by_none, by_some, by_all, AllTyped, none, more}
use Rattle.argot_check_asking.proofs.Steps.{some_is, parts}

module _ {R F : Type 0} (typed : F → Bool) (rules : R → Rule R F) (known : R → Option F) (sound : (n : R) (f : F) → known n ≡ Some f → Typed typed rules n f) where
  pub all_sound : (xs : List R) (fs : List F) → all_known known xs ≡ Some fs → AllTyped typed rules xs fs
  all_sound [] fs h = rw (← some_is h) none
  all_sound (x ∷ xs) fs h =
      let p = parts (known x) (λ f. bind (all_known known xs) (λ gs. Some (f ∷ gs))) fs h in
      let q = parts (all_known known xs) (λ gs. Some (p.0 ∷ gs)) fs p.2 in
      rw (← some_is q.2) (more (sound x p.0 p.1) (all_sound xs q.0 q.1))

  pub comes : (r : Rule R F) (g : F) → told known r ≡ Some g → Comes typed rules r g
  comes Silent g h = cc
  comes (Say f) g h = let P : F → Type 0 = λ x. Comes typed rules (Say f) x in subst P (some_is h) by_saying
  comes (Ask x k) g h =
      let p = parts (known x) (λ f. told known (k f)) g h in
      by_one (sound x p.0 p.1) (comes (k p.0) g p.2)
  comes (AskBoth x y k) g h =
      let p = parts (known x) (λ f. bind (known y) (λ i. told known (k f i))) g h in
      let q = parts (known y) (λ i. told known (k p.0 i)) g p.2 in
      by_both (sound x p.0 p.1) (sound y q.0 q.1) (comes (k p.0 q.0) g q.2)
  comes (AskMaybe None k) g h = by_none (comes (k None) g h)
  comes (AskMaybe (Some x) k) g h =
      let p = parts (maybe_known known (Some x)) (λ a. told known (k a)) g h in
      let q = parts (known x) (λ f. Some (Some f)) p.0 p.1 in
      let P : Option F → Type 0 = λ a. told known (k a) ≡ Some g in
      by_some (sound x q.0 q.1) (comes (k (Some q.0)) g (subst P (some_is (sym q.2)) p.2))
  comes (AskAll xs k) g h =
      let p = parts (all_known known xs) (λ fs. told known (k fs)) g h in
      by_all (all_sound xs p.0 p.1) (comes (k p.0) g p.2)

  pub says_told : (n : R) (g : F) → told known (rules n) ≡ Some g → Says typed rules n g
  says_told n g h = says refl (comes (rules n) g h)
