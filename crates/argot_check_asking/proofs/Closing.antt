-- A table to which no rule adds has all that the rules say.
use Rattle.std.proofs.Common.{◌≡◌, Bool, List, ◌∷◌, Option, Some, None, refl, ap, ◌∙◌, sym, if◌then◌else◌}
use Rattle.argot_check_asking.specs.Rules.{Rule, bind, maybe_known, all_known, told, only, Says, says, Typed, is_typed, Comes, by_saying, by_one, by_both, by_none, by_some, by_all, AllTyped, none, more}
use Rattle.argot_check_asking.specs.Tables.{IsExact, IsReady, IsClosed}
use Rattle.argot_check_asking.proofs.Steps.{step}

module _ {R F : Type 0} (typed : F → Bool) (rules : R → Rule R F) (fact : R → Option F) (full : (n : R) (g : F) → told (λ m. only typed (fact m)) (rules n) ≡ Some g → fact n ≡ Some g) where
  abbrev seen : R → Option F
  seen m = only typed (fact m)

  mutual
    pub has_all : {n : R} {f : F} → Says typed rules n f → fact n ≡ Some f
    has_all {n = n} {f = f} (says e s) = full n f (ap (told seen) e ∙ end_told s)

    pub is_seen : {n : R} {f : F} → Typed typed rules n f → seen n ≡ Some f
    is_seen (is_typed {f = f} s e) = ap (only typed) (has_all s) ∙ ap (λ b. if b then Some f else None) e

    end_told : {r : Rule R F} {g : F} → Comes typed rules r g → told seen r ≡ Some g
    end_told by_saying = refl
    end_told (by_one {x = x} {k = k} {f = f} t s) = step (seen x) (λ f. told seen (k f)) f (is_seen t) ∙ end_told s
    end_told (by_both {x = x} {y = y} {k = k} {f = f} {g = g} t u s) = step (seen x) (λ f. bind (seen y) (λ g. told seen (k f g))) f (is_seen t) ∙ (step (seen y) (λ g. told seen (k f g)) g (is_seen u) ∙ end_told s)
    end_told (by_none s) = end_told s
    end_told (by_some {x = x} {k = k} {f = f} t s) = step (maybe_known seen (Some x)) (λ a. told seen (k a)) (Some f) (step (seen x) (λ f. Some (Some f)) f (is_seen t)) ∙ end_told s
    end_told (by_all {xs = xs} {k = k} {fs = fs} t s) = step (all_known seen xs) (λ fs. told seen (k fs)) fs (all_seen t) ∙ end_told s

    all_seen : {xs : List R} {fs : List F} → AllTyped typed rules xs fs → all_known seen xs ≡ Some fs
    all_seen none = refl
    all_seen (more {x = x} {xs = xs} {f = f} {fs = fs} t ts) = step (seen x) (λ g. bind (all_known seen xs) (λ gs. Some (g ∷ gs))) f (is_seen t) ∙ step (all_known seen xs) (λ gs. Some (f ∷ gs)) fs (all_seen ts)

module _ {R F : Type 0} (typed : F → Bool) (rules : R → Rule R F) (fact : R → Option F) (ready : IsReady typed rules fact) (done : IsClosed typed rules fact) where
  full_by : (n : R) (g : F) (o : Option F) → fact n ≡ o → told (λ m. only typed (fact m)) (rules n) ≡ Some g → fact n ≡ Some g
  full_by n g None e h = let s = done.closed n e in cc
  full_by n g (Some f) e h = e ∙ (sym (ready.kept n f e) ∙ h)

  pub exact : IsExact typed rules fact
  exact n f = (ready.said n f, λ s. has_all typed rules fact (λ m g h. full_by m g (fact m) refl h) s)
