-- Lists of which some have been gone through: what is known of the rest is known of the whole.
use Rattle.std.proofs.Common.{◌≡◌, ℕ, ◌+◌, ◌<◌, ◌≤◌, List, [], ◌∷◌, ◌++◌, Option, refl, drop, length, get_or, add-one, drop-cons}
use Rattle.std.specs.List.{AllZip}
use Rattle.std.proofs.lemmas.List.{drop_all}
use Rattle.argot_config_read.specs.declared.faults.ConfigFault.{ConfigFault}
use Rattle.argot_config_read.specs.declared.wanted.WantedMatcher.{WantedMatcher}
use Rattle.argot_config_read.specs.declared.wanted.WantedProblem.{WantedProblem}
use Rattle.std.specs.Prelude.{codes}
use Rattle.argot_config_read.specs.Paths.{item_path}
use Rattle.argot_config_read.specs.Patterns.{Placed, HaveReadings, IsRefusal, patterns_of_matcher, patterns_of_matchers, patterns_of_problem, patterns_of_problems}
use Rattle.argot_config_read.proofs.Refusals.{readings_both, readings_none, refusal_earlier, refusal_later}

pub record Follows (all : List Placed) (rest : List Placed) : Type 0 where
  pub readings : HaveReadings rest → HaveReadings all
  pub refusal : (before now : ℕ) (last : Option (List ℕ)) (e : ConfigFault) → IsRefusal rest before now last e → IsRefusal all before now last e

pub follows_itself : (all : List Placed) → Follows all all
follows_itself all = record { readings = λ r. r; refusal = λ before now last e h. h }

-- behind a list that has readings
pub follows_on : (all a b : List Placed) → Follows all (a ++ b) → HaveReadings a → Follows all b
follows_on all a b f r =
    record {
      readings = λ s. f.readings (readings_both a b r s);
      refusal = λ before now last e h. f.refusal before now last e (refusal_later a b before now last e r h);
    }

-- with nothing left all have readings
pub follows_out : (all rest : List Placed) → Follows all rest → rest ≡ [] → HaveReadings all
follows_out all rest f none = f.readings (rw none readings_none)

-- a refusal in the first of what is left
pub refused_here : (all a b : List Placed) (before now : ℕ) (last : Option (List ℕ)) (e : ConfigFault) → Follows all (a ++ b) → IsRefusal a before now last e → IsRefusal all before now last e
refused_here all a b before now last e f h = f.refusal before now last e (refusal_earlier a b before now last e h)

pub next_matcher : (path : List ℕ) (ws : List WantedMatcher) (i : ℕ) (w : WantedMatcher) → i < length ws → get_or ws i w ≡ w
    → patterns_of_matchers path i (drop i ws) ≡ patterns_of_matcher (item_path path i) w ++ patterns_of_matchers path (i + 1) (drop (i + 1) ws)
next_matcher path ws i w within is = let from = drop-cons ws i w within in rw (add-one, from, is) refl

pub next_problem : (ws : List WantedProblem) (i : ℕ) (w : WantedProblem) → i < length ws → get_or ws i w ≡ w
    → patterns_of_problems i (drop i ws) ≡ patterns_of_problem (item_path (codes "problems") i) w ++ patterns_of_problems (i + 1) (drop (i + 1) ws)
next_problem ws i w within is = let from = drop-cons ws i w within in rw (add-one, from, is) refl

pub no_matcher : (path : List ℕ) (ws : List WantedMatcher) (i : ℕ) → length ws ≤ i → patterns_of_matchers path i (drop i ws) ≡ []
no_matcher path ws i past = rw (drop_all i ws past) refl

pub no_problem : (ws : List WantedProblem) (i : ℕ) → length ws ≤ i → patterns_of_problems i (drop i ws) ≡ []
no_problem ws i past = rw (drop_all i ws past) refl

-- a pair more
pub all_zip_more : {A B : Type 0} (R : A → B → Type 0) (xs : List A) (ys : List B) (x : A) (y : B) → AllZip R xs ys → R x y → AllZip R (xs ++ x ∷ []) (ys ++ y ∷ [])
all_zip_more R [] [] x y h r = (r, tt)
all_zip_more R [] (b ∷ ys) x y h r = absurd h
all_zip_more R (a ∷ xs) [] x y h r = absurd h
all_zip_more R (a ∷ xs) (b ∷ ys) x y h r = (h.0, all_zip_more R xs ys x y h.1 r)
