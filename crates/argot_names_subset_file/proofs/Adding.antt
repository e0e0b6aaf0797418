-- Sets of spots that grow: one claim after the other.
use Rattle.std.proofs.Common.{◌≡◌, ℕ, ◌+◌, ◌<◌, ◌⊎◌, inl, inr, List, refl, sym, ◌∙◌, subst, arith}
use Rattle.std.proofs.lemmas.Bool.{cases_eq}
use Rattle.argot_names_rules.specs.Lists.{In}
use Rattle.argot_names_rules.specs.Files.{Place}
use Rattle.argot_names_rules.specs.declared.flag.Feature.{Feature}
use Rattle.argot_names_subset_file.specs.declared.spots.Spot.{Spot}
use Rattle.argot_names_subset_file.specs.Spots.{spot_of, IsSpotted, Adds}
use Rattle.argot_names_subset_file.proofs.Keys.{insert_kept, insert_added, insert_only}
use Rattle.argot_names_subset_file.proofs.Order.{compare, exact}
use Rattle.std.specs.BTreeSet.{insert_key}

abbrev pub Claim : Type 1
Claim = Feature → Place → Type 0

spotted_as : (P Q : Claim) → ((f : Feature) (p : Place) → P f p → Q f p) → (s : Spot) → IsSpotted P s → IsSpotted Q s
spotted_as P Q to s h = record { feature = h.feature; place = h.place; holds = to h.feature h.place h.holds; is = h.is }

pub adds_as : (P Q : Claim) (old new : List Spot) → ((f : Feature) (p : Place) → P f p → Q f p) → ((f : Feature) (p : Place) → Q f p → P f p) → Adds P old new → Adds Q old new
adds_as P Q old new to from a =
    record {
      kept = a.kept;
      added = λ f p q. a.added f p (from f p q);
      only = λ s i. elim (a.only s i) [ inl o ↦ inl o | inr h ↦ inr (spotted_as P Q to s h) ];
    }

pub adds_none : (P : Claim) (old new : List Spot) → new ≡ old → ((f : Feature) (p : Place) → P f p → ⊥) → Adds P old new
adds_none P old new e none =
    record {
      kept = λ s i. subst (In s) (sym e) i;
      added = λ f p h. absurd (none f p h);
      only = λ s i. inl (subst (In s) e i);
    }

pub adds_both : (P Q : Claim) (old mid new : List Spot) → Adds P old mid → Adds Q mid new → Adds (λ f p. P f p ⊎ Q f p) old new
adds_both P Q old mid new a b =
    record {
      kept = λ s i. b.kept s (a.kept s i);
      added = λ f p h. elim h [ inl x ↦ b.kept (spot_of f p) (a.added f p x) | inr y ↦ b.added f p y ];
      only = λ s i. elim (b.only s i) [
        | inl j ↦ elim (a.only s j) [ inl o ↦ inl o | inr h ↦ inr (spotted_as P (λ f p. P f p ⊎ Q f p) (λ f p x. inl x) s h) ]
        | inr h ↦ inr (spotted_as Q (λ f p. P f p ⊎ Q f p) (λ f p x. inr x) s h)
      ];
    }

-- one spot
pub adds_one : (feature : Feature) (place : Place) (spot : Spot) (old new : List Spot) → spot ≡ spot_of feature place → new ≡ insert_key compare old spot
    → Adds (λ f p. (f ≡ feature) × (p ≡ place)) old new
adds_one feature place spot old new s e =
    record {
      kept = λ t i. subst (In t) (sym e) (insert_kept compare exact old spot t i);
      added = λ f p h. subst (λ t. In t new) (s ∙ sym (λ i. spot_of (h.0 i) (h.1 i))) (subst (In spot) (sym e) (insert_added compare exact old spot));
      only = λ t i. elim (insert_only compare exact old spot t (subst (In t) e i)) [
        | inl o ↦ inl o
        | inr same ↦ inr (record { feature = feature; place = place; holds = (refl, refl); is = same ∙ s })
      ];
    }

-- one item after the other
abbrev pub UpTo : (ℕ → Claim) → ℕ → Claim
UpTo Item k f p = (j : ℕ) × (j < k) × Item j f p

pub adds_start : (Item : ℕ → Claim) (old new : List Spot) → new ≡ old → Adds (UpTo Item 0) old new
adds_start Item old new e = adds_none (UpTo Item 0) old new e (λ f p h. absurd (omega (arith, h.1)))

pub adds_step : (Item : ℕ → Claim) (k : ℕ) (old mid new : List Spot) → Adds (UpTo Item k) old mid → Adds (Item k) mid new → Adds (UpTo Item (k + 1)) old new
adds_step Item k old mid new a b =
    adds_as (λ f p. UpTo Item k f p ⊎ Item k f p) (UpTo Item (k + 1)) old new
    (λ f p h. elim h [ inl x ↦ (x.0, omega (arith, x.1), x.2) | inr y ↦ (k, omega arith, y) ])
    (λ f p h. elim (cases_eq h.0 k) [ inl same ↦ inr (subst (λ j. Item j f p) same h.2) | inr other ↦ inl (h.0, omega (arith, h.1, other), h.2) ])
    (adds_both (UpTo Item k) (Item k) old mid new a b)

pub adds_all : (Item : ℕ → Claim) (k : ℕ) (old new : List Spot) → ((j : ℕ) (f : Feature) (p : Place) → Item j f p → j < k) → Adds (UpTo Item k) old new → Adds (λ f p. (j : ℕ) × Item j f p) old new
adds_all Item k old new within a =
    adds_as (UpTo Item k) (λ f p. (j : ℕ) × Item j f p) old new (λ f p h. (h.0, h.2)) (λ f p h. (h.0, within h.0 f p h.1, h.1)) a
