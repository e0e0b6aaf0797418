-- The least of places, one candidate after the other.
use Rattle.std.proofs.Common.{◌≡◌, ℕ, ◌+◌, ◌<◌, ◌⊎◌, inl, inr, Bool, true, false, Option, Some, None, nat_eq, nat_lt, refl, sym, ap, ◌∙◌, subst, arith}
use Rattle.std.specs.Prelude.{◌||◌, ◌&&◌, ◌↔◌, if◌then◌else◌}
use Rattle.std.proofs.lemmas.Bool.{cases_eq, eqb-true, eq-eqb, ltb-true, lt-ltb}
use Rattle.argot_names_rules.specs.Files.{Place, IsBefore, by_file, by_offset}
use Rattle.argot_files.specs.declared.place.Place.{Place as Spot}
use Rattle.argot_files.specs.Places.{place_of}
use Rattle.argot_files.specs.Places.{before}
use Rattle.argot_names_packages.specs.Spots.{comes_first, sooner_of, IsAt, IsLeast, found, none, IsBelow}

some_is : {A : Type 0} (x y : A) → Some x ≡ Some y → x ≡ y
some_is x y e = cc

-- the order of places
pub before_later : (a b c : Place) → IsBefore a b → IsBefore b c → IsBefore a c
before_later a b c (by_file p) (by_file q) = by_file (omega (arith, p, q))
before_later a b c (by_file p) (by_offset q r) = by_file (omega (arith, p, q))
before_later a b c (by_offset p q) (by_file r) = by_file (omega (arith, p, r))
before_later a b c (by_offset p q) (by_offset r s) = by_offset (p ∙ r) (omega (arith, q, s))

pub before_itself : (a : Place) → IsBefore a a → ⊥
before_itself a (by_file p) = absurd (omega (arith, p))
before_itself a (by_offset p q) = absurd (omega (arith, q))

and_both : (b c : Bool) → (b && c) ≡ true → (b ≡ true) × (c ≡ true)
and_both true c e = (refl, e)
and_both false c e = absurd (cc)

or_true : (b : Bool) → (b || true) ≡ true
or_true true = refl
or_true false = refl

false_true : false ≡ true → ⊥
false_true e = cc

-- the test of the order
pub before_is : (a b : Spot) → before a b ≡ true → IsBefore (place_of a) (place_of b)
before_is a b e = by (nat_lt a.file b.file) refl
  where
    by : (l : Bool) → nat_lt a.file b.file ≡ l → IsBefore (place_of a) (place_of b)
    by true l = by_file (ltb-true a.file b.file l)
    by false l =
        let both : (nat_eq a.file b.file && nat_lt a.offset b.offset) ≡ true = ap (λ c. c || (nat_eq a.file b.file && nat_lt a.offset b.offset)) (sym l) ∙ e in
        let parts = and_both (nat_eq a.file b.file) (nat_lt a.offset b.offset) both in
        by_offset (eqb-true a.file b.file parts.0) (ltb-true a.offset b.offset parts.1)

pub not_before : (a b : Spot) → before a b ≡ false → IsBefore (place_of a) (place_of b) → ⊥
not_before a b e (by_file l) = false_true (sym e ∙ ap (λ c. c || (nat_eq a.file b.file && nat_lt a.offset b.offset)) (lt-ltb a.file b.file l))
not_before a b e (by_offset same l) =
    false_true
    (sym e ∙ ap (λ c. nat_lt a.file b.file || (c && nat_lt a.offset b.offset)) (eq-eqb a.file b.file same) ∙ ap (λ c. nat_lt a.file b.file || c) (lt-ltb a.offset b.offset l) ∙ or_true (nat_lt a.file b.file))

-- the byte comes first
pub first_before : (s : Spot) (o : Option Spot) (b : Spot) → comes_first s o ≡ true → o ≡ Some b → IsBefore (place_of s) (place_of b)
first_before s None b e same = absurd (cc)
first_before s (Some c) b e same = subst (λ d. IsBefore (place_of s) (place_of d)) (some_is c b same) (before_is s c e)

-- or it doesn't, and another one is there
pub not_first : (s : Spot) (o : Option Spot) → comes_first s o ≡ false → (b : Spot) × (o ≡ Some b) × (IsBefore (place_of s) (place_of b) → ⊥)
not_first s None e = absurd (cc)
not_first s (Some c) e = (c, refl, not_before s c e)

module _ (At : ℕ → Place → Type 0) where
  pub least_start : IsLeast (IsBelow At 0) None
  least_start = none (λ place h. absurd (omega (arith, h.below)))

  -- a place of one more candidate
  one_more : (k : ℕ) (place : Place) → IsBelow At (k + 1) place → IsBelow At k place ⊎ At k place
  one_more k place h =
      elim (cases_eq h.number k) [
        | inl same ↦ inr (subst (λ j. At j place) same h.at)
        | inr other ↦ inl (record { number = h.number; below = omega (arith, h.below, other); at = h.at })
      ]

  still : (k : ℕ) (place : Place) → IsBelow At k place → IsBelow At (k + 1) place
  still k place h = record { number = h.number; below = omega (arith, h.below); at = h.at }

  -- none of a candidate's places stands before the least one
  pub least_kept : (k : ℕ) (o : Option Spot) → IsLeast (IsBelow At k) o → ((place : Place) → At k place → (b : Spot) × (o ≡ Some b) × (IsBefore place (place_of b) → ⊥)) → IsLeast (IsBelow At (k + 1)) o
  least_kept k _ (none nothing) later =
      none (λ place h. elim (one_more k place h) [ inl old ↦ nothing place old | inr new ↦ no_spot (later place new).0 (later place new).1 ])
    where
      no_spot : (b : Spot) → None ≡ Some b → ⊥
      no_spot b e = cc
  least_kept k _ (found {spot = s} first) later =
      found (record {
        holds = still k (place_of s) first.holds;
        first = λ other h before. elim (one_more k other h) [
          | inl old ↦ first.first other old before
          | inr new ↦ let l = later other new in l.2 (subst (λ b. IsBefore other (place_of b)) (some_is s l.0 l.1) before)
        ];
      })

  -- a candidate's only place stands before the least one
  pub least_new : (k : ℕ) (o : Option Spot) (s : Spot) → IsLeast (IsBelow At k) o → At k (place_of s) → ((place : Place) → At k place → place_of s ≡ place) → ((b : Spot) → o ≡ Some b → IsBefore (place_of s) (place_of b)) → IsLeast (IsBelow At (k + 1)) (Some s)
  least_new k _ s (none nothing) here only first =
      found (record {
        holds = record { number = k; below = omega arith; at = here };
        first = λ other h before. elim (one_more k other h) [
          | inl old ↦ nothing other old
          | inr new ↦ before_itself (place_of s) (subst (λ p. IsBefore p (place_of s)) (sym (only other new)) before)
        ];
      })
  least_new k _ s (found {spot = b} least) here only first =
      found (record {
        holds = record { number = k; below = omega arith; at = here };
        first = λ other h before. elim (one_more k other h) [
          | inl old ↦ least.first other old (before_later other (place_of s) (place_of b) before (first b refl))
          | inr new ↦ before_itself (place_of s) (subst (λ p. IsBefore p (place_of s)) (sym (only other new)) before)
        ];
      })

  -- all candidates
  pub least_all : (Holds : Place → Type 0) (count : ℕ) (o : Option Spot) → ((k : ℕ) (place : Place) → At k place → (k < count) × Holds place) → ((place : Place) → Holds place → (k : ℕ) × At k place) → IsLeast (IsBelow At count) o → IsLeast Holds o
  least_all Holds count _ to from (none nothing) =
      none (λ place h. let k = from place h in nothing place (record { number = k.0; below = (to k.0 place k.1).0; at = k.1 }))
  least_all Holds count _ to from (found {spot = s} first) =
      found (record {
        holds = (to first.holds.number (place_of s) first.holds.at).1;
        first = λ other h. let k = from other h in first.first other (record { number = k.0; below = (to k.0 other k.1).0; at = k.1 });
      })

  -- the next candidate by its place
  pub least_step : (k : ℕ) (o new : Option Spot) → IsLeast (IsBelow At k) o → ((place : Place) → At k place ↔ IsAt new place) → IsLeast (IsBelow At (k + 1)) (sooner_of o new)
  least_step k o None is at = least_kept k o is (λ place h. absurd (no_spot ((at place).0 h)))
    where
      none_some : (b : Spot) → None ≡ Some b → ⊥
      none_some b e = cc

      no_spot : {place : Place} → IsAt None place → ⊥
      no_spot p = absurd (none_some p.spot p.is)
  least_step k o (Some s) is at = go (comes_first s o) refl
    where
      only : (place : Place) → At k place → place_of s ≡ place
      only place h = let p = (at place).0 h in ap place_of (some_is s p.spot p.is) ∙ p.place_is

      go : (b : Bool) → comes_first s o ≡ b → IsLeast (IsBelow At (k + 1)) (if b then Some s else o)
      go true e = least_new k o s is ((at (place_of s)).1 (record { spot = s; is = refl; place_is = refl })) only (λ b same. first_before s o b e same)
      go false e = least_kept k o is (λ place h. let b = not_first s o e in (b.0, b.1, λ l. b.2 (subst (λ p. IsBefore p (place_of b.0)) (sym (only place h)) l)))
