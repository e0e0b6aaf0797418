-- The order of spots: by file, by offset, and then by number.
use Rattle.std.proofs.Common.{◌≡◌, ℕ, ◌<◌, ◌⊎◌, inl, inr, refl, arith}
use Rattle.std.specs.Ordering.{nat_cmp, ordering_then}
use Rattle.std.specs.declared.cmp.Ordering.{Ordering}
use Rattle.std.specs.declared.cmp.Ordering.TheVariants.{Less, Equal, Greater}
use Rattle.std.proofs.lemmas.Bool.Decides.{nat_tests}
use Rattle.argot_names_subset_file.specs.declared.spots.Spot.{Spot}
use Rattle.argot_names_subset_file.specs.Spots.{IsSpotBefore, by_file, by_offset, by_rank}
use Rattle.argot_names_subset_file.specs.contracts.spots.SpotOrd.TheImpl.{cmp-value}

abbrev pub compare : Spot → Spot → Ordering
compare = cmp-value.it

less_is : (x y : ℕ) → nat_cmp x y ≡ Less → x < y
less_is x y e = grind (arith, nat_tests)

equal_is : (x y : ℕ) → nat_cmp x y ≡ Equal → x ≡ y
equal_is x y e = grind (arith, nat_tests)

then_equal : (o p : Ordering) → ordering_then o p ≡ Equal → (o ≡ Equal) × (p ≡ Equal)
then_equal Less p e = absurd (cc)
then_equal Equal p e = (refl, e)
then_equal Greater p e = absurd (cc)

then_less : (o p : Ordering) → ordering_then o p ≡ Less → (o ≡ Less) ⊎ ((o ≡ Equal) × (p ≡ Less))
then_less Less p e = inl refl
then_less Equal p e = inr (refl, e)
then_less Greater p e = absurd (cc)

-- spots that compare as equal are one
pub exact : (a b : Spot) → compare a b ≡ Equal → a ≡ b
exact a b e =
    let first = then_equal (nat_cmp a.file b.file) (ordering_then (nat_cmp a.offset b.offset) (nat_cmp a.rank b.rank)) e in
    let second = then_equal (nat_cmp a.offset b.offset) (nat_cmp a.rank b.rank) first.1 in
    same a.file b.file a.offset b.offset a.rank b.rank (equal_is a.file b.file first.0) (equal_is a.offset b.offset second.0) (equal_is a.rank b.rank second.1)
  where
    same : (a b c d e f : ℕ) → a ≡ b → c ≡ d → e ≡ f → ◌≡◌ {A = Spot} (record { file = a; offset = c; rank = e }) (record { file = b; offset = d; rank = f })
    same a b c d e f p q r = λ i. record { file = p i; offset = q i; rank = r i }

pub ascends : (a b : Spot) → compare a b ≡ Less → IsSpotBefore a b
ascends a b e =
    elim (then_less (nat_cmp a.file b.file) (ordering_then (nat_cmp a.offset b.offset) (nat_cmp a.rank b.rank)) e) [
      | inl l ↦ by_file (less_is a.file b.file l)
      | inr r ↦ elim (then_less (nat_cmp a.offset b.offset) (nat_cmp a.rank b.rank) r.1) [
        | inl l ↦ by_offset (equal_is a.file b.file r.0) (less_is a.offset b.offset l)
        | inr s ↦ by_rank (equal_is a.file b.file r.0) (equal_is a.offset b.offset s.0) (less_is a.rank b.rank s.1)
      ]
    ]
