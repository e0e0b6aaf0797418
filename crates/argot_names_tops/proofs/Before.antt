-- Which of two places comes first.
use Rattle.std.proofs.Common.{◌≡◌, true, false, inl, inr, arith, ◌∙◌}
use Rattle.std.specs.Prelude.{nat_eq, nat_lt, ◌&&◌}
use Rattle.std.proofs.lemmas.Bool.{or_cases, and_parts, ltb-true, eqb-true, lt-ltb, eq-eqb, or_left, or_right, and_from, both_ways}
use Rattle.argot_names_rules.specs.Files.{Place as Byte, IsBefore, by_file, by_offset}
use Rattle.argot_files.specs.declared.place.Place.{Place}
use Rattle.argot_files.specs.Places.{place_of}
use Rattle.argot_names_tops.specs.Entries.{is_before}

pub before_by : (a b : Place) → is_before a b ≡ true → IsBefore (place_of a) (place_of b)
before_by a b e =
    elim (or_cases (nat_lt a.file b.file) (nat_eq a.file b.file && nat_lt a.offset b.offset) e) [
      | inl l ↦ by_file (ltb-true a.file b.file l)
      | inr r ↦
          let parts = and_parts (nat_eq a.file b.file) (nat_lt a.offset b.offset) r in
          by_offset (eqb-true a.file b.file parts.0) (ltb-true a.offset b.offset parts.1)
    ]

pub by_before : (a b : Place) → IsBefore (place_of a) (place_of b) → is_before a b ≡ true
by_before a b (by_file l) = or_left (nat_lt a.file b.file) (nat_eq a.file b.file && nat_lt a.offset b.offset) (lt-ltb a.file b.file l)
by_before a b (by_offset e l) =
    or_right (nat_lt a.file b.file) (nat_eq a.file b.file && nat_lt a.offset b.offset)
    (and_from (nat_eq a.file b.file) (nat_lt a.offset b.offset) (eq-eqb a.file b.file e) (lt-ltb a.offset b.offset l))

pub not_before : (a b : Place) → is_before a b ≡ false → IsBefore (place_of a) (place_of b) → ⊥
not_before a b e h = both_ways (is_before a b) e (by_before a b h)

pub never_before : (a : Byte) → IsBefore a a → ⊥
never_before a (by_file l) = omega (arith, l)
never_before a (by_offset e l) = omega (arith, l)

pub before_through : (a b c : Byte) → IsBefore a b → IsBefore b c → IsBefore a c
before_through a b c (by_file p) (by_file q) = by_file (omega (arith, p, q))
before_through a b c (by_file p) (by_offset e q) = by_file (omega (arith, p, e))
before_through a b c (by_offset e p) (by_file q) = by_file (omega (arith, e, q))
before_through a b c (by_offset e p) (by_offset f q) = by_offset (e ∙ f) (omega (arith, p, q))
