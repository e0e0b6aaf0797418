-- The list of the places where an instruction goes on has exactly its successors.
use Rattle.std.proofs.Common.{◌≡◌, ℕ, zero, suc, ◌+◌, ◌==◌, Bool, true, false, cond, List, [], ◌∷◌, Some, slice_get, refl, sym, ap, subst, inl, inr}
use Rattle.std.proofs.lemmas.Bool.{or_right, both_ways}
use Rattle.argot_links.specs.Members.{has}
use Rattle.argot_links.proofs.Having.{has_first, has_cases}
use Rattle.argot_plain.specs.Code.{Next}
use Rattle.argot_plain.specs.Lists.{In}
use Rattle.argot_plain.specs.Lists.In.{here, there}
use Rattle.argot_plain.specs.declared.instructions.Kind.{Kind}
use Rattle.argot_plain.specs.declared.instructions.Kind.TheVariants.{Leave, Goto, Branch, Panic}
use Rattle.argot_ssa.specs.Places.{next_places, falls_through}

pub has_one : (x y : ℕ) → has (x ∷ []) y ≡ true → y ≡ x
has_one x y h = elim (has_cases x [] y h) [ inl e ↦ e | inr n ↦ absurd (both_ways false refl n) ]

pub one_has : (x y : ℕ) → y ≡ x → has (x ∷ []) y ≡ true
one_has x y e = subst (λ z. has (x ∷ []) z ≡ true) (sym e) (has_first x [])

pub get_has : (xs : List ℕ) (k x : ℕ) → slice_get xs k ≡ Some x → has xs x ≡ true
get_has [] k x h = absurd (cc)
get_has (y ∷ ys) zero x h = subst (λ z. has (y ∷ ys) z ≡ true) (let e : y ≡ x = cc in e) (has_first y ys)
get_has (y ∷ ys) (suc k) x h = or_right _ _ (get_has ys k x h)

pub has_get : (xs : List ℕ) (x : ℕ) → has xs x ≡ true → (k : ℕ) × (slice_get xs k ≡ Some x)
has_get [] x h = absurd (both_ways false refl h)
has_get (y ∷ ys) x h = elim (has_cases y ys x h) [
  | inl e ↦ (0, ap Some (sym e))
  | inr r ↦ let found = has_get ys x r in (suc found.0, found.1)
]

pub in_has : (x : ℕ) {xs : List ℕ} → In x xs → has xs x ≡ true
in_has x (here {y = y} {ys = ys} e) = subst (λ z. has (y ∷ ys) z ≡ true) (sym e) (has_first y ys)
in_has x (there {y = y} {ys = ys} r) = or_right _ _ (in_has x r)

pub has_in : (xs : List ℕ) (x : ℕ) → has xs x ≡ true → In x xs
has_in [] x h = absurd (both_ways false refl h)
has_in (y ∷ ys) x h = elim (has_cases y ys x h) [ inl e ↦ here e | inr r ↦ there (has_in ys x r) ]

pub next_has : (kind : Kind) (i t : ℕ) → Next kind i t → has (next_places kind i) t ≡ true
next_has (Leave from) i t n = absurd n
next_has (Panic from) i t n = absurd n
next_has (Goto target) i t n = rw n.1 (one_has target t n.0)
next_has (Branch targets) i t n = get_has targets n.0 t n.1
next_has _ i t n = one_has (i + 1) t n

goto_next : (target i t : ℕ) (b : Bool) → (target == i) ≡ b → has (cond b [] (target ∷ [])) t ≡ true → (t ≡ target) × ((target == i) ≡ false)
goto_next target i t true e h = absurd (both_ways false refl h)
goto_next target i t false e h = (has_one target t h, e)

pub has_next : (kind : Kind) (i t : ℕ) → has (next_places kind i) t ≡ true → Next kind i t
has_next (Leave from) i t h = absurd (both_ways false refl h)
has_next (Panic from) i t h = absurd (both_ways false refl h)
has_next (Goto target) i t h = goto_next target i t (target == i) refl h
has_next (Branch targets) i t h = has_get targets t h
has_next _ i t h = has_one (i + 1) t h

-- an instruction that falls through goes on at the next place
pub falls_next : (kind : Kind) (i t : ℕ) → falls_through kind ≡ true → Next kind i t → t ≡ i + 1
falls_next (Leave from) i t f n = absurd n
falls_next (Panic from) i t f n = absurd n
falls_next (Goto target) i t f n = absurd (both_ways false refl f)
falls_next (Branch targets) i t f n = absurd (both_ways false refl f)
falls_next _ i t f n = n

pub next_falls : (kind : Kind) (i : ℕ) → falls_through kind ≡ true → Next kind i (i + 1)
next_falls (Leave from) i f = absurd (both_ways false refl f)
next_falls (Panic from) i f = absurd (both_ways false refl f)
next_falls (Goto target) i f = absurd (both_ways false refl f)
next_falls (Branch targets) i f = absurd (both_ways false refl f)
next_falls _ i f = refl
