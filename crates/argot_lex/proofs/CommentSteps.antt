-- A general comment, one character after another.
use Rattle.std.proofs.Common.{◌≡◌, ℕ, zero, suc, ◌+◌, ◌<◌, ◌≤◌, List, [], ◌∷◌, length, drop, Bool, true, false, Option, Some, None, refl, sym, ap, ◌∙◌, subst, arith, drop-drop}
use Rattle.std.specs.Prelude.{◌==◌, ◌||◌, IfSome}
use Rattle.std.proofs.lemmas.Bool.{cond_both, false≢true}
use Rattle.argot_lex.specs.Characters.{char_at}
use Rattle.argot_lex.specs.Comments.{closes, but_zero, some_char_at, general_from}
use Rattle.argot_lex.proofs.Chars.{char_within}

but_zero_some : (o : Option (ℕ × ℕ)) (r : ℕ × ℕ) → but_zero o ≡ Some r → (o ≡ Some r) × ((r.0 == 0) ≡ false)
but_zero_some None r = λ e. absurd (cc)
but_zero_some (Some s) r =
    cond_both (s.0 == 0) None (Some s) (λ o. o ≡ Some r → (Some s ≡ Some r) × ((r.0 == 0) ≡ false))
    (λ _ e. absurd (cc))
    (λ other e. let same : s ≡ r = cc in (e, subst (λ (x : ℕ × ℕ). (x.0 == 0) ≡ false) same other))

pub some_char_is : (bs : List ℕ) (c n : ℕ) → some_char_at bs ≡ Some (c, n) → (char_at bs ≡ Some (c, n)) × ((c == 0) ≡ false)
some_char_is bs c n e = but_zero_some (char_at bs) (c, n) e

pub some_char_bounds : (bs : List ℕ) (o : Option (ℕ × ℕ)) → o ≡ some_char_at bs → IfSome o (λ r. (0 < r.1) × (r.1 ≤ length bs))
some_char_bounds bs None e = tt
some_char_bounds bs (Some r) e = char_within bs r.0 r.1 (but_zero_some (char_at bs) r (sym e)).0

general_skip : (k : ℕ) (star breaks : Bool) (at : ℕ) (bs : List ℕ) → k ≤ length bs → general_from k star breaks at bs ≡ general_from 0 star breaks (at + k) (drop k bs)
general_skip zero star breaks at bs h = ap (λ n. general_from 0 star breaks n bs) (omega arith)
general_skip (suc k) star breaks at [] h = absurd (omega arith)
general_skip (suc k) star breaks at (b ∷ bs) h =
    general_skip k star breaks (at + 1) bs (omega arith) ∙ ap (λ n. general_from 0 star breaks n (drop k bs)) (omega arith)

-- over one character
pub general_step : (star breaks : Bool) (at : ℕ) (bs : List ℕ) (c n : ℕ) → closes star bs ≡ false → some_char_at bs ≡ Some (c, n) → general_from 0 star breaks at bs ≡ general_from 0 (c == 42) (breaks || (c == 10)) (at + n) (drop n bs)
general_step star breaks at [] c n open_ e = let w = char_within [] c n (some_char_is [] c n e).0 in absurd (omega (arith, w.0, w.1))
general_step star breaks at (b ∷ bs) c zero open_ e = let w = char_within (b ∷ bs) c 0 (some_char_is (b ∷ bs) c 0 e).0 in absurd (omega (arith, w.0))
general_step star breaks at (b ∷ bs) c (suc n) open_ e =
    let w = char_within (b ∷ bs) c (suc n) (some_char_is (b ∷ bs) c (suc n) e).0 in
    rw (open_, e) (general_skip n (c == 42) (breaks || (c == 10)) (at + 1) bs (omega (arith, w.1)) ∙ ap (λ m. general_from 0 (c == 42) (breaks || (c == 10)) m (drop n bs)) (omega arith))

-- where no character stands, or the end
pub general_none : (star breaks : Bool) (at : ℕ) (bs : List ℕ) → closes star bs ≡ false → some_char_at bs ≡ None → general_from 0 star breaks at bs ≡ None
general_none star breaks at [] open_ e = refl
general_none star breaks at (b ∷ bs) open_ e = rw (open_, e) refl

pub general_end : (star breaks : Bool) (at : ℕ) (bs : List ℕ) → closes star bs ≡ true → general_from 0 star breaks at bs ≡ Some (breaks, at + 1)
general_end star breaks at [] shut = absurd (false≢true shut)
general_end star breaks at (b ∷ bs) shut = rw shut refl

-- the same of what stands behind an offset
pub general_step_at : (star breaks : Bool) (bytes r : List ℕ) (at c n : ℕ) → r ≡ drop at bytes → closes star r ≡ false → some_char_at r ≡ Some (c, n) → general_from 0 star breaks at (drop at bytes) ≡ general_from 0 (c == 42) (breaks || (c == 10)) (at + n) (drop (at + n) bytes)
general_step_at star breaks bytes r at c n is open_ e =
    general_step star breaks at (drop at bytes) c n (subst (λ l. closes star l ≡ false) is open_) (subst (λ l. some_char_at l ≡ Some (c, n)) is e)
    ∙ ap (general_from 0 (c == 42) (breaks || (c == 10)) (at + n)) (drop-drop n at bytes)
