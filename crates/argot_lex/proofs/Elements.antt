-- Characters of a literal: the one at the front is read exactly.
use Rattle.std.proofs.Common.{◌≡◌, ℕ, zero, suc, ◌+◌, ◌<◌, ◌≤◌, List, [], ◌∷◌, ◌++◌, length, drop, Bool, true, false, cond, Option, Some, None, refl, sym, ap, ◌∙◌, subst, arith, length-append, drop-drop}
use Rattle.std.specs.Prelude.{◌==◌, ◌||◌, nat_le, encode_utf8, IfSome}
use Rattle.std.specs.Char.{IsScalar, is_digit}
use Rattle.std.proofs.Math.Utf8.{scalar}
use Rattle.std.proofs.lemmas.Bool.{cond_both, and_parts, and_from, leb-true, le-leb, eqb-true}
use Rattle.std.proofs.lemmas.Bool.Decides.{nat_tests}
use Rattle.std.proofs.lemmas.Str.{length-encode, len_utf8_bounds}
use Rattle.argot_tree.specs.Forms.{has}
use Rattle.argot_tree.specs.Literals.{IsEscape, simple, octal, byte, short, long, IsElement, plain, escaped, value_of, are_digits, simple_escapes, is_plain}
use Rattle.argot_lex.specs.Characters.{char_at}
use Rattle.argot_lex.specs.Literals.{octal_of, pair_of, four_of, joined, eight_of, where_passes, octal_len, hex_len, escape_len, plain_len, element_len, goes_over, text_from}
use Rattle.argot_lex.proofs.Fronting.{Fronts}
use Rattle.argot_lex.proofs.Chars.{char_found, char_is, char_ascii}

-- what an octal digit is
octal_range : (a : ℕ) → is_digit a 8 ≡ true → (48 ≤ a) × (a ≤ 55)
octal_range a h = (grind (arith, nat_tests), grind (arith, nat_tests))

no_simple : (a q : ℕ) → 48 ≤ a → a ≤ 55 → q < 48 → (has simple_escapes a || (a == q)) ≡ false
no_simple a q low high small = grind (arith, nat_tests)

no_letter : (a : ℕ) → 48 ≤ a → a ≤ 55 → ((a == 120) ≡ false) × ((a == 117) ≡ false) × ((a == 85) ≡ false)
no_letter a low high = (grind (arith, nat_tests), grind (arith, nat_tests), grind (arith, nat_tests))

no_quote : (b q : ℕ) → 48 ≤ b → q < 48 → (b == q) ≡ false
no_quote b q high small = grind (arith, nat_tests)

digits_parts : (base : ℕ) (ds es : List ℕ) → are_digits base (ds ++ es) ≡ true → (are_digits base ds ≡ true) × (are_digits base es ≡ true)
digits_parts base [] es h = (refl, h)
digits_parts base (d ∷ ds) es h =
    let parts = and_parts (is_digit d base) (are_digits base (ds ++ es)) h in
    let rest = digits_parts base ds es parts.1 in
    (and_from (is_digit d base) (are_digits base ds) parts.0 rest.0, rest.1)

digits_from : (base : ℕ) (ds es : List ℕ) → are_digits base ds ≡ true → are_digits base es ≡ true → are_digits base (ds ++ es) ≡ true
digits_from base [] es h k = k
digits_from base (d ∷ ds) es h k =
    let parts = and_parts (is_digit d base) (are_digits base ds) h in
    and_from (is_digit d base) (are_digits base (ds ++ es)) parts.0 (digits_from base ds es parts.1 k)

-- eight digits are four and four
eight_value : (a b c d e f g h : ℕ) (bs : List ℕ) → are_digits 16 (a ∷ b ∷ c ∷ d ∷ e ∷ f ∷ g ∷ h ∷ []) ≡ true
    → eight_of (a ∷ b ∷ c ∷ d ∷ e ∷ f ∷ g ∷ h ∷ bs) ≡ Some (value_of 16 (a ∷ b ∷ c ∷ d ∷ e ∷ f ∷ g ∷ h ∷ []))
eight_value a b c d e f g h bs is =
    let parts = digits_parts 16 (a ∷ b ∷ c ∷ d ∷ []) (e ∷ f ∷ g ∷ h ∷ []) is in
    let high : four_of (a ∷ b ∷ c ∷ d ∷ e ∷ f ∷ g ∷ h ∷ bs) ≡ Some (value_of 16 (a ∷ b ∷ c ∷ d ∷ [])) = rw parts.0 refl in
    let low : four_of (e ∷ f ∷ g ∷ h ∷ bs) ≡ Some (value_of 16 (e ∷ f ∷ g ∷ h ∷ [])) = rw parts.1 refl in
    rw (high, low) (ap (λ n. Some n) (omega arith))

some_is : {A : Type 0} (x y : A) → Some x ≡ Some y → x ≡ y
some_is x y e = cc

module _ (q : ℕ) (small : q < 48) where
  -- an escape is read exactly
  escape_found : (u more : List ℕ) → IsEscape q u → element_len q (u ++ more) ≡ Some (length u)
  unfolding element_len escape_len
  escape_found u more (simple is) = rw is refl
  escape_found u more (octal {a} {b} {c} are le) =
      let parts = digits_parts 8 (a ∷ []) (b ∷ c ∷ []) are in
      let range = octal_range a (and_parts (is_digit a 8) true parts.0).0 in
      let letters = no_letter a range.0 range.1 in
      rw (no_simple a q range.0 range.1 small, letters.0, letters.1, letters.2, are, le-leb (value_of 8 (a ∷ b ∷ c ∷ [])) 255 le) refl
  escape_found u more (byte {a} {b} are) = rw (no_quote 120 q (omega arith) small, are) refl
  escape_found u more (short {a} {b} {c} {d} are is) = rw (no_quote 117 q (omega arith) small, are, is) refl
  escape_found u more (long {a} {b} {c} {d} {e} {f} {g} {h} are is) = rw (no_quote 85 q (omega arith) small, eight_value a b c d e f g h more are, is) refl

  -- and so is a character that stands for itself
  plain_found : (bs : List ℕ) (c n : ℕ) → char_at bs ≡ Some (c, n) → is_plain q c ≡ true → element_len q bs ≡ Some n
  unfolding element_len char_at
  plain_found [] c n e p = absurd (cc)
  plain_found (b ∷ bs) c n e p =
      cond_both (b == 92) (escape_len q bs) (plain_len q (char_at (b ∷ bs))) (λ o. o ≡ Some n)
      (λ is.
      let low : b < 128 = grind (arith, nat_tests) in
      let same : (b, 1) ≡ (c, n) = some_is (b, 1) (c, n) (sym (char_ascii b bs low) ∙ e) in
      let c_is : c ≡ 92 = sym (ap (λ (r : ℕ × ℕ). r.0) same) ∙ eqb-true b 92 is in
      absurd (grind (arith, nat_tests)))
      (λ _. rw (e, p) refl)

  pub element_found : (u more : List ℕ) → IsElement q u → element_len q (u ++ more) ≡ Some (length u)
  element_found u more (plain c scalar is) = plain_found (encode_utf8 c ++ more) c (length (encode_utf8 c)) (char_found c more scalar) is
  element_found u more (escaped e) = escape_found u more e

-- what an answer under a test says
cond_some : (b : Bool) (x v : ℕ) → cond b (Some x) None ≡ Some v → (b ≡ true) × (x ≡ v)
cond_some true x v e = (refl, some_is x v e)
cond_some false x v e = absurd (cc)

where_some : (p : ℕ → Bool) (n : ℕ) (o : Option ℕ) (m : ℕ) → where_passes p n o ≡ Some m → (v : ℕ) × (o ≡ Some v) × (p v ≡ true) × (m ≡ n)
where_some p n None m e = absurd (cc)
where_some p n (Some v) m e = let parts = cond_some (p v) n m e in (v, refl, parts.0, sym parts.1)

octal_is : (q : ℕ) (bs : List ℕ) (n : ℕ) → octal_len bs ≡ Some n → Fronts (IsEscape q) n (92 ∷ bs)
octal_is q [] n e = absurd (cc)
octal_is q (a ∷ []) n e = absurd (cc)
octal_is q (a ∷ b ∷ []) n e = absurd (cc)
octal_is q (a ∷ b ∷ c ∷ bs) n e =
    let parts = where_some (λ v. nat_le v 255) 4 (octal_of (a ∷ b ∷ c ∷ bs)) n e in
    let is = cond_some (are_digits 8 (a ∷ b ∷ c ∷ [])) (value_of 8 (a ∷ b ∷ c ∷ [])) parts.0 parts.1 in
    record {
      front = 92 ∷ a ∷ b ∷ c ∷ [];
      rest = bs;
      text_is = refl;
      length_is = parts.3;
      holds = octal is.0 (subst (λ v. v ≤ 255) (sym is.1) (leb-true parts.0 255 parts.2));
    }

byte_is : (q : ℕ) (bs : List ℕ) (n : ℕ) → where_passes (λ _. true) 4 (pair_of bs) ≡ Some n → Fronts (IsEscape q) n (92 ∷ 120 ∷ bs)
byte_is q [] n e = absurd (cc)
byte_is q (a ∷ []) n e = absurd (cc)
byte_is q (a ∷ b ∷ bs) n e =
    let parts = where_some (λ _. true) 4 (pair_of (a ∷ b ∷ bs)) n e in
    let is = cond_some (are_digits 16 (a ∷ b ∷ [])) (value_of 16 (a ∷ b ∷ [])) parts.0 parts.1 in
    record { front = 92 ∷ 120 ∷ a ∷ b ∷ []; rest = bs; text_is = refl; length_is = parts.3; holds = byte is.0 }

short_is : (q : ℕ) (bs : List ℕ) (n : ℕ) → where_passes scalar 6 (four_of bs) ≡ Some n → Fronts (IsEscape q) n (92 ∷ 117 ∷ bs)
short_is q [] n e = absurd (cc)
short_is q (a ∷ []) n e = absurd (cc)
short_is q (a ∷ b ∷ []) n e = absurd (cc)
short_is q (a ∷ b ∷ c ∷ []) n e = absurd (cc)
short_is q (a ∷ b ∷ c ∷ d ∷ bs) n e =
    let parts = where_some scalar 6 (four_of (a ∷ b ∷ c ∷ d ∷ bs)) n e in
    let is = cond_some (are_digits 16 (a ∷ b ∷ c ∷ d ∷ [])) (value_of 16 (a ∷ b ∷ c ∷ d ∷ [])) parts.0 parts.1 in
    record {
      front = 92 ∷ 117 ∷ a ∷ b ∷ c ∷ d ∷ [];
      rest = bs;
      text_is = refl;
      length_is = parts.3;
      holds = short is.0 (subst IsScalar (sym is.1) parts.2);
    }

-- the two halves of eight digits
joined_some : (o p : Option ℕ) (v : ℕ) → joined o p ≡ Some v → (x : ℕ) × (y : ℕ) × (o ≡ Some x) × (p ≡ Some y)
joined_some None p v e = absurd (cc)
joined_some (Some x) None v e = absurd (cc)
joined_some (Some x) (Some y) v e = (x, y, refl, refl)

long_is : (q : ℕ) (bs : List ℕ) (n : ℕ) → where_passes scalar 10 (eight_of bs) ≡ Some n → Fronts (IsEscape q) n (92 ∷ 85 ∷ bs)
long_is q [] n e = absurd (cc)
long_is q (a ∷ []) n e = absurd (cc)
long_is q (a ∷ b ∷ []) n e = absurd (cc)
long_is q (a ∷ b ∷ c ∷ []) n e = absurd (cc)
long_is q (a ∷ b ∷ c ∷ d ∷ bs) n e =
    let parts = where_some scalar 10 (eight_of (a ∷ b ∷ c ∷ d ∷ bs)) n e in
    let halves = joined_some (four_of (a ∷ b ∷ c ∷ d ∷ bs)) (four_of bs) parts.0 parts.1 in
    go bs halves.1 halves.3 parts.1
  where
    go : (rest : List ℕ) (y : ℕ) → four_of rest ≡ Some y → eight_of (a ∷ b ∷ c ∷ d ∷ rest) ≡ Some (where_some scalar 10 (eight_of (a ∷ b ∷ c ∷ d ∷ bs)) n e).0 → Fronts (IsEscape q) n (92 ∷ 85 ∷ a ∷ b ∷ c ∷ d ∷ rest)
    go [] y low e = absurd (cc)
    go (f ∷ []) y low e = absurd (cc)
    go (f ∷ g ∷ []) y low e = absurd (cc)
    go (f ∷ g ∷ h ∷ []) y low e = absurd (cc)
    go (f ∷ g ∷ h ∷ i ∷ rest) y low whole =
        let parts = where_some scalar 10 (eight_of (a ∷ b ∷ c ∷ d ∷ bs)) n e in
        let halves = joined_some (four_of (a ∷ b ∷ c ∷ d ∷ [])) (four_of (f ∷ g ∷ h ∷ i ∷ [])) parts.0 whole in
        let high = cond_some (are_digits 16 (a ∷ b ∷ c ∷ d ∷ [])) (value_of 16 (a ∷ b ∷ c ∷ d ∷ [])) halves.0 halves.2 in
        let lower = cond_some (are_digits 16 (f ∷ g ∷ h ∷ i ∷ [])) (value_of 16 (f ∷ g ∷ h ∷ i ∷ [])) y low in
        let are = digits_from 16 (a ∷ b ∷ c ∷ d ∷ []) (f ∷ g ∷ h ∷ i ∷ []) high.0 lower.0 in
        let value = some_is _ _ (sym (eight_value a b c d f g h i rest are) ∙ whole) in
        record {
          front = 92 ∷ 85 ∷ a ∷ b ∷ c ∷ d ∷ f ∷ g ∷ h ∷ i ∷ [];
          rest = rest;
          text_is = refl;
          length_is = parts.3;
          holds = long are (subst IsScalar (sym value) parts.2);
        }

escape_is : (q : ℕ) (bs : List ℕ) (n : ℕ) → escape_len q bs ≡ Some n → Fronts (IsEscape q) n (92 ∷ bs)
unfolding escape_len
escape_is q [] n = λ e. absurd (cc)
escape_is q (b ∷ bs) n =
    cond_both (has simple_escapes b || (b == q)) (Some 2) (hex_len b bs) (λ o. o ≡ Some n → Fronts (IsEscape q) n (92 ∷ b ∷ bs))
    (λ is e. record { front = 92 ∷ b ∷ []; rest = bs; text_is = refl; length_is = sym (some_is 2 n e); holds = simple is })
    (λ _. cond_both (b == 120) _ _ (λ o. o ≡ Some n → Fronts (IsEscape q) n (92 ∷ b ∷ bs))
    (λ is. subst (λ x. where_passes (λ _. true) 4 (pair_of bs) ≡ Some n → Fronts (IsEscape q) n (92 ∷ x ∷ bs)) (sym (eqb-true b 120 is)) (byte_is q bs n))
    (λ _. cond_both (b == 117) _ _ (λ o. o ≡ Some n → Fronts (IsEscape q) n (92 ∷ b ∷ bs))
    (λ is. subst (λ x. where_passes scalar 6 (four_of bs) ≡ Some n → Fronts (IsEscape q) n (92 ∷ x ∷ bs)) (sym (eqb-true b 117 is)) (short_is q bs n))
    (λ _. cond_both (b == 85) _ _ (λ o. o ≡ Some n → Fronts (IsEscape q) n (92 ∷ b ∷ bs))
    (λ is. subst (λ x. where_passes scalar 10 (eight_of bs) ≡ Some n → Fronts (IsEscape q) n (92 ∷ x ∷ bs)) (sym (eqb-true b 85 is)) (long_is q bs n))
    (λ _. octal_is q (b ∷ bs) n))))

plain_is : (q : ℕ) (bs : List ℕ) (n : ℕ) → plain_len q (char_at bs) ≡ Some n → Fronts (IsElement q) n bs
plain_is q bs n = go (char_at bs) refl
  where
    go : (o : Option (ℕ × ℕ)) → char_at bs ≡ o → plain_len q o ≡ Some n → Fronts (IsElement q) n bs
    go None at e = absurd (cc)
    go (Some r) at e =
        let parts = cond_some (is_plain q r.0) r.1 n e in
        let s = char_is bs r.0 r.1 at in
        record {
          front = encode_utf8 r.0;
          rest = drop r.1 bs;
          text_is = s.bytes;
          length_is = sym parts.1 ∙ sym s.width;
          holds = plain r.0 s.scalar parts.0;
        }

pub element_is : (q : ℕ) (bs : List ℕ) (n : ℕ) → element_len q bs ≡ Some n → Fronts (IsElement q) n bs
unfolding element_len
element_is q [] n = λ e. absurd (cc)
element_is q (b ∷ bs) n =
    cond_both (b == 92) (escape_len q bs) (plain_len q (char_at (b ∷ bs))) (λ o. o ≡ Some n → Fronts (IsElement q) n (b ∷ bs))
    (λ is e.
    let f = escape_is q bs n e in
    record {
      front = f.front;
      rest = f.rest;
      text_is = ap (λ x. x ∷ bs) (eqb-true b 92 is) ∙ f.text_is;
      length_is = f.length_is;
      holds = escaped f.holds;
    })
    (λ _. plain_is q (b ∷ bs) n)

escape_some : (q : ℕ) (u : List ℕ) → IsEscape q u → 0 < length u
escape_some q u (simple is) = omega arith
escape_some q u (octal are le) = omega arith
escape_some q u (byte are) = omega arith
escape_some q u (short are is) = omega arith
escape_some q u (long are is) = omega arith

pub element_some : (q : ℕ) (u : List ℕ) → IsElement q u → 0 < length u
element_some q u (plain c scalar is) = omega (arith, length-encode c, len_utf8_bounds c)
element_some q u (escaped e) = escape_some q u e

pub element_within : (q : ℕ) (bs : List ℕ) (n : ℕ) → element_len q bs ≡ Some n → (0 < n) × (n ≤ length bs)
element_within q bs n e =
    let f = element_is q bs n e in
    let some = element_some q f.front f.holds in
    let len : length bs ≡ length f.front + length f.rest = ap length f.text_is ∙ length-append f.front f.rest in
    (omega (arith, some, f.length_is), omega (arith, len, f.length_is))

pub element_bounds : (q : ℕ) (bs : List ℕ) (o : Option ℕ) → o ≡ element_len q bs → IfSome o (λ n. (0 < n) × (n ≤ length bs))
element_bounds q bs None e = tt
element_bounds q bs (Some n) e = element_within q bs n (sym e)

-- a text goes on behind the bytes that belong to a character
text_skip : (q k at : ℕ) (bs : List ℕ) → k ≤ length bs → text_from q k at bs ≡ text_from q 0 (at + k) (drop k bs)
text_skip q zero at bs h = ap (λ n. text_from q 0 n bs) (omega arith)
text_skip q (suc k) at [] h = absurd (omega arith)
text_skip q (suc k) at (b ∷ bs) h = text_skip q k (at + 1) bs (omega arith) ∙ ap (λ n. text_from q 0 n (drop k bs)) (omega arith)

-- a quote is no character of a literal
quote_is_none : (q : ℕ) (bs : List ℕ) (n : ℕ) → q < 92 → element_len q (q ∷ bs) ≡ Some n → ⊥
unfolding element_len
quote_is_none q bs n low e =
    let other : (q == 92) ≡ false = grind (arith, nat_tests) in
    let at = char_ascii q bs (omega arith) in
    let not_plain : is_plain q q ≡ false = grind (arith, nat_tests) in
    let none : element_len q (q ∷ bs) ≡ None = rw (other, at, not_plain) refl in
    absurd (cc)

pub text_step : (q : ℕ) (bs : List ℕ) (at n : ℕ) → q < 92 → element_len q bs ≡ Some n → text_from q 0 at bs ≡ text_from q 0 (at + n) (drop n bs)
text_step q [] at n low e = let w = element_within q [] n e in absurd (omega (arith, w.0, w.1))
text_step q (b ∷ bs) at zero low e = let w = element_within q (b ∷ bs) 0 e in absurd (omega (arith, w.0))
text_step q (b ∷ bs) at (suc n) low e =
    let w = element_within q (b ∷ bs) (suc n) e in
    cond_both (b == q) (Some (at + 1)) (goes_over (element_len q (b ∷ bs)) (λ k. text_from q k (at + 1) bs)) (λ o. o ≡ text_from q 0 (at + suc n) (drop n bs))
    (λ is. absurd (quote_is_none q bs (suc n) low (subst (λ x. element_len q (x ∷ bs) ≡ Some (suc n)) (eqb-true b q is) e)))
    (λ _. rw e (text_skip q n (at + 1) bs (omega (arith, w.1)) ∙ ap (λ m. text_from q 0 m (drop n bs)) (omega arith)))

-- the same of what stands behind an offset
pub text_step_at : (bytes r : List ℕ) (at n : ℕ) → r ≡ drop at bytes → element_len 34 r ≡ Some n → text_from 34 0 at (drop at bytes) ≡ text_from 34 0 (at + n) (drop (at + n) bytes)
text_step_at bytes r at n is e =
    text_step 34 (drop at bytes) at n (omega arith) (subst (λ l. element_len 34 l ≡ Some n) is e)
    ∙ ap (text_from 34 0 (at + n)) (drop-drop n at bytes)
