-- Characters at the front of some bytes, and runs of them.
use Rattle.std.proofs.Common.{◌≡◌, ℕ, zero, suc, ◌+◌, ◌<◌, ◌≤◌, List, [], ◌∷◌, ◌++◌, length, drop, Bool, Option, Some, None, refl, sym, ap, ◌∙◌, subst, arith, length-append, length-drop, drop-drop}
use Rattle.std.specs.Prelude.{◌==◌, ◌||◌, nat_lt, encode_utf8}
use Rattle.std.specs.Option.{option_map}
use Rattle.std.specs.Char.{IsScalar, is_ascii_alphabetic, is_ascii_alphanumeric}
use Rattle.std.proofs.lemmas.Bool.{cond_both, agree_below_at, ltb-true}
use Rattle.std.proofs.lemmas.Bool.Decides.{nat_tests}
use Rattle.std.proofs.lemmas.Str.{encode_ascii, length-encode, len_utf8_bounds}
use Rattle.ucd_table.specs.Rows.{value_in}
use Rattle.ucd_category.specs.GeneralCategory.{general_category}
use Rattle.ucd_category.specs.GeneralCategoryRows.{general_category_rows}
use Rattle.bstr.specs.Utf8.{decoded}
use Rattle.bstr.proofs.lemmas.EncodeLemmas.{decoded-encode}
use Rattle.bstr.proofs.lemmas.SoundLemmas.{SpellsChar, SpellsChar-decoded}
use Rattle.argot_tree.specs.Names.{is_letter, is_letter_or_digit}
use Rattle.argot_lex.specs.declared.characters.Class.{Class}
use Rattle.argot_lex.specs.Characters.{char_of, char_at, passes, step_by, step_of, run_from}

-- what the tables say of ASCII
pub ascii_letter : (c : ℕ) → c < 128 → is_letter c ≡ (c == 95 || is_ascii_alphabetic c)
unfolding general_category general_category_rows value_in
ascii_letter c low = agree_below_at is_letter (λ x. x == 95 || is_ascii_alphabetic x) 128 c refl low

pub ascii_word : (c : ℕ) → c < 128 → is_letter_or_digit c ≡ (c == 95 || is_ascii_alphanumeric c)
unfolding general_category general_category_rows value_in
ascii_word c low = agree_below_at is_letter_or_digit (λ x. x == 95 || is_ascii_alphanumeric x) 128 c refl low

-- a character stands at the front where its bytes do
pub char_found : (c : ℕ) (more : List ℕ) → IsScalar c → char_at (encode_utf8 c ++ more) ≡ Some (c, length (encode_utf8 c))
unfolding char_at
char_found c more scalar = ap char_of (decoded-encode c more scalar)

pub ascii_scalar : (c : ℕ) → c < 128 → IsScalar c
ascii_scalar c low = grind (arith, nat_tests)

pub char_ascii : (b : ℕ) (bs : List ℕ) → b < 128 → char_at (b ∷ bs) ≡ Some (b, 1)
char_ascii b bs low =
    let e = encode_ascii b low in
    subst (λ u. char_at (u ++ bs) ≡ Some (b, length u)) e (char_found b bs (ascii_scalar b low))

parts_of : (o : Option ℕ) (size c n : ℕ) → option_map {U = ℕ × ℕ} (λ x. (x, size)) o ≡ Some (c, n) → (o ≡ Some c) × (size ≡ n)
parts_of None size c n e = absurd (cc)
parts_of (Some x) size c n e = let f : Option (ℕ × ℕ) → ℕ × ℕ = first in (ap (λ o. Some (f o).0) e, ap (λ o. (f o).1) e)
  where
    first : Option (ℕ × ℕ) → ℕ × ℕ
    first None = (0, 0)
    first (Some r) = r

-- and where one is found its bytes stand there
pub char_is : (bs : List ℕ) (c n : ℕ) → char_at bs ≡ Some (c, n) → SpellsChar bs c n
unfolding char_at
char_is bs c n e =
    let parts = parts_of (decoded bs).char (decoded bs).size c n e in
    subst (λ m. SpellsChar bs c m) parts.1 (SpellsChar-decoded bs c parts.0)

-- a character has a byte, and they are there
pub char_within : (bs : List ℕ) (c n : ℕ) → char_at bs ≡ Some (c, n) → (0 < n) × (n ≤ length bs)
char_within bs c n e =
    let s = char_is bs c n e in
    let len : length bs ≡ length (encode_utf8 c) + length (drop n bs) = ap length s.bytes ∙ length-append (encode_utf8 c) (drop n bs) in
    (omega (arith, s.width, length-encode c, len_utf8_bounds c), omega (arith, s.width, len))

-- a step goes over bytes that are there
pub step_within : (p : ℕ → Bool) (bs : List ℕ) → step_by p (char_at bs) ≤ length bs
step_within p bs = go (char_at bs) refl
  where
    go : (o : Option (ℕ × ℕ)) → char_at bs ≡ o → step_by p o ≤ length bs
    go None e = omega arith
    go (Some r) e = cond_both (p r.0) r.1 0 (λ n. n ≤ length bs) (λ _. (char_within bs r.0 r.1 e).1) (λ _. omega arith)

-- a run goes on behind the bytes that belong to a character
pub run_skip : (p : ℕ → Bool) (k : ℕ) (bs : List ℕ) → k ≤ length bs → run_from p k bs ≡ k + run_from p 0 (drop k bs)
run_skip p zero bs h = omega arith
run_skip p (suc k) [] h = absurd (omega arith)
run_skip p (suc k) (b ∷ bs) h = omega (arith, run_skip p k bs (omega arith))

-- and over each character that passes
pub run_step : (p : ℕ → Bool) (bs : List ℕ) (n : ℕ) → step_by p (char_at bs) ≡ n → 0 < n → n ≤ length bs → run_from p 0 bs ≡ n + run_from p 0 (drop n bs)
run_step p bs zero e some h = absurd (omega arith)
run_step p [] (suc n) e some h = absurd (omega arith)
run_step p (b ∷ bs) (suc n) e some h = rw e (omega (arith, run_skip p n bs (omega arith)))

pub run_stop : (p : ℕ → Bool) (bs : List ℕ) → step_by p (char_at bs) ≡ 0 → run_from p 0 bs ≡ 0
run_stop p [] e = refl
run_stop p (b ∷ bs) e = rw e refl

pub step_is : (class : Class) (bs : List ℕ) → step_of class bs ≡ step_by (passes class) (char_at bs)
unfolding char_at
step_is class [] = refl
step_is class (b ∷ bs) =
    cond_both (nat_lt b 128) _ _ (λ n. n ≡ step_by (passes class) (char_at (b ∷ bs)))
    (λ e. let low : b < 128 = ltb-true b 128 e in sym (ap (step_by (passes class)) (char_ascii b bs low)))
    (λ _. refl)

-- what a step says of the run, where the bytes from an offset on were looked at
pub record Steps (class : Class) (bytes : List ℕ) (at n : ℕ) : Type 0 where
  pub within : at + n ≤ length bytes
  pub stop : n ≡ 0 → run_from (passes class) 0 (drop at bytes) ≡ 0
  pub step : (n ≡ 0 → ⊥) → run_from (passes class) 0 (drop at bytes) ≡ n + run_from (passes class) 0 (drop (at + n) bytes)

pub stepped : (class : Class) (bytes r : List ℕ) (at n : ℕ) → r ≡ drop at bytes → n ≡ step_of class r → at ≤ length bytes → Steps class bytes at n
stepped class bytes r at n is e h =
    let p = passes class in
    let step : step_by p (char_at (drop at bytes)) ≡ n = sym (e ∙ ap (step_of class) is ∙ step_is class (drop at bytes)) in
    let inside : n ≤ length (drop at bytes) = rw (← step) (step_within p (drop at bytes)) in
    record {
      within = omega (arith, inside, length-drop at bytes);
      stop = λ zero. run_stop p (drop at bytes) (step ∙ zero);
      step = λ some. run_step p (drop at bytes) n step (omega arith) inside ∙ ap (λ l. n + run_from p 0 l) (drop-drop n at bytes);
    }
