-- The name at the front is the longest.
use Rattle.std.proofs.Common.{◌≡◌, ℕ, ◌<◌, ◌≤◌, List, [], ◌∷◌, ◌++◌, length, take, true, false, cond, Option, Some, None, refl, sym, ap, ◌∙◌, subst, arith, length-append, append_assoc}
use Rattle.std.specs.Prelude.{◌==◌, ◌||◌, nat_lt, encode_utf8_all}
use Rattle.std.specs.List.{list_all}
use Rattle.std.specs.Str.{all_scalars, bytes_eq}
use Rattle.std.specs.Char.{is_ascii_alphabetic, encode_utf8}
use Rattle.std.proofs.Math.Utf8.{scalar}
use Rattle.std.proofs.Math.Seq.{take-append_seam}
use Rattle.std.proofs.lemmas.Bool.{cond_both, and_parts, or_left, false≢true, ltb-true}
use Rattle.std.proofs.lemmas.Slice.Eq.{bytes_eq-Decides}
use Rattle.std.proofs.lemmas.Str.{length-encode, len_utf8_bounds}
use Rattle.ucd_table.specs.Rows.{value_in}
use Rattle.ucd_category.specs.GeneralCategory.{general_category}
use Rattle.ucd_category.specs.GeneralCategoryRows.{general_category_rows}
use Rattle.argot_tree.specs.declared.keyword.Keyword.{Keyword}
use Rattle.argot_tree.specs.declared.keyword.Keyword.TheVariants.{Break, Case, Chan, Const, Continue, Default, Defer, Else, Fallthrough, For, Func, Go, Goto, If, Import, Interface, Map, Package, Range, Return, Select, Struct, Switch, TypeWord, Var}
use Rattle.argot_tree.specs.declared.token.TokenKind.{TokenKind}
use Rattle.argot_tree.specs.declared.token.TokenKind.TheVariants as kinds
use Rattle.argot_tree.specs.Characters.{AreCharacters}
use Rattle.argot_tree.specs.Names.{is_letter, is_letter_or_digit, is_digit_category, Begins, IsIdentifier, keyword_text, IsName}
use Rattle.argot_tree.specs.Pieces.{IsToken}
use Rattle.argot_lex.specs.Characters.{char_at, tests, first_letter, step_by, run_from}
use Rattle.argot_lex.specs.Names.{candidate, confirmed, keyword_of, kind_of, name_front}
use Rattle.argot_lex.proofs.Fronting.{Fronts, fronts_take, fronts_within}
use Rattle.argot_lex.proofs.Chars.{char_found, char_within, char_ascii, ascii_letter, run_step}
use Rattle.argot_lex.proofs.Runs.{run_found, run_is, Passing}

-- the test of the first byte is the test of the first character
pub first_letter_is : (bs : List ℕ) (c n : ℕ) → char_at bs ≡ Some (c, n) → first_letter bs ≡ is_letter c
first_letter_is [] c n e = let w = char_within [] c n e in absurd (omega (arith, w.0, w.1))
first_letter_is (b ∷ bs) c n e =
    cond_both (nat_lt b 128) (b == 95 || is_ascii_alphabetic b) (tests is_letter (char_at (b ∷ bs))) (λ t. t ≡ is_letter c)
    (λ h.
    let low : b < 128 = ltb-true b 128 h in
    let found : Some (b, 1) ≡ Some (c, n) = sym (char_ascii b bs low) ∙ e in
    let at : (b, 1) ≡ (c, n) = cc in
    let same : b ≡ c = ap (λ (r : ℕ × ℕ). r.0) at in
    sym (ascii_letter b low) ∙ ap is_letter same)
    (λ _. ap (tests is_letter) e)

pub no_letter : (bs : List ℕ) → char_at bs ≡ None → first_letter bs ≡ false
no_letter [] e = refl
no_letter (b ∷ bs) e =
    cond_both (nat_lt b 128) (b == 95 || is_ascii_alphabetic b) (tests is_letter (char_at (b ∷ bs))) (λ t. t ≡ false)
    (λ h. let at : Some (b, 1) ≡ None = sym (char_ascii b bs (ltb-true b 128 h)) ∙ e in absurd (cc))
    (λ _. ap (tests is_letter) e)

-- keywords are found, and what is found is one
pub keyword_found : (word : Keyword) → keyword_of (keyword_text word) ≡ Some word
unfolding keyword_of candidate
keyword_found Break = refl
keyword_found Case = refl
keyword_found Chan = refl
keyword_found Const = refl
keyword_found Continue = refl
keyword_found Default = refl
keyword_found Defer = refl
keyword_found Else = refl
keyword_found Fallthrough = refl
keyword_found For = refl
keyword_found Func = refl
keyword_found Go = refl
keyword_found Goto = refl
keyword_found If = refl
keyword_found Import = refl
keyword_found Interface = refl
keyword_found Map = refl
keyword_found Package = refl
keyword_found Range = refl
keyword_found Return = refl
keyword_found Select = refl
keyword_found Struct = refl
keyword_found Switch = refl
keyword_found TypeWord = refl
keyword_found Var = refl

confirmed_is : (bytes : List ℕ) (o : Option Keyword) (word : Keyword) → confirmed bytes o ≡ Some word → bytes ≡ keyword_text word
confirmed_is bytes None word e = absurd (cc)
confirmed_is bytes (Some w) word e =
    cond_both (bytes_eq bytes (keyword_text w)) (Some w) None (λ o. o ≡ Some word → bytes ≡ keyword_text word)
    (λ same is. let w_is : w ≡ word = cc in (bytes_eq-Decides bytes (keyword_text w)).0 same ∙ ap keyword_text w_is)
    (λ _ is. absurd (cc))
    e

pub keyword_is : (bytes : List ℕ) (word : Keyword) → keyword_of bytes ≡ Some word → bytes ≡ keyword_text word
unfolding keyword_of
keyword_is [] word e = absurd (cc)
keyword_is (a ∷ []) word e = absurd (cc)
keyword_is (a ∷ b ∷ cs) word e = confirmed_is (a ∷ b ∷ cs) (candidate (length (a ∷ b ∷ cs)) a b) word e

no_keyword : (bytes : List ℕ) (o : Option Keyword) → keyword_of bytes ≡ o → ((word : Keyword) → bytes ≡ keyword_text word → ⊥) → o ≡ None
no_keyword bytes None e h = refl
no_keyword bytes (Some word) e h = absurd (h word (keyword_is bytes word e))

-- a keyword is an identifier
word_is_identifier : (word : Keyword) → IsIdentifier (keyword_text word)
unfolding encode_utf8 general_category general_category_rows value_in
word_is_identifier Break = (keyword_text Break, record { scalar = refl; pass = refl; bytes_are = refl }, (refl, refl))
word_is_identifier Case = (keyword_text Case, record { scalar = refl; pass = refl; bytes_are = refl }, (refl, refl))
word_is_identifier Chan = (keyword_text Chan, record { scalar = refl; pass = refl; bytes_are = refl }, (refl, refl))
word_is_identifier Const = (keyword_text Const, record { scalar = refl; pass = refl; bytes_are = refl }, (refl, refl))
word_is_identifier Continue = (keyword_text Continue, record { scalar = refl; pass = refl; bytes_are = refl }, (refl, refl))
word_is_identifier Default = (keyword_text Default, record { scalar = refl; pass = refl; bytes_are = refl }, (refl, refl))
word_is_identifier Defer = (keyword_text Defer, record { scalar = refl; pass = refl; bytes_are = refl }, (refl, refl))
word_is_identifier Else = (keyword_text Else, record { scalar = refl; pass = refl; bytes_are = refl }, (refl, refl))
word_is_identifier Fallthrough = (keyword_text Fallthrough, record { scalar = refl; pass = refl; bytes_are = refl }, (refl, refl))
word_is_identifier For = (keyword_text For, record { scalar = refl; pass = refl; bytes_are = refl }, (refl, refl))
word_is_identifier Func = (keyword_text Func, record { scalar = refl; pass = refl; bytes_are = refl }, (refl, refl))
word_is_identifier Go = (keyword_text Go, record { scalar = refl; pass = refl; bytes_are = refl }, (refl, refl))
word_is_identifier Goto = (keyword_text Goto, record { scalar = refl; pass = refl; bytes_are = refl }, (refl, refl))
word_is_identifier If = (keyword_text If, record { scalar = refl; pass = refl; bytes_are = refl }, (refl, refl))
word_is_identifier Import = (keyword_text Import, record { scalar = refl; pass = refl; bytes_are = refl }, (refl, refl))
word_is_identifier Interface = (keyword_text Interface, record { scalar = refl; pass = refl; bytes_are = refl }, (refl, refl))
word_is_identifier Map = (keyword_text Map, record { scalar = refl; pass = refl; bytes_are = refl }, (refl, refl))
word_is_identifier Package = (keyword_text Package, record { scalar = refl; pass = refl; bytes_are = refl }, (refl, refl))
word_is_identifier Range = (keyword_text Range, record { scalar = refl; pass = refl; bytes_are = refl }, (refl, refl))
word_is_identifier Return = (keyword_text Return, record { scalar = refl; pass = refl; bytes_are = refl }, (refl, refl))
word_is_identifier Select = (keyword_text Select, record { scalar = refl; pass = refl; bytes_are = refl }, (refl, refl))
word_is_identifier Struct = (keyword_text Struct, record { scalar = refl; pass = refl; bytes_are = refl }, (refl, refl))
word_is_identifier Switch = (keyword_text Switch, record { scalar = refl; pass = refl; bytes_are = refl }, (refl, refl))
word_is_identifier TypeWord = (keyword_text TypeWord, record { scalar = refl; pass = refl; bytes_are = refl }, (refl, refl))
word_is_identifier Var = (keyword_text Var, record { scalar = refl; pass = refl; bytes_are = refl }, (refl, refl))

-- an answer that is at least so long, and of this kind if it is as long
abbrev AtLeast : TokenKind × ℕ → TokenKind → ℕ → Type 0
AtLeast r kind n = (n ≤ r.1) × (n ≡ r.1 → kind ≡ r.0)

-- whatever identifier the text begins with, the answer is at least as long
identifier_found : (u more : List ℕ) → IsIdentifier u → (first_letter (u ++ more) ≡ true) × AtLeast (name_front (u ++ more)) (kind_of (keyword_of u)) (length u)
identifier_found u more is = go is.0 is.1 is.2
  where
    go : (cs : List ℕ) → AreCharacters is_letter_or_digit cs u → Begins is_letter is_letter_or_digit cs → (first_letter (u ++ more) ≡ true) × AtLeast (name_front (u ++ more)) (kind_of (keyword_of u)) (length u)
    go [] are b = absurd b
    go (c ∷ cs) are b =
        let s = and_parts (scalar c) (all_scalars cs) are.scalar in
        let text : u ++ more ≡ encode_utf8 c ++ (encode_utf8_all cs ++ more) = ap (λ l. l ++ more) are.bytes_are ∙ append_assoc (encode_utf8 c) (encode_utf8_all cs) more in
        let at : char_at (u ++ more) ≡ Some (c, length (encode_utf8 c)) = ap char_at text ∙ char_found c (encode_utf8_all cs ++ more) s.0 in
        let run = run_found is_letter_or_digit (c ∷ cs) u more are in (
          first_letter_is (u ++ more) c (length (encode_utf8 c)) at ∙ b.0,
          (omega (arith, run), λ e. ap (λ l. kind_of (keyword_of l)) (sym (take-append_seam u more) ∙ ap (λ n. take n (u ++ more)) e)),
        )

pub name_found : (u more : List ℕ) → IsName u → (first_letter (u ++ more) ≡ true) × AtLeast (name_front (u ++ more)) kinds.Name (length u)
name_found u more is =
    subst (λ o. (first_letter (u ++ more) ≡ true) × AtLeast (name_front (u ++ more)) (kind_of o) (length u)) (no_keyword u (keyword_of u) refl is.free) (identifier_found u more is.identifier)

pub word_found : (word : Keyword) (more : List ℕ) → (first_letter (keyword_text word ++ more) ≡ true) × AtLeast (name_front (keyword_text word ++ more)) (kinds.Word word) (length (keyword_text word))
word_found word more =
    subst (λ o. (first_letter (keyword_text word ++ more) ≡ true) × AtLeast (name_front (keyword_text word ++ more)) (kind_of o) (length (keyword_text word))) (keyword_found word) (identifier_found (keyword_text word) more (word_is_identifier word))

-- the answer is a name or a keyword
kind_fits : (u : List ℕ) (o : Option Keyword) → keyword_of u ≡ o → IsIdentifier u → IsToken (kind_of o) u
kind_fits u (Some word) e is = keyword_is u word e
kind_fits u None e is =
    record { identifier = is; free = λ word same. let found : keyword_of u ≡ Some word = ap keyword_of same ∙ keyword_found word in absurd (cc) }

-- the characters of a run that begins with a letter
letters : (text : List ℕ) (c n : ℕ) → char_at text ≡ Some (c, n) → is_letter c ≡ true → (f : Fronts (Passing is_letter_or_digit) (run_from is_letter_or_digit 0 text) text) → IsIdentifier f.front
letters text c n at letter f = go f.holds.0 f.holds.1
  where
    go : (cs : List ℕ) → AreCharacters is_letter_or_digit cs f.front → IsIdentifier f.front
    go [] are =
        let p = is_letter_or_digit in
        let passes : p c ≡ true = or_left (is_letter c) (is_digit_category (general_category c)) letter in
        let w = char_within text c n at in
        let step : step_by p (char_at text) ≡ n = ap (step_by p) at ∙ ap (λ t. cond t n 0) passes in
        absurd (omega (arith, run_step p text n step w.0 w.1, f.length_is, ap length are.bytes_are, w.0))
    go (d ∷ cs) are =
        let s = and_parts (scalar d) (all_scalars cs) are.scalar in
        let rest = encode_utf8_all cs ++ f.rest in
        let bytes : text ≡ encode_utf8 d ++ rest = f.text_is ∙ ap (λ l. l ++ f.rest) are.bytes_are ∙ append_assoc (encode_utf8 d) (encode_utf8_all cs) f.rest in
        let found : Some (c, n) ≡ Some (d, length (encode_utf8 d)) = sym at ∙ ap char_at bytes ∙ char_found d rest s.0 in
        let pairs : (c, n) ≡ (d, length (encode_utf8 d)) = cc in
        let same : c ≡ d = ap (λ (r : ℕ × ℕ). r.0) pairs in
        (d ∷ cs, are, (subst (λ x. is_letter x ≡ true) same letter, (and_parts (is_letter_or_digit d) (list_all is_letter_or_digit cs) are.pass).1))

-- and it is some bytes of the text
pub record IsNamed (text : List ℕ) (r : TokenKind × ℕ) : Type 0 where
  pub some : 0 < r.1
  pub within : r.1 ≤ length text
  pub token : IsToken r.0 (take r.1 text)

identifier_some : (u : List ℕ) → IsIdentifier u → 0 < length u
identifier_some u is = go is.0 is.1 is.2
  where
    go : (cs : List ℕ) → AreCharacters is_letter_or_digit cs u → Begins is_letter is_letter_or_digit cs → 0 < length u
    go [] are b = absurd b
    go (c ∷ cs) are b =
        omega (arith, ap length are.bytes_are, length-append (encode_utf8 c) (encode_utf8_all cs), length-encode c, len_utf8_bounds c)

pub name_is : (text : List ℕ) → first_letter text ≡ true → IsNamed text (name_front text)
name_is text first = go (char_at text) refl
  where
    named : (f : Fronts (Passing is_letter_or_digit) (run_from is_letter_or_digit 0 text) text) → IsIdentifier f.front → IsNamed text (name_front text)
    named f is =
        let front = fronts_take (Passing is_letter_or_digit) (run_from is_letter_or_digit 0 text) text f in
        let token = subst IsIdentifier (sym front) is in
        record {
          some = omega (arith, identifier_some f.front is, f.length_is);
          within = fronts_within (Passing is_letter_or_digit) (run_from is_letter_or_digit 0 text) text f;
          token = kind_fits (take (run_from is_letter_or_digit 0 text) text) (keyword_of (take (run_from is_letter_or_digit 0 text) text)) refl token;
        }

    go : (o : Option (ℕ × ℕ)) → char_at text ≡ o → IsNamed text (name_front text)
    go None e = absurd (false≢true (sym (no_letter text e) ∙ first))
    go (Some r) e =
        let letter : is_letter r.0 ≡ true = sym (first_letter_is text r.0 r.1 e) ∙ first in
        let f = run_is is_letter_or_digit text in
        named f (letters text r.0 r.1 e letter f)
