-- Values of texts: the element at the front is read exactly, so a text has at most one value.
use Rattle.std.proofs.Common.{◌≡◌, ◌≢◌, ℕ, ◌+◌, ◌<◌, ◌≤◌, List, [], ◌∷◌, ◌++◌, length, drop, take, Bool, true, false, cond, Option, Some, None, refl, sym, ap, ◌∙◌, subst, arith, append_assoc, length-append, length-drop}
use Rattle.std.specs.Prelude.{◌==◌, not, nat_le, filter, encode_utf8}
use Rattle.std.specs.Char.{IsScalar, is_digit}
use Rattle.std.proofs.Math.Utf8.{scalar}
use Rattle.std.proofs.lemmas.Bool.{cond_both, and_parts, and_from, leb-true, le-leb, eqb-true, ne_eqb}
use Rattle.std.proofs.lemmas.Bool.Decides.{nat_tests}
use Rattle.std.proofs.lemmas.List.{take-append-drop, length-take-le, take_all}
use Rattle.std.proofs.Math.Seq.{take-append_seam, drop-append_seam}
use Rattle.argot_tree.specs.Literals.{value_of, are_digits}
use Rattle.argot_names_rules.specs.TextValues.{EscapeValue, alert, form_feed, backspace, newline, carriage_return, tab, vertical_tab, backslash, quote, octal, byte, short, long, ElementsValue, none, plain, escaped, TextValue, chars, raw}
use Rattle.argot_names_imports.specs.Elements.{octal_of, pair_of, four_of, joined, eight_of, simple_of, by_number, alone, numbered_of, or_numbered, escape_of, element_of}

-- what an octal digit is
octal_range : (a : ℕ) → is_digit a 8 ≡ true → (48 ≤ a) × (a ≤ 55)
octal_range a h = (grind (arith, nat_tests), grind (arith, nat_tests))

no_simple : (a : ℕ) → 48 ≤ a → a ≤ 55 → simple_of a ≡ None
unfolding simple_of
no_simple a low high = grind (arith, nat_tests)

no_letter : (a : ℕ) → 48 ≤ a → a ≤ 55 → ((a == 120) ≡ false) × ((a == 117) ≡ false) × ((a == 85) ≡ false)
no_letter a low high = (grind (arith, nat_tests), grind (arith, nat_tests), grind (arith, nat_tests))

digits_parts : (base : ℕ) (ds es : List ℕ) → are_digits base (ds ++ es) ≡ true → (are_digits base ds ≡ true) × (are_digits base es ≡ true)
digits_parts base [] es h = (refl, h)
digits_parts base (d ∷ ds) es h =
    let parts = and_parts (is_digit d base) (are_digits base (ds ++ es)) h in
    let rest = digits_parts base ds es parts.1 in
    (and_from (is_digit d base) (are_digits base ds) parts.0 rest.0, rest.1)

digits_from : (base : ℕ) (ds es : List ℕ) → are_digits base ds ≡ true → are_digits base es ≡ true → are_digits base (ds ++ es) ≡ true
digits_from base [] es h k = k
digits_from base (d ∷ ds) es h k =
    let parts = and_parts (is_digit d base) (are_digits base ds) h in
    and_from (is_digit d base) (are_digits base (ds ++ es)) parts.0 (digits_from base ds es parts.1 k)

-- eight digits are four and four
eight_value : (a b c d e f g h : ℕ) (bs : List ℕ) → are_digits 16 (a ∷ b ∷ c ∷ d ∷ e ∷ f ∷ g ∷ h ∷ []) ≡ true
    → eight_of (a ∷ b ∷ c ∷ d ∷ e ∷ f ∷ g ∷ h ∷ bs) ≡ Some (value_of 16 (a ∷ b ∷ c ∷ d ∷ e ∷ f ∷ g ∷ h ∷ []))
eight_value a b c d e f g h bs is =
    let parts = digits_parts 16 (a ∷ b ∷ c ∷ d ∷ []) (e ∷ f ∷ g ∷ h ∷ []) is in
    let high : four_of (a ∷ b ∷ c ∷ d ∷ e ∷ f ∷ g ∷ h ∷ bs) ≡ Some (value_of 16 (a ∷ b ∷ c ∷ d ∷ [])) = rw parts.0 refl in
    let low : four_of (e ∷ f ∷ g ∷ h ∷ bs) ≡ Some (value_of 16 (e ∷ f ∷ g ∷ h ∷ [])) = rw parts.1 refl in
    rw (high, low) (ap (λ n. Some n) (omega arith))

some_is : {A : Type 0} (x y : A) → Some x ≡ Some y → x ≡ y
some_is x y e = cc

-- an escape is read exactly
escape_found : (u one more : List ℕ) → EscapeValue u one → element_of (u ++ more) ≡ Some (length u, one)
unfolding element_of escape_of simple_of
escape_found _ _ more alert = refl
escape_found _ _ more backspace = refl
escape_found _ _ more form_feed = refl
escape_found _ _ more newline = refl
escape_found _ _ more carriage_return = refl
escape_found _ _ more tab = refl
escape_found _ _ more vertical_tab = refl
escape_found _ _ more backslash = refl
escape_found _ _ more quote = refl
escape_found _ _ more (octal {a} {b} {c} are le) =
    let parts = digits_parts 8 (a ∷ []) (b ∷ c ∷ []) are in
    let range = octal_range a (and_parts (is_digit a 8) true parts.0).0 in
    let letters = no_letter a range.0 range.1 in
    rw (no_simple a range.0 range.1, letters.0, letters.1, letters.2, are, le-leb (value_of 8 (a ∷ b ∷ c ∷ [])) 255 le) refl
escape_found _ _ more (byte {a} {b} are) = rw (are) refl
escape_found _ _ more (short {a} {b} {c} {d} are is) = rw (are, is) refl
escape_found _ _ more (long {a} {b} {c} {d} {e} {f} {g} {h} are is) = rw (eight_value a b c d e f g h more are, is) refl

-- what an answer under a test says
cond_some : {A : Type 0} (b : Bool) (x v : A) → cond b (Some x) None ≡ Some v → (b ≡ true) × (x ≡ v)
cond_some true x v e = (refl, some_is x v e)
cond_some false x v e = absurd (cc)

-- two pairs
pair_is : {A B : Type 0} (a c : A) (b d : B) → ◌≡◌ {A = A × B} (a, b) (c, d) → (a ≡ c) × (b ≡ d)
pair_is {A} {B} a c b d e = (ap (λ (p : A × B). p.0) e, ap (λ (p : A × B). p.1) e)

-- what stands at the front of a text, and what it stands for
pub record Fronts (size : ℕ) (value text : List ℕ) : Type 0 where
  pub front : List ℕ
  pub rest : List ℕ
  pub text_is : text ≡ front ++ rest
  pub length_is : length front ≡ size
  pub some : 0 < size
  pub holds : ElementsValue front value

append_nil : (xs : List ℕ) → xs ++ [] ≡ xs
append_nil [] = refl
append_nil (x ∷ xs) = ap (λ ys. x ∷ ys) (append_nil xs)

alone_is : (front one : List ℕ) → EscapeValue front one → ElementsValue front one
alone_is front one h = subst (λ f. ElementsValue f one) (append_nil front) (subst (λ o. ElementsValue (front ++ []) o) (append_nil one) (escaped h none))

at_letter : (b v k w : ℕ) → (b == k) ≡ true → Some w ≡ Some v → EscapeValue (92 ∷ k ∷ []) (w ∷ []) → EscapeValue (92 ∷ b ∷ []) (v ∷ [])
at_letter b v k w is e h =
    subst (λ c. EscapeValue (92 ∷ c ∷ []) (v ∷ [])) (sym (eqb-true b k is)) (subst (λ u. EscapeValue (92 ∷ k ∷ []) (u ∷ [])) (some_is w v e) h)

abbrev Stands : ℕ → ℕ → Option ℕ → Type 0
Stands b v o = o ≡ Some v → EscapeValue (92 ∷ b ∷ []) (v ∷ [])

simple_is : (b v : ℕ) → Stands b v (simple_of b)
unfolding simple_of
simple_is b v =
    cond_both (b == 97) (Some 7) _ (Stands b v) (λ is e. at_letter b v 97 7 is e alert)
    (λ _. cond_both (b == 98) (Some 8) _ (Stands b v) (λ is e. at_letter b v 98 8 is e backspace)
    (λ _. cond_both (b == 102) (Some 12) _ (Stands b v) (λ is e. at_letter b v 102 12 is e form_feed)
    (λ _. cond_both (b == 110) (Some 10) _ (Stands b v) (λ is e. at_letter b v 110 10 is e newline)
    (λ _. cond_both (b == 114) (Some 13) _ (Stands b v) (λ is e. at_letter b v 114 13 is e carriage_return)
    (λ _. cond_both (b == 116) (Some 9) _ (Stands b v) (λ is e. at_letter b v 116 9 is e tab)
    (λ _. cond_both (b == 118) (Some 11) _ (Stands b v) (λ is e. at_letter b v 118 11 is e vertical_tab)
    (λ _. cond_both (b == 92) (Some 92) _ (Stands b v) (λ is e. at_letter b v 92 92 is e backslash)
    (λ _. cond_both (b == 34) (Some 34) None (Stands b v) (λ is e. at_letter b v 34 34 is e quote)
    (λ _ e. absurd (cc))))))))))

-- an element by a number
number_some : (p : ℕ → Bool) (size : ℕ) (value : ℕ → List ℕ) (o : Option ℕ) (n : ℕ) (one : List ℕ) → by_number p size value o ≡ Some (n, one)
    → (v : ℕ) × (o ≡ Some v) × (p v ≡ true) × (size ≡ n) × (value v ≡ one)
number_some p size value None n one e = absurd (cc)
number_some p size value (Some v) n one e =
    let parts = cond_some (p v) (size, value v) (n, one) e in
    let same = pair_is size n (value v) one parts.1 in
    (v, refl, parts.0, same.0, same.1)

-- the two halves of eight digits
joined_some : (o p : Option ℕ) (v : ℕ) → joined o p ≡ Some v → (x : ℕ) × (y : ℕ) × (o ≡ Some x) × (p ≡ Some y)
joined_some None p v e = absurd (cc)
joined_some (Some x) None v e = absurd (cc)
joined_some (Some x) (Some y) v e = (x, y, refl, refl)

octal_is : (bs : List ℕ) (n : ℕ) (one : List ℕ) → by_number (λ v. nat_le v 255) 4 alone (octal_of bs) ≡ Some (n, one) → Fronts n one (92 ∷ bs)
octal_is [] n one e = absurd (cc)
octal_is (a ∷ []) n one e = absurd (cc)
octal_is (a ∷ b ∷ []) n one e = absurd (cc)
octal_is (a ∷ b ∷ c ∷ bs) n one e =
    let parts = number_some (λ v. nat_le v 255) 4 alone (octal_of (a ∷ b ∷ c ∷ bs)) n one e in
    let is = cond_some (are_digits 8 (a ∷ b ∷ c ∷ [])) (value_of 8 (a ∷ b ∷ c ∷ [])) parts.0 parts.1 in
    let holds = octal {a = a} {b = b} {c = c} is.0 (subst (λ v. v ≤ 255) (sym is.1) (leb-true parts.0 255 parts.2)) in
    record {
      front = 92 ∷ a ∷ b ∷ c ∷ [];
      rest = bs;
      text_is = refl;
      length_is = parts.3;
      some = omega (arith, parts.3);
      holds = alone_is _ _ (subst (EscapeValue (92 ∷ a ∷ b ∷ c ∷ [])) (ap alone is.1 ∙ parts.4) holds);
    }

byte_is : (bs : List ℕ) (n : ℕ) (one : List ℕ) → by_number (λ _. true) 4 alone (pair_of bs) ≡ Some (n, one) → Fronts n one (92 ∷ 120 ∷ bs)
byte_is [] n one e = absurd (cc)
byte_is (a ∷ []) n one e = absurd (cc)
byte_is (a ∷ b ∷ bs) n one e =
    let parts = number_some (λ _. true) 4 alone (pair_of (a ∷ b ∷ bs)) n one e in
    let is = cond_some (are_digits 16 (a ∷ b ∷ [])) (value_of 16 (a ∷ b ∷ [])) parts.0 parts.1 in
    let holds = byte {a = a} {b = b} is.0 in
    record {
      front = 92 ∷ 120 ∷ a ∷ b ∷ [];
      rest = bs;
      text_is = refl;
      length_is = parts.3;
      some = omega (arith, parts.3);
      holds = alone_is _ _ (subst (EscapeValue (92 ∷ 120 ∷ a ∷ b ∷ [])) (ap alone is.1 ∙ parts.4) holds);
    }

short_is : (bs : List ℕ) (n : ℕ) (one : List ℕ) → by_number scalar 6 encode_utf8 (four_of bs) ≡ Some (n, one) → Fronts n one (92 ∷ 117 ∷ bs)
short_is [] n one e = absurd (cc)
short_is (a ∷ []) n one e = absurd (cc)
short_is (a ∷ b ∷ []) n one e = absurd (cc)
short_is (a ∷ b ∷ c ∷ []) n one e = absurd (cc)
short_is (a ∷ b ∷ c ∷ d ∷ bs) n one e =
    let parts = number_some scalar 6 encode_utf8 (four_of (a ∷ b ∷ c ∷ d ∷ bs)) n one e in
    let is = cond_some (are_digits 16 (a ∷ b ∷ c ∷ d ∷ [])) (value_of 16 (a ∷ b ∷ c ∷ d ∷ [])) parts.0 parts.1 in
    let holds = short {a = a} {b = b} {c = c} {d = d} is.0 (subst IsScalar (sym is.1) parts.2) in
    record {
      front = 92 ∷ 117 ∷ a ∷ b ∷ c ∷ d ∷ [];
      rest = bs;
      text_is = refl;
      length_is = parts.3;
      some = omega (arith, parts.3);
      holds = alone_is _ _ (subst (EscapeValue (92 ∷ 117 ∷ a ∷ b ∷ c ∷ d ∷ [])) (ap encode_utf8 is.1 ∙ parts.4) holds);
    }

long_parts : (a b c d : ℕ) (rest : List ℕ) (x y v : ℕ) → four_of (a ∷ b ∷ c ∷ d ∷ rest) ≡ Some x → four_of rest ≡ Some y → eight_of (a ∷ b ∷ c ∷ d ∷ rest) ≡ Some v → scalar v ≡ true
    → Fronts 10 (encode_utf8 v) (92 ∷ 85 ∷ a ∷ b ∷ c ∷ d ∷ rest)
long_parts a b c d [] x y v high low whole is = absurd (cc)
long_parts a b c d (f ∷ []) x y v high low whole is = absurd (cc)
long_parts a b c d (f ∷ g ∷ []) x y v high low whole is = absurd (cc)
long_parts a b c d (f ∷ g ∷ h ∷ []) x y v high low whole is = absurd (cc)
long_parts a b c d (f ∷ g ∷ h ∷ i ∷ rest) x y v high low whole is =
    let upper = cond_some (are_digits 16 (a ∷ b ∷ c ∷ d ∷ [])) (value_of 16 (a ∷ b ∷ c ∷ d ∷ [])) x high in
    let lower = cond_some (are_digits 16 (f ∷ g ∷ h ∷ i ∷ [])) (value_of 16 (f ∷ g ∷ h ∷ i ∷ [])) y low in
    let are = digits_from 16 (a ∷ b ∷ c ∷ d ∷ []) (f ∷ g ∷ h ∷ i ∷ []) upper.0 lower.0 in
    let value = some_is _ _ (sym (eight_value a b c d f g h i rest are) ∙ whole) in
    let holds = long {a = a} {b = b} {c = c} {d = d} {e = f} {f = g} {g = h} {h = i} are (subst IsScalar (sym value) is) in
    record {
      front = 92 ∷ 85 ∷ a ∷ b ∷ c ∷ d ∷ f ∷ g ∷ h ∷ i ∷ [];
      rest = rest;
      text_is = refl;
      length_is = refl;
      some = omega arith;
      holds = alone_is _ _ (subst (EscapeValue (92 ∷ 85 ∷ a ∷ b ∷ c ∷ d ∷ f ∷ g ∷ h ∷ i ∷ [])) (ap encode_utf8 value) holds);
    }

long_is : (bs : List ℕ) (n : ℕ) (one : List ℕ) → by_number scalar 10 encode_utf8 (eight_of bs) ≡ Some (n, one) → Fronts n one (92 ∷ 85 ∷ bs)
long_is [] n one e = absurd (cc)
long_is (a ∷ []) n one e = absurd (cc)
long_is (a ∷ b ∷ []) n one e = absurd (cc)
long_is (a ∷ b ∷ c ∷ []) n one e = absurd (cc)
long_is (a ∷ b ∷ c ∷ d ∷ bs) n one e =
    let parts = number_some scalar 10 encode_utf8 (eight_of (a ∷ b ∷ c ∷ d ∷ bs)) n one e in
    let halves = joined_some (four_of (a ∷ b ∷ c ∷ d ∷ bs)) (four_of bs) parts.0 parts.1 in
    subst (λ m. Fronts m one (92 ∷ 85 ∷ a ∷ b ∷ c ∷ d ∷ bs)) parts.3
    (subst (λ w. Fronts 10 w (92 ∷ 85 ∷ a ∷ b ∷ c ∷ d ∷ bs)) parts.4 (long_parts a b c d bs halves.0 halves.1 parts.0 halves.2 halves.3 parts.1 parts.2))

numbered_is : (b : ℕ) (bs : List ℕ) (n : ℕ) (one : List ℕ) → numbered_of b bs ≡ Some (n, one) → Fronts n one (92 ∷ b ∷ bs)
numbered_is b bs n one =
    cond_both (b == 120) _ _ (λ o. o ≡ Some (n, one) → Fronts n one (92 ∷ b ∷ bs))
    (λ is. subst (λ x. by_number (λ _. true) 4 alone (pair_of bs) ≡ Some (n, one) → Fronts n one (92 ∷ x ∷ bs)) (sym (eqb-true b 120 is)) (byte_is bs n one))
    (λ _. cond_both (b == 117) _ _ (λ o. o ≡ Some (n, one) → Fronts n one (92 ∷ b ∷ bs))
    (λ is. subst (λ x. by_number scalar 6 encode_utf8 (four_of bs) ≡ Some (n, one) → Fronts n one (92 ∷ x ∷ bs)) (sym (eqb-true b 117 is)) (short_is bs n one))
    (λ _. cond_both (b == 85) _ _ (λ o. o ≡ Some (n, one) → Fronts n one (92 ∷ b ∷ bs))
    (λ is. subst (λ x. by_number scalar 10 encode_utf8 (eight_of bs) ≡ Some (n, one) → Fronts n one (92 ∷ x ∷ bs)) (sym (eqb-true b 85 is)) (long_is bs n one))
    (λ _. octal_is (b ∷ bs) n one)))

or_numbered_is : (o : Option ℕ) (b : ℕ) (bs : List ℕ) (n : ℕ) (one : List ℕ) → simple_of b ≡ o → or_numbered o b bs ≡ Some (n, one) → Fronts n one (92 ∷ b ∷ bs)
or_numbered_is None b bs n one at e = numbered_is b bs n one e
or_numbered_is (Some v) b bs n one at e =
    let same = pair_is 2 n (alone v) one (some_is _ _ e) in
    record {
      front = 92 ∷ b ∷ [];
      rest = bs;
      text_is = refl;
      length_is = same.0;
      some = omega (arith, same.0);
      holds = alone_is _ _ (subst (EscapeValue (92 ∷ b ∷ [])) same.1 (simple_is b v at));
    }

escape_is : (bs : List ℕ) (n : ℕ) (one : List ℕ) → escape_of bs ≡ Some (n, one) → Fronts n one (92 ∷ bs)
unfolding escape_of
escape_is [] n one e = absurd (cc)
escape_is (b ∷ bs) n one e = or_numbered_is (simple_of b) b bs n one refl e

pub element_is : (bs : List ℕ) (n : ℕ) (one : List ℕ) → element_of bs ≡ Some (n, one) → Fronts n one bs
unfolding element_of
element_is [] n one = λ e. absurd (cc)
element_is (b ∷ bs) n one =
    cond_both (b == 92) (escape_of bs) (Some (1, alone b)) (λ o. o ≡ Some (n, one) → Fronts n one (b ∷ bs))
    (λ is. subst (λ x. escape_of bs ≡ Some (n, one) → Fronts n one (x ∷ bs)) (sym (eqb-true b 92 is)) (escape_is bs n one))
    (λ not_is e.
    let same = pair_is 1 n (alone b) one (some_is _ _ e) in
    record {
      front = b ∷ [];
      rest = bs;
      text_is = refl;
      length_is = same.0;
      some = omega (arith, same.0);
      holds = subst (ElementsValue (b ∷ [])) same.1 (plain (ne_of b 92 not_is) none);
    })
  where
    ne_of : (x y : ℕ) → (x == y) ≡ false → x ≢ y
    ne_of x y e same = grind (arith, nat_tests)

-- values side by side
pub joined_values : (a b v w : List ℕ) → ElementsValue a v → ElementsValue b w → ElementsValue (a ++ b) (v ++ w)
joined_values _ b _ w none h = h
joined_values _ b _ w (plain {b = x} {back = back} {value = value} differs rest) h = plain differs (joined_values back b value w rest h)
joined_values _ b _ w (escaped {front = front} {back = back} {one = one} {value = value} is rest) h =
    simp append_assoc (escaped is (joined_values back b value w rest h))

plain_found : (b : ℕ) (bs : List ℕ) → b ≢ 92 → element_of (b ∷ bs) ≡ Some (1, alone b)
unfolding element_of
plain_found b bs differs = rw (ne_eqb b 92 differs) refl

-- a value is that of the element at the front, and one of what follows
pub record Begins (text value : List ℕ) : Type 0 where
  pub size : ℕ
  pub one : List ℕ
  pub others : List ℕ
  pub found : element_of text ≡ Some (size, one)
  pub rest : ElementsValue (drop size text) others
  pub value_is : value ≡ one ++ others

pub begins : (text value : List ℕ) → ElementsValue text value → text ≢ [] → Begins text value
begins _ _ none some = absurd (some refl)
begins _ _ (plain {b = b} {back = back} {value = value} differs rest) some =
    record { size = 1; one = b ∷ []; others = value; found = plain_found b back differs; rest = rest; value_is = refl }
begins _ _ (escaped {front = front} {back = back} {one = one} {value = value} is rest) some =
    record {
      size = length front;
      one = one;
      others = value;
      found = escape_found front one back is;
      rest = subst (λ x. ElementsValue x value) (sym (drop-append_seam front back)) rest;
      value_is = refl;
    }

-- the text is read so far
pub record IsReadTo (text : List ℕ) (at : ℕ) (value : List ℕ) : Type 0 where
  pub within : at ≤ length text
  pub read : ElementsValue (take at text) value

-- the front of what is left joins what was read
take_more : (text front rest : List ℕ) (at : ℕ) → at ≤ length text → drop at text ≡ front ++ rest → (take (at + length front) text ≡ take at text ++ front) × (at + length front ≤ length text)
take_more text front rest at within e =
    let whole : text ≡ (take at text ++ front) ++ rest = sym (take-append-drop at text) ∙ ap (λ ys. take at text ++ ys) e ∙ sym (append_assoc (take at text) front rest) in
    let size : length (take at text ++ front) ≡ at + length front = length-append (take at text) front ∙ ap (λ k. k + length front) (length-take-le at text within) in
    let cut : take (length (take at text ++ front)) ((take at text ++ front) ++ rest) ≡ take at text ++ front = take-append_seam (take at text ++ front) rest in (
      subst (λ n. take n text ≡ take at text ++ front) size (subst (λ t. take (length (take at text ++ front)) t ≡ take at text ++ front) (sym whole) cut),
      omega (arith, size, ap length whole, length-append (take at text ++ front) rest),
    )

-- the element at the front of what is left is read next
pub read_more : (text : List ℕ) (at : ℕ) (value : List ℕ) (n : ℕ) (one : List ℕ) → IsReadTo text at value → element_of (drop at text) ≡ Some (n, one) → IsReadTo text (at + n) (value ++ one)
read_more text at value n one done found =
    let f = element_is (drop at text) n one found in
    let parts = take_more text f.front f.rest at done.within f.text_is in
    let joined = joined_values (take at text) f.front value one done.read f.holds in
    subst (λ k. IsReadTo text (at + k) (value ++ one)) f.length_is
    (record { within = parts.1; read = subst (λ t. ElementsValue t (value ++ one)) (sym parts.0) joined })

pub some_read : (text : List ℕ) (n : ℕ) (one : List ℕ) → element_of text ≡ Some (n, one) → (0 < n) × (n ≤ length text)
some_read text n one found =
    let f = element_is text n one found in
    (f.some, omega (arith, f.length_is, ap length f.text_is, length-append f.front f.rest))

no_element : (text : List ℕ) (n : ℕ) (one : List ℕ) → element_of text ≡ Some (n, one) → text ≢ []
no_element text n one found e = let r = some_read text n one found in omega (arith, r.0, r.1, ap length e)

-- what a text with a value has behind a front with one
pub record Splits (front rest value whole : List ℕ) : Type 0 where
  pub others : List ℕ
  pub read : ElementsValue rest others
  pub whole_is : whole ≡ value ++ others

pub values_split : (front rest value whole : List ℕ) → ElementsValue front value → ElementsValue (front ++ rest) whole → Splits front rest value whole
values_split _ rest _ whole none h = record { others = whole; read = h; whole_is = refl }
values_split _ rest _ whole (plain {b = b} {back = back} {value = value} differs more) h =
    let b1 = begins (b ∷ (back ++ rest)) whole h (λ e. absurd (cc)) in
    let same = pair_is 1 b1.size (b ∷ []) b1.one (some_is _ _ (sym (plain_found b (back ++ rest) differs) ∙ b1.found)) in
    let read : ElementsValue (back ++ rest) b1.others = subst (λ n. ElementsValue (drop n (b ∷ (back ++ rest))) b1.others) (sym same.0) b1.rest in
    let s = values_split back rest value b1.others more read in
    record { others = s.others; read = s.read; whole_is = b1.value_is ∙ ap (λ x. x ++ b1.others) (sym same.1) ∙ ap (λ x. b ∷ x) s.whole_is }
values_split _ rest _ whole (escaped {front = front} {back = back} {one = one} {value = value} is more) h =
    let h2 : ElementsValue (front ++ (back ++ rest)) whole = subst (λ t. ElementsValue t whole) (append_assoc front back rest) h in
    let b1 = begins (front ++ (back ++ rest)) whole h2 (no_element (front ++ (back ++ rest)) (length front) one (escape_found front one (back ++ rest) is)) in
    let same = pair_is (length front) b1.size one b1.one (some_is _ _ (sym (escape_found front one (back ++ rest) is) ∙ b1.found)) in
    let read : ElementsValue (back ++ rest) b1.others = subst (λ t. ElementsValue t b1.others) (drop-append_seam front (back ++ rest)) (subst (λ n. ElementsValue (drop n (front ++ (back ++ rest))) b1.others) (sym same.0) b1.rest) in
    let s = values_split back rest value b1.others more read in
    record { others = s.others; read = s.read; whole_is = b1.value_is ∙ ap (λ x. x ++ b1.others) (sym same.1) ∙ ap (λ x. one ++ x) s.whole_is ∙ sym (append_assoc one value s.others) }

-- no value where what is left has none
pub read_none : (text : List ℕ) (at : ℕ) (value : List ℕ) → IsReadTo text at value → at < length text → element_of (drop at text) ≡ None → (whole : List ℕ) → ElementsValue text whole → ⊥
read_none text at value done more none_found whole h =
    let s = values_split (take at text) (drop at text) value whole done.read (subst (λ t. ElementsValue t whole) (sym (take-append-drop at text)) h) in
    let some : drop at text ≢ [] = λ e. absurd (omega (arith, length-drop at text, ap length e)) in
    let b = begins (drop at text) s.others s.read some in
    absurd (cc (b.found, none_found))

pub read_all : (text : List ℕ) (at : ℕ) (value : List ℕ) → IsReadTo text at value → length text ≤ at → ElementsValue text value
read_all text at value done all = subst (λ t. ElementsValue t value) (take_all at text all) done.read

-- a text has at most one value
pub one_value : (text v w : List ℕ) → ElementsValue text v → ElementsValue text w → v ≡ w
one_value text v w h k =
    let s = values_split text [] v w h (subst (λ t. ElementsValue t w) (sym (append_nil text)) k) in
    let empty : s.others ≡ [] = no_more s.others s.read in
    sym (s.whole_is ∙ ap (λ x. v ++ x) empty ∙ append_nil v)
  where
    nothing : (text value : List ℕ) → ElementsValue text value → text ≡ [] → value ≡ []
    nothing _ _ none e = refl
    nothing _ _ (plain differs more) e = absurd (cc)
    nothing _ _ (escaped {front = front} {back = back} {one = one} is more) e =
        let found = escape_found front one back is in
        absurd (no_element (front ++ back) (length front) one found e)

    no_more : (value : List ℕ) → ElementsValue [] value → value ≡ []
    no_more value h = nothing [] value h refl

-- the two ends of a literal
ends_same : (a b : ℕ) (xs ys : List ℕ) → xs ++ a ∷ [] ≡ ys ++ b ∷ [] → xs ≡ ys
ends_same a b [] [] e = refl
ends_same a b [] (y ∷ []) e = absurd (cc)
ends_same a b [] (y ∷ z ∷ ys) e = absurd (cc)
ends_same a b (x ∷ []) [] e = absurd (cc)
ends_same a b (x ∷ z ∷ xs) [] e = absurd (cc)
ends_same a b (x ∷ xs) (y ∷ ys) e =
    let first : x ≡ y = cc in
    let others : xs ++ a ∷ [] ≡ ys ++ b ∷ [] = cc in
    let same = ends_same a b xs ys others in
    cc

pub chars_value : (inner value literal : List ℕ) → literal ≡ 34 ∷ (inner ++ 34 ∷ []) → TextValue literal value → ElementsValue inner value
chars_value inner _ _ e (chars {inner = other} {value = value} h) = subst (λ t. ElementsValue t value) (ends_same 34 34 other inner (cc)) h
chars_value inner _ _ e (raw other) = absurd (omega (arith, heads 96 34 _ _ e))
  where
    heads : (a b : ℕ) (xs ys : List ℕ) → a ∷ xs ≡ b ∷ ys → a ≡ b
    heads a b xs ys e = cc

-- a literal has at most one value
pub one_text_value : (literal v w : List ℕ) → TextValue literal v → TextValue literal w → v ≡ w
one_text_value _ _ w (chars {inner = inner} {value = v} h) k = one_value inner v w h (chars_value inner w (34 ∷ (inner ++ 34 ∷ [])) refl k)
one_text_value _ _ w (raw inner) k = raw_value inner w (96 ∷ (inner ++ 96 ∷ [])) refl k
  where
    heads : (a b : ℕ) (xs ys : List ℕ) → a ∷ xs ≡ b ∷ ys → a ≡ b
    heads a b xs ys e = cc

    raw_value : (inner w literal : List ℕ) → literal ≡ 96 ∷ (inner ++ 96 ∷ []) → TextValue literal w → filter (λ c. not (c == 13)) inner ≡ w
    raw_value inner _ _ e (chars h) = absurd (omega (arith, heads 34 96 _ _ e))
    raw_value inner _ _ e (raw other) = ap (filter (λ c. not (c == 13))) (sym (ends_same 96 96 other inner (cc)))
