-- Numbers that decimal digits write.
use Rattle.std.proofs.Common.{◌≡◌, ◌≢◌, ℕ, zero, suc, ◌+◌, ◌*◌, ◌<◌, ◌≤◌, ◌^◌, List, [], ◌∷◌, ◌++◌, Bool, true, false, drop, length, get_or, refl, sym, ap, ◌∙◌, subst, arith, inl, inr}
use Rattle.std.specs.Prelude.{take_while}
use Rattle.std.specs.List.{prefix_len}
use Rattle.std.specs.Char.{digit_value}
use Rattle.argot_tree.specs.Literals.{value_behind, value_of, are_digits}
use Rattle.argot_names_rules.specs.GoMod.{HasNumbers}
use Rattle.argot_names_module.specs.Lines.{is_decimal}
use Rattle.argot_names_module.proofs.Cutting.{Stops, at_all, all_at, cut_passes, cut_stops, cut_whole, cut_front, cut_rest}

pub at_least : (ds : List ℕ) (before : ℕ) → before ≤ value_behind 10 before ds
at_least [] before = omega arith
at_least (d ∷ ds) before = let more = at_least ds (before * 10 + digit_value d) in omega (arith, more)

pub drop_or : (i : ℕ) (xs : List ℕ) → i < length xs → drop i xs ≡ get_or xs i 0 ∷ drop (suc i) xs
drop_or i [] l = absurd (omega arith)
drop_or zero (x ∷ xs) l = refl
drop_or (suc i) (x ∷ xs) l = drop_or i xs (omega arith)

-- a digit with which the number doesn't fit
pub too_large : (digits : List ℕ) (i value digit : ℕ) → i < length digits → value_behind 10 value (drop i digits) ≡ value_of 10 digits → digit ≡ digit_value (get_or digits i 0) → 2 ^ 32 ≤ value * 10 + digit → 2 ^ 32 ≤ value_of 10 digits
too_large digits i value digit l e is big =
    let next : value_behind 10 value (drop i digits) ≡ value_behind 10 (value * 10 + digit) (drop (suc i) digits) = ap (value_behind 10 value) (drop_or i digits l) ∙ ap (λ d. value_behind 10 (value * 10 + d) (drop (suc i) digits)) (sym is) in
    let more = at_least (drop (suc i) digits) (value * 10 + digit) in
    omega (arith, next, e, big, more)

-- what the code cuts is what the definition says
module _ (word front rest back : List ℕ) (front_is : front ≡ take_while is_decimal word) (rest_is : drop (prefix_len is_decimal word) word ≡ 46 ∷ rest) (back_is : back ≡ take_while is_decimal rest) where
  far : (text : List ℕ) → Stops is_decimal text → (b : ℕ) (bs : List ℕ) → text ≡ b ∷ bs → are_digits 10 (b ∷ []) ≡ false
  far text (inl none) b bs e = absurd (cc)
  far text (inr h) b bs e = let same : h.0 ≡ b = cc in subst (λ x. are_digits 10 (x ∷ []) ≡ false) same (alone h.0 h.3)
    where
      alone : (x : ℕ) → is_decimal x ≡ false → are_digits 10 (x ∷ []) ≡ false
      alone x e = rw e refl

  pub numbers : (major minor : ℕ) → front ≢ [] → back ≢ [] → major ≡ value_of 10 front → minor ≡ value_of 10 back → major < 2 ^ 32 → minor < 2 ^ 32 → HasNumbers word major minor
  numbers major minor some more one two fits fits_too = record {
    front = front;
    back = back;
    behind = drop (prefix_len is_decimal rest) rest;
    is = cut_whole is_decimal word ∙ (ap (λ t. t ++ drop (prefix_len is_decimal word) word) (sym front_is) ∙ ap (λ t. front ++ t) (rest_is ∙ ap (λ t. 46 ∷ t) (cut_whole is_decimal rest ∙ ap (λ t. t ++ drop (prefix_len is_decimal rest) rest) (sym back_is))));
    front_some = some;
    back_some = more;
    front_is = subst (λ t. are_digits 10 t ≡ true) (sym front_is) (at_all is_decimal (take_while is_decimal word) (λ b k e. cut_passes is_decimal word k b e));
    back_is = subst (λ t. are_digits 10 t ≡ true) (sym back_is) (at_all is_decimal (take_while is_decimal rest) (λ b k e. cut_passes is_decimal rest k b e));
    far = far (drop (prefix_len is_decimal rest) rest) (cut_stops is_decimal rest);
    major_is = one;
    minor_is = two;
    major_fits = fits;
    minor_fits = fits_too;
  }

-- a definition's numbers are those that are cut
module _ (word : List ℕ) {major minor : ℕ} (h : HasNumbers word major minor) where
  dot_stops : Stops is_decimal (46 ∷ (h.back ++ h.behind))
  dot_stops = inr (46, h.back ++ h.behind, refl, refl)

  pub front_of : take_while is_decimal word ≡ h.front
  front_of = ap (take_while is_decimal) h.is ∙ cut_front is_decimal h.front (46 ∷ (h.back ++ h.behind)) (λ b k e. all_at is_decimal h.front h.front_is b k e) dot_stops

  pub rest_of : drop (prefix_len is_decimal word) word ≡ 46 ∷ (h.back ++ h.behind)
  rest_of = ap (λ w. drop (prefix_len is_decimal w) w) h.is ∙ cut_rest is_decimal h.front (46 ∷ (h.back ++ h.behind)) (λ b k e. all_at is_decimal h.front h.front_is b k e) dot_stops

  ends : (text : List ℕ) → ((b : ℕ) (bs : List ℕ) → text ≡ b ∷ bs → are_digits 10 (b ∷ []) ≡ false) → Stops is_decimal text
  ends [] far = inl refl
  ends (b ∷ bs) far = inr (b, bs, refl, alone (far b bs refl))
    where
      alone : are_digits 10 (b ∷ []) ≡ false → is_decimal b ≡ false
      alone far = split (is_decimal b) refl
        where
          split : (c : Bool) → is_decimal b ≡ c → is_decimal b ≡ false
          split false e = e
          split true e = absurd (let both : are_digits 10 (b ∷ []) ≡ true = rw e refl in let never : true ≡ false = sym both ∙ far in cc)

  pub back_of : (rest : List ℕ) → drop (prefix_len is_decimal word) word ≡ 46 ∷ rest → take_while is_decimal rest ≡ h.back
  back_of rest e =
      let both : 46 ∷ (h.back ++ h.behind) ≡ 46 ∷ rest = sym rest_of ∙ e in
      let same : h.back ++ h.behind ≡ rest = cc in
      ap (take_while is_decimal) (sym same) ∙ cut_front is_decimal h.back h.behind (λ b k e. all_at is_decimal h.back h.back_is b k e) (ends h.behind h.far)
