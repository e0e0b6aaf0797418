-- Quotes at the ends of a word.
use Rattle.std.proofs.Common.{◌≡◌, ℕ, zero, suc, ◌+◌, ◌-◌, ◌<◌, ◌≤◌, ◌⊎◌, ◌≢◌, get_or, List, [], ◌∷◌, ◌++◌, true, false, take, drop, length, refl, sym, ap, ◌∙◌, subst, arith, inl, inr}
use Rattle.std.specs.Prelude.{slice_get, Some, take_while}
use Rattle.std.specs.List.{prefix_len, list_all}
use Rattle.std.proofs.lemmas.Bool.{cases_eq}
use Rattle.argot_names_rules.specs.GoMod.{is_quote, IsCut}
use Rattle.argot_names_module.proofs.Cutting.{Stops, at_all, cut_passes, cut_stops, cut_whole}
use Rattle.argot_names_module.proofs.Searching.{get_drop}

pub none_last : (bs : List ℕ) (b : ℕ) → [] ≡ bs ++ b ∷ [] → ⊥
none_last [] b e = absurd (cc)
none_last (c ∷ bs) b e = absurd (cc)

-- what stands last of the first bytes of a text
pub last_of : (n : ℕ) (text bs : List ℕ) (b : ℕ) → n < length text → take (suc n) text ≡ bs ++ b ∷ [] → slice_get text n ≡ Some b
last_of n [] bs b l e = absurd (omega arith)
last_of zero (x ∷ xs) [] b l e = cc
last_of zero (x ∷ xs) (c ∷ bs) b l e = let t : [] ≡ bs ++ b ∷ [] = cc in absurd (none_last bs b t)
last_of (suc n) (x ∷ []) [] b l e = absurd (omega arith)
last_of (suc n) (x ∷ y ∷ ys) [] b l e = absurd (cc)
last_of (suc n) (x ∷ xs) (c ∷ bs) b l e = let t : take (suc n) xs ≡ bs ++ b ∷ [] = cc in last_of n xs bs b (omega arith) t

at_or : (xs : List ℕ) (k b : ℕ) → slice_get xs k ≡ Some b → get_or xs k 0 ≡ b
at_or [] k b e = absurd (cc)
at_or (x ∷ xs) zero b e = cc
at_or (x ∷ xs) (suc k) b e = at_or xs k b e

-- one byte more that is a quote
pub one_more : (text : List ℕ) (at : ℕ) → 0 < at → ((k b : ℕ) → at ≤ k → slice_get text k ≡ Some b → is_quote b ≡ true) → is_quote (get_or text (at - 1) 0) ≡ true
    → (k b : ℕ) → at - 1 ≤ k → slice_get text k ≡ Some b → is_quote b ≡ true
one_more text at some all this k b low e = go (cases_eq k (at - 1))
  where
    go : (k ≡ at - 1) ⊎ (k ≢ at - 1) → is_quote b ≡ true
    go (inl same) = subst (λ x. is_quote x ≡ true) (at_or text (at - 1) b (subst (λ j. slice_get text j ≡ Some b) same e)) this
    go (inr apart) = all k b (omega (arith, apart)) e

-- all from a place on are quotes
pub quotes_from : (text : List ℕ) (at : ℕ) → ((k b : ℕ) → at ≤ k → slice_get text k ≡ Some b → is_quote b ≡ true) → list_all is_quote (drop at text) ≡ true
quotes_from text at all = at_all is_quote (drop at text) (λ b k e. all (at + k) b (omega arith) (sym (get_drop at text k) ∙ e))

take_drop : (n : ℕ) (xs : List ℕ) → xs ≡ take n xs ++ drop n xs
take_drop zero xs = refl
take_drop (suc n) [] = refl
take_drop (suc n) (x ∷ xs) = ap (λ ys. x ∷ ys) (take_drop n xs)

-- the first byte of a text that stops
stops_at : (text : List ℕ) → Stops is_quote text → (b : ℕ) (bs : List ℕ) → text ≡ b ∷ bs → is_quote b ≡ false
stops_at text (inl none) b bs e = absurd (cc)
stops_at text (inr h) b bs e = let same : h.0 ≡ b = cc in subst (λ x. is_quote x ≡ false) same h.3

pub cut_quotes : (word behind : List ℕ) (n : ℕ) → behind ≡ drop (prefix_len is_quote word) word → list_all is_quote (drop n behind) ≡ true
    → ((b : ℕ) (bs : List ℕ) → take n behind ≡ bs ++ b ∷ [] → is_quote b ≡ false) → IsCut word (take n behind)
cut_quotes word behind n is back before = record {
  front = take_while is_quote word;
  back = drop n behind;
  is = cut_whole is_quote word ∙ ap (λ t. take_while is_quote word ++ t) (sym is ∙ take_drop n behind);
  front_is = at_all is_quote (take_while is_quote word) (λ b k e. cut_passes is_quote word k b e);
  back_is = back;
  begins = λ b bs e. stops_at behind (subst (Stops is_quote) (sym is) (cut_stops is_quote word)) b (bs ++ drop n behind) (take_drop n behind ∙ ap (λ t. t ++ drop n behind) e);
  ends = before;
}
