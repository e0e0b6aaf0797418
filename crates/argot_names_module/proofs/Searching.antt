-- The lines of a file, one after the other.
use Rattle.std.proofs.Common.{◌≡◌, ◌≢◌, ℕ, zero, suc, ◌+◌, ◌<◌, ◌≤◌, ◌⊎◌, inl, inr, List, [], ◌∷◌, Bool, true, false, not, take, drop, length, refl, sym, ap, ◌∙◌, subst, arith, length-drop}
use Rattle.std.specs.Prelude.{slice_get, Some, nat_lt, ◌-◌, take_while, ◌==◌}
use Rattle.std.specs.List.{prefix_len}
use Rattle.std.proofs.lemmas.Bool.{cases_eq, eqb-true, eq-eqb}
use Rattle.std.proofs.lemmas.Bool.Decides.{nat_tests}
use Rattle.std.proofs.lemmas.List.Folds.{length-prefix_len}
use Rattle.std.proofs.lemmas.List.Sums.{prefix_len-le-length}
use Rattle.argot_names_rules.specs.GoMod.{BeginsLine, top, behind, line_at, HasWords, FirstLine}
use Rattle.argot_names_module.specs.Lines.{is_in_line}
use Rattle.argot_names_module.proofs.Cutting.{cut_passes, cut_stops, line_words, Stops}

pub get_drop : (n : ℕ) (xs : List ℕ) (j : ℕ) → slice_get (drop n xs) j ≡ slice_get xs (n + j)
get_drop zero xs j = let at : j ≡ 0 + j = omega arith in ap (slice_get xs) at
get_drop (suc n) [] j = refl
get_drop (suc n) (x ∷ xs) j = get_drop n xs j ∙ (let at : suc (n + j) ≡ suc n + j = omega arith in ap (slice_get (x ∷ xs)) at)

get_take : (n : ℕ) (xs : List ℕ) (j : ℕ) → j < n → slice_get (take n xs) j ≡ slice_get xs j
get_take zero xs j l = absurd (omega arith)
get_take (suc n) [] j l = refl
get_take (suc n) (x ∷ xs) zero l = refl
get_take (suc n) (x ∷ xs) (suc j) l = get_take n xs j (omega arith)

get_within : (xs : List ℕ) (k b : ℕ) → slice_get xs k ≡ Some b → k < length xs
get_within [] k b e = absurd (cc)
get_within (x ∷ xs) zero b e = omega arith
get_within (x ∷ xs) (suc k) b e = let l = get_within xs k b e in omega (arith, l)

pub get_there : (xs : List ℕ) (k : ℕ) → k < length xs → (b : ℕ) × (slice_get xs k ≡ Some b)
get_there [] k l = absurd (omega arith)
get_there (x ∷ xs) zero l = (x, refl)
get_there (x ∷ xs) (suc k) l = get_there xs k (omega arith)

len_take : (p : ℕ → Bool) (text : List ℕ) → length (take_while p text) ≡ prefix_len p text
len_take p text = length-prefix_len p text

is_newline : (b : ℕ) → is_in_line b ≡ false → b ≡ 10
is_newline b e = eqb-true b 10 (flip (b == 10) e)
  where
    flip : (c : Bool) → not c ≡ false → c ≡ true
    flip true e = refl
    flip false e = absurd (cc)

newline_out : (b : ℕ) → b ≡ 10 → is_in_line b ≡ false
newline_out b e = ap not (eq-eqb b 10 e)

-- the byte behind a line is a newline, where there is one
line_end : (bytes : List ℕ) (at b : ℕ) → slice_get bytes (at + length (line_at bytes at)) ≡ Some b → b ≡ 10
line_end bytes at b e = go (cut_stops is_in_line (drop at bytes))
  where
    n : ℕ
    n = prefix_len is_in_line (drop at bytes)

    there : slice_get (drop n (drop at bytes)) 0 ≡ Some b
    there = get_drop n (drop at bytes) 0 ∙ (get_drop at bytes (n + 0) ∙ ((let same : at + (n + 0) ≡ at + length (line_at bytes at) = omega (arith, len_take is_in_line (drop at bytes)) in ap (slice_get bytes) same) ∙ e))

    go : Stops is_in_line (drop n (drop at bytes)) → b ≡ 10
    go (inl none) = let gone = sym (ap (λ t. slice_get t 0) none) ∙ there in absurd (cc)
    go (inr h) = let same : Some h.0 ≡ Some b = sym (ap (λ t. slice_get t 0) h.2) ∙ there in let is : h.0 ≡ b = cc in sym is ∙ is_newline h.0 h.3

-- no newline stands in a line
in_line : (bytes : List ℕ) (at k b : ℕ) → at ≤ k → k < at + length (line_at bytes at) → slice_get bytes k ≡ Some b → b ≡ 10 → ⊥
in_line bytes at k b low high e ten = go (split k low)
  where
    split : (k : ℕ) → at ≤ k → (j : ℕ) × (k ≡ at + j)
    split k l = (k - at, omega arith)

    go : (j : ℕ) × (k ≡ at + j) → ⊥
    go h =
        let below : h.0 < prefix_len is_in_line (drop at bytes) = omega (arith, h.1, high, len_take is_in_line (drop at bytes)) in
        let there : slice_get (line_at bytes at) h.0 ≡ Some b = get_take (prefix_len is_in_line (drop at bytes)) (drop at bytes) h.0 below ∙ (get_drop at bytes h.0 ∙ (ap (slice_get bytes) (sym h.1) ∙ e)) in
        let yes = cut_passes is_in_line (drop at bytes) h.0 b there in
        let never = newline_out b ten in
        absurd (cc)

low_high : (a b : ℕ) → a ≢ b → (a < b) ⊎ (b < a)
low_high a b apart = split (nat_lt a b) refl
  where
    below : nat_lt a b ≡ true → a < b
    below h = grind (arith, nat_tests)

    not_below : nat_lt a b ≡ false → b ≤ a
    not_below h = grind (arith, nat_tests)

    split : (c : Bool) → nat_lt a b ≡ c → (a < b) ⊎ (b < a)
    split true h = inl (below h)
    split false h = inr (let l = not_below h in omega (arith, l, apart))

module _ (bytes word : List ℕ) where
  -- a line begins there, where the bytes reach so far, and none before has the words
  pub record IsSearched (at : ℕ) : Type 0 where
    pub begins : at ≤ length bytes → BeginsLine bytes at
    pub before : (other skips : ℕ) (second : List ℕ) → BeginsLine bytes other → HasWords (line_at bytes other) word second skips → other < at → ⊥

  pub searched_none : IsSearched 0
  searched_none = record { begins = λ l. top; before = λ other skips second b w l. absurd (omega arith) }

  pub searched_more : (at next : ℕ) → at ≤ length bytes → IsSearched at → ((second : List ℕ) (skips : ℕ) → HasWords (line_at bytes at) word second skips → ⊥) → next ≡ at + length (line_at bytes at) + 1 → IsSearched next
  searched_more at next within s none e =
      record {
        begins = λ l.
            let g = get_there bytes (at + length (line_at bytes at)) (omega (arith, e, l)) in
            subst (BeginsLine bytes) (sym e) (behind (at + length (line_at bytes at)) (g.1 ∙ ap (λ b. Some b) (line_end bytes at g.0 g.1)));
        before = λ other skips second b w l. go other skips second b w l (cases_eq other at);
      }
    where
      inside : (other : ℕ) → BeginsLine bytes other → at < other → other < next → ⊥
      inside _ top l m = absurd (omega arith)
      inside _ (behind k ten) l m = in_line bytes at k 10 (omega arith) (omega (arith, e)) ten refl

      go : (other skips : ℕ) (second : List ℕ) → BeginsLine bytes other → HasWords (line_at bytes other) word second skips → other < next → (other ≡ at) ⊎ (other ≢ at) → ⊥
      go other skips second b w l (inl same) = none second skips (subst (λ o. HasWords (line_at bytes o) word second skips) same w)
      go other skips second b w l (inr apart) = elim (low_high other at apart) [ inl low ↦ s.before other skips second b w low | inr high ↦ inside other b high l ]

  line_within : (at : ℕ) → BeginsLine bytes at → at ≤ length bytes
  line_within _ top = omega arith
  line_within _ (behind k e) = let l = get_within bytes k 10 e in omega (arith, l)

  pub found : (at skips offset : ℕ) (second : List ℕ) → at ≤ length bytes → IsSearched at → HasWords (line_at bytes at) word second skips → offset ≡ at + skips → FirstLine bytes word offset second
  found at skips offset second within s w e =
      record { at = at; skipped = skips; begins = s.begins within; has = w; offset_is = e; first = λ other skips words b w l. s.before other skips words b w l }

  pub found_one : (at skips offset : ℕ) (second : List ℕ) → at ≤ length bytes → IsSearched at → HasWords (line_at bytes at) word second skips → offset ≡ at + skips → (o : ℕ) (t : List ℕ) → FirstLine bytes word o t → (o ≡ offset) × (t ≡ second)
  found_one at skips offset second within s w e o t f = go (cases_eq f.at at)
    where
      go : (f.at ≡ at) ⊎ (f.at ≢ at) → (o ≡ offset) × (t ≡ second)
      go (inl same) =
          let mine = line_words (line_at bytes at) word second skips w in
          let other = line_words (line_at bytes at) word t f.skipped (subst (λ a. HasWords (line_at bytes a) word t f.skipped) same f.has) in
          let skip : f.skipped ≡ skips = sym other.2 ∙ mine.2 in
          (omega (arith, f.offset_is, e, same, skip), sym other.1 ∙ mine.1)
      go (inr apart) =
          elim (low_high f.at at apart) [ inl low ↦ absurd (s.before f.at f.skipped t f.begins f.has low) | inr high ↦ absurd (f.first at skips second (s.begins within) w high) ]

  pub found_none : (at : ℕ) → length bytes < at → IsSearched at → (o : ℕ) (t : List ℕ) → FirstLine bytes word o t → ⊥
  found_none at past s o t f = s.before f.at f.skipped t f.begins f.has (omega (arith, line_within f.at f.begins, past))

-- a line ends within the bytes
pub line_room : (bytes : List ℕ) (at : ℕ) → at ≤ length bytes → at + length (line_at bytes at) ≤ length bytes
line_room bytes at l = omega (arith, len_take is_in_line (drop at bytes), prefix_len-le-length is_in_line (drop at bytes), length-drop at bytes)
