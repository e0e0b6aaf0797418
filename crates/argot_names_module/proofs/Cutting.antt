-- Texts that are cut at the first byte that fails a test, and what stands before a comment.
use Rattle.std.proofs.Common.{◌≡◌, ◌≢◌, ℕ, zero, suc, ◌+◌, ◌<◌, ◌≤◌, ◌⊎◌, inl, inr, List, [], ◌∷◌, ◌++◌, Bool, true, false, not, cond, take, drop, length, refl, sym, ap, ◌∙◌, subst, arith, length-append}
use Rattle.std.specs.Prelude.{nat_eq, codes, take_while, slice_get, Some, if◌then◌else◌, ◌&&◌, ◌||◌}
use Rattle.std.specs.List.{prefix_len, list_all, list_any, starts_with}
use Rattle.std.specs.Str.{IsUtf8}
use Rattle.std.proofs.lemmas.List.Folds.{length-prefix_len}
use Rattle.argot_names_rules.specs.GoMod.{separates, before_comment, IsWord, HasWords}
use Rattle.argot_names_module.specs.Lines.{is_in_word, behind_blank, word_of, behind_word}

-- a text is empty or its first byte fails
abbrev pub Stops : (ℕ → Bool) → List ℕ → Type 0
Stops p text = (text ≡ []) ⊎ ((b : ℕ) × (bs : List ℕ) × (text ≡ b ∷ bs) × (p b ≡ false))

both_true : (a b : Bool) → (a && b) ≡ true → (a ≡ true) × (b ≡ true)
both_true true b e = (refl, e)
both_true false b e = absurd (cc)

-- a front whose bytes pass, before a text that stops, is the whole front that passes
pub cut_len : (p : ℕ → Bool) (xs ys : List ℕ) → ((b : ℕ) (k : ℕ) → slice_get xs k ≡ Some b → p b ≡ true) → Stops p ys → prefix_len p (xs ++ ys) ≡ length xs
cut_len p [] ys all (inl none) = ap (prefix_len p) none
cut_len p [] ys all (inr h) = ap (prefix_len p) h.2 ∙ ap (λ c. cond c (1 + prefix_len p h.1) 0) h.3
cut_len p (x ∷ xs) ys all s =
    let first : p x ≡ true = all x 0 refl in
    let more = cut_len p xs ys (λ b k e. all b (suc k) e) s in
    ap (λ c. cond c (1 + prefix_len p (xs ++ ys)) 0) first ∙ omega (arith, more)

take_front : (xs ys : List ℕ) → take (length xs) (xs ++ ys) ≡ xs
take_front [] ys = refl
take_front (x ∷ xs) ys = ap (λ zs. x ∷ zs) (take_front xs ys)

drop_front : (xs ys : List ℕ) → drop (length xs) (xs ++ ys) ≡ ys
drop_front [] ys = refl
drop_front (x ∷ xs) ys = drop_front xs ys

pub cut_front : (p : ℕ → Bool) (xs ys : List ℕ) → ((b : ℕ) (k : ℕ) → slice_get xs k ≡ Some b → p b ≡ true) → Stops p ys → take_while p (xs ++ ys) ≡ xs
cut_front p xs ys all s = ap (λ n. take n (xs ++ ys)) (cut_len p xs ys all s) ∙ take_front xs ys

pub cut_rest : (p : ℕ → Bool) (xs ys : List ℕ) → ((b : ℕ) (k : ℕ) → slice_get xs k ≡ Some b → p b ≡ true) → Stops p ys → drop (prefix_len p (xs ++ ys)) (xs ++ ys) ≡ ys
cut_rest p xs ys all s = ap (λ n. drop n (xs ++ ys)) (cut_len p xs ys all s) ∙ drop_front xs ys

-- and so any text is cut
pub cut_passes : (p : ℕ → Bool) (text : List ℕ) (k b : ℕ) → slice_get (take_while p text) k ≡ Some b → p b ≡ true
cut_passes p [] k b e = absurd (cc)
cut_passes p (x ∷ xs) k b e = go (λ j f. cut_passes p xs j b f) (p x) refl k e
  where
    one : (n : ℕ) → 1 + n ≡ suc n
    one n = omega arith

    go : ((j : ℕ) → slice_get (take_while p xs) j ≡ Some b → p b ≡ true) → (c : Bool) → p x ≡ c → (k : ℕ) → slice_get (take (cond c (1 + prefix_len p xs) 0) (x ∷ xs)) k ≡ Some b → p b ≡ true
    go more false h k e = absurd (cc)
    go more true h zero e = let f : slice_get (take (suc (prefix_len p xs)) (x ∷ xs)) 0 ≡ Some b = subst (λ n. slice_get (take n (x ∷ xs)) 0 ≡ Some b) (one (prefix_len p xs)) e in let same : x ≡ b = cc in ap p (sym same) ∙ h
    go more true h (suc k) e = more k (subst (λ n. slice_get (take n (x ∷ xs)) (suc k) ≡ Some b) (one (prefix_len p xs)) e)

pub cut_stops : (p : ℕ → Bool) (text : List ℕ) → Stops p (drop (prefix_len p text) text)
cut_stops p [] = inl refl
cut_stops p (x ∷ xs) = go (cut_stops p xs) (p x) refl
  where
    one : (n : ℕ) → suc n ≡ 1 + n
    one n = omega arith

    go : Stops p (drop (prefix_len p xs) xs) → (c : Bool) → p x ≡ c → Stops p (drop (cond c (1 + prefix_len p xs) 0) (x ∷ xs))
    go more false h = inr (x, xs, refl, h)
    go more true h = subst (λ n. Stops p (drop n (x ∷ xs))) (one (prefix_len p xs)) more

take_drop : (n : ℕ) (xs : List ℕ) → take n xs ++ drop n xs ≡ xs
take_drop zero xs = refl
take_drop (suc n) [] = refl
take_drop (suc n) (x ∷ xs) = ap (λ ys. x ∷ ys) (take_drop n xs)

pub cut_whole : (p : ℕ → Bool) (text : List ℕ) → text ≡ take_while p text ++ drop (prefix_len p text) text
cut_whole p text = sym (take_drop (prefix_len p text) text)

-- tests of all bytes, and of some
pub all_at : (p : ℕ → Bool) (xs : List ℕ) → list_all p xs ≡ true → (b k : ℕ) → slice_get xs k ≡ Some b → p b ≡ true
all_at p [] e b k f = absurd (cc)
all_at p (x ∷ xs) e b zero f = let same : x ≡ b = cc in ap p (sym same) ∙ (both_true (p x) (list_all p xs) e).0
all_at p (x ∷ xs) e b (suc k) f = all_at p xs (both_true (p x) (list_all p xs) e).1 b k f

pub at_all : (p : ℕ → Bool) (xs : List ℕ) → ((b k : ℕ) → slice_get xs k ≡ Some b → p b ≡ true) → list_all p xs ≡ true
at_all p [] h = refl
at_all p (x ∷ xs) h = ap (λ c. c && list_all p xs) (h x 0 refl) ∙ at_all p xs (λ b k e. h b (suc k) e)

none_left : (a b : Bool) → (a || b) ≡ false → (a ≡ false) × (b ≡ false)
none_left true b e = absurd (cc)
none_left false b e = (refl, e)

pub none_at : (p : ℕ → Bool) (xs : List ℕ) → list_any p xs ≡ false → (b k : ℕ) → slice_get xs k ≡ Some b → p b ≡ false
none_at p [] e b k f = absurd (cc)
none_at p (x ∷ xs) e b zero f = let same : x ≡ b = cc in ap p (sym same) ∙ (none_left (p x) (list_any p xs) e).0
none_at p (x ∷ xs) e b (suc k) f = none_at p xs (none_left (p x) (list_any p xs) e).1 b k f

pub at_none : (p : ℕ → Bool) (xs : List ℕ) → ((b k : ℕ) → slice_get xs k ≡ Some b → p b ≡ false) → list_any p xs ≡ false
at_none p [] h = refl
at_none p (x ∷ xs) h = ap (λ c. c || list_any p xs) (h x 0 refl) ∙ at_none p xs (λ b k e. h b (suc k) e)

-- what stands before a comment, byte by byte
pub comment_here : (text : List ℕ) → starts_with nat_eq text (codes "//") ≡ true → before_comment text ≡ []
comment_here [] e = refl
comment_here (b ∷ bs) e = ap (λ c. if c then [] else (b ∷ before_comment bs)) e

pub no_comment : (b : ℕ) (bs : List ℕ) → starts_with nat_eq (b ∷ bs) (codes "//") ≡ false → before_comment (b ∷ bs) ≡ b ∷ before_comment bs
no_comment b bs e = ap (λ c. if c then [] else (b ∷ before_comment bs)) e

pub before_none : (line : List ℕ) (i : ℕ) → ((k : ℕ) → k < i → starts_with nat_eq (drop k line) (codes "//") ≡ false) → i ≤ length line → before_comment line ≡ take i line ++ before_comment (drop i line)
before_none line zero none l = refl
before_none [] (suc i) none l = absurd (omega arith)
before_none (b ∷ bs) (suc i) none l =
    no_comment b bs (none 0 (omega arith)) ∙ ap (λ xs. b ∷ xs) (before_none bs i (λ k m. none (suc k) (omega arith)) (omega arith))

-- the words of a text, cut one after the other
blank_stops : (text : List ℕ) → text ≢ [] → list_any separates text ≡ false → (rest : List ℕ) → Stops separates (text ++ rest)
blank_stops [] some e rest = absurd (some refl)
blank_stops (b ∷ bs) some e rest = inr (b, bs ++ rest, refl, none_at separates (b ∷ bs) e b 0 refl)

word_passes : (word : List ℕ) → list_any separates word ≡ false → (b k : ℕ) → slice_get word k ≡ Some b → is_in_word b ≡ true
word_passes word e b k f = ap not (none_at separates word e b k f)

word_stops : (rest : List ℕ) → (rest ≡ []) ⊎ ((b : ℕ) × (bs : List ℕ) × (rest ≡ b ∷ bs) × (separates b ≡ true)) → Stops is_in_word rest
word_stops rest (inl e) = inl e
word_stops rest (inr h) = inr (h.0, h.1, h.2, ap not h.3)

module _ (text blank first between second behind : List ℕ) (is : text ≡ blank ++ (first ++ (between ++ (second ++ behind)))) (blank_is : list_all separates blank ≡ true) (between_is : list_all separates between ≡ true)
    (first_is : IsWord first (between ++ (second ++ behind))) (second_is : IsWord second behind) where
  tail : List ℕ
  tail = between ++ (second ++ behind)

  pub blank_cut : (prefix_len separates text ≡ length blank) × (behind_blank text ≡ first ++ (between ++ (second ++ behind)))
  blank_cut =
      let stops = blank_stops first first_is.some first_is.whole (between ++ (second ++ behind)) in (
        ap (prefix_len separates) is ∙ cut_len separates blank (first ++ (between ++ (second ++ behind))) (all_at separates blank blank_is) stops,
        ap behind_blank is ∙ cut_rest separates blank (first ++ (between ++ (second ++ behind))) (all_at separates blank blank_is) stops,
      )

  pub first_cut : (word_of (behind_blank text) ≡ first) × (behind_word (behind_blank text) ≡ between ++ (second ++ behind))
  first_cut = (
    ap word_of blank_cut.1 ∙ cut_front is_in_word first (between ++ (second ++ behind)) (word_passes first first_is.whole) (word_stops (between ++ (second ++ behind)) first_is.ends),
    ap behind_word blank_cut.1 ∙ cut_rest is_in_word first (between ++ (second ++ behind)) (word_passes first first_is.whole) (word_stops (between ++ (second ++ behind)) first_is.ends),
  )

  pub second_cut : word_of (behind_blank (behind_word (behind_blank text))) ≡ second
  second_cut =
      let stops = blank_stops second second_is.some second_is.whole behind in
      ap (λ t. word_of (behind_blank t)) first_cut.1
      ∙ (ap word_of (cut_rest separates between (second ++ behind) (all_at separates between between_is) stops)
      ∙ cut_front is_in_word second behind (word_passes second second_is.whole) (word_stops behind second_is.ends))

-- a line that has such words
pub line_words : (line first second : List ℕ) (skipped : ℕ) → HasWords line first second skipped
    → (word_of (behind_blank (before_comment line)) ≡ first) × (word_of (behind_blank (behind_word (behind_blank (before_comment line)))) ≡ second) × (prefix_len separates (before_comment line) ≡ skipped)
line_words line first second skipped h =
    let text = before_comment line in (
      (first_cut text h.blank first h.between second h.behind h.is h.blank_is h.between_is h.first_is h.second_is).0,
      second_cut text h.blank first h.between second h.behind h.is h.blank_is h.between_is h.first_is h.second_is,
      (blank_cut text h.blank first h.between second h.behind h.is h.blank_is h.between_is h.first_is h.second_is).0 ∙ sym h.skipped_is,
    )

not_not : (b : Bool) → not b ≡ true → b ≡ false
not_not false e = refl
not_not true e = absurd (cc)

not_false : (b : Bool) → not b ≡ false → b ≡ true
not_false true e = refl
not_false false e = absurd (cc)

is_word : (text : List ℕ) → word_of text ≢ [] → IsWord (word_of text) (behind_word text)
is_word text some =
    record {
      some = some;
      whole = at_none separates (word_of text) (λ b k e. not_not (separates b) (cut_passes is_in_word text k b e));
      ends = elim (cut_stops is_in_word text) [ inl e ↦ inl e | inr h ↦ inr (h.0, h.1, h.2, not_false (separates h.0) h.3) ];
    }

len_take : (p : ℕ → Bool) (text : List ℕ) → prefix_len p text ≡ length (take_while p text)
len_take p text = sym (length-prefix_len p text)

pub words_line : (line : List ℕ) → IsUtf8 line → word_of (behind_blank (before_comment line)) ≢ [] → word_of (behind_blank (behind_word (behind_blank (before_comment line)))) ≢ []
    → HasWords line (word_of (behind_blank (before_comment line))) (word_of (behind_blank (behind_word (behind_blank (before_comment line))))) (prefix_len separates (before_comment line))
words_line line utf8 some_first some_second =
    let text = before_comment line in
    let a = behind_blank text in
    let b = behind_word a in
    let d = behind_blank b in
    let rest : b ≡ take_while separates b ++ (word_of d ++ behind_word d) = cut_whole separates b ∙ ap (λ t. take_while separates b ++ t) (cut_whole is_in_word d) in
    record {
      blank = take_while separates text;
      between = take_while separates b;
      behind = behind_word d;
      is_utf8 = utf8;
      is = cut_whole separates text ∙ ap (λ t. take_while separates text ++ t) (cut_whole is_in_word a ∙ ap (λ t. word_of a ++ t) rest);
      blank_is = at_all separates (take_while separates text) (λ x k e. cut_passes separates text k x e);
      between_is = at_all separates (take_while separates b) (λ x k e. cut_passes separates b k x e);
      first_is = subst (IsWord (word_of a)) rest (is_word a some_first);
      second_is = is_word d some_second;
      skipped_is = len_take separates text;
    }

-- what the code cuts is what the definitions cut
module _ (line text front back rest first second : List ℕ) (text_is : text ≡ before_comment line) (front_is : front ≡ behind_blank text) (back_is : back ≡ behind_word front) (rest_is : rest ≡ behind_blank back)
    (first_is : first ≡ word_of front) (second_is : second ≡ word_of rest) where
  first_of_line : first ≡ word_of (behind_blank (before_comment line))
  first_of_line = first_is ∙ (ap word_of front_is ∙ ap (λ t. word_of (behind_blank t)) text_is)

  second_of_line : second ≡ word_of (behind_blank (behind_word (behind_blank (before_comment line))))
  second_of_line = second_is ∙ (ap word_of rest_is ∙ (ap (λ t. word_of (behind_blank t)) back_is ∙ (ap (λ t. word_of (behind_blank (behind_word t))) front_is ∙ ap (λ t. word_of (behind_blank (behind_word (behind_blank t)))) text_is)))

  pub cut_line : (word : List ℕ) (skipped : ℕ) → IsUtf8 line → first ≡ word → word ≢ [] → second ≢ [] → skipped ≡ prefix_len separates text → HasWords line word second skipped
  cut_line word skipped utf8 same some_word some_second s =
      let line_first : word_of (behind_blank (before_comment line)) ≡ word = sym first_of_line ∙ same in
      let h = words_line line utf8 (λ e. some_word (sym line_first ∙ e)) (λ e. some_second (second_of_line ∙ e)) in
      let skip : prefix_len separates (before_comment line) ≡ skipped = sym (s ∙ ap (prefix_len separates) text_is) in
      subst (λ n. HasWords line word second n) skip (subst (λ x. HasWords line word x (prefix_len separates (before_comment line))) (sym second_of_line) (subst (λ x. HasWords line x (word_of (behind_blank (behind_word (behind_blank (before_comment line))))) (prefix_len separates (before_comment line))) line_first h))

  pub other_first : (word other : List ℕ) (skipped : ℕ) → (first ≡ word → ⊥) → HasWords line word other skipped → ⊥
  other_first word other skipped never h = never (first_of_line ∙ (line_words line word other skipped h).0)

  pub no_second : (word other : List ℕ) (skipped : ℕ) → (second ≢ [] → ⊥) → HasWords line word other skipped → ⊥
  no_second word other skipped never h = never (λ e. h.second_is.some (sym (line_words line word other skipped h).1 ∙ (sym second_of_line ∙ e)))

-- the separators at the front of a line are no more than the line has
comment_short : (line : List ℕ) → length (before_comment line) ≤ length line
comment_short [] = omega arith
comment_short (b ∷ bs) = go (comment_short bs) (starts_with nat_eq (b ∷ bs) (codes "//"))
  where
    go : length (before_comment bs) ≤ length bs → (c : Bool) → length (if c then [] else (b ∷ before_comment bs)) ≤ length (b ∷ bs)
    go l true = omega arith
    go l false = omega (arith, l)

pub skipped_within : (line first second : List ℕ) (skipped : ℕ) → HasWords line first second skipped → skipped ≤ length line
skipped_within line first second skipped h =
    omega (arith, h.skipped_is, comment_short line, ap length h.is, length-append h.blank (first ++ (h.between ++ (second ++ h.behind))))
