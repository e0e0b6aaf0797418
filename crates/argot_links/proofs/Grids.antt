-- A table of bits: one bit more, a row joined to another, and how many bits are 0.
use Rattle.std.proofs.Common.{◌≡◌, ℕ, zero, suc, ◌+◌, ◌*◌, ◌/◌, ◌%◌, ◌^◌, ◌<◌, ◌≤◌, ◌⊎◌, Bool, true, false, cond, nat_eq, List, length, get_or, set, replicate, bit_or, max, refl, sym, ap, ◌∙◌, subst, inl, inr, arith, eqb-true, eq-eqb}
use Rattle.std.specs.Int.{bit_at}
use Rattle.std.proofs.lemmas.Bool.{and_parts, and_from, ltb-true, lt-ltb, cases_eq, cases_lt, cases_order, both_ways, false_from_ne_true}
use Rattle.std.proofs.lemmas.List.{get_or-set_same, get_or-set_other, get_or_past, get_or-replicate, length-replicate}
use Rattle.std.proofs.lemmas.Nat.{same_from_place, mul-add-lt, row_fits}
use Rattle.std.proofs.lemmas.Nat.Bits.{bit_at-zero, bit_at-lt, bit_at_or}
use Rattle.std.proofs.Math.Nat.{mul_comm}
use Rattle.argot_links.specs.Pairs.{AddsPair, JoinsRow, refused, refused_below}
use Rattle.argot_links.specs.Grid.{Grid, run_bit, bit, zeros, SameSize, IsWithin}
use Rattle.argot_links.proofs.Wordwise.{bit_gained, max_cases, max_left, max_right}

-- a grid by its parts
abbrev pub grid : ℕ → ℕ → ℕ → List ℕ → Grid
grid rows cols stride words = record { rows = rows; cols = cols; stride = stride; words = words }

-- the index of the word with row a and column b
abbrev pub place : Grid → ℕ → ℕ → ℕ
place g a b = a * g.stride + b / 64

-- ---- a bit and its word

pub bit_true : (g : Grid) (a b : ℕ) → bit g a b ≡ true → (b / 64 < g.stride) × (run_bit g.words (a * g.stride) b ≡ 1)
unfolding bit
bit_true g a b h = let p = and_parts _ _ h in (ltb-true _ _ p.0, eqb-true _ _ p.1)

pub true_bit : (g : Grid) (a b : ℕ) → b / 64 < g.stride → run_bit g.words (a * g.stride) b ≡ 1 → bit g a b ≡ true
unfolding bit
true_bit g a b l e = and_from _ _ (lt-ltb _ _ l) (eq-eqb _ _ e)

pub bit_test : (g : Grid) (a b : ℕ) → b / 64 < g.stride → bit g a b ≡ nat_eq (run_bit g.words (a * g.stride) b) 1
unfolding bit
bit_test g a b l = rw (lt-ltb _ _ l) refl

-- a 0 in the run is no bit
pub zero_bit : (g : Grid) (a b : ℕ) → (b / 64 < g.stride → run_bit g.words (a * g.stride) b ≡ 0) → bit g a b ≡ false
zero_bit g a b z = false_from_ne_true (bit g a b) (λ h. let p = bit_true g a b h in let e = z p.0 in omega (arith, p.1))

-- the word of a column in range stands in its row, and the row's words in the grid
pub column_within : (cols n c : ℕ) → n ≡ (cols + 63) / 64 → c < cols → c / 64 < n
column_within cols n c e l = omega arith

pub place_within : (rows n r k len : ℕ) → len ≡ rows * n → r < rows → k < n → r * n + k < len
place_within rows n r k len e l m = omega (arith, e, mul-add-lt r n k rows l m, mul_comm rows n)

pub run_within : (rows n r len : ℕ) → len ≡ rows * n → r < rows → r * n + n ≤ len
run_within rows n r len e l = omega (arith, e, row_fits r n rows n l (omega arith))

-- ---- how many bits are 0

step_le : (x y : Bool) → (x ≡ true → y ≡ true) → cond y 0 1 ≤ cond x 0 1
step_le true true h = omega arith
step_le true false h = cc (h refl)
step_le false true h = omega arith
step_le false false h = omega arith

below_le : (f g : ℕ → Bool) (n : ℕ) → ((b : ℕ) → f b ≡ true → g b ≡ true) → refused_below g n ≤ refused_below f n
below_le f g zero h = omega arith
below_le f g (suc n) h = omega (arith, below_le f g n h, step_le (f n) (g n) (h n))

below_lt : (f g : ℕ → Bool) (n c : ℕ) → ((b : ℕ) → f b ≡ true → g b ≡ true) → c < n → f c ≡ false → g c ≡ true → refused_below g n < refused_below f n
below_lt f g zero c h l e i = absurd (omega arith)
below_lt f g (suc n) c h l e i = elim (cases_eq c n) [
  | inl q ↦ let was : ◌≡◌ {A = ℕ} (cond (f n) 0 1) 1 = rw (← q, e) refl in
      let now : ◌≡◌ {A = ℕ} (cond (g n) 0 1) 0 = rw (← q, i) refl in
      omega (arith, below_le f g n h, was, now)
  | inr q ↦ omega (arith, below_lt f g n c h (omega arith) e i, step_le (f n) (g n) (h n))
]

refused_le : (f g : ℕ → ℕ → Bool) (m n : ℕ) → ((a b : ℕ) → f a b ≡ true → g a b ≡ true) → refused g m n ≤ refused f m n
refused_le f g zero n h = omega arith
refused_le f g (suc m) n h = omega (arith, refused_le f g m n h, below_le (f m) (g m) n (h m))

pub refused_lt : (f g : ℕ → ℕ → Bool) (m n r c : ℕ) → ((a b : ℕ) → f a b ≡ true → g a b ≡ true) → r < m → c < n → f r c ≡ false → g r c ≡ true → refused g m n < refused f m n
refused_lt f g zero n r c h k l e i = absurd (omega arith)
refused_lt f g (suc m) n r c h k l e i = elim (cases_eq r m) [
  | inl q ↦ omega (arith, refused_le f g m n h, below_lt (f m) (g m) n c (h m) l (rw (← q) e) (rw (← q) i))
  | inr q ↦ omega (arith, refused_lt f g m n r c h (omega arith) l e i, below_le (f m) (g m) n (h m))
]

-- a grid with all that another has, and a bit more, has fewer zeros
pub zeros_fall : (g h : Grid) (r c : ℕ) → SameSize g h → ((a b : ℕ) → bit g a b ≡ true → bit h a b ≡ true) → r < g.rows → c < g.cols → bit g r c ≡ false → bit h r c ≡ true → zeros h < zeros g
unfolding zeros
zeros_fall g h r c s k l m e i =
    let q = refused_lt (bit g) (bit h) g.rows g.cols r c k l m e i in
    subst (λ x. refused (bit h) x h.cols < refused (bit g) g.rows g.cols) (sym s.rows) (subst (λ y. refused (bit h) g.rows y < refused (bit g) g.rows g.cols) (sym s.cols) q)

-- ---- one bit more

pub within_added : (g h : Grid) (r c : ℕ) → SameSize g h → AddsPair (bit g) (bit h) r c → r < g.rows → c < g.cols → IsWithin g → IsWithin h
within_added g h r c z s l m w a b k = elim (s.only a b k) [
  | inl o ↦ let p = w a b o in (rw z.rows p.0, rw z.cols p.1)
  | inr q ↦ (rw (z.rows, q.0) l, rw (z.cols, q.1) m)
]

pub added_already : (g : Grid) (r c : ℕ) → bit g r c ≡ true → AddsPair (bit g) (bit g) r c
added_already g r c h = record { there = h; kept = λ a b k. k; only = λ a b k. inl k }

-- the word of row r and column c gets that bit
pub adds_bit : (g h : Grid) (r c w : ℕ) → h.stride ≡ g.stride → h.words ≡ set g.words (place g r c) w → place g r c < length g.words → c / 64 < g.stride → bit_at w (c % 64) ≡ 1 → ((i : ℕ) → (i ≡ c % 64 → ⊥) → bit_at w i ≡ bit_at (get_or g.words (place g r c) 0) i) → AddsPair (bit g) (bit h) r c
adds_bit g h r c w stride words within column same others =
    let at = place g r c in
    let here : (a b : ℕ) → place g a b ≡ at → get_or h.words (place h a b) 0 ≡ w = λ a b e. rw (stride, words, e) (get_or-set_same g.words at w 0 within) in
    let there : (a b : ℕ) → (place g a b ≡ at → ⊥) → get_or h.words (place h a b) 0 ≡ get_or g.words (place g a b) 0 = λ a b n. rw (stride, words) (get_or-set_other g.words at (place g a b) w 0 n) in
    record {
      there = true_bit h r c (rw stride column) (rw (here r c refl) same);
      kept = λ a b k. let p = bit_true g a b k in
          elim (cases_eq (place g a b) at) [
            | inl e ↦ elim (cases_eq (b % 64) (c % 64)) [
              | inl m ↦ true_bit h a b (rw stride p.0) (rw (here a b e, m) same)
              | inr m ↦ true_bit h a b (rw stride p.0) (rw (here a b e) (others (b % 64) m ∙ (rw (← e) p.1)))
            ]
            | inr n ↦ true_bit h a b (rw stride p.0) (rw (there a b n) p.1)
          ];
      only = λ a b k. let p = bit_true h a b k in
          let l : b / 64 < g.stride = rw (← stride) p.0 in
          elim (cases_eq (place g a b) at) [
            | inl e ↦ let q = same_from_place a (b / 64) r (c / 64) g.stride l column e in
                elim (cases_eq (b % 64) (c % 64)) [
                  | inl m ↦ inr (q.0, omega (arith, q.1, m))
                  | inr m ↦ inl (true_bit g a b l (rw e (sym (others (b % 64) m) ∙ (ap (λ x. bit_at x (b % 64)) (sym (here a b e)) ∙ p.1))))
                ]
            | inr n ↦ inl (true_bit g a b l (ap (λ x. bit_at x (b % 64)) (sym (there a b n)) ∙ p.1))
          ];
    }

-- ---- no bit

zero_at : (n i z : ℕ) → get_or (replicate n z) i z ≡ z
zero_at n i z = elim (cases_lt i n) [ inl l ↦ get_or-replicate n i z z l | inr m ↦ get_or_past (replicate n z) i z (rw length-replicate m) ]

pub nothing_at : (g : Grid) → ((j : ℕ) → get_or g.words j 0 ≡ 0) → (a b : ℕ) → bit g a b ≡ false
nothing_at g e a b = zero_bit g a b (λ l. ap (λ x. bit_at x (b % 64)) (e (place g a b)) ∙ bit_at-zero (b % 64))

pub nothing : (g : Grid) (n : ℕ) → g.words ≡ replicate n 0 → (a b : ℕ) → bit g a b ≡ false
nothing g n e = nothing_at g (λ j. ap (λ ws. get_or ws j 0) e ∙ zero_at n j 0)

pub within_nothing : (g : Grid) → ((a b : ℕ) → bit g a b ≡ false) → IsWithin g
within_nothing g e a b h = absurd (both_ways _ (e a b) h)

-- ---- a row joined to another

-- the words of two rows are the same, or apart
pub rows_apart : (a b n : ℕ) → (a * n ≡ b * n) ⊎ ((a * n + n ≤ b * n) ⊎ (b * n + n ≤ a * n))
rows_apart a b n = elim (cases_order a b) [
  | inl e ↦ inl (ap (λ x. x * n) e)
  | inr o ↦ inr (elim o [ inl l ↦ inl (row_fits a n b n l (omega arith)) | inr l ↦ inr (row_fits b n a n l (omega arith)) ])
]

module _ (g h : Grid) (source target : ℕ) (stride : h.stride ≡ g.stride)
    (inside : (k : ℕ) → k < g.stride → get_or h.words (target * g.stride + k) 0 ≡ bit_or (get_or g.words (target * g.stride + k) 0) (get_or g.words (source * g.stride + k) 0))
    (outside : (j : ℕ) → (j < target * g.stride) ⊎ (target * g.stride + g.stride ≤ j) → get_or h.words j 0 ≡ get_or g.words j 0) where
  other_row : (a b : ℕ) → (a ≡ target → ⊥) → b / 64 < g.stride → get_or h.words (place h a b) 0 ≡ get_or g.words (place g a b) 0
  other_row a b n l = rw stride (outside (a * g.stride + b / 64) (elim (cases_order a target) [
    | inl e ↦ absurd (n e)
    | inr o ↦ elim o [
      | inl m ↦ inl (omega (arith, row_fits a g.stride target g.stride m (omega arith)))
      | inr m ↦ inr (omega (arith, row_fits target g.stride a g.stride m (omega arith)))
    ]
  ]))

  this_row : (b : ℕ) → b / 64 < g.stride → run_bit h.words (target * h.stride) b ≡ max (run_bit g.words (target * g.stride) b) (run_bit g.words (source * g.stride) b)
  this_row b l = rw stride (ap (λ x. bit_at x (b % 64)) (inside (b / 64) l) ∙ bit_at_or _ _ (b % 64))

  pub joins_bits : JoinsRow (bit g) (bit h) source target
  joins_bits = record {
    there = λ b k. let p = bit_true g source b k in
        true_bit h target b (rw stride p.0) (this_row b p.0 ∙ max_right _ _ (bit_at-lt _ _) p.1);
    kept = λ a b k. let p = bit_true g a b k in elim (cases_eq a target) [
      | inl e ↦ rw e (true_bit h target b (rw stride p.0) (this_row b p.0 ∙ max_left _ _ (rw (← e) p.1) (bit_at-lt _ _)))
      | inr n ↦ true_bit h a b (rw stride p.0) (ap (λ x. bit_at x (b % 64)) (other_row a b n p.0) ∙ p.1)
    ];
    only = λ a b k. let p = bit_true h a b k in
        let l : b / 64 < g.stride = rw (← stride) p.0 in
        elim (cases_eq a target) [
          | inl e ↦ let q : run_bit h.words (target * h.stride) b ≡ 1 = rw (← e) p.1 in
              elim (max_cases _ _ (bit_at-lt _ _) (bit_at-lt _ _) (sym (this_row b l) ∙ q)) [
                | inl x ↦ inl (rw e (true_bit g target b l x))
                | inr y ↦ inr (e, true_bit g source b l y)
              ]
          | inr n ↦ inl (true_bit g a b l (ap (λ x. bit_at x (b % 64)) (sym (other_row a b n l)) ∙ p.1))
        ];
  }

  pub within_joined : SameSize g h → target < g.rows → IsWithin g → IsWithin h
  within_joined s t w a b k = elim (joins_bits.only a b k) [
    | inl o ↦ let p = w a b o in (rw s.rows p.0, rw s.cols p.1)
    | inr q ↦ let p = w source b q.1 in (rw (s.rows, q.0) t, rw s.cols p.1)
  ]

  -- a word that changed has a bit more
  pub zeros_joined : SameSize g h → target < g.rows → IsWithin g → ((j : ℕ) → get_or g.words j 0 < 2 ^ 64) → (k : ℕ) → k < g.stride → (get_or h.words (target * g.stride + k) 0 ≡ get_or g.words (target * g.stride + k) 0 → ⊥) → zeros h < zeros g
  zeros_joined s t w fits k l ne =
      let d = bit_gained (get_or g.words (target * g.stride + k) 0) (get_or g.words (source * g.stride + k) 0) (fits _) (fits _) (λ e. ne (inside k l ∙ e)) in
      let b = 64 * k + d.0 in
      let below : d.0 < 64 = d.1 in
      let q : b / 64 ≡ k = omega arith in
      let r : b % 64 ≡ d.0 = omega arith in
      let there : bit g source b ≡ true = true_bit g source b (rw q l) (rw (q, r) d.3) in
      let absent : bit g target b ≡ false = false_from_ne_true _ (λ y. let z : bit_at (get_or g.words (target * g.stride + k) 0) d.0 ≡ 1 = rw (q, r) at ((bit_true g target b y).1) in omega (arith, z, d.2)) in
      zeros_fall g h target b s joins_bits.kept t (w source b there).1 absent (joins_bits.there b there)
