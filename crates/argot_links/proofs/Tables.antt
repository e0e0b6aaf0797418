-- What a grid stands for has what the grid has.
use Rattle.std.proofs.Common.{◌≡◌, ℕ, zero, suc, ◌+◌, ◌-◌, ◌<◌, ◌≤◌, Bool, true, false, [], length, get_or, refl, sym, ap, ◌∙◌, subst, inl, inr, arith}
use Rattle.std.proofs.lemmas.Bool.{cases_lt, cases_Bool, both_ways, false_from_ne_true}
use Rattle.argot_links.specs.Members.{has as contains, IsAscending}
use Rattle.argot_links.specs.Pairs.{AddsPair, JoinsRow, refused, refused_below}
use Rattle.argot_links.specs.Grid.{Grid, bit, zeros, SameSize, IsWithin}
use Rattle.argot_links.specs.Table.{Table, row, has, columns, rows_from, table_of, room, SameShape, AreAscending}
use Rattle.argot_links.proofs.Ascending.{columns_ascend, columns_have, columns_only, columns_same, columns_none}

length-rows_from : (g : Grid) (r n : ℕ) → length (rows_from g r n) ≡ n
length-rows_from g r zero = refl
length-rows_from g r (suc n) = ap suc (length-rows_from g (suc r) n)

row_at : (g : Grid) (r n k : ℕ) → k < n → get_or (rows_from g r n) k [] ≡ columns (bit g (r + k)) 0 g.cols
row_at g r zero k l = absurd (omega arith)
row_at g r (suc n) zero l = ap (λ x. columns (bit g x) 0 g.cols) (omega arith)
row_at g r (suc n) (suc k) l = row_at g (suc r) n k (omega arith) ∙ ap (λ x. columns (bit g x) 0 g.cols) (omega arith)

row_past : (g : Grid) (r n k : ℕ) → n ≤ k → get_or (rows_from g r n) k [] ≡ []
row_past g r zero k l = refl
row_past g r (suc n) zero l = absurd (omega arith)
row_past g r (suc n) (suc k) l = row_past g (suc r) n k (omega arith)

pub length-table : (g : Grid) → length (table_of g).rows ≡ g.rows
unfolding table_of
length-table g = length-rows_from g 0 g.rows

pub cols-table : (g : Grid) → (table_of g).cols ≡ g.cols
unfolding table_of
cols-table g = refl

row_is : (g : Grid) (r : ℕ) → r < g.rows → row (table_of g) r ≡ columns (bit g r) 0 g.cols
unfolding table_of
row_is g r l = row_at g 0 g.rows r l ∙ ap (λ x. columns (bit g x) 0 g.cols) (omega arith)

row_beyond : (g : Grid) (r : ℕ) → g.rows ≤ r → row (table_of g) r ≡ []
unfolding table_of
row_beyond g r l = row_past g 0 g.rows r l

pub ascending-table : (g : Grid) → AreAscending (table_of g)
ascending-table g r = elim (cases_lt r g.rows) [
  | inl l ↦ subst IsAscending (sym (row_is g r l)) (columns_ascend (bit g r) 0 g.cols)
  | inr m ↦ subst IsAscending (sym (row_beyond g r m)) tt
]

pub row_empty : (g : Grid) → ((a b : ℕ) → bit g a b ≡ false) → (r : ℕ) → row (table_of g) r ≡ []
row_empty g none r = elim (cases_lt r g.rows) [
  | inl l ↦ row_is g r l ∙ columns_none (bit g r) 0 g.cols (λ b k. none r b)
  | inr m ↦ row_beyond g r m
]

into : (g : Grid) → IsWithin g → (a b : ℕ) → bit g a b ≡ true → has (table_of g) a b ≡ true
unfolding has
into g w a b h =
    let p = w a b h in
    ap (λ xs. contains xs b) (row_is g a p.0) ∙ columns_have (bit g a) 0 g.cols b h (omega arith) (omega (arith, p.1))

out_of : (g : Grid) (a b : ℕ) → has (table_of g) a b ≡ true → bit g a b ≡ true
unfolding has
out_of g a b h = elim (cases_lt a g.rows) [
  | inl l ↦ columns_only (bit g a) 0 g.cols b (sym (ap (λ xs. contains xs b) (row_is g a l)) ∙ h)
  | inr m ↦ let k : contains [] b ≡ true = sym (ap (λ xs. contains xs b) (row_beyond g a m)) ∙ h in cc
]

pub has-table : (g : Grid) → IsWithin g → (a b : ℕ) → has (table_of g) a b ≡ bit g a b
has-table g w a b = elim (cases_Bool (bit g a b)) [
  | inl t ↦ into g w a b t ∙ sym t
  | inr o ↦ false_from_ne_true _ (λ h. both_ways _ o (out_of g a b h)) ∙ sym o
]

pub row_in : (g : Grid) (t : Table) → table_of g ≡ t → (r : ℕ) → r < length t.rows → r < g.rows
row_in g t e r l = let k : r < length (table_of g).rows = rw (← e) at l in omega (arith, k, length-table g)

pub col_in : (g : Grid) (t : Table) → table_of g ≡ t → (c : ℕ) → c < t.cols → c < g.cols
col_in g t e c l = let k : c < (table_of g).cols = rw (← e) at l in omega (arith, k, cols-table g)

pub same_shape : (g h : Grid) → SameSize g h → SameShape (table_of g) (table_of h)
same_shape g h s = record { rows = length-table h ∙ s.rows ∙ sym (length-table g); cols = cols-table h ∙ s.cols ∙ sym (cols-table g) }

module _ (g h : Grid) (v : IsWithin g) (w : IsWithin h) where
  pub adds_table : (r c : ℕ) → AddsPair (bit g) (bit h) r c → AddsPair (has (table_of g)) (has (table_of h)) r c
  adds_table r c a = record {
    there = has-table h w r c ∙ a.there;
    kept = λ x y k. has-table h w x y ∙ a.kept x y (sym (has-table g v x y) ∙ k);
    only = λ x y k. elim (a.only x y (sym (has-table h w x y) ∙ k)) [ inl o ↦ inl (has-table g v x y ∙ o) | inr e ↦ inr e ];
  }

  pub joins_table : (source target : ℕ) → JoinsRow (bit g) (bit h) source target → JoinsRow (has (table_of g)) (has (table_of h)) source target
  joins_table source target a = record {
    there = λ y k. has-table h w target y ∙ a.there y (sym (has-table g v source y) ∙ k);
    kept = λ x y k. has-table h w x y ∙ a.kept x y (sym (has-table g v x y) ∙ k);
    only = λ x y k. elim (a.only x y (sym (has-table h w x y) ∙ k)) [ inl o ↦ inl (has-table g v x y ∙ o) | inr e ↦ inr (e.0, has-table g v source y ∙ e.1) ];
  }

below_same : (f g : ℕ → Bool) (n : ℕ) → ((b : ℕ) → f b ≡ g b) → refused_below f n ≡ refused_below g n
below_same f g zero e = refl
below_same f g (suc n) e = rw (e n, below_same f g n e) refl

refused_same : (f g : ℕ → ℕ → Bool) (m n : ℕ) → ((a b : ℕ) → f a b ≡ g a b) → refused f m n ≡ refused g m n
refused_same f g zero n e = refl
refused_same f g (suc m) n e = rw (refused_same f g m n e, below_same (f m) (g m) n (e m)) refl

pub room-table : (g : Grid) → IsWithin g → room (table_of g) ≡ zeros g
unfolding room zeros table_of
room-table g w = rw (length-table g, cols-table g) (refused_same _ _ g.rows g.cols (has-table g w))

pub row_columns : (g : Grid) (t : Table) → table_of g ≡ t → IsWithin g → (r : ℕ) → r < length t.rows → columns (has t r) 0 (t.cols - 0) ≡ row t r
row_columns g t e w r l =
    let m = row_in g t e r l in
    let n : (table_of g).cols - 0 ≡ g.cols = omega (arith, cols-table g) in
    rw (← e) (ap (λ k. columns (has (table_of g) r) 0 k) n ∙ columns_same (has (table_of g) r) (bit g r) 0 g.cols (has-table g w r) ∙ sym (row_is g r m))
