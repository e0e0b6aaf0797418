-- The list of the pairs that pass a test.
use Rattle.std.proofs.Common.{◌≡◌, ◌&&◌, ℕ, zero, suc, ◌+◌, ◌<◌, ◌≤◌, Bool, true, false, List, [], ◌∷◌, ◌++◌, Some, length, refl, sym, ap, ◌∙◌, inl, inr, arith, subst}
use Rattle.std.specs.Prelude.{◌↔◌, slice_get}
use Rattle.std.proofs.lemmas.Bool.{cases_eq}
use Rattle.argot_links.specs.Table.{Table}
use Rattle.argot_plain.specs.Code.{Code}
use Rattle.argot_plain.specs.Lists.{In, here, there}
use Rattle.argot_plain.specs.WellFormed.{WellFormed}
use Rattle.argot_facts.specs.Exact.{ArePoints, AreFollowing, AreFollowingBy, WritesMemory, ReadsMemory}
use Rattle.argot_facts.specs.Findings.{TargetBefore, by_place, by_function}
use Rattle.argot_facts.specs.Graphs.{IsOrdered}
use Rattle.argot_facts.specs.Handed.{FactsOf}
use Rattle.argot_facts.specs.Marked.{IsSet}
use Rattle.argot_facts.specs.Pointing.{Pointing}
use Rattle.argot_facts.specs.Refers.{Fact, Holds}
use Rattle.argot_facts.proofs.Growing.{follows_grows}
use Rattle.argot_facts.proofs.Handed.{facts_hold, holds_facts}
use Rattle.argot_facts.proofs.Listed.{In-append, In-left, In-right, get_within, in_of_get}
use Rattle.argot_control.specs.Controlled.{behind, flag, is_pair, pair_where, pairs_with, pairs_from, pairs_by, IsExactly}

module _ (f : ℕ → ℕ → Bool) where
  where_is : (t : Bool) (a b x y : ℕ) → In {A = ℕ × ℕ} (x, y) (pair_where t a b) → (x ≡ a) × (y ≡ b) × (t ≡ true)
  where_is true a b x y (here e) = (ap (λ (s : ℕ × ℕ). s.0) e, ap (λ (s : ℕ × ℕ). s.1) e, refl)
  where_is true a b x y (there m) = elim m [ ]
  where_is false a b x y m = elim m [ ]

  is_where : (t : Bool) (a b : ℕ) → t ≡ true → In {A = ℕ × ℕ} (a, b) (pair_where t a b)
  is_where true a b e = here refl
  is_where false a b e = absurd cc

  with_is : (a at n x y : ℕ) → In {A = ℕ × ℕ} (x, y) (pairs_with f a at n) → (x ≡ a) × (at ≤ y) × (y < at + n) × (f a y ≡ true)
  with_is a at zero x y m = elim m [ ]
  with_is a at (suc n) x y m = elim (In-append {A = ℕ × ℕ} (x, y) (pair_where (f a at) a at) (pairs_with f a (suc at) n) m) [
    | inl h ↦ let w = where_is (f a at) a at x y h in let e = w.1 in (w.0, omega arith, omega arith, ap (f a) e ∙ w.2)
    | inr h ↦ let w = with_is a (suc at) n x y h in let l = w.1 in let k = w.2 in (w.0, omega arith, omega arith, w.3)
  ]

  is_with : (a at n y : ℕ) → at ≤ y → y < at + n → f a y ≡ true → In {A = ℕ × ℕ} (a, y) (pairs_with f a at n)
  is_with a at zero y low high e = absurd (omega arith)
  is_with a at (suc n) y low high e = elim (cases_eq y at) [
    | inl s ↦ In-left {A = ℕ × ℕ} (a, y) (pair_where (f a at) a at) (pairs_with f a (suc at) n) (subst (λ z. In {A = ℕ × ℕ} (a, z) (pair_where (f a at) a at)) (sym s) (is_where (f a at) a at (ap (f a) (sym s) ∙ e)))
    | inr s ↦ In-right {A = ℕ × ℕ} (a, y) (pair_where (f a at) a at) (pairs_with f a (suc at) n) (is_with a (suc at) n y (omega arith) (omega arith) e)
  ]

  from_is : (m at n x y : ℕ) → In {A = ℕ × ℕ} (x, y) (pairs_from f m at n) → (at ≤ x) × (x < at + n) × (y < m) × (f x y ≡ true)
  from_is m at zero x y h = elim h [ ]
  from_is m at (suc n) x y h = elim (In-append {A = ℕ × ℕ} (x, y) (pairs_with f at 0 m) (pairs_from f m (suc at) n) h) [
    | inl k ↦ let w = with_is at 0 m x y k in let e = w.0 in let l = w.2 in (omega arith, omega arith, omega arith, ap (λ z. f z y) e ∙ w.3)
    | inr k ↦ let w = from_is m (suc at) n x y k in let l = w.0 in let g = w.1 in (omega arith, omega arith, w.2, w.3)
  ]

  is_from : (m at n x y : ℕ) → at ≤ x → x < at + n → y < m → f x y ≡ true → In {A = ℕ × ℕ} (x, y) (pairs_from f m at n)
  is_from m at zero x y low high l e = absurd (omega arith)
  is_from m at (suc n) x y low high l e = elim (cases_eq x at) [
    | inl s ↦ In-left {A = ℕ × ℕ} (x, y) (pairs_with f at 0 m) (pairs_from f m (suc at) n) (subst (λ z. In {A = ℕ × ℕ} (z, y) (pairs_with f at 0 m)) (sym s) (is_with at 0 m y (omega arith) (omega arith) (ap (λ z. f z y) (sym s) ∙ e)))
    | inr s ↦ In-right {A = ℕ × ℕ} (x, y) (pairs_with f at 0 m) (pairs_from f m (suc at) n) (is_from m (suc at) n x y (omega arith) (omega arith) l e)
  ]

  shorter : (x : ℕ × ℕ) (xs : List (ℕ × ℕ)) (k : ℕ) (b : ℕ × ℕ) → slice_get (x ∷ xs) (suc k + 1) ≡ Some b → slice_get xs (k + 1) ≡ Some b
  shorter x xs k b g = let e : suc k + 1 ≡ suc (k + 1) = omega arith in subst (λ n. slice_get (x ∷ xs) n ≡ Some b) e g

  longer : (x : ℕ × ℕ) (xs : List (ℕ × ℕ)) (k : ℕ) (b : ℕ × ℕ) → slice_get xs (k + 1) ≡ Some b → slice_get (x ∷ xs) (suc k + 1) ≡ Some b
  longer x xs k b g = let e : suc (k + 1) ≡ suc k + 1 = omega arith in subst (λ n. slice_get (x ∷ xs) n ≡ Some b) e g

  -- two lists in order are one, where all of the first stand before all of the second
  ordered_both : (xs ys : List (ℕ × ℕ)) → IsOrdered TargetBefore xs → IsOrdered TargetBefore ys → ((a b : ℕ × ℕ) → In a xs → In b ys → TargetBefore a b) → IsOrdered TargetBefore (xs ++ ys)
  ordered_both [] ys o q between k a b h g = q k a b h g
  ordered_both (x ∷ []) ys o q between zero a b h g = let e : Some x ≡ Some a = h in let s : a ≡ x = cc in between a b (here s) (in_of_get ys 0 b g)
  ordered_both (x ∷ []) ys o q between (suc k) a b h g = q k a b h (shorter x ys k b g)
  ordered_both (x ∷ y ∷ xs) ys o q between zero a b h g = o 0 a b h g
  ordered_both (x ∷ y ∷ xs) ys o q between (suc k) a b h g = ordered_both (y ∷ xs) ys (λ j c d u v. o (suc j) c d u (longer x (y ∷ xs) j d v)) q (λ c d m n. between c d (there m) n) k a b h (shorter x (y ∷ xs ++ ys) k b g)

  ordered_where : (t : Bool) (a b : ℕ) → IsOrdered TargetBefore (pair_where t a b)
  ordered_where true a b zero c d h g = absurd cc
  ordered_where true a b (suc k) c d h g = absurd cc
  ordered_where false a b k c d h g = absurd cc

  ordered_with : (a at n : ℕ) → IsOrdered TargetBefore (pairs_with f a at n)
  ordered_with a at zero k c d h g = absurd cc
  ordered_with a at (suc n) i u' v' h' g' = ordered_both (pair_where (f a at) a at) (pairs_with f a (suc at) n) (ordered_where (f a at) a at) (ordered_with a (suc at) n)
      (λ c d m k.
      let u = where_is (f a at) a at c.0 c.1 m in
      let v = with_is a (suc at) n d.0 d.1 k in
      let l = v.1 in
      let e = u.1 in
      by_function (u.0 ∙ sym v.0) (omega arith)) i u' v' h' g'

  pub ordered_from : (m at n : ℕ) → IsOrdered TargetBefore (pairs_from f m at n)
  ordered_from m at zero k c d h g = absurd cc
  ordered_from m at (suc n) i u' v' h' g' = ordered_both (pairs_with f at 0 m) (pairs_from f m (suc at) n) (ordered_with at 0 m) (ordered_from m (suc at) n)
      (λ c d h k.
      let u = with_is at 0 m c.0 c.1 h in
      let v = from_is m (suc at) n d.0 d.1 k in
      let l = v.0 in
      let e = u.0 in
      by_place (omega arith)) i u' v' h' g'

set_flag : (flags : List Bool) (n : ℕ) → IsSet flags n → flag flags n ≡ true
set_flag [] n s = absurd cc
set_flag (x ∷ flags) zero s = let e : Some x ≡ Some true = s in let f : x ≡ true = cc in f
set_flag (x ∷ flags) (suc n) s = set_flag flags n s

flag_set : (flags : List Bool) (n : ℕ) → flag flags n ≡ true → IsSet flags n
flag_set [] n e = absurd cc
flag_set (x ∷ flags) zero e = ap Some e
flag_set (x ∷ flags) (suc n) e = flag_set flags n e

all_three : (x y z : Bool) → x && (y && z) ≡ true → (x ≡ true) × (y ≡ true) × (z ≡ true)
all_three true true true e = (refl, refl, refl)
all_three true true false e = absurd cc
all_three true false z e = absurd cc
all_three false y z e = absurd cc

of_three : (x y z : Bool) → x ≡ true → y ≡ true → z ≡ true → x && (y && z) ≡ true
of_three true true true d e f = refl
of_three true true false d e f = absurd cc
of_three true false z d e f = absurd cc
of_three false y z d e f = absurd cc

module _ (numbers : List ℕ) (t : Table) (writes reads : List Bool) where
  -- what stands in the list
  pub listed : (a b : ℕ) → In {A = ℕ × ℕ} (a, b) (pairs_by numbers t writes reads) → IsSet writes a × IsSet reads b × (behind numbers t a b ≡ true)
  listed a b m =
      let u = from_is (is_pair numbers t writes reads) (length numbers) 0 (length numbers) a b m in
      let v = all_three (flag writes a) (flag reads b) (behind numbers t a b) u.3 in
      (flag_set writes a v.0, flag_set reads b v.1, v.2)

  pub lists : (a b : ℕ) → length writes ≡ length numbers → length reads ≡ length numbers → IsSet writes a → IsSet reads b → behind numbers t a b ≡ true → In {A = ℕ × ℕ} (a, b) (pairs_by numbers t writes reads)
  lists a b c d w r e =
      let l = get_within writes a true w in
      let k = get_within reads b true r in
      is_from (is_pair numbers t writes reads) (length numbers) 0 (length numbers) a b (omega arith) (omega arith) (omega arith)
      (of_three (flag writes a) (flag reads b) (behind numbers t a b) (set_flag writes a w) (set_flag reads b r) e)

  -- where the look-up and the flags are exact, the list is
  pub are_following : (p : Code) (F : Fact → Type 0) → length writes ≡ length numbers → length reads ≡ length numbers → IsExactly p F numbers t
      → ((m : ℕ) → IsSet writes m ↔ WritesMemory p m) → ((m : ℕ) → IsSet reads m ↔ ReadsMemory p m) → AreFollowingBy p F (pairs_by numbers t writes reads)
  are_following p F c d exact w r = record {
    ordered = ordered_from (is_pair numbers t writes reads) (length numbers) 0 (length numbers);
    each = λ a b. (
      (λ m. let h = listed a b m in let l = get_within writes a true h.0 in let k = get_within reads b true h.1 in record { writes = (w a).0 h.0; reads = (r b).0 h.1; follows = (exact a b (omega arith) (omega arith)).0 h.2 }),
      λ h. (let x = (w a).1 h.writes in let y = (r b).1 h.reads in let l = get_within writes a true x in let k = get_within reads b true y in lists a b c d x y ((exact a b (omega arith) (omega arith)).1 h.follows)),
    );
  }

-- where the tables are exact, by the program's own facts
pub exact_following : (p : Code) (x : Pointing) → WellFormed p → (pairs : List (ℕ × ℕ)) → ArePoints p x → AreFollowingBy p (FactsOf p x) pairs → AreFollowing p pairs
exact_following p x wf pairs ex h = record {
  ordered = h.ordered;
  each = λ a b. (
    (λ m. let k = (h.each a b).0 m in record { writes = k.writes; reads = k.reads; follows = follows_grows p (FactsOf p x) (Holds p) (facts_hold p x wf ex) k.follows }),
    λ k. (h.each a b).1 (record { writes = k.writes; reads = k.reads; follows = follows_grows p (Holds p) (FactsOf p x) (holds_facts p x wf ex) k.follows }),
  );
}
