-- Facts that are apart, put in order.
use Rattle.std.proofs.Common.{◌≡◌, ◌⊎◌, ℕ, ◌+◌, ◌<◌, ◌≤◌, List, Some, length, Contains, refl, sym, ap, ◌∙◌, subst, inl, inr, arith}
use Rattle.std.specs.Prelude.{slice_get, slice_index_or}
use Rattle.std.specs.List.{swap}
use Rattle.std.specs.List.Sorted.{IsPermutation, IsNonDecreasingBy}
use Rattle.std.proofs.lemmas.Bool.{cases_lt, cases_eq}
use Rattle.std.proofs.lemmas.List.Edits.{Swapped, swapped_from_swap, length-swap}
use Rattle.std.proofs.lemmas.List.Sorted.{IsPermutation-keeps, Contains-permutation, length_permutation}
use Rattle.std.proofs.lemmas.Option.{slice_get-get_or, get_or_from_slice_get, slice_get_within}
use Rattle.argot_plain.specs.Lists.{In}
use Rattle.argot_facts.proofs.Listed.{in_of_get, number_of}
use Rattle.argot_facts.specs.Graphs.{IsOrdered}
use Rattle.argot_facts.specs.Summed.{AreApart, SameBefore, by_from, by_to}
use Rattle.argot_facts.specs.declared.summaries.Same.{Same}

contained : (xs : List Same) (x : Same) → In x xs → Contains xs x
contained xs x h = let k = number_of x xs h in (k.0, slice_get_within xs k.0 x k.1, get_or_from_slice_get xs k.0 x x k.1)

stands : (xs : List Same) (x : Same) → Contains xs x → In x xs
stands xs x c = in_of_get xs c.0 x (slice_get-get_or xs c.0 x c.1 ∙ ap Some c.2)

pub moved_in : (xs ys : List Same) (x : Same) → IsPermutation xs ys → In x xs → In x ys
moved_in xs ys x p h = stands ys x (Contains-permutation xs ys x p (contained xs x h))

-- apart, by what is read at each place
abbrev pub Differ : Same → List Same → Type 0
Differ d xs = (i j : ℕ) → i < length xs → j < length xs → (slice_index_or xs i d).from ≡ (slice_index_or xs j d).from
    → (slice_index_or xs i d).to ≡ (slice_index_or xs j d).to → i ≡ j

-- where the item at m was before a and b changed their places
abbrev pub Was : ℕ → ℕ → ℕ → ℕ → Type 0
Was a b m k = ((m ≡ a) × (k ≡ b)) ⊎ (((m ≡ b) × (k ≡ a)) ⊎ ((m ≡ a → ⊥) × (m ≡ b → ⊥) × (k ≡ m)))

was : (f g : ℕ → Same) (a b m : ℕ) → Swapped f g a b → (k : ℕ) × (g m ≡ f k) × Was a b m k
was f g a b m s = elim (cases_eq m a) [
  | inl e ↦ (b, ap g e ∙ s.0, inl (e, refl))
  | inr apart ↦ elim (cases_eq m b) [
    | inl e ↦ (a, ap g e ∙ s.1, inr (inl (e, refl)))
    | inr away ↦ (m, s.2 m apart away, inr (inr (apart, away, refl)))
  ]
]

was_one : (a b m n k : ℕ) → Was a b m k → Was a b n k → m ≡ n
was_one a b m n k (inl p) (inl q) = omega (arith, p.0, q.0)
was_one a b m n k (inl p) (inr (inl q)) = omega (arith, p.0, p.1, q.0, q.1)
was_one a b m n k (inl p) (inr (inr q)) = absurd (q.1 (omega (arith, p.1, q.2)))
was_one a b m n k (inr (inl p)) (inl q) = omega (arith, p.0, p.1, q.0, q.1)
was_one a b m n k (inr (inl p)) (inr (inl q)) = omega (arith, p.0, q.0)
was_one a b m n k (inr (inl p)) (inr (inr q)) = absurd (q.0 (omega (arith, p.1, q.2)))
was_one a b m n k (inr (inr p)) (inl q) = absurd (p.1 (omega (arith, q.1, p.2)))
was_one a b m n k (inr (inr p)) (inr (inl q)) = absurd (p.0 (omega (arith, q.1, p.2)))
was_one a b m n k (inr (inr p)) (inr (inr q)) = omega (arith, p.2, q.2)

was_below : (a b m k n : ℕ) → a < n → b < n → m < n → Was a b m k → k < n
was_below a b m k n la lb lm (inl p) = omega (arith, p.1)
was_below a b m k n la lb lm (inr (inl p)) = omega (arith, p.1)
was_below a b m k n la lb lm (inr (inr p)) = omega (arith, p.2)

still_differ : (d : Same) (xs : List Same) (a b : ℕ) → a < length xs → b < length xs → Differ d xs → Differ d (swap xs a b)
still_differ d xs a b la lb h = λ i j li lj from to.
    let s = swapped_from_swap xs (swap xs a b) a b d la lb refl in
    let count = length-swap xs a b in
    let p = was (λ k. slice_index_or xs k d) (λ k. slice_index_or (swap xs a b) k d) a b i s in
    let q = was (λ k. slice_index_or xs k d) (λ k. slice_index_or (swap xs a b) k d) a b j s in
    let one : p.0 ≡ q.0 = h p.0 q.0 (was_below a b i p.0 (length xs) la lb (omega (arith, li, count)) p.2)
    (was_below a b j q.0 (length xs) la lb (omega (arith, lj, count)) q.2)
    (sym (ap (λ (x : Same). x.from) p.1) ∙ from ∙ ap (λ (x : Same). x.from) q.1)
    (sym (ap (λ (x : Same). x.to) p.1) ∙ to ∙ ap (λ (x : Same). x.to) q.1) in
    was_one a b i j q.0 (subst (λ k. Was a b i k) one p.2) q.2

differ : (d : Same) (xs : List Same) → AreApart xs → Differ d xs
differ d xs h = λ i j li lj from to. h i j (slice_index_or xs i d) (slice_index_or xs j d) (slice_get-get_or xs i d li) (slice_get-get_or xs j d lj) from to

-- items that are apart still are, when they have moved
pub moved_differ : (d : Same) (xs ys : List Same) → IsPermutation xs ys → AreApart xs → Differ d ys
moved_differ d xs ys p h = IsPermutation-keeps xs (Differ d) (differ d xs h) (λ l i j li lj. still_differ d l i j li lj) ys p

pub in_order : (d : Same) (ys : List Same) → Differ d ys → IsNonDecreasingBy (λ (f : Same). f.from) ys
    → ((k : ℕ) (e : Same) → k + 1 < length ys → (slice_index_or ys k e).from ≡ (slice_index_or ys (k + 1) e).from → (slice_index_or ys k e).to ≤ (slice_index_or ys (k + 1) e).to)
    → IsOrdered SameBefore ys
in_order d ys apart up ties = λ k a b at next.
    let l : k + 1 < length ys = slice_get_within ys (k + 1) b next in
    let is_a : slice_index_or ys k d ≡ a = get_or_from_slice_get ys k a d at in
    let is_b : slice_index_or ys (k + 1) d ≡ b = get_or_from_slice_get ys (k + 1) b d next in
    let froms : a.from ≤ b.from = subst (λ (x : Same). x.from ≤ b.from) is_a (subst (λ (x : Same). (slice_index_or ys k d).from ≤ x.from) is_b (up k (k + 1) d (omega arith) l)) in
    elim (cases_lt a.from b.from) [
      | inl less ↦ by_from less
      | inr more ↦ (let even : a.from ≡ b.from = omega (arith, froms, more) in
          let evens : (slice_index_or ys k d).from ≡ (slice_index_or ys (k + 1) d).from = ap (λ (x : Same). x.from) is_a ∙ even ∙ sym (ap (λ (x : Same). x.from) is_b) in
          let tos : a.to ≤ b.to = subst (λ (x : Same). x.to ≤ b.to) is_a (subst (λ (x : Same). (slice_index_or ys k d).to ≤ x.to) is_b (ties k d l evens)) in
          elim (cases_lt a.to b.to) [
            | inl less ↦ by_to even less
            | inr equal ↦ (let same : a.to ≡ b.to = omega (arith, tos, equal) in
                let sames : (slice_index_or ys k d).to ≡ (slice_index_or ys (k + 1) d).to = ap (λ (x : Same). x.to) is_a ∙ same ∙ sym (ap (λ (x : Same). x.to) is_b) in
                absurd (omega (arith, apart k (k + 1) (omega (arith, l)) l evens sames)))
          ])
    ]
