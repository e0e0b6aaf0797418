-- Which edges there are after one more.
use Rattle.std.proofs.Common.{◌≡◌, ℕ, ◌<◌, ◌≢◌, true, false, List, [], ◌∷◌, length, replicate, slice_index_or, slice_set, sym, ap, subst, ◌∙◌, inl, inr, arith}
use Rattle.std.proofs.lemmas.Bool.{cases_eq, cases_lt, or_right}
use Rattle.std.proofs.lemmas.List.{get_or-set_same, get_or-set_other, get_or-replicate, length-replicate, get_or_past}
use Rattle.argot_links.specs.Members.{has}
use Rattle.argot_links.specs.Pairs.{AddsPair}
use Rattle.argot_links.proofs.Having.{has_first, has_cases}
use Rattle.argot_ssa.specs.Edges.{leads}

module _ (lists : List (List ℕ)) (head item : ℕ) (within : head < length lists) where
  abbrev after : List (List ℕ)
  after = slice_set lists head (item ∷ slice_index_or lists head [])

  at_head : slice_index_or after head [] ≡ item ∷ slice_index_or lists head []
  at_head = get_or-set_same lists head _ [] within

  elsewhere : (a : ℕ) → a ≢ head → slice_index_or after a [] ≡ slice_index_or lists a []
  elsewhere a ne = get_or-set_other lists head a _ [] ne

  pub pushed_edge : AddsPair (leads lists) (leads after) head item
  unfolding leads
  pushed_edge = record {
    there = rw at_head (has_first item (slice_index_or lists head []));
    kept = λ a b h. elim (cases_eq a head) [
      | inl same ↦ subst (λ x. has (slice_index_or after x []) b ≡ true) (sym same) (rw at_head (or_right _ _ (subst (λ x. has (slice_index_or lists x []) b ≡ true) same h)))
      | inr other ↦ ap (λ list. has list b) (elsewhere a other) ∙ h
    ];
    only = λ a b h. elim (cases_eq a head) [
      | inl same ↦ elim (has_cases item (slice_index_or lists head []) b (ap (λ list. has list b) (sym at_head) ∙ subst (λ x. has (slice_index_or after x []) b ≡ true) same h)) [
        | inl new ↦ inr (same, new)
        | inr old ↦ inl (subst (λ x. has (slice_index_or lists x []) b ≡ true) (sym same) old)
      ]
      | inr other ↦ inl (ap (λ list. has list b) (sym (elsewhere a other)) ∙ h)
    ];
  }

empty_list : (n a : ℕ) → slice_index_or {A = List ℕ} (replicate n []) a [] ≡ []
empty_list n a = elim (cases_lt a n) [
  | inl low ↦ get_or-replicate n a [] [] low
  | inr high ↦ get_or_past (replicate n []) a [] (let e : length {A = List ℕ} (replicate n []) ≡ n = length-replicate n [] in omega arith)
]

-- new chains have no edge
pub none_leads : (n : ℕ) (lists : List (List ℕ)) → lists ≡ replicate n [] → (a b : ℕ) → leads lists a b ≡ false
unfolding leads
none_leads n lists e a b = rw e (ap (λ list. has list b) (empty_list n a))

pub none_count : (n : ℕ) (lists : List (List ℕ)) → lists ≡ replicate n [] → length lists ≡ n
none_count n lists e = ap length e ∙ length-replicate n []
