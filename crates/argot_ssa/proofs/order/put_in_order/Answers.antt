use Rattle.std.proofs.lemmas.List.Filters.{dedup_is}
use Rattle.std.proofs.lemmas.List.Kept.{Contains-dedup, Contains-from_dedup, IsStrictlySortedBy-dedup}
use Rattle.std.proofs.lemmas.List.Sorted.{Contains-permutation, IsPermutation-sym}
use Rattle.argot_ssa.proofs.Sorting.{row_eq, row_total, row_equiv, row_ties, row_same, sorted_in_order, in_contained, contained_in}
use Rattle.argot_ssa.proofs.order.put_in_order.Goals as goal

pub returns-clause-kept : goal.returns-clause-kept
returns-clause-kept c = λ x h.
    let is = dedup_is row_eq _ _ c.dedup.ensures.filtered in
    let moved = c.in_ok-sort.ensures.permutation in
    contained_in _ x (rw is (Contains-dedup row_equiv row_same _ x (Contains-permutation _ _ x moved (in_contained x h))))

pub returns-clause-only : goal.returns-clause-only
returns-clause-only c = λ x h.
    let is = dedup_is row_eq _ _ c.dedup.ensures.filtered in
    let moved = c.in_ok-sort.ensures.permutation in
    contained_in _ x (Contains-permutation _ _ x (IsPermutation-sym _ _ moved) (Contains-from_dedup row_eq _ x (rw is at (in_contained x h))))

pub returns-clause-in_order : goal.returns-clause-in_order
returns-clause-in_order c =
    let is = dedup_is row_eq _ _ c.dedup.ensures.filtered in
    rw is (sorted_in_order _ (IsStrictlySortedBy-dedup row_total row_ties _ c.in_ok-sort.ensures.sorted))
