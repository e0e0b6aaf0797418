use Rattle.std.proofs.Common.{◌≡◌, ◌∙◌, length, rules}
use Rattle.std.proofs.lemmas.List.Sorted.{answers_always, ties_still_rise, IsNonDecreasingBy-from_sort_by_key, IsPermutation-trans, IsPermutation-sym, length_permutation}
use Rattle.argot_facts.specs.declared.summaries.Same.{Same}
use Rattle.argot_summary.proofs.Sorting.{moved_in, moved_differ, in_order}
use Rattle.argot_summary.proofs.order.put_in_order.Goals as goal

abbrev d : Same
d = record { from = 0; to = 0; rank = 0 }

pub returns-clause-ordered : goal.returns-clause-ordered
returns-clause-ordered c =
    in_order d _ (moved_differ d _ _ (IsPermutation-trans _ _ _ c.in_ok-sort_by_key.ensures.permutation c.sort_by_key-2.ensures.permutation) c.requires.apart)
    (IsNonDecreasingBy-from_sort_by_key (λ (f : Same). f.from) _ c.in_ok-sort_by_key-2.ensures.sorted (λ a r q k. search rules))
    (ties_still_rise (λ (f : Same). f.to) (λ (f : Same). f.from) _ _ (c.in_ok-sort_by_key.ensures.sorted (λ (f : Same). f.to) (answers_always _ _ _ (λ f a r g h. search rules)))
    (c.sort_by_key-2.ensures.stable (λ (f : Same). f.from) (answers_always _ _ _ (λ f a r g h. search rules))))

pub returns-clause-kept : goal.returns-clause-kept
returns-clause-kept c = λ f h. moved_in _ _ f (IsPermutation-trans _ _ _ c.in_ok-sort_by_key.ensures.permutation c.sort_by_key-2.ensures.permutation) h

pub returns-clause-only : goal.returns-clause-only
returns-clause-only c = λ f h. moved_in _ _ f (IsPermutation-sym _ _ (IsPermutation-trans _ _ _ c.in_ok-sort_by_key.ensures.permutation c.sort_by_key-2.ensures.permutation)) h
