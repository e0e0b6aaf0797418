use Rattle.std.proofs.Common.{◌≡◌, ◌+◌, false, get_or, rules, arith, subst}
use Rattle.std.proofs.lemmas.List.Sorted.{answers_always, IsPermutation-sym}
use Rattle.std.proofs.lemmas.Option.{get_or_from_slice_get}
use Rattle.std.specs.Ordering.{is_lt}
use Rattle.argot_facts.proofs.Listed.{get_within}
use Rattle.argot_flow_ends.specs.Order.{key_of, key_cmp}
use Rattle.argot_graph.proofs.Members.{permuted}
use Rattle.argot_flow_ends.proofs.Ordering.{behind}
use Rattle.argot_flow_ends.proofs.order.sort.Goals as goal

pub returns-in-Ok-clause-same : goal.returns-in-Ok-clause-same
returns-in-Ok-clause-same g c =
    let p = c.par_sort_by_key.ensures.permutation in
    λ e. (permuted _ _ (IsPermutation-sym _ _ p) e, permuted _ _ p e)

pub returns-in-Err-clause-same : goal.returns-in-Err-clause-same
returns-in-Err-clause-same g c =
    let p = c.par_sort_by_key.ensures.permutation in
    λ e. (permuted _ _ (IsPermutation-sym _ _ p) e, permuted _ _ p e)

pub returns-in-Ok-clause-ascend : goal.returns-in-Ok-clause-ascend
returns-in-Ok-clause-ascend g c = λ k a b x y.
    let es = c.par_sort_by_key.new.s in
    let keys = answers_always _ _ _ (λ f a r next called. search rules) in
    let h = c.in-Ok.ensures.sorted key_of keys k a (omega arith) (get_within es (k + 1) b y) in
    let h' = subst (λ e. is_lt (key_cmp (key_of e) (key_of (get_or es k a))) ≡ false) (get_or_from_slice_get es (k + 1) b a y) h in
    behind a b (subst (λ e. is_lt (key_cmp (key_of b) (key_of e)) ≡ false) (get_or_from_slice_get es k a a x) h')
