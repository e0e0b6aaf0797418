use Rattle.std.proofs.Common.{◌≡◌, ◌+◌, false, get_or, rules, arith, subst}
use Rattle.std.proofs.lemmas.List.Sorted.{answers_always, IsPermutation-sym}
use Rattle.std.proofs.lemmas.Option.{get_or_from_slice_get}
use Rattle.std.specs.Ordering.{is_lt}
use Rattle.argot_facts.proofs.Listed.{get_within}
use Rattle.argot_graph.specs.Order.{key_of, key_cmp}
use Rattle.argot_graph.proofs.Members.{permuted}
use Rattle.argot_graph.proofs.Ordering.{behind}
use Rattle.argot_graph.proofs.order.sort_alone.Goals as goal

pub returns-clause-same : goal.returns-clause-same
returns-clause-same c =
    let p = c.sort_by_key.ensures.permutation in
    λ e. (permuted _ _ (IsPermutation-sym _ _ p) e, permuted _ _ p e)

pub returns-clause-ascend : goal.returns-clause-ascend
returns-clause-ascend c = λ k a b x y.
    let es = c.sort_by_key.new.self.items in
    let keys = answers_always _ _ _ (λ f a r next called. search rules) in
    let h = c.in_ok-sort_by_key.ensures.sorted key_of keys k a (omega arith) (get_within es (k + 1) b y) in
    let h' = subst (λ e. is_lt (key_cmp (key_of e) (key_of (get_or es k a))) ≡ false) (get_or_from_slice_get es (k + 1) b a y) h in
    behind a b (subst (λ e. is_lt (key_cmp (key_of b) (key_of e)) ≡ false) (get_or_from_slice_get es k a a x) h')
