use Rattle.std.proofs.Common.{◌≡◌, ◌+◌, Bool, refl, sym, ◌∙◌, inl, inr, true, false, arith}
use Rattle.argot_facts.specs.Reached.{IsEdgeIn}
use Rattle.argot_flow_laws.proofs.Stacks.{lists_reach}
use Rattle.argot_flow.specs.Searching.{place}
use Rattle.std.proofs.Common.{◌⊎◌, ◌-◌}
use Rattle.argot_flow.specs.Searching.{rank_at}
use Rattle.argot_flow.specs.Steps.{way}
use Rattle.argot_flow.proofs.Searched.{rank_is, lesser, none_there, one_rank, not_reached}
use Rattle.argot_flow.proofs.search.rank.Goals as goal

pub returns-then-down-eq0-clause-none : goal.returns-then-down-eq0-clause-none
returns-then-down-eq0-clause-none c = λ e j. not_reached c.args.lists.now c.args.search.now c.requires.searched c.args.node
    (sym c.rank_of-up.ensures ∙ c.if-up-eq0.true) (sym c.rank_of-down.ensures ∙ c.if-down-eq0.true)
    (lists_reach (IsEdgeIn c.args.lists.now.net.edges.now) j)

both : (b : Bool) → (b ≡ false) ⊎ (b ≡ true)
both false = inl refl
both true = inr refl

swapped : (b : Bool) → (b ≡ true) ⊎ (b ≡ false)
swapped false = inr refl
swapped true = inl refl

pub returns-then-up-eq0-clause-some : goal.returns-then-up-eq0-clause-some
returns-then-up-eq0-clause-some c =
    let y = c.args.lists.now in
    let s = c.args.search.now in
    let h = c.requires.searched in
    let down : rank_at s.ranks.items (place true c.args.node) ≡ (c.rank_of-down.result - 1) + 1 = omega (arith, c.rank_of-down.ensures, c.if-down-eq0.false) in
    lesser y s h true false c.args.node (c.rank_of-down.result - 1) swapped (rank_is y s h true c.args.node (c.rank_of-down.result - 1) down)
    (λ k x. absurd (none_there y s h false c.args.node (sym c.rank_of-up.ensures ∙ c.if-up-eq0.true) k x.within))

pub returns-then-down-eq0-2-clause-some : goal.returns-then-down-eq0-2-clause-some
returns-then-down-eq0-2-clause-some c =
    let y = c.args.lists.now in
    let s = c.args.search.now in
    let h = c.requires.searched in
    let up : rank_at s.ranks.items (place false c.args.node) ≡ (c.rank_of-up.result - 1) + 1 = omega (arith, c.rank_of-up.ensures, c.if-up-eq0.false) in
    lesser y s h false true c.args.node (c.rank_of-up.result - 1) both (rank_is y s h false c.args.node (c.rank_of-up.result - 1) up)
    (λ k x. absurd (none_there y s h true c.args.node (sym c.rank_of-down.ensures ∙ c.if-down-eq0-2.true) k x.within))

pub returns-then-up-down-clause-some : goal.returns-then-up-down-clause-some
returns-then-up-down-clause-some c =
    let y = c.args.lists.now in
    let s = c.args.search.now in
    let h = c.requires.searched in
    let n = c.args.node in
    let up : rank_at s.ranks.items (place false n) ≡ (c.rank_of-up.result - 1) + 1 = omega (arith, c.rank_of-up.ensures, c.if-up-eq0.false) in
    let down : rank_at s.ranks.items (place true n) ≡ (c.rank_of-down.result - 1) + 1 = omega (arith, c.rank_of-down.ensures, c.if-down-eq0-2.false) in
    lesser y s h false true n (c.rank_of-up.result - 1) both (rank_is y s h false n (c.rank_of-up.result - 1) up)
    (λ k x. omega (arith, one_rank y s h (way true) n (c.rank_of-down.result - 1) k (rank_is y s h true n (c.rank_of-down.result - 1) down) x, c.if-up-down.true))

pub returns-clause-some : goal.returns-clause-some
returns-clause-some c =
    let y = c.args.lists.now in
    let s = c.args.search.now in
    let h = c.requires.searched in
    let n = c.args.node in
    let up : rank_at s.ranks.items (place false n) ≡ (c.rank_of-up.result - 1) + 1 = omega (arith, c.rank_of-up.ensures, c.if-up-eq0.false) in
    let down : rank_at s.ranks.items (place true n) ≡ (c.rank_of-down.result - 1) + 1 = omega (arith, c.rank_of-down.ensures, c.if-down-eq0-2.false) in
    lesser y s h true false n (c.rank_of-down.result - 1) swapped (rank_is y s h true n (c.rank_of-down.result - 1) down)
    (λ k x. omega (arith, one_rank y s h (way false) n (c.rank_of-up.result - 1) k (rank_is y s h false n (c.rank_of-up.result - 1) up) x, c.if-up-down.false))
