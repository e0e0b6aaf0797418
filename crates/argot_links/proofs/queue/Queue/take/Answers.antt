use Rattle.std.proofs.Common.{◌≡◌, ◌<◌, true, length, slice_index, ap, arith}
use Rattle.std.proofs.lemmas.List.{get_or_read}
use Rattle.std.proofs.lemmas.Bool.{or_right}
use Rattle.argot_links.specs.Members.{has}
use Rattle.argot_links.specs.Threaded.{thread}
use Rattle.argot_links.proofs.Threads.{first_below, thread_fits, threaded_less, thread_less, first_gone, kept_or_first}
use Rattle.argot_links.proofs.queue.Queue.take.Goals as goal
use Rattle.argot_links.proofs.queue.Queue.take.Goals.{After-index_mut}

some : (c : After-index_mut) → 0 < c.self.inside.count
some c = omega arith

-- the link that was read
link : (c : After-index_mut) → c.index.result.now ≡ slice_index c.self.inside.links.items c.self.inside.first
link c = get_or_read c.self.inside.links.items c.self.inside.first c.index.result.now (first_below _ _ c.self.inside.last _ (some c) c.self.invariant) c.index.ensures 0

pub invariant_of-self : goal.invariant_of-self
invariant_of-self c =
    let d = (goal.at.invariant_of-self c).After-index_mut in
    rw (link d) (threaded_less c.self.inside.links.items c.self.inside.first c.self.inside.last c.self.inside.count (some d) c.self.invariant)

pub returns-clause-items : goal.returns-clause-items
returns-clause-items c =
    let d = (goal.at.returns-clause-items c).After-index_mut in
    rw (← c.self.view_is, link d) (thread_less c.self.inside.links.items c.self.inside.first c.self.inside.last c.self.inside.count (some d) c.self.invariant)

pub returns-clause-others : goal.returns-clause-others
returns-clause-others c = λ j h.
    let d = (goal.at.returns-clause-others c).After-index_mut in
    let was : has (thread c.self.inside.count c.self.inside.links.items c.self.inside.first) j ≡ true = rw (← c.self.view_is) at h in
    rw (link d) (kept_or_first c.self.inside.links.items c.self.inside.first c.self.inside.last c.self.inside.count (some d) c.self.invariant j was)

pub returns-clause-gone : goal.returns-clause-gone
returns-clause-gone c =
    let d = (goal.at.returns-clause-gone c).After-index_mut in
    rw (link d) (first_gone c.self.inside.links.items c.self.inside.first c.self.inside.last c.self.inside.count (some d) c.self.invariant)

pub returns-clause-shorter : goal.returns-clause-shorter
returns-clause-shorter c =
    let d = (goal.at.returns-clause-shorter c).After-index_mut in
    rw (← c.self.view_is, link d) (omega (arith, ap length (thread_less c.self.inside.links.items c.self.inside.first c.self.inside.last c.self.inside.count (some d) c.self.invariant)))

pub returns-clause-fits : goal.returns-clause-fits
returns-clause-fits c = rw (← c.self.view_is) (thread_fits c.self.inside.links.items c.self.inside.first c.self.inside.last c.self.inside.count c.self.invariant)

pub returns-clause-rest : goal.returns-clause-rest
returns-clause-rest c = λ j h.
    let d = (goal.at.returns-clause-rest c).After-index_mut in
    let whole = thread_less c.self.inside.links.items c.self.inside.first c.self.inside.last c.self.inside.count (some d) c.self.invariant in
    rw (← c.self.view_is, whole) (or_right _ _ (rw (link d) at h))
