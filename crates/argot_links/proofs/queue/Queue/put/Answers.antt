use Rattle.std.proofs.Common.{◌≡◌, ℕ, ◌+◌, ◌<◌, true, List, ◌∷◌, [], ◌++◌, length, slice_index, sym, ◌∙◌, subst, arith, rules, length-append}
use Rattle.std.proofs.lemmas.List.{get_or_read}
use Rattle.argot_links.specs.Members.{has}
use Rattle.argot_links.specs.Threaded.{thread, IsThreaded}
use Rattle.argot_links.proofs.Having.{has_pushed, has_kept, pushed_cases}
use Rattle.argot_links.proofs.Threads.{links_after, last_below, room_for, thread_fits, threaded_one, threaded_more, thread_more}
use Rattle.argot_links.proofs.queue.Queue.put.Goals as goal
use Rattle.argot_links.proofs.queue.Queue.put.Goals.{Else-index-ne0, Else-self-eq0}

within : (c : Else-index-ne0) → c.args.i < length c.self.inside.links.items
within c = rw (← c.self.view_is) at c.requires

-- i has no link
no_link : (c : Else-index-ne0) → slice_index c.self.inside.links.items c.args.i ≡ 0
no_link c = sym (get_or_read c.self.inside.links.items c.args.i c.index.result.now (within c) c.index.ensures 0) ∙ c.if-index-ne0.false

some : (c : Else-self-eq0) → 0 < c.self.inside.count
some c = omega arith

abbrev after : Else-self-eq0 → List ℕ
after c = links_after c.self.inside.links.items c.self.inside.last c.args.i

threaded : (c : Else-self-eq0) → IsThreaded (after c) c.self.inside.first c.args.i (c.self.inside.count + 1)
threaded c =
    let d = c.before in
    threaded_more c.self.inside.links.items c.self.inside.first c.self.inside.last c.self.inside.count c.args.i (some c) c.self.invariant (within d) (no_link d)

longer : (c : Else-self-eq0) → thread (c.self.inside.count + 1) (after c) c.self.inside.first ≡ thread c.self.inside.count c.self.inside.links.items c.self.inside.first ++ c.args.i ∷ []
longer c =
    let d = c.before in
    thread_more c.self.inside.links.items c.self.inside.first c.self.inside.last c.self.inside.count c.args.i (some c) c.self.invariant (within d) (no_link d)

pub returns-then-index-ne0-clause-fits : goal.returns-then-index-ne0-clause-fits
returns-then-index-ne0-clause-fits c = rw (← c.self.view_is) (thread_fits c.self.inside.links.items c.self.inside.first c.self.inside.last c.self.inside.count c.self.invariant)

pub invariant_of-self : goal.invariant_of-self
invariant_of-self c =
    let d = (goal.at.invariant_of-self c).Else-index-ne0 in
    let empty = subst (λ n. IsThreaded c.self.inside.links.items c.self.inside.first c.self.inside.last n) c.if-self-eq0.true c.self.invariant in
    threaded_one c.self.inside.links.items c.self.inside.first c.self.inside.last c.args.i empty (within d) (no_link d)

pub index_mut-requires-2 : goal.index_mut-requires-2
index_mut-requires-2 c =
    let last = last_below c.self.inside.links.items c.self.inside.first c.self.inside.last c.self.inside.count (some (goal.at.index_mut-requires-2 c).Else-self-eq0) c.self.invariant in
    search (rules, last)

pub overflow_add-self : goal.overflow_add-self
overflow_add-self c =
    let d = (goal.at.overflow_add-self c).Else-index-ne0 in
    let room = room_for c.self.inside.links.items c.self.inside.first c.self.inside.last c.self.inside.count c.args.i c.self.invariant (within d) (no_link d) in
    omega (arith, room, c.self.invariant.small)

pub invariant_of-self-2 : goal.invariant_of-self-2
invariant_of-self-2 c = threaded (goal.at.invariant_of-self-2 c).Else-self-eq0

pub returns-clause-items : goal.returns-clause-items
returns-clause-items c = rw (← c.self.view_is) (longer (goal.at.returns-clause-items c).Else-self-eq0)

pub returns-clause-there : goal.returns-clause-there
returns-clause-there c = rw (longer (goal.at.returns-clause-there c).Else-self-eq0) (has_pushed _ c.args.i)

pub returns-clause-kept : goal.returns-clause-kept
returns-clause-kept c = λ j h.
    let was : has (thread c.self.inside.count c.self.inside.links.items c.self.inside.first) j ≡ true = rw (← c.self.view_is) at h in
    rw (longer (goal.at.returns-clause-kept c).Else-self-eq0) (has_kept _ c.args.i j was)

pub returns-clause-fits : goal.returns-clause-fits
returns-clause-fits c =
    let d = (goal.at.returns-clause-fits c).Else-self-eq0 in
    thread_fits (after d) c.self.inside.first c.args.i (c.self.inside.count + 1) (threaded d)

pub returns-clause-only : goal.returns-clause-only
returns-clause-only c = λ j h.
    let d = (goal.at.returns-clause-only c).Else-self-eq0 in
    rw (← c.self.view_is) (pushed_cases _ c.args.i j (rw (longer d) at h))

pub returns-clause-longer : goal.returns-clause-longer
returns-clause-longer c =
    let d = (goal.at.returns-clause-longer c).Else-self-eq0 in
    rw (← c.self.view_is, longer d) (omega (arith, length-append (thread c.self.inside.count c.self.inside.links.items c.self.inside.first) (c.args.i ∷ [])))
