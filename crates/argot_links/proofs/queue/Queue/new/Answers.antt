use Rattle.argot_links.proofs.Threads.{threaded_new}
use Rattle.argot_links.proofs.queue.Queue.new.Goals as goal

pub invariant_of-result : goal.invariant_of-result
invariant_of-result c = rw (c.in_ok-links.ensures.items_if_clones_equal (λ y e. e)) (threaded_new c.args.n c.ranges.n.fits)
