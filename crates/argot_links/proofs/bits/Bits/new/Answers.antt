use Rattle.std.proofs.Common.{refl}
use Rattle.std.proofs.lemmas.List.{length-replicate}
use Rattle.argot_links.proofs.Grids.{nothing, within_nothing}
use Rattle.argot_links.proofs.bits.Bits.new.Goals as goal

pub returns-clause-empty : goal.returns-clause-empty
returns-clause-empty c = nothing _ _ (c.in_ok-words.ensures.items_if_clones_equal (λ y e. e))

pub invariant_of-result : goal.invariant_of-result
invariant_of-result c =
    let zeros = c.in_ok-words.ensures.items_if_clones_equal (λ y e. e) in
    record { words = rw (zeros, length-replicate) refl; stride = refl; within = within_nothing _ (nothing _ _ zeros); small = c.ranges.cols.fits }

pub returns-clause-within : goal.returns-clause-within
returns-clause-within c = within_nothing _ (nothing _ _ (c.in_ok-words.ensures.items_if_clones_equal (λ y e. e)))
