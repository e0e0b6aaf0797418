use Rattle.std.proofs.Common.{◌≡◌, ◌*◌, ◌<◌, true, refl, arith}
use Rattle.argot_links.specs.Grid.{Grid, run_bit, bit}
use Rattle.argot_links.proofs.Grids.{grid, true_bit, zero_bit}
use Rattle.argot_links.proofs.bits.Bits.next_from.Goals as goal
use Rattle.argot_links.proofs.bits.Bits.next_from.Goals.{In-Some}

pub first_in_run-requires-clause-small : goal.first_in_run-requires-clause-small
first_in_run-requires-clause-small c = omega (arith, c.self.invariant.stride, c.self.invariant.small)

abbrev seen : In-Some → Grid
seen c = grid c.self.inside.rows c.self.inside.cols c.self.inside.stride c.self.inside.words.items

-- the bit that was found
there : (c : In-Some) → bit (seen c) c.args.r c.in-Some.c ≡ true
there c =
    let d = c.in-Some.ensures.found in
    let one : run_bit c.self.inside.words.items (c.args.r * c.self.inside.stride) c.in-Some.c ≡ 1 = rw c.as_slice-words.ensures.value at d.2 in
    true_bit (seen c) c.args.r c.in-Some.c (omega (arith, d.1)) one

column : (c : In-Some) → c.in-Some.c < c.self.inside.cols
column c = (c.self.invariant.within c.args.r c.in-Some.c (there c)).1

pub overflow_cast-result : goal.overflow_cast-result
overflow_cast-result c =
    let l = column (goal.at.overflow_cast-result c).In-Some in
    omega (arith, l, c.self.invariant.small)

pub returns-in-Some-clause-found : goal.returns-in-Some-clause-found
returns-in-Some-clause-found c = (c.in-Some.ensures.found.0, rw (← c.self.view_is) (there (goal.at.returns-in-Some-clause-found c).In-Some))

pub returns-in-Some-clause-column : goal.returns-in-Some-clause-column
returns-in-Some-clause-column c = rw (← c.self.view_is) (column (goal.at.returns-in-Some-clause-column c).In-Some)

pub returns-in-Some-clause-first : goal.returns-in-Some-clause-first
returns-in-Some-clause-first c = λ b l m.
    let g = grid c.self.inside.rows c.self.inside.cols c.self.inside.stride c.self.inside.words.items in
    rw (← c.self.view_is) (zero_bit g c.args.r b (λ _. rw c.as_slice-words.ensures.value at (c.in-Some.ensures.first b l m)))

pub returns-in-None-clause-none : goal.returns-in-None-clause-none
returns-in-None-clause-none c = λ _ b l.
    let g = grid c.self.inside.rows c.self.inside.cols c.self.inside.stride c.self.inside.words.items in
    rw (← c.self.view_is) (zero_bit g c.args.r b (λ k. rw c.as_slice-words.ensures.value at (c.in-None.ensures.none refl b l (omega (arith, k)))))

pub returns-in-Some-clause-small : goal.returns-in-Some-clause-small
returns-in-Some-clause-small c = let l = column (goal.at.returns-in-Some-clause-small c).In-Some in omega (arith, l, c.self.invariant.small)
