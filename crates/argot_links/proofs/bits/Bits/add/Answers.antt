use Rattle.std.proofs.Common.{◌≡◌, ◌+◌, ◌*◌, ◌/◌, ◌%◌, ◌<◌, length, not, nat_eq, sym, ap, ◌∙◌, refl, subst, set}
use Rattle.std.proofs.lemmas.List.{length-set, get_or_read}
use Rattle.std.specs.Int.{bit_at}
use Rattle.argot_links.specs.Pairs.{AddsPair}
use Rattle.argot_links.specs.Grid.{Grid, bit, IsLaidOut}
use Rattle.argot_links.proofs.Grids.{grid, adds_bit, bit_test, zeros_fall, within_added, added_already, column_within, place_within}
use Rattle.argot_links.proofs.bits.Bits.add.Goals as goal
use Rattle.argot_links.proofs.bits.Bits.add.Goals.{After-test_bit, After-with_bit}

-- what the test said is what the grid has
tested : (c : After-test_bit) → c.test_bit.result ≡ bit c.args.self.now c.args.r c.args.c
tested c =
    let words = c.self.inside.words.items in
    let stride = c.self.inside.stride in
    let row : c.args.r < c.self.inside.rows = rw (← c.self.view_is) at c.requires.row in
    let col : c.args.c < c.self.inside.cols = rw (← c.self.view_is) at c.requires.column in
    let column = column_within c.self.inside.cols stride c.args.c c.self.invariant.stride col in
    let at = place_within c.self.inside.rows stride c.args.r (c.args.c / 64) (length words) c.self.invariant.words row column in
    let read = get_or_read words (c.args.r * stride + c.args.c / 64) c.index-word.result.now at c.index-word.ensures 0 in
    rw (← c.self.view_is) (c.test_bit.ensures ∙ ap (λ x. nat_eq (bit_at x (c.args.c % 64)) 1) read ∙ sym (bit_test (grid c.self.inside.rows c.self.inside.cols stride words) c.args.r c.args.c column))

abbrev after : After-with_bit → Grid
after c = grid c.self.inside.rows c.self.inside.cols c.self.inside.stride (set c.self.inside.words.items (c.args.r * c.self.inside.stride + c.args.c / 64) c.with_bit.result)

-- the grid with the word written
written : (c : After-with_bit) → AddsPair (bit c.args.self.now) (bit (after c)) c.args.r c.args.c
written c =
    let words = c.self.inside.words.items in
    let stride = c.self.inside.stride in
    let row : c.args.r < c.self.inside.rows = rw (← c.self.view_is) at c.requires.row in
    let col : c.args.c < c.self.inside.cols = rw (← c.self.view_is) at c.requires.column in
    let column = column_within c.self.inside.cols stride c.args.c c.self.invariant.stride col in
    let at = place_within c.self.inside.rows stride c.args.r (c.args.c / 64) (length words) c.self.invariant.words row column in
    let read = get_or_read words (c.args.r * stride + c.args.c / 64) c.index-word.result.now at c.index-word.ensures 0 in
    rw (← c.self.view_is) (adds_bit (grid c.self.inside.rows c.self.inside.cols stride words) (after c) c.args.r c.args.c c.with_bit.result refl refl at column c.with_bit.ensures.same (λ i n. c.with_bit.ensures.others i n ∙ ap (λ x. bit_at x i) read))

laid_out : (c : After-with_bit) → IsLaidOut (after c)
laid_out c =
    let row : c.args.r < c.self.inside.rows = rw (← c.self.view_is) at c.requires.row in
    let col : c.args.c < c.self.inside.cols = rw (← c.self.view_is) at c.requires.column in
    let g = grid c.self.inside.rows c.self.inside.cols c.self.inside.stride c.self.inside.words.items in
    let adds = subst (λ x. AddsPair (bit x) (bit (after c)) c.args.r c.args.c) (sym c.self.view_is) (written c) in
    record {
      words = length-set _ _ _ ∙ c.self.invariant.words;
      stride = c.self.invariant.stride;
      within = within_added g (after c) c.args.r c.args.c (record { rows = refl; cols = refl }) adds row col c.self.invariant.within;
      small = c.self.invariant.small;
    }

pub returns-then-test_bit-clause-adds : goal.returns-then-test_bit-clause-adds
returns-then-test_bit-clause-adds c = added_already _ _ _ (sym (tested (goal.at.returns-then-test_bit-clause-adds c).After-test_bit) ∙ c.if-test_bit.true)

pub returns-then-test_bit-clause-fresh : goal.returns-then-test_bit-clause-fresh
returns-then-test_bit-clause-fresh c = ap not (sym c.if-test_bit.true ∙ tested (goal.at.returns-then-test_bit-clause-fresh c).After-test_bit)

pub returns-clause-fresh : goal.returns-clause-fresh
returns-clause-fresh c = ap not (sym c.if-test_bit.false ∙ tested (goal.at.returns-clause-fresh c).After-test_bit)

pub returns-clause-adds : goal.returns-clause-adds
returns-clause-adds c = written (goal.at.returns-clause-adds c).After-with_bit

pub returns-clause-zeros : goal.returns-clause-zeros
returns-clause-zeros c = λ _.
    let d = goal.at.returns-clause-zeros c in
    let w = written d.After-with_bit in
    zeros_fall _ _ c.args.r c.args.c (rw (← c.self.view_is) (record { rows = refl; cols = refl })) w.kept c.requires.row c.requires.column (sym (tested d.After-test_bit) ∙ c.if-test_bit.false) w.there

pub invariant_of-self : goal.invariant_of-self
invariant_of-self c = laid_out (goal.at.invariant_of-self c).After-with_bit

pub returns-clause-within : goal.returns-clause-within
returns-clause-within c = (laid_out (goal.at.returns-clause-within c).After-with_bit).within
