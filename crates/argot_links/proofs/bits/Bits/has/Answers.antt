use Rattle.std.proofs.Common.{◌+◌, ◌*◌, ◌/◌, ◌%◌, ◌<◌, length, nat_eq, sym, ap, ◌∙◌}
use Rattle.std.proofs.lemmas.List.{get_or_read}
use Rattle.std.specs.Int.{bit_at}
use Rattle.argot_links.proofs.Grids.{grid, bit_test, column_within, place_within}
use Rattle.argot_links.proofs.bits.Bits.has.Goals as goal

pub returns : goal.returns
returns c =
    let words = c.self.inside.words.items in
    let stride = c.self.inside.stride in
    let row : c.args.r < c.self.inside.rows = rw (← c.self.view_is) at c.requires.row in
    let col : c.args.c < c.self.inside.cols = rw (← c.self.view_is) at c.requires.column in
    let column = column_within c.self.inside.cols stride c.args.c c.self.invariant.stride col in
    let at = place_within c.self.inside.rows stride c.args.r (c.args.c / 64) (length words) c.self.invariant.words row column in
    let read = get_or_read words (c.args.r * stride + c.args.c / 64) c.index.result.now at c.index.ensures 0 in
    rw (← c.self.view_is) (c.test_bit.ensures ∙ ap (λ x. nat_eq (bit_at x (c.args.c % 64)) 1) read ∙ sym (bit_test (grid c.self.inside.rows c.self.inside.cols stride words) c.args.r c.args.c column))
