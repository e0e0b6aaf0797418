use Rattle.std.proofs.Common.{◌≡◌, ◌<◌, ◌+◌, length, get_or, rules}
use Rattle.std.proofs.lemmas.List.{get_or_read, length-map}
use Rattle.argot_links.specs.Linked.{chains}
use Rattle.argot_links.proofs.Chaining.{chains_push}
use Rattle.argot_links.proofs.chains.Chains.push.Goals as goal

pub returns-clause-lists : goal.returns-clause-lists
returns-clause-lists c =
    let cells = c.self.inside.cells.items in
    let heads = c.self.inside.heads.items in
    let seen : c.args.head < length (chains cells heads) = rw (← c.self.view_is) at c.requires.head in
    let within : c.args.head < length heads = simp length-map at seen in
    let read : c.index-next.result.now ≡ get_or heads c.args.head 0 = get_or_read heads c.args.head c.index-next.result.now within c.index-next.ensures 0 in
    let count : c.len.result ≡ length cells + 1 = search rules in
    rw (c.push_reserved.ensures.items, count, ← c.self.view_is) (chains_push cells heads c.args.head (record { item = c.args.item; next = c.index-next.result.now }) c.self.invariant.down c.self.invariant.starts within read)
