use Rattle.std.proofs.Common.{◌≡◌, ◌<◌, ℕ, List, length, sym, ap, ◌∙◌, subst}
use Rattle.argot_graph_edges.specs.Accessing.{ArePairs, Written, Readable}
use Rattle.argot_graph_edges.proofs.Pairing.{runs_from}
use Rattle.argot_graph_edges.proofs.answer.accesses.Goals as goal

pub returns-clause-writes : goal.returns-clause-writes
returns-clause-writes c =
    let x = c.args.points.now in
    let n : c.in-Ok.count ≡ length x.locations = c.in-Ok.ensures.1 ∙ c.location_count.ensures.count in
    runs_from (Written x c.args.rules.now) c.in-Ok.count (length x.locations) c.in_ok-writes-2.writes c.deref.result.now n c.in_ok-writes-2.ensures.count c.in_ok-writes-2.ensures.runs
    (subst (ArePairs (Written x c.args.rules.now)) (sym c.deref.ensures.value) c.in_ok-writes.ensures)

pub returns-clause-reads : goal.returns-clause-reads
returns-clause-reads c =
    let x = c.args.points.now in
    let n : c.in-Ok.count ≡ length x.locations = c.in-Ok.ensures.1 ∙ c.location_count.ensures.count in
    runs_from (Readable x c.args.rules.now) c.in-Ok.count (length x.locations) c.in_ok-reads-2.reads c.deref-2.result.now n c.in_ok-reads-2.ensures.count c.in_ok-reads-2.ensures.runs
    (subst (ArePairs (Readable x c.args.rules.now)) (sym c.deref-2.ensures.value) c.in_ok-reads.ensures)
