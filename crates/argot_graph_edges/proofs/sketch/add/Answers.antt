use Rattle.std.proofs.Common.{◌≡◌}
use Rattle.argot_graph_edges.specs.Adding.{Adds}
use Rattle.argot_graph_edges.specs.declared.sketch.Sketch.{Sketch}
use Rattle.argot_graph_edges.proofs.Sketching.{adds_one, adds_kept}
use Rattle.argot_graph_edges.proofs.sketch.add.Goals as goal

pub returns-in_ok-thin : goal.returns-in_ok-thin
returns-in_ok-thin c =
    let mid : Sketch = record { edges = c.push.new.self; full = c.args.sketch.now.full } in
    adds_kept (λ e. e ≡ c.args.edge) c.args.sketch.now mid c.thin.new.sketch c.if-sketch.false c.if-sketch.false
    (adds_one c.args.sketch.now mid c.args.edge c.if-sketch.false c.if-sketch.false c.in_ok-push.ensures.items) c.in_ok-thin.ensures

pub returns-else-len-ge-MOST_FOUND : goal.returns-else-len-ge-MOST_FOUND
returns-else-len-ge-MOST_FOUND c =
    adds_one c.args.sketch.now (record { edges = c.push.new.self; full = c.args.sketch.now.full }) c.args.edge c.if-sketch.false c.if-sketch.false c.in_ok-push.ensures.items
