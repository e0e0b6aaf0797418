use Rattle.std.proofs.Common.{◌≡◌, ◌+◌, ◌++◌, ◌∷◌, [], Some, length, take, get_or, sym, ap, ◌∙◌, subst, arith}
use Rattle.std.proofs.Math.Seq.{take-length}
use Rattle.std.proofs.lemmas.List.{take_more}
use Rattle.std.proofs.lemmas.Option.{get_or_from_slice_get}
use Rattle.argot_facts.proofs.Listed.{get_at}
use Rattle.argot_points_rules.specs.declared.rules.Owned.{Owned}
use Rattle.argot_graph_edges.specs.Accessing.{AddsPairs, ArePairs, StoredBy, Written}
use Rattle.argot_graph_edges.proofs.Pairing.{pairs_none, pairs_more, pairs_are}
use Rattle.argot_graph_edges.proofs.accesses.writes_of.Goals as goal

pub loop-n-init : goal.loop-n-init
loop-n-init c = subst (λ ps. AddsPairs (Written c.args.points.now (take 0 c.args.rules.now)) [] ps) (sym c.new-pairs.ensures.items) (pairs_none _ _ (λ w h. elim h.1 [ ]))

pub loop-n-preserved : goal.loop-n-preserved
loop-n-preserved c =
    let x = c.args.points.now in
    let xs = c.args.rules.now in
    let at = get_at xs c.loop-n.n c.loop-n-test.true in
    pairs_more (StoredBy x) (take c.loop-n.n xs) (take (c.loop-n.n + 1) xs) at.0 _ _ _
    (take_more xs c.loop-n.n at.0 c.loop-n-test.true ∙ ap (λ w. take c.loop-n.n xs ++ w ∷ []) (get_or_from_slice_get xs c.loop-n.n at.0 at.0 at.1)) c.loop-n.invariant
    (subst (λ o. AddsPairs (StoredBy x o) c.loop-n.pairs.items c.push_stored.new.pairs.items) (c.index-rules-n.is ∙ get_or_from_slice_get xs c.loop-n.n at.0 _ at.1) c.in_ok-push_stored.ensures)

pub returns : goal.returns
returns c =
    let xs = c.args.rules.now in
    let e : c.loop-n.n ≡ length xs = omega arith in
    subst (λ ys. ArePairs (Written c.args.points.now ys) c.loop-n.pairs.items) (ap (λ n. take n xs) e ∙ take-length xs) (pairs_are _ _ c.loop-n.invariant)
