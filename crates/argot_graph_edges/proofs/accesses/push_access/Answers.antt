use Rattle.std.proofs.Common.{◌≡◌, ℕ, ◌++◌, ◌∷◌, [], refl, sym, ap, ◌∙◌, subst}
use Rattle.argot_graph_edges.specs.Accessing.{AddsPairs, Accesses}
use Rattle.argot_graph_edges.proofs.Pairing.{pairs_none, pairs_as, pairs_one, one_moved}
use Rattle.argot_graph_edges.proofs.accesses.push_access.Goals as goal

pub returns-in_ok-push : goal.returns-in_ok-push
returns-in_ok-push c =
    let ls = c.args.points.now.locations in
    let one : ℕ × ℕ = (c.in-Some.z, c.args.node) in
    subst (AddsPairs (Accesses ls c.args.y c.args.path.now c.args.node) c.args.pairs.now.items) (sym c.in_ok-push.ensures.items)
    (pairs_as (λ w. w ≡ one) (Accesses ls c.args.y c.args.path.now c.args.node) c.args.pairs.now.items (c.args.pairs.now.items ++ one ∷ [])
    (λ w e. subst (Accesses ls c.args.y c.args.path.now c.args.node) (sym e) (c.in-Some.ensures.some, refl))
    (λ w a. ap (λ (x : ℕ). (x, w.1)) (one_moved ls c.requires c.args.y c.args.path.now w.0 c.in-Some.z a.0 c.in-Some.ensures.some) ∙ ap (λ (x : ℕ). (c.in-Some.z, x)) a.1)
    (pairs_one c.args.pairs.now.items one))

pub returns-in_default : goal.returns-in_default
returns-in_default c = pairs_none _ _ (λ w a. c.in_default.ensures.none refl w.0 a.0)
