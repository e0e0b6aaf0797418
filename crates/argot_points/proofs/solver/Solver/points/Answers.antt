use Rattle.std.proofs.Common.{rules, ◌≡◌, true, sym, subst, arith}
use Rattle.argot_plain.specs.Lists.{In}
use Rattle.argot_points.specs.Found.{AreRead, AreTargetsOf}
use Rattle.argot_points.proofs.Shown.{read_of, read_fits, is_read}
use Rattle.argot_points.proofs.solver.Solver.points.Goals as goal

pub from_parts-requires : goal.from_parts-requires
from_parts-requires c =
    let s = c.self.inside.system in
    let t = c.self.inside.tables in
    let below : c.are_below.result ≡ true = search rules in
    read_fits s t c.self.inside.uses.lists c.self.invariant c.in_ok-live.live.items c.in_ok-targets.targets.items c.in_ok-live.ensures.all
    (λ g m. let x = c.are_below.ensures below g (subst (In g) (sym c.deref.ensures.value) m) in omega (arith, x, c.function_count.ensures.count))
    (subst (λ v. AreTargetsOf v c.in_ok-targets.targets.items) (sym c.self.view_is) c.in_ok-targets.ensures)

pub returns : goal.returns
returns c =
    let s = c.self.inside.system in
    let t = c.self.inside.tables in
    let uses = c.self.inside.uses.lists in
    let below : c.are_below.result ≡ true = search rules in
    subst (λ x. AreRead c.args.self x) (sym c.in_ok-points.ensures)
    (subst (λ v. AreRead v (read_of s t uses c.self.invariant c.in_ok-live.live.items c.in_ok-targets.targets.items)) c.self.view_is
    (is_read s t uses c.self.invariant c.in_ok-live.live.items c.in_ok-targets.targets.items c.in_ok-live.ensures.all
    (λ g m. let x = c.are_below.ensures below g (subst (In g) (sym c.deref.ensures.value) m) in omega (arith, x, c.function_count.ensures.count))
    (subst (λ v. AreTargetsOf v c.in_ok-targets.targets.items) (sym c.self.view_is) c.in_ok-targets.ensures)
    c.in_ok-live.ensures.ascending))
