use Rattle.std.proofs.Common.{sym, subst}
use Rattle.argot_roles.specs.Counting.{AreLeftOut, AreCounted}
use Rattle.argot_flow_ends.proofs.Playing.{role_free, role_flagged}
use Rattle.argot_flow_ends.proofs.ends.has_source.Goals as goal

pub returns-clause-no : goal.returns-clause-no
returns-clause-no c = λ e r.
    let p = c.args.asked.now.program.now in
    let x = c.args.asked.now.points.now in
    let list = c.args.asked.now.problem.now.sources in
    let out = subst (AreLeftOut p) (sym c.deref.ensures.value) c.requires.roles.out in
    let counted = subst (AreCounted p list) (sym c.deref-2.ensures.value) c.requires.roles.sources in
    c.has_role.ensures.no e
    (role_free p x c.requires.points list c.deref.result.now c.deref-2.result.now out counted c.args.place c.requires.inside r)
    (role_flagged p x c.requires.points list c.deref.result.now c.deref-2.result.now out counted c.args.place c.requires.inside r)
