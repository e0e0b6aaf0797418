use Rattle.std.proofs.Common.{◌≡◌, ◌==◌, ◌+◌, false, sym, subst}
use Rattle.std.proofs.lemmas.Result.{on_ok_weaker}
use Rattle.argot_plain.specs.Code.{IsAt}
use Rattle.argot_plain.specs.Lists.{In}
use Rattle.argot_plain.specs.declared.instructions.Kind.TheVariants.{Goto, Branch}
use Rattle.argot_facts.proofs.Listed.{number_of, in_of_get}
use Rattle.argot_control.proofs.Gaining.{goes_by, to_next}
use Rattle.argot_control.proofs.live.gain_next.Goals as goal

pub returns-in-Goto : goal.returns-in-Goto
returns-in-Goto c =
    let p = c.args.program.now in
    let i = c.args.place in
    let at = subst (IsAt p i) c.in-Goto.is c.kind.ensures in
    on_ok_weaker c.gain_goto.result
    (λ g. goes_by p i (Goto c.in-Goto.target) (λ a b. (a ≡ i) × (b ≡ c.in-Goto.target) × ((c.in-Goto.target == i) ≡ false)) c.args.pairs.now.items c.gain_goto.new.pairs.items at
    (λ a b r. (r.0, (r.1, r.2))) (λ a b e n. (e, n.0, n.1)) g)
    c.gain_goto.ensures

pub returns-in-Branch : goal.returns-in-Branch
returns-in-Branch c =
    let p = c.args.program.now in
    let i = c.args.place in
    let ts = c.in-Branch.targets in
    let same = c.as_slice.ensures in
    let at = subst (IsAt p i) c.in-Branch.is c.kind.ensures in
    on_ok_weaker c.gain_branch.result
    (λ g. goes_by p i (Branch ts) (λ a b. (a ≡ i) × In b c.as_slice.result.now) c.args.pairs.now.items c.gain_branch.new.pairs.items at
    (λ a b r. (r.0, number_of b ts (subst (In b) same r.1))) (λ a b e n. (e, subst (In b) (sym same) (in_of_get ts n.0 b n.1))) g)
    c.gain_branch.ensures

pub returns-in_default : goal.returns-in_default
returns-in_default c =
    let p = c.args.program.now in
    let i = c.args.place in
    let kind = c.kind.result.now in
    let d = c.in_default in
    on_ok_weaker c.gain.result
    (λ g. goes_by p i kind (λ a b. (a ≡ i) × (b ≡ i + 1)) c.args.pairs.now.items c.gain.new.pairs.items c.kind.ensures
    (λ a b r. (r.0, (to_next kind i b d.not-Leave d.not-Goto d.not-Branch d.not-Panic).1 r.1))
    (λ a b e n. (e, (to_next kind i b d.not-Leave d.not-Goto d.not-Branch d.not-Panic).0 n)) g)
    c.gain.ensures
