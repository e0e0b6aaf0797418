use Rattle.std.proofs.Common.{◌≡◌, ◌+◌, ◌<◌, ◌≤◌, arith}
use Rattle.argot_control.proofs.Gaining.{gains_as}
use Rattle.argot_control.proofs.live.gain_exit.Goals as goal

pub returns : goal.returns
returns c =
    let entry = c.args.entry in
    let leave = c.args.leave in
    let k = c.loop-place.place in
    gains_as (λ a b. (entry ≤ a) × (a < k) × (b ≡ c.args.exit)) (λ a b. (entry ≤ a) × (a ≤ leave) × (b ≡ c.args.exit)) c.args.pairs.now.items c.loop-place.pairs.items
    (λ a b u. let l = u.1 in let z : k ≤ leave + 1 = c.loop-place.auto.place-end c.requires.rising in (u.0, omega arith, u.2))
    (λ a b u. let l = u.1 in let e = c.loop-place-test.false in (u.0, omega arith, u.2))
    c.loop-place.invariant.gains
