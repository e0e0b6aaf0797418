use Rattle.std.proofs.Common.{◌≡◌, ◌<◌, ◌+◌, length, take, take_all, ap, arith, sym}
use Rattle.argot_config.specs.Marking.{AreFirsts, FirstsFall, Gathers, IsListed}
use Rattle.argot_config.proofs.Lowered.{firsts_more, places_listed}
use Rattle.argot_config.proofs.Members.{whole_again}
use Rattle.argot_config.proofs.places.places.Goals as goal

pub loop-matcher-preserved : goal.loop-matcher-preserved
loop-matcher-preserved c =
    let p = c.args.program.now in
    let ms = c.args.matchers.now in
    let i = c.loop-matcher.matcher-index in
    let m = c.matcher-item.result in
    let old = c.loop-matcher.firsts.items in
    let new = c.lower.new.firsts in
    let fall : FirstsFall p m old new = rw c.as_mut_slice.ensures.value at c.in_ok-lower.ensures in
    let within : i < length ms = omega arith in
    let next : AreFirsts p (take (i + 1) ms) new = firsts_more p ms i m old new within (sym c.matcher-item.is) c.loop-matcher.invariant fall in
    let len : c.loop-matcher.firsts.len ≡ length old = omega (arith, c.as_mut_slice.ensures.len, ap length c.as_mut_slice.ensures.value) in
    rw (whole_again new old c.loop-matcher.firsts.len fall.count len) next

pub returns : goal.returns
returns c =
    let p = c.args.program.now in
    let ms = c.args.matchers.now in
    let all : take c.loop-matcher.matcher-index ms ≡ ms = take_all c.loop-matcher.matcher-index ms (omega arith) in
    let firsts : AreFirsts p ms c.loop-matcher.firsts.items = rw all at c.loop-matcher.invariant in
    let found : Gathers (λ x. x.0) (IsListed p c.loop-matcher.firsts.items) (length p.instrs) c.in_ok-found.found.items = rw c.as_slice.ensures.value at c.in_ok-found.ensures in
    rw c.from_vec.ensures (places_listed p ms c.loop-matcher.firsts.items c.in_ok-found.found.items firsts found)
