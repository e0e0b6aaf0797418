use Rattle.std.proofs.Common.{inl, inr}
use Rattle.std.specs.Prelude.{◌⊎◌}
use Rattle.argot_control.specs.Pairs.{GoesOnIn, ExitsIn}
use Rattle.argot_control.proofs.Gaining.{gains_both}
use Rattle.argot_control.proofs.live.gain_both.Goals as goal

pub returns : goal.returns
returns c =
    let p = c.args.program.now in
    let h = c.args.h in
    gains_both (GoesOnIn p h) (ExitsIn p h) (λ a b. GoesOnIn p h a b ⊎ ExitsIn p h a b) c.args.pairs.now.items c.gain_nexts.new.pairs.items c.gain_exits.new.pairs.items
    (λ a b u. inl u) (λ a b u. inr u) (λ a b u. u) c.in_ok-gain_nexts.ensures c.in_ok-gain_exits.ensures
