use Rattle.std.proofs.Common.{◌≡◌, ℕ, ◌<◌, Some, arith}
use Rattle.std.specs.Prelude.{slice_get}
use Rattle.argot_plain.specs.Lists.{In}
use Rattle.argot_facts.proofs.Listed.{number_of, get_within, in_of_get}
use Rattle.argot_control.proofs.Gaining.{gains_as}
use Rattle.argot_control.proofs.uses.gain_all.Goals as goal

pub returns : goal.returns
returns c =
    let more = c.args.more.now in
    gains_as (λ a b. (j : ℕ) × (j < c.loop-k.k) × (slice_get more j ≡ Some (a, b))) (λ a b. In (a, b) more) c.args.pairs.now.items c.loop-k.pairs.items
    (λ a b h. in_of_get more h.0 (a, b) h.2)
    (λ a b h. let n = number_of {A = ℕ × ℕ} (a, b) more h in let l = get_within {X = ℕ × ℕ} more n.0 (a, b) n.1 in let e = c.loop-k-test.false in (n.0, omega arith, n.1))
    c.loop-k.invariant.gains
