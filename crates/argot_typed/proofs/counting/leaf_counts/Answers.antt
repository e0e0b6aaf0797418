use Rattle.std.proofs.Common.{◌≡◌, ℕ, ◌<◌, length, Some, subst, sym, ap, ◌∙◌}
use Rattle.argot_typed.specs.Counts.{known_at}
use Rattle.argot_typed.proofs.Counted.{all_known}
use Rattle.argot_typed.proofs.counting.leaf_counts.Goals as goal

pub settled-requires : goal.settled-requires
settled-requires c = λ t l.
    let counts = c.pass.new.counts.items in
    let as_many : length c.as_slice.result.now ≡ length c.args.shapes.now = ap length c.as_slice.ensures.value ∙ (c.pass.ensures.as_many ∙ c.loop.invariant.as_many) in
    let within : t < length c.args.shapes.now = subst (λ n. t < n) as_many l in
    let known = all_known c.args.shapes.now counts c.requires (c.pass.ensures.closed c.loop-test.false) t within in
    subst (λ xs. (x : ℕ) × (known_at xs t ≡ Some x)) (sym c.as_slice.ensures.value) known
