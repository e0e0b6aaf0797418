use Rattle.std.proofs.Common.{◌≡◌, ◌<◌, ◌-◌, ℕ, List, length, get_or, arith, subst}
use Rattle.std.proofs.lemmas.Option.{slice_get-get_or}
use Rattle.argot_plain.specs.Lists.{In}
use Rattle.argot_facts.proofs.Listed.{in_of_get}
use Rattle.argot_control.proofs.Gaining.{same_pair}
use Rattle.argot_control.proofs.steps.is_last.Goals as goal

pub returns-then-last-to : goal.returns-then-last-to
returns-then-last-to c = λ e.
    let pairs : List (ℕ × ℕ) = c.args.pairs.now in
    let n = length pairs - 1 in
    let l : n < length pairs = let some = c.if-pairs-eq0.false in omega arith in
    let last = get_or pairs n (0, 0) in
    let f : last.0 ≡ c.args.from = let h = c.if-last-from.true in omega arith in
    let g : last.1 ≡ c.args.to = let h = c.if-last-to.true in omega arith in
    subst (λ (s : ℕ × ℕ). In s pairs) (same_pair last.0 last.1 c.args.from c.args.to f g) (in_of_get pairs n last (slice_get-get_or pairs n (0, 0) l))
