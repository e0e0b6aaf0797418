use Rattle.std.proofs.Common.{◌≡◌, ℕ, List, sym, subst}
use Rattle.argot_control.specs.Pairs.{Gains}
use Rattle.argot_control.proofs.Gaining.{gains_one}
use Rattle.argot_control.proofs.uses.gain.Goals as goal

pub returns : goal.returns
returns c =
    let x = c.args.from in
    let y = c.args.to in
    let xs : List (ℕ × ℕ) = c.args.pairs.now.items in
    subst (λ (ys : List (ℕ × ℕ)). Gains (λ a b. (a ≡ x) × (b ≡ y)) xs ys) (sym c.in_ok-push.ensures.items) (gains_one xs x y)
