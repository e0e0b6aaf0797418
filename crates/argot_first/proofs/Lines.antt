-- The pieces of a flow's line, joined.
use Rattle.std.proofs.Common.{◌≡◌, ℕ, List, ◌++◌, append_assoc}
use Rattle.std.specs.Prelude.{codes}
use Rattle.argot_text.specs.declared.position.Pos.{Pos}
use Rattle.argot_first.specs.declared.found.Flow.{Flow}
use Rattle.argot_first.specs.Report.{line, text_at, position_at, argument_text}

pieces : (o a b c d e : List ℕ) → ((o ++ (a ++ b)) ++ (c ++ d)) ++ e ≡ o ++ (a ++ (b ++ (c ++ (d ++ e))))
pieces o a b c d e = simp append_assoc

pub joined : (positions : List Pos) (base : ℕ) (f : Flow) (old : List ℕ) → ((old ++ (codes "flow default: " ++ text_at (position_at positions base f.source))) ++ (codes " main.source -> " ++ text_at (position_at positions base f.sink))) ++ argument_text f.argument ≡ old ++ line positions base f
unfolding line
joined positions base f old =
    pieces old (codes "flow default: ") (text_at (position_at positions base f.source)) (codes " main.source -> ") (text_at (position_at positions base f.sink)) (argument_text f.argument)
