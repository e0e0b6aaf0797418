use Rattle.argot_lower_scripts.proofs.Same.{same}
use Rattle.argot_lower_scripts.proofs.laws.one_code.Goals as goal

pub returns : goal.returns
returns c = λ rows f g h n s rs qs a b d x y. let r = same rows f g h x qs d y in (r.registers, r.end, r.agrees)
