use Rattle.std.proofs.Common.{◌≡◌, true, subst}
use Rattle.argot_check_types.specs.Types.{Ty}
use Rattle.argot_check_types.specs.Identity.{identical}
use Rattle.argot_check_types.proofs.Identical.{identical_is, identical_self}
use Rattle.argot_check_types.proofs.laws.identical_is_equal.Goals as goal

pub returns : goal.returns
returns c a b = (identical_is a b, λ e. let P : Ty → Type 0 = λ x. identical a x ≡ true in subst P e (identical_self a))
