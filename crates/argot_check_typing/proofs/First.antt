-- At most one node is the first with a fault.
use Rattle.std.proofs.Common.{◌≡◌, ℕ, inl, inr}
use Rattle.std.proofs.lemmas.Bool.{cases_order}
use Rattle.argot_check_source.specs.Code.{Code}
use Rattle.argot_check_typing.specs.Faults.{Fault, IsFirstFault}

pub one_first : (c : Code) (m n : ℕ) (f g : Fault) → IsFirstFault c m f → IsFirstFault c n g → m ≡ n
one_first c m n f g a b = elim (cases_order m n) [
  | inl e ↦ e
  | inr r ↦ elim r [ inl l ↦ absurd (b.first m l f a.has) | inr l ↦ absurd (a.first n l g b.has) ]
]
