-- The code's list of words is the definition's.
use Rattle.std.proofs.Common.{◌≡◌, ℕ, List, refl}
use Rattle.std.specs.List.{list_any}
use Rattle.std.specs.Str.{bytes_eq}
use Rattle.argot_first_form.specs.Bytes.{is_reserved}
use Rattle.argot_first_form.specs.declared.bytes.TheConstants.{RESERVED}

pub same_words : (n : List ℕ) → list_any (λ w. bytes_eq w.now n) RESERVED ≡ is_reserved n
unfolding is_reserved
same_words n = refl
