-- The bytes of a file's tokens.
use Rattle.std.specs.Prelude.{ℕ, List, slice_get}
use Rattle.argot_tree.specs.declared.token.Token.{Token}
use Rattle.argot_names_rules.specs.Files.{spelled}

abbrev pub text_in : List ℕ → List Token → ℕ → List ℕ
text_in bytes tokens at = spelled bytes (slice_get tokens at)
