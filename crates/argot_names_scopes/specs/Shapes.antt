-- Which texts may be those of names that come into blocks, by their first byte and their length.
use Rattle.std.specs.Prelude.{◌≡◌, ℕ, ◌+◌, ◌*◌, ◌%◌, ◌<◌, Bool, true, List, Some, length, slice_get, unwrap_or}
use Rattle.argot_tree.specs.declared.token.Token.{Token}
use Rattle.argot_names_blocks.specs.declared.binding.Binding.{Binding}
use Rattle.argot_names_scopes.specs.Texts.{text_in}

-- a number below 256, of a text's first byte and its length
abbrev pub shape_of : List ℕ → ℕ
shape_of text = (unwrap_or (slice_get text 0) 0 + length text % 8 * 32) % 256

-- for each shape that it is there, where one of the items before a number has a name of that shape
pub record AreShapes (bytes : List ℕ) (tokens : List Token) (brought : List Binding) (count : ℕ) (shapes : List Bool) : Type 0 where
  pub as_long : length shapes ≡ 256
  pub there : (k : ℕ) (b : Binding) → k < count → slice_get brought k ≡ Some b → slice_get shapes (shape_of (text_in bytes tokens b.token)) ≡ Some true
