-- What an element stands for, as bytes.
use Rattle.std.specs.Prelude.{ℕ, List, [], ◌∷◌, Option, Some, None, encode_utf8}
use Rattle.argot_names_imports.specs.Elements.{Element}
use Rattle.argot_names_imports.specs.declared.escapes.Stands.{Stands}
use Rattle.argot_names_imports.specs.declared.escapes.Stands.TheVariants.{Byte, Character}

abbrev pub bytes_of : Stands → List ℕ
bytes_of (Byte b) = b ∷ []
bytes_of (Character c) = encode_utf8 c

abbrev pub read_of : Option (ℕ × Stands) → Option Element
read_of None = None
read_of (Some r) = Some (r.0, bytes_of r.1)
