-- Constants, `nil`, and names of variables and functions as values.
use Rattle.std.specs.Prelude.{ℕ, List, []}
use Rattle.argot_plain.specs.declared.instructions.Kind.TheVariants.{Op, Join, Global}
use Rattle.argot_plain.specs.declared.instructions.Tag.{Tag}
use Rattle.argot_text.specs.declared.position.Pos.{Pos}
use Rattle.argot_lower_scripts.specs.Script.{Leaves, SiteOf, Script, gets}
use Rattle.argot_lower_scripts.specs.Words.{answer, one, new, load}

-- r := Op []
abbrev pub constant_row : Pos → Script
constant_row p = one p (λ r. Op r []) answer

-- r := Join []
abbrev pub nil_row : Pos → Script
nil_row p = one p (λ r. Join r []) answer

-- a register variable: its own register, without an instruction
abbrev pub register_row : ℕ → Script
register_row d = gets d answer

-- an object: r := Read (its reference)
abbrev pub object_row : Pos → Leaves → ℕ → Script
object_row p ls d = gets d (λ a. load p ls [] a answer)

-- a package variable: a := Global g; r := Read a
abbrev pub package_variable_row : Pos → Leaves → List Tag → ℕ → Script
package_variable_row p ls tags g = one p (λ r. Global r g) (λ a. load p ls tags a answer)

-- the reference to an object: what its variable's register has
abbrev pub object_reference_row : ℕ → Script
object_reference_row d = gets d answer

-- the reference to a package variable: r := Global g
abbrev pub package_reference_row : Pos → ℕ → Script
package_reference_row p g = one p (λ r. Global r g) answer

-- the name of a function: r := New
abbrev pub function_row : Pos → SiteOf → Script
function_row p s = new p s answer
