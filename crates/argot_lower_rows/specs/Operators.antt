-- Pointers, operators, receives and assertions.
use Rattle.std.specs.Prelude.{ℕ, [], ◌∷◌, if◌then◌else◌}
use Rattle.argot_plain.specs.declared.instructions.Kind.TheVariants.{Op, Move, Write, Assert}
use Rattle.argot_text.specs.declared.path.PathStep.TheVariants.{Channel}
use Rattle.argot_text.specs.declared.position.Pos.{Pos}
use Rattle.argot_lower_scripts.specs.Script.{Leaves, SiteOf, Reference, Script, until, part, note, Asserted}
use Rattle.argot_lower_scripts.specs.Words.{nothing, first, answer, does, one, new, load, load_at, or_at, value}
use Rattle.argot_lower_locals.specs.Typed.{Typed}
use Rattle.argot_lower_locals.specs.Types.{form, leaves, is_interface}

-- *x: a = value x; r := Read a
abbrev pub dereference_row : Pos → Leaves → ℕ → Script
dereference_row p ls x = value x (λ a. load p ls [] a answer)

-- &x: the reference to x, without an instruction
abbrev pub address_row : ℕ → Script
address_row x = part Reference x (λ rs. answer (first rs))

-- a new object that has this value: r := New; Write r a
abbrev pub pointed : Pos → SiteOf → ℕ → (ℕ → Script) → Script
pointed p s a k = new p s (λ r. does p (Write r a) (k r))

-- +x, -x, !x, ^x: a = value x; r := Op [a]
abbrev pub unary_row : Pos → ℕ → Script
unary_row p x = value x (λ a. one p (λ r. Op r (a ∷ [])) answer)

-- x op y: a = value x; b = value y; r := Op [a, b]
abbrev pub binary_row : Pos → ℕ → ℕ → Script
binary_row p x y = value x (λ a. value y (λ b. one p (λ r. Op r (a ∷ b ∷ [])) answer))

-- x && y, x || y: a = value x; r := Move a; Branch next end; b = value y; Op r [a, b]; end:
abbrev pub both_row : Pos → ℕ → ℕ → Script
both_row p x y =
    value x (λ a.
    one p (λ r. Move r a []) (λ r.
    until (λ end.
    or_at p end (
    value y (λ b.
    does p (Op r (a ∷ b ∷ [])) nothing))) (λ _.
    answer r)))

-- what is received from the channel a: p := Step a <>; r := Read p
abbrev pub from_channel : Pos → Leaves → ℕ → (ℕ → Script) → Script
from_channel p ls a k = load_at p ls a Channel k

-- <-x
abbrev pub receive_row : Pos → Leaves → ℕ → (ℕ → Script) → Script
receive_row p ls x k = value x (λ a. from_channel p ls a k)

-- a.(w): q := Assert a w; of a type that is no interface then r := Read q
abbrev pub asserted : Typed → Pos → ℕ → ℕ → (ℕ → Script) → Script
asserted t p w a k = note (Asserted w) (one p (λ r. Assert r a w) (λ q. if is_interface (form t w) then k q else load p (leaves t w) [] q k))

-- x.(w)
abbrev pub assertion_row : Typed → Pos → ℕ → ℕ → (ℕ → Script) → Script
assertion_row t p w x k = value x (λ a. asserted t p w a k)
