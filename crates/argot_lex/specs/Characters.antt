-- Characters at the front of some bytes, computed.
use Rattle.std.specs.Prelude.{ℕ, zero, suc, Bool, false, ◌==◌, ◌||◌, nat_lt, List, [], ◌∷◌, Option, Some, None, if◌then◌else◌}
use Rattle.std.specs.Option.{option_map}
use Rattle.std.specs.Char.{is_ascii_alphabetic}
use Rattle.bstr.specs.Utf8.{decoded, Decoded}
use Rattle.argot_tree.specs.Characters.{is_other_than}
use Rattle.argot_tree.specs.Names.{is_letter, is_letter_or_digit}
use Rattle.argot_lex.specs.declared.characters.Class.{Class}
use Rattle.argot_lex.specs.declared.characters.Class.TheVariants.{Word, Line, Raw}

-- a decoded character and its size
abbrev pub char_of : Decoded → Option (ℕ × ℕ)
char_of d = option_map (λ c. (c, d.size)) d.char

unfoldable pub char_at : List ℕ → Option (ℕ × ℕ)
char_at bytes = char_of (decoded bytes)

abbrev pub passes : Class → ℕ → Bool
passes Word c = is_letter_or_digit c
passes Line c = is_other_than 10 c
passes Raw c = is_other_than 96 c

abbrev pub tests : (ℕ → Bool) → Option (ℕ × ℕ) → Bool
tests p None = false
tests p (Some r) = p r.0

-- a letter stands at the front; a byte below 128 is tested by itself
abbrev pub first_letter : List ℕ → Bool
first_letter [] = false
first_letter (b ∷ bs) = if nat_lt b 128 then b == 95 || is_ascii_alphabetic b else tests is_letter (char_at (b ∷ bs))

-- how far to go: a character that passes, or 0
abbrev pub step_by : (ℕ → Bool) → Option (ℕ × ℕ) → ℕ
step_by p None = 0
step_by p (Some r) = if p r.0 then r.1 else 0

-- the same, with a byte below 128 tested by itself
abbrev pub step_of : Class → List ℕ → ℕ
step_of class [] = 0
step_of class (b ∷ bs) =
    if nat_lt b 128 then (if passes class b then 1 else 0)
    else step_by (passes class) (char_at (b ∷ bs))

-- a step goes over this byte, unless it is none
abbrev pub over : ℕ → (ℕ → ℕ) → ℕ
over zero go = 0
over (suc k) go = suc (go k)

-- how many bytes at the front are characters that pass, where the first so many belong to a character that passed
abbrev pub run_from : (ℕ → Bool) → ℕ → List ℕ → ℕ
run_from p skip [] = 0
run_from p zero (b ∷ bs) = over (step_by p (char_at (b ∷ bs))) (λ k. run_from p k bs)
run_from p (suc k) (b ∷ bs) = suc (run_from p k bs)
