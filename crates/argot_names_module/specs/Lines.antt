-- The words of a line, cut one after the other.
use Rattle.std.specs.Prelude.{ℕ, ◌==◌, Bool, not, List, drop, take_while}
use Rattle.std.specs.List.{prefix_len}
use Rattle.std.specs.Char.{is_digit}
use Rattle.argot_names_rules.specs.GoMod.{separates}

abbrev pub is_in_word : ℕ → Bool
is_in_word b = not (separates b)

abbrev pub is_in_line : ℕ → Bool
is_in_line b = not (b == 10)

-- behind the separators at the front
abbrev pub behind_blank : List ℕ → List ℕ
behind_blank text = drop (prefix_len separates text) text

-- the word at the front, and what follows it
abbrev pub word_of : List ℕ → List ℕ
word_of text = take_while is_in_word text

abbrev pub behind_word : List ℕ → List ℕ
behind_word text = drop (prefix_len is_in_word text) text

-- the first two words of a text, where there are some
abbrev pub first_of : List ℕ → List ℕ
first_of text = word_of (behind_blank text)

abbrev pub second_of : List ℕ → List ℕ
second_of text = word_of (behind_blank (behind_word (behind_blank text)))

abbrev pub is_decimal : ℕ → Bool
is_decimal b = is_digit b 10
