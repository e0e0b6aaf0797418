-- What a refusal says.
use Rattle.std.specs.Prelude.{ℕ, List}
use Rattle.argot_tree.specs.declared.lexed.Lexed.{Lexed}
use Rattle.argot_tree.specs.Text.{SpellsText, IsFirstBad}
use Rattle.argot_lex.specs.declared.lexing.LexFault.{LexFault}
use Rattle.argot_lex.specs.declared.lexing.LexFault.TheVariants as faults

-- no piece begins at the offset, and so no tokens spell the text
abbrev pub IsRefused : List ℕ → LexFault → Type 0
IsRefused text (faults.Bad offset) = IsFirstBad text offset × ((lexed : Lexed) → SpellsText lexed text → ⊥)
IsRefused text faults.Memory = Unit {0}
