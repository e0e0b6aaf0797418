-- What was shown of a file's tree.
use Rattle.std.specs.Prelude.{◌≡◌, ◌⊎◌, ℕ, Bool, List, [], Option, length, if◌then◌else◌}
use Rattle.argot_io.specs.Told.{Entry, ReadsTold}
use Rattle.argot_io.specs.Taken.{taken_with}
use Rattle.argot_tree.specs.declared.lexed.Lexed.{Lexed}
use Rattle.argot_tree.specs.declared.token.Token.{Token}
use Rattle.argot_tree.specs.Text.{SpellsText}
use Rattle.argot_tree.specs.Forests.{Forest, size}
use Rattle.argot_tree.specs.Grammar.{Spells, File}
use Rattle.argot_tree.specs.Nesting.{IsTooDeep}
use Rattle.argot_parse.specs.Parsed.{SpellsNoTree}
use Rattle.argot_show.specs.declared.trees.Outcome.{Outcome}
use Rattle.argot_show.specs.declared.trees.Outcome.TheVariants as outcomes
use Rattle.argot_show.specs.TreeLines.{forest_onto, count_line}

-- the output took the lines of the tree that spells the tokens, or the number of its nodes
pub record PrintsTree (bytes : List ℕ) (tokens : List Token) (count : Bool) (before now : Option (List ℕ)) : Type 0 where
  pub tree : Forest
  pub spelled : Spells tokens File tree 0 (length tokens)
  pub taken : now ≡ taken_with before (if count then count_line (size tree) else forest_onto [] bytes tokens [] tree)

-- what was made of the tokens is so
abbrev pub IsParsed : List ℕ → List Token → Bool → Option (List ℕ) → Option (List ℕ) → Outcome → Type 0
IsParsed bytes tokens count before now outcomes.Shown = PrintsTree bytes tokens count before now
IsParsed bytes tokens count before now (outcomes.Bad at) = ⊥
IsParsed bytes tokens count before now (outcomes.Syntax at) = SpellsNoTree tokens
IsParsed bytes tokens count before now (outcomes.Deep at) = (token : ℕ) × IsTooDeep tokens token

-- the file is read, and its tokens are these
pub record HasTokens (told : Option (List Entry)) (path bytes : List ℕ) (lexed : Lexed) : Type 0 where
  pub read : ReadsTold told path bytes
  pub spelled : SpellsText lexed bytes

-- the output took the tree of the file, or the number of its nodes
pub record ShowsTree (told : Option (List Entry)) (path : List ℕ) (count : Bool) (before now : Option (List ℕ)) : Type 0 where
  pub bytes : List ℕ
  pub lexed : Lexed
  pub tokens : HasTokens told path bytes lexed
  pub prints : PrintsTree bytes lexed.tokens count before now

-- no tokens spell the file, or no tree its tokens
pub data HasNoTree (told : Option (List Entry)) (path : List ℕ) : Type 0 where
  no_tokens : (bytes : List ℕ) → ReadsTold told path bytes → ((lexed : Lexed) → SpellsText lexed bytes → ⊥) → HasNoTree told path
  no_tree : (bytes : List ℕ) (lexed : Lexed) → HasTokens told path bytes lexed → SpellsNoTree lexed.tokens → HasNoTree told path

-- a token of the file is nested too deeply
pub record IsNested (told : Option (List Entry)) (path : List ℕ) : Type 0 where
  pub bytes : List ℕ
  pub lexed : Lexed
  pub tokens : HasTokens told path bytes lexed
  pub token : ℕ
  pub deep : IsTooDeep lexed.tokens token

abbrev pub IsTreeOutcome : Option (List Entry) → List ℕ → Bool → Option (List ℕ) → Option (List ℕ) → Outcome → Type 0
IsTreeOutcome told path count before now outcomes.Shown = ShowsTree told path count before now
IsTreeOutcome told path count before now (outcomes.Bad at) = HasNoTree told path
IsTreeOutcome told path count before now (outcomes.Syntax at) = HasNoTree told path
IsTreeOutcome told path count before now (outcomes.Deep at) = IsNested told path
