-- Types that go on to their right, each in the one before it: `*[]func() chan T` is four types in a row and a name.
use Rattle.std.specs.Prelude.{◌≡◌, ℕ, List, [], ◌∷◌, length, take, Some, None}
use Rattle.argot_tree.specs.declared.node_kind.NodeKind.{NodeKind}
use Rattle.argot_tree.specs.declared.token.Token.{Token}
use Rattle.argot_tree.specs.Grammar.{AnyType, OnlyType}
use Rattle.argot_parse_reader.specs.declared.post.Post.{Post}
use Rattle.argot_parse_reader.specs.Reading.{The, Answer, ◌>>=◌, ending}
use Rattle.argot_parse_reader.specs.Reader.{read}
use Rattle.argot_parse_tokens.specs.declared.rows.Begun.{Begun}
use Rattle.argot_parse_tokens.specs.declared.rows.Row.{Row}
use Rattle.argot_parse_tokens.specs.declared.rows.Turn.{Turn}
use Rattle.argot_parse_tokens.specs.declared.rows.Turn.TheVariants as turns

-- a node that is begun
abbrev pub begun_at : NodeKind → ℕ → ℕ → Begun
begun_at kind from mark = record { kind = kind; from = from; mark = mark }

-- what the types that are begun are, the outermost first, once the type in the last of them is read
abbrev pub unwound : List Begun → Answer → Answer
unwound [] answer = answer
unwound (begun ∷ more) answer = unwound more answer >>= ending begun.kind begun.from begun.mark

-- what a row is, once the type behind those that are begun is read, and once one is read that is no expression
abbrev pub row_by : List Token → Row → List Post → Answer
row_by tokens row out = unwound row.begun.items (read tokens row.fuel (The AnyType) row.at out)

abbrev pub formed_row_by : List Token → Row → List Post → Answer
formed_row_by tokens row out = unwound row.begun.items (read tokens row.fuel (The OnlyType) row.at out)

-- what a turn does to a row, of which an answer is wanted: nothing is there, the last of its types ends, or it goes on
abbrev pub Turns : List Token → Answer → List Post → Turn → Row → List Post → Type 0
Turns tokens answer old turns.Missing row new = (answer ≡ None) × (new ≡ old)
Turns tokens answer old (turns.End to) row new = answer ≡ unwound row.begun.items (Some (to, new))
Turns tokens answer old turns.On row new = (answer ≡ row_by tokens row new) × (take (length old) new ≡ old)
