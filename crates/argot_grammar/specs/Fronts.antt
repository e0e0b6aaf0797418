-- The front of a type that goes on to its right.
use Rattle.std.specs.Prelude.{◌≡◌, ℕ, ◌+◌, ◌-◌, ◌<◌, ◌^◌, List, length, take, Option, Some, None}
use Rattle.argot_tree.specs.declared.node_kind.NodeKind.TheVariants as nodes
use Rattle.argot_tree.specs.declared.token.Token.{Token}
use Rattle.argot_tree.specs.Grammar.{AnyType}
use Rattle.argot_parse_reader.specs.declared.post.Post.{Post}
use Rattle.argot_parse_reader.specs.Reading.{The, Answer, ◌>>=◌, closing}
use Rattle.argot_parse_reader.specs.Reader.{read}
use Rattle.argot_grammar.specs.declared.types.Front.{Front}
use Rattle.argot_grammar.specs.declared.types.Front.TheVariants as fronts

abbrev pub whole : Option ℕ → Option Front
whole None = None
whole (Some to) = Some (fronts.Whole to)

-- what a type that begins at a token is, once its front is read; the type behind it is read in so many steps
abbrev pub Fronts : List Token → ℕ → ℕ → List Post → Option Front → List Post → Answer → Type 0
Fronts tokens n from old None new answer = (answer ≡ None) × (new ≡ old)
Fronts tokens n from old (Some (fronts.Whole to)) new answer = answer ≡ Some (to, new)
Fronts tokens n from old (Some (fronts.Before kind at)) new answer =
    (answer ≡ (read tokens n (The AnyType) at new >>= closing kind from old)) × (take (length old) new ≡ old)
Fronts tokens n from old (Some (fronts.Result at)) new answer =
    (answer ≡ ((read tokens (n - 1) (The AnyType) at new >>= closing nodes.Signature (from + 1) old) >>= closing nodes.FuncType from old)) ×
    ((take (length old) new ≡ old) × ((0 < n) × (from < 2 ^ 63)))
