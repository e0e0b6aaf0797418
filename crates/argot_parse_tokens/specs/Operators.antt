-- Operators before an operand: `-!*x` is three of them and a name.
use Rattle.std.specs.Prelude.{◌≡◌, ℕ, zero, suc, ◌+◌, ◌≤◌, List, length, take, Bool, true, false, not, ◌||◌, ◌&&◌, Option, Some, None, if◌then◌else◌}
use Rattle.argot_tree.specs.declared.mark.Mark.TheVariants as marks
use Rattle.argot_tree.specs.declared.node_kind.NodeKind.{NodeKind}
use Rattle.argot_tree.specs.declared.token.Token.{Token}
use Rattle.argot_tree.specs.TokensAt.{kind_at, unary_of}
use Rattle.argot_parse_reader.specs.declared.post.Post.{Post}
use Rattle.argot_parse_reader.specs.Reading.{Answer, ◌>>=◌, closing, is_mark}
use Rattle.argot_parse_reader.specs.ExpressionReader.{starred, arrowed, with_kind}

abbrev pub is_kind_there : Option NodeKind → Bool
is_kind_there None = false
is_kind_there (Some kind) = true

-- an operator stands there; where a type may follow, a star or an arrow
abbrev pub operates : List Token → Bool → ℕ → Bool
operates tokens types at =
    is_mark tokens at marks.Star || (is_mark tokens at marks.Arrow || (not types && is_kind_there (unary_of (kind_at tokens at))))

-- how many operators stand in a row from a token on, so many at most
abbrev pub operators : List Token → Bool → ℕ → ℕ → ℕ
operators tokens types zero at = 0
operators tokens types (suc limit) at = if operates tokens types at then operators tokens types limit (at + 1) + 1 else 0

-- whether a type may still follow where so many operators stand that none follows
abbrev pub stays : Bool → ℕ → Bool
stays types zero = types
stays types (suc count) = false

-- the nodes up to a mark stay
abbrev pub Keeps : ℕ → List Post → List Post → Type 0
Keeps mark old new = (take mark new ≡ take mark old) × (mark ≤ length new)

-- what the operator there makes of what was read behind it, over the nodes that were there before
abbrev pub operated : List Token → Bool → List Post → ℕ → ℕ × List Post → Answer
operated tokens types base at r =
    if is_mark tokens at marks.Star then starred types at base r
    else (if is_mark tokens at marks.Arrow then arrowed types at base r
    else with_kind (unary_of (kind_at tokens at)) (λ kind. closing kind at base r) (Some r))

-- what so many operators from a token on make of it, the last of them the innermost
abbrev pub all_operated : List Token → Bool → List Post → ℕ → ℕ → Answer → Answer
all_operated tokens types base at zero answer = answer
all_operated tokens types base at (suc count) answer =
    all_operated tokens types base (at + 1) count answer >>= operated tokens types base at
