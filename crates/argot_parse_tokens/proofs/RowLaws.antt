-- One more type in a row, and a row that leads to nothing.
use Rattle.std.proofs.Common.{◌≡◌, ℕ, List, [], ◌∷◌, ◌++◌, None, refl, sym, ap, ◌∙◌}
use Rattle.argot_tree.specs.declared.node_kind.NodeKind.{NodeKind}
use Rattle.argot_parse_reader.specs.Reading.{Answer, ◌>>=◌, ending}
use Rattle.argot_parse_tokens.specs.declared.rows.Begun.{Begun}
use Rattle.argot_parse_tokens.specs.Rows.{begun_at, unwound}

pub unwound_more : (begun : List Begun) (last : Begun) (answer : Answer) → unwound (begun ++ last ∷ []) answer ≡ unwound begun (answer >>= ending last.kind last.from last.mark)
unwound_more [] last answer = refl
unwound_more (b ∷ more) last answer = ap (λ a. a >>= ending b.kind b.from b.mark) (unwound_more more last answer)

pub unwound_none : (begun : List Begun) → unwound begun None ≡ None
unwound_none [] = refl
unwound_none (b ∷ more) = ap (λ a. a >>= ending b.kind b.from b.mark) (unwound_none more)

-- a type over one that is read behind it is one more of the row
pub unwound_on : (begun more : List Begun) (kind : NodeKind) (from mark : ℕ) (inner answer : Answer) → more ≡ begun ++ begun_at kind from mark ∷ [] → answer ≡ (inner >>= ending kind from mark) → unwound begun answer ≡ unwound more inner
unwound_on begun more kind from mark inner answer e f =
    ap (unwound begun) f ∙ sym (ap (λ b. unwound b inner) e ∙ unwound_more begun (begun_at kind from mark) inner)

pub unwound_off : (begun : List Begun) (answer : Answer) → answer ≡ None → unwound begun answer ≡ None
unwound_off begun answer e = ap (unwound begun) e ∙ unwound_none begun
