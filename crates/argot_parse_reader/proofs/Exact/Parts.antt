-- At most one tree of a part that is read by itself spells the tokens between two places.
use Rattle.std.proofs.Common.{◌≡◌, ℕ, zero, suc, ◌-◌, ◌<◌, ◌≤◌, List, [], take, Bool, false, Some, None, refl, sym, ap, ◌∙◌, arith}
use Rattle.argot_tree.specs.declared.mark.Mark.TheVariants as marks
use Rattle.argot_tree.specs.declared.token.TokenKind.TheVariants as kinds
use Rattle.argot_tree.specs.declared.token.Token.{Token}
use Rattle.argot_tree.specs.Forests.{Forest, nodes_from}
use Rattle.argot_tree.specs.TokensAt.{kind_at, level_at, Passes}
use Rattle.argot_tree.specs.Grammar.{Part, Spells, Decl, Signature, Params, AnyType, Level, Block}
use Rattle.argot_parse_reader.specs.declared.post.Post.{Post}
use Rattle.argot_parse_reader.specs.Posts.{posts}
use Rattle.argot_parse_reader.specs.Rooms.{room, rank}
use Rattle.argot_parse_reader.specs.Reading.{The, Climb, is_kind}
use Rattle.argot_parse_reader.specs.Reader.{read}
use Rattle.argot_parse_reader.specs.Laws.{IsAlone, OnePart}
use Rattle.argot_parse_reader.proofs.Steps.{read_more}
use Rattle.argot_parse_reader.proofs.Exact.Tokens.{stops, ends_spec}
use Rattle.argot_parse_reader.proofs.Exact.Levels.{after_stop}
use Rattle.argot_parse_reader.proofs.Exact.Whole.{exact}
use Rattle.argot_parse_reader.proofs.Exact.Planting.{same_trees}
use Rattle.argot_parse_reader.proofs.Exact.Unique.{nodes_in}
use Rattle.argot_parse_reader.proofs.Exact.Cut.{Within, cut, cut_off}

module _ (tokens : List Token) where
  climb_none : (n k limit : ℕ) (bare : Bool) (from mark at : ℕ) (out : List Post) → level_at tokens at ≡ 0 → read tokens n (Climb k limit bare from mark) at out ≡ Some (at, out)
  unfolding read
  climb_none zero k limit bare from mark at out e = refl
  climb_none (suc n) k limit bare from mark at out e = rw e refl

  -- before the end of the tokens it is read whole
  whole : {p : Part} {x : Forest} {from to : ℕ} → IsAlone p → kind_at tokens to ≡ None → Spells tokens p x from to → (n : ℕ) → room tokens from (rank p) ≤ n → read tokens n (The p) from [] ≡ Some (to, posts x)
  whole {p = Level k bare} {x} {from} {to} alone e s n enough =
      let more : 0 < n = omega arith in
      let stop : Passes tokens stops to = record { there = ap stops e } in
      let a = after_stop tokens bare stop in
      let none = a.level in
      let r = exact tokens s false k (n - 1) [] (omega arith) (omega arith) (omega arith) a.stays a.brace in
      read_more tokens n (The (Level k bare)) from [] more ∙ rw r.reads (r.comes ∙ climb_none r.steps k r.limit bare from 0 to (posts x) none)
  whole {p = AnyType} {x} {from} {to} alone e s n enough = (exact tokens s).gets n [] enough (record { is = ap (λ o. is_kind o (kinds.Mark marks.Dot)) e })
  whole {p = Params dots} alone e s n enough = exact tokens s n [] enough
  whole {p = Signature} {x} {from} {to} alone e s n enough = exact tokens s n [] enough (record { is = ap (λ o. is_kind o (kinds.Mark marks.Dot)) e })
  whole {p = Decl} {x} {from} {to} alone e s n enough = exact tokens s n [] enough (record { there = ap ends_spec e })
  whole {p = Block} alone e s n enough = exact tokens s n [] enough
  whole {p = p} alone e s n enough = absurd alone

  whole_once : {p : Part} {x y : Forest} {from to : ℕ} → IsAlone p → kind_at tokens to ≡ None → Spells tokens p x from to → Spells tokens p y from to → x ≡ y
  whole_once {p} {x} {y} {from} {to} alone e s t =
      let steps = room tokens from (rank p) in
      same_trees x y (ap nodes_in (sym (whole alone e s steps (omega arith)) ∙ whole alone e t steps (omega arith)))

within : (tokens : List Token) (p : Part) (to : ℕ) → IsAlone p → Within tokens to p to
within tokens (Level k bare) to alone = omega arith
within tokens AnyType to alone = omega arith
within tokens (Params dots) to alone = omega arith
within tokens Signature to alone = omega arith
within tokens Decl to alone = omega arith
within tokens Block to alone = omega arith
within tokens _ to alone = absurd alone

pub one_part : OnePart
one_part tokens p a b from to alone s t =
    let inside = within tokens p to alone in
    let none = cut_off tokens to to (omega arith) in
    let same : s.0 ≡ t.0 = whole_once (take to tokens) alone none (cut tokens to s.1 inside) (cut tokens to t.1 inside) in
    s.2 ∙ ap (nodes_from 0) same ∙ sym t.2
