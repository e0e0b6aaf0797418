-- What is read reaches some place: no part ends before it begins, and a loop comes to something.
use Rattle.std.proofs.Common.{◌≡◌, ℕ, zero, suc, ◌+◌, ◌≤◌, List, Bool, true, false, Some, None, cond, refl, ◌∙◌, subst, arith}
use Rattle.argot_tree.specs.declared.mark.Mark.TheVariants as marks
use Rattle.argot_tree.specs.declared.node_kind.NodeKind.{NodeKind}
use Rattle.argot_tree.specs.declared.node_kind.NodeKind.TheVariants as nodes
use Rattle.argot_tree.specs.declared.token.TokenKind.TheVariants as kinds
use Rattle.argot_tree.specs.declared.token.Token.{Token}
use Rattle.std.proofs.lemmas.Bool.{cond_both}
use Rattle.argot_tree.specs.declared.mark.Mark.{Mark}
use Rattle.argot_tree.specs.TokensAt.{level_at}
use Rattle.argot_tree.specs.Grammar.{Part, Level, AnyType, Eithers}
use Rattle.argot_parse_reader.specs.declared.post.Post.{Post}
use Rattle.argot_parse_reader.specs.Reading.{The, Climb, Suffixes, MoreExprs, Answer, ◌>>=◌, try_on, closed, ending, is_at, is_mark, past, past_list, behind_comma}
use Rattle.argot_parse_reader.specs.ExpressionReader.{climbs, bracket_end, arguments_by, dot_by, second_by, behind_first_by, bracket_by, call_by, suffix_by}
use Rattle.argot_parse_reader.specs.Reader.{read}
use Rattle.argot_parse_reader.proofs.Sound.{reads_spelled}
use Rattle.argot_parse_reader.proofs.Exact.Ahead.{ahead}

-- an answer, at least as far as this place
pub record Goes (at : ℕ) (a : Answer) : Type 0 where
  pub found : ℕ × List Post
  pub is : a ≡ Some found
  pub far : at ≤ found.0

pub goes_some : {at : ℕ} (r : ℕ × List Post) → at ≤ r.0 → Goes at (Some r)
goes_some r h = record { found = r; is = refl; far = h }

pub goes_by : {at : ℕ} {a b : Answer} → a ≡ b → Goes at b → Goes at a
goes_by e g = record { found = g.found; is = e ∙ g.is; far = g.far }

pub goes_from : {at : ℕ} (to : ℕ) {a : Answer} → at ≤ to → Goes to a → Goes at a
goes_from {at} to h g = let far = g.far in record { found = g.found; is = g.is; far = omega arith }

pub goes_try : {at : ℕ} (a : Answer) {f : ℕ × List Post → Answer} {stay : Answer} → ((r : ℕ × List Post) → a ≡ Some r → Goes at (f r)) → Goes at stay → Goes at (try_on a f stay)
goes_try None g s = s
goes_try (Some r) g s = g r refl

pub goes_choose : {at : ℕ} (b : Bool) {x y : Answer} → (b ≡ true → Goes at x) → (b ≡ false → Goes at y) → Goes at (cond b x y)
goes_choose {at} b {x} {y} p q = cond_both b x y (Goes at) p q

abbrev IsAhead : ℕ → Answer → Type 0
IsAhead at None = Unit {0}
IsAhead at (Some r) = at ≤ r.0

-- an answer is no nearer than this place, if there is one
pub record Ahead (at : ℕ) (a : Answer) : Type 0 where
  pub held : IsAhead at a

pub ahead_of : {at : ℕ} (a : Answer) → Ahead at a → (r : ℕ × List Post) → a ≡ Some r → at ≤ r.0
ahead_of {at} a h r e = subst (IsAhead at) e h.held

pub nothing : {at : ℕ} → Ahead at None
nothing = record { held = tt }

pub something : {at : ℕ} (r : ℕ × List Post) → at ≤ r.0 → Ahead at (Some r)
something r h = record { held = h }

pub from : {at : ℕ} (to : ℕ) (a : Answer) → at ≤ to → Ahead to a → Ahead at a
from to None h g = nothing
from to (Some r) h g = let far : to ≤ r.0 = g.held in something r (omega arith)

bind_at : (at : ℕ) (a : Answer) (f : ℕ × List Post → Answer) → IsAhead at a → ((r : ℕ × List Post) → at ≤ r.0 → Ahead at (f r)) → Ahead at (a >>= f)
bind_at at None f g h = nothing
bind_at at (Some r) f g h = h r g

pub bind : {at : ℕ} (a : Answer) {f : ℕ × List Post → Answer} → Ahead at a → ((r : ℕ × List Post) → at ≤ r.0 → Ahead at (f r)) → Ahead at (a >>= f)
bind {at} a {f} g h = bind_at at a f g.held h

try_at : (at : ℕ) (a : Answer) (f : ℕ × List Post → Answer) (stay : Answer) → IsAhead at a → ((r : ℕ × List Post) → at ≤ r.0 → Ahead at (f r)) → Ahead at stay → Ahead at (try_on a f stay)
try_at at None f stay g h s = s
try_at at (Some r) f stay g h s = h r g

pub choose : {at : ℕ} (b : Bool) {x y : Answer} → Ahead at x → Ahead at y → Ahead at (cond b x y)
choose {at} b {x} {y} p q = cond_both b x y (Ahead at) (λ _. p) (λ _. q)

part_at : (at : ℕ) (a : Answer) → ((r : ℕ × List Post) → a ≡ Some r → at ≤ r.0) → Ahead at a
part_at at None f = nothing
part_at at (Some r) f = something r (f r refl)

module _ (tokens : List Token) where
  pub forward : (n : ℕ) (p : Part) (at : ℕ) (out : List Post) → Ahead at (read tokens n (The p) at out)
  forward n p at out = part_at at (read tokens n (The p) at out) (λ r e. ahead tokens (reads_spelled tokens n p at r.0 out r.1 e).1)

  -- the same from a place before
  pub part : (n : ℕ) (p : Part) {at : ℕ} (to : ℕ) (out : List Post) → at ≤ to → Ahead at (read tokens n (The p) to out)
  part n p to out h = from to (read tokens n (The p) to out) h (forward n p to out)

  pub passes : {at : ℕ} (mark : Mark) (r : ℕ × List Post) → at ≤ r.0 → Ahead at (past tokens mark r)
  passes mark r h = choose (is_mark tokens r.0 mark) (something (r.0 + 1, r.1) (omega arith)) nothing

  comma_behind : (at : ℕ) → at ≤ behind_comma tokens at
  comma_behind at = cond_both (is_mark tokens at marks.Comma) (at + 1) at (λ to. at ≤ to) (λ _. omega arith) (λ _. omega arith)

  pub list_passes : {at : ℕ} (mark : Mark) (r : ℕ × List Post) → at ≤ r.0 → Ahead at (past_list tokens mark r)
  list_passes mark r h = let behind = comma_behind r.0 in passes mark (behind_comma tokens r.0, r.1) (omega arith)

  closes_since : {at : ℕ} (kind : NodeKind) (start mark : ℕ) (r : ℕ × List Post) → at ≤ r.0 → Ahead at (ending kind start mark r)
  closes_since kind start mark r h = something (r.0, closed kind start r.0 mark r.1) h

  module _ (n start mark : ℕ) where
    bracket_ahead : {at : ℕ} (kind : NodeKind) (r : ℕ × List Post) → at ≤ r.0 → Ahead at (bracket_end tokens kind start mark r)
    bracket_ahead kind r h = bind (past tokens marks.CloseBracket r) (passes marks.CloseBracket r h) (λ q g. closes_since kind start mark q g)

    second_ahead : {at : ℕ} (kind with_max : NodeKind) (r : ℕ × List Post) → at ≤ r.0 → Ahead at (second_by tokens (read tokens n) kind with_max start mark r)
    second_ahead kind with_max r h =
        choose (is_mark tokens r.0 marks.Colon)
        (bind (read tokens n (The (Level 1 true)) (r.0 + 1) r.1) (part n (Level 1 true) (r.0 + 1) r.1 (omega arith)) (λ q g. bracket_ahead with_max q g))
        (bracket_ahead kind r h)

    first_ahead : {at : ℕ} (r : ℕ × List Post) → at ≤ r.0 → Ahead at (behind_first_by tokens (read tokens n) start mark r)
    first_ahead r h =
        choose (is_mark tokens r.0 marks.Colon)
        (choose (is_mark tokens (r.0 + 1) marks.CloseBracket)
        (something (r.0 + 2, closed nodes.SliceFrom start (r.0 + 2) mark r.1) (omega arith))
        (bind (read tokens n (The (Level 1 true)) (r.0 + 1) r.1) (part n (Level 1 true) (r.0 + 1) r.1 (omega arith)) (λ q g. second_ahead nodes.SliceBetween nodes.SliceBetweenMax q g)))
        (bracket_ahead nodes.Index r h)

    arguments_ahead : {at : ℕ} (r : ℕ × List Post) → at ≤ r.0 → Ahead at (arguments_by tokens start mark r)
    arguments_ahead r h =
        choose (is_mark tokens r.0 marks.Ellipsis)
        (bind (past_list tokens marks.CloseParen (r.0 + 1, r.1)) (list_passes marks.CloseParen (r.0 + 1, r.1) (omega arith)) (λ q g. closes_since nodes.SpreadCall start mark q g))
        (bind (past_list tokens marks.CloseParen r) (list_passes marks.CloseParen r h) (λ q g. closes_since nodes.Call start mark q g))

    dot_ahead : (at : ℕ) (out : List Post) → Ahead at (dot_by tokens (read tokens n) start mark at out)
    dot_ahead at out =
        choose (is_at tokens (at + 1) kinds.Name)
        (something _ (omega arith))
        (choose (is_mark tokens (at + 1) marks.OpenParen)
        (bind (read tokens n (The AnyType) (at + 2) out >>= past tokens marks.CloseParen) (bind (read tokens n (The AnyType) (at + 2) out) (part n AnyType (at + 2) out (omega arith)) (λ q g. passes marks.CloseParen q g)) (λ q g. closes_since nodes.TypeAssertion start mark q g))
        nothing)

    brackets_ahead : (at : ℕ) (out : List Post) → Ahead at (bracket_by tokens (read tokens n) start mark at out)
    brackets_ahead at out =
        choose (is_mark tokens (at + 1) marks.Colon)
        (choose (is_mark tokens (at + 2) marks.CloseBracket)
        (something (at + 3, closed nodes.SliceAll start (at + 3) mark out) (omega arith))
        (bind (read tokens n (The (Level 1 true)) (at + 2) out) (part n (Level 1 true) (at + 2) out (omega arith)) (λ q g. second_ahead nodes.SliceTo nodes.SliceToMax q g)))
        (bind (read tokens n (The (Level 1 true)) (at + 1) out) (part n (Level 1 true) (at + 1) out (omega arith)) (λ q g. first_ahead q g))

    call_ahead : (at : ℕ) (out : List Post) → Ahead at (call_by tokens (read tokens n) start mark at out)
    call_ahead at out =
        choose (is_mark tokens (at + 1) marks.CloseParen)
        (something (at + 2, closed nodes.Call start (at + 2) mark out) (omega arith))
        (bind (read tokens n (The Eithers) (at + 1) out) (part n Eithers (at + 1) out (omega arith)) (λ q g. arguments_ahead q g))

    suffix_ahead : (at : ℕ) (out : List Post) → Ahead at (suffix_by tokens (read tokens n) start mark at out)
    suffix_ahead at out =
        choose (is_mark tokens at marks.Dot) (dot_ahead at out)
        (choose (is_mark tokens at marks.OpenBracket) (brackets_ahead at out)
        (choose (is_mark tokens at marks.OpenParen) (call_ahead at out) nothing))

  -- a loop comes to something
  pub suffixes_go : (n start mark at : ℕ) (out : List Post) → Goes at (read tokens n (Suffixes start mark) at out)
  unfolding read
  suffixes_go zero start mark at out = goes_some (at, out) (omega arith)
  suffixes_go (suc n) start mark at out =
      goes_try (suffix_by tokens (read tokens n) start mark at out)
      (λ r e. goes_from r.0 (ahead_of (suffix_by tokens (read tokens n) start mark at out) (suffix_ahead n start mark at out) r e) (suffixes_go n start mark r.0 r.1))
      (goes_some (at, out) (omega arith))

  pub climb_goes : (n k limit : ℕ) (bare : Bool) (start mark at : ℕ) (out : List Post) → Goes at (read tokens n (Climb k limit bare start mark) at out)
  unfolding read
  climb_goes zero k limit bare start mark at out = goes_some (at, out) (omega arith)
  climb_goes (suc n) k limit bare start mark at out =
      goes_choose (climbs k limit (level_at tokens at))
      (λ _. goes_try (read tokens n (The (Level (level_at tokens at + 1) bare)) (at + 1) out)
      (λ r e. let further : at + 1 ≤ r.0 = ahead_of (read tokens n (The (Level (level_at tokens at + 1) bare)) (at + 1) out) (forward n (Level (level_at tokens at + 1) bare) (at + 1) out) r e in
      goes_from r.0 (omega arith) (climb_goes n k (level_at tokens at) bare start mark r.0 (closed nodes.Binary start r.0 mark r.1)))
      (goes_some (at, out) (omega arith)))
      (λ _. goes_some (at, out) (omega arith))

  pub more_goes : (n : ℕ) (bare : Bool) (at : ℕ) (out : List Post) → Goes at (read tokens n (MoreExprs bare) at out)
  unfolding read
  more_goes zero bare at out = goes_some (at, out) (omega arith)
  more_goes (suc n) bare at out =
      goes_choose (is_mark tokens at marks.Comma)
      (λ _. goes_try (read tokens n (The (Level 1 bare)) (at + 1) out)
      (λ r e. let further : at + 1 ≤ r.0 = ahead_of (read tokens n (The (Level 1 bare)) (at + 1) out) (forward n (Level 1 bare) (at + 1) out) r e in
      goes_from r.0 (omega arith) (more_goes n bare r.0 r.1))
      (goes_some (at, out) (omega arith)))
      (λ _. goes_some (at, out) (omega arith))
