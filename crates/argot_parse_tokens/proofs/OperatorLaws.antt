-- Operators in a row: how many there are, what the last of them does, and what is kept.
use Rattle.std.proofs.Common.{◌≡◌, ℕ, zero, suc, ◌+◌, ◌-◌, ◌≤◌, ◌<◌, List, length, take, Bool, true, false, Option, Some, None, refl, sym, ap, subst, ◌∙◌, arith}
use Rattle.argot_tree.specs.declared.token.Token.{Token}
use Rattle.argot_parse_reader.specs.declared.post.Post.{Post}
use Rattle.argot_parse_reader.specs.Reading.{Answer, ◌>>=◌}
use Rattle.argot_parse_reader.specs.ExpressionReader.{ending_with}
use Rattle.argot_parse_reader.proofs.Growing.{Grows, behind}
use Rattle.argot_parse_reader.proofs.Grows.{after}
use Rattle.argot_parse_tokens.specs.Operators.{operates, operators, operated, all_operated}

module _ (tokens : List Token) (types : Bool) where
  -- the row goes on behind an operator
  pub operators_suc : (limit at : ℕ) → operates tokens types at ≡ true → operators tokens types (suc limit) at ≡ operators tokens types limit (at + 1) + 1
  operators_suc limit at e = rw e refl

  pub operators_more : (limit at : ℕ) → 0 < limit → operates tokens types at ≡ true → operators tokens types limit at ≡ operators tokens types (limit - 1) (at + 1) + 1
  operators_more zero at h e = grind arith
  operators_more (suc limit) at h e = operators_suc limit at e ∙ ap (λ n. operators tokens types n (at + 1) + 1) (omega arith)

  -- it ends where none stands, and where no more are asked for
  pub operators_end : (limit at : ℕ) → operates tokens types at ≡ false → operators tokens types limit at ≡ 0
  operators_end zero at e = refl
  operators_end (suc limit) at e = rw e refl

  pub operators_over : (limit at : ℕ) → limit ≡ 0 → operators tokens types limit at ≡ 0
  operators_over zero at e = refl
  operators_over (suc limit) at e = grind arith

  module _ (base : List Post) where
    -- the last of them is the innermost
    pub operated_last : (count at : ℕ) (answer : Answer) → all_operated tokens types base at (suc count) answer ≡ all_operated tokens types base at count (answer >>= operated tokens types base (at + count))
    operated_last zero at answer = ap (λ n. answer >>= operated tokens types base n) (omega arith)
    operated_last (suc count) at answer =
        let e : at + 1 + count ≡ at + suc count = omega arith in
        ap (λ a. a >>= operated tokens types base at) (operated_last count (at + 1) answer ∙ ap (λ n. all_operated tokens types base (at + 1) count (answer >>= operated tokens types base n)) e)

    pub operated_down : (count at to : ℕ) (old new : List Post) → 0 < count → operated tokens types base (at + (count - 1)) (to, old) ≡ Some (to, new) → all_operated tokens types base at count (Some (to, old)) ≡ all_operated tokens types base at (count - 1) (Some (to, new))
    operated_down count at to old new h e =
        let more : count ≡ suc (count - 1) = omega arith in
        ap (λ n. all_operated tokens types base at n (Some (to, old))) more ∙ (operated_last (count - 1) at (Some (to, old)) ∙ ap (all_operated tokens types base at (count - 1)) e)

    pub operated_none : (count at : ℕ) → all_operated tokens types base at count None ≡ None
    operated_none zero at = refl
    operated_none (suc count) at = ap (λ a. a >>= operated tokens types base at) (operated_none count (at + 1))

    pub operated_off : (count at to : ℕ) (old : List Post) → 0 < count → operated tokens types base (at + (count - 1)) (to, old) ≡ None → all_operated tokens types base at count (Some (to, old)) ≡ None
    operated_off count at to old h e =
        let more : count ≡ suc (count - 1) = omega arith in
        ap (λ n. all_operated tokens types base at n (Some (to, old))) more ∙ (operated_last (count - 1) at (Some (to, old)) ∙ (ap (all_operated tokens types base at (count - 1)) e ∙ operated_none (count - 1) at))

-- the old nodes are the front of those with the arrows given away
pub held : (base new : List Post) (to : ℕ) (back : Option (List Post)) → ending_with to base back ≡ Some (to, new) → (take (length base) new ≡ base) × (length base ≤ length new)
held base new to back h = after base (Some (to, new)) (subst (Grows base) h (behind base to back))
