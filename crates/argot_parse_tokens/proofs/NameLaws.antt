-- Rows of names with commas between.
use Rattle.std.proofs.Common.{◌≡◌, ℕ, suc, ◌+◌, ◌≤◌, length, ⊎_elim, List, [], ◌∷◌, drop, slice_get, Bool, true, false, ◌&&◌, Option, Some, None, refl, sym, ap, ◌∙◌, arith}
use Rattle.std.proofs.Math.ListN.{drop_of_length-le}
use Rattle.std.proofs.Math.Seq.{drop-cons}
use Rattle.std.proofs.lemmas.Option.{slice_get_within, get_or_from_slice_get, slice_get_cases, none-some}
use Rattle.argot_tree.specs.declared.mark.Mark.TheVariants as marks
use Rattle.argot_tree.specs.declared.token.TokenKind.TheVariants as kinds
use Rattle.argot_tree.specs.declared.token.Token.{Token}
use Rattle.argot_tree.specs.TokensAt.{kind_of}
use Rattle.argot_parse_reader.specs.Reading.{is_kind, is_at, is_mark, more_names}

both_false : (a b : Bool) → b ≡ false → (a && b) ≡ false
both_false true b e = e
both_false false b e = refl

past_end : (tokens : List Token) (at : ℕ) → slice_get tokens at ≡ None → length tokens ≤ at
past_end tokens at h = ⊎_elim (λ f. absurd (none-some f.0 (sym h ∙ f.2))) (λ g. g.0) (slice_get_cases tokens at).1

drop_past : (tokens : List Token) (at : ℕ) → slice_get tokens at ≡ None → drop at tokens ≡ []
drop_past tokens at h = drop_of_length-le tokens (past_end tokens at h)

front : (tokens : List Token) (at : ℕ) (x : Token) → slice_get tokens at ≡ Some x → drop at tokens ≡ x ∷ drop (suc at) tokens
front tokens at x h = drop-cons tokens at x (slice_get_within tokens at x h) ∙ ap (λ y. y ∷ drop (suc at) tokens) (get_or_from_slice_get tokens at x x h)

moved : (x : Token) (tokens : List Token) (m n : ℕ) → m ≡ n → x ∷ drop m tokens ≡ x ∷ drop n tokens
moved x tokens m n e = ap (λ k. x ∷ drop k tokens) e

next : (tokens : List Token) (at : ℕ) (x : Token) → slice_get tokens at ≡ Some x → drop at tokens ≡ x ∷ drop (at + 1) tokens
next tokens at x h = front tokens at x h ∙ moved x tokens (suc at) (at + 1) (omega arith)

goes_in : (tokens : List Token) (at : ℕ) (p q : Option Token) → slice_get tokens at ≡ p → slice_get tokens (at + 1) ≡ q → is_kind (kind_of p) (kinds.Mark marks.Comma) ≡ true → is_kind (kind_of q) kinds.Name ≡ true → more_names (drop at tokens) ≡ 2 + more_names (drop (at + 2) tokens)
goes_in tokens at None q hp hq e f = grind arith
goes_in tokens at (Some a) None hp hq e f = grind arith
goes_in tokens at (Some a) (Some b) hp hq e f =
    let second : drop (at + 1) tokens ≡ b ∷ drop (at + 2) tokens = next tokens (at + 1) b hq ∙ moved b tokens (at + 1 + 1) (at + 2) (omega arith) in
    let both : drop at tokens ≡ a ∷ b ∷ drop (at + 2) tokens = next tokens at a hp ∙ ap (λ l. a ∷ l) second in
    ap more_names both ∙ rw e (rw f refl)

stops_in : (tokens : List Token) (at : ℕ) (p q : Option Token) → slice_get tokens at ≡ p → slice_get tokens (at + 1) ≡ q → (is_kind (kind_of p) (kinds.Mark marks.Comma) && is_kind (kind_of q) kinds.Name) ≡ false → more_names (drop at tokens) ≡ 0
stops_in tokens at None q hp hq e = ap more_names (drop_past tokens at hp)
stops_in tokens at (Some a) None hp hq e = ap more_names (next tokens at a hp ∙ ap (λ l. a ∷ l) (drop_past tokens (at + 1) hq))
stops_in tokens at (Some a) (Some b) hp hq e =
    let second : drop (at + 1) tokens ≡ b ∷ drop (at + 2) tokens = next tokens (at + 1) b hq ∙ moved b tokens (at + 1 + 1) (at + 2) (omega arith) in
    let both : drop at tokens ≡ a ∷ b ∷ drop (at + 2) tokens = next tokens at a hp ∙ ap (λ l. a ∷ l) second in
    ap more_names both ∙ rw e refl

pub names_go_on : (tokens : List Token) (at : ℕ) → is_mark tokens at marks.Comma ≡ true → is_at tokens (at + 1) kinds.Name ≡ true → more_names (drop at tokens) ≡ 2 + more_names (drop (at + 2) tokens)
names_go_on tokens at e f = goes_in tokens at (slice_get tokens at) (slice_get tokens (at + 1)) refl refl e f

pub no_comma : (tokens : List Token) (at : ℕ) → is_mark tokens at marks.Comma ≡ false → more_names (drop at tokens) ≡ 0
no_comma tokens at e = stops_in tokens at (slice_get tokens at) (slice_get tokens (at + 1)) refl refl (rw e refl)

pub no_name : (tokens : List Token) (at : ℕ) → is_at tokens (at + 1) kinds.Name ≡ false → more_names (drop at tokens) ≡ 0
no_name tokens at e = stops_in tokens at (slice_get tokens at) (slice_get tokens (at + 1)) refl refl (both_false (is_mark tokens at marks.Comma) (is_at tokens (at + 1) kinds.Name) e)
