-- One more token, in the count of nesting.
use Rattle.std.proofs.Common.{◌≡◌, ℕ, ◌+◌, ◌-◌, ◌<◌, ◌≤◌, List, [], ◌∷◌, ◌++◌, length, take, get_or, Bool, true, false, subst, refl, sym, ap, ◌∙◌, arith}
use Rattle.std.specs.Prelude.{if◌then◌else◌}
use Rattle.std.proofs.lemmas.List.{take_more, get_or_default}
use Rattle.argot_tree.specs.declared.token.Token.{Token}
use Rattle.argot_tree.specs.Nesting.{opens, closes, resets, counts, open_behind, counted_behind}

open_append : (opened : ℕ) (some : List Token) (token : Token) → open_behind opened (some ++ token ∷ []) ≡ (if opens token.kind then open_behind opened some + 1 else (if closes token.kind then open_behind opened some - 1 else open_behind opened some))
open_append opened [] token = refl
open_append opened (first ∷ some) token = open_append (if opens first.kind then opened + 1 else (if closes first.kind then opened - 1 else opened)) some token

counted_append : (count : ℕ) (some : List Token) (token : Token) → counted_behind count (some ++ token ∷ []) ≡ (if resets token.kind then 0 else (if counts token.kind then counted_behind count some + 1 else counted_behind count some))
counted_append count [] token = refl
counted_append count (first ∷ some) token = counted_append (if resets first.kind then 0 else (if counts first.kind then count + 1 else count)) some token

pub open_more : (tokens : List Token) (at : ℕ) (token : Token) → at < length tokens → get_or tokens at token ≡ token → open_behind 0 (take (at + 1) tokens) ≡ (if opens token.kind then open_behind 0 (take at tokens) + 1 else (if closes token.kind then open_behind 0 (take at tokens) - 1 else open_behind 0 (take at tokens)))
open_more tokens at token h is =
    ap (open_behind 0) (take_more tokens at token h ∙ ap (λ t. take at tokens ++ t ∷ []) is) ∙ open_append 0 (take at tokens) token

pub counted_more : (tokens : List Token) (at : ℕ) (token : Token) → at < length tokens → get_or tokens at token ≡ token → counted_behind 0 (take (at + 1) tokens) ≡ (if resets token.kind then 0 else (if counts token.kind then counted_behind 0 (take at tokens) + 1 else counted_behind 0 (take at tokens)))
counted_more tokens at token h is =
    ap (counted_behind 0) (take_more tokens at token h ∙ ap (λ t. take at tokens ++ t ∷ []) is) ∙ counted_append 0 (take at tokens) token

at_most : (b d : Bool) (x y : ℕ) → x ≤ y → (if b then x + 1 else (if d then x - 1 else x)) ≤ y + 1
at_most true d x y h = omega arith
at_most false true x y h = omega arith
at_most false false x y h = omega arith

at_most' : (b d : Bool) (x y : ℕ) → x ≤ y → (if b then 0 else (if d then x + 1 else x)) ≤ y + 1
at_most' true d x y h = omega arith
at_most' false true x y h = omega arith
at_most' false false x y h = omega arith

-- the same of what was counted so far; the token is read with any default
pub open_next : (tokens : List Token) (at o n : ℕ) (default : Token) → at < length tokens → o ≡ open_behind 0 (take at tokens) → o ≤ at
    → n ≡ (if opens (get_or tokens at default).kind then o + 1 else (if closes (get_or tokens at default).kind then o - 1 else o)) → (n ≡ open_behind 0 (take (at + 1) tokens)) × (n ≤ at + 1)
open_next tokens at o n default h is small e =
    let token = get_or tokens at default in
    let same : get_or tokens at token ≡ token = get_or_default tokens at token default h in
    let whole : n ≡ open_behind 0 (take (at + 1) tokens) = e ∙ ap (λ m. if opens token.kind then m + 1 else (if closes token.kind then m - 1 else m)) is ∙ sym (open_more tokens at token h same) in
    (whole, subst (λ m. m ≤ at + 1) (sym e) (at_most (opens token.kind) (closes token.kind) o at small))

pub counted_next : (tokens : List Token) (at o n : ℕ) (default : Token) → at < length tokens → o ≡ counted_behind 0 (take at tokens) → o ≤ at
    → n ≡ (if resets (get_or tokens at default).kind then 0 else (if counts (get_or tokens at default).kind then o + 1 else o)) → (n ≡ counted_behind 0 (take (at + 1) tokens)) × (n ≤ at + 1)
counted_next tokens at o n default h is small e =
    let token = get_or tokens at default in
    let same : get_or tokens at token ≡ token = get_or_default tokens at token default h in
    let whole : n ≡ counted_behind 0 (take (at + 1) tokens) = e ∙ ap (λ m. if resets token.kind then 0 else (if counts token.kind then m + 1 else m)) is ∙ sym (counted_more tokens at token h same) in
    (whole, subst (λ m. m ≤ at + 1) (sym e) (at_most' (resets token.kind) (counts token.kind) o at small))
