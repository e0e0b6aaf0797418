-- Lines one after another.
use Rattle.std.proofs.Common.{◌≡◌, ℕ, ◌+◌, ◌≤◌, List, [], ◌∷◌, ◌++◌, length, take, drop, Option, Some, None, refl, sym, ap, ◌∙◌, arith, append_assoc}
use Rattle.std.proofs.lemmas.List.{append-nil, length-take-le}
use Rattle.std.proofs.Math.Seq.{take-add}
use Rattle.argot_io.specs.Taken.{taken_with}
use Rattle.argot_tree.specs.declared.token.Token.{Token}
use Rattle.argot_show.specs.Lines.{line_onto, lines_onto}

-- a line stands behind what stood there
line_onto_is : (before bytes : List ℕ) (n : ℕ) (token : Token) → line_onto before bytes n token ≡ before ++ line_onto [] bytes n token
line_onto_is before bytes n token = simp append_assoc

lines_onto_is : (before bytes : List ℕ) (n : ℕ) (tokens : List Token) → lines_onto before bytes n tokens ≡ before ++ lines_onto [] bytes n tokens
lines_onto_is before bytes n [] = sym (append-nil before)
lines_onto_is before bytes n (token ∷ tokens) =
    let line = line_onto [] bytes n token in
    lines_onto_is (line_onto before bytes n token) bytes (n + 1) tokens
    ∙ ap (λ l. l ++ lines_onto [] bytes (n + 1) tokens) (line_onto_is before bytes n token)
    ∙ append_assoc before line (lines_onto [] bytes (n + 1) tokens)
    ∙ ap (λ l. before ++ l) (sym (lines_onto_is line bytes (n + 1) tokens))

lines_append : (before bytes : List ℕ) (n : ℕ) (some others : List Token) → lines_onto before bytes n (some ++ others) ≡ lines_onto (lines_onto before bytes n some) bytes (n + length some) others
lines_append before bytes n [] others = ap (λ m. lines_onto before bytes m others) (omega arith)
lines_append before bytes n (token ∷ tokens) others =
    lines_append (line_onto before bytes n token) bytes (n + 1) tokens others
    ∙ ap (λ m. lines_onto (lines_onto (line_onto before bytes n token) bytes (n + 1) tokens) bytes m others) (omega arith)

-- a stretch more
pub lines_more : (bytes : List ℕ) (at k : ℕ) (tokens : List Token) → at ≤ length tokens → lines_onto [] bytes 0 (take at tokens) ++ lines_onto [] bytes at (take k (drop at tokens)) ≡ lines_onto [] bytes 0 (take (at + k) tokens)
lines_more bytes at k tokens h =
    let front = take at tokens in
    let n : 0 + length front ≡ at = omega (arith, length-take-le at tokens h) in
    sym (
    ap (lines_onto [] bytes 0) (take-add at k tokens)
    ∙ lines_append [] bytes 0 front (take k (drop at tokens))
    ∙ ap (λ m. lines_onto (lines_onto [] bytes 0 front) bytes m (take k (drop at tokens))) n
    ∙ lines_onto_is (lines_onto [] bytes 0 front) bytes at (take k (drop at tokens))
    )

pub taken_twice : (taken : Option (List ℕ)) (a b : List ℕ) → taken_with (taken_with taken a) b ≡ taken_with taken (a ++ b)
taken_twice None a b = refl
taken_twice (Some had) a b = ap (λ l. Some l) (append_assoc had a b)
