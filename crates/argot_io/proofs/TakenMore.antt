-- Two pieces taken one after the other are the piece of both.
use Rattle.std.proofs.Common.{◌≡◌, ℕ, ◌+◌, ◌-◌, ◌≤◌, List, length, arith, length-drop, ◌++◌, take, drop, Option, Some, None, refl, sym, ◌∙◌, ap, append_assoc}
use Rattle.std.proofs.Math.Seq.{take-add}
use Rattle.std.proofs.lemmas.List.{take_rest}
use Rattle.argot_io.specs.Taken.{taken_with}

taken_twice : (taken : Option (List ℕ)) (a b : List ℕ) → taken_with (taken_with taken a) b ≡ taken_with taken (a ++ b)
taken_twice None a b = refl
taken_twice (Some had) a b = ap Some (append_assoc had a b)

pub taken_more :
    (before between after : Option (List ℕ)) (bytes : List ℕ) (w n : ℕ) → between ≡ taken_with before (take w bytes) →
    after ≡ taken_with between (take n (take (length bytes - w) (drop w bytes))) →
    after ≡ taken_with before (take (w + n) bytes)
taken_more before between after bytes w n first second =
    second ∙ ap (λ piece. taken_with between (take n piece)) (take_rest bytes w)
    ∙ ap (λ t. taken_with t (take n (drop w bytes))) first ∙ taken_twice before (take w bytes) (take n (drop w bytes))
    ∙ ap (taken_with before) (sym (take-add w n bytes))

pub within_more : (bytes : List ℕ) (w n : ℕ) → w ≤ length bytes → n ≤ length (take (length bytes - w) (drop w bytes)) → w + n ≤ length bytes
within_more bytes w n before more = omega (arith, length-drop w bytes, ap length (take_rest bytes w))
