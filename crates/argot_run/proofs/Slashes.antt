-- Trailing slashes, cut one by one.
use Rattle.std.proofs.Common.{◌≡◌, ◌≢◌, ℕ, ◌==◌, cond, List, [], ◌∷◌, ◌++◌, refl, ◌∙◌, ap, arith}
use Rattle.std.proofs.lemmas.Bool.Decides.{nat_tests}
use Rattle.argot_run.specs.Words.{without_slashes, byte_before}

pub without_slashes-more : (bs : List ℕ) → without_slashes (bs ++ 47 ∷ []) ≡ without_slashes bs
without_slashes-more [] = refl
without_slashes-more (b ∷ bs) = ap (byte_before b) (without_slashes-more bs)

kept : (b : ℕ) → b ≢ 47 → cond (b == 47) [] (b ∷ []) ≡ b ∷ []
kept b other = grind (arith, nat_tests)

stays : (b : ℕ) (bs : List ℕ) → ((front : List ℕ) → b ∷ bs ≢ front ++ 47 ∷ []) → byte_before b bs ≡ b ∷ bs
stays b [] other = kept b (λ e. other [] (ap (λ c. c ∷ []) e))
stays b (c ∷ cs) other = refl

pub without_slashes-none : (bs : List ℕ) → ((front : List ℕ) → bs ≢ front ++ 47 ∷ []) → without_slashes bs ≡ bs
without_slashes-none [] other = refl
without_slashes-none (b ∷ bs) other =
    ap (byte_before b) (without_slashes-none bs (λ front e. other (b ∷ front) (ap (λ cs. b ∷ cs) e))) ∙ stays b bs other
