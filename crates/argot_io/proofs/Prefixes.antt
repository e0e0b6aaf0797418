-- What `after_prefix` answers, by whether the path begins with the prefix.
use Rattle.std.proofs.Common.{◌≡◌, ◌≢◌, ℕ, ◌==◌, cond, List, [], ◌∷◌, ◌++◌, Option, Some, None, refl, sym, ◌∙◌, ap, arith, Bor}
use Rattle.std.specs.Option.{MatchOption, option_copied}
use Rattle.std.specs.Str.Pattern.{FindsTextPrefix, StripsPrefix}
use Rattle.std.proofs.lemmas.Bool.Decides.{nat_tests}
use Rattle.argot_io.specs.Told.{after_prefix}

same_head : (b : ℕ) (r : Option (List ℕ)) → cond (b == b) r None ≡ r
same_head b r = grind (arith, nat_tests)

pub after_prefix-append : (prefix rest : List ℕ) → after_prefix prefix (prefix ++ rest) ≡ Some rest
after_prefix-append [] rest = refl
after_prefix-append (b ∷ prefix) rest = rw same_head (after_prefix-append prefix rest)

other_head : (b c : ℕ) (r : Option (List ℕ)) → (b ≡ c → r ≡ None) → cond (b == c) r None ≡ None
other_head b c r same = grind (arith, nat_tests)

pub after_prefix-none : (prefix path : List ℕ) → ((rest : List ℕ) → path ≢ prefix ++ rest) → after_prefix prefix path ≡ None
after_prefix-none [] path lacks = absurd (lacks path refl)
after_prefix-none (b ∷ prefix) [] lacks = refl
after_prefix-none (b ∷ prefix) (c ∷ path) lacks =
    other_head b c (after_prefix prefix path) (λ e. after_prefix-none prefix path (λ rest h. lacks rest (cc (e, h))))

-- what `strip_prefix` gives
pub stripped :
    (prefix path : List ℕ) (r : Option (Bor (List ℕ))) →
    MatchOption r (FindsTextPrefix prefix path None) (λ x. StripsPrefix (FindsTextPrefix prefix) path x.now) →
    option_copied r ≡ after_prefix prefix path
stripped prefix path None lacks = sym (after_prefix-none prefix path lacks)
stripped prefix path (Some x) (n, finds, is, _) =
    let whole : path ≡ prefix ++ x.now = finds.1 ∙ ap (λ rest. prefix ++ rest) (sym is)
    in sym (ap (after_prefix prefix) whole ∙ after_prefix-append prefix x.now)
