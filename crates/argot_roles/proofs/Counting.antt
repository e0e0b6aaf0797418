-- What counts as a function of a list, by flags.
use Rattle.std.proofs.Common.{◌≡◌, ℕ, ◌<◌, Bool, true, false, List, Option, Some, None, refl, sym, ap, ◌∙◌}
use Rattle.std.specs.List.{slice_get}
use Rattle.argot_plain.specs.Counts.{is_among}
use Rattle.argot_plain.specs.Lists.{In, member}
use Rattle.argot_roles.specs.Counting.{flag_of, flag_at}
use Rattle.argot_roles.specs.Marking.{AreMarked}
use Rattle.argot_roles.proofs.Membership.{member_in, in_member}

pub among_is : (list : List ℕ) (n : ℕ) (flags : List Bool) → AreMarked (λ m. In m list) n flags → ((h : ℕ) → In h list → h < n) → (o : Option ℕ) → flag_at flags o ≡ is_among o list
among_is list n flags marked below None = refl
among_is list n flags marked below (Some h) = by (slice_get flags h) refl (member h list) refl
  where
    by : (f : Option Bool) → slice_get flags h ≡ f → (b : Bool) → member h list ≡ b → flag_of (slice_get flags h) ≡ member h list
    by (Some true) e b m = ap flag_of e ∙ sym (in_member h list (marked.only h e))
    by (Some false) e true m = (let z : Some true ≡ Some false = sym (marked.there h (member_in h list m) (below h (member_in h list m))) ∙ e in absurd cc)
    by (Some false) e false m = ap flag_of e ∙ sym m
    by None e true m = (let z : Some true ≡ None = sym (marked.there h (member_in h list m) (below h (member_in h list m))) ∙ e in absurd cc)
    by None e false m = ap flag_of e ∙ sym m
