-- What a file gives, from the line that was found.
use Rattle.std.proofs.Common.{◌≡◌, ℕ, List, codes, subst}
use Rattle.std.specs.Prelude.{Option, Some, None, IfSome, IfNone}
use Rattle.argot_names_rules.specs.GoMod.{FirstLine, HasNumbers, GivesNumbers}
use Rattle.argot_names_rules.specs.GoMod.GivesNumbers.{given, none}

pub line_gives : (bytes : List ℕ) (offset : ℕ) (word : List ℕ) (found : Option (ℕ × ℕ)) → FirstLine bytes (codes "go") offset word
    → ((o : ℕ) (t : List ℕ) → FirstLine bytes (codes "go") o t → (o ≡ offset) × (t ≡ word))
    → IfSome found (λ n. HasNumbers word n.0 n.1) → IfNone found ((major minor : ℕ) → HasNumbers word major minor → ⊥) → GivesNumbers bytes found
line_gives bytes offset word (Some n) line one has never = given line has
line_gives bytes offset word None line one has never = none (λ o major minor t other numbers. never major minor (subst (λ w. HasNumbers w major minor) (one o t other).1 numbers))
