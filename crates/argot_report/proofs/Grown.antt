-- A part of a report that is too long makes the whole too long.
use Rattle.std.proofs.Common.{◌≡◌, ℕ, zero, suc, ◌+◌, ◌<◌, ◌≤◌, List, [], ◌∷◌, ◌++◌, length, get_or, take, sym, ap, ◌∙◌, arith, subst}
use Rattle.std.specs.List.{flat_map}
use Rattle.std.proofs.lemmas.List.{length-append}
use Rattle.argot_report.specs.Growing.{TooLong}
use Rattle.argot_report.specs.Report.{most_bytes}
use Rattle.argot_report.specs.declared.faults.ReportFault.{ReportFault}

-- what stands before an item, and its own text, are within the whole
within : {X : Type 0} (f : X → List ℕ) (xs : List X) (k : ℕ) (d : X) → k < length xs → length (flat_map f (take k xs)) + length (f (get_or xs k d)) ≤ length (flat_map f xs)
within f [] k d l = absurd (omega arith)
within f (x ∷ xs) zero d l = let e = length-append (f x) (flat_map f xs) in omega arith
within f (x ∷ xs) (suc k) d l =
    let a = length-append (f x) (flat_map f (take k xs)) in
    let b = length-append (f x) (flat_map f xs) in
    let m = within f xs k d (omega (arith, l)) in
    omega arith

pub too_long : {X : Type 0} (f : X → List ℕ) (xs : List X) (k : ℕ) (d : X) (old out : List ℕ) (fault : ReportFault) → k < length xs → out ≡ old ++ flat_map f (take k xs)
    → TooLong out (f (get_or xs k d)) fault → TooLong old (flat_map f xs) fault
too_long f xs k d old out fault l is long why =
    let a = long why in
    let b = length-append out (f (get_or xs k d)) in
    let o = ap length is ∙ length-append old (flat_map f (take k xs)) in
    let w = length-append old (flat_map f xs) in
    let m = within f xs k d l in
    omega arith
