-- The first name that stands for nothing, file by file.
use Rattle.std.proofs.Common.{◌≡◌, ℕ, ◌+◌, ◌≤◌, List, length, Option, Some, None, subst, arith}
use Rattle.std.specs.Prelude.{IfNone}
use Rattle.argot_names_rules.specs.Files.{SourceFiles}
use Rattle.argot_names_rules.specs.Faults.{IsNowhere, Unknown}
use Rattle.argot_names_imports.specs.declared.reached.Reached.{Reached}
use Rattle.argot_files.specs.declared.place.Place.{Place as Spot}
use Rattle.argot_names_tops.specs.declared.tops.Tops.{Tops}
use Rattle.argot_names_tops.specs.Tops.{AreTops}
use Rattle.argot_names_uses.specs.Faults.{IsFirstNumber, UnresolvedIn}
use Rattle.argot_names_uses.proofs.FirstUnresolved.{NoneBefore, none_more, first_place, nowhere}
use Rattle.argot_names_uses.specs.Firsts.{IsFirstBelow}

module _ (h : SourceFiles) (main : List ℕ) where
  pub none_yet : IsFirstBelow h main 0 None
  none_yet = record { some = tt; none = λ place low u. absurd (omega (arith, low)) }

  none_before : (count : ℕ) (o : Option Spot) → o ≡ None → IsFirstBelow h main count o → NoneBefore h main count
  none_before count o e first = (subst (IsFirstBelow h main count) e first).none

  -- one file more
  pub as_before : (count : ℕ) (o : Option Spot) (place : Spot) → o ≡ Some place → IsFirstBelow h main count o → IsFirstBelow h main (count + 1) (Some place)
  as_before count o place e first = record { some = (subst (IsFirstBelow h main count) e first).some; none = tt }

  pub found_here : (count : ℕ) (o : Option Spot) (here : Option ℕ) (offset : ℕ) → o ≡ None → here ≡ Some offset → IsFirstBelow h main count o → IsFirstNumber (UnresolvedIn h main count) here → IsFirstBelow h main (count + 1) (Some (record { file = count; offset = offset }))
  found_here count o here offset e f first is = record { some = first_place h main count offset here (none_before count o e first) is f; none = tt }

  pub none_here : (count : ℕ) (o : Option Spot) (here : Option ℕ) → o ≡ None → here ≡ None → IsFirstBelow h main count o → IsFirstNumber (UnresolvedIn h main count) here → IsFirstBelow h main (count + 1) None
  none_here count o here e f first is = record { some = tt; none = none_more h main count here (none_before count o e first) is f }

  -- all files have been gone over
  pub none_anywhere : (r : Reached) (t : Tops) → AreTops h main r t → (count : ℕ) → length t.files.items ≤ count → (o : Option Spot) → IsFirstBelow h main count o → IfNone o (IsNowhere h main Unknown)
  none_anywhere r t tops count long None first = nowhere h main r t tops count long first.none
  none_anywhere r t tops count long (Some place) first = tt
