-- What is refused of names, and that nothing is wrong.
use Rattle.std.proofs.Common.{◌≡◌, ℕ, ◌<◌, List, sym, subst, arith}
use Rattle.std.specs.Prelude.{Result, Ok, Err, OnOk, IsErrAnd}
use Rattle.argot_names_rules.specs.declared.fault.NameFault.{NameFault}
use Rattle.argot_text.specs.declared.position.Pos.{Pos}
use Rattle.argot_names_rules.specs.Files.{SourceFiles, Place, IsFirst, position_of}
use Rattle.argot_names_rules.specs.Faults.{IsRedeclared, IsUnresolved, memory, Wrong, SecondName, Missing, Cycle, Again, Unknown, order, IsNowhere, Refuses, named, IsResolved}
use Rattle.argot_names_rules.specs.declared.fault.NameFault.TheVariants as faults
use Rattle.argot_names_imports.specs.declared.reached.Reached.{Reached}
use Rattle.argot_names_tops.specs.declared.tops.Tops.{Tops}
use Rattle.argot_names_tops.specs.Tops.{AreTops}
use Rattle.argot_names.specs.declared.loading.Names.{Names}
use Rattle.argot_names.specs.Names.{HasNames}

module _ (h : SourceFiles) (main : List ℕ) (r : Reached) (t : Tops) (tops : AreTops h main r t) where
  before_again : (earlier : Wrong) → order earlier < order Again → IsNowhere h main earlier
  before_again SecondName l = tops.reach.one_name
  before_again Missing l = tops.reach.all_found
  before_again Cycle l = tops.reach.no_cycle
  before_again Again l = absurd (omega (arith, l))
  before_again Unknown l = absurd (omega (arith, l))

  pub again_refused : (place : Place) (at : Pos) → IsFirst (IsRedeclared h main) place → at ≡ position_of h place → Refuses h main (faults.Redeclared at)
  again_refused place at first e = subst (λ p. Refuses h main (faults.Redeclared p)) (sym e) (named Again place tops.reach.has_main before_again first)

  before_unknown : IsNowhere h main Again → (earlier : Wrong) → order earlier < order Unknown → IsNowhere h main earlier
  before_unknown once SecondName l = tops.reach.one_name
  before_unknown once Missing l = tops.reach.all_found
  before_unknown once Cycle l = tops.reach.no_cycle
  before_unknown once Again l = once
  before_unknown once Unknown l = absurd (omega (arith, l))

  pub unknown_refused : IsNowhere h main Again → (place : Place) (at : Pos) → IsFirst (IsUnresolved h main) place → at ≡ position_of h place → Refuses h main (faults.Unresolved at)
  unknown_refused once place at first e = subst (λ p. Refuses h main (faults.Unresolved p)) (sym e) (named Unknown place tops.reach.has_main (before_unknown once) first)

  nowhere : IsNowhere h main Again → IsNowhere h main Unknown → (wrong : Wrong) → IsNowhere h main wrong
  nowhere once known SecondName = tops.reach.one_name
  nowhere once known Missing = tops.reach.all_found
  nowhere once known Cycle = tops.reach.no_cycle
  nowhere once known Again = once
  nowhere once known Unknown = known

  pub resolved : IsNowhere h main Again → IsNowhere h main Unknown → IsResolved h main
  resolved once known = record { has_main = tops.reach.has_main; right = nowhere once known }

-- what holds after success, weakened
pub on_ok : {A : Type 0} (r : Result A NameFault) (P Q : Type 0) → (P → Q) → OnOk r P → OnOk r Q
on_ok (Ok x) P Q f p = f p
on_ok (Err e) P Q f p = tt

module _ (h : SourceFiles) (main : List ℕ) (r : Reached) where
  -- a fault is answered, and it is the one that is due
  pub names_call : (result : Result Names NameFault) (f : NameFault) → IsErrAnd result (λ e. e ≡ f) → Refuses h main f → HasNames h main r result
  names_call (Ok x) f e is = absurd e
  names_call (Err g) f e is = record { ok = tt; fine = tt; fault = subst (Refuses h main) (sym e) is }

  -- want of memory may be answered
  pub names_memory : (result : Result Names NameFault) → IsErrAnd result (λ e. e ≡ faults.Memory) → HasNames h main r result
  names_memory result e = names_call result faults.Memory e memory
