-- A fault at its first place is the one that is answered, where nothing that comes before it in order is wrong.
use Rattle.std.proofs.Common.{◌≡◌, ℕ, ◌<◌, List, Option, Some, None, sym, ap, ◌∙◌, subst, arith}
use Rattle.argot_text.specs.declared.position.Pos.{Pos}
use Rattle.argot_names_rules.specs.Files.{SourceFiles, Place, IsFirst, position_of}
use Rattle.argot_names_rules.specs.Faults.{HasMain, Wrong, SecondName, Missing, Cycle, Again, Unknown, places, order, fault_of, IsNowhere, Refuses, named, memory}
use Rattle.argot_names_rules.specs.declared.fault.NameFault.{NameFault}
use Rattle.argot_names_rules.specs.declared.fault.NameFault.TheVariants as faults
use Rattle.std.specs.Prelude.{Result, Ok, Err, IfErr, OnOk}
use Rattle.std.specs.Result.{IsErrAnd}
use Rattle.argot_files.specs.declared.place.Place.{Place as Spot}
use Rattle.argot_files.specs.Places.{place_of}
use Rattle.argot_names_packages.specs.Spots.{IsLeast, found, none}

pub least_found : (Holds : Place → Type 0) (o : Option Spot) (spot : Spot) → IsLeast Holds o → o ≡ Some spot → IsFirst Holds (place_of spot)
least_found Holds _ spot (found {spot = s} first) e = subst (λ (x : Spot). IsFirst Holds (place_of x)) (some_is s spot e) first
  where
    some_is : (x y : Spot) → Some x ≡ Some y → x ≡ y
    some_is x y e = cc
least_found Holds _ spot (none nothing) e = absurd (cc)

pub least_none : (Holds : Place → Type 0) (o : Option Spot) → IsLeast Holds o → o ≡ None → (place : Place) → Holds place → ⊥
least_none Holds _ (found first) e = absurd (cc)
least_none Holds _ (none nothing) e = nothing

module _ (h : SourceFiles) (main : List ℕ) (has_main : HasMain h main) where
  -- the fault with its place by line and column
  refused : (wrong : Wrong) (spot : Spot) (at : Pos) → ((earlier : Wrong) → order earlier < order wrong → IsNowhere h main earlier) → IsFirst (places h main wrong) (place_of spot) → at ≡ position_of h (place_of spot) → Refuses h main (fault_of wrong at)
  refused wrong spot at earlier first e = subst (λ p. Refuses h main (fault_of wrong p)) (sym e) (named wrong (place_of spot) has_main earlier first)

  pub two_names : (spot : Spot) (at : Pos) → IsFirst (places h main SecondName) (place_of spot) → at ≡ position_of h (place_of spot) → Refuses h main (fault_of SecondName at)
  two_names spot at first e = refused SecondName spot at (λ w l. absurd (omega arith)) first e

  pub no_package : IsNowhere h main SecondName → (spot : Spot) (at : Pos) → IsFirst (places h main Missing) (place_of spot) → at ≡ position_of h (place_of spot) → Refuses h main (fault_of Missing at)
  no_package one spot at first e = refused Missing spot at earlier first e
    where
      earlier : (w : Wrong) → order w < 1 → IsNowhere h main w
      earlier SecondName l = one
      earlier Missing l = absurd (omega arith)
      earlier Cycle l = absurd (omega arith)
      earlier Again l = absurd (omega arith)
      earlier Unknown l = absurd (omega arith)

  pub on_cycle : IsNowhere h main SecondName → IsNowhere h main Missing → (spot : Spot) (at : Pos) → IsFirst (places h main Cycle) (place_of spot) → at ≡ position_of h (place_of spot) → Refuses h main (fault_of Cycle at)
  on_cycle one two spot at first e = refused Cycle spot at earlier first e
    where
      earlier : (w : Wrong) → order w < 2 → IsNowhere h main w
      earlier SecondName l = one
      earlier Missing l = two
      earlier Cycle l = absurd (omega arith)
      earlier Again l = absurd (omega arith)
      earlier Unknown l = absurd (omega arith)

pub same_pos : (a b : Pos) → a.file ≡ b.file → a.line ≡ b.line → a.col ≡ b.col → a ≡ b
same_pos a b e f g =
    let make : ℕ → ℕ → ℕ → Pos = λ file line col. record { file = file; line = line; col = col } in
    ap (λ x. make x a.line a.col) e ∙ ap (λ y. make b.file y a.col) f ∙ ap (λ z. make b.file b.line z) g

module _ (h : SourceFiles) (main : List ℕ) {T : Type 0} where
  -- want of memory may be answered
  pub by_memory : (r : Result T NameFault) → IsErrAnd r (λ e. e ≡ faults.Memory) → IfErr r (Refuses h main)
  by_memory (Ok x) e = tt
  by_memory (Err f) e = subst (Refuses h main) (sym e) memory

  -- and what a call answered, handed on
  pub by_call : (r : Result T NameFault) (f : NameFault) → IsErrAnd r (λ e. e ≡ f) → Refuses h main f → IfErr r (Refuses h main)
  by_call (Ok x) f e is = tt
  by_call (Err g) f e is = subst (Refuses h main) (sym e) is

pub on_map : {A E : Type 0} (r : Result A E) (P Q : Type 0) → (P → Q) → OnOk r P → OnOk r Q
on_map (Ok x) P Q f h = f h
on_map (Err e) P Q f h = tt
