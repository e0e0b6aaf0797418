-- What tables of a problem say.
use Rattle.std.proofs.Common.{◌≡◌, ℕ, ◌<◌, Bool, true, false, List, Some, None, length, refl, sym, ap, ◌∙◌, subst}
use Rattle.std.specs.Prelude.{slice_get, ◌&&◌, not}
use Rattle.argot_plain.specs.Code.{Code, IsFunction}
use Rattle.argot_plain.specs.Leak.{LooksInside, a_sink, an_external}
use Rattle.argot_plain.specs.declared.functions.Function.{Function}
use Rattle.argot_plain.specs.Counts.{cleans, counts, is_sink, is_left_out, is_among, stands_for}
use Rattle.argot_plain.specs.Lists.{member}
use Rattle.argot_plain.specs.declared.problems.Problem.{Problem}
use Rattle.argot_facts.proofs.Listed.{get_at}
use Rattle.argot_roles.specs.Counting.{AreLeftOut, AreCounted, flag_at, flag_of}
use Rattle.argot_roles.proofs.Membership.{in_member, member_in}
use Rattle.argot_graph_edges.specs.Tabled.{AreTables, counts_in, cleaned, sinks_at}
use Rattle.argot_graph_edges.specs.declared.tables.Tables.{Tables}

out_is : (p : Code) (flags : List Bool) → AreLeftOut p flags → (i : ℕ) → i < length p.instrs → flag_at flags (Some i) ≡ is_left_out p i
out_is p flags o i l = let x = get_at flags i (subst (λ n. i < n) (sym o.count) l) in ap flag_of x.1 ∙ o.each i x.0 x.1

counted_is : (p : Code) (list : List ℕ) (flags : List Bool) → AreCounted p list flags → (g : ℕ) → g < length p.functions → flag_at flags (Some g) ≡ is_among (stands_for p g) list
counted_is p list flags o g l = let x = get_at flags g (subst (λ n. g < n) (sym o.count) l) in ap flag_of x.1 ∙ o.each g x.0 x.1

module _ (p : Code) (pr : Problem) (t : Tables) (are : AreTables p pr t) (i g : ℕ) (inside : i < length p.instrs) (target : g < length p.functions) where
  counts_is : (list : List ℕ) (flags : List Bool) → AreCounted p list flags → counts_in t flags i g ≡ counts p i g list
  counts_is list flags o =
      ap (λ b. not b && flag_at flags (Some g)) (out_is p t.left_out.items are.out i inside)
      ∙ ap (λ b. not (is_left_out p i) && b) (counted_is p list flags o g target)

  pub cleans_is : cleaned t i g ≡ cleans p pr i g
  cleans_is =
      ap (λ b. b && not (counts_in t t.sources.items i g)) (counts_is pr.sanitizers t.sanitizers.items are.sanitizers)
      ∙ ap (λ b. counts p i g pr.sanitizers && not b) (counts_is pr.sources t.sources.items are.sources)

  pub sink_is : sinks_at t i g ≡ is_sink p pr i g
  sink_is = counts_is pr.sinks t.sinks.items are.sinks

-- whether the function is a validator
pub validator_is : (p : Code) (pr : Problem) (t : Tables) → AreTables p pr t → (h : ℕ) → h < length p.functions → flag_at t.validators.items (Some h) ≡ member h pr.validators
validator_is p pr t are h l = by (member h pr.validators) refl
  where
    x : (b : Bool) × (slice_get t.validators.items h ≡ Some b)
    x = get_at t.validators.items h (subst (λ n. h < n) (sym are.validators.count) l)

    by : (b : Bool) → member h pr.validators ≡ b → flag_at t.validators.items (Some h) ≡ member h pr.validators
    by true e = ap flag_of (are.validators.there h (member_in h pr.validators e) l) ∙ sym e
    by false e = of x.0 x.1
      where
        of : (b : Bool) → slice_get t.validators.items h ≡ Some b → flag_at t.validators.items (Some h) ≡ member h pr.validators
        of true g = (let z : true ≡ false = sym (in_member h pr.validators (are.validators.only h g)) ∙ e in absurd cc)
        of false g = ap flag_of g ∙ sym e

-- a target that is no sink and has a body doesn't look inside
pub looks_out : (p : Code) (pr : Problem) (i g : ℕ) (fn : Function) → IsFunction p g fn → is_sink p pr i g ≡ false → fn.external ≡ None → LooksInside p pr i g → ⊥
looks_out p pr i g fn is out none (a_sink s) = (let z : true ≡ false = sym s ∙ out in absurd cc)
looks_out p pr i g fn is out none (an_external other flows at is_one) =
    let e : Some other ≡ Some fn = sym at ∙ is in
    let f : other ≡ fn = cc in
    let z : Some flows ≡ None = sym is_one ∙ ap (λ (w : Function). w.external) f ∙ none in
    absurd cc
