-- Stretches of numbers, and of code.
use Rattle.std.proofs.Common.{◌≡◌, ℕ, ◌+◌, ◌<◌, ◌≤◌, Bool, true, false, refl, subst, arith, nat_lt}
use Rattle.std.proofs.lemmas.Bool.Decides.{nat_tests}
use Rattle.argot_lower_scripts.specs.Says.{Finished, At}
use Rattle.argot_lower_scripts.specs.Agrees.{Between, Agrees, Grows}

pub empty : (P : ℕ → Type 0) (p : ℕ) → Between P p p
empty P p i u v =
    let z : ⊥ = omega arith in
    absurd z

join_by : (P : ℕ → Type 0) (p q x : ℕ) (b : Bool) (i : ℕ) → nat_lt i q ≡ b → Between P p q → Between P q x → p ≤ i → i < x → P i
join_by P p q x true i t g h u v =
    let t' : i < q = grind (arith, nat_tests) in
    g i u t'
join_by P p q x false i t g h u v =
    let t' : q ≤ i = grind (arith, nat_tests) in
    h i t' v

pub join : (P : ℕ → Type 0) (p q x : ℕ) → Between P p q → Between P q x → Between P p x
join P p q x g h i u v = join_by P p q x (nat_lt i q) i refl g h u v

pub one : (P : ℕ → Type 0) (p : ℕ) → P p → Between P p (p + 1)
one P p h i u v =
    let e : p ≡ i = omega arith in
    subst P e h

-- one more at its beginning
pub more : (P : ℕ → Type 0) (p x : ℕ) → P p → Between P (p + 1) x → Between P p x
more P p x h g = join P p (p + 1) x (one P p h) g

pub stays : (a : At) → Grows a a
stays a = record { place = omega arith; label = omega arith; register = omega arith; site = omega arith; note = omega arith }

pub grows_on : (a b c : At) → Grows a b → Grows b c → Grows a c
grows_on a b c g h =
    let g0 = g.place in
    let g1 = g.label in
    let g2 = g.register in
    let g3 = g.site in
    let g4 = g.note in
    let h0 = h.place in
    let h1 = h.label in
    let h2 = h.register in
    let h3 = h.site in
    let h4 = h.note in
    record { place = omega arith; label = omega arith; register = omega arith; site = omega arith; note = omega arith }

module _ (f g : Finished) (h : ℕ) where
  pub nothing_there : (a : At) → Agrees f g h a a
  nothing_there a = record { instrs = empty _ a.place; places = empty _ a.label; registers = empty _ a.register; sites = empty _ a.site; notes = empty _ a.note }

  pub joined : (a b c : At) → Agrees f g h a b → Agrees f g h b c → Agrees f g h a c
  joined a b c x y =
      record {
        instrs = join _ a.place b.place c.place x.instrs y.instrs;
        places = join _ a.label b.label c.label x.places y.places;
        registers = join _ a.register b.register c.register x.registers y.registers;
        sites = join _ a.site b.site c.site x.sites y.sites;
        notes = join _ a.note b.note c.note x.notes y.notes;
      }
