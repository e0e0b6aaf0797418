-- What counts as what, by tables.
use Rattle.std.proofs.Common.{◌≡◌, ℕ, ◌<◌, Bool, true, false, List, Some, length, refl, sym, ap, ◌∙◌, subst}
use Rattle.std.specs.Prelude.{◌&&◌, not}
use Rattle.argot_plain.specs.Code.{Code}
use Rattle.argot_plain.specs.Counts.{is_left_out, is_among, stands_for}
use Rattle.argot_facts.specs.Exact.{ArePoints}
use Rattle.argot_facts.specs.Marked.{IsSet}
use Rattle.argot_facts.specs.Pointing.{Pointing}
use Rattle.argot_facts.proofs.Listed.{get_at}
use Rattle.argot_roles.specs.Counting.{AreLeftOut, AreCounted}
use Rattle.argot_flow_ends.specs.Roles.{HasFlagged, HasRole}

both : (a b : Bool) → a ≡ false → b ≡ true → (not a && b) ≡ true
both false true e f = refl
both false false e f = absurd cc
both true b e f = absurd cc

left : (a b : Bool) → (not a && b) ≡ true → a ≡ false
left false b e = refl
left true b e = absurd cc

right : (a b : Bool) → (not a && b) ≡ true → b ≡ true
right false b e = e
right true b e = absurd cc

module _ (p : Code) (x : Pointing) (exact : ArePoints p x) (list : List ℕ) (out flags : List Bool) (are_out : AreLeftOut p out) (counted : AreCounted p list flags) (i : ℕ) (inside : i < length p.instrs) where
  stays_in : (IsSet out i → ⊥) → is_left_out p i ≡ false
  stays_in free = by (is_left_out p i) refl
    where
      by : (b : Bool) → is_left_out p i ≡ b → b ≡ false
      by false e = refl
      by true e =
          let at = get_at out i (subst (λ n. i < n) (sym are_out.count) inside) in
          absurd (free (at.1 ∙ ap Some (are_out.each i at.0 at.1 ∙ e)))

  pub role_told : (IsSet out i → ⊥) → HasFlagged x flags i → HasRole p list i
  role_told free h =
      let t = (exact.targets.each i h.0).0 h.1 in
      record { target = h.0; takes = t.0; holds = t.1; counted = both (is_left_out p i) (is_among (stands_for p h.0) list) (stays_in free) (sym (counted.each h.0 true h.2)) }

  pub role_free : HasRole p list i → IsSet out i → ⊥
  role_free r s = (let z : true ≡ false = are_out.each i true s ∙ left (is_left_out p i) (is_among (stands_for p r.target) list) r.counted in absurd cc)

  pub role_flagged : HasRole p list i → HasFlagged x flags i
  role_flagged r =
      let m = (exact.targets.each i r.target).1 (r.takes, r.holds) in
      let at = get_at flags r.target (subst (λ n. r.target < n) (sym counted.count) (exact.fits.callees i r.target m)) in
      (r.target, m, at.1 ∙ ap Some (counted.each r.target at.0 at.1 ∙ right (is_left_out p i) (is_among (stands_for p r.target) list) r.counted))
