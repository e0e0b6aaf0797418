-- Tables that grow, and what waits meanwhile.
use Rattle.std.proofs.Common.{◌≡◌, ℕ, ◌+◌, ◌*◌, ◌<◌, ◌≤◌, ◌==◌, true, List, [], ◌∷◌, ◌++◌, refl, inl, inr, arith, eq-eqb}
use Rattle.std.proofs.lemmas.Bool.{or_left, or_right}
use Rattle.std.proofs.lemmas.Nat.{row_fits}
use Rattle.argot_links.specs.Members.{has as contains}
use Rattle.argot_points.specs.declared.system.System.{System}
use Rattle.argot_points.specs.declared.system.Tables.{Tables}
use Rattle.argot_points.specs.Advancing.{Advances}

pub advances_none : (s : System) (t : Tables) → Advances s t t
advances_none s t = record { waiting = λ k w. w; refers = λ r y h. h; live = λ g h. h; new_refers = λ r y h. inl h; new_live = λ g h. inl h }

pub advances_on : (s : System) (a b c : Tables) → Advances s a b → Advances s b c → Advances s a c
advances_on s a b c x y = record {
  waiting = λ k w. y.waiting k (x.waiting k w);
  refers = λ r z h. y.refers r z (x.refers r z h);
  live = λ g h. y.live g (x.live g h);
  new_refers = λ r z h. elim (y.new_refers r z h) [ inl b ↦ elim (x.new_refers r z b) [ inl a ↦ inl a | inr w ↦ inr (y.waiting r w) ] | inr w ↦ inr w ];
  new_live = λ g h. elim (y.new_live g h) [ inl b ↦ elim (x.new_live g b) [ inl a ↦ inl a | inr w ↦ inr (y.waiting _ w) ] | inr w ↦ inr w ];
}

-- what a list has in its middle
pub at_middle : (ys rest : List ℕ) (k : ℕ) → contains (ys ++ k ∷ rest) k ≡ true
at_middle [] rest k = or_left (k == k) (contains rest k) (eq-eqb k k refl)
at_middle (y ∷ ys) rest k = or_right (y == k) (contains (ys ++ k ∷ rest) k) (at_middle ys rest k)

-- less room weighs more than all that may wait
pub falls : (r r' n l l' : ℕ) → r' < r → l' ≤ n → r' * (n + 1) + l' < r * (n + 1) + l
falls r r' n l l' less few =
    let a = row_fits r' (n + 1) r (n + 1) less (omega arith) in
    omega (arith, a, few)
