-- A rule that is done stays so while tables grow, where nothing waits that it looks at.
use Rattle.std.proofs.Common.{◌≡◌, ℕ, Bool, true, false, refl, inl, inr}
use Rattle.argot_links.specs.Table.{has}
use Rattle.argot_facts.specs.declared.nodes.Node.{Node}
use Rattle.argot_points_rules.specs.declared.rules.Owned.{Owned}
use Rattle.argot_points_rules.specs.declared.rules.Rule.{Rule}
use Rattle.argot_points_rules.specs.declared.rules.Rule.TheVariants.{Put, Copy, Shift, Keep, Load, Store, Aim, Enter, Choose, Return, Fresh}
use Rattle.argot_points.specs.declared.system.System.{System}
use Rattle.argot_points.specs.declared.system.Tables.{Tables}
use Rattle.argot_points.specs.Advancing.{Waits, Advances}
use Rattle.argot_points.specs.Meaning.{IsRow, Aimed, by_number, by_object}
use Rattle.argot_points.specs.Settled.{is_moving, LooksAt, Reads, by_row, by_function, AllSettled, AllSettledBut}
use Rattle.argot_points.specs.Solved.{Refers, ClosedUnder, IsDone, place_row, function_key}

module _ (s : System) (old new : Tables) (grows : Advances s old new) where
  -- a row that doesn't wait is as it was
  back : (r y : ℕ) → (Waits new r → ⊥) → has new.refers r y ≡ true → has old.refers r y ≡ true
  back r y quiet h = elim (grows.new_refers r y h) [ inl a ↦ a | inr w ↦ absurd (quiet w) ]

  aimed_back : (i : ℕ) (by : Node) (g : ℕ) (takes : Bool) → ((r : ℕ) → IsRow s r by → Waits new r → ⊥) → Aimed s (Refers new) i by g takes → Aimed s (Refers old) i by g takes
  aimed_back i by g _ quiet (by_number args n call) = by_number args n call
  aimed_back i by g takes quiet (by_object callee args n row y call is refers means) = by_object callee args n row y call is (back row y (quiet row is) refers) means

  rule_framed : (rule : Rule) → is_moving rule ≡ false → ((a : Node) → LooksAt rule a → (r : ℕ) → IsRow s r a → Waits new r → ⊥) → ClosedUnder s old rule → ClosedUnder s new rule
  rule_framed (Put to site) stays quiet c = λ n y is root. grows.refers n y (c n y is root)
  rule_framed (Copy to source) stays quiet c = λ n m is at y h. grows.refers n y (c n m is at y (back m y (quiet source refl m at) h))
  rule_framed (Shift to source path) stays quiet c = λ n m is at y h z moved. grows.refers n z (c n m is at y (back m y (quiet source refl m at) h) z moved)
  rule_framed (Keep to source target) stays quiet c = λ n m is at y h kept. grows.refers n y (c n m is at y (back m y (quiet source refl m at) h) kept)
  rule_framed (Load to at path) stays quiet c = absurd cc
  rule_framed (Store at path source) stays quiet c = λ n m is here y h z moved w k.
      grows.refers (place_row s z) w (c n m is here y (back m y (quiet at (inl refl) m here) h) z moved w (back n w (quiet source (inr refl) n is) k))
  rule_framed (Aim i by) stays quiet c = λ g takes aimed. grows.live g (c g takes (aimed_back i by g takes (quiet by refl) aimed))
  rule_framed (Enter i by k path source) stays quiet c = λ g takes aimed n m param is y h.
      grows.refers m y (c g takes (aimed_back i by g takes (quiet by (inl refl)) aimed) n m param is y (back n y (quiet source (inr refl) n is) h))
  rule_framed (Choose i by k) stays quiet c = λ n y m is h chosen. grows.refers m y (c n y m is (back n y (quiet by refl n is) h) chosen)
  rule_framed (Return i by k path to) stays quiet c = absurd cc
  rule_framed (Fresh i by to site) stays quiet c = λ g takes aimed n y outside is root. grows.refers n y (c g takes (aimed_back i by g takes (quiet by refl) aimed) n y outside is root)

  framed : (o : Owned) → is_moving o.rule ≡ false → ((k : ℕ) → Reads s o k → Waits new k → ⊥) → IsDone s old o → IsDone s new o
  framed o stays quiet done live =
      let was : has old.live 0 o.function ≡ true = elim (grows.new_live o.function live) [ inl h ↦ h | inr w ↦ absurd (quiet (function_key s o.function) (by_function refl) w) ] in
      rule_framed o.rule stays (λ a looks r is. quiet r (by_row a looks is)) (done was)

  pub settled_on : AllSettled s old → AllSettled s new
  settled_on x k o at stays quiet = framed o stays quiet (x k o at stays (λ j r w. quiet j r (grows.waiting j w)))

  pub settled_but_on : (n : ℕ) → AllSettledBut s old n → AllSettledBut s new n
  settled_but_on n x k o at stays quiet = framed o stays (λ j r. (quiet j r).0) (x k o at stays (λ j r. (λ w. (quiet j r).0 (grows.waiting j w), (quiet j r).1)))
