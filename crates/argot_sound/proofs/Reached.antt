-- What a value reaches.
use Rattle.std.proofs.Common.{◌≡◌, ℕ, List, subst}
use Rattle.std.specs.Prelude.{◌⊎◌}
use Rattle.argot_plain.specs.Lists.{In}
use Rattle.argot_plain.specs.Code.{Code}
use Rattle.argot_plain.specs.WellFormed.{WellFormed}
use Rattle.argot_plain.specs.Machine.{Object, Datum, Slot}
use Rattle.argot_plain.specs.Nodes.{mark}
use Rattle.argot_plain.specs.Outside.{Reached, direct, through}
use Rattle.argot_text.specs.declared.path.PathStep.{PathStep}
use Rattle.argot_facts.specs.Edges.{Reachable}
use Rattle.argot_facts.specs.Edges as Drawn
use Rattle.argot_facts.specs.Escapes.{Escapes}
use Rattle.argot_facts.specs.Refers.{Holds, PlaceRefers, loc}
use Rattle.argot_sound.specs.Laws.{SlotOwned, IsOwned}
use Rattle.argot_sound.proofs.Owned.{owned_through}

module _ (p : Code) (wf : WellFormed p) where
  -- what is reached from a value at a node is reachable from the node, and escapes or is this goroutine's
  pub reaches : (g : ℕ) (ss : List Slot) (i k : ℕ) (q : List PathStep) (v : Datum) → ((x : Slot) → In x ss → SlotOwned p x) → IsOwned p g (mark i k q) v → {o : Object} → Reached ss v o → Reachable p i k o.site × (Escapes p o.site ⊎ (o.maker ≡ g))
  reaches g ss i k q v so w {o} (direct path e) = let x = w.each o path e in (Drawn.direct q path x.0, x.1)
  reaches g ss i k q v so w (through {o} {o'} slot path r m same e) =
      let a = reaches g ss i k q v so w r in
      let x = (so slot m).each o' path e in
      let h = subst (λ (z : Object). Holds p (PlaceRefers (loc z.site slot.path) (loc o'.site path))) same x.0 in (
        Drawn.through o.site slot.path path a.0 h,
        owned_through p wf g o o' slot.path path h a.1 (subst (λ (z : Object). Escapes p o'.site ⊎ (o'.maker ≡ z.maker)) same x.1),
      )
