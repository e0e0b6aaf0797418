use Rattle.std.proofs.Common.{◌≤◌, length, sym, arith, subst}
use Rattle.argot_plain.specs.Lists.{In}
use Rattle.argot_facts.specs.Pointing.{Pointing, IsPlaceOf}
use Rattle.argot_facts.proofs.Seconds.{run_past}
use Rattle.argot_facts.proofs.pointing.Points.locations_of.Goals as goal

pub returns : goal.returns
returns c = λ y. (
  (λ m. elim m [ ]),
  λ h.
      let l : length c.self.inside.by_site ≤ c.args.site = omega arith in
      subst (In y) (run_past c.self.inside.by_site c.args.site l)
      ((c.self.invariant.sites c.args.site y).1 (subst (λ (x : Pointing). IsPlaceOf x.locations c.args.site y) (sym c.self.view_is) h)),
)
