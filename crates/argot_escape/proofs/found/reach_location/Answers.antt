use Rattle.std.proofs.Common.{◌≡◌, Some, refl, sym, ap, ◌∙◌, arith}
use Rattle.argot_facts.specs.Pointing.{IsPlaceOf}
use Rattle.argot_facts.specs.declared.pointing.Loc.{Loc}
use Rattle.argot_facts.proofs.Listed.{get_within}
use Rattle.argot_escape.proofs.Finding.{finds_none, finds_as}
use Rattle.argot_escape.proofs.found.reach_location.Goals as goal

pub reach-requires-clause-inside : goal.reach-requires-clause-inside
reach-requires-clause-inside c = c.requires.sites c.location.result.now.site c.args.y (record { location = c.location.result.now; is = c.location.ensures; site = refl })

pub returns-else-y-location_count : goal.returns-else-y-location_count
returns-else-y-location_count c = finds_none (λ m. IsPlaceOf c.args.points.now.locations m c.args.y) c.args.found.now
    (λ m h. let l = get_within c.args.points.now.locations c.args.y h.location h.is in let n = c.location_count.ensures.count in absurd (omega arith))

pub returns-then-y-location_count : goal.returns-then-y-location_count
returns-then-y-location_count c = finds_as (λ m. m ≡ c.location.result.now.site) (λ m. IsPlaceOf c.args.points.now.locations m c.args.y) c.args.found.now _
    (λ m e. record { location = c.location.result.now; is = c.location.ensures; site = sym e })
    (λ m h. let e : Some h.location ≡ Some c.location.result.now = sym h.is ∙ c.location.ensures in let f : h.location ≡ c.location.result.now = cc in sym h.site ∙ ap (λ (l : Loc). l.site) f)
    c.reach.ensures
