use Rattle.std.proofs.Common.{ℕ, subst}
use Rattle.argot_summary.specs.Finding.{IsMany}
use Rattle.argot_summary.specs.Stepping.{IsState}
use Rattle.argot_summary.specs.Summed.{AreFacts, HasMany}
use Rattle.argot_summary.specs.declared.faults.SummaryFault.{SummaryFault}
use Rattle.argot_summary.specs.declared.faults.SummaryFault.TheVariants.{Pairs, Memory}
use Rattle.argot_summary.specs.declared.finding.Found.{Found}
use Rattle.argot_summary.specs.declared.net.Net.{Net}
use Rattle.argot_summary.proofs.Exactness.{exact}
use Rattle.argot_summary.proofs.sums.facts_of.Goals as goal

pub returns-in-Ok-saturate-clause-exact : goal.returns-in-Ok-saturate-clause-exact
returns-in-Ok-saturate-clause-exact c =
    let x = c.in-Ok.net in
    let fs = c.saturate.new.found.facts.items in
    let s = c.saturate.ensures.state.1 in
    subst (λ es. AreFacts es fs) c.in-Ok.ensures.edges (exact x fs c.in-Ok-saturate.ensures.starts c.in-Ok-saturate.ensures.closed s.well.distinct s.sound)

many : (x : Net) (v : Found) (k : ℕ) (fault : SummaryFault) → IsState x v k → IsMany v.facts.items fault → HasMany x.edges.now fault
many x v k Pairs s more = record { facts = v.facts.items; apart = s.well.distinct; each = λ i f at. record { rounds = f.rank; within = s.sound i f at }; many = more }
many x v k Memory s more = tt

pub returns-clause-many : goal.returns-clause-many
returns-clause-many c =
    let s = c.saturate.ensures.state in
    subst (λ es. HasMany es c.in-Err.fault) c.in-Ok.ensures.edges (many c.in-Ok.net c.saturate.new.found s.0 c.in-Err.fault s.1 c.in-Err.ensures.many)
