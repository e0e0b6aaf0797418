use Rattle.argot_facts.proofs.Handed.{facts_hold, holds_facts}
use Rattle.argot_facts.proofs.laws.exact_tables_have_the_facts.Goals as goal

pub returns : goal.returns
returns c = λ p x wf e f. (facts_hold p x wf e f, holds_facts p x wf e f)
