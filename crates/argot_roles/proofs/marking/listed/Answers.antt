use Rattle.argot_plain.specs.Lists.{In}
use Rattle.argot_roles.proofs.Setting.{marked_afresh}
use Rattle.argot_roles.proofs.marking.listed.Goals as goal

pub returns : goal.returns
returns c = marked_afresh (λ m. In m c.args.numbers.now) c.args.count _ _ c.in_ok-flags.ensures.count c.in_ok-flags.ensures.none c.set_all.ensures
