use Rattle.std.proofs.Common.{◌≡◌, true}
use Rattle.argot_plain.specs.Counts.{is_named}
use Rattle.argot_roles.proofs.Setting.{marked_afresh}
use Rattle.argot_roles.proofs.marking.named.Goals as goal

pub returns : goal.returns
returns c = marked_afresh (λ m. is_named m c.args.places.now ≡ true) c.args.count _ _ c.in_ok-flags.ensures.count c.in_ok-flags.ensures.none c.set_places.ensures
