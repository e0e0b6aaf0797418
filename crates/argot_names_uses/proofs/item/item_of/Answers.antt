use Rattle.std.proofs.Common.{refl}
use Rattle.argot_names_uses.proofs.NodeClasses.{some_is}
use Rattle.argot_names_uses.proofs.NumberedNodes.{tree_of}
use Rattle.argot_names_uses.proofs.item.item_of.Goals as goal

pub returns-in-Some : goal.returns-in-Some
returns-in-Some c = λ h n are at.
    let t = tree_of h c.args.file c.args.node n at in
    record { owner_is = refl; number_is = some_is c.in-Some.number _ (c.in-Some.ensures h.trees t.0 are t.1 t.2); name_is = refl }
