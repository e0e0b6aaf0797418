use Rattle.argot_names_uses.specs.Items.{NamesIn}
use Rattle.argot_names_uses.proofs.Gathered.{declared_nowhere}
use Rattle.argot_names_uses.proofs.files.file_items.Goals as goal

pub returns-in_default : goal.returns-in_default
returns-in_default c = λ h main are tops. declared_nowhere h c.args.reached.now main tops.reach (NamesIn h) c.args.file c.new.result.items c.new.ensures.items (c.in_default.ensures.none h main tops.reach)

pub returns-in-None : goal.returns-in-None
returns-in-None c = λ h main are tops. declared_nowhere h c.args.reached.now main tops.reach (NamesIn h) c.args.file c.new-in-None.result.items c.new-in-None.ensures.items (λ home. c.in-None.ensures.none h main c.args.reached.now home tops)

pub returns-in-Some-file_names : goal.returns-in-Some-file_names
returns-in-Some-file_names c = λ h main are tops.
    c.own_items.ensures h main c.args.reached.now are (c.in-Some-file_names.ensures.some h main c.args.reached.now tops).0 tops.reach (c.in-Some.ensures.some h main tops.reach)
