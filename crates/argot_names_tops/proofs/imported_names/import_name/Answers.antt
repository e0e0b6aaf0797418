use Rattle.std.proofs.Common.{sym, subst}
use Rattle.std.specs.Prelude.{IfSome, IfNone}
use Rattle.argot_names_rules.specs.PackageScope.{Imported}
use Rattle.argot_names_tops.specs.ImportNames.{written_in}
use Rattle.argot_names_tops.proofs.ImportLists.{own_name, dotted_none}
use Rattle.argot_names_tops.proofs.imported_names.import_name.Goals as goal

pub returns-in-Named-clause-some : goal.returns-in-Named-clause-some
returns-in-Named-clause-some c = λ h main is at.
    own_name h (written_in c.args.bytes.now c.args.tokens.now) c.args.import.now.path c.args.import.now.alias c.in-Named.token c.spelled_at.result.now c.in-Named.is c.spelled_at.ensures

pub returns-in-Dotted-clause-none : goal.returns-in-Dotted-clause-none
returns-in-Dotted-clause-none c = λ h main name is at. dotted_none h (written_in c.args.bytes.now c.args.tokens.now) c.args.import.now.path c.args.import.now.alias name c.in-Dotted.is

pub returns-in-Unnamed-clause-some : goal.returns-in-Unnamed-clause-some
returns-in-Unnamed-clause-some c = λ h main is at.
    let f = written_in c.args.bytes.now c.args.tokens.now in
    subst (λ a. IfSome c.found_name.result (λ n. Imported h f c.args.import.now.path a n.now)) (sym c.in-Unnamed.is) (c.found_name.ensures.some h main f is at)

pub returns-in-Unnamed-clause-none : goal.returns-in-Unnamed-clause-none
returns-in-Unnamed-clause-none c = λ h main name is at.
    let f = written_in c.args.bytes.now c.args.tokens.now in
    subst (λ a. IfNone c.found_name.result (Imported h f c.args.import.now.path a name → ⊥)) (sym c.in-Unnamed.is) (c.found_name.ensures.none h main f name is at)
