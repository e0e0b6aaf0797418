use Rattle.std.proofs.Common.{◌≡◌, length, subst, arith}
use Rattle.argot_names_imports.specs.Reads.{handed}
use Rattle.argot_names_imports.proofs.Lists.{get_there}
use Rattle.argot_names_tops.specs.declared.named.Named.{Named}
use Rattle.argot_names_tops.specs.Collecting.{AreCollected}
use Rattle.argot_names_tops.specs.ImportNames.{GivesImport}
use Rattle.argot_names_tops.proofs.Results.{none_of_each}
use Rattle.argot_names_tops.proofs.Gathering.{collected_none, collected_more}
use Rattle.argot_names_tops.proofs.ImportLists.{names_all}
use Rattle.argot_names_tops.proofs.imported.imported_names.Goals as goal

pub loop-k-init : goal.loop-k-init
loop-k-init c = λ trees main is.
    let h = handed c.args.sources.now c.args.lexed.now trees in
    let r = c.args.reached.now in
    collected_none (GivesImport h r) r.survey.imports.items c.new-out.result.items c.new-out.ensures.items

pub loop-k-preserved : goal.loop-k-preserved
loop-k-preserved c = λ trees main is.
    let h = handed c.args.sources.now c.args.lexed.now trees in
    let r = c.args.reached.now in
    let w = get_there r.survey.imports.items c.loop-k.k (omega (arith, c.loop-k-test.true, c.len-k-end.ensures)) in
    collected_more (GivesImport h r) r.survey.imports.items c.loop-k.k w.0 c.loop-k.out.items c.push_some.new.out.items c.import_named.result w.1 (c.loop-k.invariant trees main is)
    (c.import_named.ensures.some trees main w.0 is w.1)
    (none_of_each (λ (n : Named). GivesImport h r c.loop-k.k w.0 n → ⊥) c.import_named.result (λ n. c.import_named.ensures.none trees main w.0 n is w.1))
    c.in_ok-push_some.ensures

pub returns : goal.returns
returns c = λ trees main is.
    let h = handed c.args.sources.now c.args.lexed.now trees in
    let r = c.args.reached.now in
    let at : c.loop-k.k ≡ length r.survey.imports.items = omega (arith, c.loop-k-test.false, c.len-k-end.ensures, c.loop-k.auto.k-end) in
    names_all h main r is c.loop-k.out.items (subst (λ k. AreCollected (GivesImport h r) r.survey.imports.items k c.loop-k.out.items) at (c.loop-k.invariant trees main is))
