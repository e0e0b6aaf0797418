use Rattle.std.proofs.Common.{sym, subst, IfOk}
use Rattle.argot_io.specs.Told.{ReadsTold}
use Rattle.argot_show.specs.ShowsTrees.{IsParsed, no_tokens}
use Rattle.argot_show.proofs.TreeLaws.{outcome_of}
use Rattle.argot_show.proofs.trees.print_tree.Goals as goal

pub returns-in-Ok-clause-ok : goal.returns-in-Ok-clause-ok
returns-in-Ok-clause-ok g c =
    outcome_of (g.F.Files.told c.args.files.now) c.args.path.now c.as_slice-bytes.result.now c.in-Ok.lexed c.args.count (g.O.Sink.taken c.args.out.now) (g.O.Sink.taken c.print_parsed.new.out)
    (record {
      read = subst (ReadsTold (g.F.Files.told c.args.files.now) c.args.path.now) (sym c.as_slice-bytes.ensures.value) c.in_ok-contents.ensures.ok;
      spelled = c.in-Ok.ensures.ok;
    })
    c.print_parsed.result
    (subst (λ tokens. IfOk c.print_parsed.result (IsParsed c.as_slice-bytes.result.now tokens c.args.count (g.O.Sink.taken c.args.out.now) (g.O.Sink.taken c.print_parsed.new.out))) c.as_vec.ensures c.print_parsed.ensures.ok)

pub returns-in-Err-Bad-clause-ok : goal.returns-in-Err-Bad-clause-ok
returns-in-Err-Bad-clause-ok g c =
    let refused = rw c.in-Err-Bad.field-0-is at c.in-Err-Bad.ensures.bad in
    no_tokens c.as_slice-bytes.result.now (subst (ReadsTold (g.F.Files.told c.args.files.now) c.args.path.now) (sym c.as_slice-bytes.ensures.value) c.in_ok-contents.ensures.ok) refused.1
