use Rattle.std.proofs.Common.{sym, subst}
use Rattle.argot_io.specs.Told.{ReadsTold}
use Rattle.argot_show.proofs.tokens.print_tokens.Goals as goal

pub returns-in-Err-Bad-clause-ok : goal.returns-in-Err-Bad-clause-ok
returns-in-Err-Bad-clause-ok g c =
    let refused = rw c.in-Err-Bad.field-0-is at c.in-Err-Bad.ensures.bad in
    record {
      bytes = c.as_slice-bytes.result.now;
      read = subst (ReadsTold (g.F.Files.told c.args.files.now) c.args.path.now) (sym c.as_slice-bytes.ensures.value) c.in_ok-contents.ensures.ok;
      none = refused.1;
    }
