use Rattle.std.proofs.Common.{sym, refl}
use Rattle.argot_names_files.proofs.sources.agree.Goals as goal

pub returns-clause-agree : goal.returns-clause-agree
returns-clause-agree c = λ fit.
    record {
      as_many = c.if-paths-contents.false;
      numbered = sym c.if-not-are_numbered.ensures;
      ordered = c.if-not-are_ordered.ensures.ordered refl;
      fitting = c.are_fitting.ensures.fit fit;
    }
