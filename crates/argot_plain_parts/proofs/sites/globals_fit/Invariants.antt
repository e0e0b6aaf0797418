use Rattle.std.proofs.Common.{◌≡◌, drop}
use Rattle.argot_plain_parts.specs.Sites.{globals_fit}
use Rattle.argot_plain_parts.proofs.sites.globals_fit.Given as goal

abbrev pub invariant-loop-k : goal.invariant-loop-k
invariant-loop-k l = globals_fit l.files l.sites l.k (drop l.k l.globals) ≡ globals_fit l.files l.sites 0 l.globals
