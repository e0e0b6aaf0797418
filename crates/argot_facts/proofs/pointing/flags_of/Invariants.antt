use Rattle.std.proofs.Common.{◌≡◌, ℕ, ◌<◌, Some, length}
use Rattle.std.specs.Prelude.{slice_get}
use Rattle.argot_plain.specs.Lists.{In}
use Rattle.argot_facts.specs.Marked.{IsSet}
use Rattle.argot_facts.proofs.pointing.flags_of.Given as goal

abbrev pub invariant-loop-function : goal.invariant-loop-function
invariant-loop-function l = record {
  count : length l.flags.items ≡ l.functions;
  only : (g : ℕ) → IsSet l.flags.items g → In g l.live;
  there : (k g : ℕ) → k < l.function-index → slice_get l.live k ≡ Some g → IsSet l.flags.items g;
}
