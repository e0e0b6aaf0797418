-- The run in which labels begin where nothing leads.
use Rattle.std.proofs.Common.{false, [], ◌∷◌, refl}
use Rattle.argot_plain.specs.Lists.{here}
use Rattle.argot_plain.specs.Leak.{traced, by_call}
use Rattle.argot_plain.specs.Machine.{Labelling}
use Rattle.argot_plain.specs.Outside.{by_number, itself}
use Rattle.argot_plain.specs.declared.instructions.Callee.TheVariants.{Static}
use Rattle.argot_plain_worked_rules.specs.Worked.{entry_function}
use Rattle.argot_plain_worked_rules.specs.TracedBack.{traced_program, pointed, at_texts, ItComesToThePoint}
use Rattle.argot_plain_worked_rules.proofs.Small.{below}
use Rattle.argot_plain_worked_rules.proofs.Ahead.{opened, gone_ahead}

abbrev l : Labelling
l = traced pointed at_texts

pub it_runs : ItComesToThePoint
it_runs =
    let a = gone_ahead traced_program l 0 6 _ (opened traced_program l entry_function refl) in (
      _,
      a,
      record {
        goroutine = 0;
        sink = 2;
        count = 1;
        cells = _;
        enters = by_call _ _ [] (Static 2) (1 ∷ []) false refl refl refl by_number;
        is_one = refl;
        within = below 0 1 refl;
        bears = record { cell = _; held = here refl; at = refl; bears = itself (here refl) };
      },
    )
