use Rattle.std.proofs.Common.{[], sym, subst, rules, arith}
use Rattle.argot_points.specs.Reading.{AreListed, start_of}
use Rattle.argot_points.proofs.Aims.{listed_first, start_first, start_end}
use Rattle.argot_points.proofs.aiming.targets_of.Goals as goal

pub loop-h-init : goal.loop-h-init
loop-h-init c =
    let s = c.args.system.now in
    let t = c.args.tables.now in
    let well = c.requires.fits.well in
    record {
      rows = search rules;
      cols = search rules;
      listed = subst (λ xs. AreListed s t (start_of s.program.now 0) xs) (sym c.new-found.ensures.items)
          (subst (λ m. AreListed s t m []) (sym (start_first s.program.now well.ranges well.entry_function)) (listed_first s t));
    }

pub returns : goal.returns
returns c =
    let s = c.args.system.now in
    subst (λ m. AreListed s c.args.tables.now m c.loop-h.found.items) (start_end s.program.now c.requires.fits.well.ranges c.loop-h.h (omega arith)) c.loop-h.invariant.listed
