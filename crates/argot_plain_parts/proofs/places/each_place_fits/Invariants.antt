use Rattle.std.proofs.Common.{◌≡◌, drop}
use Rattle.argot_plain_parts.specs.Places.{each_place_fits}
use Rattle.argot_plain_parts.proofs.places.each_place_fits.Given as goal

abbrev pub invariant-loop-i : goal.invariant-loop-i
invariant-loop-i l = each_place_fits l.functions l.instrs (drop l.i l.functions) ≡ each_place_fits l.functions l.instrs l.functions
