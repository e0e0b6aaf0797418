-- What is said of runs.
use Rattle.std.specs.Prelude.{◌≡◌, ℕ, false, [], ◌∷◌, List, Some, slice_get, codes}
use Rattle.argot_plain.specs.Code.{Code}
use Rattle.argot_plain.specs.Leak.{labelled}
use Rattle.argot_plain.specs.Lists.{In}
use Rattle.argot_plain.specs.Machine.{Cell, Frame, State}
use Rattle.argot_plain.specs.Nodes.{Mark}
use Rattle.argot_plain.specs.declared.problems.Problem.{Problem}
use Rattle.argot_plain_worked_rules.specs.Worked.{IsReached}

-- the Move or Read at the place is a source
abbrev pub at_place : ℕ → Problem
at_place i = record { number = 0; name = codes "p"; sources = []; sinks = []; sanitizers = []; validators = []; points = []; source_places = (i, codes "p") ∷ []; escapes = false }

-- in some run a frame that runs at the place i holds in the register r what bears this label
abbrev pub Bears : Code → Problem → ℕ → ℕ → Mark → Type 0
Bears p pr i r s =
    (x : State) × IsReached p (labelled pr) x × (f : Frame) × (rest : List Frame) × (slice_get x.goroutines 0 ≡ Some (f ∷ rest))
    × (f.place ≡ i) × (c : Cell) × In c f.cells × (c.register ≡ r) × In s c.atom.labels
