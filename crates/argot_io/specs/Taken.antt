-- What a sink has taken.
use Rattle.std.specs.Prelude.{◌≡◌, ℕ, ◌<◌, ◌≤◌, List, [], ◌++◌, ◌≢◌, length, take, Option, option_map, Result, Ok, Err}
use Rattle.argot_io.specs.Faults.{Rose}
use Rattle.argot_io.specs.declared.sink.SinkFault.{SinkFault}

-- what was taken with these bytes behind it, where the sink tells
abbrev pub taken_with : Option (List ℕ) → List ℕ → Option (List ℕ)
taken_with taken bytes = option_map (λ had. had ++ bytes) taken

-- a write took the first bytes of the piece, at least one where there is one; a failed one took nothing and was counted
abbrev pub Writes : List ℕ → Result ℕ SinkFault → ℕ → ℕ → Option (List ℕ) → Option (List ℕ) → Type 0
Writes piece (Ok n) before now taken_before taken_now =
    (n ≤ length piece) × (piece ≢ [] → 0 < n) × (now ≡ before) × (taken_now ≡ taken_with taken_before (take n piece))
Writes piece (Err _) before now taken_before taken_now = Rose before now × (taken_now ≡ taken_before)

-- all was taken; or the fault was counted and a proper prefix was
abbrev pub WritesAll : List ℕ → {T : Type 0} → Result T SinkFault → ℕ → ℕ → Option (List ℕ) → Option (List ℕ) → Type 0
WritesAll bytes (Ok _) before now taken_before taken_now = (now ≡ before) × (taken_now ≡ taken_with taken_before bytes)
WritesAll bytes (Err _) before now taken_before taken_now =
    Rose before now × ((n : ℕ) × (n < length bytes) × (taken_now ≡ taken_with taken_before (take n bytes)))
