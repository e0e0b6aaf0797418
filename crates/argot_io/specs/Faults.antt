-- When a call may answer a fault: only where the object that it was handed has counted one.
use Rattle.std.specs.Prelude.{◌≡◌, ℕ, ◌+◌, ◌-◌, ◌^◌, ◌≤◌, min, Option, Some, Result, Ok, Err}
use Rattle.argot_io.specs.declared.files.FilesCall.{FilesCall}
use Rattle.argot_io.specs.declared.files.FilesFault.{FilesFault}
use Rattle.argot_io.specs.declared.files.FilesFault.TheVariants.{Failed, Memory}

-- the count has risen, or stands at the last value of its type
abbrev pub Rose : ℕ → ℕ → Type 0
Rose before now = min (before + 1) (2 ^ 64 - 1) ≤ now

-- a failed call has been counted and is the one that failed last; any other answer leaves both as they were
abbrev pub HasCause : {T : Type 0} → Result T FilesFault → ℕ → ℕ → Option FilesCall → Option FilesCall → FilesCall → Type 0
HasCause (Ok _) before now last_before last_now call = (now ≡ before) × (last_now ≡ last_before)
HasCause (Err Memory) before now last_before last_now call = (now ≡ before) × (last_now ≡ last_before)
HasCause (Err Failed) before now last_before last_now call = Rose before now × (last_now ≡ Some call)
