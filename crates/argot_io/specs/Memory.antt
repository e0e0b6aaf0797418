-- What contracts see of files and of a sink in memory.
use Rattle.std.specs.Prelude.{ℕ, ◌+◌, ◌-◌, ◌^◌, ◌≤◌, ◌≢◌, ◌⊎◌, min, List, [], length, Contains, Option}
use Rattle.argot_io.specs.Told.{Entry}
use Rattle.argot_io.specs.declared.files.FilesCall.{FilesCall}

-- one more, or the last value of the type
abbrev pub counted : ℕ → ℕ
counted n = min (n + 1) (2 ^ 64 - 1)

pub record SinkInMemory : Type 0 where
  pub taken : List ℕ
  pub room : ℕ
  pub most : ℕ
  -- the numbers of the writes that fail, counted from 1
  pub failing : List ℕ
  pub writes : ℕ
  pub faults : ℕ

-- the next write of the piece is one that fails: by its number, or for want of room
abbrev pub MustFail : SinkInMemory → List ℕ → Type 0
MustFail sink piece = (piece ≢ []) × (Contains sink.failing (counted sink.writes) ⊎ (sink.room ≤ length sink.taken))

-- how many bytes the next write takes, if it doesn't fail
abbrev pub bytes_taken : SinkInMemory → List ℕ → ℕ
bytes_taken sink piece = min (min (length piece) sink.most) (sink.room - length sink.taken)

pub record FilesInMemory : Type 0 where
  pub entries : List Entry
  -- the numbers of the calls that fail, counted from 1
  pub failing : List ℕ
  pub calls : ℕ
  pub faults : ℕ
  pub last : Option FilesCall
