-- Which targets count as functions of a list, as tables by function and by place.
use Rattle.std.specs.Prelude.{◌≡◌, ℕ, ◌≤◌, Bool, true, false, List, Option, Some, None, length, slice_get}
use Rattle.argot_plain.specs.Code.{Code, IsFunction}
use Rattle.argot_plain.specs.Counts.{is_wrapper, is_left_out, is_among, stands_for}
use Rattle.argot_plain.specs.declared.functions.Function.{Function}

-- the function is a wrapper and has the place
pub record Wraps (fn : Function) (i : ℕ) : Type 0 where
  pub wraps : is_wrapper fn.role ≡ true
  pub low : fn.entry ≤ i
  pub high : i ≤ fn.leave

-- a wrapper has the place
abbrev pub IsWrapped : Code → ℕ → Type 0
IsWrapped p i = (h : ℕ) × (fn : Function) × IsFunction p h fn × Wraps fn i

-- by place whether it is a call by number inside a wrapper
pub record AreLeftOut (p : Code) (flags : List Bool) : Type 0 where
  pub count : length flags ≡ length p.instrs
  pub each : (i : ℕ) (b : Bool) → slice_get flags i ≡ Some b → b ≡ is_left_out p i

-- by function whether a target counts as one of these, where the place isn't left out
pub record AreCounted (p : Code) (list : List ℕ) (flags : List Bool) : Type 0 where
  pub count : length flags ≡ length p.functions
  pub each : (h : ℕ) (b : Bool) → slice_get flags h ≡ Some b → b ≡ is_among (stands_for p h) list

abbrev pub flag_of : Option Bool → Bool
flag_of None = false
flag_of (Some b) = b

-- the flag of a number, where there is one
abbrev pub flag_at : List Bool → Option ℕ → Bool
flag_at flags None = false
flag_at flags (Some h) = flag_of (slice_get flags h)
