-- What reaches a place of one function, its places counted from the entry.
use Rattle.std.specs.Prelude.{◌≡◌, ℕ, ◌+◌, ◌-◌, ◌<◌, ◌≤◌, ◌⊎◌, Bool, true, false, List, length, slice_index}
use Rattle.argot_plain.specs.Lists.{In}
use Rattle.argot_plain.specs.Code.{Code}
use Rattle.argot_plain.specs.declared.functions.Function.{Function}
use Rattle.argot_ssa.specs.Edges.{leads}
use Rattle.argot_ssa.specs.Places.{size, Goes, reads_at, defines_at, NoneIn, IsLocal, IsExposed, IsOut}

-- a path of one or more steps leads from d to a place, and no place strictly between passes the test
pub data Path (p : Code) (fn : Function) (defines : ℕ → Bool) (d : ℕ) : ℕ → Type 0 where
  step : {j : ℕ} → Goes p fn d j → Path p fn defines d j
  more : {i j : ℕ} → Path p fn defines d i → defines i ≡ false → Goes p fn i j → Path p fn defines d j

-- a place, a register and a definition
abbrev pub Row : Type 0
Row = ℕ × ℕ × ℕ

-- the definition of the register reaches the place of the function, which reads it
pub record IsFound (p : Code) (fn : Function) (x : Row) : Type 0 where
  pub k : ℕ
  pub d : ℕ
  pub place : x.0 ≡ fn.entry + k
  pub definition : x.2 ≡ fn.entry + d
  pub low : k < size fn
  pub read : reads_at p fn x.1 k ≡ true
  pub starts : d < size fn
  pub defines : defines_at p fn x.1 d ≡ true
  pub path : Path p fn (defines_at p fn x.1) d k

-- the place number k reads the register of the row, whose definition stands before it in its block
pub record IsLocalRow (p : Code) (fn : Function) (heads : List ℕ) (k : ℕ) (x : Row) : Type 0 where
  pub d : ℕ
  pub place : x.0 ≡ fn.entry + k
  pub definition : x.2 ≡ fn.entry + d
  pub read : reads_at p fn x.1 k ≡ true
  pub is_local : IsLocal heads (defines_at p fn x.1) d k

-- a row of one of the first n places
abbrev pub IsLocalUpTo : Code → Function → List ℕ → ℕ → Row → Type 0
IsLocalUpTo p fn heads n x = (k : ℕ) × (k < n) × IsLocalRow p fn heads k x

-- the new rows are the old ones with those of which this holds
pub record AddsRows (old new : List Row) (holds : Row → Type 0) : Type 0 where
  pub kept : (x : Row) → In x old → In x new
  pub only : (x : Row) → In x new → In x old ⊎ holds x
  pub there : (x : Row) → holds x → In x new

-- one more than the last place before k that passes the test, or 0
pub record IsLatest (test : ℕ → Bool) (k v : ℕ) : Type 0 where
  pub below : v ≤ k
  pub is : 0 < v → test (v - 1) ≡ true
  pub none : NoneIn test v k

abbrev pub AllLatest : Code → Function → ℕ → List ℕ → Type 0
AllLatest p fn k latest = (r : ℕ) → r < length latest → IsLatest (defines_at p fn r) k (slice_index latest r)

-- one more than the first place from k on and below n that passes the test, or 0
pub record IsNext (n : ℕ) (test : ℕ → Bool) (k v : ℕ) : Type 0 where
  pub zero : v ≡ 0 → NoneIn test k n
  pub low : 0 < v → k < v
  pub high : v ≤ n
  pub is : 0 < v → test (v - 1) ≡ true
  pub none : 0 < v → NoneIn test k (v - 1)

abbrev pub AllNext : Code → Function → ℕ → List ℕ → Type 0
AllNext p fn k next = (r : ℕ) → r < length next → IsNext (size fn) (defines_at p fn r) k (slice_index next r)

-- of the first n places those that read a register which is exposed there, by register
pub record AreAsks (p : Code) (fn : Function) (heads : List ℕ) (n : ℕ) (asks : List (List ℕ)) : Type 0 where
  pub only : (r k : ℕ) → leads asks r k ≡ true → (k < n) × (reads_at p fn r k ≡ true) × IsExposed heads (defines_at p fn r) k
  pub there : (r k : ℕ) → k < n → reads_at p fn r k ≡ true → IsExposed heads (defines_at p fn r) k → leads asks r k ≡ true

-- from the place k on the definitions that are the last ones of their blocks, by register
pub record AreOuts (p : Code) (fn : Function) (heads : List ℕ) (k : ℕ) (outs : List (List ℕ)) : Type 0 where
  pub only : (r d : ℕ) → leads outs r d ≡ true → (k ≤ d) × IsOut heads (size fn) (defines_at p fn r) d
  pub there : (r d : ℕ) → k ≤ d → IsOut heads (size fn) (defines_at p fn r) d → leads outs r d ≡ true
