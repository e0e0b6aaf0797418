-- The places of one function, counted from its first one, and its blocks: runs of places that are entered only at the first.
use Rattle.std.specs.Prelude.{◌≡◌, ℕ, zero, suc, ◌+◌, ◌-◌, ◌<◌, ◌≤◌, ◌⊎◌, ◌++◌, ◌==◌, Bool, true, false, cond, Option, Some, None, List, [], ◌∷◌, length, slice_get, slice_index}
use Rattle.argot_links.specs.Members.{has}
use Rattle.argot_plain.specs.Code.{Code, IsFunction, Successor, kind_of, reads, defined}
use Rattle.argot_plain.specs.declared.functions.Function.{Function}
use Rattle.argot_plain.specs.declared.instructions.Kind.{Kind}
use Rattle.argot_plain.specs.declared.instructions.Kind.TheVariants.{Leave, Goto, Branch, Panic}
use Rattle.argot_ssa.specs.Edges.{leads}

-- the places at which an instruction of this kind at the place i may go on
abbrev pub next_places : Kind → ℕ → List ℕ
next_places (Leave from) i = []
next_places (Panic from) i = []
next_places (Goto target) i = cond (target == i) [] (target ∷ [])
next_places (Branch targets) i = targets
next_places _ i = (i + 1) ∷ []

-- an instruction of this kind goes on at the next place alone
abbrev pub falls_through : Kind → Bool
falls_through (Leave from) = false
falls_through (Panic from) = false
falls_through (Goto target) = false
falls_through (Branch targets) = false
falls_through _ = true

-- one of the program's functions
abbrev pub IsOneOf : Code → Function → Type 0
IsOneOf p fn = (g : ℕ) × IsFunction p g fn

-- how many places the function has
abbrev pub size : Function → ℕ
size fn = fn.leave + 1 - fn.entry

-- the place number j may go on at the place number k
pub record Goes (p : Code) (fn : Function) (j k : ℕ) : Type 0 where
  pub from : j < size fn
  pub to : k < size fn
  pub step : Successor p (fn.entry + j) (fn.entry + k)

abbrev pub reads_in : Option Kind → List ℕ
reads_in None = []
reads_in (Some kind) = reads kind

abbrev pub defined_in : Option Kind → List ℕ
defined_in None = []
defined_in (Some kind) = defined kind

-- the numbers below n
abbrev pub numbers : ℕ → List ℕ
numbers zero = []
numbers (suc n) = numbers n ++ n ∷ []

-- the place number k reads the register
unfoldable pub reads_at : Code → Function → ℕ → ℕ → Bool
reads_at p fn r k = has (reads_in (kind_of (slice_get p.instrs (fn.entry + k)))) r

-- the registers that the place number k defines: the first place defines the parameters
unfoldable pub defined_at : Code → Function → ℕ → List ℕ
defined_at p fn k = cond (k == 0) (numbers fn.params) [] ++ defined_in (kind_of (slice_get p.instrs (fn.entry + k)))

-- the place number k defines the register
unfoldable pub defines_at : Code → Function → ℕ → ℕ → Bool
defines_at p fn r k = has (defined_at p fn k) r

-- the place number k is entered only from the one before it, which goes on nowhere else
pub record IsInner (p : Code) (fn : Function) (heads : List ℕ) (k : ℕ) : Type 0 where
  pub before : ℕ
  pub is : k ≡ before + 1
  pub same : slice_index heads before ≡ slice_index heads k
  pub step : Goes p fn before k
  pub only_from : (j : ℕ) → Goes p fn j k → j ≡ before
  pub only_to : (s : ℕ) → Goes p fn before s → s ≡ k

-- the place number k goes on at the next one alone
pub record IsPlain (p : Code) (fn : Function) (k : ℕ) : Type 0 where
  pub only : (s : ℕ) → Goes p fn k s → s ≡ k + 1
  pub step : k + 1 < size fn → Goes p fn k (k + 1)

-- where the place number k goes on, and behind it, blocks begin
pub record IsJump (p : Code) (fn : Function) (begins : ℕ → Bool) (k : ℕ) : Type 0 where
  pub there : (s : ℕ) → Goes p fn k s → begins s ≡ true
  pub behind : k + 1 < size fn → begins (k + 1) ≡ true

abbrev pub Cuts : Code → Function → (ℕ → Bool) → ℕ → Type 0
Cuts p fn begins k = IsPlain p fn k ⊎ IsJump p fn begins k

-- for each of the first n numbers the last one up to it that begins something
pub record AreHeads (begins : ℕ → Bool) (n : ℕ) (heads : List ℕ) : Type 0 where
  pub count : length heads ≡ n
  pub low : (k : ℕ) → k < n → slice_index heads k ≤ k
  pub begun : (k : ℕ) → k < n → begins k ≡ true → slice_index heads k ≡ k
  pub same : (k : ℕ) → k + 1 < n → begins (k + 1) ≡ false → slice_index heads (k + 1) ≡ slice_index heads k

-- for each place the first one of its block
pub record IsCut (p : Code) (fn : Function) (heads : List ℕ) : Type 0 where
  pub count : length heads ≡ size fn
  pub low : (k : ℕ) → k < size fn → slice_index heads k ≤ k
  pub each : (k : ℕ) → k < size fn → (slice_index heads k ≡ k) ⊎ IsInner p fn heads k

-- the second list has the edges of the first, turned
pub record Mirrored (onward back : List (List ℕ)) : Type 0 where
  pub turned : (a b : ℕ) → leads onward a b ≡ true → leads back b a ≡ true
  pub returned : (a b : ℕ) → leads back b a ≡ true → leads onward a b ≡ true

-- the edges between blocks, each known by its first place, on account of the first n places; and the same edges turned
pub record IsNet (p : Code) (fn : Function) (heads : List ℕ) (n : ℕ) (onward back : List (List ℕ)) : Type 0 where
  pub count : length onward ≡ size fn
  pub count_back : length back ≡ size fn
  pub edge : (k s : ℕ) → k < n → Goes p fn k s → slice_index heads s ≡ s → leads onward (slice_index heads k) s ≡ true
  pub only : (a b : ℕ) → leads onward a b ≡ true → (k : ℕ) × (slice_index heads k ≡ a) × Goes p fn k b × (slice_index heads b ≡ b)
  pub mirror : Mirrored onward back

-- no place from low on and before high passes the test
abbrev pub NoneIn : (ℕ → Bool) → ℕ → ℕ → Type 0
NoneIn test low high = (j : ℕ) → low ≤ j → j < high → test j ≡ false

-- the last definition before the place k in its block stands at d
pub record IsLocal (heads : List ℕ) (defines : ℕ → Bool) (d k : ℕ) : Type 0 where
  pub low : slice_index heads k ≤ d
  pub high : d < k
  pub defines_it : defines d ≡ true
  pub last : NoneIn defines (d + 1) k

-- no definition stands before the place k in its block
abbrev pub IsExposed : List ℕ → (ℕ → Bool) → ℕ → Type 0
IsExposed heads defines k = NoneIn defines (slice_index heads k) k

-- the definition at d is the last one of its block
pub record IsOut (heads : List ℕ) (n : ℕ) (defines : ℕ → Bool) (d : ℕ) : Type 0 where
  pub below : d < n
  pub defines_it : defines d ≡ true
  pub last : (j : ℕ) → d < j → j < n → slice_index heads j ≡ slice_index heads d → defines j ≡ false
