-- The look-up by blocks, and the list of pairs that it stands for.
use Rattle.std.specs.Prelude.{◌≡◌, ◌↔◌, ℕ, zero, suc, ◌<◌, ◌==◌, ◌&&◌, ◌||◌, Bool, true, false, nat_lt, List, [], ◌∷◌, ◌++◌, length, slice_index_or}
use Rattle.argot_links.specs.Table.{Table, has}
use Rattle.argot_plain.specs.Code.{Code}
use Rattle.argot_plain.specs.Lists.{In}
use Rattle.argot_facts.specs.Follows.{FollowsBy}
use Rattle.argot_facts.specs.Refers.{Fact}
use Rattle.argot_control.specs.Numbering.{block_in}

-- whether the place b stands behind a in one block, or the block of a has that of b in its row
abbrev pub behind : List ℕ → Table → ℕ → ℕ → Bool
behind numbers t a b = ((block_in numbers a == block_in numbers b) && nat_lt a b) || has t (block_in numbers a) (block_in numbers b)

-- each block has a row and a column
abbrev pub AreRowed : List ℕ → Table → Type 0
AreRowed numbers t = (x : ℕ) → In x numbers → (x < length t.rows) × (x < t.cols)

-- whether the flag of the number is set
abbrev pub flag : List Bool → ℕ → Bool
flag flags n = slice_index_or flags n false

-- whether a is flagged as a writer, b as a reader, and b comes behind a
abbrev pub is_pair : List ℕ → Table → List Bool → List Bool → ℕ → ℕ → Bool
is_pair numbers t writes reads a b = flag writes a && (flag reads b && behind numbers t a b)

abbrev pub pair_where : Bool → ℕ → ℕ → List (ℕ × ℕ)
pair_where true a b = (a, b) ∷ []
pair_where false a b = []

-- of a and n numbers from at on the pairs that pass
abbrev pub pairs_with : (ℕ → ℕ → Bool) → ℕ → ℕ → ℕ → List (ℕ × ℕ)
pairs_with f a at zero = []
pairs_with f a at (suc n) = pair_where (f a at) a at ++ pairs_with f a (suc at) n

-- of n numbers from at on and the first m numbers the pairs that pass
abbrev pub pairs_from : (ℕ → ℕ → Bool) → ℕ → ℕ → ℕ → List (ℕ × ℕ)
pairs_from f m at zero = []
pairs_from f m at (suc n) = pairs_with f at 0 m ++ pairs_from f m (suc at) n

-- the pairs that pass, in order
abbrev pub pairs_by : List ℕ → Table → List Bool → List Bool → List (ℕ × ℕ)
pairs_by numbers t writes reads = pairs_from (is_pair numbers t writes reads) (length numbers) 0 (length numbers)

-- the look-up finds exactly what follows
abbrev pub IsExactly : Code → (Fact → Type 0) → List ℕ → Table → Type 0
IsExactly p F numbers t = (a b : ℕ) → a < length numbers → b < length numbers → (behind numbers t a b ≡ true) ↔ FollowsBy p F a b

-- there are flags of both kinds for each place, and each block has a row and a column
pub record IsControl (numbers : List ℕ) (t : Table) (writes reads : List Bool) : Type 0 where
  pub writes_count : length writes ≡ length numbers
  pub reads_count : length reads ≡ length numbers
  pub rowed : AreRowed numbers t
