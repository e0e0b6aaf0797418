-- Regular forms of byte lists: one of some bytes, one form after another, one of two, or any number of one.
use Rattle.std.specs.Prelude.{◌≡◌, ℕ, Bool, true, ◌==◌, ◌⊎◌, List, [], ◌∷◌, ◌++◌}
use Rattle.std.specs.List.{list_any}

pub data Form : Type 0 where
  -- no byte
  Nothing : Form
  -- one byte of the list
  OneOf : List ℕ → Form
  Either : Form → Form → Form
  -- the first, and then the second
  Then : Form → Form → Form
  -- none, or one after another
  Many : Form → Form

-- the list has the byte
abbrev pub has : List ℕ → ℕ → Bool
has bytes b = list_any (λ c. b == c) bytes

-- parts end to end, each of which the claim holds of
pub data Repeats (claim : List ℕ → Type 0) : List ℕ → Type 0 where
  none : Repeats claim []
  more : {whole : List ℕ} (part rest : List ℕ) → whole ≡ part ++ rest → claim part → Repeats claim rest → Repeats claim whole

-- the bytes have the form
abbrev pub Matches : Form → List ℕ → Type 0
Matches Nothing bytes = bytes ≡ []
Matches (OneOf some) bytes = (b : ℕ) × (bytes ≡ b ∷ []) × (has some b ≡ true)
Matches (Either f g) bytes = Matches f bytes ⊎ Matches g bytes
Matches (Then f g) bytes = (front : List ℕ) × (back : List ℕ) × (bytes ≡ front ++ back) × Matches f front × Matches g back
Matches (Many f) bytes = Repeats (Matches f) bytes

-- nothing or the form
abbrev pub maybe : Form → Form
maybe f = Either Nothing f
