-- What the words of the command line ask for.
use Rattle.std.specs.Prelude.{ℕ, ◌==◌, nat_eq, Bool, false, not, cond, ◌&&◌, List, [], ◌∷◌, codes, Option, Some, None}
use Rattle.std.specs.Cmp.Lexicographic.{pointwise}

-- a byte before a folder whose trailing slashes are cut
abbrev pub byte_before : ℕ → List ℕ → List ℕ
byte_before b [] = cond (b == 47) [] (b ∷ [])
byte_before b (c ∷ cs) = b ∷ (c ∷ cs)

-- the word without its trailing slashes
abbrev pub without_slashes : List ℕ → List ℕ
without_slashes [] = []
without_slashes (b ∷ bs) = byte_before b (without_slashes bs)

-- the root, where nothing is left of a word
abbrev pub or_root : List ℕ → List ℕ
or_root [] = codes "/"
or_root (b ∷ bs) = b ∷ bs

-- the folder that a word names: its trailing slashes are cut, but of slashes alone one stays
abbrev pub folder_of : List ℕ → List ℕ
folder_of word = or_root (without_slashes word)

-- a word that names a folder isn't empty and doesn't begin with `-`
abbrev pub names_folder : List ℕ → Bool
names_folder [] = false
names_folder (b ∷ bs) = not (b == 45)

-- the folder that is asked for, by the word `taint` and a folder; nothing else is a request
abbrev pub asked : List (List ℕ) → Option (List ℕ)
asked [] = None
asked (verb ∷ []) = None
asked (verb ∷ (word ∷ [])) = cond (pointwise nat_eq verb (codes "taint") && names_folder word) (Some (folder_of word)) None
asked (verb ∷ (word ∷ (more ∷ words))) = None
