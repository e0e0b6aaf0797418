-- The faults of a value: a list of all that is wrong with it, in the order in which they count.
use Rattle.std.specs.Prelude.{◌≡◌, ◌≢◌, ℕ, List, [], ◌∷◌, ◌++◌, length, map, flat_map, bytes_eq, Bool, false, not, ◌&&◌, nat_le, if◌then◌else◌, Option, Some, None, option_map, option_and_then, is_some, slice_get}
use Rattle.std.specs.List.{list_any}
use Rattle.std.specs.Option.{option_map_or}
use Rattle.serde_json.specs.Data.{Data, Items, no_items, item, Members, no_members, member}
use Rattle.serde_json.specs.Find.{get, as_str, as_bool, as_array, as_object}
use Rattle.argot_config_read.specs.declared.faults.ConfigFault.{ConfigFault}
use Rattle.argot_config_read.specs.declared.faults.ConfigFault.TheVariants.{Key, Shape, Memory}
use Rattle.argot_config_read.specs.Paths.{key_path, item_path}

-- the items of a JSON list, as a list
abbrev pub items_list : Items → List Data
items_list no_items = []
items_list (item d ds) = d ∷ items_list ds

abbrev pub as_list : Data → Option (List Data)
as_list d = option_map items_list (as_array d)

-- the keys of a JSON object, which has each once, in byte order
abbrev pub keys_of : Members → List (List ℕ)
keys_of no_members = []
keys_of (member k d ms) = k ∷ keys_of ms

-- a judge says which faults a value has that stands at a path
abbrev pub Judge : Type 0
Judge = List ℕ → Data → List ConfigFault

-- nothing, where the value fits, else that it has the wrong shape
abbrev pub shaped : Bool → List ℕ → List ConfigFault
shaped fits path = if fits then [] else Shape path ∷ []

-- a truth value
abbrev pub flag : Judge
flag path d = shaped (is_some (as_bool d)) path

-- a text that passes the test
abbrev pub text_that : (List ℕ → Bool) → Judge
text_that test path d = shaped (option_map_or test (as_str d) false) path

-- the items, where it is a list with so many of them
abbrev pub items_between : ℕ → ℕ → Data → Option (List Data)
items_between least most d = option_and_then (λ ds. if nat_le least (length ds) && nat_le (length ds) most then Some ds else None) (as_list d)

-- the faults of items, each judged with the items before it in sight
unfoldable pub each_item : (List Data → Judge) → List ℕ → List Data → List Data → List ConfigFault
each_item judge path before [] = []
each_item judge path before (d ∷ ds) = judge before (item_path path (length before)) d ++ each_item judge path (before ++ d ∷ []) ds

-- a list of so many items, each of which is judged. The length counts before the items
abbrev pub list_of : ℕ → ℕ → (List Data → Judge) → Judge
list_of least most judge path d = option_map_or (each_item judge path []) (items_between least most d) (Shape path ∷ [])

-- a row of the table: a key, whether it is required, and what judges its value
pub record Row : Type 0 where
  pub key : List ℕ
  pub is_required : Bool
  pub judge : Judge

abbrev pub row : List ℕ → Bool → Judge → Row
row key is_required judge = record { key = key; is_required = is_required; judge = judge }

-- a fault for each key that isn't among the known ones
abbrev pub unknown_keys : List (List ℕ) → List ℕ → List (List ℕ) → List ConfigFault
unknown_keys known path [] = []
unknown_keys known path (k ∷ ks) = (if list_any (bytes_eq k) known then [] else Key (key_path path k) ∷ []) ++ unknown_keys known path ks

-- the faults of what the value is itself: that it is no object, or its unknown keys in byte order
abbrev pub own_faults : List (List ℕ) → Judge
own_faults known path d = option_map_or (λ ms. unknown_keys known path (keys_of ms)) (as_object d) (Shape path ∷ [])

-- the faults of the value at a row's key, where there is one
unfoldable pub row_faults : List ℕ → Data → Row → List ConfigFault
row_faults path d r =
    option_map_or (r.judge (key_path path r.key)) (get r.key d) (shaped (not r.is_required) (key_path path r.key))

-- an object of these rows: first its unknown keys, then the rows in order, each value wholly before the next
abbrev pub object_of : List Row → Judge
object_of rows path d =
    own_faults (map (λ r. r.key) rows) path d ++ (if is_some (as_object d) then flat_map (row_faults path d) rows else [])

-- the error is the first of these faults, unless there was no memory
abbrev pub IsFirst : List ConfigFault → ConfigFault → Type 0
IsFirst faults e = e ≢ Memory → slice_get faults 0 ≡ Some e

-- the error is this fault, unless there was no memory
abbrev pub IsFault : ConfigFault → ConfigFault → Type 0
IsFault fault e = e ≢ Memory → e ≡ fault
