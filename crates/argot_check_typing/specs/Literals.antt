-- Literals as their rules see them: tokens, and composite literals with their items.
use Rattle.std.specs.Prelude.{ℕ, Bool, true, false, List, [], ◌∷◌, ◌++◌, length, Option, Some, None, if◌then◌else◌, slice_get, option_map}
use Rattle.argot_tree.specs.declared.node_kind.NodeKind.{NodeKind}
use Rattle.argot_tree.specs.declared.node_kind.NodeKind.TheVariants as nodes
use Rattle.argot_tree.specs.declared.token.TokenKind.{TokenKind}
use Rattle.argot_tree.specs.declared.token.TokenKind.TheVariants as kinds
use Rattle.argot_names_rules.specs.Files.{read_of}
use Rattle.argot_check_rules.specs.Expected.{Source, Written, OpenArray, OfKey, OfValue}
use Rattle.argot_check_rules.specs.Literals as literals
use Rattle.argot_check_source.specs.Code.{Code, kind_at, children, parent_of, is_of, head_of, place_in, text_of, is_name_use}
use Rattle.argot_check_source.specs.LiteralValues.{whole_value, rune_value, text_value}
use Rattle.argot_check_typing.specs.Positions.{row_of, is_first}

abbrev pub token_kind : Code → ℕ → Option TokenKind
token_kind c n = elim (slice_get c.nodes n) [ None ↦ None | Some x ↦ option_map (λ t. t.kind) (slice_get (read_of c.files x.file).tokens x.token) ]

abbrev pub token_of : List ℕ → TokenKind → literals.Token
token_of bytes kinds.Whole = literals.WholeToken (whole_value bytes)
token_of bytes kinds.Rune = literals.RuneToken (rune_value bytes)
token_of bytes kinds.Chars = literals.TextToken (length (text_value bytes))
token_of bytes kinds.RawChars = literals.TextToken (length (text_value bytes))
token_of bytes _ = literals.OtherToken

abbrev pub literal_token : Code → ℕ → literals.Token
literal_token c n = elim (token_kind c n) [ None ↦ literals.OtherToken | Some kind ↦ token_of (text_of c n) kind ]

abbrev pub is_elems : NodeKind → Bool
is_elems nodes.Elems = true
is_elems _ = false

abbrev pub is_open_array : NodeKind → Bool
is_open_array nodes.OpenArrayType = true
is_open_array _ = false

-- the type that a composite literal writes: of `[...]T` the type of the elements counts
abbrev pub written_source : Code → Option ℕ → ℕ → Source
written_source c copy t =
    if is_of c is_open_array t then (elim (head_of (children c t)) [ None ↦ Written (row_of copy t) | Some of ↦ OpenArray (row_of copy of) ])
    else Written (row_of copy t)

-- where elements in braces have their type from, by their parent
abbrev pub source_below : Code → Option ℕ → ℕ → ℕ → NodeKind → Option Source
source_below c copy n p nodes.Composite = elim (head_of (children c p)) [ None ↦ None | Some t ↦ Some (written_source c copy t) ]
source_below c copy n p nodes.Item = Some (OfValue (row_of copy p))
source_below c copy n p nodes.KeyedItem = Some (if is_first c p n then OfKey (row_of copy p) else OfValue (row_of copy p))
source_below c copy n p _ = None

abbrev pub source_of : Code → Option ℕ → ℕ → Option Source
source_of c copy n = elim (parent_of c n) [ None ↦ None | Some p ↦ elim (kind_at c p) [ None ↦ None | Some kind ↦ source_below c copy n p kind ] ]

-- that of the elements among which an item stands
abbrev pub item_source : Code → Option ℕ → ℕ → Option Source
item_source c copy item = elim (parent_of c item) [ None ↦ None | Some elems ↦ source_of c copy elems ]

-- that of the elements among whose items a name is a key
abbrev pub key_source : Code → Option ℕ → ℕ → Option Source
key_source c copy n = elim (parent_of c n) [ None ↦ None | Some item ↦ item_source c copy item ]

-- the key of an item
abbrev pub key_of : Code → Option ℕ → ℕ → literals.Key
key_of c copy n =
    if is_of c is_name_use n then literals.NameKey (text_of c n) (row_of copy n)
    else if is_of c is_elems n then literals.ElemsKey (row_of copy n)
    else literals.ValueKey (row_of copy n)

-- an item by its children: a value, or a key and a value
abbrev pub item_by : Code → Option ℕ → List ℕ → List literals.Item
item_by c copy (v ∷ []) = record { key = literals.NoKey; value = row_of copy v; elided = is_of c is_elems v } ∷ []
item_by c copy (k ∷ v ∷ ns) = record { key = key_of c copy k; value = row_of copy v; elided = is_of c is_elems v } ∷ []
item_by c copy [] = []

abbrev pub items_by : Code → Option ℕ → List ℕ → List literals.Item
items_by c copy [] = []
items_by c copy (n ∷ ns) = item_by c copy (children c n) ++ items_by c copy ns

-- the items of elements in braces
abbrev pub items_of : Code → Option ℕ → ℕ → List literals.Item
items_of c copy elems = items_by c copy (children c elems)

-- where an item stands: its number, or the name that is its key
abbrev pub key_text : Code → List ℕ → Option (List ℕ)
key_text c [] = None
key_text c (k ∷ ns) = if is_of c is_name_use k then Some (text_of c k) else None

abbrev pub item_number : Code → ℕ → ℕ
item_number c item = elim (parent_of c item) [ None ↦ 0 | Some elems ↦ place_in item (children c elems) ]
