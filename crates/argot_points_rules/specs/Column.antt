-- What each instruction asks of the points-to relation: its rules, kind by kind. The places of a function read what its
-- definitions put, each known by its place and the index of its result.
use Rattle.std.specs.Prelude.{ℕ, Bool, false, zero, suc, ◌+◌, ◌-◌, ◌==◌, ◌&&◌, nat_lt, List, [], ◌∷◌, ◌++◌, Option, Some, None, length, drop, slice_get, if◌then◌else◌}
use Rattle.argot_plain.specs.Lists.{same_path}
use Rattle.argot_plain.specs.Code.{Code, kind_of, defined, found_by, handed_values}
use Rattle.argot_plain.specs.Machine.{is_covered}
use Rattle.argot_plain.specs.declared.functions.Function.{Function}
use Rattle.argot_plain.specs.declared.functions.Ident.{Ident}
use Rattle.argot_plain.specs.declared.instructions.Callee.{Callee}
use Rattle.argot_plain.specs.declared.instructions.Callee.TheVariants as callees
use Rattle.argot_plain.specs.declared.instructions.Kind.{Kind}
use Rattle.argot_plain.specs.declared.instructions.Kind.TheVariants as kinds
use Rattle.argot_plain.specs.declared.sites.Site.{Site}
use Rattle.argot_text.specs.declared.position.Pos.{Pos}
use Rattle.argot_text.specs.declared.path.PathStep.{PathStep}
use Rattle.argot_facts.specs.Numbers.{node, leaves_of, own_site, shape_at}
use Rattle.argot_facts.specs.declared.nodes.Node.{Node}
use Rattle.argot_points_rules.specs.declared.rules.Owned.{Owned}
use Rattle.argot_points_rules.specs.declared.rules.Rule.{Rule}
use Rattle.argot_points_rules.specs.declared.rules.Rule.TheVariants.{Put, Copy, Shift, Keep, Load, Store, Aim, Enter, Choose, Return, Fresh}

abbrev pub owned : ℕ → Rule → Owned
owned h r = record { function = h; rule = r }

-- where the register stands in the list of what the place d defines, from index k on
abbrev pub positions : ℕ → ℕ → ℕ → List ℕ → List (ℕ × ℕ)
positions d r k [] = []
positions d r k (x ∷ xs) = (if x == r then (d, k) ∷ [] else []) ++ positions d r (k + 1) xs

abbrev pub defined_by : Option Kind → List ℕ
defined_by None = []
defined_by (Some kind) = defined kind

-- the place d with each index at which it defines the register
abbrev pub definitions_at : Code → Function → ℕ → ℕ → List (ℕ × ℕ)
definitions_at p fn r d =
    if d == fn.entry then (if nat_lt r fn.params then (d, r) ∷ [] else []) else positions d r 0 (defined_by (kind_of (slice_get p.instrs d)))

-- the definitions of the register that reach the place i
abbrev pub definitions : Code → Function → ℕ → ℕ → List (ℕ × ℕ × ℕ) → List (ℕ × ℕ)
definitions p fn i r [] = []
definitions p fn i r (x ∷ ds) = (if x.1 == i && x.2 == r then definitions_at p fn r x.0 else []) ++ definitions p fn i r ds

-- from leaf a of each definition
abbrev pub copies : ℕ → Node → ℕ → List (ℕ × ℕ) → List Owned
copies h to a [] = []
copies h to a (x ∷ xs) = owned h (Copy to (node x.0 x.1 a)) ∷ copies h to a xs

abbrev pub shifts : ℕ → Node → List PathStep → List (ℕ × ℕ) → List Owned
shifts h to path [] = []
shifts h to path (x ∷ xs) = owned h (Shift to (node x.0 x.1 0) path) ∷ shifts h to path xs

abbrev pub keeps : ℕ → Node → ℕ → List (ℕ × ℕ) → List Owned
keeps h to target [] = []
keeps h to target (x ∷ xs) = owned h (Keep to (node x.0 x.1 0) target) ∷ keeps h to target xs

abbrev pub loads : ℕ → Node → List PathStep → List (ℕ × ℕ) → List Owned
loads h to path [] = []
loads h to path (x ∷ xs) = owned h (Load to (node x.0 x.1 0) path) ∷ loads h to path xs

abbrev pub stores : ℕ → List PathStep → Node → List (ℕ × ℕ) → List Owned
stores h path source [] = []
stores h path source (x ∷ xs) = owned h (Store (node x.0 x.1 0) path source) ∷ stores h path source xs

-- leaf by leaf, numbered from a on
abbrev pub value_copies : ℕ → ℕ → ℕ → ℕ → List (List PathStep) → List (ℕ × ℕ) → List Owned
value_copies h i k a [] found = []
value_copies h i k a (q ∷ qs) found = copies h (node i k a) a found ++ value_copies h i k (a + 1) qs found

abbrev pub value_loads : ℕ → ℕ → ℕ → ℕ → List (List PathStep) → List (ℕ × ℕ) → List Owned
value_loads h i k a [] found = []
value_loads h i k a (q ∷ qs) found = loads h (node i k a) q found ++ value_loads h i k (a + 1) qs found

abbrev pub value_stores : ℕ → ℕ → ℕ → ℕ → List (List PathStep) → List (ℕ × ℕ) → List Owned
value_stores h i k a [] found = []
value_stores h i k a (q ∷ qs) found = stores h q (node i k a) found ++ value_stores h i k (a + 1) qs found

-- from the leaf of the value that stands along the path and then at q
abbrev pub below_copies : ℕ → Node → List PathStep → List PathStep → ℕ → List (List PathStep) → List (ℕ × ℕ) → List Owned
below_copies h to path q a [] found = []
below_copies h to path q a (leaf ∷ from) found = (if same_path leaf (path ++ q) then copies h to a found else []) ++ below_copies h to path q (a + 1) from found

abbrev pub move_copies : ℕ → ℕ → List PathStep → ℕ → List (List PathStep) → List (List PathStep) → List (ℕ × ℕ) → List Owned
move_copies h i path a [] from found = []
move_copies h i path a (q ∷ to) from found = below_copies h (node i 0 a) path q 0 from found ++ move_copies h i path (a + 1) to from found

-- to the leaf q, from the leaf of a part that stands there behind the part's path
abbrev pub leaf_copies : ℕ → Node → List PathStep → List PathStep → ℕ → List (List PathStep) → List (ℕ × ℕ) → List Owned
leaf_copies h to q path a [] found = []
leaf_copies h to q path a (leaf ∷ from) found = (if same_path q (path ++ leaf) then copies h to a found else []) ++ leaf_copies h to q path (a + 1) from found

-- to each leaf that no later part replaces
abbrev pub part_copies : ℕ → ℕ → List PathStep → List (List PathStep × ℕ) → ℕ → List (List PathStep) → List (List PathStep) → List (ℕ × ℕ) → List Owned
part_copies h i path later a [] from found = []
part_copies h i path later a (q ∷ to) from found = (if is_covered q later then [] else leaf_copies h (node i 0 a) q path 0 from found) ++ part_copies h i path later (a + 1) to from found

abbrev pub join_copies : Code → Function → List (ℕ × ℕ × ℕ) → ℕ → ℕ → List (List PathStep) → List (List PathStep × ℕ) → List Owned
join_copies p fn ds h i to [] = []
join_copies p fn ds h i to (x ∷ parts) = part_copies h i x.0 parts 0 to (leaves_of fn x.1) (definitions p fn i x.1 ds) ++ join_copies p fn ds h i to parts

-- register by register, with their indices from k on
abbrev pub register_copies : Code → Function → List (ℕ × ℕ × ℕ) → ℕ → ℕ → ℕ → List ℕ → List Owned
register_copies p fn ds h i k [] = []
register_copies p fn ds h i k (r ∷ rs) = value_copies h i k 0 (leaves_of fn r) (definitions p fn i r ds) ++ register_copies p fn ds h i (k + 1) rs

-- the items of a Grow, which have these leaves
abbrev pub item_copies : Code → Function → List (ℕ × ℕ × ℕ) → ℕ → ℕ → List (List PathStep) → List ℕ → List Owned
item_copies p fn ds h i shape [] = []
item_copies p fn ds h i shape (r ∷ rs) = value_copies h i 1 0 shape (definitions p fn i r ds) ++ item_copies p fn ds h i shape rs

-- a Grow: the old slice and the own site; the elements that it copies, which stand with the items; and all that is put
abbrev pub grow_rules : Code → Function → List (ℕ × ℕ × ℕ) → ℕ → ℕ → ℕ → List ℕ → Option ℕ → List Owned
grow_rules p fn ds h i at items None = []
grow_rules p fn ds h i at items (Some s) =
    (((copies h (node i 0 0) 0 (definitions p fn i at ds) ++ owned h (Put (node i 0 0) s) ∷ []) ++ value_loads h i 2 0 (shape_at p (Some s)) (definitions p fn i at ds))
    ++ value_copies h i 1 0 (shape_at p (Some s)) ((i, 2) ∷ [])) ++ item_copies p fn ds h i (shape_at p (Some s)) items ++ value_stores h i 1 0 (shape_at p (Some s)) ((i, 0) ∷ [])

-- the index at which the reference is handed on by which a call goes, where n results stand before the handed values; for a
-- callee by number any other
abbrev pub reference_index : Callee → List ℕ → ℕ → ℕ
reference_index (callees.Static g) args n = n
reference_index (callees.Value r) args n = n + length args
reference_index (callees.Method r name) args n = n

abbrev pub reference : ℕ → Callee → List ℕ → ℕ → Node
reference i callee args n = node i (reference_index callee args n) 0

-- calls, which go by the node `by`: handed values behind n results enter the targets, and what these hand back becomes results
abbrev pub enter_leaves : ℕ → ℕ → Node → ℕ → ℕ → ℕ → List (List PathStep) → List Owned
enter_leaves h i by n k a [] = []
enter_leaves h i by n k a (q ∷ qs) = owned h (Enter i by k q (node i (n + k) a)) ∷ enter_leaves h i by n k (a + 1) qs

-- whether this is the handed value k
abbrev pub is_value : Option ℕ → ℕ → Bool
is_value None k = false
is_value (Some c) k = c == k

-- value by value, with their indices from k on; of the value c, by which the callee is found, targets get what selects them
abbrev pub enters : Function → ℕ → ℕ → Node → ℕ → Option ℕ → ℕ → List ℕ → List Owned
enters fn h i by n c k [] = []
enters fn h i by n c k (r ∷ rs) =
    (if is_value c k then owned h (Choose i by k) ∷ [] else enter_leaves h i by n k 0 (leaves_of fn r)) ++ enters fn h i by n c (k + 1) rs

abbrev pub return_leaves : ℕ → ℕ → Node → ℕ → ℕ → List (List PathStep) → List Owned
return_leaves h i by k a [] = []
return_leaves h i by k a (q ∷ qs) = owned h (Return i by k q (node i k a)) ∷ return_leaves h i by k (a + 1) qs

abbrev pub returns : Function → ℕ → ℕ → Node → ℕ → List ℕ → List Owned
returns fn h i by k [] = []
returns fn h i by k (t ∷ ts) = return_leaves h i by k 0 (leaves_of fn t) ++ returns fn h i by (k + 1) ts

-- the sites of the place among these, which are numbered from s on
abbrev pub fresh_from : ℕ → ℕ → Node → ℕ → List Site → List Owned
fresh_from h i by s [] = []
fresh_from h i by s (site ∷ sites) = (if site.place == i then owned h (Fresh i by (node i site.result site.leaf) s) ∷ [] else []) ++ fresh_from h i by (s + 1) sites

abbrev pub fresh_of : Code → ℕ → ℕ → Node → List Owned
fresh_of p h i by = fresh_from h i by (length p.globals) (drop (length p.globals) p.sites)

abbrev pub hand_rules : Code → Function → List (ℕ × ℕ × ℕ) → ℕ → ℕ → Node → ℕ → Callee → List ℕ → List Owned
hand_rules p fn ds h i by n callee args =
    (register_copies p fn ds h i n (handed_values callee args) ++ owned h (Aim i by) ∷ [])
    ++ enters fn h i by n (found_by callee args) 0 (handed_values callee args)

abbrev pub variable_rules : ℕ → ℕ → Option (Ident × Pos × ℕ) → List Owned
variable_rules h i None = []
variable_rules h i (Some x) = owned h (Put (node i 0 0) x.2) ∷ []

-- the column, kind by kind
abbrev pub kind_rules : Code → Function → List (ℕ × ℕ × ℕ) → ℕ → ℕ → Kind → List Owned
kind_rules p fn ds h i (kinds.Move to from path) = move_copies h i path 0 (leaves_of fn to) (leaves_of fn from) (definitions p fn i from ds)
kind_rules p fn ds h i (kinds.Join to parts) = join_copies p fn ds h i (leaves_of fn to) parts
kind_rules p fn ds h i (kinds.New to s) = owned h (Put (node i 0 0) s) ∷ []
kind_rules p fn ds h i (kinds.Step to from path) = shifts h (node i 0 0) path (definitions p fn i from ds)
kind_rules p fn ds h i (kinds.Read to at qs) = value_loads h i 0 0 qs (definitions p fn i at ds)
kind_rules p fn ds h i (kinds.Write at from) = register_copies p fn ds h i 0 (from ∷ []) ++ value_stores h i 0 0 (leaves_of fn from) (definitions p fn i at ds)
kind_rules p fn ds h i (kinds.Grow to at items) = grow_rules p fn ds h i at items (own_site p i)
kind_rules p fn ds h i (kinds.Global to k) = variable_rules h i (slice_get p.globals k)
kind_rules p fn ds h i (kinds.Assert to from target) = keeps h (node i 0 0) target (definitions p fn i from ds)
kind_rules p fn ds h i (kinds.Call to callee args) = (hand_rules p fn ds h i (reference i callee args (length to)) (length to) callee args ++ returns fn h i (reference i callee args (length to)) 0 to) ++ fresh_of p h i (reference i callee args (length to))
kind_rules p fn ds h i (kinds.Go callee args) = hand_rules p fn ds h i (reference i callee args 0) 0 callee args
kind_rules p fn ds h i (kinds.Defer callee args) = hand_rules p fn ds h i (reference i callee args 0) 0 callee args
kind_rules p fn ds h i (kinds.Leave from) = register_copies p fn ds h i 0 from
kind_rules p fn ds h i (kinds.Passed to callee) = register_copies p fn ds h i 0 (to ∷ [])
kind_rules p fn ds h i _ = []

abbrev pub optional_rules : Code → Function → List (ℕ × ℕ × ℕ) → ℕ → ℕ → Option Kind → List Owned
optional_rules p fn ds h i None = []
optional_rules p fn ds h i (Some kind) = kind_rules p fn ds h i kind

-- the rules of n places of the function h, from the place i on
abbrev pub place_rules : Code → Function → List (ℕ × ℕ × ℕ) → ℕ → ℕ → ℕ → List Owned
place_rules p fn ds h i zero = []
place_rules p fn ds h i (suc n) = optional_rules p fn ds h i (kind_of (slice_get p.instrs i)) ++ place_rules p fn ds h (i + 1) n

abbrev pub function_rules : Code → List (ℕ × ℕ × ℕ) → ℕ → List Function → List Owned
function_rules p ds h [] = []
function_rules p ds h (fn ∷ fns) = place_rules p fn ds h fn.entry (fn.leave + 1 - fn.entry) ++ function_rules p ds (h + 1) fns

abbrev pub rules_of : Code → List (ℕ × ℕ × ℕ) → List Owned
rules_of p ds = function_rules p ds 0 p.functions
