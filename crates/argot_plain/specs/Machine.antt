-- The states of the machine, and what it puts into registers and objects.
use Rattle.std.specs.Prelude.{ℕ, ◌+◌, ◌==◌, ◌||◌, ◌&&◌, not, Bool, false, List, [], ◌∷◌, ◌++◌, Option, Some, None, map, nat_lt, slice_get, if◌then◌else◌}
use Rattle.std.specs.List.{filter, filter_map}
use Rattle.argot_plain.specs.Lists.{member, same_path, has_path, below, begins_with, leads_on, has_element, has_many}
use Rattle.argot_plain.specs.Code.{Code, leaves, param_of}
use Rattle.argot_plain.specs.Nodes.{Mark, mark}
use Rattle.argot_plain.specs.declared.functions.Function.{Function}
use Rattle.argot_plain.specs.declared.problems.Problem.{Problem}
use Rattle.argot_plain.specs.declared.sites.Site.{Site}
use Rattle.argot_text.specs.declared.path.PathStep.{PathStep}
use Rattle.argot_text.specs.declared.path.PathStep.TheVariants.{Element}

-- how labels are put: by a problem, and at the marks at which each atom gets the mark as a label of its own. There are none
-- under a problem; where data is traced back they are those without an incoming edge
pub record Labelling : Type 0 where
  pub problem : Problem
  pub begins : Mark → Bool

-- an object is known by its site, the goroutine that made it and a number of its own. No step looks at the maker
pub record Object : Type 0 where
  pub site : ℕ
  pub maker : ℕ
  pub serial : ℕ

pub data Datum : Type 0 where
  Scalar : Datum
  Nil : Datum
  Ref : (object : Object) (path : List PathStep) → Datum

-- what an atom carries on
pub record Content : Type 0 where
  pub value : Datum
  pub labels : List Mark

-- a value with its labels, and the mark at which it was last put. No step looks at that mark
pub record Atom : Type 0 where
  pub value : Datum
  pub labels : List Mark
  pub put : Mark

-- an atom that a register holds at a leaf
pub record Cell : Type 0 where
  pub register : ℕ
  pub leaf : List PathStep
  pub atom : Atom

-- an atom that an object holds at a path
pub record Slot : Type 0 where
  pub object : Object
  pub path : List PathStep
  pub atom : Atom

-- what a callee means: nothing, or a function, which takes the reference as its first parameter or doesn't
pub data Target : Type 0 where
  Missing : Target
  Found : (function : ℕ) → (takes : Bool) → Target

-- a deferred call: its Defer, its target, how many arguments it has, and its handed values by index
pub record Deferred : Type 0 where
  pub place : ℕ
  pub target : Target
  pub count : ℕ
  pub cells : List Cell

-- what a function that runs holds; site is the place of the Call, Defer or Go by which it was entered
pub record Frame : Type 0 where
  pub function : ℕ
  pub place : ℕ
  pub cells : List Cell
  pub records : List Deferred
  pub site : ℕ
  pub panics : Bool
  pub began : Bool

-- what one goroutine acts on: what the objects hold, the next number for an object, and its own frames, the top one first
pub record View : Type 0 where
  pub slots : List Slot
  pub fresh : ℕ
  pub frames : List Frame

-- a goroutine that has ended has no frames
pub record State : Type 0 where
  pub slots : List Slot
  pub fresh : ℕ
  pub goroutines : List (List Frame)
  pub ended : Bool

abbrev pub content_of : Atom → Content
content_of a = record { value = a.value; labels = a.labels }

abbrev pub content : Datum → List Mark → Content
content v ls = record { value = v; labels = ls }

-- what counts where nothing stands
abbrev pub zero_content : Content
zero_content = record { value = Nil; labels = [] }

abbrev pub own_label : Labelling → Mark → List Mark → List Mark
own_label l n ls = if l.begins n then n ∷ ls else ls

-- what is carried, put at a mark
abbrev pub put_atom : Labelling → Mark → Content → Atom
put_atom l n x = record { value = x.value; labels = own_label l n x.labels; put = n }

-- how an instruction changes labels that it puts at a mark
abbrev pub Change : Type 0
Change = Mark → List Mark → List Mark

abbrev pub same_labels : Change
same_labels n ls = ls

abbrev pub changed : Change → Mark → Content → Content
changed f n x = record { value = x.value; labels = f n x.labels }

-- the register to gets this at q, as result k of the place i
abbrev pub put_cell : Labelling → Change → ℕ → ℕ → ℕ → List PathStep → Content → Cell
put_cell l f to i k q x = record { register = to; leaf = q; atom = put_atom l (mark i k q) (changed f (mark i k q) x) }

abbrev pub stands_at : ℕ → List PathStep → Cell → Bool
stands_at r q c = c.register == r && same_path c.leaf q

-- what the register r holds at the leaf q
abbrev pub contents_at : ℕ → List PathStep → List Cell → List Content
contents_at r q cells = map (λ c. content_of c.atom) (filter (stands_at r q) cells)

abbrev pub or_zero : List Content → List Content
or_zero [] = zero_content ∷ []
or_zero (x ∷ xs) = x ∷ xs

-- the value of the register r at the leaf q
abbrev pub value_at : ℕ → List PathStep → List Cell → List Content
value_at r q cells = or_zero (contents_at r q cells)

-- the cells of other registers than these
abbrev pub kept : List ℕ → List Cell → List Cell
kept rs cells = filter (λ c. not (member c.register rs)) cells

-- the labels of all that these registers hold
abbrev pub labels_of : List ℕ → List Cell → List Mark
labels_of rs [] = []
labels_of rs (c ∷ cells) = (if member c.register rs then c.atom.labels else []) ++ labels_of rs cells

-- the value of the register r at these leaves, put into the register to as result k of the place i
abbrev pub copied : Labelling → Change → ℕ → ℕ → ℕ → ℕ → List (List PathStep) → List Cell → List Cell
copied l f r to i k [] cells = []
copied l f r to i k (q ∷ qs) cells = map (put_cell l f to i k q) (value_at r q cells) ++ copied l f r to i k qs cells

-- what the instruction at the place i of the function h hands on, by index from k on, behind n results: the handed values of a
-- call, or the values of a Leave
abbrev pub handed : Code → Labelling → ℕ → ℕ → ℕ → ℕ → List ℕ → List Cell → List Cell
handed p l h i n k [] cells = []
handed p l h i n k (r ∷ rs) cells = copied l same_labels r k i (n + k) (leaves p h r) cells ++ handed p l h i n (k + 1) rs cells

-- a handed value as a parameter of the function h; what has no parameter, or a leaf that the parameter hasn't, is dropped
abbrev pub as_param : Code → Labelling → ℕ → Function → Cell → Option ℕ → Option Cell
as_param p l h fn c None = None
as_param p l h fn c (Some j) = if nat_lt j fn.params && has_path c.leaf (leaves p h j) then Some (put_cell l same_labels j fn.entry j c.leaf (content_of c.atom)) else None

-- the parameters of the function h that n arguments and what stands behind them become
abbrev pub to_params : Code → Labelling → ℕ → Bool → ℕ → Function → List Cell → List Cell
to_params p l h takes n fn cells = filter_map (λ c. as_param p l h fn c (param_of takes n c.register)) cells

-- values that are handed back, by index, put into the registers to of the function h, as results numbered from k of the place i; a
-- result that is handed nothing is zero, and what has no result is dropped
abbrev pub handed_back : Code → Labelling → Change → ℕ → ℕ → ℕ → List ℕ → List Cell → List Cell
handed_back p l f h i k [] cells = []
handed_back p l f h i k (t ∷ ts) cells = copied l f k t i k (leaves p h t) cells ++ handed_back p l f h i (k + 1) ts cells

-- whether a later part, which doesn't lie among elements, replaces what stands at q
abbrev pub is_covered : List PathStep → List (List PathStep × ℕ) → Bool
is_covered q [] = false
is_covered q (x ∷ parts) = (not (has_element x.0) && begins_with x.0 q) || is_covered q parts

abbrev pub part_value : ℕ → List Cell → Option (List PathStep) → List Content
part_value r cells None = []
part_value r cells (Some q) = value_at r q cells

-- what parts put together give at q: each part that no later one replaces there
abbrev pub joined : List (List PathStep × ℕ) → List PathStep → List Cell → List Content
joined [] q cells = []
joined (x ∷ parts) q cells = (if is_covered q parts then [] else part_value x.1 cells (below x.0 q)) ++ joined parts q cells

abbrev pub shape_of : Option Site → List (List PathStep)
shape_of None = []
shape_of (Some site) = site.shape

-- whether the path is a leaf of the site's objects
abbrev pub is_leaf_of : Code → ℕ → List PathStep → Bool
is_leaf_of p s q = has_path q (shape_of (slice_get p.sites s))

-- whether the path is the empty one, a leaf of the site's objects or leads to one
abbrev pub is_path_of : Code → ℕ → List PathStep → Bool
is_path_of p s q = same_path q [] || leads_on q (shape_of (slice_get p.sites s))

-- the reference moved by a path
abbrev pub stepped : Code → List PathStep → Datum → Datum
stepped p path Scalar = Nil
stepped p path Nil = Nil
stepped p path (Ref o base) = if is_path_of p o.site (base ++ path) then Ref o (base ++ path) else Nil

abbrev pub same_object : Object → Object → Bool
same_object a b = a.site == b.site && a.maker == b.maker && a.serial == b.serial

-- what the object holds at the path
abbrev pub stored : Object → List PathStep → List Slot → List Content
stored o q slots = map (λ s. content_of s.atom) (filter (λ s. same_object s.object o && same_path s.path q) slots)

-- what stands at q behind a reference
abbrev pub contents_behind : Datum → List PathStep → List Slot → List Content
contents_behind Scalar q slots = []
contents_behind Nil q slots = []
contents_behind (Ref o base) q slots = stored o (base ++ q) slots

-- what is carried, with further labels
abbrev pub with_labels : List Mark → Content → Content
with_labels ls x = record { value = x.value; labels = ls ++ x.labels }

abbrev pub has_pair : ℕ → ℕ → List (ℕ × ℕ) → Bool
has_pair a b [] = false
has_pair a b (x ∷ xs) = (a == x.0 && b == x.1) || has_pair a b xs

abbrev pub is_of_type : Code → ℕ → Option Site → Bool
is_of_type p target None = false
is_of_type p target (Some site) = has_pair site.dynamic target p.implements

-- the reference to a box where that is of the type, else nothing
abbrev pub asserted : Code → ℕ → Datum → Datum
asserted p target Scalar = Nil
asserted p target Nil = Nil
asserted p target (Ref o base) = if is_of_type p target (slice_get p.sites o.site) then Ref o base else Nil

abbrev pub put_slot : Labelling → Object → List PathStep → Mark → Content → Slot
put_slot l o q n x = record { object = o; path = q; atom = put_atom l n x }

-- what is put into the object o at the path, where that is one of its leaves
abbrev pub slots_at : Code → Labelling → Object → List PathStep → Mark → List Content → List Slot
slots_at p l o q n xs = if is_leaf_of p o.site q then map (put_slot l o q n) xs else []

-- what a write of the register from puts into the object o below the path, at the place i
abbrev pub written : Code → Labelling → ℕ → ℕ → Object → List PathStep → List (List PathStep) → List Cell → List Slot
written p l i from o base [] cells = []
written p l i from o base (q ∷ qs) cells = slots_at p l o (base ++ q) (mark i 0 q) (value_at from q cells) ++ written p l i from o base qs cells

-- whether a slot stands at the object and the path of one of these
abbrev pub stands_among : Slot → List Slot → Bool
stands_among s [] = false
stands_among s (t ∷ ts) = (same_object s.object t.object && same_path s.path t.path) || stands_among s ts

-- the slots after a write of these, which replaces but at the paths of which an object has many
abbrev pub after_write : List Slot → List Slot → List Slot
after_write new old = new ++ filter (λ s. not (stands_among s new && not (has_many s.path))) old

-- the element leaf q of a slice at the path
abbrev pub element : List PathStep → List PathStep → List PathStep
element base q = base ++ Element ∷ q

-- what a Grow adds to the slice (o, base): one item, at these leaves of an element
abbrev pub added_item : Code → Labelling → ℕ → Object → List PathStep → ℕ → List (List PathStep) → List Cell → List Slot
added_item p l i o base r [] cells = []
added_item p l i o base r (q ∷ qs) cells = slots_at p l o (element base q) (mark i 1 q) (value_at r q cells) ++ added_item p l i o base r qs cells

abbrev pub added : Code → Labelling → ℕ → Object → List PathStep → List ℕ → List (List PathStep) → List Cell → List Slot
added p l i o base [] qs cells = []
added p l i o base (r ∷ rs) qs cells = added_item p l i o base r qs cells ++ added p l i o base rs qs cells

-- an element that a Grow copies is put twice: where it is read, and where it is put
abbrev pub read_again : Labelling → Mark → Content → Content
read_again l n x = content_of (put_atom l n x)

-- the elements of the slice v, copied into the object o
abbrev pub recopied : Code → Labelling → ℕ → Object → Datum → List (List PathStep) → List Slot → List Slot
recopied p l i o v [] slots = []
recopied p l i o v (q ∷ qs) slots = slots_at p l o (element [] q) (mark i 1 q) (map (read_again l (mark i 2 q)) (contents_behind v (Element ∷ q) slots)) ++ recopied p l i o v qs slots
