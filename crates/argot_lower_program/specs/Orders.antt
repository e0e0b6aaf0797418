-- Which functions a program has, and in which order.
use Rattle.std.specs.Prelude.{◌≡◌, ℕ, ◌<◌, true, List, ◌∷◌, ◌++◌, Some, None, slice_get}
use Rattle.argot_names_rules.specs.Lists.{In, IsListOf}
use Rattle.argot_lower_scripts.specs.Script.{Note, Boxed, BoundMethod, Called}
use Rattle.argot_lower_locals.specs.Typed.{Typed, MethodSet, Selected}
use Rattle.argot_lower_locals.specs.Nodes.{kind, node_count}
use Rattle.argot_lower_locals.specs.Functions.{is_declaration, is_literal, is_initialiser, body}
use Rattle.argot_lower_locals.specs.Globals.{is_text_before}
use Rattle.argot_lower_program.specs.TypeTexts.{type_text}
use Rattle.argot_lower_program.specs.Functions.{Origin, OfEntry, OfText, OfBuiltIn, WrapperOf, BoundTo, External, Unwritten, anchor, anchor_of, is_anchor_before, is_reached, package_of, is_started_built_in, printed_name}
use Rattle.argot_lower_locals.specs.Names.{optional_path}

-- a function whose text stands in a package that is reached
pub data IsOwn (t : Typed) : Origin → Type 0 where
  declared : {n m : ℕ} → n < node_count t → is_declaration (kind t n) ≡ true → is_reached t n ≡ true → body t n ≡ Some m → IsOwn t (OfText n)
  literal : {n : ℕ} → n < node_count t → is_literal (kind t n) ≡ true → is_reached t n ≡ true → IsOwn t (OfText n)
  initialiser : {n : ℕ} → n < node_count t → is_initialiser t n ≡ true → is_reached t n ≡ true → IsOwn t (OfText n)
  built_in : {n : ℕ} → n < node_count t → is_started_built_in t n ≡ true → is_reached t n ≡ true → IsOwn t (OfBuiltIn n)

-- a type that is put into a box, and what selects a method of its method set
pub data IsWrapper (t : Typed) (notes : List Note) : Origin → Type 0 where
  wrapper : {x : ℕ} {s : Selected} {set : MethodSet} → In (Boxed x) notes → In set t.method_sets → set.of ≡ x → In s set.methods → IsWrapper t notes (WrapperOf x s)

-- a method value
pub data IsBound (notes : List Note) : Origin → Type 0 where
  bound : {n : ℕ} → In (BoundMethod n) notes → IsBound notes (BoundTo n)

-- a function without a body, called or not; one that no text declares, where it is called
pub data IsExternal (t : Typed) (notes : List Note) : Origin → Type 0 where
  declared : {n : ℕ} → n < node_count t → is_declaration (kind t n) ≡ true → is_reached t n ≡ true → body t n ≡ None → IsExternal t notes (External n)
  unwritten : {n : ℕ} → In (Called n) notes → IsExternal t notes (Unwritten n)

-- by where they stand
abbrev pub StandsBefore : Typed → Origin → Origin → Type 0
StandsBefore t a b = is_anchor_before (anchor_of t (anchor t a)) (anchor_of t (anchor t b)) ≡ true

abbrev pub path_of : Typed → Origin → List ℕ
path_of t o = optional_path t (package_of t (anchor t o))

-- by the bytes of the package's path, by its number, by where they stand
pub data OwnBefore (t : Typed) (a b : Origin) : Type 0 where
  by_path : is_text_before (path_of t a) (path_of t b) ≡ true → OwnBefore t a b
  by_package : {p q : ℕ} → path_of t a ≡ path_of t b → package_of t (anchor t a) ≡ Some p → package_of t (anchor t b) ≡ Some q → p < q → OwnBefore t a b
  by_place : package_of t (anchor t a) ≡ package_of t (anchor t b) → StandsBefore t a b → OwnBefore t a b

-- the type is put into a box first at this number of the notes
pub record IsFirstBox (notes : List Note) (x k : ℕ) : Type 0 where
  pub is : slice_get notes k ≡ Some (Boxed x)
  pub first : (j : ℕ) → slice_get notes j ≡ Some (Boxed x) → (j < k) → ⊥

abbrev pub boxed_type : Origin → ℕ
boxed_type (WrapperOf x s) = x
boxed_type _ = 0

-- by where the method stands, by the bytes of the type's text, by which type is put into a box first
pub data WrapperBefore (t : Typed) (notes : List Note) (a b : Origin) : Type 0 where
  by_place : StandsBefore t a b → WrapperBefore t notes a b
  by_text : anchor t a ≡ anchor t b → is_text_before (type_text t (boxed_type a)) (type_text t (boxed_type b)) ≡ true → WrapperBefore t notes a b
  by_box : {j k : ℕ} → anchor t a ≡ anchor t b → type_text t (boxed_type a) ≡ type_text t (boxed_type b) → IsFirstBox notes (boxed_type a) j → IsFirstBox notes (boxed_type b) k → j < k → WrapperBefore t notes a b

-- by the bytes of the printed name, by where they stand
pub data ExternalBefore (t : Typed) (a b : Origin) : Type 0 where
  by_name : is_text_before (printed_name t a) (printed_name t b) ≡ true → ExternalBefore t a b
  by_place : printed_name t a ≡ printed_name t b → StandsBefore t a b → ExternalBefore t a b

-- the entry, the functions of the text, wrappers, the functions of method values, externals
pub record IsOrder (t : Typed) (notes : List Note) (order : List Origin) : Type 0 where
  pub own : List Origin
  pub wrappers : List Origin
  pub bounds : List Origin
  pub externals : List Origin
  pub is : order ≡ OfEntry ∷ (own ++ wrappers ++ bounds ++ externals)
  pub own_are : IsListOf (OwnBefore t) (IsOwn t) own
  pub wrappers_are : IsListOf (WrapperBefore t notes) (IsWrapper t notes) wrappers
  pub bounds_are : IsListOf (StandsBefore t) (IsBound notes) bounds
  pub externals_are : IsListOf (ExternalBefore t) (IsExternal t notes) externals
