-- What an instruction that stays in its frame puts into registers: the column "In a run".
use Rattle.std.specs.Prelude.{◌≡◌, ◌||◌, not, ℕ, List, [], ◌∷◌, ◌++◌, Some, slice_get, map, if◌then◌else◌, Bool, true, false}
use Rattle.argot_plain.specs.Lists.{In, member, has_element}
use Rattle.argot_plain.specs.Code.{Code, leaves}
use Rattle.argot_plain.specs.Counts.{is_source_place}
use Rattle.argot_plain.specs.Machine.{Labelling, Datum, Scalar, Ref, Content, content, zero_content, Cell, Slot, Change, same_labels, put_cell, contents_at, or_zero, value_at, labels_of, copied, joined, stepped, contents_behind, with_labels, asserted}
use Rattle.argot_plain.specs.declared.functions.Ident.{Ident}
use Rattle.argot_plain.specs.declared.instructions.Kind.{Kind}
use Rattle.argot_plain.specs.declared.instructions.Kind.TheVariants.{Op, Move, Join, New, Step, Read, Global, Assert, Goto, Branch, Passed}
use Rattle.argot_text.specs.declared.position.Pos.{Pos}
use Rattle.argot_text.specs.declared.path.PathStep.{PathStep}

-- at each of these leaves of the register to, something that P allows there, put as result k of the place i
pub data Fills (l : Labelling) (f : Change) (to i k : ℕ) (P : List PathStep → List Content → Type 0) : List (List PathStep) → List Cell → Type 0 where
  no_leaf : Fills l f to i k P [] []
  one_leaf : {qs : List (List PathStep)} {cells : List Cell} → (q : List PathStep) → (xs : List Content) → P q xs → Fills l f to i k P qs cells
      → Fills l f to i k P (q ∷ qs) (map (put_cell l f to i k q) xs ++ cells)

-- all of the first list, or any one of the second
pub data Picks (many : Bool) (all one : List Content) : List Content → Type 0 where
  pick_all : many ≡ true → Picks many all one all
  pick_one : {x : Content} → many ≡ false → In x one → Picks many all one (x ∷ [])

-- a Read or Move that is a source labels what it puts by its mark
abbrev pub place_labels : Labelling → Change
place_labels l n ls = if is_source_place l.problem n.place then n ∷ ls else ls

-- behind its test by a validator a value has no labels
abbrev pub passed_labels : Labelling → ℕ → Change
passed_labels l h n ls = if member h l.problem.validators then [] else ls

-- what a Move may put at q: what stands below its path; where the path leads to elements and q doesn't, any one of these or zero
abbrev pub MayMove : ℕ → List PathStep → List Cell → List PathStep → List Content → Type 0
MayMove from path cells q xs =
    Picks (not (has_element path) || has_element q) (value_at from (path ++ q) cells) (zero_content ∷ contents_at from (path ++ q) cells) xs

-- what a Read may find at q behind the reference x: zero, or what stands there, with the labels of the reference
abbrev pub readable : Content → List PathStep → List Slot → List Content
readable x q slots = map (with_labels x.labels) (zero_content ∷ contents_behind x.value q slots)

-- where q leads to elements all of it, else any one
abbrev pub MayRead : Content → List Slot → List PathStep → List Content → Type 0
MayRead x slots q xs = Picks (has_element q) (readable x q slots) (readable x q slots) xs

-- the object of a package variable
abbrev pub variable : ℕ → Datum
variable s = Ref (record { site = s; maker = 0; serial = 0 }) []

abbrev pub fresh_object : ℕ → ℕ → ℕ → Datum
fresh_object s g n = Ref (record { site = s; maker = g; serial = n }) []

-- the goroutine g runs an instruction of this kind at the place i of the function h, where these slots and cells stand
abbrev pub Gives : Code → Labelling → Kind → ℕ → ℕ → ℕ → List Slot → ℕ → List Cell → List Cell → Type 0
Gives p l (Op to from) g h i slots fresh cells given = given ≡ put_cell l same_labels to i 0 [] (content Scalar (labels_of from cells)) ∷ []
Gives p l (Move to from path) g h i slots fresh cells given = Fills l (place_labels l) to i 0 (MayMove from path cells) (leaves p h to) given
Gives p l (Join to parts) g h i slots fresh cells given = Fills l same_labels to i 0 (λ q xs. xs ≡ or_zero (joined parts q cells)) (leaves p h to) given
Gives p l (New to site) g h i slots fresh cells given = given ≡ put_cell l same_labels to i 0 [] (content (fresh_object site g fresh) []) ∷ []
Gives p l (Step to from path) g h i slots fresh cells given =
    (x : Content) × In x (value_at from [] cells) × (given ≡ put_cell l same_labels to i 0 [] (content (stepped p path x.value) x.labels) ∷ [])
Gives p l (Read to at qs) g h i slots fresh cells given =
    (x : Content) × In x (value_at at [] cells) × Fills l (place_labels l) to i 0 (MayRead x slots) qs given
Gives p l (Global to global) g h i slots fresh cells given =
    (ident : Ident) × (at : Pos) × (s : ℕ) × (slice_get p.globals global ≡ Some (ident, at, s)) × (given ≡ put_cell l same_labels to i 0 [] (content (variable s) []) ∷ [])
Gives p l (Assert to from target) g h i slots fresh cells given =
    (x : Content) × In x (value_at from [] cells) × (given ≡ put_cell l same_labels to i 0 [] (content (asserted p target x.value) x.labels) ∷ [])
Gives p l (Passed to callee) g h i slots fresh cells given = given ≡ copied l (passed_labels l callee) to to i 0 (leaves p h to) cells
Gives p l (Goto target) g h i slots fresh cells given = given ≡ []
Gives p l (Branch targets) g h i slots fresh cells given = given ≡ []
Gives p l _ g h i slots fresh cells given = ⊥
