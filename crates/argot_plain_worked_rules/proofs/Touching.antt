-- Which object a goroutine touches, and which label an object bears, by evaluation.
use Rattle.std.proofs.Common.{◌≡◌, ℕ, Bool, true, false, List, [], ◌∷◌, ◌++◌, Option, Some, None, refl, sym, ap, subst}
use Rattle.std.specs.Prelude.{slice_get}
use Rattle.argot_plain.specs.Lists.{In}
use Rattle.argot_plain.specs.Code.{Code, kind_of, leaves}
use Rattle.argot_plain.specs.Leak.{Touches, by_read, by_write, labelled}
use Rattle.argot_plain.specs.Machine.{Labelling, Datum, Scalar, Nil, Ref, Content, Object, Slot, Frame, State, value_at, is_leaf_of}
use Rattle.argot_plain.specs.Nodes.{Mark}
use Rattle.argot_plain.specs.WellFormed.{WellFormed}
use Rattle.argot_plain.specs.declared.instructions.Kind.{Kind}
use Rattle.argot_plain.specs.declared.instructions.Kind.TheVariants.{Read, Write}
use Rattle.argot_plain.specs.declared.problems.Problem.{Problem}
use Rattle.argot_text.specs.declared.path.PathStep.{PathStep}
use Rattle.argot_facts.specs.Escapes.{Escapes}
use Rattle.argot_sound.proofs.Conclusion.{label_escapes}
use Rattle.argot_plain_worked_rules.specs.Worked.{IsReached, HasEscape}
use Rattle.argot_plain_worked_rules.proofs.Possible.{in_got}

-- what is about to be read or written, by its first leaf

abbrev if_leaf : Bool → Object → Option Object
if_leaf true o = Some o
if_leaf false o = None

abbrev behind : Code → Datum → Option (List PathStep) → Option Object
behind p (Ref o base) (Some q) = if_leaf (is_leaf_of p o.site (base ++ q)) o
behind p _ _ = None

abbrev behind_first : Code → Option Content → Option (List PathStep) → Option Object
behind_first p None q = None
behind_first p (Some x) q = behind p x.value q

abbrev by_kind : Code → Frame → Option Kind → Option Object
by_kind p f (Some (Read to at qs)) = behind_first p (slice_get (value_at at [] f.cells) 0) (slice_get qs 0)
by_kind p f (Some (Write at from)) = behind_first p (slice_get (value_at at [] f.cells) 0) (slice_get (leaves p f.function from) 0)
by_kind p f _ = None

abbrev if_calm : Bool → Option Object → Option Object
if_calm true o = None
if_calm false o = o

abbrev by_frames : Code → Option (List Frame) → Option Object
by_frames p None = None
by_frames p (Some []) = None
by_frames p (Some (f ∷ rest)) = if_calm f.panics (by_kind p f (kind_of (slice_get p.instrs f.place)))

-- the object that the goroutine is about to read or write
abbrev pub touched_by : Code → State → ℕ → Option Object
touched_by p x g = by_frames p (slice_get x.goroutines g)

record Behind (p : Code) (xs : List Content) (qs : List (List PathStep)) (o : Object) : Type 0 where
  content : Content
  base : List PathStep
  leaf : List PathStep
  among : In content xs
  is : content.value ≡ Ref o base
  one : In leaf qs
  there : is_leaf_of p o.site (base ++ leaf) ≡ true

behind_is : (p : Code) (xs : List Content) (qs : List (List PathStep)) (x : Content) (q : List PathStep) (v : Datum) (o : Object) → In x xs → In q qs → x.value ≡ v → behind p v (Some q) ≡ Some o → Behind p xs qs o
behind_is p xs qs x q Scalar o i j e h = absurd cc
behind_is p xs qs x q Nil o i j e h = absurd cc
behind_is p xs qs x q (Ref other base) o i j e h = case (is_leaf_of p other.site (base ++ q)) refl h
  where
    case : (b : Bool) → is_leaf_of p other.site (base ++ q) ≡ b → if_leaf b other ≡ Some o → Behind p xs qs o
    case true f g =
        let same : other ≡ o = cc in
        subst (Behind p xs qs) same (record { content = x; base = base; leaf = q; among = i; is = e; one = j; there = f })
    case false f g = absurd cc

leaf_is : (p : Code) (xs : List Content) (qs : List (List PathStep)) (x : Content) (o : Object) → In x xs → (q : Option (List PathStep)) → slice_get qs 0 ≡ q → behind p x.value q ≡ Some o → Behind p xs qs o
leaf_is p xs qs x o i None e h = none x.value h
  where
    none : (v : Datum) → behind p v None ≡ Some o → Behind p xs qs o
    none Scalar k = absurd cc
    none Nil k = absurd cc
    none (Ref other base) k = absurd cc
leaf_is p xs qs x o i (Some q) e h = behind_is p xs qs x q x.value o i (in_got qs 0 q e) refl h

first_is : (p : Code) (xs : List Content) (qs : List (List PathStep)) (o : Object) → (x : Option Content) → slice_get xs 0 ≡ x → behind_first p x (slice_get qs 0) ≡ Some o → Behind p xs qs o
first_is p xs qs o None e h = absurd cc
first_is p xs qs o (Some x) e h = leaf_is p xs qs x o (in_got xs 0 x e) (slice_get qs 0) refl h

module _ (p : Code) (l : Labelling) (x : State) (g : ℕ) where
  of_kind : (f : Frame) (rest : List Frame) → slice_get x.goroutines g ≡ Some (f ∷ rest) → f.panics ≡ false → (o : Object) (kind : Option Kind) → kind_of (slice_get p.instrs f.place) ≡ kind → by_kind p f kind ≡ Some o → Touches p l x g o
  of_kind f rest get calm o (Some (Read to at qs)) is h =
      let b = first_is p (value_at at [] f.cells) qs o (slice_get (value_at at [] f.cells) 0) refl h in
      by_read f rest to at qs b.leaf b.base b.content get calm is b.among b.is b.one b.there
  of_kind f rest get calm o (Some (Write at from)) is h =
      let b = first_is p (value_at at [] f.cells) (leaves p f.function from) o (slice_get (value_at at [] f.cells) 0) refl h in
      by_write f rest at from b.leaf b.base b.content get calm is b.among b.is b.one b.there
  of_kind f rest get calm o _ is h = absurd cc

  of_calm : (f : Frame) (rest : List Frame) → slice_get x.goroutines g ≡ Some (f ∷ rest) → (o : Object) (b : Bool) → f.panics ≡ b → if_calm b (by_kind p f (kind_of (slice_get p.instrs f.place))) ≡ Some o → Touches p l x g o
  of_calm f rest get o true calm h = absurd cc
  of_calm f rest get o false calm h = of_kind f rest get calm o (kind_of (slice_get p.instrs f.place)) refl h

  of_frames : (o : Object) (frames : Option (List Frame)) → slice_get x.goroutines g ≡ frames → by_frames p frames ≡ Some o → Touches p l x g o
  of_frames o None get h = absurd cc
  of_frames o (Some []) get h = absurd cc
  of_frames o (Some (f ∷ rest)) get h = of_calm f rest get o f.panics refl h

  pub touches : (o : Object) → touched_by p x g ≡ Some o → Touches p l x g o
  touches o h = of_frames o (slice_get x.goroutines g) refl h

-- the site of an object's slot, and the place of a label that the slot bears

abbrev of_label : ℕ → Option Mark → Option (ℕ × ℕ)
of_label site None = None
of_label site (Some m) = Some (site, m.place)

abbrev of_slot : ℕ → Option Slot → Option (ℕ × ℕ)
of_slot k None = None
of_slot k (Some slot) = of_label slot.object.site (slice_get slot.atom.labels k)

-- of the slot number n, and its label number k
abbrev pub label_at : State → ℕ → ℕ → Option (ℕ × ℕ)
label_at x n k = of_slot k (slice_get x.slots n)

module _ (p : Code) (pr : Problem) (wf : WellFormed p) (x : State) (r : IsReached p (labelled pr) x) (site place : ℕ) (escapes : Escapes p site) where
  by_label : (slot : Slot) → In slot x.slots → (k : ℕ) (o : Option Mark) → slice_get slot.atom.labels k ≡ o → of_label slot.object.site o ≡ Some (site, place) → HasEscape p pr place site
  by_label slot i k None e h = absurd cc
  by_label slot i k (Some m) e h =
      let z : (slot.object.site, m.place) ≡ (site, place) = cc in
      let a : slot.object.site ≡ site = ap (λ (y : ℕ × ℕ). y.0) z in
      let b : m.place ≡ place = ap (λ (y : ℕ × ℕ). y.1) z in
      subst (λ q. HasEscape p pr q site) b (subst (HasEscape p pr m.place) a (label_escapes p pr wf r.run slot i (subst (Escapes p) (sym a) escapes) m (in_got slot.atom.labels k m e)))

  by_slot : (n k : ℕ) (o : Option Slot) → slice_get x.slots n ≡ o → of_slot k o ≡ Some (site, place) → HasEscape p pr place site
  by_slot n k None e h = absurd cc
  by_slot n k (Some slot) e h = by_label slot (in_got x.slots n slot e) k (slice_get slot.atom.labels k) refl h

  -- where an object of an escaping site bears a label, it is an escape
  pub escapes_with : (n k : ℕ) → label_at x n k ≡ Some (site, place) → HasEscape p pr place site
  escapes_with n k h = by_slot n k (slice_get x.slots n) refl h
