-- Small facts, which evaluation shows: of sites, of what is about to be entered, and of what a value reaches.
use Rattle.std.proofs.Common.{◌≡◌, ℕ, zero, suc, ◌<◌, Bool, true, false, not, Option, Some, None, [], ◌∷◌, List, refl, ap, ◌∙◌, subst, eq-eqb, eqb-true, leb-true, ltb-true}
use Rattle.std.specs.Prelude.{◌==◌, ◌&&◌, nat_le, nat_lt, slice_get, length}
use Rattle.argot_plain.specs.Lists.{In, here, there}
use Rattle.argot_plain.specs.Code.{Code, IsAt, IsSiteOf, kind_of}
use Rattle.argot_plain.specs.Counts.{is_sink}
use Rattle.argot_plain.specs.Leak.{Leak, Enters, by_call, by_record, labelled}
use Rattle.argot_plain.specs.Machine.{Datum, Scalar, Nil, Ref, Object, Cell, Slot, Deferred, Frame, State, Found}
use Rattle.argot_plain.specs.Nodes.{Mark}
use Rattle.argot_plain.specs.Outside.{by_number, Reached, direct, through, Bears, itself, inside, ArgumentBears, CarriesOn}
use Rattle.argot_plain.specs.Step.{handing}
use Rattle.argot_plain.specs.declared.instructions.Callee.TheVariants.{Static}
use Rattle.argot_plain.specs.declared.instructions.Kind.{Kind}
use Rattle.argot_plain.specs.declared.instructions.Kind.TheVariants.{Call, RunDefers}
use Rattle.argot_plain.specs.declared.problems.Problem.{Problem}
use Rattle.argot_plain.specs.declared.sites.Site.{Site}
use Rattle.argot_text.specs.declared.path.PathStep.{PathStep}
use Rattle.argot_plain_worked_rules.specs.Worked.{EntersClean}

-- the site number n is that of the place
pub own_site : (p : Code) (i n : ℕ) (site : Site) → slice_get p.sites n ≡ Some site → nat_le (length p.globals) n ≡ true → (site.place == i) ≡ true → IsSiteOf p i n site
own_site p i n site is behind at = record { is = is; behind = leb-true (length p.globals) n behind; place = eqb-true site.place i at }

pub below : (k n : ℕ) → nat_lt k n ≡ true → k < n
below k n h = ltb-true k n h

abbrev none_at : ℕ → List Site → Bool
none_at i [] = true
none_at i (site ∷ sites) = not (site.place == i) && none_at i sites

none_there : (i n : ℕ) (sites : List Site) (site : Site) → none_at i sites ≡ true → slice_get sites n ≡ Some site → site.place ≡ i → ⊥
none_there i n [] site h e at = absurd cc
none_there i zero (x ∷ sites) site h e at =
    let a : x ≡ site = cc in
    apart (x.place == i) (none_at i sites) h (eq-eqb x.place i (ap (λ (y : Site). y.place) a ∙ at))
  where
    apart : (a b : Bool) → (not a && b) ≡ true → a ≡ true → ⊥
    apart true b h e = absurd cc
    apart false b h e = absurd cc
none_there i (suc n) (x ∷ sites) site h e at = none_there i n sites site (behind (not (x.place == i)) (none_at i sites) h) e at
  where
    behind : (a b : Bool) → (a && b) ≡ true → b ≡ true
    behind true b h = h
    behind false b h = absurd cc

-- no site is that of the place
pub no_site : (p : Code) (i : ℕ) → none_at i p.sites ≡ true → (n : ℕ) (site : Site) → IsSiteOf p i n site → ⊥
no_site p i h n site s = none_there i n p.sites site h s.is s.place

abbrev pub IsPlain : Datum → Type 0
IsPlain Scalar = Unit
IsPlain Nil = Unit
IsPlain (Ref o path) = ⊥

nothing_reached : (slots : List Slot) (v : Datum) (o : Object) → IsPlain v → Reached slots v o → ⊥
nothing_reached slots v o plain (direct path e) = subst IsPlain e plain
nothing_reached slots v o plain (through {o = between} slot path r i same is) = nothing_reached slots v between plain r

-- what refers to nothing bears its own labels alone
pub own_labels : (slots : List Slot) (c : Cell) (s : Mark) → IsPlain c.atom.value → Bears slots c.atom s → In s c.atom.labels
own_labels slots c s plain (itself i) = i
own_labels slots c s plain (inside o slot r i same has) = absurd (nothing_reached slots c.atom.value o plain r)

pub in_one : {A : Type 0} (x y : A) → In x (y ∷ []) → x ≡ y
in_one x y (here e) = e
in_one x y (there m) = elim m [ ]

in_none : {A : Type 0} (x : A) → In x [] → ⊥
in_none x m = elim m [ ]

bears_of_one : (slots : List Slot) (c : Cell) (k : ℕ) (s : Mark) → IsPlain c.atom.value → ArgumentBears k (c ∷ []) slots s → In s c.atom.labels
bears_of_one slots c k s plain a = own_labels slots c s plain (subst (λ (d : Cell). Bears slots d.atom s) (in_one a.cell c a.held) a.bears)

-- an external that flows carries on the labels of its one argument
pub carries_one : (slots : List Slot) (c : Cell) → IsPlain c.atom.value → c.register ≡ 0 → CarriesOn true 1 (c ∷ []) slots c.atom.labels
carries_one slots c plain at = λ s. (
  λ i. record { argument = 0; within = ltb-true 0 1 refl; bears = record { cell = c; held = here refl; at = at; bears = itself i } },
  λ a. bears_of_one slots c a.argument s plain a.bears,
)

some_is : {A : Type 0} (x y : A) → Some x ≡ Some y → x ≡ y
some_is x y h = cc

abbrev if_some : Bool → ℕ × ℕ → Option (ℕ × ℕ)
if_some true x = Some x
if_some false x = None

-- which label of which cell of the handed values is on an argument of the sink h: its place and the argument
abbrev on_label : ℕ → Cell → Option Mark → Option (ℕ × ℕ)
on_label count c None = None
on_label count c (Some m) = if_some (nat_lt c.register count) (m.place, c.register)

abbrev on_cell : ℕ → ℕ → Option Cell → Option (ℕ × ℕ)
on_cell count n None = None
on_cell count n (Some c) = on_label count c (slice_get c.atom.labels n)

abbrev at_sink : Bool → ℕ → Option (ℕ × ℕ) → Option (ℕ × ℕ × ℕ)
at_sink false t o = None
at_sink true t None = None
at_sink true t (Some x) = Some (x.0, t, x.1)

abbrev at_call : Code → Problem → Frame → ℕ → ℕ → Option Kind → Option (ℕ × ℕ × ℕ)
at_call p pr f c n (Some (Call to (Static h) args)) = at_sink (is_sink p pr f.place h) f.place (on_cell (length args) n (slice_get (handing p (labelled pr) f (length to) (Static h) args) c))
at_call p pr f c n _ = None

abbrev when_calm : Bool → Option (ℕ × ℕ × ℕ) → Option (ℕ × ℕ × ℕ)
when_calm true o = None
when_calm false o = o

abbrev at_frames : Code → Problem → ℕ → ℕ → Option (List Frame) → Option (ℕ × ℕ × ℕ)
at_frames p pr c n None = None
at_frames p pr c n (Some []) = None
at_frames p pr c n (Some (f ∷ rest)) = when_calm f.panics (at_call p pr f c n (kind_of (slice_get p.instrs f.place)))

-- the label number n on the cell number c of what the goroutine g is about to hand to a sink: its source, the sink and the argument
abbrev pub leak_at : Code → Problem → State → ℕ → ℕ → ℕ → Option (ℕ × ℕ × ℕ)
leak_at p pr x g c n = at_frames p pr c n (slice_get x.goroutines g)

record Labelled (count : ℕ) (cells : List Cell) (s k : ℕ) : Type 0 where
  cell : Cell
  among : In cell cells
  at : cell.register ≡ k
  within : k < count
  label : Mark
  place : label.place ≡ s
  has : In label cell.atom.labels

got_in : {A : Type 0} (xs : List A) (k : ℕ) (x : A) → slice_get xs k ≡ Some x → In x xs
got_in [] k x h = absurd cc
got_in (y ∷ xs) zero x h = let e : x ≡ y = cc in here e
got_in (y ∷ xs) (suc k) x h = there (got_in xs k x h)

label_is : (count : ℕ) (cells : List Cell) (c : Cell) (m : Mark) (s k : ℕ) → In c cells → In m c.atom.labels → (b : Bool) → nat_lt c.register count ≡ b
    → if_some b (m.place, c.register) ≡ Some (s, k) → Labelled count cells s k
label_is count cells c m s k i j true e h =
    let z = some_is (m.place, c.register) (s, k) h in
    let a : m.place ≡ s = ap (λ (r : ℕ × ℕ). r.0) z in
    let b : c.register ≡ k = ap (λ (r : ℕ × ℕ). r.1) z in
    record { cell = c; among = i; at = b; within = subst (λ n. n < count) b (ltb-true c.register count e); label = m; place = a; has = j }
label_is count cells c m s k i j false e h = absurd cc

on_label_is : (count : ℕ) (cells : List Cell) (c : Cell) (s k : ℕ) → In c cells → (o : Option Mark) (n : ℕ) → slice_get c.atom.labels n ≡ o → on_label count c o ≡ Some (s, k) → Labelled count cells s k
on_label_is count cells c s k i None n e h = absurd cc
on_label_is count cells c s k i (Some m) n e h = label_is count cells c m s k i (got_in c.atom.labels n m e) (nat_lt c.register count) refl h

on_cell_is : (count : ℕ) (cells : List Cell) (s k c n : ℕ) (o : Option Cell) → slice_get cells c ≡ o → on_cell count n o ≡ Some (s, k) → Labelled count cells s k
on_cell_is count cells s k c n None e h = absurd cc
on_cell_is count cells s k c n (Some x) e h = on_label_is count cells x s k (got_in cells c x e) (slice_get x.atom.labels n) n refl h

at_sink_is : (b : Bool) (t : ℕ) (o : Option (ℕ × ℕ)) (s t' k : ℕ) → at_sink b t o ≡ Some (s, t', k) → (b ≡ true) × (t ≡ t') × (o ≡ Some (s, k))
at_sink_is false t o s t' k h = absurd cc
at_sink_is true t None s t' k h = absurd cc
at_sink_is true t (Some x) s t' k h =
    let z = some_is (x.0, t, x.1) (s, t', k) h in
    (refl, ap (λ (r : ℕ × ℕ × ℕ). r.1) z, ap (λ (r : ℕ × ℕ × ℕ). Some (r.0, r.2)) z)

module _ (p : Code) (pr : Problem) (x : State) (g : ℕ) where
  leaks_from : (t h count : ℕ) (cells : List Cell) → Enters p (labelled pr) x g t h count cells → is_sink p pr t h ≡ true → (s k : ℕ) → Labelled count cells s k → Leak p pr x s t k
  leaks_from t h count cells enters sink s k a = record {
    label = a.label;
    place = a.place;
    reaches = record {
      goroutine = g;
      sink = h;
      count = count;
      cells = cells;
      enters = enters;
      is_one = sink;
      within = a.within;
      bears = record { cell = a.cell; held = a.among; at = a.at; bears = itself a.has };
    };
  }

  by_kind : (f : Frame) (rest : List Frame) (c n : ℕ) → slice_get x.goroutines g ≡ Some (f ∷ rest) → f.panics ≡ false → (o : Option Kind) → kind_of (slice_get p.instrs f.place) ≡ o
      → (s t k : ℕ) → at_call p pr f c n o ≡ Some (s, t, k) → Leak p pr x s t k
  by_kind f rest c n get calm (Some (Call to (Static h) args)) at s t k e =
      let cells = handing p (labelled pr) f (length to) (Static h) args in
      let a = at_sink_is (is_sink p pr f.place h) f.place (on_cell (length args) n (slice_get cells c)) s t k e in
      subst (λ i. Leak p pr x s i k) a.1
      (leaks_from f.place h (length args) cells (by_call f rest to (Static h) args false get calm at by_number) a.0 s k (on_cell_is (length args) cells s k c n (slice_get cells c) refl a.2))
  by_kind f rest c n get calm _ at s t k e = absurd cc

  by_calm : (f : Frame) (rest : List Frame) (c n : ℕ) → slice_get x.goroutines g ≡ Some (f ∷ rest) → (b : Bool) → f.panics ≡ b
      → (s t k : ℕ) → when_calm b (at_call p pr f c n (kind_of (slice_get p.instrs f.place))) ≡ Some (s, t, k) → Leak p pr x s t k
  by_calm f rest c n get true calm s t k e = absurd cc
  by_calm f rest c n get false calm s t k e = by_kind f rest c n get calm (kind_of (slice_get p.instrs f.place)) refl s t k e

  by_frames : (c n : ℕ) → (o : Option (List Frame)) → slice_get x.goroutines g ≡ o → (s t k : ℕ) → at_frames p pr c n o ≡ Some (s, t, k) → Leak p pr x s t k
  by_frames c n None get s t k e = absurd cc
  by_frames c n (Some []) get s t k e = absurd cc
  by_frames c n (Some (f ∷ rest)) get s t k e = by_calm f rest c n get f.panics refl s t k e

  -- it is a leak
  pub leaks : (c n s t k : ℕ) → leak_at p pr x g c n ≡ Some (s, t, k) → Leak p pr x s t k
  leaks c n s t k e = by_frames c n (slice_get x.goroutines g) refl s t k e

  -- a leak at an exit
  pub leaks_by_record : (f : Frame) (rest : List Frame) (d : Deferred) (ds : List Deferred) (h : ℕ) → slice_get x.goroutines g ≡ Some (f ∷ rest) → IsAt p f.place RunDefers → f.records ≡ d ∷ ds → d.target ≡ Found h false
      → is_sink p pr d.place h ≡ true → (c n s k : ℕ) → on_cell d.count n (slice_get d.cells c) ≡ Some (s, k) → Leak p pr x s d.place k
  leaks_by_record f rest d ds h get is records target sink c n s k e =
      leaks_from d.place h d.count d.cells (by_record f rest d ds false get is records target) sink s k (on_cell_is d.count d.cells s k c n (slice_get d.cells c) refl e)

module _ (p : Code) (pr : Problem) (x : State) (g : ℕ) (f : Frame) (rest : List Frame) where
  -- a leak at a Call by number, by what the label is on
  pub leaks_by_call : (to : List ℕ) (h : ℕ) (args : List ℕ) → slice_get x.goroutines g ≡ Some (f ∷ rest) → f.panics ≡ false → IsAt p f.place (Call to (Static h) args)
      → is_sink p pr f.place h ≡ true → (k : ℕ) → nat_lt k (length args) ≡ true
      → (c : Cell) → In c (handing p (labelled pr) f (length to) (Static h) args) → c.register ≡ k → (m : Mark) → Bears x.slots c.atom m → Leak p pr x m.place f.place k
  leaks_by_call to h args get calm is sink k within c held at m bears = record {
    label = m;
    place = refl;
    reaches = record {
      goroutine = g;
      sink = h;
      count = length args;
      cells = handing p (labelled pr) f (length to) (Static h) args;
      enters = by_call f rest to (Static h) args false get calm is by_number;
      is_one = sink;
      within = ltb-true k (length args) within;
      bears = record { cell = c; held = held; at = at; bears = bears };
    };
  }

  -- a Call by number whose one argument bears no label
  pub clean_by_call : (to : List ℕ) (h : ℕ) (args : List ℕ) → slice_get x.goroutines g ≡ Some (f ∷ rest) → f.panics ≡ false → IsAt p f.place (Call to (Static h) args)
      → is_sink p pr f.place h ≡ true → (k : ℕ) → nat_lt k (length args) ≡ true
      → (c : Cell) → handing p (labelled pr) f (length to) (Static h) args ≡ c ∷ [] → ((s : Mark) → Bears x.slots c.atom s → ⊥) → EntersClean p pr x f.place k
  clean_by_call to h args get calm is sink k within c one clean = record {
    goroutine = g;
    sink = h;
    count = length args;
    cells = handing p (labelled pr) f (length to) (Static h) args;
    enters = by_call f rest to (Static h) args false get calm is by_number;
    is_one = sink;
    within = ltb-true k (length args) within;
    clean = λ s a. clean s (subst (λ (d : Cell). Bears x.slots d.atom s) (in_one a.cell c (subst (In a.cell) one a.held)) a.bears);
  }

-- what refers to nothing and has no labels bears none
pub bears_none : (slots : List Slot) (c : Cell) → IsPlain c.atom.value → c.atom.labels ≡ [] → (s : Mark) → Bears slots c.atom s → ⊥
bears_none slots c plain none s b = in_none s (subst (In s) none (own_labels slots c s plain b))

only_object : (slots : List Slot) (o : Object) (path : List PathStep) → ((slot : Slot) → In slot slots → slot.object ≡ o → ⊥) → (other : Object) → Reached slots (Ref o path) other → other ≡ o
only_object slots o path empty other (direct rest e) = cc
only_object slots o path empty other (through {o = between} slot rest r i same is) = absurd (empty slot i (same ∙ only_object slots o path empty between r))

-- and so does a reference without labels to an object that holds nothing
pub bears_none_inside : (slots : List Slot) (c : Cell) (o : Object) (path : List PathStep) → c.atom.value ≡ Ref o path → c.atom.labels ≡ []
    → ((slot : Slot) → In slot slots → slot.object ≡ o → ⊥) → (s : Mark) → Bears slots c.atom s → ⊥
bears_none_inside slots c o path is none empty s (itself i) = in_none s (subst (In s) none i)
bears_none_inside slots c o path is none empty s (inside other slot r i same has) =
    empty slot i (same ∙ only_object slots o path empty other (subst (λ v. Reached slots v other) is r))

-- a Call by number whose one handed value refers to nothing and has no labels: its place and the argument
abbrev pub is_plain : Datum → Bool
is_plain Scalar = true
is_plain Nil = true
is_plain (Ref o path) = false

abbrev no_labels : List Mark → Bool
no_labels [] = true
no_labels (m ∷ ms) = false

abbrev clean_cell : ℕ → ℕ → List Cell → Option (ℕ × ℕ)
clean_cell t count (c ∷ []) = if_some (is_plain c.atom.value && (no_labels c.atom.labels && nat_lt c.register count)) (t, c.register)
clean_cell t count _ = None

abbrev clean_sink : Bool → Option (ℕ × ℕ) → Option (ℕ × ℕ)
clean_sink false o = None
clean_sink true o = o

abbrev clean_call : Code → Problem → Frame → Option Kind → Option (ℕ × ℕ)
clean_call p pr f (Some (Call to (Static h) args)) = clean_sink (is_sink p pr f.place h) (clean_cell f.place (length args) (handing p (labelled pr) f (length to) (Static h) args))
clean_call p pr f _ = None

abbrev clean_frame : Bool → Option (ℕ × ℕ) → Option (ℕ × ℕ)
clean_frame true o = None
clean_frame false o = o

abbrev clean_frames : Code → Problem → Option (List Frame) → Option (ℕ × ℕ)
clean_frames p pr None = None
clean_frames p pr (Some []) = None
clean_frames p pr (Some (f ∷ rest)) = clean_frame f.panics (clean_call p pr f (kind_of (slice_get p.instrs f.place)))

abbrev pub clean_at : Code → Problem → State → ℕ → Option (ℕ × ℕ)
clean_at p pr x g = clean_frames p pr (slice_get x.goroutines g)

plain_is : (v : Datum) → is_plain v ≡ true → IsPlain v
plain_is Scalar h = tt
plain_is Nil h = tt
plain_is (Ref o path) h = absurd cc

none_is : (ms : List Mark) → no_labels ms ≡ true → ms ≡ []
none_is [] h = refl
none_is (m ∷ ms) h = absurd cc

record CleanCell (t count : ℕ) (cells : List Cell) (at k : ℕ) : Type 0 where
  cell : Cell
  one : cells ≡ cell ∷ []
  plain : IsPlain cell.atom.value
  none : cell.atom.labels ≡ []
  within : k < count
  same : t ≡ at

clean_cell_is : (t count : ℕ) (cells : List Cell) (at k : ℕ) → clean_cell t count cells ≡ Some (at, k) → CleanCell t count cells at k
clean_cell_is t count [] at k h = absurd cc
clean_cell_is t count (c ∷ (d ∷ cells)) at k h = absurd cc
clean_cell_is t count (c ∷ []) at k h = case (is_plain c.atom.value) (no_labels c.atom.labels) (nat_lt c.register count) refl refl refl h
  where
    case : (a b d : Bool) → is_plain c.atom.value ≡ a → no_labels c.atom.labels ≡ b → nat_lt c.register count ≡ d → if_some (a && (b && d)) (t, c.register) ≡ Some (at, k) → CleanCell t count (c ∷ []) at k
    case true true true ea eb ed e =
        let z = some_is (t, c.register) (at, k) e in
        let x : t ≡ at = ap (λ (r : ℕ × ℕ). r.0) z in
        let y : c.register ≡ k = ap (λ (r : ℕ × ℕ). r.1) z in
        record { cell = c; one = refl; plain = plain_is c.atom.value ea; none = none_is c.atom.labels eb; within = subst (λ n. n < count) y (ltb-true c.register count ed); same = x }
    case false b d ea eb ed e = absurd cc
    case true false d ea eb ed e = absurd cc
    case true true false ea eb ed e = absurd cc

clean_sink_is : (b : Bool) (o : Option (ℕ × ℕ)) (x : ℕ × ℕ) → clean_sink b o ≡ Some x → (b ≡ true) × (o ≡ Some x)
clean_sink_is false o x h = absurd cc
clean_sink_is true o x h = (refl, h)

module _ (p : Code) (pr : Problem) (x : State) (g : ℕ) where
  cleans_from : (f : Frame) (rest : List Frame) → slice_get x.goroutines g ≡ Some (f ∷ rest) → f.panics ≡ false → (o : Option Kind) → kind_of (slice_get p.instrs f.place) ≡ o
      → (t k : ℕ) → clean_call p pr f o ≡ Some (t, k) → EntersClean p pr x t k
  cleans_from f rest get calm (Some (Call to (Static h) args)) at t k e =
      let cells = handing p (labelled pr) f (length to) (Static h) args in
      let a = clean_sink_is (is_sink p pr f.place h) (clean_cell f.place (length args) cells) (t, k) e in
      let b = clean_cell_is f.place (length args) cells t k a.1 in
      subst (λ i. EntersClean p pr x i k) b.same (record {
        goroutine = g;
        sink = h;
        count = length args;
        cells = cells;
        enters = by_call f rest to (Static h) args false get calm at by_number;
        is_one = a.0;
        within = b.within;
        clean = λ s y. bears_none x.slots b.cell b.plain b.none s (subst (λ (d : Cell). Bears x.slots d.atom s) (in_one y.cell b.cell (subst (In y.cell) b.one y.held)) y.bears);
      })
  cleans_from f rest get calm _ at t k e = absurd cc

  cleans_calm : (f : Frame) (rest : List Frame) → slice_get x.goroutines g ≡ Some (f ∷ rest) → (b : Bool) → f.panics ≡ b → (t k : ℕ) → clean_frame b (clean_call p pr f (kind_of (slice_get p.instrs f.place))) ≡ Some (t, k) → EntersClean p pr x t k
  cleans_calm f rest get true calm t k e = absurd cc
  cleans_calm f rest get false calm t k e = cleans_from f rest get calm (kind_of (slice_get p.instrs f.place)) refl t k e

  cleans_frames : (o : Option (List Frame)) → slice_get x.goroutines g ≡ o → (t k : ℕ) → clean_frames p pr o ≡ Some (t, k) → EntersClean p pr x t k
  cleans_frames None get t k e = absurd cc
  cleans_frames (Some []) get t k e = absurd cc
  cleans_frames (Some (f ∷ rest)) get t k e = cleans_calm f rest get f.panics refl t k e

  -- it is entered with no label
  pub cleanly : (t k : ℕ) → clean_at p pr x g ≡ Some (t, k) → EntersClean p pr x t k
  cleanly t k e = cleans_frames (slice_get x.goroutines g) refl t k e
