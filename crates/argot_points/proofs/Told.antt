-- What rules of each kind say is so, where the instruction says it.
use Rattle.std.proofs.Common.{◌≡◌, ℕ, true, List, [], ◌++◌, Some, refl, sym, ◌∙◌, subst}
use Rattle.std.specs.Prelude.{slice_get}
use Rattle.argot_plain.specs.Lists.{In}
use Rattle.argot_plain.specs.Code.{Code, IsAt, IsIn}
use Rattle.argot_plain.specs.Machine.{is_path_of, is_of_type}
use Rattle.argot_plain.specs.Nodes.{Mark, mark, HasLeaf}
use Rattle.argot_plain.specs.WellFormed.{WellFormed}
use Rattle.argot_plain.specs.declared.instructions.Kind.{Kind}
use Rattle.argot_plain.specs.declared.instructions.Kind.TheVariants.{Step, Assert}
use Rattle.argot_text.specs.declared.path.PathStep.{PathStep}
use Rattle.argot_facts.specs.Copies.{Copies}
use Rattle.argot_facts.specs.Exact.{place_of}
use Rattle.argot_facts.specs.Graphs.{IsMarked}
use Rattle.argot_facts.specs.Numbers.{node, location, locations_of}
use Rattle.argot_facts.specs.Reaching.{DefinedAt}
use Rattle.argot_facts.specs.Refers.{Location, loc, Holds, IsLive, NodeRefers, PlaceRefers, copy, step, assert}
use Rattle.argot_facts.specs.declared.nodes.Node.{Node}
use Rattle.argot_facts.specs.declared.pointing.Loc.{Loc}
use Rattle.argot_facts.proofs.Located.{locations_are}
use Rattle.argot_facts.proofs.Marked.{one_mark}
use Rattle.argot_points_rules.specs.declared.rules.Rule.TheVariants.{Put, Copy, Shift, Keep, Load, Store}
use Rattle.argot_points.specs.declared.system.System.{System}
use Rattle.argot_points.specs.Meaning.{IsRow, IsColumn, NodeTo, IsMoved, IsKept, RuleHolds}
use Rattle.argot_points.proofs.Columns.{in_of_get}

pub marked : (p : Code) (i k a : ℕ) (q : List PathStep) → HasLeaf p i k a q → IsMarked p (node i k a) (mark i k q)
marked p i k a q h = record { place = refl; index = refl; has = h }

pub same_item : {X : Type 0} (xs : List X) (n : ℕ) (a b : X) → slice_get xs n ≡ Some a → slice_get xs n ≡ Some b → a ≡ b
same_item xs n a b h k = let e : Some a ≡ Some b = sym h ∙ k in cc

module _ (s : System) (wf : WellFormed s.program.now) (all : s.locations.items ≡ locations_of s.program.now) where
  -- what the node with this mark refers to
  pub refers_of : (n y : ℕ) (a : Node) (m : Mark) → IsRow s n a → IsMarked s.program.now a m → NodeTo s n y → (l : Loc) × IsColumn s y l × Holds s.program.now (NodeRefers m (place_of l))
  refers_of n y a m is mk to =
      let e = same_item s.nodes.items n to.node a to.is is in
      let f : to.mark ≡ m = one_mark s.program.now wf a to.mark m (subst (λ x. IsMarked s.program.now x to.mark) e to.marked) mk in
      (to.to, to.at, subst (λ x. Holds s.program.now (NodeRefers x (place_of to.to))) f to.holds)

  pub to_node : (n y : ℕ) (a : Node) (m : Mark) (l : Loc) → IsRow s n a → IsMarked s.program.now a m → IsColumn s y l → Holds s.program.now (NodeRefers m (place_of l)) → NodeTo s n y
  to_node n y a m l is mk at h = record { node = a; is = is; mark = m; marked = mk; to = l; at = at; holds = h }

  path_of_column : (z : ℕ) (l : Loc) → IsColumn s z l → is_path_of s.program.now l.site l.path ≡ true
  path_of_column z l at = (((locations_are s.program.now).each l).0 (subst (λ ls. In l ls) all (in_of_get s.locations.items z l at))).path

  -- where the column z stands behind the location that y is
  moved_there : (y z : ℕ) (path : List PathStep) (l : Loc) → IsColumn s y l → IsMoved s y path z → IsColumn s z (location l.site (l.path ++ path))
  moved_there y z path l at m =
      let e = same_item s.locations.items y m.from l m.is at in
      subst (λ (x : Loc). IsColumn s z (location x.site (x.path ++ path))) e m.at

  kept_there : (y target : ℕ) (l : Loc) → IsColumn s y l → IsKept s y target → is_of_type s.program.now target (slice_get s.program.now.sites l.site) ≡ true
  kept_there y target l at k =
      let e = same_item s.locations.items y k.loc l k.is at in
      subst (λ (x : Loc). is_of_type s.program.now target (slice_get s.program.now.sites x.site) ≡ true) e k.kept

  module _ (h i : ℕ) (inside : IsIn s.program.now i h) (live : Holds s.program.now (IsLive h)) where
    pub put_told : (a : ℕ) (site : ℕ) → HasLeaf s.program.now i 0 a [] → Holds s.program.now (NodeRefers (mark i 0 []) (loc site [])) → RuleHolds s (Put (node i 0 a) site)
    put_told a site leaf holds n y is at = to_node n y (node i 0 a) (mark i 0 []) (location site []) is (marked s.program.now i 0 a [] leaf) at holds

    pub copy_told : (d j r k a c : ℕ) (q q' : List PathStep) (kind : Kind) → IsAt s.program.now i kind → Copies kind r q k q' → DefinedAt s.program.now d j r i
        → HasLeaf s.program.now i k a q' → HasLeaf s.program.now d j c q → RuleHolds s (Copy (node i k a) (node d j c))
    copy_told d j r k a c q q' kind at copies def to from n m y isn ism t =
        let f = refers_of m y (node d j c) (mark d j q) ism (marked s.program.now d j c q from) t in
        to_node n y (node i k a) (mark i k q') f.0 isn (marked s.program.now i k a q' to) f.1 (copy h d j r q kind inside live at copies def f.2)

    pub shift_told : (d j to from : ℕ) (path : List PathStep) → IsAt s.program.now i (Step to from path) → DefinedAt s.program.now d j from i
        → HasLeaf s.program.now i 0 0 [] → HasLeaf s.program.now d j 0 [] → RuleHolds s (Shift (node i 0 0) (node d j 0) path)
    shift_told d j to from path at def leaf source n m isn ism y t z moved =
        let f = refers_of m y (node d j 0) (mark d j []) ism (marked s.program.now d j 0 [] source) t in
        let there = moved_there y z path f.0 f.1 moved in
        to_node n z (node i 0 0) (mark i 0 []) (location f.0.site (f.0.path ++ path)) isn (marked s.program.now i 0 0 [] leaf) there
        (step h d j to from inside live at def f.2 (path_of_column z (location f.0.site (f.0.path ++ path)) there))

    pub keep_told : (d j to from target : ℕ) → IsAt s.program.now i (Assert to from target) → DefinedAt s.program.now d j from i
        → HasLeaf s.program.now i 0 0 [] → HasLeaf s.program.now d j 0 [] → RuleHolds s (Keep (node i 0 0) (node d j 0) target)
    keep_told d j to from target at def leaf source n m isn ism y t kept =
        let f = refers_of m y (node d j 0) (mark d j []) ism (marked s.program.now d j 0 [] source) t in
        to_node n y (node i 0 0) (mark i 0 []) f.0 isn (marked s.program.now i 0 0 [] leaf) f.1
        (assert h d j to from target inside live at def f.2 (kept_there y target f.0 f.1 kept))

    -- what a read or written path of what the node refers to is
    pub load_told : (d j k a : ℕ) (path q : List PathStep)
        → ((l : Loc) (x : Location) → Holds s.program.now (NodeRefers (mark d j []) (place_of l)) → is_path_of s.program.now l.site (l.path ++ path) ≡ true → Holds s.program.now (PlaceRefers (loc l.site (l.path ++ path)) x) → Holds s.program.now (NodeRefers (mark i k q) x))
        → HasLeaf s.program.now i k a q → HasLeaf s.program.now d j 0 [] → RuleHolds s (Load (node i k a) (node d j 0) path)
    load_told d j k a path q says leaf source n m isn ism y t z moved w place =
        let f = refers_of m y (node d j 0) (mark d j []) ism (marked s.program.now d j 0 [] source) t in
        let there = moved_there y z path f.0 f.1 moved in
        let e = same_item s.locations.items z place.from (location f.0.site (f.0.path ++ path)) place.is there in
        to_node n w (node i k a) (mark i k q) place.to isn (marked s.program.now i k a q leaf) place.at
        (says f.0 (place_of place.to) f.2 (path_of_column z (location f.0.site (f.0.path ++ path)) there) (subst (λ (x : Loc). Holds s.program.now (PlaceRefers (place_of x) (place_of place.to))) e place.holds))

    pub store_told : (d j k a : ℕ) (path q : List PathStep)
        → ((l : Loc) (x : Location) → Holds s.program.now (NodeRefers (mark d j []) (place_of l)) → is_path_of s.program.now l.site (l.path ++ path) ≡ true → Holds s.program.now (NodeRefers (mark i k q) x) → Holds s.program.now (PlaceRefers (loc l.site (l.path ++ path)) x))
        → HasLeaf s.program.now i k a q → HasLeaf s.program.now d j 0 [] → RuleHolds s (Store (node d j 0) path (node i k a))
    store_told d j k a path q says leaf source n m isn ism y t z moved w value =
        let f = refers_of m y (node d j 0) (mark d j []) ism (marked s.program.now d j 0 [] source) t in
        let v = refers_of n w (node i k a) (mark i k q) isn (marked s.program.now i k a q leaf) value in
        let there = moved_there y z path f.0 f.1 moved in
        record { from = location f.0.site (f.0.path ++ path); is = there; to = v.0; at = v.1; holds = says f.0 (place_of v.0) f.2 (path_of_column z (location f.0.site (f.0.path ++ path)) there) v.2 }

    -- a node that has all that another has
    pub link_told : (d j k a c : ℕ) (q q' : List PathStep) → ((x : Location) → Holds s.program.now (NodeRefers (mark d j q) x) → Holds s.program.now (NodeRefers (mark i k q') x))
        → HasLeaf s.program.now i k a q' → HasLeaf s.program.now d j c q → RuleHolds s (Copy (node i k a) (node d j c))
    link_told d j k a c q q' says to from n m y isn ism t =
        let f = refers_of m y (node d j c) (mark d j q) ism (marked s.program.now d j c q from) t in
        to_node n y (node i k a) (mark i k q') f.0 isn (marked s.program.now i k a q' to) f.1 (says (place_of f.0) f.2)
