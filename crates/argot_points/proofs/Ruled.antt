-- Tables that are closed under the rules of a program have all that the relation has.
use Rattle.std.proofs.Common.{◌≡◌, ℕ, ◌+◌, ◌<◌, true, List, sym, ap, ◌∙◌, arith, subst}
use Rattle.std.specs.Prelude.{slice_get, length}
use Rattle.argot_links.specs.Table.{has}
use Rattle.argot_plain.specs.Lists.{In}
use Rattle.argot_plain.specs.Code.{IsAt, IsIn}
use Rattle.argot_plain.specs.Machine.{is_path_of}
use Rattle.argot_plain.specs.Nodes.{Mark, mark, HasLeaf}
use Rattle.argot_plain.specs.WellFormed.{WellFormed}
use Rattle.argot_plain.specs.declared.instructions.Kind.{Kind}
use Rattle.argot_text.specs.declared.path.PathStep.{PathStep}
use Rattle.argot_facts.specs.Copies.{Copies}
use Rattle.argot_facts.specs.Exact.{AreDefs, IsLocation, place_of}
use Rattle.argot_facts.specs.Numbers.{node, location, nodes_of, locations_of}
use Rattle.argot_facts.specs.Reaching.{DefinedAt}
use Rattle.argot_facts.specs.Refers.{Location}
use Rattle.argot_facts.specs.declared.pointing.Loc.{Loc}
use Rattle.argot_facts.proofs.Located.{locations_are}
use Rattle.argot_facts.proofs.Marked.{nodes_are, register_leaves}
use Rattle.argot_facts.proofs.Listed.{number_of}
use Rattle.argot_points_rules.specs.Column.{owned, kind_rules, rules_of}
use Rattle.argot_points_rules.specs.declared.rules.Rule.{Rule}
use Rattle.argot_points_rules.specs.declared.rules.Rule.TheVariants.{Copy}
use Rattle.argot_points.specs.declared.system.System.{System}
use Rattle.argot_points.specs.declared.system.Tables.{Tables}
use Rattle.argot_points.specs.Meaning.{IsRow, IsColumn}
use Rattle.argot_points.specs.Solved.{AllDone, ClosedUnder, place_row}
use Rattle.argot_points.proofs.Told.{marked}
use Rattle.argot_points.proofs.Columns.{in_of_get}
use Rattle.argot_points.proofs.Defined.{defined_leaf, definition_listed}
use Rattle.argot_points.proofs.Handed.{rule_listed}
use Rattle.argot_points.proofs.LeafOf.{definition_leaf}
use Rattle.argot_points.proofs.Copied.{copied_read, copied_node, copied_rule}

module _ (s : System) (t : Tables) (wf : WellFormed s.program.now) (nodes : s.nodes.items ≡ nodes_of s.program.now) (all : s.locations.items ≡ locations_of s.program.now)
    (ds : List (ℕ × ℕ × ℕ)) (exact : AreDefs s.program.now ds) (same : s.rules.items ≡ rules_of s.program.now ds) (done : AllDone s t) where
  -- the tables have that the nodes with this mark refer to x
  pub record HasNode (m : Mark) (x : Location) : Type 0 where
    pub number : ℕ
    pub leaf : HasLeaf s.program.now m.place m.index number m.leaf
    pub to : Loc
    pub column : ℕ
    pub is : x ≡ place_of to
    pub at : IsColumn s column to
    pub refers : (n a : ℕ) → HasLeaf s.program.now m.place m.index a m.leaf → IsRow s n (node m.place m.index a) → has t.refers n column ≡ true

  -- and the location
  pub record HasPlace (from x : Location) : Type 0 where
    pub here : Loc
    pub row : ℕ
    pub is_from : from ≡ place_of here
    pub from_at : IsColumn s row here
    pub to : Loc
    pub column : ℕ
    pub is_to : x ≡ place_of to
    pub to_at : IsColumn s column to
    pub refers : has t.refers (place_row s row) column ≡ true

  -- each leaf has a row, each location a column
  pub row_of : (i k a : ℕ) (q : List PathStep) → HasLeaf s.program.now i k a q → (n : ℕ) × IsRow s n (node i k a)
  row_of i k a q leaf =
      let m = ((nodes_are s.program.now wf).each (node i k a)).1 (mark i k q, marked s.program.now i k a q leaf) in
      number_of (node i k a) s.nodes.items (subst (λ ns. In (node i k a) ns) (sym nodes) m)

  pub column_of : (site : ℕ) (q : List PathStep) → site < length s.program.now.sites → is_path_of s.program.now site q ≡ true → (y : ℕ) × IsColumn s y (location site q)
  column_of site q low ok =
      let m = ((locations_are s.program.now).each (location site q)).1 (record { site = low; path = ok }) in
      number_of (location site q) s.locations.items (subst (λ ls. In (location site q) ls) (sym all) m)

  pub is_location : (y : ℕ) (l : Loc) → IsColumn s y l → IsLocation s.program.now l
  is_location y l at = ((locations_are s.program.now).each l).0 (subst (λ ls. In l ls) all (in_of_get s.locations.items y l at))

  -- a rule of a place of a live function is kept
  pub rule_kept : (h i : ℕ) (inside : IsIn s.program.now i h) (kind : Kind) → has t.live 0 h ≡ true → IsAt s.program.now i kind → (rule : Rule) → In (owned h rule) (kind_rules s.program.now inside.fn ds h i kind) → ClosedUnder s t rule
  rule_kept h i inside kind live at rule m =
      let z : h ≡ 0 + h = omega arith in
      let r = wf.ranges.inside h inside.fn inside.is in
      let l = rule_listed s.program.now ds 0 s.program.now.functions h h inside.fn i kind (owned h rule) z inside.is inside.low (omega (arith, inside.high, r.0, r.1)) at m in
      let k = number_of (owned h rule) s.rules.items (subst (λ os. In (owned h rule) os) (sym same) l) in
      done k.0 (owned h rule) k.1 live

  pub copy_kept : (i k h d j r : ℕ) (q q' : List PathStep) (x : Location) (kind : Kind) (inside : IsIn s.program.now i h) → has t.live 0 h ≡ true → IsAt s.program.now i kind → Copies kind r q k q'
      → DefinedAt s.program.now d j r i → HasNode (mark d j q) x → HasNode (mark i k q') x
  copy_kept i k h d j r q q' x kind inside live at copies def from =
      let fn = inside.fn in
      let b = definition_leaf s.program.now wf h fn inside.is d j r i from.number q def inside from.leaf in
      let m = definition_listed s.program.now wf ds exact h fn inside.is i d j r kind inside at (copied_read kind r q k q' copies) def in
      let target = copied_node s.program.now wf ds h i fn inside.is inside kind r from.number q k q' at copies b in
      record {
        number = target.0;
        leaf = target.1;
        to = from.to;
        column = from.column;
        is = from.is;
        at = from.at;
        refers = λ n a leaf row.
            let rule = copied_rule s.program.now wf ds h i fn inside.is inside kind r d j from.number q k q' at copies m b a leaf in
            let source = defined_leaf s.program.now wf d j r i h rule.0 q def inside (ap (λ y. slice_get y rule.0) (register_leaves s.program.now h fn r inside.is) ∙ rule.1) in
            let there = row_of d j rule.0 q source in
            rule_kept h i inside kind live at (Copy (node i k a) (node d j rule.0)) rule.2 n there.0 row there.1 from.column (from.refers there.0 rule.0 source there.1);
      }
