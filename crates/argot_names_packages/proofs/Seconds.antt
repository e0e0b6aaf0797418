-- The package clauses that differ are the places of that fault.
use Rattle.std.proofs.Common.{◌≡◌, ◌≢◌, ℕ, ◌<◌, List, length, Bool, true, false, Option, Some, None, nat_eq, refl, sym, ap, ◌∙◌, subst}
use Rattle.std.specs.Prelude.{◌↔◌, not, option_map, slice_get}
use Rattle.std.specs.Option.{option_and_then}
use Rattle.std.specs.Cmp.Lexicographic.{pointwise}
use Rattle.argot_tree.specs.declared.node_kind.NodeKind.{NodeKind}
use Rattle.argot_tree.specs.declared.node_kind.NodeKind.TheVariants as nodes
use Rattle.argot_tree.specs.declared.tree.TreeNode.{TreeNode}
use Rattle.argot_names_rules.specs.Files.{SourceFiles, Place, SourceFile, read_of, text_at}
use Rattle.argot_names_rules.specs.Packages.{HasClause}
use Rattle.argot_names_rules.specs.Faults.{IsSecondName}
use Rattle.argot_files.proofs.Nodes.{spans_of}
use Rattle.argot_names_imports.specs.declared.survey.Survey.{Survey}
use Rattle.argot_names_imports.specs.Surveyed.{IsSurvey}
use Rattle.argot_names_imports.proofs.FirstFiles.{same_text, text_same}
use Rattle.argot_names_imports.proofs.Lists.{get_below}
use Rattle.argot_names_imports.proofs.Standing.{first_is_one, reached_leader, leader_reached}
use Rattle.argot_files.specs.declared.place.Place.{Place as Spot}
use Rattle.argot_names_packages.specs.Spots.{spot_in, IsAt}
use Rattle.argot_names_packages.specs.Standing.{IsLedBy}
use Rattle.argot_names_packages.specs.Clauses.{first_of, token_if, declared_at, clause_of, name_in}
use Rattle.argot_names_packages.specs.Second.{differing, IsSecondAt}
use Rattle.argot_names_packages.proofs.Led.{begins_at, at_begins}

-- the name is that of the clause
pub clause_is : (f : SourceFile) (name : List ℕ) → HasClause f name → option_map (text_at f) (clause_of f.nodes) ≡ Some name
clause_is f name c =
    let e : first_of (slice_get f.nodes 0) ≡ Some c.node = ap first_of c.child.there ∙ c.child.first in
    let d : declared_at (slice_get f.nodes c.node) ≡ Some c.token = ap declared_at c.spans.there in
    ap (λ o. option_map (text_at f) (option_and_then (λ child. declared_at (slice_get f.nodes child)) o)) e ∙ ap (option_map (text_at f)) d ∙ ap (λ x. Some x) (sym c.is)

module _ (f : SourceFile) (name : List ℕ) where
  by_kind : (root m : TreeNode) (child : ℕ) → slice_get f.nodes 0 ≡ Some root → root.first ≡ Some child → slice_get f.nodes child ≡ Some m → (kind : NodeKind) → m.kind ≡ kind → option_map (text_at f) (token_if kind m.token) ≡ Some name → HasClause f name
  by_kind root m child e c d nodes.DeclName k h =
      record {
        node = child;
        token = m.token;
        last = m.last;
        child = record { is = root; there = e; first = c };
        spans = spans_of f.nodes child m nodes.DeclName d k;
        is = some_is name (text_at f m.token) (sym h);
      }
    where
      some_is : {A : Type 0} (x y : A) → Some x ≡ Some y → x ≡ y
      some_is x y e = cc
  by_kind root m child e c d _ k h = absurd (cc)

  by_node : (root : TreeNode) (child : ℕ) → slice_get f.nodes 0 ≡ Some root → root.first ≡ Some child → (o : Option TreeNode) → slice_get f.nodes child ≡ o → option_map (text_at f) (declared_at o) ≡ Some name → HasClause f name
  by_node root child e c None d h = absurd (cc)
  by_node root child e c (Some m) d h = by_kind root m child e c d m.kind refl h

  by_child : (root : TreeNode) → slice_get f.nodes 0 ≡ Some root → (o : Option ℕ) → root.first ≡ o → option_map (text_at f) (option_and_then (λ child. declared_at (slice_get f.nodes child)) o) ≡ Some name → HasClause f name
  by_child root e None c h = absurd (cc)
  by_child root e (Some child) c h = by_node root child e c (slice_get f.nodes child) refl h

  by_root : (o : Option TreeNode) → slice_get f.nodes 0 ≡ o → option_map (text_at f) (option_and_then (λ child. declared_at (slice_get f.nodes child)) (first_of o)) ≡ Some name → HasClause f name
  by_root None e h = absurd (cc)
  by_root (Some root) e h = by_child root e root.first refl h

  pub is_clause : option_map (text_at f) (clause_of f.nodes) ≡ Some name → HasClause f name
  is_clause h = by_root (slice_get f.nodes 0) refl h

-- names that differ
pub record Differ (a b : Option (List ℕ)) : Type 0 where
  pub name : List ℕ
  pub other : List ℕ
  pub name_is : a ≡ Some name
  pub other_is : b ≡ Some other
  pub differs : other ≢ name

true_false : true ≡ false → ⊥
true_false e = cc

differ : (a b : Option (List ℕ)) → differing a b ≡ true → Differ a b
differ (Some x) (Some y) e =
    record { name = x; other = y; name_is = refl; other_is = refl; differs = λ same. true_false (sym e ∙ ap not (ap (pointwise nat_eq x) same ∙ text_same x)) }
differ (Some x) None e = absurd (cc)
differ None (Some y) e = absurd (cc)
differ None None e = absurd (cc)

different : (x y : List ℕ) → y ≢ x → differing (Some x) (Some y) ≡ true
different x y ne = go (pointwise nat_eq x y) refl
  where
    go : (b : Bool) → pointwise nat_eq x y ≡ b → not b ≡ true
    go true e = absurd (ne (sym (same_text x y e)))
    go false e = refl

module _ (h : SourceFiles) (main : List ℕ) (s : Survey) (is : IsSurvey h main s) where
  pub second_there : (place : Place) → IsSecondName h main place → (file : ℕ) × IsSecondAt s h file place
  second_there place p =
      let l = reached_leader h main s is p.home p.file p.reached in
      let same : p.has_name.file ≡ l.0 = first_is_one h p.home p.has_name.file l.0 p.has_name.first l.3 in
      let name : name_in h l.0 ≡ Some p.name = subst (λ f. name_in h f ≡ Some p.name) same (clause_is (read_of h p.has_name.file) p.name p.has_name.clause) in
      let other : name_in h p.file ≡ Some p.other = clause_is (read_of h p.file) p.other p.clause in (
        p.file,
        record {
          first = l.0;
          led = record { leads = l.1; reached = l.2 };
          differs = ap (λ a. differing a (name_in h p.file)) name ∙ ap (differing (Some p.name)) other ∙ different p.name p.other p.differs;
          begins = begins_at h h.lexed refl p.file 0 place p.begins;
        },
      )

  pub second_is : (file : ℕ) (place : Place) → IsSecondAt s h file place → (file < length s.leaders.items) × IsSecondName h main place
  second_is file place m =
      let l = leader_reached h main s is file m.first m.led.leads m.led.reached in
      let d = differ (name_in h m.first) (name_in h file) m.differs in (
        get_below s.leaders.items file (Some m.first) m.led.leads,
        record {
          home = l.0;
          file = file;
          name = d.name;
          other = d.other;
          reached = l.1;
          has_name = record { file = m.first; first = l.2; clause = is_clause (read_of h m.first) d.name d.name_is };
          clause = is_clause (read_of h file) d.other d.other_is;
          differs = d.differs;
          begins = at_begins h h.lexed refl file 0 place m.begins;
        },
      )

some_is : {A : Type 0} (x y : A) → Some x ≡ Some y → x ≡ y
some_is x y e = cc

no_spot : {place : Place} → IsAt None place → ⊥
no_spot p = none_some p.spot p.is
  where
    none_some : (b : Spot) → None ≡ Some b → ⊥
    none_some b e = cc

-- the place of one file
module _ (s : Survey) (h : SourceFiles) (file first : ℕ) (led : IsLedBy s file first) where
  same_first : (m : ℕ) → IsLedBy s file m → m ≡ first
  same_first m l = some_is m first (some_is (Some m) (Some first) (sym l.leads ∙ led.leads))

  pub second_at : (o : Option Spot) → o ≡ spot_in h.lexed file 0 → differing (name_in h first) (name_in h file) ≡ true → (place : Place) → IsSecondAt s h file place ↔ IsAt o place
  second_at o e differs place = (
    λ m. subst (λ p. IsAt p place) (sym e) m.begins,
    λ p. record { first = first; led = led; differs = differs; begins = subst (λ q. IsAt q place) e p },
  )

  pub not_second : differing (name_in h first) (name_in h file) ≡ false → (place : Place) → IsSecondAt s h file place ↔ IsAt None place
  not_second same place = (
    λ m. absurd (true_false (sym m.differs ∙ ap (λ f. differing (name_in h f) (name_in h file)) (same_first m.first m.led) ∙ same)),
    λ p. absurd (no_spot p),
  )

pub not_led : (s : Survey) (h : SourceFiles) (file : ℕ) → ((first : ℕ) → IsLedBy s file first → ⊥) → (place : Place) → IsSecondAt s h file place ↔ IsAt None place
not_led s h file none place = (λ m. absurd (none m.first m.led), λ p. absurd (no_spot p))
