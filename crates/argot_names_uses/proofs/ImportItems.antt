-- The items of the names of imports.
use Rattle.std.proofs.Common.{Result, ◌≡◌, ℕ, ◌+◌, ◌∷◌, ◌++◌, [], List, length, Some, inl, inr, refl, sym, ap, ◌∙◌, subst, arith}
use Rattle.std.specs.Prelude.{slice_get, IfOk}
use Rattle.argot_tree.specs.declared.tree.TreeNode.{TreeNode}
use Rattle.argot_names_rules.specs.Files.{SourceFiles, Place, read_of}
use Rattle.argot_names_rules.specs.PackageScope.{IsImported}
use Rattle.argot_names_rules.specs.Loaded.{number_of}
use Rattle.argot_names_imports.specs.declared.written.Written.{Written}
use Rattle.argot_names_imports.proofs.Lists.{get_below}
use Rattle.argot_names_imports.specs.declared.reached.Reached.{Reached}
use Rattle.argot_names_imports.specs.Reached.{IsReach}
use Rattle.argot_names_imports.specs.Numbers.{IsOfNumber}
use Rattle.argot_names_tops.specs.declared.named.Named.{Named}
use Rattle.argot_names_tops.specs.Importing.{AreImportNames}
use Rattle.argot_files.specs.Places.{place_of}
use Rattle.argot_names_tops.proofs.Results.{ok_onto}
use Rattle.argot_names_tops.proofs.Ordering.{imports_ascend}
use Rattle.argot_names_tops.proofs.TopLists.{one_number}
use Rattle.argot_names_uses.specs.declared.item.Item.{Item}
use Rattle.argot_names_uses.specs.Items.{IsImportIn, IsDeclaredBy, IsMade, HasItem, AreItems, AreGiven}
use Rattle.argot_names_uses.specs.Givers.{GivesImport}
use Rattle.argot_names_uses.proofs.NodeClasses.{some_is, import_class}
use Rattle.argot_names_uses.proofs.NumberedNodes.{less_or}
use Rattle.argot_names_uses.proofs.Giving.{given_more}
use Rattle.argot_names_uses.proofs.TopItems.{has_made}

-- the node of an import is there
pub import_node : (h : SourceFiles) (file : ℕ) (name : List ℕ) (node : ℕ) (path : List ℕ) (place : Place) → IsImported h file name node path place → (x : TreeNode) × (slice_get (read_of h file).nodes node ≡ Some x)
import_node h file name node path place i = let c = import_class (read_of h file).nodes node i.at i.path_at i.alias i.imports.is in (c.is, c.there)

module _ (h : SourceFiles) (main : List ℕ) (r : Reached) (is : IsReach h main r) (imports : List Named) (known : AreImportNames h r imports) where
  pub imports_more : (k : ℕ) (items new : List Item) (item : Item) → AreGiven (GivesImport h r imports) k items → GivesImport h r imports k item → new ≡ items ++ item ∷ [] → AreGiven (GivesImport h r imports) (k + 1) new
  imports_more k items new item are gives e =
      given_more (GivesImport h r imports) k items new item are gives (λ other g. alike other g) e
    where
      alike : (other : Item) → GivesImport h r imports k other → IsMade other.owner other.number other.name.now item
      alike other g =
          let same : g.named ≡ gives.named = some_is g.named gives.named (sym g.there ∙ gives.there) in
          let import_ : g.import_ ≡ gives.import_ = some_is g.import_ gives.import_ (sym g.is_import ∙ (ap (λ m. slice_get r.survey.imports.items m.of) same ∙ gives.is_import)) in
          let owner : gives.named.scope ≡ gives.named.scope = refl in
          record {
            owner_is = one_number h main r is gives.named.scope item.owner other.owner gives.of (subst (λ (m : Named). IsOfNumber h r m.scope other.owner) same g.of);
            number_is = gives.made.number_is ∙ (sym (ap (λ (m : Named). number_of h m.scope gives.import_.node) same) ∙ (sym (ap (λ (w : Written). number_of h g.named.scope w.node) import_) ∙ sym g.made.number_is));
            name_is = gives.made.name_is ∙ (sym (ap (λ (m : Named). m.name.now) same) ∙ sym g.made.name_is);
          }

  sound : (item : Item) (k : ℕ) → GivesImport h r imports k item → IsDeclaredBy h r (IsImportIn h) item.owner item.number item.name.now
  sound item k g =
      let s = known.sound k g.named g.there in
      let same : s.import_ ≡ g.import_ = some_is s.import_ g.import_ (sym s.there ∙ g.is_import) in
      record {
        file = g.named.scope;
        node = g.import_.node;
        of = g.of;
        declares = record {
          path = s.import_.path;
          place = place_of g.named.place;
          is = subst (λ x. IsImported h g.named.scope x g.import_.node s.import_.path (place_of g.named.place)) (sym g.made.name_is) (subst (λ (w : Written). IsImported h g.named.scope g.named.name.now w.node s.import_.path (place_of g.named.place)) same s.is);
        };
        number_is = g.made.number_is;
      }

  complete : (items : List Item) → AreGiven (GivesImport h r imports) (length imports) items → (owner number : ℕ) (name : List ℕ) (d : IsDeclaredBy h r (IsImportIn h) owner number name) → HasItem items owner number name
  complete items are owner number name d =
      let i = d.declares in
      let has = known.complete owner d.file name d.node i.path i.place d.of i.is in
      let n = has.item.item in
      let import_there : slice_get r.survey.imports.items n.of ≡ Some has.import_ = ap (slice_get r.survey.imports.items) has.item.of_is ∙ has.there in
      let item : Item = record { owner = owner; number = number_of h n.scope has.import_.node; name = record { ref_ptr = (0, 0); now = n.name.now } } in
      let gives : GivesImport h r imports has.item.number item =
      record { named = n; there = has.item.there; import_ = has.import_; is_import = import_there; of = subst (λ f. IsOfNumber h r f owner) (sym has.item.scope_is) d.of; made = record { owner_is = refl; number_is = refl; name_is = refl } }
      in
      has_made items owner number name item
      (record {
        owner_is = refl;
        number_is = ap (λ f. number_of h f has.import_.node) has.item.scope_is ∙ (ap (number_of h d.file) has.node_is ∙ sym d.number_is);
        name_is = has.item.name_is;
      })
      (are.complete has.item.number item (get_below imports has.item.number n has.item.there) gives)

  pub imports_all : (k : ℕ) (items : List Item) → k ≡ length imports → AreGiven (GivesImport h r imports) k items → AreItems h r (IsImportIn h) items
  imports_all k items e given =
      let are : AreGiven (GivesImport h r imports) (length imports) items = subst (λ j. AreGiven (GivesImport h r imports) j items) e given in
      record {
        sound = λ item i. let s = are.sound item i in sound item s.0 s.2;
        complete = λ owner number name d. complete items are owner number name d;
      }

  -- a node declares one name as an import
  pub one_import : (owner file node : ℕ) (a b p q : List ℕ) (s t : Place) → IsOfNumber h r file owner → IsImported h file a node p s → IsImported h file b node q t → a ≡ b
  one_import owner file node a b p q s t of x y =
      let i = known.complete owner file a node p s of x in
      let j = known.complete owner file b node q t of y in
      let number : i.number ≡ j.number = one_place i.number j.number i.import_ j.import_ i.there j.there (i.file_is ∙ sym j.file_is) (i.node_is ∙ sym j.node_is) in
      let of_is : i.item.item.of ≡ j.item.item.of = i.item.of_is ∙ (number ∙ sym j.item.of_is) in
      sym i.item.name_is ∙ (ap (λ (n : Named). n.name.now) (one_item i.item.number j.item.number i.item.item j.item.item i.item.there j.item.there of_is) ∙ j.item.name_is)
    where
      one_place : (m n : ℕ) (v w : Written) → slice_get r.survey.imports.items m ≡ Some v → slice_get r.survey.imports.items n ≡ Some w → v.file ≡ w.file → v.node ≡ w.node → m ≡ n
      one_place m n v w e f file same =
          elim (less_or m n) [
            | inl l ↦ absurd (omega (arith, imports_ascend r.survey.imports.items is.survey.imports.ordered m n v w l e f file, same))
            | inr o ↦ elim o [
              | inl z ↦ z
              | inr l ↦ absurd (omega (arith, imports_ascend r.survey.imports.items is.survey.imports.ordered n m w v l f e (sym file), same))
            ]
          ]

      one_item : (m n : ℕ) (v w : Named) → slice_get imports m ≡ Some v → slice_get imports n ≡ Some w → v.of ≡ w.of → v ≡ w
      one_item m n v w e f same =
          elim (less_or m n) [
            | inl l ↦ absurd (omega (arith, known.ordered m n v w l e f, same))
            | inr o ↦ elim o [
              | inl z ↦ some_is v w (sym e ∙ (ap (slice_get imports) z ∙ f))
              | inr l ↦ absurd (omega (arith, known.ordered n m w v l f e, same))
            ]
          ]

-- an item of such parts is given
pub import_gives : {E : Type 0} (h : SourceFiles) (r : Reached) (imports : List Named) (owner k node : ℕ) (n : Named) (w : Written) (result : Result Item E) → slice_get imports k ≡ Some n → slice_get r.survey.imports.items n.of ≡ Some w → node ≡ w.node → IsOfNumber h r n.scope owner
    → IfOk result (IsMade owner (number_of h n.scope node) n.name.now) → IfOk result (GivesImport h r imports k)
import_gives h r imports owner k node n w result there import_ is of =
    ok_onto (IsMade owner (number_of h n.scope node) n.name.now) (GivesImport h r imports k) result
    (λ v m. record {
      named = n;
      there = there;
      import_ = w;
      is_import = import_;
      of = subst (IsOfNumber h r n.scope) (sym m.owner_is) of;
      made = record { owner_is = refl; number_is = m.number_is ∙ ap (number_of h n.scope) is; name_is = m.name_is };
    })
