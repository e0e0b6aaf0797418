-- The items of a file's names outside functions.
use Rattle.std.proofs.Common.{Result, ◌≡◌, ℕ, ◌+◌, ◌∷◌, ◌++◌, [], List, length, Some, refl, sym, ap, ◌∙◌, subst}
use Rattle.std.specs.Prelude.{slice_get, IfOk}
use Rattle.argot_tree.specs.declared.tree.TreeNode.{TreeNode}
use Rattle.argot_names_rules.specs.Files.{SourceFiles, SourceFile, read_of, text_at}
use Rattle.argot_names_rules.specs.PackageScope.{Sort as Kinds, IsTopName}
use Rattle.argot_names_rules.specs.PackageScope.Sort.{Value as kind_value, Kind as kind_kind, Function as kind_function}
use Rattle.argot_names_rules.specs.Loaded.{number_of}
use Rattle.argot_names_blocks.specs.declared.tops.Sort.{Sort}
use Rattle.argot_names_blocks.specs.declared.tops.Sort.TheVariants as sorts
use Rattle.argot_names_blocks.specs.declared.tops.TopName.{TopName}
use Rattle.argot_names_blocks.specs.Looking.{sort_of}
use Rattle.argot_names_imports.proofs.Lists.{get_below}
use Rattle.argot_names_scopes.specs.declared.file.FileNames.{FileNames}
use Rattle.argot_names_scopes.specs.Texts.{text_in}
use Rattle.argot_names_imports.specs.declared.reached.Reached.{Reached}
use Rattle.argot_names_imports.specs.Reached.{IsReach}
use Rattle.argot_names_imports.specs.Numbers.{IsOfNumber}
use Rattle.argot_names_tops.specs.Tops.{IsNamesOf}
use Rattle.argot_names_tops.proofs.TopLists.{one_number}
use Rattle.argot_names_tops.proofs.Results.{ok_onto}
use Rattle.argot_names_uses.specs.declared.item.Item.{Item}
use Rattle.argot_names_uses.specs.Items.{IsTopIn, OfFile, IsDeclaredBy, IsMade, HasItem, AreItems, AreGiven}
use Rattle.argot_names_uses.specs.Givers.{GivesTop}
use Rattle.argot_names_uses.proofs.NodeClasses.{some_is, top_class}
use Rattle.argot_names_uses.proofs.Giving.{given_more}

sort_back : Kinds → Sort
sort_back kind_value = sorts.Value
sort_back kind_kind = sorts.Kind
sort_back kind_function = sorts.Function

sort_there : (s : Kinds) → sort_of (sort_back s) ≡ s
unfolding sort_back
sort_there kind_value = refl
sort_there kind_kind = refl
sort_there kind_function = refl

pub read_is : (h : SourceFiles) (file : ℕ) (n : FileNames) → IsNamesOf h file n → ◌≡◌ {A = SourceFile} (record { bytes = n.bytes.now; tokens = n.tokens.now; nodes = n.tree.now.nodes }) (read_of h file)
read_is h file n is = λ i. record { bytes = is.bytes i; tokens = is.tokens i; nodes = is.nodes i }

-- two items of the same parts
pub made_alike : (owner number : ℕ) (name : List ℕ) (a b : Item) → IsMade owner number name a → IsMade owner number name b → IsMade b.owner b.number b.name.now a
made_alike owner number name a b p q = record { owner_is = p.owner_is ∙ sym q.owner_is; number_is = p.number_is ∙ sym q.number_is; name_is = p.name_is ∙ sym q.name_is }

pub has_made : (items : List Item) (owner number : ℕ) (name : List ℕ) (item : Item) → IsMade owner number name item → HasItem items item.owner item.number item.name.now → HasItem items owner number name
has_made items owner number name item m i =
    record {
      place = i.place;
      item = i.item;
      there = i.there;
      made = record { owner_is = i.made.owner_is ∙ m.owner_is; number_is = i.made.number_is ∙ m.number_is; name_is = i.made.name_is ∙ m.name_is };
    }

module _ (h : SourceFiles) (n : FileNames) (owner file : ℕ) (names : IsNamesOf h file n) where
  -- the node of a name is there
  pub top_node : (k : ℕ) (t : TopName) → slice_get n.bindings.tops.items k ≡ Some t → (x : TreeNode) × (slice_get (read_of h file).nodes t.node ≡ Some x)
  top_node k t at =
      let c = top_class n.tree.now.nodes (sort_of t.sort) t.node t.token (names.names.brings.tops.sound t (k, at)) in
      (c.is, subst (λ f. slice_get f.nodes t.node ≡ Some c.is) (read_is h file n names) c.there)

  pub tops_more : (k : ℕ) (items new : List Item) (item : Item) → AreGiven (GivesTop h n owner file) k items → GivesTop h n owner file k item → new ≡ items ++ item ∷ [] → AreGiven (GivesTop h n owner file) (k + 1) new
  tops_more k items new item are gives e =
      given_more (GivesTop h n owner file) k items new item are gives
      (λ other g.
      let same : g.top ≡ gives.top = some_is g.top gives.top (sym g.there ∙ gives.there) in
      made_alike owner (number_of h file gives.top.node) (text_in n.bytes.now n.tokens.now gives.top.token) item other gives.made
      (subst (λ (t : TopName). IsMade owner (number_of h file t.node) (text_in n.bytes.now n.tokens.now t.token) other) same g.made)) e

module _ (h : SourceFiles) (main : List ℕ) (r : Reached) (is : IsReach h main r) (n : FileNames) (owner file : ℕ) (of : IsOfNumber h r file owner) (names : IsNamesOf h file n) where
  same_read : ◌≡◌ {A = SourceFile} (record { bytes = n.bytes.now; tokens = n.tokens.now; nodes = n.tree.now.nodes }) (read_of h file)
  same_read = read_is h file n names

  sound : (item : Item) (k : ℕ) → GivesTop h n owner file k item → IsDeclaredBy h r (OfFile file (IsTopIn h)) item.owner item.number item.name.now
  sound item k g =
      record {
        file = file;
        node = g.top.node;
        of = subst (IsOfNumber h r file) (sym g.made.owner_is) of;
        declares = (
          refl,
          record {
            sort = sort_of g.top.sort;
            token = g.top.token;
            is = subst (λ f. IsTopName f.nodes (sort_of g.top.sort) g.top.node g.top.token) same_read (names.names.brings.tops.sound g.top (k, g.there));
            spells = g.made.name_is ∙ ap (λ f. text_at f g.top.token) same_read;
          },
        );
        number_is = g.made.number_is;
      }

  complete : (items : List Item) → AreGiven (GivesTop h n owner file) (length n.bindings.tops.items) items → (other number : ℕ) (name : List ℕ) (d : IsDeclaredBy h r (OfFile file (IsTopIn h)) other number name) → HasItem items other number name
  complete items are other number name d =
      let top = d.declares.1 in
      let at : d.file ≡ file = d.declares.0 in
      let other_is : owner ≡ other = one_number h main r is file owner other of (subst (λ f. IsOfNumber h r f other) at d.of) in
      let t : TopName = record { sort = sort_back top.sort; node = d.node; token = top.token } in
      let here : IsTopName (read_of h file).nodes top.sort d.node top.token = subst (λ f. IsTopName (read_of h f).nodes top.sort d.node top.token) at top.is in
      let sorted : IsTopName (read_of h file).nodes (sort_of (sort_back top.sort)) d.node top.token = subst (λ s. IsTopName (read_of h file).nodes s d.node top.token) (sym (sort_there top.sort)) here in
      let i = names.names.brings.tops.complete t (subst (λ f. IsTopName f.nodes (sort_of (sort_back top.sort)) d.node top.token) (sym same_read) sorted) in
      let item : Item = record { owner = owner; number = number_of h file d.node; name = record { ref_ptr = (0, 0); now = text_in n.bytes.now n.tokens.now top.token } } in
      let gives : GivesTop h n owner file i.0 item = record { top = t; there = i.1; made = record { owner_is = refl; number_is = refl; name_is = refl } } in
      has_made items other number name item
      (record {
        owner_is = other_is;
        number_is = ap (λ f. number_of h f d.node) (sym at) ∙ sym d.number_is;
        name_is = ap (λ f. text_at f top.token) same_read ∙ (ap (λ f. text_at (read_of h f) top.token) (sym at) ∙ sym top.spells);
      })
      (are.complete i.0 item (get_below n.bindings.tops.items i.0 t i.1) gives)

  pub tops_all : (k : ℕ) (items : List Item) → k ≡ length n.bindings.tops.items → AreGiven (GivesTop h n owner file) k items → AreItems h r (OfFile file (IsTopIn h)) items
  tops_all k items e given =
      let are : AreGiven (GivesTop h n owner file) (length n.bindings.tops.items) items = subst (λ j. AreGiven (GivesTop h n owner file) j items) e given in
      record {
        sound = λ item i. let s = are.sound item i in sound item s.0 s.2;
        complete = λ other number name d. complete items are other number name d;
      }

-- an item of such parts is given
pub top_gives : {E : Type 0} (h : SourceFiles) (n : FileNames) (owner file k : ℕ) (t : TopName) (tops : List TopName) (name : List ℕ) (result : Result Item E) → tops ≡ n.bindings.tops.items → slice_get tops k ≡ Some t → name ≡ text_in n.bytes.now n.tokens.now t.token
    → IfOk result (IsMade owner (number_of h file t.node) name) → IfOk result (GivesTop h n owner file k)
top_gives h n owner file k t tops name result same at text =
    ok_onto (IsMade owner (number_of h file t.node) name) (GivesTop h n owner file k) result
    (λ v m. record { top = t; there = subst (λ ts. slice_get ts k ≡ Some t) same at; made = subst (λ x. IsMade owner (number_of h file t.node) x v) text m })
