-- The items of a file's names that are new in blocks of functions.
use Rattle.std.proofs.Common.{Result, ◌≡◌, ℕ, ◌+◌, ◌∷◌, ◌++◌, [], List, length, Bool, true, false, Some, inl, inr, refl, sym, ap, ◌∙◌, subst, arith}
use Rattle.std.specs.Prelude.{slice_get, IfOk}
use Rattle.argot_tree.specs.declared.token.Token.{Token}
use Rattle.argot_tree.specs.declared.tree.TreeNode.{TreeNode}
use Rattle.argot_names_rules.specs.Files.{SourceFiles, SourceFile, read_of, text_at}
use Rattle.argot_names_rules.specs.Bindings.{BindingKind, Specified, Defined, Received, Switched, Brings, IsNew}
use Rattle.argot_names_rules.specs.Loaded.{number_of}
use Rattle.argot_names_blocks.specs.declared.binding.Binding.{Binding}
use Rattle.argot_names_blocks.specs.declared.binding.BindingKind.{BindingKind as Written}
use Rattle.argot_names_blocks.specs.declared.binding.BindingKind.TheVariants as manners
use Rattle.argot_names_blocks.specs.Binding.{manner_of, written_of, IsBinding}
use Rattle.argot_names_blocks.specs.Listing.{ListsAll}
use Rattle.argot_names_imports.proofs.Lists.{get_below, get_there}
use Rattle.argot_names_scopes.specs.declared.file.FileNames.{FileNames}
use Rattle.argot_names_scopes.specs.Files.{file_of}
use Rattle.argot_names_scopes.specs.News.{IsNewIn as IsNewAmong}
use Rattle.argot_names_scopes.specs.Texts.{text_in}
use Rattle.argot_names_scopes.proofs.InFile.{earlier_known, earlier_holds}
use Rattle.argot_names_imports.specs.declared.reached.Reached.{Reached}
use Rattle.argot_names_imports.specs.Reached.{IsReach}
use Rattle.argot_names_imports.specs.Numbers.{IsOfNumber}
use Rattle.argot_names_tops.specs.Tops.{IsNamesOf}
use Rattle.argot_names_tops.proofs.TopLists.{one_number}
use Rattle.argot_names_tops.proofs.Results.{ok_onto}
use Rattle.argot_names_uses.specs.declared.item.Item.{Item}
use Rattle.argot_names_uses.specs.Items.{IsNewIn, OfFile, IsDeclaredBy, IsMade, HasItem, AreItems, AreGiven}
use Rattle.argot_names_uses.specs.Givers.{GivesNew}
use Rattle.argot_names_uses.proofs.NodeClasses.{some_is, brings_class}
use Rattle.argot_names_uses.proofs.Giving.{given_more, given_same}
use Rattle.argot_names_uses.proofs.TopItems.{read_is, made_alike, has_made}

pub manner_back : (m : BindingKind) → manner_of (written_of m) ≡ m
manner_back Specified = refl
manner_back Defined = refl
manner_back Received = refl
manner_back Switched = refl

module _ (bytes : List ℕ) (tokens : List Token) (tree : List TreeNode) (brought : List Binding) (all : ListsAll (λ (x : Binding). x.node) (IsBinding tree) brought) where
  new_known : (m : Written) (token opens : ℕ) → IsNew (file_of bytes tokens tree) (manner_of m) token opens → IsNewAmong bytes tokens brought m token opens
  new_known manners.Specified token opens h = tt
  new_known manners.Received token opens h = tt
  new_known manners.Switched token opens h = tt
  new_known manners.Defined token opens h = (h.0, λ e. h.1 (earlier_holds bytes tokens tree brought all token opens e))

  new_holds : (m : Written) (token opens : ℕ) → IsNewAmong bytes tokens brought m token opens → IsNew (file_of bytes tokens tree) (manner_of m) token opens
  new_holds manners.Specified token opens h = tt
  new_holds manners.Received token opens h = tt
  new_holds manners.Switched token opens h = tt
  new_holds manners.Defined token opens h = (h.0, λ e. h.1 (earlier_known bytes tokens tree brought all token opens e))

module _ (h : SourceFiles) (n : FileNames) (owner file : ℕ) (names : IsNamesOf h file n) where
  -- the node of a name is there
  pub new_node : (k : ℕ) (b : Binding) → slice_get n.bindings.brought.items k ≡ Some b → (x : TreeNode) × (slice_get (read_of h file).nodes b.node ≡ Some x)
  new_node k b at =
      elim (brings_class n.tree.now.nodes (manner_of b.manner) b.node b.token b.opens b.closes b.from (names.names.brings.brought.sound b (k, at))) [
        | inl c ↦ (c.is, subst (λ f. slice_get f.nodes b.node ≡ Some c.is) (read_is h file n names) c.there)
        | inr c ↦ (c.1.is, subst (λ f. slice_get f.nodes b.node ≡ Some c.1.is) (read_is h file n names) c.1.there)
      ]

  pub news_more : (k : ℕ) (items new : List Item) (item : Item) → AreGiven (GivesNew h n owner file) k items → GivesNew h n owner file k item → new ≡ items ++ item ∷ [] → AreGiven (GivesNew h n owner file) (k + 1) new
  news_more k items new item are gives e =
      given_more (GivesNew h n owner file) k items new item are gives
      (λ other g.
      let same : g.brought ≡ gives.brought = some_is g.brought gives.brought (sym g.there ∙ gives.there) in
      made_alike owner (number_of h file gives.brought.node) (text_in n.bytes.now n.tokens.now gives.brought.token) item other gives.made
      (subst (λ (b : Binding). IsMade owner (number_of h file b.node) (text_in n.bytes.now n.tokens.now b.token) other) same g.made)) e

  pub news_same : (k : ℕ) (items new : List Item) → AreGiven (GivesNew h n owner file) k items → slice_get n.news.items k ≡ Some false → new ≡ items → AreGiven (GivesNew h n owner file) (k + 1) new
  news_same k items new are old e = subst (AreGiven (GivesNew h n owner file) (k + 1)) (sym e) (given_same (GivesNew h n owner file) k items are (λ item g. cc (g.new, old)))

module _ (h : SourceFiles) (main : List ℕ) (r : Reached) (is : IsReach h main r) (n : FileNames) (owner file : ℕ) (of : IsOfNumber h r file owner) (names : IsNamesOf h file n) where
  same_read : ◌≡◌ {A = SourceFile} (record { bytes = n.bytes.now; tokens = n.tokens.now; nodes = n.tree.now.nodes }) (read_of h file)
  same_read = read_is h file n names

  sound : (item : Item) (k : ℕ) → GivesNew h n owner file k item → IsDeclaredBy h r (OfFile file (IsNewIn h)) item.owner item.number item.name.now
  sound item k g =
      let b = g.brought in
      let new = new_holds n.bytes.now n.tokens.now n.tree.now.nodes n.bindings.brought.items names.names.brings.brought b.manner b.token b.opens (names.names.are_new.new k b g.there g.new) in
      record {
        file = file;
        node = b.node;
        of = subst (IsOfNumber h r file) (sym g.made.owner_is) of;
        declares = (
          refl,
          record {
            manner = manner_of b.manner;
            token = b.token;
            opens = b.opens;
            closes = b.closes;
            from = b.from;
            brings = subst (λ f. Brings f.nodes (manner_of b.manner) b.node b.token b.opens b.closes b.from) same_read (names.names.brings.brought.sound b (k, g.there));
            new = subst (λ f. IsNew f (manner_of b.manner) b.token b.opens) same_read new;
            spells = g.made.name_is ∙ ap (λ f. text_at f b.token) same_read;
          },
        );
        number_is = g.made.number_is;
      }

  is_true : (k : ℕ) (b : Binding) → slice_get n.bindings.brought.items k ≡ Some b → IsNewAmong n.bytes.now n.tokens.now n.bindings.brought.items b.manner b.token b.opens → (x : Bool) → slice_get n.news.items k ≡ Some x → slice_get n.news.items k ≡ Some true
  is_true k b e new true g = g
  is_true k b e new false g = absurd (names.names.are_new.old k b e g new)

  complete : (items : List Item) → AreGiven (GivesNew h n owner file) (length n.bindings.brought.items) items → (other number : ℕ) (name : List ℕ) (d : IsDeclaredBy h r (OfFile file (IsNewIn h)) other number name) → HasItem items other number name
  complete items are other number name d =
      let l = d.declares.1 in
      let at : d.file ≡ file = d.declares.0 in
      let other_is : owner ≡ other = one_number h main r is file owner other of (subst (λ f. IsOfNumber h r f other) at d.of) in
      let m : Written = written_of l.manner in
      let b : Binding = record { manner = m; node = d.node; token = l.token; opens = l.opens; closes = l.closes; from = l.from } in
      let same : ◌≡◌ {A = SourceFile} (read_of h d.file) (file_of n.bytes.now n.tokens.now n.tree.now.nodes) = ap (read_of h) at ∙ sym same_read in
      let brings : Brings n.tree.now.nodes (manner_of m) d.node l.token l.opens l.closes l.from =
      subst (λ x. Brings n.tree.now.nodes x d.node l.token l.opens l.closes l.from) (sym (manner_back l.manner)) (subst (λ (f : SourceFile). Brings f.nodes l.manner d.node l.token l.opens l.closes l.from) same l.brings)
      in
      let i = names.names.brings.brought.complete b brings in
      let new : IsNew (file_of n.bytes.now n.tokens.now n.tree.now.nodes) (manner_of m) l.token l.opens =
      subst (λ x. IsNew (file_of n.bytes.now n.tokens.now n.tree.now.nodes) x l.token l.opens) (sym (manner_back l.manner)) (subst (λ f. IsNew f l.manner l.token l.opens) same l.new)
      in
      let among = new_known n.bytes.now n.tokens.now n.tree.now.nodes n.bindings.brought.items names.names.brings.brought m l.token l.opens new in
      let low = get_below n.bindings.brought.items i.0 b i.1 in
      let flag = get_there n.news.items i.0 (omega (arith, low, names.names.are_new.as_long)) in
      let item : Item = record { owner = owner; number = number_of h file d.node; name = record { ref_ptr = (0, 0); now = text_in n.bytes.now n.tokens.now l.token } } in
      let gives : GivesNew h n owner file i.0 item = record { brought = b; there = i.1; new = is_true i.0 b i.1 among flag.0 flag.1; made = record { owner_is = refl; number_is = refl; name_is = refl } } in
      has_made items other number name item
      (record {
        owner_is = other_is;
        number_is = ap (λ f. number_of h f d.node) (sym at) ∙ sym d.number_is;
        name_is = ap (λ f. text_at f l.token) (sym same) ∙ sym l.spells;
      })
      (are.complete i.0 item low gives)

  pub news_all : (k : ℕ) (items : List Item) → k ≡ length n.bindings.brought.items → AreGiven (GivesNew h n owner file) k items → AreItems h r (OfFile file (IsNewIn h)) items
  news_all k items e given =
      let are : AreGiven (GivesNew h n owner file) (length n.bindings.brought.items) items = subst (λ j. AreGiven (GivesNew h n owner file) j items) e given in
      record {
        sound = λ item i. let s = are.sound item i in sound item s.0 s.2;
        complete = λ other number name d. complete items are other number name d;
      }

-- an item of such parts is given
pub new_gives : {E : Type 0} (h : SourceFiles) (n : FileNames) (owner file k : ℕ) (b : Binding) (brought : List Binding) (name : List ℕ) (result : Result Item E) → brought ≡ n.bindings.brought.items → slice_get brought k ≡ Some b → name ≡ text_in n.bytes.now n.tokens.now b.token → slice_get n.news.items k ≡ Some true
    → IfOk result (IsMade owner (number_of h file b.node) name) → IfOk result (GivesNew h n owner file k)
new_gives h n owner file k b brought name result same at text new =
    ok_onto (IsMade owner (number_of h file b.node) name) (GivesNew h n owner file k) result
    (λ v m. record { brought = b; there = subst (λ bs. slice_get bs k ≡ Some b) same at; new = new; made = subst (λ x. IsMade owner (number_of h file b.node) x v) text m })
