-- The declarations outside functions, file by file.
use Rattle.std.proofs.Common.{◌≡◌, ◌≢◌, ℕ, ◌+◌, ◌<◌, inl, inr, List, [], ◌++◌, length, Option, Some, None, refl, sym, ap, ◌∙◌, subst, arith}
use Rattle.std.specs.Prelude.{◌⊎◌, codes, slice_get}
use Rattle.std.proofs.lemmas.Bool.{cases_eq}
use Rattle.argot_tree.specs.declared.token.Token.{Token}
use Rattle.argot_names_rules.specs.declared.package_key.PackageKey.{PackageKey}
use Rattle.argot_names_rules.specs.Files.{SourceFiles, SourceFile, Place, read_of, text_at}
use Rattle.argot_names_rules.specs.Imports.{IsReachedFile}
use Rattle.argot_names_rules.specs.PackageScope.{Sort as Kinds, IsTopName, HasScope, IsTop}
use Rattle.argot_names_rules.specs.PackageScope.Sort.{Value as kind_value, Kind as kind_kind, Function as kind_function}
use Rattle.argot_names_blocks.specs.declared.tops.Sort.{Sort}
use Rattle.argot_names_blocks.specs.declared.tops.Sort.TheVariants as sorts
use Rattle.argot_names_blocks.specs.declared.tops.TopName.{TopName}
use Rattle.argot_names_blocks.specs.Looking.{sort_of}
use Rattle.argot_names_imports.proofs.Lists.{get_two, get_before, get_behind, get_below}
use Rattle.argot_names_imports.proofs.Surveys.{owned, one_owner}
use Rattle.argot_names_imports.proofs.ReachedFrom.{reached_proper}
use Rattle.argot_names_scopes.specs.declared.file.FileNames.{FileNames}
use Rattle.argot_names_imports.specs.declared.reached.Reached.{Reached}
use Rattle.argot_names_imports.specs.Reached.{homes_of, IsReach}
use Rattle.argot_names_imports.specs.Numbers.{IsOfNumber}
use Rattle.argot_names_tops.specs.declared.named.Named.{Named}
use Rattle.argot_files.specs.Places.{place_of}
use Rattle.argot_names_tops.specs.TopNames.{start_of, text_in, IsScopedTop, GivesTop}
use Rattle.argot_names_tops.specs.Collecting.{AreCollected}
use Rattle.argot_names_tops.specs.Declaring.{ComesBefore, IsDeclared, HasItem, AreDeclared, AreDeclaredIn, AreDeclaredBelow}
use Rattle.argot_names_tops.specs.Tops.{IsNamesOf, AreFiles}
use Rattle.argot_names_tops.proofs.Ordering.{ordered_all}

some_is : {A : Type 0} (x y : A) → Some x ≡ Some y → x ≡ y
some_is x y e = cc

sort_back : Kinds → Sort
sort_back kind_value = sorts.Value
sort_back kind_kind = sorts.Kind
sort_back kind_function = sorts.Function

sort_there : (s : Kinds) → sort_of (sort_back s) ≡ s
unfolding sort_back
sort_there kind_value = refl
sort_there kind_kind = refl
sort_there kind_function = refl

-- a file is of one package
pub one_number : (h : SourceFiles) (main : List ℕ) (r : Reached) (is : IsReach h main r) (file a b : ℕ) → IsOfNumber h r file a → IsOfNumber h r file b → a ≡ b
one_number h main r is file a b x y =
    let of_x = owned h x.home file (reached_proper h main x.home (is.reached.sound x.home (a, x.in_home))) x.of in
    let of_y = owned h y.home file (reached_proper h main y.home (is.reached.sound y.home (b, y.in_home))) y.of in
    let same : x.home ≡ y.home = one_owner h x.home y.home file of_x of_y in
    is.reached.once a b x.home x.in_home (subst (λ q. slice_get (homes_of h r) b ≡ Some q) (sym same) y.in_home)

read_is : (h : SourceFiles) (file : ℕ) (n : FileNames) → IsNamesOf h file n → ◌≡◌ {A = SourceFile} (record { bytes = n.bytes.now; tokens = n.tokens.now; nodes = n.tree.now.nodes }) (read_of h file)
read_is h file n is = λ i. record { bytes = is.bytes i; tokens = is.tokens i; nodes = is.nodes i }

-- a token that begins somewhere
token_at : (o : Option Token) (offset : ℕ) → start_of o ≡ Some offset → (t : Token) × (o ≡ Some t) × (offset ≡ t.start)
token_at None offset e = absurd (cc)
token_at (Some t) offset e = (t, refl, cc)

module _ (h : SourceFiles) (main : List ℕ) (r : Reached) (is : IsReach h main r) (file number : ℕ) (of : IsOfNumber h r file number) (n : FileNames) (names : IsNamesOf h file n) where
  abbrev Gives : ℕ → TopName → Named → Type 0
  Gives = GivesTop n.bytes.now n.tokens.now number file

  abbrev Mine : List Named → Type 0
  Mine items = AreCollected Gives n.bindings.tops.items (length n.bindings.tops.items) items

  same_read : ◌≡◌ {A = SourceFile} (record { bytes = n.bytes.now; tokens = n.tokens.now; nodes = n.tree.now.nodes }) (read_of h file)
  same_read = read_is h file n names

  -- a name that is given is declared
  declares : (k : ℕ) (t : TopName) (m : Named) → slice_get n.bindings.tops.items k ≡ Some t → IsScopedTop n.bytes.now n.tokens.now number file t m → IsDeclared h (homes_of h r) m
  declares k t m at s =
      let top = names.names.brings.tops.sound t (k, at) in
      let token = token_at (slice_get n.tokens.now t.token) m.place.offset s.begins in
      let scope : HasScope (sort_of t.sort) m.name.now = subst (HasScope (sort_of t.sort)) (sym s.spells) s.has_scope in
      let named : m.name.now ≢ codes "_" = subst (λ x. x ≢ codes "_") (sym s.spells) s.named in
      record {
        home = of.home;
        in_home = subst (λ k. slice_get (homes_of h r) k ≡ Some of.home) (sym s.scope_is) of.in_home;
        top = subst (λ f. IsTop h of.home m.name.now f m.of (place_of m.place)) (sym s.file_is)
            (record {
              of = of.of;
              sort = sort_of t.sort;
              token = t.token;
              is = subst (λ node. IsTopName (read_of h file).nodes (sort_of t.sort) node t.token) (sym s.of_is) (subst (λ f. IsTopName f.nodes (sort_of t.sort) t.node t.token) same_read top);
              spells = subst (λ f. m.name.now ≡ text_at f t.token) same_read s.spells;
              scope = scope;
              named = named;
              begins = record { is = token.0; there = subst (λ f. slice_get f.tokens t.token ≡ Some token.0) same_read token.1; in_file = s.file_is; at = token.2 };
            });
      }

  -- and each declaration is given
  given : (items : List Named) → Mine items → (other : ℕ) (home : PackageKey) (name : List ℕ) (node : ℕ) (place : Place) → slice_get (homes_of h r) other ≡ Some home → IsTop h home name file node place → HasItem items other name node place
  given items are other home name node place at top =
      let other_is : other ≡ number = one_number h main r is file other number (record { home = home; in_home = at; of = top.of }) of in
      let t : TopName = record { sort = sort_back top.sort; node = node; token = top.token } in
      let sort : top.sort ≡ sort_of (sort_back top.sort) = sym (sort_there top.sort) in
      let declared : IsTopName n.tree.now.nodes (sort_of (sort_back top.sort)) node top.token = subst (λ f. IsTopName f.nodes (sort_of (sort_back top.sort)) node top.token) (sym same_read) (subst (λ s. IsTopName (read_of h file).nodes s node top.token) sort top.is) in
      let i = names.names.brings.tops.complete t declared in
      let text : name ≡ text_in n.bytes.now n.tokens.now top.token = subst (λ f. name ≡ text_at f top.token) (sym same_read) top.spells in
      let start : start_of (slice_get n.tokens.now top.token) ≡ Some place.offset = ap start_of (subst (λ f. slice_get f.tokens top.token ≡ Some top.begins.is) (sym same_read) top.begins.there) ∙ ap (λ x. Some x) (sym top.begins.at) in
      let m : Named = record { scope = number; name = record { ref_ptr = (0, 0); now = name }; place = record { file = file; offset = place.offset }; of = node } in
      let scoped : IsScopedTop n.bytes.now n.tokens.now number file t m =
      record {
        scope_is = refl;
        file_is = refl;
        of_is = refl;
        spells = text;
        has_scope = subst (λ x. HasScope (sort_of (sort_back top.sort)) x) text (subst (λ s. HasScope s name) sort top.scope);
        named = subst (λ x. x ≢ codes "_") text top.named;
        begins = start;
      }
      in
      let g = are.complete i.0 t m (get_below n.bindings.tops.items i.0 t i.1) i.1 scoped in
      record {
        number = g.place;
        item = g.name;
        there = g.there;
        scope_is = g.gives.scope_is ∙ sym other_is;
        name_is = g.gives.spells ∙ sym text;
        of_is = g.gives.of_is;
        place_is = same_place g.name.place.file place.file g.name.place.offset place.offset (g.gives.file_is ∙ sym top.begins.in_file) (some_is g.name.place.offset place.offset (sym g.gives.begins ∙ start));
      }
    where
      same_place : (a b c d : ℕ) → a ≡ b → c ≡ d → ◌≡◌ {A = Place} (record { file = a; offset = c }) (record { file = b; offset = d })
      same_place a b c d e f = λ i. record { file = e i; offset = f i }

  pub declared_here : (items : List Named) → Mine items → AreDeclaredIn h (homes_of h r) file items
  declared_here items are =
      record {
        ordered = λ j k a b low f g.
            let o = are.ordered j k a b low f g in
            omega (arith, ordered_all (λ (x y : TopName). x.node < y.node) (λ x y z p q. omega (arith, p, q)) n.bindings.tops.items names.names.brings.tops.ordered o.one o.other o.x o.y o.before o.x_there o.y_there, o.a_is.of_is, o.b_is.of_is);
        in_file = λ k m at. (are.sound k m at).gives.file_is;
        sound = λ k m at.
            let s = are.sound k m at in
            declares s.number s.item m s.there s.gives;
        complete = λ other home name node place at top. given items are other home name node place at top;
      }

-- a file of no package declares nothing
pub declared_nowhere : (h : SourceFiles) (main : List ℕ) (r : Reached) (is : IsReach h main r) (file : ℕ) (items : List Named) → items ≡ [] → ((home : PackageKey) → IsReachedFile h main home file → ⊥) → AreDeclaredIn h (homes_of h r) file items
declared_nowhere h main r is file items e none =
    subst (AreDeclaredIn h (homes_of h r) file) (sym e)
    (record {
      ordered = λ j k a b low f g. absurd (cc);
      in_file = λ k m at. absurd (cc);
      sound = λ k m at. absurd (cc);
      complete = λ number home name node place at top. absurd (none home (record { reached = is.reached.sound home (number, at); of = top.of }));
    })

module _ (h : SourceFiles) (homes : List PackageKey) where
  pub declared_none : (items : List Named) → items ≡ [] → AreDeclaredBelow h homes 0 items
  declared_none items e =
      subst (AreDeclaredBelow h homes 0) (sym e)
      (record {
        ordered = λ j k a b low f g. absurd (cc);
        below = λ k m at. absurd (cc);
        sound = λ k m at. absurd (cc);
        complete = λ number home name file node place low at top. absurd (omega (arith, low));
      })

  pub declared_more : (file : ℕ) (all these new : List Named) → AreDeclaredBelow h homes file all → AreDeclaredIn h homes file these → new ≡ all ++ these → AreDeclaredBelow h homes (file + 1) new
  declared_more file all these new are more e =
      subst (AreDeclaredBelow h homes (file + 1)) (sym e)
      (record {
        ordered = λ j k a b low f g. order j k a b low f g;
        below = λ k m at. elim (get_two all these k m at) [ inl f ↦ omega (arith, are.below k m f) | inr f ↦ omega (arith, more.in_file f.0 m f.2) ];
        sound = λ k m at. elim (get_two all these k m at) [ inl f ↦ are.sound k m f | inr f ↦ more.sound f.0 m f.2 ];
        complete = λ number home name other node place low at top. either number home name other node place low at top (cases_eq other file);
      })
    where
      order : (j k : ℕ) (a b : Named) → j < k → slice_get (all ++ these) j ≡ Some a → slice_get (all ++ these) k ≡ Some b → ComesBefore a b
      order j k a b low f g =
          elim (get_two all these j a f) [
            | inl p ↦ elim (get_two all these k b g) [
              | inl q ↦ are.ordered j k a b low p q
              | inr q ↦ inl (omega (arith, are.below j a p, more.in_file q.0 b q.2))
            ]
            | inr p ↦ elim (get_two all these k b g) [
              | inl q ↦ absurd (omega (arith, low, p.1, get_below all k b q))
              | inr q ↦ inr (more.in_file p.0 a p.2 ∙ sym (more.in_file q.0 b q.2), more.ordered p.0 q.0 a b (omega (arith, low, p.1, q.1)) p.2 q.2)
            ]
          ]

      front : (number : ℕ) (name : List ℕ) (node : ℕ) (place : Place) → HasItem all number name node place → HasItem (all ++ these) number name node place
      front number name node place i =
          record { number = i.number; item = i.item; there = get_before all these i.number i.item i.there; scope_is = i.scope_is; name_is = i.name_is; of_is = i.of_is; place_is = i.place_is }

      back : (number : ℕ) (name : List ℕ) (node : ℕ) (place : Place) → HasItem these number name node place → HasItem (all ++ these) number name node place
      back number name node place i =
          record { number = length all + i.number; item = i.item; there = get_behind all these i.number i.item i.there; scope_is = i.scope_is; name_is = i.name_is; of_is = i.of_is; place_is = i.place_is }

      either : (number : ℕ) (home : PackageKey) (name : List ℕ) (other node : ℕ) (place : Place) → other < file + 1 → slice_get homes number ≡ Some home → IsTop h home name other node place → (other ≡ file) ⊎ (other ≢ file) → HasItem (all ++ these) number name node place
      either number home name other node place low at top (inl same) = back number name node place (more.complete number home name node place at (subst (λ f. IsTop h home name f node place) same top))
      either number home name other node place low at top (inr apart) = front number name node place (are.complete number home name other node place (omega (arith, low, apart)) at top)

-- all files
pub declared_all : (h : SourceFiles) (main : List ℕ) (r : Reached) (is : IsReach h main r) (count : ℕ) (files : List (Option FileNames)) (items : List Named) → AreFiles h r files → length files ≡ count → AreDeclaredBelow h (homes_of h r) count items → AreDeclared h (homes_of h r) items
declared_all h main r is count files items known long are =
    record {
      ordered = are.ordered;
      sound = are.sound;
      complete = λ number home name file node place at top.
          let n = known.all file number (record { home = home; in_home = at; of = top.of }) in
          are.complete number home name file node place (omega (arith, get_below files file (Some n.0) n.1, long)) at top;
    }
