-- The tables that are made of a loaded program's uses have for each node what its name stands for.
use Rattle.std.proofs.Common.{◌≡◌, ℕ, ◌<◌, List, Bool, true, Option, Some, None, length, refl, sym, ap, ◌∙◌, subst}
use Rattle.std.specs.Prelude.{slice_get, ◌↔◌, map}
use Rattle.argot_tree.specs.declared.tree.Tree.{Tree}
use Rattle.argot_tree.specs.declared.tree.TreeNode.{TreeNode}
use Rattle.argot_typed.specs.declared.program.Packages.{Packages}
use Rattle.argot_typed.specs.declared.program.Decl.{Decl}
use Rattle.argot_typed.specs.declared.program.Use.{Use}
use Rattle.argot_names_rules.specs.Lists.{In}
use Rattle.argot_names_rules.specs.Files.{SourceFiles, nodes_in, read_of}
use Rattle.argot_names_rules.specs.Packages.{IsFileOf}
use Rattle.argot_names_rules.specs.declared.package_key.PackageKey.{PackageKey}
use Rattle.argot_names_rules.specs.Imports.{IsReached, IsReachedFile}
use Rattle.argot_names_rules.specs.Universe.{predeclared}
use Rattle.argot_names_rules.specs.Scopes.{Declaration, Predeclared, Declared}
use Rattle.argot_names_rules.specs.Uses.{StandsFor}
use Rattle.argot_names_rules.specs.Loaded.{number_of, predeclared_decl, IsThat, IsLoaded}
use Rattle.argot_names_rules.specs.declared.flag.Feature.{Feature}
use Rattle.argot_names_rules.specs.Subset.{DeclaresType}
use Rattle.argot_names_rules.specs.Subset.DeclaresType.{predeclared as type_predeclared, declared as type_declared}
use Rattle.argot_names_imports.specs.Surveyed.{IsProper}
use Rattle.argot_names_imports.proofs.Lists.{get_below, in_behind}
use Rattle.argot_names_imports.proofs.ReachedFrom.{reached_proper}
use Rattle.argot_names_imports.proofs.Surveys.{owned, one_owner}
use Rattle.argot_names_subset_file.specs.declared.standings.Standings.{Standings}
use Rattle.argot_names_subset_file.specs.Standings.{IsTypeDecl, predeclared as decl_predeclared, declared as decl_declared, AreStandings}
use Rattle.argot_names_subset_file.specs.Tables.{IsTypeDeclared, AreTypes}
use Rattle.argot_names_subset_file.proofs.Counting.{one_number}
use Rattle.argot_names_subset.specs.Meanings.{IsFeatureName, IsTypeName, AreTables}
use Rattle.argot_names_subset.proofs.NodesThere.{IsThere, declared_there, stands_there, stands_made}
use Rattle.argot_names_subset.proofs.Features.{number_featured, feature_number, type_number, number_type, type_named, predeclared_at}

pub some_is : {A : Type 0} (x y : A) → Some x ≡ Some y → x ≡ y
some_is x y e = cc

-- the tree of a node that is there
pub tree_of : (h : SourceFiles) (file node : ℕ) → IsThere (read_of h file).nodes node → (t : Tree) × (slice_get h.trees file ≡ Some t) × (node < length t.nodes)
tree_of h file node n = go (slice_get h.trees file) n.1
  where
    go : (o : Option Tree) → slice_get (nodes_in o) node ≡ Some n.0 → (t : Tree) × (o ≡ Some t) × (node < length t.nodes)
    go None e = absurd (cc)
    go (Some t) e = (t, refl, get_below t.nodes node n.0 e)

-- a number is that of one node of one file
pub one_node : (h : SourceFiles) (f g m n : ℕ) → IsThere (read_of h f).nodes m → IsThere (read_of h g).nodes n → number_of h f m ≡ number_of h g n → (f ≡ g) × (m ≡ n)
one_node h f g m n x y same =
    let s = tree_of h f m x in
    let t = tree_of h g n y in
    one_number h.trees f g m n s.0 t.0 s.1 t.1 s.2 t.2 same

module _ (h : SourceFiles) (main : List ℕ) (p : Packages) (is : IsLoaded h main p) where
  pub reached_in : (home : PackageKey) → In home is.homes → IsReached h main home
  reached_in home i = is.reached.sound home i

  pub proper_in : (home : PackageKey) → In home is.homes → IsProper home
  proper_in home i = reached_proper h main home (reached_in home i)

  file_in : (home : PackageKey) (file : ℕ) → In home is.homes → IsFileOf h home file → IsReachedFile h main home file
  file_in home file i of = record { reached = reached_in home i; of = of }

  -- a file is of one package
  pub one_home : (a b : PackageKey) (file : ℕ) → In a is.homes → In b is.homes → IsFileOf h a file → IsFileOf h b file → a ≡ b
  one_home a b file i j x y = one_owner h a b file (owned h a file (proper_in a i) x) (owned h b file (proper_in b j) y)

  -- the use of a node says what it stands for
  record Means (home : PackageKey) (file node decl : ℕ) : Type 0 where
    pub meant : Declaration
    pub stands : StandsFor h home file node meant
    pub item : Decl
    pub there : slice_get p.decls decl ≡ Some item
    pub that : IsThat h meant item

  use_means : (u : Use) (home : PackageKey) (file node : ℕ) → In u p.uses → In home is.homes → IsFileOf h home file → IsThere (read_of h file).nodes node → u.node ≡ number_of h file node → Means home file node u.decl
  use_means u home file node i j of there at =
      let x = is.uses.sound u i in
      let same = one_node h x.file file x.node node (stands_there h x.home x.file x.node x.meant x.stands) there (sym x.node_is ∙ at) in
      let home_is : x.home ≡ home = one_home x.home home file (x.number, x.in_home) j (subst (IsFileOf h x.home) same.0 x.of) of in
      record {
        meant = x.meant;
        stands = subst (λ a. StandsFor h a file node x.meant) home_is (subst (λ f. StandsFor h x.home f node x.meant) same.0 (subst (λ n. StandsFor h x.home x.file n x.meant) same.1 x.stands));
        item = x.decl;
        there = x.there;
        that = x.is;
      }

  -- and what a node stands for has a use
  means_use : (home : PackageKey) (file node d : ℕ) (meant : Declaration) (item : Decl) → In home is.homes → IsFileOf h home file → StandsFor h home file node meant → slice_get p.decls d ≡ Some item → IsThat h meant item
      → In (record { node = number_of h file node; decl = d }) p.uses
  means_use home file node d meant item i of stands there that =
      is.uses.complete (record { node = number_of h file node; decl = d })
      (record { number = i.0; home = home; file = file; node = node; meant = meant; decl = item; in_home = i.1; of = of; stands = stands; node_is = refl; there = there; is = that })

  -- a predeclared name is the declaration at its number
  named_at : (d : ℕ) (name : List ℕ) → slice_get predeclared d ≡ Some name → slice_get p.decls d ≡ Some (predeclared_decl name)
  named_at d name e = predeclared_at p.decls is.decls.others d name is.decls.is e

  name_of : (meant : Declaration) (item : Decl) (name : List ℕ) → IsThat h meant item → item ≡ predeclared_decl name → meant ≡ Predeclared name
  name_of (Predeclared other) item name that e = ap Predeclared (sym that.1 ∙ ap (λ (d : Decl). d.name) e)
  name_of (Declared f n) item name that e = let none : item.node ≡ None = ap (λ (d : Decl). d.node) e in absurd (cc)

  predeclared_meant : (home : PackageKey) (file node d : ℕ) (name : List ℕ) (m : Means home file node d) → slice_get predeclared d ≡ Some name → m.meant ≡ Predeclared name
  predeclared_meant home file node d name m e = name_of m.meant m.item name m.that (some_is m.item (predeclared_decl name) (sym m.there ∙ named_at d name e))

  module _ (types : List Bool) (types_are : AreTypes h.trees types) (s : Standings) (are : AreStandings p.uses p.decls types s) where
    named_is : (home : PackageKey) (file node : ℕ) (x : TreeNode) (feature : Feature) → In home is.homes → IsFileOf h home file → slice_get (read_of h file).nodes node ≡ Some x
        → slice_get s.named.items (number_of h file node) ≡ Some (Some feature) ↔ IsFeatureName h home file node feature
    named_is home file node x feature i of there = (to, from)
      where
        to : slice_get s.named.items (number_of h file node) ≡ Some (Some feature) → IsFeatureName h home file node feature
        to e =
            let u = (are.named (number_of h file node) feature).0 e in
            let m = use_means u.use_ home file node u.among i of (x, there) u.at in
            let f = number_featured u.use_.decl feature u.holds in
            record { name = f.name; stands = subst (StandsFor h home file node) (predeclared_meant home file node u.use_.decl f.name m f.there) m.stands; is = f.is }

        from : IsFeatureName h home file node feature → slice_get s.named.items (number_of h file node) ≡ Some (Some feature)
        from f =
            let n = feature_number f.name feature f.is in
            (are.named (number_of h file node) feature).1
            (record {
              use_ = record { node = number_of h file node; decl = n.d };
              among = means_use home file node n.d (Predeclared f.name) (predeclared_decl f.name) i of f.stands (named_at n.d f.name n.there) (refl, refl);
              at = refl;
              holds = n.is;
            })

    -- the node of a declaration is the name of a type where the table says so
    declares_is : (f n : ℕ) → IsThere (read_of h f).nodes n → slice_get types (number_of h f n) ≡ Some true ↔ DeclaresType h (Declared f n)
    declares_is f n there =
        let t = tree_of h f n there in
        let each = types_are.each f n t.0 (get_below h.trees f t.0 t.1) t.1 t.2 in
        let nodes_are : (read_of h f).nodes ≡ t.0.nodes = ap nodes_in t.1 in (
          λ e. let d = subst (λ ns. IsTypeDeclared ns n) (sym nodes_are) (each.0 e) in type_declared d.is_spec d.under d.is_name,
          λ d. each.1 (subst (λ ns. IsTypeDeclared ns n) nodes_are (declared_type d)),
        )
      where
        declared_type : DeclaresType h (Declared f n) → IsTypeDeclared (read_of h f).nodes n
        declared_type (type_declared {spec = spec} {at = at} {last = last} spec_is under name) = record { spec = spec; at = at; last = last; is_spec = spec_is; under = under; is_name = name }

    typed_is : (home : PackageKey) (file node : ℕ) (x : TreeNode) → In home is.homes → IsFileOf h home file → slice_get (read_of h file).nodes node ≡ Some x → slice_get s.typed.items (number_of h file node) ≡ Some true ↔ IsTypeName h home file node
    typed_is home file node x i of there = (to, from)
      where
        by_decl : (d : ℕ) → Means home file node d → IsTypeDecl types p.decls d → IsTypeName h home file node
        by_decl d m (decl_predeclared less) =
            let n = type_named d less in
            record { meant = Predeclared n.0; stands = subst (StandsFor h home file node) (predeclared_meant home file node d n.0 m n.1) m.stands; declares = type_predeclared (number_type d n.0 less n.1) }
        by_decl d m (decl_declared {item = item} {node = at} at_decl node_is marked) = of_item m.meant m.stands m.that
          where
            same : m.item ≡ item
            same = some_is m.item item (sym m.there ∙ at_decl)

            of_item : (meant : Declaration) → StandsFor h home file node meant → IsThat h meant m.item → IsTypeName h home file node
            of_item (Predeclared name) stands that = let some : m.item.node ≡ Some at = ap (λ (d : Decl). d.node) same ∙ node_is in let none : m.item.node ≡ None = that.0 in absurd (cc)
            of_item (Declared f n) stands that =
                let made = stands_made h main home file (file_in home file i of) node f n (Declared f n) stands refl in
                let at_is : at ≡ number_of h f n = some_is at (number_of h f n) (sym node_is ∙ (sym (ap (λ (d : Decl). d.node) same) ∙ that)) in
                let yes = subst (λ k. slice_get types k ≡ Some true) at_is marked in
                record { meant = Declared f n; stands = stands; declares = (declares_is f n (declared_there h f n made.name made.declares)).0 yes }

        to : slice_get s.typed.items (number_of h file node) ≡ Some true → IsTypeName h home file node
        to e =
            let u = (are.typed (number_of h file node)).0 e in
            by_decl u.use_.decl (use_means u.use_ home file node u.among i of (x, there) u.at) u.holds

        by_use : (d : ℕ) → In (record { node = number_of h file node; decl = d }) p.uses → IsTypeDecl types p.decls d → slice_get s.typed.items (number_of h file node) ≡ Some true
        by_use d among holds = (are.typed (number_of h file node)).1 (record { use_ = record { node = number_of h file node; decl = d }; among = among; at = refl; holds = holds })

        -- the declaration that the node stands for
        decl_of : (f n : ℕ) → StandsFor h home file node (Declared f n) → (item : Decl) × In item p.decls × (item.node ≡ Some (number_of h f n)) × IsThere (read_of h f).nodes n
        decl_of f n stands =
            let made = stands_made h main home file (file_in home file i of) node f n (Declared f n) stands refl in
            let k = is.reached.complete made.home made.is.reached in
            let item : Decl = record { «package» = Some k.0; node = Some (number_of h f n); name = made.name } in
            let among = is.decls.others_are.complete item (record { number = k.0; home = made.home; file = f; node = n; in_home = k.1; of = made.is.of; declares = made.declares; package_is = refl; node_is = refl }) in
            (item, subst (In item) (sym is.decls.is) (in_behind (map predeclared_decl predeclared) is.decls.others item among), refl, declared_there h f n made.name made.declares)

        by_meant : (meant : Declaration) → StandsFor h home file node meant → DeclaresType h meant → slice_get s.typed.items (number_of h file node) ≡ Some true
        by_meant (Predeclared name) stands (type_predeclared among) =
            let n = type_number name among in
            by_use n.0 (means_use home file node n.0 (Predeclared name) (predeclared_decl name) i of stands (named_at n.0 name n.2) (refl, refl)) (decl_predeclared n.1)
        by_meant (Declared f n) stands d =
            let x = decl_of f n stands in
            by_use x.1.0 (means_use home file node x.1.0 (Declared f n) x.0 i of stands x.1.1 x.2) (decl_declared x.1.1 x.2 ((declares_is f n x.3).1 d))

        from : IsTypeName h home file node → slice_get s.typed.items (number_of h file node) ≡ Some true
        from t = by_meant t.meant t.stands t.declares

    pub tables_are : AreTables h is.homes s.named.items s.typed.items
    tables_are = record { named = named_is; typed = typed_is }
