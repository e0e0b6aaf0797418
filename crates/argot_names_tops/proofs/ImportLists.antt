-- The names of imports.
use Rattle.std.proofs.Common.{◌≡◌, ◌≢◌, ℕ, inl, inr, List, length, Option, Some, None, refl, sym, ap, ◌∙◌, subst, arith}
use Rattle.std.specs.Prelude.{◌⊎◌, codes, slice_get}
use Rattle.argot_tree.specs.declared.token.Token.{Token}
use Rattle.argot_tree.specs.declared.tree.TreeNode.{TreeNode}
use Rattle.argot_tree.specs.declared.node_kind.NodeKind.TheVariants as nodes
use Rattle.argot_names_rules.specs.declared.package_key.PackageKey.{PackageKey}
use Rattle.argot_names_rules.specs.declared.alias.Alias.{Alias}
use Rattle.argot_names_rules.specs.declared.alias.Alias.TheVariants.{Unnamed, Dotted, Named as Aliased}
use Rattle.argot_names_rules.specs.Files.{SourceFiles, SourceFile, Place, Begins, bytes_of, read_of, text_at, spelled}
use Rattle.argot_names_rules.specs.Nodes.{Spans}
use Rattle.argot_names_rules.specs.Packages.{HasClause, HasName, IsLeftOut, Finds, of_module, handwritten, of_library}
use Rattle.argot_names_rules.specs.Imports.{Imports, onward, IsReached, IsReachedFile}
use Rattle.argot_names_rules.specs.PackageScope.{Imported, own, of_package, left_out, IsImported}
use Rattle.argot_typed.specs.declared.program.Package.{Package}
use Rattle.argot_names_imports.specs.declared.written.Written.{Written}
use Rattle.argot_names_imports.specs.declared.find.Found.{Found}
use Rattle.argot_names_imports.specs.declared.find.Found.TheVariants.{LeftOut}
use Rattle.argot_names_imports.specs.Found.{IsFound}
use Rattle.argot_names_imports.specs.Found.IsFound.{folder as found_folder, library as found_library, unhanded, left_out as found_left_out, nothing}
use Rattle.argot_names_imports.proofs.Lists.{get_below, get_there, get_none}
use Rattle.argot_names_imports.proofs.Siting.{one_site}
use Rattle.argot_names_imports.proofs.Surveys.{finds_one}
use Rattle.argot_names_imports.specs.declared.reached.Reached.{Reached}
use Rattle.argot_names_imports.specs.Reached.{homes_of, IsReach}
use Rattle.argot_names_imports.specs.Numbers.{IsOfNumber, IsFoundBy}
use Rattle.argot_names_imports.proofs.Standing.{first_is_one}
use Rattle.argot_names_tops.specs.declared.named.Named.{Named}
use Rattle.argot_files.specs.Places.{place_of}
use Rattle.argot_names_tops.specs.TopNames.{start_of}
use Rattle.argot_names_tops.specs.Importing.{IsImportName, HasImport, AreImportNames}
use Rattle.argot_names_tops.specs.Collecting.{AreCollected}
use Rattle.argot_names_tops.specs.ImportNames.{IsImportAt, IsImportItem, GivesImport, written_in}
use Rattle.argot_files.specs.declared.place.Place.{Place as Spot}

some_is : {A : Type 0} (x y : A) → Some x ≡ Some y → x ≡ y
some_is x y e = cc

-- a clause has one name, and a package too
one_clause : (f : SourceFile) (a b : List ℕ) → HasClause f a → HasClause f b → a ≡ b
one_clause f a b x y =
    let parent = some_is x.child.is y.child.is (sym x.child.there ∙ y.child.there) in
    let node : x.node ≡ y.node = some_is x.node y.node (sym x.child.first ∙ ap (λ n. n.first) parent ∙ y.child.first) in
    let token : x.token ≡ y.token = one_token f.nodes x.node y.node x.token y.token x.last y.last node x.spans y.spans in
    x.is ∙ ap (text_at f) token ∙ sym y.is
  where
    one_token : (tree : List TreeNode) (m n : ℕ) (s t u v : ℕ) → m ≡ n → Spans tree m nodes.DeclName s u → Spans tree n nodes.DeclName t v → s ≡ t
    one_token tree m n s t u v e p q = ap (λ x. x.token) (some_is _ _ (sym p.there ∙ ap (slice_get tree) e ∙ q.there))

pub one_name : (h : SourceFiles) (home : PackageKey) (a b : List ℕ) → HasName h home a → HasName h home b → a ≡ b
one_name h home a b x y =
    let file : x.file ≡ y.file = first_is_one h home x.file y.file x.first y.first in
    one_clause (read_of h y.file) a b (subst (λ f. HasClause (read_of h f) a) file x.clause) y.clause

finds_kept : (h : SourceFiles) (path : List ℕ) (a : PackageKey) → Finds h path a → IsLeftOut path → ⊥
finds_kept h path _ (of_module k m) left = k left
finds_kept h path _ (handwritten k n f) left = k left
finds_kept h path _ (of_library text k n s i) left = k left

-- the name that an import has by what it finds
abbrev FoundName : SourceFiles → List ℕ → List ℕ → Type 0
FoundName h path name = ((home : PackageKey) × Finds h path home × HasName h home name) ⊎ (IsLeftOut path × (name ≡ path))

abbrev OwnName : SourceFile → Alias → List ℕ → Type 0
OwnName f alias name = (token : ℕ) × (alias ≡ Aliased token) × (name ≡ text_at f token)

imported_by : (h : SourceFiles) (f : SourceFile) (path : List ℕ) (alias : Alias) (name : List ℕ) → Imported h f path alias name → OwnName f alias name ⊎ ((alias ≡ Unnamed) × FoundName h path name)
imported_by h f path _ _ (own {token = token}) = inl (token, refl, refl)
imported_by h f path _ name (of_package {home = home} finds is) = inr (refl, inl (home, finds, is))
imported_by h f path _ _ (left_out left) = inr (refl, inr (left, refl))

one_found : (h : SourceFiles) (path a b : List ℕ) → FoundName h path a → FoundName h path b → a ≡ b
one_found h path a b (inl x) (inl y) = one_name h y.0 a b (subst (λ q. HasName h q a) (finds_one h path x.0 y.0 x.1 y.1) x.2) y.2
one_found h path a b (inl x) (inr y) = absurd (finds_kept h path x.0 x.1 y.0)
one_found h path a b (inr x) (inl y) = absurd (finds_kept h path y.0 y.1 x.0)
one_found h path a b (inr x) (inr y) = x.1 ∙ sym y.1

-- an import declares one name
imported_one : (h : SourceFiles) (f : SourceFile) (path : List ℕ) (alias : Alias) (a b : List ℕ) → Imported h f path alias a → Imported h f path alias b → a ≡ b
imported_one h f path alias a b p q =
    elim (imported_by h f path alias a p) [
      | inl x ↦ elim (imported_by h f path alias b q) [
        | inl y ↦ x.2 ∙ ap (text_at f) (same_token x.0 y.0 (sym x.1 ∙ y.1)) ∙ sym y.2
        | inr y ↦ absurd (cc (x.1, y.0))
      ]
      | inr x ↦ elim (imported_by h f path alias b q) [ inl y ↦ absurd (cc (y.1, x.0)) | inr y ↦ one_found h path a b x.1 y.1 ]
    ]
  where
    same_token : (s t : ℕ) → ◌≡◌ {A = Alias} (Aliased s) (Aliased t) → s ≡ t
    same_token s t e = cc

-- and its place is one
same_import : (h : SourceFiles) (file : ℕ) (a b : List ℕ) (node : ℕ) (path : List ℕ) (p q : Place) → IsImported h file a node path p → IsImported h file b node path q → (a ≡ b) × (p ≡ q)
same_import h file a b node path p q x y =
    let parts = one_site (read_of h file).nodes node x.at y.at x.path_at y.path_at x.alias y.alias x.imports.is y.imports.is in (
      imported_one h (read_of h file) path y.alias a b (subst (λ l. Imported h (read_of h file) path l a) parts.2 x.declares) y.declares,
      one_place x.at y.at parts.0 p q x.begins y.begins,
    )
  where
    one_place : (s t : ℕ) → s ≡ t → (p q : Place) → Begins h file s p → Begins h file t q → p ≡ q
    one_place s t e p q x y =
        let same : x.is ≡ y.is = some_is x.is y.is (sym x.there ∙ ap (slice_get (read_of h file).tokens) e ∙ y.there) in
        let offset : p.offset ≡ q.offset = x.at ∙ ap (λ z. z.start) same ∙ sym y.at in
        let in_file : p.file ≡ q.file = x.in_file ∙ sym y.in_file in
        λ i. record { file = in_file i; offset = offset i }

-- by the bytes and tokens of a file alone
imported_in : (h : SourceFiles) (f g : SourceFile) (path : List ℕ) (alias : Alias) (name : List ℕ) → ((token : ℕ) → text_at f token ≡ text_at g token) → Imported h f path alias name → Imported h g path alias name
imported_in h f g path _ _ same (own {token = token}) = subst (λ x. Imported h g path (Aliased token) x) (sym (same token)) own
imported_in h f g path _ name same (of_package finds is) = of_package finds is
imported_in h f g path _ _ same (left_out left) = left_out left

module _ (h : SourceFiles) (main : List ℕ) (r : Reached) (is : IsReach h main r) where
  -- what a file of a package imports is reached
  reached_target : (k : ℕ) (w : Written) (target : PackageKey) → IsImportAt h r k w → Finds h w.path target → IsReached h main target
  reached_target k w target at finds =
      let of = at.of_package in
      let from = is.reached.sound of.home (at.package_, of.in_home) in
      let imports = is.survey.imports.sound w (k, at.there) in
      record {
        there = from.there;
        leads = onward from.leads (record { of = of.of; node = w.node; path_at = w.path_at; alias = w.alias; path = w.path; imports = imports; finds = finds });
      }

  found_at : (k : ℕ) (w : Written) → slice_get r.survey.imports.items k ≡ Some w → (f : Found) × (slice_get r.survey.founds.items k ≡ Some f) × IsFound h w.path f
  found_at k w there =
      let f = get_there r.survey.founds.items k (omega (arith, get_below r.survey.imports.items k w there, is.survey.founds.as_many)) in
      (f.0, f.1, is.survey.founds.each k w f.0 there f.1)

  -- a package that is found has this name
  pub found_package : (k number : ℕ) (w : Written) (p : Package) (f : SourceFile) → IsImportAt h r k w → IsFoundBy h r k number → slice_get r.packages.items number ≡ Some p → Imported h f w.path Unnamed p.name
  found_package k number w p f at by there =
      let same : by.import_ ≡ w = some_is by.import_ w (sym by.is_import ∙ at.there) in
      of_package (subst (λ v. Finds h v.path by.home) same by.finds) (is.each number by.home p by.in_home there).name

  pub package_there : (k number : ℕ) → IsFoundBy h r k number → slice_get r.packages.items number ≡ None → ⊥
  package_there k number by none = omega (arith, get_none r.packages.items number none, is.as_many, get_below (homes_of h r) number by.home by.in_home)

  -- a package that is left out has its path as its name
  pub left_out_path : (k : ℕ) (w : Written) (f : SourceFile) → IsImportAt h r k w → slice_get r.survey.founds.items k ≡ Some LeftOut → Imported h f w.path Unnamed w.path
  left_out_path k w f at out = left_out (out_of (is.survey.founds.each k w LeftOut at.there out))
    where
      out_of : {path : List ℕ} → IsFound h path LeftOut → IsLeftOut path
      out_of (found_left_out l) = l

  -- else no name is declared
  pub found_none : (k : ℕ) (w : Written) (f : SourceFile) (name : List ℕ) → IsImportAt h r k w → ((v : Written) (home : PackageKey) → slice_get r.survey.imports.items k ≡ Some v → Finds h v.path home → IsReached h main home → ⊥)
      → (slice_get r.survey.founds.items k ≡ Some LeftOut → ⊥) → Imported h f w.path Unnamed name → ⊥
  found_none k w f name at none not i =
      elim (imported_by h f w.path Unnamed name i) [
        | inl x ↦ absurd (cc (x.1))
        | inr x ↦ elim x.1 [
          | inl y ↦ none w y.0 at.there y.1 (reached_target k w y.0 at y.1)
          | inr y ↦ let g = found_at k w at.there in is_out g.0 g.1 g.2 y.0
        ]
      ]
    where
      is_out : (g : Found) → slice_get r.survey.founds.items k ≡ Some g → IsFound h w.path g → IsLeftOut w.path → ⊥
      is_out _ e (found_folder finds first) left = finds_kept h w.path _ finds left
      is_out _ e (found_library finds first) left = finds_kept h w.path _ finds left
      is_out _ e (unhanded finds n) left = finds_kept h w.path _ finds left
      is_out _ e (found_left_out l) left = not e
      is_out _ e (nothing l n) left = l left

-- an import under a dot declares no name
pub dotted_none : (h : SourceFiles) (f : SourceFile) (path : List ℕ) (alias : Alias) (name : List ℕ) → alias ≡ Dotted → Imported h f path alias name → ⊥
dotted_none h f path alias name e i =
    elim (imported_by h f path alias name i) [ inl x ↦ absurd (cc (x.1, e)) | inr x ↦ absurd (cc (x.0, e)) ]

pub own_name : (h : SourceFiles) (f : SourceFile) (path : List ℕ) (alias : Alias) (token : ℕ) (name : List ℕ) → alias ≡ Aliased token → name ≡ text_at f token → Imported h f path alias name
own_name h f path alias token name e n = subst (λ a. Imported h f path a name) (sym e) (subst (λ x. Imported h f path (Aliased token) x) (sym n) own)

token_at : (o : Option Token) (offset : ℕ) → start_of o ≡ Some offset → (t : Token) × (o ≡ Some t) × (offset ≡ t.start)
token_at None offset e = absurd (cc)
token_at (Some t) offset e = (t, refl, cc)

module _ (h : SourceFiles) (main : List ℕ) (r : Reached) (is : IsReach h main r) (bytes : List ℕ) (tokens : List Token) (file : ℕ) (bytes_is : bytes ≡ bytes_of h file) (tokens_is : tokens ≡ (read_of h file).tokens) where
  same_text : (token : ℕ) → text_at (written_in bytes tokens) token ≡ text_at (read_of h file) token
  same_text token = ap (λ b. spelled b (slice_get tokens token)) bytes_is ∙ ap (λ ts. spelled (bytes_of h file) (slice_get ts token)) tokens_is

  -- an item with the name that the import declares is given by it
  pub item_gives : (k : ℕ) (w : Written) (name : List ℕ) (n : Named) → w.file ≡ file → IsImportAt h r k w → Imported h (written_in bytes tokens) w.path w.alias name → IsImportItem tokens file w.at k name n → GivesImport h r k w n
  item_gives k w name n file_is at declares i =
      let imports : Imports (read_of h file) w.node w.at w.path_at w.alias w.path = subst (λ f. Imports (read_of h f) w.node w.at w.path_at w.alias w.path) file_is (is.survey.imports.sound w (k, at.there)) in
      let name_is : Imported h (read_of h file) w.path w.alias n.name.now = subst (λ x. Imported h (read_of h file) w.path w.alias x) (sym i.name_is) (imported_in h (written_in bytes tokens) (read_of h file) w.path w.alias name same_text declares) in
      let named : n.name.now ≢ codes "_" = subst (λ x. x ≢ codes "_") (sym i.name_is) i.named in
      let token = token_at (slice_get tokens w.at) n.place.offset i.begins in
      let begins : Begins h file w.at (place_of n.place) = record { is = token.0; there = subst (λ ts. slice_get ts w.at ≡ Some token.0) tokens_is token.1; in_file = i.file_is; at = token.2 } in
      record {
        of_is = i.of_is;
        name = record {
          import_ = w;
          package_ = at.package_;
          of_package = subst (λ f. IsOfNumber h r f at.package_) (file_is ∙ sym i.scope_is) at.of_package;
          there = subst (λ j. slice_get r.survey.imports.items j ≡ Some w) (sym i.of_is) at.there;
          file_is = file_is ∙ sym i.scope_is;
          is = subst (λ f. IsImported h f n.name.now w.node w.path (place_of n.place)) (sym i.scope_is) (record { at = w.at; path_at = w.path_at; alias = w.alias; imports = imports; declares = name_is; named = named; begins = begins });
        };
      }

  -- and what is given has the name that the import declares
  pub gives_item : (k : ℕ) (w : Written) (n : Named) → w.file ≡ file → slice_get r.survey.imports.items k ≡ Some w → GivesImport h r k w n → Imported h (written_in bytes tokens) w.path w.alias n.name.now × IsImportItem tokens file w.at k n.name.now n
  gives_item k w n file_is there g =
      let one : g.name.import_ ≡ w = some_is g.name.import_ w (sym g.name.there ∙ ap (slice_get r.survey.imports.items) g.of_is ∙ there) in
      let scope : n.scope ≡ file = sym g.name.file_is ∙ ap (λ v. v.file) one ∙ file_is in
      let i : IsImported h file n.name.now w.node w.path (place_of n.place) =
      subst (λ v. IsImported h file n.name.now v.node v.path (place_of n.place)) one (subst (λ f. IsImported h f n.name.now g.name.import_.node g.name.import_.path (place_of n.place)) scope g.name.is)
      in
      let imports : Imports (read_of h file) w.node w.at w.path_at w.alias w.path = subst (λ f. Imports (read_of h f) w.node w.at w.path_at w.alias w.path) file_is (is.survey.imports.sound w (k, there)) in
      let parts = one_site (read_of h file).nodes w.node i.at w.at i.path_at w.path_at i.alias w.alias i.imports.is imports.is in
      let declares : Imported h (written_in bytes tokens) w.path w.alias n.name.now =
      imported_in h (read_of h file) (written_in bytes tokens) w.path w.alias n.name.now (λ t. sym (same_text t)) (subst (λ a. Imported h (read_of h file) w.path a n.name.now) parts.2 i.declares)
      in
      let begins : start_of (slice_get tokens w.at) ≡ Some n.place.offset =
      ap (λ t. start_of (slice_get tokens t)) (sym parts.0) ∙ ap (λ ts. start_of (slice_get ts i.at)) tokens_is ∙ ap start_of i.begins.there ∙ ap (λ x. Some x) (sym i.begins.at)
      in (
        declares,
        record { scope_is = scope; file_is = i.begins.in_file; of_is = g.of_is; name_is = refl; named = i.named; begins = begins },
      )

  -- where the import declares another name, or none
  pub gives_no_item : (k : ℕ) (w : Written) (name : List ℕ) (n : Named) → w.file ≡ file → slice_get r.survey.imports.items k ≡ Some w → Imported h (written_in bytes tokens) w.path w.alias name
      → ((m : Named) → IsImportItem tokens file w.at k name m → ⊥) → GivesImport h r k w n → ⊥
  gives_no_item k w name n file_is there declares none g =
      let i = gives_item k w n file_is there g in
      let same : n.name.now ≡ name = imported_one h (written_in bytes tokens) w.path w.alias n.name.now name i.0 declares in
      none n (subst (λ x. IsImportItem tokens file w.at k x n) same i.1)

-- an import of a file that is of no package gives nothing
pub gives_nowhere : (h : SourceFiles) (main : List ℕ) (r : Reached) (is : IsReach h main r) (k : ℕ) (w : Written) (n : Named) → slice_get r.survey.imports.items k ≡ Some w → ((home : PackageKey) → IsReachedFile h main home w.file → ⊥) → GivesImport h r k w n → ⊥
gives_nowhere h main r is k w n there none g =
    let one : g.name.import_ ≡ w = some_is g.name.import_ w (sym g.name.there ∙ ap (slice_get r.survey.imports.items) g.of_is ∙ there) in
    let scope : n.scope ≡ w.file = sym g.name.file_is ∙ ap (λ v. v.file) one in
    let of = subst (λ f. IsOfNumber h r f g.name.package_) scope g.name.of_package in
    none of.home (record { reached = is.reached.sound of.home (g.name.package_, of.in_home); of = of.of })

-- all imports
pub names_all : (h : SourceFiles) (main : List ℕ) (r : Reached) (is : IsReach h main r) (items : List Named) → AreCollected (GivesImport h r) r.survey.imports.items (length r.survey.imports.items) items → AreImportNames h r items
names_all h main r is items are =
    record {
      ordered = λ j k a b low f g. let o = are.ordered j k a b low f g in omega (arith, o.before, o.a_is.of_is, o.b_is.of_is);
      sound = λ k n at. (are.sound k n at).gives.name;
      complete = λ package_ file name node path place of i. all package_ file name node path place of i;
    }
  where
    all : (package_ file : ℕ) (name : List ℕ) (node : ℕ) (path : List ℕ) (place : Place) → IsOfNumber h r file package_ → IsImported h file name node path place → HasImport items r file name node path place
    all package_ file name node path place of i =
        let w : Written = record { file = file; node = node; at = i.at; path_at = i.path_at; alias = i.alias; path = path } in
        let at = is.survey.imports.complete w i.imports in
        let spot : Spot = record { file = file; offset = place.offset } in
        let n : Named = record { scope = file; name = record { ref_ptr = (0, 0); now = name }; place = spot; of = at.0 } in
        let begins : Begins h file i.at (place_of spot) = record { is = i.begins.is; there = i.begins.there; in_file = refl; at = i.begins.at } in
        let is_name : IsImportName h r n =
        record {
          import_ = w;
          package_ = package_;
          of_package = of;
          there = at.1;
          file_is = refl;
          is = record { at = i.at; path_at = i.path_at; alias = i.alias; imports = i.imports; declares = i.declares; named = i.named; begins = begins };
        }
        in
        let g = are.complete at.0 w n (get_below r.survey.imports.items at.0 w at.1) at.1 (record { of_is = refl; name = is_name }) in
        let m = g.gives.name in
        let one : m.import_ ≡ w = some_is m.import_ w (sym m.there ∙ ap (slice_get r.survey.imports.items) g.gives.of_is ∙ at.1) in
        let scope : g.name.scope ≡ file = sym m.file_is ∙ ap (λ v. v.file) one in
        let found : IsImported h file g.name.name.now node path (place_of g.name.place) =
        subst (λ v. IsImported h file g.name.name.now v.node v.path (place_of g.name.place)) one (subst (λ f. IsImported h f g.name.name.now m.import_.node m.import_.path (place_of g.name.place)) scope m.is)
        in
        let same = same_import h file g.name.name.now name node path (place_of g.name.place) place found i in
        record {
          number = at.0;
          import_ = w;
          there = at.1;
          file_is = refl;
          node_is = refl;
          path_is = refl;
          item = record { number = g.place; item = g.name; there = g.there; scope_is = scope; name_is = same.0; of_is = g.gives.of_is; place_is = same.1 };
        }
