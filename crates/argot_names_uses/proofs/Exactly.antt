-- The answers of looks into a file's lists are the numbers of what the nodes stand for.
use Rattle.std.proofs.Common.{◌≡◌, ◌≢◌, ℕ, List, Option, Some, None, refl, sym, ap, ◌∙◌, subst, codes}
use Rattle.std.specs.Prelude.{slice_get}
use Rattle.argot_tree.specs.declared.node_kind.NodeKind.TheVariants as nodes
use Rattle.argot_tree.specs.declared.tree.TreeNode.{TreeNode}
use Rattle.argot_typed.specs.declared.program.Decl.{Decl}
use Rattle.argot_names_rules.specs.declared.package_key.PackageKey.{PackageKey}
use Rattle.argot_names_rules.specs.Files.{SourceFiles, SourceFile, read_of, text_at}
use Rattle.argot_names_rules.specs.Imports.{IsReachedFile}
use Rattle.argot_names_rules.specs.Loaded.{top as declares_top}
use Rattle.argot_names_rules.specs.Bindings.{Defined, Brings, HasEarlier}
use Rattle.argot_names_rules.specs.Nodes.{Is}
use Rattle.argot_names_rules.specs.Scopes.{Declaration, Declared, Means}
use Rattle.argot_names_rules.specs.Uses.{IsLookup, IsQualified, IsOfPackage, IsMember, IsFirstOf, StandsFor}
use Rattle.argot_names_rules.specs.Uses.StandsFor.{member as stands_member, assigned as stands_assigned}
use Rattle.argot_names_blocks.specs.declared.bindings.Lookup.{Lookup}
use Rattle.argot_names_blocks.specs.declared.lookup.QualifiedName.{QualifiedName}
use Rattle.argot_names_blocks.specs.declared.binding.Binding.{Binding}
use Rattle.argot_names_blocks.specs.declared.binding.BindingKind.TheVariants as manners
use Rattle.argot_names_blocks.specs.Binding.{manner_of, IsBinding}
use Rattle.argot_names_blocks.specs.Listing.{IsSeen, IsMemberName}
use Rattle.argot_names_scopes.specs.declared.file.FileNames.{FileNames}
use Rattle.argot_names_scopes.specs.Files.{file_of}
use Rattle.argot_names_imports.specs.declared.reached.Reached.{Reached}
use Rattle.argot_names_tops.specs.declared.tops.PackageDecl.{PackageDecl}
use Rattle.argot_names_tops.specs.Tops.{IsNamesOf}
use Rattle.argot_names_uses.proofs.OneName.{node_there}
use Rattle.argot_names_uses.proofs.TopItems.{read_is}
use Rattle.argot_names_uses.specs.Packages.{IsImportMeant, IsPackageMeant}
use Rattle.argot_names_uses.specs.Packages.IsPackageMeant.{some as package_some, nothing as package_none}
use Rattle.argot_names_uses.specs.Members.{IsImportOf, IsMemberMeant}
use Rattle.argot_names_uses.specs.Members.IsMemberMeant.{some as member_some, nothing as member_none}
use Rattle.argot_answers.specs.Answers.{Exactly}
use Rattle.argot_names_uses.proofs.Faulty.{none_exactly}
use Rattle.argot_names_uses.specs.Numbers.{IsNumberOf, IsMeantBy, StandsBy, IsExactlyUnless}
use Rattle.argot_names_uses.proofs.Numbering.{some_is}
use Rattle.argot_names_uses.proofs.NodeRoles.{dotted_role, brings_role, brought_there}
use Rattle.argot_names_uses.proofs.NodeMeanings.{one_listed, one_first, one_member, lone_means, lone_stands, member_means, assigned_means}

module _ (h : SourceFiles) (home : PackageKey) (decls : List Decl) (file : ℕ) (n : FileNames) (is : IsNamesOf h file n) where
  abbrev tree : List TreeNode
  tree = (read_of h file).nodes

  abbrev text : ℕ → List ℕ
  text token = text_at (read_of h file) token

  module _ (l : Lookup) (seen : IsSeen n.tree.now.nodes l) where
    abbrev Qualified : Type 0
    Qualified = Is n.tree.now.nodes l.node nodes.QualifiedType

    looked : IsLookup tree l.node l.token
    looked = subst (λ t. IsLookup t l.node l.token) is.nodes seen.looked

    plain : (Qualified → ⊥) → Is tree l.node nodes.QualifiedType → ⊥
    plain not q = not (subst (λ t. Is t l.node nodes.QualifiedType) (sym is.nodes) q)

    pub blank_exactly : (name : List ℕ) → name ≡ text l.token → name ≡ codes "_" → IsExactlyUnless Qualified (StandsBy h home decls file l.node) None
    blank_exactly name e blank =
        record {
          sound = λ x f. absurd (cc);
          only = λ x y f i. absurd (cc);
          complete = λ x not i. absurd ((lone_means h home file l.node l.token i.meant looked (plain not) i.holds).named (sym e ∙ blank));
        }

    pub lone_exactly : (r : Option ℕ) → (text l.token ≡ codes "_" → ⊥) → (Qualified → ⊥) → Exactly (IsMeantBy (Means h home file l.token (text l.token)) h decls) r → IsExactlyUnless Qualified (StandsBy h home decls file l.node) r
    lone_exactly r named not exactly =
        record {
          sound = λ x f.
              let i = exactly.sound x f in
              record { meant = i.meant; holds = lone_stands h home file l.node l.token i.meant looked (plain not) named i.holds; is = i.is };
          only = λ x y f i. some_is x y (sym f ∙ whole y i);
          complete = λ x unless i. whole x i;
        }
      where
        whole : (x : ℕ) → StandsBy h home decls file l.node x → r ≡ Some x
        whole x i =
            let m = lone_means h home file l.node l.token i.meant looked (plain not) i.holds in
            exactly.complete x (record { meant = i.meant; holds = m.means; is = i.is })

  module _ (d : QualifiedName) (named : IsMemberName n.tree.now.nodes d) where
    dotted : IsQualified tree d.token d.member d.node
    dotted = subst (λ t. IsQualified t d.token d.member d.node) is.nodes named

    -- the tokens are those of the node
    one_dotted : (token member : ℕ) → IsQualified tree token member d.node → (token ≡ d.token) × (member ≡ d.member)
    one_dotted token member other =
        let x : QualifiedName = record { token = token; member = member; node = d.node } in
        let same : x ≡ d = one_listed (λ (y : QualifiedName). y.node) (IsMemberName n.tree.now.nodes) n.bindings.dotted.items is.names.brings.dotted x d (subst (λ t. IsQualified t token member d.node) (sym is.nodes) other) named refl in
        (ap (λ (y : QualifiedName). y.token) same, ap (λ (y : QualifiedName). y.member) same)

    pub no_package : (r : Reached) (o : Option ℕ) → o ≡ None → IsPackageMeant h r home file d.token o → Exactly (StandsBy h home decls file d.node) None
    no_package r _ e (package_some i) = absurd (cc)
    no_package r _ e (package_none none) =
        none_exactly (StandsBy h home decls file d.node) (λ x i.
        let m = member_means h home file d.node i.meant (dotted_role tree d.token d.member d.node dotted) i.holds in
        none m.path (subst (λ t. IsOfPackage h home file t m.path) (one_dotted m.token m.member m.dotted).0 m.of_package))

    module _ (r : Reached) (number : ℕ) (i : IsImportMeant h r home file d.token number) where
      -- what the node stands for is a member of that package
      of_import : (meant : Declaration) → StandsFor h home file d.node meant → (other : ℕ) × (declared : ℕ) × IsMember h i.import_.path (text d.member) other declared × (meant ≡ Declared other declared)
      of_import meant stands =
          let m = member_means h home file d.node meant (dotted_role tree d.token d.member d.node dotted) stands in
          let at = one_dotted m.token m.member m.dotted in
          let path : m.path ≡ i.import_.path = i.only m.path (subst (λ t. IsOfPackage h home file t m.path) at.0 m.of_package) in
          (m.other, m.declared, subst (λ p. IsMember h p (text d.member) m.other m.declared) path (subst (λ t. IsMember h m.path (text t) m.other m.declared) at.1 m.is), m.meant_is)

      pub no_member : (o : Option PackageDecl) → o ≡ None → IsMemberMeant h i.import_.path (text d.member) o → Exactly (StandsBy h home decls file d.node) None
      no_member _ f (member_some m first) = absurd (cc)
      no_member _ f (member_none none) =
          none_exactly (StandsBy h home decls file d.node) (λ x s.
          let m = of_import s.meant s.holds in
          none m.0 m.1 m.2)

      member_of : (o : Option PackageDecl) (top : PackageDecl) → o ≡ Some top → IsMemberMeant h i.import_.path (text d.member) o → IsMember h i.import_.path (text d.member) top.file top.node
      member_of _ top f (member_some {top = t} m first) = subst (λ (x : PackageDecl). IsMember h i.import_.path (text d.member) x.file x.node) (some_is t top f) m
      member_of _ top f (member_none none) = absurd (cc)

      pub member_there : (o : Option PackageDecl) (top : PackageDecl) → o ≡ Some top → IsMemberMeant h i.import_.path (text d.member) o → (x : TreeNode) × (slice_get (read_of h top.file).nodes top.node ≡ Some x)
      member_there o top f m = let is = member_of o top f m in node_there h top.file top.node _ (declares_top is.top.is)

      pub member_exactly : (o : Option PackageDecl) (top : PackageDecl) (a : Option ℕ) → o ≡ Some top → IsMemberMeant h i.import_.path (text d.member) o → Exactly (IsNumberOf h decls (Declared top.file top.node)) a → Exactly (StandsBy h home decls file d.node) a
      member_exactly o top a f m exactly =
          let own : IsMember h i.import_.path (text d.member) top.file top.node = member_of o top f m in
          record {
            sound = λ x g. record { meant = Declared top.file top.node; holds = stands_member dotted i.of_package own; is = exactly.sound x g };
            complete = λ x s.
                let o = of_import s.meant s.holds in
                let one = one_member h i.import_.path (text d.member) o.0 o.1 top.file top.node o.2 own in
                exactly.complete x (subst (λ y. IsNumberOf h decls y x) (o.3 ∙ ap (λ k. Declared k o.1) one.0 ∙ ap (λ k. Declared top.file k) one.1) s.is);
          }

  module _ (b : Binding) (brought : IsBinding n.tree.now.nodes b) where
    same_read : ◌≡◌ {A = SourceFile} (file_of n.bytes.now n.tokens.now n.tree.now.nodes) (read_of h file)
    same_read = read_is h file n is

    here : Brings tree (manner_of b.manner) b.node b.token b.opens b.closes b.from
    here = subst (λ t. Brings t (manner_of b.manner) b.node b.token b.opens b.closes b.from) is.nodes brought

    -- what the node brings is this
    one_brought : (token opens closes from : ℕ) → Brings tree Defined b.node token opens closes from → (b.manner ≡ manners.Defined) × (b.token ≡ token) × (b.opens ≡ opens)
    one_brought token opens closes from other =
        let x : Binding = record { manner = manners.Defined; node = b.node; token = token; opens = opens; closes = closes; from = from } in
        let same : b ≡ x = one_listed (λ (y : Binding). y.node) (IsBinding n.tree.now.nodes) n.bindings.brought.items is.names.brings.brought b x brought (subst (λ t. Brings t Defined b.node token opens closes from) (sym is.nodes) other) refl in
        (ap (λ (y : Binding). y.manner) same, ap (λ (y : Binding). y.token) same, ap (λ (y : Binding). y.opens) same)

    -- the first name of the block that it is, as the item has it
    record IsAssigned (meant : Declaration) : Type 0 where
      pub defined : b.manner ≡ manners.Defined
      pub named : text b.token ≢ codes "_"
      pub first : ℕ
      pub is_first : IsFirstOf (read_of h file) b.token b.opens first
      pub meant_is : meant ≡ Declared file first

    assigned_by : (meant : Declaration) → StandsFor h home file b.node meant → IsAssigned meant
    assigned_by meant stands =
        let m = assigned_means h home file b.node meant (brings_role tree (manner_of b.manner) b.node b.token b.opens b.closes b.from here) stands in
        let one = one_brought m.token m.opens m.closes m.from m.brings in
        record {
          defined = one.0;
          named = subst (λ t. text t ≢ codes "_") (sym one.1) m.named;
          first = m.first;
          is_first = subst (λ o. IsFirstOf (read_of h file) b.token o m.first) (sym one.2) (subst (λ t. IsFirstOf (read_of h file) t m.opens m.first) (sym one.1) m.is);
          meant_is = m.meant_is;
        }

    pub not_defined : (b.manner ≡ manners.Defined → ⊥) → Exactly (StandsBy h home decls file b.node) None
    not_defined not = none_exactly (StandsBy h home decls file b.node) (λ x i. not (assigned_by i.meant i.holds).defined)

    pub blank_assigned : (name : List ℕ) → name ≡ text b.token → name ≡ codes "_" → Exactly (StandsBy h home decls file b.node) None
    blank_assigned name e blank = none_exactly (StandsBy h home decls file b.node) (λ x i. (assigned_by i.meant i.holds).named (sym e ∙ blank))

    pub no_first : (HasEarlier (file_of n.bytes.now n.tokens.now n.tree.now.nodes) b.token b.opens → ⊥) → Exactly (StandsBy h home decls file b.node) None
    no_first none =
        none_exactly (StandsBy h home decls file b.node) (λ x i.
        let a = assigned_by i.meant i.holds in
        let f = a.is_first in
        none (subst (λ r. HasEarlier r b.token b.opens) (sym same_read) (record { manner = f.manner; node = a.first; at = f.at; closes = f.closes; from = f.from; brings = f.brings; earlier = f.earlier; same = f.same })))

    pub first_there : (first : ℕ) → IsFirstOf (file_of n.bytes.now n.tokens.now n.tree.now.nodes) b.token b.opens first → (x : TreeNode) × (slice_get tree first ≡ Some x)
    first_there first is_first =
        let own : IsFirstOf (read_of h file) b.token b.opens first = subst (λ r. IsFirstOf r b.token b.opens first) same_read is_first in
        brought_there tree own.manner first own.at b.opens own.closes own.from own.brings

    pub first_exactly : (first : ℕ) (a : Option ℕ) (name : List ℕ) → name ≡ text b.token → (name ≡ codes "_" → ⊥) → b.manner ≡ manners.Defined → IsFirstOf (file_of n.bytes.now n.tokens.now n.tree.now.nodes) b.token b.opens first → Exactly (IsNumberOf h decls (Declared file first)) a → Exactly (StandsBy h home decls file b.node) a
    first_exactly first a name e named defined is exactly =
        let own : IsFirstOf (read_of h file) b.token b.opens first = subst (λ r. IsFirstOf r b.token b.opens first) same_read is in
        let brings : Brings tree Defined b.node b.token b.opens b.closes b.from = subst (λ m. Brings tree (manner_of m) b.node b.token b.opens b.closes b.from) defined here in
        record {
          sound = λ x g. record { meant = Declared file first; holds = stands_assigned brings (λ t. named (e ∙ t)) own; is = exactly.sound x g };
          complete = λ x i.
              let m = assigned_by i.meant i.holds in
              let one : m.first ≡ first = one_first (read_of h file) b.token b.opens m.first first m.is_first own in
              exactly.complete x (subst (λ y. IsNumberOf h decls y x) (m.meant_is ∙ ap (λ k. Declared file k) one) i.is);
        }

-- the import that is answered
pub import_of : (h : SourceFiles) (r : Reached) (home : PackageKey) (file token number : ℕ) (o : Option ℕ) → o ≡ Some number → IsPackageMeant h r home file token o → IsImportMeant h r home file token number
import_of h r home file token number _ e (package_some {number = k} i) = subst (IsImportMeant h r home file token) (some_is k number e) i
import_of h r home file token number _ e (package_none none) = absurd (cc)

pub import_in : (h : SourceFiles) (main : List ℕ) (r : Reached) (home : PackageKey) (file token number : ℕ) (i : IsImportMeant h r home file token number) → IsReachedFile h main home file → IsImportOf h main r number i.import_
import_in h main r home file token number i reached = record { home = home; there = i.there; reached = subst (IsReachedFile h main home) (sym i.file_is) reached }
