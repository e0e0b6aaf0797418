-- When a name or a member stands for nothing.
use Rattle.std.proofs.Common.{◌≡◌, ℕ, ◌<◌, List, true, false, Option, Some, None, refl, sym, ap, ◌∙◌, subst, codes}
use Rattle.std.specs.Prelude.{slice_get, length}
use Rattle.argot_names_rules.specs.declared.package_key.PackageKey.{PackageKey}
use Rattle.argot_names_rules.specs.Files.{SourceFiles, SourceFile, read_of, text_at}
use Rattle.argot_names_rules.specs.Packages.{IsLeftOut, Finds, of_module, handwritten, of_library}
use Rattle.argot_names_rules.specs.declared.package_key.PackageKey.TheVariants as homes
use Rattle.argot_names_rules.specs.Scopes.{Declaration, Predeclared, Declared, Means, MeansNothing}
use Rattle.argot_names_rules.specs.Uses.{IsQualified}
use Rattle.argot_names_rules.specs.Uses.IsQualified.{selector, type_ as dotted_type}
use Rattle.argot_names_rules.specs.Uses.{IsKey, IsLookup, value, type_, package_, IsOfPackage, IsMember, IsPassedOver}
use Rattle.argot_names_imports.specs.declared.find.Found.{Found}
use Rattle.argot_names_imports.specs.declared.find.Found.TheVariants as finds
use Rattle.argot_names_imports.specs.Found.{IsFound, folder, library, unhanded, left_out, nothing}
use Rattle.argot_names_blocks.specs.declared.bindings.Lookup.{Lookup}
use Rattle.argot_names_blocks.specs.declared.lookup.QualifiedName.{QualifiedName}
use Rattle.argot_names_blocks.specs.Listing.{IsSeen}
use Rattle.argot_names_scopes.specs.declared.file.FileNames.{FileNames}
use Rattle.argot_names_scopes.specs.Names.{AreNames}
use Rattle.argot_tree.specs.declared.node_kind.NodeKind.TheVariants as nodes
use Rattle.argot_names_scopes.specs.Again.{start_of}
use Rattle.argot_names_scopes.specs.Texts.{text_in}
use Rattle.argot_names_imports.specs.declared.reached.Reached.{Reached}
use Rattle.argot_names_tops.specs.declared.tops.PackageDecl.{PackageDecl}
use Rattle.argot_names_tops.specs.Tops.{IsNamesOf}
use Rattle.argot_names_tops.specs.declared.meaning.Meaning.{Meaning}
use Rattle.argot_names_tops.specs.declared.meaning.Meaning.TheVariants as meanings
use Rattle.argot_names_tops.specs.Meanings.{IsMeaning}
use Rattle.argot_names_tops.proofs.Inside.{file_is}
use Rattle.argot_names_rules.specs.Imports.{IsReachedFile}
use Rattle.argot_names_imports.specs.declared.written.Written.{Written}
use Rattle.argot_names_imports.proofs.Lists.{get_there}
use Rattle.std.proofs.lemmas.Option.{slice_get_within}
use Rattle.argot_names_tops.specs.declared.tops.Tops.{Tops}
use Rattle.argot_names_uses.specs.Packages.{StandsAt, IsImportMeant, IsPackageMeant}
use Rattle.argot_names_uses.specs.Packages.IsPackageMeant.{some as package_some, nothing as package_none}
use Rattle.argot_names_uses.specs.Members.{IsImportOf, IsMemberMeant}
use Rattle.argot_names_uses.specs.Members.IsMemberMeant.{some as member_some, nothing as member_none}
use Rattle.argot_answers.specs.Answers.{Exactly}
use Rattle.argot_names_uses.specs.Faults.{IsNothing, IsLoneFault, IsMemberFault}

pub none_exactly : (Holds : ℕ → Type 0) → ((x : ℕ) → Holds x → ⊥) → Exactly Holds None
none_exactly Holds never = record { sound = λ x e. absurd (cc); complete = λ x p. absurd (never x p) }

means_some : (h : SourceFiles) (home : PackageKey) (file token : ℕ) (name : List ℕ) (d : Declaration) → Means h home file token name d → MeansNothing h home file token name → ⊥
means_some h home file token name d m none = none d m.block m.in_scope

module _ (h : SourceFiles) (home : PackageKey) (file : ℕ) (n : FileNames) (is : IsNamesOf h file n) where
  abbrev f : SourceFile
  f = read_of h file

  pub text_is : (token : ℕ) (name : List ℕ) → name ≡ text_in n.bytes.now n.tokens.now token → name ≡ text_at f token
  text_is token name e = e ∙ ap (λ (g : SourceFile). text_at g token) (file_is h file n is)

  module _ (l : Lookup) where
    pub lone_key : IsSeen n.tree.now.nodes l → l.key ≡ true → Exactly (IsLoneFault h home file l) None
    lone_key seen e = none_exactly (IsLoneFault h home file l) (λ x p. p.no_key (subst (λ t. IsKey t l.node) is.nodes (seen.key e)))

    pub lone_blank : (name : List ℕ) → name ≡ text_at f l.token → name ≡ codes "_" → Exactly (IsLoneFault h home file l) None
    lone_blank name e blank = none_exactly (IsLoneFault h home file l) (λ x p. p.named (sym e ∙ blank))

    pub lone_passed : IsPassedOver n.tree.now.nodes l.token → Exactly (IsLoneFault h home file l) None
    lone_passed over = none_exactly (IsLoneFault h home file l) (λ x p. p.heeded (subst (λ t. IsPassedOver t l.token) is.nodes over))

    pub lone_some : (r : Reached) (m : Meaning) → IsMeaning h r home file l.token (text_at f l.token) m → (IsNothing m → ⊥) → Exactly (IsLoneFault h home file l) None
    lone_some r m means not = none_exactly (IsLoneFault h home file l) (λ x p. by m means not p.nothing)
      where
        by : (m : Meaning) → IsMeaning h r home file l.token (text_at f l.token) m → (IsNothing m → ⊥) → MeansNothing h home file l.token (text_at f l.token) → ⊥
        by (meanings.Local node) means not none = means_some h home file l.token (text_at f l.token) (Declared file node) means none
        by (meanings.Import number) means not none = means_some h home file l.token (text_at f l.token) (Declared file means.import_.node) means.means none
        by (meanings.PackageDecl top) means not none = means_some h home file l.token (text_at f l.token) (Declared top.file top.node) means none
        by (meanings.Predeclared number) means not none = means_some h home file l.token (text_at f l.token) (Predeclared (text_at f l.token)) means.means none
        by meanings.Nothing means not none = not refl

    pub lone_none : (r : Reached) (m : Meaning) (o : Option ℕ) → IsSeen n.tree.now.nodes l → l.key ≡ false → (text_at f l.token ≡ codes "_" → ⊥) → (IsPassedOver n.tree.now.nodes l.token → ⊥) → IsMeaning h r home file l.token (text_at f l.token) m → IsNothing m → o ≡ start_of (slice_get n.tokens.now l.token)
        → Exactly (IsLoneFault h home file l) o
    lone_none r m o seen key blank over means none begins =
        let start : o ≡ start_of (slice_get f.tokens l.token) = begins ∙ ap (λ ts. start_of (slice_get ts l.token)) is.tokens in
        record {
          sound = λ x g.
              record {
                no_key = λ k. seen.no_key key (subst (λ t. IsKey t l.node) (sym is.nodes) k);
                named = blank;
                nothing = subst (IsMeaning h r home file l.token (text_at f l.token)) none means;
                heeded = λ p. over (subst (λ t. IsPassedOver t l.token) (sym is.nodes) p);
                begins = sym start ∙ g;
              };
          complete = λ x p. start ∙ p.begins;
        }

  module _ (d : QualifiedName) where
    pub member_passed : IsPassedOver n.tree.now.nodes d.token → Exactly (IsMemberFault h home file d) None
    member_passed over = none_exactly (IsMemberFault h home file d) (λ x p. p.heeded (subst (λ t. IsPassedOver t d.token) is.nodes over))

    pub no_package : ((path : List ℕ) → IsOfPackage h home file d.token path → ⊥) → Exactly (IsMemberFault h home file d) None
    no_package none = none_exactly (IsMemberFault h home file d) (λ x p. none p.path p.of_package)

    pub left_out_package : (r : Reached) (number : ℕ) (m : IsImportMeant h r home file d.token number) → IsLeftOut m.import_.path → Exactly (IsMemberFault h home file d) None
    left_out_package r number m out = none_exactly (IsMemberFault h home file d) (λ x p. p.known (subst IsLeftOut (sym (m.only p.path p.of_package)) out))

    pub has_member : (r : Reached) (number : ℕ) (m : IsImportMeant h r home file d.token number) (top : PackageDecl) → IsMemberMeant h m.import_.path (text_at f d.member) (Some top) → Exactly (IsMemberFault h home file d) None
    has_member r number m top (member_some member first) =
        none_exactly (IsMemberFault h home file d) (λ x p. p.none top.file top.node (subst (λ q. IsMember h q (text_at f d.member) top.file top.node) (sym (m.only p.path p.of_package)) member))

    pub no_member : (r : Reached) (number : ℕ) (m : IsImportMeant h r home file d.token number) (o : Option ℕ) → (IsPassedOver n.tree.now.nodes d.token → ⊥) → (IsLeftOut m.import_.path → ⊥) → IsMemberMeant h m.import_.path (text_at f d.member) None → o ≡ start_of (slice_get n.tokens.now d.member)
        → Exactly (IsMemberFault h home file d) o
    no_member r number m o over known (member_none none) begins =
        let start : o ≡ start_of (slice_get f.tokens d.member) = begins ∙ ap (λ ts. start_of (slice_get ts d.member)) is.tokens in
        record {
          sound = λ x g.
              record {
                path = m.import_.path;
                of_package = m.of_package;
                known = known;
                none = none;
                heeded = λ p. over (subst (λ t. IsPassedOver t d.token) (sym is.nodes) p);
                begins = sym start ∙ g;
              };
          complete = λ x p. start ∙ p.begins;
        }

-- a package is left out where that is found
pub found_left_out : (h : SourceFiles) (path : List ℕ) (found : Found) → IsFound h path found → found ≡ finds.LeftOut → IsLeftOut path
found_left_out h path _ (left_out out) e = out
found_left_out h path _ (folder a b) e = absurd (cc)
found_left_out h path _ (library a b) e = absurd (cc)
found_left_out h path _ (unhanded a b) e = absurd (cc)
found_left_out h path _ (nothing a b) e = absurd (cc)

known_of : (h : SourceFiles) (path : List ℕ) (target : PackageKey) → Finds h path target → IsLeftOut path → ⊥
known_of h path target (of_module a b) out = a out
known_of h path target (handwritten a b c) out = a out
known_of h path target (of_library t a b c d) out = a out

pub left_out_found : (h : SourceFiles) (path : List ℕ) (found : Found) → IsFound h path found → IsLeftOut path → found ≡ finds.LeftOut
left_out_found h path _ (left_out out) o = refl
left_out_found h path _ (folder {folder = q} a b) o = absurd (known_of h path (homes.Folder q) a o)
left_out_found h path _ (library a b) o = absurd (known_of h path (homes.Library path) a o)
left_out_found h path _ (unhanded a b) o = absurd (known_of h path (homes.Library path) a o)
left_out_found h path _ (nothing a b) o = absurd (a o)

pub looked_within : (n : FileNames) → AreNames n → (node token : ℕ) → IsLookup n.tree.now.nodes node token → token < length n.bindings.generics.items
looked_within n names node token (value {last = last} s not) = names.brings.as_long node (record { kind = nodes.NameUse; token = token; last = last; first = s.first; next = s.next }) s.there
looked_within n names node token (type_ {last = last} s) = names.brings.as_long node (record { kind = nodes.TypeName; token = token; last = last; first = s.first; next = s.next }) s.there
looked_within n names node token (package_ {last = last} s) = names.brings.as_long node (record { kind = nodes.QualifiedType; token = token; last = last; first = s.first; next = s.next }) s.there

module _ (h : SourceFiles) (main : List ℕ) (r : Reached) (home : PackageKey) (tops : Tops) (file : ℕ) (n : FileNames) (at : StandsAt h main r home tops n file) (d : QualifiedName) where
  abbrev Fault : Option ℕ → Type 0
  Fault = Exactly (IsMemberFault h home file d)

  pub by_none : IsPackageMeant h r home file d.token None → Fault None
  by_none (package_none none) = no_package h home file n at.names_are d none

  the_import : (number : ℕ) (o : Option ℕ) → o ≡ Some number → IsPackageMeant h r home file d.token o → IsImportMeant h r home file d.token number
  the_import number _ e (package_some {number = other} m) = subst (IsImportMeant h r home file d.token) (number_is other number e) m
    where
      number_is : (a b : ℕ) → Some a ≡ Some b → a ≡ b
      number_is a b e = cc
  the_import number _ e (package_none none) = absurd (cc)

  found_of : (number : ℕ) (m : IsImportMeant h r home file d.token number) → (found : Found) × (slice_get r.survey.founds.items number ≡ Some found) × IsFound h m.import_.path found
  found_of number m =
      let founds = at.tops_are.reach.survey.founds in
      let got = get_there r.survey.founds.items number (below founds.as_many) in
      (got.0, got.1, founds.each number m.import_ got.0 m.there got.1)
    where
      below : length r.survey.founds.items ≡ length r.survey.imports.items → number < length r.survey.founds.items
      below e = subst (λ x. number < x) (sym e) (slice_get_within r.survey.imports.items number m.import_ m.there)

  found_is : (a b : Found) → Some a ≡ Some b → a ≡ b
  found_is a b e = cc

  pub by_left_out : (number : ℕ) (o : Option ℕ) → o ≡ Some number → IsPackageMeant h r home file d.token o → slice_get r.survey.founds.items number ≡ Some finds.LeftOut → Fault None
  by_left_out number o e p out =
      let m = the_import number o e p in
      let f = found_of number m in
      left_out_package h home file n at.names_are d r number m (found_left_out h m.import_.path f.0 f.2 (found_is f.0 finds.LeftOut (sym f.1 ∙ out)))

  import_of : (number : ℕ) (m : IsImportMeant h r home file d.token number) → IsImportOf h main r number m.import_
  import_of number m = record { home = home; there = m.there; reached = subst (IsReachedFile h main home) (sym m.file_is) at.reached }

  -- what is answered of the name behind the dot
  abbrev Answered : Option ℕ → Option PackageDecl → Type 0
  Answered o answer = (number : ℕ) (w : Written) → o ≡ Some number → IsImportOf h main r number w → IsMemberMeant h w.path (text_at (read_of h file) d.member) answer

  pub by_member : (number : ℕ) (o : Option ℕ) (top : PackageDecl) (answer : Option PackageDecl) → o ≡ Some number → IsPackageMeant h r home file d.token o → answer ≡ Some top → Answered o answer → Fault None
  by_member number o top answer e p is member =
      let m = the_import number o e p in
      has_member h home file n at.names_are d r number m top (subst (IsMemberMeant h m.import_.path (text_at (read_of h file) d.member)) is (member number m.import_ e (import_of number m)))

  pub by_no_member : (number : ℕ) (o : Option ℕ) (answer : Option PackageDecl) (result : Option ℕ) → o ≡ Some number → IsPackageMeant h r home file d.token o → answer ≡ None → Answered o answer
      → (IsPassedOver n.tree.now.nodes d.token → ⊥) → (slice_get r.survey.founds.items number ≡ Some finds.LeftOut → ⊥) → result ≡ start_of (slice_get n.tokens.now d.member) → Fault result
  by_no_member number o answer result e p is member over out begins =
      let m = the_import number o e p in
      let f = found_of number m in
      no_member h home file n at.names_are d r number m result over (λ left. out (f.1 ∙ ap (λ x. Some x) (left_out_found h m.import_.path f.0 f.2 left)))
      (subst (IsMemberMeant h m.import_.path (text_at (read_of h file) d.member)) is (member number m.import_ e (import_of number m))) begins

pub dotted_within : (n : FileNames) → AreNames n → (token member node : ℕ) → IsQualified n.tree.now.nodes token member node → token < length n.bindings.generics.items
dotted_within n names token member node (selector {operand = operand} {last = last} s f u c m) = names.brings.as_long operand (record { kind = nodes.NameUse; token = token; last = last; first = u.first; next = u.next }) u.there
dotted_within n names token member node (dotted_type {last = last} s) = names.brings.as_long node (record { kind = nodes.QualifiedType; token = token; last = last; first = s.first; next = s.next }) s.there
