-- What an import is in its tree is known from its node, and one thing only.
use Rattle.std.proofs.Common.{◌≡◌, ◌≢◌, ℕ, List, Option, Some, None, refl, sym, ap, ◌∙◌, subst}
use Rattle.std.specs.Prelude.{slice_get}
use Rattle.argot_tree.specs.declared.node_kind.NodeKind.{NodeKind}
use Rattle.argot_tree.specs.declared.node_kind.NodeKind.TheVariants as nodes
use Rattle.argot_tree.specs.declared.tree.TreeNode.{TreeNode}
use Rattle.argot_names_rules.specs.declared.alias.Alias.{Alias}
use Rattle.argot_names_rules.specs.declared.alias.Alias.TheVariants.{Unnamed, Dotted, Named}
use Rattle.argot_names_rules.specs.Nodes.{Spans, IsFirstChild, IsNext}
use Rattle.argot_names_rules.specs.Imports.{IsImport, unnamed, dotted, named}
use Rattle.argot_names_imports.specs.Sites.{IsPathAt, IsNameAt}
use Rattle.argot_names_imports.specs.Named.{IsNamedAt}
use Rattle.argot_names_imports.specs.declared.sites.Site.{Site}

some_is : {A : Type 0} (x y : A) → Some x ≡ Some y → x ≡ y
some_is x y e = cc

-- the parts of a node
pub spans_of : (tree : List TreeNode) (node : ℕ) (is : TreeNode) (kind : NodeKind) → slice_get tree node ≡ Some is → is.kind ≡ kind → Spans tree node kind is.token is.last
spans_of tree node is kind at kind_is =
    record {
      first = is.first;
      next = is.next;
      there = at ∙ ap (λ k. Some (record { kind = k; token = is.token; last = is.last; first = is.first; next = is.next })) kind_is;
    }

pub record Parts (is : TreeNode) (kind : NodeKind) (token last : ℕ) : Type 0 where
  pub kind_is : is.kind ≡ kind
  pub token_is : is.token ≡ token
  pub last_is : is.last ≡ last

pub parts_of : (tree : List TreeNode) (node : ℕ) (is : TreeNode) (kind : NodeKind) (token last : ℕ) → slice_get tree node ≡ Some is → Spans tree node kind token last → Parts is kind token last
parts_of tree node is kind token last at s =
    let same : is ≡ record { kind = kind; token = token; last = last; first = s.first; next = s.next } = some_is _ _ (sym at ∙ s.there) in
    record {
      kind_is = ap (λ (n : TreeNode). n.kind) same;
      token_is = ap (λ (n : TreeNode). n.token) same;
      last_is = ap (λ (n : TreeNode). n.last) same;
    }

first_is : (tree : List TreeNode) (node child : ℕ) (is : TreeNode) → slice_get tree node ≡ Some is → IsFirstChild tree node child → is.first ≡ Some child
first_is tree node child is at h = ap (λ (n : TreeNode). n.first) (some_is is h.is (sym at ∙ h.there)) ∙ h.first

next_is : (tree : List TreeNode) (node child : ℕ) (is : TreeNode) → slice_get tree node ≡ Some is → IsNext tree node child → is.next ≡ Some child
next_is tree node child is at h = ap (λ (n : TreeNode). n.next) (some_is is h.is (sym at ∙ h.there)) ∙ h.next

path_at : (tree : List TreeNode) (child : ℕ) (path last : ℕ) (node : Option ℕ) → node ≡ Some child → Spans tree child nodes.ImportPath path last → IsPathAt tree node path
path_at tree child path last node is s =
    record {
      child = child;
      is = record { kind = nodes.ImportPath; token = path; last = last; first = s.first; next = s.next };
      node_is = is;
      there = s.there;
      kind_is = refl;
      token_is = refl;
    }

path_spans : (tree : List TreeNode) (node : Option ℕ) (token : ℕ) → (h : IsPathAt tree node token) → Spans tree h.child nodes.ImportPath token h.is.last
path_spans tree node token h = subst (λ t. Spans tree h.child nodes.ImportPath t h.is.last) h.token_is (spans_of tree h.child h.is nodes.ImportPath h.there h.kind_is)

-- what an import is, by its node
pub data Sited (tree : List TreeNode) (is : TreeNode) (at path : ℕ) : Alias → Type 0 where
  unnamed_ : is.kind ≡ nodes.Spec → is.token ≡ at → IsPathAt tree is.first path → Sited tree is at path Unnamed
  dotted_ : is.kind ≡ nodes.DotSpec → is.token ≡ at → IsPathAt tree is.first path → Sited tree is at path Dotted
  named_ : {name_at : ℕ} {next : Option ℕ} → is.kind ≡ nodes.NamedSpec → is.token ≡ at → IsNameAt tree is.first name_at next → IsPathAt tree next path → Sited tree is at path (Named name_at)

pub sited : (tree : List TreeNode) (node at path : ℕ) (alias : Alias) (is : TreeNode) → slice_get tree node ≡ Some is → IsImport tree node at path alias → Sited tree is at path alias
sited tree _ _ _ _ is there (unnamed {node = node} {child = child} {at = at} {path = path} {end = end} {last = last} s f p) =
    let parts = parts_of tree node is nodes.Spec at end there s in
    unnamed_ parts.kind_is parts.token_is (path_at tree child path last is.first (first_is tree node child is there f) p)
sited tree _ _ _ _ is there (dotted {node = node} {child = child} {at = at} {path = path} {end = end} {last = last} s f p) =
    let parts = parts_of tree node is nodes.DotSpec at end there s in
    dotted_ parts.kind_is parts.token_is (path_at tree child path last is.first (first_is tree node child is there f) p)
sited tree _ _ _ _ is there (named {node = node} {name = name} {child = child} {at = at} {path = path} {end = end} {name_at = name_at} {name_end = name_end} {last = last} s f n x p) =
    let parts = parts_of tree node is nodes.NamedSpec at end there s in
    let name_node : TreeNode = record { kind = nodes.DeclName; token = name_at; last = name_end; first = n.first; next = n.next } in
    named_ parts.kind_is parts.token_is
    (record { child = name; is = name_node; node_is = first_is tree node name is there f; there = n.there; kind_is = refl; token_is = refl; next_is = refl })
    (path_at tree child path last n.next (next_is tree name child name_node n.there x) p)

pub import_of : (tree : List TreeNode) (node at path : ℕ) (alias : Alias) (is : TreeNode) → slice_get tree node ≡ Some is → Sited tree is at path alias → IsImport tree node at path alias
import_of tree node at path _ is there (unnamed_ kind_is token_is p) =
    unnamed (subst (λ t. Spans tree node nodes.Spec t is.last) token_is (spans_of tree node is nodes.Spec there kind_is)) (record { is = is; there = there; first = p.node_is }) (path_spans tree is.first path p)
import_of tree node at path _ is there (dotted_ kind_is token_is p) =
    dotted (subst (λ t. Spans tree node nodes.DotSpec t is.last) token_is (spans_of tree node is nodes.DotSpec there kind_is)) (record { is = is; there = there; first = p.node_is }) (path_spans tree is.first path p)
import_of tree node at path _ is there (named_ {name_at = name_at} {next = next} kind_is token_is n p) =
    named (subst (λ t. Spans tree node nodes.NamedSpec t is.last) token_is (spans_of tree node is nodes.NamedSpec there kind_is))
    (record { is = is; there = there; first = n.node_is })
    (subst (λ t. Spans tree n.child nodes.DeclName t n.is.last) n.token_is (spans_of tree n.child n.is nodes.DeclName n.there n.kind_is))
    (record { is = n.is; there = n.there; next = n.next_is ∙ p.node_is })
    (path_spans tree next path p)

pub one_path : (tree : List TreeNode) (node : Option ℕ) (t u : ℕ) → IsPathAt tree node t → IsPathAt tree node u → t ≡ u
one_path tree node t u a b =
    let child : a.child ≡ b.child = some_is _ _ (sym a.node_is ∙ b.node_is) in
    let same : a.is ≡ b.is = some_is _ _ (sym a.there ∙ ap (slice_get tree) child ∙ b.there) in
    sym a.token_is ∙ ap (λ (n : TreeNode). n.token) same ∙ b.token_is

pub one_name : (tree : List TreeNode) (node : Option ℕ) (t u : ℕ) (m n : Option ℕ) → IsNameAt tree node t m → IsNameAt tree node u n → (t ≡ u) × (m ≡ n)
one_name tree node t u m n a b =
    let child : a.child ≡ b.child = some_is _ _ (sym a.node_is ∙ b.node_is) in
    let same : a.is ≡ b.is = some_is _ _ (sym a.there ∙ ap (slice_get tree) child ∙ b.there) in
    (sym a.token_is ∙ ap (λ (n : TreeNode). n.token) same ∙ b.token_is, sym a.next_is ∙ ap (λ (n : TreeNode). n.next) same ∙ b.next_is)

-- an import is known from its node
pub one_sited : (tree : List TreeNode) (is : TreeNode) (a b p q : ℕ) (x y : Alias) → Sited tree is a p x → Sited tree is b q y → (a ≡ b) × (p ≡ q) × (x ≡ y)
one_sited tree is a b p q _ _ (unnamed_ k t h) (unnamed_ l u i) = (sym t ∙ u, one_path tree is.first p q h i, refl)
one_sited tree is a b p q _ _ (unnamed_ k t h) (dotted_ l u i) = absurd (cc)
one_sited tree is a b p q _ _ (unnamed_ k t h) (named_ l u n i) = absurd (cc)
one_sited tree is a b p q _ _ (dotted_ k t h) (unnamed_ l u i) = absurd (cc)
one_sited tree is a b p q _ _ (dotted_ k t h) (dotted_ l u i) = (sym t ∙ u, one_path tree is.first p q h i, refl)
one_sited tree is a b p q _ _ (dotted_ k t h) (named_ l u n i) = absurd (cc)
one_sited tree is a b p q _ _ (named_ k t m h) (unnamed_ l u i) = absurd (cc)
one_sited tree is a b p q _ _ (named_ k t m h) (dotted_ l u i) = absurd (cc)
one_sited tree is a b p q _ _ (named_ {name_at = v} {next = r} k t m h) (named_ {name_at = w} {next = s} l u n i) =
    let name = one_name tree is.first v w r s m n in
    (sym t ∙ u, one_path tree r p q h (subst (λ z. IsPathAt tree z q) (sym name.1) i), ap Named name.0)

pub site_there : (tree : List TreeNode) (node at path : ℕ) (alias : Alias) → IsImport tree node at path alias → (is : TreeNode) × (slice_get tree node ≡ Some is)
site_there tree _ _ _ _ (unnamed s f p) = (_, s.there)
site_there tree _ _ _ _ (dotted s f p) = (_, s.there)
site_there tree _ _ _ _ (named s f n x p) = (_, s.there)

pub one_site : (tree : List TreeNode) (node a b p q : ℕ) (x y : Alias) → IsImport tree node a p x → IsImport tree node b q y → (a ≡ b) × (p ≡ q) × (x ≡ y)
one_site tree node a b p q x y h i =
    let is = site_there tree node a p x h in
    one_sited tree is.0 a b p q x y (sited tree node a p x is.0 is.1 h) (sited tree node b q y is.0 is.1 i)

-- the answers of a node that is an import, or none
pub named_none : (tree : List TreeNode) (at : ℕ) (name : Option ℕ) (t : ℕ) (next : Option ℕ) → IsNameAt tree name t next → ((u : ℕ) → IsPathAt tree next u → ⊥) → (s : Site) → IsNamedAt tree at name s → ⊥
named_none tree at name t next is none s h =
    let same = one_name tree name t h.name_at next h.next is h.is_name in
    none s.path_at (subst (λ n. IsPathAt tree n s.path_at) (sym same.1) h.is_path)

module _ (tree : List TreeNode) (node : ℕ) (is : TreeNode) (there : slice_get tree node ≡ Some is) where
  pub spec_some : is.kind ≡ nodes.Spec → (s : Site) → (s.at ≡ is.token) × (s.alias ≡ Unnamed) × IsPathAt tree is.first s.path_at → IsImport tree node s.at s.path_at s.alias
  spec_some kind_is s h = subst (IsImport tree node s.at s.path_at) (sym h.1) (import_of tree node s.at s.path_at Unnamed is there (unnamed_ kind_is (sym h.0) h.2))

  pub dot_some : is.kind ≡ nodes.DotSpec → (s : Site) → (s.at ≡ is.token) × (s.alias ≡ Dotted) × IsPathAt tree is.first s.path_at → IsImport tree node s.at s.path_at s.alias
  dot_some kind_is s h = subst (IsImport tree node s.at s.path_at) (sym h.1) (import_of tree node s.at s.path_at Dotted is there (dotted_ kind_is (sym h.0) h.2))

  pub named_some : is.kind ≡ nodes.NamedSpec → (s : Site) → IsNamedAt tree is.token is.first s → IsImport tree node s.at s.path_at s.alias
  named_some kind_is s h =
      subst (IsImport tree node s.at s.path_at) (sym h.alias_is) (import_of tree node s.at s.path_at (Named h.name_at) is there (named_ kind_is (sym h.at_is) h.is_name h.is_path))

  first_none : ((t : ℕ) → IsPathAt tree is.first t → ⊥) → (at path : ℕ) (alias : Alias) → (is.kind ≢ nodes.NamedSpec) → Sited tree is at path alias → ⊥
  first_none none at path _ other (unnamed_ k t h) = none path h
  first_none none at path _ other (dotted_ k t h) = none path h
  first_none none at path _ other (named_ k t n h) = other k

  pub spec_none : is.kind ≡ nodes.Spec → ((t : ℕ) → IsPathAt tree is.first t → ⊥) → (at path : ℕ) (alias : Alias) → IsImport tree node at path alias → ⊥
  spec_none kind_is none at path alias h = first_none none at path alias (λ e. absurd (cc)) (sited tree node at path alias is there h)

  pub dot_none : is.kind ≡ nodes.DotSpec → ((t : ℕ) → IsPathAt tree is.first t → ⊥) → (at path : ℕ) (alias : Alias) → IsImport tree node at path alias → ⊥
  dot_none kind_is none at path alias h = first_none none at path alias (λ e. absurd (cc)) (sited tree node at path alias is there h)

  name_none : is.kind ≡ nodes.NamedSpec → ((s : Site) → IsNamedAt tree is.token is.first s → ⊥) → (at path : ℕ) (alias : Alias) → Sited tree is at path alias → ⊥
  name_none kind_is none at path _ (unnamed_ k t h) = absurd (cc)
  name_none kind_is none at path _ (dotted_ k t h) = absurd (cc)
  name_none kind_is none at path _ (named_ {name_at = v} {next = r} k t n h) =
      none (record { at = is.token; path_at = path; alias = Named v }) (record { name_at = v; next = r; is_name = n; is_path = h; at_is = refl; alias_is = refl })

  pub named_spec_none : is.kind ≡ nodes.NamedSpec → ((s : Site) → IsNamedAt tree is.token is.first s → ⊥) → (at path : ℕ) (alias : Alias) → IsImport tree node at path alias → ⊥
  named_spec_none kind_is none at path alias h = name_none kind_is none at path alias (sited tree node at path alias is there h)

  no_kind : is.kind ≢ nodes.Spec → is.kind ≢ nodes.DotSpec → is.kind ≢ nodes.NamedSpec → (at path : ℕ) (alias : Alias) → Sited tree is at path alias → ⊥
  no_kind a b c at path _ (unnamed_ k t h) = a k
  no_kind a b c at path _ (dotted_ k t h) = b k
  no_kind a b c at path _ (named_ k t n h) = c k

  pub other_none : is.kind ≢ nodes.Spec → is.kind ≢ nodes.DotSpec → is.kind ≢ nodes.NamedSpec → (at path : ℕ) (alias : Alias) → IsImport tree node at path alias → ⊥
  other_none a b c at path alias h = no_kind a b c at path alias (sited tree node at path alias is there h)

-- no node of this number
pub absent_none : (tree : List TreeNode) (node : ℕ) → slice_get tree node ≡ None → (at path : ℕ) (alias : Alias) → IsImport tree node at path alias → ⊥
absent_none tree node none at path alias h = let is = site_there tree node at path alias h in absurd (cc (is.1, none))
