-- A node stands for one declaration, by the list in which it is found.
use Rattle.std.proofs.Common.{◌≡◌, ◌≢◌, ℕ, ◌<◌, ◌≤◌, List, Some, inl, inr, refl, sym, ap, ◌∙◌, subst, arith}
use Rattle.std.specs.Prelude.{◌⊎◌, codes, slice_get}
use Rattle.argot_tree.specs.declared.node_kind.NodeKind.TheVariants as nodes
use Rattle.argot_tree.specs.declared.tree.TreeNode.{TreeNode}
use Rattle.argot_names_rules.specs.declared.package_key.PackageKey.{PackageKey}
use Rattle.argot_names_rules.specs.Files.{SourceFiles, SourceFile, read_of, text_at}
use Rattle.argot_names_rules.specs.Lists.{IsListOf}
use Rattle.argot_names_rules.specs.Bindings.{Defined, Brings}
use Rattle.argot_names_rules.specs.Nodes.{Spans, Is}
use Rattle.argot_names_rules.specs.Scopes.{Declaration, Declared, Means}
use Rattle.argot_names_rules.specs.PackageScope.{IsTop}
use Rattle.argot_names_rules.specs.Uses.{IsDefined, IsLookup, IsQualified, IsOfPackage, IsMember, IsFirstOf, StandsFor}
use Rattle.argot_names_rules.specs.Uses.IsLookup.{value as looked_value, type_ as looked_type, package_ as looked_package}
use Rattle.argot_names_rules.specs.Uses.StandsFor.{value, type_, member, assigned}
use Rattle.argot_names_imports.proofs.Surveys.{finds_one}
use Rattle.argot_names_tops.proofs.Ordering.{ordered_all}
use Rattle.argot_names_uses.proofs.NumberedNodes.{less_or}
use Rattle.argot_names_uses.proofs.Numbering.{some_is}
use Rattle.argot_names_uses.proofs.NodeRoles.{HasRole, role_of, one_role, one_token, dotted_role, brings_role, role_there, brought_there}

-- in a list by node a node has one item
pub one_listed : {A : Type 0} (node : A → ℕ) (Holds : A → Type 0) (xs : List A) → IsListOf (λ a b. node a < node b) Holds xs → (a b : A) → Holds a → Holds b → node a ≡ node b → a ≡ b
one_listed {A} node Holds xs l a b p q same =
    let i = l.complete a p in
    let j = l.complete b q in
    let ordered = ordered_all (λ (x y : A). node x < node y) (λ x y z d e. omega (arith, d, e)) xs l.ordered in
    elim (less_or i.0 j.0) [
      | inl low ↦ absurd (omega (arith, ordered i.0 j.0 a b low i.1 j.1, same))
      | inr o ↦ elim o [
        | inl s ↦ some_is a b (sym i.1 ∙ (ap (slice_get xs) s ∙ j.1))
        | inr low ↦ absurd (omega (arith, ordered j.0 i.0 b a low j.1 i.1, same))
      ]
    ]

-- the first name of a block is one
pub one_first : (f : SourceFile) (token opens a b : ℕ) → IsFirstOf f token opens a → IsFirstOf f token opens b → a ≡ b
one_first f token opens a b p q =
    elim (less_or p.at q.at) [
      | inl low ↦ absurd (q.first (record { manner = p.manner; node = a; at = p.at; closes = p.closes; from = p.from; brings = p.brings; earlier = low; same = p.same ∙ sym q.same }))
      | inr o ↦ elim o [
        | inl same ↦
            let up : a ≤ b = p.least {how = q.manner} {other = b} {closes = q.closes} {from = q.from} (subst (λ x. Brings f.nodes q.manner b x opens q.closes q.from) (sym same) q.brings) in
            let down : b ≤ a = q.least {how = p.manner} {other = a} {closes = p.closes} {from = p.from} (subst (λ x. Brings f.nodes p.manner a x opens p.closes p.from) same p.brings) in
            omega (arith, up, down)
        | inr low ↦ absurd (p.first (record { manner = q.manner; node = b; at = q.at; closes = q.closes; from = q.from; brings = q.brings; earlier = low; same = q.same ∙ sym p.same }))
      ]
    ]

-- and a member
pub one_member : (h : SourceFiles) (path name : List ℕ) (f m g n : ℕ) → IsMember h path name f m → IsMember h path name g n → (f ≡ g) × (m ≡ n)
one_member h path name f m g n p q =
    let same = finds_one h path p.target q.target p.finds q.finds in
    both (p.least g n q.place (subst (λ x. IsTop h x name g n q.place) (sym same) q.top)) (q.least f m p.place (subst (λ x. IsTop h x name f m p.place) same p.top))
  where
    both : ((f < g) ⊎ ((f ≡ g) × (m ≤ n))) → ((g < f) ⊎ ((g ≡ f) × (n ≤ m))) → (f ≡ g) × (m ≡ n)
    both (inl a) (inl b) = absurd (omega (arith, a, b))
    both (inl a) (inr b) = absurd (omega (arith, a, b.0))
    both (inr a) (inl b) = absurd (omega (arith, a.0, b))
    both (inr a) (inr b) = (a.0, omega (arith, a.1, b.1))

module _ (h : SourceFiles) (home : PackageKey) (file : ℕ) where
  abbrev tree : List TreeNode
  tree = (read_of h file).nodes

  abbrev text : ℕ → List ℕ
  text token = text_at (read_of h file) token

  -- the name at the token means it
  pub record MeansLone (token : ℕ) (meant : Declaration) : Type 0 where
    pub named : text token ≢ codes "_"
    pub means : Means h home file token (text token) meant

  by_value : (node token last : ℕ) (meant : Declaration) → Spans tree node nodes.NameUse token last → (IsDefined tree node → ⊥) → StandsFor h home file node meant → MeansLone token meant
  by_value node token last meant s not (value {token = t} {last = l} spans plain named means) = subst (λ x. MeansLone x meant) (one_token tree node nodes.NameUse nodes.NameUse t l token last spans s) (record { named = named; means = means })
  by_value node token last meant s not (type_ {token = t} {last = l} spans named means) = absurd (omega (arith, one_role tree node 0 1 (role_of tree node nodes.NameUse token last s) (role_of tree node nodes.TypeName t l spans)))
  by_value node token last _ s not (member {token = t} {member = m} dotted of is) = absurd (omega (arith, one_role tree node 0 2 (role_of tree node nodes.NameUse token last s) (dotted_role tree t m node dotted)))
  by_value node token last _ s not (assigned {token = t} {opens = opens} {closes = closes} {from = from} brings named first) =
      elim (brings_role tree Defined node t opens closes from brings) [
        | inl r ↦ absurd (omega (arith, one_role tree node 0 3 (role_of tree node nodes.NameUse token last s) r))
        | inr p ↦ absurd (not p.1)
      ]

  by_type : (node token last : ℕ) (meant : Declaration) → Spans tree node nodes.TypeName token last → StandsFor h home file node meant → MeansLone token meant
  by_type node token last meant s (value {token = t} {last = l} spans plain named means) = absurd (omega (arith, one_role tree node 1 0 (role_of tree node nodes.TypeName token last s) (role_of tree node nodes.NameUse t l spans)))
  by_type node token last meant s (type_ {token = t} {last = l} spans named means) = subst (λ x. MeansLone x meant) (one_token tree node nodes.TypeName nodes.TypeName t l token last spans s) (record { named = named; means = means })
  by_type node token last _ s (member {token = t} {member = m} dotted of is) = absurd (omega (arith, one_role tree node 1 2 (role_of tree node nodes.TypeName token last s) (dotted_role tree t m node dotted)))
  by_type node token last _ s (assigned {token = t} {opens = opens} {closes = closes} {from = from} brings named first) =
      elim (brings_role tree Defined node t opens closes from brings) [
        | inl r ↦ absurd (omega (arith, one_role tree node 1 3 (role_of tree node nodes.TypeName token last s) r))
        | inr p ↦ absurd (omega (arith, one_role tree node 1 0 (role_of tree node nodes.TypeName token last s) p.0))
      ]

  -- what a lone name stands for is what it means
  pub lone_means : (node token : ℕ) (meant : Declaration) → IsLookup tree node token → (Is tree node nodes.QualifiedType → ⊥) → StandsFor h home file node meant → MeansLone token meant
  lone_means node token meant (looked_value {last = last} s not) plain stands = by_value node token last meant s not stands
  lone_means node token meant (looked_type {last = last} s) plain stands = by_type node token last meant s stands
  lone_means node token meant (looked_package {last = last} s) plain stands = absurd (plain (record { token = token; last = last; spans = s }))

  pub lone_stands : (node token : ℕ) (meant : Declaration) → IsLookup tree node token → (Is tree node nodes.QualifiedType → ⊥) → text token ≢ codes "_" → Means h home file token (text token) meant → StandsFor h home file node meant
  lone_stands node token meant (looked_value s not) plain named means = value s not named means
  lone_stands node token meant (looked_type s) plain named means = type_ s named means
  lone_stands node token meant (looked_package {last = last} s) plain named means = absurd (plain (record { token = token; last = last; spans = s }))

  -- a member of a package
  pub record MeansMember (node : ℕ) (meant : Declaration) : Type 0 where
    pub token : ℕ
    pub member : ℕ
    pub path : List ℕ
    pub other : ℕ
    pub declared : ℕ
    pub dotted : IsQualified tree token member node
    pub of_package : IsOfPackage h home file token path
    pub is : IsMember h path (text member) other declared
    pub meant_is : meant ≡ Declared other declared

  pub member_means : (node : ℕ) (meant : Declaration) → HasRole tree node 2 → StandsFor h home file node meant → MeansMember node meant
  member_means node meant r (value {token = t} {last = l} spans plain named means) = absurd (omega (arith, one_role tree node 2 0 r (role_of tree node nodes.NameUse t l spans)))
  member_means node meant r (type_ {token = t} {last = l} spans named means) = absurd (omega (arith, one_role tree node 2 1 r (role_of tree node nodes.TypeName t l spans)))
  member_means node _ r (member {token = t} {member = m} {other = other} {declared = declared} {path = path} dotted of is) =
      record { token = t; member = m; path = path; other = other; declared = declared; dotted = dotted; of_package = of; is = is; meant_is = refl }
  member_means node _ r (assigned {token = t} {opens = opens} {closes = closes} {from = from} brings named first) =
      elim (brings_role tree Defined node t opens closes from brings) [
        | inl x ↦ absurd (omega (arith, one_role tree node 2 3 r x))
        | inr p ↦ absurd (omega (arith, one_role tree node 2 0 r p.0))
      ]

  -- the first name of its block
  pub record MeansFirst (node : ℕ) (meant : Declaration) : Type 0 where
    pub token : ℕ
    pub opens : ℕ
    pub closes : ℕ
    pub from : ℕ
    pub first : ℕ
    pub brings : Brings tree Defined node token opens closes from
    pub named : text token ≢ codes "_"
    pub is : IsFirstOf (read_of h file) token opens first
    pub meant_is : meant ≡ Declared file first

  pub assigned_means : (node : ℕ) (meant : Declaration) → HasRole tree node 3 ⊎ (HasRole tree node 0 × IsDefined tree node) → StandsFor h home file node meant → MeansFirst node meant
  assigned_means node meant (inl r) (value {token = t} {last = l} spans plain named means) = absurd (omega (arith, one_role tree node 3 0 r (role_of tree node nodes.NameUse t l spans)))
  assigned_means node meant (inr p) (value {token = t} {last = l} spans plain named means) = absurd (plain p.1)
  assigned_means node meant (inl r) (type_ {token = t} {last = l} spans named means) = absurd (omega (arith, one_role tree node 3 1 r (role_of tree node nodes.TypeName t l spans)))
  assigned_means node meant (inr p) (type_ {token = t} {last = l} spans named means) = absurd (omega (arith, one_role tree node 0 1 p.0 (role_of tree node nodes.TypeName t l spans)))
  assigned_means node _ (inl r) (member {token = t} {member = m} dotted of is) = absurd (omega (arith, one_role tree node 3 2 r (dotted_role tree t m node dotted)))
  assigned_means node _ (inr p) (member {token = t} {member = m} dotted of is) = absurd (omega (arith, one_role tree node 0 2 p.0 (dotted_role tree t m node dotted)))
  assigned_means node _ r (assigned {token = t} {opens = opens} {closes = closes} {from = from} {first = first} brings named is) =
      record { token = t; opens = opens; closes = closes; from = from; first = first; brings = brings; named = named; is = is; meant_is = refl }

  -- the node is there
  pub stands_there : (node : ℕ) (meant : Declaration) → StandsFor h home file node meant → (n : TreeNode) × (slice_get tree node ≡ Some n)
  stands_there node meant (value {token = t} {last = l} spans plain named means) = (record { kind = nodes.NameUse; token = t; last = l; first = spans.first; next = spans.next }, spans.there)
  stands_there node meant (type_ {token = t} {last = l} spans named means) = (record { kind = nodes.TypeName; token = t; last = l; first = spans.first; next = spans.next }, spans.there)
  stands_there node _ (member {token = t} {member = m} dotted of is) = role_there tree node 2 (dotted_role tree t m node dotted)
  stands_there node _ (assigned {token = t} {opens = opens} {closes = closes} {from = from} brings named first) = brought_there tree Defined node t opens closes from brings
