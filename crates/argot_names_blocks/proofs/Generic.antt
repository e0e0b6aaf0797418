-- The table of generic declarations grows by one node after the other; what is computed of dot imports is what the
-- definition says.
use Rattle.std.proofs.Common.{◌≡◌, ℕ, ◌+◌, ◌<◌, ◌≤◌, List, length, Bool, true, false, Option, Some, None, inl, inr, refl, sym, ap, ◌∙◌, subst, arith}
use Rattle.std.specs.Prelude.{◌⊎◌, slice_get, ◌&&◌}
use Rattle.std.proofs.lemmas.Bool.{cases_eq, cases_lt}
use Rattle.std.proofs.lemmas.Option.{slice_get_within}
use Rattle.argot_tree.specs.declared.node_kind.NodeKind.{NodeKind}
use Rattle.argot_tree.specs.declared.node_kind.NodeKind.TheVariants as nodes
use Rattle.argot_tree.specs.declared.tree.TreeNode.{TreeNode}
use Rattle.argot_names_rules.specs.Nodes.{Spans, HasChild, IsFirstChild}
use Rattle.argot_names_rules.specs.Uses.{may_be_generic, IsInGeneric, HasDotImport}
use Rattle.argot_names_rules.specs.Imports.{IsImport, dotted}
use Rattle.argot_names_rules.specs.declared.alias.Alias.TheVariants.{Dotted}
use Rattle.argot_names_blocks.specs.declared.tables.Found.{Found}
use Rattle.argot_names_blocks.specs.declared.roles.Role.{Role}
use Rattle.argot_names_blocks.specs.declared.roles.Role.TheVariants as roles
use Rattle.argot_files.specs.declared.marks.Wanted.TheVariants as wants
use Rattle.argot_names_blocks.specs.Generics.{PaintsTrue, is_true, by_path, dot_at, by_dot, dot_of, is_dot_of}
use Rattle.argot_names_blocks.specs.Listing.{AreGenerics, AreGenericsUpTo, TellsDot}
use Rattle.argot_files.specs.Marks.{is_type_params, HasWanted, AreMarks}
use Rattle.argot_names_blocks.specs.Roles.{role_of}
use Rattle.argot_names_blocks.specs.Bringing.{found_at}
use Rattle.argot_files.proofs.Listed.{some_is}
use Rattle.argot_names_blocks.proofs.Finding.{spans_of, is_of, found_there, at_found, get_some}
use Rattle.argot_names_blocks.proofs.RoleKinds.{only_dotted, only_path}

-- a number lies between two or apart from them
pub lies_or : (from to k : ℕ) → ((from ≤ k) × (k ≤ to)) ⊎ ((k < from) ⊎ (to < k))
lies_or from to k = elim (cases_lt k from) [
  | inl low ↦ inr (inl low)
  | inr high ↦ elim (cases_lt to k) [ inl behind ↦ inr (inr behind) | inr within ↦ inl (omega arith, omega arith) ]
]

type_params_kind : (kind : NodeKind) → is_type_params kind ≡ true → kind ≡ nodes.TypeParams
type_params_kind nodes.TypeParams e = refl
type_params_kind kind e = absurd (cc)

-- node k has type parameters
abbrev pub IsGeneric : List TreeNode → ℕ → TreeNode → Type 0
IsGeneric ns k n = (may_be_generic n.kind ≡ true) × HasChild ns k nodes.TypeParams

pub marked : (ns : List TreeNode) (marks : List Bool) (k : ℕ) → AreMarks ns wants.TypeParameters marks → is_true (slice_get marks k) ≡ true → HasChild ns k nodes.TypeParams
marked ns marks k ok e = go (slice_get marks k) refl e
  where
    go : (o : Option Bool) → slice_get marks k ≡ o → is_true o ≡ true → HasChild ns k nodes.TypeParams
    go None f g = absurd (cc)
    go (Some b) f g =
        let has = ok.sound k (f ∙ ap Some g) in
        record { child = has.child; under = has.under; is = record { token = has.is.token; last = has.is.last; spans = spans_of ns has.child has.is nodes.TypeParams has.there (type_params_kind has.is.kind has.passes) } }

pub unmarked : (ns : List TreeNode) (marks : List Bool) (k : ℕ) (n : TreeNode) → AreMarks ns wants.TypeParameters marks → slice_get ns k ≡ Some n → is_true (slice_get marks k) ≡ false → HasChild ns k nodes.TypeParams → ⊥
unmarked ns marks k n ok e f has =
    let some = get_some marks k (omega (arith, ok.as_long, slice_get_within ns k n e)) in
    go some.0 some.1
  where
    own : HasWanted ns wants.TypeParameters k
    own = record { child = has.child; is = record { kind = nodes.TypeParams; token = has.is.token; last = has.is.last; first = has.is.spans.first; next = has.is.spans.next }; under = has.under; there = has.is.spans.there; passes = refl }

    go : (b : Bool) → slice_get marks k ≡ Some b → ⊥
    go false g = ok.complete k g own
    go true g =
        let yes : is_true (slice_get marks k) ≡ true = ap is_true g in
        absurd (cc)

-- node k is no declaration with type parameters
pub not_generic : (ns : List TreeNode) (k : ℕ) (n : TreeNode) (table : List Bool) → slice_get ns k ≡ Some n → (IsGeneric ns k n → ⊥) → AreGenericsUpTo ns k table → AreGenericsUpTo ns (k + 1) table
not_generic ns k n table e plain h =
    record {
      sound = h.sound;
      complete = λ t f g low. elim (cases_eq g.node k) [
        | inl same ↦ absurd (own t g same)
        | inr other ↦ h.complete t f g (omega arith)
      ];
    }
  where
    own : (t : ℕ) (g : IsInGeneric ns t) → g.node ≡ k → ⊥
    own t g same =
        let one = some_is (record { kind = g.is.kind; token = g.at; last = g.last; first = g.is.spans.first; next = g.is.spans.next }) n (sym g.is.spans.there ∙ subst (λ x. slice_get ns x ≡ Some n) (sym same) e) in
        plain (subst (λ m. may_be_generic m.kind ≡ true) one g.is.passes, subst (λ x. HasChild ns x nodes.TypeParams) same g.generic)

-- node k is one, and its tokens are marked
pub is_generic : (ns : List TreeNode) (k : ℕ) (n : TreeNode) (table new : List Bool) → slice_get ns k ≡ Some n → IsGeneric ns k n → PaintsTrue table new n.token n.last → AreGenericsUpTo ns k table → AreGenericsUpTo ns (k + 1) new
is_generic ns k n table new e generic p h =
    record {
      sound = λ t f. elim (lies_or n.token n.last t) [
        | inl within ↦ record { node = k; at = n.token; last = n.last; is = is_of ns k n may_be_generic e generic.0; generic = generic.1; from = within.0; to = within.1 }
        | inr out ↦ h.sound t (sym (p.others t out) ∙ f)
      ];
      complete = λ t f g low. elim (lies_or n.token n.last t) [
        | inl within ↦
            let here = p.inside t within.0 within.1 (omega (arith, slice_get_within new t false f, p.as_long)) in
            absurd (cc)
        | inr out ↦ elim (cases_eq g.node k) [
          | inl same ↦
              let one = some_is (record { kind = g.is.kind; token = g.at; last = g.last; first = g.is.spans.first; next = g.is.spans.next }) n (sym g.is.spans.there ∙ subst (λ x. slice_get ns x ≡ Some n) (sym same) e) in
              let from : g.at ≡ n.token = (λ i. (one i).token) in
              let to : g.last ≡ n.last = (λ i. (one i).last) in
              elim out [ inl low' ↦ absurd (omega (arith, g.from)) | inr high ↦ absurd (omega (arith, g.to)) ]
          | inr other ↦ h.complete t (sym (p.others t out) ∙ f) g (omega arith)
        ]
      ];
    }

pub none_generic : (ns : List TreeNode) (table : List Bool) → ((t : ℕ) → slice_get table t ≡ Some true → ⊥) → AreGenericsUpTo ns 0 table
none_generic ns table none = record { sound = λ t e. absurd (none t e); complete = λ t f g low. absurd (omega arith) }

pub all_generic : (ns : List TreeNode) (k : ℕ) (table : List Bool) → length ns ≤ k → AreGenericsUpTo ns k table → AreGenerics ns table
all_generic ns k table low h =
    record {
      sound = h.sound;
      complete = λ t f g. h.complete t f g (omega (arith, slice_get_within ns g.node (record { kind = g.is.kind; token = g.at; last = g.last; first = g.is.spans.first; next = g.is.spans.next }) g.is.spans.there));
    }

-- dot imports
path_role : (o : Option Found) → dot_at o ≡ true → (f : Found) × (o ≡ Some f) × (role_of f.node.kind ≡ roles.Path)
path_role None e = absurd (cc)
path_role (Some f) e = (f, refl, go (role_of f.node.kind) refl e)
  where
    go : (role : Role) → role_of f.node.kind ≡ role → by_path role ≡ true → role_of f.node.kind ≡ roles.Path
    go roles.Path r h = r
    go role r h = absurd (cc)

pub dot_there : (ns : List TreeNode) (k : ℕ) → is_dot_of ns k ≡ true → HasDotImport ns
dot_there ns k e = go (slice_get ns k) refl e
  where
    by : (n : TreeNode) → slice_get ns k ≡ Some n → (role : Role) → role_of n.kind ≡ role → by_dot ns n role ≡ true → HasDotImport ns
    by n f roles.DotImport r g =
        let path = path_role (found_at ns n.first) g in
        let is = found_there ns n.first path.0 path.1 in
        let child : IsFirstChild ns k path.0.at = record { is = n; there = f; first = is.link_is } in
        record {
          node = k;
          at = n.token;
          path_at = path.0.node.token;
          is = dotted (spans_of ns k n nodes.DotSpec f (only_dotted n.kind r)) child (spans_of ns path.0.at path.0.node nodes.ImportPath is.there (only_path path.0.node.kind path.2));
        }
    by n f role r g = absurd (cc)

    go : (o : Option TreeNode) → slice_get ns k ≡ o → dot_of ns o ≡ true → HasDotImport ns
    go None f g = absurd (cc)
    go (Some n) f g = by n f (role_of n.kind) refl g

-- an import under a dot is found
abbrev node : {ns : List TreeNode} {k token last : ℕ} {kind : NodeKind} → Spans ns k kind token last → TreeNode
node {token = token} {last = last} {kind = kind} s = record { kind = kind; token = token; last = last; first = s.first; next = s.next }

dot_found : (ns : List TreeNode) (k at path : ℕ) → IsImport ns k at path Dotted → (is_dot_of ns k ≡ true) × (k < length ns)
dot_found ns k at path (dotted {child = child} is child_first child_is) =
    let same = some_is child_first.is (node is) (sym child_first.there ∙ is.there) in
    let first_is : is.first ≡ Some child = sym (λ i. (same i).first) ∙ child_first.first in (
      ap (dot_of ns) is.there ∙ (ap (λ o. dot_at (found_at ns o)) first_is ∙ ap dot_at (at_found ns child (node child_is) child_is.there)),
      slice_get_within ns k (node is) is.there,
    )

pub tells_dot : (ns : List TreeNode) (k : ℕ) → length ns ≤ k → ((j : ℕ) → j < k → is_dot_of ns j ≡ false) → TellsDot ns false
tells_dot ns k low none =
    record {
      there = λ e. absurd (cc);
      none = λ e h.
          let found = dot_found ns h.node h.at h.path_at h.is in
          let never = none h.node (omega (arith, found.1)) in
          absurd (cc);
    }

pub tells_there : (ns : List TreeNode) (k : ℕ) → is_dot_of ns k ≡ true → TellsDot ns true
tells_there ns k e = record { there = λ f. dot_there ns k e; none = λ f h. absurd (cc) }

both_true : (a b : Bool) → (a && b) ≡ true → (a ≡ true) × (b ≡ true)
both_true true b e = (refl, e)
both_true false b e = absurd (cc)

one_false : (a b : Bool) → (a && b) ≡ false → (a ≡ false) ⊎ (b ≡ false)
one_false true b e = inr e
one_false false b e = inl refl

pub has_generic : (ns : List TreeNode) (marks : List Bool) (k : ℕ) (n : TreeNode) → AreMarks ns wants.TypeParameters marks → (may_be_generic n.kind && is_true (slice_get marks k)) ≡ true → IsGeneric ns k n
has_generic ns marks k n ok e =
    let two = both_true (may_be_generic n.kind) (is_true (slice_get marks k)) e in
    (two.0, marked ns marks k ok two.1)

pub lacks_generic : (ns : List TreeNode) (marks : List Bool) (k : ℕ) (n : TreeNode) → AreMarks ns wants.TypeParameters marks → slice_get ns k ≡ Some n → (may_be_generic n.kind && is_true (slice_get marks k)) ≡ false → IsGeneric ns k n → ⊥
lacks_generic ns marks k n ok e f g = elim (one_false (may_be_generic n.kind) (is_true (slice_get marks k)) f) [
  | inl kind ↦
      let has = g.0 in
      absurd (cc)
  | inr none ↦ unmarked ns marks k n ok e none g.1
]
