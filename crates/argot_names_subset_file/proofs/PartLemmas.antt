-- What is left out at one node, by its kind.
use Rattle.std.proofs.Common.{◌≡◌, ◌≢◌, ℕ, List, Some, None, refl, sym, ap, ◌∙◌, subst}
use Rattle.std.specs.Prelude.{slice_get}
use Rattle.argot_tree.specs.declared.node_kind.NodeKind.{NodeKind}
use Rattle.argot_tree.specs.declared.node_kind.NodeKind.TheVariants as nodes
use Rattle.argot_tree.specs.declared.token.Token.{Token}
use Rattle.argot_tree.specs.declared.token.TokenKind.{TokenKind}
use Rattle.argot_tree.specs.declared.token.TokenKind.TheVariants as kinds
use Rattle.argot_tree.specs.declared.tree.TreeNode.{TreeNode}
use Rattle.argot_names_rules.specs.Nodes.{Spans}
use Rattle.argot_names_rules.specs.Imports.{IsImport}
use Rattle.argot_names_rules.specs.declared.alias.Alias.{Alias}
use Rattle.argot_names_rules.specs.declared.alias.Alias.TheVariants.{Dotted}
use Rattle.argot_names_rules.specs.declared.flag.Feature.{Feature}
use Rattle.argot_names_rules.specs.declared.flag.Feature.TheVariants as features
use Rattle.argot_names_rules.specs.Subset.{LeavesLiteral, floating, imaginary}
use Rattle.argot_names_imports.proofs.Siting.{spans_of, parts_of, one_site}
use Rattle.argot_names_subset_file.specs.declared.parts.Part.{Part}
use Rattle.argot_answers.specs.Answers.{Exactly}
use Rattle.argot_names_subset_file.specs.Parts.{IsKindAt, IsLiteralAt, IsDot, IsPlain, type_parameters, goto_, IsNumber}
use Rattle.argot_answers.proofs.Exactly.{exact_none, exact_some, exact_one, exact_holds, exact_not}

pub part_is : (f g : Feature) (t u : ℕ) → f ≡ g → t ≡ u → ◌≡◌ {A = Part} (record { feature = f; token = t }) (record { feature = g; token = u })
part_is f g t u p q = λ i. record { feature = p i; token = q i }

pub some_is : {A : Type 0} (x y : A) → Some x ≡ Some y → x ≡ y
some_is x y e = cc

-- a node that is there has one kind
pub kind_is : (tree : List TreeNode) (k : ℕ) (n : TreeNode) (kind : NodeKind) (token last : ℕ) → slice_get tree k ≡ Some n → Spans tree k kind token last → n.kind ≡ kind
kind_is tree k n kind token last there spans = (parts_of tree k n kind token last there spans).kind_is

pub token_is : (tree : List TreeNode) (k : ℕ) (n : TreeNode) (kind : NodeKind) (token last : ℕ) → slice_get tree k ≡ Some n → Spans tree k kind token last → n.token ≡ token
token_is tree k n kind token last there spans = (parts_of tree k n kind token last there spans).token_is

pub not_there : (tree : List TreeNode) (k : ℕ) (kind : NodeKind) (token last : ℕ) → slice_get tree k ≡ None → Spans tree k kind token last → ⊥
not_there tree k kind token last e spans = let there = spans.there in absurd (cc)

module _ (tree : List TreeNode) (k : ℕ) where
  -- an import under a dot
  pub dot_some : (at path : ℕ) (alias : Alias) → IsImport tree k at path alias → alias ≡ Dotted → Exactly (IsDot tree k) (Some (record { feature = features.DotImport; token = at }))
  dot_some at path alias is e =
      exact_some (IsDot tree k) (record { feature = features.DotImport; token = at })
      (record { path_at = path; feature_is = refl; is = subst (λ a. IsImport tree k at path a) e is })
      (λ x h. part_is x.feature features.DotImport x.token at h.feature_is (one_site tree k x.token at h.path_at path Dotted alias h.is is).0)

  pub dot_other : (at path : ℕ) (alias : Alias) → IsImport tree k at path alias → alias ≢ Dotted → Exactly (IsDot tree k) None
  dot_other at path alias is never = exact_none (IsDot tree k) (λ x h. never (sym (one_site tree k x.token at h.path_at path Dotted alias h.is is).2))

  pub dot_none : ((at path : ℕ) (alias : Alias) → IsImport tree k at path alias → ⊥) → Exactly (IsDot tree k) None
  dot_none none = exact_none (IsDot tree k) (λ x h. none x.token h.path_at Dotted h.is)

  -- type parameters and `goto`
  pub plain_absent : slice_get tree k ≡ None → Exactly (IsPlain tree k) None
  plain_absent e = exact_none (IsPlain tree k) no
    where
      no : (x : Part) → IsPlain tree k x → ⊥
      no _ (type_parameters {token} {last} s) = not_there tree k nodes.TypeParams token last e s
      no _ (goto_ {token} {last} s) = not_there tree k nodes.Goto token last e s

  module _ (n : TreeNode) (there : slice_get tree k ≡ Some n) where
    pub plain_params : n.kind ≡ nodes.TypeParams → Exactly (IsPlain tree k) (Some (record { feature = features.TypeParameters; token = n.token }))
    plain_params is = exact_some (IsPlain tree k) (record { feature = features.TypeParameters; token = n.token }) (type_parameters (spans_of tree k n nodes.TypeParams there is)) one
      where
        one : (x : Part) → IsPlain tree k x → x ≡ record { feature = features.TypeParameters; token = n.token }
        one _ (type_parameters {token} {last} s) = part_is features.TypeParameters features.TypeParameters token n.token refl (sym (token_is tree k n nodes.TypeParams token last there s))
        one _ (goto_ {token} {last} s) = let other = kind_is tree k n nodes.Goto token last there s in absurd (cc)

    pub plain_goto : n.kind ≡ nodes.Goto → Exactly (IsPlain tree k) (Some (record { feature = features.Goto; token = n.token }))
    plain_goto is = exact_some (IsPlain tree k) (record { feature = features.Goto; token = n.token }) (goto_ (spans_of tree k n nodes.Goto there is)) one
      where
        one : (x : Part) → IsPlain tree k x → x ≡ record { feature = features.Goto; token = n.token }
        one _ (type_parameters {token} {last} s) = let other = kind_is tree k n nodes.TypeParams token last there s in absurd (cc)
        one _ (goto_ {token} {last} s) = part_is features.Goto features.Goto token n.token refl (sym (token_is tree k n nodes.Goto token last there s))

    pub plain_other : n.kind ≢ nodes.TypeParams → n.kind ≢ nodes.Goto → Exactly (IsPlain tree k) None
    plain_other no_params no_goto = exact_none (IsPlain tree k) no
      where
        no : (x : Part) → IsPlain tree k x → ⊥
        no _ (type_parameters {token} {last} s) = no_params (kind_is tree k n nodes.TypeParams token last there s)
        no _ (goto_ {token} {last} s) = no_goto (kind_is tree k n nodes.Goto token last there s)

    -- a literal
    pub literal_some : n.kind ≡ nodes.Literal → Exactly (IsLiteralAt tree k) (Some n.token)
    literal_some is = exact_some (IsLiteralAt tree k) n.token (record { last = n.last; spans = spans_of tree k n nodes.Literal there is }) (λ t h. sym (token_is tree k n nodes.Literal t h.last there h.spans))

    pub literal_other : n.kind ≢ nodes.Literal → Exactly (IsLiteralAt tree k) None
    literal_other never = exact_none (IsLiteralAt tree k) (λ t h. never (kind_is tree k n nodes.Literal t h.last there h.spans))

  pub literal_absent : slice_get tree k ≡ None → Exactly (IsLiteralAt tree k) None
  literal_absent e = exact_none (IsLiteralAt tree k) (λ t h. not_there tree k nodes.Literal t h.last e h.spans)

  module _ (tokens : List Token) where
    pub number_some : (token : ℕ) (kind : TokenKind) (feature : Feature) → Exactly (IsLiteralAt tree k) (Some token) → Exactly (IsKindAt tokens token) (Some kind) → Exactly (LeavesLiteral kind) (Some feature)
        → Exactly (IsNumber tokens tree k) (Some (record { feature = feature; token = token }))
    number_some token kind feature l t f =
        exact_some (IsNumber tokens tree k) (record { feature = feature; token = token })
        (record { kind = kind; literal = exact_holds (IsLiteralAt tree k) token l; is_kind = exact_holds (IsKindAt tokens token) kind t; leaves = exact_holds (LeavesLiteral kind) feature f })
        (λ x h.
        let at : x.token ≡ token = exact_one (IsLiteralAt tree k) token l x.token h.literal in
        let same : h.kind ≡ kind = exact_one (IsKindAt tokens token) kind t h.kind (subst (λ u. IsKindAt tokens u h.kind) at h.is_kind) in
        part_is x.feature feature x.token token (exact_one (LeavesLiteral kind) feature f x.feature (subst (λ u. LeavesLiteral u x.feature) same h.leaves)) at)

    pub number_plain : (token : ℕ) (kind : TokenKind) → Exactly (IsLiteralAt tree k) (Some token) → Exactly (IsKindAt tokens token) (Some kind) → Exactly (LeavesLiteral kind) None → Exactly (IsNumber tokens tree k) None
    number_plain token kind l t f =
        exact_none (IsNumber tokens tree k) (λ x h.
        let at : x.token ≡ token = exact_one (IsLiteralAt tree k) token l x.token h.literal in
        let same : h.kind ≡ kind = exact_one (IsKindAt tokens token) kind t h.kind (subst (λ u. IsKindAt tokens u h.kind) at h.is_kind) in
        exact_not (LeavesLiteral kind) f x.feature (subst (λ u. LeavesLiteral u x.feature) same h.leaves))

    pub number_lost : (token : ℕ) → Exactly (IsLiteralAt tree k) (Some token) → Exactly (IsKindAt tokens token) None → Exactly (IsNumber tokens tree k) None
    number_lost token l t =
        exact_none (IsNumber tokens tree k) (λ x h. exact_not (IsKindAt tokens token) t h.kind (subst (λ u. IsKindAt tokens u h.kind) (exact_one (IsLiteralAt tree k) token l x.token h.literal) h.is_kind))

    pub number_none : Exactly (IsLiteralAt tree k) None → Exactly (IsNumber tokens tree k) None
    number_none l = exact_none (IsNumber tokens tree k) (λ x h. exact_not (IsLiteralAt tree k) l x.token h.literal)

pub kind_some : (tokens : List Token) (token : ℕ) (is : Token) → slice_get tokens token ≡ Some is → Exactly (IsKindAt tokens token) (Some is.kind)
kind_some tokens token is there =
    exact_some (IsKindAt tokens token) is.kind (record { is = is; there = there; kind_is = refl })
    (λ x h. sym h.kind_is ∙ ap (λ t. t.kind) (some_is h.is is (sym h.there ∙ there)))

pub kind_none : (tokens : List Token) (token : ℕ) → slice_get tokens token ≡ None → Exactly (IsKindAt tokens token) None
kind_none tokens token e = exact_none (IsKindAt tokens token) (λ x h. let there = h.there in absurd (cc))

pub leaves_float : Exactly (LeavesLiteral kinds.Float) (Some features.FloatingPointLiteral)
leaves_float = exact_some (LeavesLiteral kinds.Float) features.FloatingPointLiteral floating (λ x h. one kinds.Float x h refl)
  where
    one : (kind : TokenKind) (x : Feature) → LeavesLiteral kind x → kind ≡ kinds.Float → x ≡ features.FloatingPointLiteral
    one _ _ floating e = refl
    one _ _ imaginary e = absurd (cc)

pub leaves_imaginary : Exactly (LeavesLiteral kinds.Imaginary) (Some features.ImaginaryLiteral)
leaves_imaginary = exact_some (LeavesLiteral kinds.Imaginary) features.ImaginaryLiteral imaginary (λ x h. one kinds.Imaginary x h refl)
  where
    one : (kind : TokenKind) (x : Feature) → LeavesLiteral kind x → kind ≡ kinds.Imaginary → x ≡ features.ImaginaryLiteral
    one _ _ floating e = absurd (cc)
    one _ _ imaginary e = refl

pub leaves_none : (kind : TokenKind) → kind ≢ kinds.Float → kind ≢ kinds.Imaginary → Exactly (LeavesLiteral kind) None
leaves_none kind no_float no_imaginary = exact_none (LeavesLiteral kind) (λ x h. no kind x h no_float no_imaginary)
  where
    no : (kind : TokenKind) (x : Feature) → LeavesLiteral kind x → kind ≢ kinds.Float → kind ≢ kinds.Imaginary → ⊥
    no _ _ floating a b = a refl
    no _ _ imaginary a b = b refl
