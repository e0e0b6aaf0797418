-- Functions named `main`.
use Rattle.std.proofs.Common.{◌≡◌, ℕ, ◌<◌, ◌≤◌, List, [], length, Bool, true, false, Option, Some, None, refl, sym, ap, ◌∙◌, subst, arith}
use Rattle.std.specs.Prelude.{◌↔◌, IsTrue, codes, slice_get}
use Rattle.argot_answers.specs.Answers.{Exactly}
use Rattle.argot_answers.proofs.Exactly.{exact_none, exact_some, exact_one, exact_holds, exact_not}
use Rattle.argot_files.proofs.Nodes.{get_below, kind_is, token_is, not_there, some_is, spans_of}
use Rattle.argot_tree.specs.declared.node_kind.NodeKind.{NodeKind}
use Rattle.argot_tree.specs.declared.node_kind.NodeKind.TheVariants as nodes
use Rattle.argot_tree.specs.declared.tree.TreeNode.{TreeNode}
use Rattle.argot_names_rules.specs.Files.{SourceFile, text_at}
use Rattle.argot_names_rules.specs.Nodes.{HasReceiver, IsChild, Spans}
use Rattle.argot_names_rules.specs.PackageScope.{IsTopName, Function, function}
use Rattle.argot_names_imports.proofs.FirstFiles.{same_text, text_same}
use Rattle.argot_names_packages.specs.Mains.{is_declared, is_function, is_main_text, IsMainNode, HasMainNode}

declared_kind : (kind : NodeKind) → is_declared kind ≡ true → kind ≡ nodes.DeclName
declared_kind nodes.DeclName e = refl
declared_kind _ e = absurd (cc)

function_kind : (kind : NodeKind) → is_function kind ≡ true → kind ≡ nodes.FuncDecl
function_kind nodes.FuncDecl e = refl
function_kind _ e = absurd (cc)

kind_declared : (kind : NodeKind) → kind ≡ nodes.DeclName → is_declared kind ≡ true
kind_declared kind e = ap is_declared e

kind_function : (kind : NodeKind) → kind ≡ nodes.FuncDecl → is_function kind ≡ true
kind_function kind e = ap is_function e

-- the declaration of which a node is the name
record IsName (tree : List TreeNode) (k token : ℕ) : Type 0 where
  pub decl : ℕ
  pub at : ℕ
  pub last : ℕ
  pub end : ℕ
  pub is : Spans tree decl nodes.FuncDecl at last
  pub alone : HasReceiver tree decl → ⊥
  pub under : IsChild tree decl k
  pub name : Spans tree k nodes.DeclName token end

is_name : (tree : List TreeNode) (k token : ℕ) → IsTopName tree Function k token → IsName tree k token
is_name tree k token (function {decl = decl} {at = at} {last = last} {end = end} spans none child name) =
    record { decl = decl; at = at; last = last; end = end; is = spans; alone = none; under = child; name = name }

module _ (tree : List TreeNode) (k : ℕ) where
  pub no_node : slice_get tree k ≡ None → Exactly (IsTopName tree Function k) None
  no_node e = exact_none (IsTopName tree Function k) (λ t h. let n = is_name tree k t h in not_there tree k nodes.DeclName t n.end e n.name)

  pub no_parent : Exactly (λ p. IsChild tree p k) None → Exactly (IsTopName tree Function k) None
  no_parent is = exact_none (IsTopName tree Function k) (λ t h. let n = is_name tree k t h in exact_not (λ p. IsChild tree p k) is n.decl n.under)

  module _ (n : TreeNode) (there : slice_get tree k ≡ Some n) where
    pub no_name : is_declared n.kind ≡ false → Exactly (IsTopName tree Function k) None
    no_name e =
        exact_none (IsTopName tree Function k) (λ t h.
        let m = is_name tree k t h in
        let yes = kind_declared n.kind (kind_is tree k n nodes.DeclName t m.end there m.name) in
        absurd (cc))

    module _ (p : ℕ) (is : Exactly (λ q. IsChild tree q k) (Some p)) where
      one : (t : ℕ) (h : IsTopName tree Function k t) → (is_name tree k t h).decl ≡ p
      one t h = exact_one (λ q. IsChild tree q k) p is (is_name tree k t h).decl (is_name tree k t h).under

      pub no_decl : slice_get tree p ≡ None → Exactly (IsTopName tree Function k) None
      no_decl e =
          exact_none (IsTopName tree Function k) (λ t h.
          let m = is_name tree k t h in
          not_there tree p nodes.FuncDecl m.at m.last e (subst (λ q. Spans tree q nodes.FuncDecl m.at m.last) (one t h) m.is))

      pub no_receiver : HasReceiver tree p → Exactly (IsTopName tree Function k) None
      no_receiver r = exact_none (IsTopName tree Function k) (λ t h. (is_name tree k t h).alone (subst (HasReceiver tree) (sym (one t h)) r))

      module _ (d : TreeNode) (above : slice_get tree p ≡ Some d) where
        pub no_function : is_function d.kind ≡ false → Exactly (IsTopName tree Function k) None
        no_function e =
            exact_none (IsTopName tree Function k) (λ t h.
            let m = is_name tree k t h in
            let yes = kind_function d.kind (kind_is tree p d nodes.FuncDecl m.at m.last above (subst (λ q. Spans tree q nodes.FuncDecl m.at m.last) (one t h) m.is)) in
            absurd (cc))

        pub a_function : is_declared n.kind ≡ true → is_function d.kind ≡ true → (HasReceiver tree p → ⊥) → Exactly (IsTopName tree Function k) (Some n.token)
        a_function a b none =
            exact_some (IsTopName tree Function k) n.token
            (function {decl = p} {node = k} {token = n.token} {at = d.token} {last = d.last} {end = n.last} (spans_of tree p d nodes.FuncDecl above (function_kind d.kind b)) none (exact_holds (λ q. IsChild tree q k) p is)
            (spans_of tree k n nodes.DeclName there (declared_kind n.kind a)))
            (λ t h. let m = is_name tree k t h in sym (token_is tree k n nodes.DeclName t m.end there m.name))

module _ (f : SourceFile) (k : ℕ) where
  -- a function is one by its text
  pub by_text : (token : ℕ) (text : List ℕ) (b : Bool) → Exactly (IsTopName f.nodes Function k) (Some token) → text ≡ text_at f token → b ≡ is_main_text text → IsTrue b ↔ IsMainNode f k
  by_text token text b is spells test = (
    λ yes. record {
      token = token;
      is = exact_holds (IsTopName f.nodes Function k) token is;
      named = sym spells ∙ same_text text (codes "main") (sym test ∙ yes);
    },
    λ m.
        let same : m.token ≡ token = exact_one (IsTopName f.nodes Function k) token is m.token m.is in
        let named : text ≡ codes "main" = spells ∙ (ap (text_at f) (sym same) ∙ m.named) in
        test ∙ (ap is_main_text named ∙ text_same (codes "main")),
  )

  pub no_main : Exactly (IsTopName f.nodes Function k) None → IsMainNode f k → ⊥
  no_main is m = exact_not (IsTopName f.nodes Function k) is m.token m.is

-- a node that is one is there
pub main_below : (f : SourceFile) (k : ℕ) → IsMainNode f k → k < length f.nodes
main_below f k m = let n = is_name f.nodes k m.token m.is in get_below f.nodes k _ n.name.there

false_true : false ≡ true → ⊥
false_true e = cc

-- a file without nodes has none
pub nothing_main : (f : SourceFile) → f.nodes ≡ [] → (false ≡ true) ↔ HasMainNode f
nothing_main f e = (λ no_way. absurd (false_true no_way), λ m. absurd (omega (arith, main_below f m.0 m.1, ap length e)))
