-- A node declares one name.
use Rattle.std.proofs.Common.{◌≡◌, ℕ, ◌<◌, inl, inr, List, Some, refl, sym, ap, ◌∙◌, subst, arith}
use Rattle.std.specs.Prelude.{slice_get}
use Rattle.argot_tree.specs.declared.tree.TreeNode.{TreeNode}
use Rattle.argot_names_rules.specs.Files.{SourceFiles, SourceFile, read_of, text_at}
use Rattle.argot_names_rules.specs.Bindings.{BindingKind, Brings}
use Rattle.argot_names_rules.specs.Loaded.{Declares, top, import_, local}
use Rattle.argot_names_blocks.specs.declared.binding.Binding.{Binding}
use Rattle.argot_names_blocks.specs.Binding.{written_of}
use Rattle.argot_names_imports.specs.declared.reached.Reached.{Reached}
use Rattle.argot_names_imports.specs.Numbers.{IsOfNumber}
use Rattle.argot_names_scopes.specs.declared.file.FileNames.{FileNames}
use Rattle.argot_names_tops.specs.declared.tops.Tops.{Tops}
use Rattle.argot_names_tops.specs.Tops.{AreTops, IsNamesOf}
use Rattle.argot_names_tops.proofs.Ordering.{ordered_all}
use Rattle.argot_names_tops.proofs.TopLists.{one_number}
use Rattle.argot_names_uses.specs.Items.{Claim, Either, IsTopIn, IsNewIn, IsImportIn, IsDeclaredBy}
use Rattle.argot_names_uses.proofs.NodeClasses.{IsOfClass, some_is, top_class, brings_class, import_class, class_one}
use Rattle.argot_names_uses.proofs.NumberedNodes.{less_or, one_node}
use Rattle.argot_names_uses.proofs.TopItems.{read_is}
use Rattle.argot_names_uses.proofs.NewItems.{manner_back}
use Rattle.argot_names_uses.proofs.ImportItems.{one_import}

-- the three ways in which a node declares a name
abbrev pub All : SourceFiles → Claim
All h = Either (Either (IsTopIn h) (IsNewIn h)) (IsImportIn h)

pub to_claim : (h : SourceFiles) (file node : ℕ) (name : List ℕ) → Declares h file node name → All h file node name
to_claim h file _ _ (top {sort = sort} {node = node} {token = token} is) = inl (inl (record { sort = sort; token = token; is = is; spells = refl }))
to_claim h file _ name (import_ {path = path} {place = place} is) = inr (record { path = path; place = place; is = is })
to_claim h file _ _ (local {manner = manner} {node = node} {token = token} {opens = opens} {closes = closes} {from = from} brings new) =
    inl (inr (record { manner = manner; token = token; opens = opens; closes = closes; from = from; brings = brings; new = new; spells = refl }))

pub from_claim : (h : SourceFiles) (file node : ℕ) (name : List ℕ) → All h file node name → Declares h file node name
from_claim h file node name (inl (inl t)) = subst (Declares h file node) (sym t.spells) (top t.is)
from_claim h file node name (inl (inr l)) = subst (Declares h file node) (sym l.spells) (local l.brings l.new)
from_claim h file node name (inr i) = import_ i.is

-- what the kind of the node says
data Told (h : SourceFiles) (file node : ℕ) (name : List ℕ) : Type 0 where
  by_token : (token : ℕ) → IsOfClass (read_of h file).nodes node 0 token → name ≡ text_at (read_of h file) token → Told h file node name
  by_clause : (at : ℕ) → IsOfClass (read_of h file).nodes node 1 at → IsNewIn h file node name → Told h file node name
  by_import : (at : ℕ) → IsOfClass (read_of h file).nodes node 2 at → IsImportIn h file node name → Told h file node name

tell : (h : SourceFiles) (file node : ℕ) (name : List ℕ) → All h file node name → Told h file node name
tell h file node name (inl (inl t)) = by_token t.token (top_class (read_of h file).nodes t.sort node t.token t.is) t.spells
tell h file node name (inl (inr l)) =
    elim (brings_class (read_of h file).nodes l.manner node l.token l.opens l.closes l.from l.brings) [
      | inl c ↦ by_token l.token c l.spells
      | inr c ↦ by_clause c.0 c.1 l
    ]
tell h file node name (inr i) = by_import i.is.at (import_class (read_of h file).nodes node i.is.at i.is.path_at i.is.alias i.is.imports.is) i

-- the node of a declaration is there
pub node_there : (h : SourceFiles) (file node : ℕ) (name : List ℕ) → Declares h file node name → (x : TreeNode) × (slice_get (read_of h file).nodes node ≡ Some x)
node_there h file node name d = go (tell h file node name (to_claim h file node name d))
  where
    go : Told h file node name → (x : TreeNode) × (slice_get (read_of h file).nodes node ≡ Some x)
    go (by_token token c e) = (c.is, c.there)
    go (by_clause at c l) = (c.is, c.there)
    go (by_import at c i) = (c.is, c.there)

-- the list has what a node brings, with this token
record HasBinding (n : FileNames) (node token : ℕ) : Type 0 where
  pub place : ℕ
  pub item : Binding
  pub there : slice_get n.bindings.brought.items place ≡ Some item
  pub node_is : item.node ≡ node
  pub token_is : item.token ≡ token

module _ (h : SourceFiles) (main : List ℕ) (r : Reached) (t : Tops) (are : AreTops h main r t) where
  -- a node brings one name
  one_brought : (file owner node : ℕ) (a b : List ℕ) → IsOfNumber h r file owner → IsNewIn h file node a → IsNewIn h file node b → a ≡ b
  one_brought file owner node a b of x y =
      let n = are.files.all file owner of in
      let names = (are.files.there file n.0 n.1).0 in
      x.spells ∙ (ap (text_at (read_of h file)) (one_token n.0 names (stands n.0 names x.manner x.token x.opens x.closes x.from x.brings) (stands n.0 names y.manner y.token y.opens y.closes y.from y.brings)) ∙ sym y.spells)
    where
      stands : (n : FileNames) → IsNamesOf h file n → (m : BindingKind) (token opens closes from : ℕ) → Brings (read_of h file).nodes m node token opens closes from → HasBinding n node token
      stands n names m token opens closes from brings =
          let z : Binding = record { manner = written_of m; node = node; token = token; opens = opens; closes = closes; from = from } in
          let here : Brings n.tree.now.nodes m node token opens closes from = subst (λ (f : SourceFile). Brings f.nodes m node token opens closes from) (sym (read_is h file n names)) brings in
          let i = names.names.brings.brought.complete z (subst (λ w. Brings n.tree.now.nodes w node token opens closes from) (sym (manner_back m)) here) in
          record { place = i.0; item = z; there = i.1; node_is = refl; token_is = refl }

      one_token : (n : FileNames) → IsNamesOf h file n → {s u : ℕ} → HasBinding n node s → HasBinding n node u → s ≡ u
      one_token n names p q =
          let ordered = ordered_all (λ (v w : Binding). v.node < w.node) (λ a b c d e. omega (arith, d, e)) n.bindings.brought.items names.names.brings.brought.ordered in
          elim (less_or p.place q.place) [
            | inl l ↦ absurd (omega (arith, ordered p.place q.place p.item q.item l p.there q.there, p.node_is, q.node_is))
            | inr o ↦ elim o [
              | inl z ↦ sym p.token_is ∙ (ap (λ (v : Binding). v.token) (some_is p.item q.item (sym p.there ∙ (ap (slice_get n.bindings.brought.items) z ∙ q.there))) ∙ q.token_is)
              | inr l ↦ absurd (omega (arith, ordered q.place p.place q.item p.item l q.there p.there, p.node_is, q.node_is))
            ]
          ]

  one_told : (file owner node : ℕ) (a b : List ℕ) → IsOfNumber h r file owner → Told h file node a → Told h file node b → a ≡ b
  one_told file owner node a b of (by_token s c e) (by_token u d f) = e ∙ (ap (text_at (read_of h file)) (class_one (read_of h file).nodes node 0 0 s u c d).1 ∙ sym f)
  one_told file owner node a b of (by_clause s c x) (by_clause u d y) = one_brought file owner node a b of x y
  one_told file owner node a b of (by_import s c x) (by_import u d y) = one_import h main r are.reach t.imports.items are.imports owner file node a b x.path y.path x.place y.place of x.is y.is
  one_told file owner node a b of (by_token s c e) (by_clause u d y) = absurd (omega (arith, (class_one (read_of h file).nodes node 0 1 s u c d).0))
  one_told file owner node a b of (by_token s c e) (by_import u d y) = absurd (omega (arith, (class_one (read_of h file).nodes node 0 2 s u c d).0))
  one_told file owner node a b of (by_clause s c x) (by_token u d f) = absurd (omega (arith, (class_one (read_of h file).nodes node 1 0 s u c d).0))
  one_told file owner node a b of (by_clause s c x) (by_import u d y) = absurd (omega (arith, (class_one (read_of h file).nodes node 1 2 s u c d).0))
  one_told file owner node a b of (by_import s c x) (by_token u d f) = absurd (omega (arith, (class_one (read_of h file).nodes node 2 0 s u c d).0))
  one_told file owner node a b of (by_import s c x) (by_clause u d y) = absurd (omega (arith, (class_one (read_of h file).nodes node 2 1 s u c d).0))

  pub one_name : (file owner node : ℕ) (a b : List ℕ) → IsOfNumber h r file owner → Declares h file node a → Declares h file node b → a ≡ b
  one_name file owner node a b of x y = one_told file owner node a b of (tell h file node a (to_claim h file node a x)) (tell h file node b (to_claim h file node b y))

  -- and a number is that of one declaration
  pub one_declared : (a b number : ℕ) (x y : List ℕ) → IsDeclaredBy h r (Declares h) a number x → IsDeclaredBy h r (Declares h) b number y → (a ≡ b) × (x ≡ y)
  one_declared a b number x y p q =
      let m = node_there h p.file p.node x p.declares in
      let n = node_there h q.file q.node y q.declares in
      let same = one_node h p.file q.file p.node q.node m.0 n.0 m.1 n.1 (sym p.number_is ∙ q.number_is) in (
        one_number h main r are.reach q.file a b (subst (λ f. IsOfNumber h r f a) same.0 p.of) q.of,
        one_name q.file b q.node x y q.of (subst (λ k. Declares h q.file k x) same.1 (subst (λ f. Declares h f p.node x) same.0 p.declares)) q.declares,
      )
