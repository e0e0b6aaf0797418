-- Nodes of a tree: their parts, and what the tables say of them.
use Rattle.std.specs.Prelude.{◌↔◌, slice_get, is_some, IsTrue}
use Rattle.std.proofs.Common.{◌≡◌, ℕ, zero, suc, ◌<◌, ◌≤◌, List, [], ◌∷◌, length, Bool, true, false, Option, Some, None, refl, sym, ap, ◌∙◌, arith}
use Rattle.argot_tree.specs.declared.node_kind.NodeKind.{NodeKind}
use Rattle.argot_tree.specs.declared.node_kind.NodeKind.TheVariants as nodes
use Rattle.argot_tree.specs.declared.tree.TreeNode.{TreeNode}
use Rattle.argot_names_rules.specs.Nodes.{Spans}
use Rattle.argot_files.specs.Keys.{is_braces}
use Rattle.argot_names_rules.specs.Nodes.{Is, IsOf, IsChild, first as first_child, HasChild, HasReceiver, is_params}
use Rattle.argot_files.specs.declared.marks.Wanted.TheVariants.{Parameters}
use Rattle.argot_files.specs.Keys.{AreKeys, IsKeyChild, fits, key_of}
use Rattle.argot_files.specs.Marks.{AreMarks}
use Rattle.argot_answers.specs.Answers.{Exactly}
use Rattle.argot_answers.proofs.Exactly.{exact_holds, exact_not}

pub get_below : {A : Type 0} (xs : List A) (k : ℕ) (y : A) → slice_get xs k ≡ Some y → k < length xs
get_below [] k y e = absurd (cc)
get_below (x ∷ xs) zero y e = omega arith
get_below (x ∷ xs) (suc k) y e = let l = get_below xs k y e in omega (arith, l)

pub get_none : {A : Type 0} (xs : List A) (k : ℕ) → slice_get xs k ≡ None → length xs ≤ k
get_none [] k e = omega arith
get_none (x ∷ xs) zero e = absurd (cc)
get_none (x ∷ xs) (suc k) e = let l = get_none xs k e in omega (arith, l)

pub some_is : {A : Type 0} (x y : A) → Some x ≡ Some y → x ≡ y
some_is x y e = cc

-- the parts of a node
pub spans_of : (tree : List TreeNode) (node : ℕ) (is : TreeNode) (kind : NodeKind) → slice_get tree node ≡ Some is → is.kind ≡ kind → Spans tree node kind is.token is.last
spans_of tree node is kind at kind_is =
    record {
      first = is.first;
      next = is.next;
      there = at ∙ ap (λ k. Some (record { kind = k; token = is.token; last = is.last; first = is.first; next = is.next })) kind_is;
    }

pub record Parts (is : TreeNode) (kind : NodeKind) (token last : ℕ) : Type 0 where
  pub kind_is : is.kind ≡ kind
  pub token_is : is.token ≡ token
  pub last_is : is.last ≡ last

pub parts_of : (tree : List TreeNode) (node : ℕ) (is : TreeNode) (kind : NodeKind) (token last : ℕ) → slice_get tree node ≡ Some is → Spans tree node kind token last → Parts is kind token last
parts_of tree node is kind token last at s =
    let same : is ≡ record { kind = kind; token = token; last = last; first = s.first; next = s.next } = some_is _ _ (sym at ∙ s.there) in
    record {
      kind_is = ap (λ (n : TreeNode). n.kind) same;
      token_is = ap (λ (n : TreeNode). n.token) same;
      last_is = ap (λ (n : TreeNode). n.last) same;
    }

pub braces_kind : (kind : NodeKind) → is_braces kind ≡ true → kind ≡ nodes.Block
braces_kind nodes.Block e = refl
braces_kind kind e = absurd (cc)

-- a node that is there has one kind
pub kind_is : (tree : List TreeNode) (k : ℕ) (n : TreeNode) (kind : NodeKind) (token last : ℕ) → slice_get tree k ≡ Some n → Spans tree k kind token last → n.kind ≡ kind
kind_is tree k n kind token last there spans = (parts_of tree k n kind token last there spans).kind_is

pub token_is : (tree : List TreeNode) (k : ℕ) (n : TreeNode) (kind : NodeKind) (token last : ℕ) → slice_get tree k ≡ Some n → Spans tree k kind token last → n.token ≡ token
token_is tree k n kind token last there spans = (parts_of tree k n kind token last there spans).token_is

pub not_there : (tree : List TreeNode) (k : ℕ) (kind : NodeKind) (token last : ℕ) → slice_get tree k ≡ None → Spans tree k kind token last → ⊥
not_there tree k kind token last e spans = let there = spans.there in absurd (cc)

-- a node of a kind that passes a test
pub of_there : (tree : List TreeNode) (k : ℕ) (n : TreeNode) (test : NodeKind → Bool) → slice_get tree k ≡ Some n → test n.kind ≡ true → IsOf tree k test n.token n.last
of_there tree k n test there e = record { kind = n.kind; spans = spans_of tree k n n.kind there refl; passes = e }

pub of_kind : (tree : List TreeNode) (k : ℕ) (n : TreeNode) (test : NodeKind → Bool) (token last : ℕ) → slice_get tree k ≡ Some n → IsOf tree k test token last → test n.kind ≡ true
of_kind tree k n test token last there is = ap test (kind_is tree k n is.kind token last there is.spans) ∙ is.passes

pub of_token : (tree : List TreeNode) (k : ℕ) (n : TreeNode) (test : NodeKind → Bool) (token last : ℕ) → slice_get tree k ≡ Some n → IsOf tree k test token last → n.token ≡ token
of_token tree k n test token last there is = token_is tree k n is.kind token last there is.spans

pub of_absent : (tree : List TreeNode) (k : ℕ) (test : NodeKind → Bool) (token last : ℕ) → slice_get tree k ≡ None → IsOf tree k test token last → ⊥
of_absent tree k test token last e is = not_there tree k is.kind token last e is.spans

pub is_kind : (tree : List TreeNode) (k : ℕ) (n : TreeNode) (kind : NodeKind) → slice_get tree k ≡ Some n → Is tree k kind → n.kind ≡ kind
is_kind tree k n kind there is = kind_is tree k n kind is.token is.last there is.spans

pub is_there : (tree : List TreeNode) (k : ℕ) (n : TreeNode) (kind : NodeKind) → slice_get tree k ≡ Some n → n.kind ≡ kind → Is tree k kind
is_there tree k n kind there e = record { token = n.token; last = n.last; spans = spans_of tree k n kind there e }

module _ (tree : List TreeNode) (k : ℕ) where
  pub child_there : (p : ℕ) → IsChild tree p k → (f : TreeNode) × (slice_get tree p ≡ Some f)
  child_there p (first_child f) = (f.is, f.there)
  child_there p (IsChild.next c _) = parent_there c
    where
      parent_there : {c : ℕ} → IsChild tree p c → (f : TreeNode) × (slice_get tree p ≡ Some f)
      parent_there (first_child f) = (f.is, f.there)
      parent_there (IsChild.next c _) = parent_there c

module _ (tree : List TreeNode) where
  body_child : (keys : List (Option ℕ)) → AreKeys tree keys → (p c : ℕ) → Is tree p nodes.FuncDecl → slice_get keys p ≡ Some (Some c) → HasChild tree p nodes.Block
  body_child keys ok p c is e =
      let h = ok.sound p c e in
      let func : h.above.kind ≡ nodes.FuncDecl = is_kind tree p h.above nodes.FuncDecl h.above_there is in
      let braces : is_braces h.below.kind ≡ true = sym (ap (λ kind. fits (key_of kind) h.below.kind) func) ∙ h.fits in
      record { child = c; under = h.under; is = is_there tree c h.below nodes.Block h.below_there (braces_kind h.below.kind braces) }

  child_body : (keys : List (Option ℕ)) → AreKeys tree keys → (p : ℕ) → Is tree p nodes.FuncDecl → HasChild tree p nodes.Block → (c : ℕ) × (slice_get keys p ≡ Some (Some c))
  child_body keys ok p is h = (
    h.child,
    ok.complete p h.child (record {
      above = record { kind = nodes.FuncDecl; token = is.token; last = is.last; first = is.spans.first; next = is.spans.next };
      below = record { kind = nodes.Block; token = h.is.token; last = h.is.last; first = h.is.spans.first; next = h.is.spans.next };
      under = h.under;
      above_there = is.spans.there;
      below_there = h.is.spans.there;
      fits = refl;
    }),
  )

  -- by a test of the table
  pub bodies_iff : (keys : List (Option ℕ)) → AreKeys tree keys → (p : ℕ) (o : Option ℕ) → Exactly (λ c. slice_get keys p ≡ Some (Some c)) o → Is tree p nodes.FuncDecl → (b : Bool) → b ≡ is_some o → IsTrue b ↔ HasChild tree p nodes.Block
  bodies_iff keys ok p (Some c) e is true same = (λ _. body_child keys ok p c is (exact_holds (λ d. slice_get keys p ≡ Some (Some d)) c e), λ _. refl)
  bodies_iff keys ok p None e is false same = (λ t. absurd (cc), λ h. let c = child_body keys ok p is h in absurd (exact_not (λ d. slice_get keys p ≡ Some (Some d)) e c.0 c.1))
  bodies_iff keys ok p (Some c) e is false same = absurd (cc)
  bodies_iff keys ok p None e is true same = absurd (cc)

-- methods by their marks
pub receivers_iff : (tree : List TreeNode) (marks : List Bool) (decl : ℕ) → AreMarks tree Parameters marks → (b : Bool) → (IsTrue b ↔ (slice_get marks decl ≡ Some true)) → IsTrue b ↔ HasReceiver tree decl
receivers_iff tree marks decl are b is = (λ t. to (is.0 t), λ h. from h (slice_get marks decl) refl)
  where
    to : slice_get marks decl ≡ Some true → HasReceiver tree decl
    to e = let h = are.sound decl e in record { child = h.child; token = h.is.token; last = h.is.last; under = h.under; is = of_there tree h.child h.is is_params h.there h.passes }

    from : HasReceiver tree decl → (o : Option Bool) → slice_get marks decl ≡ o → IsTrue b
    from h (Some true) e = is.1 e
    from h (Some false) e =
        absurd (are.complete decl e (record {
          child = h.child;
          is = record { kind = h.is.kind; token = h.token; last = h.last; first = h.is.spans.first; next = h.is.spans.next };
          under = h.under;
          there = h.is.spans.there;
          passes = h.is.passes;
        }))
    from h None e =
        let n = child_there tree h.child decl h.under in
        absurd (omega (arith, get_below tree decl n.0 n.1, get_none marks decl e, are.as_long))

-- what the table has is the child that is looked for
pub key_exactly : (tree : List TreeNode) (keys : List (Option ℕ)) (p : ℕ) (o : Option ℕ) → AreKeys tree keys → Exactly (λ c. slice_get keys p ≡ Some (Some c)) o → Exactly (IsKeyChild tree p) o
key_exactly tree keys p o are is = record { sound = λ c e. are.sound p c (is.sound c e); complete = λ c h. is.complete c (are.complete p c h) }
