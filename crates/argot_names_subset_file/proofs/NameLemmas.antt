-- Names that stand for what is left out, and selectors behind types.
use Rattle.std.proofs.Common.{◌≡◌, ◌≢◌, ℕ, ◌<◌, List, Bool, true, false, Option, Some, None, refl, sym, ap, ◌∙◌, subst}
use Rattle.std.specs.Prelude.{slice_get, ◌↔◌}
use Rattle.argot_tree.specs.declared.node_kind.NodeKind.{NodeKind}
use Rattle.argot_tree.specs.declared.node_kind.NodeKind.TheVariants as nodes
use Rattle.argot_tree.specs.declared.tree.TreeNode.{TreeNode}
use Rattle.argot_names_rules.specs.Nodes.{Spans, Is, IsOf, IsFirstChild, IsChild, first as first_child}
use Rattle.argot_names_rules.specs.declared.flag.Feature.{Feature}
use Rattle.argot_names_rules.specs.declared.flag.Feature.TheVariants as features
use Rattle.argot_names_rules.specs.Subset.{is_name, is_type_form, wraps_type}
use Rattle.argot_names_imports.proofs.Siting.{spans_of}
use Rattle.argot_files.proofs.Nodes.{child_there}
use Rattle.argot_names_blocks.specs.declared.tables.Found.{Found}
use Rattle.argot_files.specs.Links.{IsLinked, to_child}
use Rattle.argot_files.specs.Parents.{AreParents}
use Rattle.argot_names_rules.specs.Uses.{IsKey}
use Rattle.argot_answers.specs.Answers.{Exactly}
use Rattle.argot_names_subset_file.specs.Atoms.{IsAtom, name, member, form, IsBeforeDot, direct, wrapped, IsAbove, IsAboveFirst, IsSelectorOf}
use Rattle.argot_names_subset_file.specs.Parts.{IsStanding, IsNamed, IsMethod}
use Rattle.argot_answers.proofs.Exactly.{exact_none, exact_some, exact_one, exact_holds, exact_not}
use Rattle.argot_names_subset_file.proofs.PartLemmas.{part_is, some_is, kind_is, token_is, not_there}

-- a node of a kind that passes a test
pub of_there : (tree : List TreeNode) (k : ℕ) (n : TreeNode) (test : NodeKind → Bool) → slice_get tree k ≡ Some n → test n.kind ≡ true → IsOf tree k test n.token n.last
of_there tree k n test there e = record { kind = n.kind; spans = spans_of tree k n n.kind there refl; passes = e }

pub of_kind : (tree : List TreeNode) (k : ℕ) (n : TreeNode) (test : NodeKind → Bool) (token last : ℕ) → slice_get tree k ≡ Some n → IsOf tree k test token last → test n.kind ≡ true
of_kind tree k n test token last there is = ap test (kind_is tree k n is.kind token last there is.spans) ∙ is.passes

pub of_token : (tree : List TreeNode) (k : ℕ) (n : TreeNode) (test : NodeKind → Bool) (token last : ℕ) → slice_get tree k ≡ Some n → IsOf tree k test token last → n.token ≡ token
of_token tree k n test token last there is = token_is tree k n is.kind token last there is.spans

pub of_absent : (tree : List TreeNode) (k : ℕ) (test : NodeKind → Bool) (token last : ℕ) → slice_get tree k ≡ None → IsOf tree k test token last → ⊥
of_absent tree k test token last e is = not_there tree k is.kind token last e is.spans

pub is_kind : (tree : List TreeNode) (k : ℕ) (n : TreeNode) (kind : NodeKind) → slice_get tree k ≡ Some n → Is tree k kind → n.kind ≡ kind
is_kind tree k n kind there is = kind_is tree k n kind is.token is.last there is.spans

pub is_there : (tree : List TreeNode) (k : ℕ) (n : TreeNode) (kind : NodeKind) → slice_get tree k ≡ Some n → n.kind ≡ kind → Is tree k kind
is_there tree k n kind there e = record { token = n.token; last = n.last; spans = spans_of tree k n kind there e }

module _ (tree : List TreeNode) (ps : List (Option ℕ)) (are : AreParents tree ps) where
  one_parent : (p q c : ℕ) → IsChild tree p c → IsChild tree q c → p ≡ q
  one_parent p q c a b = let x = are.complete p c a in let y = are.complete q c b in some_is p q (some_is (Some p) (Some q) (sym x ∙ y))

  -- the parent of a node
  pub above_some : (k p : ℕ) (n : TreeNode) → slice_get ps k ≡ Some (Some p) → slice_get tree p ≡ Some n → Exactly (IsAbove tree k) (Some (record { at = p; node = n }))
  above_some k p n e there =
      exact_some (IsAbove tree k) (record { at = p; node = n }) (record { under = are.sound p k e; there = there }) (λ x h.
      let same : x.at ≡ p = one_parent x.at p k h.under (are.sound p k e) in
      let is : x.node ≡ n = some_is x.node n (sym h.there ∙ ap (slice_get tree) same ∙ there) in
      λ i. record { at = same i; node = is i })

  pub above_none : (k : ℕ) → ((p : ℕ) → slice_get ps k ≡ Some (Some p) → ⊥) → Exactly (IsAbove tree k) None
  above_none k none = exact_none (IsAbove tree k) (λ x h. none x.at (are.complete x.at k h.under))

  pub above_lost : (k p : ℕ) → slice_get ps k ≡ Some (Some p) → slice_get tree p ≡ None → Exactly (IsAbove tree k) None
  above_lost k p e lost = exact_none (IsAbove tree k) (λ x h. let there = h.there in let same : x.at ≡ p = one_parent x.at p k h.under (are.sound p k e) in let gone = ap (slice_get tree) same ∙ lost in absurd (cc))

module _ (tree : List TreeNode) where
  -- whoever has the node as its child is the parent
  pub one_above : (k : ℕ) (f : Found) → Exactly (IsAbove tree k) (Some f) → (p : ℕ) → IsChild tree p k → p ≡ f.at
  one_above k f a p under =
      let there = child_there tree k p under in
      let same = exact_one (IsAbove tree k) f a (record { at = p; node = there.0 }) (record { under = under; there = there.1 }) in
      λ i. (same i).at

  module _ (k : ℕ) where
    pub selector_some : (f : Found) → Exactly (IsAbove tree k) (Some f) → f.node.kind ≡ nodes.Selector → Exactly (IsSelectorOf tree k) (Some f.at)
    selector_some f a e =
        let h = exact_holds (IsAbove tree k) f a in
        exact_some (IsSelectorOf tree k) f.at (record { is = is_there tree f.at f.node nodes.Selector h.there e; under = h.under }) (λ s x. one_above k f a s x.under)

    pub selector_other : (f : Found) → Exactly (IsAbove tree k) (Some f) → f.node.kind ≢ nodes.Selector → Exactly (IsSelectorOf tree k) None
    selector_other f a other =
        let h = exact_holds (IsAbove tree k) f a in
        exact_none (IsSelectorOf tree k) (λ s x. other (is_kind tree f.at f.node nodes.Selector h.there (subst (λ p. Is tree p nodes.Selector) (one_above k f a s x.under) x.is)))

    pub selector_none : Exactly (IsAbove tree k) None → Exactly (IsSelectorOf tree k) None
    selector_none a = exact_none (IsSelectorOf tree k) (λ s x. let f = child_there tree k s x.under in exact_not (IsAbove tree k) a (record { at = s; node = f.0 }) (record { under = x.under; there = f.1 }))

    -- the parent of a first child
    pub first_some : (f : Found) → Exactly (IsAbove tree k) (Some f) → f.node.first ≡ Some k → Exactly (IsAboveFirst tree k) (Some f)
    first_some f a e =
        let h = exact_holds (IsAbove tree k) f a in
        exact_some (IsAboveFirst tree k) f (record { first = record { is = f.node; there = h.there; first = e }; there = h.there }) (λ x y. exact_one (IsAbove tree k) f a x (record { under = first_child y.first; there = y.there }))

    pub first_other : (f : Found) → Exactly (IsAbove tree k) (Some f) → (f.node.first ≡ Some k → ⊥) → Exactly (IsAboveFirst tree k) None
    first_other f a other =
        exact_none (IsAboveFirst tree k) (λ x y.
        let same : x ≡ f = exact_one (IsAbove tree k) f a x (record { under = first_child y.first; there = y.there }) in
        let is : y.first.is ≡ x.node = some_is y.first.is x.node (sym y.first.there ∙ y.there) in
        other (sym (ap (λ z. z.node.first) same) ∙ sym (ap (λ z. z.first) is) ∙ y.first.first))

    pub first_none : Exactly (IsAbove tree k) None → Exactly (IsAboveFirst tree k) None
    first_none a = exact_none (IsAboveFirst tree k) (λ x y. exact_not (IsAbove tree k) a x (record { under = first_child y.first; there = y.there }))

  -- what makes an expression denote a type
  module _ (typed : List Bool) (k : ℕ) (n : TreeNode) (there : slice_get tree k ≡ Some n) where
    form_kind : (kind : NodeKind) → kind ≡ nodes.NameUse → is_type_form kind ≡ false
    form_kind kind e = ap is_type_form e

    form_selected : (kind : NodeKind) → kind ≡ nodes.SelectedName → is_type_form kind ≡ false
    form_selected kind e = ap is_type_form e

    not_form : n.kind ≡ nodes.NameUse → {at last : ℕ} → IsOf tree k is_type_form at last → ⊥
    not_form e {at} {last} f = let yes = of_kind tree k n is_type_form at last there f in let no_form = form_kind n.kind e in absurd (cc)

    not_form_selected : n.kind ≡ nodes.SelectedName → {at last : ℕ} → IsOf tree k is_type_form at last → ⊥
    not_form_selected e {at} {last} f = let yes = of_kind tree k n is_type_form at last there f in let no_form = form_selected n.kind e in absurd (cc)

    pub atom_name : n.kind ≡ nodes.NameUse → slice_get typed k ≡ Some true → Exactly (IsAtom tree typed k) (Some k)
    atom_name e t = exact_some (IsAtom tree typed k) k (name (is_there tree k n nodes.NameUse there e) t) one
      where
        one : (x : ℕ) → IsAtom tree typed k x → x ≡ k
        one _ (name _ _) = refl
        one _ (member _ _ is _) = let other = is_kind tree k n nodes.SelectedName there is in absurd (cc)
        one _ (form f) = refl

    pub atom_untyped : n.kind ≡ nodes.NameUse → (slice_get typed k ≡ Some true → ⊥) → Exactly (IsAtom tree typed k) None
    atom_untyped e never = exact_none (IsAtom tree typed k) none
      where
        none : (x : ℕ) → IsAtom tree typed k x → ⊥
        none _ (name _ t) = never t
        none _ (member _ _ _ t) = never t
        none _ (form f) = not_form e f

    pub atom_member : n.kind ≡ nodes.SelectedName → slice_get typed k ≡ Some true → (o : Option ℕ) → Exactly (IsSelectorOf tree k) o → Exactly (IsAtom tree typed k) o
    atom_member e t o is = record { sound = λ x s. let h = is.sound x s in member h.is h.under (is_there tree k n nodes.SelectedName there e) t; complete = λ x a. is.complete x (of x a) }
      where
        of : (x : ℕ) → IsAtom tree typed k x → IsSelectorOf tree k x
        of _ (name is _) = let other = is_kind tree k n nodes.NameUse there is in absurd (cc)
        of _ (member s under _ _) = record { is = s; under = under }
        of _ (form f) = absurd (not_form_selected e f)

    pub atom_unnamed : n.kind ≡ nodes.SelectedName → (slice_get typed k ≡ Some true → ⊥) → Exactly (IsAtom tree typed k) None
    atom_unnamed e never = exact_none (IsAtom tree typed k) none
      where
        none : (x : ℕ) → IsAtom tree typed k x → ⊥
        none _ (name _ t) = never t
        none _ (member _ _ _ t) = never t
        none _ (form f) = not_form_selected e f

    pub atom_form : n.kind ≢ nodes.NameUse → n.kind ≢ nodes.SelectedName → is_type_form n.kind ≡ true → Exactly (IsAtom tree typed k) (Some k)
    atom_form a b e = exact_some (IsAtom tree typed k) k (form (of_there tree k n is_type_form there e)) one
      where
        one : (x : ℕ) → IsAtom tree typed k x → x ≡ k
        one _ (name is _) = refl
        one _ (member _ _ is _) = absurd (b (is_kind tree k n nodes.SelectedName there is))
        one _ (form f) = refl

    pub atom_other : n.kind ≢ nodes.NameUse → n.kind ≢ nodes.SelectedName → is_type_form n.kind ≡ false → Exactly (IsAtom tree typed k) None
    atom_other a b e = exact_none (IsAtom tree typed k) none
      where
        none : (x : ℕ) → IsAtom tree typed k x → ⊥
        none _ (name is _) = a (is_kind tree k n nodes.NameUse there is)
        none _ (member _ _ is _) = b (is_kind tree k n nodes.SelectedName there is)
        none _ (form {at} {last} f) = let yes = of_kind tree k n is_type_form at last there f in absurd (cc)

  -- selectors behind an expression
  module _ (k : ℕ) where
    same_first : (f : Found) → Exactly (IsAboveFirst tree k) (Some f) → (p : ℕ) → IsFirstChild tree p k → p ≡ f.at
    same_first f a p first = let x = exact_one (IsAboveFirst tree k) f a (record { at = p; node = first.is }) (record { first = first; there = first.there }) in λ i. (x i).at

    found_there : (f : Found) → Exactly (IsAboveFirst tree k) (Some f) → slice_get tree f.at ≡ Some f.node
    found_there f a = (exact_holds (IsAboveFirst tree k) f a).there

    selector_wraps : (kind : NodeKind) → kind ≡ nodes.Selector → wraps_type kind ≡ false
    selector_wraps kind e = ap wraps_type e

    -- the parent's kind decides which way it stands there
    pub dot_here : (f : Found) → Exactly (IsAboveFirst tree k) (Some f) → f.node.kind ≡ nodes.Selector → Exactly (IsBeforeDot tree k) (Some f.at)
    dot_here f a e = exact_some (IsBeforeDot tree k) f.at (direct (is_there tree f.at f.node nodes.Selector (found_there f a) e) (exact_holds (IsAboveFirst tree k) f a).first) one
      where
        one : (s : ℕ) → IsBeforeDot tree k s → s ≡ f.at
        one _ (direct {selector = s} _ first) = same_first f a s first
        one _ (wrapped {around} {at = at} {last = last} is first more) =
            let yes = of_kind tree f.at f.node wraps_type at last (found_there f a) (subst (λ p. IsOf tree p wraps_type at last) (same_first f a around first) is) in
            let never = selector_wraps f.node.kind e in
            absurd (cc)

    pub dot_through : (f : Found) → Exactly (IsAboveFirst tree k) (Some f) → wraps_type f.node.kind ≡ true → (s : ℕ) → IsBeforeDot tree k s ↔ IsBeforeDot tree f.at s
    dot_through f a e s = (to s, λ h. wrapped (of_there tree f.at f.node wraps_type (found_there f a) e) (exact_holds (IsAboveFirst tree k) f a).first h)
      where
        to : (s : ℕ) → IsBeforeDot tree k s → IsBeforeDot tree f.at s
        to _ (direct {selector = s} is first) =
            let kind = is_kind tree f.at f.node nodes.Selector (found_there f a) (subst (λ p. Is tree p nodes.Selector) (same_first f a s first) is) in
            let never = selector_wraps f.node.kind kind in
            absurd (cc)
        to s (wrapped {around} is first more) = subst (λ p. IsBeforeDot tree p s) (same_first f a around first) more

    pub dot_other : (f : Found) → Exactly (IsAboveFirst tree k) (Some f) → f.node.kind ≢ nodes.Selector → wraps_type f.node.kind ≡ false → Exactly (IsBeforeDot tree k) None
    dot_other f a b e = exact_none (IsBeforeDot tree k) none
      where
        none : (s : ℕ) → IsBeforeDot tree k s → ⊥
        none _ (direct {selector = s} is first) = b (is_kind tree f.at f.node nodes.Selector (found_there f a) (subst (λ p. Is tree p nodes.Selector) (same_first f a s first) is))
        none _ (wrapped {around} {at = at} {last = last} is first more) =
            let yes = of_kind tree f.at f.node wraps_type at last (found_there f a) (subst (λ p. IsOf tree p wraps_type at last) (same_first f a around first) is) in
            absurd (cc)

    pub dot_none : Exactly (IsAboveFirst tree k) None → Exactly (IsBeforeDot tree k) None
    dot_none a = exact_none (IsBeforeDot tree k) none
      where
        none : (s : ℕ) → IsBeforeDot tree k s → ⊥
        none _ (direct {selector = s} is first) = exact_not (IsAboveFirst tree k) a (record { at = s; node = first.is }) (record { first = first; there = first.there })
        none _ (wrapped {around} is first more) = exact_not (IsAboveFirst tree k) a (record { at = around; node = first.is }) (record { first = first; there = first.there })

    pub above_before : IsLinked tree → (f : Found) → Exactly (IsAboveFirst tree k) (Some f) → f.at < k
    above_before linked f a =
        let h = exact_holds (IsAboveFirst tree k) f a in
        linked.ahead f.at k h.first.is h.first.there (to_child h.first.first)

  -- names that stand for features
  module _ (named : List (Option Feature)) (k : ℕ) where
    pub named_some : (n : TreeNode) (f : Feature) → slice_get tree k ≡ Some n → is_name n.kind ≡ true → (IsKey tree k → ⊥) → Exactly (IsStanding named k) (Some f)
        → Exactly (IsNamed tree named k) (Some (record { feature = f; token = n.token }))
    named_some n f there e key is =
        exact_some (IsNamed tree named k) (record { feature = f; token = n.token })
        (record { last = n.last; is = of_there tree k n is_name there e; used = key; stands = exact_holds (IsStanding named k) f is })
        (λ x h. part_is x.feature f x.token n.token (exact_one (IsStanding named k) f is x.feature h.stands) (sym (of_token tree k n is_name x.token h.last there h.is)))

    pub named_key : IsKey tree k → Exactly (IsNamed tree named k) None
    named_key key = exact_none (IsNamed tree named k) (λ x h. h.used key)

  -- method expressions
  pub dot_selector : {k s : ℕ} → IsBeforeDot tree k s → Is tree s nodes.Selector
  dot_selector (direct is _) = is
  dot_selector (wrapped _ _ more) = dot_selector more

  module _ (typed : List Bool) (k : ℕ) where
    pub method_some : (a s : ℕ) (n : TreeNode) → Exactly (IsAtom tree typed k) (Some a) → Exactly (IsBeforeDot tree a) (Some s) → slice_get tree s ≡ Some n
        → Exactly (IsMethod tree typed k) (Some (record { feature = features.MethodExpression; token = n.token }))
    method_some a s n atom before there =
        let b = exact_holds (IsBeforeDot tree a) s before in
        let is = dot_selector b in
        exact_some (IsMethod tree typed k) (record { feature = features.MethodExpression; token = n.token })
        (record { atom = a; selector = s; last = n.last; feature_is = refl; is_atom = exact_holds (IsAtom tree typed k) a atom; before = b; spans = spans_of tree s n nodes.Selector there (is_kind tree s n nodes.Selector there is) })
        (λ x h.
        let one : h.atom ≡ a = exact_one (IsAtom tree typed k) a atom h.atom h.is_atom in
        let two : h.selector ≡ s = exact_one (IsBeforeDot tree a) s before h.selector (subst (λ y. IsBeforeDot tree y h.selector) one h.before) in
        let spans : Spans tree s nodes.Selector x.token h.last = subst (λ y. Spans tree y nodes.Selector x.token h.last) two h.spans in
        part_is x.feature features.MethodExpression x.token n.token h.feature_is (sym (token_is tree s n nodes.Selector x.token h.last there spans)))

    pub method_lost : (a s : ℕ) → Exactly (IsBeforeDot tree a) (Some s) → slice_get tree s ≡ None → Exactly (IsMethod tree typed k) None
    method_lost a s before gone =
        let is = dot_selector (exact_holds (IsBeforeDot tree a) s before) in
        absurd (not_there tree s nodes.Selector is.token is.last gone is.spans)

    pub method_free : (a : ℕ) → Exactly (IsAtom tree typed k) (Some a) → Exactly (IsBeforeDot tree a) None → Exactly (IsMethod tree typed k) None
    method_free a atom before =
        exact_none (IsMethod tree typed k) (λ x h. exact_not (IsBeforeDot tree a) before h.selector (subst (λ y. IsBeforeDot tree y h.selector) (exact_one (IsAtom tree typed k) a atom h.atom h.is_atom) h.before))

    pub method_none : Exactly (IsAtom tree typed k) None → Exactly (IsMethod tree typed k) None
    method_none atom = exact_none (IsMethod tree typed k) (λ x h. exact_not (IsAtom tree typed k) atom h.atom h.is_atom)
