-- Receivers of methods, and which functions have no entry.
use Rattle.std.proofs.Common.{◌≡◌, ◌≢◌, ℕ, List, [], true, false, Option, Some, None, refl, sym, ap, ◌∙◌, subst}
use Rattle.std.specs.Prelude.{slice_get, ◌↔◌}
use Rattle.argot_tree.specs.declared.node_kind.NodeKind.TheVariants as nodes
use Rattle.argot_tree.specs.declared.tree.TreeNode.{TreeNode}
use Rattle.argot_tree.specs.declared.entries.Entry.{Entry}
use Rattle.argot_names_rules.specs.Files.{SourceFile, text_at}
use Rattle.argot_names_rules.specs.Nodes.{Is, IsOf, IsFirstChild, IsNext, IsChild, is_params}
use Rattle.argot_names_rules.specs.Nodes.{HasChild, HasReceiver}
use Rattle.argot_names_rules.specs.declared.flag.Feature.TheVariants as features
use Rattle.argot_names_rules.specs.Subset.{wraps_receiver, HasType, alone, behind as behind_name, HasBase, HasEntry, HasReceiverType, ReceiverName}
use Rattle.argot_names_rules.specs.Subset.ReceiverName.{function, method, nameless as flag_nameless}
use Rattle.argot_names_subset_file.specs.Parts.{IsBodilessAbove, IsDeclaredAt, IsBodiless}
use Rattle.argot_names_rules.specs.Subset.HasBase.{name as base_name, wrapped as base_wrapped}
use Rattle.argot_answers.specs.Answers.{Exactly}
use Rattle.argot_names_subset_file.specs.Receivers.{IsListType, IsBase, name, wrapped, IsListName, named, nameless, IsWithout, HasWithout, LacksEntry}
use Rattle.argot_answers.proofs.Exactly.{exact_none, exact_some, exact_one, exact_holds, exact_not}
use Rattle.argot_files.proofs.Nodes.{some_is, kind_is, token_is, not_there, spans_of, of_there, of_kind, of_absent, is_kind, is_there}
use Rattle.argot_names_subset_file.proofs.PartLemmas.{part_is}

module _ (tree : List TreeNode) where
  one_first : (p a b : ℕ) → IsFirstChild tree p a → IsFirstChild tree p b → a ≡ b
  one_first p a b f g = some_is a b (sym f.first ∙ (ap (λ n. n.first) (some_is f.is g.is (sym f.there ∙ g.there)) ∙ g.first))

  -- the type of a parameter
  module _ (param : ℕ) (n : TreeNode) (there : slice_get tree param ≡ Some n) where
    pub param_alone : n.kind ≡ nodes.Param → (o : Option ℕ) → Exactly (IsFirstChild tree param) o → Exactly (HasType tree param) o
    param_alone e o is = record { sound = λ x s. alone (is_there tree param n nodes.Param there e) (is.sound x s); complete = λ x h. is.complete x (of x h) }
      where
        of : (x : ℕ) → HasType tree param x → IsFirstChild tree param x
        of x (alone _ f) = f
        of x (behind_name is _ _) = let other = is_kind tree param n nodes.NamedParam there is in absurd (cc)

    pub param_named : n.kind ≡ nodes.NamedParam → (at : ℕ) (o : Option ℕ) → Exactly (IsFirstChild tree param) (Some at) → Exactly (IsNext tree at) o → Exactly (HasType tree param) o
    param_named e at o first is =
        record { sound = λ x s. behind_name (is_there tree param n nodes.NamedParam there e) (exact_holds (IsFirstChild tree param) at first) (is.sound x s); complete = λ x h. is.complete x (of x h) }
      where
        of : (x : ℕ) → HasType tree param x → IsNext tree at x
        of x (alone is _) = let other = is_kind tree param n nodes.Param there is in absurd (cc)
        of x (behind_name {name} _ f next) = subst (λ y. IsNext tree y x) (exact_one (IsFirstChild tree param) at first name f) next

    pub param_bare : n.kind ≡ nodes.NamedParam → Exactly (IsFirstChild tree param) None → Exactly (HasType tree param) None
    param_bare e first = exact_none (HasType tree param) of
      where
        of : (x : ℕ) → HasType tree param x → ⊥
        of x (alone is _) = let other = is_kind tree param n nodes.Param there is in absurd (cc)
        of x (behind_name {name} _ f next) = exact_not (IsFirstChild tree param) first name f

    pub param_other : n.kind ≢ nodes.Param → n.kind ≢ nodes.NamedParam → Exactly (HasType tree param) None
    param_other a b = exact_none (HasType tree param) of
      where
        of : (x : ℕ) → HasType tree param x → ⊥
        of x (alone is _) = a (is_kind tree param n nodes.Param there is)
        of x (behind_name is _ _) = b (is_kind tree param n nodes.NamedParam there is)

  -- the type of a list's first parameter
  module _ (list : ℕ) where
    pub list_some : (n : TreeNode) → slice_get tree list ≡ Some n → is_params n.kind ≡ true → (param : ℕ) (o : Option ℕ) → Exactly (IsFirstChild tree list) (Some param) → Exactly (HasType tree param) o → Exactly (IsListType tree list) o
    list_some n there e param o first is =
        record {
          sound = λ x s. record { from = n.token; to = n.last; param = param; is_list = of_there tree list n is_params there e; first = exact_holds (IsFirstChild tree list) param first; has = is.sound x s };
          complete = λ x h. is.complete x (subst (λ p. HasType tree p x) (exact_one (IsFirstChild tree list) param first h.param h.first) h.has);
        }

    pub list_bare : Exactly (IsFirstChild tree list) None → Exactly (IsListType tree list) None
    list_bare first = exact_none (IsListType tree list) (λ x h. exact_not (IsFirstChild tree list) first h.param h.first)

  -- the name of a type
  module _ (k : ℕ) (n : TreeNode) (there : slice_get tree k ≡ Some n) where
    name_wraps : n.kind ≡ nodes.TypeName → {at last : ℕ} → IsOf tree k wraps_receiver at last → ⊥
    name_wraps e {at} {last} is = let yes = of_kind tree k n wraps_receiver at last there is in let never : wraps_receiver n.kind ≡ false = ap wraps_receiver e in absurd (cc)

    pub base_here : n.kind ≡ nodes.TypeName → Exactly (IsBase tree k) (Some n.token)
    base_here e = exact_some (IsBase tree k) n.token (name (spans_of tree k n nodes.TypeName there e)) one
      where
        one : (x : ℕ) → IsBase tree k x → x ≡ n.token
        one x (name {token} {last} s) = sym (token_is tree k n nodes.TypeName token last there s)
        one x (wrapped is _ _) = absurd (name_wraps e is)

    pub base_other : n.kind ≢ nodes.TypeName → wraps_receiver n.kind ≡ false → Exactly (IsBase tree k) None
    base_other a e = exact_none (IsBase tree k) of
      where
        of : (x : ℕ) → IsBase tree k x → ⊥
        of x (name {token} {last} s) = a (kind_is tree k n nodes.TypeName token last there s)
        of x (wrapped {at} {last} is _ _) = let yes = of_kind tree k n wraps_receiver at last there is in absurd (cc)

    pub base_through : n.kind ≢ nodes.TypeName → wraps_receiver n.kind ≡ true → (inner : ℕ) → IsFirstChild tree k inner → (x : ℕ) → IsBase tree k x ↔ IsBase tree inner x
    base_through a e inner first x = (to x, λ h. wrapped (of_there tree k n wraps_receiver there e) first h)
      where
        to : (x : ℕ) → IsBase tree k x → IsBase tree inner x
        to x (name {token} {last} s) = absurd (a (kind_is tree k n nodes.TypeName token last there s))
        to x (wrapped {inner = other} _ g more) = subst (λ y. IsBase tree y x) (one_first k other inner g first) more

    pub base_bare : n.kind ≢ nodes.TypeName → Exactly (IsFirstChild tree k) None → Exactly (IsBase tree k) None
    base_bare a first = exact_none (IsBase tree k) of
      where
        of : (x : ℕ) → IsBase tree k x → ⊥
        of x (name {token} {last} s) = a (kind_is tree k n nodes.TypeName token last there s)
        of x (wrapped {inner} _ g more) = exact_not (IsFirstChild tree k) first inner g

  pub base_absent : (k : ℕ) → slice_get tree k ≡ None → Exactly (IsBase tree k) None
  base_absent k e = exact_none (IsBase tree k) of
    where
      of : (x : ℕ) → IsBase tree k x → ⊥
      of x (name {token} {last} s) = not_there tree k nodes.TypeName token last e s
      of x (wrapped {at} {last} is _ _) = of_absent tree k wraps_receiver at last e is

module _ (f : SourceFile) where
  -- the name of a type by its token
  pub base_token : (node : ℕ) (name : List ℕ) → HasBase f node name → (token : ℕ) × IsBase f.nodes node token × (name ≡ text_at f token)
  base_token node n (base_name {token} s) = (token, name s, refl)
  base_token node n (base_wrapped is first more) = let h = base_token _ n more in (h.0, wrapped is first h.1, h.2)

  pub token_base : (node token : ℕ) → IsBase f.nodes node token → HasBase f node (text_at f token)
  token_base node token (name s) = base_name s
  token_base node token (wrapped is first more) = base_wrapped is first (token_base _ token more)

  module _ (entries : List Entry) (path name : List ℕ) (list : ℕ) where
    one_type : (t u : ℕ) → Exactly (IsListType f.nodes list) (Some t) → IsListType f.nodes list u → u ≡ t
    one_type t u is h = exact_one (IsListType f.nodes list) t is u h

    pub without_named : (t token : ℕ) → Exactly (IsListType f.nodes list) (Some t) → Exactly (IsBase f.nodes t) (Some token) → (HasEntry entries path (text_at f token) name → ⊥) → IsWithout f entries path name list
    without_named t token is base none =
        record { receiver = text_at f token; has = named (exact_holds (IsListType f.nodes list) t is) (token_base t token (exact_holds (IsBase f.nodes t) token base)); none = none }

    pub entry_named : (t token : ℕ) → Exactly (IsListType f.nodes list) (Some t) → Exactly (IsBase f.nodes t) (Some token) → HasEntry entries path (text_at f token) name → IsWithout f entries path name list → ⊥
    entry_named t token is base entry w = go w.receiver w.has w.none
      where
        go : (receiver : List ℕ) → IsListName f list receiver → (HasEntry entries path receiver name → ⊥) → ⊥
        go receiver (named {type_} h b) none =
            let c = base_token t receiver (subst (λ x. HasBase f x receiver) (one_type t type_ is h) b) in
            let same : c.0 ≡ token = exact_one (IsBase f.nodes t) token base c.0 c.1 in
            none (subst (λ r. HasEntry entries path r name) (sym (c.2 ∙ ap (text_at f) same)) entry)
        go _ (nameless {type_} h b) none = b (text_at f token) (subst (λ x. HasBase f x (text_at f token)) (sym (one_type t type_ is h)) (token_base t token (exact_holds (IsBase f.nodes t) token base)))

    pub without_nameless : (t : ℕ) → Exactly (IsListType f.nodes list) (Some t) → Exactly (IsBase f.nodes t) None → (HasEntry entries path [] name → ⊥) → IsWithout f entries path name list
    without_nameless t is base none =
        record { receiver = []; has = nameless (exact_holds (IsListType f.nodes list) t is) (λ n b. let c = base_token t n b in exact_not (IsBase f.nodes t) base c.0 c.1); none = none }

    pub entry_nameless : (t : ℕ) → Exactly (IsListType f.nodes list) (Some t) → Exactly (IsBase f.nodes t) None → HasEntry entries path [] name → IsWithout f entries path name list → ⊥
    entry_nameless t is base entry w = go w.receiver w.has w.none
      where
        go : (receiver : List ℕ) → IsListName f list receiver → (HasEntry entries path receiver name → ⊥) → ⊥
        go receiver (named {type_} h b) none = let c = base_token t receiver (subst (λ x. HasBase f x receiver) (one_type t type_ is h) b) in exact_not (IsBase f.nodes t) base c.0 c.1
        go _ (nameless h b) none = none entry

    pub no_list : Exactly (IsListType f.nodes list) None → IsWithout f entries path name list → ⊥
    no_list is w = go w.receiver w.has
      where
        go : (receiver : List ℕ) → IsListName f list receiver → ⊥
        go receiver (named {type_} h b) = exact_not (IsListType f.nodes list) is type_ h
        go _ (nameless {type_} h b) = exact_not (IsListType f.nodes list) is type_ h

-- the name of a function without a body
module _ (tree : List TreeNode) where
  module _ (k : ℕ) where
    one_above : (a : ℕ) → Exactly (λ p. IsChild tree p k) (Some a) → (p : ℕ) → IsChild tree p k → p ≡ a
    one_above a is p under = exact_one (λ q. IsChild tree q k) a is p under

    module _ (a : ℕ) (is : Exactly (λ p. IsChild tree p k) (Some a)) (n : TreeNode) (there : slice_get tree a ≡ Some n) where
      pub bodiless_some : n.kind ≡ nodes.FuncDecl → (HasChild tree a nodes.Block → ⊥) → Exactly (IsBodilessAbove tree k) (Some a)
      bodiless_some e none =
          exact_some (IsBodilessAbove tree k) a (record { is = is_there tree a n nodes.FuncDecl there e; bodiless = none; under = exact_holds (λ p. IsChild tree p k) a is }) (λ p b. one_above a is p b.under)

      pub bodiless_body : HasChild tree a nodes.Block → Exactly (IsBodilessAbove tree k) None
      bodiless_body body = exact_none (IsBodilessAbove tree k) (λ p b. b.bodiless (subst (λ q. HasChild tree q nodes.Block) (sym (one_above a is p b.under)) body))

      pub bodiless_other : n.kind ≢ nodes.FuncDecl → Exactly (IsBodilessAbove tree k) None
      bodiless_other e = exact_none (IsBodilessAbove tree k) (λ p b. e (is_kind tree a n nodes.FuncDecl there (subst (λ q. Is tree q nodes.FuncDecl) (one_above a is p b.under) b.is)))

    pub bodiless_none : Exactly (λ p. IsChild tree p k) None → Exactly (IsBodilessAbove tree k) None
    bodiless_none is = exact_none (IsBodilessAbove tree k) (λ p b. exact_not (λ q. IsChild tree q k) is p b.under)

module _ (f : SourceFile) (entries : List Entry) (path name : List ℕ) (decl : ℕ) where
  pub without_lacks : HasWithout f entries path name decl → LacksEntry f entries path name decl
  without_lacks w = record { receiver = w.without.receiver; has = go w.without.receiver w.without.has; none = w.without.none }
    where
      go : (receiver : List ℕ) → IsListName f w.list receiver → ReceiverName f decl receiver
      go receiver (named {type_} h b) = method (record { list = w.list; from = h.from; to = h.to; param = h.param; under = w.under; is_list = h.is_list; first = h.first; has = h.has }) b
      go _ (nameless {type_} h b) = flag_nameless (record { list = w.list; from = h.from; to = h.to; param = h.param; under = w.under; is_list = h.is_list; first = h.first; has = h.has }) b

  pub lacks_without : HasReceiver f.nodes decl → LacksEntry f entries path name decl → HasWithout f entries path name decl
  lacks_without is l = go l.receiver l.has l.none
    where
      type_in : {type_ : ℕ} (h : HasReceiverType f.nodes decl type_) → IsListType f.nodes h.list type_
      type_in h = record { from = h.from; to = h.to; param = h.param; is_list = h.is_list; first = h.first; has = h.has }

      go : (receiver : List ℕ) → ReceiverName f decl receiver → (HasEntry entries path receiver name → ⊥) → HasWithout f entries path name decl
      go _ (function no_receiver) none = absurd (no_receiver is)
      go receiver (method h b) none = record { list = h.list; under = h.under; without = record { receiver = receiver; has = named (type_in h) b; none = none } }
      go _ (flag_nameless h b) none = record { list = h.list; under = h.under; without = record { receiver = []; has = nameless (type_in h) b; none = none } }

  pub function_lacks : (HasReceiver f.nodes decl → ⊥) → (HasEntry entries path [] name → ⊥) → LacksEntry f entries path name decl
  function_lacks is none = record { receiver = []; has = function is; none = none }

  pub function_has : (HasReceiver f.nodes decl → ⊥) → HasEntry entries path [] name → LacksEntry f entries path name decl → ⊥
  function_has is entry l = go l.receiver l.has l.none
    where
      go : (receiver : List ℕ) → ReceiverName f decl receiver → (HasEntry entries path receiver name → ⊥) → ⊥
      go _ (function _) none = none entry
      go receiver (method h b) none = is (record { child = h.list; token = h.from; last = h.to; under = h.under; is = h.is_list })
      go _ (flag_nameless h b) none = is (record { child = h.list; token = h.from; last = h.to; under = h.under; is = h.is_list })

module _ (f : SourceFile) (entries : List Entry) (path : List ℕ) (k : ℕ) where
  pub flagged_some : (token decl : ℕ) (name : List ℕ) → name ≡ text_at f token → Exactly (IsDeclaredAt f.nodes k) (Some token) → Exactly (IsBodilessAbove f.nodes k) (Some decl) → LacksEntry f entries path name decl
      → Exactly (IsBodiless f entries path k) (Some (record { feature = features.FunctionWithoutBody; token = token }))
  flagged_some token decl text spells t d lacks =
      exact_some (IsBodiless f entries path k) (record { feature = features.FunctionWithoutBody; token = token })
      (record { decl = decl; feature_is = refl; above = exact_holds (IsBodilessAbove f.nodes k) decl d; name = exact_holds (IsDeclaredAt f.nodes k) token t; lacks = subst (λ n. LacksEntry f entries path n decl) spells lacks })
      (λ x h. part_is x.feature features.FunctionWithoutBody x.token token h.feature_is (exact_one (IsDeclaredAt f.nodes k) token t x.token h.name))

  pub flagged_not : (token decl : ℕ) (name : List ℕ) → name ≡ text_at f token → Exactly (IsDeclaredAt f.nodes k) (Some token) → Exactly (IsBodilessAbove f.nodes k) (Some decl) → (LacksEntry f entries path name decl → ⊥)
      → Exactly (IsBodiless f entries path k) None
  flagged_not token decl text spells t d has =
      exact_none (IsBodiless f entries path k) (λ x h.
      let at : x.token ≡ token = exact_one (IsDeclaredAt f.nodes k) token t x.token h.name in
      let where_ : h.decl ≡ decl = exact_one (IsBodilessAbove f.nodes k) decl d h.decl h.above in
      has (subst (λ e. LacksEntry f entries path text e) where_ (subst (λ n. LacksEntry f entries path n h.decl) (ap (text_at f) at ∙ sym spells) h.lacks)))

  pub flagged_free : Exactly (IsBodilessAbove f.nodes k) None → Exactly (IsBodiless f entries path k) None
  flagged_free d = exact_none (IsBodiless f entries path k) (λ x h. exact_not (IsBodilessAbove f.nodes k) d h.decl h.above)

  pub flagged_none : Exactly (IsDeclaredAt f.nodes k) None → Exactly (IsBodiless f entries path k) None
  flagged_none t = exact_none (IsBodiless f entries path k) (λ x h. exact_not (IsDeclaredAt f.nodes k) t x.token h.name)
