-- The number of a declaration is one.
use Rattle.std.proofs.Common.{◌≡◌, ℕ, zero, suc, ◌+◌, List, [], ◌∷◌, length, Bool, true, false, Option, Some, None, inl, inr, refl, sym, ap, ◌∙◌, subst, arith}
use Rattle.std.specs.Prelude.{◌&&◌, not, map, slice_get, IfSome, IfNone}
use Rattle.argot_typed.specs.declared.program.Decl.{Decl}
use Rattle.argot_names_rules.specs.declared.package_key.PackageKey.{PackageKey}
use Rattle.argot_names_rules.specs.Files.{SourceFiles}
use Rattle.argot_names_rules.specs.Loaded.{number_of, DeclBefore, predeclared_decl, AreDecls}
use Rattle.argot_names_rules.specs.Universe.{is_among, predeclared}
use Rattle.argot_names_rules.specs.Scopes.{Predeclared, Declared}
use Rattle.argot_names_imports.proofs.Lists.{get_two, get_before, get_map, map_get}
use Rattle.argot_names_tops.proofs.Among.{among_at}
use Rattle.argot_names_tops.proofs.Ordering.{ordered_all}
use Rattle.argot_names_uses.specs.DeclTables.{IsOfNode}
use Rattle.argot_names_uses.proofs.NumberedNodes.{less_or}
use Rattle.argot_answers.specs.Answers.{Exactly}
use Rattle.argot_names_uses.specs.Numbers.{IsNumberOf}

pub some_is : {A : Type 0} (x y : A) → Some x ≡ Some y → x ≡ y
some_is x y e = cc

-- no name stands twice
abbrev are_apart : List (List ℕ) → Bool
are_apart [] = true
are_apart (name ∷ names) = not (is_among name names) && are_apart names

never : (b c : Bool) → (not b && c) ≡ true → b ≡ true → ⊥
never true c e f = absurd (cc)
never false c e f = absurd (cc)

apart_one : (names : List (List ℕ)) → are_apart names ≡ true → (j k : ℕ) (name : List ℕ) → slice_get names j ≡ Some name → slice_get names k ≡ Some name → j ≡ k
apart_one [] a j k name e f = absurd (cc)
apart_one (n ∷ names) a zero zero name e f = refl
apart_one (n ∷ names) a zero (suc k) name e f = absurd (never (is_among n names) (are_apart names) a (subst (λ x. is_among x names ≡ true) (sym (some_is n name (cc (e)))) (among_at name names k f)))
apart_one (n ∷ names) a (suc j) zero name e f = absurd (never (is_among n names) (are_apart names) a (subst (λ x. is_among x names ≡ true) (sym (some_is n name (cc (f)))) (among_at name names j e)))
apart_one (n ∷ names) a (suc j) (suc k) name e f = ap (λ x. suc x) (apart_one names (rest (is_among n names) (are_apart names) a) j k name e f)
  where
    rest : (b c : Bool) → (not b && c) ≡ true → c ≡ true
    rest true c e = absurd (cc)
    rest false c e = e

one_predeclared : (j k : ℕ) (name : List ℕ) → slice_get predeclared j ≡ Some name → slice_get predeclared k ≡ Some name → j ≡ k
one_predeclared j k name e f = apart_one predeclared refl j k name e f

before_through : (a b c : Decl) → DeclBefore a b → DeclBefore b c → DeclBefore a c
before_through a b c p q =
    let same : p.other ≡ q.one = some_is p.other q.one (sym p.b_is ∙ q.a_is) in
    record { one = p.one; other = q.other; a_is = p.a_is; b_is = q.b_is; before = omega (arith, p.before, q.before, same) }

never_before : (a b : Decl) (x : ℕ) → DeclBefore a b → a.node ≡ Some x → b.node ≡ Some x → ⊥
never_before a b x p e f =
    let one : p.one ≡ x = some_is p.one x (sym p.a_is ∙ e) in
    let other : p.other ≡ x = some_is p.other x (sym p.b_is ∙ f) in
    absurd (omega (arith, p.before, one, other))

module _ (h : SourceFiles) (homes : List PackageKey) (decls : List Decl) (are : AreDecls h homes decls) where
  -- the declaration of a node stands behind those of predeclared names
  behind : (k x : ℕ) (d : Decl) → slice_get decls k ≡ Some d → d.node ≡ Some x → (j : ℕ) × (k ≡ length (map predeclared_decl predeclared) + j) × (slice_get are.others j ≡ Some d)
  behind k x d e n = elim (get_two (map predeclared_decl predeclared) are.others k d (subst (λ ds. slice_get ds k ≡ Some d) are.is e)) [
    | inl f ↦
        let g = get_map predeclared_decl predeclared k d f in
        let none : None ≡ d.node = ap (λ (y : Decl). y.node) g.2 in
        absurd (cc)
    | inr w ↦ w
  ]

  pub one_of_node : (j k x : ℕ) (a b : Decl) → slice_get decls j ≡ Some a → slice_get decls k ≡ Some b → a.node ≡ Some x → b.node ≡ Some x → j ≡ k
  one_of_node j k x a b e f m n =
      let p = behind j x a e m in
      let q = behind k x b f n in
      let ordered = ordered_all DeclBefore before_through are.others are.others_are.ordered in
      elim (less_or p.0 q.0) [
        | inl l ↦ absurd (never_before a b x (ordered p.0 q.0 a b l p.2 q.2) m n)
        | inr o ↦ elim o [
          | inl s ↦ omega (arith, p.1, q.1, s)
          | inr l ↦ absurd (never_before b a x (ordered q.0 p.0 b a l q.2 p.2) n m)
        ]
      ]

  -- that of a node, by the table
  pub node_number_is : (file node : ℕ) (r : Option ℕ) → IfSome r (λ k. IsOfNode decls k (number_of h file node)) → IfNone r ((k : ℕ) → IsOfNode decls k (number_of h file node) → ⊥) → Exactly (IsNumberOf h decls (Declared file node)) r
  node_number_is file node None there none =
      record { sound = λ x e. absurd (cc); complete = λ x i. absurd (none x (record { item = i.decl; there = i.there; is = i.is })) }
  node_number_is file node (Some k) there none =
      record {
        sound = λ x e. subst (IsNumberOf h decls (Declared file node)) (some_is k x e) (record { decl = there.item; there = there.there; is = there.is });
        complete = λ x i. ap (λ y. Some y) (one_of_node k x (number_of h file node) there.item i.decl there.there i.there there.is i.is);
      }

  -- that of a predeclared name
  pub predeclared_number_is : (name : List ℕ) (number : ℕ) → slice_get predeclared number ≡ Some name → Exactly (IsNumberOf h decls (Predeclared name)) (Some number)
  predeclared_number_is name number e =
      record {
        sound = λ x f. subst (IsNumberOf h decls (Predeclared name)) (some_is number x f)
            (record {
              decl = predeclared_decl name;
              there = subst (λ ds. slice_get ds number ≡ Some (predeclared_decl name)) (sym are.is) (get_before (map predeclared_decl predeclared) are.others number (predeclared_decl name) (map_get predeclared_decl predeclared number name e));
              is = (refl, refl);
            });
        complete = λ x i. elim (get_two (map predeclared_decl predeclared) are.others x i.decl (subst (λ ds. slice_get ds x ≡ Some i.decl) are.is i.there)) [
          | inl f ↦
              let g = get_map predeclared_decl predeclared x i.decl f in
              let same : g.0 ≡ name = ap (λ (y : Decl). y.name) g.2 ∙ i.is.1 in
              ap (λ y. Some y) (one_predeclared number x name e (subst (λ n. slice_get predeclared x ≡ Some n) same g.1))
          | inr w ↦
              let d = are.others_are.sound i.decl (w.0, w.2) in
              let some = d.node_is in
              let none = i.is.0 in
              absurd (cc)
        ];
      }
