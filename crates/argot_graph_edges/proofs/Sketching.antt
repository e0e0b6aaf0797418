-- Edges that are added one after the other.
use Rattle.std.proofs.Common.{◌≡◌, ℕ, ◌+◌, ◌<◌, ◌≤◌, ◌++◌, ◌∷◌, [], List, Some, true, false, Bool, refl, sym, ap, ◌∙◌, subst, inl, inr, arith}
use Rattle.std.proofs.lemmas.Bool.{cases_eq}
use Rattle.std.specs.Prelude.{◌⊎◌, slice_get, Result, Ok, Err, OnOk}
use Rattle.argot_plain.specs.Lists.{In, here, there}
use Rattle.argot_facts.specs.declared.graphs.Edge.{Edge}
use Rattle.argot_facts.specs.declared.graphs.EdgeKind.{EdgeKind}
use Rattle.argot_facts.specs.declared.nodes.Node.{Node}
use Rattle.argot_facts.proofs.Listed.{In-append, In-left, In-right}
use Rattle.argot_graph_edges.specs.Adding.{Adds, IsKept, AreMany}
use Rattle.argot_graph_edges.specs.Rows.{IsNumberedAs, Just}
use Rattle.argot_graph_edges.specs.declared.sketch.Sketch.{Sketch}

pub adds_none : (R : Edge → Type 0) (a : Sketch) → ((e : Edge) → R e → ⊥) → Adds R a a
adds_none R a none = record { only = λ e m. inl m; kept = λ f e m. m; there = λ f e r. absurd (none e r); full = λ f. f; many = λ h. h }

-- where nothing is added any more
pub adds_full : (R : Edge → Type 0) (a : Sketch) → a.full ≡ true → Adds R a a
adds_full R a h = record {
  only = λ e m. inl m;
  kept = λ f e m. m;
  there = λ f e r. (let z : true ≡ false = sym h ∙ f in absurd cc);
  full = λ f. f;
  many = λ h. h;
}

-- first those with the one property, then those with the other
pub adds_both : (A B C : Edge → Type 0) (a b c : Sketch) → ((e : Edge) → A e ⊎ B e → C e) → ((e : Edge) → C e → A e ⊎ B e) → Adds A a b → Adds B b c → Adds C a c
adds_both A B C a b c to from v w = record {
  only = λ e m. elim (w.only e m) [
    | inl n ↦ elim (v.only e n) [ inl o ↦ inl o | inr x ↦ inr (to e (inl x)) ]
    | inr x ↦ inr (to e (inr x))
  ];
  kept = λ f e m. w.kept f e (v.kept (w.full f) e m);
  there = λ f e x. elim (from e x) [ inl y ↦ w.kept f e (v.there (w.full f) e y) | inr y ↦ w.there f e y ];
  full = λ f. v.full (w.full f);
  many = λ h. w.many (v.many h);
}

pub adds_as : (A B : Edge → Type 0) (a b : Sketch) → ((e : Edge) → A e → B e) → ((e : Edge) → B e → A e) → Adds A a b → Adds B a b
adds_as A B a b to from v = record {
  only = λ e m. elim (v.only e m) [ inl n ↦ inl n | inr x ↦ inr (to e x) ];
  kept = v.kept;
  there = λ f e x. v.there f e (from e x);
  full = v.full;
  many = v.many;
}

-- what is said of one item more of a list
pub adds_more : {X : Type 0} (A : X → Edge → Type 0) (xs ys : List X) (x : X) (a b c : Sketch) → ys ≡ xs ++ x ∷ []
    → Adds (λ e. (y : X) × In y xs × A y e) a b → Adds (A x) b c → Adds (λ e. (y : X) × In y ys × A y e) a c
adds_more {X} A xs ys x a b c h = adds_both (λ e. (y : X) × In y xs × A y e) (A x) (λ e. (y : X) × In y ys × A y e) a b c
    (λ e s. elim s [
      | inl m ↦ (m.0, subst (In m.0) (sym h) (In-left m.0 xs (x ∷ []) m.1), m.2)
      | inr m ↦ (x, subst (In x) (sym h) (In-right x xs (x ∷ []) (here refl)), m)
    ])
    (λ e m. elim (In-append m.0 xs (x ∷ []) (subst (In m.0) h m.1)) [ inl n ↦ inl (m.0, n, m.2) | inr n ↦ inr (subst (λ y. A y e) (only m.0 n) m.2) ])
  where
    only : (y : X) → In y (x ∷ []) → y ≡ x
    only y (here s) = s
    only y (there m) = elim m [ ]

-- one edge is put behind the others
pub adds_one : (a b : Sketch) (x : Edge) → a.full ≡ false → b.full ≡ false → b.edges.items ≡ a.edges.items ++ x ∷ [] → Adds (λ e. e ≡ x) a b
adds_one a b x f g h = record {
  only = λ e m. elim (In-append e a.edges.items (x ∷ []) (subst (In e) h m)) [ inl n ↦ inl n | inr n ↦ inr (alone e n) ];
  kept = λ k e m. subst (In e) (sym h) (In-left e a.edges.items (x ∷ []) m);
  there = λ k e r. subst (In e) (sym h) (In-right e a.edges.items (x ∷ []) (here r));
  full = λ k. f;
  many = λ k full. (let z : true ≡ false = sym full ∙ g in absurd cc);
}
  where
    alone : (y : Edge) → In y (x ∷ []) → y ≡ x
    alone y (here s) = s
    alone y (there m) = elim m [ ]

-- and then the sketch is thinned
pub adds_kept : (R : Edge → Type 0) (a b c : Sketch) → a.full ≡ false → b.full ≡ false → Adds R a b → IsKept b c → Adds R a c
adds_kept R a b c f g v k = record {
  only = λ e m. v.only e (k.only e m);
  kept = λ h e m. k.kept e (v.kept g e m);
  there = λ h e r. k.kept e (v.there g e r);
  full = λ h. f;
  many = λ h. k.many;
}

pub on_ok : {A E : Type 0} (r : Result A E) (P Q : Type 0) → (P → Q) → OnOk r P → OnOk r Q
on_ok (Ok x) P Q f h = f h
on_ok (Err e) P Q f h = h

-- of a call that is the last
pub adds_as_last : {X E : Type 0} (r : Result X E) (A B : Edge → Type 0) (a b : Sketch) → ((e : Edge) → A e → B e) → ((e : Edge) → B e → A e) → OnOk r (Adds A a b) → OnOk r (Adds B a b)
adds_as_last r A B a b to from = on_ok r (Adds A a b) (Adds B a b) (adds_as A B a b to from)

-- what is said of one number more
pub adds_next : (A : ℕ → Edge → Type 0) (low n : ℕ) (a b c : Sketch) → low ≤ n → Adds (λ e. (m : ℕ) × (low ≤ m) × (m < n) × A m e) a b → Adds (A n) b c → Adds (λ e. (m : ℕ) × (low ≤ m) × (m < n + 1) × A m e) a c
adds_next A low n a b c l = adds_both (λ e. (m : ℕ) × (low ≤ m) × (m < n) × A m e) (A n) (λ e. (m : ℕ) × (low ≤ m) × (m < n + 1) × A m e) a b c
    (λ e s. elim s [ inl m ↦ (m.0, m.1, omega (arith, m.2), m.3) | inr m ↦ (n, l, omega arith, m) ])
    (λ e m. elim (cases_eq m.0 n) [ inl s ↦ inr (subst (λ k. A k e) s m.3) | inr s ↦ inl (m.0, m.1, omega (arith, m.2, s), m.3) ])
