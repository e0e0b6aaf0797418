-- The tables of what nodes stand for, use by use.
use Rattle.std.proofs.Common.{◌≡◌, ◌≢◌, ℕ, zero, suc, ◌+◌, ◌<◌, ◌≤◌, ◌⊎◌, inl, inr, List, Bool, true, false, Option, Some, None, length, refl, sym, ap, ◌∙◌, subst, arith}
use Rattle.std.specs.Prelude.{slice_get, slice_set, replicate, ◌-◌, ◌↔◌, IsTrue}
use Rattle.std.proofs.lemmas.Bool.{cases_eq}
use Rattle.argot_typed.specs.declared.program.Use.{Use}
use Rattle.argot_typed.specs.declared.program.Decl.{Decl}
use Rattle.argot_names_rules.specs.Lists.{IsOrdered}
use Rattle.argot_names_rules.specs.declared.flag.Feature.{Feature}
use Rattle.argot_names_imports.proofs.Lists.{get_below, get_there}
use Rattle.argot_files.proofs.Listed.{some_is, get_set_same, get_set_other, length_set}
use Rattle.argot_names_subset_file.specs.declared.standings.Standings.{Standings}
use Rattle.argot_answers.specs.Answers.{Exactly}
use Rattle.argot_answers.proofs.Exactly.{exact_holds, exact_one, exact_not}
use Rattle.argot_names_subset_file.specs.Standings.{feature_numbered, IsNodeOf, IsTypeDecl, predeclared, declared, Stands, StandsBefore, IsFeatured, AreStandings}

abbrev pub ByNode : Use → Use → Type 0
ByNode a b = a.node < b.node

-- of two uses the later one has the greater node
pub uses_ascend : (uses : List Use) → IsOrdered ByNode uses → (j n : ℕ) (a b : Use) → slice_get uses j ≡ Some a → slice_get uses (j + suc n) ≡ Some b → a.node < b.node
uses_ascend uses ordered j zero a b e f = let at : j + 1 ≡ j + suc 0 = omega arith in ordered j a b e (subst (λ k. slice_get uses k ≡ Some b) (sym at) f)
uses_ascend uses ordered j (suc n) a b e f =
    let m = get_there uses (j + suc n) (omega (arith, get_below uses (j + suc (suc n)) b f)) in
    let low = uses_ascend uses ordered j n a m.0 e m.1 in
    let at : j + suc (suc n) ≡ (j + suc n) + 1 = omega arith in
    let high = ordered (j + suc n) m.0 b m.1 (subst (λ k. slice_get uses k ≡ Some b) at f) in
    omega (arith, low, high)

pub earlier_below : (uses : List Use) → IsOrdered ByNode uses → (j k : ℕ) (a b : Use) → j < k → slice_get uses j ≡ Some a → slice_get uses k ≡ Some b → a.node < b.node
earlier_below uses ordered j k a b l e f = go (k - (j + 1), omega arith)
  where
    go : (n : ℕ) × (k ≡ j + suc n) → a.node < b.node
    go h = uses_ascend uses ordered j h.0 a b e (subst (λ x. slice_get uses x ≡ Some b) h.1 f)

-- one table so far: an entry shows where a use before this number makes it
pub record IsTable {A : Type 0} (uses : List Use) (count : ℕ) (Shows : A → Type 0) (Holds : ℕ → Type 0) (table : List A) : Type 0 where
  pub sound : (node : ℕ) (x : A) → slice_get table node ≡ Some x → Shows x → StandsBefore uses count Holds node
  pub complete : (node : ℕ) → StandsBefore uses count Holds node → (x : A) × (slice_get table node ≡ Some x) × Shows x

get_replicate : {A : Type 0} (n : ℕ) (y : A) (k : ℕ) (x : A) → slice_get (replicate n y) k ≡ Some x → x ≡ y
get_replicate zero y k x e = absurd (cc)
get_replicate (suc n) y zero x e = let same : y ≡ x = cc in sym same
get_replicate (suc n) y (suc k) x e = get_replicate n y k x e

module _ {A : Type 0} (uses : List Use) (ordered : IsOrdered ByNode uses) (Shows : A → Type 0) (Holds : ℕ → Type 0) where
  pub table_none : (n : ℕ) (y : A) (table : List A) → table ≡ replicate n y → (Shows y → ⊥) → IsTable uses 0 Shows Holds table
  table_none n y table e never =
      record {
        sound = λ node x f s. absurd (never (subst Shows (get_replicate n y node x (subst (λ t. slice_get t node ≡ Some x) e f)) s));
        complete = λ node h. absurd (omega (arith, h.below));
      }

  pub table_more : (k : ℕ) (u : Use) (x : A) (old new : List A) → slice_get uses k ≡ Some u → u.node < length old → new ≡ slice_set old u.node x → (Shows x → Holds u.decl) → (Holds u.decl → Shows x) → IsTable uses k Shows Holds old → IsTable uses (k + 1) Shows Holds new
  table_more k u x old new there within e to from t =
      record { sound = λ node y f s. sound node y f s (cases_eq node u.node); complete = λ node h. complete node h (cases_eq h.place k) }
    where
      here : slice_get new u.node ≡ Some x
      here = ap (λ ys. slice_get ys u.node) e ∙ get_set_same old u.node x within

      beside : (node : ℕ) → node ≢ u.node → slice_get new node ≡ slice_get old node
      beside node apart = ap (λ ys. slice_get ys node) e ∙ get_set_other old u.node node x apart

      further : (node : ℕ) → StandsBefore uses k Holds node → StandsBefore uses (k + 1) Holds node
      further node h = record { use_ = h.use_; place = h.place; below = omega (arith, h.below); there = h.there; at = h.at; holds = h.holds }

      sound : (node : ℕ) (y : A) → slice_get new node ≡ Some y → Shows y → (node ≡ u.node) ⊎ (node ≢ u.node) → StandsBefore uses (k + 1) Holds node
      sound node y f s (inl same) =
          let is : x ≡ y = some_is x y (sym here ∙ (ap (slice_get new) (sym same) ∙ f)) in
          record { use_ = u; place = k; below = omega arith; there = there; at = sym same; holds = to (subst Shows (sym is) s) }
      sound node y f s (inr apart) = further node (t.sound node y (sym (beside node apart) ∙ f) s)

      complete : (node : ℕ) (h : StandsBefore uses (k + 1) Holds node) → (h.place ≡ k) ⊎ (h.place ≢ k) → (y : A) × (slice_get new node ≡ Some y) × Shows y
      complete node h (inl same) =
          let is : u ≡ h.use_ = some_is u h.use_ (sym there ∙ (ap (slice_get uses) (sym same) ∙ h.there)) in
          let at : u.node ≡ node = ap (λ v. v.node) is ∙ h.at in
          (x, ap (slice_get new) (sym at) ∙ here, from (subst Holds (sym (ap (λ v. v.decl) is)) h.holds))
      complete node h (inr apart) =
          let low : h.place < k = omega (arith, h.below, apart) in
          let less = earlier_below uses ordered h.place k h.use_ u low h.there there in
          let other : node ≢ u.node = omega (arith, h.at, less) in
          let old_ = t.complete node (record { use_ = h.use_; place = h.place; below = low; there = h.there; at = h.at; holds = h.holds }) in
          (old_.0, beside node other ∙ old_.1, old_.2)

  pub table_all : (k : ℕ) (table : List A) → length uses ≤ k → IsTable uses k Shows Holds table → (node : ℕ) → ((x : A) × (slice_get table node ≡ Some x) × Shows x) ↔ Stands uses Holds node
  table_all k table long t node = (
    λ h. let s = t.sound node h.0 h.1 h.2 in record { use_ = s.use_; among = (s.place, s.there); at = s.at; holds = s.holds },
    λ h. t.complete node (record { use_ = h.use_; place = h.among.0; below = omega (arith, long, get_below uses h.among.0 h.use_ h.among.1); there = h.among.1; at = h.at; holds = h.holds }),
  )

-- a type by its declaration
pub type_numbered : (types : List Bool) (decls : List Decl) (decl : ℕ) → decl < 22 → IsTrue true ↔ IsTypeDecl types decls decl
type_numbered types decls decl l = (λ _. predeclared l, λ _. refl)

pub type_declared : (types : List Bool) (decls : List Decl) (decl node : ℕ) (b : Bool) → 22 ≤ decl → Exactly (IsNodeOf decls decl) (Some node) → IsTrue b ↔ (slice_get types node ≡ Some true) → IsTrue b ↔ IsTypeDecl types decls decl
type_declared types decls decl node b l is t =
    let h = exact_holds (IsNodeOf decls decl) node is in
    (λ is_so. declared h.there h.node_is (t.0 is_so), from)
  where
    from : IsTypeDecl types decls decl → IsTrue b
    from (predeclared less) = absurd (omega (arith, l, less))
    from (declared {item} {node = n} there node_is marked) = t.1 (subst (λ x. slice_get types x ≡ Some true) (exact_one (IsNodeOf decls decl) node is n (record { item = item; there = there; node_is = node_is })) marked)

pub type_none : (types : List Bool) (decls : List Decl) (decl : ℕ) → 22 ≤ decl → Exactly (IsNodeOf decls decl) None → IsTrue false ↔ IsTypeDecl types decls decl
type_none types decls decl l is = (λ no_way. absurd (cc), from)
  where
    from : IsTypeDecl types decls decl → IsTrue false
    from (predeclared less) = absurd (omega (arith, l, less))
    from (declared {item} {node} there node_is marked) = absurd (exact_not (IsNodeOf decls decl) is node (record { item = item; there = there; node_is = node_is }))

-- both tables so far
pub record AreSoFar (uses : List Use) (decls : List Decl) (types : List Bool) (count k : ℕ) (named : List (Option Feature)) (typed : List Bool) : Type 0 where
  pub named_long : length named ≡ count
  pub typed_long : length typed ≡ count
  pub named_is : (feature : Feature) → IsTable uses k (λ x. x ≡ Some feature) (IsFeatured feature) named
  pub typed_is : IsTable uses k (λ x. x ≡ true) (IsTypeDecl types decls) typed

length_replicate : {A : Type 0} (n : ℕ) (y : A) → length (replicate n y) ≡ n
length_replicate zero y = refl
length_replicate (suc n) y = ap suc (length_replicate n y)

module _ (uses : List Use) (decls : List Decl) (types : List Bool) (count : ℕ) (ordered : IsOrdered ByNode uses) where
  pub so_far_none : (named : List (Option Feature)) (typed : List Bool) → named ≡ replicate count None → typed ≡ replicate count false → AreSoFar uses decls types count 0 named typed
  so_far_none named typed e f =
      record {
        named_long = ap length e ∙ length_replicate count None;
        typed_long = ap length f ∙ length_replicate count false;
        named_is = λ feature. table_none uses ordered (λ x. x ≡ Some feature) (IsFeatured feature) count None named e (λ no_way. absurd (cc));
        typed_is = table_none uses ordered (λ x. x ≡ true) (IsTypeDecl types decls) count false typed f (λ no_way. absurd (cc));
      }

  pub so_far_more : (k : ℕ) (u : Use) (x : Option Feature) (y : Bool) (named named' : List (Option Feature)) (typed typed' : List Bool) → slice_get uses k ≡ Some u → u.node < count
      → x ≡ feature_numbered u.decl → IsTrue y ↔ IsTypeDecl types decls u.decl → named' ≡ slice_set named u.node x → typed' ≡ slice_set typed u.node y → AreSoFar uses decls types count k named typed → AreSoFar uses decls types count (k + 1) named' typed'
  so_far_more k u x y named named' typed typed' there within is_feature is_type e f s =
      record {
        named_long = ap length e ∙ (length_set named u.node x ∙ s.named_long);
        typed_long = ap length f ∙ (length_set typed u.node y ∙ s.typed_long);
        named_is = λ feature.
            table_more uses ordered (λ z. z ≡ Some feature) (IsFeatured feature) k u x named named' there (omega (arith, within, s.named_long)) e (λ h. sym is_feature ∙ h) (λ h. is_feature ∙ h) (s.named_is feature);
        typed_is = table_more uses ordered (λ z. z ≡ true) (IsTypeDecl types decls) k u y typed typed' there (omega (arith, within, s.typed_long)) f (λ h. is_type.0 h) (λ h. is_type.1 h) s.typed_is;
      }

  pub so_far_all : (k : ℕ) (s : Standings) → length uses ≤ k → AreSoFar uses decls types count k s.named.items s.typed.items → AreStandings uses decls types s
  so_far_all k s long a =
      record {
        named = λ node feature.
            let t = table_all uses ordered (λ x. x ≡ Some feature) (IsFeatured feature) k s.named.items long (a.named_is feature) node in
            (λ e. t.0 (Some feature, e, refl), λ h. let x = t.1 h in x.1 ∙ ap (λ y. Some y) x.2);
        typed = λ node.
            let t = table_all uses ordered (λ x. x ≡ true) (IsTypeDecl types decls) k s.typed.items long a.typed_is node in
            (λ e. t.0 (true, e, refl), λ h. let x = t.1 h in x.1 ∙ ap (λ y. Some y) x.2);
      }
