-- Edges of a graph, one more at a time, and what is reached along them.
use Rattle.std.proofs.Common.{◌≡◌, ℕ, zero, suc, ◌+◌, ◌<◌, ◌≤◌, ◌⊎◌, inl, inr, List, [], ◌∷◌, ◌++◌, length, Bool, true, false, Option, Some, slice_index_or, slice_set, refl, sym, ap, ◌∙◌, subst, arith, append_assoc}
use Rattle.std.specs.Prelude.{◌||◌, slice_get, nat_eq, replicate, ◌↔◌}
use Rattle.std.specs.HashSet.{HashSet, IsUnique}
use Rattle.std.specs.declared.hash.FoldHasher.{FoldHasher}
use Rattle.std.specs.declared.hash.BuildHasherDefault.{BuildHasherDefault}
use Rattle.std.specs.List.{list_any}
use Rattle.std.proofs.lemmas.Bool.{cases_eq, cond_both, eqb-true}
use Rattle.std.proofs.lemmas.Map.Steps.{length-le_from_distinct_below}
use Rattle.std.proofs.lemmas.List.{get_or-set_same, get_or-set_other}
use Rattle.indexmap.specs.IndexSet.{insert_key}
use Rattle.argot_names_rules.specs.Lists.{In}
use Rattle.argot_names_imports.specs.declared.written.Written.{Written}
use Rattle.argot_names_imports.specs.declared.find.Found.{Found}
use Rattle.argot_names_imports.specs.Graph.{target_of, Leads, IsStep, Reaches, stay, onward}
use Rattle.argot_names_imports.proofs.Lists.{nothing_in, get_below, get_before, get_two, in_before, in_either}

in_more : (x y : ℕ) (xs : List ℕ) → In x xs → In x (y ∷ xs)
in_more x y xs h = (suc h.0, h.1)

-- an edge stays when another is pushed
pub kept_edge : (lists new : List (List ℕ)) (from to : ℕ) → from < length lists → new ≡ slice_set lists from (to ∷ slice_index_or lists from []) → (l t : ℕ) → Leads lists l t → Leads new l t
kept_edge lists new from to within e l t h =
    elim (cases_eq l from) [
      | inl same ↦
          let there : slice_index_or new l [] ≡ to ∷ slice_index_or lists l [] =
          ap (λ n. slice_index_or n l []) e ∙ ap (λ k. slice_index_or (slice_set lists from (to ∷ slice_index_or lists from [])) k []) same
          ∙ get_or-set_same lists from (to ∷ slice_index_or lists from []) [] within ∙ ap (λ k. to ∷ slice_index_or lists k []) (sym same) in
          subst (In t) (sym there) (in_more t to (slice_index_or lists l []) h)
      | inr other ↦
          let there : slice_index_or new l [] ≡ slice_index_or lists l [] = ap (λ n. slice_index_or n l []) e ∙ get_or-set_other lists from l (to ∷ slice_index_or lists from []) [] other in
          subst (In t) (sym there) h
    ]

-- a key that is there is an old one, or the one that was put
pub in_inserted : (keys : List ℕ) (k t : ℕ) → In t (insert_key nat_eq keys k) → In t keys ⊎ (t ≡ k)
in_inserted keys k t = cond_both (list_any (nat_eq k) keys) keys (keys ++ k ∷ []) (λ xs. In t xs → In t keys ⊎ (t ≡ k)) (λ _ h. inl h) (λ _ h. in_either keys k t h)

-- the edges are the steps of the first imports
abbrev pub HasSteps : List (List ℕ) → List (Option ℕ) → List Written → List Found → ℕ → Type 0
HasSteps lists leaders imports founds k = (a b : ℕ) → Leads lists a b ↔ ((j : ℕ) × (j < k) × IsStep leaders imports founds j a b)

steps_empty : (n : ℕ) (a b : ℕ) → Leads (replicate n []) a b → ⊥
steps_empty zero a b h = absurd (nothing_in b h)
steps_empty (suc n) zero b h = absurd (nothing_in b h)
steps_empty (suc n) (suc a) b h = steps_empty n a b h

pub steps_none : (lists : List (List ℕ)) (n : ℕ) (leaders : List (Option ℕ)) (imports : List Written) (founds : List Found) → lists ≡ replicate n [] → HasSteps lists leaders imports founds 0
steps_none lists n leaders imports founds e a b = (λ h. absurd (steps_empty n a b (subst (λ ls. Leads ls a b) e h)), λ h. absurd (omega (arith, h.1)))

some_is : {A : Type 0} (x y : A) → Some x ≡ Some y → x ≡ y
some_is x y e = cc

pub steps_more : (old new : List (List ℕ)) (leaders : List (Option ℕ)) (imports : List Written) (founds : List Found) (k : ℕ) (w : Written) (f : Found) (from to : Option ℕ)
    → slice_get imports k ≡ Some w → slice_get founds k ≡ Some f → ((l : ℕ) → from ≡ Some l ↔ slice_get leaders w.file ≡ Some (Some l)) → to ≡ target_of f
    → ((l t : ℕ) → Leads old l t → Leads new l t) → ((l t : ℕ) → from ≡ Some l → to ≡ Some t → Leads new l t) → ((l t : ℕ) → Leads new l t → Leads old l t ⊎ ((from ≡ Some l) × (to ≡ Some t)))
    → HasSteps old leaders imports founds k → HasSteps new leaders imports founds (k + 1)
steps_more old new leaders imports founds k w f from to at found leader target kept added only edges a b = (
  λ h. elim (only a b h) [
    | inl before ↦ let s = (edges a b).0 before in (s.0, omega (arith, s.1), s.2)
    | inr now ↦ (k, omega arith, record { import_ = w; found = f; is_import = at; is_found = found; leader = (leader a).0 now.0; target = sym target ∙ now.1 })
  ],
  λ h. elim (cases_eq h.0 k) [
    | inl same ↦ last h.0 h.2 same
    | inr other ↦ kept a b ((edges a b).1 (h.0, omega (arith, h.1, other), h.2))
  ],
)
  where
    last : (j : ℕ) → IsStep leaders imports founds j a b → j ≡ k → Leads new a b
    last j s same =
        let w_is : s.import_ ≡ w = some_is _ _ (sym s.is_import ∙ ap (slice_get imports) same ∙ at) in
        let f_is : s.found ≡ f = some_is _ _ (sym s.is_found ∙ ap (slice_get founds) same ∙ found) in
        added a b ((leader a).1 (subst (λ (v : Written). slice_get leaders v.file ≡ Some (Some a)) w_is s.leader)) (target ∙ ap target_of (sym f_is) ∙ s.target)

pub steps_all : (lists : List (List ℕ)) (leaders : List (Option ℕ)) (imports : List Written) (founds : List Found) (k : ℕ) → length imports ≤ k → HasSteps lists leaders imports founds k
    → (a b : ℕ) → Leads lists a b ↔ ((j : ℕ) × IsStep leaders imports founds j a b)
steps_all lists leaders imports founds k all edges a b =
    (λ h. let s = (edges a b).0 h in (s.0, s.2), λ s. (edges a b).1 (s.0, omega (arith, all, get_below imports s.0 s.1.import_ s.1.is_import), s.1))

-- what stands in the middle
pub in_mid : (ys rest : List ℕ) (x : ℕ) → In x (ys ++ x ∷ rest)
in_mid [] rest x = (0, refl)
in_mid (y ∷ ys) rest x = in_more x y (ys ++ x ∷ rest) (in_mid ys rest x)

pub kept_join : (a b c : List ℕ) → ((m : List ℕ) × (b ≡ a ++ m)) → ((m : List ℕ) × (c ≡ b ++ m)) → (m : List ℕ) × (c ≡ a ++ m)
kept_join a b c p q = (p.0 ++ q.0, q.1 ∙ ap (λ x. x ++ q.0) p.1 ∙ append_assoc a p.0 q.0)

abbrev pub Nodes : Type 0
Nodes = HashSet ℕ (BuildHasherDefault FoldHasher)

-- the nodes so far, of which the first ones have been looked at
pub record IsReachedTo (lists : List (List ℕ)) (start : ℕ) (reached : Nodes) (at : ℕ) : Type 0 where
  pub first : slice_get reached.keys 0 ≡ Some start
  pub unique : IsUnique nat_eq reached
  pub sound : (t : ℕ) → In t reached.keys → Reaches lists start t
  pub closed : (j n t : ℕ) → j < at → slice_get reached.keys j ≡ Some n → Leads lists n t → In t reached.keys

in_nothing : (keys : List ℕ) (x t : ℕ) → keys ≡ x ∷ [] → In t keys → t ≡ x
in_nothing keys x t e h = elim (in_either [] x t (subst (In t) e h)) [ inl old ↦ absurd (nothing_in t old) | inr same ↦ same ]

pub reached_first : (lists : List (List ℕ)) (start : ℕ) (reached : Nodes) (old : List ℕ) → old ≡ [] → ((more : List ℕ) × (reached.keys ≡ old ++ more)) → In start reached.keys
    → ((t : ℕ) → In t reached.keys → In t old ⊎ (t ≡ start)) → IsUnique nat_eq reached → IsReachedTo lists start reached 0
reached_first lists start reached old none more there only unique =
    record {
      first = at_first reached.keys there (λ t h. elim (only t h) [ inl o ↦ absurd (nothing_in t (subst (In t) none o)) | inr same ↦ same ]);
      unique = unique;
      sound = λ t h. elim (only t h) [ inl o ↦ absurd (nothing_in t (subst (In t) none o)) | inr same ↦ subst (Reaches lists start) (sym same) stay ];
      closed = λ j n t below. absurd (omega (arith, below));
    }
  where
    at_first : (keys : List ℕ) → In start keys → ((t : ℕ) → In t keys → t ≡ start) → slice_get keys 0 ≡ Some start
    at_first [] h all = absurd (nothing_in start h)
    at_first (x ∷ keys) h all = ap (λ y. Some y) (all x (0, refl))

pub reached_more : (lists : List (List ℕ)) (start : ℕ) (old new : Nodes) (at node : ℕ) → IsReachedTo lists start old at → slice_get old.keys at ≡ Some node
    → ((t : ℕ) → Leads lists node t → In t new.keys) → ((more : List ℕ) × (new.keys ≡ old.keys ++ more)) → ((t : ℕ) → In t new.keys → In t old.keys ⊎ Leads lists node t) → IsUnique nat_eq new
    → IsReachedTo lists start new (at + 1)
reached_more lists start old new at node is here there more only unique =
    record {
      first = kept 0 start is.first;
      unique = unique;
      sound = λ t h. elim (only t h) [ inl o ↦ is.sound t o | inr edge ↦ onward (is.sound node (at, here)) edge ];
      closed = λ j n t below e edge. elim (cases_eq j at) [
        | inl same ↦ there t (subst (λ m. Leads lists m t) (some_is n node (sym e ∙ ap (slice_get new.keys) same ∙ kept at node here)) edge)
        | inr other ↦ subst (In t) (sym more.1) (in_before old.keys more.0 t (is.closed j n t (omega (arith, below, other)) (before j n (omega (arith, below, other)) e) edge))
      ];
    }
  where
    kept : (j n : ℕ) → slice_get old.keys j ≡ Some n → slice_get new.keys j ≡ Some n
    kept j n e = ap (λ ks. slice_get ks j) more.1 ∙ get_before old.keys more.0 j n e

    before : (j n : ℕ) → j < at → slice_get new.keys j ≡ Some n → slice_get old.keys j ≡ Some n
    before j n below e =
        elim (get_two old.keys more.0 j n (subst (λ ks. slice_get ks j ≡ Some n) more.1 e))
        [ inl o ↦ o | inr later ↦ absurd (omega (arith, later.1, below, get_below old.keys at node here)) ]

pub reached_all : (lists : List (List ℕ)) (start : ℕ) (reached : Nodes) (at : ℕ) → IsReachedTo lists start reached at → length reached.keys ≤ at → (t : ℕ) → In t reached.keys ↔ Reaches lists start t
reached_all lists start reached at is all t = (is.sound t, λ h. back t h)
  where
    back : (t : ℕ) → Reaches lists start t → In t reached.keys
    back _ stay = (0, is.first)
    back _ (onward {between = b} {to = t} h edge) = let i = back b h in is.closed i.0 b t (omega (arith, all, get_below reached.keys i.0 b i.1)) i.1 edge

reaches_below : (lists : List (List ℕ)) (start : ℕ) → start < length lists → ((l t : ℕ) → Leads lists l t → t < length lists) → (t : ℕ) → Reaches lists start t → t < length lists
reaches_below lists start s below _ stay = s
reaches_below lists start s below _ (onward {between = b} {to = t} h edge) = below b t edge

any_in : (q : ℕ) (xs : List ℕ) → list_any (nat_eq q) xs ≡ true → In q xs
any_in q [] e = absurd (cc)
any_in q (x ∷ xs) e = elim (one_of (nat_eq q x) (list_any (nat_eq q) xs) e) [ inl is ↦ (0, ap (λ y. Some y) (sym (eqb-true q x is))) | inr later ↦ in_more q x xs (any_in q xs later) ]
  where
    one_of : (b c : Bool) → (b || c) ≡ true → (b ≡ true) ⊎ (c ≡ true)
    one_of true c e = inl refl
    one_of false c e = inr e

-- a node that is there is below the count, and there are no more nodes than that
pub node_below : (lists : List (List ℕ)) (start : ℕ) (reached : Nodes) (at : ℕ) → start < length lists → ((l t : ℕ) → Leads lists l t → t < length lists) → IsReachedTo lists start reached at
    → (t : ℕ) → In t reached.keys → t < length lists
node_below lists start reached at s below is t h = reaches_below lists start s below t (is.sound t h)

pub within_count : (lists : List (List ℕ)) (start : ℕ) (reached : Nodes) (at : ℕ) → start < length lists → ((l t : ℕ) → Leads lists l t → t < length lists) → IsReachedTo lists start reached at
    → length reached.keys ≤ length lists
within_count lists start reached at s below is = length-le_from_distinct_below reached.keys (length lists) is.unique (λ q e. node_below lists start reached at s below is q (any_in q reached.keys e))
