-- The table of the first files, file by file.
use Rattle.std.proofs.Common.{◌≡◌, ℕ, ◌+◌, inl, inr, List, Bool, true, false, cond, Option, Some, None, refl, sym, ap, ◌∙◌, subst, arith}
use Rattle.std.specs.Prelude.{nat_eq, slice_get}
use Rattle.std.specs.Cmp.Lexicographic.{pointwise}
use Rattle.std.specs.HashMap.{get_by}
use Rattle.std.specs.Borrow.{Bor}
use Rattle.std.proofs.lemmas.Slice.Eq.{bytes_eq-Decides}
use Rattle.std.proofs.lemmas.Bool.{cond_both, cases_eq}
use Rattle.argot_names_imports.specs.declared.firsts.Sort.{Sort}
use Rattle.argot_names_imports.specs.Keys.{key_of}
use Rattle.argot_names_imports.specs.Firsts.{Numbers, found_at, noted, IsFirstBelow, found, missing, AreFirsts}

some_is : {A : Type 0} (x y : A) → Some x ≡ Some y → x ≡ y
some_is x y e = cc

-- two texts are equal where the test says so
pub same_text : (a b : List ℕ) → pointwise nat_eq a b ≡ true → a ≡ b
same_text a b e = (bytes_eq-Decides a b).0 e

pub text_same : (a : List ℕ) → pointwise nat_eq a a ≡ true
text_same a = (bytes_eq-Decides a a).1 refl

noted_by : (o : Option ℕ) (b : Bool) (file : ℕ) (key q : List ℕ) → pointwise nat_eq key q ≡ b → (b ≡ true → o ≡ None) → cond b (Some file) o ≡ noted o (Some key) file q
noted_by None true file key q e none = rw e refl
noted_by None false file key q e none = rw e refl
noted_by (Some f) true file key q e none = absurd (cc (none refl))
noted_by (Some f) false file key q e none = refl

pub note_step : (m n : Numbers) (key : Bor (List ℕ)) (file : ℕ) → found_at m key.now ≡ None
    → ((q : Bor (List ℕ)) → get_by (λ k. pointwise nat_eq q.now k.now) n ≡ cond (pointwise nat_eq key.now q.now) (Some file) (get_by (λ k. pointwise nat_eq q.now k.now) m))
    → (q : List ℕ) → found_at n q ≡ noted (found_at m q) (Some key.now) file q
note_step m n key file none updates q =
    updates (record { ref_ptr = (0, 0); now = q })
    ∙ noted_by (found_at m q) (pointwise nat_eq key.now q) file key.now q refl (λ e. subst (λ x. found_at m x ≡ None) (same_text key.now q e) none)

pub note_kept : (m : Numbers) (key : List ℕ) (file : ℕ) → (f : ℕ) → found_at m key ≡ Some f → (q : List ℕ) → found_at m q ≡ noted (found_at m q) (Some key) file q
note_kept m key file f some q = kept (found_at m q) refl
  where
    differs : key ≡ q → found_at m q ≡ None → ⊥
    differs same none = absurd (cc (ap (found_at m) same, some, none))

    kept : (o : Option ℕ) → found_at m q ≡ o → o ≡ noted o (Some key) file q
    kept (Some x) e = refl
    kept None e = cond_both (pointwise nat_eq key q) (Some file) None (λ r. None ≡ r) (λ is. absurd (differs (same_text key q is) e)) (λ _. refl)

-- one file more
first_more : (sort : Sort) (paths : List (List ℕ)) (count : ℕ) (path q : List ℕ) (o : Option ℕ) (k : Option (List ℕ)) → slice_get paths count ≡ Some path → key_of sort path ≡ k
    → IsFirstBelow sort paths count q o → IsFirstBelow sort paths (count + 1) q (noted o k count q)
first_more sort paths count path q _ k there key (found {file = file} {path = first} below at is before) = found (omega arith) at is before
first_more sort paths count path q _ None there key (missing none) =
    missing (λ other before below at is. elim (cases_eq other count) [ inl same ↦ absurd (cc (at, there, is, key, ap (slice_get paths) same)) | inr lower ↦ none other before (omega (arith, below, lower)) at is ])
first_more sort paths count path q _ (Some k) there key (missing none) =
    cond_both (pointwise nat_eq k q) (Some count) None (IsFirstBelow sort paths (count + 1) q)
    (λ is. found (omega arith) there (key ∙ ap (λ x. Some x) (same_text k q is)) none)
    (λ not_is. missing (λ other before below at is. elim (cases_eq other count) [ inl same ↦ absurd (here other before same at is not_is) | inr lower ↦ none other before (omega (arith, below, lower)) at is ]))
  where
    here : (other : ℕ) (before : List ℕ) → other ≡ count → slice_get paths other ≡ Some before → key_of sort before ≡ Some q → pointwise nat_eq k q ≡ false → ⊥
    here other before same at is not_is =
        let path_is : before ≡ path = some_is before path (sym at ∙ ap (slice_get paths) same ∙ there) in
        let key_is : q ≡ k = some_is q k (sym is ∙ ap (key_of sort) path_is ∙ key) in
        absurd (cc (subst (λ x. pointwise nat_eq k x ≡ true) (sym key_is) (text_same k), not_is))

pub firsts_none : (sort : Sort) (paths : List (List ℕ)) (m : Numbers) → ((q : List ℕ) → found_at m q ≡ None) → AreFirsts sort paths 0 m
firsts_none sort paths m none q = subst (IsFirstBelow sort paths 0 q) (sym (none q)) (missing (λ other before below at is. absurd (omega (arith, below))))

pub firsts_more : (sort : Sort) (paths : List (List ℕ)) (count : ℕ) (path : List ℕ) (m n : Numbers) → slice_get paths count ≡ Some path → AreFirsts sort paths count m
    → ((q : List ℕ) → found_at n q ≡ noted (found_at m q) (key_of sort path) count q) → AreFirsts sort paths (count + 1) n
firsts_more sort paths count path m n there are new q =
    subst (IsFirstBelow sort paths (count + 1) q) (sym (new q)) (first_more sort paths count path q (found_at m q) (key_of sort path) there refl (are q))
