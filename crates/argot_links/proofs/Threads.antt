-- A queue that is threaded through its numbers: one more, and one less.
use Rattle.std.proofs.Common.{◌≡◌, ℕ, zero, suc, ◌+◌, ◌-◌, ◌<◌, ◌≤◌, ◌^◌, ◌⊎◌, true, false, cond, nat_eq, nat_lt, List, [], ◌∷◌, ◌++◌, length, get_or, set, replicate, refl, sym, ap, ◌∙◌, subst, inl, inr, arith, add-one, length-set}
use Rattle.std.proofs.lemmas.Bool.{cases_eq, cases_lt, both_ways, ltb-true, lt-ltb, ne_eqb}
use Rattle.std.proofs.lemmas.List.{get_or-set_same, get_or-set_other, get_or_past, get_or-replicate, length-replicate}
use Rattle.argot_links.specs.Members.{has, AreDistinct, AreBelow}
use Rattle.argot_links.specs.Threaded.{thread, EndsIn, free_count, IsThreaded}
use Rattle.argot_links.proofs.Having.{has_pushed, has_other, has_first, has_rest, has_cases, has_kept, distinct-push, below-push}

-- ---- threads

-- a thread goes by the links of its numbers alone
thread_same : (k : ℕ) (links more : List ℕ) (i : ℕ) → ((j : ℕ) → has (thread k links i) j ≡ true → get_or more j 0 ≡ get_or links j 0) → thread k more i ≡ thread k links i
thread_same zero links more i same = refl
thread_same (suc k) links more i same =
    let next = get_or links i 0 - 1 in
    let here : get_or more i 0 ≡ get_or links i 0 = same i (has_first i (thread k links next)) in
    let rest = thread_same k links more next (λ j h. same j (later j h)) in
    rw here (ap (λ xs. i ∷ xs) rest)
  where
    later : (j : ℕ) → has (thread k links (get_or links i 0 - 1)) j ≡ true → has (thread (suc k) links i) j ≡ true
    later j h = elim (cases_eq j i) [ inl e ↦ rw e (has_first i _) | inr ne ↦ has_rest i _ j ne ∙ h ]

ends_has : (x : ℕ) (xs : List ℕ) (last : ℕ) → EndsIn (x ∷ xs) last → has (x ∷ xs) last ≡ true
ends_has x [] last e = rw e (has_first last [])
ends_has x (y ∷ ys) last e =
    let rest = ends_has y ys last e in
    elim (cases_eq last x) [ inl q ↦ rw q (has_first x (y ∷ ys)) | inr ne ↦ has_rest x (y ∷ ys) last ne ∙ rest ]

ends-push : (xs : List ℕ) (i : ℕ) → EndsIn (xs ++ i ∷ []) i
ends-push [] i = refl
ends-push (x ∷ []) i = refl
ends-push (x ∷ y ∷ ys) i = ends-push (y ∷ ys) i

-- one more number behind the last
thread_push : (k : ℕ) (links more : List ℕ) (first last i : ℕ) → EndsIn (thread (suc k) links first) last → AreDistinct (thread (suc k) links first) → ((j : ℕ) → has (thread (suc k) links first) j ≡ true → (j ≡ last → ⊥) → get_or more j 0 ≡ get_or links j 0) → get_or more last 0 ≡ i + 1 → thread (suc (suc k)) more first ≡ thread (suc k) links first ++ i ∷ []
thread_push zero links more first last i e d same next =
    let here : get_or more first 0 ≡ i + 1 = rw e next in
    let link : get_or more first 0 - 1 ≡ i = omega (arith, here) in
    rw link refl
thread_push (suc k) links more first last i e d same next =
    let second = get_or links first 0 - 1 in
    let rest = thread (suc k) links second in
    let in_rest : has rest last ≡ true = ends_has second (thread k links (get_or links second 0 - 1)) last e in
    let apart : first ≡ last → ⊥ = λ q. both_ways (has rest last) (rw (← q) d.0) in_rest in
    let here : get_or more first 0 ≡ get_or links first 0 = same first (has_first first rest) apart in
    let later : (j : ℕ) → has rest j ≡ true → has (first ∷ rest) j ≡ true = λ j h. elim (cases_eq j first) [ inl q ↦ rw q (has_first first rest) | inr ne ↦ has_rest first rest j ne ∙ h ] in
    rw here (ap (λ xs. first ∷ xs) (thread_push k links more second last i e d.1 (λ j h ne. same j (later j h) ne) next))

-- ---- how many numbers don't wait

free-set_on : (links : List ℕ) (i v : ℕ) → i < length links → get_or links i 0 ≡ 0 → free_count (set links i (v + 1)) + 1 ≡ free_count links
free-set_on [] i v l e = absurd (omega arith)
free-set_on (x ∷ xs) zero v l e =
    let on : nat_eq (v + 1) 0 ≡ false = ne_eqb (v + 1) 0 (λ q. omega arith) in
    rw (e, on) (omega arith)
free-set_on (x ∷ xs) (suc i) v l e =
    let rest = free-set_on xs i v (omega arith) e in
    elim (nat_eq x 0) as (λ b. cond b (suc (free_count (set xs i (v + 1)))) (free_count (set xs i (v + 1))) + 1 ≡ cond b (suc (free_count xs)) (free_count xs)) [ true ↦ omega arith | false ↦ rest ]

free-set_still : (links : List ℕ) (i v : ℕ) → 0 < get_or links i 0 → free_count (set links i (v + 1)) ≡ free_count links
free-set_still [] i v l = refl
free-set_still (x ∷ xs) zero v l =
    let on : nat_eq (v + 1) 0 ≡ false = ne_eqb (v + 1) 0 (λ q. omega arith) in
    let was : nat_eq x 0 ≡ false = ne_eqb x 0 (λ q. omega arith) in
    rw (on, was) refl
free-set_still (x ∷ xs) (suc i) v l =
    let rest = free-set_still xs i v l in
    rw rest refl

free-set_off : (links : List ℕ) (i : ℕ) → 0 < get_or links i 0 → free_count (set links i 0) ≡ free_count links + 1
free-set_off [] i l = absurd (omega arith)
free-set_off (x ∷ xs) zero l =
    let was : nat_eq x 0 ≡ false = ne_eqb x 0 (λ q. omega arith) in
    rw was (omega arith)
free-set_off (x ∷ xs) (suc i) l =
    let rest = free-set_off xs i l in
    elim (nat_eq x 0) as (λ b. cond b (suc (free_count (set xs i 0))) (free_count (set xs i 0)) ≡ cond b (suc (free_count xs)) (free_count xs) + 1) [ true ↦ omega arith | false ↦ rest ]

free-zeros : (n : ℕ) → free_count (replicate n 0) ≡ n
free-zeros zero = refl
free-zeros (suc n) = ap suc (free-zeros n)

-- ---- the whole

zero_at : (n i : ℕ) → ◌≡◌ {A = ℕ} (get_or (replicate n 0) i 0) 0
zero_at n i = elim (cases_lt i n) [ inl l ↦ get_or-replicate n i 0 0 l | inr m ↦ get_or_past (replicate n 0) i 0 (rw length-replicate m) ]

pub threaded_new : (n : ℕ) → n < 2 ^ 32 → IsThreaded (replicate n 0) 0 0 0
threaded_new n l = record {
  flags = λ i. ap (nat_lt 0) (zero_at n i);
  distinct = tt;
  below = tt;
  ends = tt;
  room = omega (arith, free-zeros n, length-replicate {A = ℕ} n 0);
  small = rw length-replicate l;
}

-- a number whose link is 0 isn't in the queue
out_of : (links : List ℕ) (first last c i : ℕ) → IsThreaded links first last c → get_or links i 0 ≡ 0 → has (thread c links first) i ≡ false
out_of links first last c i w e = sym (w.flags i) ∙ ap (nat_lt 0) e

-- a number in the queue has a link
in_it : (links : List ℕ) (first last c i : ℕ) → IsThreaded links first last c → has (thread c links first) i ≡ true → 0 < get_or links i 0
in_it links first last c i w h = ltb-true 0 (get_or links i 0) (w.flags i ∙ h)

pub threaded_one : (links : List ℕ) (first last i : ℕ) → IsThreaded links first last 0 → i < length links → get_or links i 0 ≡ 0 → IsThreaded (set links i (i + 1)) i i 1
threaded_one links first last i w l e =
    let same = length-set links i (i + 1) in
    record {
      flags = λ j. elim (cases_eq j i) [
        | inl q ↦ rw (q, get_or-set_same links i (i + 1) 0 l) (lt-ltb 0 (i + 1) (omega arith) ∙ sym (has_first i []))
        | inr ne ↦ ap (nat_lt 0) (get_or-set_other links i j (i + 1) 0 ne) ∙ w.flags j ∙ sym (has_rest i [] j ne)
      ];
      distinct = (refl, tt);
      below = (rw same l, tt);
      ends = refl;
      room = omega (arith, same, free-set_on links i i l e, w.room);
      small = rw same w.small;
    }

last_in : (links : List ℕ) (first last k : ℕ) → IsThreaded links first last (suc k) → has (thread (suc k) links first) last ≡ true
last_in links first last k w = ends_has first (thread k links (get_or links first 0 - 1)) last w.ends

below_of : (n : ℕ) (xs : List ℕ) (i : ℕ) → AreBelow n xs → has xs i ≡ true → i < n
below_of n [] i b h = cc
below_of n (x ∷ xs) i b h = elim (cases_eq i x) [ inl e ↦ rw e b.0 | inr ne ↦ below_of n xs i b.1 (sym (has_rest x xs i ne) ∙ h) ]

pub last_below : (links : List ℕ) (first last c : ℕ) → 0 < c → IsThreaded links first last c → last < length links
last_below links first last zero l w = absurd (omega arith)
last_below links first last (suc k) l w = below_of (length links) (thread (suc k) links first) last w.below (last_in links first last k w)

abbrev pub links_after : List ℕ → ℕ → ℕ → List ℕ
links_after links last i = set (set links last (i + 1)) i (i + 1)

module _ (links : List ℕ) (first last k i : ℕ) (w : IsThreaded links first last (suc k)) (l : i < length links) (e : get_or links i 0 ≡ 0) where
  within : last < length links
  within = last_below links first last (suc k) (omega arith) w

  -- i waits not yet, and the last one does
  apart : i ≡ last → ⊥
  apart q = let some = in_it links first last (suc k) last w (last_in links first last k w) in let none : get_or links last 0 ≡ 0 = rw (← q) e in omega arith

  at_last : get_or (links_after links last i) last 0 ≡ i + 1
  at_last = get_or-set_other (set links last (i + 1)) i last (i + 1) 0 (λ q. apart (sym q)) ∙ get_or-set_same links last (i + 1) 0 within

  at_new : get_or (links_after links last i) i 0 ≡ i + 1
  at_new = get_or-set_same (set links last (i + 1)) i (i + 1) 0 (rw (length-set links last (i + 1)) l)

  at_other : (j : ℕ) → (j ≡ last → ⊥) → (j ≡ i → ⊥) → get_or (links_after links last i) j 0 ≡ get_or links j 0
  at_other j n m = get_or-set_other (set links last (i + 1)) i j (i + 1) 0 m ∙ get_or-set_other links last j (i + 1) 0 n

  pushed : thread (suc (suc k)) (links_after links last i) first ≡ thread (suc k) links first ++ i ∷ []
  pushed = thread_push k links (links_after links last i) first last i w.ends w.distinct (λ j h n. at_other j n (λ q. both_ways (has (thread (suc k) links first) i) (out_of links first last (suc k) i w e) (rw (← q) h))) at_last

  same_length : length (links_after links last i) ≡ length links
  same_length = length-set (set links last (i + 1)) i (i + 1) ∙ length-set links last (i + 1)

  flagged : (j : ℕ) → nat_lt 0 (get_or (links_after links last i) j 0) ≡ has (thread (suc k) links first ++ i ∷ []) j
  flagged j = elim (cases_eq j i) [
    | inl q ↦ rw (q, at_new) (lt-ltb 0 (i + 1) (omega arith) ∙ sym (has_pushed (thread (suc k) links first) i))
    | inr m ↦ elim (cases_eq j last) [
      | inl q ↦ rw (q, at_last) (lt-ltb 0 (i + 1) (omega arith) ∙ sym (has_kept (thread (suc k) links first) i last (last_in links first last k w)))
      | inr n ↦ ap (nat_lt 0) (at_other j n m) ∙ w.flags j ∙ sym (has_other (thread (suc k) links first) i j m)
    ]
  ]

  free_falls : free_count (links_after links last i) + 1 ≡ free_count links
  free_falls =
      let some = in_it links first last (suc k) last w (last_in links first last k w) in
      let still = free-set_still links last i some in
      let none : get_or (set links last (i + 1)) i 0 ≡ 0 = get_or-set_other links last i (i + 1) 0 apart ∙ e in
      free-set_on (set links last (i + 1)) i i (rw (length-set links last (i + 1)) l) none ∙ still

  threaded_push : IsThreaded (links_after links last i) first i (suc (suc k))
  threaded_push = record {
    flags = λ j. flagged j ∙ ap (λ xs. has xs j) (sym pushed);
    distinct = subst AreDistinct (sym pushed) (distinct-push (thread (suc k) links first) i w.distinct (out_of links first last (suc k) i w e));
    below = subst (λ n. AreBelow n (thread (suc (suc k)) (links_after links last i) first)) (sym same_length) (subst (AreBelow (length links)) (sym pushed) (below-push (length links) (thread (suc k) links first) i w.below l));
    ends = subst (λ xs. EndsIn xs i) (sym pushed) (ends-push (thread (suc k) links first) i);
    room = omega (arith, same_length, free_falls, w.room);
    small = rw same_length w.small;
  }

pub threaded_more : (links : List ℕ) (first last c i : ℕ) → 0 < c → IsThreaded links first last c → i < length links → get_or links i 0 ≡ 0 → IsThreaded (links_after links last i) first i (c + 1)
threaded_more links first last zero i p w l e = absurd (omega arith)
threaded_more links first last (suc k) i p w l e = subst (λ n. IsThreaded (links_after links last i) first i n) (sym (add-one (suc k))) (threaded_push links first last k i w l e)

pub thread_more : (links : List ℕ) (first last c i : ℕ) → 0 < c → IsThreaded links first last c → i < length links → get_or links i 0 ≡ 0 → thread (c + 1) (links_after links last i) first ≡ thread c links first ++ i ∷ []
thread_more links first last zero i p w l e = absurd (omega arith)
thread_more links first last (suc k) i p w l e = ap (λ n. thread n (links_after links last i) first) (add-one (suc k)) ∙ pushed links first last k i w l e

-- there is room for a number that doesn't wait
pub room_for : (links : List ℕ) (first last c i : ℕ) → IsThreaded links first last c → i < length links → get_or links i 0 ≡ 0 → c < length links
room_for links first last c i w l e = omega (arith, free-set_on links i i l e, w.room)

length-thread : (k : ℕ) (links : List ℕ) (i : ℕ) → length (thread k links i) ≡ k
length-thread zero links i = refl
length-thread (suc k) links i = ap suc (length-thread k links (get_or links i 0 - 1))

pub thread_fits : (links : List ℕ) (first last c : ℕ) → IsThreaded links first last c → length (thread c links first) ≤ length links
thread_fits links first last c w = omega (arith, length-thread c links first, w.room)

-- ---- the first one is taken

module _ (links : List ℕ) (first last k : ℕ) (w : IsThreaded links first last (suc k)) where
  some_link : 0 < get_or links first 0
  some_link = in_it links first last (suc k) first w (has_first first _)

  rest_is : thread k (set links first 0) (get_or links first 0 - 1) ≡ thread k links (get_or links first 0 - 1)
  rest_is = thread_same k links (set links first 0) (get_or links first 0 - 1) (λ j h. get_or-set_other links first j 0 0 (λ q. both_ways (has (thread k links (get_or links first 0 - 1)) first) w.distinct.0 (subst (λ x. has (thread k links (get_or links first 0 - 1)) x ≡ true) q h)))

  ends_later : (n : ℕ) → EndsIn (thread (suc n) links first) last → EndsIn (thread n links (get_or links first 0 - 1)) last
  ends_later zero e = tt
  ends_later (suc n) e = e

  threaded_rest : IsThreaded (set links first 0) (get_or links first 0 - 1) last k
  threaded_rest =
      let same = length-set links first 0 in
      record {
        flags = λ j. elim (cases_eq j first) [
          | inl q ↦ rw (q, get_or-set_same links first 0 0 w.below.0) (sym (ap (λ xs. has xs first) rest_is ∙ w.distinct.0))
          | inr ne ↦ ap (nat_lt 0) (get_or-set_other links first j 0 0 ne) ∙ w.flags j ∙ has_rest first _ j ne ∙ ap (λ xs. has xs j) (sym rest_is)
        ];
        distinct = subst AreDistinct (sym rest_is) w.distinct.1;
        below = subst (λ n. AreBelow n (thread k (set links first 0) (get_or links first 0 - 1))) (sym same) (subst (AreBelow (length links)) (sym rest_is) w.below.1);
        ends = subst (λ xs. EndsIn xs last) (sym rest_is) (ends_later k w.ends);
        room = omega (arith, same, free-set_off links first some_link, w.room);
        small = rw same w.small;
      }

pub first_below : (links : List ℕ) (first last c : ℕ) → 0 < c → IsThreaded links first last c → first < length links
first_below links first last zero l w = absurd (omega arith)
first_below links first last (suc k) l w = w.below.0

pub first_link : (links : List ℕ) (first last c : ℕ) → 0 < c → IsThreaded links first last c → 0 < get_or links first 0
first_link links first last zero l w = absurd (omega arith)
first_link links first last (suc k) l w = some_link links first last k w

pub threaded_less : (links : List ℕ) (first last c : ℕ) → 0 < c → IsThreaded links first last c → IsThreaded (set links first 0) (get_or links first 0 - 1) last (c - 1)
threaded_less links first last zero l w = absurd (omega arith)
threaded_less links first last (suc k) l w = let same : suc k - 1 ≡ k = omega arith in rw same (threaded_rest links first last k w)

pub thread_less : (links : List ℕ) (first last c : ℕ) → 0 < c → IsThreaded links first last c → thread c links first ≡ first ∷ thread (c - 1) (set links first 0) (get_or links first 0 - 1)
thread_less links first last zero l w = absurd (omega arith)
thread_less links first last (suc k) l w = let same : suc k - 1 ≡ k = omega arith in rw same (ap (λ xs. first ∷ xs) (sym (rest_is links first last k w)))

-- the first one is gone
pub first_gone : (links : List ℕ) (first last c : ℕ) → 0 < c → IsThreaded links first last c → has (thread (c - 1) (set links first 0) (get_or links first 0 - 1)) first ≡ false
first_gone links first last zero l w = absurd (omega arith)
first_gone links first last (suc k) l w = let same : suc k - 1 ≡ k = omega arith in rw same (ap (λ xs. has xs first) (rest_is links first last k w) ∙ w.distinct.0)

-- what the first one's going leaves
pub kept_or_first : (links : List ℕ) (first last c : ℕ) → 0 < c → IsThreaded links first last c → (j : ℕ) → has (thread c links first) j ≡ true → (j ≡ first) ⊎ (has (thread (c - 1) (set links first 0) (get_or links first 0 - 1)) j ≡ true)
kept_or_first links first last c l w j h = has_cases first _ j (sym (ap (λ xs. has xs j) (thread_less links first last c l w)) ∙ h)
