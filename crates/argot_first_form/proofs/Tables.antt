-- Tables of names.
use Rattle.std.proofs.Common.{◌≡◌, ℕ, zero, suc, ◌+◌, ◌-◌, ◌<◌, ◌≤◌, List, [], ◌∷◌, Option, Some, None, Bool, true, false, not, ◌&&◌, ◌||◌, length, take, drop, get_or, refl, sym, ap, ◌∙◌, subst, arith, add-one, add-zero, zero-add, is_some, nat_lt, cond}
use Rattle.std.specs.Prelude.{slice_get, unwrap_or, if◌then◌else◌}
use Rattle.std.specs.List.{list_any, position_or_len}
use Rattle.std.specs.HashMap.{HashMap}
use Rattle.std.specs.Str.{bytes_eq}
use Rattle.std.proofs.Math.Seq.{drop-cons}
use Rattle.std.proofs.lemmas.Bool.Decides.{nat_tests}
use Rattle.std.proofs.lemmas.List.{length-take-le}
use denote.Ref.{Bor}
use Rattle.argot_first_form.specs.declared.steps.Step.{Step}
use Rattle.argot_first_form.specs.declared.functions.Function.{Function}
use Rattle.argot_first_form.specs.Form.{among, distinct, names_of, declared, declared_by, named}
use Rattle.argot_first_form.proofs.Checking.{declared_more}
use Rattle.std.proofs.lemmas.List.Folds.{find_at}
use Rattle.argot_first_form.specs.Names.{place, number_at, HasFunctions, HasSteps, HasNames, is_below, Sees}

any-by : (b : Bool) (i : ℕ) (o : Option ℕ) (more : Bool) → is_some o ≡ more → is_some (if b then Some i else o) ≡ (b || more)
any-by true i o more h = refl
any-by false i o more h = h

-- a place is there where one passes
pub place-any : {A : Type 0} (p : A → Bool) (i : ℕ) (xs : List A) → is_some (place p i xs) ≡ list_any p xs
place-any p i [] = refl
place-any p i (x ∷ xs) = any-by (p x) i (place p (i + 1) xs) (list_any p xs) (place-any p (i + 1) xs)

pub names-any : (q : List ℕ) (fs : List Function) → list_any (λ f. bytes_eq f.name q) fs ≡ among (names_of fs) q
names-any q [] = refl
names-any q (f ∷ fs) = ap (λ b. bytes_eq f.name q || b) (names-any q fs)

twice : (ns : List (List ℕ)) (n : List ℕ) → among ns n ≡ true → distinct (n ∷ ns) ≡ false
twice ns n h = ap (λ b. not b && distinct ns) h

once : (ns : List (List ℕ)) (n : List ℕ) → among ns n ≡ false → distinct ns ≡ true → distinct (n ∷ ns) ≡ true
once ns n h k = ap (λ b. not b && distinct ns) h ∙ k

and-false : (a b : Bool) → b ≡ false → (a && b) ≡ false
and-false true b h = h
and-false false b h = refl

-- what stands twice behind a place stands twice
pub suffix : (ns : List (List ℕ)) (i : ℕ) → distinct (drop i ns) ≡ false → distinct ns ≡ false
suffix ns zero h = h
suffix [] (suc i) h = h
suffix (n ∷ ns) (suc i) h = and-false (not (among ns n)) (distinct ns) (suffix ns i h)

pub names-drop : (fs : List Function) (i : ℕ) → names_of (drop i fs) ≡ drop i (names_of fs)
names-drop fs zero = refl
names-drop [] (suc i) = refl
names-drop (f ∷ fs) (suc i) = names-drop fs i

-- one name more, in front
module _ (all : List (List ℕ)) (d : List ℕ) where
  pub names-once : (i : ℕ) → 0 < i → i ≤ length all → among (drop i all) (get_or all (i - 1) d) ≡ false → distinct (drop i all) ≡ true → distinct (drop (i - 1) all) ≡ true
  names-once zero p w h k = absurd (omega arith)
  names-once (suc j) p w h k =
      let e : suc j - 1 ≡ j = omega arith in
      let h2 : among (drop (suc j) all) (get_or all j d) ≡ false = subst (λ x. among (drop (suc j) all) (get_or all x d) ≡ false) e h in
      subst (λ x. distinct (drop x all) ≡ true) (sym e) (rw (drop-cons all j d) (once (drop (suc j) all) (get_or all j d) h2 k))

  pub names-twice : (i : ℕ) → 0 < i → i ≤ length all → among (drop i all) (get_or all (i - 1) d) ≡ true → distinct all ≡ false
  names-twice zero p w h = absurd (omega arith)
  names-twice (suc j) p w h =
      let e : suc j - 1 ≡ j = omega arith in
      let h2 : among (drop (suc j) all) (get_or all j d) ≡ true = subst (λ x. among (drop (suc j) all) (get_or all x d) ≡ true) e h in
      suffix all j (rw (drop-cons all j d) (twice (drop (suc j) all) (get_or all j d) h2))

  pub names-more : {S : Type 0} (old new : HashMap (Bor (List ℕ)) ℕ S) (i : ℕ) → 0 < i → i ≤ length all → HasNames old i (drop i all) → ((q : List ℕ) → number_at new q ≡ (if bytes_eq (get_or all (i - 1) d) q then Some (i - 1) else number_at old q)) → HasNames new (i - 1) (drop (i - 1) all)
  names-more old new zero p w h n q = absurd (omega arith)
  names-more old new (suc j) p w h n q =
      let e : suc j - 1 ≡ j = omega arith in
      let m : number_at new q ≡ (if bytes_eq (get_or all j d) q then Some j else number_at old q) = subst (λ x. number_at new q ≡ (if bytes_eq (get_or all x d) q then Some x else number_at old q)) e (n q) in
      subst (λ x. number_at new q ≡ place (λ n. bytes_eq n q) x (drop x all)) (sym e) (rw (drop-cons all j d, add-one) (m ∙ ap (λ o. if bytes_eq (get_or all j d) q then Some j else o) (h q)))

module _ (all : List Function) (d : Function) where
  at-name : (j : ℕ) → j < length all → names_of (drop j all) ≡ (get_or all j d).name ∷ names_of (drop (suc j) all)
  at-name j w = ap names_of (drop-cons all j d w)

  pub functions-once : (i : ℕ) → 0 < i → i ≤ length all → among (names_of (drop i all)) (get_or all (i - 1) d).name ≡ false → distinct (names_of (drop i all)) ≡ true → distinct (names_of (drop (i - 1) all)) ≡ true
  functions-once zero p w h k = absurd (omega arith)
  functions-once (suc j) p w h k =
      let e : suc j - 1 ≡ j = omega arith in
      let h2 : among (names_of (drop (suc j) all)) (get_or all j d).name ≡ false = subst (λ x. among (names_of (drop (suc j) all)) (get_or all x d).name ≡ false) e h in
      subst (λ x. distinct (names_of (drop x all)) ≡ true) (sym e) (ap distinct (at-name j (omega arith)) ∙ once (names_of (drop (suc j) all)) (get_or all j d).name h2 k)

  pub functions-twice : (i : ℕ) → 0 < i → i ≤ length all → among (names_of (drop i all)) (get_or all (i - 1) d).name ≡ true → distinct (names_of all) ≡ false
  functions-twice zero p w h = absurd (omega arith)
  functions-twice (suc j) p w h =
      let e : suc j - 1 ≡ j = omega arith in
      let h2 : among (names_of (drop (suc j) all)) (get_or all j d).name ≡ true = subst (λ x. among (names_of (drop (suc j) all)) (get_or all x d).name ≡ true) e h in
      suffix (names_of all) j (ap distinct (sym (names-drop all j) ∙ at-name j (omega arith)) ∙ twice (names_of (drop (suc j) all)) (get_or all j d).name h2)

  pub functions-more : {S : Type 0} (old new : HashMap (Bor (List ℕ)) ℕ S) (i : ℕ) → 0 < i → i ≤ length all → HasFunctions old i (drop i all) → ((q : List ℕ) → number_at new q ≡ (if bytes_eq (get_or all (i - 1) d).name q then Some (i - 1) else number_at old q)) → HasFunctions new (i - 1) (drop (i - 1) all)
  functions-more old new zero p w h n q = absurd (omega arith)
  functions-more old new (suc j) p w h n q =
      let e : suc j - 1 ≡ j = omega arith in
      let m : number_at new q ≡ (if bytes_eq (get_or all j d).name q then Some j else number_at old q) = subst (λ x. number_at new q ≡ (if bytes_eq (get_or all x d).name q then Some x else number_at old q)) e (n q) in
      subst (λ x. number_at new q ≡ place (λ f. bytes_eq f.name q) x (drop x all)) (sym e) (rw (drop-cons all j d, add-one) (m ∙ ap (λ o. if bytes_eq (get_or all j d).name q then Some j else o) (h q)))

position-by : (b : Bool) (k n : ℕ) (o : Option ℕ) (more : ℕ) → unwrap_or o (k + 1 + n) ≡ k + 1 + more → unwrap_or (if b then Some k else o) (k + suc n) ≡ k + cond (not b) (1 + more) 0
position-by true k n o more h = sym (add-zero k)
position-by false k n o more h = let e : k + suc n ≡ k + 1 + n = omega arith in ap (unwrap_or o) e ∙ (h ∙ omega arith)

-- the place, counted from the first number, is the first position that passes, or the end
pub place-position : {A : Type 0} (p : A → Bool) (k : ℕ) (xs : List A) → unwrap_or (place p k xs) (k + length xs) ≡ k + position_or_len p xs
place-position p k [] = refl
place-position p k (x ∷ xs) = position-by (p x) k (length xs) (place p (k + 1) xs) (position_or_len p xs) (place-position p (k + 1) xs)

at-first : {A : Type 0} (p : A → Bool) (xs : List A) (i : ℕ) → place p 0 xs ≡ Some i → i ≡ position_or_len p xs
at-first p xs i h = sym (ap (λ o. unwrap_or o (0 + length xs)) h) ∙ (place-position p 0 xs ∙ zero-add (position_or_len p xs))

at-none : {A : Type 0} (p : A → Bool) (xs : List A) → place p 0 xs ≡ None → length xs ≡ position_or_len p xs
at-none p xs h = sym (zero-add (length xs)) ∙ (sym (ap (λ o. unwrap_or o (0 + length xs)) h) ∙ (place-position p 0 xs ∙ zero-add (position_or_len p xs)))

past-end : {A : Type 0} (xs : List A) (i : ℕ) → length xs ≤ i → slice_get xs i ≡ None
past-end [] i h = refl
past-end (x ∷ xs) zero h = absurd (omega arith)
past-end (x ∷ xs) (suc i) h = past-end xs i (omega arith)

module _ {S : Type 0} (table : HashMap (Bor (List ℕ)) ℕ S) (functions : List Function) (has : HasFunctions table 0 functions) (q : List ℕ) where
  pub known : among (names_of functions) q ≡ is_some (number_at table q)
  known = sym (ap is_some (has q) ∙ (place-any (λ f. bytes_eq f.name q) 0 functions ∙ names-any q functions))

  pub found_there : (i : ℕ) → number_at table q ≡ Some i → slice_get functions i ≡ named functions q
  found_there i h = ap (slice_get functions) (at-first (λ f. bytes_eq f.name q) functions i (sym (has q) ∙ h)) ∙ sym (find_at (λ f. bytes_eq f.name q) functions)

  pub found_nowhere : number_at table q ≡ None → named functions q ≡ None
  found_nowhere h =
      let e = at-none (λ f. bytes_eq f.name q) functions (sym (has q) ∙ h) in
      find_at (λ f. bytes_eq f.name q) functions ∙ past-end functions (position_or_len (λ f. bytes_eq f.name q) functions) (omega arith)

not-less : (k n : ℕ) → n ≤ k → nat_lt k n ≡ false
not-less k n h = less-by (nat_lt k n) refl
  where
    less-by : (b : Bool) → nat_lt k n ≡ b → b ≡ false
    less-by true e = absurd (grind (arith, nat_tests))
    less-by false e = refl

below-by : (b : Bool) (k n : ℕ) (o : Option ℕ) → n ≤ k → is_below o n ≡ false → is_below (if b then Some k else o) n ≡ false
below-by true k n o h r = not-less k n h
below-by false k n o h r = r

-- nothing stands before the first number
none-below : {A : Type 0} (p : A → Bool) (k n : ℕ) (xs : List A) → n ≤ k → is_below (place p k xs) n ≡ false
none-below p k n [] h = refl
none-below p k n (x ∷ xs) h = below-by (p x) k n (place p (k + 1) xs) h (none-below p (k + 1) n xs (omega arith))

below-first : (k i : ℕ) → nat_lt k (k + suc i) ≡ true
below-first k i = first-by (nat_lt k (k + suc i)) refl
  where
    first-by : (b : Bool) → nat_lt k (k + suc i) ≡ b → b ≡ true
    first-by true e = refl
    first-by false e = absurd (grind (arith, nat_tests))

seen-by : (b : Bool) (k i : ℕ) (o : Option ℕ) (more : Bool) → more ≡ is_below o (k + suc i) → (b || more) ≡ is_below (if b then Some k else o) (k + suc i)
seen-by true k i o more h = sym (below-first k i)
seen-by false k i o more h = h

seen : (q : List ℕ) (k i : ℕ) (ss : List Step) → i ≤ length ss → among (declared (take i ss)) q ≡ is_below (place (λ s. among (declared_by s.action) q) k ss) (k + i)
seen q k zero ss h = sym (none-below (λ (s : Step). among (declared_by s.action) q) k (k + 0) ss (omega arith))
seen q k (suc i) [] h = absurd (omega arith)
seen q k (suc i) (s ∷ ss) h =
    let e : k + 1 + i ≡ k + suc i = omega arith in
    declared_more s (take i ss) q ∙ seen-by (among (declared_by s.action) q) k i (place (λ s. among (declared_by s.action) q) (k + 1) ss) (among (declared (take i ss)) q) (seen q (k + 1) i ss (omega arith) ∙ ap (is_below (place (λ s. among (declared_by s.action) q) (k + 1) ss)) e)

-- the table of all steps tells what the first ones declare
pub sees : {S : Type 0} (table : HashMap (Bor (List ℕ)) ℕ S) (steps : List Step) (i : ℕ) → i ≤ length steps → HasSteps table 0 steps → Sees table (take i steps)
sees table steps i w has q =
    let n : length (take i steps) ≡ i = length-take-le i steps w in
    seen q 0 i steps w ∙ (ap (λ o. is_below o (0 + i)) (sym (has q)) ∙ ap (is_below (number_at table q)) (zero-add i ∙ sym n))
