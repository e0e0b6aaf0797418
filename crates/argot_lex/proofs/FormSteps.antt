-- What may follow a byte in a form: the forms of what is left.
use Rattle.std.proofs.Common.{◌≡◌, ℕ, List, [], ◌∷◌, ◌++◌, Bool, true, false, refl, sym, ap, ◌∙◌, subst, inl, inr, ⊎_elim}
use Rattle.std.specs.Prelude.{◌||◌, ◌&&◌, ◌⊎◌, if◌then◌else◌}
use Rattle.std.specs.List.{list_any}
use Rattle.std.specs.Str.{bytes_eq}
use Rattle.std.proofs.lemmas.Bool.{cond_both, and_parts, and_from, or_cases, or_left, or_right, false≢true}
use Rattle.std.proofs.lemmas.Slice.Eq.{bytes_eq-Decides}
use Rattle.argot_tree.specs.Forms.{Form, Nothing, OneOf, Either, Then, Many, has, Repeats, none, more, Matches}

-- no byte has the form
abbrev pub nullable : Form → Bool
nullable Nothing = true
nullable (OneOf some) = false
nullable (Either f g) = nullable f || nullable g
nullable (Then f g) = nullable f && nullable g
nullable (Many f) = true

abbrev pub behind : Form → Form → Form
behind Nothing g = g
behind (OneOf some) g = Then (OneOf some) g
behind (Either f f') g = Then (Either f f') g
behind (Then f f') g = Then (Then f f') g
behind (Many f) g = Then (Many f) g

abbrev pub each : Form → List Form → List Form
each g [] = []
each g (f ∷ fs) = behind f g ∷ each g fs

-- the forms of what is left behind a byte
abbrev pub left : ℕ → Form → List Form
left b Nothing = []
left b (OneOf some) = if has some b then Nothing ∷ [] else []
left b (Either f g) = left b f ++ left b g
left b (Then f g) = each g (left b f) ++ (if nullable f then left b g else [])
left b (Many f) = each (Many f) (left b f)

abbrev pub left_all : ℕ → List Form → List Form
left_all b [] = []
left_all b (f ∷ fs) = left b f ++ left_all b fs

-- the bytes have one of the forms
abbrev pub AnyOf : List Form → List ℕ → Type 0
AnyOf [] u = ⊥
AnyOf (f ∷ fs) u = Matches f u ⊎ AnyOf fs u

any_left : (fs gs : List Form) (u : List ℕ) → AnyOf fs u → AnyOf (fs ++ gs) u
any_left [] gs u h = absurd h
any_left (f ∷ fs) gs u h = ⊎_elim (λ m. inl m) (λ a. inr (any_left fs gs u a)) h

any_right : (fs gs : List Form) (u : List ℕ) → AnyOf gs u → AnyOf (fs ++ gs) u
any_right [] gs u h = h
any_right (f ∷ fs) gs u h = inr (any_right fs gs u h)

any_cases : (fs gs : List Form) (u : List ℕ) → AnyOf (fs ++ gs) u → AnyOf fs u ⊎ AnyOf gs u
any_cases [] gs u h = inr h
any_cases (f ∷ fs) gs u h = ⊎_elim (λ m. inl (inl m)) (λ a. ⊎_elim (λ x. inl (inr x)) (λ y. inr y) (any_cases fs gs u a)) h

-- one form behind another, and behind nothing
behind_is : (f g : Form) (u : List ℕ) → Matches (behind f g) u → Matches (Then f g) u
behind_is Nothing g u h = ([], u, refl, refl, h)
behind_is (OneOf some) g u h = h
behind_is (Either f f') g u h = h
behind_is (Then f f') g u h = h
behind_is (Many f) g u h = h

behind_from : (f g : Form) (v w : List ℕ) → Matches f v → Matches g w → Matches (behind f g) (v ++ w)
behind_from Nothing g v w h k = subst (λ l. Matches g (l ++ w)) (sym h) k
behind_from (OneOf some) g v w h k = (v, w, refl, h, k)
behind_from (Either f f') g v w h k = (v, w, refl, h, k)
behind_from (Then f f') g v w h k = (v, w, refl, h, k)
behind_from (Many f) g v w h k = (v, w, refl, h, k)

-- the parts of what has one of some forms and another behind it
record Parts (fs : List Form) (g : Form) (u : List ℕ) : Type 0 where
  front : List ℕ
  back : List ℕ
  are : u ≡ front ++ back
  first : AnyOf fs front
  second : Matches g back

each_is : (g : Form) (fs : List Form) (u : List ℕ) → AnyOf (each g fs) u → Parts fs g u
each_is g [] u h = absurd h
each_is g (f ∷ fs) u h =
    ⊎_elim
    (λ m. let t = behind_is f g u m in record { front = t.0; back = t.1; are = t.2; first = inl t.3; second = t.4 })
    (λ a. let p = each_is g fs u a in record { front = p.front; back = p.back; are = p.are; first = inr p.first; second = p.second })
    h

each_from : (g : Form) (fs : List Form) (v w : List ℕ) → AnyOf fs v → Matches g w → AnyOf (each g fs) (v ++ w)
each_from g [] v w h k = absurd h
each_from g (f ∷ fs) v w h k =
    ⊎_elim (λ m. inl (behind_from f g v w m k)) (λ a. inr (each_from g fs v w a k)) h

pub nullable_is : (f : Form) → nullable f ≡ true → Matches f []
nullable_is Nothing h = refl
nullable_is (OneOf some) h = absurd (false≢true h)
nullable_is (Either f g) h = ⊎_elim (λ a. inl (nullable_is f a)) (λ b. inr (nullable_is g b)) (or_cases (nullable f) (nullable g) h)
nullable_is (Then f g) h = let p = and_parts (nullable f) (nullable g) h in ([], [], refl, nullable_is f p.0, nullable_is g p.1)
nullable_is (Many f) h = none

-- nothing is made of nothing and nothing
empties : (v w : List ℕ) → [] ≡ v ++ w → (v ≡ []) × (w ≡ [])
empties [] w e = (refl, sym e)
empties (x ∷ v) w e = absurd (cc)

pub nullable_from : (f : Form) (u : List ℕ) → u ≡ [] → Matches f u → nullable f ≡ true
nullable_from Nothing u e h = refl
nullable_from (OneOf some) u e h = absurd (cc (e, h.1))
nullable_from (Either f g) u e h =
    ⊎_elim (λ a. or_left (nullable f) (nullable g) (nullable_from f u e a)) (λ b. or_right (nullable f) (nullable g) (nullable_from g u e b)) h
nullable_from (Then f g) u e h =
    let parts = empties h.0 h.1 (sym e ∙ h.2) in
    and_from (nullable f) (nullable g) (nullable_from f h.0 parts.0 h.3) (nullable_from g h.1 parts.1 h.4)
nullable_from (Many f) u e h = refl

-- what has a form of what is left has the form with the byte
pub left_is : (b : ℕ) (f : Form) (u : List ℕ) → AnyOf (left b f) u → Matches f (b ∷ u)
left_is b Nothing u = λ h. absurd h
left_is b (OneOf some) u =
    cond_both (has some b) (Nothing ∷ []) [] (λ fs. AnyOf fs u → Matches (OneOf some) (b ∷ u))
    (λ e h. ⊎_elim (λ nil. (b, ap (λ l. b ∷ l) nil, e)) (λ a. absurd a) h)
    (λ _ h. absurd h)
left_is b (Either f g) u = λ h. ⊎_elim (λ a. inl (left_is b f u a)) (λ c. inr (left_is b g u c)) (any_cases (left b f) (left b g) u h)
left_is b (Then f g) u = λ h.
    ⊎_elim
    (λ a. let p = each_is g (left b f) u a in (b ∷ p.front, p.back, ap (λ l. b ∷ l) p.are, left_is b f p.front p.first, p.second))
    (λ c. cond_both (nullable f) (left b g) [] (λ fs. AnyOf fs u → Matches (Then f g) (b ∷ u)) (λ e k. ([], b ∷ u, refl, nullable_is f e, left_is b g u k)) (λ _ k. absurd k) c)
    (any_cases (each g (left b f)) (if nullable f then left b g else []) u h)
left_is b (Many f) u = λ h.
    let p = each_is (Many f) (left b f) u h in
    more (b ∷ p.front) p.back (ap (λ l. b ∷ l) p.are) (left_is b f p.front p.first) p.second

heads : (b : ℕ) (u : List ℕ) (c : ℕ) (v : List ℕ) → b ∷ u ≡ c ∷ v → (b ≡ c) × (u ≡ v)
heads b u c v e = (cc, cc)

-- the parts of what begins with a byte
begins_parts : (b : ℕ) (f : Form) (P : List ℕ → Type 0) (u v w : List ℕ) → b ∷ u ≡ v ++ w → Matches f v → P w
    → ((v' : List ℕ) × (u ≡ v' ++ w) × Matches f (b ∷ v')) ⊎ ((v ≡ []) × P (b ∷ u))
begins_parts b f P u [] w e h k = inr (refl, subst P (sym e) k)
begins_parts b f P u (c ∷ v) w e h k =
    let t = heads b u c (v ++ w) e in inl (v, t.1, subst (λ x. Matches f (x ∷ v)) (sym t.0) h)

many_from : (b : ℕ) (f : Form) → ((v : List ℕ) → Matches f (b ∷ v) → AnyOf (left b f) v) → (u w : List ℕ) → b ∷ u ≡ w → Repeats (Matches f) w → AnyOf (each (Many f) (left b f)) u
many_from b f ih u w e none = absurd (cc)
many_from b f ih u w e (more [] rest are first others) = many_from b f ih u rest (e ∙ are) others
many_from b f ih u w e (more (c ∷ v) rest are first others) =
    let t = heads b u c (v ++ rest) (e ∙ are) in
    subst (AnyOf (each (Many f) (left b f))) (sym t.1) (each_from (Many f) (left b f) v rest (ih v (subst (λ x. Matches f (x ∷ v)) (sym t.0) first)) others)

-- and the other way round
pub left_from : (b : ℕ) (f : Form) (u : List ℕ) → Matches f (b ∷ u) → AnyOf (left b f) u
left_from b Nothing u h = absurd (cc)
left_from b (OneOf some) u h =
    let t = heads b u h.0 [] h.1 in
    let is : has some b ≡ true = subst (λ c. has some c ≡ true) (sym t.0) h.2 in
    rw is (inl t.1)
left_from b (Either f g) u h =
    ⊎_elim (λ m. any_left (left b f) (left b g) u (left_from b f u m)) (λ m. any_right (left b f) (left b g) u (left_from b g u m)) h
left_from b (Then f g) u h =
    ⊎_elim
    (λ t. any_left (each g (left b f)) (if nullable f then left b g else []) u
    (subst (AnyOf (each g (left b f))) (sym t.1) (each_from g (left b f) t.0 h.1 (left_from b f t.0 t.2) h.4)))
    (λ t. any_right (each g (left b f)) (if nullable f then left b g else []) u
    (let is : nullable f ≡ true = nullable_from f h.0 t.0 h.3 in rw is (left_from b g u t.1)))
    (begins_parts b f (Matches g) u h.0 h.1 h.2 h.3 h.4)
left_from b (Many f) u h = many_from b f (left_from b f) u (b ∷ u) refl h

-- the same of several forms
pub left_all_is : (b : ℕ) (fs : List Form) (u : List ℕ) → AnyOf (left_all b fs) u → AnyOf fs (b ∷ u)
left_all_is b [] u h = absurd h
left_all_is b (f ∷ fs) u h =
    ⊎_elim (λ a. inl (left_is b f u a)) (λ a. inr (left_all_is b fs u a)) (any_cases (left b f) (left_all b fs) u h)

pub left_all_from : (b : ℕ) (fs : List Form) (u : List ℕ) → AnyOf fs (b ∷ u) → AnyOf (left_all b fs) u
left_all_from b [] u h = absurd h
left_all_from b (f ∷ fs) u h =
    ⊎_elim (λ m. any_left (left b f) (left_all b fs) u (left_from b f u m)) (λ a. any_right (left b f) (left_all b fs) u (left_all_from b fs u a)) h

pub any_nullable : (fs : List Form) → list_any nullable fs ≡ true → AnyOf fs []
any_nullable [] h = absurd (false≢true h)
any_nullable (f ∷ fs) h = ⊎_elim (λ a. inl (nullable_is f a)) (λ b. inr (any_nullable fs b)) (or_cases (nullable f) (list_any nullable fs) h)

pub nullable_any : (fs : List Form) → AnyOf fs [] → list_any nullable fs ≡ true
nullable_any [] h = absurd h
nullable_any (f ∷ fs) h =
    ⊎_elim (λ m. or_left (nullable f) (list_any nullable fs) (nullable_from f [] refl m)) (λ a. or_right (nullable f) (list_any nullable fs) (nullable_any fs a)) h

-- two forms are one
abbrev pub same_form : Form → Form → Bool
same_form Nothing Nothing = true
same_form (OneOf a) (OneOf b) = bytes_eq a b
same_form (Either f g) (Either f' g') = same_form f f' && same_form g g'
same_form (Then f g) (Then f' g') = same_form f f' && same_form g g'
same_form (Many f) (Many f') = same_form f f'
same_form _ _ = false

same_form_is : (f g : Form) → same_form f g ≡ true → f ≡ g
same_form_is Nothing Nothing h = refl
same_form_is (OneOf a) (OneOf b) h = ap (λ l. OneOf l) ((bytes_eq-Decides a b).0 h)
same_form_is (Either f g) (Either f' g') h =
    let p = and_parts (same_form f f') (same_form g g') h in (λ i. Either (same_form_is f f' p.0 i) (same_form_is g g' p.1 i))
same_form_is (Then f g) (Then f' g') h =
    let p = and_parts (same_form f f') (same_form g g') h in (λ i. Then (same_form_is f f' p.0 i) (same_form_is g g' p.1 i))
same_form_is (Many f) (Many f') h = ap (λ x. Many x) (same_form_is f f' h)
same_form_is _ _ h = absurd (false≢true h)

-- each of some forms is among others
abbrev pub all_among : List Form → List Form → Bool
all_among [] gs = true
all_among (f ∷ fs) gs = list_any (same_form f) gs && all_among fs gs

among_is : (f : Form) (gs : List Form) (u : List ℕ) → list_any (same_form f) gs ≡ true → Matches f u → AnyOf gs u
among_is f [] u h m = absurd (false≢true h)
among_is f (g ∷ gs) u h m =
    ⊎_elim (λ a. inl (subst (λ x. Matches x u) (same_form_is f g a) m)) (λ b. inr (among_is f gs u b m)) (or_cases (same_form f g) (list_any (same_form f) gs) h)

pub all_among_is : (fs gs : List Form) (u : List ℕ) → all_among fs gs ≡ true → AnyOf fs u → AnyOf gs u
all_among_is [] gs u h a = absurd a
all_among_is (f ∷ fs) gs u h a =
    let p = and_parts (list_any (same_form f) gs) (all_among fs gs) h in
    ⊎_elim (λ m. among_is f gs u p.0 m) (λ b. all_among_is fs gs u p.1 b) a

-- the lists of a form's bytes see a byte as they see another
abbrev pub sees_same : ℕ → ℕ → Form → Type 0
sees_same b c Nothing = Unit {0}
sees_same b c (OneOf some) = has some b ≡ has some c
sees_same b c (Either f g) = sees_same b c f × sees_same b c g
sees_same b c (Then f g) = sees_same b c f × sees_same b c g
sees_same b c (Many f) = sees_same b c f

pub left_same : (b c : ℕ) (f : Form) → sees_same b c f → left b f ≡ left c f
left_same b c Nothing h = refl
left_same b c (OneOf some) h = ap (λ t. if t then Nothing ∷ [] else []) h
left_same b c (Either f g) h = λ i. left_same b c f h.0 i ++ left_same b c g h.1 i
left_same b c (Then f g) h = λ i. each g (left_same b c f h.0 i) ++ (if nullable f then left_same b c g h.1 i else [])
left_same b c (Many f) h = λ i. each (Many f) (left_same b c f h i)
