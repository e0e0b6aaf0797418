-- What the pieces of reading say: a fixed text, a name, a text in quotes.
use Rattle.std.proofs.Common.{◌≡◌, ℕ, ◌+◌, List, [], ◌∷◌, ◌++◌, Option, Some, None, Bool, true, false, cond, ◌&&◌, length, take, drop, refl, sym, ap, ◌∙◌, arith, if◌then◌else◌, ◌⊎◌, inl, inr}
use Rattle.std.specs.List.{prefix_len, list_all}
use Rattle.std.specs.Char.{is_ascii_alphanumeric}
use Rattle.std.proofs.Math.Seq.{take-append_seam, drop-append_seam}
use Rattle.std.proofs.lemmas.List.{take-append-drop}
use Rattle.std.proofs.lemmas.List.Folds.{length-prefix_len}
use Rattle.std.proofs.Math.Numerals.{one-add}
use Rattle.std.proofs.lemmas.Slice.Eq.{starts_is}
use Rattle.std.proofs.lemmas.Bool.Decides.{Decides-eqb}
use Rattle.argot_first_form.specs.Bytes.{is_name, is_quotable, is_word, begins_with_letter}
use Rattle.argot_first_form.specs.Words.{IsName, IsQuotable}
use Rattle.argot_first_form.specs.declared.steps.Step.{Step}
use Rattle.argot_first_form.specs.Front.{Front}
use Rattle.argot_first_form.specs.Reading.{◌>>=◌, begins, behind, past, name, quoted, quotable_of, word_of}

abbrev pub front : ℕ → List ℕ → List Step → Front
front total rest steps = record { total = total; rest = rest; steps = steps }

-- what went on, went on from something
pub bind-some : {A B : Type 0} (o : Option A) (k : A → Option B) (y : B) → (o >>= k) ≡ Some y → (x : A) × (o ≡ Some x) × (k x ≡ Some y)
bind-some None k y h = absurd (cc h)
bind-some (Some x) k y h = (x, refl, h)

pub if-cases : {A : Type 0} (b : Bool) (x y r : A) → (if b then x else y) ≡ r → ((b ≡ true) × (x ≡ r)) ⊎ ((b ≡ false) × (y ≡ r))
if-cases true x y r h = inl (refl, h)
if-cases false x y r h = inr (refl, h)

-- a test that was passed
pub if-some : {A : Type 0} (b : Bool) (x y : A) → (if b then Some x else None) ≡ Some y → (b ≡ true) × (x ≡ y)
if-some true x y h = (refl, cc h)
if-some false x y h = absurd (cc h)

pub and-left : (a b : Bool) → (a && b) ≡ true → a ≡ true
and-left true b h = refl
and-left false b h = h

pub and-right : (a b : Bool) → (a && b) ≡ true → b ≡ true
and-right true b h = h
and-right false b h = absurd (cc h)

pub begins-sound : (t : List ℕ) (f : Front) → begins t f ≡ true → f.rest ≡ t ++ drop (length t) f.rest
begins-sound t f h = (starts_is Decides-eqb f.rest t (begins t f) refl).0 h

pub begins-exact : (t : List ℕ) (f : Front) (r : List ℕ) → f.rest ≡ t ++ r → begins t f ≡ true
begins-exact t f r h = (starts_is Decides-eqb f.rest t (begins t f) refl).1 r h

pub past-sound : (t : List ℕ) (f g : Front) → past t f ≡ Some g → f.rest ≡ t ++ g.rest
past-sound t f g h =
    let p = if-some (begins t f) (behind (length t) f) g h in
    let e : drop (length t) f.rest ≡ g.rest = ap (λ x. x.rest) p.1 in
    begins-sound t f p.0 ∙ ap (λ r. t ++ r) e

pub past-exact : (total : ℕ) (t r : List ℕ) (steps : List Step) → past t (front total (t ++ r) steps) ≡ Some (front total r steps)
past-exact total t r steps =
    rw (begins-exact t (front total (t ++ r) steps) r refl)
    (ap (λ x. Some (front total x steps)) (drop-append_seam t r))

pub prefix_len-all : (p : ℕ → Bool) (xs r : List ℕ) → list_all p xs ≡ true → prefix_len p r ≡ 0 → prefix_len p (xs ++ r) ≡ length xs
prefix_len-all p [] r h z = z
prefix_len-all p (x ∷ xs) r h z =
    let a = and-left (p x) (list_all p xs) h in
    rw a (omega (arith, prefix_len-all p xs r (and-right (p x) (list_all p xs) h) z))

pub word_of_name : (n : List ℕ) → IsName n → is_word n ≡ true
unfolding is_name
word_of_name n h = and-left _ _ h

pub name-alphanumeric : (n : List ℕ) → IsName n → list_all is_ascii_alphanumeric n ≡ true
name-alphanumeric n h = and-right (begins_with_letter n) _ (word_of_name n h)

pub name-letter : (n : List ℕ) → IsName n → begins_with_letter n ≡ true
name-letter n h = and-left _ _ (word_of_name n h)

pub name-exact : (total : ℕ) (n r : List ℕ) (steps : List Step) → IsName n → prefix_len is_ascii_alphanumeric r ≡ 0 → name (front total (n ++ r) steps) ≡ Some (n, front total r steps)
unfolding name
name-exact total n r steps h z =
    let e : word_of (front total (n ++ r) steps) ≡ n = rw (prefix_len-all is_ascii_alphanumeric n r (name-alphanumeric n h) z) (take-append_seam n r) in
    rw (e, h) (ap (λ x. Some (n, front total x steps)) (drop-append_seam n r))

-- the front that passes, and what is left behind it
pub passing-split : (p : ℕ → Bool) (xs : List ℕ) → xs ≡ take (prefix_len p xs) xs ++ drop (length (take (prefix_len p xs) xs)) xs
passing-split p xs = rw (length-prefix_len p xs) (sym (take-append-drop (prefix_len p xs) xs))

passing-by : (p : ℕ → Bool) (b : Bool) (x : ℕ) (xs : List ℕ) → p x ≡ b → list_all p (take (prefix_len p xs) xs) ≡ true → list_all p (take (cond b (1 + prefix_len p xs) 0) (x ∷ xs)) ≡ true
passing-by p true x xs e h = rw (one-add, e) h
passing-by p false x xs e h = refl

pub passing-all : (p : ℕ → Bool) (xs : List ℕ) → list_all p (take (prefix_len p xs) xs) ≡ true
passing-all p [] = refl
passing-all p (x ∷ xs) = passing-by p (p x) x xs refl (passing-all p xs)

pub name-sound : (f g : Front) (n : List ℕ) → name f ≡ Some (n, g) → IsName n × (f.rest ≡ n ++ g.rest)
unfolding name
name-sound f g n h =
    let p = if-some (is_name (word_of f)) (word_of f, behind (length (word_of f)) f) (n, g) h in
    let e : word_of f ≡ n = ap (λ x. x.0) p.1 in
    let r : drop (length (word_of f)) f.rest ≡ g.rest = ap (λ x. x.1.rest) p.1 in
    (ap is_name (sym e) ∙ p.0, passing-split is_ascii_alphanumeric f.rest ∙ (ap (λ x. word_of f ++ x) r ∙ ap (λ x. x ++ g.rest) e))

pub quoted-exact : (total : ℕ) (t r : List ℕ) (steps : List Step) → IsQuotable t → quoted (front total (34 ∷ (t ++ (34 ∷ r))) steps) ≡ Some (front total r steps)
unfolding quoted
quoted-exact total t r steps h =
    let e : quotable_of (front total (t ++ (34 ∷ r)) steps) ≡ t = rw (prefix_len-all is_quotable t (34 ∷ r) h refl) (take-append_seam t (34 ∷ r)) in
    let d : behind (length (quotable_of (front total (t ++ (34 ∷ r)) steps))) (front total (t ++ (34 ∷ r)) steps) ≡ front total (34 ∷ r) steps = rw e (ap (λ x. front total x steps) (drop-append_seam t (34 ∷ r))) in
    ap (past (34 ∷ [])) d

pub quoted-sound : (f g : Front) → quoted f ≡ Some g → (t : List ℕ) × IsQuotable t × (f.rest ≡ 34 ∷ (t ++ (34 ∷ g.rest)))
unfolding quoted
quoted-sound f g h =
    let p = bind-some (past (34 ∷ []) f) (λ m. past (34 ∷ []) (behind (length (quotable_of m)) m)) g h in
    let first = past-sound (34 ∷ []) f p.0 p.1 in
    let last = past-sound (34 ∷ []) (behind (length (quotable_of p.0)) p.0) g p.2 in
    (quotable_of p.0, passing-all is_quotable p.0.rest, first ∙ ap (λ x. 34 ∷ x) (passing-split is_quotable p.0.rest ∙ ap (λ x. quotable_of p.0 ++ x) last))
