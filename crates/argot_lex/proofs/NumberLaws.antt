-- The number that the automaton finds is the longest.
use Rattle.std.proofs.Common.{◌≡◌, ℕ, suc, ◌+◌, ◌<◌, ◌≤◌, List, [], ◌∷◌, ◌++◌, length, take, Bool, true, false, Option, Some, None, refl, sym, ap, ◌∙◌, subst, inl, inr, ⊎_elim, arith}
use Rattle.std.specs.Prelude.{◌||◌, ◌==◌, ◌⊎◌, is_some}
use Rattle.std.specs.Char.{is_ascii_digit}
use Rattle.std.specs.List.{list_any}
use Rattle.std.proofs.lemmas.Bool.{and_parts, or_cases, false≢true, eqb-true, agree_below_at, cases_lt}
use Rattle.argot_tree.specs.declared.token.TokenKind.{TokenKind}
use Rattle.argot_tree.specs.declared.token.TokenKind.TheVariants as kinds
use Rattle.argot_tree.specs.Forms.{Form, Matches}
use Rattle.argot_lex.specs.declared.numbers.State.{State}
use Rattle.argot_lex.specs.declared.numbers.State.TheVariants as states
use Rattle.argot_lex.specs.Numbers.{sort_of, next, accepted, improved_by, improved, scan_by, scan, number_front}
use Rattle.argot_lex.proofs.FormSteps.{nullable, left_all, AnyOf, left_all_is, left_all_from, any_nullable, nullable_any, all_among, all_among_is}
use Rattle.argot_lex.proofs.Automaton.{NumberKind, IsWhole, IsFloating, IsImaginary, form_of, kind_of, example, rest_of, leads_ok, stepped, is_kind, beq_ok, accept_same, left_example, high_sort}

-- the number that all the bytes are, from a state on
abbrev accepts_by : Option State → (State → Option TokenKind) → Option TokenKind
accepts_by None go = None
accepts_by (Some to) go = go to

abbrev accepts : State → List ℕ → Option TokenKind
accepts state [] = accepted state
accepts state (b ∷ bs) = accepts_by (next state (sort_of b)) (λ to. accepts to bs)

beq_is : (a b : Bool) → beq_ok a b ≡ true → a ≡ b
beq_is true b h = sym h
beq_is false true h = h
beq_is false false h = refl

kind_is : (k : NumberKind) (t : TokenKind) → is_kind k (Some t) ≡ true → t ≡ kind_of k
kind_is IsWhole kinds.Whole h = refl
kind_is IsFloating kinds.Float h = refl
kind_is IsImaginary kinds.Imaginary h = refl
kind_is _ _ h = absurd (false≢true h)

accepted_is : (k : NumberKind) (o : Option TokenKind) → is_kind k o ≡ true → o ≡ Some (kind_of k)
accepted_is k None h = absurd (false≢true h)
accepted_is k (Some t) h = ap (λ x. Some x) (kind_is k t h)

own_kind : (k : NumberKind) → is_kind k (Some (kind_of k)) ≡ true
own_kind IsWhole = refl
own_kind IsFloating = refl
own_kind IsImaginary = refl

nothing_left : (k : NumberKind) (state : State) → list_any nullable (rest_of k state) ≡ is_kind k (accepted state)
nothing_left k state = beq_is (list_any nullable (rest_of k state)) (is_kind k (accepted state)) (accept_same k state)

-- one step of what is left
goes : (k : NumberKind) (fs : List Form) (o : Option State) (u : List ℕ) → leads_ok k fs o ≡ true → AnyOf fs u → (to : State) × (o ≡ Some to) × AnyOf (rest_of k to) u
goes k fs None u h a = absurd (all_among_is fs [] u h a)
goes k fs (Some to) u h a = (to, refl, all_among_is fs (rest_of k to) u (and_parts (all_among fs (rest_of k to)) (all_among (rest_of k to) fs) h).0 a)

came : (k : NumberKind) (fs : List Form) (o : Option State) (u : List ℕ) (to : State) → leads_ok k fs o ≡ true → o ≡ Some to → AnyOf (rest_of k to) u → AnyOf fs u
came k fs None u to h e a = absurd (cc)
came k fs (Some t) u to h e a =
    let same : t ≡ to = cc in
    all_among_is (rest_of k t) fs u (and_parts (all_among fs (rest_of k t)) (all_among (rest_of k t) fs) h).1 (subst (λ x. AnyOf (rest_of k x) u) (sym same) a)

accepts_from : (k : NumberKind) (u : List ℕ) (state : State) → AnyOf (rest_of k state) u → accepts state u ≡ Some (kind_of k)
accepts_from k [] state h = accepted_is k (accepted state) (sym (nothing_left k state) ∙ nullable_any (rest_of k state) h)
accepts_from k (b ∷ u) state h =
    let a = subst (λ fs. AnyOf fs u) (left_example k state b) (left_all_from b (rest_of k state) u h) in
    let g = goes k (left_all (example (sort_of b)) (rest_of k state)) (next state (sort_of b)) u (stepped k state (sort_of b)) a in
    ap (λ o. accepts_by o (λ to. accepts to u)) g.1 ∙ accepts_from k u g.0 g.2

accepts_step : (o : Option State) (u : List ℕ) (t : TokenKind) → accepts_by o (λ to. accepts to u) ≡ Some t → (to : State) × (o ≡ Some to) × (accepts to u ≡ Some t)
accepts_step None u t e = absurd (cc)
accepts_step (Some to) u t e = (to, refl, e)

accepts_is : (k : NumberKind) (u : List ℕ) (state : State) → accepts state u ≡ Some (kind_of k) → AnyOf (rest_of k state) u
accepts_is k [] state e =
    any_nullable (rest_of k state) (nothing_left k state ∙ ap (is_kind k) e ∙ own_kind k)
accepts_is k (b ∷ u) state e =
    let s = accepts_step (next state (sort_of b)) u (kind_of k) e in
    let a = came k (left_all (example (sort_of b)) (rest_of k state)) (next state (sort_of b)) u s.0 (stepped k state (sort_of b)) s.1 (accepts_is k u s.0 s.2) in
    left_all_is b (rest_of k state) u (subst (λ fs. AnyOf fs u) (sym (left_example k state b)) a)

-- an answer that is at least so long, and of this kind if it is as long
abbrev pub LeastOf : Option (TokenKind × ℕ) → TokenKind → ℕ → Type 0
LeastOf None k n = ⊥
LeastOf (Some r) k n = (n ≤ r.1) × (n ≡ r.1 → k ≡ r.0)

-- the best so far is never lost
abbrev Keeps : List ℕ → Type 0
Keeps cs = (state : State) (n m : ℕ) (kind : TokenKind) → m ≤ n → LeastOf (scan state n (Some (kind, m)) cs) kind m

least_more : (o : Option (TokenKind × ℕ)) (kind other : TokenKind) (m n : ℕ) → m < n → LeastOf o other n → LeastOf o kind m
least_more None kind other m n h l = l
least_more (Some r) kind other m n h l = (omega (arith, l.0), λ e. absurd (omega (arith, l.0)))

keeps_better : (cs : List ℕ) → Keeps cs → (to : State) (n m : ℕ) (kind : TokenKind) (o : Option TokenKind) → m ≤ n → LeastOf (scan to (n + 1) (improved_by o (n + 1) (Some (kind, m))) cs) kind m
keeps_better cs ih to n m kind None h = ih to (n + 1) m kind (omega arith)
keeps_better cs ih to n m kind (Some other) h =
    least_more (scan to (n + 1) (Some (other, n + 1)) cs) kind other m (n + 1) (omega arith) (ih to (n + 1) (n + 1) other (omega arith))

keeps_step : (cs : List ℕ) → Keeps cs → (n m : ℕ) (kind : TokenKind) (o : Option State) → m ≤ n → LeastOf (scan_by o (Some (kind, m)) (λ to. scan to (n + 1) (improved to (n + 1) (Some (kind, m))) cs)) kind m
keeps_step cs ih n m kind None h = (omega arith, λ _. refl)
keeps_step cs ih n m kind (Some to) h = keeps_better cs ih to n m kind (accepted to) h

scan_keeps : (cs : List ℕ) → Keeps cs
scan_keeps [] = λ state n m kind h. (omega arith, λ _. refl)
scan_keeps (b ∷ cs) = λ state n m kind h. keeps_step cs (scan_keeps cs) n m kind (next state (sort_of b)) h

-- an answer at least as long as what is accepted
abbrev Finds : List ℕ → List ℕ → Type 0
Finds u more = (state : State) (n : ℕ) (best : Option (TokenKind × ℕ)) (kind : TokenKind) → accepts state u ≡ Some kind → 0 < length u → LeastOf (scan state n best (u ++ more)) kind (n + length u)

finds_step : (v more : List ℕ) → Finds v more → (b : ℕ) (to : State) (n : ℕ) (best : Option (TokenKind × ℕ)) (kind : TokenKind) → accepts to v ≡ Some kind → LeastOf (scan to (n + 1) (improved to (n + 1) best) (v ++ more)) kind (n + length (b ∷ v))
finds_step [] more ih b to n best kind is =
    let len : n + 1 ≡ n + length (b ∷ []) = omega arith in
    subst (LeastOf (scan to (n + 1) (improved to (n + 1) best) more) kind) len
    (subst (λ o. LeastOf (scan to (n + 1) (improved_by o (n + 1) best) more) kind (n + 1)) (sym is) (scan_keeps more to (n + 1) (n + 1) kind (omega arith)))
finds_step (c ∷ v) more ih b to n best kind is =
    let len : (n + 1) + length (c ∷ v) ≡ n + length (b ∷ c ∷ v) = omega arith in
    subst (LeastOf (scan to (n + 1) (improved to (n + 1) best) (c ∷ (v ++ more))) kind) len
    (ih to (n + 1) (improved to (n + 1) best) kind is (omega arith))

scan_found : (u more : List ℕ) → Finds u more
scan_found [] more = λ state n best kind e some. absurd (omega arith)
scan_found (b ∷ u) more = λ state n best kind e some.
    let s = accepts_step (next state (sort_of b)) u kind e in
    subst (λ o. LeastOf (scan_by o best (λ to. scan to (n + 1) (improved to (n + 1) best) (u ++ more))) kind (n + length (b ∷ u))) (sym s.1)
    (finds_step u more (scan_found u more) b s.0 n best kind s.2)

-- whatever number the text begins with, the answer is at least as long
pub number_found : (k : NumberKind) (u more : List ℕ) → Matches (form_of k) u → LeastOf (number_front (u ++ more)) (kind_of k) (length u)
number_found k [] more h = absurd (cc (accepts_from k [] states.Start (inl h)))
number_found k (b ∷ u) more h =
    let len : 0 + length (b ∷ u) ≡ length (b ∷ u) = omega arith in
    subst (LeastOf (number_front ((b ∷ u) ++ more)) (kind_of k)) len (scan_found (b ∷ u) more states.Start 0 None (kind_of k) (accepts_from k (b ∷ u) states.Start (inl h)) (omega arith))

-- what was read when the answer was found
pub record Read (state : State) (n : ℕ) (cs : List ℕ) (r : TokenKind × ℕ) : Type 0 where
  pub count : ℕ
  pub some : 0 < count
  pub within : count ≤ length cs
  pub accepted_there : accepts state (take count cs) ≡ Some r.0
  pub counted : r.1 ≡ n + count

read_more : (state to : State) (n : ℕ) (b : ℕ) (cs : List ℕ) (r : TokenKind × ℕ) → next state (sort_of b) ≡ Some to → Read to (n + 1) cs r → Read state n (b ∷ cs) r
read_more state to n b cs r e read = record {
  count = suc read.count;
  some = omega arith;
  within = omega (arith, read.within);
  accepted_there = ap (λ o. accepts_by o (λ t. accepts t (take read.count cs))) e ∙ read.accepted_there;
  counted = omega (arith, read.counted);
}

abbrev Reads : List ℕ → Type 0
Reads cs = (state : State) (n : ℕ) (best : Option (TokenKind × ℕ)) (r : TokenKind × ℕ) → scan state n best cs ≡ Some r → (best ≡ Some r) ⊎ Read state n cs r

read_here : (b : ℕ) (cs : List ℕ) (state to : State) (n : ℕ) (best : Option (TokenKind × ℕ)) (r : TokenKind × ℕ) (o : Option TokenKind) → next state (sort_of b) ≡ Some to → accepted to ≡ o → improved_by o (n + 1) best ≡ Some r → (best ≡ Some r) ⊎ Read state n (b ∷ cs) r
read_here b cs state to n best r None led is i = inl i
read_here b cs state to n best r (Some kind) led is i =
    let same : (kind, n + 1) ≡ r = cc in
    inr (record {
      count = 1;
      some = omega arith;
      within = omega arith;
      accepted_there = ap (λ o. accepts_by o (λ t. accepts t [])) led ∙ is ∙ ap (λ (x : TokenKind × ℕ). Some x.0) same;
      counted = sym (ap (λ (x : TokenKind × ℕ). x.1) same);
    })

reads_step : (b : ℕ) (cs : List ℕ) → Reads cs → (state : State) (n : ℕ) (best : Option (TokenKind × ℕ)) (r : TokenKind × ℕ) (o : Option State) → next state (sort_of b) ≡ o → scan_by o best (λ to. scan to (n + 1) (improved to (n + 1) best) cs) ≡ Some r → (best ≡ Some r) ⊎ Read state n (b ∷ cs) r
reads_step b cs ih state n best r None led i = inl i
reads_step b cs ih state n best r (Some to) led i =
    ⊎_elim (λ old. read_here b cs state to n best r (accepted to) led refl old) (λ read. inr (read_more state to n b cs r led read)) (ih to (n + 1) (improved to (n + 1) best) r i)

scan_is : (cs : List ℕ) → Reads cs
scan_is [] = λ state n best r e. inl e
scan_is (b ∷ cs) = λ state n best r e. reads_step b cs (scan_is cs) state n best r (next state (sort_of b)) refl e

-- and the answer is a number
pub record IsNumber (text : List ℕ) (r : TokenKind × ℕ) : Type 0 where
  pub kind : NumberKind
  pub kind_is_it : r.0 ≡ kind_of kind
  pub some : 0 < r.1
  pub within : r.1 ≤ length text
  pub matches : Matches (form_of kind) (take r.1 text)

accepted_kind : (state : State) (t : TokenKind) → accepted state ≡ Some t → (k : NumberKind) × (t ≡ kind_of k)
accepted_kind states.Start t e = absurd (cc)
accepted_kind states.Zero t e = (IsWhole, cc)
accepted_kind states.Lead t e = (IsWhole, cc)
accepted_kind states.LeadBar t e = absurd (cc)
accepted_kind states.Mixed t e = absurd (cc)
accepted_kind states.MixedBar t e = absurd (cc)
accepted_kind states.Decimal t e = (IsWhole, cc)
accepted_kind states.DecimalBar t e = absurd (cc)
accepted_kind states.BinaryMark t e = absurd (cc)
accepted_kind states.BinaryBar t e = absurd (cc)
accepted_kind states.Binary t e = (IsWhole, cc)
accepted_kind states.OctalMark t e = absurd (cc)
accepted_kind states.OctalBar t e = absurd (cc)
accepted_kind states.Octal t e = (IsWhole, cc)
accepted_kind states.HexMark t e = absurd (cc)
accepted_kind states.HexBar t e = absurd (cc)
accepted_kind states.Hex t e = (IsWhole, cc)
accepted_kind states.HexPoint t e = absurd (cc)
accepted_kind states.HexDot t e = absurd (cc)
accepted_kind states.HexFraction t e = absurd (cc)
accepted_kind states.HexFractionBar t e = absurd (cc)
accepted_kind states.Point t e = (IsFloating, cc)
accepted_kind states.Dot t e = absurd (cc)
accepted_kind states.Fraction t e = (IsFloating, cc)
accepted_kind states.FractionBar t e = absurd (cc)
accepted_kind states.ExponentMark t e = absurd (cc)
accepted_kind states.ExponentSign t e = absurd (cc)
accepted_kind states.Exponent t e = (IsFloating, cc)
accepted_kind states.ExponentBar t e = absurd (cc)
accepted_kind states.Imaginary t e = (IsImaginary, cc)

last_kind : (u : List ℕ) (state : State) (t : TokenKind) → accepts state u ≡ Some t → (k : NumberKind) × (t ≡ kind_of k)
last_kind [] state t e = accepted_kind state t e
last_kind (b ∷ u) state t e = let s = accepts_step (next state (sort_of b)) u t e in last_kind u s.0 t s.2

pub number_is : (text : List ℕ) (r : TokenKind × ℕ) → number_front text ≡ Some r → IsNumber text r
number_is text r e = ⊎_elim (λ old. absurd (cc)) go (scan_is text states.Start 0 None r e)
  where
    go : Read states.Start 0 text r → IsNumber text r
    go read =
        let kind = last_kind (take read.count text) states.Start r.0 read.accepted_there in
        let count : read.count ≡ r.1 = omega (arith, read.counted) in
        let any = accepts_is kind.0 (take read.count text) states.Start (read.accepted_there ∙ ap (λ x. Some x) kind.1) in
        record {
          kind = kind.0;
          kind_is_it = kind.1;
          some = omega (arith, read.some, read.counted);
          within = omega (arith, read.within, read.counted);
          matches = subst (λ m. Matches (form_of kind.0) (take m text)) count (⊎_elim (λ m. m) (λ a. absurd a) any);
        }

-- a point alone is no number
pub no_dot : (k : NumberKind) → Matches (form_of k) (46 ∷ []) → ⊥
unfolding sort_of
no_dot k h = let e : accepts states.Start (46 ∷ []) ≡ Some (kind_of k) = accepts_from k (46 ∷ []) states.Start (inl h) in absurd (cc)

-- a number begins with a digit or a point
abbrev begins_number : ℕ → Bool
begins_number b = is_ascii_digit b || (b == 46)

start_low : (b : ℕ) → b < 128 → is_some (next states.Start (sort_of b)) ≡ begins_number b
unfolding sort_of
start_low b low = agree_below_at (λ x. is_some (next states.Start (sort_of x))) begins_number 128 b refl low

start_is : (b : ℕ) (to : State) → next states.Start (sort_of b) ≡ Some to → begins_number b ≡ true
start_is b to e =
    ⊎_elim
    (λ low. sym (start_low b low) ∙ ap is_some e)
    (λ high. let none : next states.Start (sort_of b) ≡ None = ap (next states.Start) (high_sort b high) in absurd (cc))
    (cases_lt b 128)

pub number_begins : (k : NumberKind) (b : ℕ) (u : List ℕ) → Matches (form_of k) (b ∷ u) → (is_ascii_digit b ≡ true) ⊎ (b ≡ 46)
number_begins k b u h =
    let s = accepts_step (next states.Start (sort_of b)) u (kind_of k) (accepts_from k (b ∷ u) states.Start (inl h)) in
    ⊎_elim (λ d. inl d) (λ p. inr (eqb-true b 46 p)) (or_cases (is_ascii_digit b) (b == 46) (start_is b s.0 s.1))

pub number_some : (k : NumberKind) → Matches (form_of k) [] → ⊥
number_some k h = let e : accepts states.Start [] ≡ Some (kind_of k) = accepts_from k [] states.Start (inl h) in absurd (cc)
