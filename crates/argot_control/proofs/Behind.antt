-- Control order is that of blocks.
use Rattle.std.proofs.Common.{◌≡◌, ℕ, zero, suc, ◌+◌, ◌-◌, ◌<◌, ◌≤◌, refl, sym, ap, ◌∙◌, inl, inr, arith, subst}
use Rattle.std.specs.Prelude.{◌⊎◌, ◌↔◌}
use Rattle.std.proofs.lemmas.Bool.{cases_eq, cases_lt}
use Rattle.argot_plain.specs.Code.{Code, IsIn}
use Rattle.argot_facts.specs.Follows.{DirectlyFollowsBy, exits, FollowsBy, one, then}
use Rattle.argot_facts.specs.Refers.{Fact}
use Rattle.argot_control.specs.Blocks.{IsExitOf, IsInner, AreBlocks, IsHead, LeadsOn, IsRow, leads, leads_on, IsBehind}

module _ (p : Code) (F : Fact → Type 0) where
  follows_trans : (a b : ℕ) {c : ℕ} → FollowsBy p F a b → FollowsBy p F b c → FollowsBy p F a c
  follows_trans a b h (one x) = then h x
  follows_trans a b h (then k x) = then (follows_trans a b h k) x

  module _ (block : ℕ → ℕ) (are : AreBlocks p F block) where
    rises : (a n : ℕ) → block a ≤ block (a + n)
    rises a zero = let e : block (a + 0) ≡ block a = ap block (omega arith) in omega arith
    rises a (suc n) =
        let r = rises a n in
        let s = are.rising (a + n) in
        let e : block (a + n + 1) ≡ block (a + suc n) = ap block (omega arith) in
        omega arith

    risen : (a b : ℕ) → a ≤ b → block a ≤ block b
    risen a b l = let r = rises a (b - a) in let e : block (a + (b - a)) ≡ block b = ap block (omega arith) in omega arith

    -- a place between two of one block is of the block
    between : (a k b : ℕ) → a ≤ k → k ≤ b → block a ≡ block b → block k ≡ block b
    between a k b l m e = let r = risen a k l in let s = risen k b m in omega arith

    inner_at : (a k : ℕ) → a ≤ k → block a ≡ block (k + 1) → IsInner p F k
    inner_at a k l e = are.inner k (sym (between a k (k + 1) l (omega arith) e))

    along : (a b : ℕ) → a < b → block a ≡ block b → FollowsBy p F a b
    along a zero l e = absurd (omega arith)
    along a (suc k) l e =
        let z : k + 1 ≡ suc k = omega arith in
        let e' : block a ≡ block (k + 1) = e ∙ ap block (sym z) in
        let i = inner_at a k (omega arith) e' in
        let x = subst (DirectlyFollowsBy p F k) z i.next in
        elim (cases_eq a k) [
          | inl s ↦ one (subst (λ c. DirectlyFollowsBy p F c (suc k)) (sym s) x)
          | inr s ↦ then (along a k (omega arith) (e' ∙ sym (between a k (k + 1) (omega arith) (omega arith) e'))) x
        ]

    -- a place behind another in its block is of the same function
    inside_along : (g i n : ℕ) → block i ≡ block (i + n) → IsIn p i g → IsIn p (i + n) g
    inside_along g i zero e inside = let z : i ≡ i + 0 = omega arith in subst (λ c. IsIn p c g) z inside
    inside_along g i (suc n) e inside =
        let z : i + n + 1 ≡ i + suc n = omega arith in
        let e' : block i ≡ block (i + n + 1) = e ∙ ap block (sym z) in
        let k = inner_at i (i + n) (omega arith) e' in
        let b : block (i + n) ≡ block (i + n + 1) = between i (i + n) (i + n + 1) (omega arith) (omega arith) e' in
        subst (λ c. IsIn p c g) z (k.stays g (inside_along g i n (e' ∙ sym b) inside))

    -- from any place of its block the first place of the next one is reached
    leaves_block : (a x y : ℕ) → block a ≡ x → (l : LeadsOn p F block x y) → FollowsBy p F a l.to
    leaves_block a x y e l = elim (cases_lt l.from a) [
      | inl behind ↦ from_within a l e behind
      | inr h ↦ elim (cases_eq a l.from) [
        | inl s ↦ one (subst (λ c. DirectlyFollowsBy p F c l.to) (sym s) l.goes)
        | inr s ↦ then (along a l.from (omega arith) (e ∙ sym l.is_from)) l.goes
      ]
    ]
      where
        exit_from : (c j : ℕ) → IsExitOf p F c j → (d : ℕ) → c < d → block c ≡ block d → FollowsBy p F d j
        exit_from c j x d l e =
            let n = d - c in
            let z : c + n ≡ d = omega arith in
            let inside = subst (λ m. IsIn p m x.function) z (inside_along x.function c n (e ∙ ap block (sym z)) x.inside) in
            subst (FollowsBy p F d) (sym x.exit) (one (exits x.function x.fn (record { function = x.function; is_in = inside; is_live = x.live }) inside x.is x.body))

        from_within : (d : ℕ) (m : LeadsOn p F block x y) → block d ≡ x → m.from < d → FollowsBy p F d m.to
        from_within d m f behind =
            let same : block m.from ≡ block d = m.is_from ∙ sym f in
            let b : block (m.from + 1) ≡ block d = between m.from (m.from + 1) d (omega arith) (omega arith) same in
            let i = are.inner m.from (b ∙ sym same) in
            elim (i.out m.to m.goes) [
              | inl z ↦ absurd (m.head m.from z (ap block z ∙ b ∙ sym same))
              | inr exit ↦ exit_from m.from m.to exit d behind same
            ]

    -- and from that place all of its block
    fills_block : (a y b : ℕ) (j : ℕ) → IsHead block j → block j ≡ y → block b ≡ y → FollowsBy p F a j → FollowsBy p F a b
    fills_block a y b j head e f h = elim (cases_eq j b) [
      | inl s ↦ subst (FollowsBy p F a) s h
      | inr s ↦ elim (cases_lt j b) [
        | inl l ↦ follows_trans a j h (along j b l (e ∙ sym f))
        | inr l ↦ absurd (below b j (omega arith) head (f ∙ sym e))
      ]
    ]
      where
        below : (c k : ℕ) → c < k → IsHead block k → block c ≡ block k → ⊥
        below c zero l hd g = absurd (omega arith)
        below c (suc k) l hd g =
            let z : suc k ≡ k + 1 = omega arith in
            hd k z (sym (between c k (suc k) (omega arith) (omega arith) g))

    row_follows : (a : ℕ) {y : ℕ} → IsRow p F block (block a) y → (b : ℕ) → block b ≡ y → FollowsBy p F a b
    row_follows a {y = y} (leads l) b f = fills_block a y b l.to l.head l.is_to f (leaves_block a (block a) y refl l)
    row_follows a {y = z} (leads_on r l) b f = fills_block a z b l.to l.head l.is_to f (then (row_follows a r l.from l.is_from) l.goes)

    behind_follows : (a b : ℕ) → IsBehind p F block a b → FollowsBy p F a b
    behind_follows a b (inl h) = along a b h.1 h.0
    behind_follows a b (inr r) = row_follows a r b refl

    -- one step
    step_behind : (i j : ℕ) → DirectlyFollowsBy p F i j → ((block i ≡ block j) × (i < j)) ⊎ LeadsOn p F block (block i) (block j)
    step_behind i zero x = inr (record { from = i; to = 0; goes = x; is_from = refl; is_to = refl; head = λ k e. absurd (omega arith) })
    step_behind i (suc k) x =
        let z : k + 1 ≡ suc k = omega arith in
        elim (cases_eq (block (k + 1)) (block k)) [
          | inl e ↦
              let s = (are.inner k e).alone i (subst (DirectlyFollowsBy p F i) (sym z) x) in
              inl (ap block s ∙ sym e ∙ ap block z, omega arith)
          | inr e ↦ inr (record {
            from = i;
            to = suc k;
            goes = x;
            is_from = refl;
            is_to = refl;
            head = λ m f g. let y : m ≡ k = omega arith in e (ap block z ∙ g ∙ ap block y);
          })
        ]

    follows_behind : (a : ℕ) {b : ℕ} → FollowsBy p F a b → IsBehind p F block a b
    follows_behind a {b = b} (one x) = elim (step_behind a b x) [ inl h ↦ inl h | inr l ↦ inr (leads l) ]
    follows_behind a {b = c} (then {b = b} h x) = both (follows_behind a h) (step_behind b c x)
      where
        both : IsBehind p F block a b → ((block b ≡ block c) × (b < c)) ⊎ LeadsOn p F block (block b) (block c) → IsBehind p F block a c
        both (inl u) (inl v) = let m = u.1 in let n = v.1 in inl (u.0 ∙ v.0, omega arith)
        both (inl u) (inr l) = inr (leads (subst (λ y. LeadsOn p F block y (block c)) (sym u.0) l))
        both (inr r) (inl v) = inr (subst (IsRow p F block (block a)) v.0 r)
        both (inr r) (inr l) = inr (leads_on r l)

    pub follows_are : (a b : ℕ) → FollowsBy p F a b ↔ IsBehind p F block a b
    follows_are a b = ((λ h. follows_behind a h), λ h. behind_follows a b h)
