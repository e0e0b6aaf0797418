-- What a handed value of a call refers to, a definition of its register refers to.
use Rattle.std.proofs.Common.{◌≡◌, ℕ, zero, suc, ◌+◌, ◌<◌, ◌≤◌, Bool, List, [], ◌∷◌, Some, None, Option, refl, sym, ap, ◌∙◌, arith, subst}
use Rattle.std.specs.Prelude.{slice_get, length}
use Rattle.argot_plain.specs.Code.{Code, IsAt, Hands, by_call, by_go, by_defer, handed_values}
use Rattle.argot_plain.specs.Nodes.{Mark, mark}
use Rattle.argot_plain.specs.WellFormed.{WellFormed}
use Rattle.argot_plain.specs.declared.instructions.Callee.{Callee}
use Rattle.argot_plain.specs.declared.instructions.Kind.{Kind}
use Rattle.argot_plain.specs.declared.instructions.Kind.TheVariants.{New, Step, Read, Grow, Global, Assert, Call, Goto}
use Rattle.argot_text.specs.declared.path.PathStep.{PathStep}
use Rattle.argot_facts.specs.Copies.{Copies}
use Rattle.argot_facts.specs.Reaching.{DefinedAt}
use Rattle.argot_facts.specs.Refers.{Location, Holds, NodeRefers, copy, new, step, read, grow_fresh, grow_read, grow_copy, global, assert, param, result, fresh_result}
use Rattle.argot_points.proofs.CallsTold.{same_kind, hands_once}

-- a definition of the register that is handed on at the index k, of the leaf q
abbrev pub Sent : Code → ℕ → ℕ → List PathStep → Location → Type 0
Sent p i r q x = (d : ℕ) × (j : ℕ) × DefinedAt p d j r i × Holds p (NodeRefers (mark d j q) x)

abbrev IsSent : Code → Mark → Location → Callee → List ℕ → ℕ → Type 0
IsSent p m x callee args n = (k : ℕ) × (r : ℕ) × (m.index ≡ n + k) × (slice_get (handed_values callee args) k ≡ Some r) × Sent p m.place r m.leaf x

get_within : {X : Type 0} (xs : List X) (k : ℕ) (x : X) → slice_get xs k ≡ Some x → k < length xs
get_within [] k x h = absurd cc
get_within (y ∷ xs) zero x h = omega arith
get_within (y ∷ xs) (suc k) x h = omega (arith, get_within xs k x h)

-- a call copies to its handed values
handed_copy : (c : Kind) (callee : Callee) (args : List ℕ) (n r : ℕ) (q : List PathStep) (k : ℕ) (q' : List PathStep) → Hands c callee args n → Copies c r q k q' → (j : ℕ) × (slice_get (handed_values callee args) j ≡ Some r) × (k ≡ n + j) × (q' ≡ q)
handed_copy c callee args n r q k q' by_call copies = (copies.0, copies.1, copies.2, copies.3)
handed_copy c callee args n r q k q' by_go copies = (k, copies.0, omega arith, copies.1)
handed_copy c callee args n r q k q' by_defer copies = (k, copies.0, omega arith, copies.1)

module _ (p : Code) (wf : WellFormed p) where
  sent : (m : Mark) (x : Location) (kind : Kind) (callee : Callee) (args : List ℕ) (n : ℕ) → IsAt p m.place kind → Hands kind callee args n → n ≤ m.index → Holds p (NodeRefers m x) → IsSent p m x callee args n
  sent m x kind callee args n at hands low (copy {i = i} {k = k} {q' = q'} h d j r q k' inside live is copies def from) =
      let o = handed_copy k' callee args n r q k q' (subst (λ c. Hands c callee args n) (same_kind p i kind k' at is) hands) copies in
      (o.0, r, o.2, o.1, (d, j, def, subst (λ c. Holds p (NodeRefers (mark d j c) x)) (sym o.3) from))
  sent m x kind callee args n at hands low (new {i = i} {s = s} to h inside live is) = absurd (elim (subst (λ c. Hands c callee args n) (same_kind p i kind (New to s) at is) hands) [ ])
  sent m x kind callee args n at hands low (step {i = i} {s = s} {base = base} {path = path} h d j to from inside live is def t ok) = absurd (elim (subst (λ c. Hands c callee args n) (same_kind p i kind (Step to from path) at is) hands) [ ])
  sent m x kind callee args n at hands low (read {i = i} h d j s to r base qs inside live is def t q ok place) = absurd (elim (subst (λ c. Hands c callee args n) (same_kind p i kind (Read to r qs) at is) hands) [ ])
  sent m x kind callee args n at hands low (grow_fresh {i = i} h to r items site inside live is own) = absurd (elim (subst (λ c. Hands c callee args n) (same_kind p i kind (Grow to r items) at is) hands) [ ])
  sent m x kind callee args n at hands low (grow_read {i = i} h d j s b to r base items site inside live is own def t q ok place) = absurd (elim (subst (λ c. Hands c callee args n) (same_kind p i kind (Grow to r items) at is) hands) [ ])
  sent m x kind callee args n at hands low (grow_copy {i = i} h to r items inside live is t) = absurd (elim (subst (λ c. Hands c callee args n) (same_kind p i kind (Grow to r items) at is) hands) [ ])
  sent m x kind callee args n at hands low (global {i = i} h to k ident pos inside live is g) = absurd (elim (subst (λ c. Hands c callee args n) (same_kind p i kind (Global to k) at is) hands) [ ])
  sent m x kind callee args n at hands low (assert {i = i} h d j to from target inside live is def t ok) = absurd (elim (subst (λ c. Hands c callee args n) (same_kind p i kind (Assert to from target) at is) hands) [ ])
  sent m x kind callee args n at hands low (param {e = e} i g b k takes c ce vs fn is hs target taken goes isf first node t) = absurd (never fn.external refl)
    where
      goes_on : (target : ℕ) → IsAt p fn.entry (Goto target) → ⊥
      goes_on target h = elim (subst (λ c. Hands c callee args n) (same_kind p fn.entry kind (Goto target) (subst (λ c. IsAt p c kind) first at) h) hands) [ ]

      never : (o : Option Bool) → fn.external ≡ o → ⊥
      never None e = goes_on (fn.entry + 1) (wf.entry_goto g fn isf e)
      never (Some flows) e = goes_on fn.entry (wf.externals g flows fn isf e).goto
  sent m x kind callee args n at hands low (result {i = i} {k = k} g takes to vs ce fn is target isf body within node t) =
      let o = hands_once (Call to ce vs) ce callee vs args (length to) n by_call (subst (λ c. Hands c callee args n) (same_kind p i kind (Call to ce vs) at is) hands) in
      absurd (omega (arith, low, within, o.2))
  sent m x kind callee args n at hands low (fresh_result {i = i} {k = k} h g t takes flows to vs ce fn inside is target isf ext reg made) =
      let o = hands_once (Call to ce vs) ce callee vs args (length to) n by_call (subst (λ c. Hands c callee args n) (same_kind p i kind (Call to ce vs) at is) hands) in
      absurd (omega (arith, low, get_within to k t reg, o.2))

  pub sent_from : (i k r : ℕ) (q : List PathStep) (x : Location) (kind : Kind) (callee : Callee) (args : List ℕ) (n : ℕ) → IsAt p i kind → Hands kind callee args n → slice_get (handed_values callee args) k ≡ Some r
      → Holds p (NodeRefers (mark i (n + k) q) x) → Sent p i r q x
  sent_from i k r q x kind callee args n at hands reg t =
      let u = sent (mark i (n + k) q) x kind callee args n at hands (omega arith) t in
      let z : k ≡ u.0 = omega (arith, u.2) in
      let e : Some u.1 ≡ Some r = sym u.3 ∙ ap (slice_get (handed_values callee args)) (sym z) ∙ reg in
      let f : u.1 ≡ r = cc in
      subst (λ c. Sent p i c q x) f u.4
