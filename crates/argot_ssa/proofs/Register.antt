-- The rows of one register: what is carried is what reaches, where no definition stands before the read in its block.
use Rattle.std.proofs.Common.{◌≡◌, ℕ, zero, suc, ◌+◌, ◌-◌, ◌<◌, Bool, true, false, List, slice_index, refl, sym, ap, subst, ◌∙◌, inl, inr, arith}
use Rattle.std.proofs.lemmas.Bool.{cases_Bool, cases_eq, cases_lt, both_ways}
use Rattle.argot_plain.specs.Code.{Code}
use Rattle.argot_plain.specs.declared.functions.Function.{Function}
use Rattle.argot_ssa.specs.Edges.{leads}
use Rattle.argot_ssa.specs.Places.{size, reads_at, defines_at, IsCut, IsNet, IsExposed, IsOut}
use Rattle.argot_ssa.specs.Paths.{Path, Row, IsFound, AreAsks, AreOuts}
use Rattle.argot_ssa.specs.Working.{IsCarried}
use Rattle.argot_ssa.proofs.Blocks.{exposed_path, arrives}

same_row : (a b c d e f : ℕ) → a ≡ d → b ≡ e → c ≡ f → ◌≡◌ {A = Row} (a, b, c) (d, e, f)
same_row a b c d e f p q s = cc

-- the last definition of the block of a place that defines the register, found going on from c with the last one so far
last_from : (heads : List ℕ) (n : ℕ) (defines : ℕ → Bool) (t c d : ℕ) → n ≡ c + t → d < n → defines d ≡ true → ((j : ℕ) → d < j → j < c → slice_index heads j ≡ slice_index heads d → defines j ≡ false) → (e : ℕ) × IsOut heads n defines e × (slice_index heads e ≡ slice_index heads d)
last_from heads n defines zero c d e low is none = (d, record { below = low; defines_it = is; last = λ j later within here. none j later (omega arith) here }, refl)
last_from heads n defines (suc t) c d e low is none = elim (cases_Bool (defines c)) [
  | inr free ↦ last_from heads n defines t (suc c) d (omega arith) low is (λ j later within here. elim (cases_eq j c) [
    | inl same ↦ subst (λ x. defines x ≡ false) (sym same) free
    | inr other ↦ none j later (omega arith) here
  ])
  | inl does ↦ elim (cases_eq (slice_index heads c) (slice_index heads d)) [
    | inl same ↦ elim (cases_lt d c) [
      | inl later ↦
          let found = last_from heads n defines t (suc c) c (omega arith) (omega arith) does (λ j later' within here. absurd (omega arith)) in
          (found.0, found.1, found.2 ∙ same)
      | inr early ↦ last_from heads n defines t (suc c) d (omega arith) low is (λ j later' within here. absurd (omega arith))
    ]
    | inr other ↦ last_from heads n defines t (suc c) d (omega arith) low is (λ j later within here. elim (cases_eq j c) [
      | inl same ↦ absurd (other (ap (λ x. slice_index heads x) (sym same) ∙ here))
      | inr not_c ↦ none j later (omega arith) here
    ])
  ]
]

pub last_out : (heads : List ℕ) (n : ℕ) (defines : ℕ → Bool) (j : ℕ) → j < n → defines j ≡ true → (e : ℕ) × IsOut heads n defines e × (slice_index heads e ≡ slice_index heads j)
last_out heads n defines j low is = last_from heads n defines (n - suc j) (suc j) j (omega arith) low is (λ i later within here. absurd (omega arith))

module _ (p : Code) (fn : Function) (heads : List ℕ) (cut : IsCut p fn heads) (onward back : List (List ℕ)) (net : IsNet p fn heads (size fn) onward back)
    (outs asks : List (List ℕ)) (are_outs : AreOuts p fn heads 0 outs) (are_asks : AreAsks p fn heads (size fn) asks)
    (r : ℕ) (stops : ℕ → Bool)
    (there : (d : ℕ) → leads outs r d ≡ true → stops (slice_index heads d) ≡ true)
    (only : (a : ℕ) → stops a ≡ true → (d : ℕ) × (leads outs r d ≡ true) × (slice_index heads d ≡ a)) where
  abbrev defines : ℕ → Bool
  defines k = defines_at p fn r k

  stop : (j : ℕ) → j < size fn → defines j ≡ true → stops (slice_index heads j) ≡ true
  stop j low is =
      let last = last_out heads (size fn) (defines_at p fn r) j low is in
      subst (λ b. stops b ≡ true) last.2 (there last.0 (are_outs.there r last.0 (omega arith) last.1))

  stopped : (b : ℕ) → stops b ≡ true → (j : ℕ) × (j < size fn) × (slice_index heads j ≡ b) × (defines j ≡ true)
  stopped b h =
      let d = only b h in
      let out = (are_outs.only r d.0 d.1).1 in
      (d.0, out.below, d.2, out.defines_it)

  pub carried_found : (x : Row) → IsCarried onward outs asks heads stops fn.entry r x → IsFound p fn x
  carried_found x c =
      let ask = are_asks.only r c.k c.asked in
      let out = (are_outs.only r c.d c.out).1 in
      subst (IsFound p fn) (sym c.is) (record {
        k = c.k;
        d = c.d;
        place = refl;
        definition = refl;
        low = ask.0;
        read = ask.1;
        starts = out.below;
        defines = out.defines_it;
        path = exposed_path p fn heads cut (defines_at p fn r) onward back net stops stop stopped c.d c.k ask.0 ask.2 out c.spread;
      })

  far : (x : Row) (f : IsFound p fn x) → x.1 ≡ r → IsExposed heads (defines_at p fn r) f.k → defines_at p fn r f.d ≡ true → reads_at p fn r f.k ≡ true → Path p fn (defines_at p fn r) f.d f.k → IsCarried onward outs asks heads stops fn.entry r x
  far x f same exposed is read path = elim (arrives p fn heads cut (defines_at p fn r) onward back net stops stop stopped f.d is path) [
    | inl here ↦ absurd (both_ways _ (exposed f.d here.low here.high) here.defines_it)
    | inr away ↦ record {
      k = f.k;
      d = f.d;
      out = are_outs.there r f.d (omega arith) away.1;
      asked = are_asks.there r f.k f.low read exposed;
      spread = away.2;
      is = same_row x.0 x.1 x.2 _ _ _ f.place same f.definition;
    }
  ]

  pub found_carried : (x : Row) (f : IsFound p fn x) → x.1 ≡ r → IsExposed heads (defines_at p fn x.1) f.k → IsCarried onward outs asks heads stops fn.entry r x
  found_carried x f same exposed = far x f same
      (subst (λ s. IsExposed heads (defines_at p fn s) f.k) same exposed)
      (subst (λ s. defines_at p fn s f.d ≡ true) same f.defines)
      (subst (λ s. reads_at p fn s f.k ≡ true) same f.read)
      (subst (λ s. Path p fn (defines_at p fn s) f.d f.k) same f.path)
