-- Which definitions of a register reach a place, by way of the blocks of the function. The test says which places define it.
use Rattle.std.proofs.Common.{◌≡◌, ◌≢◌, ℕ, zero, suc, ◌+◌, ◌-◌, ◌<◌, ◌≤◌, ◌⊎◌, Bool, true, false, List, slice_index, refl, sym, ap, subst, ◌∙◌, inl, inr, arith}
use Rattle.std.proofs.lemmas.Bool.{cases_Bool, cases_eq, cases_lt, both_ways}
use Rattle.argot_plain.specs.Code.{Code}
use Rattle.argot_plain.specs.declared.functions.Function.{Function}
use Rattle.argot_ssa.specs.Edges.{leads, Spreads}
use Rattle.argot_ssa.specs.Edges.Spreads.{first, on}
use Rattle.argot_ssa.specs.Paths.{Path}
use Rattle.argot_ssa.specs.Paths.Path.{step, more}
use Rattle.argot_ssa.specs.Places.{size, Goes, IsInner, IsCut, IsNet, NoneIn, IsLocal, IsExposed, IsOut}

module _ (p : Code) (fn : Function) (heads : List ℕ) (cut : IsCut p fn heads) where
  abbrev head : ℕ → ℕ
  head k = slice_index heads k

  inner : (k : ℕ) → k < size fn → head k < k → IsInner p fn heads k
  inner k low less = elim (cut.each k low) [ inl e ↦ absurd (omega arith) | inr i ↦ i ]

  -- the places from a block's first one up to one of its places are in the block
  between_up : (t j k : ℕ) → k ≡ j + t → k < size fn → head k ≤ j → head j ≡ head k
  between_up zero j k e low from = let same : j ≡ k = omega arith in ap head same
  between_up (suc t) j k e low from =
      let i = inner k low (omega arith) in
      let is = i.is in
      let here = i.same in
      between_up t j i.before (omega arith) (omega arith) (omega arith) ∙ i.same

  pub between : (j k : ℕ) → k < size fn → head k ≤ j → j ≤ k → head j ≡ head k
  between j k low from to = between_up (k - j) j k (omega arith) low from

  pub head_head : (k : ℕ) → k < size fn → head (head k) ≡ head k
  head_head k low = between (head k) k low (omega arith) (cut.low k low)

  -- a place from which a step leads to a block's first place is the last one of its block
  pub at_end : (i k j : ℕ) → Goes p fn i k → head k ≡ k → i < j → j < size fn → head j ≡ head i → ⊥
  at_end i k j e begins later low same =
      let here = cut.low i e.from in
      let next : head (i + 1) ≡ head j = between (i + 1) j low (omega arith) (omega arith) in
      let in_block = inner (i + 1) (omega arith) (omega arith) in
      let is = in_block.is in
      let before : in_block.before ≡ i = omega arith in
      let to = in_block.only_to k (subst (λ x. Goes p fn x k) (sym before) e) in
      let moved : head k ≡ head (i + 1) = ap head to in
      omega arith

  module _ (defines : ℕ → Bool) where
    -- along a block
    walk_up : (d t i k : ℕ) → k ≡ i + t → k < size fn → head i ≡ head k → NoneIn defines i k → Path p fn defines d i → Path p fn defines d k
    walk_up d zero i k e low same none path = let is : i ≡ k = omega arith in subst (Path p fn defines d) is path
    walk_up d (suc t) i k e low same none path =
        let here = cut.low i (omega arith) in
        let b = inner k low (omega arith) in
        let is = b.is in
        more (walk_up d t i b.before (omega arith) (omega arith) (same ∙ sym b.same) (λ j l u. none j l (omega arith)) path) (none b.before (omega arith) (omega arith)) b.step

    pub walk : (d i k : ℕ) → i ≤ k → k < size fn → head i ≡ head k → NoneIn defines i k → Path p fn defines d i → Path p fn defines d k
    walk d i k le low same none path = walk_up d (k - i) i k (omega arith) low same none path

    from_up : (t d k : ℕ) → k ≡ d + suc t → k < size fn → head d ≡ head k → NoneIn defines (d + 1) k → Path p fn defines d k
    from_up zero d k e low same none =
        let here = cut.low d (omega arith) in
        let b = inner k low (omega arith) in
        let is = b.is in
        let before : b.before ≡ d = omega arith in
        step (subst (λ x. Goes p fn x k) before b.step)
    from_up (suc t) d k e low same none =
        let here = cut.low d (omega arith) in
        let b = inner k low (omega arith) in
        let is = b.is in
        more (from_up t d b.before (omega arith) (omega arith) (same ∙ sym b.same) (λ j l u. none j l (omega arith))) (none b.before (omega arith) (omega arith)) b.step

    pub from : (d k : ℕ) → d < k → k < size fn → head d ≡ head k → NoneIn defines (d + 1) k → Path p fn defines d k
    from d k less low same none = from_up (k - d - 1) d k (omega arith) low same none

    pub local_path : (d k : ℕ) → k < size fn → IsLocal heads defines d k → Path p fn defines d k
    local_path d k low is = let high = is.high in from d k is.high low (between d k low is.low (omega arith)) is.last

    module _ (onward back : List (List ℕ)) (net : IsNet p fn heads (size fn) onward back) (stops : ℕ → Bool)
        (stop : (j : ℕ) → j < size fn → defines j ≡ true → stops (head j) ≡ true)
        (stopped : (b : ℕ) → stops b ≡ true → (j : ℕ) × (j < size fn) × (head j ≡ b) × (defines j ≡ true)) where
      abbrev Comes : ℕ → ℕ → Type 0
      Comes d b = Spreads onward stops (leads onward (head d)) b

      -- no place of a block that doesn't stop defines the register
      free : (b k : ℕ) → k < size fn → head k ≡ b → stops b ≡ false → defines k ≡ false
      free b k low is no_stop = elim (cases_Bool (defines k)) [
        | inl yes' ↦ absurd (both_ways _ no_stop (subst (λ x. stops x ≡ true) is (stop k low yes')))
        | inr no' ↦ no'
      ]

      leave : (d b : ℕ) → IsOut heads (size fn) defines d → leads onward (head d) b ≡ true → Path p fn defines d b × (head b ≡ b)
      leave d b out edge =
          let e = net.only (head d) b edge in
          let k = e.0 in
          let low = e.2.from in
          elim (cases_lt k d) [
            | inl less ↦ absurd (at_end k b d e.2 e.3 less out.below (sym e.1))
            | inr more' ↦ elim (cases_eq d k) [
              | inl same ↦ (step (subst (λ x. Goes p fn x b) (sym same) e.2), e.3)
              | inr other ↦
                  let here = cut.low d out.below in
                  let within : (j : ℕ) → d < j → j < k → head j ≡ head d = λ j l u. between j k low (let x = e.1 in omega arith) (omega arith) ∙ e.1 in
                  let none : NoneIn defines (d + 1) k = λ j l u. out.last j (omega arith) (omega arith) (within j (omega arith) u) in
                  (more (from d k (omega arith) low (sym e.1) none) (out.last k (omega arith) low e.1) e.2, e.3)
            ]
          ]

      pub out_path : (d : ℕ) → IsOut heads (size fn) defines d → {b : ℕ} → Comes d b → Path p fn defines d b × (head b ≡ b)
      out_path d out (first {j = b} edge) = leave d b out edge
      out_path d out (on {i = i} {j = b} s no_stop edge) =
          let r = out_path d out s in
          let e = net.only i b edge in
          let k = e.0 in
          let low = e.2.from in
          let here = cut.low k low in
          let within : (j : ℕ) → i ≤ j → j ≤ k → head j ≡ i = λ j l u. between j k low (let x = e.1 in omega arith) u ∙ e.1 in
          let none : NoneIn defines i k = λ j l u. free i j (omega arith) (within j l (omega arith)) no_stop in
          let at = e.1 in
          (more (walk d i k (omega arith) low (r.1 ∙ sym e.1) none r.0) (free i k low e.1 no_stop) e.2, e.3)

      pub exposed_path : (d k : ℕ) → k < size fn → IsExposed heads defines k → IsOut heads (size fn) defines d → Comes d (head k) → Path p fn defines d k
      exposed_path d k low none out s = walk d (head k) k (cut.low k low) low (head_head k low) none (out_path d out s).0

      -- a step to the first place of a block, from a definition before the end of its block
      ends_block : (d i k : ℕ) → Goes p fn i k → head k ≡ k → d < size fn → defines d ≡ true → head d ≡ head i → d ≤ i → NoneIn defines (d + 1) (i + 1) → IsOut heads (size fn) defines d
      ends_block d i k e begins low is same le none = record {
        below = low;
        defines_it = is;
        last = λ j later within here. elim (cases_lt i j) [
          | inl past ↦ absurd (at_end i k j e begins past within (here ∙ same))
          | inr inside ↦ none j (omega arith) (omega arith)
        ];
      }

      abbrev Arrives : ℕ → ℕ → Type 0
      Arrives d k = IsLocal heads defines d k ⊎ (IsExposed heads defines k × IsOut heads (size fn) defines d × Comes d (head k))

      exposed_at : (k : ℕ) → head k ≡ k → IsExposed heads defines k
      exposed_at k begins j l u = absurd (omega arith)

      edge_to : (i k b : ℕ) → Goes p fn i k → head k ≡ k → head i ≡ b → leads onward b (head k) ≡ true
      edge_to i k b e begins is =
          let Edge : ℕ → ℕ → Type 0 = λ x y. leads onward x y ≡ true in
          subst (λ y. Edge b y) (sym begins) (subst (λ x. Edge x k) is (net.edge i k e.from e begins))

      step_arrives : (d k : ℕ) → defines d ≡ true → Goes p fn d k → Arrives d k
      step_arrives d k is e = elim (cases_eq (head k) k) [
        | inl begins ↦ inr (exposed_at k begins, ends_block d d k e begins e.from is refl (omega arith) (λ j l u. absurd (omega arith)), first (edge_to d k (head d) e begins refl))
        | inr other ↦
            let here = cut.low k e.to in
            let b = inner k e.to (omega arith) in
            let before = b.only_from d e in
            let at = b.is in
            let low = cut.low d e.from in
            let same : head d ≡ head k = ap head before ∙ b.same in
            inl (record { low = omega arith; high = omega arith; defines_it = is; last = λ j l u. absurd (omega arith) })
      ]

      -- from the end of a block that the definition is in, or passed
      more_begins : (d i k : ℕ) → Goes p fn i k → head k ≡ k → defines i ≡ false → Arrives d i → Arrives d k
      more_begins d i k e begins none a = elim a [
        | inl here ↦
            let up = here.high in
            let same : head d ≡ head i = between d i e.from here.low (omega arith) in
            let clear : NoneIn defines (d + 1) (i + 1) = λ j l u. elim (cases_eq j i) [ inl at ↦ subst (λ x. defines x ≡ false) (sym at) none | inr other ↦ here.last j l (omega arith) ] in
            let from' = e.from in
            inr (exposed_at k begins, ends_block d i k e begins (omega arith) here.defines_it same (omega arith) clear, first (edge_to i k (head d) e begins (sym same)))
        | inr far ↦ inr (exposed_at k begins, far.1, on far.2 (passes i k e begins none far.0) (edge_to i k (head i) e begins refl))
      ]
        where
          passes : (i k : ℕ) → Goes p fn i k → head k ≡ k → defines i ≡ false → IsExposed heads defines i → stops (head i) ≡ false
          passes i k e begins none exposed = elim (cases_Bool (stops (head i))) [
            | inr no' ↦ no'
            | inl yes' ↦
                let s = stopped (head i) yes' in
                let j = s.0 in
                let low = cut.low j s.1 in
                elim (cases_lt i j) [
                  | inl past ↦ absurd (at_end i k j e begins past s.1 s.2)
                  | inr inside ↦ elim (cases_eq j i) [
                    | inl at ↦ absurd (both_ways _ (subst (λ x. defines x ≡ false) (sym at) none) s.3)
                    | inr other ↦ absurd (both_ways _ (exposed j (let x = s.2 in omega arith) (omega arith)) s.3)
                  ]
                ]
          ]

      more_inside : (d i k : ℕ) → Goes p fn i k → head k ≢ k → defines i ≡ false → Arrives d i → Arrives d k
      more_inside d i k e other none a =
          let here = cut.low k e.to in
          let b = inner k e.to (omega arith) in
          let before = b.only_from i e in
          let at = b.is in
          let same : head i ≡ head k = ap head before ∙ b.same in
          elim a [
            | inl local ↦
                let low = local.low in
                let high = local.high in
                inl (record {
                  low = omega arith;
                  high = omega arith;
                  defines_it = local.defines_it;
                  last = λ j l u. elim (cases_eq j i) [ inl is ↦ subst (λ x. defines x ≡ false) (sym is) none | inr not_it ↦ local.last j l (omega arith) ];
                })
            | inr far ↦ inr (
              (λ j l u. elim (cases_eq j i) [ inl is ↦ subst (λ x. defines x ≡ false) (sym is) none | inr not_it ↦ far.0 j (omega arith) (omega arith) ]),
              far.1,
              subst (Comes d) same far.2,
            )
          ]

      pub arrives : (d : ℕ) → defines d ≡ true → {k : ℕ} → Path p fn defines d k → Arrives d k
      arrives d is (step {j = k} e) = step_arrives d k is e
      arrives d is (more {i = i} {j = k} path none e) = elim (cases_eq (head k) k) [
        | inl begins ↦ more_begins d i k e begins none (arrives d is path)
        | inr other ↦ more_inside d i k e other none (arrives d is path)
      ]

  module _ (defines : ℕ → Bool) where
    -- a definition that comes to a place stands in its block, or none does
    pub local_or_exposed : (d : ℕ) → defines d ≡ true → {k : ℕ} → Path p fn defines d k → IsLocal heads defines d k ⊎ IsExposed heads defines k
    local_or_exposed d is (step {j = k} e) = elim (cases_eq (head k) k) [
      | inl begins ↦ inr (λ j l u. absurd (omega arith))
      | inr other ↦
          let here = cut.low k e.to in
          let b = inner k e.to (omega arith) in
          let before = b.only_from d e in
          let at = b.is in
          let low = cut.low d e.from in
          let same : head d ≡ head k = ap head before ∙ b.same in
          inl (record { low = omega arith; high = omega arith; defines_it = is; last = λ j l u. absurd (omega arith) })
    ]
    local_or_exposed d is (more {i = i} {j = k} path none e) = elim (cases_eq (head k) k) [
      | inl begins ↦ inr (λ j l u. absurd (omega arith))
      | inr other ↦
          let here = cut.low k e.to in
          let b = inner k e.to (omega arith) in
          let before = b.only_from i e in
          let at = b.is in
          let same : head i ≡ head k = ap head before ∙ b.same in
          elim (local_or_exposed d is path) [
            | inl local ↦
                let low = local.low in
                let high = local.high in
                inl (record {
                  low = omega arith;
                  high = omega arith;
                  defines_it = local.defines_it;
                  last = λ j l u. elim (cases_eq j i) [ inl at_i ↦ subst (λ x. defines x ≡ false) (sym at_i) none | inr not_it ↦ local.last j l (omega arith) ];
                })
            | inr exposed ↦ inr (λ j l u. elim (cases_eq j i) [ inl at_i ↦ subst (λ x. defines x ≡ false) (sym at_i) none | inr not_it ↦ exposed j (omega arith) (omega arith) ])
          ]
    ]
