-- The declaration of one block that a name means, sought from the last new name of the block back.
use Rattle.std.proofs.Common.{◌≡◌, ℕ, ◌+◌, ◌<◌, ◌≤◌, List, length, Bool, Option, Some, None, ◌⊎◌, inl, inr, refl, sym, ◌∙◌, subst, arith}
use Rattle.std.specs.Prelude.{slice_get}
use Rattle.std.proofs.lemmas.Bool.{cases_lt}
use Rattle.std.proofs.lemmas.Option.{slice_get_within}
use Rattle.argot_tree.specs.declared.token.Token.{Token}
use Rattle.argot_names_blocks.specs.declared.binding.Binding.{Binding}
use Rattle.argot_files.proofs.Listed.{some_is}
use Rattle.argot_names_scopes.specs.declared.file.FileNames.{FileNames}
use Rattle.argot_names_scopes.specs.Texts.{text_in}
use Rattle.argot_names_scopes.specs.Considering.{IsConsidered}
use Rattle.argot_names_scopes.specs.Tables.{CoversAt, IsLastNew, AreBefores}
use Rattle.argot_names_scopes.specs.Meant.{IsInScope, IsScoped, IsAhead, IsBestFrom, IsBetter}

-- one more than a number, or none
abbrev pub rank : Option ℕ → ℕ
rank None = 0
rank (Some k) = k + 1

module _ (bytes : List ℕ) (tokens : List Token) (brought : List Binding) (news : List Bool) (token : ℕ) (name : List ℕ) where
  abbrev Scoped : ℕ → Binding → Type 0
  Scoped = IsScoped bytes tokens brought news token name

  abbrev From : ℕ → ℕ → Option Binding → Type 0
  From = IsBestFrom bytes tokens brought news token name

  -- from this number on all is looked at, and the next one to look at is the last before it
  pub record Sought (opens : ℕ) (at : Option ℕ) (best : Option Binding) : Type 0 where
    pub bound : ℕ
    pub last : IsLastNew bytes tokens brought news opens name bound at
    pub from : From opens bound best

  pub begin : (opens : ℕ) (at : Option ℕ) → IsLastNew bytes tokens brought news opens name (length brought) at → Sought opens at None
  begin opens at last =
      record {
        bound = length brought;
        last = last;
        from = record {
          there = λ b e. absurd (cc);
          best = λ b other k e l s same. absurd (cc);
          none = λ other k e l s same. absurd (omega (arith, l, slice_get_within brought k other s.there));
        };
      }

  -- what stands between the last one and the bound is covered by it
  is_last : (opens bound k : ℕ) (at : Option ℕ) → IsLastNew bytes tokens brought news opens name bound at → at ≡ Some k → (j : ℕ) (other : Binding) → k ≤ j → j < bound → Scoped j other → other.opens ≡ opens → (j ≡ k) ⊎ CoversAt brought k j
  is_last opens bound k at last e j other low high s same =
      elim (last.last k j e high (record { item = other; named = record { there = s.there; block = same; spells = s.is.spells }; new = s.new })) [
        | inl top ↦ inl (omega (arith, low, top))
        | inr by ↦ inr by
      ]

  -- item k isn't in scope
  pub seek_past : (opens bound k : ℕ) (at : Option ℕ) (b : Binding) (r : Option Binding) → IsLastNew bytes tokens brought news opens name bound at → at ≡ Some k → From opens bound r → slice_get brought k ≡ Some b → (IsInScope bytes tokens token name b → ⊥) → From opens k r
  seek_past opens bound k at b r last e h there not =
      record {
        there = h.there;
        best = λ a other j f l s same. elim (cases_lt j bound) [
          | inl less ↦ absurd (never j other (is_last opens bound k at last e j other l less s same) s)
          | inr more ↦ h.best a other j f more s same
        ];
        none = λ other j f l s same. elim (cases_lt j bound) [
          | inl less ↦ absurd (never j other (is_last opens bound k at last e j other l less s same) s)
          | inr more ↦ h.none other j f more s same
        ];
      }
    where
      -- item k has the name
      spells : text_in bytes tokens b.token ≡ name
      spells =
          let n = last.there k e in
          subst (λ (x : Binding). text_in bytes tokens x.token ≡ name) (some_is n.1.item b (sym n.1.named.there ∙ there)) n.1.named.spells

      never : (j : ℕ) (other : Binding) → (j ≡ k) ⊎ CoversAt brought k j → Scoped j other → ⊥
      never j other (inr by) s =
          let over = by b other there s.there in
          not (record { named = λ blank. s.is.named (s.is.spells ∙ (sym spells ∙ blank)); spells = spells; from = omega (arith, over.from, s.is.from); to = omega (arith, over.closes, s.is.to) })
      never j other (inl same) s = not (subst (IsInScope bytes tokens token name) (some_is other b (sym s.there ∙ subst (λ x. slice_get brought x ≡ Some b) (sym same) there)) s.is)

  through : (a c other : Binding) → IsAhead a c → IsAhead c other → IsAhead a other
  through a c other (inl p) (inl q) = inl (omega arith)
  through a c other (inl p) (inr q) = inl (omega (arith, q.0))
  through a c other (inr p) (inl q) = inl (omega (arith, p.0))
  through a c other (inr p) (inr q) = inr (p.0 ∙ q.0, omega (arith, p.1, q.1))

  -- item k is
  pub seek_with : (opens bound k : ℕ) (at : Option ℕ) (b : Binding) (r result : Option Binding) → IsLastNew bytes tokens brought news opens name bound at → at ≡ Some k → From opens bound r → slice_get brought k ≡ Some b → IsInScope bytes tokens token name b → IsBetter r b result → From opens k result
  seek_with opens bound k at b r result last e h there is by =
      record {
        there = λ a f. elim by.one [
          | inl old ↦ h.there a (sym old ∙ f)
          | inr new ↦ (k, subst (Scoped k) (some_is b a (sym new ∙ f)) own.0, subst (λ (x : Binding). x.opens ≡ opens) (some_is b a (sym new ∙ f)) own.1)
        ];
        best = λ a other j f l s same. elim (cases_lt j bound) [
          | inl less ↦ ahead a other j f (is_last opens bound k at last e j other l less s same) s same
          | inr more ↦ older r refl a other j f more s same
        ];
        none = λ other j f l s same. by.some f;
      }
    where
      own : Scoped k b × (b.opens ≡ opens)
      own =
          let n = last.there k e in
          let one : n.1.item ≡ b = some_is n.1.item b (sym n.1.named.there ∙ there) in
          (record { there = there; new = n.1.new; is = is }, subst (λ (x : Binding). x.opens ≡ opens) one n.1.named.block)

      ahead : (a other : Binding) (j : ℕ) → result ≡ Some a → (j ≡ k) ⊎ CoversAt brought k j → Scoped j other → other.opens ≡ opens → IsAhead a other
      ahead a other j f (inl number) s same = subst (IsAhead a) (some_is b other (sym there ∙ subst (λ x. slice_get brought x ≡ Some other) number s.there)) (by.not_behind a f)
      ahead a other j f (inr over) s same = through a b other (by.not_behind a f) (inr (own.1 ∙ sym same, (over b other there s.there).node))

      older : (q : Option Binding) → r ≡ q → (a other : Binding) (j : ℕ) → result ≡ Some a → bound ≤ j → Scoped j other → other.opens ≡ opens → IsAhead a other
      older None e a other j f l s same = absurd (h.none other j e l s same)
      older (Some c) e a other j f l s same = through a c other (by.kept a c e f) (h.best c other j e l s same)

  -- the last one before item k
  pub next_last : (opens bound k : ℕ) (at before : Option ℕ) (befores : List (Option ℕ)) → IsLastNew bytes tokens brought news opens name bound at → at ≡ Some k → AreBefores bytes tokens brought news befores → slice_get befores k ≡ Some before → IsLastNew bytes tokens brought news opens name k before
  next_last opens bound k at before befores last e all got =
      let n = last.there k e in
      subst (λ x. IsLastNew bytes tokens brought news x name k before) n.1.named.block
      (subst (λ x. IsLastNew bytes tokens brought news n.1.item.opens x k before) n.1.named.spells (all k n.1.item before n.1.named.there got))

  -- nothing is left to look at
  pub all_sought : (opens : ℕ) (at : Option ℕ) (r : Option Binding) → Sought opens at r → at ≡ None → From opens 0 r
  all_sought opens at r h e =
      record {
        there = h.from.there;
        best = λ a other j f l s same. h.from.best a other j f (above j other s same) s same;
        none = λ other j f l s same. h.from.none other j f (above j other s same) s same;
      }
    where
      above : (j : ℕ) (other : Binding) → Scoped j other → other.opens ≡ opens → h.bound ≤ j
      above j other s same = elim (cases_lt j h.bound) [
        | inl less ↦ absurd (h.last.none j e less (record { item = other; named = record { there = s.there; block = same; spells = s.is.spells }; new = s.new }))
        | inr more ↦ more
      ]

-- one more item is looked at
pub sought_on : (n : FileNames) (token : ℕ) (name : List ℕ) (opens k : ℕ) (at before : Option ℕ) (r result : Option Binding) → AreBefores n.bytes.now n.tokens.now n.bindings.brought.items n.news.items n.links.befores.items
    → Sought n.bytes.now n.tokens.now n.bindings.brought.items n.news.items token name opens at r → at ≡ Some k → IsConsidered n k token name r result → slice_get n.links.befores.items k ≡ Some before → Sought n.bytes.now n.tokens.now n.bindings.brought.items n.news.items token name opens before result
sought_on n token name opens k at before r result all h e done got =
    record {
      bound = k;
      last = next_last n.bytes.now n.tokens.now n.bindings.brought.items n.news.items token name opens h.bound k at before n.links.befores.items h.last e all got;
      from = elim done.outcome [
        | inl taken ↦ seek_with n.bytes.now n.tokens.now n.bindings.brought.items n.news.items token name opens h.bound k at done.item r result h.last e h.from done.there taken.0 taken.1
        | inr passed ↦
            subst (IsBestFrom n.bytes.now n.tokens.now n.bindings.brought.items n.news.items token name opens k) (sym passed.1)
            (seek_past n.bytes.now n.tokens.now n.bindings.brought.items n.news.items token name opens h.bound k at done.item r h.last e h.from done.there passed.0)
      ];
    }

-- the number of the next one is lower
pub falls : (n : FileNames) (token : ℕ) (name : List ℕ) (opens k : ℕ) (at before : Option ℕ) (r : Option Binding) → AreBefores n.bytes.now n.tokens.now n.bindings.brought.items n.news.items n.links.befores.items
    → Sought n.bytes.now n.tokens.now n.bindings.brought.items n.news.items token name opens at r → at ≡ Some k → slice_get n.links.befores.items k ≡ Some before → rank before < rank at
falls n token name opens k at before r all h e got = subst (λ x. rank before < rank x) (sym e) (by before refl)
  where
    last : IsLastNew n.bytes.now n.tokens.now n.bindings.brought.items n.news.items opens name k before
    last = next_last n.bytes.now n.tokens.now n.bindings.brought.items n.news.items token name opens h.bound k at before n.links.befores.items h.last e all got

    by : (x : Option ℕ) → before ≡ x → rank x < k + 1
    by None f = omega arith
    by (Some j) f = omega (arith, (last.there j f).0)

pub in_list : (n : FileNames) (token : ℕ) (name : List ℕ) (opens k : ℕ) (at : Option ℕ) (r : Option Binding) → Sought n.bytes.now n.tokens.now n.bindings.brought.items n.news.items token name opens at r → at ≡ Some k → k < length n.bindings.brought.items
in_list n token name opens k at r h e =
    let w = h.last.there k e in
    slice_get_within n.bindings.brought.items k w.1.item w.1.named.there
