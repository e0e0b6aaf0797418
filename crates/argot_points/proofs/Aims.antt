-- The targets that tables have, as contracts see them, and in order.
use Rattle.std.proofs.Common.{◌≡◌, ℕ, ◌+◌, ◌<◌, ◌≤◌, Bool, true, false, List, [], ◌++◌, map, sym, ap, ◌∙◌, inl, inr, arith, subst}
use Rattle.std.specs.Prelude.{◌↔◌, length}
use Rattle.std.proofs.lemmas.Bool.{cases_lt, both_ways}
use Rattle.std.proofs.lemmas.Option.{slice_get_past}
use Rattle.argot_links.specs.Members.{IsAscending}
use Rattle.argot_links.specs.Table.{has}
use Rattle.argot_plain.specs.Lists.{In}
use Rattle.argot_plain.specs.Code.{Code, IsAt, IsFunction, IsIn}
use Rattle.argot_plain.specs.WellFormed.{HasRanges, HasEntry}
use Rattle.argot_plain.specs.declared.functions.Function.{Function}
use Rattle.argot_plain.specs.declared.instructions.Callee.{Callee}
use Rattle.argot_facts.proofs.Listed.{In-append, In-left, In-right, In-mapped, In-map, Sorted, sorted_append, get-map, get_at, get_within}
use Rattle.argot_facts.proofs.Placed.{one_function}
use Rattle.argot_facts.specs.Findings.{TargetBefore, by_place, by_function}
use Rattle.argot_points_rules.specs.Column.{reference}
use Rattle.argot_points.specs.declared.system.System.{System}
use Rattle.argot_points.specs.declared.system.Tables.{Tables}
use Rattle.argot_points.specs.Meaning.{IsCall, Aimed}
use Rattle.argot_points.specs.Reading.{HasTarget, AreListed, IsLivePlace, begins, start_of}
use Rattle.argot_points.specs.Solved.{Refers}
use Rattle.argot_points.proofs.Rows.{ascending_sorted}

-- ---- where functions begin

module _ (p : Code) (r : HasRanges p) where
  pub start_here : (h : ℕ) (fn : Function) → IsFunction p h fn → start_of p h ≡ fn.entry
  start_here h fn is = ap (λ o. begins o (length p.instrs)) is

  pub start_end : (h : ℕ) → length p.functions ≤ h → start_of p h ≡ length p.instrs
  start_end h l = ap (λ o. begins o (length p.instrs)) (slice_get_past p.functions h l)

  pub start_first : HasEntry p → start_of p 0 ≡ 0
  start_first e = start_here 0 e.fn e.is ∙ r.first e.fn e.is

  pub start_next : (h : ℕ) (fn : Function) → IsFunction p h fn → start_of p (h + 1) ≡ fn.leave + 1
  start_next h fn is = elim (cases_lt (h + 1) (length p.functions)) [
    | inl l ↦ let after = get_at p.functions (h + 1) l in start_here (h + 1) after.0 after.1 ∙ r.next h fn after.0 is after.1
    | inr m ↦ start_end (h + 1) m ∙ sym (r.last h fn is (omega (arith, m, get_within p.functions h fn is)))
  ]

-- ---- lists of targets

module _ (s : System) (t : Tables) where
  -- nothing is a target before the first place
  pub listed_first : AreListed s t 0 []
  listed_first = record { order = λ m n a b l h k. absurd cc; each = λ j g. (λ m. elim m [ ], λ x. absurd (omega (arith, x.0))) }

  -- places without targets are passed over
  pub listed_over : (i k : ℕ) (found : List (ℕ × ℕ)) → i ≤ k → AreListed s t i found → ((j g : ℕ) (takes : Bool) → i ≤ j → j < k → HasTarget s t j g takes → ⊥) → AreListed s t k found
  listed_over i k found l x none = record {
    order = x.order;
    each = λ j g. (
      λ m. let y = (x.each j g).0 m in (omega (arith, y.0), y.1),
      λ y. elim (cases_lt j i) [
        | inl b ↦ (x.each j g).1 (b, y.1)
        | inr a ↦ absurd (none j g y.1.0 a y.0 y.1.1)
      ],
    );
  }

  pub listed_none : (i : ℕ) (found : List (ℕ × ℕ)) → AreListed s t i found → ((callee : Callee) (args : List ℕ) (n : ℕ) → IsCall s.program.now i callee args n → ⊥) → AreListed s t (i + 1) found
  listed_none i found x none = listed_over i (i + 1) found (omega arith) x
      (λ j g takes a b target.
      let e : j ≡ i = omega arith in
      none target.callee target.args target.behind (record { kind = target.kind; is = subst (λ w. IsAt s.program.now w target.kind) e target.at; hands = target.hands }))

  -- so are those of functions that aren't live
  pub listed_dead : (h : ℕ) (fn : Function) (found : List (ℕ × ℕ)) → HasRanges s.program.now → IsFunction s.program.now h fn → has t.live 0 h ≡ false → AreListed s t (start_of s.program.now h) found → AreListed s t (start_of s.program.now (h + 1)) found
  listed_dead h fn found r is dead x =
      let low = start_here s.program.now r h fn is in
      let high = start_next s.program.now r h fn is in
      let i = r.inside h fn is in
      listed_over (start_of s.program.now h) (start_of s.program.now (h + 1)) found (omega (arith, low, high, i.0, i.1)) x
      (λ j g takes a b target.
      let here : IsIn s.program.now j h = record { fn = fn; is = is; low = omega (arith, low, a); high = omega (arith, high, b) } in
      let same = one_function s.program.now r j target.function h target.inside here in
      both_ways (has t.live 0 h) dead (subst (λ w. has t.live 0 w ≡ true) same target.live))

  module _ (i : ℕ) (found : List (ℕ × ℕ)) (marks : List ℕ) (callee : Callee) (args : List ℕ) (n : ℕ) (old : AreListed s t i found) (ascending : IsAscending marks)
      (call : IsCall s.program.now i callee args n) (only : (c : Callee) (xs : List ℕ) (m : ℕ) → IsCall s.program.now i c xs m → (c ≡ callee) × (xs ≡ args) × (m ≡ n)) (live : IsLivePlace s t i)
      (there : (g : ℕ) (takes : Bool) → Aimed s (Refers t) i (reference i callee args n) g takes → In g marks) (marked : (g : ℕ) → In g marks → (takes : Bool) × Aimed s (Refers t) i (reference i callee args n) g takes) where
    abbrev here_pairs : List (ℕ × ℕ)
    here_pairs = map (λ g. (i, g)) marks

    pairs_order : Sorted TargetBefore here_pairs
    pairs_order m k a b l h e =
        let x = get-map {A = ℕ} {B = ℕ × ℕ} (λ g. (i, g)) marks m a h in
        let y = get-map {A = ℕ} {B = ℕ × ℕ} (λ g. (i, g)) marks k b e in
        by_function (ap (λ z. z.0) x.2 ∙ sym (ap (λ z. z.0) y.2)) (omega (arith, ascending_sorted marks ascending m k x.0 y.0 l x.1 y.1, ap (λ z. z.1) x.2, ap (λ z. z.1) y.2))

    before : (a b : ℕ × ℕ) → In a found → In b here_pairs → TargetBefore a b
    before a b m k =
        let x = (old.each a.0 a.1).0 m in
        let y = In-mapped {A = ℕ} {B = ℕ × ℕ} (λ g. (i, g)) b marks k in
        by_place (omega (arith, x.0, ap (λ z. z.0) y.2))

    aimed_here : (g : ℕ) (takes : Bool) → HasTarget s t i g takes → Aimed s (Refers t) i (reference i callee args n) g takes
    aimed_here g takes target =
        let o = only target.callee target.args target.behind (record { kind = target.kind; is = target.at; hands = target.hands }) in
        subst (λ m. Aimed s (Refers t) i (reference i callee args m) g takes) o.2
        (subst (λ xs. Aimed s (Refers t) i (reference i callee xs target.behind) g takes) o.1 (subst (λ c. Aimed s (Refers t) i (reference i c target.args target.behind) g takes) o.0 target.aimed))

    is_target : (g : ℕ) (takes : Bool) → Aimed s (Refers t) i (reference i callee args n) g takes → HasTarget s t i g takes
    is_target g takes aimed = record { function = live.function; inside = live.inside; live = live.live; kind = call.kind; at = call.is; callee = callee; args = args; behind = n; hands = call.hands; aimed = aimed }

    to_target : (j g : ℕ) → In (j, g) (found ++ here_pairs) → (j < i + 1) × ((takes : Bool) × HasTarget s t j g takes)
    to_target j g m = elim (In-append (j, g) found here_pairs m) [
      | inl h ↦ let x = (old.each j g).0 h in (omega (arith, x.0), x.1)
      | inr h ↦
          let y = In-mapped {A = ℕ} {B = ℕ × ℕ} (λ g. (i, g)) (j, g) marks h in
          let e : j ≡ i = ap (λ z. z.0) y.2 in
          let f : g ≡ y.0 = ap (λ z. z.1) y.2 in
          let a = marked y.0 y.1 in
          (omega (arith, e), (a.0, subst (λ w. HasTarget s t w g a.0) (sym e) (subst (λ w. HasTarget s t i w a.0) (sym f) (is_target y.0 a.0 a.1))))
    ]

    from_target : (j g : ℕ) → (j < i + 1) × ((takes : Bool) × HasTarget s t j g takes) → In (j, g) (found ++ here_pairs)
    from_target j g x = elim (cases_lt j i) [
      | inl l ↦ In-left (j, g) found here_pairs ((old.each j g).1 (l, x.1))
      | inr m ↦
          let e : i ≡ j = omega (arith, m, x.0) in
          let target = subst (λ w. HasTarget s t w g x.1.0) (sym e) x.1.1 in
          subst (λ w. In (w, g) (found ++ here_pairs)) e (In-right (i, g) found here_pairs (In-map {A = ℕ} {B = ℕ × ℕ} (λ g. (i, g)) g marks (there g x.1.0 (aimed_here g x.1.0 target))))
    ]

    pub listed_call : AreListed s t (i + 1) (found ++ map (λ g. (i, g)) marks)
    listed_call = record { order = sorted_append TargetBefore found here_pairs old.order pairs_order before; each = λ j g. (to_target j g, from_target j g) }

  -- all places
  pub listed_all : (found : List (ℕ × ℕ)) → HasRanges s.program.now → AreListed s t (length s.program.now.instrs) found → (j g : ℕ) → In (j, g) found ↔ ((takes : Bool) × HasTarget s t j g takes)
  listed_all found r x j g = (λ m. ((x.each j g).0 m).1, λ y. let i = r.inside y.1.function y.1.inside.fn y.1.inside.is in (x.each j g).1 (omega (arith, y.1.inside.high, i.2), y))
