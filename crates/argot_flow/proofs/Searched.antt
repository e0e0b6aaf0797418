-- What a search has at its end, and what is left after one visit is taken back.
use Rattle.std.proofs.Common.{◌≡◌, ◌⊎◌, ℕ, suc, ◌+◌, ◌<◌, ◌≤◌, Bool, true, false, List, [], ◌∷◌, ◌++◌, length, set, Some, refl, sym, ap, ◌∙◌, subst, inl, inr, arith}
use Rattle.std.specs.Prelude.{slice_get, vec_capacity}
use Rattle.std.proofs.lemmas.Bool.{cases_lt, cases_eq}
use Rattle.std.proofs.lemmas.List.{get_or-set_same, get_or-set_other}
use Rattle.std.proofs.lemmas.Option.{slice_get_within}
use Rattle.argot_links.specs.Threaded.{free_count}
use Rattle.argot_facts.specs.Summaries.{Way, Up, Down, ReachesWithin, ReachRank}
use Rattle.argot_facts.specs.Reached.{IsEdgeIn, Reaches}
use Rattle.argot_flow.specs.Steps.{way}
use Rattle.argot_facts.specs.Reached.{IsLesserRank}
use Rattle.argot_flow.specs.Searching.{place, rank_at, IsMarked, Marks, IsVisited, IsWithin, IsSearched}
use Rattle.argot_flow.specs.declared.search.Lists.{Lists}
use Rattle.argot_flow.specs.declared.search.Search.{Search}
use Rattle.argot_flow.specs.declared.search.Visit.{Visit}
use Rattle.argot_flow.proofs.Marking.{place_alone}
use Rattle.argot_flow.proofs.Pushing.{get_pushed}

abbrev pub AreKnown : List Visit → List ℕ → Type 0
AreKnown vs ranks = (x : ℕ) → 0 < rank_at ranks x → Marks vs x (rank_at ranks x)

pub known_popped : (vs ws : List Visit) (ranks : List ℕ) (v : Visit) → place v.down v.node < length ranks → vs ≡ ws ++ v ∷ [] → AreKnown vs ranks → AreKnown ws (set ranks (place v.down v.node) 0)
known_popped vs ws ranks v l e known x some = elim (cases_eq x (place v.down v.node)) [
  | inl q ↦ (let zero_there : rank_at (set ranks (place v.down v.node) 0) x ≡ 0 = ap (rank_at (set ranks (place v.down v.node) 0)) q ∙ get_or-set_same ranks (place v.down v.node) 0 0 l in
      absurd (omega (arith, zero_there, some)))
  | inr ne ↦ (let other : rank_at (set ranks (place v.down v.node) 0) x ≡ rank_at ranks x = get_or-set_other ranks (place v.down v.node) x 0 0 ne in
      let k = known x (omega (arith, other, some)) in
      elim (get_pushed ws v k.visit k.at (subst (λ zs. slice_get zs k.at ≡ Some k.visit) e k.is)) [
        | inl old ↦ record { at = k.at; visit = k.visit; is = old; place = k.place; rank = k.rank ∙ sym other }
        | inr new ↦ absurd (ne (sym (sym (ap (λ (w : Visit). place w.down w.node) new.1) ∙ k.place)))
      ])
]

pub all_free : (ranks : List ℕ) → ((x : ℕ) → rank_at ranks x ≡ 0) → free_count ranks ≡ length ranks
all_free [] h = refl
all_free (r ∷ ranks) h =
    let first : r ≡ 0 = h 0 in
    rw first (ap suc (all_free ranks (λ x. h (suc x))))

no_marks : (x r : ℕ) → Marks [] x r → ⊥
no_marks x r m = absurd (omega (arith, slice_get_within [] m.at m.visit m.is))

pub none_known : (ranks : List ℕ) → AreKnown [] ranks → (x : ℕ) → rank_at ranks x ≡ 0
none_known ranks known x = elim (cases_eq (rank_at ranks x) 0) [ inl z ↦ z | inr ne ↦ absurd (no_marks x (rank_at ranks x) (known x (omega (arith, ne)))) ]

pub marked_none : (s : Search) → length s.ranks.items ≡ s.nodes + s.nodes → s.nodes + s.nodes ≤ vec_capacity s.visits → AreKnown [] s.ranks.items → s.visits.items ≡ [] → IsMarked s
marked_none s size room known empty =
    let gone : (i : ℕ) (v : Visit) → slice_get s.visits.items i ≡ Some v → ⊥ = λ i v at. absurd (omega (arith, slice_get_within s.visits.items i v at, ap length empty)) in
    record {
      size = size;
      room = room;
      count = omega (arith, ap length empty, all_free s.ranks.items (none_known s.ranks.items known), size);
      each = λ i v at. absurd (gone i v at);
      known = λ x some. absurd (no_marks x (rank_at s.ranks.items x) (known x some));
      inside = λ i v at. absurd (gone i v at);
    }

pub visited_more : (vs : List Visit) (d : Bool) (n k j : ℕ) → k ≤ j → IsVisited vs d n k → IsVisited vs d n j
visited_more vs d n k j l t = record { at = t.at; visit = t.visit; is = t.is; down = t.down; node = t.node; rank = omega (arith, l, t.rank) }

module _ (y : Lists) (s : Search) (h : IsSearched y s) where
  pub rank_is : (d : Bool) (n r : ℕ) → rank_at s.ranks.items (place d n) ≡ r + 1 → ReachRank (IsEdgeIn y.net.edges.now) s.from (way d) n r
  rank_is d n r e =
      let k = h.marked.known (place d n) (omega (arith, e)) in
      let same = place_alone k.visit.down d k.visit.node n k.place in
      let rank : k.visit.rank ≡ r = omega (arith, k.rank, e) in
      record {
        within = subst (λ b. IsWithin y s b r n) same.0 (subst (λ a. IsWithin y s k.visit.down r a) same.1 (subst (λ z. IsWithin y s k.visit.down z k.visit.node) rank (h.sound k.at k.visit k.is)));
        least = λ j less w. (let v = h.complete d j n w in
            let there = h.marked.each v.at v.visit v.is in
            let at : rank_at s.ranks.items (place v.visit.down v.visit.node) ≡ r + 1 = ap (λ b. rank_at s.ranks.items (place b v.visit.node)) v.down ∙ ap (λ a. rank_at s.ranks.items (place d a)) v.node ∙ e in
            omega (arith, there, at, v.rank, less));
      }

  pub none_there : (d : Bool) (n : ℕ) → rank_at s.ranks.items (place d n) ≡ 0 → (k : ℕ) → IsWithin y s d k n → ⊥
  none_there d n e k w =
      let v = h.complete d k n w in
      let there = h.marked.each v.at v.visit v.is in
      let at : rank_at s.ranks.items (place v.visit.down v.visit.node) ≡ 0 = ap (λ b. rank_at s.ranks.items (place b v.visit.node)) v.down ∙ ap (λ a. rank_at s.ranks.items (place d a)) v.node ∙ e in
      omega (arith, there, at)

  pub one_rank : (w : Way) (n r k : ℕ) → ReachRank (IsEdgeIn y.net.edges.now) s.from w n r → ReachRank (IsEdgeIn y.net.edges.now) s.from w n k → r ≤ k
  one_rank w n r k a b = elim (cases_lt k r) [ inl less ↦ absurd (a.least k less b.within) | inr more ↦ more ]

  -- the rank of one way is the lesser where the other has none, or none lower
  pub lesser : (d e : Bool) (n r : ℕ) → ((b : Bool) → (b ≡ d) ⊎ (b ≡ e)) → ReachRank (IsEdgeIn y.net.edges.now) s.from (way d) n r
      → ((k : ℕ) → ReachRank (IsEdgeIn y.net.edges.now) s.from (way e) n k → r ≤ k) → IsLesserRank (IsEdgeIn y.net.edges.now) s.from n r
  lesser d e n r both has other = record {
    way = way d;
    has = has;
    least = λ w k x. least w k x;
  }
    where
      by_flag : (b : Bool) (k : ℕ) → ReachRank (IsEdgeIn y.net.edges.now) s.from (way b) n k → r ≤ k
      by_flag b k x = elim (both b) [
        | inl q ↦ one_rank (way d) n r k has (subst (λ z. ReachRank (IsEdgeIn y.net.edges.now) s.from (way z) n k) q x)
        | inr q ↦ other k (subst (λ z. ReachRank (IsEdgeIn y.net.edges.now) s.from (way z) n k) q x)
      ]

      least : (w : Way) (k : ℕ) → ReachRank (IsEdgeIn y.net.edges.now) s.from w n k → r ≤ k
      least Up k x = by_flag false k x
      least Down k x = by_flag true k x

  pub not_reached : (n : ℕ) → rank_at s.ranks.items (place false n) ≡ 0 → rank_at s.ranks.items (place true n) ≡ 0 → Reaches (IsEdgeIn y.net.edges.now) s.from n → ⊥
  not_reached n up down t = by_way t.way t.rounds t.within
    where
      by_way : (w : Way) (k : ℕ) → ReachesWithin (IsEdgeIn y.net.edges.now) s.from w k n → ⊥
      by_way Up k x = none_there false n up k x
      by_way Down k x = none_there true n down k x
