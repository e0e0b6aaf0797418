-- Facts that are closed under the rules, each with a rank within which it stands, are exactly the facts with their ranks.
use Rattle.std.proofs.Common.{◌≡◌, ℕ, zero, suc, ◌+◌, ◌-◌, ◌<◌, ◌≤◌, List, Some, length, sym, ap, subst, inl, inr, arith}
use Rattle.std.specs.Prelude.{slice_get}
use Rattle.std.proofs.lemmas.Bool.{cases_lt}
use Rattle.std.proofs.lemmas.Option.{slice_get_within}
use Rattle.argot_plain.specs.Lists.{In}
use Rattle.argot_facts.proofs.Listed.{in_of_get, number_of}
use Rattle.argot_facts.specs.Graphs.{IsOrdered, EdgeBefore, by_from, by_to, by_kind}
use Rattle.argot_facts.specs.Summaries.{SameWithin, same_start, same_plain, same_over, HasRank}
use Rattle.argot_facts.specs.declared.graphs.Edge.{Edge}
use Rattle.argot_facts.specs.declared.graphs.EdgeKind.TheVariants.{Plain, Call, Return}
use Rattle.argot_facts.specs.declared.summaries.Same.{Same}
use Rattle.argot_facts.proofs.Listed.{get_at}
use Rattle.argot_facts.specs.Reached.{IsEdgeIn}
use Rattle.argot_summary.specs.Closing.{HasStarts, AreClosed}
use Rattle.argot_summary.specs.Finding.{IsThere}
use Rattle.argot_facts.specs.Summed.{same, AreApart, AreSummaries, SameBefore}
use Rattle.argot_summary.specs.Netted.{AreRising}
use Rattle.argot_summary.specs.Stepping.{IsWithin}
use Rattle.argot_summary.specs.Summed.{AreFacts}
use Rattle.argot_summary.specs.declared.net.Net.{Net}
use Rattle.argot_summary.proofs.Edging.{same_item}
use Rattle.argot_summary.proofs.Growing.{there_more}

module _ (x : Net) (fs : List Same) (starts : HasStarts x fs) (closed : AreClosed x fs (length fs)) where
  pub complete : {p n r : ℕ} → SameWithin (IsEdgeIn x.edges.now) p r n → IsThere fs p n r
  complete {p} {r = r} (same_start {c = c} m e) = there_more fs p p 0 r (omega arith) (starts m c p e)
  complete {p} {n} (same_plain {r = r} m h e) =
      let t = complete h in
      let d = closed.plain t.at n t.fact (slice_get_within fs t.at t.fact t.is) t.is (subst (λ a. IsEdgeIn x.edges.now a Plain n) (sym t.to) e) in
      subst (λ q. IsThere fs q n (suc r)) t.from (there_more fs t.fact.from n (t.fact.rank + 1) (suc r) (omega (arith, t.rank)) d)
  complete {p} {n} (same_over {r = r} m q l c h e g b) =
      let t = complete h in
      let u = complete g in
      let call : IsEdgeIn x.edges.now t.fact.to (Call c) u.fact.from = subst (λ a. IsEdgeIn x.edges.now a (Call c) u.fact.from) (sym t.to) (subst (λ a. IsEdgeIn x.edges.now m (Call c) a) (sym u.from) e) in
      let back : IsEdgeIn x.edges.now u.fact.to (Return c) n = subst (λ a. IsEdgeIn x.edges.now a (Return c) n) (sym u.to) b in
      let d = closed.over t.at u.at c n r t.fact u.fact (slice_get_within fs t.at t.fact t.is) (slice_get_within fs u.at u.fact u.is) t.is u.is call back t.rank u.rank in
      subst (λ z. IsThere fs z n (suc r)) t.from (there_more fs t.fact.from n (r + 1) (suc r) (omega arith) d)

  module _ (apart : AreApart fs) (sound : (i : ℕ) (f : Same) → slice_get fs i ≡ Some f → IsWithin x f.from f.rank f.to) where
    has_rank : (p n r : ℕ) → In (same p n r) fs → HasRank (IsEdgeIn x.edges.now) p n r
    has_rank p n r stands = let k = number_of (same p n r) fs stands in record {
      within = sound k.0 (same p n r) k.1;
      least = λ j less h. (let t = complete h in
          let one = same_item fs k.0 t.at (same p n r) t.fact (apart k.0 t.at (same p n r) t.fact k.1 t.is (sym t.from) (sym t.to)) k.1 t.is in
          let rank : r ≡ t.fact.rank = ap (λ (f : Same). f.rank) one in
          omega (arith, rank, t.rank, less));
    }

    has_fact : (p n r : ℕ) → HasRank (IsEdgeIn x.edges.now) p n r → In (same p n r) fs
    has_fact p n r h =
        let t = complete h.within in
        let f = t.fact in
        let within : SameWithin (IsEdgeIn x.edges.now) p f.rank n = subst (λ a. SameWithin (IsEdgeIn x.edges.now) a f.rank n) t.from (subst (λ b. SameWithin (IsEdgeIn x.edges.now) f.from f.rank b) t.to (sound t.at f t.is)) in
        let rank : f.rank ≡ r = elim (cases_lt f.rank r) [ inl less ↦ absurd (h.least f.rank less within) | inr more ↦ omega (arith, more, t.rank) ] in
        subst (λ a. In (same a n r) fs) t.from (subst (λ b. In (same f.from b r) fs) t.to (subst (λ k. In (same f.from f.to k) fs) rank (in_of_get fs t.at f t.is)))

    pub exact : AreFacts x.edges.now fs
    exact = record { each = λ p n r. (has_rank p n r, has_fact p n r); apart = apart }

-- edges in order rise
next_rises : (a b : Edge) → EdgeBefore a b → a.from ≤ b.from
next_rises a b (by_from l) = omega (arith, l)
next_rises a b (by_to e l) = omega (arith, e)
next_rises a b (by_kind e f k) = omega (arith, e)

rises : (es : List Edge) → IsOrdered EdgeBefore es → (n k : ℕ) (e f : Edge) → slice_get es k ≡ Some e → slice_get es (k + n) ≡ Some f → e.from ≤ f.from
rises es o zero k e f at to = let same = same_item es k (k + 0) e f (omega arith) at to in omega (arith, ap (λ (y : Edge). y.from) same)
rises es o (suc n) k e f at to =
    let inside : k + n < length es = omega (arith, slice_get_within es (k + suc n) f to) in
    let g = get_at es (k + n) inside in
    let next : k + suc n ≡ (k + n) + 1 = omega arith in
    omega (arith, rises es o n k e g.0 at g.1, next_rises g.0 f (o (k + n) g.0 f g.1 (rw next at to)))

pub ordered_rises : (es : List Edge) → IsOrdered EdgeBefore es → AreRising es
ordered_rises es o k j e f l at to =
    let n : j ≡ k + (j - k) = omega arith in
    rises es o (j - k) k e f at (rw n at to)

-- put in order they are the summaries
pub ordered_exact : (es : List Edge) (fs gs : List Same) → AreFacts es fs → IsOrdered SameBefore gs
    → ((f : Same) → In f fs → In f gs) → ((f : Same) → In f gs → In f fs) → AreSummaries es gs
ordered_exact es fs gs facts order kept only = record {
  ordered = order;
  each = λ p n r. (λ h. (facts.each p n r).0 (only (same p n r) h), λ k. kept (same p n r) ((facts.each p n r).1 k));
}
