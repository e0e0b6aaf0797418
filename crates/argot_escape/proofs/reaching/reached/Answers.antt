use Rattle.std.proofs.Common.{◌≡◌, ◌<◌, ℕ, length, sym, ◌∙◌, subst, inl, inr}
use Rattle.argot_facts.specs.Marked.{IsSet}
use Rattle.argot_escape.specs.Flooding.{IndexLeadsTo, IsReady}
use Rattle.argot_escape.proofs.Finding.{ready_on, found_as, all_found}
use Rattle.argot_escape.proofs.reaching.reached.Goals as goal

pub reach_index-requires-clause-ready : goal.reach_index-requires-clause-ready
reach_index-requires-clause-ready c = record {
  sites = λ s y h. subst (λ n. s < n) (sym c.in_ok-found.ensures.count) (c.requires.sites s y h);
  size = c.in_ok-found.ensures.size ∙ sym c.in_ok-found.ensures.count;
}

pub drain-requires-clause-ready : goal.drain-requires-clause-ready
drain-requires-clause-ready c =
    let x = c.args.points.now in
    let zero = c.in_ok-found.found in
    let ready : IsReady x.locations zero = record {
      sites = λ s y h. subst (λ n. s < n) (sym c.in_ok-found.ensures.count) (c.requires.sites s y h);
      size = c.in_ok-found.ensures.size ∙ sym c.in_ok-found.ensures.count;
    } in
    ready_on x.locations (IndexLeadsTo x c.args.place c.args.index) zero c.reach_index.new.found c.reach_index.ensures ready

pub returns : goal.returns
returns c =
    let x = c.args.points.now in
    let W = IndexLeadsTo x c.args.place c.args.index in
    λ s. (
      λ set. found_as x (IsSet c.reach_index.new.found.flags.items) W (λ m t. elim (c.reach_index.ensures.only m t) [ inl z ↦ absurd (c.in_ok-found.ensures.none m z) | inr w ↦ w ]) s (c.drain.ensures.only s set),
      λ f. all_found x W (IsSet c.drain.new.found.flags.items) (λ m w. c.drain.ensures.kept m (c.reach_index.ensures.there m w)) c.drain.ensures.closed s f,
    )
