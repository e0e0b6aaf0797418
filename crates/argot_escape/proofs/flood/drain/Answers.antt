use Rattle.std.proofs.Common.{refl, sym, ◌∙◌, inl, inr, arith, subst}
use Rattle.argot_facts.specs.Marked.{IsSet}
use Rattle.argot_escape.specs.Flooding.{LeadsTo, at_start, led_to}
use Rattle.argot_escape.proofs.flood.drain.Goals as goal

pub sites-init : goal.sites-init
sites-init c = record {
  ready = c.requires.ready;
  led = c.requires.led;
  set = c.requires.set;
  count = refl;
  kept = λ m s. s;
  only = λ m s. at_start s;
}

pub sites-preserved : goal.sites-preserved
sites-preserved c =
    let x = c.args.points.now in
    let site = c.in-Some.site in
    let i = c.sites.invariant in
    let f = c.visit.ensures in
    let new = c.visit.new.found in
    let chosen : IsSet c.sites.found.flags.items site = i.set site c.in-Some.ensures.first in
    record {
      ready = record { sites = λ s y h. let l = i.ready.sites s y h in let k = f.count in omega arith; size = f.size ∙ c.in-Some.ensures.size ∙ i.ready.size ∙ sym f.count };
      led = λ s m set leads. elim (f.fresh s set) [
        | inl old ↦ elim (i.led s m old leads) [
          | inl there ↦ inl (f.kept m there)
          | inr waits ↦ elim (c.in-Some.ensures.others s waits) [
            | inl e ↦ inl (f.there m (subst (λ z. LeadsTo x z m) e leads))
            | inr w ↦ inr (f.still s w)
          ]
        ]
        | inr w ↦ inr w
      ];
      set = λ s w. elim (f.set s w) [ inl v ↦ f.kept s (i.set s (c.in-Some.ensures.rest s v)) | inr t ↦ t ];
      count = f.count ∙ i.count;
      kept = λ m s. f.kept m (i.kept m s);
      only = λ m s. elim (f.only m s) [ inl old ↦ i.only m old | inr leads ↦ led_to site (i.only site chosen) leads ];
    }

pub returns-in-None-clause-closed : goal.returns-in-None-clause-closed
returns-in-None-clause-closed c = λ s m set leads. elim (c.sites.invariant.led s m set leads) [
  | inl there ↦ there
  | inr waits ↦ let none = c.in-None.ensures.empty refl s in absurd cc
]
