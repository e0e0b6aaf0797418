use Rattle.std.proofs.Common.{◌≡◌, [], true, false, length, refl, sym, ap, ◌∙◌, subst, inl, inr}
use Rattle.argot_plain.specs.Lists.{In, IsDistinct}
use Rattle.argot_facts.proofs.Located.{locations_are}
use Rattle.argot_points_rules.specs.Column.{rules_of}
use Rattle.argot_graph_edges.specs.Accessing.{Written, Readable}
use Rattle.argot_graph_edges.specs.Whole.{AreRuns}
use Rattle.argot_graph_edges.proofs.answer.sketched.Goals as goal

pub accesses-requires : goal.accesses-requires
accesses-requires c = subst IsDistinct (sym c.requires.fits.locations) (locations_are c.args.drawing.now.program.now).distinct

pub returns : goal.returns
returns c =
    let f = c.in_ok-fill.ensures in
    record {
      only = λ e m. elim (f.only e m) [ inl n ↦ let z = subst (In e) c.new.ensures.items n in elim z [ ] | inr r ↦ r ];
      there = λ h e r. f.there h e r;
      many = λ h. f.many (λ z. let y : true ≡ false = sym z in absurd cc) h;
    }
