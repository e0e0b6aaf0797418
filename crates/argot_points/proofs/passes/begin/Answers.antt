use Rattle.std.proofs.Common.{inl, inr}
use Rattle.std.proofs.lemmas.Bool.{both_ways}
use Rattle.argot_points.proofs.Sound.{sound_start}
use Rattle.argot_points.proofs.passes.begin.Goals as goal

pub returns : goal.returns
returns c = record {
  sound = sound_start c.args.system.now c.args.tables.now _ c.clear-2.new.self _ c.forget.new.grown c.forget.ensures.size c.requires.fits c.requires.size c.clear.ensures.shape c.clear.ensures.empty c.clear-2.ensures.shape c.clear-2.ensures.empty c.add.ensures.shape c.add.ensures.adds;
  empty = c.clear.ensures.empty;
  entry = λ g h. elim (c.add.ensures.adds.only 0 g h) [ inl o ↦ absurd (both_ways _ (c.clear-2.ensures.empty 0 g) o) | inr e ↦ e.1 ];
  none = c.forget.ensures.none;
}
