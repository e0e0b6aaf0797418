-- Tables of nothing but the entry are sound.
use Rattle.std.proofs.Common.{◌≡◌, ℕ, ◌<◌, false, length, ◌∙◌, inl, inr}
use Rattle.std.proofs.lemmas.Bool.{both_ways}
use Rattle.std.proofs.lemmas.Option.{slice_get_within}
use Rattle.argot_links.specs.Table.{Table, has, SameShape}
use Rattle.argot_links.specs.Pairs.{AddsPair}
use Rattle.argot_links.specs.Waiting.{Waiting}
use Rattle.argot_facts.specs.Refers.{entry_is_live}
use Rattle.argot_points.specs.declared.system.System.{System}
use Rattle.argot_points.specs.declared.system.Tables.{Tables}
use Rattle.argot_points.specs.Meaning.{LiveAt}
use Rattle.argot_points.specs.Solved.{Fits, HasSize, IsSound, place_row}

has_entry : (s : System) → Fits s → 0 < length s.program.now.functions
has_entry s f = slice_get_within s.program.now.functions 0 f.well.entry_function.fn f.well.entry_function.is

pub sound_start : (s : System) (t : Tables) (r l m : Table) (q : Waiting) → q.size ≡ t.grown.size → Fits s → HasSize s t
    → SameShape t.refers r → ((a b : ℕ) → has r a b ≡ false) → SameShape t.live l → ((a b : ℕ) → has l a b ≡ false) → SameShape l m → AddsPair (has l) (has m) 0 0
    → IsSound s (record { refers = r; live = m; grown = q })
sound_start s t r l m q size f z rs re ls le ms adds = record {
  size = record { rows = rs.rows ∙ z.rows; cols = rs.cols ∙ z.cols; live_rows = ms.rows ∙ ls.rows ∙ z.live_rows; live_cols = ms.cols ∙ ls.cols ∙ z.live_cols; grown = size ∙ z.grown };
  within = λ n y h. absurd (both_ways _ (re n y) h);
  nodes = λ n y i h. absurd (both_ways _ (re n y) h);
  places = λ n y i h. absurd (both_ways _ (re (place_row s n) y) h);
  functions = λ g h. elim (adds.only 0 g h) [ inl o ↦ absurd (both_ways _ (le 0 g) o) | inr e ↦ rw e.1 (has_entry s f) ];
  live = λ g h. elim (adds.only 0 g h) [ inl o ↦ absurd (both_ways _ (le 0 g) o) | inr e ↦ rw e.1 (entry_live s) ];
  entry = adds.there;
}
  where
    entry_live : (s : System) → LiveAt s 0
    entry_live s = record { holds = entry_is_live }
