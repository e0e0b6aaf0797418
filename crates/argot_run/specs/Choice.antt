-- What a folder's sources are, as the program tells it.
use Rattle.std.specs.Prelude.{ℕ, List}
use Rattle.argot_run.specs.Listed.{HasNoSource, HasOthers, HasMainAlone}
use Rattle.argot_run.specs.declared.listed.Sources.{Sources}
use Rattle.argot_run.specs.declared.listed.Sources.TheVariants as sources

abbrev pub Chooses : List (List ℕ) → Sources → Type 0
Chooses paths sources.None = HasNoSource paths
Chooses paths sources.MainAlone = HasMainAlone paths
Chooses paths sources.Others = HasOthers paths
