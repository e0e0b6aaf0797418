use Rattle.std.proofs.Common.{List}
use Rattle.argot_names_rules.specs.declared.package_key.PackageKey.{PackageKey}
use Rattle.argot_names_subset_file.specs.Spots.{Adds}
use Rattle.argot_names_subset_file.proofs.Adding.{UpTo}
use Rattle.argot_names_subset.specs.Meanings.{AreTables, ArePackageKeys}
use Rattle.argot_names_subset.specs.Known.{handed_of}
use Rattle.argot_names_subset.proofs.Packaging.{IsKeyNumbered}
use Rattle.argot_names_subset.proofs.packages.note_packages.Given as goal

abbrev pub invariant-loop-k : goal.invariant-loop-k
invariant-loop-k l = (homes : List PackageKey) → AreTables (handed_of l.known) homes l.known.named.now l.known.typed.now → ArePackageKeys (handed_of l.known) homes l.packages → Adds (UpTo (IsKeyNumbered (handed_of l.known) l.known.entries.now homes) l.k) l.initial.spots.keys l.spots.keys
