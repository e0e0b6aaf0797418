use Rattle.std.proofs.Common.{List}
use Rattle.argot_names_rules.specs.declared.package_key.PackageKey.{PackageKey}
use Rattle.argot_names_subset_file.specs.Spots.{Adds}
use Rattle.argot_names_subset_file.proofs.Adding.{UpTo}
use Rattle.argot_names_subset.specs.Files.{IsPackageAmong}
use Rattle.argot_names_subset.specs.Known.{handed_of}
use Rattle.argot_names_subset.proofs.Packaging.{IsFileNumbered}
use Rattle.argot_names_subset.proofs.packages.note_package.Given as goal

abbrev pub invariant-loop-k : goal.invariant-loop-k
invariant-loop-k l =
    (homes : List PackageKey) (home : PackageKey) → IsPackageAmong l.known homes home l.package
    → Adds (UpTo (IsFileNumbered (handed_of l.known) l.known.entries.now home l.package.files) l.k) l.initial.spots.keys l.spots.keys
