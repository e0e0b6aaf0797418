use Rattle.std.proofs.Common.{◌≡◌, List, [], Result, Ok, Err, ℕ, sym, subst}
use Rattle.std.specs.Prelude.{IfOk, ◌↔◌}
use Rattle.argot_names_rules.specs.Lists.{IsListOf}
use Rattle.argot_names_rules.specs.Lists
use Rattle.argot_names_rules.specs.Subset.{HasFeature}
use Rattle.argot_names_subset_file.specs.declared.spots.Spot.{Spot}
use Rattle.argot_names_subset_file.specs.Spots.{IsSpotted, IsSpotBefore, Adds}
use Rattle.argot_names_subset_file.proofs.Adding.{Claim}
use Rattle.argot_names_subset_file.proofs.Gathering.{gathered}
use Rattle.argot_names_subset.specs.Known.{handed_of}
use Rattle.argot_names_subset.specs.Meanings.{ArePackageKeys}
use Rattle.argot_names_subset.specs.Folders.{IsFolderOf}
use Rattle.argot_names_subset.specs.Others.{HasFolder}
use Rattle.argot_names_subset.proofs.Whole.{homes_are, whole_added}
use Rattle.argot_names_subset.proofs.flagging.spots_in.Goals as goal

given : {V E : Type 0} (items : V → List Spot) (P : Claim) (old keys : List Spot) (r : Result V E) → old ≡ [] → IfOk r (λ v. items v ≡ keys) → IfOk r (λ v. Lists.IsOrdered IsSpotBefore (items v)) → Adds P old keys
    → IfOk r (λ v. IsListOf IsSpotBefore (IsSpotted P) (items v))
given items P old keys (Ok v) none same sorted a = gathered P old keys (items v) none same sorted a
given items P old keys (Err e) none same sorted a = tt

pub returns : goal.returns
returns c = λ main is tables.
    let k = c.args.known.now in
    let h = handed_of k in
    let are : ArePackageKeys h is.homes c.as_slice-packages.result.now = subst (ArePackageKeys h is.homes) (sym c.as_slice-packages.ensures) (homes_are h main c.args.packages.now is) in
    let table : (q : List ℕ) → HasFolder c.in_ok-folders.folders q ↔ IsFolderOf k.files.sources.now c.args.packages.now.packages q = subst (λ ps. (q : List ℕ) → HasFolder c.in_ok-folders.folders q ↔ IsFolderOf k.files.sources.now ps q) c.as_slice-packages.ensures c.in_ok-folders.ensures in
    given (λ v. v.items) (HasFeature h main k.entries.now) c.new-spots.result.keys c.note_others.new.spots.keys c.listed.result c.new-spots.ensures.empty c.listed.ensures.items c.listed.ensures.ordered
    (whole_added h main c.args.packages.now is k.entries.now c.in_ok-folders.folders table c.new-spots.result.keys c.note_packages.new.spots.keys c.note_others.new.spots.keys (c.in_ok-note_packages.ensures is.homes tables are) c.in_ok-note_others.ensures)
