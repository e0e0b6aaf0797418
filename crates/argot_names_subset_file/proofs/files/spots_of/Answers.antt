use Rattle.std.specs.Prelude.{Result, Ok, Err, IfOk}
use Rattle.std.proofs.Common.{◌≡◌, List, []}
use Rattle.argot_names_rules.specs.Lists.{IsListOf}
use Rattle.argot_names_rules.specs.Lists
use Rattle.argot_names_subset_file.specs.declared.spots.Spot.{Spot}
use Rattle.argot_names_subset_file.specs.Spots.{IsSpotted, IsSpotBefore, Adds}
use Rattle.argot_names_subset_file.specs.Files.{IsInFile}
use Rattle.argot_names_subset_file.proofs.Adding.{Claim}
use Rattle.argot_names_subset_file.proofs.Gathering.{gathered}
use Rattle.argot_names_subset_file.proofs.files.spots_of.Goals as goal

given : {V E : Type 0} (items : V → List Spot) (P : Claim) (old keys : List Spot) (r : Result V E) → old ≡ [] → IfOk r (λ v. items v ≡ keys) → IfOk r (λ v. Lists.IsOrdered IsSpotBefore (items v)) → Adds P old keys
    → IfOk r (λ v. IsListOf IsSpotBefore (IsSpotted P) (items v))
given items P old keys (Ok v) none same sorted a = gathered P old keys (items v) none same sorted a
given items P old keys (Err e) none same sorted a = tt

pub returns : goal.returns
returns c = given (λ v. v.items) (IsInFile c.args.view.now c.args.directives.now) c.new-spots.result.keys c.note_file.new.spots.keys c.listed.result c.new-spots.ensures.empty c.listed.ensures.items c.listed.ensures.ordered c.in_ok-note_file.ensures
