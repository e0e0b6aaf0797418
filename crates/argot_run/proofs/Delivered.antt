-- What a sink took, from what `write_all` says of it.
use Rattle.std.proofs.Common.{◌≡◌, ℕ, ◌<◌, List, length, take, Option, ◌∙◌, ap, subst}
use Rattle.argot_io.specs.Faults.{Rose}
use Rattle.argot_io.specs.Taken.{taken_with}
use Rattle.argot_run.specs.Ends.{TookAll, TookPart}

pub took_all :
    (text shown : List ℕ) (before now : ℕ) (had has : Option (List ℕ)) → shown ≡ text → (now ≡ before) × (has ≡ taken_with had shown) →
    TookAll text (record { faults_before = before; faults_now = now; taken_before = had; taken_now = has })
took_all text shown before now had has same took = record { faults = took.0; taken = took.1 ∙ ap (taken_with had) same }

pub took_part :
    (text shown : List ℕ) (before now : ℕ) (had has : Option (List ℕ)) → shown ≡ text →
    Rose before now × ((n : ℕ) × (n < length shown) × (has ≡ taken_with had (take n shown))) →
    TookPart text (record { faults_before = before; faults_now = now; taken_before = had; taken_now = has })
took_part text shown before now had has same took =
    record {
      rose = took.0;
      count = took.1.0;
      proper = subst (λ (t : List ℕ). took.1.0 < length t) same took.1.1;
      taken = took.1.2 ∙ ap (λ (t : List ℕ). taken_with had (take took.1.0 t)) same;
    }
