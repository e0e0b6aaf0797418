-- No answer that is due ends with a bound yet.
use Rattle.std.proofs.Common.{◌≡◌, List, ℕ, zero, suc}
use Rattle.argot_run.specs.Due.{Due, DueToFolder, Outside, no_source, other_files, other_text, analysed, status_of, not_listed, not_read, wrong_words, of_folder}
use Rattle.argot_run.specs.Ends.{Delivers, Ends, Sunk, reported, told, out_failed, err_failed, answered, no_memory}
use Rattle.argot_run.specs.declared.answer.Answer.{Answer}
use Rattle.argot_run.specs.declared.status.Status.{Status}
use Rattle.argot_run.specs.declared.status.Status.TheVariants.{Bound}

status_unbounded : (count : ℕ) → status_of count ≡ Bound → ⊥
status_unbounded zero e = cc e
status_unbounded (suc n) e = cc e

folder_unbounded : {dir : List ℕ} {outside : Outside} (answer : Answer) → DueToFolder dir outside answer → answer.status ≡ Bound → ⊥
folder_unbounded _ (no_source _ _ _ _) e = cc e
folder_unbounded _ (other_files _ _ _ _) e = cc e
folder_unbounded _ (other_text _ _ _ _ _ _ _) e = cc e
folder_unbounded _ (analysed _ _ count _ _ _ _ _ _) e = status_unbounded count e
folder_unbounded _ (not_listed _ _) e = cc e
folder_unbounded _ (not_read _ _ _ _ _) e = cc e

due_unbounded : {words : List (List ℕ)} {outside : Outside} (answer : Answer) → Due words outside answer → answer.status ≡ Bound → ⊥
due_unbounded _ (wrong_words _ _) e = cc e
due_unbounded answer (of_folder dir _ due) e = folder_unbounded answer due e

delivered_unbounded :
    {answer : Answer} {out err : Sunk} (status : Status) → (answer.status ≡ Bound → ⊥) → Delivers answer out err status → status ≡ Bound → ⊥
delivered_unbounded _ no' (reported _ _ _) e = no' e
delivered_unbounded _ no' (told _ _ _) e = no' e
delivered_unbounded _ no' (out_failed _ _ _) e = cc e
delivered_unbounded _ no' (err_failed _ _ _) e = cc e

pub unbounded :
    {words : List (List ℕ)} {outside : Outside} {out err : Sunk} (status : Status) → Ends words outside out err status → status ≡ Bound → ⊥
unbounded status (answered answer due delivered) e = delivered_unbounded status (due_unbounded answer due) delivered e
unbounded _ (no_memory _ _) e = cc e
