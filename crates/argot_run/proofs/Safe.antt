-- A clean end comes from a report of no flow, and each leak of a run would be one.
use Rattle.std.proofs.Common.{◌≡◌, ℕ, zero, suc, List, Some}
use Rattle.argot_first_sound.proofs.Conclusion.{clean}
use Rattle.argot_run.specs.Due.{Due, DueToFolder, Outside, no_source, other_files, other_text, analysed, not_listed, not_read, wrong_words, of_folder}
use Rattle.argot_run.specs.Ends.{Delivers, Ends, Sunk, reported, told, out_failed, err_failed, answered, no_memory}
use Rattle.argot_run.specs.Safe.{IsSafe}
use Rattle.argot_run.specs.Words.{asked}
use Rattle.argot_run.specs.declared.answer.Answer.{Answer}
use Rattle.argot_run.specs.declared.status.Status.{Status}
use Rattle.argot_run.specs.declared.status.Status.TheVariants.{Clean}

folder_safe : {words : List (List ℕ)} {outside : Outside} (dir : List ℕ) → asked words ≡ Some dir → (answer : Answer) → DueToFolder dir outside answer → answer.status ≡ Clean → IsSafe words outside
folder_safe dir ask _ (no_source _ _ _ _) e = absurd (cc e)
folder_safe dir ask _ (other_files _ _ _ _) e = absurd (cc e)
folder_safe dir ask _ (other_text _ _ _ _ _ _ _) e = absurd (cc e)
folder_safe dir ask _ (analysed paths bytes zero text _ listed alone read report) e =
    record {
      dir = dir;
      ask = ask;
      paths = paths;
      listed = listed;
      alone = alone;
      bytes = bytes;
      read = read;
      form = report.form;
      safe = clean bytes text report;
    }
folder_safe dir ask _ (analysed _ _ (suc n) _ _ _ _ _ _) e = absurd (cc e)
folder_safe dir ask _ (not_listed _ _) e = absurd (cc e)
folder_safe dir ask _ (not_read _ _ _ _ _) e = absurd (cc e)

due_safe : {words : List (List ℕ)} {outside : Outside} (answer : Answer) → Due words outside answer → answer.status ≡ Clean → IsSafe words outside
due_safe _ (wrong_words _ _) e = absurd (cc e)
due_safe answer (of_folder dir ask due) e = folder_safe dir ask answer due e

delivered_safe :
    {words : List (List ℕ)} {outside : Outside} {answer : Answer} {out err : Sunk} (status : Status) → Due words outside answer →
    Delivers answer out err status → status ≡ Clean → IsSafe words outside
delivered_safe {answer = answer} _ due (reported _ _ _) e = due_safe answer due e
delivered_safe {answer = answer} _ due (told _ _ _) e = due_safe answer due e
delivered_safe _ due (out_failed _ _ _) e = absurd (cc e)
delivered_safe _ due (err_failed _ _ _) e = absurd (cc e)

pub clean_safe :
    {words : List (List ℕ)} {outside : Outside} {out err : Sunk} (status : Status) → Ends words outside out err status → status ≡ Clean →
    IsSafe words outside
clean_safe status (answered answer due delivered) e = delivered_safe status due delivered e
clean_safe _ (no_memory _ _) e = absurd (cc e)
