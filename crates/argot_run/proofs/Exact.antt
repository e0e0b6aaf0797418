-- A report is that of exactly the flows of the whole relation.
use Rattle.std.proofs.Common.{◌≡◌, ℕ, List, Some, true, refl, sym, ◌∙◌}
use Rattle.argot_first_sound.proofs.Conclusion.{exact}
use Rattle.argot_run.specs.Due.{Due, DueToFolder, Outside, no_source, other_files, other_text, analysed, not_listed, not_read, wrong_words, of_folder}
use Rattle.argot_run.specs.Ends.{Delivers, Ends, Sunk, TookAll, is_report, reported, told, out_failed, err_failed, answered, no_memory}
use Rattle.argot_run.specs.Exact.{IsExact}
use Rattle.argot_run.specs.Words.{asked}
use Rattle.argot_run.specs.declared.answer.Answer.{Answer}
use Rattle.argot_run.specs.declared.status.Status.{Status}

folder_exact : {words : List (List ℕ)} {outside : Outside} {out : Sunk} (dir : List ℕ) → asked words ≡ Some dir → (answer : Answer) → DueToFolder dir outside answer → is_report answer.status ≡ true → TookAll answer.text out → IsExact words outside out answer.status
folder_exact dir ask _ (no_source _ _ _ _) e took = absurd (cc e)
folder_exact dir ask _ (other_files _ _ _ _) e took = absurd (cc e)
folder_exact dir ask _ (other_text _ _ _ _ _ _ _) e took = absurd (cc e)
folder_exact dir ask _ (analysed paths bytes count text _ listed alone read report) e took =
    record {
      dir = dir;
      ask = ask;
      paths = paths;
      listed = listed;
      alone = alone;
      bytes = bytes;
      read = read;
      form = report.form;
      count = count;
      ended = refl;
      text = text;
      took = took;
      report = exact bytes text count report;
    }
folder_exact dir ask _ (not_listed _ _) e took = absurd (cc e)
folder_exact dir ask _ (not_read _ _ _ _ _) e took = absurd (cc e)

due_exact : {words : List (List ℕ)} {outside : Outside} {out : Sunk} (answer : Answer) → Due words outside answer → is_report answer.status ≡ true → TookAll answer.text out → IsExact words outside out answer.status
due_exact _ (wrong_words _ _) e took = absurd (cc e)
due_exact answer (of_folder dir ask due) e took = folder_exact dir ask answer due e took

delivered_exact :
    {words : List (List ℕ)} {outside : Outside} {answer : Answer} {out err : Sunk} (status : Status) → Due words outside answer →
    Delivers answer out err status → is_report status ≡ true → IsExact words outside out status
delivered_exact {answer = answer} _ due (reported _ took _) e = due_exact answer due e took
delivered_exact {answer = answer} _ due (told n _ _) e = absurd (let x = sym n ∙ e in cc x)
delivered_exact _ due (out_failed _ _ _) e = absurd (cc e)
delivered_exact _ due (err_failed _ _ _) e = absurd (cc e)

pub report_exact :
    {words : List (List ℕ)} {outside : Outside} {out err : Sunk} (status : Status) → Ends words outside out err status → is_report status ≡ true →
    IsExact words outside out status
report_exact status (answered answer due delivered) e = delivered_exact status due delivered e
report_exact _ (no_memory _ _) e = absurd (cc e)
