-- The answers that are due, from what the calls on the files say.
use Rattle.std.proofs.Common.{◌≡◌, ℕ, List, ◌++◌, Option, Some, Result, Ok, Err, sym, ◌∙◌, ap, subst, codes, IfOk}
use Rattle.argot_io.specs.Faults.{Rose}
use Rattle.argot_io.specs.Told.{Entry, ListsTold, ReadsTold}
use Rattle.argot_io.specs.declared.files.FilesCall.TheVariants.{Reading}
use Rattle.argot_text.specs.declared.memory.Memory.{Memory}
use Rattle.argot_run.specs.Due.{Outside, Due, DueToFolder, main_path, not_read, of_folder}
use Rattle.argot_run.specs.Listed.{HasMainAlone}
use Rattle.argot_run.specs.Words.{asked}
use Rattle.argot_run.specs.declared.answer.Answer.{Answer}
use Rattle.argot_run.specs.declared.status.Status.{Status}
use Rattle.argot_run.specs.declared.status.Status.TheVariants.{ReadFault}

-- a call whose `Ok` is the answer `a` gives what is true of `a`
pub when_ok : (P : Answer → Type 0) (r : Result Answer Memory) (a : Answer) → IfOk r (λ x. x ≡ a) → P a → IfOk r P
when_ok P (Ok x) a same p = subst P (sym same) p
when_ok P (Err _) a same p = tt

-- the bytes that were read at the path of the main file
pub read_main :
    (told : Option (List Entry)) (dir path bytes : List ℕ) → path ≡ main_path dir → ReadsTold told path bytes →
    ReadsTold told (main_path dir) bytes
read_main told dir path bytes same read = subst (λ (at : List ℕ). ReadsTold told at bytes) same read

pub read_failed :
    (dir path : List ℕ) (paths : List (List ℕ)) (outside : Outside) → path ≡ main_path dir →
    Rose outside.before outside.now × (outside.last ≡ Some (Reading path)) → ListsTold outside.told dir paths → HasMainAlone paths →
    DueToFolder dir outside (record { status = ReadFault; text = codes "argot: cannot read " ++ path ++ codes "\n" })
read_failed dir path paths outside same cause listed alone =
    subst (λ (at : List ℕ). DueToFolder dir outside (record { status = ReadFault; text = codes "argot: cannot read " ++ at ++ codes "\n" })) (sym same)
    (not_read paths cause.0 (cause.1 ∙ ap (λ (at : List ℕ). Some (Reading at)) same) listed alone)

-- what is due to the folder that the words ask for is due to the words
pub when_asked :
    (words : List (List ℕ)) (dir : List ℕ) (outside : Outside) → asked words ≡ Some dir → (r : Result Answer Memory) →
    IfOk r (DueToFolder dir outside) → IfOk r (Due words outside)
when_asked words dir outside ask (Ok answer) due = of_folder dir ask due
when_asked words dir outside ask (Err _) due = tt

-- an answer whose status is computed
pub with_status :
    (dir : List ℕ) (outside : Outside) (status known : Status) (text : List ℕ) → status ≡ known →
    DueToFolder dir outside (record { status = known; text = text }) → DueToFolder dir outside (record { status = status; text = text })
with_status dir outside status known text same due =
    subst (λ (s : Status). DueToFolder dir outside (record { status = s; text = text })) (sym same) due
