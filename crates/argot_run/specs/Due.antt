-- Which answer is due to the words and the files.
use Rattle.std.specs.Prelude.{◌≡◌, ℕ, zero, suc, List, ◌++◌, codes, Option, Some, None}
use Rattle.argot_io.specs.Faults.{Rose}
use Rattle.argot_io.specs.Told.{Entry, ListsTold, ReadsTold}
use Rattle.argot_io.specs.declared.files.FilesCall.{FilesCall}
use Rattle.argot_io.specs.declared.files.FilesCall.TheVariants.{Listing, Reading}
use Rattle.argot_first_form.specs.Form.{HasFirstForm}
use Rattle.argot_first.specs.Answer.{IsReport}
use Rattle.argot_run.specs.Listed.{HasNoSource, HasOthers, HasMainAlone}
use Rattle.argot_run.specs.Texts.{usage_line, no_main_line, not_first_form_line, cannot_list_line, cannot_read_line}
use Rattle.argot_run.specs.Words.{asked}
use Rattle.argot_run.specs.declared.answer.Answer.{Answer}
use Rattle.argot_run.specs.declared.status.Status.{Status}
use Rattle.argot_run.specs.declared.status.Status.TheVariants.{Clean, Found, Refused, Unsupported, ReadFault}

-- clean without a flow, found with one or more
abbrev pub status_of : ℕ → Status
status_of zero = Clean
status_of (suc n) = Found

-- the path of the folder's main file
abbrev pub main_path : List ℕ → List ℕ
main_path dir = dir ++ codes "/main.go"

-- what the files have seen: what they tell, the count of faults before and now, the call that failed last
pub record Outside : Type 0 where
  pub told : Option (List Entry)
  pub before : ℕ
  pub now : ℕ
  pub last : Option FilesCall

-- no call of the files failed
abbrev pub IsCalm : Outside → Type 0
IsCalm outside = outside.now ≡ outside.before

-- the answer that is due to a folder, by the paths that it lists and the bytes of its main file; where the files tell, these are what they tell
pub data DueToFolder (dir : List ℕ) (outside : Outside) : Answer → Type 0 where
  -- the folder has no source
  no_source :
      (paths : List (List ℕ)) → IsCalm outside → ListsTold outside.told dir paths → HasNoSource paths
      → DueToFolder dir outside (record { status = Refused; text = no_main_line })
  -- its sources aren't `main.go` alone
  other_files :
      (paths : List (List ℕ)) → IsCalm outside → ListsTold outside.told dir paths → HasOthers paths
      → DueToFolder dir outside (record { status = Unsupported; text = not_first_form_line })
  -- its `main.go` hasn't the first form
  other_text :
      (paths : List (List ℕ)) (bytes : List ℕ) → IsCalm outside → ListsTold outside.told dir paths → HasMainAlone paths
      → ReadsTold outside.told (main_path dir) bytes → (HasFirstForm bytes → ⊥)
      → DueToFolder dir outside (record { status = Unsupported; text = not_first_form_line })
  -- it has, and this is the report of its flows
  analysed :
      (paths : List (List ℕ)) (bytes : List ℕ) (count : ℕ) (text : List ℕ) → IsCalm outside → ListsTold outside.told dir paths → HasMainAlone paths
      → ReadsTold outside.told (main_path dir) bytes → IsReport bytes count text
      → DueToFolder dir outside (record { status = status_of count; text = text })
  -- the folder couldn't be listed
  not_listed :
      Rose outside.before outside.now → outside.last ≡ Some (Listing dir)
      → DueToFolder dir outside (record { status = ReadFault; text = cannot_list_line dir })
  -- its `main.go` couldn't be read
  not_read :
      (paths : List (List ℕ)) → Rose outside.before outside.now → outside.last ≡ Some (Reading (main_path dir))
      → ListsTold outside.told dir paths → HasMainAlone paths
      → DueToFolder dir outside (record { status = ReadFault; text = cannot_read_line (main_path dir) })

-- the answer that is due to the words
pub data Due (words : List (List ℕ)) (outside : Outside) : Answer → Type 0 where
  -- they aren't a request
  wrong_words : asked words ≡ None → IsCalm outside → Due words outside (record { status = Refused; text = usage_line })
  of_folder : {answer : Answer} (dir : List ℕ) → asked words ≡ Some dir → DueToFolder dir outside answer → Due words outside answer
