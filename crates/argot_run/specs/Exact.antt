-- What a report means: it was taken whole, and has exactly the flows of the whole relation.
use Rattle.std.specs.Prelude.{◌≡◌, ℕ, List, Some}
use Rattle.argot_io.specs.Told.{ListsTold, ReadsTold}
use Rattle.argot_first_form.specs.Tree.{File}
use Rattle.argot_first_form.specs.Form.{IsFirstForm, HasFirstForm}
use Rattle.argot_first_sound.specs.Exact.{IsWholeReport}
use Rattle.argot_run.specs.Due.{Outside, main_path, status_of}
use Rattle.argot_run.specs.Ends.{Sunk, TookAll}
use Rattle.argot_run.specs.Listed.{HasMainAlone}
use Rattle.argot_run.specs.Words.{asked}
use Rattle.argot_run.specs.declared.status.Status.{Status}

-- the words ask for a folder whose only source is `main.go`, and the output took the report of exactly the flows of that
-- program, each once: the status is Clean without a flow, and Found with one or more
pub record IsExact (words : List (List ℕ)) (outside : Outside) (out : Sunk) (status : Status) : Type 0 where
  pub dir : List ℕ
  pub ask : asked words ≡ Some dir
  pub paths : List (List ℕ)
  pub listed : ListsTold outside.told dir paths
  pub alone : HasMainAlone paths
  pub bytes : List ℕ
  pub read : ReadsTold outside.told (main_path dir) bytes
  pub form : HasFirstForm bytes
  pub count : ℕ
  pub ended : status ≡ status_of count
  pub text : List ℕ
  pub took : TookAll text out
  pub report : (file : File) → IsFirstForm file bytes → IsWholeReport file bytes count text
