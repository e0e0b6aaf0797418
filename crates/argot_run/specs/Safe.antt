-- What a clean end means: no run leaks.
use Rattle.std.specs.Prelude.{◌≡◌, ℕ, List, Some}
use Rattle.argot_io.specs.Told.{ListsTold, ReadsTold}
use Rattle.argot_first_form.specs.Tree.{File}
use Rattle.argot_first_form.specs.Form.{IsFirstForm, HasFirstForm}
use Rattle.argot_first.specs.Code.{code_of}
use Rattle.argot_first_sound.specs.Laws.{IsRun, Leaks}
use Rattle.argot_plain.specs.Machine.{State}
use Rattle.argot_run.specs.Due.{Outside, main_path}
use Rattle.argot_run.specs.Listed.{HasMainAlone}
use Rattle.argot_run.specs.Words.{asked}

-- no run of the program with this text leaks, however many steps it has and whichever goroutine takes each of them
abbrev pub NoRunLeaks : List ℕ → Type 0
NoRunLeaks bytes =
    (file : File) → IsFirstForm file bytes → (n : ℕ) (x : State) → IsRun (code_of file) n x → (s t k : ℕ) → Leaks (code_of file) x s t k → ⊥

-- the words ask for a folder whose only source is `main.go`, and no run of that program leaks
pub record IsSafe (words : List (List ℕ)) (outside : Outside) : Type 0 where
  pub dir : List ℕ
  pub ask : asked words ≡ Some dir
  pub paths : List (List ℕ)
  pub listed : ListsTold outside.told dir paths
  pub alone : HasMainAlone paths
  pub bytes : List ℕ
  pub read : ReadsTold outside.told (main_path dir) bytes
  pub form : HasFirstForm bytes
  pub safe : NoRunLeaks bytes
