-- What the flows of the first form mean for runs.
use Rattle.std.specs.Prelude.{ℕ, List}
use Rattle.argot_first_form.specs.Tree.{File}
use Rattle.argot_first_form.specs.Form.{IsFirstForm}
use Rattle.argot_plain.specs.First as First
use Rattle.argot_first.specs.Code.{code_of}
use Rattle.argot_first.specs.Answer.{IsReport}
use Rattle.argot_plain.specs.First.{IsFlow}
use Rattle.argot_plain.specs.Leak.{Leak, labelled}
use Rattle.argot_plain.specs.Machine.{State}
use Rattle.argot_plain.specs.Step.{Run}
use Rattle.argot_plain.specs.WellFormed.{WellFormed}
use Rattle.argot_facts.specs.Flows.{Flow}
use Rattle.argot_first_sound.specs.Whole.{whole_of, asked}

-- a program of the first form is well formed
abbrev pub IsWellFormed : Type 0
IsWellFormed = (file : File) (bytes : List ℕ) → IsFirstForm file bytes → WellFormed (whole_of (code_of file))

-- each flow of the whole program is a flow of its code
abbrev pub FlowsAreFlows : Type 0
FlowsAreFlows = (code : First.Code) (s t k : ℕ) → Flow (whole_of code) (asked code) s t k → IsFlow code s t k

-- each flow of the code of a program of the first form is a flow of the whole program: nothing is missed, nothing is added
abbrev pub FlowsAreWholeFlows : Type 0
FlowsAreWholeFlows = (file : File) (bytes : List ℕ) → IsFirstForm file bytes → (s t k : ℕ) → IsFlow (code_of file) s t k → Flow (whole_of (code_of file)) (asked (code_of file)) s t k

-- a run of the code of this many steps leads to this state
abbrev pub IsRun : First.Code → ℕ → State → Type 0
IsRun code n x = Run (whole_of code) (labelled (asked code)) n x

-- in this state the label of the source at s is on what the argument k of the sink at t reaches
abbrev pub Leaks : First.Code → State → ℕ → ℕ → ℕ → Type 0
Leaks code x s t k = Leak (whole_of code) (asked code) x s t k

-- each leak of a run of a program of the first form is a flow
abbrev pub EachLeakIsAFlow : Type 0
EachLeakIsAFlow =
    (file : File) (bytes : List ℕ) → IsFirstForm file bytes → (n : ℕ) (x : State) → IsRun (code_of file) n x
    → (s t k : ℕ) → Leaks (code_of file) x s t k → IsFlow (code_of file) s t k

-- where nothing flows, no run leaks
abbrev pub NoRunLeaks : Type 0
NoRunLeaks =
    (file : File) (bytes : List ℕ) → IsFirstForm file bytes → ((s t k : ℕ) → IsFlow (code_of file) s t k → ⊥)
    → (n : ℕ) (x : State) → IsRun (code_of file) n x → (s t k : ℕ) → Leaks (code_of file) x s t k → ⊥

-- where the report of a text has no flow, no run of the program with this text leaks
abbrev pub CleanMeansNoLeak : Type 0
CleanMeansNoLeak =
    (bytes text : List ℕ) → IsReport bytes 0 text → (file : File) → IsFirstForm file bytes
    → (n : ℕ) (x : State) → IsRun (code_of file) n x → (s t k : ℕ) → Leaks (code_of file) x s t k → ⊥
