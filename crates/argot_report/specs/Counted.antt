-- Tables of a problem: which functions count, and which entry names a source place; and what a report looks at.
use Rattle.std.specs.Prelude.{◌≡◌, ℕ, zero, suc, ◌<◌, ◌^◌, ◌==◌, Bool, false, Option, List, Some, None, drop, length, map, slice_get, slice_index_or}
use Rattle.std.specs.List.{find}
use Rattle.argot_links.specs.Runs.{AreHeaded, run, seconds}
use Rattle.argot_plain.specs.Code.{Code}
use Rattle.argot_plain.specs.Counts.{is_among, stands_for}
use Rattle.argot_plain.specs.Lists.{member}
use Rattle.argot_plain.specs.declared.problems.Problem.{Problem}
use Rattle.argot_facts.specs.declared.findings.EscapePair.{EscapePair}
use Rattle.argot_facts.specs.declared.findings.Findings.{Findings}
use Rattle.argot_facts.specs.declared.findings.Flow.{Flow}
use Rattle.argot_facts.specs.declared.findings.Hop.{Hop}
use Rattle.argot_facts.specs.declared.findings.Origin.{Origin}
use Rattle.argot_report.specs.Report.{Told}
use Rattle.argot_report.specs.declared.naming.Naming.{Naming}
use Rattle.argot_report.specs.declared.subject.Subject.{Subject}

-- whether the number is marked
abbrev pub is_set : List Bool → ℕ → Bool
is_set marks h = slice_index_or marks h false

abbrev pub is_marked : Option ℕ → List Bool → Bool
is_marked None marks = false
is_marked (Some h) marks = is_set marks h

-- by function whether it is in the list
pub record AreListed (functions : ℕ) (fs : List ℕ) (marks : List Bool) : Type 0 where
  pub count : length marks ≡ functions
  pub each : (h : ℕ) → h < functions → is_set marks h ≡ member h fs

-- by function whether it counts as one of these
pub record AreMarks (p : Code) (fs : List ℕ) (marks : List Bool) : Type 0 where
  pub count : length marks ≡ length p.functions
  pub each : (h : ℕ) → h < length p.functions → is_set marks h ≡ is_among (stands_for p h) fs

-- the entry before the number n, none before 0
abbrev pub entry_before : {A : Type 0} → List A → ℕ → Option A
entry_before xs zero = None
entry_before xs (suc n) = slice_get xs n

-- by place one more than the number of the first entry that names it, 0 where there is none
pub record ArePlaces (places : ℕ) (entries : List (ℕ × List ℕ)) (table : List ℕ) : Type 0 where
  pub each : (i : ℕ) → i < places → find (λ x. x.0 == i) entries ≡ entry_before entries (slice_index_or table i 0)

-- the same of the entries from the number n on
pub record HasNumbered (places : ℕ) (entries : List (ℕ × List ℕ)) (n : ℕ) (table : List ℕ) : Type 0 where
  pub each : (i : ℕ) → i < places → find (λ x. x.0 == i) (drop n entries) ≡ entry_before entries (slice_index_or table i 0)

-- a problem with its tables
pub record IsNaming (p : Code) (tables : Naming) : Type 0 where
  pub sources : AreMarks p tables.problem.now.sources tables.sources.items
  pub sinks : AreMarks p tables.problem.now.sinks tables.sinks.items
  pub points : AreMarks p tables.problem.now.points tables.points.items
  pub places : ArePlaces (length p.instrs) tables.problem.now.source_places tables.places.items

-- each problem with its tables, by number
pub record AreNamings (p : Code) (problems : List Problem) (all : List Naming) : Type 0 where
  pub are : map (λ (n : Naming). n.problem.now) all ≡ problems
  pub each : (k : ℕ) (n : Naming) → slice_get all k ≡ Some n → IsNaming p n

-- the targets of calls are those of places of the program
pub record FitsCalls (p : Code) (targets : List (ℕ × ℕ)) : Type 0 where
  pub places : AreHeaded (length p.instrs) targets
  pub few : length targets < 2 ^ 32

-- each flow has its source and its sink among so many places, and likewise escapes and origins
abbrev pub HaveFlows : ℕ → List (Flow × List Hop) → Type 0
HaveFlows n flows = (k : ℕ) (x : Flow × List Hop) → slice_get flows k ≡ Some x → (x.0.source < n) × (x.0.sink < n)

abbrev pub HaveEscapes : ℕ → List EscapePair → Type 0
HaveEscapes n escapes = (k : ℕ) (e : EscapePair) → slice_get escapes k ≡ Some e → e.source < n

abbrev pub HaveOrigins : ℕ → List (Origin × List Hop) → Type 0
HaveOrigins n origins = (k : ℕ) (x : Origin × List Hop) → slice_get origins k ≡ Some x → x.0.point < n

abbrev pub HasFlow : Code → Flow → Type 0
HasFlow p f = (f.source < length p.instrs) × (f.sink < length p.instrs)

abbrev pub HasEscape : Code → EscapePair → Type 0
HasEscape p e = e.source < length p.instrs

abbrev pub HasOrigin : Code → Origin → Type 0
HasOrigin p o = o.point < length p.instrs

-- sources, sinks, points and calls are places of the program
pub record FitsFindings (p : Code) (found : Findings) : Type 0 where
  pub calls : FitsCalls p found.targets
  pub flows : HaveFlows (length p.instrs) found.flows
  pub escapes : HaveEscapes (length p.instrs) found.escapes
  pub origins : HaveOrigins (length p.instrs) found.origins

abbrev pub told : Subject → Told
told s = record { program = s.program.now; problems = s.problems.now; found = s.findings.now }

-- the targets of calls stand by place, and each problem with its tables
pub record IsSubject (s : Subject) : Type 0 where
  pub count : length s.targets ≡ length s.program.now.instrs
  pub targets : (i : ℕ) → i < length s.program.now.instrs → run s.targets i ≡ seconds i s.findings.now.targets
  pub namings : AreNamings s.program.now s.problems.now s.namings.items
