-- The report of what is found, as bytes: a line for each finding, below it the lines of its trace, and last how many there are.
use Rattle.std.specs.Prelude.{ℕ, ◌++◌, Option, Some, None, List, [], length, slice_get, codes}
use Rattle.std.specs.List.{flat_map}
use Rattle.std.specs.Fmt.{decimal}
use Rattle.argot_plain.specs.Code.{Code}
use Rattle.argot_plain.specs.declared.problems.Problem.{Problem}
use Rattle.argot_facts.specs.declared.findings.EscapePair.{EscapePair}
use Rattle.argot_facts.specs.declared.findings.Findings.{Findings}
use Rattle.argot_facts.specs.declared.findings.Flow.{Flow}
use Rattle.argot_facts.specs.declared.findings.Hop.{Hop}
use Rattle.argot_facts.specs.declared.findings.HopKind.{HopKind}
use Rattle.argot_facts.specs.declared.findings.HopKind.TheVariants.{Start, Plain, Call, Return, Reset}
use Rattle.argot_facts.specs.declared.findings.Origin.{Origin}
use Rattle.argot_facts.specs.declared.nodes.Node.{Node}
use Rattle.argot_report.specs.Names.{place_text, function_text, counted_text, source_text, inside_text, site_text}
use Rattle.argot_report.specs.declared.command.Command.{Command}
use Rattle.argot_report.specs.declared.command.Command.TheVariants.{Taint, Backtrace, Escape, Trial}

-- the greatest number of bytes of a report
abbrev pub most_bytes : ℕ
most_bytes = 67108864

-- a program, what is asked of it, and what is found
pub record Told : Type 0 where
  pub program : Code
  pub problems : List Problem
  pub found : Findings

abbrev pub word : HopKind → List ℕ
word Start = codes "start"
word Plain = codes "plain"
word Call = codes "call"
word Return = codes "return"
word Reset = codes "reset"

-- `  WORD POS FUNCTION`
abbrev pub step_line : Code → HopKind → ℕ → List ℕ
step_line p kind i = codes "  " ++ word kind ++ codes " " ++ place_text p i ++ codes " " ++ function_text p i ++ codes "\n"

-- `KIND PROBLEM: `
abbrev pub head_text : List ℕ → Problem → List ℕ
head_text kind pr = kind ++ pr.name ++ codes ": "

-- ` arg K`, the end of a line
abbrev pub argument_text : ℕ → List ℕ
argument_text k = codes " arg " ++ decimal k ++ codes "\n"

-- how many there are of a kind
abbrev pub total_text : ℕ → List ℕ → List ℕ
total_text n of = decimal n ++ of

abbrev pub of_problem : Option Problem → (Problem → List ℕ) → List ℕ
of_problem None said = []
of_problem (Some pr) said = said pr

abbrev pub of_node : Option Node → (ℕ → List ℕ) → List ℕ
of_node None said = []
of_node (Some n) said = said n.place

module _ (t : Told) where
  -- the line of a node of a trace: how it is come to, its place, and the function of that
  unfoldable pub hop_line : Hop → List ℕ
  hop_line h = of_node (slice_get t.found.nodes h.node) (step_line t.program h.kind)

  -- `POS SOURCE -> `
  abbrev pub from_source : Problem → ℕ → List ℕ
  from_source pr s = place_text t.program s ++ codes " " ++ source_text t.program t.found.targets pr s ++ codes " -> "

  -- `POS NAME`, where the call counts as one of these functions
  abbrev pub call_text : List ℕ → ℕ → List ℕ
  call_text fs i = place_text t.program i ++ codes " " ++ counted_text t.program t.found.targets fs i

  -- `flow PROBLEM: POS SOURCE -> POS SINK arg K`
  abbrev pub flow_text : Flow → Problem → List ℕ
  flow_text f pr = head_text (codes "flow ") pr ++ from_source pr f.source ++ call_text pr.sinks f.sink ++ argument_text f.arg

  unfoldable pub flow_line : Flow → List ℕ
  flow_line f = of_problem (slice_get t.problems f.problem) (flow_text f)

  -- `escape PROBLEM: POS SOURCE -> ` and the site
  abbrev pub escape_text : EscapePair → Problem → List ℕ
  escape_text e pr = head_text (codes "escape ") pr ++ from_source pr e.source ++ site_text t.program e.site ++ codes "\n"

  unfoldable pub escape_line : EscapePair → List ℕ
  escape_line e = of_problem (slice_get t.problems e.problem) (escape_text e)

  -- where the node of the number stands
  unfoldable pub node_text : ℕ → List ℕ
  node_text n = of_node (slice_get t.found.nodes n) (inside_text t.program)

  -- `origin PROBLEM: POS in FUNCTION -> POS POINT arg K`
  abbrev pub origin_text : Origin → Problem → List ℕ
  origin_text o pr = head_text (codes "origin ") pr ++ node_text o.node ++ codes " -> " ++ call_text pr.points o.point ++ argument_text o.arg

  unfoldable pub origin_line : Origin → List ℕ
  origin_line o = of_problem (slice_get t.problems o.problem) (origin_text o)

  -- `escape POS in FUNCTION`
  unfoldable pub site_line : ℕ → List ℕ
  site_line s = codes "escape " ++ site_text t.program s ++ codes "\n"

  -- a finding with its trace
  abbrev pub flow_lines : Flow × List Hop → List ℕ
  flow_lines x = flow_line x.0 ++ flat_map hop_line x.1

  abbrev pub origin_lines : Origin × List Hop → List ℕ
  origin_lines x = origin_line x.0 ++ flat_map hop_line x.1

  -- how many flows and escapes there are
  abbrev pub counts_text : List ℕ
  counts_text = decimal (length t.found.flows) ++ codes " flows, " ++ decimal (length t.found.escapes) ++ codes " escapes\n"

  -- the report of a command
  abbrev pub report_text : Command → List ℕ
  report_text Taint = flat_map flow_lines t.found.flows ++ flat_map escape_line t.found.escapes ++ counts_text
  report_text Backtrace = flat_map origin_lines t.found.origins ++ total_text (length t.found.origins) (codes " origins\n")
  report_text Escape = flat_map site_line t.found.sites ++ total_text (length t.found.sites) (codes " escaping objects\n")
  report_text (Trial count) = codes "trial " ++ decimal count ++ codes ": " ++ counts_text
