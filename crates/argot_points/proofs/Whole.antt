-- All rules of a program say what is so.
use Rattle.std.proofs.Common.{◌≡◌, ℕ, List, sym, ap, ◌∙◌, arith, subst}
use Rattle.std.specs.Prelude.{slice_get}
use Rattle.argot_plain.specs.Lists.{In}
use Rattle.argot_plain.specs.Code.{IsAt, IsFunction, IsIn}
use Rattle.argot_plain.specs.WellFormed.{WellFormed}
use Rattle.argot_plain.specs.declared.functions.Function.{Function}
use Rattle.argot_plain.specs.declared.instructions.Kind.{Kind}
use Rattle.argot_plain.specs.declared.instructions.Kind.TheVariants.{Move, Join, New, Step, Read, Write, Grow, Global, Assert, Call, Go, Defer, Leave, Passed}
use Rattle.argot_facts.specs.Exact.{AreDefs}
use Rattle.argot_facts.specs.Numbers.{locations_of}
use Rattle.argot_facts.specs.Refers.{Holds, IsLive}
use Rattle.argot_points_rules.specs.Column.{kind_rules, rules_of}
use Rattle.argot_points_rules.specs.declared.rules.Owned.{Owned}
use Rattle.argot_points.specs.declared.system.System.{System}
use Rattle.argot_points.specs.Meaning.{RuleHolds, RulesHold}
use Rattle.argot_points.proofs.Columns.{in_of_get}
use Rattle.argot_points.proofs.Handed.{rule_found}
use Rattle.argot_points.proofs.Owners.{rule_owner}
use Rattle.argot_points.proofs.Justified.{move_told, join_told, new_told, step_told, read_told, write_told, grow_told, global_told, assert_told, leave_told, passed_told}
use Rattle.argot_points.proofs.CallsJustified.{call_told, go_told, defer_told}

module _ (s : System) (wf : WellFormed s.program.now) (all : s.locations.items ≡ locations_of s.program.now) (ds : List (ℕ × ℕ × ℕ)) (exact : AreDefs s.program.now ds) where
  kind_told : (h i : ℕ) (fn : Function) (is : IsFunction s.program.now h fn) (inside : IsIn s.program.now i h) (live : Holds s.program.now (IsLive h)) (kind : Kind) → IsAt s.program.now i kind
      → (o : Owned) → In o (kind_rules s.program.now fn ds h i kind) → RuleHolds s o.rule
  kind_told h i fn is inside live (Move to from path) at o m = move_told s wf all ds exact h i fn is inside live to from path at o m
  kind_told h i fn is inside live (Join to parts) at o m = join_told s wf all ds exact h i fn is inside live to parts at o m
  kind_told h i fn is inside live (New to site) at o m = new_told s wf all ds exact h i fn is inside live to site at o m
  kind_told h i fn is inside live (Step to from path) at o m = step_told s wf all ds exact h i fn is inside live to from path at o m
  kind_told h i fn is inside live (Read to ref qs) at o m = read_told s wf all ds exact h i fn is inside live to ref qs at o m
  kind_told h i fn is inside live (Write ref from) at o m = write_told s wf all ds exact h i fn is inside live ref from at o m
  kind_told h i fn is inside live (Grow to ref items) at o m = grow_told s wf all ds exact h i fn is inside live to ref items at o m
  kind_told h i fn is inside live (Global to k) at o m = global_told s wf all ds exact h i fn is inside live to k at o m
  kind_told h i fn is inside live (Assert to from target) at o m = assert_told s wf all ds exact h i fn is inside live to from target at o m
  kind_told h i fn is inside live (Call to callee args) at o m = call_told s wf all ds exact h i fn is inside live to args callee at o m
  kind_told h i fn is inside live (Go callee args) at o m = go_told s wf all ds exact h i fn is inside live callee args at o m
  kind_told h i fn is inside live (Defer callee args) at o m = defer_told s wf all ds exact h i fn is inside live callee args at o m
  kind_told h i fn is inside live (Leave from) at o m = leave_told s wf all ds exact h i fn is inside live from at o m
  kind_told h i fn is inside live (Passed to callee) at o m = passed_told s wf all ds exact h i fn is inside live to callee at o m
  kind_told h i fn is inside live _ at o m = elim m [ ]

  -- the rules of a program hold
  pub rules_hold : s.rules.items ≡ rules_of s.program.now ds → RulesHold s
  rules_hold same k o at live =
      let m = subst (λ os. In o os) same (in_of_get s.rules.items k o at) in
      let f = rule_found s.program.now ds 0 s.program.now.functions o m in
      let z : f.1 ≡ f.0 = omega (arith, f.3) in
      let is : IsFunction s.program.now f.0 f.2 = ap (slice_get s.program.now.functions) (sym z) ∙ f.4 in
      let owner = rule_owner s.program.now ds f.0 f.5 f.2 f.6 o f.10 in
      let r = wf.ranges.inside f.0 f.2 is in
      let inside : IsIn s.program.now f.5 f.0 = record { fn = f.2; is = is; low = f.7; high = omega (arith, f.8, r.0, r.1) } in
      kind_told f.0 f.5 f.2 is inside (subst (λ h. Holds s.program.now (IsLive h)) owner live.holds) f.6 f.9 o f.10
