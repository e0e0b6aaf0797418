-- The conclusion: what the flows of the first form mean for its runs.
use Rattle.std.proofs.Common.{ℕ, List, arith}
use Rattle.std.proofs.lemmas.Option.{slice_get_within}
use Rattle.argot_first_form.specs.Tree.{File}
use Rattle.argot_first.specs.Answer.{IsReportOf}
use Rattle.argot_first.specs.Code.{code_of}
use Rattle.argot_plain.specs.First.{IsFlow}
use Rattle.argot_sound.proofs.Conclusion.{leak_flows}
use Rattle.argot_first_sound.specs.Whole.{whole_of, asked}
use Rattle.argot_first_sound.specs.Laws.{IsWellFormed, FlowsAreWholeFlows, EachLeakIsAFlow, NoRunLeaks, CleanMeansNoLeak}
use Rattle.argot_first_sound.specs.Exact.{ReportsAreExact}
use Rattle.argot_first_sound.proofs.Drawing.{flow-there}
use Rattle.argot_first_sound.proofs.Fits.{fitting}
use Rattle.argot_first_sound.proofs.Flowing.{flows}
use Rattle.argot_first_sound.proofs.Well.{well}

pub well-formed : IsWellFormed
well-formed file bytes form = well (code_of file) (fitting file bytes form)

pub whole-flows : FlowsAreWholeFlows
whole-flows file bytes form s t k f = flow-there (code_of file) (fitting file bytes form) s t k f

pub exact : ReportsAreExact
exact bytes text count r file form =
    let own = r.each file form in
    record {
      flows = own.flows;
      are_flows = record {
        ordered = own.are_flows.ordered;
        sound = λ i a h. whole-flows file bytes form a.source a.sink a.argument (own.are_flows.sound i a h);
        complete = λ s t k f. own.are_flows.complete s t k (flows (code_of file) s t k f);
      };
      counted = own.counted;
      reported = own.reported;
    }

pub each-leak : EachLeakIsAFlow
each-leak file bytes form n x r s t k h = flows (code_of file) s t k (leak_flows (whole_of (code_of file)) (asked (code_of file)) (well-formed file bytes form) r s t k h)

pub no-leak : NoRunLeaks
no-leak file bytes form none n x r s t k h = none s t k (each-leak file bytes form n x r s t k h)

none-flows : (file : File) (bytes text : List ℕ) → (r : IsReportOf file bytes 0 text) → (s t k : ℕ) → IsFlow (code_of file) s t k → ⊥
none-flows file bytes text r s t k f =
    let a = r.are_flows.complete s t k f in
    let w = slice_get_within r.flows a.0 _ a.1 in
    let e = r.counted in
    omega arith

pub clean : CleanMeansNoLeak
clean bytes text r file form n x run s t k h = no-leak file bytes form (none-flows file bytes text (r.each file form)) n x run s t k h
