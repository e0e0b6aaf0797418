use Rattle.std.proofs.Common.{◌≡◌, sym, ap, ◌∙◌, arith, length, Some, [], refl, ◌+◌, ◌++◌, true, false, drop}
use Rattle.std.proofs.lemmas.List.{get_or_default}
use Rattle.std.proofs.lemmas.Option.{slice_get_read}
use Rattle.std.specs.Prelude.{slice_get}
use Rattle.argot_first.specs.Links.{bucket}
use Rattle.argot_first.specs.Marks.{all_flows, calls_named, named_source}
use Rattle.argot_first.proofs.Turns.{all_flows_none}
use Rattle.argot_first.proofs.Buckets.{taken-source, taken-none}
use Rattle.argot_first.proofs.flows.flows.Goals as goal
use Rattle.argot_first.proofs.flows.flows.Goals.{then-calls_source+in_ok-extend_from_slice, else-calls_source}

pub loop-source-preserved : goal.loop-source-preserved
loop-source-preserved c =
    let s = c.loop-source.source in
    let kind = c.index-kinds-source.result in
    let at : slice_get c.args.kinds.now s ≡ Some kind = slice_get_read c.args.kinds.now (length c.args.kinds.now) s kind refl (omega arith) c.index-kinds-source.is in
    let rest = all_flows c.args.functions.now c.args.base c.args.kinds.now (s + 1) (drop (s + 1) c.args.kinds.now) in
    let all = c.in_ok-buckets.ensures in
    elim c.if-calls_source.branch [
      | then-calls_source+in_ok-extend_from_slice w ↦
          let named : calls_named named_source c.args.functions.now kind ≡ true = sym c.calls_source.ensures ∙ w.if-calls_source.true in
          let taken : w.as_slice.result.now ≡ bucket c.in_ok-buckets.buckets.items s = w.as_slice.ensures ∙ (w.index.ensures ∙ get_or_default c.in_ok-buckets.buckets.items s _ [] (omega (arith, all.number))) in
          let flows : c.if-calls_source.flows.items ≡ c.loop-source.flows.items ++ bucket c.in_ok-buckets.buckets.items s = ap (λ y. y.items) w.flows-is ∙ (w.in_ok-extend_from_slice.ensures.items ∙ ap (λ y. c.loop-source.flows.items ++ y) taken) in
          ap (λ y. y ++ rest) flows ∙ (taken-source c.args.functions.now c.args.base c.args.kinds.now c.in_ok-buckets.buckets.items all s kind at named c.loop-source.flows.items ∙ c.loop-source.invariant)
      | else-calls_source w ↦
          let named : calls_named named_source c.args.functions.now kind ≡ false = sym c.calls_source.ensures ∙ w.if-calls_source.false in
          ap (λ y. y.items ++ rest) w.flows-is ∙ (taken-none c.args.functions.now c.args.base c.args.kinds.now s kind at named c.loop-source.flows.items ∙ c.loop-source.invariant)
    ]

pub returns : goal.returns
returns c = sym (all_flows_none c.args.functions.now c.args.base c.loop-source.source c.args.kinds.now c.loop-source.flows.items (omega arith)) ∙ c.loop-source.invariant
