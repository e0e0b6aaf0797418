use Rattle.std.proofs.Common.{◌≡◌, ap, ◌∙◌, subst, arith, length, Some, [], refl, ◌+◌, List, ℕ}
use Rattle.std.proofs.lemmas.List.{length-replicate}
use Rattle.std.proofs.lemmas.Option.{slice_get_read}
use Rattle.std.specs.Prelude.{slice_get}
use Rattle.argot_first_form.specs.declared.functions.Function.{Function}
use Rattle.argot_plain.specs.declared.first.Kind.{Kind}
use Rattle.argot_first.specs.declared.found.Flow.{Flow}
use Rattle.argot_first.specs.Links.{Adds, step_along, heads_after, nexts_after}
use Rattle.argot_first.proofs.Agree.{walked-none, walked-more}
use Rattle.argot_first.proofs.Buckets.{filled-none, filled-more, filled-all, back}
use Rattle.argot_first.proofs.flows.by_source.Goals as goal

pub loop-i-init : goal.loop-i-init
loop-i-init c =
    rw (c.in_ok-buckets.ensures, c.in_ok-heads.ensures, c.new-nexts.ensures.items)
    (record {
      number = length-replicate (length c.args.kinds.now) [];
      walked = walked-none c.args.functions.now c.args.kinds.now;
      filled = filled-none c.args.functions.now c.args.base c.args.kinds.now;
    })

-- the same lists under other names
moved : (functions : List Function) (base i : ℕ) (kind : Kind) (a b new : List (List Flow)) (c d e f : List ℕ) → a ≡ b → c ≡ d → e ≡ f → Adds a new (λ s. step_along functions c e base (base + i) s kind) → Adds b new (λ s. step_along functions d f base (base + i) s kind)
moved functions base i kind a b new c d e f p q r h =
    subst (λ x. Adds b new (λ s. step_along functions d x base (base + i) s kind)) r (subst (λ x. Adds b new (λ s. step_along functions x e base (base + i) s kind)) q (subst (λ x. Adds x new (λ s. step_along functions c e base (base + i) s kind)) p h))

pub loop-i-preserved : goal.loop-i-preserved
loop-i-preserved c =
    let bl : length c.push_step.new.buckets ≡ c.loop-i.buckets.len = omega arith in
    let hl : length c.link_step.new.heads ≡ c.loop-i.heads.len = omega arith in
    let number : length c.push_step.new.buckets ≡ length c.args.kinds.now = omega (arith, c.loop-i.invariant.number) in
    let at : slice_get c.args.kinds.now c.loop-i.i ≡ Some c.index-kinds-i.result = slice_get_read c.args.kinds.now (length c.args.kinds.now) c.loop-i.i c.index-kinds-i.result refl (omega arith) c.index-kinds-i.is in
    let w = c.loop-i.invariant.walked in
    let more = walked-more c.args.functions.now c.args.kinds.now c.loop-i.i c.loop-i.heads.items c.loop-i.nexts.items w c.index-kinds-i.result at in
    let heads : c.link_step.new.heads ≡ heads_after c.args.functions.now c.loop-i.i c.loop-i.heads.items c.index-kinds-i.result =
    c.in_ok-link_step.ensures.heads ∙ ap (λ y. heads_after c.args.functions.now c.loop-i.i y c.index-kinds-i.result) c.deref_mut-in-loop-i.ensures.value in
    let nexts : c.link_step.new.nexts.items ≡ nexts_after c.args.functions.now c.loop-i.heads.items c.loop-i.nexts.items c.index-kinds-i.result =
    c.in_ok-link_step.ensures.nexts ∙ ap (λ y. nexts_after c.args.functions.now y c.loop-i.nexts.items c.index-kinds-i.result) c.deref_mut-in-loop-i.ensures.value in
    let adds : Adds c.loop-i.buckets.items c.push_step.new.buckets (λ s. step_along c.args.functions.now c.loop-i.nexts.items c.loop-i.heads.items c.args.base (c.args.base + c.loop-i.i) s c.index-kinds-i.result) =
    moved c.args.functions.now c.args.base c.loop-i.i c.index-kinds-i.result c.deref_mut.result.now c.loop-i.buckets.items c.push_step.new.buckets c.deref.result.now c.loop-i.nexts.items c.deref-in-loop-i.result.now c.loop-i.heads.items c.deref_mut.ensures.value c.deref.ensures.value c.deref-in-loop-i.ensures.value c.in_ok-push_step.ensures in
    rw (back c.loop-i.buckets.len c.push_step.new.buckets c.loop-i.buckets.items bl, back c.loop-i.heads.len c.link_step.new.heads c.loop-i.heads.items hl)
    (record {
      number = number;
      walked = rw (heads, nexts) more;
      filled = filled-more c.args.functions.now c.args.base c.args.kinds.now c.loop-i.i c.loop-i.heads.items c.loop-i.nexts.items w c.index-kinds-i.result at c.loop-i.buckets.items c.push_step.new.buckets c.loop-i.invariant.number adds c.loop-i.invariant.filled;
    })

pub returns : goal.returns
returns c = filled-all c.args.functions.now c.args.base c.args.kinds.now c.loop-i.i c.loop-i.buckets.items (omega arith) c.loop-i.invariant.number c.loop-i.invariant.filled
