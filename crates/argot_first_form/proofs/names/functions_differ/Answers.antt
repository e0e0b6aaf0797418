use Rattle.std.proofs.Common.{◌≡◌, true, false, sym, ap, ◌∙◌, subst, arith, drop, get_or, ◌-◌, is_some, ℕ, List, if◌then◌else◌, Some}
use Rattle.std.specs.Str.{bytes_eq}
use Rattle.argot_first_form.specs.Form.{among, names_of}
use Rattle.argot_first_form.specs.Names.{number_at}
use Rattle.argot_first_form.proofs.Tables.{place-any, names-any, functions-once, functions-twice, functions-more}
use Rattle.argot_first_form.proofs.names.functions_differ.Goals as goal

pub returns-then-knows : goal.returns-then-knows
returns-then-knows c =
    let fs = c.args.functions.now in
    let d = c.index-functions-i.result in
    let name : c.as_slice-name.result.now ≡ (get_or fs (c.loop-i.i - 1) d).name = c.as_slice-name.ensures in
    let there : among (names_of (drop c.loop-i.i fs)) c.as_slice-name.result.now ≡ true =
    sym (ap is_some (c.loop-i.invariant.has c.as_slice-name.result.now) ∙ (place-any (λ f. bytes_eq f.name c.as_slice-name.result.now) c.loop-i.i (drop c.loop-i.i fs) ∙ names-any c.as_slice-name.result.now (drop c.loop-i.i fs))) ∙ (sym c.knows.ensures ∙ c.if-knows.true) in
    sym (functions-twice fs d c.loop-i.i (omega arith) c.loop-i.invariant.within (subst (λ n. among (names_of (drop c.loop-i.i fs)) n ≡ true) name there))

pub loop-i-preserved : goal.loop-i-preserved
loop-i-preserved c =
    let fs = c.args.functions.now in
    let d = c.index-functions-i.result in
    let name : c.as_slice-name.result.now ≡ (get_or fs (c.loop-i.i - 1) d).name = c.as_slice-name.ensures in
    let there : among (names_of (drop c.loop-i.i fs)) c.as_slice-name.result.now ≡ false =
    sym (ap is_some (c.loop-i.invariant.has c.as_slice-name.result.now) ∙ (place-any (λ f. bytes_eq f.name c.as_slice-name.result.now) c.loop-i.i (drop c.loop-i.i fs) ∙ names-any c.as_slice-name.result.now (drop c.loop-i.i fs))) ∙ (sym c.knows.ensures ∙ c.if-knows.false) in
    let noted : (q : List ℕ) → number_at c.note.new.names q ≡ (if bytes_eq (get_or fs (c.loop-i.i - 1) d).name q then Some (c.loop-i.i - 1) else number_at c.loop-i.names q) =
    λ q. c.in_ok-note.ensures q ∙ ap (λ n. if bytes_eq n q then Some (c.loop-i.i - 1) else number_at c.loop-i.names q) name in
    record {
      within = omega arith;
      has = functions-more fs d c.loop-i.names c.note.new.names c.loop-i.i (omega arith) c.loop-i.invariant.within c.loop-i.invariant.has noted;
      same = functions-once fs d c.loop-i.i (omega arith) c.loop-i.invariant.within (subst (λ n. among (names_of (drop c.loop-i.i fs)) n ≡ false) name there) c.loop-i.invariant.same;
    }
