use Rattle.std.proofs.Common.{◌≡◌, ℕ, ◌+◌, ◌-◌, ◌<◌, ◌++◌, ◌∷◌, [], List, Some, take, drop, length, get_or, set, refl, sym, ap, ◌∙◌, arith, subst}
use Rattle.std.specs.Prelude.{slice_get}
use Rattle.std.proofs.lemmas.List.{drop_more, length-set}
use Rattle.std.proofs.lemmas.Option.{slice_get_read}
use Rattle.argot_report.specs.Counted.{HasNumbered}
use Rattle.argot_report.proofs.Tables.{numbered_more}
use Rattle.argot_report.proofs.naming.places_of.Goals as goal

pub loop-k-preserved : goal.loop-k-preserved
loop-k-preserved c =
    let entries = c.args.entries.now in
    let places = c.args.places in
    let table = c.loop-k.table.items in
    let count = length entries in
    let n : ℕ = count - (c.loop-k.k + 1) in
    let test = c.loop-k-test.true in
    let e : count - c.loop-k.k ≡ n + 1 = omega arith in
    let x = c.index-entries-number.result in
    let b : count - c.loop-k.k - 1 ≡ n = omega arith in
    let got : x ≡ get_or entries n x = c.index-entries-number.is ∙ ap (λ z. get_or entries z x) b in
    let within : n < length entries = omega arith in
    let at : slice_get entries n ≡ Some x = slice_get_read entries (length entries) n x refl within got in
    let rest : drop n entries ≡ x ∷ drop (n + 1) entries = drop_more entries n x within ∙ ap (λ z. z ∷ drop (n + 1) entries) (sym got) in
    let i = c.loop-k.invariant in
    let m = numbered_more places entries n x table (subst (λ z. HasNumbered places entries z table) e i.numbered) i.count at rest in
    let put : c.put.new.table.items ≡ set table x.0 (n + 1) = c.put.ensures ∙ ap (λ z. set table (get_or entries (count - c.loop-k.k - 1) x).0 z) e ∙ ap (λ (z : ℕ × List ℕ). set table z.0 (n + 1)) (sym c.index-entries-number.is) in
    record { count = ap length put ∙ length-set table x.0 (n + 1) ∙ i.count; numbered = subst (HasNumbered places entries n) (sym put) m }
