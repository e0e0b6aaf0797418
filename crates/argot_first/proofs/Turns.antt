-- One step more of the computed flows.
use Rattle.std.proofs.Common.{◌≡◌, ℕ, ◌+◌, ◌<◌, ◌≤◌, List, ◌++◌, Bool, length, drop, get_or, refl, add-one, append_assoc, append-nil}
use Rattle.std.proofs.Math.Seq.{drop-cons}
use Rattle.std.proofs.Math.ListN.{drop_of_length-le}
use Rattle.argot_first_form.specs.declared.functions.Function.{Function}
use Rattle.argot_plain.specs.declared.first.Kind.{Kind}
use Rattle.argot_first.specs.declared.found.Flow.{Flow}
use Rattle.argot_first.specs.Marks.{step_flows, marks_after, flows_from, source_flows, all_flows}

pub flows_from_more : (functions : List Function) (base s i : ℕ) (marks : List Bool) (kinds : List Kind) (old : List Flow) (d : Kind) → i < length kinds → old ++ flows_from functions base s i marks (drop i kinds) ≡ (old ++ step_flows functions (base + s) (base + i) marks (get_or kinds i d)) ++ flows_from functions base s (i + 1) (marks_after functions s i marks (get_or kinds i d)) (drop (i + 1) kinds)
unfolding flows_from
flows_from_more functions base s i marks kinds old d h = rw (drop-cons kinds i d, add-one, append_assoc) refl

pub flows_from_none : (functions : List Function) (base s i : ℕ) (marks : List Bool) (kinds : List Kind) (old : List Flow) → length kinds ≤ i → old ++ flows_from functions base s i marks (drop i kinds) ≡ old
unfolding flows_from
flows_from_none functions base s i marks kinds old h = rw (drop_of_length-le kinds h) (append-nil old)

pub all_flows_more : (functions : List Function) (base s : ℕ) (kinds : List Kind) (old : List Flow) (d : Kind) → s < length kinds → old ++ all_flows functions base kinds s (drop s kinds) ≡ (old ++ source_flows functions base s (get_or kinds s d) kinds) ++ all_flows functions base kinds (s + 1) (drop (s + 1) kinds)
unfolding all_flows
all_flows_more functions base s kinds old d h = rw (drop-cons kinds s d, add-one, append_assoc) refl

pub all_flows_none : (functions : List Function) (base s : ℕ) (kinds : List Kind) (old : List Flow) → length kinds ≤ s → old ++ all_flows functions base kinds s (drop s kinds) ≡ old
unfolding all_flows
all_flows_none functions base s kinds old h = rw (drop_of_length-le kinds h) (append-nil old)
