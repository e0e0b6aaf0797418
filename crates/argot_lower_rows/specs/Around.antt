-- Where jumps lead, and lists of statements.
use Rattle.std.specs.Prelude.{ℕ, zero, suc, Bool, true, false, ◌&&◌, List, [], ◌∷◌, Option, Some, None, is_some, find, bytes_eq, if◌then◌else◌}
use Rattle.std.specs.List.{list_any}
use Rattle.argot_plain.specs.declared.instructions.Kind.TheVariants.{Goto}
use Rattle.argot_text.specs.declared.position.Pos.{Pos}
use Rattle.argot_tree.specs.declared.node_kind.NodeKind.{NodeKind}
use Rattle.argot_tree.specs.declared.node_kind.NodeKind.TheVariants as nodes
use Rattle.argot_lower_scripts.specs.Script.{Enclosing, Around, Statement, Script, until, part}
use Rattle.argot_lower_scripts.specs.Words.{nothing, does}
use Rattle.argot_lower_locals.specs.Typed.{Typed}
use Rattle.argot_lower_locals.specs.Nodes.{kind, kids, parent, text_of, node_count}

-- statements in order
abbrev pub statements : Around → List ℕ → Script → Script
statements w [] c = c
statements w (n ∷ ns) c = part (Statement w) n (λ _. statements w ns c)

abbrev pub is_labeled : NodeKind → Bool
is_labeled nodes.Labeled = true
is_labeled _ = false

abbrev pub label_text : Typed → List ℕ → List ℕ
label_text t [] = []
label_text t (n ∷ ns) = text_of t n

abbrev pub labels_from : ℕ → Typed → Option ℕ → List (List ℕ)
labels_from zero t n = []
labels_from (suc k) t None = []
labels_from (suc k) t (Some n) = if is_labeled (kind t n) then label_text t (kids t n) ∷ labels_from k t (parent t n) else []

-- the labels that stand before a statement
abbrev pub labels : Typed → ℕ → List (List ℕ)
labels t n = labels_from (node_count t) t (parent t n)

-- in a loop: where `break` and `continue` of it go
abbrev pub in_loop : Typed → ℕ → ℕ → ℕ → Around → Around
in_loop t n end again w =
    record { exit = w.exit; outcomes = w.outcomes; enclosing = record { labels = labels t n; breaks = end; continues = Some again } ∷ w.enclosing; next_clause = None }

-- in a clause: where `break` of its statement and `fallthrough` go
abbrev pub in_clause : Typed → ℕ → ℕ → Option ℕ → Around → Around
in_clause t n end next w =
    record { exit = w.exit; outcomes = w.outcomes; enclosing = record { labels = labels t n; breaks = end; continues = None } ∷ w.enclosing; next_clause = next }

abbrev pub has_label : List ℕ → Enclosing → Bool
has_label name e = list_any (λ l. bytes_eq l name) e.labels

-- the statement that a `break` leaves: the innermost, or that of the label
abbrev pub left_by_break : Option (List ℕ) → Enclosing → Bool
left_by_break None e = true
left_by_break (Some name) e = has_label name e

-- the loop that a `continue` goes on with
abbrev pub left_by_continue : Option (List ℕ) → Enclosing → Bool
left_by_continue None e = is_some e.continues
left_by_continue (Some name) e = has_label name e && is_some e.continues

abbrev pub goes : Pos → Option ℕ → Script
goes p None = nothing
goes p (Some l) = does p (Goto l) nothing

abbrev pub breaks_in : Option Enclosing → Option ℕ
breaks_in None = None
breaks_in (Some e) = Some e.breaks

abbrev pub continues_in : Option Enclosing → Option ℕ
continues_in None = None
continues_in (Some e) = e.continues

abbrev pub label_used : Typed → List ℕ → Option (List ℕ)
label_used t [] = None
label_used t (n ∷ ns) = Some (text_of t n)

-- break: Goto
abbrev pub break_row : Pos → Option (List ℕ) → Around → Script
break_row p label w = goes p (breaks_in (find (left_by_break label) w.enclosing))

-- continue: Goto
abbrev pub continue_row : Pos → Option (List ℕ) → Around → Script
continue_row p label w = goes p (continues_in (find (left_by_continue label) w.enclosing))

-- fallthrough: Goto
abbrev pub fallthrough_row : Pos → Around → Script
fallthrough_row p w = goes p w.next_clause

-- the place of the first of the clauses behind, if there is one
abbrev pub next_of : List ℕ → Option ℕ
next_of [] = None
next_of (l ∷ ls) = Some l

-- Clauses: first what goes to their places, all of which are known to it, then each at its own place. The last clause stands
-- first in the list. Each body knows the place of the next one
abbrev pub clauses : {A : Type 0} → List A → (List ℕ → Script) → (A → Option ℕ → Script) → List ℕ → Script
clauses [] before body known = before known
clauses (c ∷ cs) before body known = until (λ l. clauses cs before body (l ∷ known)) (λ _. body c (next_of known))
