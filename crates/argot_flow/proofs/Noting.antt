-- Lists of what calls lead over, that grow.
use Rattle.std.proofs.Common.{ℕ, ◌<◌, List}
use Rattle.argot_facts.proofs.Listed.{number_of}
use Rattle.argot_facts.specs.Summaries.{SameWithin, same_start, same_plain, same_over}
use Rattle.argot_facts.specs.declared.graphs.Edge.{Edge}
use Rattle.argot_facts.specs.declared.graphs.EdgeKind.{EdgeKind}
use Rattle.argot_facts.specs.declared.graphs.EdgeKind.TheVariants.{Plain, Call, Return}
use Rattle.argot_facts.specs.Reached.{IsEdgeIn}
use Rattle.argot_summary.specs.Netted.{AreEnds}
use Rattle.argot_summary.specs.declared.net.Net.{Net}
use Rattle.argot_flow.specs.Overs.{AreOvers, NotesOvers}

pub notes_none : (x : Net) (a : List (List ℕ)) → AreOvers x a → NotesOvers x a a
notes_none x a h = record { overs = h; kept = λ m n l. l }

pub notes_on : (x : Net) (a b c : List (List ℕ)) → NotesOvers x a b → NotesOvers x b c → NotesOvers x a c
notes_on x a b c p q = record { overs = q.overs; kept = λ m n l. q.kept m n (p.kept m n l) }

-- what is found is a node
edge_end : (es : List Edge) (nodes a b : ℕ) (k : EdgeKind) → AreEnds es nodes → IsEdgeIn es a k b → b < nodes
edge_end es nodes a b k ends e = let at = number_of (record { from = a; to = b; kind = k }) es e in (ends at.0 (record { from = a; to = b; kind = k }) at.1).1

pub found_inside : (es : List Edge) (nodes : ℕ) → AreEnds es nodes → {p r n : ℕ} → SameWithin (IsEdgeIn es) p r n → n < nodes
found_inside es nodes ends {p} (same_start {c = c} m e) = edge_end es nodes m p (Call c) ends e
found_inside es nodes ends {n = n} (same_plain m h e) = edge_end es nodes m n Plain ends e
found_inside es nodes ends {n = n} (same_over m q l c h e g d) = edge_end es nodes l n (Return c) ends d
