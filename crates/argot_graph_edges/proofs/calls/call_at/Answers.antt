use Rattle.argot_graph_edges.proofs.Calling.{call_here, go_or_defer, no_call}
use Rattle.argot_graph_edges.proofs.calls.call_at.Goals as goal

pub returns-in-Call-clause-found : goal.returns-in-Call-clause-found
returns-in-Call-clause-found c = rw (c.as_slice.ensures, c.len-in-Call.ensures) (call_here _ _ _ _ _ _ c.kind.ensures c.in-Call.is)

pub returns-in-Go-clause-found : goal.returns-in-Go-clause-found
returns-in-Go-clause-found c = rw c.as_slice-in-Go.ensures (go_or_defer _ _ _ _ _ c.kind.ensures c.in-Go.is)

pub returns-in_default : goal.returns-in_default
returns-in_default c = record {
  place = tt;
  found = tt;
  only = tt;
  none = λ z. no_call _ _ _ c.kind.ensures (λ to args callee. c.in_default.not-Call to callee args) (λ args callee. c.in_default.not-Go callee args) (λ args callee. c.in_default.not-Defer callee args);
  inside = tt;
}
