use Rattle.argot_points.proofs.Called.{call_here, go_here, defer_here, no_call}
use Rattle.argot_points.proofs.system.System.calling.Goals as goal

pub returns-in-Call-clause-found : goal.returns-in-Call-clause-found
returns-in-Call-clause-found c = rw (c.as_slice.ensures, c.len-in-Call.ensures) (call_here _ _ _ _ _ _ c.kind.ensures c.in-Call.is)

pub returns-in-Go-clause-found : goal.returns-in-Go-clause-found
returns-in-Go-clause-found c = rw c.as_slice-in-Go.ensures (go_here _ _ _ _ _ c.kind.ensures c.in-Go.is)

pub returns-in-Defer-clause-found : goal.returns-in-Defer-clause-found
returns-in-Defer-clause-found c = rw c.as_slice-in-Defer.ensures (defer_here _ _ _ _ _ c.kind.ensures c.in-Defer.is)

pub returns-in_default : goal.returns-in_default
returns-in_default c = record {
  found = tt;
  only = tt;
  none = λ a. no_call _ _ _ c.kind.ensures (λ to args callee. c.in_default.not-Call to callee args) (λ args callee. c.in_default.not-Go callee args) (λ args callee. c.in_default.not-Defer callee args);
}
