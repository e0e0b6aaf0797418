-- What follows from facts follows from more facts.
use Rattle.std.proofs.Common.{ℕ}
use Rattle.argot_plain.specs.Code.{Code}
use Rattle.argot_facts.specs.Escapes.{EscapesBy, by_variable, by_go, by_location}
use Rattle.argot_facts.specs.Follows.{UsesBy, by_call, by_defer, DirectlyFollowsBy, goes, calls, exits, returns, unwinds, returns_to_exit, runs, FollowsBy, one, then}
use Rattle.argot_facts.specs.Refers.{Fact, IsLive, IsLivePlaceIn}

module _ (p : Code) (F G : Fact → Type 0) (sub : (f : Fact) → F f → G f) where
  pub live_grows : {i : ℕ} → IsLivePlaceIn p F i → IsLivePlaceIn p G i
  live_grows l = record { function = l.function; is_in = l.is_in; is_live = sub (IsLive l.function) l.is_live }

  pub escapes_grows : {s : ℕ} → EscapesBy p F s → EscapesBy p G s
  escapes_grows (by_variable k ident at e) = by_variable k ident at e
  escapes_grows {s = s} (by_go i k q path callee args live at f) = by_go i k q path callee args (live_grows live) at (sub _ f)
  escapes_grows (by_location o q path e f) = by_location o q path (escapes_grows e) (sub _ f)

  pub uses_grows : {i g h : ℕ} → UsesBy p F i g h → UsesBy p G i g h
  uses_grows (by_call to args callee takes inside at f) = by_call to args callee takes inside at (sub _ f)
  uses_grows (by_defer args callee takes inside at f) = by_defer args callee takes inside at (sub _ f)

  pub directly_grows : {i j : ℕ} → DirectlyFollowsBy p F i j → DirectlyFollowsBy p G i j
  directly_grows (goes l s) = goes (live_grows l) s
  directly_grows (calls h to args callee takes fn at f is) = calls h to args callee takes fn at (sub _ f) is
  directly_grows (exits g fn l inside is body) = exits g fn (live_grows l) inside is body
  directly_grows (returns i h to args callee takes fn is body at f s) = returns i h to args callee takes fn is body at (sub _ f) s
  directly_grows (unwinds i g h gn fn u is body gs) = unwinds i g h gn fn (uses_grows u) is body gs
  directly_grows (returns_to_exit i g h gn fn u is body gs) = returns_to_exit i g h gn fn (uses_grows u) is body gs
  directly_grows (runs i g h args callee takes gn fn inside at f gs is) = runs i g h args callee takes gn fn inside at (sub _ f) gs is

  pub follows_grows : {a b : ℕ} → FollowsBy p F a b → FollowsBy p G a b
  follows_grows (one x) = one (directly_grows x)
  follows_grows (then x y) = then (follows_grows x) (directly_grows y)
