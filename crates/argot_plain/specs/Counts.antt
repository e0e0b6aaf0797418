-- What a target counts as under a problem.
use Rattle.std.specs.Prelude.{ℕ, ◌==◌, ◌&&◌, ◌||◌, not, Bool, true, false, Option, Some, None, List, [], ◌∷◌, nat_le, slice_get, if◌then◌else◌}
use Rattle.argot_plain.specs.Lists.{member}
use Rattle.argot_plain.specs.Code.{Code, kind_of}
use Rattle.argot_plain.specs.declared.functions.Function.{Function}
use Rattle.argot_plain.specs.declared.functions.Role.{Role}
use Rattle.argot_plain.specs.declared.functions.Role.TheVariants.{Own, Wrapper, Bound}
use Rattle.argot_plain.specs.declared.instructions.Callee.{Callee}
use Rattle.argot_plain.specs.declared.instructions.Callee.TheVariants.{Static, Value, Method}
use Rattle.argot_plain.specs.declared.instructions.Kind.{Kind}
use Rattle.argot_plain.specs.declared.instructions.Kind.TheVariants.{Call, Go, Defer}
use Rattle.argot_plain.specs.declared.problems.Problem.{Problem}

abbrev pub is_wrapper : Role → Bool
is_wrapper Wrapper = true
is_wrapper Own = false
is_wrapper Bound = false

-- whether a wrapper has the place
abbrev pub in_wrapper : ℕ → List Function → Bool
in_wrapper i [] = false
in_wrapper i (fn ∷ fns) = (is_wrapper fn.role && nat_le fn.entry i && nat_le i fn.leave) || in_wrapper i fns

abbrev pub is_static : Callee → Bool
is_static (Static h) = true
is_static (Value r) = false
is_static (Method r name) = false

abbrev pub calls_by_number : Option Kind → Bool
calls_by_number (Some (Call to callee args)) = is_static callee
calls_by_number (Some (Go callee args)) = is_static callee
calls_by_number (Some (Defer callee args)) = is_static callee
calls_by_number _ = false

-- a call by number inside a wrapper counts as nothing: the wrapper counts as the method that it calls
abbrev pub is_left_out : Code → ℕ → Bool
is_left_out p i = calls_by_number (kind_of (slice_get p.instrs i)) && in_wrapper i p.functions

abbrev pub counted_as : Option Function → ℕ → Option ℕ
counted_as None h = None
counted_as (Some fn) h = if is_wrapper fn.role then fn.wraps else Some h

-- the function as which a target counts: for a wrapper its method, where it is declared, else the target itself
abbrev pub stands_for : Code → ℕ → Option ℕ
stands_for p h = counted_as (slice_get p.functions h) h

abbrev pub is_among : Option ℕ → List ℕ → Bool
is_among None fs = false
is_among (Some h) fs = member h fs

-- whether the target h of the place i counts as one of these functions
abbrev pub counts : Code → ℕ → ℕ → List ℕ → Bool
counts p i h fs = not (is_left_out p i) && is_among (stands_for p h) fs

abbrev pub is_source : Code → Problem → ℕ → ℕ → Bool
is_source p pr i h = counts p i h pr.sources

abbrev pub is_sink : Code → Problem → ℕ → ℕ → Bool
is_sink p pr i h = counts p i h pr.sinks

-- a sanitizer that is no source
abbrev pub cleans : Code → Problem → ℕ → ℕ → Bool
cleans p pr i h = counts p i h pr.sanitizers && not (is_source p pr i h)

abbrev pub is_named : ℕ → List (ℕ × List ℕ) → Bool
is_named i [] = false
is_named i (x ∷ xs) = i == x.0 || is_named i xs

-- whether the Read or Move at the place is a source
abbrev pub is_source_place : Problem → ℕ → Bool
is_source_place pr i = is_named i pr.source_places

-- the problem of tracing back: its points are the sinks, and nothing else counts
abbrev pub traced_back : Problem → Problem
traced_back pr = record pr { sources = []; sinks = pr.points; sanitizers = []; validators = []; source_places = [] }
