-- Rows whose definition stands in the block of the place.
use Rattle.std.proofs.Common.{ℕ, List, arith}
use Rattle.argot_plain.specs.Code.{Code}
use Rattle.argot_plain.specs.declared.functions.Function.{Function}
use Rattle.argot_ssa.specs.Places.{size, defines_at, IsCut, IsLocal}
use Rattle.argot_ssa.specs.Paths.{Row, IsFound, IsLocalUpTo}
use Rattle.argot_ssa.proofs.Blocks.{local_path}

pub local_found : (p : Code) (fn : Function) (heads : List ℕ) → IsCut p fn heads → (x : Row) → IsLocalUpTo p fn heads (size fn) x → IsFound p fn x
local_found p fn heads cut x u =
    let row = u.2 in
    let low = u.1 in
    let up = row.is_local.high in
    record {
      k = u.0;
      d = row.d;
      place = row.place;
      definition = row.definition;
      low = u.1;
      read = row.read;
      starts = omega arith;
      defines = row.is_local.defines_it;
      path = local_path p fn heads cut (defines_at p fn x.1) row.d u.0 u.1 row.is_local;
    }

pub found_local : (p : Code) (fn : Function) (heads : List ℕ) (x : Row) (f : IsFound p fn x) → IsLocal heads (defines_at p fn x.1) f.d f.k → IsLocalUpTo p fn heads (size fn) x
found_local p fn heads x f here = (f.k, f.low, record { d = f.d; place = f.place; definition = f.definition; read = f.read; is_local = here })
