-- The tests of a whole program, in three groups.
use Rattle.std.specs.Prelude.{◌&&◌, Bool, nat_le, length, drop}
use Rattle.argot_plain.specs.Code.{Code}
use Rattle.argot_plain_parts.specs.Functions.{ranges_fit, has_entry, each_function_fits}
use Rattle.argot_plain_parts.specs.Places.{each_place_fits}
use Rattle.argot_plain_parts.specs.Sites.{in_order, sites_fit, owned_fit, grows_fit, globals_fit}
use Rattle.argot_plain_parts.specs.Instructions.{instrs_fit}
use Rattle.argot_plain_parts.specs.Wrappers.{methods_fit}

-- the functions and their places
abbrev pub functions_pass : Code → Bool
functions_pass p = nat_le (length p.functions) 65536 && nat_le (length p.instrs) 1048576 && ranges_fit 0 (length p.instrs) p.functions && has_entry p.functions
    && each_function_fits p.functions p.instrs (length p.files) p.functions && each_place_fits p.functions p.instrs p.functions

-- the package variables and the sites
abbrev pub sites_pass : Code → Bool
sites_pass p = nat_le (length p.globals) (length p.sites) && globals_fit (length p.files) p.sites 0 p.globals && in_order (drop (length p.globals) p.sites)
    && sites_fit p.functions p.instrs (length p.globals) (drop (length p.globals) p.sites) && owned_fit p.instrs p.functions (drop (length p.globals) p.sites)
    && grows_fit 0 p.instrs (drop (length p.globals) p.sites)

-- the names in instructions and the wrappers
abbrev pub names_pass : Code → Bool
names_pass p = instrs_fit (length p.functions) (length p.globals) p.sites (length p.files) 0 p.instrs && methods_fit p.functions p.methods

abbrev pub passes : Code → Bool
passes p = functions_pass p && sites_pass p && names_pass p
