-- Tests of instructions, whichever function has them.
use Rattle.std.specs.Prelude.{ℕ, ◌+◌, ◌==◌, ◌&&◌, ◌||◌, Bool, true, false, Option, Some, None, List, [], ◌∷◌, nat_lt, nat_le, length, slice_get}
use Rattle.argot_plain.specs.declared.instructions.Callee.{Callee}
use Rattle.argot_plain.specs.declared.instructions.Callee.TheVariants.{Static, Value, Method}
use Rattle.argot_plain.specs.declared.instructions.Instr.{Instr}
use Rattle.argot_plain.specs.declared.instructions.Kind.{Kind}
use Rattle.argot_plain.specs.declared.instructions.Kind.TheVariants.{Move, New, Read, Global, Call, Go, Defer, Passed}
use Rattle.argot_plain.specs.declared.sites.Site.{Site}
use Rattle.argot_plain_parts.specs.Numbers.{no_number_twice}

abbrev pub callee_there : ℕ → Callee → Bool
callee_there functions (Static h) = nat_lt h functions
callee_there functions (Value r) = true
callee_there functions (Method r name) = true

-- whether the site stands at the place and is none of a package variable
abbrev pub is_site_of : ℕ → ℕ → ℕ → Option Site → Bool
is_site_of globals i s None = false
is_site_of globals i s (Some site) = nat_le globals s && (site.place == i)

-- whether the functions, package variables and sites that an instruction names are there, and its results distinct
abbrev pub names_there : ℕ → ℕ → List Site → ℕ → Kind → Bool
names_there functions globals sites i (Call to callee args) = callee_there functions callee && no_number_twice to
names_there functions globals sites i (Go callee args) = callee_there functions callee
names_there functions globals sites i (Defer callee args) = callee_there functions callee
names_there functions globals sites i (Passed to h) = nat_lt h functions
names_there functions globals sites i (Global to k) = nat_lt k globals
names_there functions globals sites i (New to s) = is_site_of globals i s (slice_get sites s)
names_there functions globals sites i _ = true

abbrev pub may_have_tags : Kind → Bool
may_have_tags (Read to at leaves) = true
may_have_tags (Move to from path) = true
may_have_tags _ = false

abbrev pub instr_fits : ℕ → ℕ → List Site → ℕ → ℕ → Instr → Bool
instr_fits functions globals sites files i x = names_there functions globals sites i x.kind && ((length x.tags == 0) || may_have_tags x.kind) && nat_lt x.at.file files

-- whether the instructions from the place on fit
abbrev pub instrs_fit : ℕ → ℕ → List Site → ℕ → ℕ → List Instr → Bool
instrs_fit functions globals sites files i [] = true
instrs_fit functions globals sites files i (x ∷ xs) = instr_fits functions globals sites files i x && instrs_fit functions globals sites files (i + 1) xs
