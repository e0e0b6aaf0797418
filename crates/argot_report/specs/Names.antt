-- How the report names places, functions, sources, sinks and sites.
use Rattle.std.specs.Prelude.{ℕ, ◌==◌, ◌&&◌, ◌++◌, Bool, Option, Some, None, List, [], nat_le, nat_lt, slice_get, length, codes, if◌then◌else◌}
use Rattle.std.specs.List.{find}
use Rattle.argot_text.specs.Lines.{position_text}
use Rattle.argot_text.specs.declared.position.Pos.{Pos}
use Rattle.argot_links.specs.Runs.{seconds}
use Rattle.argot_plain.specs.Code.{Code}
use Rattle.argot_plain.specs.Counts.{counts}
use Rattle.argot_plain.specs.declared.functions.Function.{Function}
use Rattle.argot_plain.specs.declared.functions.Ident.{Ident}
use Rattle.argot_plain.specs.declared.instructions.Instr.{Instr}
use Rattle.argot_plain.specs.declared.problems.Problem.{Problem}
use Rattle.argot_plain.specs.declared.sites.Site.{Site}

abbrev pub position_of : List (List ℕ) → Option Instr → List ℕ
position_of files None = []
position_of files (Some x) = position_text files x.at

-- where the place stands in the text
unfoldable pub place_text : Code → ℕ → List ℕ
place_text p i = position_of p.files (slice_get p.instrs i)

abbrev pub has_place : ℕ → Function → Bool
has_place i fn = nat_le fn.entry i && nat_le i fn.leave

abbrev pub name_of : Option Function → List ℕ
name_of None = []
name_of (Some fn) = fn.name

-- the name of the function that has the place
unfoldable pub function_text : Code → ℕ → List ℕ
function_text p i = name_of (find (has_place i) p.functions)

abbrev pub numbered_name : Code → Option ℕ → List ℕ
numbered_name p None = []
numbered_name p (Some h) = name_of (slice_get p.functions h)

-- the name of the first target of the place that counts as one of these functions
unfoldable pub counted_text : Code → List (ℕ × ℕ) → List ℕ → ℕ → List ℕ
counted_text p targets fs i = numbered_name p (find (λ h. counts p i h fs) (seconds i targets))

abbrev pub named_or : Option (ℕ × List ℕ) → List ℕ → List ℕ
named_or None other = other
named_or (Some x) other = x.1

-- the name of the field or variable of a source place, or else of the first target that counts as a source
unfoldable pub source_text : Code → List (ℕ × ℕ) → Problem → ℕ → List ℕ
source_text p targets pr i = named_or (find (λ x. x.0 == i) pr.source_places) (counted_text p targets pr.sources i)

-- `POS in FUNCTION`
abbrev pub inside_text : Code → ℕ → List ℕ
inside_text p i = place_text p i ++ codes " in " ++ function_text p i

-- `POS global PACKAGE.NAME`
abbrev pub variable_text : List (List ℕ) → Ident × Pos × ℕ → List ℕ
variable_text files x = position_text files x.1 ++ codes " global " ++ x.0.package ++ codes "." ++ x.0.name

abbrev pub variable_of : List (List ℕ) → Option (Ident × Pos × ℕ) → List ℕ
variable_of files None = []
variable_of files (Some x) = variable_text files x

abbrev pub made_at : Code → Option Site → List ℕ
made_at p None = []
made_at p (Some site) = inside_text p site.place

-- a package variable, `POS global PACKAGE.NAME`, or where the site's objects are made
unfoldable pub site_text : Code → ℕ → List ℕ
site_text p s = if nat_lt s (length p.globals) then variable_of p.files (slice_get p.globals s) else made_at p (slice_get p.sites s)
