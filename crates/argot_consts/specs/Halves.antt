-- A whole number by the half of the line on which it lies.
use Rattle.std.specs.Prelude.{◌^◌, ◌<◌, ℤ, pos, negsuc}
use Rattle.argot_consts.specs.declared.halves.Half.{Half}
use Rattle.argot_consts.specs.declared.halves.Half.TheVariants.{From, Below}

-- the number that a half stands for
abbrev pub whole_of : Half → ℤ
whole_of (From n) = pos n
whole_of (Below n) = negsuc n

-- of 128 signed bits
abbrev pub IsNarrow : Half → Type 0
IsNarrow (From n) = n < 2 ^ 127
IsNarrow (Below n) = n < 2 ^ 127
