use Rattle.std.proofs.Common.{refl}
use Rattle.std.specs.Str.{chars}
use Rattle.argot_check_source.proofs.laws.values_of_literals.Goals as goal

pub returns : goal.returns
unfolding chars
returns c = record {
  decimal = refl;
  hexadecimal = refl;
  octal = refl;
  old_octal = refl;
  binary = refl;
  zero = refl;
  rune = refl;
  rune_escaped = refl;
  rune_by_number = refl;
  rune_of_two_bytes = refl;
  text = refl;
  text_by_number = refl;
  raw = refl;
}
