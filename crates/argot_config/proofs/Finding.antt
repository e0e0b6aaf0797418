-- What a look finds is what its matcher names.
use Rattle.std.proofs.Common.{◌≡◌, ℕ, List, Bool, true, false, Option, Some, None, refl}
use Rattle.argot_plain.specs.declared.functions.Ident.{Ident}
use Rattle.argot_plain.specs.declared.instructions.Tag.{Tag}
use Rattle.argot_config_read.specs.declared.config.Matcher.{Matcher}
use Rattle.argot_config_read.specs.declared.config.Test.{Test}
use Rattle.argot_config_read.specs.declared.config.Test.TheVariants.{All, Whole, Built}
use Rattle.argot_config.specs.Looking.{are_found, finds_function, finds_tag, is_found, sought_by, three_of}
use Rattle.argot_config.specs.Matching.{looks_at_functions, looks_at_tags, names_function, names_tag, passes, passes_all}

is_found_passes : (t : Test) (text : List ℕ) → is_found (sought_by t) text ≡ passes t text
is_found_passes All text = refl
is_found_passes (Whole wanted) text = refl
is_found_passes (Built pattern) text = refl

pub found_is_named : (m : Matcher) (ident : Ident) → are_found (three_of m) ident ≡ passes_all m ident
found_is_named m ident = rw (is_found_passes m.package ident.package, is_found_passes m.receiver ident.receiver, is_found_passes m.name ident.name) refl

-- at a matcher of functions
pub finds_named : (m : Matcher) (ident : Option Ident) → looks_at_functions m.kind ≡ true → finds_function (three_of m) ident ≡ names_function ident m
finds_named m None k = refl
finds_named m (Some ident) k = rw (found_is_named m ident, k) refl

pub names_none : (m : Matcher) (ident : Option Ident) → looks_at_functions m.kind ≡ false → names_function ident m ≡ false
names_none m None k = refl
names_none m (Some ident) k = rw k refl

pub finds_named_tag : (m : Matcher) (tag : Tag) → finds_tag (three_of m) m.kind tag ≡ names_tag tag m
finds_named_tag m tag = rw (found_is_named m tag.ident) refl

pub names_no_tag : (m : Matcher) (tag : Tag) → looks_at_tags m.kind true ≡ false → looks_at_tags m.kind false ≡ false → names_tag tag m ≡ false
names_no_tag m tag t f = at tag.global t f refl
  where
    at : (g : Bool) → looks_at_tags m.kind true ≡ false → looks_at_tags m.kind false ≡ false → tag.global ≡ g → names_tag tag m ≡ false
    at true t f is = rw (is, t) refl
    at false t f is = rw (is, f) refl
