-- A name is exported where its first character says so.
use Rattle.std.proofs.Common.{◌≡◌, ℕ, List, [], ◌∷◌, true, Some, sym, ap, ◌∙◌, subst}
use Rattle.std.specs.Prelude.{slice_get, encode_utf8_all}
use Rattle.std.specs.Str.{chars, IsUtf8, all_scalars}
use Rattle.std.proofs.lemmas.Str.{chars-encodes}
use Rattle.ucd_category.specs.GeneralCategory.{general_category}
use Rattle.ucd_category.specs.declared.GeneralCategory.TheVariants.{UppercaseLetter}
use Rattle.argot_names_rules.specs.PackageScope.{IsExported}

some_is : (x y : ℕ) → Some x ≡ Some y → x ≡ y
some_is x y e = cc

chars_are : (text : List ℕ) (cs : List ℕ) → all_scalars cs ≡ true → text ≡ encode_utf8_all cs → chars text ≡ cs
chars_are text cs s e = ap chars e ∙ chars-encodes cs s

pub exported_by : (name text : List ℕ) (c : ℕ) → text ≡ name → IsUtf8 name → slice_get (chars text) 0 ≡ Some c → general_category c ≡ UppercaseLetter → IsExported name
exported_by name text c same u at up = go u.0 u.1.0 u.1.1 (ap (λ cs. slice_get cs 0) (sym (chars_are text u.0 u.1.0 (same ∙ sym u.1.1))) ∙ at)
  where
    go : (cs : List ℕ) → all_scalars cs ≡ true → encode_utf8_all cs ≡ name → slice_get cs 0 ≡ Some c → IsExported name
    go [] s e g = absurd (cc)
    go (d ∷ ds) s e g = record { first = d; others = ds; scalars = s; is = sym e; upper = subst (λ x. general_category x ≡ UppercaseLetter) (some_is c d (sym g)) up }

pub exported_utf8 : (name : List ℕ) → IsExported name → IsUtf8 name
exported_utf8 name is = (is.first ∷ is.others, (is.scalars, sym is.is))

pub exported_first : (name text : List ℕ) (is : IsExported name) → text ≡ name → slice_get (chars text) 0 ≡ Some is.first
exported_first name text is same = ap (λ cs. slice_get cs 0) (chars_are text (is.first ∷ is.others) is.scalars (same ∙ is.is))

pub exported_upper : (name text : List ℕ) (c : ℕ) → text ≡ name → slice_get (chars text) 0 ≡ Some c → IsExported name → general_category c ≡ UppercaseLetter
exported_upper name text c same at is = subst (λ x. general_category x ≡ UppercaseLetter) (some_is is.first c (sym (exported_first name text is same) ∙ at)) is.upper
