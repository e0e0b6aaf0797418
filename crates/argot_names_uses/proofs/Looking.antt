-- What a name means, by the text of its token.
use Rattle.std.proofs.Common.{◌≡◌, ◌≢◌, ℕ, List, ◌∙◌, subst, codes}
use Rattle.argot_names_rules.specs.declared.package_key.PackageKey.{PackageKey}
use Rattle.argot_names_rules.specs.Files.{SourceFiles, read_of, text_at}
use Rattle.argot_names_scopes.specs.declared.file.FileNames.{FileNames}
use Rattle.argot_names_scopes.specs.Texts.{text_in}
use Rattle.argot_names_imports.specs.declared.reached.Reached.{Reached}
use Rattle.argot_names_tops.specs.Tops.{IsNamesOf}
use Rattle.argot_names_tops.specs.declared.meaning.Meaning.{Meaning}
use Rattle.argot_names_tops.specs.Meanings.{IsMeaning}
use Rattle.argot_names_uses.proofs.Faulty.{text_is}
use Rattle.argot_typed.specs.declared.program.Decl.{Decl}
use Rattle.argot_names_uses.specs.declared.known.Known.{Known}
use Rattle.argot_names_uses.specs.Known.{IsHere, IsIn}

-- the file stands there, whatever the numbers of declarations
pub in_of : (h : SourceFiles) (main : List ℕ) (home : PackageKey) (decls : List Decl) (k : Known) (n : FileNames) (package_ file : ℕ) → IsHere h main home decls k n package_ file → IsIn h main home k n package_ file
in_of h main home decls k n package_ file here = record { at = record { tops_are = here.known.tops_are; names_are = here.names; reached = here.reached }; in_home = here.in_home }

module _ (h : SourceFiles) (home : PackageKey) (file : ℕ) (n : FileNames) (is : IsNamesOf h file n) (token : ℕ) (name : List ℕ) (spelled : name ≡ text_in n.bytes.now n.tokens.now token) where
  pub text : name ≡ text_at (read_of h file) token
  text = text_is h home file n is token name spelled

  pub meaning : (r : Reached) (m : Meaning) → IsMeaning h r home file token name m → IsMeaning h r home file token (text_at (read_of h file) token) m
  meaning r m means = subst (λ t. IsMeaning h r home file token t m) text means

  pub named : (name ≡ codes "_" → ⊥) → text_at (read_of h file) token ≢ codes "_"
  named not blank = not (text ∙ blank)
