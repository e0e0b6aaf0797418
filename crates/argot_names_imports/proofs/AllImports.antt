-- The imports of all files, file by file.
use Rattle.std.proofs.Common.{◌≡◌, ◌≢◌, ℕ, ◌+◌, ◌<◌, ◌⊎◌, inl, inr, List, [], ◌++◌, length, Option, Some, None, refl, sym, ap, ◌∙◌, subst, arith}
use Rattle.std.specs.Prelude.{slice_get}
use Rattle.std.proofs.lemmas.Bool.{cases_eq}
use Rattle.argot_text.specs.declared.sources.Sources.{Sources}
use Rattle.argot_tree.specs.declared.token.Token.{Token}
use Rattle.argot_tree.specs.declared.lexed.Lexed.{Lexed}
use Rattle.argot_tree.specs.declared.tree.TreeNode.{TreeNode}
use Rattle.argot_tree.specs.declared.tree.Tree.{Tree}
use Rattle.argot_names_rules.specs.Lists.{IsListOf}
use Rattle.argot_names_rules.specs.Files.{SourceFiles, SourceFile, read_of, nodes_in}
use Rattle.argot_names_imports.specs.declared.written.Written.{Written}
use Rattle.argot_names_imports.specs.Written.{IsWritten}
use Rattle.argot_names_imports.specs.Reads.{bytes_at, tokens_at, nodes_at, handed}
use Rattle.argot_names_imports.specs.AllWritten.{InOrder, by_file, by_node, IsAnImport}
use Rattle.argot_names_imports.proofs.Lists.{list_none, list_same, list_joined, list_reorder, get_below}
use Rattle.argot_names_imports.proofs.Writing.{ByNode, within_nodes}

-- an import of a file below this number
pub record IsImportBelow (h : SourceFiles) (count : ℕ) (w : Written) : Type 0 where
  pub below : w.file < count
  pub is : IsAnImport h w

abbrev pub AreImportsBelow : SourceFiles → ℕ → List Written → Type 0
AreImportsBelow h count ws = IsListOf InOrder (IsImportBelow h count) ws

pub read_is : (sources : Sources) (lexed : List Lexed) (trees : List Tree) (file : ℕ) (bytes : List ℕ) (tokens : List Token) (nodes : List TreeNode)
    → bytes ≡ bytes_at sources file → tokens ≡ tokens_at lexed file → nodes ≡ nodes_at trees file → ◌≡◌ {A = SourceFile} (record { bytes = bytes; tokens = tokens; nodes = nodes }) (read_of (handed sources lexed trees) file)
read_is sources lexed trees file bytes tokens nodes b t n = λ i. record { bytes = b i; tokens = t i; nodes = n i }

pub imports_none : (h : SourceFiles) → AreImportsBelow h 0 []
imports_none h = list_none InOrder (IsImportBelow h 0) (λ w is. absurd (omega (arith, is.below)))

of_file : (h : SourceFiles) (file : ℕ) (w : Written) → w.file ≡ file → IsWritten (read_of h file) w → IsAnImport h w
of_file h file w e is = subst (λ k. IsWritten (read_of h k) w) (sym e) is

abbrev IsOf : SourceFiles → ℕ → Written → Type 0
IsOf h file w = (w.file ≡ file) × IsWritten (read_of h file) w

pub imports_more : (h : SourceFiles) (file : ℕ) (f : SourceFile) (all ws new : List Written) → AreImportsBelow h file all → f ≡ read_of h file → IsListOf ByNode (λ w. (w.file ≡ file) × IsWritten f w) ws
    → new ≡ all ++ ws → AreImportsBelow h (file + 1) new
imports_more h file f all ws new are f_is these e =
    subst (AreImportsBelow h (file + 1)) (sym e)
    (list_joined InOrder (IsImportBelow h file) (IsOf h file) (IsImportBelow h (file + 1)) all ws are
    (list_reorder ByNode InOrder (IsOf h file) ws (subst (λ g. IsListOf ByNode (λ w. (w.file ≡ file) × IsWritten g w) ws) f_is these) (λ a b p q l. by_node (p.0 ∙ sym q.0) l))
    (λ x y p q. by_file (omega (arith, p.below, q.0)))
    (λ x p. record { below = omega (arith, p.below); is = p.is })
    (λ x p. record { below = omega (arith, p.0); is = of_file h file x p.0 p.1 })
    (λ x p. either x p (cases_eq x.file file)))
  where
    either : (w : Written) → IsImportBelow h (file + 1) w → (w.file ≡ file) ⊎ (w.file ≢ file) → IsImportBelow h file w ⊎ IsOf h file w
    either w p (inl same) = inr (same, subst (λ k. IsWritten (read_of h k) w) same p.is)
    either w p (inr other) = inl (record { below = omega (arith, p.below, other); is = p.is })

-- a file with an import has a tree
file_within : (h : SourceFiles) (w : Written) → IsAnImport h w → w.file < length h.trees
file_within h w is = go (slice_get h.trees w.file) refl
  where
    go : (o : Option Tree) → slice_get h.trees w.file ≡ o → w.file < length h.trees
    go None e = absurd (omega (arith, within_nodes (read_of h w.file) w is, ap (λ o. length (nodes_in o)) e))
    go (Some t) e = get_below h.trees w.file t e

pub imports_all : (h : SourceFiles) (count : ℕ) (all : List Written) → AreImportsBelow h count all → length h.trees ≡ count → IsListOf InOrder (IsAnImport h) all
imports_all h count all are e = list_same InOrder (IsImportBelow h count) (IsAnImport h) all are (λ w p. p.is) (λ w p. record { below = omega (arith, file_within h w p, e); is = p })
