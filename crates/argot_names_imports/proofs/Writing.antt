-- The imports of a file, node by node.
use Rattle.std.proofs.Common.{◌≡◌, ◌≢◌, ℕ, ◌+◌, ◌<◌, ◌⊎◌, inl, inr, List, ◌∷◌, [], ◌++◌, length, Option, Some, None, refl, sym, ap, ◌∙◌, subst, arith}
use Rattle.std.specs.Prelude.{IfSome, IfNone}
use Rattle.std.specs.Option.{option_to_list}
use Rattle.std.proofs.lemmas.Bool.{cases_eq}
use Rattle.argot_names_rules.specs.Lists.{IsListOf}
use Rattle.argot_names_rules.specs.Files.{SourceFile, text_at}
use Rattle.argot_names_rules.specs.TextValues.{TextValue}
use Rattle.argot_names_rules.specs.Imports.{Imports}
use Rattle.argot_names_rules.specs.declared.alias.Alias.{Alias}
use Rattle.argot_names_imports.specs.declared.written.Written.{Written}
use Rattle.argot_names_imports.specs.Written.{IsWritten}
use Rattle.argot_names_imports.proofs.Lists.{list_none, list_same, list_more, get_below}
use Rattle.argot_names_imports.proofs.Siting.{one_site, site_there}
use Rattle.argot_names_imports.proofs.Values.{one_text_value}

abbrev pub ByNode : Written → Written → Type 0
ByNode a b = a.node < b.node

-- an import whose node comes before that of this number
pub record IsWrittenBelow (file : ℕ) (f : SourceFile) (count : ℕ) (w : Written) : Type 0 where
  pub below : w.node < count
  pub file_is : w.file ≡ file
  pub is : IsWritten f w

-- the imports so far
abbrev pub AreBelow : ℕ → SourceFile → ℕ → List Written → Type 0
AreBelow file f count ws = IsListOf ByNode (IsWrittenBelow file f count) ws

same : (z y' a b c d e g : ℕ) (x y : Alias) (p q : List ℕ) → z ≡ y' → a ≡ b → c ≡ d → e ≡ g → x ≡ y → p ≡ q
    → ◌≡◌ {A = Written} (record { file = z; node = a; at = c; path_at = e; alias = x; path = p }) (record { file = y'; node = b; at = d; path_at = g; alias = y; path = q })
same z y' a b c d e g x y p q h0 h1 h2 h3 h4 h5 = λ t. record { file = h0 t; node = h1 t; at = h2 t; path_at = h3 t; alias = h4 t; path = h5 t }

-- a node is one import
pub one_written : (f : SourceFile) (v w : Written) → v.file ≡ w.file → v.node ≡ w.node → IsWritten f v → IsWritten f w → v ≡ w
one_written f v w file node a b =
    let a' = subst (λ n. Imports f n v.at v.path_at v.alias v.path) node a in
    let parts = one_site f.nodes w.node v.at w.at v.path_at w.path_at v.alias w.alias a'.is b.is in
    let path = one_text_value (text_at f w.path_at) v.path w.path (subst (λ t. TextValue (text_at f t) v.path) parts.1 a'.value) b.value in
    same v.file w.file v.node w.node v.at w.at v.path_at w.path_at v.alias w.alias v.path w.path file node parts.0 parts.1 parts.2 path

pub none_below : (file : ℕ) (f : SourceFile) → AreBelow file f 0 []
none_below file f = list_none ByNode (IsWrittenBelow file f 0) (λ w h. absurd (omega (arith, h.below)))

pub more_below : (file : ℕ) (f : SourceFile) (count : ℕ) (ws : List Written) (w : Written) → AreBelow file f count ws → w.node ≡ count → w.file ≡ file → IsWritten f w → AreBelow file f (count + 1) (ws ++ w ∷ [])
more_below file f count ws w are node file_is is =
    list_more ByNode (IsWrittenBelow file f count) (IsWrittenBelow file f (count + 1)) ws w are
    (record { below = omega (arith, node); file_is = file_is; is = is })
    (λ v h. omega (arith, h.below, node))
    (λ v h. record { below = omega (arith, h.below); file_is = h.file_is; is = h.is })
    (λ v h. either v h (cases_eq v.node count))
  where
    either : (v : Written) → IsWrittenBelow file f (count + 1) v → (v.node ≡ count) ⊎ (v.node ≢ count) → IsWrittenBelow file f count v ⊎ (v ≡ w)
    either v h (inl e) = inr (one_written f v w (h.file_is ∙ sym file_is) (e ∙ sym node) h.is is)
    either v h (inr other) = inl (record { below = omega (arith, h.below, other); file_is = h.file_is; is = h.is })

pub same_below : (file : ℕ) (f : SourceFile) (count : ℕ) (ws : List Written) → AreBelow file f count ws → ((w : Written) → w.node ≡ count → w.file ≡ file → IsWritten f w → ⊥) → AreBelow file f (count + 1) ws
same_below file f count ws are none =
    list_same ByNode (IsWrittenBelow file f count) (IsWrittenBelow file f (count + 1)) ws are
    (λ v h. record { below = omega (arith, h.below); file_is = h.file_is; is = h.is })
    (λ v h. before v h (cases_eq v.node count))
  where
    before : (v : Written) → IsWrittenBelow file f (count + 1) v → (v.node ≡ count) ⊎ (v.node ≢ count) → IsWrittenBelow file f count v
    before v h (inl e) = absurd (none v e h.file_is h.is)
    before v h (inr other) = record { below = omega (arith, h.below, other); file_is = h.file_is; is = h.is }

-- the next node is an import, or none
pub step_below : (file : ℕ) (f : SourceFile) (count : ℕ) (ws new : List Written) (o : Option Written) → AreBelow file f count ws → IfSome o (λ w. (w.node ≡ count) × (w.file ≡ file) × IsWritten f w)
    → IfNone o ((w : Written) → w.node ≡ count → w.file ≡ file → IsWritten f w → ⊥) → new ≡ ws ++ option_to_list o → AreBelow file f (count + 1) new
step_below file f count ws new None are some none e = subst (AreBelow file f (count + 1)) (sym (e ∙ append_nil ws)) (same_below file f count ws are none)
  where
    append_nil : (xs : List Written) → xs ++ [] ≡ xs
    append_nil [] = refl
    append_nil (x ∷ xs) = ap (λ ys. x ∷ ys) (append_nil xs)
step_below file f count ws new (Some w) are some none e = subst (AreBelow file f (count + 1)) (sym e) (more_below file f count ws w are some.0 some.1 some.2)

-- all nodes have been read
pub all_below : (file : ℕ) (f : SourceFile) (count : ℕ) (ws : List Written) → AreBelow file f count ws → ((w : Written) → IsWritten f w → w.node < count) → IsListOf ByNode (λ w. (w.file ≡ file) × IsWritten f w) ws
all_below file f count ws are within = list_same ByNode (IsWrittenBelow file f count) (λ w. (w.file ≡ file) × IsWritten f w) ws are (λ w h. (h.file_is, h.is)) (λ w h. record { below = within w h.1; file_is = h.0; is = h.1 })

pub within_nodes : (f : SourceFile) (w : Written) → IsWritten f w → w.node < length f.nodes
within_nodes f w h = let is = site_there f.nodes w.node w.at w.path_at w.alias h.is in get_below f.nodes w.node is.0 is.1
