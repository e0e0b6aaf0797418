-- The files of a folder as they are handed over: their paths, bytes, tokens and trees, and places in them.
use Rattle.std.specs.Prelude.{◌≡◌, ℕ, ◌<◌, List, [], Option, Some, None, slice_get, unwrap_or}
use Rattle.std.specs.List.{slice_range}
use Rattle.argot_text.specs.declared.sources.Sources.{Sources}
use Rattle.argot_text.specs.declared.position.Pos.{Pos}
use Rattle.argot_text.specs.Lines.{line_of, column_of}
use Rattle.argot_tree.specs.declared.token.Token.{Token}
use Rattle.argot_tree.specs.declared.lexed.Lexed.{Lexed}
use Rattle.argot_tree.specs.declared.tree.TreeNode.{TreeNode}
use Rattle.argot_tree.specs.declared.tree.Tree.{Tree}

-- the files of a folder, and at the same number what was read of each
pub record SourceFiles : Type 0 where
  pub sources : Sources
  pub lexed : List Lexed
  pub trees : List Tree

-- one file: its bytes, its tokens, its tree in preorder
pub record SourceFile : Type 0 where
  pub bytes : List ℕ
  pub tokens : List Token
  pub nodes : List TreeNode

abbrev pub tokens_in : Option Lexed → List Token
tokens_in None = []
tokens_in (Some lexed) = lexed.tokens

abbrev pub directives_in : Option Lexed → List ℕ
directives_in None = []
directives_in (Some lexed) = lexed.directives

abbrev pub nodes_in : Option Tree → List TreeNode
nodes_in None = []
nodes_in (Some tree) = tree.nodes

abbrev pub bytes_of : SourceFiles → ℕ → List ℕ
bytes_of h file = unwrap_or (slice_get h.sources.contents file) []

-- the file of this number
abbrev pub read_of : SourceFiles → ℕ → SourceFile
read_of h file =
    record {
      bytes = bytes_of h file;
      tokens = tokens_in (slice_get h.lexed file);
      nodes = nodes_in (slice_get h.trees file);
    }

abbrev pub directives_of : SourceFiles → ℕ → List ℕ
directives_of h file = directives_in (slice_get h.lexed file)

-- the bytes of a token
abbrev pub spelled : List ℕ → Option Token → List ℕ
spelled bytes None = []
spelled bytes (Some token) = slice_range bytes token.start token.end

abbrev pub text_at : SourceFile → ℕ → List ℕ
text_at f token = spelled f.bytes (slice_get f.tokens token)

-- a byte of a file
pub record Place : Type 0 where
  pub file : ℕ
  pub offset : ℕ

-- the first byte of a token
pub record Begins (h : SourceFiles) (file token : ℕ) (place : Place) : Type 0 where
  pub is : Token
  pub there : slice_get (read_of h file).tokens token ≡ Some is
  pub in_file : place.file ≡ file
  pub at : place.offset ≡ is.start

-- by file, and in a file by offset
pub data IsBefore (a b : Place) : Type 0 where
  by_file : a.file < b.file → IsBefore a b
  by_offset : a.file ≡ b.file → a.offset < b.offset → IsBefore a b

-- the first of the places that the claim holds of
pub record IsFirst (Holds : Place → Type 0) (place : Place) : Type 0 where
  pub holds : Holds place
  pub first : (other : Place) → Holds other → IsBefore other place → ⊥

-- a place by line and column
abbrev pub position_of : SourceFiles → Place → Pos
position_of h place =
    record {
      file = place.file;
      line = line_of (bytes_of h place.file) place.offset;
      col = column_of (bytes_of h place.file) place.offset;
    }
