-- What reading a file tells of its trees.
use Rattle.std.proofs.Common.{◌≡◌, ℕ, ◌+◌, ◌*◌, ◌≤◌, List, [], ◌++◌, length, Some, None, sym, ap, ◌∙◌, subst}
use Rattle.argot_tree.specs.declared.token.Token.{Token}
use Rattle.argot_tree.specs.declared.tree.TreeNode.{TreeNode}
use Rattle.argot_tree.specs.Forests.{Forest, nodes_from}
use Rattle.argot_tree.specs.Trees.{SpellsNodes}
use Rattle.argot_tree.specs.Grammar.{File, Spells}
use Rattle.argot_parse_reader.specs.declared.post.Post.{Post}
use Rattle.argot_parse_reader.specs.Posts.{posts}
use Rattle.argot_parse_reader.specs.Reading.{The, Answer}
use Rattle.argot_parse_reader.specs.Reader.{read}
use Rattle.argot_parse_reader.proofs.Sound.{reads_spelled}
use Rattle.argot_parse_reader.proofs.Exact.Unique.{spelled_read}
use Rattle.argot_parse.specs.Parsed.{SpellsNoTree, IsSyntax, IsUnparsed}
use Rattle.argot_grammar.specs.declared.fault.ParseFault.{ParseFault}
use Rattle.argot_grammar.specs.declared.fault.ParseFault.TheVariants as faults
use Rattle.argot_tree.specs.Nesting.{IsShallow}

-- the nodes that were read are a tree that spells the tokens
pub file_tree : (tokens : List Token) (n to : ℕ) (old new : List Post) (nodes : List TreeNode) → old ≡ [] → read tokens n (The File) 0 old ≡ Some (to, new) → to ≡ length tokens → ((x : Forest) → new ≡ posts x → nodes ≡ nodes_from 0 x) → SpellsNodes tokens File nodes 0 (length tokens)
file_tree tokens n to old new nodes none e end linked =
    let read_is = reads_spelled tokens n File 0 to old new e in
    (read_is.0, subst (λ t. Spells tokens File read_is.0 0 t) end read_is.1, linked read_is.0 (read_is.2 ∙ ap (λ l. l ++ posts read_is.0) none))

-- where no file is read, or not all of it, no tree spells the tokens
pub unread : (tokens : List Token) (n : ℕ) (old : List Post) → old ≡ [] → 32 * length tokens + 1 ≤ n → read tokens n (The File) 0 old ≡ None → SpellsNoTree tokens
unread tokens n old none enough e tree s =
    let is = spelled_read tokens s.0 n s.1 enough in
    let other = ap (read tokens n (The File) 0) (sym none) ∙ e in
    cc

-- where an answer ends
place : Answer → ℕ
place None = 0
place (Some r) = r.0

pub read_short : (tokens : List Token) (n to : ℕ) (old new : List Post) → old ≡ [] → 32 * length tokens + 1 ≤ n → read tokens n (The File) 0 old ≡ Some (to, new) → (to ≡ length tokens → ⊥) → SpellsNoTree tokens
unfolding place
read_short tokens n to old new none enough e short tree s =
    short (ap place (sym (ap (read tokens n (The File) 0) (sym none) ∙ e) ∙ spelled_read tokens s.0 n s.1 enough))

-- a syntax fault where no tree spells the tokens
pub syntax_fault : (tokens : List Token) (fault : ParseFault) → IsSyntax fault → IsShallow tokens → SpellsNoTree tokens → IsUnparsed tokens fault
syntax_fault tokens (faults.Syntax token) h shallow none = (shallow, none)
syntax_fault tokens (faults.TooDeep token) h shallow none = absurd h
syntax_fault tokens faults.Memory h shallow none = absurd h
