-- Functions: their parts, and which one is around a node.
use Rattle.std.specs.Prelude.{ℕ, zero, suc, Bool, true, false, List, [], ◌∷◌, ◌++◌, length, Option, Some, None, if◌then◌else◌}
use Rattle.argot_tree.specs.declared.node_kind.NodeKind.{NodeKind}
use Rattle.argot_tree.specs.declared.node_kind.NodeKind.TheVariants as nodes
use Rattle.argot_check_source.specs.Code.{Code, children, parent_of, is_of, child_of, all_of, head_of, tail_of, children_of_all, text_of, is_decl_name, is_block, is_signature, is_params, is_function}

-- the signature, the body and the name of a function's declaration or literal
abbrev pub signature_of : Code → ℕ → Option ℕ
signature_of c n = child_of c is_signature n

abbrev pub body_of : Code → ℕ → Option ℕ
body_of c n = child_of c is_block n

abbrev pub name_of : Code → ℕ → Option ℕ
name_of c n = child_of c is_decl_name n

-- the receiver's list of a method: it stands first
abbrev pub receiver_by : Code → List ℕ → Option ℕ
receiver_by c [] = None
receiver_by c (n ∷ ns) = if is_of c is_params n then Some n else None

abbrev pub receiver_of : Code → ℕ → Option ℕ
receiver_of c n = receiver_by c (children c n)

-- the first node from there on, going up at most so many times, that passes a test
abbrev pub around : Code → (NodeKind → Bool) → ℕ → Option ℕ → Option ℕ
around c test zero n = None
around c test (suc k) None = None
around c test (suc k) (Some n) = if is_of c test n then Some n else around c test k (parent_of c n)

-- the innermost function around a node
abbrev pub function_around : Code → ℕ → Option ℕ
function_around c n = around c is_function (length c.nodes) (parent_of c n)

-- the lists of parameters of a signature: those of the parameters, and of results that stand in parentheses
abbrev pub lists_of : Code → ℕ → List ℕ
lists_of c signature = all_of c is_params (children c signature)

-- the results' list, where they have one, or their lone type
abbrev pub results_of : Code → ℕ → Option ℕ
results_of c signature = head_of (tail_of (children c signature))

abbrev pub is_named_params : NodeKind → Bool
is_named_params nodes.NamedParams = true
is_named_params _ = false

-- the results have names
abbrev pub has_named_results : Code → ℕ → Bool
has_named_results c signature = elim (results_of c signature) [ None ↦ false | Some r ↦ is_of c is_named_params r ]

-- the names of entries
abbrev pub texts_of : Code → List ℕ → List (List ℕ)
texts_of c [] = []
texts_of c (n ∷ ns) = text_of c n ∷ texts_of c ns

abbrev pub names_in : Code → List ℕ → List (List ℕ)
names_in c lists = texts_of c (all_of c is_decl_name (children_of_all c (children_of_all c lists)))

abbrev pub option_list : Option ℕ → List ℕ
option_list None = []
option_list (Some n) = n ∷ []

-- the names of a function's receiver, parameters and results
abbrev pub signature_lists : Code → Option ℕ → List ℕ
signature_lists c None = []
signature_lists c (Some signature) = lists_of c signature

abbrev pub names_of_function : Code → ℕ → List (List ℕ)
names_of_function c n = names_in c (option_list (receiver_of c n) ++ signature_lists c (signature_of c n))

-- the node stands in no block: it isn't inside a function
abbrev pub is_outside : Code → ℕ → Bool
is_outside c n = elim (around c is_block (length c.nodes) (parent_of c n)) [ None ↦ true | Some b ↦ false ]
