-- What is printed of a tree, put behind what stands there already.
use Rattle.std.specs.Prelude.{ℕ, min, Bool, true, false, List, [], ◌∷◌, ◌++◌, length, Option, Some, None, slice_get, codes}
use Rattle.std.specs.Fmt.{decimal}
use Rattle.argot_text.specs.Lines.{line_of, column_of}
use Rattle.argot_tree.specs.declared.node_kind.NodeKind.{NodeKind}
use Rattle.argot_tree.specs.declared.node_kind.NodeKind.TheVariants as nodes
use Rattle.argot_tree.specs.declared.token.Token.{Token}
use Rattle.argot_tree.specs.declared.tree.TreeNode.{TreeNode}
use Rattle.argot_tree.specs.Forests.{Forest, leaf, tree}

abbrev pub node_name : NodeKind → List ℕ
node_name nodes.File = codes "File"
node_name nodes.Import = codes "Import"
node_name nodes.ImportGroup = codes "ImportGroup"
node_name nodes.Spec = codes "Spec"
node_name nodes.DotSpec = codes "DotSpec"
node_name nodes.NamedSpec = codes "NamedSpec"
node_name nodes.ImportPath = codes "ImportPath"
node_name nodes.FuncDecl = codes "FuncDecl"
node_name nodes.TypeParams = codes "TypeParams"
node_name nodes.ConstDecl = codes "ConstDecl"
node_name nodes.ConstGroup = codes "ConstGroup"
node_name nodes.VarDecl = codes "VarDecl"
node_name nodes.VarGroup = codes "VarGroup"
node_name nodes.TypeDecl = codes "TypeDecl"
node_name nodes.TypeGroup = codes "TypeGroup"
node_name nodes.ConstSpec = codes "ConstSpec"
node_name nodes.VarSpec = codes "VarSpec"
node_name nodes.TypeSpec = codes "TypeSpec"
node_name nodes.AliasSpec = codes "AliasSpec"
node_name nodes.Names = codes "Names"
node_name nodes.DeclName = codes "DeclName"
node_name nodes.Signature = codes "Signature"
node_name nodes.Params = codes "Params"
node_name nodes.NamedParams = codes "NamedParams"
node_name nodes.Param = codes "Param"
node_name nodes.NamedParam = codes "NamedParam"
node_name nodes.LoneParam = codes "LoneParam"
node_name nodes.VariadicParam = codes "VariadicParam"
node_name nodes.NamedVariadic = codes "NamedVariadic"
node_name nodes.TypeName = codes "TypeName"
node_name nodes.QualifiedType = codes "QualifiedType"
node_name nodes.TypeParens = codes "TypeParens"
node_name nodes.PointerType = codes "PointerType"
node_name nodes.ArrayType = codes "ArrayType"
node_name nodes.SliceType = codes "SliceType"
node_name nodes.OpenArrayType = codes "OpenArrayType"
node_name nodes.MapType = codes "MapType"
node_name nodes.ChanType = codes "ChanType"
node_name nodes.SendType = codes "SendType"
node_name nodes.ReceiveType = codes "ReceiveType"
node_name nodes.FuncType = codes "FuncType"
node_name nodes.StructType = codes "StructType"
node_name nodes.InterfaceType = codes "InterfaceType"
node_name nodes.Field = codes "Field"
node_name nodes.EmbeddedField = codes "EmbeddedField"
node_name nodes.EmbeddedPointer = codes "EmbeddedPointer"
node_name nodes.Tag = codes "Tag"
node_name nodes.Method = codes "Method"
node_name nodes.EmbeddedType = codes "EmbeddedType"
node_name nodes.Binary = codes "Binary"
node_name nodes.Positive = codes "Positive"
node_name nodes.Negative = codes "Negative"
node_name nodes.LogicalNot = codes "LogicalNot"
node_name nodes.Complement = codes "Complement"
node_name nodes.Deref = codes "Deref"
node_name nodes.AddressOf = codes "AddressOf"
node_name nodes.Receive = codes "Receive"
node_name nodes.Literal = codes "Literal"
node_name nodes.NameUse = codes "NameUse"
node_name nodes.Parens = codes "Parens"
node_name nodes.FuncLiteral = codes "FuncLiteral"
node_name nodes.Composite = codes "Composite"
node_name nodes.Conversion = codes "Conversion"
node_name nodes.Selector = codes "Selector"
node_name nodes.SelectedName = codes "SelectedName"
node_name nodes.Index = codes "Index"
node_name nodes.SliceAll = codes "SliceAll"
node_name nodes.SliceFrom = codes "SliceFrom"
node_name nodes.SliceTo = codes "SliceTo"
node_name nodes.SliceBetween = codes "SliceBetween"
node_name nodes.SliceToMax = codes "SliceToMax"
node_name nodes.SliceBetweenMax = codes "SliceBetweenMax"
node_name nodes.TypeAssertion = codes "TypeAssertion"
node_name nodes.Call = codes "Call"
node_name nodes.SpreadCall = codes "SpreadCall"
node_name nodes.Elems = codes "Elems"
node_name nodes.Item = codes "Item"
node_name nodes.KeyedItem = codes "KeyedItem"
node_name nodes.Exprs = codes "Exprs"
node_name nodes.Block = codes "Block"
node_name nodes.Empty = codes "Empty"
node_name nodes.DeclStmt = codes "DeclStmt"
node_name nodes.Labeled = codes "Labeled"
node_name nodes.Go = codes "Go"
node_name nodes.Defer = codes "Defer"
node_name nodes.Return = codes "Return"
node_name nodes.Break = codes "Break"
node_name nodes.Continue = codes "Continue"
node_name nodes.Goto = codes "Goto"
node_name nodes.Fallthrough = codes "Fallthrough"
node_name nodes.LabelUse = codes "LabelUse"
node_name nodes.ExprStmt = codes "ExprStmt"
node_name nodes.Send = codes "Send"
node_name nodes.Increment = codes "Increment"
node_name nodes.Decrement = codes "Decrement"
node_name nodes.Assign = codes "Assign"
node_name nodes.OpAssign = codes "OpAssign"
node_name nodes.Define = codes "Define"
node_name nodes.If = codes "If"
node_name nodes.Init = codes "Init"
node_name nodes.Post = codes "Post"
node_name nodes.Switch = codes "Switch"
node_name nodes.TypeSwitch = codes "TypeSwitch"
node_name nodes.Guard = codes "Guard"
node_name nodes.NamedGuard = codes "NamedGuard"
node_name nodes.Case = codes "Case"
node_name nodes.Default = codes "Default"
node_name nodes.Values = codes "Values"
node_name nodes.Select = codes "Select"
node_name nodes.SendCase = codes "SendCase"
node_name nodes.AssignCase = codes "AssignCase"
node_name nodes.DefineCase = codes "DefineCase"
node_name nodes.ReceiveCase = codes "ReceiveCase"
node_name nodes.While = codes "While"
node_name nodes.For = codes "For"
node_name nodes.Range = codes "Range"
node_name nodes.AssignRange = codes "AssignRange"
node_name nodes.DefineRange = codes "DefineRange"

-- the offset of a token, or the end of the file where no such token is
abbrev pub start_by : List ℕ → Option Token → ℕ
start_by bytes None = length bytes
start_by bytes (Some token) = min token.start (length bytes)

abbrev pub start_of : List ℕ → List Token → ℕ → ℕ
start_of bytes tokens n = start_by bytes (slice_get tokens n)

-- `LINE:COL` of a byte
abbrev pub place_onto : List ℕ → List ℕ → ℕ → List ℕ
place_onto before bytes offset = before ++ decimal (line_of bytes offset) ++ codes ":" ++ decimal (column_of bytes offset)

-- two blanks, and two more for each node around it
abbrev pub indent_onto : List ℕ → List Bool → List ℕ
indent_onto before [] = before ++ codes "  "
indent_onto before (more ∷ around) = indent_onto (before ++ codes "  ") around

-- a line with kind, first token, last token, and the position of the first
abbrev pub node_onto : List ℕ → List ℕ → List Token → NodeKind → ℕ → ℕ → List ℕ
node_onto before bytes tokens kind token last =
    place_onto (before ++ node_name kind ++ codes " " ++ decimal token ++ codes " " ++ decimal last ++ codes " ") bytes (start_of bytes tokens token) ++ codes "\n"

abbrev pub is_tree : Forest → Bool
is_tree leaf = false
is_tree (tree kind token last kids rest) = true

-- trees side by side, each node before its children; of each node around them the list has whether a sibling follows it
abbrev pub forest_onto : List ℕ → List ℕ → List Token → List Bool → Forest → List ℕ
forest_onto before bytes tokens around leaf = before
forest_onto before bytes tokens around (tree kind token last kids rest) =
    forest_onto (forest_onto (node_onto (indent_onto before around) bytes tokens kind token last) bytes tokens (is_tree rest ∷ around) kids) bytes tokens around rest

-- the same from the list of nodes alone: what is around the node behind a node
abbrev pub popped : List Bool → List Bool
popped [] = []
popped (true ∷ around) = around
popped (false ∷ around) = popped around

abbrev pub is_some : Option ℕ → Bool
is_some None = false
is_some (Some n) = true

abbrev pub around_by : Option ℕ → Option ℕ → List Bool → List Bool
around_by (Some first) next around = is_some next ∷ around
around_by None (Some next) around = around
around_by None None around = popped around

abbrev pub nodes_onto : List ℕ → List ℕ → List Token → List Bool → List TreeNode → List ℕ
nodes_onto before bytes tokens around [] = before
nodes_onto before bytes tokens around (node ∷ rest) =
    nodes_onto (node_onto (indent_onto before around) bytes tokens node.kind node.token node.last) bytes tokens (around_by node.first node.next around) rest

-- their number
abbrev pub count_line : ℕ → List ℕ
count_line n = decimal n ++ codes "\n"
