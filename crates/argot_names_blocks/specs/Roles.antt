-- Kinds of nodes by what they are to a name below them.
use Rattle.argot_tree.specs.declared.node_kind.NodeKind.{NodeKind}
use Rattle.argot_tree.specs.declared.node_kind.NodeKind.TheVariants as nodes
use Rattle.argot_names_blocks.specs.declared.roles.Role.{Role}
use Rattle.argot_names_blocks.specs.declared.roles.Role.TheVariants as roles

abbrev pub role_of : NodeKind → Role
role_of nodes.ConstSpec = roles.Values
role_of nodes.VarSpec = roles.Values
role_of nodes.TypeSpec = roles.Kind
role_of nodes.AliasSpec = roles.Kind
role_of nodes.Define = roles.Define
role_of nodes.DefineRange = roles.RangeDefine
role_of nodes.DefineCase = roles.ReceiveDefine
role_of nodes.FuncDecl = roles.Function
role_of nodes.FuncLiteral = roles.Function
role_of nodes.NamedParam = roles.Entry
role_of nodes.LoneParam = roles.Entry
role_of nodes.NamedVariadic = roles.Entry
role_of nodes.NamedParams = roles.Entries
role_of nodes.Signature = roles.Signature
role_of nodes.Names = roles.Names
role_of nodes.Exprs = roles.Expressions
role_of nodes.TypeSwitch = roles.TypeSwitch
role_of nodes.Case = roles.Case
role_of nodes.Default = roles.Default
role_of nodes.DeclName = roles.Declared
role_of nodes.NameUse = roles.Used
role_of nodes.TypeName = roles.Typed
role_of nodes.QualifiedType = roles.Qualified
role_of nodes.Selector = roles.Selector
role_of nodes.SelectedName = roles.Selected
role_of nodes.KeyedItem = roles.Keyed
role_of nodes.DotSpec = roles.DotImport
role_of nodes.ImportPath = roles.Path
role_of _ = roles.Other
