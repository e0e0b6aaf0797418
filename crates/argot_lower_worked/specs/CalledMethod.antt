-- A typed program and its plain code:
--   1 package main
--   2
--   3 type I interface{ get() string }
--   4 type T struct{ s string }
--   5
--   6 func (t *T) get() string { return t.s }
--   7
--   8 func main() {
--   9     var i I = &T{"a"}
--   10     i.get()
--   11 }
use Rattle.std.specs.Prelude.{◌≡◌, ℕ, true, false, List, [], ◌∷◌, ◌++◌, map, replicate, Some, None, codes}
use Rattle.argot_consts.specs.declared.constants.Const.TheVariants as consts
use Rattle.argot_text.specs.declared.path.PathStep.TheVariants as paths
use Rattle.argot_tree.specs.declared.keyword.Keyword.TheVariants as words
use Rattle.argot_tree.specs.declared.mark.Mark.TheVariants as marks
use Rattle.argot_tree.specs.declared.node_kind.NodeKind.TheVariants as nodes
use Rattle.argot_tree.specs.declared.token.Token.{Token}
use Rattle.argot_tree.specs.declared.token.TokenKind.TheVariants as tokens
use Rattle.argot_tree.specs.declared.tree.TreeNode.{TreeNode}
use Rattle.argot_typed.specs.declared.program.Decl.{Decl}
use Rattle.argot_typed.specs.declared.program.NodeConst.{NodeConst}
use Rattle.argot_typed.specs.declared.program.NodeType.{NodeType}
use Rattle.argot_typed.specs.declared.program.Use.{Use}
use Rattle.argot_typed.specs.declared.shape.Shape.{Shape}
use Rattle.argot_typed.specs.declared.shape.Shape.TheVariants as shapes
use Rattle.argot_plain.specs.Code.{Code}
use Rattle.argot_plain.specs.declared.functions.Function.{Function}
use Rattle.argot_plain.specs.declared.functions.Role.TheVariants as roles
use Rattle.argot_plain.specs.declared.instructions.Callee.TheVariants as callees
use Rattle.argot_plain.specs.declared.instructions.Kind.TheVariants as kinds
use Rattle.argot_lower_scripts.specs.Script.{Boxed}
use Rattle.argot_lower_scripts.specs.Says.{Finished, At, Says}
use Rattle.argot_lower_locals.specs.Typed.{Typed}
use Rattle.argot_lower_program.specs.Functions.{Origin, OfEntry, OfText, WrapperOf, number_in, root_node, script_of, printed_name, function_position, param_count, result_count}
use Rattle.argot_lower_rows.specs.Table.{row}
use Rattle.argot_lower_worked.specs.Words.{type_id, at, token, node, decl, typed_as, point}

abbrev pub bytes : List ℕ
bytes = (112 ∷ 97 ∷ 99 ∷ 107 ∷ 97 ∷ 103 ∷ 101 ∷ 32 ∷ 109 ∷ 97 ∷ 105 ∷ 110 ∷ 10 ∷ 10 ∷ 116 ∷ 121 ∷ 112 ∷ 101 ∷ 32 ∷ 73 ∷
    32 ∷ 105 ∷ 110 ∷ 116 ∷ 101 ∷ 114 ∷ 102 ∷ 97 ∷ 99 ∷ 101 ∷ 123 ∷ 32 ∷ 103 ∷ 101 ∷ 116 ∷ 40 ∷ 41 ∷ 32 ∷ 115 ∷ 116 ∷
    114 ∷ 105 ∷ 110 ∷ 103 ∷ 32 ∷ 125 ∷ 10 ∷ 116 ∷ 121 ∷ 112 ∷ 101 ∷ 32 ∷ 84 ∷ 32 ∷ 115 ∷ 116 ∷ 114 ∷ 117 ∷ 99 ∷
    116 ∷ 123 ∷ 32 ∷ 115 ∷ 32 ∷ 115 ∷ 116 ∷ 114 ∷ 105 ∷ 110 ∷ 103 ∷ 32 ∷ 125 ∷ 10 ∷ 10 ∷ 102 ∷ 117 ∷ 110 ∷ 99 ∷ 32 ∷
    40 ∷ 116 ∷ 32 ∷ 42 ∷ 84 ∷ 41 ∷ 32 ∷ 103 ∷ 101 ∷ 116 ∷ 40 ∷ 41 ∷ 32 ∷ 115 ∷ 116 ∷ 114 ∷ 105 ∷ 110 ∷ 103 ∷ 32 ∷
    123 ∷ 32 ∷ 114 ∷ 101 ∷ 116 ∷ 117 ∷ 114 ∷ 110 ∷ 32 ∷ 116 ∷ 46 ∷ 115 ∷ 32 ∷ 125 ∷ 10 ∷ 10 ∷ 102 ∷ 117 ∷ 110 ∷ 99 ∷
    32 ∷ 109 ∷ 97 ∷ 105 ∷ 110 ∷ 40 ∷ 41 ∷ 32 ∷ 123 ∷ 10 ∷ 9 ∷ 118 ∷ 97 ∷ 114 ∷ 32 ∷ 105 ∷ 32 ∷ 73 ∷ 32 ∷ 61 ∷ 32 ∷
    38 ∷ 84 ∷ 123 ∷ 34 ∷ 97 ∷ 34 ∷ 125 ∷ 10 ∷ 9 ∷ 105 ∷ 46 ∷ 103 ∷ 101 ∷ 116 ∷ 40 ∷ 41 ∷ 10 ∷ 125 ∷ 10 ∷ [])

abbrev pub tokens_of_it : List Token
tokens_of_it = (token (tokens.Word words.Package) 0 7 ∷ token tokens.Name 8 12 ∷ token tokens.Inserted 12 12 ∷
    token (tokens.Word words.TypeWord) 14 18 ∷ token tokens.Name 19 20 ∷ token (tokens.Word words.Interface) 21 30 ∷
    token (tokens.Mark marks.OpenBrace) 30 31 ∷ token tokens.Name 32 35 ∷
    token (tokens.Mark marks.OpenParen) 35 36 ∷ token (tokens.Mark marks.CloseParen) 36 37 ∷
    token tokens.Name 38 44 ∷ token (tokens.Mark marks.CloseBrace) 45 46 ∷ token tokens.Inserted 46 46 ∷
    token (tokens.Word words.TypeWord) 47 51 ∷ token tokens.Name 52 53 ∷ token (tokens.Word words.Struct) 54 60 ∷
    token (tokens.Mark marks.OpenBrace) 60 61 ∷ token tokens.Name 62 63 ∷ token tokens.Name 64 70 ∷
    token (tokens.Mark marks.CloseBrace) 71 72 ∷ token tokens.Inserted 72 72 ∷
    token (tokens.Word words.Func) 74 78 ∷ token (tokens.Mark marks.OpenParen) 79 80 ∷ token tokens.Name 80 81 ∷
    token (tokens.Mark marks.Star) 82 83 ∷ token tokens.Name 83 84 ∷ token (tokens.Mark marks.CloseParen) 84 85 ∷
    token tokens.Name 86 89 ∷ token (tokens.Mark marks.OpenParen) 89 90 ∷
    token (tokens.Mark marks.CloseParen) 90 91 ∷ token tokens.Name 92 98 ∷
    token (tokens.Mark marks.OpenBrace) 99 100 ∷ token (tokens.Word words.Return) 101 107 ∷
    token tokens.Name 108 109 ∷ token (tokens.Mark marks.Dot) 109 110 ∷ token tokens.Name 110 111 ∷
    token (tokens.Mark marks.CloseBrace) 112 113 ∷ token tokens.Inserted 113 113 ∷
    token (tokens.Word words.Func) 115 119 ∷ token tokens.Name 120 124 ∷
    token (tokens.Mark marks.OpenParen) 124 125 ∷ token (tokens.Mark marks.CloseParen) 125 126 ∷
    token (tokens.Mark marks.OpenBrace) 127 128 ∷ token (tokens.Word words.Var) 130 133 ∷
    token tokens.Name 134 135 ∷ token tokens.Name 136 137 ∷ token (tokens.Mark marks.Assign) 138 139 ∷
    token (tokens.Mark marks.And) 140 141 ∷ token tokens.Name 141 142 ∷
    token (tokens.Mark marks.OpenBrace) 142 143 ∷ token tokens.Chars 143 146 ∷
    token (tokens.Mark marks.CloseBrace) 146 147 ∷ token tokens.Inserted 147 147 ∷ token tokens.Name 149 150 ∷
    token (tokens.Mark marks.Dot) 150 151 ∷ token tokens.Name 151 154 ∷
    token (tokens.Mark marks.OpenParen) 154 155 ∷ token (tokens.Mark marks.CloseParen) 155 156 ∷
    token tokens.Inserted 156 156 ∷ token (tokens.Mark marks.CloseBrace) 157 158 ∷ token tokens.Inserted 158 158 ∷ [])

abbrev pub tree : List TreeNode
tree = (node nodes.File 0 0 (Some 1) None ∷ node nodes.DeclName 1 1 None (Some 2) ∷
    node nodes.TypeDecl 3 3 (Some 3) (Some 11) ∷ node nodes.TypeSpec 4 4 (Some 4) None ∷
    node nodes.DeclName 4 4 None (Some 5) ∷ node nodes.InterfaceType 5 5 (Some 6) None ∷
    node nodes.Method 7 7 (Some 7) None ∷ node nodes.DeclName 7 7 None (Some 8) ∷
    node nodes.Signature 8 8 (Some 9) None ∷ node nodes.Params 8 8 None (Some 10) ∷
    node nodes.TypeName 10 10 None None ∷ node nodes.TypeDecl 13 13 (Some 12) (Some 19) ∷
    node nodes.TypeSpec 14 14 (Some 13) None ∷ node nodes.DeclName 14 14 None (Some 14) ∷
    node nodes.StructType 15 15 (Some 15) None ∷ node nodes.Field 17 17 (Some 16) None ∷
    node nodes.Names 17 17 (Some 17) (Some 18) ∷ node nodes.DeclName 17 17 None None ∷
    node nodes.TypeName 18 18 None None ∷ node nodes.FuncDecl 21 21 (Some 20) (Some 34) ∷
    node nodes.NamedParams 22 22 (Some 21) (Some 25) ∷ node nodes.NamedParam 23 23 (Some 22) None ∷
    node nodes.DeclName 23 23 None (Some 23) ∷ node nodes.PointerType 24 24 (Some 24) None ∷
    node nodes.TypeName 25 25 None None ∷ node nodes.DeclName 27 27 None (Some 26) ∷
    node nodes.Signature 28 28 (Some 27) (Some 29) ∷ node nodes.Params 28 28 None (Some 28) ∷
    node nodes.TypeName 30 30 None None ∷ node nodes.Block 31 36 (Some 30) None ∷
    node nodes.Return 32 32 (Some 31) None ∷ node nodes.Selector 33 33 (Some 32) None ∷
    node nodes.NameUse 33 33 None (Some 33) ∷ node nodes.SelectedName 35 35 None None ∷
    node nodes.FuncDecl 38 38 (Some 35) None ∷ node nodes.DeclName 39 39 None (Some 36) ∷
    node nodes.Signature 40 40 (Some 37) (Some 38) ∷ node nodes.Params 40 40 None None ∷
    node nodes.Block 42 59 (Some 39) None ∷ node nodes.DeclStmt 43 43 (Some 40) (Some 52) ∷
    node nodes.VarDecl 43 43 (Some 41) None ∷ node nodes.VarSpec 44 44 (Some 42) None ∷
    node nodes.Names 44 44 (Some 43) (Some 44) ∷ node nodes.DeclName 44 44 None None ∷
    node nodes.TypeName 45 45 None (Some 45) ∷ node nodes.Exprs 47 47 (Some 46) None ∷
    node nodes.AddressOf 47 47 (Some 47) None ∷ node nodes.Composite 48 48 (Some 48) None ∷
    node nodes.TypeName 48 48 None (Some 49) ∷ node nodes.Elems 49 49 (Some 50) None ∷
    node nodes.Item 50 50 (Some 51) None ∷ node nodes.Literal 50 50 None None ∷
    node nodes.ExprStmt 53 53 (Some 53) None ∷ node nodes.Call 53 53 (Some 54) None ∷
    node nodes.Selector 53 53 (Some 55) None ∷ node nodes.NameUse 53 53 None (Some 56) ∷
    node nodes.SelectedName 55 55 None None ∷ [])

abbrev pub table : List Shape
table = (shapes.Truth ∷ shapes.Chars ∷ shapes.NilShape ∷ shapes.Whole 64 true ∷ shapes.Named 2 (type_id 3) [] ∷
    shapes.Whole 8 true ∷ shapes.Named 3 (type_id 5) [] ∷ shapes.Whole 16 true ∷ shapes.Named 4 (type_id 7) [] ∷
    shapes.Whole 32 true ∷ shapes.Named 5 (type_id 9) [] ∷ shapes.Named 6 (type_id 3) [] ∷ shapes.Whole 64 false ∷
    shapes.Named 7 (type_id 12) [] ∷ shapes.Whole 8 false ∷ shapes.Named 8 (type_id 14) [] ∷ shapes.Whole 16 false ∷
    shapes.Named 9 (type_id 16) [] ∷ shapes.Whole 32 false ∷ shapes.Named 10 (type_id 18) [] ∷
    shapes.Named 11 (type_id 12) [] ∷ shapes.Named 0 (type_id 0) [] ∷ shapes.Named 1 (type_id 1) [] ∷
    shapes.Interface [] ∷ shapes.Func [] ((type_id 22) ∷ []) false ∷ shapes.Named 14 (type_id 26) [] ∷
    shapes.Interface (record { name = (codes "Error"); «package» = None; node = None; pointer = false; of = (type_id 24) } ∷ []) ∷
    shapes.Untyped (type_id 4) ∷ shapes.Untyped (type_id 10) ∷ shapes.Untyped (type_id 22) ∷
    shapes.Untyped (type_id 21) ∷ shapes.Named 45 (type_id 34) [] ∷ shapes.Named 44 (type_id 33) [] ∷
    shapes.Interface (record { name = (codes "get"); «package» = (Some 0); node = (Some 6); pointer = false; of = (type_id 24) } ∷ []) ∷
    shapes.Struct (record { name = (codes "s"); «package» = (Some 0); tag = []; embedded = false; of = (type_id 22) } ∷ []) ∷
    shapes.Pointer (type_id 31) ∷ shapes.Func [] [] false ∷ shapes.Slice (type_id 23) ∷ [])

abbrev pub decls : List Decl
decls = (decl None None (codes "bool") ∷ decl None None (codes "string") ∷ decl None None (codes "int") ∷
    decl None None (codes "int8") ∷ decl None None (codes "int16") ∷ decl None None (codes "int32") ∷
    decl None None (codes "int64") ∷ decl None None (codes "uint") ∷ decl None None (codes "uint8") ∷
    decl None None (codes "uint16") ∷ decl None None (codes "uint32") ∷ decl None None (codes "uint64") ∷
    decl None None (codes "byte") ∷ decl None None (codes "rune") ∷ decl None None (codes "error") ∷
    decl None None (codes "any") ∷ decl None None (codes "float32") ∷ decl None None (codes "float64") ∷
    decl None None (codes "complex64") ∷ decl None None (codes "complex128") ∷ decl None None (codes "uintptr") ∷
    decl None None (codes "comparable") ∷ decl None None (codes "true") ∷ decl None None (codes "false") ∷
    decl None None (codes "iota") ∷ decl None None (codes "nil") ∷ decl None None (codes "append") ∷
    decl None None (codes "cap") ∷ decl None None (codes "clear") ∷ decl None None (codes "close") ∷
    decl None None (codes "copy") ∷ decl None None (codes "delete") ∷ decl None None (codes "len") ∷
    decl None None (codes "make") ∷ decl None None (codes "max") ∷ decl None None (codes "min") ∷
    decl None None (codes "new") ∷ decl None None (codes "panic") ∷ decl None None (codes "print") ∷
    decl None None (codes "println") ∷ decl None None (codes "recover") ∷ decl None None (codes "complex") ∷
    decl None None (codes "real") ∷ decl None None (codes "imag") ∷ decl (Some 0) (Some 4) (codes "I") ∷
    decl (Some 0) (Some 13) (codes "T") ∷ decl (Some 0) (Some 22) (codes "t") ∷
    decl (Some 0) (Some 35) (codes "main") ∷ decl (Some 0) (Some 43) (codes "i") ∷ [])

abbrev pub types : List NodeType
types = (typed_as 0 [] ∷ typed_as 1 [] ∷ typed_as 2 [] ∷ typed_as 3 [] ∷ typed_as 4 ((type_id 32) ∷ []) ∷
    typed_as 5 ((type_id 33) ∷ []) ∷ typed_as 6 [] ∷ typed_as 7 [] ∷ typed_as 8 ((type_id 24) ∷ []) ∷
    typed_as 9 [] ∷ typed_as 10 ((type_id 22) ∷ []) ∷ typed_as 11 [] ∷ typed_as 12 [] ∷
    typed_as 13 ((type_id 31) ∷ []) ∷ typed_as 14 ((type_id 34) ∷ []) ∷ typed_as 15 [] ∷ typed_as 16 [] ∷
    typed_as 17 [] ∷ typed_as 18 ((type_id 22) ∷ []) ∷ typed_as 19 [] ∷ typed_as 20 [] ∷ typed_as 21 [] ∷
    typed_as 22 ((type_id 35) ∷ []) ∷ typed_as 23 ((type_id 35) ∷ []) ∷ typed_as 24 ((type_id 31) ∷ []) ∷
    typed_as 25 [] ∷ typed_as 26 ((type_id 24) ∷ []) ∷ typed_as 27 [] ∷ typed_as 28 ((type_id 22) ∷ []) ∷
    typed_as 29 [] ∷ typed_as 30 [] ∷ typed_as 31 ((type_id 22) ∷ []) ∷ typed_as 32 ((type_id 35) ∷ []) ∷
    typed_as 33 [] ∷ typed_as 34 [] ∷ typed_as 35 [] ∷ typed_as 36 ((type_id 36) ∷ []) ∷ typed_as 37 [] ∷
    typed_as 38 [] ∷ typed_as 39 [] ∷ typed_as 40 [] ∷ typed_as 41 [] ∷ typed_as 42 [] ∷
    typed_as 43 ((type_id 32) ∷ []) ∷ typed_as 44 ((type_id 32) ∷ []) ∷ typed_as 45 [] ∷
    typed_as 46 ((type_id 35) ∷ []) ∷ typed_as 47 ((type_id 31) ∷ []) ∷ typed_as 48 ((type_id 31) ∷ []) ∷
    typed_as 49 ((type_id 31) ∷ []) ∷ typed_as 50 [] ∷ typed_as 51 ((type_id 29) ∷ []) ∷ typed_as 52 [] ∷
    typed_as 53 ((type_id 22) ∷ []) ∷ typed_as 54 ((type_id 24) ∷ []) ∷ typed_as 55 ((type_id 32) ∷ []) ∷
    typed_as 56 [] ∷ [])

abbrev pub uses : List Use
uses = (record { node = 10; decl = 1 } ∷ record { node = 18; decl = 1 } ∷ record { node = 24; decl = 45 } ∷
    record { node = 28; decl = 1 } ∷ record { node = 32; decl = 46 } ∷ record { node = 44; decl = 44 } ∷
    record { node = 48; decl = 45 } ∷ record { node = 55; decl = 48 } ∷ [])

abbrev pub constants : List NodeConst
constants = (record { node = 51; value = consts.Text 1 } ∷ [])

abbrev pub typed : Typed
typed = record {
  files = record { sources = record { paths = codes "main.go" ∷ []; contents = bytes ∷ []; assembly = []; «module» = []; go_line = None }; lexed = record { tokens = tokens_of_it; directives = [] } ∷ []; trees = record { nodes = tree } ∷ [] };
  program = record { table = table; types = types; consts = constants; uses = uses; packages = record { packages = record { path = codes "main"; name = codes "main"; files = 0 ∷ [] } ∷ []; decls = decls; uses = uses } };
  selections = (record { node = 31; selected = record { steps = (record { of = 31; field = 0 } ∷ []); method = None } } ∷
      record { node = 54; selected = record { steps = []; method = Some (record { holder = 32; method = record { name = (codes "get"); «package» = (Some 0); node = (Some 6); pointer = false; of = (type_id 24) } }) } } ∷ []);
  method_sets = (record { of = 25; methods = (record { steps = []; method = Some (record { holder = 25; method = record { name = (codes "Error"); «package» = None; node = None; pointer = false; of = (type_id 24) } }) } ∷ []) } ∷
      record { of = 26; methods = (record { steps = []; method = Some (record { holder = 26; method = record { name = (codes "Error"); «package» = None; node = None; pointer = false; of = (type_id 24) } }) } ∷ []) } ∷
      record { of = 32; methods = (record { steps = []; method = Some (record { holder = 32; method = record { name = (codes "get"); «package» = (Some 0); node = (Some 6); pointer = false; of = (type_id 24) } }) } ∷ []) } ∷
      record { of = 33; methods = (record { steps = []; method = Some (record { holder = 33; method = record { name = (codes "get"); «package» = (Some 0); node = (Some 6); pointer = false; of = (type_id 24) } }) } ∷ []) } ∷
      record { of = 35; methods = (record { steps = []; method = Some (record { holder = 31; method = record { name = (codes "get"); «package» = (Some 0); node = (Some 19); pointer = true; of = (type_id 24) } }) } ∷ []) } ∷ []);
  ending = (29 ∷ []);
}

abbrev pub function_0 : Function
function_0 = record { name = (codes "entry"); at = (at 8 6); entry = 0; exit = 3; leave = 4; params = 0; results = 0; registers = []; wraps = None; role = roles.Own; ident = None; has_env = false; external = None }

abbrev pub function_1 : Function
function_1 = record { name = (codes "main.T.get"); at = (at 6 13); entry = 5; exit = 10; leave = 11; params = 1; results = 1; registers = (([] ∷ []) ∷ ([] ∷ []) ∷ ([] ∷ []) ∷ ([] ∷ []) ∷ []); wraps = None; role = roles.Own; ident = Some (record { «package» = (codes "main"); receiver = (codes "T"); name = (codes "get") }); has_env = false; external = None }

abbrev pub function_2 : Function
function_2 = record { name = (codes "main.main"); at = (at 8 6); entry = 12; exit = 21; leave = 22; params = 0; results = 0; registers = (([] ∷ []) ∷ ([] ∷ []) ∷ ((paths.Field 0 ∷ []) ∷ []) ∷ ([] ∷ []) ∷ ([] ∷ []) ∷ ([] ∷ []) ∷ []); wraps = None; role = roles.Own; ident = Some (record { «package» = (codes "main"); receiver = []; name = (codes "main") }); has_env = false; external = None }

abbrev pub function_3 : Function
function_3 = record { name = (codes "main.T.get"); at = (at 6 13); entry = 23; exit = 26; leave = 27; params = 1; results = 1; registers = (([] ∷ []) ∷ ([] ∷ []) ∷ ([] ∷ []) ∷ []); wraps = (Some 1); role = roles.Wrapper; ident = None; has_env = false; external = None }

abbrev pub code : Code
code = record {
  functions = (function_0 ∷ function_1 ∷ function_2 ∷ function_3 ∷ []);
  instrs = (record { kind = (kinds.Goto 1); at = (at 8 6); tags = [] } ∷
      record { kind = (kinds.Branch (2 ∷ [])); at = (at 8 6); tags = [] } ∷
      record { kind = (kinds.Call [] (callees.Static 2) []); at = (at 8 6); tags = [] } ∷
      record { kind = kinds.RunDefers; at = (at 8 6); tags = [] } ∷
      record { kind = (kinds.Leave []); at = (at 8 6); tags = [] } ∷
      record { kind = (kinds.Goto 6); at = (at 6 13); tags = [] } ∷
      record { kind = (kinds.Step 2 0 (paths.Field 0 ∷ [])); at = (at 6 35); tags = [] } ∷
      record { kind = (kinds.Read 3 2 ([] ∷ [])); at = (at 6 35); tags = (record { global = false; ident = record { «package» = (codes "main"); receiver = (codes "T"); name = (codes "s") } } ∷ []) } ∷
      record { kind = (kinds.Move 1 3 []); at = (at 6 28); tags = [] } ∷
      record { kind = (kinds.Goto 10); at = (at 6 28); tags = [] } ∷
      record { kind = kinds.RunDefers; at = (at 6 39); tags = [] } ∷
      record { kind = (kinds.Leave (1 ∷ [])); at = (at 6 39); tags = [] } ∷
      record { kind = (kinds.Goto 13); at = (at 8 6); tags = [] } ∷
      record { kind = (kinds.Op 1 []); at = (at 9 15); tags = [] } ∷
      record { kind = (kinds.Join 2 (((paths.Field 0 ∷ []), 1) ∷ [])); at = (at 9 13); tags = [] } ∷
      record { kind = (kinds.New 3 0); at = (at 9 12); tags = [] } ∷
      record { kind = (kinds.Write 3 2); at = (at 9 12); tags = [] } ∷
      record { kind = (kinds.New 4 1); at = (at 9 12); tags = [] } ∷
      record { kind = (kinds.Write 4 3); at = (at 9 12); tags = [] } ∷
      record { kind = (kinds.Move 0 4 []); at = (at 9 6); tags = [] } ∷
      record { kind = (kinds.Call (5 ∷ []) (callees.Method 0 (codes "main.get")) []); at = (at 10 2); tags = [] } ∷
      record { kind = kinds.RunDefers; at = (at 11 1); tags = [] } ∷
      record { kind = (kinds.Leave []); at = (at 11 1); tags = [] } ∷
      record { kind = (kinds.Goto 24); at = (at 6 13); tags = [] } ∷
      record { kind = (kinds.Read 1 0 ([] ∷ [])); at = (at 6 13); tags = [] } ∷
      record { kind = (kinds.Call (2 ∷ []) (callees.Static 1) (1 ∷ [])); at = (at 6 13); tags = [] } ∷
      record { kind = kinds.RunDefers; at = (at 6 13); tags = [] } ∷
      record { kind = (kinds.Leave (2 ∷ [])); at = (at 6 13); tags = [] } ∷ []);
  sites = (record { place = 15; result = 0; leaf = 0; shape = ((paths.Field 0 ∷ []) ∷ []); dynamic = 31; function = None } ∷
      record { place = 17; result = 0; leaf = 0; shape = ([] ∷ []); dynamic = 35; function = None } ∷ []);
  globals = [];
  methods = ((35, (codes "main.get"), 3) ∷ []);
  implements = [];
  files = codes "main.go" ∷ [];
}

abbrev pub order : List Origin
order = (OfEntry ∷ OfText 19 ∷ OfText 34 ∷
    WrapperOf 35 (record { steps = []; method = Some (record { holder = 31; method = record { name = (codes "get"); «package» = (Some 0); node = (Some 19); pointer = true; of = (type_id 24) } }) }) ∷ [])

abbrev pub finished : Finished
finished = record { code = code; number = number_in order; places = (1 ∷ 1 ∷ 2 ∷ 6 ∷ 10 ∷ 13 ∷ 21 ∷ 24 ∷ []); notes = (Boxed 35 ∷ []) }

-- the code of each of its functions is what its script does
abbrev pub IsSaid : ℕ → Origin → List ℕ → At → At → Type 0
IsSaid g o rs a b = Says (row typed) finished g (root_node o) (script_of typed order o) rs a b

abbrev pub IsLowered : Type 0
IsLowered =
    IsSaid 0 (OfEntry) [] (point 0 0 0 0 0 (replicate 49 0 ++ [])) (point 5 3 0 0 0 (replicate 49 0 ++ []))
    × IsSaid 1 (OfText 19) [] (point 5 3 0 0 0 (replicate 49 0 ++ [])) (point 12 5 4 0 0 (replicate 49 0 ++ []))
    × IsSaid 2 (OfText 34) [] (point 12 5 0 0 0 (replicate 49 0 ++ [])) (point 23 7 6 2 1 (replicate 49 0 ++ []))
    × IsSaid 3 (WrapperOf 35 (record { steps = []; method = Some (record { holder = 31; method = record { name = (codes "get"); «package» = (Some 0); node = (Some 19); pointer = true; of = (type_id 24) } }) })) [] (point 23 7 0 2 1 (replicate 49 0 ++ [])) (point 28 8 3 2 1 (replicate 49 0 ++ []))

-- and its functions have the names, the places and the counts that they have
abbrev pub IsNamed : Type 0
IsNamed =
    (map (printed_name typed) order ≡ map (λ (f : Function). f.name) code.functions)
    × (map (function_position typed) order ≡ map (λ (f : Function). f.at) code.functions)
    × (map (param_count typed) order ≡ map (λ (f : Function). f.params) code.functions)
    × (map (result_count typed) order ≡ map (λ (f : Function). f.results) code.functions)
