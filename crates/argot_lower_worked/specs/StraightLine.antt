-- A typed program and its plain code:
--   1 package main
--   2
--   3 func source() string { return "s" }
--   4 func sink(x string)  {}
--   5
--   6 func main() {
--   7     x := source()
--   8     sink(x)
--   9 }
use Rattle.std.specs.Prelude.{◌≡◌, ℕ, true, false, List, [], ◌∷◌, ◌++◌, map, replicate, Some, None, codes}
use Rattle.argot_consts.specs.declared.constants.Const.TheVariants as consts
use Rattle.argot_tree.specs.declared.keyword.Keyword.TheVariants as words
use Rattle.argot_tree.specs.declared.mark.Mark.TheVariants as marks
use Rattle.argot_tree.specs.declared.node_kind.NodeKind.TheVariants as nodes
use Rattle.argot_tree.specs.declared.token.Token.{Token}
use Rattle.argot_tree.specs.declared.token.TokenKind.TheVariants as tokens
use Rattle.argot_tree.specs.declared.tree.TreeNode.{TreeNode}
use Rattle.argot_typed.specs.declared.program.Decl.{Decl}
use Rattle.argot_typed.specs.declared.program.NodeConst.{NodeConst}
use Rattle.argot_typed.specs.declared.program.NodeType.{NodeType}
use Rattle.argot_typed.specs.declared.program.Use.{Use}
use Rattle.argot_typed.specs.declared.shape.Shape.{Shape}
use Rattle.argot_typed.specs.declared.shape.Shape.TheVariants as shapes
use Rattle.argot_plain.specs.Code.{Code}
use Rattle.argot_plain.specs.declared.functions.Function.{Function}
use Rattle.argot_plain.specs.declared.functions.Role.TheVariants as roles
use Rattle.argot_plain.specs.declared.instructions.Callee.TheVariants as callees
use Rattle.argot_plain.specs.declared.instructions.Kind.TheVariants as kinds
use Rattle.argot_lower_scripts.specs.Says.{Finished, At, Says}
use Rattle.argot_lower_locals.specs.Typed.{Typed}
use Rattle.argot_lower_program.specs.Functions.{Origin, OfEntry, OfText, number_in, root_node, script_of, printed_name, function_position, param_count, result_count}
use Rattle.argot_lower_rows.specs.Table.{row}
use Rattle.argot_lower_worked.specs.Words.{type_id, at, token, node, decl, typed_as, point}

abbrev pub bytes : List ℕ
bytes = (112 ∷ 97 ∷ 99 ∷ 107 ∷ 97 ∷ 103 ∷ 101 ∷ 32 ∷ 109 ∷ 97 ∷ 105 ∷ 110 ∷ 10 ∷ 10 ∷ 102 ∷ 117 ∷ 110 ∷ 99 ∷ 32 ∷ 115 ∷
    111 ∷ 117 ∷ 114 ∷ 99 ∷ 101 ∷ 40 ∷ 41 ∷ 32 ∷ 115 ∷ 116 ∷ 114 ∷ 105 ∷ 110 ∷ 103 ∷ 32 ∷ 123 ∷ 32 ∷ 114 ∷ 101 ∷
    116 ∷ 117 ∷ 114 ∷ 110 ∷ 32 ∷ 34 ∷ 115 ∷ 34 ∷ 32 ∷ 125 ∷ 10 ∷ 102 ∷ 117 ∷ 110 ∷ 99 ∷ 32 ∷ 115 ∷ 105 ∷ 110 ∷ 107 ∷
    40 ∷ 120 ∷ 32 ∷ 115 ∷ 116 ∷ 114 ∷ 105 ∷ 110 ∷ 103 ∷ 41 ∷ 32 ∷ 32 ∷ 123 ∷ 125 ∷ 10 ∷ 10 ∷ 102 ∷ 117 ∷ 110 ∷ 99 ∷
    32 ∷ 109 ∷ 97 ∷ 105 ∷ 110 ∷ 40 ∷ 41 ∷ 32 ∷ 123 ∷ 10 ∷ 9 ∷ 120 ∷ 32 ∷ 58 ∷ 61 ∷ 32 ∷ 115 ∷ 111 ∷ 117 ∷ 114 ∷ 99 ∷
    101 ∷ 40 ∷ 41 ∷ 10 ∷ 9 ∷ 115 ∷ 105 ∷ 110 ∷ 107 ∷ 40 ∷ 120 ∷ 41 ∷ 10 ∷ 125 ∷ 10 ∷ [])

abbrev pub tokens_of_it : List Token
tokens_of_it = (token (tokens.Word words.Package) 0 7 ∷ token tokens.Name 8 12 ∷ token tokens.Inserted 12 12 ∷
    token (tokens.Word words.Func) 14 18 ∷ token tokens.Name 19 25 ∷ token (tokens.Mark marks.OpenParen) 25 26 ∷
    token (tokens.Mark marks.CloseParen) 26 27 ∷ token tokens.Name 28 34 ∷
    token (tokens.Mark marks.OpenBrace) 35 36 ∷ token (tokens.Word words.Return) 37 43 ∷ token tokens.Chars 44 47 ∷
    token (tokens.Mark marks.CloseBrace) 48 49 ∷ token tokens.Inserted 49 49 ∷
    token (tokens.Word words.Func) 50 54 ∷ token tokens.Name 55 59 ∷ token (tokens.Mark marks.OpenParen) 59 60 ∷
    token tokens.Name 60 61 ∷ token tokens.Name 62 68 ∷ token (tokens.Mark marks.CloseParen) 68 69 ∷
    token (tokens.Mark marks.OpenBrace) 71 72 ∷ token (tokens.Mark marks.CloseBrace) 72 73 ∷
    token tokens.Inserted 73 73 ∷ token (tokens.Word words.Func) 75 79 ∷ token tokens.Name 80 84 ∷
    token (tokens.Mark marks.OpenParen) 84 85 ∷ token (tokens.Mark marks.CloseParen) 85 86 ∷
    token (tokens.Mark marks.OpenBrace) 87 88 ∷ token tokens.Name 90 91 ∷ token (tokens.Mark marks.Define) 92 94 ∷
    token tokens.Name 95 101 ∷ token (tokens.Mark marks.OpenParen) 101 102 ∷
    token (tokens.Mark marks.CloseParen) 102 103 ∷ token tokens.Inserted 103 103 ∷ token tokens.Name 105 109 ∷
    token (tokens.Mark marks.OpenParen) 109 110 ∷ token tokens.Name 110 111 ∷
    token (tokens.Mark marks.CloseParen) 111 112 ∷ token tokens.Inserted 112 112 ∷
    token (tokens.Mark marks.CloseBrace) 113 114 ∷ token tokens.Inserted 114 114 ∷ [])

abbrev pub tree : List TreeNode
tree = (node nodes.File 0 0 (Some 1) None ∷ node nodes.DeclName 1 1 None (Some 2) ∷
    node nodes.FuncDecl 3 3 (Some 3) (Some 10) ∷ node nodes.DeclName 4 4 None (Some 4) ∷
    node nodes.Signature 5 5 (Some 5) (Some 7) ∷ node nodes.Params 5 5 None (Some 6) ∷
    node nodes.TypeName 7 7 None None ∷ node nodes.Block 8 11 (Some 8) None ∷ node nodes.Return 9 9 (Some 9) None ∷
    node nodes.Literal 10 10 None None ∷ node nodes.FuncDecl 13 13 (Some 11) (Some 18) ∷
    node nodes.DeclName 14 14 None (Some 12) ∷ node nodes.Signature 15 15 (Some 13) (Some 17) ∷
    node nodes.NamedParams 15 15 (Some 14) None ∷ node nodes.NamedParam 16 16 (Some 15) None ∷
    node nodes.DeclName 16 16 None (Some 16) ∷ node nodes.TypeName 17 17 None None ∷
    node nodes.Block 19 20 None None ∷ node nodes.FuncDecl 22 22 (Some 19) None ∷
    node nodes.DeclName 23 23 None (Some 20) ∷ node nodes.Signature 24 24 (Some 21) (Some 22) ∷
    node nodes.Params 24 24 None None ∷ node nodes.Block 26 38 (Some 23) None ∷
    node nodes.Define 27 27 (Some 24) (Some 29) ∷ node nodes.Names 27 27 (Some 25) (Some 26) ∷
    node nodes.DeclName 27 27 None None ∷ node nodes.Exprs 29 29 (Some 27) None ∷
    node nodes.Call 29 29 (Some 28) None ∷ node nodes.NameUse 29 29 None None ∷
    node nodes.ExprStmt 33 33 (Some 30) None ∷ node nodes.Call 33 33 (Some 31) None ∷
    node nodes.NameUse 33 33 None (Some 32) ∷ node nodes.NameUse 35 35 None None ∷ [])

abbrev pub table : List Shape
table = (shapes.Truth ∷ shapes.Chars ∷ shapes.NilShape ∷ shapes.Whole 64 true ∷ shapes.Named 2 (type_id 3) [] ∷
    shapes.Whole 8 true ∷ shapes.Named 3 (type_id 5) [] ∷ shapes.Whole 16 true ∷ shapes.Named 4 (type_id 7) [] ∷
    shapes.Whole 32 true ∷ shapes.Named 5 (type_id 9) [] ∷ shapes.Named 6 (type_id 3) [] ∷ shapes.Whole 64 false ∷
    shapes.Named 7 (type_id 12) [] ∷ shapes.Whole 8 false ∷ shapes.Named 8 (type_id 14) [] ∷ shapes.Whole 16 false ∷
    shapes.Named 9 (type_id 16) [] ∷ shapes.Whole 32 false ∷ shapes.Named 10 (type_id 18) [] ∷
    shapes.Named 11 (type_id 12) [] ∷ shapes.Named 0 (type_id 0) [] ∷ shapes.Named 1 (type_id 1) [] ∷
    shapes.Interface [] ∷ shapes.Func [] ((type_id 22) ∷ []) false ∷ shapes.Named 14 (type_id 26) [] ∷
    shapes.Interface (record { name = (codes "Error"); «package» = None; node = None; pointer = false; of = (type_id 24) } ∷ []) ∷
    shapes.Untyped (type_id 4) ∷ shapes.Untyped (type_id 10) ∷ shapes.Untyped (type_id 22) ∷
    shapes.Untyped (type_id 21) ∷ shapes.Func ((type_id 22) ∷ []) [] false ∷ shapes.Func [] [] false ∷
    shapes.Slice (type_id 23) ∷ [])

abbrev pub decls : List Decl
decls = (decl None None (codes "bool") ∷ decl None None (codes "string") ∷ decl None None (codes "int") ∷
    decl None None (codes "int8") ∷ decl None None (codes "int16") ∷ decl None None (codes "int32") ∷
    decl None None (codes "int64") ∷ decl None None (codes "uint") ∷ decl None None (codes "uint8") ∷
    decl None None (codes "uint16") ∷ decl None None (codes "uint32") ∷ decl None None (codes "uint64") ∷
    decl None None (codes "byte") ∷ decl None None (codes "rune") ∷ decl None None (codes "error") ∷
    decl None None (codes "any") ∷ decl None None (codes "float32") ∷ decl None None (codes "float64") ∷
    decl None None (codes "complex64") ∷ decl None None (codes "complex128") ∷ decl None None (codes "uintptr") ∷
    decl None None (codes "comparable") ∷ decl None None (codes "true") ∷ decl None None (codes "false") ∷
    decl None None (codes "iota") ∷ decl None None (codes "nil") ∷ decl None None (codes "append") ∷
    decl None None (codes "cap") ∷ decl None None (codes "clear") ∷ decl None None (codes "close") ∷
    decl None None (codes "copy") ∷ decl None None (codes "delete") ∷ decl None None (codes "len") ∷
    decl None None (codes "make") ∷ decl None None (codes "max") ∷ decl None None (codes "min") ∷
    decl None None (codes "new") ∷ decl None None (codes "panic") ∷ decl None None (codes "print") ∷
    decl None None (codes "println") ∷ decl None None (codes "recover") ∷ decl None None (codes "complex") ∷
    decl None None (codes "real") ∷ decl None None (codes "imag") ∷ decl (Some 0) (Some 3) (codes "source") ∷
    decl (Some 0) (Some 11) (codes "sink") ∷ decl (Some 0) (Some 15) (codes "x") ∷
    decl (Some 0) (Some 19) (codes "main") ∷ decl (Some 0) (Some 25) (codes "x") ∷ [])

abbrev pub types : List NodeType
types = (typed_as 0 [] ∷ typed_as 1 [] ∷ typed_as 2 [] ∷ typed_as 3 [] ∷ typed_as 4 ((type_id 24) ∷ []) ∷ typed_as 5 [] ∷
    typed_as 6 ((type_id 22) ∷ []) ∷ typed_as 7 [] ∷ typed_as 8 [] ∷ typed_as 9 ((type_id 29) ∷ []) ∷
    typed_as 10 [] ∷ typed_as 11 [] ∷ typed_as 12 ((type_id 31) ∷ []) ∷ typed_as 13 [] ∷ typed_as 14 [] ∷
    typed_as 15 ((type_id 22) ∷ []) ∷ typed_as 16 ((type_id 22) ∷ []) ∷ typed_as 17 [] ∷ typed_as 18 [] ∷
    typed_as 19 [] ∷ typed_as 20 ((type_id 32) ∷ []) ∷ typed_as 21 [] ∷ typed_as 22 [] ∷ typed_as 23 [] ∷
    typed_as 24 [] ∷ typed_as 25 ((type_id 22) ∷ []) ∷ typed_as 26 [] ∷ typed_as 27 ((type_id 22) ∷ []) ∷
    typed_as 28 ((type_id 24) ∷ []) ∷ typed_as 29 [] ∷ typed_as 30 [] ∷ typed_as 31 ((type_id 31) ∷ []) ∷
    typed_as 32 ((type_id 22) ∷ []) ∷ [])

abbrev pub uses : List Use
uses = (record { node = 6; decl = 1 } ∷ record { node = 16; decl = 1 } ∷ record { node = 28; decl = 44 } ∷
    record { node = 31; decl = 45 } ∷ record { node = 32; decl = 48 } ∷ [])

abbrev pub constants : List NodeConst
constants = (record { node = 9; value = consts.Text 1 } ∷ [])

abbrev pub typed : Typed
typed = record {
  files = record { sources = record { paths = codes "main.go" ∷ []; contents = bytes ∷ []; assembly = []; «module» = []; go_line = None }; lexed = record { tokens = tokens_of_it; directives = [] } ∷ []; trees = record { nodes = tree } ∷ [] };
  program = record { table = table; types = types; consts = constants; uses = uses; packages = record { packages = record { path = codes "main"; name = codes "main"; files = 0 ∷ [] } ∷ []; decls = decls; uses = uses } };
  selections = [];
  method_sets = (record { of = 25; methods = (record { steps = []; method = Some (record { holder = 25; method = record { name = (codes "Error"); «package» = None; node = None; pointer = false; of = (type_id 24) } }) } ∷ []) } ∷
      record { of = 26; methods = (record { steps = []; method = Some (record { holder = 26; method = record { name = (codes "Error"); «package» = None; node = None; pointer = false; of = (type_id 24) } }) } ∷ []) } ∷ []);
  ending = (7 ∷ []);
}

abbrev pub function_0 : Function
function_0 = record { name = (codes "entry"); at = (at 6 6); entry = 0; exit = 3; leave = 4; params = 0; results = 0; registers = []; wraps = None; role = roles.Own; ident = None; has_env = false; external = None }

abbrev pub function_1 : Function
function_1 = record { name = (codes "main.source"); at = (at 3 6); entry = 5; exit = 9; leave = 10; params = 0; results = 1; registers = (([] ∷ []) ∷ ([] ∷ []) ∷ []); wraps = None; role = roles.Own; ident = Some (record { «package» = (codes "main"); receiver = []; name = (codes "source") }); has_env = false; external = None }

abbrev pub function_2 : Function
function_2 = record { name = (codes "main.sink"); at = (at 4 6); entry = 11; exit = 12; leave = 13; params = 1; results = 0; registers = (([] ∷ []) ∷ []); wraps = None; role = roles.Own; ident = Some (record { «package» = (codes "main"); receiver = []; name = (codes "sink") }); has_env = false; external = None }

abbrev pub function_3 : Function
function_3 = record { name = (codes "main.main"); at = (at 6 6); entry = 14; exit = 18; leave = 19; params = 0; results = 0; registers = (([] ∷ []) ∷ ([] ∷ []) ∷ []); wraps = None; role = roles.Own; ident = Some (record { «package» = (codes "main"); receiver = []; name = (codes "main") }); has_env = false; external = None }

abbrev pub code : Code
code = record {
  functions = (function_0 ∷ function_1 ∷ function_2 ∷ function_3 ∷ []);
  instrs = (record { kind = (kinds.Goto 1); at = (at 6 6); tags = [] } ∷
      record { kind = (kinds.Branch (2 ∷ [])); at = (at 6 6); tags = [] } ∷
      record { kind = (kinds.Call [] (callees.Static 3) []); at = (at 6 6); tags = [] } ∷
      record { kind = kinds.RunDefers; at = (at 6 6); tags = [] } ∷
      record { kind = (kinds.Leave []); at = (at 6 6); tags = [] } ∷
      record { kind = (kinds.Goto 6); at = (at 3 6); tags = [] } ∷
      record { kind = (kinds.Op 1 []); at = (at 3 31); tags = [] } ∷
      record { kind = (kinds.Move 0 1 []); at = (at 3 24); tags = [] } ∷
      record { kind = (kinds.Goto 9); at = (at 3 24); tags = [] } ∷
      record { kind = kinds.RunDefers; at = (at 3 35); tags = [] } ∷
      record { kind = (kinds.Leave (0 ∷ [])); at = (at 3 35); tags = [] } ∷
      record { kind = (kinds.Goto 12); at = (at 4 6); tags = [] } ∷
      record { kind = kinds.RunDefers; at = (at 4 23); tags = [] } ∷
      record { kind = (kinds.Leave []); at = (at 4 23); tags = [] } ∷
      record { kind = (kinds.Goto 15); at = (at 6 6); tags = [] } ∷
      record { kind = (kinds.Call (1 ∷ []) (callees.Static 1) []); at = (at 7 7); tags = [] } ∷
      record { kind = (kinds.Move 0 1 []); at = (at 7 2); tags = [] } ∷
      record { kind = (kinds.Call [] (callees.Static 2) (0 ∷ [])); at = (at 8 2); tags = [] } ∷
      record { kind = kinds.RunDefers; at = (at 9 1); tags = [] } ∷
      record { kind = (kinds.Leave []); at = (at 9 1); tags = [] } ∷ []);
  sites = [];
  globals = [];
  methods = [];
  implements = [];
  files = codes "main.go" ∷ [];
}

abbrev pub order : List Origin
order = (OfEntry ∷ OfText 2 ∷ OfText 10 ∷ OfText 18 ∷ [])

abbrev pub finished : Finished
finished = record { code = code; number = number_in order; places = (1 ∷ 1 ∷ 2 ∷ 6 ∷ 9 ∷ 12 ∷ 12 ∷ 15 ∷ 18 ∷ []); notes = [] }

-- the code of each of its functions is what its script does
abbrev pub IsSaid : ℕ → Origin → List ℕ → At → At → Type 0
IsSaid g o rs a b = Says (row typed) finished g (root_node o) (script_of typed order o) rs a b

abbrev pub IsLowered : Type 0
IsLowered =
    IsSaid 0 (OfEntry) [] (point 0 0 0 0 0 (replicate 49 0 ++ [])) (point 5 3 0 0 0 (replicate 49 0 ++ []))
    × IsSaid 1 (OfText 2) [] (point 5 3 0 0 0 (replicate 49 0 ++ [])) (point 11 5 2 0 0 (replicate 49 0 ++ []))
    × IsSaid 2 (OfText 10) [] (point 11 5 0 0 0 (replicate 49 0 ++ [])) (point 14 7 1 0 0 (replicate 49 0 ++ []))
    × IsSaid 3 (OfText 18) [] (point 14 7 0 0 0 (replicate 49 0 ++ [])) (point 20 9 2 0 0 (replicate 49 0 ++ []))

-- and its functions have the names, the places and the counts that they have
abbrev pub IsNamed : Type 0
IsNamed =
    (map (printed_name typed) order ≡ map (λ (f : Function). f.name) code.functions)
    × (map (function_position typed) order ≡ map (λ (f : Function). f.at) code.functions)
    × (map (param_count typed) order ≡ map (λ (f : Function). f.params) code.functions)
    × (map (result_count typed) order ≡ map (λ (f : Function). f.results) code.functions)
