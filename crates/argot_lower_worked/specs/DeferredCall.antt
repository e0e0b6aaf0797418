-- A typed program and its plain code:
--   1 package main
--   2
--   3 func f() (r string) {
--   4     defer close(make(chan int))
--   5     r = "a"
--   6     return
--   7 }
--   8
--   9 func main() {
--   10     f()
--   11 }
use Rattle.std.specs.Prelude.{◌≡◌, ℕ, true, false, List, [], ◌∷◌, ◌++◌, map, replicate, Some, None, codes}
use Rattle.argot_consts.specs.declared.constants.Const.TheVariants as consts
use Rattle.argot_text.specs.declared.path.PathStep.TheVariants as paths
use Rattle.argot_tree.specs.declared.keyword.Keyword.TheVariants as words
use Rattle.argot_tree.specs.declared.mark.Mark.TheVariants as marks
use Rattle.argot_tree.specs.declared.node_kind.NodeKind.TheVariants as nodes
use Rattle.argot_tree.specs.declared.token.Token.{Token}
use Rattle.argot_tree.specs.declared.token.TokenKind.TheVariants as tokens
use Rattle.argot_tree.specs.declared.tree.TreeNode.{TreeNode}
use Rattle.argot_typed.specs.declared.program.Decl.{Decl}
use Rattle.argot_typed.specs.declared.program.NodeConst.{NodeConst}
use Rattle.argot_typed.specs.declared.program.NodeType.{NodeType}
use Rattle.argot_typed.specs.declared.program.Use.{Use}
use Rattle.argot_typed.specs.declared.shape.Dir.TheVariants as ways
use Rattle.argot_typed.specs.declared.shape.Shape.{Shape}
use Rattle.argot_typed.specs.declared.shape.Shape.TheVariants as shapes
use Rattle.argot_plain.specs.Code.{Code}
use Rattle.argot_plain.specs.declared.functions.Function.{Function}
use Rattle.argot_plain.specs.declared.functions.Role.TheVariants as roles
use Rattle.argot_plain.specs.declared.instructions.Callee.TheVariants as callees
use Rattle.argot_plain.specs.declared.instructions.Kind.TheVariants as kinds
use Rattle.argot_lower_scripts.specs.Says.{Finished, At, Says}
use Rattle.argot_lower_locals.specs.Typed.{Typed}
use Rattle.argot_lower_program.specs.Functions.{Origin, OfEntry, OfText, OfBuiltIn, number_in, root_node, script_of, printed_name, function_position, param_count, result_count}
use Rattle.argot_lower_rows.specs.Table.{row}
use Rattle.argot_lower_worked.specs.Words.{type_id, at, token, node, decl, typed_as, point}

abbrev pub bytes : List ℕ
bytes = (112 ∷ 97 ∷ 99 ∷ 107 ∷ 97 ∷ 103 ∷ 101 ∷ 32 ∷ 109 ∷ 97 ∷ 105 ∷ 110 ∷ 10 ∷ 10 ∷ 102 ∷ 117 ∷ 110 ∷ 99 ∷ 32 ∷ 102 ∷
    40 ∷ 41 ∷ 32 ∷ 40 ∷ 114 ∷ 32 ∷ 115 ∷ 116 ∷ 114 ∷ 105 ∷ 110 ∷ 103 ∷ 41 ∷ 32 ∷ 123 ∷ 10 ∷ 9 ∷ 100 ∷ 101 ∷ 102 ∷
    101 ∷ 114 ∷ 32 ∷ 99 ∷ 108 ∷ 111 ∷ 115 ∷ 101 ∷ 40 ∷ 109 ∷ 97 ∷ 107 ∷ 101 ∷ 40 ∷ 99 ∷ 104 ∷ 97 ∷ 110 ∷ 32 ∷ 105 ∷
    110 ∷ 116 ∷ 41 ∷ 41 ∷ 10 ∷ 9 ∷ 114 ∷ 32 ∷ 61 ∷ 32 ∷ 34 ∷ 97 ∷ 34 ∷ 10 ∷ 9 ∷ 114 ∷ 101 ∷ 116 ∷ 117 ∷ 114 ∷ 110 ∷
    10 ∷ 125 ∷ 10 ∷ 10 ∷ 102 ∷ 117 ∷ 110 ∷ 99 ∷ 32 ∷ 109 ∷ 97 ∷ 105 ∷ 110 ∷ 40 ∷ 41 ∷ 32 ∷ 123 ∷ 10 ∷ 9 ∷ 102 ∷ 40 ∷
    41 ∷ 10 ∷ 125 ∷ 10 ∷ [])

abbrev pub tokens_of_it : List Token
tokens_of_it = (token (tokens.Word words.Package) 0 7 ∷ token tokens.Name 8 12 ∷ token tokens.Inserted 12 12 ∷
    token (tokens.Word words.Func) 14 18 ∷ token tokens.Name 19 20 ∷ token (tokens.Mark marks.OpenParen) 20 21 ∷
    token (tokens.Mark marks.CloseParen) 21 22 ∷ token (tokens.Mark marks.OpenParen) 23 24 ∷
    token tokens.Name 24 25 ∷ token tokens.Name 26 32 ∷ token (tokens.Mark marks.CloseParen) 32 33 ∷
    token (tokens.Mark marks.OpenBrace) 34 35 ∷ token (tokens.Word words.Defer) 37 42 ∷ token tokens.Name 43 48 ∷
    token (tokens.Mark marks.OpenParen) 48 49 ∷ token tokens.Name 49 53 ∷
    token (tokens.Mark marks.OpenParen) 53 54 ∷ token (tokens.Word words.Chan) 54 58 ∷ token tokens.Name 59 62 ∷
    token (tokens.Mark marks.CloseParen) 62 63 ∷ token (tokens.Mark marks.CloseParen) 63 64 ∷
    token tokens.Inserted 64 64 ∷ token tokens.Name 66 67 ∷ token (tokens.Mark marks.Assign) 68 69 ∷
    token tokens.Chars 70 73 ∷ token tokens.Inserted 73 73 ∷ token (tokens.Word words.Return) 75 81 ∷
    token tokens.Inserted 81 81 ∷ token (tokens.Mark marks.CloseBrace) 82 83 ∷ token tokens.Inserted 83 83 ∷
    token (tokens.Word words.Func) 85 89 ∷ token tokens.Name 90 94 ∷ token (tokens.Mark marks.OpenParen) 94 95 ∷
    token (tokens.Mark marks.CloseParen) 95 96 ∷ token (tokens.Mark marks.OpenBrace) 97 98 ∷
    token tokens.Name 100 101 ∷ token (tokens.Mark marks.OpenParen) 101 102 ∷
    token (tokens.Mark marks.CloseParen) 102 103 ∷ token tokens.Inserted 103 103 ∷
    token (tokens.Mark marks.CloseBrace) 104 105 ∷ token tokens.Inserted 105 105 ∷ [])

abbrev pub tree : List TreeNode
tree = (node nodes.File 0 0 (Some 1) None ∷ node nodes.DeclName 1 1 None (Some 2) ∷
    node nodes.FuncDecl 3 3 (Some 3) (Some 24) ∷ node nodes.DeclName 4 4 None (Some 4) ∷
    node nodes.Signature 5 5 (Some 5) (Some 10) ∷ node nodes.Params 5 5 None (Some 6) ∷
    node nodes.NamedParams 7 7 (Some 7) None ∷ node nodes.NamedParam 8 8 (Some 8) None ∷
    node nodes.DeclName 8 8 None (Some 9) ∷ node nodes.TypeName 9 9 None None ∷
    node nodes.Block 11 28 (Some 11) None ∷ node nodes.Defer 12 12 (Some 12) (Some 18) ∷
    node nodes.Call 13 13 (Some 13) None ∷ node nodes.NameUse 13 13 None (Some 14) ∷
    node nodes.Call 15 15 (Some 15) None ∷ node nodes.NameUse 15 15 None (Some 16) ∷
    node nodes.ChanType 17 17 (Some 17) None ∷ node nodes.TypeName 18 18 None None ∷
    node nodes.Assign 22 22 (Some 19) (Some 23) ∷ node nodes.Exprs 22 22 (Some 20) (Some 21) ∷
    node nodes.NameUse 22 22 None None ∷ node nodes.Exprs 24 24 (Some 22) None ∷
    node nodes.Literal 24 24 None None ∷ node nodes.Return 26 26 None None ∷
    node nodes.FuncDecl 30 30 (Some 25) None ∷ node nodes.DeclName 31 31 None (Some 26) ∷
    node nodes.Signature 32 32 (Some 27) (Some 28) ∷ node nodes.Params 32 32 None None ∷
    node nodes.Block 34 39 (Some 29) None ∷ node nodes.ExprStmt 35 35 (Some 30) None ∷
    node nodes.Call 35 35 (Some 31) None ∷ node nodes.NameUse 35 35 None None ∷ [])

abbrev pub table : List Shape
table = (shapes.Truth ∷ shapes.Chars ∷ shapes.NilShape ∷ shapes.Whole 64 true ∷ shapes.Named 2 (type_id 3) [] ∷
    shapes.Whole 8 true ∷ shapes.Named 3 (type_id 5) [] ∷ shapes.Whole 16 true ∷ shapes.Named 4 (type_id 7) [] ∷
    shapes.Whole 32 true ∷ shapes.Named 5 (type_id 9) [] ∷ shapes.Named 6 (type_id 3) [] ∷ shapes.Whole 64 false ∷
    shapes.Named 7 (type_id 12) [] ∷ shapes.Whole 8 false ∷ shapes.Named 8 (type_id 14) [] ∷ shapes.Whole 16 false ∷
    shapes.Named 9 (type_id 16) [] ∷ shapes.Whole 32 false ∷ shapes.Named 10 (type_id 18) [] ∷
    shapes.Named 11 (type_id 12) [] ∷ shapes.Named 0 (type_id 0) [] ∷ shapes.Named 1 (type_id 1) [] ∷
    shapes.Interface [] ∷ shapes.Func [] ((type_id 22) ∷ []) false ∷ shapes.Named 14 (type_id 26) [] ∷
    shapes.Interface (record { name = (codes "Error"); «package» = None; node = None; pointer = false; of = (type_id 24) } ∷ []) ∷
    shapes.Untyped (type_id 4) ∷ shapes.Untyped (type_id 10) ∷ shapes.Untyped (type_id 22) ∷
    shapes.Untyped (type_id 21) ∷ shapes.Func [] [] false ∷ shapes.Chan ways.Both (type_id 4) ∷
    shapes.Func ((type_id 32) ∷ []) [] false ∷ shapes.Slice (type_id 23) ∷ [])

abbrev pub decls : List Decl
decls = (decl None None (codes "bool") ∷ decl None None (codes "string") ∷ decl None None (codes "int") ∷
    decl None None (codes "int8") ∷ decl None None (codes "int16") ∷ decl None None (codes "int32") ∷
    decl None None (codes "int64") ∷ decl None None (codes "uint") ∷ decl None None (codes "uint8") ∷
    decl None None (codes "uint16") ∷ decl None None (codes "uint32") ∷ decl None None (codes "uint64") ∷
    decl None None (codes "byte") ∷ decl None None (codes "rune") ∷ decl None None (codes "error") ∷
    decl None None (codes "any") ∷ decl None None (codes "float32") ∷ decl None None (codes "float64") ∷
    decl None None (codes "complex64") ∷ decl None None (codes "complex128") ∷ decl None None (codes "uintptr") ∷
    decl None None (codes "comparable") ∷ decl None None (codes "true") ∷ decl None None (codes "false") ∷
    decl None None (codes "iota") ∷ decl None None (codes "nil") ∷ decl None None (codes "append") ∷
    decl None None (codes "cap") ∷ decl None None (codes "clear") ∷ decl None None (codes "close") ∷
    decl None None (codes "copy") ∷ decl None None (codes "delete") ∷ decl None None (codes "len") ∷
    decl None None (codes "make") ∷ decl None None (codes "max") ∷ decl None None (codes "min") ∷
    decl None None (codes "new") ∷ decl None None (codes "panic") ∷ decl None None (codes "print") ∷
    decl None None (codes "println") ∷ decl None None (codes "recover") ∷ decl None None (codes "complex") ∷
    decl None None (codes "real") ∷ decl None None (codes "imag") ∷ decl (Some 0) (Some 3) (codes "f") ∷
    decl (Some 0) (Some 8) (codes "r") ∷ decl (Some 0) (Some 25) (codes "main") ∷ [])

abbrev pub types : List NodeType
types = (typed_as 0 [] ∷ typed_as 1 [] ∷ typed_as 2 [] ∷ typed_as 3 [] ∷ typed_as 4 ((type_id 24) ∷ []) ∷ typed_as 5 [] ∷
    typed_as 6 [] ∷ typed_as 7 [] ∷ typed_as 8 ((type_id 22) ∷ []) ∷ typed_as 9 ((type_id 22) ∷ []) ∷
    typed_as 10 [] ∷ typed_as 11 [] ∷ typed_as 12 [] ∷ typed_as 13 [] ∷ typed_as 14 ((type_id 32) ∷ []) ∷
    typed_as 15 [] ∷ typed_as 16 ((type_id 32) ∷ []) ∷ typed_as 17 ((type_id 4) ∷ []) ∷ typed_as 18 [] ∷
    typed_as 19 [] ∷ typed_as 20 ((type_id 22) ∷ []) ∷ typed_as 21 [] ∷ typed_as 22 ((type_id 29) ∷ []) ∷
    typed_as 23 [] ∷ typed_as 24 [] ∷ typed_as 25 [] ∷ typed_as 26 ((type_id 31) ∷ []) ∷ typed_as 27 [] ∷
    typed_as 28 [] ∷ typed_as 29 [] ∷ typed_as 30 ((type_id 22) ∷ []) ∷ typed_as 31 ((type_id 24) ∷ []) ∷ [])

abbrev pub uses : List Use
uses = (record { node = 9; decl = 1 } ∷ record { node = 13; decl = 29 } ∷ record { node = 15; decl = 33 } ∷
    record { node = 17; decl = 2 } ∷ record { node = 20; decl = 45 } ∷ record { node = 31; decl = 44 } ∷ [])

abbrev pub constants : List NodeConst
constants = (record { node = 22; value = consts.Text 1 } ∷ [])

abbrev pub typed : Typed
typed = record {
  files = record { sources = record { paths = codes "main.go" ∷ []; contents = bytes ∷ []; assembly = []; «module» = []; go_line = None }; lexed = record { tokens = tokens_of_it; directives = [] } ∷ []; trees = record { nodes = tree } ∷ [] };
  program = record { table = table; types = types; consts = constants; uses = uses; packages = record { packages = record { path = codes "main"; name = codes "main"; files = 0 ∷ [] } ∷ []; decls = decls; uses = uses } };
  selections = [];
  method_sets = (record { of = 25; methods = (record { steps = []; method = Some (record { holder = 25; method = record { name = (codes "Error"); «package» = None; node = None; pointer = false; of = (type_id 24) } }) } ∷ []) } ∷
      record { of = 26; methods = (record { steps = []; method = Some (record { holder = 26; method = record { name = (codes "Error"); «package» = None; node = None; pointer = false; of = (type_id 24) } }) } ∷ []) } ∷ []);
  ending = (10 ∷ []);
}

abbrev pub function_0 : Function
function_0 = record { name = (codes "entry"); at = (at 9 6); entry = 0; exit = 3; leave = 4; params = 0; results = 0; registers = []; wraps = None; role = roles.Own; ident = None; has_env = false; external = None }

abbrev pub function_1 : Function
function_1 = record { name = (codes "main.f"); at = (at 3 6); entry = 5; exit = 13; leave = 15; params = 0; results = 1; registers = (([] ∷ []) ∷ ([] ∷ []) ∷ ([] ∷ []) ∷ ([] ∷ []) ∷ ([] ∷ []) ∷ []); wraps = None; role = roles.Own; ident = Some (record { «package» = (codes "main"); receiver = []; name = (codes "f") }); has_env = false; external = None }

abbrev pub function_2 : Function
function_2 = record { name = (codes "main.f$1"); at = (at 4 8); entry = 16; exit = 17; leave = 18; params = 1; results = 0; registers = (([] ∷ []) ∷ []); wraps = None; role = roles.Own; ident = None; has_env = false; external = None }

abbrev pub function_3 : Function
function_3 = record { name = (codes "main.main"); at = (at 9 6); entry = 19; exit = 21; leave = 22; params = 0; results = 0; registers = (([] ∷ []) ∷ []); wraps = None; role = roles.Own; ident = Some (record { «package» = (codes "main"); receiver = []; name = (codes "main") }); has_env = false; external = None }

abbrev pub code : Code
code = record {
  functions = (function_0 ∷ function_1 ∷ function_2 ∷ function_3 ∷ []);
  instrs = (record { kind = (kinds.Goto 1); at = (at 9 6); tags = [] } ∷
      record { kind = (kinds.Branch (2 ∷ [])); at = (at 9 6); tags = [] } ∷
      record { kind = (kinds.Call [] (callees.Static 3) []); at = (at 9 6); tags = [] } ∷
      record { kind = kinds.RunDefers; at = (at 9 6); tags = [] } ∷
      record { kind = (kinds.Leave []); at = (at 9 6); tags = [] } ∷
      record { kind = (kinds.Goto 6); at = (at 3 6); tags = [] } ∷
      record { kind = (kinds.New 0 0); at = (at 3 11); tags = [] } ∷
      record { kind = (kinds.New 1 1); at = (at 4 8); tags = [] } ∷
      record { kind = (kinds.New 2 2); at = (at 4 14); tags = [] } ∷
      record { kind = (kinds.Defer (callees.Value 1) (2 ∷ [])); at = (at 4 2); tags = [] } ∷
      record { kind = (kinds.Op 3 []); at = (at 5 6); tags = [] } ∷
      record { kind = (kinds.Write 0 3); at = (at 5 2); tags = [] } ∷
      record { kind = (kinds.Goto 13); at = (at 6 2); tags = [] } ∷
      record { kind = kinds.RunDefers; at = (at 7 1); tags = [] } ∷
      record { kind = (kinds.Read 4 0 ([] ∷ [])); at = (at 7 1); tags = [] } ∷
      record { kind = (kinds.Leave (4 ∷ [])); at = (at 7 1); tags = [] } ∷
      record { kind = (kinds.Goto 17); at = (at 4 8); tags = [] } ∷
      record { kind = kinds.RunDefers; at = (at 4 8); tags = [] } ∷
      record { kind = (kinds.Leave []); at = (at 4 8); tags = [] } ∷
      record { kind = (kinds.Goto 20); at = (at 9 6); tags = [] } ∷
      record { kind = (kinds.Call (0 ∷ []) (callees.Static 1) []); at = (at 10 2); tags = [] } ∷
      record { kind = kinds.RunDefers; at = (at 11 1); tags = [] } ∷
      record { kind = (kinds.Leave []); at = (at 11 1); tags = [] } ∷ []);
  sites = (record { place = 6; result = 0; leaf = 0; shape = ([] ∷ []); dynamic = 22; function = None } ∷
      record { place = 7; result = 0; leaf = 0; shape = []; dynamic = 35; function = (Some 2) } ∷
      record { place = 8; result = 0; leaf = 0; shape = ((paths.Channel ∷ []) ∷ []); dynamic = 32; function = None } ∷ []);
  globals = [];
  methods = [];
  implements = [];
  files = codes "main.go" ∷ [];
}

abbrev pub order : List Origin
order = (OfEntry ∷ OfText 2 ∷ OfBuiltIn 12 ∷ OfText 24 ∷ [])

abbrev pub finished : Finished
finished = record { code = code; number = number_in order; places = (1 ∷ 1 ∷ 2 ∷ 6 ∷ 13 ∷ 17 ∷ 20 ∷ 21 ∷ []); notes = [] }

-- the code of each of its functions is what its script does
abbrev pub IsSaid : ℕ → Origin → List ℕ → At → At → Type 0
IsSaid g o rs a b = Says (row typed) finished g (root_node o) (script_of typed order o) rs a b

abbrev pub IsLowered : Type 0
IsLowered =
    IsSaid 0 (OfEntry) [] (point 0 0 0 0 0 (replicate 47 0 ++ [])) (point 5 3 0 0 0 (replicate 47 0 ++ []))
    × IsSaid 1 (OfText 2) [] (point 5 3 0 0 0 (replicate 47 0 ++ [])) (point 16 5 5 3 0 (replicate 47 0 ++ []))
    × IsSaid 2 (OfBuiltIn 12) [] (point 16 5 0 3 0 (replicate 47 0 ++ [])) (point 19 6 1 3 0 (replicate 47 0 ++ []))
    × IsSaid 3 (OfText 24) [] (point 19 6 0 3 0 (replicate 47 0 ++ [])) (point 23 8 1 3 0 (replicate 47 0 ++ []))

-- and its functions have the names, the places and the counts that they have
abbrev pub IsNamed : Type 0
IsNamed =
    (map (printed_name typed) order ≡ map (λ (f : Function). f.name) code.functions)
    × (map (function_position typed) order ≡ map (λ (f : Function). f.at) code.functions)
    × (map (param_count typed) order ≡ map (λ (f : Function). f.params) code.functions)
    × (map (result_count typed) order ≡ map (λ (f : Function). f.results) code.functions)
