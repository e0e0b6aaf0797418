-- A typed program and its plain code:
--   1 package main
--   2
--   3 func main() {
--   4     x := "a"
--   5     f := func() { x = "b" }
--   6     f()
--   7 }
use Rattle.std.specs.Prelude.{◌≡◌, ℕ, true, false, List, [], ◌∷◌, ◌++◌, map, replicate, Some, None, codes}
use Rattle.argot_consts.specs.declared.constants.Const.TheVariants as consts
use Rattle.argot_text.specs.declared.path.PathStep.TheVariants as paths
use Rattle.argot_tree.specs.declared.keyword.Keyword.TheVariants as words
use Rattle.argot_tree.specs.declared.mark.Mark.TheVariants as marks
use Rattle.argot_tree.specs.declared.node_kind.NodeKind.TheVariants as nodes
use Rattle.argot_tree.specs.declared.token.Token.{Token}
use Rattle.argot_tree.specs.declared.token.TokenKind.TheVariants as tokens
use Rattle.argot_tree.specs.declared.tree.TreeNode.{TreeNode}
use Rattle.argot_typed.specs.declared.program.Decl.{Decl}
use Rattle.argot_typed.specs.declared.program.NodeConst.{NodeConst}
use Rattle.argot_typed.specs.declared.program.NodeType.{NodeType}
use Rattle.argot_typed.specs.declared.program.Use.{Use}
use Rattle.argot_typed.specs.declared.shape.Shape.{Shape}
use Rattle.argot_typed.specs.declared.shape.Shape.TheVariants as shapes
use Rattle.argot_plain.specs.Code.{Code}
use Rattle.argot_plain.specs.declared.functions.Function.{Function}
use Rattle.argot_plain.specs.declared.functions.Role.TheVariants as roles
use Rattle.argot_plain.specs.declared.instructions.Callee.TheVariants as callees
use Rattle.argot_plain.specs.declared.instructions.Kind.TheVariants as kinds
use Rattle.argot_lower_scripts.specs.Says.{Finished, At, Says}
use Rattle.argot_lower_locals.specs.Typed.{Typed}
use Rattle.argot_lower_program.specs.Functions.{Origin, OfEntry, OfText, number_in, root_node, script_of, printed_name, function_position, param_count, result_count}
use Rattle.argot_lower_rows.specs.Table.{row}
use Rattle.argot_lower_worked.specs.Words.{type_id, at, token, node, decl, typed_as, point}

abbrev pub bytes : List ℕ
bytes = (112 ∷ 97 ∷ 99 ∷ 107 ∷ 97 ∷ 103 ∷ 101 ∷ 32 ∷ 109 ∷ 97 ∷ 105 ∷ 110 ∷ 10 ∷ 10 ∷ 102 ∷ 117 ∷ 110 ∷ 99 ∷ 32 ∷ 109 ∷
    97 ∷ 105 ∷ 110 ∷ 40 ∷ 41 ∷ 32 ∷ 123 ∷ 10 ∷ 9 ∷ 120 ∷ 32 ∷ 58 ∷ 61 ∷ 32 ∷ 34 ∷ 97 ∷ 34 ∷ 10 ∷ 9 ∷ 102 ∷ 32 ∷ 58 ∷
    61 ∷ 32 ∷ 102 ∷ 117 ∷ 110 ∷ 99 ∷ 40 ∷ 41 ∷ 32 ∷ 123 ∷ 32 ∷ 120 ∷ 32 ∷ 61 ∷ 32 ∷ 34 ∷ 98 ∷ 34 ∷ 32 ∷ 125 ∷ 10 ∷
    9 ∷ 102 ∷ 40 ∷ 41 ∷ 10 ∷ 125 ∷ 10 ∷ [])

abbrev pub tokens_of_it : List Token
tokens_of_it = (token (tokens.Word words.Package) 0 7 ∷ token tokens.Name 8 12 ∷ token tokens.Inserted 12 12 ∷
    token (tokens.Word words.Func) 14 18 ∷ token tokens.Name 19 23 ∷ token (tokens.Mark marks.OpenParen) 23 24 ∷
    token (tokens.Mark marks.CloseParen) 24 25 ∷ token (tokens.Mark marks.OpenBrace) 26 27 ∷
    token tokens.Name 29 30 ∷ token (tokens.Mark marks.Define) 31 33 ∷ token tokens.Chars 34 37 ∷
    token tokens.Inserted 37 37 ∷ token tokens.Name 39 40 ∷ token (tokens.Mark marks.Define) 41 43 ∷
    token (tokens.Word words.Func) 44 48 ∷ token (tokens.Mark marks.OpenParen) 48 49 ∷
    token (tokens.Mark marks.CloseParen) 49 50 ∷ token (tokens.Mark marks.OpenBrace) 51 52 ∷
    token tokens.Name 53 54 ∷ token (tokens.Mark marks.Assign) 55 56 ∷ token tokens.Chars 57 60 ∷
    token (tokens.Mark marks.CloseBrace) 61 62 ∷ token tokens.Inserted 62 62 ∷ token tokens.Name 64 65 ∷
    token (tokens.Mark marks.OpenParen) 65 66 ∷ token (tokens.Mark marks.CloseParen) 66 67 ∷
    token tokens.Inserted 67 67 ∷ token (tokens.Mark marks.CloseBrace) 68 69 ∷ token tokens.Inserted 69 69 ∷ [])

abbrev pub tree : List TreeNode
tree = (node nodes.File 0 0 (Some 1) None ∷ node nodes.DeclName 1 1 None (Some 2) ∷
    node nodes.FuncDecl 3 3 (Some 3) None ∷ node nodes.DeclName 4 4 None (Some 4) ∷
    node nodes.Signature 5 5 (Some 5) (Some 6) ∷ node nodes.Params 5 5 None None ∷
    node nodes.Block 7 27 (Some 7) None ∷ node nodes.Define 8 8 (Some 8) (Some 12) ∷
    node nodes.Names 8 8 (Some 9) (Some 10) ∷ node nodes.DeclName 8 8 None None ∷
    node nodes.Exprs 10 10 (Some 11) None ∷ node nodes.Literal 10 10 None None ∷
    node nodes.Define 12 12 (Some 13) (Some 25) ∷ node nodes.Names 12 12 (Some 14) (Some 15) ∷
    node nodes.DeclName 12 12 None None ∷ node nodes.Exprs 14 14 (Some 16) None ∷
    node nodes.FuncLiteral 14 14 (Some 17) None ∷ node nodes.Signature 15 15 (Some 18) (Some 19) ∷
    node nodes.Params 15 15 None None ∷ node nodes.Block 17 21 (Some 20) None ∷
    node nodes.Assign 18 18 (Some 21) None ∷ node nodes.Exprs 18 18 (Some 22) (Some 23) ∷
    node nodes.NameUse 18 18 None None ∷ node nodes.Exprs 20 20 (Some 24) None ∷
    node nodes.Literal 20 20 None None ∷ node nodes.ExprStmt 23 23 (Some 26) None ∷
    node nodes.Call 23 23 (Some 27) None ∷ node nodes.NameUse 23 23 None None ∷ [])

abbrev pub table : List Shape
table = (shapes.Truth ∷ shapes.Chars ∷ shapes.NilShape ∷ shapes.Whole 64 true ∷ shapes.Named 2 (type_id 3) [] ∷
    shapes.Whole 8 true ∷ shapes.Named 3 (type_id 5) [] ∷ shapes.Whole 16 true ∷ shapes.Named 4 (type_id 7) [] ∷
    shapes.Whole 32 true ∷ shapes.Named 5 (type_id 9) [] ∷ shapes.Named 6 (type_id 3) [] ∷ shapes.Whole 64 false ∷
    shapes.Named 7 (type_id 12) [] ∷ shapes.Whole 8 false ∷ shapes.Named 8 (type_id 14) [] ∷ shapes.Whole 16 false ∷
    shapes.Named 9 (type_id 16) [] ∷ shapes.Whole 32 false ∷ shapes.Named 10 (type_id 18) [] ∷
    shapes.Named 11 (type_id 12) [] ∷ shapes.Named 0 (type_id 0) [] ∷ shapes.Named 1 (type_id 1) [] ∷
    shapes.Interface [] ∷ shapes.Func [] ((type_id 22) ∷ []) false ∷ shapes.Named 14 (type_id 26) [] ∷
    shapes.Interface (record { name = (codes "Error"); «package» = None; node = None; pointer = false; of = (type_id 24) } ∷ []) ∷
    shapes.Untyped (type_id 4) ∷ shapes.Untyped (type_id 10) ∷ shapes.Untyped (type_id 22) ∷
    shapes.Untyped (type_id 21) ∷ shapes.Func [] [] false ∷ shapes.Slice (type_id 23) ∷ [])

abbrev pub decls : List Decl
decls = (decl None None (codes "bool") ∷ decl None None (codes "string") ∷ decl None None (codes "int") ∷
    decl None None (codes "int8") ∷ decl None None (codes "int16") ∷ decl None None (codes "int32") ∷
    decl None None (codes "int64") ∷ decl None None (codes "uint") ∷ decl None None (codes "uint8") ∷
    decl None None (codes "uint16") ∷ decl None None (codes "uint32") ∷ decl None None (codes "uint64") ∷
    decl None None (codes "byte") ∷ decl None None (codes "rune") ∷ decl None None (codes "error") ∷
    decl None None (codes "any") ∷ decl None None (codes "float32") ∷ decl None None (codes "float64") ∷
    decl None None (codes "complex64") ∷ decl None None (codes "complex128") ∷ decl None None (codes "uintptr") ∷
    decl None None (codes "comparable") ∷ decl None None (codes "true") ∷ decl None None (codes "false") ∷
    decl None None (codes "iota") ∷ decl None None (codes "nil") ∷ decl None None (codes "append") ∷
    decl None None (codes "cap") ∷ decl None None (codes "clear") ∷ decl None None (codes "close") ∷
    decl None None (codes "copy") ∷ decl None None (codes "delete") ∷ decl None None (codes "len") ∷
    decl None None (codes "make") ∷ decl None None (codes "max") ∷ decl None None (codes "min") ∷
    decl None None (codes "new") ∷ decl None None (codes "panic") ∷ decl None None (codes "print") ∷
    decl None None (codes "println") ∷ decl None None (codes "recover") ∷ decl None None (codes "complex") ∷
    decl None None (codes "real") ∷ decl None None (codes "imag") ∷ decl (Some 0) (Some 3) (codes "main") ∷
    decl (Some 0) (Some 9) (codes "x") ∷ decl (Some 0) (Some 14) (codes "f") ∷ [])

abbrev pub types : List NodeType
types = (typed_as 0 [] ∷ typed_as 1 [] ∷ typed_as 2 [] ∷ typed_as 3 [] ∷ typed_as 4 ((type_id 31) ∷ []) ∷ typed_as 5 [] ∷
    typed_as 6 [] ∷ typed_as 7 [] ∷ typed_as 8 [] ∷ typed_as 9 ((type_id 22) ∷ []) ∷ typed_as 10 [] ∷
    typed_as 11 ((type_id 29) ∷ []) ∷ typed_as 12 [] ∷ typed_as 13 [] ∷ typed_as 14 ((type_id 31) ∷ []) ∷
    typed_as 15 [] ∷ typed_as 16 ((type_id 31) ∷ []) ∷ typed_as 17 ((type_id 31) ∷ []) ∷ typed_as 18 [] ∷
    typed_as 19 [] ∷ typed_as 20 [] ∷ typed_as 21 [] ∷ typed_as 22 ((type_id 22) ∷ []) ∷ typed_as 23 [] ∷
    typed_as 24 ((type_id 29) ∷ []) ∷ typed_as 25 [] ∷ typed_as 26 [] ∷ typed_as 27 ((type_id 31) ∷ []) ∷ [])

abbrev pub uses : List Use
uses = (record { node = 22; decl = 45 } ∷ record { node = 27; decl = 46 } ∷ [])

abbrev pub constants : List NodeConst
constants = (record { node = 11; value = consts.Text 1 } ∷ record { node = 24; value = consts.Text 1 } ∷ [])

abbrev pub typed : Typed
typed = record {
  files = record { sources = record { paths = codes "main.go" ∷ []; contents = bytes ∷ []; assembly = []; «module» = []; go_line = None }; lexed = record { tokens = tokens_of_it; directives = [] } ∷ []; trees = record { nodes = tree } ∷ [] };
  program = record { table = table; types = types; consts = constants; uses = uses; packages = record { packages = record { path = codes "main"; name = codes "main"; files = 0 ∷ [] } ∷ []; decls = decls; uses = uses } };
  selections = [];
  method_sets = (record { of = 25; methods = (record { steps = []; method = Some (record { holder = 25; method = record { name = (codes "Error"); «package» = None; node = None; pointer = false; of = (type_id 24) } }) } ∷ []) } ∷
      record { of = 26; methods = (record { steps = []; method = Some (record { holder = 26; method = record { name = (codes "Error"); «package» = None; node = None; pointer = false; of = (type_id 24) } }) } ∷ []) } ∷ []);
  ending = [];
}

abbrev pub function_0 : Function
function_0 = record { name = (codes "entry"); at = (at 3 6); entry = 0; exit = 3; leave = 4; params = 0; results = 0; registers = []; wraps = None; role = roles.Own; ident = None; has_env = false; external = None }

abbrev pub function_1 : Function
function_1 = record { name = (codes "main.main"); at = (at 3 6); entry = 5; exit = 14; leave = 15; params = 0; results = 0; registers = (([] ∷ []) ∷ ([] ∷ []) ∷ ([] ∷ []) ∷ ([] ∷ []) ∷ ([] ∷ []) ∷ []); wraps = None; role = roles.Own; ident = Some (record { «package» = (codes "main"); receiver = []; name = (codes "main") }); has_env = false; external = None }

abbrev pub function_2 : Function
function_2 = record { name = (codes "main.main$1"); at = (at 5 7); entry = 16; exit = 21; leave = 22; params = 1; results = 0; registers = (([] ∷ []) ∷ ([] ∷ []) ∷ ([] ∷ []) ∷ ([] ∷ []) ∷ []); wraps = None; role = roles.Own; ident = None; has_env = true; external = None }

abbrev pub code : Code
code = record {
  functions = (function_0 ∷ function_1 ∷ function_2 ∷ []);
  instrs = (record { kind = (kinds.Goto 1); at = (at 3 6); tags = [] } ∷
      record { kind = (kinds.Branch (2 ∷ [])); at = (at 3 6); tags = [] } ∷
      record { kind = (kinds.Call [] (callees.Static 1) []); at = (at 3 6); tags = [] } ∷
      record { kind = kinds.RunDefers; at = (at 3 6); tags = [] } ∷
      record { kind = (kinds.Leave []); at = (at 3 6); tags = [] } ∷
      record { kind = (kinds.Goto 6); at = (at 3 6); tags = [] } ∷
      record { kind = (kinds.New 0 0); at = (at 4 2); tags = [] } ∷
      record { kind = (kinds.Op 1 []); at = (at 4 7); tags = [] } ∷
      record { kind = (kinds.Write 0 1); at = (at 4 2); tags = [] } ∷
      record { kind = (kinds.New 3 1); at = (at 5 7); tags = [] } ∷
      record { kind = (kinds.Step 4 3 (paths.Capture 0 ∷ [])); at = (at 5 7); tags = [] } ∷
      record { kind = (kinds.Write 4 0); at = (at 5 7); tags = [] } ∷
      record { kind = (kinds.Move 2 3 []); at = (at 5 2); tags = [] } ∷
      record { kind = (kinds.Call [] (callees.Value 2) []); at = (at 6 2); tags = [] } ∷
      record { kind = kinds.RunDefers; at = (at 7 1); tags = [] } ∷
      record { kind = (kinds.Leave []); at = (at 7 1); tags = [] } ∷
      record { kind = (kinds.Goto 17); at = (at 5 7); tags = [] } ∷
      record { kind = (kinds.Step 1 0 (paths.Capture 0 ∷ [])); at = (at 5 7); tags = [] } ∷
      record { kind = (kinds.Read 2 1 ([] ∷ [])); at = (at 5 7); tags = [] } ∷
      record { kind = (kinds.Op 3 []); at = (at 5 20); tags = [] } ∷
      record { kind = (kinds.Write 2 3); at = (at 5 16); tags = [] } ∷
      record { kind = kinds.RunDefers; at = (at 5 24); tags = [] } ∷
      record { kind = (kinds.Leave []); at = (at 5 24); tags = [] } ∷ []);
  sites = (record { place = 6; result = 0; leaf = 0; shape = ([] ∷ []); dynamic = 22; function = None } ∷
      record { place = 9; result = 0; leaf = 0; shape = ((paths.Capture 0 ∷ []) ∷ []); dynamic = 31; function = (Some 2) } ∷ []);
  globals = [];
  methods = [];
  implements = [];
  files = codes "main.go" ∷ [];
}

abbrev pub order : List Origin
order = (OfEntry ∷ OfText 2 ∷ OfText 16 ∷ [])

abbrev pub finished : Finished
finished = record { code = code; number = number_in order; places = (1 ∷ 1 ∷ 2 ∷ 6 ∷ 14 ∷ 17 ∷ 21 ∷ []); notes = [] }

-- the code of each of its functions is what its script does
abbrev pub IsSaid : ℕ → Origin → List ℕ → At → At → Type 0
IsSaid g o rs a b = Says (row typed) finished g (root_node o) (script_of typed order o) rs a b

abbrev pub IsLowered : Type 0
IsLowered =
    IsSaid 0 (OfEntry) [] (point 0 0 0 0 0 (replicate 47 0 ++ [])) (point 5 3 0 0 0 (replicate 47 0 ++ []))
    × IsSaid 1 (OfText 2) [] (point 5 3 0 0 0 (replicate 47 0 ++ [])) (point 16 5 5 2 0 (replicate 46 0 ++ (2 ∷ [])))
    × IsSaid 2 (OfText 16) [] (point 16 5 0 2 0 (replicate 46 0 ++ (2 ∷ []))) (point 23 7 4 2 0 (replicate 45 0 ++ (2 ∷ 2 ∷ [])))

-- and its functions have the names, the places and the counts that they have
abbrev pub IsNamed : Type 0
IsNamed =
    (map (printed_name typed) order ≡ map (λ (f : Function). f.name) code.functions)
    × (map (function_position typed) order ≡ map (λ (f : Function). f.at) code.functions)
    × (map (param_count typed) order ≡ map (λ (f : Function). f.params) code.functions)
    × (map (result_count typed) order ≡ map (λ (f : Function). f.results) code.functions)
