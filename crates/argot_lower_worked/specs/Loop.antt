-- A typed program and its plain code:
--   1 package main
--   2
--   3 func main() {
--   4     s := 0
--   5     for i := 0; i < 3; i++ {
--   6         s += i
--   7     }
--   8     _ = s
--   9 }
use Rattle.std.specs.Prelude.{◌≡◌, ℕ, true, false, List, [], ◌∷◌, ◌++◌, map, replicate, pos, Some, None, codes}
use Rattle.argot_consts.specs.declared.constants.Const.TheVariants as consts
use Rattle.argot_tree.specs.declared.keyword.Keyword.TheVariants as words
use Rattle.argot_tree.specs.declared.mark.Mark.TheVariants as marks
use Rattle.argot_tree.specs.declared.node_kind.NodeKind.TheVariants as nodes
use Rattle.argot_tree.specs.declared.token.Token.{Token}
use Rattle.argot_tree.specs.declared.token.TokenKind.TheVariants as tokens
use Rattle.argot_tree.specs.declared.tree.TreeNode.{TreeNode}
use Rattle.argot_typed.specs.declared.program.Decl.{Decl}
use Rattle.argot_typed.specs.declared.program.NodeConst.{NodeConst}
use Rattle.argot_typed.specs.declared.program.NodeType.{NodeType}
use Rattle.argot_typed.specs.declared.program.Use.{Use}
use Rattle.argot_typed.specs.declared.shape.Shape.{Shape}
use Rattle.argot_typed.specs.declared.shape.Shape.TheVariants as shapes
use Rattle.argot_plain.specs.Code.{Code}
use Rattle.argot_plain.specs.declared.functions.Function.{Function}
use Rattle.argot_plain.specs.declared.functions.Role.TheVariants as roles
use Rattle.argot_plain.specs.declared.instructions.Callee.TheVariants as callees
use Rattle.argot_plain.specs.declared.instructions.Kind.TheVariants as kinds
use Rattle.argot_lower_scripts.specs.Says.{Finished, At, Says}
use Rattle.argot_lower_locals.specs.Typed.{Typed}
use Rattle.argot_lower_program.specs.Functions.{Origin, OfEntry, OfText, number_in, root_node, script_of, printed_name, function_position, param_count, result_count}
use Rattle.argot_lower_rows.specs.Table.{row}
use Rattle.argot_lower_worked.specs.Words.{type_id, at, token, node, decl, typed_as, point}

abbrev pub bytes : List ℕ
bytes = (112 ∷ 97 ∷ 99 ∷ 107 ∷ 97 ∷ 103 ∷ 101 ∷ 32 ∷ 109 ∷ 97 ∷ 105 ∷ 110 ∷ 10 ∷ 10 ∷ 102 ∷ 117 ∷ 110 ∷ 99 ∷ 32 ∷ 109 ∷
    97 ∷ 105 ∷ 110 ∷ 40 ∷ 41 ∷ 32 ∷ 123 ∷ 10 ∷ 9 ∷ 115 ∷ 32 ∷ 58 ∷ 61 ∷ 32 ∷ 48 ∷ 10 ∷ 9 ∷ 102 ∷ 111 ∷ 114 ∷ 32 ∷
    105 ∷ 32 ∷ 58 ∷ 61 ∷ 32 ∷ 48 ∷ 59 ∷ 32 ∷ 105 ∷ 32 ∷ 60 ∷ 32 ∷ 51 ∷ 59 ∷ 32 ∷ 105 ∷ 43 ∷ 43 ∷ 32 ∷ 123 ∷ 10 ∷ 9 ∷
    9 ∷ 115 ∷ 32 ∷ 43 ∷ 61 ∷ 32 ∷ 105 ∷ 10 ∷ 9 ∷ 125 ∷ 10 ∷ 9 ∷ 95 ∷ 32 ∷ 61 ∷ 32 ∷ 115 ∷ 10 ∷ 125 ∷ 10 ∷ [])

abbrev pub tokens_of_it : List Token
tokens_of_it = (token (tokens.Word words.Package) 0 7 ∷ token tokens.Name 8 12 ∷ token tokens.Inserted 12 12 ∷
    token (tokens.Word words.Func) 14 18 ∷ token tokens.Name 19 23 ∷ token (tokens.Mark marks.OpenParen) 23 24 ∷
    token (tokens.Mark marks.CloseParen) 24 25 ∷ token (tokens.Mark marks.OpenBrace) 26 27 ∷
    token tokens.Name 29 30 ∷ token (tokens.Mark marks.Define) 31 33 ∷ token tokens.Whole 34 35 ∷
    token tokens.Inserted 35 35 ∷ token (tokens.Word words.For) 37 40 ∷ token tokens.Name 41 42 ∷
    token (tokens.Mark marks.Define) 43 45 ∷ token tokens.Whole 46 47 ∷ token (tokens.Mark marks.Semicolon) 47 48 ∷
    token tokens.Name 49 50 ∷ token (tokens.Mark marks.Less) 51 52 ∷ token tokens.Whole 53 54 ∷
    token (tokens.Mark marks.Semicolon) 54 55 ∷ token tokens.Name 56 57 ∷
    token (tokens.Mark marks.Increment) 57 59 ∷ token (tokens.Mark marks.OpenBrace) 60 61 ∷
    token tokens.Name 64 65 ∷ token (tokens.Mark marks.PlusAssign) 66 68 ∷ token tokens.Name 69 70 ∷
    token tokens.Inserted 70 70 ∷ token (tokens.Mark marks.CloseBrace) 72 73 ∷ token tokens.Inserted 73 73 ∷
    token tokens.Name 75 76 ∷ token (tokens.Mark marks.Assign) 77 78 ∷ token tokens.Name 79 80 ∷
    token tokens.Inserted 80 80 ∷ token (tokens.Mark marks.CloseBrace) 81 82 ∷ token tokens.Inserted 82 82 ∷ [])

abbrev pub tree : List TreeNode
tree = (node nodes.File 0 0 (Some 1) None ∷ node nodes.DeclName 1 1 None (Some 2) ∷
    node nodes.FuncDecl 3 3 (Some 3) None ∷ node nodes.DeclName 4 4 None (Some 4) ∷
    node nodes.Signature 5 5 (Some 5) (Some 6) ∷ node nodes.Params 5 5 None None ∷
    node nodes.Block 7 34 (Some 7) None ∷ node nodes.Define 8 8 (Some 8) (Some 12) ∷
    node nodes.Names 8 8 (Some 9) (Some 10) ∷ node nodes.DeclName 8 8 None None ∷
    node nodes.Exprs 10 10 (Some 11) None ∷ node nodes.Literal 10 10 None None ∷
    node nodes.For 12 12 (Some 13) (Some 31) ∷ node nodes.Init 13 13 (Some 14) (Some 19) ∷
    node nodes.Define 13 13 (Some 15) None ∷ node nodes.Names 13 13 (Some 16) (Some 17) ∷
    node nodes.DeclName 13 13 None None ∷ node nodes.Exprs 15 15 (Some 18) None ∷
    node nodes.Literal 15 15 None None ∷ node nodes.Binary 17 17 (Some 20) (Some 22) ∷
    node nodes.NameUse 17 17 None (Some 21) ∷ node nodes.Literal 19 19 None None ∷
    node nodes.Post 21 21 (Some 23) (Some 25) ∷ node nodes.Increment 21 21 (Some 24) None ∷
    node nodes.NameUse 21 21 None None ∷ node nodes.Block 23 28 (Some 26) None ∷
    node nodes.OpAssign 24 24 (Some 27) None ∷ node nodes.Exprs 24 24 (Some 28) (Some 29) ∷
    node nodes.NameUse 24 24 None None ∷ node nodes.Exprs 26 26 (Some 30) None ∷
    node nodes.NameUse 26 26 None None ∷ node nodes.Assign 30 30 (Some 32) None ∷
    node nodes.Exprs 30 30 (Some 33) (Some 34) ∷ node nodes.NameUse 30 30 None None ∷
    node nodes.Exprs 32 32 (Some 35) None ∷ node nodes.NameUse 32 32 None None ∷ [])

abbrev pub table : List Shape
table = (shapes.Truth ∷ shapes.Chars ∷ shapes.NilShape ∷ shapes.Whole 64 true ∷ shapes.Named 2 (type_id 3) [] ∷
    shapes.Whole 8 true ∷ shapes.Named 3 (type_id 5) [] ∷ shapes.Whole 16 true ∷ shapes.Named 4 (type_id 7) [] ∷
    shapes.Whole 32 true ∷ shapes.Named 5 (type_id 9) [] ∷ shapes.Named 6 (type_id 3) [] ∷ shapes.Whole 64 false ∷
    shapes.Named 7 (type_id 12) [] ∷ shapes.Whole 8 false ∷ shapes.Named 8 (type_id 14) [] ∷ shapes.Whole 16 false ∷
    shapes.Named 9 (type_id 16) [] ∷ shapes.Whole 32 false ∷ shapes.Named 10 (type_id 18) [] ∷
    shapes.Named 11 (type_id 12) [] ∷ shapes.Named 0 (type_id 0) [] ∷ shapes.Named 1 (type_id 1) [] ∷
    shapes.Interface [] ∷ shapes.Func [] ((type_id 22) ∷ []) false ∷ shapes.Named 14 (type_id 26) [] ∷
    shapes.Interface (record { name = (codes "Error"); «package» = None; node = None; pointer = false; of = (type_id 24) } ∷ []) ∷
    shapes.Untyped (type_id 4) ∷ shapes.Untyped (type_id 10) ∷ shapes.Untyped (type_id 22) ∷
    shapes.Untyped (type_id 21) ∷ shapes.Func [] [] false ∷ shapes.Slice (type_id 23) ∷ [])

abbrev pub decls : List Decl
decls = (decl None None (codes "bool") ∷ decl None None (codes "string") ∷ decl None None (codes "int") ∷
    decl None None (codes "int8") ∷ decl None None (codes "int16") ∷ decl None None (codes "int32") ∷
    decl None None (codes "int64") ∷ decl None None (codes "uint") ∷ decl None None (codes "uint8") ∷
    decl None None (codes "uint16") ∷ decl None None (codes "uint32") ∷ decl None None (codes "uint64") ∷
    decl None None (codes "byte") ∷ decl None None (codes "rune") ∷ decl None None (codes "error") ∷
    decl None None (codes "any") ∷ decl None None (codes "float32") ∷ decl None None (codes "float64") ∷
    decl None None (codes "complex64") ∷ decl None None (codes "complex128") ∷ decl None None (codes "uintptr") ∷
    decl None None (codes "comparable") ∷ decl None None (codes "true") ∷ decl None None (codes "false") ∷
    decl None None (codes "iota") ∷ decl None None (codes "nil") ∷ decl None None (codes "append") ∷
    decl None None (codes "cap") ∷ decl None None (codes "clear") ∷ decl None None (codes "close") ∷
    decl None None (codes "copy") ∷ decl None None (codes "delete") ∷ decl None None (codes "len") ∷
    decl None None (codes "make") ∷ decl None None (codes "max") ∷ decl None None (codes "min") ∷
    decl None None (codes "new") ∷ decl None None (codes "panic") ∷ decl None None (codes "print") ∷
    decl None None (codes "println") ∷ decl None None (codes "recover") ∷ decl None None (codes "complex") ∷
    decl None None (codes "real") ∷ decl None None (codes "imag") ∷ decl (Some 0) (Some 3) (codes "main") ∷
    decl (Some 0) (Some 9) (codes "s") ∷ decl (Some 0) (Some 16) (codes "i") ∷ [])

abbrev pub types : List NodeType
types = (typed_as 0 [] ∷ typed_as 1 [] ∷ typed_as 2 [] ∷ typed_as 3 [] ∷ typed_as 4 ((type_id 31) ∷ []) ∷ typed_as 5 [] ∷
    typed_as 6 [] ∷ typed_as 7 [] ∷ typed_as 8 [] ∷ typed_as 9 ((type_id 4) ∷ []) ∷ typed_as 10 [] ∷
    typed_as 11 ((type_id 27) ∷ []) ∷ typed_as 12 [] ∷ typed_as 13 [] ∷ typed_as 14 [] ∷ typed_as 15 [] ∷
    typed_as 16 ((type_id 4) ∷ []) ∷ typed_as 17 [] ∷ typed_as 18 ((type_id 27) ∷ []) ∷
    typed_as 19 ((type_id 30) ∷ []) ∷ typed_as 20 ((type_id 4) ∷ []) ∷ typed_as 21 ((type_id 27) ∷ []) ∷
    typed_as 22 [] ∷ typed_as 23 [] ∷ typed_as 24 ((type_id 4) ∷ []) ∷ typed_as 25 [] ∷ typed_as 26 [] ∷
    typed_as 27 [] ∷ typed_as 28 ((type_id 4) ∷ []) ∷ typed_as 29 [] ∷ typed_as 30 ((type_id 4) ∷ []) ∷
    typed_as 31 [] ∷ typed_as 32 [] ∷ typed_as 33 [] ∷ typed_as 34 [] ∷ typed_as 35 ((type_id 4) ∷ []) ∷ [])

abbrev pub uses : List Use
uses = (record { node = 20; decl = 46 } ∷ record { node = 24; decl = 46 } ∷ record { node = 28; decl = 45 } ∷
    record { node = 30; decl = 46 } ∷ record { node = 35; decl = 45 } ∷ [])

abbrev pub constants : List NodeConst
constants = (record { node = 11; value = consts.Whole (pos 0) } ∷ record { node = 18; value = consts.Whole (pos 0) } ∷
    record { node = 21; value = consts.Whole (pos 3) } ∷ [])

abbrev pub typed : Typed
typed = record {
  files = record { sources = record { paths = codes "main.go" ∷ []; contents = bytes ∷ []; assembly = []; «module» = []; go_line = None }; lexed = record { tokens = tokens_of_it; directives = [] } ∷ []; trees = record { nodes = tree } ∷ [] };
  program = record { table = table; types = types; consts = constants; uses = uses; packages = record { packages = record { path = codes "main"; name = codes "main"; files = 0 ∷ [] } ∷ []; decls = decls; uses = uses } };
  selections = [];
  method_sets = (record { of = 25; methods = (record { steps = []; method = Some (record { holder = 25; method = record { name = (codes "Error"); «package» = None; node = None; pointer = false; of = (type_id 24) } }) } ∷ []) } ∷
      record { of = 26; methods = (record { steps = []; method = Some (record { holder = 26; method = record { name = (codes "Error"); «package» = None; node = None; pointer = false; of = (type_id 24) } }) } ∷ []) } ∷ []);
  ending = [];
}

abbrev pub function_0 : Function
function_0 = record { name = (codes "entry"); at = (at 3 6); entry = 0; exit = 3; leave = 4; params = 0; results = 0; registers = []; wraps = None; role = roles.Own; ident = None; has_env = false; external = None }

abbrev pub function_1 : Function
function_1 = record { name = (codes "main.main"); at = (at 3 6); entry = 5; exit = 18; leave = 19; params = 0; results = 0; registers = (([] ∷ []) ∷ ([] ∷ []) ∷ ([] ∷ []) ∷ ([] ∷ []) ∷ ([] ∷ []) ∷ ([] ∷ []) ∷ ([] ∷ []) ∷ ([] ∷ []) ∷ []); wraps = None; role = roles.Own; ident = Some (record { «package» = (codes "main"); receiver = []; name = (codes "main") }); has_env = false; external = None }

abbrev pub code : Code
code = record {
  functions = (function_0 ∷ function_1 ∷ []);
  instrs = (record { kind = (kinds.Goto 1); at = (at 3 6); tags = [] } ∷
      record { kind = (kinds.Branch (2 ∷ [])); at = (at 3 6); tags = [] } ∷
      record { kind = (kinds.Call [] (callees.Static 1) []); at = (at 3 6); tags = [] } ∷
      record { kind = kinds.RunDefers; at = (at 3 6); tags = [] } ∷
      record { kind = (kinds.Leave []); at = (at 3 6); tags = [] } ∷
      record { kind = (kinds.Goto 6); at = (at 3 6); tags = [] } ∷
      record { kind = (kinds.Op 1 []); at = (at 4 7); tags = [] } ∷
      record { kind = (kinds.Move 0 1 []); at = (at 4 2); tags = [] } ∷
      record { kind = (kinds.Op 3 []); at = (at 5 11); tags = [] } ∷
      record { kind = (kinds.Move 2 3 []); at = (at 5 6); tags = [] } ∷
      record { kind = (kinds.Op 4 []); at = (at 5 18); tags = [] } ∷
      record { kind = (kinds.Op 5 (2 ∷ 4 ∷ [])); at = (at 5 14); tags = [] } ∷
      record { kind = (kinds.Branch (13 ∷ 18 ∷ [])); at = (at 5 2); tags = [] } ∷
      record { kind = (kinds.Op 6 (0 ∷ 2 ∷ [])); at = (at 6 3); tags = [] } ∷
      record { kind = (kinds.Move 0 6 []); at = (at 6 3); tags = [] } ∷
      record { kind = (kinds.Op 7 (2 ∷ [])); at = (at 5 21); tags = [] } ∷
      record { kind = (kinds.Move 2 7 []); at = (at 5 21); tags = [] } ∷
      record { kind = (kinds.Goto 10); at = (at 5 2); tags = [] } ∷
      record { kind = kinds.RunDefers; at = (at 9 1); tags = [] } ∷
      record { kind = (kinds.Leave []); at = (at 9 1); tags = [] } ∷ []);
  sites = [];
  globals = [];
  methods = [];
  implements = [];
  files = codes "main.go" ∷ [];
}

abbrev pub order : List Origin
order = (OfEntry ∷ OfText 2 ∷ [])

abbrev pub finished : Finished
finished = record { code = code; number = number_in order; places = (1 ∷ 1 ∷ 2 ∷ 6 ∷ 18 ∷ 10 ∷ 18 ∷ 13 ∷ 15 ∷ []); notes = [] }

-- the code of each of its functions is what its script does
abbrev pub IsSaid : ℕ → Origin → List ℕ → At → At → Type 0
IsSaid g o rs a b = Says (row typed) finished g (root_node o) (script_of typed order o) rs a b

abbrev pub IsLowered : Type 0
IsLowered =
    IsSaid 0 (OfEntry) [] (point 0 0 0 0 0 (replicate 47 0 ++ [])) (point 5 3 0 0 0 (replicate 47 0 ++ []))
    × IsSaid 1 (OfText 2) [] (point 5 3 0 0 0 (replicate 47 0 ++ [])) (point 20 9 8 0 0 (replicate 46 0 ++ (2 ∷ [])))

-- and its functions have the names, the places and the counts that they have
abbrev pub IsNamed : Type 0
IsNamed =
    (map (printed_name typed) order ≡ map (λ (f : Function). f.name) code.functions)
    × (map (function_position typed) order ≡ map (λ (f : Function). f.at) code.functions)
    × (map (param_count typed) order ≡ map (λ (f : Function). f.params) code.functions)
    × (map (result_count typed) order ≡ map (λ (f : Function). f.results) code.functions)
