-- What a lone name stands for.
use Rattle.std.specs.Prelude.{ℕ, List, [], ◌∷◌, ◌++◌, Option, Some, None, if◌then◌else◌, codes}
use Rattle.argot_tree.specs.declared.node_kind.NodeKind.{NodeKind}
use Rattle.argot_tree.specs.declared.node_kind.NodeKind.TheVariants as nodes
use Rattle.argot_check_types.specs.Types.{bool, string, int, int8, int16, int32, int64, uint, uint8, uint16, uint32, uint64, error, basic, any_type}
use Rattle.argot_check_types.specs.Facts.{Append, Cap, Clear, Close, Copy, Delete, Len, Make, Max, Min, New, Panic, Print, Println, Recover}
use Rattle.argot_check_rules.specs.Rows.{At}
use Rattle.argot_check_rules.specs.Names.{Meaning, Declared, DeclaredType, PredeclaredType, AliasType, TruthName, IotaName, NilName, BuiltInName, PackageName, NoMeaning, LeftOut}
use Rattle.argot_check_source.specs.Code.{Code, kind_at, parent_of}
use Rattle.argot_check_source.specs.Names.{is_text, use_of, node_of, predeclared_name}
use Rattle.argot_check_source.specs.Constants.{number_of, list_around}

pub record Predeclared : Type 0 where
  pub name : List ℕ
  pub meaning : Meaning

abbrev pub entry : List ℕ → Meaning → Predeclared
entry name m = record { name = name; meaning = m }

-- the predeclared names, in the order in which they are numbered, where `iota` has this number, if it has one
abbrev pub predeclared_types : List Predeclared
predeclared_types =
    entry (codes "bool") (PredeclaredType (basic bool))
    ∷ entry (codes "string") (PredeclaredType (basic string))
    ∷ entry (codes "int") (PredeclaredType (basic int))
    ∷ entry (codes "int8") (PredeclaredType (basic int8))
    ∷ entry (codes "int16") (PredeclaredType (basic int16))
    ∷ entry (codes "int32") (PredeclaredType (basic int32))
    ∷ entry (codes "int64") (PredeclaredType (basic int64))
    ∷ entry (codes "uint") (PredeclaredType (basic uint))
    ∷ entry (codes "uint8") (PredeclaredType (basic uint8))
    ∷ entry (codes "uint16") (PredeclaredType (basic uint16))
    ∷ entry (codes "uint32") (PredeclaredType (basic uint32))
    ∷ entry (codes "uint64") (PredeclaredType (basic uint64))
    ∷ entry (codes "byte") (PredeclaredType (basic uint8))
    ∷ entry (codes "rune") (PredeclaredType (basic int32))
    ∷ entry (codes "error") (PredeclaredType (basic error))
    ∷ entry (codes "any") (PredeclaredType any_type)
    ∷ entry (codes "float32") LeftOut
    ∷ entry (codes "float64") LeftOut
    ∷ entry (codes "complex64") LeftOut
    ∷ entry (codes "complex128") LeftOut
    ∷ entry (codes "uintptr") LeftOut
    ∷ entry (codes "comparable") LeftOut
    ∷ []

abbrev pub predeclared_values : Option ℕ → List Predeclared
predeclared_values k =
    entry (codes "true") TruthName
    ∷ entry (codes "false") TruthName
    ∷ entry (codes "iota") (IotaName k)
    ∷ entry (codes "nil") NilName
    ∷ []

abbrev pub predeclared_functions : List Predeclared
predeclared_functions =
    entry (codes "append") (BuiltInName Append)
    ∷ entry (codes "cap") (BuiltInName Cap)
    ∷ entry (codes "clear") (BuiltInName Clear)
    ∷ entry (codes "close") (BuiltInName Close)
    ∷ entry (codes "copy") (BuiltInName Copy)
    ∷ entry (codes "delete") (BuiltInName Delete)
    ∷ entry (codes "len") (BuiltInName Len)
    ∷ entry (codes "make") (BuiltInName Make)
    ∷ entry (codes "max") (BuiltInName Max)
    ∷ entry (codes "min") (BuiltInName Min)
    ∷ entry (codes "new") (BuiltInName New)
    ∷ entry (codes "panic") (BuiltInName Panic)
    ∷ entry (codes "print") (BuiltInName Print)
    ∷ entry (codes "println") (BuiltInName Println)
    ∷ entry (codes "recover") (BuiltInName Recover)
    ∷ entry (codes "complex") LeftOut
    ∷ entry (codes "real") LeftOut
    ∷ entry (codes "imag") LeftOut
    ∷ []

abbrev pub predeclared_names : Option ℕ → List Predeclared
predeclared_names k = predeclared_types ++ (predeclared_values k ++ predeclared_functions)

abbrev pub meaning_among : List ℕ → List Predeclared → Meaning
meaning_among name [] = NoMeaning
meaning_among name (p ∷ ps) = if is_text name p.name then p.meaning else meaning_among name ps

-- `iota` has the number of the specification in whose list the name stands, or of that which repeats the list
abbrev pub iota_at : Code → Option ℕ → ℕ → Option ℕ
iota_at c (Some spec) n = Some (number_of c spec)
iota_at c None n = elim (list_around c n) [ None ↦ None | Some spec ↦ Some (number_of c spec) ]

-- a name that a type's specification declares; an import; all else is a variable, a constant or a function
abbrev pub declared_below : ℕ → ℕ → ℕ → NodeKind → Meaning
declared_below d n p nodes.TypeSpec = DeclaredType d
declared_below d n p nodes.AliasSpec = AliasType (At p)
declared_below d n p _ = Declared (At n)

abbrev pub declared_by : Code → ℕ → ℕ → Option ℕ → Meaning
declared_by c d n None = Declared (At n)
declared_by c d n (Some p) = elim (kind_at c p) [ None ↦ Declared (At n) | Some kind ↦ declared_below d n p kind ]

abbrev pub declared_as : Code → ℕ → ℕ → NodeKind → Meaning
declared_as c d n nodes.Spec = PackageName
declared_as c d n nodes.NamedSpec = PackageName
declared_as c d n nodes.DotSpec = PackageName
declared_as c d n nodes.DeclName = declared_by c d n (parent_of c n)
declared_as c d n _ = Declared (At n)

abbrev pub meaning_of_node : Code → ℕ → Option ℕ → Meaning
meaning_of_node c d None = NoMeaning
meaning_of_node c d (Some n) = elim (kind_at c n) [ None ↦ NoMeaning | Some kind ↦ declared_as c d n kind ]

-- the meaning of a declaration, for a name that stands at a node
abbrev pub meaning_of_decl : Code → Option ℕ → ℕ → ℕ → Meaning
meaning_of_decl c copy n d =
    elim (predeclared_name c d) [ None ↦ meaning_of_node c d (node_of c d) | Some name ↦ meaning_among name (predeclared_names (iota_at c copy n)) ]

-- what the name of a node stands for
unfoldable pub meaning_at : Code → Option ℕ → ℕ → Meaning
meaning_at c copy n = elim (use_of c n) [ None ↦ NoMeaning | Some d ↦ meaning_of_decl c copy n d ]
