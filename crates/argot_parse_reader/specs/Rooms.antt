-- How many steps, one inside another, are enough for what is still to be read.
use Rattle.std.specs.Prelude.{ℕ, ◌+◌, ◌-◌, ◌*◌, List, length}
use Rattle.argot_tree.specs.declared.token.Token.{Token}
use Rattle.argot_tree.specs.Grammar.{Part, OnlyType, AnyType, Embedded, MaybeTag, Elems, Params, Signature, Names, Field, Fields, Element, Elements, NamedList, Types, Operand, Primary, Unary, Level, Either, Exprs, Eithers, Value, Item, Items, Block, Balanced, File, Imports, Import, Specs, Spec, Tops, Top, Receiver, MaybeReceiver, MaybeTypeParams, MaybeBody, Decl, Declared, DeclaredList, MaybeTyped, MaybeValues, TypeParams, Stmts, Stmt, Simple, MaybeLabel, If, Cases, Case, Comms, Comm, MaybeCondition, MaybePost}

-- 32 for each token, and some for the parts that begin at one place; a loop needs none of these
abbrev pub room : List Token → ℕ → ℕ → ℕ
room tokens at rank = 32 * (length tokens - at) + rank

-- a part's rank is above the rank of each part that it may begin with
abbrev pub rank : Part → ℕ
rank OnlyType = 1
rank Embedded = 1
rank MaybeTag = 1
rank Elems = 1
rank (Params dots) = 1
rank Names = 1
rank (NamedList dots) = 1
rank Block = 1
rank Balanced = 1
rank AnyType = 2
rank Signature = 2
rank Field = 2
rank Element = 2
rank (Operand bare) = 2
rank Fields = 3
rank Elements = 3
rank (Types dots) = 3
rank (Primary bare) = 3
rank (Unary bare) = 4
rank (Level k bare) = 5
rank Either = 5
rank (Exprs bare) = 6
rank Eithers = 6
rank Value = 6
rank Item = 7
rank Items = 8
rank TypeParams = 1
rank MaybeTypeParams = 2
rank MaybeBody = 2
rank Receiver = 1
rank MaybeReceiver = 2
rank MaybeValues = 1
rank MaybeTyped = 3
rank (Declared sort) = 2
rank (DeclaredList sort) = 3
rank Decl = 1
rank MaybeLabel = 1
rank MaybeCondition = 6
rank (Simple bare) = 6
rank MaybePost = 7
rank If = 1
rank Case = 1
rank Cases = 2
rank Comm = 1
rank Comms = 2
rank Stmt = 7
rank Stmts = 8
rank Spec = 1
rank Specs = 2
rank Import = 1
rank Imports = 2
rank Top = 2
rank Tops = 3
rank File = 1
rank _ = 0
