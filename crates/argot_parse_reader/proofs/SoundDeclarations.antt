-- Declarations that are read are spelled.
use Rattle.std.proofs.Common.{◌≡◌, ℕ, ◌+◌, List, ◌++◌, length, true, ◌&&◌, refl}
use Rattle.std.proofs.lemmas.Bool.{and_parts}
use Rattle.argot_tree.specs.declared.keyword.Keyword.TheVariants as words
use Rattle.argot_tree.specs.declared.mark.Mark.TheVariants as marks
use Rattle.argot_tree.specs.declared.node_kind.NodeKind.TheVariants as nodes
use Rattle.argot_tree.specs.declared.token.TokenKind.TheVariants as kinds
use Rattle.argot_tree.specs.declared.token.Token.{Token}
use Rattle.argot_tree.specs.Forests.{Forest, leaf, beside, one}
use Rattle.argot_tree.specs.TokensAt.{kind_at, HasMark, HasWord, is_semicolon, begins_type, follows_parameter}
use Rattle.argot_tree.specs.Grammar.{Sort, Constant, Variable, TypeSort, AnyType, Exprs, Names, Decl, Declared, DeclaredList, MaybeTyped, MaybeValues, TypeParams, Spells, decl_const, group_const, decl_var, group_var, decl_type, group_type, no_declared, last_declared, one_declared, constants, constants_are, variables_typed, variables_are, untyped, typed, no_values, some_values, type_spec, alias_spec, generic_spec, generic_alias}
use Rattle.argot_parse_reader.specs.declared.post.Post.{Post}
use Rattle.argot_parse_reader.specs.Posts.{posts}
use Rattle.argot_parse_reader.specs.Reading.{The, Reader, ◌>>=◌, put, is_at, is_word, is_mark}
use Rattle.argot_parse_reader.specs.DeclarationReader.{group_kind, decl_kind, values_by, maybe_values_by, maybe_typed_by, constants_by, variables_by, named_type_by, is_generic, type_by, declared_by, declared_behind_by, declared_list_by, sort_by, decl_by}
use Rattle.argot_parse_reader.proofs.TokenTests.{has_at, has_word, has_mark, passes}
use Rattle.argot_parse_reader.proofs.PostLaws.{closed_posts, put_posts, joined}
use Rattle.argot_parse_reader.proofs.Holding.{Holds, none, given, bind, regroup, try, weaken, choose}
use Rattle.argot_parse_reader.proofs.SoundReads.{Has, IsSound, node, nothing, then, last, must, behind_two}
use Rattle.argot_parse_reader.proofs.SoundStatements.{HasNode, names_node_sound}

-- `=` and values
abbrev HasValues : List Token → ℕ → List Post → ℕ → List Post → Type 0
HasValues tokens at out to new =
    (x : Forest) × HasMark tokens at marks.Assign × Spells tokens (Exprs true) x (at + 1) to × (new ≡ out ++ posts (one nodes.Exprs (at + 1) to x))

values_sound : {tokens : List Token} {rec : Reader} → IsSound tokens rec → (r : ℕ × List Post) → Holds (HasValues tokens r.0 r.1) (values_by tokens rec r)
values_sound {tokens} {rec} g r =
    choose (is_mark tokens r.0 marks.Assign)
    (λ e. then g (Exprs true) (r.0 + 1) r.1 (λ q h. given (h.0, has_mark r.0 marks.Assign e, h.1, closed_posts nodes.Exprs (r.0 + 1) q.0 (length r.1) r.1 q.1 h.0 h.2 refl)))
    (λ _. none)

pub maybe_values_sound : {tokens : List Token} {rec : Reader} → IsSound tokens rec → (at : ℕ) (out : List Post) → Holds (Has tokens MaybeValues at out) (maybe_values_by tokens rec at out)
maybe_values_sound {tokens} {rec} g at out =
    try (values_by tokens rec (at, out)) (values_sound g (at, out)) (λ r h. given (one nodes.Exprs (at + 1) r.0 h.0, some_values h.1 h.2, h.3)) (given (nothing at out no_values))

pub maybe_typed_sound : {tokens : List Token} {rec : Reader} → IsSound tokens rec → (at : ℕ) (out : List Post) → Holds (Has tokens MaybeTyped at out) (maybe_typed_by tokens rec at out)
maybe_typed_sound {tokens} {rec} g at out =
    choose (begins_type (kind_at tokens at)) (λ _. last g AnyType at out (λ to new h. (h.0, typed h.1, h.2))) (λ _. given (nothing at out untyped))

-- a type that may be there, `=` and values, behind names
abbrev HasTypedValues : List Token → ℕ → List Post → ℕ → List Post → Type 0
HasTypedValues tokens at out to new =
    (y z : Forest) × (mid : ℕ) × Spells tokens MaybeTyped y at mid × HasMark tokens mid marks.Assign × Spells tokens (Exprs true) z (mid + 1) to × (new ≡ out ++ posts (beside y (one nodes.Exprs (mid + 1) to z)))

constants_sound : {tokens : List Token} {rec : Reader} → IsSound tokens rec → (at : ℕ) (out : List Post) (r : ℕ × List Post) → HasNode tokens Names nodes.Names at out r.0 r.1 → Holds (Has tokens (Declared Constant) at out) (constants_by tokens rec at out r)
constants_sound {tokens} {rec} g at out r h =
    let typed_values : Holds (HasTypedValues tokens r.0 r.1) (rec (The MaybeTyped) r.0 r.1 >>= values_by tokens rec) = then g MaybeTyped r.0 r.1 (λ q k. weaken (values_by tokens rec q) (values_sound g q)
    (λ to new v. (k.0, v.0, q.0, k.1, v.1, v.2, joined r.1 q.1 new k.0 (one nodes.Exprs (q.0 + 1) to v.0) k.2 v.3))) in
    try (rec (The MaybeTyped) r.0 r.1 >>= values_by tokens rec) typed_values
    (λ q k. given (node nodes.ConstSpec at out (constants_are h.1 k.3 k.4 k.5) (joined out r.1 q.1 (one nodes.Names at r.0 h.0) (beside k.0 (one nodes.Exprs (k.2 + 1) q.0 k.1)) h.2 k.6)))
    (given (node nodes.ConstSpec at out (constants h.1) h.2))

variables_sound : {tokens : List Token} {rec : Reader} → IsSound tokens rec → (at : ℕ) (out : List Post) (r : ℕ × List Post) → HasNode tokens Names nodes.Names at out r.0 r.1 → Holds (Has tokens (Declared Variable) at out) (variables_by tokens rec at out r)
variables_sound {tokens} {rec} g at out r h =
    choose (is_mark tokens r.0 marks.Assign)
    (λ _. bind (values_by tokens rec r) (values_sound g r)
    (λ q k. given (node nodes.VarSpec at out (variables_are h.1 k.1 k.2) (joined out r.1 q.1 (one nodes.Names at r.0 h.0) (one nodes.Exprs (r.0 + 1) q.0 k.0) h.2 k.3))))
    (λ _. regroup (rec (The AnyType) r.0 r.1) _ _ (then g AnyType r.0 r.1 (λ q k. then g MaybeValues q.0 q.1 (λ s v. given (node nodes.VarSpec at out (variables_typed h.1 k.1 v.1)
    (joined out r.1 s.1 (one nodes.Names at r.0 h.0) (beside k.0 v.0) h.2 (joined r.1 q.1 s.1 k.0 v.0 k.2 v.2)))))))

-- a declared type behind its name and what parameters it has
named_type_sound : {tokens : List Token} {rec : Reader} → IsSound tokens rec → (at : ℕ) (out : List Post) (r : ℕ × List Post) (whole : Forest → Forest) → ((z : Forest) (new : List Post) → new ≡ r.1 ++ posts z → new ≡ out ++ posts (whole z)) → ((z : Forest) (to : ℕ) → HasMark tokens r.0 marks.Assign → Spells tokens AnyType z (r.0 + 1) to → Spells tokens (Declared TypeSort) (one nodes.AliasSpec at to (whole z)) at to) → ((z : Forest) (to : ℕ) → Spells tokens AnyType z r.0 to → Spells tokens (Declared TypeSort) (one nodes.TypeSpec at to (whole z)) at to) → Holds (Has tokens (Declared TypeSort) at out) (named_type_by tokens rec at out r)
named_type_sound {tokens} {rec} g at out r whole join alias spec =
    choose (is_mark tokens r.0 marks.Assign)
    (λ e. then g AnyType (r.0 + 1) r.1 (λ q h. given (node nodes.AliasSpec at out (alias h.0 q.0 (has_mark r.0 marks.Assign e) h.1) (join h.0 q.1 h.2))))
    (λ _. then g AnyType r.0 r.1 (λ q h. given (node nodes.TypeSpec at out (spec h.0 q.0 h.1) (join h.0 q.1 h.2))))

type_sound : {tokens : List Token} {rec : Reader} → IsSound tokens rec → (at : ℕ) (out : List Post) → Holds (Has tokens (Declared TypeSort) at out) (type_by tokens rec at out)
type_sound {tokens} {rec} g at out =
    let name : Forest = one nodes.DeclName at (at + 1) leaf in
    let named : List Post = put nodes.DeclName at (at + 1) out in
    let named_is : named ≡ out ++ posts name = put_posts nodes.DeclName at (at + 1) out in
    choose (is_at tokens at kinds.Name)
    (λ e. let n = has_at at kinds.Name e in
    choose (is_generic tokens at)
    (λ c. let p = and_parts (is_mark tokens (at + 1) marks.OpenBracket) (is_at tokens (at + 2) kinds.Name && follows_parameter (kind_at tokens (at + 3))) c in
    let f = and_parts (is_at tokens (at + 2) kinds.Name) (follows_parameter (kind_at tokens (at + 3))) p.1 in
    then g TypeParams (at + 1) named (λ r h. named_type_sound g at out r (λ z. beside name (beside h.0 z))
    (λ z new k. joined out named new name (beside h.0 z) named_is (joined named r.1 new h.0 z h.2 k))
    (λ z to a t. generic_alias n (passes f.1) h.1 a t) (λ z to t. generic_spec n (passes f.1) h.1 t)))
    (λ _. named_type_sound g at out (at + 1, named) (λ z. beside name z) (λ z new k. joined out named new name z named_is k)
    (λ z to a t. alias_spec n a (behind_two at t)) (λ z to t. type_spec n t)))
    (λ _. none)

pub declared_sound : {tokens : List Token} {rec : Reader} → IsSound tokens rec → (sort : Sort) (at : ℕ) (out : List Post) → Holds (Has tokens (Declared sort) at out) (declared_by tokens rec sort at out)
declared_sound g Constant at out = names_node_sound g at out (λ r h. constants_sound g at out r h)
declared_sound g Variable at out = names_node_sound g at out (λ r h. variables_sound g at out r h)
declared_sound g TypeSort at out = type_sound g at out

declared_behind_sound : {tokens : List Token} {rec : Reader} → IsSound tokens rec → (sort : Sort) (at : ℕ) (out : List Post) (r : ℕ × List Post) → Has tokens (Declared sort) at out r.0 r.1 → Holds (Has tokens (DeclaredList sort) at out) (declared_behind_by tokens rec sort r)
declared_behind_sound {tokens} {rec} g sort at out r h =
    choose (is_semicolon (kind_at tokens r.0))
    (λ e. last g (DeclaredList sort) (r.0 + 1) r.1 (λ to new k. (beside h.0 k.0, one_declared h.1 (passes e) k.1, joined out r.1 new h.0 k.0 h.2 k.2)))
    (λ _. choose (is_mark tokens r.0 marks.CloseParen) (λ e. given (h.0, last_declared h.1 (has_mark r.0 marks.CloseParen e), h.2)) (λ _. none))

pub declared_list_sound : {tokens : List Token} {rec : Reader} → IsSound tokens rec → (sort : Sort) (at : ℕ) (out : List Post) → Holds (Has tokens (DeclaredList sort) at out) (declared_list_by tokens rec sort at out)
declared_list_sound {tokens} {rec} g sort at out =
    choose (is_mark tokens at marks.CloseParen) (λ _. given (nothing at out no_declared))
    (λ _. then g (Declared sort) at out (λ r h. declared_behind_sound g sort at out r h))

-- a keyword of its sort stands before a declaration
abbrev BeginsSort : List Token → Sort → ℕ → Type 0
BeginsSort tokens Constant at = HasWord tokens at words.Const
BeginsSort tokens Variable at = HasWord tokens at words.Var
BeginsSort tokens TypeSort at = HasWord tokens at words.TypeWord

lone : {tokens : List Token} (sort : Sort) {x : Forest} {at to : ℕ} → BeginsSort tokens sort at → Spells tokens (Declared sort) x (at + 1) to → Spells tokens Decl (one (decl_kind sort) at to x) at to
lone Constant w s = decl_const w s
lone Variable w s = decl_var w s
lone TypeSort w s = decl_type w s

grouped : {tokens : List Token} (sort : Sort) {x : Forest} {at to : ℕ} → BeginsSort tokens sort at → HasMark tokens (at + 1) marks.OpenParen → Spells tokens (DeclaredList sort) x (at + 2) to → HasMark tokens to marks.CloseParen → Spells tokens Decl (one (group_kind sort) at (to + 1) x) at (to + 1)
grouped Constant w o s c = group_const w o s c
grouped Variable w o s c = group_var w o s c
grouped TypeSort w o s c = group_type w o s c

sort_sound : {tokens : List Token} {rec : Reader} → IsSound tokens rec → (sort : Sort) (at : ℕ) (out : List Post) → BeginsSort tokens sort at → Holds (Has tokens Decl at out) (sort_by tokens rec sort at out)
sort_sound {tokens} {rec} g sort at out w =
    choose (is_mark tokens (at + 1) marks.OpenParen)
    (λ e. regroup (rec (The (DeclaredList sort)) (at + 2) out) _ _ (then g (DeclaredList sort) (at + 2) out (λ r h. must marks.CloseParen r _ (λ c. given (node (group_kind sort) at out (grouped sort w (has_mark (at + 1) marks.OpenParen e) h.1 c) h.2)))))
    (λ _. then g (Declared sort) (at + 1) out (λ r h. given (node (decl_kind sort) at out (lone sort w h.1) h.2)))

pub decl_sound : {tokens : List Token} {rec : Reader} → IsSound tokens rec → (at : ℕ) (out : List Post) → Holds (Has tokens Decl at out) (decl_by tokens rec at out)
decl_sound {tokens} {rec} g at out =
    choose (is_word tokens at words.Const) (λ e. sort_sound g Constant at out (has_word at words.Const e))
    (λ _. choose (is_word tokens at words.Var) (λ e. sort_sound g Variable at out (has_word at words.Var e))
    (λ _. choose (is_word tokens at words.TypeWord) (λ e. sort_sound g TypeSort at out (has_word at words.TypeWord e)) (λ _. none)))
