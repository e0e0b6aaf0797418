-- Types, signatures, parameters, fields and elements of interfaces that are read are spelled.
use Rattle.std.proofs.Common.{◌≡◌, ℕ, ◌+◌, List, ◌++◌, length, Bool, true, false, ◌&&◌, cond, Option, Some, refl, ap, ◌∙◌}
use Rattle.std.proofs.lemmas.Bool.{and_parts, false≢true}
use Rattle.argot_tree.specs.declared.keyword.Keyword.TheVariants as words
use Rattle.argot_tree.specs.declared.mark.Mark.{Mark}
use Rattle.argot_tree.specs.declared.mark.Mark.TheVariants as marks
use Rattle.argot_tree.specs.declared.node_kind.NodeKind.TheVariants as nodes
use Rattle.argot_tree.specs.declared.token.TokenKind.{TokenKind}
use Rattle.argot_tree.specs.declared.token.TokenKind.TheVariants as kinds
use Rattle.argot_tree.specs.declared.token.Token.{Token}
use Rattle.argot_tree.specs.Forests.{Forest, leaf, beside, one}
use Rattle.argot_tree.specs.TokensAt.{kind_at, HasAt, HasMark, HasWord, Fails, is_semicolon, is_text, is_star, is_arrow, is_open_paren, begins_type}
use Rattle.argot_tree.specs.Grammar.{AnyType, OnlyType, Signature, Params, Types, NamedList, Fields, Field, Embedded, MaybeTag, Elements, Element, Names, Level, Spells, last_name, one_name, no_result, results, result, no_params, params, named_params, last_param, one_param, variadic_param, last_named, one_named, lone_named, variadic_named, type_name, qualified_type, type_parens, pointer_type, array_type, slice_type, map_type, chan_type, send_type, receive_type, func_type, struct_type, interface_type, formed_type, no_field, last_field, one_field, named_field, embedded_field, embedded_pointer, embedded_name, embedded_qualified, no_tag, a_tag, no_element, last_element, one_element, method, embedded_type}
use Rattle.argot_parse_reader.specs.declared.post.Post.{Post}
use Rattle.argot_parse_reader.specs.Posts.{posts}
use Rattle.argot_parse_reader.specs.Reading.{The, Reader, ◌>>=◌, closed, put, closing, is_kind, is_at, is_word, is_mark, past, goes_on, names_then}
use Rattle.argot_parse_reader.specs.TypeReader.{begins_parameter, is_dotted, named_type_by, embedded_by, tag_by, type_by, array_by, bracketed_by, map_by, chan_by, receive_by, struct_by, interface_by, formed_by, signature_by, listed_by, params_by, types_by, named_entry_by, named_list_by, names_by, named_field_by, field_by, fields_by, element_by, elements_by}
use Rattle.argot_parse_reader.proofs.TokenTests.{has_at, has_word, has_mark, passes, fails}
use Rattle.argot_parse_reader.proofs.PostLaws.{closed_posts, put_posts, joined}
use Rattle.argot_parse_reader.proofs.Holding.{Holds, none, given, bind, regroup, weaken, choose, choose_then}
use Rattle.argot_parse_reader.proofs.SoundReads.{Has, IsSound, node, bare, nothing, then, last, must, must_list}
use Rattle.argot_parse_reader.proofs.SoundStatements.{names_node_sound}

dotted : {tokens : List Token} (at : ℕ) → is_dotted tokens at ≡ true → HasMark tokens (at + 1) marks.Dot × HasAt tokens (at + 2) kinds.Name
dotted {tokens} at e =
    let p = and_parts (is_mark tokens (at + 1) marks.Dot) (is_at tokens (at + 2) kinds.Name) e in
    (has_mark (at + 1) marks.Dot p.0, has_at (at + 2) kinds.Name p.1)

-- a type name, as a type and as what is embedded
abbrev pub HasTypeName : List Token → ℕ → List Post → ℕ → List Post → Type 0
HasTypeName tokens at out to new = (x : Forest) × Spells tokens AnyType x at to × Spells tokens Embedded x at to × (new ≡ out ++ posts x)

pub named_type_sound : {tokens : List Token} (at : ℕ) (out : List Post) → HasAt tokens at kinds.Name → Holds (HasTypeName tokens at out) (named_type_by tokens at out)
named_type_sound {tokens} at out n =
    choose (is_dotted tokens at)
    (λ e. let d = dotted at e in given (one nodes.QualifiedType at (at + 3) leaf, qualified_type n d.0 d.1, embedded_qualified n d.0 d.1, put_posts nodes.QualifiedType at (at + 3) out))
    (λ _. given (one nodes.TypeName at (at + 1) leaf, type_name n, embedded_name n, put_posts nodes.TypeName at (at + 1) out))

pub embedded_sound : {tokens : List Token} (at : ℕ) (out : List Post) → Holds (Has tokens Embedded at out) (embedded_by tokens at out)
embedded_sound {tokens} at out =
    choose (is_at tokens at kinds.Name) (λ e. weaken (named_type_by tokens at out) (named_type_sound at out (has_at at kinds.Name e)) (λ to new h. (h.0, h.2, h.3))) (λ _. none)

-- no other token stands there
mark_fails : {tokens : List Token} {at : ℕ} (test : Option TokenKind → Bool) (mark : Mark) → HasMark tokens at mark → test (Some (kinds.Mark mark)) ≡ false → Fails tokens test at
mark_fails test mark h e = record { there = ap test h.there ∙ e }

word_fails : {tokens : List Token} {at : ℕ} (test : Option TokenKind → Bool) → (kind : TokenKind) → kind_at tokens at ≡ Some kind → test (Some kind) ≡ false → Fails tokens test at
word_fails test kind h e = record { there = ap test h ∙ e }

star_is : (found : Option TokenKind) → is_kind found (kinds.Mark marks.Star) ≡ false → is_star found ≡ false
star_is (Some (kinds.Mark marks.Star)) e = e
star_is _ e = refl

arrow_is : (found : Option TokenKind) → is_kind found (kinds.Mark marks.Arrow) ≡ false → is_arrow found ≡ false
arrow_is (Some (kinds.Mark marks.Arrow)) e = e
arrow_is _ e = refl

paren_is : (found : Option TokenKind) → is_kind found (kinds.Mark marks.OpenParen) ≡ false → is_open_paren found ≡ false
paren_is (Some (kinds.Mark marks.OpenParen)) e = e
paren_is _ e = refl

pub type_sound : {tokens : List Token} {rec : Reader} → IsSound tokens rec → (at : ℕ) (out : List Post) → Holds (Has tokens AnyType at out) (type_by tokens rec at out)
type_sound {tokens} {rec} g at out =
    choose (is_at tokens at kinds.Name) (λ e. weaken (named_type_by tokens at out) (named_type_sound at out (has_at at kinds.Name e)) (λ to new h. (h.0, h.1, h.3)))
    (λ _. choose (is_mark tokens at marks.OpenParen)
    (λ e. regroup (rec (The AnyType) (at + 1) out) _ _ (then g AnyType (at + 1) out (λ r h. must marks.CloseParen r _ (λ c. given (node nodes.TypeParens at out (type_parens (has_mark at marks.OpenParen e) h.1 c) h.2)))))
    (λ _. choose (is_mark tokens at marks.Star)
    (λ e. then g AnyType (at + 1) out (λ r h. given (node nodes.PointerType at out (pointer_type (has_mark at marks.Star e) h.1) h.2)))
    (λ e. last g OnlyType at out (λ to new h. (h.0, formed_type (fails (star_is (kind_at tokens at) e)) h.1, h.2)))))

array_sound : {tokens : List Token} {rec : Reader} → IsSound tokens rec → (at : ℕ) (out : List Post) → HasMark tokens at marks.OpenBracket → Holds (Has tokens OnlyType at out) (array_by tokens rec at out)
array_sound {tokens} {rec} g at out o =
    regroup (rec (The (Level 1 true)) (at + 1) out >>= past tokens marks.CloseBracket) _ _ (regroup (rec (The (Level 1 true)) (at + 1) out) _ _
    (then g (Level 1 true) (at + 1) out (λ r h. must marks.CloseBracket r _ (λ c. then g AnyType (r.0 + 1) r.1 (λ q k. given (node nodes.ArrayType at out (array_type o h.1 c k.1) (joined out r.1 q.1 h.0 k.0 h.2 k.2)))))))

bracketed_sound : {tokens : List Token} {rec : Reader} → IsSound tokens rec → (at : ℕ) (out : List Post) → HasMark tokens at marks.OpenBracket → Holds (Has tokens OnlyType at out) (bracketed_by tokens rec at out)
bracketed_sound {tokens} {rec} g at out o =
    choose (is_mark tokens (at + 1) marks.CloseBracket)
    (λ e. then g AnyType (at + 2) out (λ r h. given (node nodes.SliceType at out (slice_type o (has_mark (at + 1) marks.CloseBracket e) h.1) h.2)))
    (λ _. array_sound g at out o)

map_sound : {tokens : List Token} {rec : Reader} → IsSound tokens rec → (at : ℕ) (out : List Post) → HasWord tokens at words.Map → Holds (Has tokens OnlyType at out) (map_by tokens rec at out)
map_sound {tokens} {rec} g at out w =
    choose (is_mark tokens (at + 1) marks.OpenBracket)
    (λ e. regroup (rec (The AnyType) (at + 2) out >>= past tokens marks.CloseBracket) _ _ (regroup (rec (The AnyType) (at + 2) out) _ _
    (then g AnyType (at + 2) out (λ r h. must marks.CloseBracket r _ (λ c. then g AnyType (r.0 + 1) r.1 (λ q k. given (node nodes.MapType at out (map_type w (has_mark (at + 1) marks.OpenBracket e) h.1 c k.1) (joined out r.1 q.1 h.0 k.0 h.2 k.2))))))))
    (λ _. none)

chan_sound : {tokens : List Token} {rec : Reader} → IsSound tokens rec → (at : ℕ) (out : List Post) → HasWord tokens at words.Chan → Holds (Has tokens OnlyType at out) (chan_by tokens rec at out)
chan_sound {tokens} {rec} g at out w =
    choose (is_mark tokens (at + 1) marks.Arrow)
    (λ e. then g AnyType (at + 2) out (λ r h. given (node nodes.SendType at out (send_type w (has_mark (at + 1) marks.Arrow e) h.1) h.2)))
    (λ e. then g AnyType (at + 1) out (λ r h. given (node nodes.ChanType at out (chan_type w (fails (arrow_is (kind_at tokens (at + 1)) e)) h.1) h.2)))

receive_sound : {tokens : List Token} {rec : Reader} → IsSound tokens rec → (at : ℕ) (out : List Post) → HasMark tokens at marks.Arrow → Holds (Has tokens OnlyType at out) (receive_by tokens rec at out)
receive_sound {tokens} {rec} g at out a =
    choose (is_word tokens (at + 1) words.Chan)
    (λ e. then g AnyType (at + 2) out (λ r h. given (node nodes.ReceiveType at out (receive_type a (has_word (at + 1) words.Chan e) h.1) h.2)))
    (λ _. none)

struct_sound : {tokens : List Token} {rec : Reader} → IsSound tokens rec → (at : ℕ) (out : List Post) → HasWord tokens at words.Struct → Holds (Has tokens OnlyType at out) (struct_by tokens rec at out)
struct_sound {tokens} {rec} g at out w =
    choose (is_mark tokens (at + 1) marks.OpenBrace)
    (λ e. regroup (rec (The Fields) (at + 2) out) _ _ (then g Fields (at + 2) out (λ r h. must marks.CloseBrace r _ (λ c. given (node nodes.StructType at out (struct_type w (has_mark (at + 1) marks.OpenBrace e) h.1 c) h.2)))))
    (λ _. none)

interface_sound : {tokens : List Token} {rec : Reader} → IsSound tokens rec → (at : ℕ) (out : List Post) → HasWord tokens at words.Interface → Holds (Has tokens OnlyType at out) (interface_by tokens rec at out)
interface_sound {tokens} {rec} g at out w =
    choose (is_mark tokens (at + 1) marks.OpenBrace)
    (λ e. regroup (rec (The Elements) (at + 2) out) _ _ (then g Elements (at + 2) out (λ r h. must marks.CloseBrace r _ (λ c. given (node nodes.InterfaceType at out (interface_type w (has_mark (at + 1) marks.OpenBrace e) h.1 c) h.2)))))
    (λ _. none)

pub formed_sound : {tokens : List Token} {rec : Reader} → IsSound tokens rec → (at : ℕ) (out : List Post) → Holds (Has tokens OnlyType at out) (formed_by tokens rec at out)
formed_sound {tokens} {rec} g at out =
    choose (is_mark tokens at marks.OpenBracket) (λ e. bracketed_sound g at out (has_mark at marks.OpenBracket e))
    (λ _. choose (is_word tokens at words.Map) (λ e. map_sound g at out (has_word at words.Map e))
    (λ _. choose (is_word tokens at words.Chan) (λ e. chan_sound g at out (has_word at words.Chan e))
    (λ _. choose (is_mark tokens at marks.Arrow) (λ e. receive_sound g at out (has_mark at marks.Arrow e))
    (λ _. choose (is_word tokens at words.Func)
    (λ e. then g Signature (at + 1) out (λ r h. given (node nodes.FuncType at out (func_type (has_word at words.Func e) h.1) h.2)))
    (λ _. choose (is_word tokens at words.Struct) (λ e. struct_sound g at out (has_word at words.Struct e))
    (λ _. choose (is_word tokens at words.Interface) (λ e. interface_sound g at out (has_word at words.Interface e))
    (λ _. none)))))))

pub signature_sound : {tokens : List Token} {rec : Reader} → IsSound tokens rec → (at : ℕ) (out : List Post) → Holds (Has tokens Signature at out) (signature_by tokens rec at out)
signature_sound {tokens} {rec} g at out =
    regroup (rec (The (Params true)) at out) _ _ (then g (Params true) at out (λ r h.
    choose_then (is_mark tokens r.0 marks.OpenParen) _ _ _
    (λ _. then g (Params false) r.0 r.1 (λ q k. given (node nodes.Signature at out (results h.1 k.1) (joined out r.1 q.1 h.0 k.0 h.2 k.2))))
    (λ o. choose_then (begins_type (kind_at tokens r.0)) _ _ _
    (λ _. then g AnyType r.0 r.1 (λ q k. given (node nodes.Signature at out (result h.1 (fails (paren_is (kind_at tokens r.0) o)) k.1) (joined out r.1 q.1 h.0 k.0 h.2 k.2))))
    (λ e. given (node nodes.Signature at out (no_result h.1 (fails e)) h.2)))))

listed_sound : {tokens : List Token} {rec : Reader} → IsSound tokens rec → (dots : Bool) (at : ℕ) (out : List Post) → HasMark tokens at marks.OpenParen → Holds (Has tokens (Params dots) at out) (listed_by tokens rec dots at out)
listed_sound {tokens} {rec} g dots at out o =
    choose (names_then tokens begins_parameter (at + 1))
    (λ _. regroup (rec (The (NamedList dots)) (at + 1) out) _ _ (then g (NamedList dots) (at + 1) out (λ r h. must_list marks.CloseParen r _ (λ to m c. given (node nodes.NamedParams at out (named_params o h.1 m c) h.2)))))
    (λ _. regroup (rec (The (Types dots)) (at + 1) out) _ _ (then g (Types dots) (at + 1) out (λ r h. must_list marks.CloseParen r _ (λ to m c. given (node nodes.Params at out (params o h.1 m c) h.2)))))

pub params_sound : {tokens : List Token} {rec : Reader} → IsSound tokens rec → (dots : Bool) (at : ℕ) (out : List Post) → Holds (Has tokens (Params dots) at out) (params_by tokens rec dots at out)
params_sound {tokens} {rec} g dots at out =
    choose (is_mark tokens at marks.OpenParen)
    (λ e. let o = has_mark at marks.OpenParen e in
    choose (is_mark tokens (at + 1) marks.CloseParen) (λ c. given (bare nodes.Params at out (no_params o (has_mark (at + 1) marks.CloseParen c)))) (λ _. listed_sound g dots at out o))
    (λ _. none)

pub goes_on_by : {tokens : List Token} (closer : Mark) (at : ℕ) → goes_on tokens closer at ≡ true → HasMark tokens at marks.Comma
goes_on_by {tokens} closer at e =
    let p = and_parts (is_mark tokens at marks.Comma) (cond (is_mark tokens (at + 1) closer) false true) e in
    has_mark at marks.Comma p.0

variadic : {tokens : List Token} (dots : Bool) {x : Forest} {from to : ℕ} → dots ≡ true → HasMark tokens from marks.Ellipsis → Spells tokens AnyType x (from + 1) to → Spells tokens (Types dots) (one nodes.VariadicParam from to x) from to
variadic true h e s = variadic_param e s
variadic false h e s = absurd (false≢true h)

named_variadic_is : {tokens : List Token} (dots : Bool) {x : Forest} {from to : ℕ} → dots ≡ true → HasAt tokens from kinds.Name → HasMark tokens (from + 1) marks.Ellipsis → Spells tokens AnyType x (from + 2) to → Spells tokens (NamedList dots) (one nodes.NamedVariadic from to (beside (one nodes.DeclName from (from + 1) leaf) x)) from to
named_variadic_is true h n e s = variadic_named n e s
named_variadic_is false h n e s = absurd (false≢true h)

pub types_sound : {tokens : List Token} {rec : Reader} → IsSound tokens rec → (dots : Bool) (at : ℕ) (out : List Post) → Holds (Has tokens (Types dots) at out) (types_by tokens rec dots at out)
types_sound {tokens} {rec} g dots at out =
    choose (dots && is_mark tokens at marks.Ellipsis)
    (λ e. let p = and_parts dots (is_mark tokens at marks.Ellipsis) e in
    then g AnyType (at + 1) out (λ r h. given (node nodes.VariadicParam at out (variadic dots p.0 (has_mark at marks.Ellipsis p.1) h.1) h.2)))
    (λ _. regroup (rec (The AnyType) at out) _ _ (then g AnyType at out (λ r h.
    let entry : List Post = closed nodes.Param at r.0 (length out) r.1 in
    let entry_is : entry ≡ out ++ posts (one nodes.Param at r.0 h.0) = closed_posts nodes.Param at r.0 (length out) out r.1 h.0 h.2 refl in
    choose (goes_on tokens marks.CloseParen r.0)
    (λ e. last g (Types dots) (r.0 + 1) entry (λ to new k. (beside (one nodes.Param at r.0 h.0) k.0, one_param h.1 (goes_on_by marks.CloseParen r.0 e) k.1, joined out entry new (one nodes.Param at r.0 h.0) k.0 entry_is k.2)))
    (λ _. given (one nodes.Param at r.0 h.0, last_param h.1, entry_is)))))

named_entry_sound : {tokens : List Token} {rec : Reader} → IsSound tokens rec → (dots : Bool) (at : ℕ) (out : List Post) → HasAt tokens at kinds.Name → Holds (Has tokens (NamedList dots) at out) (named_entry_by tokens rec dots at out (put nodes.DeclName at (at + 1) out))
named_entry_sound {tokens} {rec} g dots at out n =
    let name : Forest = one nodes.DeclName at (at + 1) leaf in
    let named : List Post = put nodes.DeclName at (at + 1) out in
    let named_is : named ≡ out ++ posts name = put_posts nodes.DeclName at (at + 1) out in
    choose (is_mark tokens (at + 1) marks.Comma)
    (λ e. let alone : List Post = closed nodes.LoneParam at (at + 1) (length out) named in
    last g (NamedList dots) (at + 2) alone (λ to new k. (beside (one nodes.LoneParam at (at + 1) name) k.0, lone_named n (has_mark (at + 1) marks.Comma e) k.1, joined out alone new (one nodes.LoneParam at (at + 1) name) k.0 (closed_posts nodes.LoneParam at (at + 1) (length out) out named name named_is refl) k.2)))
    (λ _. choose (dots && is_mark tokens (at + 1) marks.Ellipsis)
    (λ e. let p = and_parts dots (is_mark tokens (at + 1) marks.Ellipsis) e in
    then g AnyType (at + 2) named (λ r h. given (node nodes.NamedVariadic at out (named_variadic_is dots p.0 n (has_mark (at + 1) marks.Ellipsis p.1) h.1) (joined out named r.1 name h.0 named_is h.2))))
    (λ _. regroup (rec (The AnyType) (at + 1) named) _ _ (then g AnyType (at + 1) named (λ r h.
    let tree : Forest = one nodes.NamedParam at r.0 (beside name h.0) in
    let entry : List Post = closed nodes.NamedParam at r.0 (length out) r.1 in
    let entry_is : entry ≡ out ++ posts tree = closed_posts nodes.NamedParam at r.0 (length out) out r.1 (beside name h.0) (joined out named r.1 name h.0 named_is h.2) refl in
    choose (goes_on tokens marks.CloseParen r.0)
    (λ e. last g (NamedList dots) (r.0 + 1) entry (λ to new k. (beside tree k.0, one_named n h.1 (goes_on_by marks.CloseParen r.0 e) k.1, joined out entry new tree k.0 entry_is k.2)))
    (λ _. given (tree, last_named n h.1, entry_is))))))

pub named_list_sound : {tokens : List Token} {rec : Reader} → IsSound tokens rec → (dots : Bool) (at : ℕ) (out : List Post) → Holds (Has tokens (NamedList dots) at out) (named_list_by tokens rec dots at out)
named_list_sound {tokens} {rec} g dots at out =
    choose (is_at tokens at kinds.Name) (λ e. named_entry_sound g dots at out (has_at at kinds.Name e)) (λ _. none)

pub names_sound : {tokens : List Token} {rec : Reader} → IsSound tokens rec → (at : ℕ) (out : List Post) → Holds (Has tokens Names at out) (names_by tokens rec at out)
names_sound {tokens} {rec} g at out =
    let name : Forest = one nodes.DeclName at (at + 1) leaf in
    let named : List Post = put nodes.DeclName at (at + 1) out in
    choose (is_at tokens at kinds.Name)
    (λ e. choose (is_mark tokens (at + 1) marks.Comma && is_at tokens (at + 2) kinds.Name)
    (λ c. let p = and_parts (is_mark tokens (at + 1) marks.Comma) (is_at tokens (at + 2) kinds.Name) c in
    last g Names (at + 2) named (λ to new k. (beside name k.0, one_name (has_at at kinds.Name e) (has_mark (at + 1) marks.Comma p.0) k.1, joined out named new name k.0 (put_posts nodes.DeclName at (at + 1) out) k.2)))
    (λ _. given (name, last_name (has_at at kinds.Name e), put_posts nodes.DeclName at (at + 1) out)))
    (λ _. none)

pub tag_sound : {tokens : List Token} (at : ℕ) (out : List Post) → Holds (Has tokens MaybeTag at out) (tag_by tokens at out)
tag_sound {tokens} at out =
    choose (is_text (kind_at tokens at)) (λ e. given (bare nodes.Tag at out (a_tag (passes e)))) (λ _. given (nothing at out no_tag))

named_field_sound : {tokens : List Token} {rec : Reader} → IsSound tokens rec → (at : ℕ) (out : List Post) → Holds (Has tokens Field at out) (named_field_by tokens rec at out)
named_field_sound {tokens} {rec} g at out =
    regroup ((rec (The Names) at out >>= closing nodes.Names at out) >>= λ r. rec (The AnyType) r.0 r.1) _ _
    (regroup (rec (The Names) at out >>= closing nodes.Names at out) _ _
    (names_node_sound g at out (λ r h. then g AnyType r.0 r.1 (λ q k. bind (tag_by tokens q.0 q.1) (tag_sound q.0 q.1) (λ s t.
    given (node nodes.Field at out (named_field h.1 k.1 t.1) (joined out r.1 s.1 (one nodes.Names at r.0 h.0) (beside k.0 t.0) h.2 (joined r.1 q.1 s.1 k.0 t.0 k.2 t.2))))))))

pub field_sound : {tokens : List Token} {rec : Reader} → IsSound tokens rec → (at : ℕ) (out : List Post) → Holds (Has tokens Field at out) (field_by tokens rec at out)
field_sound {tokens} {rec} g at out =
    choose (names_then tokens begins_type at) (λ _. named_field_sound g at out)
    (λ _. choose (is_mark tokens at marks.Star)
    (λ e. regroup (embedded_by tokens (at + 1) out) _ _ (bind (embedded_by tokens (at + 1) out) (embedded_sound (at + 1) out) (λ r h. bind (tag_by tokens r.0 r.1) (tag_sound r.0 r.1) (λ q k.
    given (node nodes.EmbeddedPointer at out (embedded_pointer (has_mark at marks.Star e) h.1 k.1) (joined out r.1 q.1 h.0 k.0 h.2 k.2))))))
    (λ _. regroup (embedded_by tokens at out) _ _ (bind (embedded_by tokens at out) (embedded_sound at out) (λ r h. bind (tag_by tokens r.0 r.1) (tag_sound r.0 r.1) (λ q k.
    given (node nodes.EmbeddedField at out (embedded_field h.1 k.1) (joined out r.1 q.1 h.0 k.0 h.2 k.2)))))))

pub fields_sound : {tokens : List Token} {rec : Reader} → IsSound tokens rec → (at : ℕ) (out : List Post) → Holds (Has tokens Fields at out) (fields_by tokens rec at out)
fields_sound {tokens} {rec} g at out =
    choose (is_mark tokens at marks.CloseBrace) (λ _. given (nothing at out no_field))
    (λ _. then g Field at out (λ r h. choose (is_semicolon (kind_at tokens r.0))
    (λ e. last g Fields (r.0 + 1) r.1 (λ to new k. (beside h.0 k.0, one_field h.1 (passes e) k.1, joined out r.1 new h.0 k.0 h.2 k.2)))
    (λ _. choose (is_mark tokens r.0 marks.CloseBrace) (λ e. given (h.0, last_field h.1 (has_mark r.0 marks.CloseBrace e), h.2)) (λ _. none))))

pub element_sound : {tokens : List Token} {rec : Reader} → IsSound tokens rec → (at : ℕ) (out : List Post) → Holds (Has tokens Element at out) (element_by tokens rec at out)
element_sound {tokens} {rec} g at out =
    let name : Forest = one nodes.DeclName at (at + 1) leaf in
    let named : List Post = put nodes.DeclName at (at + 1) out in
    choose (is_at tokens at kinds.Name && is_mark tokens (at + 1) marks.OpenParen)
    (λ e. let p = and_parts (is_at tokens at kinds.Name) (is_mark tokens (at + 1) marks.OpenParen) e in
    then g Signature (at + 1) named (λ r h. given (node nodes.Method at out (method (has_at at kinds.Name p.0) h.1) (joined out named r.1 name h.0 (put_posts nodes.DeclName at (at + 1) out) h.2))))
    (λ _. bind (embedded_by tokens at out) (embedded_sound at out) (λ r h. given (node nodes.EmbeddedType at out (embedded_type h.1) h.2)))

pub elements_sound : {tokens : List Token} {rec : Reader} → IsSound tokens rec → (at : ℕ) (out : List Post) → Holds (Has tokens Elements at out) (elements_by tokens rec at out)
elements_sound {tokens} {rec} g at out =
    choose (is_mark tokens at marks.CloseBrace) (λ _. given (nothing at out no_element))
    (λ _. then g Element at out (λ r h. choose (is_semicolon (kind_at tokens r.0))
    (λ e. last g Elements (r.0 + 1) r.1 (λ to new k. (beside h.0 k.0, one_element h.1 (passes e) k.1, joined out r.1 new h.0 k.0 h.2 k.2)))
    (λ _. choose (is_mark tokens r.0 marks.CloseBrace) (λ e. given (h.0, last_element h.1 (has_mark r.0 marks.CloseBrace e), h.2)) (λ _. none))))
