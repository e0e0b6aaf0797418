-- Files that are read are spelled: imports, declarations at the top, receivers and type parameters.
use Rattle.std.proofs.Common.{◌≡◌, ℕ, ◌+◌, List, ◌++◌, length, ◌&&◌, refl, sym, ap, ◌∙◌, subst}
use Rattle.std.proofs.lemmas.List.{append-nil}
use Rattle.std.proofs.lemmas.Bool.{and_parts}
use Rattle.argot_tree.specs.declared.keyword.Keyword.TheVariants as words
use Rattle.argot_tree.specs.declared.mark.Mark.{Mark}
use Rattle.argot_tree.specs.declared.mark.Mark.TheVariants as marks
use Rattle.argot_tree.specs.declared.node_kind.NodeKind.TheVariants as nodes
use Rattle.argot_tree.specs.declared.token.TokenKind.TheVariants as kinds
use Rattle.argot_tree.specs.declared.token.Token.{Token}
use Rattle.argot_tree.specs.Forests.{Forest, leaf, beside, one}
use Rattle.argot_tree.specs.TokensAt.{kind_at, HasMark, HasWord, is_semicolon, is_text, is_no_bracket, begins_type}
use Rattle.argot_tree.specs.Grammar.{File, Imports, Import, Specs, Spec, Tops, Top, Receiver, MaybeReceiver, TypeParams, MaybeTypeParams, Balanced, MaybeBody, Decl, Signature, AnyType, Block, Spells, file, no_import, one_import, import_one, import_group, no_spec, last_spec, one_spec, spec, dot_spec, named_spec, no_top, one_top, top_decl, top_func, no_receiver, a_receiver, receiver_type, receiver_named, no_type_params, some_type_params, no_body, a_body, type_params, balanced_none, balanced_token, balanced_parens, balanced_brackets, balanced_braces}
use Rattle.argot_parse_reader.specs.declared.post.Post.{Post}
use Rattle.argot_parse_reader.specs.Posts.{posts}
use Rattle.argot_parse_reader.specs.Reading.{The, Reader, ◌>>=◌, closed, put, closing, is_at, is_word, is_mark, past}
use Rattle.argot_parse_reader.specs.FileReader.{is_end, file_by, imports_by, import_by, specs_behind_by, specs_by, spec_by, tops_by, func_by, top_by, maybe_receiver_by, receiver_by, maybe_type_params_by, type_params_by, in_brackets_by, opens_bracket, balanced_by, maybe_body_by}
use Rattle.argot_parse_reader.proofs.TokenTests.{has_at, has_word, has_mark, passes}
use Rattle.argot_parse_reader.proofs.PostLaws.{closed_posts, put_posts, joined}
use Rattle.argot_parse_reader.proofs.Holding.{Holds, none, given, bind, regroup, choose}
use Rattle.argot_parse_reader.proofs.SoundReads.{Has, IsSound, node, nothing, then, last, must, must_list, must_semicolon}

pub file_sound : {tokens : List Token} {rec : Reader} → IsSound tokens rec → (at : ℕ) (out : List Post) → Holds (Has tokens File at out) (file_by tokens rec at out)
file_sound {tokens} {rec} g at out =
    let name : Forest = one nodes.DeclName (at + 1) (at + 2) leaf in
    let named : List Post = put nodes.DeclName (at + 1) (at + 2) out in
    choose (is_word tokens at words.Package && (is_at tokens (at + 1) kinds.Name && is_semicolon (kind_at tokens (at + 2))))
    (λ e. let p = and_parts (is_word tokens at words.Package) (is_at tokens (at + 1) kinds.Name && is_semicolon (kind_at tokens (at + 2))) e in
    let q = and_parts (is_at tokens (at + 1) kinds.Name) (is_semicolon (kind_at tokens (at + 2))) p.1 in
    regroup (rec (The Imports) (at + 3) named) _ _ (then g Imports (at + 3) named (λ r h. then g Tops r.0 r.1 (λ s k.
    given (node nodes.File at out (file (has_word at words.Package p.0) (has_at (at + 1) kinds.Name q.0) (passes q.1) h.1 k.1)
    (joined out named s.1 name (beside h.0 k.0) (put_posts nodes.DeclName (at + 1) (at + 2) out) (joined named r.1 s.1 h.0 k.0 h.2 k.2)))))))
    (λ _. none)

pub imports_sound : {tokens : List Token} {rec : Reader} → IsSound tokens rec → (at : ℕ) (out : List Post) → Holds (Has tokens Imports at out) (imports_by tokens rec at out)
imports_sound {tokens} {rec} g at out =
    choose (is_word tokens at words.Import)
    (λ _. regroup (rec (The Import) at out) _ _ (then g Import at out (λ r h. must_semicolon r _ (λ s. last g Imports (r.0 + 1) r.1 (λ to new k. (beside h.0 k.0, one_import h.1 s k.1, joined out r.1 new h.0 k.0 h.2 k.2))))))
    (λ _. given (nothing at out no_import))

pub import_sound : {tokens : List Token} {rec : Reader} → IsSound tokens rec → (at : ℕ) (out : List Post) → Holds (Has tokens Import at out) (import_by tokens rec at out)
import_sound {tokens} {rec} g at out =
    choose (is_word tokens at words.Import)
    (λ e. let w = has_word at words.Import e in
    choose (is_mark tokens (at + 1) marks.OpenParen)
    (λ o. regroup (rec (The Specs) (at + 2) out) _ _ (then g Specs (at + 2) out (λ r h. must marks.CloseParen r _ (λ c. given (node nodes.ImportGroup at out (import_group w (has_mark (at + 1) marks.OpenParen o) h.1 c) h.2)))))
    (λ _. then g Spec (at + 1) out (λ r h. given (node nodes.Import at out (import_one w h.1) h.2))))
    (λ _. none)

specs_behind_sound : {tokens : List Token} {rec : Reader} → IsSound tokens rec → (at : ℕ) (out : List Post) (r : ℕ × List Post) → Has tokens Spec at out r.0 r.1 → Holds (Has tokens Specs at out) (specs_behind_by tokens rec r)
specs_behind_sound {tokens} {rec} g at out r h =
    choose (is_semicolon (kind_at tokens r.0))
    (λ e. last g Specs (r.0 + 1) r.1 (λ to new k. (beside h.0 k.0, one_spec h.1 (passes e) k.1, joined out r.1 new h.0 k.0 h.2 k.2)))
    (λ _. choose (is_mark tokens r.0 marks.CloseParen) (λ e. given (h.0, last_spec h.1 (has_mark r.0 marks.CloseParen e), h.2)) (λ _. none))

pub specs_sound : {tokens : List Token} {rec : Reader} → IsSound tokens rec → (at : ℕ) (out : List Post) → Holds (Has tokens Specs at out) (specs_by tokens rec at out)
specs_sound {tokens} {rec} g at out =
    choose (is_mark tokens at marks.CloseParen) (λ _. given (nothing at out no_spec)) (λ _. then g Spec at out (λ r h. specs_behind_sound g at out r h))

pub spec_sound : {tokens : List Token} (at : ℕ) (out : List Post) → Holds (Has tokens Spec at out) (spec_by tokens at out)
spec_sound {tokens} at out =
    choose (is_text (kind_at tokens at))
    (λ e. given (node nodes.Spec at out (spec (passes e)) (put_posts nodes.ImportPath at (at + 1) out)))
    (λ _. choose (is_mark tokens at marks.Dot)
    (λ e. choose (is_text (kind_at tokens (at + 1)))
    (λ t. given (node nodes.DotSpec at out (dot_spec (has_mark at marks.Dot e) (passes t)) (put_posts nodes.ImportPath (at + 1) (at + 2) out)))
    (λ _. none))
    (λ _. choose (is_at tokens at kinds.Name)
    (λ e. choose (is_text (kind_at tokens (at + 1)))
    (λ t. given (node nodes.NamedSpec at out (named_spec (has_at at kinds.Name e) (passes t))
    (joined out (put nodes.DeclName at (at + 1) out) (put nodes.ImportPath (at + 1) (at + 2) (put nodes.DeclName at (at + 1) out)) (one nodes.DeclName at (at + 1) leaf) (one nodes.ImportPath (at + 1) (at + 2) leaf) (put_posts nodes.DeclName at (at + 1) out) (put_posts nodes.ImportPath (at + 1) (at + 2) (put nodes.DeclName at (at + 1) out)))))
    (λ _. none))
    (λ _. none)))

pub tops_sound : {tokens : List Token} {rec : Reader} → IsSound tokens rec → (at : ℕ) (out : List Post) → Holds (Has tokens Tops at out) (tops_by tokens rec at out)
tops_sound {tokens} {rec} g at out =
    choose (is_end (kind_at tokens at)) (λ _. given (nothing at out no_top))
    (λ _. regroup (rec (The Top) at out) _ _ (then g Top at out (λ r h. must_semicolon r _ (λ s. last g Tops (r.0 + 1) r.1 (λ to new k. (beside h.0 k.0, one_top h.1 s k.1, joined out r.1 new h.0 k.0 h.2 k.2))))))

func_sound : {tokens : List Token} {rec : Reader} → IsSound tokens rec → (at : ℕ) (out : List Post) (r : ℕ × List Post) → HasWord tokens at words.Func → Has tokens MaybeReceiver (at + 1) out r.0 r.1 → Holds (Has tokens Top at out) (func_by tokens rec at out r)
func_sound {tokens} {rec} g at out r w h =
    let name : Forest = one nodes.DeclName r.0 (r.0 + 1) leaf in
    let named : List Post = put nodes.DeclName r.0 (r.0 + 1) r.1 in
    choose (is_at tokens r.0 kinds.Name)
    (λ e. regroup (rec (The MaybeTypeParams) (r.0 + 1) named >>= λ q. rec (The Signature) q.0 q.1) _ _ (regroup (rec (The MaybeTypeParams) (r.0 + 1) named) _ _
    (then g MaybeTypeParams (r.0 + 1) named (λ q k. then g Signature q.0 q.1 (λ s l. then g MaybeBody s.0 s.1 (λ t m.
    given (node nodes.FuncDecl at out (top_func w h.1 (has_at r.0 kinds.Name e) k.1 l.1 m.1)
    (joined out r.1 t.1 h.0 (beside name (beside k.0 (beside l.0 m.0))) h.2 (joined r.1 named t.1 name (beside k.0 (beside l.0 m.0)) (put_posts nodes.DeclName r.0 (r.0 + 1) r.1) (joined named q.1 t.1 k.0 (beside l.0 m.0) k.2 (joined q.1 s.1 t.1 l.0 m.0 l.2 m.2)))))))))))
    (λ _. none)

pub top_sound : {tokens : List Token} {rec : Reader} → IsSound tokens rec → (at : ℕ) (out : List Post) → Holds (Has tokens Top at out) (top_by tokens rec at out)
top_sound {tokens} {rec} g at out =
    choose (is_word tokens at words.Func) (λ e. then g MaybeReceiver (at + 1) out (λ r h. func_sound g at out r (has_word at words.Func e) h))
    (λ _. last g Decl at out (λ to new h. (h.0, top_decl h.1, h.2)))

pub maybe_receiver_sound : {tokens : List Token} {rec : Reader} → IsSound tokens rec → (at : ℕ) (out : List Post) → Holds (Has tokens MaybeReceiver at out) (maybe_receiver_by tokens rec at out)
maybe_receiver_sound {tokens} {rec} g at out =
    choose (is_mark tokens at marks.OpenParen) (λ _. last g Receiver at out (λ to new h. (h.0, a_receiver h.1, h.2))) (λ _. given (nothing at out no_receiver))

pub receiver_sound : {tokens : List Token} {rec : Reader} → IsSound tokens rec → (at : ℕ) (out : List Post) → Holds (Has tokens Receiver at out) (receiver_by tokens rec at out)
receiver_sound {tokens} {rec} g at out =
    let name : Forest = one nodes.DeclName (at + 1) (at + 2) leaf in
    let named : List Post = put nodes.DeclName (at + 1) (at + 2) out in
    choose (is_mark tokens at marks.OpenParen)
    (λ e. let o = has_mark at marks.OpenParen e in
    choose (is_at tokens (at + 1) kinds.Name && begins_type (kind_at tokens (at + 2)))
    (λ c. let p = and_parts (is_at tokens (at + 1) kinds.Name) (begins_type (kind_at tokens (at + 2))) c in
    regroup (rec (The AnyType) (at + 2) named >>= closing nodes.NamedParam (at + 1) out) _ _ (regroup (rec (The AnyType) (at + 2) named) _ _
    (then g AnyType (at + 2) named (λ r h. must_list marks.CloseParen (r.0, closed nodes.NamedParam (at + 1) r.0 (length out) r.1) _ (λ to m k.
    given (node nodes.NamedParams at out (receiver_named o (has_at (at + 1) kinds.Name p.0) h.1 m k)
    (closed_posts nodes.NamedParam (at + 1) r.0 (length out) out r.1 (beside name h.0) (joined out named r.1 name h.0 (put_posts nodes.DeclName (at + 1) (at + 2) out) h.2) refl)))))))
    (λ _. regroup (rec (The AnyType) (at + 1) out >>= closing nodes.Param (at + 1) out) _ _ (regroup (rec (The AnyType) (at + 1) out) _ _
    (then g AnyType (at + 1) out (λ r h. must_list marks.CloseParen (r.0, closed nodes.Param (at + 1) r.0 (length out) r.1) _ (λ to m k.
    given (node nodes.Params at out (receiver_type o h.1 m k) (closed_posts nodes.Param (at + 1) r.0 (length out) out r.1 h.0 h.2 refl))))))))
    (λ _. none)

pub maybe_type_params_sound : {tokens : List Token} {rec : Reader} → IsSound tokens rec → (at : ℕ) (out : List Post) → Holds (Has tokens MaybeTypeParams at out) (maybe_type_params_by tokens rec at out)
maybe_type_params_sound {tokens} {rec} g at out =
    choose (is_mark tokens at marks.OpenBracket) (λ _. last g TypeParams at out (λ to new h. (h.0, some_type_params h.1, h.2))) (λ _. given (nothing at out no_type_params))

pub maybe_body_sound : {tokens : List Token} {rec : Reader} → IsSound tokens rec → (at : ℕ) (out : List Post) → Holds (Has tokens MaybeBody at out) (maybe_body_by tokens rec at out)
maybe_body_sound {tokens} {rec} g at out =
    choose (is_mark tokens at marks.OpenBrace) (λ _. last g Block at out (λ to new h. (h.0, a_body h.1, h.2))) (λ _. given (nothing at out no_body))

-- tokens with balanced brackets have no nodes
pub balanced_leaf : {tokens : List Token} {x : Forest} {from to : ℕ} → Spells tokens Balanced x from to → x ≡ leaf
balanced_leaf balanced_none = refl
balanced_leaf (balanced_token t s) = refl
balanced_leaf (balanced_parens o s c t) = refl
balanced_leaf (balanced_brackets o s c t) = refl
balanced_leaf (balanced_braces o s c t) = refl

pub no_nodes : {tokens : List Token} (at : ℕ) (out : List Post) (to : ℕ) (new : List Post) → Has tokens Balanced at out to new → Spells tokens Balanced leaf at to × (new ≡ out)
no_nodes {tokens} at out to new h =
    let e = balanced_leaf h.1 in
    (subst (λ x. Spells tokens Balanced x at to) e h.1, h.2 ∙ ap (λ x. out ++ posts x) e ∙ append-nil out)

pub type_params_sound : {tokens : List Token} {rec : Reader} → IsSound tokens rec → (at : ℕ) (out : List Post) → Holds (Has tokens TypeParams at out) (type_params_by tokens rec at out)
type_params_sound {tokens} {rec} g at out =
    choose (is_mark tokens at marks.OpenBracket && is_at tokens (at + 1) kinds.Name)
    (λ e. let p = and_parts (is_mark tokens at marks.OpenBracket) (is_at tokens (at + 1) kinds.Name) e in
    regroup (rec (The Balanced) (at + 2) out) _ _ (then g Balanced (at + 2) out (λ r h. must marks.CloseBracket r _ (λ c.
    let b = no_nodes (at + 2) out r.0 r.1 h in
    given (node nodes.TypeParams at out (type_params (has_mark at marks.OpenBracket p.0) (has_at (at + 1) kinds.Name p.1) b.0 c) (b.1 ∙ sym (append-nil out)))))))
    (λ _. none)

-- what stands in brackets, before more
abbrev HasBrackets : List Token → ℕ → List Post → ℕ → List Post → Type 0
HasBrackets tokens at out to new = ((end : ℕ) → Spells tokens Balanced leaf to end → Spells tokens Balanced leaf at end) × (new ≡ out)

bracket_sound : {tokens : List Token} {rec : Reader} → IsSound tokens rec → (at : ℕ) (out : List Post) (close : Mark) → ((mid end : ℕ) → Spells tokens Balanced leaf (at + 1) mid → HasMark tokens mid close → Spells tokens Balanced leaf (mid + 1) end → Spells tokens Balanced leaf at end) → Holds (HasBrackets tokens at out) (rec (The Balanced) (at + 1) out >>= past tokens close)
bracket_sound {tokens} {rec} g at out close make =
    then g Balanced (at + 1) out (λ r h. choose (is_mark tokens r.0 close)
    (λ c. let b = no_nodes (at + 1) out r.0 r.1 h in given ((λ end s. make r.0 end b.0 (has_mark r.0 close c) s), b.1))
    (λ _. none))

in_brackets_sound : {tokens : List Token} {rec : Reader} → IsSound tokens rec → (at : ℕ) (out : List Post) → Holds (HasBrackets tokens at out) (in_brackets_by tokens rec at out)
in_brackets_sound {tokens} {rec} g at out =
    choose (is_mark tokens at marks.OpenParen) (λ e. bracket_sound g at out marks.CloseParen (λ mid end s c t. balanced_parens (has_mark at marks.OpenParen e) s c t))
    (λ _. choose (is_mark tokens at marks.OpenBracket) (λ e. bracket_sound g at out marks.CloseBracket (λ mid end s c t. balanced_brackets (has_mark at marks.OpenBracket e) s c t))
    (λ _. choose (is_mark tokens at marks.OpenBrace) (λ e. bracket_sound g at out marks.CloseBrace (λ mid end s c t. balanced_braces (has_mark at marks.OpenBrace e) s c t))
    (λ _. none)))

pub balanced_sound : {tokens : List Token} {rec : Reader} → IsSound tokens rec → (at : ℕ) (out : List Post) → Holds (Has tokens Balanced at out) (balanced_by tokens rec at out)
balanced_sound {tokens} {rec} g at out =
    choose (is_no_bracket (kind_at tokens at))
    (λ e. last g Balanced (at + 1) out (λ to new h. let b = no_nodes (at + 1) out to new h in (leaf, balanced_token (passes e) b.0, b.1 ∙ sym (append-nil out))))
    (λ _. choose (opens_bracket tokens at)
    (λ _. bind (in_brackets_by tokens rec at out) (in_brackets_sound g at out) (λ r h. last g Balanced r.0 r.1 (λ to new k.
    let b = no_nodes r.0 r.1 to new k in (leaf, h.0 to b.0, b.1 ∙ h.1 ∙ sym (append-nil out)))))
    (λ _. given (nothing at out balanced_none)))
