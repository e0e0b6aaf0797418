-- What is read is put behind what was there: the combinators.
use Rattle.std.proofs.Common.{◌≡◌, ℕ, ◌+◌, ◌-◌, List, [], ◌∷◌, ◌++◌, length, reverse, Bool, cond, Option, Some, None, refl, sym, ap, ◌∙◌, arith, append_assoc}
use Rattle.std.proofs.lemmas.List.{append-nil}
use Rattle.std.proofs.lemmas.Bool.{cond_both}
use Rattle.argot_tree.specs.declared.mark.Mark.{Mark}
use Rattle.argot_tree.specs.declared.node_kind.NodeKind.{NodeKind}
use Rattle.argot_tree.specs.declared.token.Token.{Token}
use Rattle.argot_tree.specs.Forests.{last_token}
use Rattle.argot_parse_reader.specs.declared.post.Post.{Post}
use Rattle.std.specs.List.{remove}
use Rattle.std.proofs.lemmas.List.Edits.{remove-append_right}
use Rattle.argot_parse_reader.specs.ExpressionReader.{ending_with, with_kind}
use Rattle.argot_parse_reader.specs.Reading.{Task, Answer, Reader, ◌>>=◌, try_on, closed, closed_all, past, past_list, is_mark, behind_comma}

pub record Extends (old new : List Post) : Type 0 where
  pub more : List Post
  pub is : new ≡ old ++ more

abbrev pub Grows : List Post → Answer → Type 0
Grows old None = Unit {0}
Grows old (Some r) = Extends old r.1

-- a reader does
pub record AlwaysGrows (rec : Reader) : Type 0 where
  pub always : (task : Task) (at : ℕ) (out : List Post) → Grows out (rec task at out)

pub same : (old : List Post) → Extends old old
same old = record { more = []; is = sym (append-nil old) }

pub on : {a b c : List Post} → Extends a b → Extends b c → Extends a c
on {a} {b} {c} p q = record { more = p.more ++ q.more; is = q.is ∙ ap (λ l. l ++ q.more) p.is ∙ append_assoc a p.more q.more }

grows_on : {a b : List Post} (x : Answer) → Extends a b → Grows b x → Grows a x
grows_on None p g = tt
grows_on (Some r) p g = on p g

pub by : {rec : Reader} {old out : List Post} (task : Task) (at : ℕ) → AlwaysGrows rec → Extends old out → Grows old (rec task at out)
by {rec} {old} {out} task at g p = grows_on (rec task at out) p (g.always task at out)

pub bind : (old : List Post) (a : Answer) (f : ℕ × List Post → Answer) → Grows old a → ((r : ℕ × List Post) → Extends old r.1 → Grows old (f r)) → Grows old (a >>= f)
bind old None f g h = tt
bind old (Some r) f g h = h r g

pub try : (old : List Post) (a : Answer) (f : ℕ × List Post → Answer) (stay : Answer) → Grows old a → ((r : ℕ × List Post) → Extends old r.1 → Grows old (f r)) → Grows old stay → Grows old (try_on a f stay)
try old None f stay g h s = s
try old (Some r) f stay g h s = h r g

pub close : {old out : List Post} (kind : NodeKind) (from to mark : ℕ) → Extends old out → Extends old (closed kind from to mark out)
close {old} {out} kind from to mark p = on p (record { more = record { kind = kind; token = from; last = last_token from to; size = length out + 1 - mark } ∷ []; is = refl })

pub choose : (old : List Post) (b : Bool) (x y : Answer) → Grows old x → Grows old y → Grows old (cond b x y)
choose old b x y p q = cond_both b x y (Grows old) (λ _. p) (λ _. q)

pub found : (old new : List Post) (to : ℕ) → Extends old new → Grows old (Some (to, new))
found old new to p = p

pub nothing : (old : List Post) → Grows old None
nothing old = tt

pub must : (tokens : List Token) (mark : Mark) (old : List Post) (r : ℕ × List Post) → Extends old r.1 → Grows old (past tokens mark r)
must tokens mark old r p = choose old (is_mark tokens r.0 mark) (Some (r.0 + 1, r.1)) None p tt

pub must_list : (tokens : List Token) (mark : Mark) (old : List Post) (r : ℕ × List Post) → Extends old r.1 → Grows old (past_list tokens mark r)
must_list tokens mark old r p = must tokens mark old (behind_comma tokens r.0, r.1) p

all_closed : (old : List Post) (kind : NodeKind) (begun : List (ℕ × ℕ)) (to : ℕ) (out : List Post) → Extends old out → Extends old (closed_all kind begun to out)
all_closed old kind [] to out p = p
all_closed old kind (b ∷ rest) to out p = all_closed old kind rest to (closed kind b.0 to b.1 out) (close kind b.0 to b.1 p)

pub close_all : {old out : List Post} (kind : NodeKind) (begun : List (ℕ × ℕ)) (to : ℕ) → Extends old out → Extends old (closed_all kind begun to out)
close_all {old} {out} kind begun to p = all_closed old kind begun to out p

-- the nodes after a list's last are left out of it again
pub behind : (old : List Post) (to : ℕ) (back : Option (List Post)) → Grows old (ending_with to old back)
behind old to None = tt
behind old to (Some back) = record { more = reverse back; is = refl }

pub with_it : (old : List Post) (kind : Option NodeKind) (f : NodeKind → Answer) (other : Answer) → ((k : NodeKind) → Grows old (f k)) → Grows old other → Grows old (with_kind kind f other)
with_it old None f other h p = p
with_it old (Some k) f other h p = h k

pub removed : (old l : List Post) → Extends old l → Extends old (remove l (length old + 1))
removed old l p = record { more = remove p.more (length old + 1 - length old); is = ap (λ x. remove x (length old + 1)) p.is ∙ remove-append_right old p.more (length old) (length old + 1) refl (omega arith) }

pub ruleset growing = (bind, try, choose, close, close_all, found, nothing, must, must_list, same, behind, with_it, removed)
