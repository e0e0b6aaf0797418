-- The parts that are read by themselves: what is read is the longest, and where nothing is read none begins.
use Rattle.std.proofs.Common.{◌≡◌, ℕ, List, [], ◌++◌, Some, None, sym, ap, ◌∙◌, arith}
use Rattle.std.proofs.lemmas.Bool.{false≢true}
use Rattle.std.specs.Prelude.{Bool, true, false}
use Rattle.argot_tree.specs.declared.token.Token.{Token}
use Rattle.argot_tree.specs.Grammar.{Decl, Signature, Params, AnyType, Level, Block}
use Rattle.argot_parse_reader.specs.Posts.{posts}
use Rattle.argot_parse_reader.specs.Reading.{Answer}
use Rattle.argot_parse_reader.specs.Laws.{Reaches, SpelledReached, ReadLongest, ReadNone}
use Rattle.argot_parse_reader.proofs.Sound.{reads_spelled}
use Rattle.argot_parse_reader.proofs.Exact.Whole.{exact}
use Rattle.argot_parse_reader.proofs.Far.Goes.{Goes}
use Rattle.argot_parse_reader.proofs.Far.Expressions.{level_goes}
use Rattle.argot_parse_reader.proofs.Far.Whole.{far}

reached : {to : ℕ} {a : Answer} → Goes to a → Reaches to a
reached g = (g.found, g.is, g.far)

pub spelled_reached : (tokens : List Token) → SpelledReached tokens
spelled_reached tokens (Level k bare) x n at to out alone s enough = reached (level_goes tokens (far tokens s) n out enough)
spelled_reached tokens AnyType x n at to out alone s enough = reached (far tokens s n out enough)
spelled_reached tokens (Params dots) x n at to out alone s enough = ((to, out ++ posts x), exact tokens s n out enough, omega arith)
spelled_reached tokens Signature x n at to out alone s enough = reached (far tokens s n out enough)
spelled_reached tokens Decl x n at to out alone s enough = reached (far tokens s n out enough)
spelled_reached tokens Block x n at to out alone s enough = ((to, out ++ posts x), exact tokens s n out enough, omega arith)
spelled_reached tokens _ x n at to out alone s enough = absurd alone

abbrev place_of : Answer → ℕ
place_of None = 0
place_of (Some r) = r.0

pub read_longest : (tokens : List Token) → ReadLongest tokens
read_longest tokens p n at to new nodes alone enough e linked =
    let h = reads_spelled tokens n p at to [] new e in
    record {
      spelled = (h.0, h.1, linked h.0 h.2);
      longest = λ other further s.
          let r = spelled_reached tokens p s.0 n at further [] alone s.1 enough in
          let place : r.0.0 ≡ to = ap place_of (sym r.1 ∙ e) in
          omega (arith, r.2, place);
    }

abbrev is_some : Answer → Bool
is_some None = false
is_some (Some r) = true

pub read_none : (tokens : List Token) → ReadNone tokens
read_none tokens p n at alone enough e nodes to s =
    let r = spelled_reached tokens p s.0 n at to [] alone s.1 enough in
    false≢true (ap is_some (sym e ∙ r.1))
