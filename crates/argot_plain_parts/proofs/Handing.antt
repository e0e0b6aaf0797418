-- What the tests of calls by number say.
use Rattle.std.proofs.Common.{◌≡◌, ℕ, ◌<◌, Bool, true, false, List, Some, None, Option, refl, sym, ap, ◌∙◌, arith, subst, eqb-true, ltb-true}
use Rattle.std.specs.Prelude.{slice_get, length, ◌==◌, ◌&&◌, ◌||◌, not, is_none, nat_lt}
use Rattle.std.proofs.lemmas.Bool.{and_parts}
use Rattle.argot_plain.specs.Code.{Code, IsFunction, Hands, leaves, leaves_in, kind_of}
use Rattle.argot_plain.specs.Code.Hands.{by_call, by_go, by_defer}
use Rattle.argot_plain.specs.WellFormed.{FitsStatic}
use Rattle.argot_plain.specs.declared.functions.Function.{Function}
use Rattle.argot_plain.specs.declared.instructions.Callee.{Callee}
use Rattle.argot_plain.specs.declared.instructions.Callee.TheVariants.{Static}
use Rattle.argot_plain.specs.declared.instructions.Instr.{Instr}
use Rattle.argot_plain.specs.declared.instructions.Kind.{Kind}
use Rattle.argot_plain.specs.declared.instructions.Kind.TheVariants.{Call, Leave}
use Rattle.argot_plain.specs.declared.sites.Site.{Site}
use Rattle.argot_plain_parts.proofs.Parted.{three}
use Rattle.argot_plain_parts.proofs.Standing.{arg_at, result_at}
use Rattle.argot_plain_parts.specs.Instructions.{names_there}
use Rattle.argot_plain_parts.specs.Numbers.{no_number_twice}
use Rattle.argot_plain_parts.specs.Parts.{leaves_of}
use Rattle.argot_plain_parts.specs.Places.{args_fit, returned_fit, taken, gives, given, calls_fit}

pub callee_named : (functions globals : ℕ) (sites : List Site) (i h n : ℕ) (kind : Kind) (args : List ℕ) → names_there functions globals sites i kind ≡ true → Hands kind (Static h) args n → h < functions
callee_named functions globals sites i h n _ args fit (by_call {to = to}) = ltb-true h functions (and_parts (nat_lt h functions) (no_number_twice to) fit).0
callee_named functions globals sites i h n _ args fit by_go = ltb-true h functions fit
callee_named functions globals sites i h n _ args fit by_defer = ltb-true h functions fit

pub leaves_at : (p : Code) (g r : ℕ) (fn : Function) → IsFunction p g fn → leaves p g r ≡ leaves_of fn r
leaves_at p g r fn is = ap (λ (o : Option Function). leaves_in o r) is

record Taken (fn : Function) (args : List ℕ) (o : Option Function) : Type 0 where
  target : Function
  is : o ≡ Some target
  count : length args ≡ target.params
  no_env : target.has_env ≡ false
  fit : args_fit fn target 0 args ≡ true

is_false : (b : Bool) → not b ≡ true → b ≡ false
is_false true h = cc
is_false false h = refl

taken_by : (fn : Function) (args : List ℕ) (o : Option Function) → taken fn args o ≡ true → Taken fn args o
taken_by fn args None h = absurd cc
taken_by fn args (Some target) h =
    let a = and_parts (length args == target.params) (not target.has_env && args_fit fn target 0 args) (three (length args == target.params) (not target.has_env) (args_fit fn target 0 args) h) in
    let b = and_parts (not target.has_env) (args_fit fn target 0 args) a.1 in
    record { target = target; is = refl; count = eqb-true (length args) target.params a.0; no_env = is_false target.has_env b.0; fit = b.1 }

record Gives (instrs : List Instr) (fn : Function) (to : List ℕ) (target : Function) : Type 0 where
  count : length to ≡ target.results
  leaves : (not (is_none target.external) || returned_fit fn target to (kind_of (slice_get instrs target.leave))) ≡ true

gives_is : (instrs : List Instr) (fn : Function) (to : List ℕ) (o : Option Function) (target : Function) → given instrs fn to o ≡ true → o ≡ Some target → Gives instrs fn to target
gives_is instrs fn to o target h is =
    let m : gives instrs fn to target ≡ true = subst (λ (x : Option Function). given instrs fn to x ≡ true) is h in
    let a = and_parts (length to == target.results) (not (is_none target.external) || returned_fit fn target to (kind_of (slice_get instrs target.leave))) m in
    record { count = eqb-true (length to) target.results a.0; leaves = a.1 }

given_leaves : (instrs : List Instr) (fn target : Function) (to from : List ℕ) (k r s : ℕ) → Gives instrs fn to target → target.external ≡ None → kind_of (slice_get instrs target.leave) ≡ Some (Leave from) → slice_get to k ≡ Some r → slice_get from k ≡ Some s → leaves_of fn r ≡ leaves_of target s
given_leaves instrs fn target to from k r s g none at e f =
    let a : returned_fit fn target to (kind_of (slice_get instrs target.leave)) ≡ true = subst (λ (o : Option Bool). (not (is_none o) || returned_fit fn target to (kind_of (slice_get instrs target.leave))) ≡ true) none g.leaves in
    let b : returned_fit fn target to (Some (Leave from)) ≡ true = subst (λ (o : Option Kind). returned_fit fn target to o ≡ true) at a in
    result_at fn target to from k r s b e f

same_to : (a b : List ℕ) (c d : Callee) (x y : List ℕ) → Call a c x ≡ Call b d y → a ≡ b
same_to a b c d x y h = cc

handed_args : (p : Code) (g h : ℕ) (fn : Function) (args : List ℕ) → IsFunction p g fn → (t : Taken fn args (slice_get p.functions h)) → (k r : ℕ) → slice_get args k ≡ Some r → leaves p g r ≡ leaves p h k
handed_args p g h fn args is t k r e = leaves_at p g r fn is ∙ arg_at fn t.target 0 args k r t.fit e k (omega arith) ∙ sym (leaves_at p h k t.target t.is)

pub static_fits : (p : Code) (g h n : ℕ) (fn : Function) (kind : Kind) (args : List ℕ) → IsFunction p g fn → calls_fit p.functions p.instrs fn kind ≡ true → Hands kind (Static h) args n → FitsStatic p g h kind args
static_fits p g h n fn _ args is fit (by_call {to = to}) =
    let a = and_parts (taken fn args (slice_get p.functions h)) (given p.instrs fn to (slice_get p.functions h)) fit in
    let t = taken_by fn args (slice_get p.functions h) a.0 in
    let v = gives_is p.instrs fn to (slice_get p.functions h) t.target a.1 t.is in
    record {
      fn = t.target;
      is = t.is;
      count = t.count;
      params = handed_args p g h fn args is t;
      no_env = t.no_env;
      results = λ to2 callee e. sym (ap length (same_to to to2 (Static h) callee args args e)) ∙ v.count;
      result_leaves = λ to2 from callee k r s e none at got back.
          let same = same_to to to2 (Static h) callee args args e in
          leaves_at p g r fn is ∙ given_leaves p.instrs fn t.target to from k r s v none at (ap (λ (l : List ℕ). slice_get l k) same ∙ got) back ∙ sym (leaves_at p h s t.target t.is);
    }
static_fits p g h n fn _ args is fit by_go =
    let t = taken_by fn args (slice_get p.functions h) fit in
    record {
      fn = t.target;
      is = t.is;
      count = t.count;
      params = handed_args p g h fn args is t;
      no_env = t.no_env;
      results = λ to callee e. absurd cc;
      result_leaves = λ to from callee k r s e none at got back. absurd cc;
    }
static_fits p g h n fn _ args is fit by_defer =
    let t = taken_by fn args (slice_get p.functions h) fit in
    record {
      fn = t.target;
      is = t.is;
      count = t.count;
      params = handed_args p g h fn args is t;
      no_env = t.no_env;
      results = λ to callee e. absurd cc;
      result_leaves = λ to from callee k r s e none at got back. absurd cc;
    }
