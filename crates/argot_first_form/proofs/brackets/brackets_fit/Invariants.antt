use Rattle.std.proofs.Common.{◌≡◌, ℕ, ◌+◌, ◌≤◌, take}
use Rattle.std.specs.Prelude.{count_by}
use Rattle.argot_first_form.specs.Form.{is_opening, is_closing}
use Rattle.argot_first_form.proofs.brackets.brackets_fit.Given as goal

abbrev pub invariant-loop-byte : goal.invariant-loop-byte
invariant-loop-byte l = record {
  opened_is : l.opened ≡ count_by is_opening (take l.byte-index l.bytes);
  closed_is : l.closed ≡ count_by is_closing (take l.byte-index l.bytes);
  opened_within : l.opened ≤ l.byte-index;
  closed_within : l.closed ≤ l.byte-index;
  fits : (n : ℕ) → n ≤ l.byte-index → count_by is_opening (take n l.bytes) ≤ count_by is_closing (take n l.bytes) + 100;
}
