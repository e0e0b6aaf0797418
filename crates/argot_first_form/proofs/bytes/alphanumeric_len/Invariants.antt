use Rattle.std.proofs.Common.{◌≡◌, ◌+◌, drop}
use Rattle.std.specs.List.{prefix_len}
use Rattle.std.specs.Char.{is_ascii_alphanumeric}
use Rattle.argot_first_form.proofs.bytes.alphanumeric_len.Given as goal

abbrev pub invariant-loop-b : goal.invariant-loop-b
invariant-loop-b l = (l.len ≡ l.b-index) × (l.len + prefix_len is_ascii_alphanumeric (drop l.b-index l.text) ≡ prefix_len is_ascii_alphanumeric l.text)
