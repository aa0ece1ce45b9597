use Rattle.std.proofs.Common.{◌≡◌, ◌≤◌, drop}
use Rattle.std.specs.Str.{all_ascii_digits}
use Rattle.brk_money.specs.Spelling.{number_with_more_digits}
use Rattle.brk_money.proofs.whole.parse_numeral.Given as goal

-- the digits that are left, after the number so far, read as all of them do
abbrev pub invariant-loop-b : goal.invariant-loop-b
invariant-loop-b l = record {
  digits : all_ascii_digits (drop l.b-index l.bytes) ≡ all_ascii_digits l.bytes;
  reads : number_with_more_digits l.value (drop l.b-index l.bytes) ≡ number_with_more_digits 0 l.bytes;
  low : l.value ≤ l.limit;
}
