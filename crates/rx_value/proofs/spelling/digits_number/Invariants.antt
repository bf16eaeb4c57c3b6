use Rattle.std.proofs.Common.{◌≡◌, ◌≤◌, ◌^◌, drop}
use Rattle.std.specs.List.{list_all}
use Rattle.std.specs.Char.{is_ascii_digit}
use Rattle.rx_value.specs.Functions.{number_behind}
use Rattle.rx_value.proofs.spelling.digits_number.Given as goal

abbrev pub invariant-loop-byte : goal.invariant-loop-byte
invariant-loop-byte l = record {
  small : l.number ≤ 2 ^ 63;
  value : number_behind l.number (drop l.byte-index l.bytes) ≡ number_behind 0 l.bytes;
  digits : list_all is_ascii_digit (drop l.byte-index l.bytes) ≡ list_all is_ascii_digit l.bytes;
}
