use Rattle.std.specs.Str.Parse.{AllDigits, digits_value}
use Rattle.std.proofs.Common.{◌≡◌, take}
use Rattle.portmap_command.proofs.numbers.read_digits.Given as goal

abbrev pub invariant-loop-digit : goal.invariant-loop-digit
invariant-loop-digit l = record {
  each : AllDigits 10 (take l.digit-index l.text);
  value : l.value ≡ digits_value 10 (take l.digit-index l.text);
}
