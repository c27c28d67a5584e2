use Rattle.std.proofs.Common.{◌≡◌, ◌≤◌, drop}
use Rattle.translator.specs.Numerals.{value_within}
use Rattle.translator.proofs.numerals.digits_value.Given as goal

abbrev pub invariant-loop-digit : goal.invariant-loop-digit
invariant-loop-digit l = (l.value ≤ 4294967295) × (value_within 0 l.digits ≡ value_within l.value (drop l.digit-index l.digits))
