use Rattle.std.proofs.Common.{◌≡◌, ℕ, List, None, Option, sym, ◌∙◌, subst, arith}
use Rattle.std.proofs.lemmas.Bool.Decides.{nat_tests}
use Rattle.translator.specs.Numerals.{number_in, Decimal}
use Rattle.translator.proofs.Digits.{number_in_decimal}
use Rattle.translator.proofs.numerals.numeral.Goals as goal

decimal_read : (ds : List ℕ) (r : Option ℕ) → r ≡ number_in ds → Decimal ds r
decimal_read ds r e = subst (Decimal ds) (sym e) (number_in_decimal ds)

pub returns-then-is_empty-clause-decimal : goal.returns-then-is_empty-clause-decimal
returns-then-is_empty-clause-decimal c = decimal_read c.args.digits.now None (grind (arith, nat_tests))

pub returns-then-digits-eq48-clause-decimal : goal.returns-then-digits-eq48-clause-decimal
returns-then-digits-eq48-clause-decimal c = decimal_read c.args.digits.now None (grind (arith, nat_tests))

pub returns-clause-decimal : goal.returns-clause-decimal
returns-clause-decimal c = decimal_read c.args.digits.now _ (c.digits_value.ensures ∙ grind (arith, nat_tests))
