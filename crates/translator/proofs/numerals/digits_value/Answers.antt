use Rattle.std.proofs.Common.{◌≡◌, ℕ, ◌+◌, ◌-◌, ◌*◌, ◌<◌, ◌≤◌, List, length, get_or, drop, sym, ap, ◌∙◌, arith}
use Rattle.std.proofs.lemmas.List.{at_drop_more}
use Rattle.translator.specs.Numerals.{value_within}
use Rattle.translator.proofs.Digits.{digit_more, value_over, tenfold_over}
use Rattle.translator.proofs.numerals.digits_value.Goals as goal

pub returns-in_err-checked_mul : goal.returns-in_err-checked_mul
returns-in_err-checked_mul c =
    let value = c.loop-digit.value in
    let i = c.loop-digit.digit-index in
    let ds = c.args.digits.now in
    c.from_residual.ensures ∙ sym (c.loop-digit.invariant.1 ∙ at_drop_more (value_within value) ds i 0 (omega arith) ∙ tenfold_over value (get_or ds i 0) (drop (i + 1) ds) (omega (arith, c.in_err-checked_mul.ensures)))

-- the digits read so far and the one in hand
one_more : (value i d' : ℕ) (ds : List ℕ) → i < length ds → 48 ≤ get_or ds i 0 → get_or ds i 0 ≤ 57 → d' ≡ get_or ds i 0 - 48 → value_within value (drop i ds) ≡ value_within (value * 10 + d') (drop (i + 1) ds)
one_more value i d' ds h low high e =
    at_drop_more (value_within value) ds i 0 h ∙ digit_more value (get_or ds i 0) (drop (i + 1) ds) low high ∙ ap (λ x. value_within (value * 10 + x) (drop (i + 1) ds)) (sym e)

pub returns-in_err-value : goal.returns-in_err-value
returns-in_err-value c =
    let value = c.loop-digit.value in
    let i = c.loop-digit.digit-index in
    let ds = c.args.digits.now in
    let bounds = c.if-not-is_ascii_digit.ensures.cases in
    let more = one_more value i c.from.result ds (omega arith) bounds.0 bounds.1 c.from.ensures in
    let over : 4294967295 < value * 10 + c.from.result = omega (arith, c.in_ok-checked_mul.ensures, c.in_err-value.ensures) in
    c.from_residual-in_err-value.ensures ∙ sym (c.loop-digit.invariant.1 ∙ more ∙ value_over (value * 10 + c.from.result) (drop (i + 1) ds) over)
