-- The quotient of two whole numbers up to 2^53, as floats. Assumes nothing.
use Rattle.std.proofs.Common.{◌≡◌, ℕ, ◌*◌, ◌^◌, ◌<◌, ◌≤◌, Bool, true, false, cond, not, T, eqb, pos, sym, refl, ap, ◌∙◌, subst, inl, inr, true≢false, lt_trans, mul_assoc, mul_comm, eq-or-lt_of_le, mul-pos, zero-mul, mul-one, mul_left_comm, arith, lit<, eqb→eq, shl_lt}
use lib.Ieee.{Float, nan, inf, fin, binary64, up, down, div, of_int, round, le, is_nan}
use lib.Ieee.Exact.{HasValue, round_exact}
use lib.Ieee.Fits.{down_pos}
use lib.Ieee.Order.{round_mono}
use lib.Ieee.Scale.{round_same}
use Rattle.tally.specs.Share.{whole_float, quotient, Share}
use Rattle.tally.specs.Pairs.{IsPair}
use Rattle.tally.specs.declared.pairs.Pair.{Pair}

-- a whole number up to 2^53 is a float exactly
pub whole_float_exact : (n : ℕ) → n ≤ 2 ^ 53 → HasValue (whole_float n) false n 1
unfolding of_int
whole_float_exact n h =
    elim (eq-or-lt_of_le h) [
      | inl e ↦ round_exact binary64 false n 1 1 1127 (omega arith) (lit< tt) (lit< tt) (ap (λ z. z * 2 ^ 1074) e)
      | inr l ↦ round_exact binary64 false n 1 n 1074 (omega arith) l (lt_trans (shl_lt 53 1074 l) (lit< tt)) (sym (mul-one (n * 2 ^ 1074)))
    ]

-- numbers that are a / 1 and c / 1 have the quotient nearest to a / c
pub div_nearest : (x y : Float) (a c : ℕ) → 0 < c → HasValue x false a 1 → HasValue y false c 1 → div binary64 x y ≡ round binary64 false a c
unfolding div
div_nearest nan y a c C p q = absurd p
div_nearest (inf s) y a c C p q = absurd p
div_nearest (fin true m e) y a c C p q = absurd (true≢false p.0)
div_nearest (fin false m e) nan a c C p q = absurd q
div_nearest (fin false m e) (inf t) a c C p q = absurd q
div_nearest (fin false m e) (fin true n d) a c C p q = absurd (true≢false q.0)
div_nearest (fin false m e) (fin false n d) a c C p q = go (eqb n 0) (eqb→eq n 0)
  where
    above : m * up e ≡ a * down e
    above = sym (mul-one (m * up e)) ∙ p.1

    below : n * up d ≡ c * down d
    below = sym (mul-one (n * up d)) ∙ q.1

    some : 0 < n * up d
    some = omega (arith, below, mul-pos C (down_pos d))

    go : (b : Bool) → (T b → n ≡ 0) → cond b (cond (eqb m 0) nan (inf false)) (round binary64 false (m * up e * down d) (n * up d * down e)) ≡ round binary64 false a c
    go true f = absurd (omega (arith, some, ap (λ z. z * up d) (f tt) ∙ zero-mul (up d)))
    go false f =
        round_same binary64 false (m * up e * down d) (n * up d * down e) a c (mul-pos some (down_pos e)) C
        (rw (above, below) (simp (mul_assoc, mul_comm, mul_left_comm)))

-- what stands above 0 is a number
number_from_zero : (x : Float) → T (le (fin false 0 (pos 0)) x) → T (not (is_nan x))
unfolding le is_nan
number_from_zero nan t = absurd t
number_from_zero (inf s) t = tt
number_from_zero (fin s m e) t = tt

zero_float : round binary64 false 0 1 ≡ fin false 0 (pos 0)
unfolding round
zero_float = refl

one_float : round binary64 false 1 1 ≡ fin false 1 (pos 0)
unfolding round
one_float = refl

pub round_from_zero : (a c : ℕ) → 0 < c → T (le (fin false 0 (pos 0)) (round binary64 false a c))
round_from_zero a c C = subst (λ z. T (le z (round binary64 false a c))) zero_float (round_mono binary64 0 1 a c (omega arith) C (omega arith))

pub round_to_one : (a c : ℕ) → 0 < c → a ≤ c → T (le (round binary64 false a c) (fin false 1 (pos 0)))
round_to_one a c C h = subst (λ z. T (le (round binary64 false a c) z)) one_float (round_mono binary64 a c 1 1 C (omega arith) (omega arith))

pub quotient_share : (p : Pair) → IsPair p → p.all ≤ 2 ^ 53 → Share p (quotient p)
quotient_share p h k =
    record {
      with_exact = with_is;
      all_exact = all_is;
      nearest = near;
      number = number_from_zero (quotient p) low;
      from_zero = low;
      to_one = subst (λ z. T (le z (fin false 1 (pos 0)))) (sym near) (round_to_one p.with p.all h.some h.within);
    }
  where
    with_is : HasValue (whole_float p.with) false p.with 1
    with_is = whole_float_exact p.with (omega arith)

    all_is : HasValue (whole_float p.all) false p.all 1
    all_is = whole_float_exact p.all k

    near : quotient p ≡ round binary64 false p.with p.all
    near = div_nearest (whole_float p.with) (whole_float p.all) p.with p.all h.some with_is all_is

    low : T (le (fin false 0 (pos 0)) (quotient p))
    low = subst (λ z. T (le (fin false 0 (pos 0)) z)) (sym near) (round_from_zero p.with p.all h.some)
