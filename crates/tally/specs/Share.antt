-- The share of a pair: the part of the plans that contain the watched operator. Assumes nothing.
use Rattle.std.specs.Prelude.{◌≡◌, ℕ, ◌^◌, false, cond, not, ◌||◌, T, pos, Ok, Err, Result, ◌==◌, is_nan, nat_lt, Float}
use Rattle.std.specs.Float.{fin, binary64}
use Rattle.std.specs.Float.Ieee.{div, of_int, round, le}
use Rattle.std.specs.Float.Ieee.Exact.{HasValue}
use Rattle.task.specs.declared.faults.Fault.{Fault}
use Rattle.task.specs.declared.faults.Kind.{Kind}
use Rattle.task.specs.declared.faults.Kind.TheVariants.{BadNumber, TooMany}
use Rattle.task.specs.declared.faults.Layer.TheVariants.{Session}
use Rattle.tally.specs.declared.pairs.Pair.{Pair}

-- a whole number as a float
abbrev pub whole_float : ℕ → Float
whole_float n = of_int binary64 (pos n)

-- the one quotient, rounded once
abbrev pub quotient : Pair → Float
quotient p = div binary64 (whole_float p.with) (whole_float p.all)

abbrev pub refusal : Kind → Result Float Fault
refusal k = Err (record { kind = k; place = 0; layer = Session })

-- refused where the two numbers are no pair, then where "all" is above 2^53
abbrev pub shared : Pair → Result Float Fault
shared p =
    cond (p.all == 0 || nat_lt p.all p.with) (refusal BadNumber)
    (cond (nat_lt (2 ^ 53) p.all) (refusal TooMany) (Ok (quotient p)))

-- A share is the float nearest to the exact fraction, both numbers being floats exactly; it is no NaN, and
-- lies between 0 and 1.
pub record Share (p : Pair) (x : Float) : Type 0 where
  pub with_exact : HasValue (whole_float p.with) false p.with 1
  pub all_exact : HasValue (whole_float p.all) false p.all 1
  pub nearest : x ≡ round binary64 false p.with p.all
  pub number : T (not (is_nan x))
  pub from_zero : T (le (fin false 0 (pos 0)) x)
  pub to_one : T (le x (fin false 1 (pos 0)))

abbrev pub Shares : Pair → Result Float Fault → Type 0
Shares p (Ok x) = Share p x
Shares p (Err e) = Unit {0}
