-- The two tallies: the count of plans, and the count beside the count of those with a watched operator.
-- Assumes nothing.
use Rattle.std.specs.Prelude.{ℕ, ◌+◌, ◌-◌, ◌^◌, min, cond, ◌==◌}
use Rattle.tally.specs.Summary.{Summary}
use Rattle.tally.specs.declared.pairs.Pair.{Pair}

-- n, cut at the greatest number of 64 bits
abbrev pub cut : ℕ → ℕ
cut n = min n (2 ^ 64 - 1)

abbrev pub counting : Summary ℕ
counting = record { unit = 1; extend = λ n o. n; join = λ a b. cut (a + b) }

abbrev pub pair_of : ℕ → ℕ → Pair
pair_of a s = record { all = a; with = s }

-- all plans, and those that contain the operator w
abbrev pub watching : ℕ → Summary Pair
watching w =
    record {
      unit = pair_of 1 0;
      extend = λ p o. cond (o == w) (pair_of p.all p.all) p;
      join = λ p q. pair_of (cut (p.all + q.all)) (cut (p.with + q.with));
    }
