-- Numbers as a file writes them: decimal, without needless zeros, up to 4,294,967,295; only -1 has a sign.
-- Assumes nothing.
use Rattle.std.specs.Prelude.{◌≡◌, ℕ, ◌≤◌, Bool, true, false, cond, not, ◌&&◌, List, [], ◌∷◌, length, ℤ, pos, negsuc, Some, None, decimal, Option, MatchOption, ◌==◌, ◌≢◌, nat_le, nat_lt, slice_index}
use Rattle.std.specs.Option.{option_map}
use Rattle.std.specs.Str.Parse.{digits_value_after}
use Rattle.std.specs.Str.{all_ascii_digits}

-- the number that digits write behind those of n, if they are digits and it is within the limit
abbrev pub value_within : ℕ → List ℕ → Option ℕ
value_within n ds = cond (all_ascii_digits ds && nat_le (digits_value_after 10 n ds) 4294967295) (Some (digits_value_after 10 n ds)) None

-- one digit or more, of which the first is 0 only where it is the only one
abbrev pub well_begun : List ℕ → Bool
well_begun ds = nat_lt 0 (length ds) && not (nat_lt 1 (length ds) && slice_index ds 0 == 48)

-- the number that the bytes write, if they write one within the limit
abbrev pub number_in : List ℕ → Option ℕ
number_in ds = cond (well_begun ds) (value_within 0 ds) None

-- r is the number of which the bytes are the decimal form; none where they are no such form
abbrev pub Decimal : List ℕ → Option ℕ → Type 0
Decimal ds r = MatchOption r ((v : ℕ) → v ≤ 4294967295 → ds ≢ decimal v) (λ v. (v ≤ 4294967295) × (ds ≡ decimal v))

abbrev pub same : List ℕ → List ℕ → Bool
same [] [] = true
same [] (y ∷ ys) = false
same (x ∷ xs) [] = false
same (x ∷ xs) (y ∷ ys) = x == y && same xs ys

-- the same with -1, written so, beside the numbers without a sign
abbrev pub signed_in : List ℕ → Option ℤ
signed_in ds = cond (same ds (45 ∷ 49 ∷ [])) (Some (negsuc 0)) (option_map pos (number_in ds))
