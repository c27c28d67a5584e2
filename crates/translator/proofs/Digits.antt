-- What a reader of digits goes by, and that what it reads is a decimal form. Assumes nothing.
use Rattle.std.proofs.Common.{◌≡◌, ℕ, ◌+◌, ◌-◌, ◌*◌, ◌<◌, ◌≤◌, true, false, cond, not, ◌&&◌, eqb, ltb, leb, ◌⊎◌, List, [], ◌∷◌, length, get_or, drop, Some, None, decimal, Option, sym, refl, ap, ◌∙◌, ⊎_elim, arith}
use Rattle.std.specs.Str.Parse.{digits_value_after, digits_value}
use Rattle.std.specs.Char.{digit_value, is_ascii_digit}
use Rattle.std.specs.Str.{all_ascii_digits}
use Rattle.std.proofs.lemmas.Bool.{lt-ltb, le-leb, lt-leb, leb-true, cond-true, cond-false, and_parts, and_from, and_right, ne_eqb, cases_lt}
use Rattle.std.proofs.lemmas.Bool.Decides.{nat_tests}
use Rattle.std.proofs.lemmas.Str.Parse.{IsNumeralModel, numerals_by_value, tells_all_ascii_digits}
use Rattle.std.proofs.lemmas.Fmt.{decimal-digits_value, digits_decimal, digits_value-decimal, decimal_nonempty, first_decimal, decimal_digit}
use Rattle.std.proofs.lemmas.List.{drop_more, drop_all}
use Rattle.translator.specs.Numerals.{value_within, well_begun, number_in, Decimal, same}

digit_of : (d : ℕ) → 48 ≤ d → d ≤ 57 → digit_value d ≡ d - 48
digit_of d h k = grind (arith, nat_tests)

pub digit_more : (n d : ℕ) (ds : List ℕ) → 48 ≤ d → d ≤ 57 → value_within n (d ∷ ds) ≡ value_within (n * 10 + (d - 48)) ds
digit_more n d ds h k =
    let isDigit : is_ascii_digit d ≡ true = grind (arith, nat_tests) in
    ap (λ b. cond (b && all_ascii_digits ds && leb (digits_value_after 10 (n * 10 + digit_value d) ds) 4294967295) (Some (digits_value_after 10 (n * 10 + digit_value d) ds)) None) isDigit
    ∙ ap (λ v. value_within (n * 10 + v) ds) (digit_of d h k)

pub no_digit : (n d : ℕ) (ds : List ℕ) → (d < 48) ⊎ (57 < d) → value_within n (d ∷ ds) ≡ None
no_digit n d ds h =
    let other : is_ascii_digit d ≡ false = grind (arith, nat_tests) in
    ap (λ b. cond (b && all_ascii_digits ds && leb (digits_value_after 10 (n * 10 + digit_value d) ds) 4294967295) (Some (digits_value_after 10 (n * 10 + digit_value d) ds)) None) other

grows : (n : ℕ) (ds : List ℕ) → n ≤ digits_value_after 10 n ds
grows n [] = omega arith
grows n (d ∷ ds) = omega (arith, grows (n * 10 + digit_value d) ds)

none_over : (n : ℕ) (ds : List ℕ) → 4294967295 < digits_value_after 10 n ds → value_within n ds ≡ None
none_over n ds h =
    let over : leb (digits_value_after 10 n ds) 4294967295 ≡ false = lt-leb _ _ h in
    let none : (all_ascii_digits ds && leb (digits_value_after 10 n ds) 4294967295) ≡ false = and_right (all_ascii_digits ds) _ over in
    cond-false _ _ _ none

pub value_over : (n : ℕ) (ds : List ℕ) → 4294967295 < n → value_within n ds ≡ None
value_over n ds h = none_over n ds (omega (arith, grows n ds))

pub tenfold_over : (n d : ℕ) (ds : List ℕ) → 4294967295 < n * 10 → value_within n (d ∷ ds) ≡ None
tenfold_over n d ds h = none_over n (d ∷ ds) (omega (arith, grows (n * 10 + digit_value d) ds))

pub value_all : (n : ℕ) → n ≤ 4294967295 → value_within n [] ≡ Some n
value_all n h = cond-true _ _ _ (le-leb n 4294967295 h)

own : IsNumeralModel (λ ds. all_ascii_digits ds ≡ true) (digits_value 10)
own = numerals_by_value _ tells_all_ascii_digits

-- a decimal form begins with 0 only where it is the only digit
begins_well : (v : ℕ) → v ≤ 4294967295 → well_begun (decimal v) ≡ true
begins_well v h = ⊎_elim zero_case more_case (cases_lt 0 v)
  where
    zero_case : 0 < v → well_begun (decimal v) ≡ true
    zero_case k =
        let some = decimal_nonempty v (omega arith) in
        let first = first_decimal v k (omega arith) in
        let a : ltb 0 (length (decimal v)) ≡ true = lt-ltb _ _ some in
        let e : eqb (get_or (decimal v) 0 0) 48 ≡ false = ne_eqb _ _ (λ q. omega arith) in
        and_from _ _ a (ap not (and_right (ltb 1 (length (decimal v))) _ e))

    more_case : v ≤ 0 → well_begun (decimal v) ≡ true
    more_case k =
        let z : v ≡ 0 = omega arith in
        rw z (rw (decimal_digit 0 (omega arith)) refl)

module _ (ds : List ℕ) where
  -- the decimal form of a number within the limit is read as that number
  pub decimal_read : (v : ℕ) → v ≤ 4294967295 → ds ≡ decimal v → number_in ds ≡ Some v
  decimal_read v h e =
      let all : all_ascii_digits (decimal v) ≡ true = digits_decimal own v (omega arith) in
      let is : digits_value 10 (decimal v) ≡ v = digits_value-decimal own v (omega arith) in
      let within : leb (digits_value 10 (decimal v)) 4294967295 ≡ true = le-leb _ _ (omega arith) in
      ap number_in e ∙ cond-true _ _ _ (begins_well v h) ∙ cond-true _ _ _ (and_from _ _ all within) ∙ ap Some is

  begun_first : well_begun ds ≡ true → get_or ds 0 0 ≡ 48 → length ds ≡ 1
  begun_first b z = grind (arith, nat_tests)

  -- what is read as a number is its decimal form
  pub read_decimal : (v : ℕ) → number_in ds ≡ Some v → (v ≤ 4294967295) × (ds ≡ decimal v)
  read_decimal v e =
      let b : well_begun ds ≡ true = grind arith in
      let inner : value_within 0 ds ≡ Some v = sym (cond-true _ _ _ b) ∙ e in
      let t : (all_ascii_digits ds && leb (digits_value 10 ds) 4294967295) ≡ true = grind arith in
      let p : (all_ascii_digits ds ≡ true) × (leb (digits_value 10 ds) 4294967295 ≡ true) = and_parts _ _ t in
      let is : digits_value 10 ds ≡ v = grind arith in
      let small : digits_value 10 ds ≤ 4294967295 = leb-true _ _ p.1 in
      let some : 0 < length ds = grind (arith, nat_tests) in
      (omega arith, sym (decimal-digits_value own ds p.0 some (begun_first b) (omega arith)) ∙ ap decimal is)

  pub number_in_decimal : Decimal ds (number_in ds)
  number_in_decimal = go (number_in ds) refl
    where
      go : (r : Option ℕ) → number_in ds ≡ r → Decimal ds r
      go None e = λ v h d. let z = decimal_read v h d in grind arith
      go (Some v) e = read_decimal v e

-- two lists of other lengths are not the same
pub not_same : (xs ys : List ℕ) → (length xs ≡ length ys → ⊥) → same xs ys ≡ false
not_same [] [] h = absurd (h refl)
not_same [] (y ∷ ys) h = refl
not_same (x ∷ xs) [] h = refl
not_same (x ∷ xs) (y ∷ ys) h = and_right (eqb x y) _ (not_same xs ys (λ e. h (omega arith)))

pub same_more : (xs ys : List ℕ) (i : ℕ) → i < length xs → i < length ys → same (drop i xs) (drop i ys) ≡ (eqb (get_or xs i 0) (get_or ys i 0) && same (drop (i + 1) xs) (drop (i + 1) ys))
same_more xs ys i h k = rw (drop_more xs i 0 h, drop_more ys i 0 k)

pub same_all : (xs ys : List ℕ) (i : ℕ) → length xs ≤ i → length ys ≤ i → same (drop i xs) (drop i ys) ≡ true
same_all xs ys i h k = rw (drop_all i xs h, drop_all i ys k)
