-- Values of variables and the numbers that stand for them. Assumes nothing.
use Rattle.std.proofs.Common.{◌≡◌, ℕ, zero, suc, ◌+◌, ◌*◌, ◌/◌, ◌<◌, ◌≤◌, List, [], ◌∷◌, length, get_or, set, Some, None, Option, refl, ap, mul_assoc, one-mul, mul-one, mul-add, arith}
use Rattle.std.proofs.lemmas.Nat.{mod_below, mul-le}
use Rattle.task.specs.Listing.{Each}
use Rattle.sas.specs.declared.tables.Condition.{Condition}
use Rattle.sas.specs.States.{spanned, values, summed, numbered}
use Rattle.sas.specs.Actions.{renewed, changed}
use Rattle.sas.specs.Tables.{Valid, ConditionFits}
use Rattle.sas.specs.Values.{Below, Sized}

pub spanned_positive : (ns : List ℕ) → Sized ns → 1 ≤ spanned ns
spanned_positive [] e = omega arith
spanned_positive (n ∷ ns) e = mul-le 1 1 n (spanned ns) e.0 (spanned_positive ns e.1)

pub values_below : (ns : List ℕ) (s : ℕ) → Sized ns → Below ns (values ns s)
values_below [] s e = tt
values_below (n ∷ ns) s e = (mod_below s n e.0, values_below ns (s / n) e.1)

pub length-values : (ns : List ℕ) (s : ℕ) → length (values ns s) ≡ length ns
length-values [] s = refl
length-values (n ∷ ns) s = ap suc (length-values ns (s / n))

pub length_below : (ns vs : List ℕ) → Below ns vs → length vs ≡ length ns
length_below [] [] b = refl
length_below [] (v ∷ vs) b = absurd b
length_below (n ∷ ns) [] b = absurd b
length_below (n ∷ ns) (v ∷ vs) b = ap suc (length_below ns vs b.1)

pub below_sized : (ns vs : List ℕ) → Below ns vs → Sized ns
below_sized [] vs b = tt
below_sized (n ∷ ns) [] b = absurd b
below_sized (n ∷ ns) (v ∷ vs) b = (omega arith, below_sized ns vs b.1)

pub below_set : (ns vs : List ℕ) (i a : ℕ) → Below ns vs → a < get_or ns i 0 → Below ns (set vs i a)
below_set [] [] i a b h = tt
below_set [] (v ∷ vs) i a b h = absurd b
below_set (n ∷ ns) [] i a b h = absurd b
below_set (n ∷ ns) (v ∷ vs) zero a b h = (h, b.1)
below_set (n ∷ ns) (v ∷ vs) (suc i) a b h = (b.0, below_set ns vs i a b.1 h)

pub changed_below : (ns : List ℕ) (cs : List Condition) (vs : List ℕ) → Each (ConditionFits ns) cs → Below ns vs → Below ns (changed cs vs)
changed_below ns [] vs e b = b
changed_below ns (c ∷ cs) vs e b = changed_below ns cs (renewed c.after c.variable vs) e.1 (one c.after e.0.after)
  where
    one : (o : Option ℕ) → Valid o (get_or ns c.variable 0) → Below ns (renewed o c.variable vs)
    one None h = b
    one (Some a) h = below_set ns vs c.variable a b h

-- the sum leaves room for one more of the weight that it begins with
pub summed_room : (w : ℕ) (ns vs : List ℕ) → Below ns vs → summed w ns vs + w ≤ w * spanned ns
summed_room w [] [] b = omega (arith, mul-one w)
summed_room w [] (v ∷ vs) b = absurd b
summed_room w (n ∷ ns) [] b = absurd b
summed_room w (n ∷ ns) (v ∷ vs) b =
    let rest = summed_room (w * n) ns vs b.1 in
    let more : w * (v + 1) ≤ w * n = mul-le w (v + 1) w n (omega arith) (omega arith) in
    omega (arith, rest, more, mul-add w v 1, mul-one w, mul_assoc w n (spanned ns))

pub numbered_below : (ns vs : List ℕ) → Below ns vs → numbered ns vs < spanned ns
numbered_below ns vs b = omega (arith, summed_room 1 ns vs b, one-mul (spanned ns))
