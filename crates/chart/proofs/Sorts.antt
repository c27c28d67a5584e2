-- The sorted entries of all arcs are their index. Assumes nothing.
use Rattle.std.proofs.Common.{◌≡◌, ℕ, ◌<◌, true, false, eqb, List, length, get_or, Ordering, sym, ap, ◌∙◌, subst, arith}
use Rattle.std.specs.Cmp.{IsTotalOrder}
use Rattle.std.specs.Ordering.{is_lt, nat_cmp, on, then_cmp}
use Rattle.std.specs.List.Sorted.{IsPermutation, IsSorted}
use Rattle.std.proofs.lemmas.Cmp.{nat_cmp_total, on_total, then_total}
use Rattle.std.proofs.lemmas.List.MinMax.{ranks_by}
use Rattle.std.proofs.lemmas.List.{get_or_default}
use Rattle.std.proofs.lemmas.List.Sorted.{All-permutation, list_any-IsPermutation, sorted_far}
use Rattle.std.proofs.lemmas.List.Folds.{list_any_at}
use Rattle.std.proofs.lemmas.Bool.{eq-eqb}
use Rattle.std.proofs.lemmas.Bool.Decides.{nat_tests}
use Rattle.chart.specs.declared.tables.Arc.{Arc}
use Rattle.chart.specs.declared.tables.Entry.{Entry}
use Rattle.chart.specs.Index.{of_arc, entry_of, no_entry, in_order, Listed, Sound, Whole, Ordered}

-- the order of entries
abbrev entry_cmp : Entry → Entry → Ordering
entry_cmp = then_cmp (on (λ e. e.from) nat_cmp) (then_cmp (on (λ e. e.operator) nat_cmp) (on (λ e. e.arc) nat_cmp))

by_entry : IsTotalOrder entry_cmp
by_entry = then_total (on_total (λ e. e.from) nat_cmp_total) (then_total (on_total (λ e. e.operator) nat_cmp_total) (on_total (λ e. e.arc) nat_cmp_total))

not_after : (e f : Entry) → is_lt (entry_cmp f e) ≡ false → in_order e f ≡ true
not_after e f h = grind (arith, nat_tests)

module _ (arcs : List Arc) (us es : List Entry) (l : Listed arcs (length arcs) us) (s : IsPermutation us es) where
  of_its_arc : (k : ℕ) → k < length arcs → of_arc arcs (entry_of arcs k) ≡ true
  of_its_arc k h = grind (arith, nat_tests)

  pub sound_sorted : Sound arcs es
  sound_sorted k h =
      All-permutation (λ e. of_arc arcs e ≡ true) us es s (λ i d m. let n : i < length arcs = omega (arith, l.count) in subst (λ e. of_arc arcs e ≡ true) (sym (get_or_default us i d no_entry m ∙ l.each i n)) (of_its_arc i n)) k no_entry h

  pub whole_sorted : Whole arcs es
  whole_sorted k h =
      let its = eq-eqb (get_or us k no_entry).arc k (ap (λ e. e.arc) (l.each k h)) in
      sym (list_any-IsPermutation (λ e. eqb e.arc k) us es s) ∙ list_any_at (λ e. eqb e.arc k) us k no_entry (omega (arith, l.count)) its

  pub ordered_sorted : IsSorted entry_cmp es → Ordered es
  ordered_sorted up i j h m =
      not_after (get_or es i no_entry) (get_or es j no_entry) (sorted_far (λ x y. is_lt (entry_cmp x y)) (ranks_by by_entry (λ e. e)) es up i j no_entry h m)
