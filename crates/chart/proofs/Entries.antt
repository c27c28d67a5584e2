-- Entries in order, and what an index says of the arcs. Assumes nothing.
use Rattle.std.proofs.Common.{◌≡◌, ℕ, ◌+◌, ◌<◌, ◌≤◌, Bool, true, false, eqb, List, length, get_or, Some, None, sym, refl, ap, ◌∙◌, subst, ⊎_elim, arith}
use Rattle.std.specs.Bool.{then_some}
use Rattle.std.specs.List.Sorted.{IsPartitionedBy, IsPartitionPoint}
use Rattle.std.proofs.lemmas.List.{get_or_default}
use Rattle.std.proofs.lemmas.List.Folds.{Any-from_list_any}
use Rattle.std.proofs.lemmas.Bool.{cases_lt, eqb-true}
use Rattle.std.proofs.lemmas.Bool.Decides.{nat_tests}
use Rattle.chart.specs.declared.tables.Arc.{Arc}
use Rattle.chart.specs.declared.tables.Entry.{Entry}
use Rattle.chart.specs.Faults.{no_arc}
use Rattle.chart.specs.Index.{before, in_order, of_arc, entered, no_entry, Ordered, Indexed, Bound, NextArc}
use Rattle.chart.specs.Lawful.{leads_both}
use Rattle.chart.specs.Tables.{leads, target}
use Rattle.chart.proofs.Targets.{target_none}

-- what stands no later than an entry before a place stands before it too
pub before_earlier : (e f : Entry) (s o : ℕ) → in_order e f ≡ true → before f s o ≡ true → before e s o ≡ true
before_earlier e f s o h k = grind (arith, nat_tests)

pub before_later : (e f : Entry) (s o : ℕ) → in_order e f ≡ true → before e s o ≡ false → before f s o ≡ false
before_later e f s o h k = grind (arith, nat_tests)

pub both_lead : (a : Arc) (s o : ℕ) → a.from ≡ s → a.operator ≡ o → leads a s o ≡ true
both_lead a s o e f = grind (arith, nat_tests)

of_arc_facts : (arcs : List Arc) (e : Entry) → of_arc arcs e ≡ true → (e.arc < length arcs) × (e.from ≡ (get_or arcs e.arc no_arc).from) × (e.operator ≡ (get_or arcs e.arc no_arc).operator)
of_arc_facts arcs e h = (grind (arith, nat_tests), grind (arith, nat_tests), grind (arith, nat_tests))

-- some entry is of arc j
abbrev Enters : List Entry → ℕ → Type 0
Enters es j = (k : ℕ) × (k < length es) × ((get_or es k no_entry).arc ≡ j)

entered_some : (es : List Entry) (j : ℕ) → entered es j ≡ true → Enters es j
entered_some es j h =
    let w = Any-from_list_any (λ e. eqb e.arc j) es h in
    (w.0, w.2, ap (λ e. e.arc) (get_or_default es w.0 no_entry w.1 w.2 ∙ w.3) ∙ eqb-true w.1.arc j w.4)

module _ (arcs : List Arc) (es : List Entry) (x : Indexed arcs es) where
  facts : (k : ℕ) → k < length es → ((get_or es k no_entry).arc < length arcs) × ((get_or es k no_entry).from ≡ (get_or arcs (get_or es k no_entry).arc no_arc).from) × ((get_or es k no_entry).operator ≡ (get_or arcs (get_or es k no_entry).arc no_arc).operator)
  facts k l = of_arc_facts arcs (get_or es k no_entry) (x.sound k l)

  -- an arc that leads has an entry
  entry_found : (s o j : ℕ) → j < length arcs → leads (get_or arcs j no_arc) s o ≡ true → (k : ℕ) × (k < length es) × ((get_or es k no_entry).arc ≡ j) × ((get_or es k no_entry).from ≡ s) × ((get_or es k no_entry).operator ≡ o)
  entry_found s o j l e =
      let w = entered_some es j (x.whole j l) in
      let f = facts w.0 w.1 in
      let b = leads_both (get_or arcs j no_arc) s o e in
      (w.0, w.1, w.2, f.1 ∙ (ap (λ n. (get_or arcs n no_arc).from) w.2 ∙ b.0), f.2 ∙ (ap (λ n. (get_or arcs n no_arc).operator) w.2 ∙ b.1))

  no_lead : (s o j : ℕ) → j < length arcs → ((k : ℕ) → k < length es → (get_or es k no_entry).arc ≡ j → (get_or es k no_entry).from ≡ s → (get_or es k no_entry).operator ≡ o → ⊥) → leads (get_or arcs j no_arc) s o ≡ false
  no_lead s o j l h = go (leads (get_or arcs j no_arc) s o) refl
    where
      go : (b : Bool) → leads (get_or arcs j no_arc) s o ≡ b → leads (get_or arcs j no_arc) s o ≡ false
      go true e = let w = entry_found s o j l e in absurd (h w.0 w.1 w.2 w.3 w.4)
      go false e = e

  no_target : (s o : ℕ) → ((k : ℕ) → k < length es → (get_or es k no_entry).from ≡ s → (get_or es k no_entry).operator ≡ o → ⊥) → target arcs s o ≡ None
  no_target s o h = target_none s o arcs (λ j l. no_lead s o j l (λ k m e. h k m))

  module _ (s from r : ℕ) (b : Bound es s from r) where
    -- an entry of the state and an operator numbered `from` or more stands at the bound or later
    not_below : (k o : ℕ) → (get_or es k no_entry).from ≡ s → (get_or es k no_entry).operator ≡ o → from ≤ o → r ≤ k
    not_below k o e f l = ⊎_elim (λ m. absurd (let t = b.below k m in grind (arith, nat_tests))) (λ m. m) (cases_lt k r)

    pub none_at_end : length es ≤ r → (o : ℕ) → from ≤ o → target arcs s o ≡ None
    none_at_end h o l = no_target s o (λ k m e f. omega (arith, not_below k o e f l))

    pub none_elsewhere : r < length es → ((get_or es r no_entry).from ≡ s → ⊥) → (o : ℕ) → from ≤ o → target arcs s o ≡ None
    none_elsewhere h n o l =
        no_target s o (λ k m e f.
        let up = not_below k o e f l in
        let i = x.ordered r k up m in
        let a = b.above r (omega arith) h in
        let same : (get_or es r no_entry).from ≡ s = grind (arith, nat_tests) in
        n same)

    pub next_found : r < length es → (get_or es r no_entry).from ≡ s → NextArc arcs s from (Some (get_or es r no_entry).arc)
    next_found h at_state =
        ((facts r h).0, sym (facts r h).1 ∙ at_state, low, (λ k l. no_lead s (get_or arcs (get_or es r no_entry).arc no_arc).operator k (omega (arith, (facts r h).0)) (λ i m ea ef eo. earlier k l i m ea ef eo)), (λ o l m. no_target s o (λ k n ef eo. between o l m k n ef eo)))
      where
        low : from ≤ (get_or arcs (get_or es r no_entry).arc no_arc).operator
        low = let a = b.above r (omega arith) h in let q = at_state in let o = (facts r h).2 in grind (arith, nat_tests)

        earlier : (k : ℕ) → k < (get_or es r no_entry).arc → (i : ℕ) → i < length es → (get_or es i no_entry).arc ≡ k → (get_or es i no_entry).from ≡ s → (get_or es i no_entry).operator ≡ (get_or arcs (get_or es r no_entry).arc no_arc).operator → ⊥
        earlier k l i m ea ef eo =
            let up = not_below i _ ef eo low in
            let i' = x.ordered r i up m in
            let q = at_state in
            let o = (facts r h).2 in
            grind (arith, nat_tests)

        between : (o : ℕ) → from ≤ o → o < (get_or arcs (get_or es r no_entry).arc no_arc).operator → (k : ℕ) → k < length es → (get_or es k no_entry).from ≡ s → (get_or es k no_entry).operator ≡ o → ⊥
        between o l m k n ef eo =
            let up = not_below k o ef eo l in
            let i = x.ordered r k up n in
            let q = at_state in
            let p = (facts r h).2 in
            grind (arith, nat_tests)

    -- the arc of the entry at the bound, if that is of the state
    pub next_at : r < length es → (e : Entry) → e ≡ get_or es r no_entry → NextArc arcs s from (then_some (eqb e.from s) e.arc)
    next_at h e same = subst (λ e. NextArc arcs s from (then_some (eqb e.from s) e.arc)) (sym same) (go (eqb (get_or es r no_entry).from s) refl)
      where
        go : (c : Bool) → eqb (get_or es r no_entry).from s ≡ c → NextArc arcs s from (then_some c (get_or es r no_entry).arc)
        go true f = next_found h (eqb-true (get_or es r no_entry).from s f)
        go false f = none_elsewhere h (λ g. grind (arith, nat_tests, f, g))

module _ (es : List Entry) (u : Ordered es) (s o m : ℕ) where
  pub all_before : m < length es → before (get_or es m no_entry) s o ≡ true → (k : ℕ) → k < m + 1 → before (get_or es k no_entry) s o ≡ true
  all_before h e k l = before_earlier (get_or es k no_entry) (get_or es m no_entry) s o (u k m (omega arith) h) e

  pub none_before : before (get_or es m no_entry) s o ≡ false → (k : ℕ) → m ≤ k → k < length es → before (get_or es k no_entry) s o ≡ false
  none_before e k l h = before_later (get_or es m no_entry) (get_or es k no_entry) s o (u m k l h) e

module _ (es : List Entry) (u : Ordered es) (s o : ℕ) where
  -- those before a state and an operator stand before the others
  pub parted : IsPartitionedBy (λ e. before e s o) es
  parted i j d l h e =
      let at_j = subst (λ f. before f s o ≡ true) (get_or_default es j d no_entry h) e in
      subst (λ f. before f s o ≡ true) (get_or_default es i no_entry d (omega arith)) (before_earlier (get_or es i no_entry) (get_or es j no_entry) s o (u i j l h) at_j)

  pub bound_found : (r : ℕ) → r ≤ length es → IsPartitionPoint (λ e. before e s o ≡ true) (λ e. before e s o ≡ false) es r → Bound es s o r
  bound_found r h p = record { within = h; below = λ k l. p.0 k no_entry (omega arith) l; above = λ k l m. p.1 k no_entry l m }
