-- Tables without a fault mean a task that keeps the laws. Assumes nothing.
use Rattle.std.proofs.Common.{◌≡◌, ℕ, zero, suc, ◌+◌, ◌-◌, ◌<◌, ◌≤◌, Bool, true, false, cond, eqb, ltb, List, [], ◌∷◌, length, get_or, take, drop, Some, None, Option, sym, refl, ap, ◌∙◌, ⊎_elim, arith}
use Rattle.std.proofs.lemmas.List.{get_or_default, get_or_past}
use Rattle.std.proofs.lemmas.Bool.{cases_lt, ltb-true, leb-true, both_ways}
use Rattle.std.proofs.lemmas.Bool.Decides.{nat_tests}
use Rattle.task.specs.declared.faults.Kind.{Kind}
use Rattle.task.specs.declared.faults.Kind.TheVariants.{OverLimit, OutOfRange, EstimateLaw}
use Rattle.task.specs.Model.{Lawful, AtMost}
use Rattle.chart.specs.declared.tables.Arc.{Arc}
use Rattle.chart.specs.Faults.{or_else, fault_at, fault_unless, first_failing, lengths_fit, cost_fits, end_fits, arc_fits, goal_aware, at_most, arc_lawful, start_fault, costs_fault, ends_fault, range_fault, limit_fault, table_fault, goals_fault, repeat_fault, law_fault, record_fault, chart_fault, no_arc}
use Rattle.chart.specs.Tables.{Tables, hope, estimate_of, charted, chart_names, leads, name_start, target}

pub leads_both : (a : Arc) (s o : ℕ) → leads a s o ≡ true → (a.from ≡ s) × (a.operator ≡ o)
leads_both a s o h = (grind (arith, nat_tests), grind (arith, nat_tests))

module _ (s o : ℕ) where
  -- the target t is that of an arc
  abbrev pub Led : List Arc → ℕ → Type 0
  Led arcs t = (k : ℕ) × (k < length arcs) × (leads (get_or arcs k no_arc) s o ≡ true) × ((get_or arcs k no_arc).to ≡ t)

  pub some_leads : (arcs : List Arc) (t : ℕ) → target arcs s o ≡ Some t → Led arcs t
  some_leads [] t e = absurd (grind arith)
  some_leads (a ∷ arcs) t e = go (some_leads arcs t) (leads a s o) refl
    where
      go : (target arcs s o ≡ Some t → Led arcs t) → (b : Bool) → leads a s o ≡ b → Led (a ∷ arcs) t
      go rec true f = let same : Some a.to ≡ Some t = ap (λ b. cond b (Some a.to) (target arcs s o)) (sym f) ∙ e in (0, omega arith, f, (cc))
      go rec false f = let r = rec (ap (λ b. cond b (Some a.to) (target arcs s o)) (sym f) ∙ e) in (suc r.0, omega (arith, r.1), r.2, r.3)

module _ (p : ℕ → Bool) where
  -- where none fails, each passes
  pub all_pass : (n : ℕ) → first_failing p n ≡ None → (k : ℕ) → k < n → p k ≡ true
  all_pass zero e k l = absurd (omega arith)
  all_pass (suc n) e k l = go (λ f m. all_pass n f k m) (first_failing p n) (p n) refl refl
    where
      go : (first_failing p n ≡ None → k < n → p k ≡ true) → (x : Option ℕ) (b : Bool) → first_failing p n ≡ x → p n ≡ b → p k ≡ true
      go rec (Some m) b ex eb = let bad : Some m ≡ None = ap (λ y. or_else y (cond (p n) None (Some n))) (sym ex) ∙ e in absurd (grind arith)
      go rec None false ex eb = let bad : Some n ≡ None = ap (λ c. cond c None (Some n)) (sym eb) ∙ (ap (λ y. or_else y (cond (p n) None (Some n))) (sym ex) ∙ e) in absurd (grind arith)
      go rec None true ex eb = ⊎_elim (rec ex) (λ m. let same : k ≡ n = omega arith in ap p same ∙ eb) (cases_lt k n)

module _ (es : List ℕ) (s : ℕ) where
  pub hope_past : length es ≤ s → None ≡ hope (get_or es s 4294967295)
  hope_past h = sym (ap hope (get_or_past es s 4294967295 h))

  pub hope_within : (h : ℕ) → hope (get_or es s 4294967295) ≡ Some h → (s < length es) × (h < 4294967295)
  hope_within h e = (⊎_elim (λ l. l) (λ l. absurd (past (hope_past l ∙ e))) (cases_lt s (length es)), small (get_or es s 4294967295) e)
    where
      past : None ≡ Some h → ⊥
      past e = grind arith

      small : (x : ℕ) → hope x ≡ Some h → h < 4294967295
      small x e = grind (arith, nat_tests)

neither : {A : Type 0} (x y : Option A) → or_else x y ≡ None → (x ≡ None) × (y ≡ None)
neither None y e = (refl, e)
neither (Some x) y e = absurd (grind arith)

no_place : (k : Kind) (x : Option ℕ) → fault_at k x ≡ None → x ≡ None
no_place k None e = refl
no_place k (Some n) e = absurd (grind arith)

passed : (k : Kind) (b : Bool) → fault_unless k b ≡ None → b ≡ true
passed k true e = refl
passed k false e = absurd (grind arith)

-- what the checks of tables without a fault have found
pub record Passed (t : Tables) : Type 0 where
  pub lengths : lengths_fit t ≡ true
  pub start : t.start < length t.goals
  pub costs : (k : ℕ) → k < length t.costs → cost_fits (get_or t.costs k 0) ≡ true
  pub ends : (k : ℕ) → k < length t.ends → end_fits (length t.text) t.ends k ≡ true
  pub arcs : (k : ℕ) → k < length t.arcs → arc_fits (length t.goals) (length t.costs) (get_or t.arcs k no_arc) ≡ true
  pub goals : (k : ℕ) → k < length t.goals → goal_aware t.goals t.estimates k ≡ true
  pub laws : (k : ℕ) → k < length t.arcs → arc_lawful t (get_or t.arcs k no_arc) ≡ true

pub no_fault_passed : (t : Tables) → chart_fault t ≡ None → Passed t
no_fault_passed t e =
    let all = neither (table_fault t) (record_fault t) e in
    let tabled = neither (limit_fault t) (range_fault t) all.0 in
    let starts = neither (start_fault t) _ tabled.1 in
    let priced = neither (costs_fault t) _ starts.1 in
    let ended = neither (ends_fault t) _ priced.1 in
    let lawful = (neither (repeat_fault t) (law_fault t) all.1).1 in
    let aware = neither (goals_fault t) _ lawful in
    record {
      lengths = passed OverLimit (lengths_fit t) tabled.0;
      start = ltb-true t.start (length t.goals) (passed OutOfRange (ltb t.start (length t.goals)) starts.0);
      costs = all_pass (λ o. cost_fits (get_or t.costs o 0)) (length t.costs) (no_place OutOfRange _ priced.0);
      ends = all_pass (end_fits (length t.text) t.ends) (length t.ends) (no_place OutOfRange _ ended.0);
      arcs = all_pass (λ k. arc_fits (length t.goals) (length t.costs) (get_or t.arcs k no_arc)) (length t.arcs) (no_place OutOfRange _ ended.1);
      goals = all_pass (goal_aware t.goals t.estimates) (length t.goals) (no_place EstimateLaw _ aware.0);
      laws = all_pass (λ k. arc_lawful t (get_or t.arcs k no_arc)) (length t.arcs) (no_place EstimateLaw _ aware.1);
    }

-- the lengths of tables within the limits
pub record Lengths (t : Tables) : Type 0 where
  pub states : (1 ≤ length t.goals) × (length t.goals ≤ 65535)
  pub estimates : length t.estimates ≡ length t.goals
  pub operators : length t.costs ≤ 4096
  pub ends : length t.ends ≡ length t.costs
  pub arcs : length t.arcs ≤ 65535

pub lengths_known : (t : Tables) → lengths_fit t ≡ true → Lengths t
lengths_known t e =
    record {
      states = (grind (arith, nat_tests), grind (arith, nat_tests));
      estimates = grind (arith, nat_tests);
      operators = grind (arith, nat_tests);
      ends = grind (arith, nat_tests);
      arcs = grind (arith, nat_tests);
    }

at_most_holds : (g : Option ℕ) (c : ℕ) (h : Option ℕ) → at_most g c h ≡ true → AtMost g c h
at_most_holds (Some g) c (Some h) e = leb-true g (c + h) e
at_most_holds None c (Some h) e = absurd (grind arith)
at_most_holds (Some g) c None e = tt
at_most_holds None c None e = tt

cost_known : (c : ℕ) → cost_fits c ≡ true → (1 ≤ c) × (c ≤ 1000000)
cost_known c e = (grind (arith, nat_tests), grind (arith, nat_tests))

arc_known : (n m : ℕ) (a : Arc) → arc_fits n m a ≡ true → (a.from < n) × (a.operator < m) × (a.to < n)
arc_known n m a e = (grind (arith, nat_tests), grind (arith, nat_tests), grind (arith, nat_tests))

goal_known : (b : Bool) (e : ℕ) → cond b (eqb e 0) true ≡ true → b ≡ true → e ≡ 0
goal_known b e h k = grind (arith, nat_tests)

module _ (t : Tables) (p : Passed t) where
  moves_within : (s o u : ℕ) → (charted t).move s o ≡ Some u → (s < length t.goals) × (o < length t.costs) × (u < length t.goals)
  moves_within s o u e =
      let w = some_leads s o t.arcs u e in
      let b = leads_both (get_or t.arcs w.0 no_arc) s o w.2 in
      let k = arc_known _ _ (get_or t.arcs w.0 no_arc) (p.arcs w.0 w.1) in
      (omega (arith, k.0, b.0), omega (arith, k.1, b.1), omega (arith, k.2, w.3))

  goal_within : (s : ℕ) → get_or t.goals s false ≡ true → s < length t.goals
  goal_within s e = ⊎_elim (λ l. l) (λ l. absurd (both_ways (get_or t.goals s false) (get_or_past t.goals s false l) e)) (cases_lt s (length t.goals))

  goal_estimate : (s : ℕ) → get_or t.goals s false ≡ true → estimate_of t s ≡ Some 0
  goal_estimate s e =
      let l = goal_within s e in
      let zero = goal_known (get_or t.goals s false) (get_or t.estimates s 0) (p.goals s l) e in
      ap hope (get_or_default t.estimates s 4294967295 0 (omega (arith, (lengths_known t p.lengths).estimates)) ∙ zero)

  consistent_arc : (s o u : ℕ) → (charted t).move s o ≡ Some u → AtMost (estimate_of t s) (get_or t.costs o 0) (estimate_of t u)
  consistent_arc s o u e =
      let w = some_leads s o t.arcs u e in
      let a = get_or t.arcs w.0 no_arc in
      let b = leads_both a s o w.2 in
      at_most_holds (estimate_of t s) (get_or t.costs o 0) (estimate_of t u)
      (ap (λ n. at_most (estimate_of t n) (get_or t.costs o 0) (estimate_of t u)) (sym b.0)
      ∙ (ap (λ n. at_most (estimate_of t a.from) (get_or t.costs n 0) (estimate_of t u)) (sym b.1)
      ∙ (ap (λ n. at_most (estimate_of t a.from) (get_or t.costs a.operator 0) (estimate_of t n)) (sym w.3) ∙ p.laws w.0 w.1)))

  pub charted_lawful : Lawful (charted t)
  charted_lawful =
      let n = lengths_known t p.lengths in
      record {
        few = omega (arith, n.operators);
        priced = λ o h. cost_known (get_or t.costs o 0) (p.costs o h);
        unpriced = λ o h. get_or_past t.costs o 0 h;
        wide = (n.states.0, omega (arith, n.states.1));
        starts = p.start;
        moves = moves_within;
        inside = goal_within;
        estimates = λ s h e. let w = hope_within t.estimates s h e in (omega (arith, w.0, n.estimates), omega (arith, w.1));
        aware = goal_estimate;
        consistent = consistent_arc;
      }

  pub charted_nameless : (o : ℕ) → length t.costs ≤ o → (chart_names t).name o ≡ []
  charted_nameless o h =
      let past = get_or_past t.ends o 0 (omega (arith, (lengths_known t p.lengths).ends)) in
      ap (λ n. take (n - name_start t.ends o) (drop (name_start t.ends o) t.text)) past
      ∙ ap (λ n. take n (drop (name_start t.ends o) t.text)) (zero_less (name_start t.ends o))
    where
      zero_less : (n : ℕ) → 0 - n ≡ 0
      zero_less n = omega arith
