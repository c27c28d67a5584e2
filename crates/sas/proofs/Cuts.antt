-- The records in use of tables, cut from them. Assumes nothing.
use Rattle.std.proofs.Common.{◌≡◌, ℕ, ◌+◌, ◌-◌, ◌<◌, ◌≤◌, Bool, true, List, [], ◌∷◌, length, take, drop, map, Some, None, Option, sym, refl, ap, ◌∙◌, subst, subst₂, arith}
use Rattle.std.specs.Borrow.{Bor}
use Rattle.std.specs.List.{list_all, slice_get}
use Rattle.std.specs.Option.{MatchOption}
use Rattle.std.specs.Slice.{IsGetRangeResult}
use Rattle.std.proofs.lemmas.List.{length-take-le, take-take, drop-take}
use Rattle.task.specs.Listing.{Each}
use Rattle.task.proofs.Members.{each_take, each_weaker}
use Rattle.sas.specs.declared.in_use.InUse.{InUse}
use Rattle.sas.specs.declared.tables.Variable.{Variable}
use Rattle.sas.specs.declared.tables.Condition.{Condition}
use Rattle.sas.specs.declared.tables.Operator.{Operator}
use Rattle.sas.specs.States.{spanned}
use Rattle.sas.specs.Tables.{Tables, InRange, ConditionFits, OperatorFits, action_of, name_of, part, sizes_of, sas_of, names_of, used_operators}
use Rattle.sas.specs.Values.{sizes}
use Rattle.sas.specs.Checks.{product, condition_fits, operator_fits}
use Rattle.sas.specs.Found.{OperatorWithin, SizesFit, decides_each, decides_condition, decides_operator, fit_product}
use Rattle.sas.specs.Meaning.{sas_in, names_in, UseOf}
use Rattle.sas.specs.Makes.{sizes_in, span_in, conditions_in, operators_in}

-- the records in use are the first ones, as many as are in use
pub record Cut (t : Tables) (vs : List Variable) (os : List Operator) (cs gs : List Condition) : Type 0 where
  pub variables : (t.used.variables ≤ length t.variables) × (vs ≡ take t.used.variables t.variables)
  pub operators : (t.used.operators ≤ length t.operators) × (os ≡ take t.used.operators t.operators)
  pub conditions : (t.used.conditions ≤ length t.conditions) × (cs ≡ take t.used.conditions t.conditions)
  pub goal : (t.used.goal ≤ length cs) × (gs ≡ take t.used.goal cs)

pub none_there : {A : Type 0} {r : Option A} (P : Type 0) (Q : A → Type 0) → r ≡ None → P → MatchOption r P Q
none_there P Q e p = subst (λ r. MatchOption r P Q) (sym e) p

front : {A : Type 0} (xs : List A) (n : ℕ) (x : Bor (List A)) → IsGetRangeResult xs 0 n (Some x) → (n ≤ length xs) × (x.now ≡ take n xs)
front xs n x h = (h.0.1, h.0.2 ∙ (let same : n - 0 ≡ n = omega arith in ap (λ m. take m xs) same))

pub cut_from : (t : Tables) (vs : Bor (List Variable)) (os : Bor (List Operator)) (cs gs : Bor (List Condition)) → IsGetRangeResult t.variables 0 t.used.variables (Some vs) → IsGetRangeResult t.operators 0 t.used.operators (Some os) → IsGetRangeResult t.conditions 0 t.used.conditions (Some cs) → IsGetRangeResult cs.now 0 t.used.goal (Some gs) → Cut t vs.now os.now cs.now gs.now
cut_from t vs os cs gs v o c g =
    record {
      variables = front t.variables t.used.variables vs v;
      operators = front t.operators t.used.operators os o;
      conditions = front t.conditions t.used.conditions cs c;
      goal = front cs.now t.used.goal gs g;
    }

-- a test that all pass is passed by the first of them
pub all_take : {A : Type 0} (p : A → Bool) (n : ℕ) (xs : List A) → list_all p xs ≡ true → list_all p (take n xs) ≡ true
all_take p n xs e =
    let d = decides_each p (λ x. p x ≡ true) (λ x. (λ h. h, λ h. h)) in
    (d (take n xs)).1 (each_take (λ x. p x ≡ true) n xs ((d xs).0 e))

module _ (t : Tables) (vs : List Variable) (os : List Operator) (cs gs : List Condition) (k : Cut t vs os cs gs) where
  sizes_cut : sizes vs ≡ sizes_of t
  sizes_cut = ap sizes k.variables.1

  conditions_count : length cs ≡ t.used.conditions
  conditions_count = ap length k.conditions.1 ∙ length-take-le t.used.conditions t.conditions k.conditions.0

  -- what tables in range pass
  module _ (r : InRange t) where
    pub range_product : product 1 (sizes vs) ≡ Some (spanned (sizes vs))
    range_product = fit_product (sizes vs) (subst SizesFit (sym sizes_cut) (record { sizes = r.sizes; small = r.span }))

    pub range_starts : t.used.start < spanned (sizes vs)
    range_starts = omega (arith, r.start, ap spanned sizes_cut)

    pub range_conditions : list_all (condition_fits (sizes vs)) cs ≡ true
    range_conditions = (decides_each _ _ (decides_condition (sizes vs)) cs).1 (subst₂ (λ ns l. Each (ConditionFits ns) l) (sym sizes_cut) (sym k.conditions.1) r.each_condition)

    pub range_operators : list_all (operator_fits (length t.bytes) (length cs)) os ≡ true
    range_operators =
        (decides_each _ _ (decides_operator (length t.bytes) (length cs)) os).1
        (subst (Each (OperatorWithin (length t.bytes) (length cs))) (sym k.operators.1)
        (each_weaker (OperatorFits t) (OperatorWithin (length t.bytes) (length cs)) (λ o f. record { named = f.named; placed = omega (arith, f.placed, conditions_count); priced = f.priced }) (used_operators t) r.each_operator))

-- operators whose conditions are among the first n need no more of them
same_actions : (bytes n : ℕ) (cs : List Condition) (os : List Operator) → Each (OperatorWithin bytes n) os → map (action_of (take n cs)) os ≡ map (action_of cs) os
same_actions bytes n cs [] e = refl
same_actions bytes n cs (o ∷ os) e =
    let same : part (take n cs) o.first o.count ≡ part cs o.first o.count = sym (drop-take o.first o.count (take n cs)) ∙ (ap (drop o.first) (take-take (o.first + o.count) n cs e.0.placed) ∙ drop-take o.first o.count cs) in
    ap (λ p. record { conditions = p; cost = o.cost } ∷ map (action_of (take n cs)) os) same ∙ ap (λ l. action_of cs o ∷ l) (same_actions bytes n cs os e.1)

-- records that were cut from tables are in use of them
module _ (t : Tables) (u : InUse) (k : Cut t u.variables.now u.operators.now u.conditions.now u.goal.now) (bytes : u.bytes.now ≡ t.bytes) (start : u.start ≡ t.used.start) (unit : u.unit_cost ≡ t.used.unit_cost) where
  sizes_same : sizes u.variables.now ≡ sizes_of t
  sizes_same = sizes_cut t _ _ _ _ k

  count_same : length u.conditions.now ≡ t.used.conditions
  count_same = conditions_count t _ _ _ _ k

  cut_in_range : InRange t
  cut_in_range =
      let variables = ap length k.variables.1 ∙ length-take-le t.used.variables t.variables k.variables.0 in
      let operators = ap length k.operators.1 ∙ length-take-le t.used.operators t.operators k.operators.0 in
      record {
        variables = (omega (arith, u.some_variables, variables), omega (arith, u.few_variables, variables), k.variables.0);
        operators = (omega (arith, u.few_operators, operators), k.operators.0);
        conditions = (omega (arith, k.goal.0, count_same), k.conditions.0);
        sizes = subst (Each (λ n. (1 ≤ n) × (n ≤ 1000))) sizes_same (sizes_in u).sizes;
        span = omega (arith, (sizes_in u).small, ap spanned sizes_same);
        start = omega (arith, u.starts, span_in u, start, ap spanned sizes_same);
        each_condition = subst₂ (λ ns l. Each (ConditionFits ns) l) sizes_same k.conditions.1 (conditions_in u);
        each_operator = subst (Each (OperatorFits t)) k.operators.1
            (each_weaker (OperatorWithin (length u.bytes.now) (length u.conditions.now)) (OperatorFits t) (λ o w. record { named = omega (arith, w.named, ap length bytes); placed = omega (arith, w.placed, count_same); priced = w.priced }) u.operators.now (operators_in u));
      }

  task_same : sas_in u ≡ sas_of t
  task_same =
      let goal = k.goal.1 ∙ (ap (take t.used.goal) k.conditions.1 ∙ take-take t.used.goal t.used.conditions t.conditions (omega (arith, k.goal.0, count_same))) in
      let within = subst (λ n. Each (OperatorWithin (length u.bytes.now) n) u.operators.now) count_same (operators_in u) in
      let actions = ap (λ l. map (action_of l) u.operators.now) k.conditions.1 ∙ (same_actions _ t.used.conditions t.conditions u.operators.now within ∙ ap (map (action_of t.conditions)) k.operators.1) in
      ap (λ ns. record { sizes = ns; start = u.start; goal = u.goal.now; actions = (sas_in u).actions }) sizes_same
      ∙ (ap (λ s. record { sizes = sizes_of t; start = s; goal = u.goal.now; actions = (sas_in u).actions }) start
      ∙ (ap (λ l. record { sizes = sizes_of t; start = t.used.start; goal = l; actions = (sas_in u).actions }) goal
      ∙ ap (λ l. record { sizes = sizes_of t; start = t.used.start; goal = take t.used.goal t.conditions; actions = l }) actions))

  names_same : names_in u ≡ names_of t
  names_same =
      ap (λ bs. record { name = λ o. name_of bs (slice_get u.operators.now o); unit = u.unit_cost }) bytes
      ∙ (ap (λ os. record { name = λ o. name_of t.bytes (slice_get os o); unit = u.unit_cost }) k.operators.1 ∙ ap (λ b. record { name = λ o. name_of t.bytes (slice_get (used_operators t) o); unit = b }) unit)

  pub cut_use : UseOf t u
  cut_use = record { range = cut_in_range; task = task_same; names = names_same }
