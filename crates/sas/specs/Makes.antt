-- What tables in range and records in use are known to hold, and what a SasTask made of them is. Assumes nothing.
use Rattle.std.proofs.Common.{◌≡◌, ℕ, ◌+◌, ◌<◌, ◌≤◌, List, [], length, get_or, take, Some, None, Option, unwrap_or, refl, sym, ap, ◌∙◌, subst, subst₂, arith}
use Rattle.std.specs.List.{slice_get}
use Rattle.std.specs.Option.{MatchOption, option_map, option_map_or}
use Rattle.std.proofs.lemmas.List.{length-map, length-take, length-take-le, get_or-take, take_all, take-take, drop-take}
use Rattle.std.proofs.lemmas.Option.{none-some, slice_get-get_or, slice_get-map, slice_get_past}
use Rattle.task.specs.Listing.{Each}
use Rattle.task.specs.Model.{Lawful}
use Rattle.task.specs.Nothing.{nothing, no_names}
use Rattle.task.proofs.Members.{each_at, each_take, each-drop, each_weaker, each_map}
use Rattle.task.proofs.Nothing.{nothing_lawful}
use Rattle.sas.specs.declared.in_use.InUse.{InUse}
use Rattle.sas.specs.declared.shape.SasTask.{SasTask}
use Rattle.sas.specs.declared.tables.Operator.{Operator}
use Rattle.sas.specs.Tables.{Tables, InRange, ConditionFits, OperatorFits, part, sizes_of, used_operators, action_of, name_of, sas_of, names_of}
use Rattle.sas.specs.Checks.{range}
use Rattle.sas.specs.Fits.{ActionFits, SasFits}
use Rattle.sas.specs.States.{spanned}
use Rattle.sas.specs.Values.{sizes}
use Rattle.sas.specs.Meaning.{sas_in, meaning_in, names_in, tables_in, no_tables, tables_of, UseOf, Made, task_meaning, task_names}
use Rattle.sas.specs.Found.{OperatorWithin, SizesFit, decides_each, decides_condition, decides_operator, product_fits, found_in_range, in_range_found}
use Rattle.sas.specs.Sas.{meant}
use Rattle.sas.specs.Lawful.{meant_lawful}

abbrev pub no_operator : Operator
no_operator = record { name = 0; name_length = 0; first = 0; count = 0; cost = 0 }

-- a part of the first n elements
pub each_part : {A : Type 0} (P : A → Type 0) (xs : List A) (n first count : ℕ) → first + count ≤ n → Each P (take n xs) → Each P (part xs first count)
each_part P xs n first count h e =
    let front = subst (Each P) (take-take (first + count) n xs h) (each_take P (first + count) (take n xs) e) in
    subst (Each P) (drop-take first count xs) (each-drop P first (take (first + count) xs) front)

-- tables in range hold a task within the limits, which keeps the laws
module _ (t : Tables) (r : InRange t) where
  pub operators_count : length (used_operators t) ≡ t.used.operators
  operators_count = length-take-le t.used.operators t.operators r.operators.1

  pub actions_count : length (sas_of t).actions ≡ t.used.operators
  actions_count = length-map (used_operators t) (action_of t.conditions) ∙ operators_count

  -- an operator in use is that of the table, with its action, and fits
  module _ (o : ℕ) (h : o < t.used.operators) where
    pub used_operator : get_or (used_operators t) o no_operator ≡ get_or t.operators o no_operator
    used_operator = get_or-take t.used.operators t.operators o no_operator h

    pub operator_there : slice_get (used_operators t) o ≡ Some (get_or t.operators o no_operator)
    operator_there = slice_get-get_or (used_operators t) o no_operator (omega (arith, operators_count)) ∙ ap Some used_operator

    pub action_there : slice_get (sas_of t).actions o ≡ Some (action_of t.conditions (get_or t.operators o no_operator))
    action_there = slice_get-map (action_of t.conditions) (used_operators t) o ∙ ap (option_map (action_of t.conditions)) operator_there

    pub operator_fits_there : OperatorFits t (get_or t.operators o no_operator)
    operator_fits_there = subst (OperatorFits t) used_operator (each_at (OperatorFits t) (used_operators t) o no_operator (omega (arith, operators_count)) r.each_operator)

    pub action_fits : Each (ConditionFits (sizes_of t)) (action_of t.conditions (get_or t.operators o no_operator)).conditions
    action_fits =
        let op = get_or t.operators o no_operator in
        each_part (ConditionFits (sizes_of t)) t.conditions t.used.conditions op.first op.count operator_fits_there.placed r.each_condition

  -- behind those in use there is none
  module _ (o : ℕ) (h : t.used.operators ≤ o) where
    pub action_past : slice_get (sas_of t).actions o ≡ None
    action_past = slice_get_past (sas_of t).actions o (omega (arith, actions_count))

    pub operator_past : slice_get (used_operators t) o ≡ None
    operator_past = slice_get_past (used_operators t) o (omega (arith, operators_count))

  pub in_range_fits : SasFits (sas_of t)
  in_range_fits =
      record {
        sized = each_weaker (λ n. (1 ≤ n) × (n ≤ 1000)) (λ n. 1 ≤ n) (λ n p. p.0) (sizes_of t) r.sizes;
        small = r.span;
        starts = r.start;
        goal = subst (Each (ConditionFits (sizes_of t))) (take-take t.used.goal t.used.conditions t.conditions r.conditions.0) (each_take (ConditionFits (sizes_of t)) t.used.goal (take t.used.conditions t.conditions) r.each_condition);
        few = omega (arith, actions_count, r.operators.0);
        actions = each_map (action_of t.conditions) (ActionFits (sizes_of t)) (used_operators t) (each_weaker _ _ action_fits (used_operators t) r.each_operator);
      }
    where
      action_fits : (o : Operator) → OperatorFits t o → ActionFits (sizes_of t) (action_of t.conditions o)
      action_fits o w = record { fit = each_part (ConditionFits (sizes_of t)) t.conditions t.used.conditions o.first o.count w.placed r.each_condition; priced = w.priced }

  pub in_range_lawful : Lawful (meant (sas_of t))
  in_range_lawful = meant_lawful (sas_of t) in_range_fits

  -- and has no name beyond its operators
  pub in_range_nameless : (o : ℕ) → (meant (sas_of t)).operators ≤ o → (names_of t).name o ≡ []
  in_range_nameless o h = ap (name_of t.bytes) (slice_get_past (used_operators t) o (omega (arith, length-map (used_operators t) (action_of t.conditions), h)))

-- all elements, as many as there are
whole : {A : Type 0} (xs : List A) → take (length xs) xs ≡ xs
whole xs = take_all (length xs) xs (omega arith)

module _ (u : InUse) where
  pub sizes_in : SizesFit (sizes u.variables.now)
  sizes_in = (product_fits (sizes u.variables.now) u.span u.spans).0

  pub span_in : u.span ≡ (meaning_in u).span
  span_in = (product_fits (sizes u.variables.now) u.span u.spans).1

  pub conditions_in : Each (ConditionFits (sizes u.variables.now)) u.conditions.now
  conditions_in = (decides_each _ _ (decides_condition (sizes u.variables.now)) u.conditions.now).0 u.conditions_fit

  pub goal_in : Each (ConditionFits (sizes u.variables.now)) u.goal.now
  goal_in = (decides_each _ _ (decides_condition (sizes u.variables.now)) u.goal.now).0 u.goal_fits

  pub operators_in : Each (OperatorWithin (length u.bytes.now) (length u.conditions.now)) u.operators.now
  operators_in = (decides_each _ _ (decides_operator (length u.bytes.now) (length u.conditions.now)) u.operators.now).0 u.operators_fit

  pub in_use_fits : SasFits (sas_in u)
  in_use_fits =
      record {
        sized = each_weaker (λ n. (1 ≤ n) × (n ≤ 1000)) (λ n. 1 ≤ n) (λ n p. p.0) (sizes u.variables.now) sizes_in.sizes;
        small = sizes_in.small;
        starts = omega (arith, u.starts, span_in);
        goal = goal_in;
        few = omega (arith, length-map u.operators.now (action_of u.conditions.now), u.few_operators);
        actions = each_map (action_of u.conditions.now) (ActionFits (sizes u.variables.now)) u.operators.now (each_weaker _ _ action_fits u.operators.now operators_in);
      }
    where
      action_fits : (o : Operator) → OperatorWithin (length u.bytes.now) (length u.conditions.now) o → ActionFits (sizes u.variables.now) (action_of u.conditions.now o)
      action_fits o w =
          record {
            fit = each_take _ o.count _ (each-drop _ o.first u.conditions.now conditions_in);
            priced = w.priced;
          }

  pub in_use_lawful : Lawful (meaning_in u)
  in_use_lawful = meant_lawful (sas_in u) in_use_fits

  pub in_use_nameless : (o : ℕ) → (meaning_in u).operators ≤ o → (names_in u).name o ≡ []
  in_use_nameless o h = ap (name_of u.bytes.now) (slice_get_past u.operators.now o (omega (arith, length-map u.operators.now (action_of u.conditions.now), h)))

  -- as tables the records in use are in range, and hold the same task and names
  sizes_whole : sizes u.variables.now ≡ sizes_of (tables_in u)
  sizes_whole = ap sizes (sym (whole u.variables.now))

  in_use_range : InRange (tables_in u)
  in_use_range =
      record {
        variables = (u.some_variables, u.few_variables, omega arith);
        operators = (u.few_operators, omega arith);
        conditions = (omega (arith, ap length u.goal_first, length-take (length u.goal.now) u.conditions.now), omega arith);
        sizes = subst (Each (λ n. (1 ≤ n) × (n ≤ 1000))) sizes_whole sizes_in.sizes;
        span = omega (arith, sizes_in.small, ap spanned sizes_whole);
        start = omega (arith, u.starts, span_in, ap spanned sizes_whole);
        each_condition = subst₂ (λ ns l. Each (ConditionFits ns) l) sizes_whole (sym (whole u.conditions.now)) conditions_in;
        each_operator = subst (Each (OperatorFits (tables_in u))) (sym (whole u.operators.now)) (each_weaker _ (OperatorFits (tables_in u)) (λ o w. record { named = w.named; placed = w.placed; priced = w.priced }) u.operators.now operators_in);
      }

  task_whole : sas_in u ≡ sas_of (tables_in u)
  task_whole = cc (sizes_whole, u.goal_first, whole u.operators.now)

  names_whole : names_in u ≡ names_of (tables_in u)
  names_whole = simp whole

  pub in_use_of : UseOf (tables_in u) u
  in_use_of = record { range = in_use_range; task = task_whole; names = names_whole }

pub task_lawful : (s : SasTask) → Lawful (task_meaning s)
task_lawful s = go s.in_use
  where
    go : (o : Option InUse) → Lawful (option_map_or meaning_in o nothing)
    go None = nothing_lawful
    go (Some u) = in_use_lawful u

pub task_nameless : (s : SasTask) (o : ℕ) → (task_meaning s).operators ≤ o → (task_names s).name o ≡ []
task_nameless s o h = go s.in_use h
  where
    go : (x : Option InUse) → (option_map_or meaning_in x nothing).operators ≤ o → (option_map_or names_in x no_names).name o ≡ []
    go None h = refl
    go (Some u) h = in_use_nameless u o h

-- what is in use of the tables makes the task of the tables
pub made_of_use : (t : Tables) (x : Option InUse) → MatchOption x (InRange t → ⊥) (UseOf t) → Made t (record { in_use = x })
made_of_use t None n = record { held = λ r. absurd (n r); refused = λ m. (refl, refl) }
made_of_use t (Some u) f = record { held = λ r. (ap meant f.task, f.names); refused = λ n. absurd (n f.range) }

module _ (s : SasTask) where
  -- what is held is all that the tables hold
  tables_held : (u : InUse) → s.in_use ≡ Some u → UseOf (tables_of s) u
  tables_held u e = subst (λ x. UseOf (option_map_or tables_in x no_tables) u) (sym e) (in_use_of u)

  pub made_in_range : (u : InUse) → s.in_use ≡ Some u → InRange (tables_of s)
  made_in_range u e = (tables_held u e).range

  pub made_spans : (u : InUse) → s.in_use ≡ Some u → u.span ≡ spanned (sizes_of (tables_of s))
  made_spans u e = span_in u ∙ ap (λ t. spanned t.sizes) (tables_held u e).task

  -- the span is that of the task, made or not
  pub spans_task : option_map_or (λ u. u.span) s.in_use 1 ≡ (task_meaning s).span
  spans_task = go s.in_use
    where
      go : (x : Option InUse) → option_map_or (λ u. u.span) x 1 ≡ (option_map_or meaning_in x nothing).span
      go None = refl
      go (Some u) = span_in u

  pub made_of_tables : Made (tables_of s) s
  made_of_tables = made_of_use (tables_of s) s.in_use (go s.in_use)
    where
      go : (x : Option InUse) → MatchOption x (InRange (option_map_or tables_in x no_tables) → ⊥) (UseOf (option_map_or tables_in x no_tables))
      go None = λ r. omega (arith, r.variables.0)
      go (Some u) = in_use_of u

  -- where the task is made its operators are those in use, and else there is none
  pub no_more : (o : ℕ) → ((u : InUse) → s.in_use ≡ Some u → length u.operators.now ≤ o) → (task_meaning s).operators ≤ o
  no_more o f = go s.in_use refl
    where
      go : (x : Option InUse) → s.in_use ≡ x → (option_map_or meaning_in x nothing).operators ≤ o
      go None e = omega arith
      go (Some u) e = omega (arith, length-map u.operators.now (action_of u.conditions.now))

-- the span of what is made is the one that the range tests find, and else 1
pub made_span : (t : Tables) (s : SasTask) → Made t s → (task_meaning s).span ≡ unwrap_or (range t) 1
made_span t s made = go (range t) refl
  where
    go : (x : Option ℕ) → range t ≡ x → (task_meaning s).span ≡ unwrap_or x 1
    go None e = ap (λ m. m.span) (made.refused (λ r. none-some _ (sym e ∙ found_in_range t r))).0
    go (Some n) e = let f = in_range_found t n e in ap (λ m. m.span) (made.held f.0).0 ∙ sym f.1
