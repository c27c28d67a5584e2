-- The range tests find what they test for, and a span exactly where the tables are in range, which is theirs.
-- Assumes nothing.
use Rattle.std.proofs.Common.{◌≡◌, ℕ, ◌+◌, ◌^◌, ◌<◌, ◌≤◌, Bool, true, false, cond, ◌&&◌, leb, List, [], ◌∷◌, length, get_or, take, Some, None, Decides, Option, sym, refl, ap, ◌∙◌, one-mul, arith}
use Rattle.std.specs.List.{list_all}
use Rattle.std.proofs.lemmas.Bool.{cond-true, leb-true, le-leb}
use Rattle.std.proofs.lemmas.Bool.Decides.{Decides-and, Decides-like, Decides-ltb}
use Rattle.task.specs.Listing.{Each}
use Rattle.sas.specs.declared.tables.Condition.{Condition}
use Rattle.sas.specs.declared.tables.Operator.{Operator}
use Rattle.sas.specs.States.{spanned}
use Rattle.sas.specs.Tables.{Tables, InRange, Valid, ConditionFits, OperatorFits, sizes_of, used_operators}
use Rattle.sas.specs.Checks.{size_fits, product, valid, condition_fits, operator_fits, tables_count, tables_fit, fitting, range}

pub decides_each : {A : Type 0} (p : A → Bool) (P : A → Type 0) → ((x : A) → Decides (p x) (P x)) → (xs : List A) → Decides (list_all p xs) (Each P xs)
decides_each p P f [] = (λ e. tt, λ e. refl)
decides_each p P f (x ∷ xs) = Decides-and (p x) (list_all p xs) (f x) (decides_each p P f xs)

pub decides_leb : (a b : ℕ) → Decides (leb a b) (a ≤ b)
decides_leb a b = (leb-true a b, le-leb a b)

pub decides_size : (n : ℕ) → Decides (size_fits n) ((1 ≤ n) × (n ≤ 1000))
decides_size n = Decides-and (leb 1 n) (leb n 1000) (decides_leb 1 n) (decides_leb n 1000)

pub decides_valid : (o : Option ℕ) (n : ℕ) → Decides (valid o n) (Valid o n)
decides_valid None n = (λ e. tt, λ v. refl)
decides_valid (Some v) n = Decides-ltb v n

pub decides_condition : (ns : List ℕ) (c : Condition) → Decides (condition_fits ns c) (ConditionFits ns c)
decides_condition ns c =
    Decides-like (condition_fits ns c)
    (λ p. record { known = p.0; before = p.1.0; after = p.1.1 })
    (λ f. (f.known, (f.before, f.after)))
    (Decides-and _ _ (Decides-ltb c.variable (length ns)) (Decides-and _ _ (decides_valid c.before (get_or ns c.variable 0)) (decides_valid c.after (get_or ns c.variable 0))))

-- the name is within so many bytes, the conditions within so many, and the cost in range
pub record OperatorWithin (bytes conditions : ℕ) (o : Operator) : Type 0 where
  pub named : o.name + o.name_length ≤ bytes
  pub placed : o.first + o.count ≤ conditions
  pub priced : (1 ≤ o.cost) × (o.cost ≤ 1000000)

pub decides_operator : (bytes conditions : ℕ) (o : Operator) → Decides (operator_fits bytes conditions o) (OperatorWithin bytes conditions o)
decides_operator bytes conditions o =
    Decides-like (operator_fits bytes conditions o)
    (λ p. record { named = p.0; placed = p.1.0; priced = (p.1.1.0, p.1.1.1) })
    (λ f. (f.named, (f.placed, (f.priced.0, f.priced.1))))
    (Decides-and _ _ (decides_leb (o.name + o.name_length) bytes) (Decides-and _ _ (decides_leb (o.first + o.count) conditions) (Decides-and _ _ (decides_leb 1 o.cost) (decides_leb o.cost 1000000))))

-- each size is in range, and the states can be numbered
pub record SizesFit (ns : List ℕ) : Type 0 where
  pub sizes : Each (λ n. (1 ≤ n) × (n ≤ 1000)) ns
  pub small : spanned ns ≤ 2 ^ 60

abbrev sizes_fit : List ℕ → Bool
sizes_fit ns = list_all size_fits ns && leb (spanned ns) (2 ^ 60)

decides_sizes : (ns : List ℕ) → Decides (sizes_fit ns) (SizesFit ns)
decides_sizes ns =
    Decides-like (sizes_fit ns)
    (λ p. record { sizes = p.0; small = p.1 })
    (λ f. (f.sizes, f.small))
    (Decides-and _ _ (decides_each _ _ decides_size ns) (decides_leb (spanned ns) (2 ^ 60)))

product_is : (ns : List ℕ) → product 1 ns ≡ cond (sizes_fit ns) (Some (spanned ns)) None
product_is ns = ap (λ p. cond (list_all size_fits ns && leb p (2 ^ 60)) (Some p) None) (one-mul (spanned ns))

pub fit_product : (ns : List ℕ) → SizesFit ns → product 1 ns ≡ Some (spanned ns)
fit_product ns f = product_is ns ∙ cond-true (sizes_fit ns) (Some (spanned ns)) None ((decides_sizes ns).1 f)

pub product_fits : (ns : List ℕ) (s : ℕ) → product 1 ns ≡ Some s → SizesFit ns × (s ≡ spanned ns)
product_fits ns s e = go (sizes_fit ns) refl (sym (product_is ns) ∙ e)
  where
    go : (b : Bool) → sizes_fit ns ≡ b → cond b (Some (spanned ns)) None ≡ Some s → SizesFit ns × (s ≡ spanned ns)
    go false f e = absurd (grind arith)
    go true f e = ((decides_sizes ns).0 f, cc)

decides_placed : (t : Tables) (o : Operator) → Decides (operator_fits (length t.bytes) t.used.conditions o) (OperatorFits t o)
decides_placed t o =
    Decides-like (operator_fits (length t.bytes) t.used.conditions o)
    (λ w. record { named = w.named; placed = w.placed; priced = w.priced })
    (λ f. record { named = f.named; placed = f.placed; priced = f.priced })
    (decides_operator (length t.bytes) t.used.conditions o)

abbrev Counts : Tables → Type 0
Counts t =
    ((1 ≤ t.used.variables) × ((t.used.variables ≤ 60) × (t.used.variables ≤ length t.variables)))
    × (((t.used.operators ≤ 4096) × (t.used.operators ≤ length t.operators)) × ((t.used.goal ≤ t.used.conditions) × (t.used.conditions ≤ length t.conditions)))

decides_counts : (t : Tables) → Decides (tables_count t) (Counts t)
decides_counts t =
    Decides-and _ _
    (Decides-and _ _ (decides_leb 1 t.used.variables) (Decides-and _ _ (decides_leb t.used.variables 60) (decides_leb t.used.variables (length t.variables))))
    (Decides-and _ _ (Decides-and _ _ (decides_leb t.used.operators 4096) (decides_leb t.used.operators (length t.operators))) (Decides-and _ _ (decides_leb t.used.goal t.used.conditions) (decides_leb t.used.conditions (length t.conditions))))

abbrev Fit : Tables → ℕ → Type 0
Fit t span = (t.used.start < span) × (Each (ConditionFits (sizes_of t)) (take t.used.conditions t.conditions) × Each (OperatorFits t) (used_operators t))

decides_fit : (t : Tables) (span : ℕ) → Decides (tables_fit t span) (Fit t span)
decides_fit t span =
    Decides-and _ _ (Decides-ltb t.used.start span)
    (Decides-and _ _ (decides_each _ _ (decides_condition (sizes_of t)) (take t.used.conditions t.conditions)) (decides_each _ _ (decides_placed t) (used_operators t)))

module _ (t : Tables) where
  range_is : range t ≡ cond (tables_count t) (fitting t (cond (sizes_fit (sizes_of t)) (Some (spanned (sizes_of t))) None)) None
  range_is = ap (λ p. cond (tables_count t) (fitting t p) None) (product_is (sizes_of t))

  pub found_in_range : InRange t → range t ≡ Some (spanned (sizes_of t))
  found_in_range r =
      let counts = (decides_counts t).1 ((r.variables.0, (r.variables.1, r.variables.2)), ((r.operators.0, r.operators.1), (r.conditions.0, r.conditions.1))) in
      let sizes = (decides_sizes (sizes_of t)).1 (record { sizes = r.sizes; small = r.span }) in
      let fit = (decides_fit t (spanned (sizes_of t))).1 (r.start, (r.each_condition, r.each_operator)) in
      range_is
      ∙ (cond-true (tables_count t) _ None counts
      ∙ (ap (fitting t) (cond-true (sizes_fit (sizes_of t)) (Some (spanned (sizes_of t))) None sizes)
      ∙ cond-true (tables_fit t (spanned (sizes_of t))) (Some (spanned (sizes_of t))) None fit))

  pub in_range_found : (s : ℕ) → range t ≡ Some s → InRange t × (s ≡ spanned (sizes_of t))
  in_range_found s e = counted (tables_count t) refl (sym range_is ∙ e)
    where
      fitted : (b : Bool) → tables_fit t (spanned (sizes_of t)) ≡ b → Counts t → SizesFit (sizes_of t) → cond b (Some (spanned (sizes_of t))) None ≡ Some s → InRange t × (s ≡ spanned (sizes_of t))
      fitted false f c z e = absurd (grind arith)
      fitted true f c z e =
          let p = (decides_fit t (spanned (sizes_of t))).0 f in (
            record {
              variables = (c.0.0, c.0.1.0, c.0.1.1);
              operators = (c.1.0.0, c.1.0.1);
              conditions = (c.1.1.0, c.1.1.1);
              sizes = z.sizes;
              span = z.small;
              start = p.0;
              each_condition = p.1.0;
              each_operator = p.1.1;
            },
            (cc),
          )

      sized : (b : Bool) → sizes_fit (sizes_of t) ≡ b → Counts t → fitting t (cond b (Some (spanned (sizes_of t))) None) ≡ Some s → InRange t × (s ≡ spanned (sizes_of t))
      sized false f c e = absurd (grind arith)
      sized true f c e = fitted (tables_fit t (spanned (sizes_of t))) refl c ((decides_sizes (sizes_of t)).0 f) e

      counted : (b : Bool) → tables_count t ≡ b → cond b (fitting t (cond (sizes_fit (sizes_of t)) (Some (spanned (sizes_of t))) None)) None ≡ Some s → InRange t × (s ≡ spanned (sizes_of t))
      counted false f e = absurd (grind arith)
      counted true f e = sized (sizes_fit (sizes_of t)) refl ((decides_counts t).0 f) e
