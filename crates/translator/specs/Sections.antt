-- The sections of a translator file, version 3: what each line must be, and the first fault where it is not.
-- Assumes nothing.
use Rattle.std.specs.Prelude.{ℕ, zero, suc, ◌+◌, ◌-◌, ◌/◌, ◌^◌, min, Bool, true, false, cond, not, List, [], ◌∷◌, ◌++◌, length, replicate, ℤ, pos, negsuc, Some, None, Ok, Err, codes, Option, Result, ◌==◌, nat_lt, slice_index, slice_index_or, slice_set}
use Rattle.task.specs.declared.faults.Fault.{Fault}
use Rattle.task.specs.declared.faults.Kind.{Kind}
use Rattle.task.specs.declared.faults.Kind.TheVariants.{BadNumber, NotCarried, VariableTwice, OverLimit, BytesAfterEnd}
use Rattle.sas.specs.declared.tables.Condition.{Condition}
use Rattle.sas.specs.States.{spanned}
use Rattle.translator.specs.declared.forms.Form.{Form}
use Rattle.translator.specs.declared.forms.Form.TheVariants.{Mutex, Fact, Effect}
use Rattle.translator.specs.declared.stores.Room.{Room}
use Rattle.translator.specs.Lines.{Place, opening}
use Rattle.translator.specs.Reads.{Read, and_then, refuse, refuse_if, fault_at, next_line, keyword, next_number, next_signed, line_end}
use Rattle.translator.specs.Description.{Text, DescribedVariable, DescribedOperator, Description, sizes_in, all_conditions}

-- n steps, each from what the one before it left
abbrev pub repeated : {A : Type 0} → (A → Place → Read A) → ℕ → A → Place → Read A
repeated step zero a p = Ok (a, p)
repeated step (suc n) a p = and_then (step a p) (repeated step n)

-- a number from low to high; one fault where it is below, another where it is above
abbrev pub number_within : ℕ → ℕ → Kind → Kind → Place → Read ℕ
number_within low high below above p = and_then (next_number p) (λ n q. refuse_if (nat_lt n low) below q (refuse_if (nat_lt high n) above q (Ok (n, q))))

-- a line with one such number
abbrev pub number_line : ℕ → ℕ → Kind → Kind → Place → Read ℕ
number_line low high below above p = and_then (next_line p) (λ l q. and_then (number_within low high below above q) (λ n q. and_then (line_end q) (λ e q. Ok (n, q))))

-- a line of any bytes
abbrev pub text_line : Place → Read Text
text_line p = and_then (next_line p) (λ l q. Ok (record { place = p.next; letters = l }, q))

abbrev pub version_section : Place → Read (Unit {0})
version_section p = and_then (keyword (codes "begin_version") p) (λ b q. and_then (number_line 3 3 BadNumber BadNumber q) (λ n q. keyword (codes "end_version") q))

-- whether every cost is read as 1
abbrev pub metric_section : Place → Read Bool
metric_section p =
    and_then (keyword (codes "begin_metric") p) (λ b q. and_then (number_line 0 1 BadNumber BadNumber q) (λ n q. and_then (keyword (codes "end_metric") q) (λ e q. Ok ((n == 0), q))))

abbrev pub value_line : List Text → Place → Read (List Text)
value_line ts p = and_then (text_line p) (λ t q. Ok (ts ++ t ∷ [], q))

abbrev pub only_minus_one : ℤ → Place → Read (Unit {0})
only_minus_one (pos n) p = refuse NotCarried p
only_minus_one (negsuc n) p = Ok (tt, p)

-- the axiom layer, which must be -1
abbrev pub layer_line : Place → Read (Unit {0})
layer_line p = and_then (next_line p) (λ l q. and_then (next_signed q) (λ z q. and_then (only_minus_one z q) (λ u q. line_end q)))

-- how many values a variable may have behind variables that span so much
abbrev pub most_values : ℕ → ℕ
most_values span = min (2 ^ 60 / span) 1000

abbrev pub variable_section : ℕ → Place → Read DescribedVariable
variable_section span p =
    and_then (keyword (codes "begin_variable") p) (λ b q. and_then (text_line q) (λ name q. and_then (layer_line q) (λ u q. and_then (number_line 1 (most_values span) BadNumber OverLimit q) (λ size q. and_then (repeated value_line size [] q) (λ values q. and_then (keyword (codes "end_variable") q) (λ e q. Ok (record { name = name; size = size; values = values }, q)))))))

abbrev pub next_variable : List DescribedVariable → Place → Read (List DescribedVariable)
next_variable vs p = and_then (variable_section (spanned (sizes_in vs)) p) (λ v q. Ok (vs ++ v ∷ [], q))

-- a variable of the file, by its number
abbrev pub known_variable : List ℕ → Place → Read ℕ
known_variable sizes p = number_within 0 (length sizes - 1) BadNumber BadNumber p

-- the sizes of the file's variables, and for each whether it has been seen in this goal or operator
pub record Noted : Type 0 where
  pub sizes : List ℕ
  pub marks : List Bool

abbrev pub none_seen : List ℕ → Noted
none_seen ns = record { sizes = ns; marks = replicate 60 false }

-- a variable that has not been seen
abbrev pub fresh_variable : Noted → Place → Read ℕ
fresh_variable seen p = and_then (known_variable seen.sizes p) (λ v q. refuse_if (slice_index_or seen.marks v false) VariableTwice q (Ok (v, q)))

abbrev pub next_value : ℕ → Place → Read ℕ
next_value size p = number_within 0 (size - 1) BadNumber BadNumber p

-- a value, or -1 for any
abbrev pub value_or_any : ℕ → ℤ → Place → Read (Option ℕ)
value_or_any size (negsuc n) p = Ok (None, p)
value_or_any size (pos v) p = refuse_if (not (nat_lt v size)) BadNumber p (Ok (Some v, p))

abbrev pub next_before : ℕ → Place → Read (Option ℕ)
next_before size p = and_then (next_signed p) (λ z q. value_or_any size z q)

abbrev pub asks : ℕ → ℕ → Condition
asks v x = record { variable = v; before = Some x; after = None }

abbrev pub fact_line : Noted → Place → Read Condition
fact_line seen p = and_then (next_line p) (λ l q. and_then (fresh_variable seen q) (λ v q. and_then (next_value (slice_index seen.sizes v) q) (λ x q. and_then (line_end q) (λ e q. Ok (asks v x, q)))))

abbrev pub effect_line : Noted → Place → Read Condition
effect_line seen p =
    and_then (next_line p) (λ l q. and_then (number_within 0 0 NotCarried NotCarried q) (λ k q. and_then (fresh_variable seen q) (λ v q. and_then (next_before (slice_index seen.sizes v) q) (λ b q. and_then (next_value (slice_index seen.sizes v) q) (λ a q. and_then (line_end q) (λ e q. Ok (record { variable = v; before = b; after = Some a }, q)))))))

-- the same with the condition's variable seen
abbrev pub marked : Noted → Condition → Noted
marked seen c = record { sizes = seen.sizes; marks = slice_set seen.marks c.variable true }

-- a condition of this form, and the variables seen after it; a mutex group may name a variable again
abbrev pub condition_line : Form → Noted → Place → Read (Condition × Noted)
condition_line Mutex seen p = and_then (fact_line seen p) (λ c q. Ok ((c, seen), q))
condition_line Fact seen p = and_then (fact_line seen p) (λ c q. Ok ((c, marked seen c), q))
condition_line Effect seen p = and_then (effect_line seen p) (λ c q. Ok ((c, marked seen c), q))

abbrev pub next_condition : Form → List Condition × Noted → Place → Read (List Condition × Noted)
next_condition form s p = and_then (condition_line form s.1 p) (λ r q. Ok ((s.0 ++ r.0 ∷ [], r.1), q))

-- their number, which is at most room, and then the conditions
abbrev pub conditions_section : Form → ℕ → Noted → Place → Read (List Condition × Noted)
conditions_section form room seen p = and_then (number_line 0 room OverLimit OverLimit p) (λ n q. repeated (next_condition form) n ([], seen) q)

-- numbers are at most this
abbrev pub unlimited : ℕ
unlimited = 4294967295

abbrev pub mutex_section : List ℕ → Place → Read (List Condition)
mutex_section sizes p =
    and_then (keyword (codes "begin_mutex_group") p) (λ b q. and_then (conditions_section Mutex unlimited (none_seen sizes) q) (λ s q. and_then (keyword (codes "end_mutex_group") q) (λ e q. Ok (s.0, q))))

abbrev pub next_mutex : List ℕ → List (List Condition) → Place → Read (List (List Condition))
next_mutex sizes gs p = and_then (mutex_section sizes p) (λ g q. Ok (gs ++ g ∷ [], q))

abbrev pub mutexes_section : List ℕ → Place → Read (List (List Condition))
mutexes_section sizes p = and_then (number_line 0 unlimited OverLimit OverLimit p) (λ n q. repeated (next_mutex sizes) n [] q)

-- the value of the next variable
abbrev pub start_line : List ℕ → List ℕ → Place → Read (List ℕ)
start_line sizes vs p = and_then (number_line 0 (slice_index sizes (length vs) - 1) BadNumber BadNumber p) (λ v q. Ok (vs ++ v ∷ [], q))

abbrev pub state_section : List ℕ → Place → Read (List ℕ)
state_section sizes p =
    and_then (keyword (codes "begin_state") p) (λ b q. and_then (repeated (start_line sizes) (length sizes) [] q) (λ vs q. and_then (keyword (codes "end_state") q) (λ e q. Ok (vs, q))))

abbrev pub goal_section : List ℕ → ℕ → Place → Read (List Condition)
goal_section sizes room p =
    and_then (keyword (codes "begin_goal") p) (λ b q. and_then (conditions_section Fact room (none_seen sizes) q) (λ s q. and_then (keyword (codes "end_goal") q) (λ e q. Ok (s.0, q))))

abbrev pub cost_line : Bool → Place → Read ℕ
cost_line true p = and_then (number_line 0 unlimited NotCarried OverLimit p) (λ n q. Ok (1, q))
cost_line false p = number_line 1 1000000 NotCarried OverLimit p

abbrev pub operator_section : Bool → List ℕ → ℕ → Place → Read DescribedOperator
operator_section unit sizes room p =
    and_then (keyword (codes "begin_operator") p) (λ b q. and_then (text_line q) (λ name q. and_then (conditions_section Fact room (none_seen sizes) q) (λ s q. and_then (conditions_section Effect (room - length s.0) s.1 q) (λ t q. and_then (cost_line unit q) (λ cost q. and_then (keyword (codes "end_operator") q) (λ e q. Ok (record { name = name; prevail = s.0; effects = t.0; cost = cost }, q)))))))

-- room is what the goal left
abbrev pub next_operator : Bool → List ℕ → ℕ → List DescribedOperator → Place → Read (List DescribedOperator)
next_operator unit sizes room os p = and_then (operator_section unit sizes (room - length (all_conditions os)) p) (λ o q. Ok (os ++ o ∷ [], q))

abbrev pub file_end : Place → Read (Unit {0})
file_end p = cond (nat_lt p.next (length p.bytes)) (Err (fault_at BytesAfterEnd (p.line + 1))) (Ok (tt, p))

abbrev pub variables_section : ℕ → Place → Read (List DescribedVariable)
variables_section room p = and_then (number_line 1 (min room 60) BadNumber OverLimit p) (λ n q. repeated next_variable n [] q)

abbrev pub operators_section : Bool → List ℕ → ℕ → ℕ → Place → Read (List DescribedOperator)
operators_section unit sizes room left p = and_then (number_line 0 (min room 4096) OverLimit OverLimit p) (λ n q. repeated (next_operator unit sizes left) n [] q)

-- the goal, the operators, no axioms, and nothing after them
abbrev pub rest_of_file : Room → Bool → List ℕ → Place → Read (List Condition × List DescribedOperator)
rest_of_file room unit sizes p =
    and_then (goal_section sizes room.conditions p) (λ goal q. and_then (operators_section unit sizes room.operators (room.conditions - length goal) q) (λ os q. and_then (number_line 0 0 NotCarried NotCarried q) (λ n q. and_then (file_end q) (λ e q. Ok ((goal, os), q)))))

abbrev pub whole_file : Room → Place → Read Description
whole_file room p =
    and_then (version_section p) (λ u q. and_then (metric_section q) (λ unit q. and_then (variables_section room.variables q) (λ vs q. and_then (mutexes_section (sizes_in vs) q) (λ gs q. and_then (state_section (sizes_in vs) q) (λ start q. and_then (rest_of_file room unit (sizes_in vs) q) (λ r q. Ok (record { unit = unit; variables = vs; mutexes = gs; start = start; goal = r.0; operators = r.1 }, q)))))))

abbrev pub without_place : Read Description → Result Description Fault
without_place (Ok x) = Ok x.0
without_place (Err e) = Err e

-- the description that the bytes of a file give, with so much room in the tables, or the first fault
abbrev pub described : Room → List ℕ → Result Description Fault
described room bs = cond (nat_lt 65536 (length bs)) (Err (fault_at OverLimit 0)) (without_place (whole_file room (opening bs)))
