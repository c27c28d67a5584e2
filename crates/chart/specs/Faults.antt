-- Which fault the tables of a chart have first. Assumes nothing.
use Rattle.std.specs.Prelude.{◌≡◌, ℕ, zero, suc, ◌+◌, ◌<◌, Bool, true, false, cond, not, ◌&&◌, List, length, get_or, take, is_some, Some, None, Ok, Err, Option, Result, ◌==◌, nat_le, nat_lt, slice_index, slice_index_or}
use Rattle.task.specs.declared.faults.Fault.{Fault}
use Rattle.task.specs.declared.faults.Kind.{Kind}
use Rattle.task.specs.declared.faults.Kind.TheVariants.{OverLimit, OutOfRange, ArcRepeated, EstimateLaw}
use Rattle.task.specs.declared.faults.Layer.TheVariants.{Chart}
use Rattle.chart.specs.declared.tables.Arc.{Arc}
use Rattle.chart.specs.Tables.{Tables, estimate_of, name_start, target}

abbrev pub or_else : {A : Type 0} → Option A → Option A → Option A
or_else (Some x) y = Some x
or_else None y = y

-- the first number below n that fails the test
abbrev pub first_failing : (ℕ → Bool) → ℕ → Option ℕ
first_failing p zero = None
first_failing p (suc n) = or_else (first_failing p n) (cond (p n) None (Some n))

-- a fault of that kind at the place, if there is one
abbrev pub fault_at : Kind → Option ℕ → Option Fault
fault_at k None = None
fault_at k (Some n) = Some (record { kind = k; place = n; layer = Chart })

-- at 0 where the test fails
abbrev pub fault_unless : Kind → Bool → Option Fault
fault_unless k b = fault_at k (cond b None (Some 0))

abbrev pub no_arc : Arc
no_arc = record { from = 0; operator = 0; to = 0 }

-- the limits, and tables of the same things as long as each other
abbrev pub lengths_fit : Tables → Bool
lengths_fit t =
    (nat_le 1 (length t.goals) && nat_le (length t.goals) 65535)
    && (length t.estimates == length t.goals && (nat_le (length t.costs) 4096 && (length t.ends == length t.costs && nat_le (length t.arcs) 65535)))

abbrev pub cost_fits : ℕ → Bool
cost_fits c = nat_le 1 c && nat_le c 1000000

-- name o ends no earlier than it begins, within a text of so many bytes
abbrev pub end_fits : ℕ → List ℕ → ℕ → Bool
end_fits bytes ends o = nat_le (name_start ends o) (slice_index ends o) && nat_le (slice_index ends o) bytes

abbrev pub arc_fits : ℕ → ℕ → Arc → Bool
arc_fits states operators a = nat_lt a.from states && (nat_lt a.to states && nat_lt a.operator operators)

-- no arc before arc k has its state and operator
abbrev pub new_arc : List Arc → ℕ → Bool
new_arc arcs k = not (is_some (target (take k arcs) (get_or arcs k no_arc).from (get_or arcs k no_arc).operator))

-- a goal has the estimate 0
abbrev pub goal_aware : List Bool → List ℕ → ℕ → Bool
goal_aware goals estimates s = cond (slice_index_or goals s false) (slice_index estimates s == 0) true

-- an estimate is at most the cost plus the other; no estimate exceeds every number
abbrev pub at_most : Option ℕ → ℕ → Option ℕ → Bool
at_most (Some g) c (Some h) = nat_le g (c + h)
at_most None c (Some h) = false
at_most (Some g) c None = true
at_most None c None = true

abbrev pub arc_lawful : Tables → Arc → Bool
arc_lawful t a = at_most (estimate_of t a.from) (slice_index t.costs a.operator) (estimate_of t a.to)

-- the start state is no state
abbrev pub start_fault : Tables → Option Fault
start_fault t = fault_unless OutOfRange (nat_lt t.start (length t.goals))

-- the first cost that is not allowed
abbrev pub costs_fault : Tables → Option Fault
costs_fault t = fault_at OutOfRange (first_failing (λ o. cost_fits (slice_index t.costs o)) (length t.costs))

-- the first name that does not fit the text
abbrev pub ends_fault : Tables → Option Fault
ends_fault t = fault_at OutOfRange (first_failing (end_fits (length t.text) t.ends) (length t.ends))

-- the first arc that names what is not there
abbrev pub arcs_fault : Tables → Option Fault
arcs_fault t = fault_at OutOfRange (first_failing (λ k. arc_fits (length t.goals) (length t.costs) (slice_index_or t.arcs k no_arc)) (length t.arcs))

abbrev pub range_fault : Tables → Option Fault
range_fault t = or_else (start_fault t) (or_else (costs_fault t) (or_else (ends_fault t) (arcs_fault t)))

-- tables over the limits
abbrev pub limit_fault : Tables → Option Fault
limit_fault t = fault_unless OverLimit (lengths_fit t)

-- what is seen without comparing records
abbrev pub table_fault : Tables → Option Fault
table_fault t = or_else (limit_fault t) (range_fault t)

-- the first goal with an estimate other than 0
abbrev pub goals_fault : Tables → Option Fault
goals_fault t = fault_at EstimateLaw (first_failing (goal_aware t.goals t.estimates) (length t.goals))

-- the first arc along which the estimate falls by more than the cost
abbrev pub estimates_fault : Tables → Option Fault
estimates_fault t = fault_at EstimateLaw (first_failing (λ k. arc_lawful t (slice_index_or t.arcs k no_arc)) (length t.arcs))

abbrev pub law_fault : Tables → Option Fault
law_fault t = or_else (goals_fault t) (estimates_fault t)

-- the first arc with the state and the operator of an earlier one
abbrev pub repeat_fault : Tables → Option Fault
repeat_fault t = fault_at ArcRepeated (first_failing (new_arc t.arcs) (length t.arcs))

-- what is seen by comparing records
abbrev pub record_fault : Tables → Option Fault
record_fault t = or_else (repeat_fault t) (law_fault t)

abbrev pub chart_fault : Tables → Option Fault
chart_fault t = or_else (table_fault t) (record_fault t)

abbrev pub answered : Option Fault → Result (Unit {0}) Fault
answered None = Ok tt
answered (Some f) = Err f

-- r answers by the fault of the first record, of n, that fails a test: by any test whose answers the calls give
abbrev pub AnswersFirst : (ℕ → Bool → Type 0) → Kind → ℕ → Result (Unit {0}) Fault → Type 0
AnswersFirst gives kind n r =
    (p : ℕ → Bool) → ((i : ℕ) (b : Bool) → i < n → gives i b → b ≡ p i) → r ≡ answered (fault_at kind (first_failing p n))
