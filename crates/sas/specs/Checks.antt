-- The tables that tests speak of, and the tests by which tables are found in range. Assumes nothing.
use Rattle.std.specs.Prelude.{ℕ, ◌+◌, ◌*◌, ◌^◌, Bool, true, cond, ◌&&◌, List, length, take, Some, None, Option, nat_le, nat_lt, slice_index}
use Rattle.std.specs.List.{list_all}
use Rattle.sas.specs.declared.tables.Variable.{Variable}
use Rattle.sas.specs.declared.tables.Condition.{Condition}
use Rattle.sas.specs.declared.tables.Operator.{Operator}
use Rattle.sas.specs.declared.tables.Reading.{Reading}
use Rattle.sas.specs.declared.tables.SasTables.{SasTables}
use Rattle.sas.specs.States.{spanned}
use Rattle.sas.specs.Tables.{Tables, sizes_of, used_operators}

abbrev pub tables : List ℕ → List Variable → List Operator → List Condition → Reading → Tables
tables bs vs os cs used = record { bytes = bs; variables = vs; operators = os; conditions = cs; used = used }

-- what lent tables hold
abbrev pub contents : SasTables → Tables
contents s = tables s.bytes.now s.variables.now s.operators.now s.conditions.now s.used

abbrev pub size_fits : ℕ → Bool
size_fits n = nat_le 1 n && nat_le n 1000

-- the product of p and a size, where the size fits and the product is at most 2 ^ 60
abbrev pub times : ℕ → ℕ → Option ℕ
times p n = cond (size_fits n && nat_le (p * n) (2 ^ 60)) (Some (p * n)) None

-- the product of p and the sizes, where each size fits and the product is at most 2 ^ 60
abbrev pub product : ℕ → List ℕ → Option ℕ
product p ns = cond (list_all size_fits ns && nat_le (p * spanned ns) (2 ^ 60)) (Some (p * spanned ns)) None

abbrev pub valid : Option ℕ → ℕ → Bool
valid None n = true
valid (Some v) n = nat_lt v n

abbrev pub condition_fits : List ℕ → Condition → Bool
condition_fits ns c = nat_lt c.variable (length ns) && (valid c.before (slice_index ns c.variable) && valid c.after (slice_index ns c.variable))

-- for a file of so many bytes and a task of so many conditions
abbrev pub operator_fits : ℕ → ℕ → Operator → Bool
operator_fits bytes conditions o =
    nat_le (o.name + o.name_length) bytes && (nat_le (o.first + o.count) conditions && (nat_le 1 o.cost && nat_le o.cost 1000000))

-- what is in use is within the limits and the tables
abbrev pub counts_fit : Reading → ℕ → ℕ → ℕ → Bool
counts_fit used variables operators conditions =
    (nat_le 1 used.variables && (nat_le used.variables 60 && nat_le used.variables variables))
    && ((nat_le used.operators 4096 && nat_le used.operators operators) && (nat_le used.goal used.conditions && nat_le used.conditions conditions))

abbrev pub tables_count : Tables → Bool
tables_count t = counts_fit t.used (length t.variables) (length t.operators) (length t.conditions)

-- the start state and the records in use, for variables of these sizes and a file of so many bytes
abbrev pub records_fit : List ℕ → List Condition → List Operator → ℕ → Reading → ℕ → Bool
records_fit ns cs os bytes used span =
    nat_lt used.start span && (list_all (condition_fits ns) cs && list_all (operator_fits bytes used.conditions) os)

abbrev pub tables_fit : Tables → ℕ → Bool
tables_fit t span = records_fit (sizes_of t) (take t.used.conditions t.conditions) (used_operators t) (length t.bytes) t.used span

-- the product of the sizes, if there is one and the records fit
abbrev pub fitting : Tables → Option ℕ → Option ℕ
fitting t None = None
fitting t (Some span) = cond (tables_fit t span) (Some span) None

-- the span of tables in range
abbrev pub range : Tables → Option ℕ
range t = cond (tables_count t) (fitting t (product 1 (sizes_of t))) None
