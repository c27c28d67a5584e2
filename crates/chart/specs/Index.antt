-- The index of a chart's arcs: an entry for each, in the order of states, operators and arc numbers. Assumes nothing.
use Rattle.std.specs.Prelude.{◌≡◌, ℕ, ◌<◌, ◌≤◌, Bool, true, false, ◌&&◌, ◌||◌, List, length, get_or, Some, None, Option, ◌==◌, nat_le, nat_lt, slice_index_or}
use Rattle.std.specs.List.{list_any}
use Rattle.chart.specs.declared.tables.Arc.{Arc}
use Rattle.chart.specs.declared.tables.Entry.{Entry}
use Rattle.chart.specs.Faults.{no_arc}
use Rattle.chart.specs.Tables.{leads, target}

abbrev pub no_entry : Entry
no_entry = record { from = 0; operator = 0; arc = 0 }

-- the entry of arc k
abbrev pub entry_of : List Arc → ℕ → Entry
entry_of arcs k = record { from = (get_or arcs k no_arc).from; operator = (get_or arcs k no_arc).operator; arc = k }

-- the entry's state and operator stand before these
abbrev pub before : Entry → ℕ → ℕ → Bool
before e s o = nat_lt e.from s || (e.from == s && nat_lt e.operator o)

-- e stands no later than f
abbrev pub in_order : Entry → Entry → Bool
in_order e f = before e f.from f.operator || ((e.from == f.from && e.operator == f.operator) && nat_le e.arc f.arc)

-- the entry is of one of the arcs
abbrev pub of_arc : List Arc → Entry → Bool
of_arc arcs e = nat_lt e.arc (length arcs) && (e.from == (get_or arcs e.arc no_arc).from && e.operator == (get_or arcs e.arc no_arc).operator)

-- some entry is of arc k
abbrev pub entered : List Entry → ℕ → Bool
entered es k = list_any (λ e. e.arc == k) es

-- the entries are of the arcs, one of each, in order
abbrev pub Sound : List Arc → List Entry → Type 0
Sound arcs es = (k : ℕ) → k < length es → of_arc arcs (slice_index_or es k no_entry) ≡ true

abbrev pub Whole : List Arc → List Entry → Type 0
Whole arcs es = (k : ℕ) → k < length arcs → entered es k ≡ true

abbrev pub Ordered : List Entry → Type 0
Ordered es = (i j : ℕ) → i ≤ j → j < length es → in_order (slice_index_or es i no_entry) (slice_index_or es j no_entry) ≡ true

pub record Indexed (arcs : List Arc) (es : List Entry) : Type 0 where
  pub sound : Sound arcs es
  pub whole : Whole arcs es
  pub ordered : Ordered es

-- r is the place of the first entry that does not stand before this state and operator
pub record Bound (es : List Entry) (s o r : ℕ) : Type 0 where
  pub within : r ≤ length es
  pub below : (k : ℕ) → k < r → before (slice_index_or es k no_entry) s o ≡ true
  pub above : (k : ℕ) → r ≤ k → k < length es → before (slice_index_or es k no_entry) s o ≡ false

-- es has the entry of each arc, in the order of the arcs
pub record Listed (arcs : List Arc) (n : ℕ) (es : List Entry) : Type 0 where
  pub count : length es ≡ n
  pub each : (k : ℕ) → k < n → slice_index_or es k no_entry ≡ entry_of arcs k

-- of the arcs of state s, the first of those with the least operator numbered `from` or more
abbrev pub NextArc : List Arc → ℕ → ℕ → Option ℕ → Type 0
NextArc arcs s from None = (o : ℕ) → from ≤ o → target arcs s o ≡ None
NextArc arcs s from (Some j) =
    (j < length arcs) × ((get_or arcs j no_arc).from ≡ s) × (from ≤ (get_or arcs j no_arc).operator)
    × ((k : ℕ) → k < j → leads (slice_index_or arcs k no_arc) s (get_or arcs j no_arc).operator ≡ false)
    × ((o : ℕ) → from ≤ o → o < (get_or arcs j no_arc).operator → target arcs s o ≡ None)
