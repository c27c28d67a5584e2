-- What each layer means, over what the task below means. Assumes nothing.
use Rattle.std.specs.Prelude.{ℕ, ◌^◌, cond, Ok, Err, Result, nat_le}
use Rattle.task.specs.Model.{Model}
use Rattle.task.specs.Names.{Names}
use Rattle.task.specs.Nothing.{nothing, no_names}
use Rattle.task.specs.declared.faults.Fault.{Fault}
use Rattle.task.specs.declared.faults.Kind.TheVariants.{SpanTooWide}
use Rattle.task.specs.declared.faults.Layer.TheVariants.{Pile}
use Rattle.layers.specs.Barred.{barred}
use Rattle.layers.specs.Required.{required}
use Rattle.layers.specs.declared.barred.Barred.{Barred}
use Rattle.layers.specs.declared.required.Required.{Required}

abbrev pub barred_meaning : {X : Type 0} → (X → Model) → Barred X → Model
barred_meaning meaning b = barred b.operator (meaning b.below.now)

abbrev pub barred_names : {X : Type 0} → (X → Names) → Barred X → Names
barred_names names b = names b.below.now

-- by whether the span of m can be doubled
abbrev pub where_doubled : {A : Type 0} → Model → A → A → A
where_doubled m x y = cond (nat_le m.span (2 ^ 61)) x y

-- the task that requires o, or the empty task where the span below is too wide
abbrev pub required_made : ℕ → Model → Model
required_made o m = where_doubled m (required o m) nothing

abbrev pub required_meaning : {X : Type 0} → (X → Model) → Required X → Model
required_meaning meaning r = required_made r.operator (meaning r.below.now)

abbrev pub required_names : {X : Type 0} → (X → Model) → (X → Names) → Required X → Names
required_names meaning names r = where_doubled (meaning r.below.now) (names r.below.now) no_names

-- the check before the making
abbrev pub required_check : Model → Result (Unit {0}) Fault
required_check m = where_doubled m (Ok tt) (Err (record { kind = SpanTooWide; place = 0; layer = Pile }))
