-- SAS+ tasks within the limits, whose conditions name no variable and no value that is not there. Assumes nothing.
use Rattle.std.specs.Prelude.{ℕ, ◌^◌, ◌<◌, ◌≤◌, List, length}
use Rattle.task.specs.Listing.{Each}
use Rattle.sas.specs.Sas.{Action, Sas}
use Rattle.sas.specs.States.{spanned}
use Rattle.sas.specs.Tables.{ConditionFits}
use Rattle.sas.specs.Values.{Sized}

pub record ActionFits (ns : List ℕ) (a : Action) : Type 0 where
  pub fit : Each (ConditionFits ns) a.conditions
  pub priced : (1 ≤ a.cost) × (a.cost ≤ 1000000)

pub record SasFits (t : Sas) : Type 0 where
  pub sized : Sized t.sizes
  pub small : spanned t.sizes ≤ 2 ^ 60
  pub starts : t.start < spanned t.sizes
  pub goal : Each (ConditionFits t.sizes) t.goal
  pub few : length t.actions ≤ 4096
  pub actions : Each (ActionFits t.sizes) t.actions
