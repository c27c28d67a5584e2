-- A SAS+ task and what it means. Assumes nothing.
use Rattle.std.specs.Prelude.{◌≡◌, ℕ, ◌<◌, ◌≤◌, Bool, true, false, cond, ◌&&◌, List, length, Some, None, Option, nat_lt}
use Rattle.std.specs.List.{slice_get}
use Rattle.task.specs.Model.{Model}
use Rattle.sas.specs.declared.tables.Condition.{Condition}
use Rattle.sas.specs.States.{spanned, values, numbered}
use Rattle.sas.specs.Actions.{applies, changed}

pub record Action : Type 0 where
  pub conditions : List Condition
  pub cost : ℕ

-- the sizes of the variables, the number of the start state, the goal and the operators
pub record Sas : Type 0 where
  pub sizes : List ℕ
  pub start : ℕ
  pub goal : List Condition
  pub actions : List Action

abbrev pub cost_of : Option Action → ℕ
cost_of None = 0
cost_of (Some a) = a.cost

-- the operator, if there is one, has its conditions here
abbrev pub acts : List ℕ → Option Action → Bool
acts vs None = false
acts vs (Some a) = applies a.conditions vs

-- of the operators numbered `from` or more, the first whose conditions hold
abbrev pub FirstActing : List Action → List ℕ → ℕ → Option ℕ → Type 0
FirstActing as' vs from None = (o : ℕ) → from ≤ o → acts vs (slice_get as' o) ≡ false
FirstActing as' vs from (Some f) =
    (from ≤ f) × (acts vs (slice_get as' f) ≡ true) × ((o : ℕ) → from ≤ o → o < f → acts vs (slice_get as' o) ≡ false)

-- an operator moves a state where its conditions hold, to the state with the new values
abbrev pub moved : List ℕ → Option Action → ℕ → Option ℕ
moved ns None s = None
moved ns (Some a) s = cond (nat_lt s (spanned ns) && applies a.conditions (values ns s)) (Some (numbered ns (changed a.conditions (values ns s)))) None

-- every state has the estimate 0
abbrev pub meant : Sas → Model
meant t =
    record {
      operators = length t.actions;
      cost = λ o. cost_of (slice_get t.actions o);
      span = spanned t.sizes;
      start = t.start;
      goal = λ s. nat_lt s (spanned t.sizes) && applies t.goal (values t.sizes s);
      estimate = λ s. cond (nat_lt s (spanned t.sizes)) (Some 0) None;
      move = λ s o. moved t.sizes (slice_get t.actions o) s;
    }
