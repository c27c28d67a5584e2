-- The values of states, and what operators make of them. Assumes nothing.
use Rattle.std.proofs.Common.{◌≡◌, ℕ, ◌<◌, List, length, get_or, Some, ap, ◌∙◌, arith}
use Rattle.std.specs.List.{slice_get}
use Rattle.std.specs.Option.{option_map}
use Rattle.std.proofs.lemmas.List.{length-map}
use Rattle.std.proofs.lemmas.Option.{slice_get-map, slice_get-get_or}
use Rattle.task.specs.Listing.{Each}
use Rattle.task.proofs.Members.{each_at}
use Rattle.sas.specs.declared.in_use.InUse.{InUse}
use Rattle.sas.specs.declared.tables.Variable.{Variable}
use Rattle.sas.specs.declared.tables.Condition.{Condition}
use Rattle.sas.specs.declared.tables.Operator.{Operator}
use Rattle.sas.specs.Meaning.{sas_in}
use Rattle.sas.specs.Tables.{ConditionFits, action_of}
use Rattle.sas.specs.Values.{Within, sizes}

-- conditions that fit are of variables that have a value in vs
pub fits_within : (vars : List Variable) (vs : List ℕ) (cs : List Condition) → length vs ≡ length vars → Each (ConditionFits (sizes vars)) cs → Within (length vs) cs
fits_within vars vs cs l f = λ k d h. omega (arith, l, length-map vars (λ v. v.size), (each_at (ConditionFits (sizes vars)) cs k d h f).known)

-- the same for any sizes
pub known_within : (ns : List ℕ) (n : ℕ) (cs : List Condition) → length ns ≡ n → Each (ConditionFits ns) cs → Within n cs
known_within ns n cs l f = λ k d h. omega (arith, l, (each_at (ConditionFits ns) cs k d h f).known)

-- the action of an operator that is there
pub action_at : (u : InUse) (i : ℕ) (d : Operator) → i < length u.operators.now → slice_get (sas_in u).actions i ≡ Some (action_of u.conditions.now (get_or u.operators.now i d))
action_at u i d l =
    slice_get-map (action_of u.conditions.now) u.operators.now i ∙ ap (λ o. option_map (action_of u.conditions.now) o) (slice_get-get_or u.operators.now i d l)
