-- What is written of a task's cheapest plans. Assumes nothing.
use Rattle.std.specs.Prelude.{◌≡◌, ℕ, ◌<◌, ◌≤◌, ◌≢◌, ◌⊎◌, List, [], ◌∷◌, ◌++◌, take, Some, None, Ok, Err, Option, Result}
use Rattle.task.specs.Listing.{AllOf, Each}
use Rattle.task.specs.Model.{Model}
use Rattle.task.specs.Names.{Names}
use Rattle.task.specs.Order.{Before}
use Rattle.task.specs.Plans.{Plan, Cheapest, price}
use Rattle.task.specs.declared.faults.Fault.{Fault}
use Rattle.task.specs.declared.faults.Kind.TheVariants.{Unfinished}
use Rattle.task.specs.declared.faults.Layer.TheVariants.{Session}
use Rattle.text.specs.PlanText.{plan_text, answer}
use Rattle.text.specs.RefusalLine.{refusal_line}

-- the bytes written, and the refusal that ended them, if one did
abbrev pub Written : Type 0
Written = List ℕ × Option Fault

-- a plan's text in front of what follows it, or the line of the refusal in their place
abbrev pub in_front : Result ℕ Fault → List ℕ → Written → Written
in_front (Ok end) text w = (text ++ w.0, w.1)
in_front (Err f) text w = (refusal_line f, Some f)

-- the texts of the plans, one after the other, up to the first that is longer than 65,536 bytes
abbrev pub texts : Model → Names → List (List ℕ) → Written
texts m n [] = ([], None)
texts m n (os ∷ ps) = in_front (answer m n os 65536) (plan_text m n os) (texts m n ps)

abbrev pub refused_with : Fault → Written
refused_with f = (refusal_line f, Some f)

abbrev pub unfinished : Fault
unfinished = record { kind = Unfinished; place = 0; layer = Session }

-- no plan costs so little, and this is said; or there are plans that do, and the first hundred of all cheapest
-- plans are written
abbrev pub Outcome : ℕ → Model → Names → Written → Type 0
Outcome highest m n w =
    (((ps : List ℕ) → Plan m ps → highest < price m ps) × (w ≡ refused_with unfinished))
    ⊎ ((ps : List (List ℕ)) × AllOf Before (Cheapest m) ps × (ps ≢ []) × Each (λ os. price m os ≤ highest) ps × (w ≡ texts m n (take 100 ps)))

-- one plan's text, or the line of the refusal, with which the writing ends
abbrev pub added : Result ℕ Fault → List ℕ → Written
added (Ok end) text = (text, None)
added (Err f) text = (refusal_line f, Some f)

-- what one plan adds to what is written
pub record Added (m : Model) (n : Names) (steps before after : List ℕ) (end : Option Fault) : Type 0 where
  pub text : after ≡ before ++ (added (answer m n steps 65536) (plan_text m n steps)).0
  pub ends : end ≡ (added (answer m n steps 65536) (plan_text m n steps)).1
