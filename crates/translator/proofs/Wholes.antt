-- What stands behind the start state, and the whole file. Assumes nothing.
use Rattle.std.proofs.Common.{◌≡◌, ℕ, ◌-◌, ◌≤◌, min, Bool, List, [], length, Ok, sym, refl, ap, ◌∙◌, subst, arith}
use Rattle.std.proofs.lemmas.List.{length-append, length-map}
use Rattle.task.specs.declared.faults.Kind.TheVariants.{OverLimit, NotCarried}
use Rattle.sas.specs.declared.tables.Condition.{Condition}
use Rattle.sas.specs.declared.tables.Operator.{Operator}
use Rattle.sas.specs.declared.tables.Variable.{Variable}
use Rattle.sas.specs.States.{numbered}
use Rattle.translator.specs.declared.stores.Room.{Room}
use Rattle.translator.specs.Lines.{Place}
use Rattle.translator.specs.Description.{DescribedVariable, DescribedOperator, sizes_in, all_conditions}
use Rattle.translator.specs.Filled.{GoalFilled, OperatorsFilled, RestFilled, VariablesFilled, FileFilled}
use Rattle.translator.specs.Filling.{put, operator_records, variable_record}
use Rattle.translator.specs.Sections.{goal_section, number_line, next_operator, repeated, file_end, rest_of_file}
use Rattle.translator.proofs.Fills.{put_then}
use Rattle.translator.proofs.Operators.{length-operator_records}
use Rattle.translator.proofs.Repeats.{chain}

module _ (room : Room) {old new : List Operator} {before mid after : List Condition} {count goal used : ℕ} {cs : List Condition} {os : List DescribedOperator} (here : GoalFilled goal before mid cs) (there : OperatorsFilled count goal room.conditions old new mid after used os) where
  pub rest_filled : count ≤ min room.operators 4096 → RestFilled room count used goal old new before after (cs, os)
  rest_filled few =
      record {
        goal_long = here.long;
        long = there.long;
        few = omega arith;
        ends = omega (arith, there.ends, length-append cs (all_conditions os), here.long);
        within = there.within;
        laid = there.laid ∙ ap (λ k. put old 0 (operator_records k os)) (sym here.long);
        conditions = put_then before mid after 0 cs (all_conditions os) here.laid (there.conditions ∙ ap (λ k. put mid k (all_conditions os)) (omega (arith, here.long)));
      }

  pub rest_read : (unit : Bool) (sizes : List ℕ) (p : Place) {q₁ q₂ q₃ q₄ q₅ : Place} {n : ℕ} → goal_section sizes room.conditions p ≡ Ok (cs, q₁) → number_line 0 (min room.operators 4096) OverLimit OverLimit q₁ ≡ Ok (count, q₂) → repeated (next_operator unit sizes (room.conditions - goal)) count [] q₂ ≡ Ok (os, q₃) → number_line 0 0 NotCarried NotCarried q₃ ≡ Ok (n, q₄) → file_end q₄ ≡ Ok (tt, q₅) → rest_of_file room unit sizes p ≡ Ok ((cs, os), q₅)
  rest_read unit sizes p {q₂ = q₂} {q₃ = q₃} e₁ e₂ e₃ e₄ e₅ =
      let e₃' : repeated (next_operator unit sizes (room.conditions - length cs)) count [] q₂ ≡ Ok (os, q₃) = subst (λ k. repeated (next_operator unit sizes (room.conditions - k)) count [] q₂ ≡ Ok (os, q₃)) (sym here.long) e₃ in
      chain _ e₁ (chain _ (chain _ e₂ e₃') (chain _ e₄ (chain _ e₅ refl)))

pub file_filled : {room : Room} {variables variables' : List Variable} {operators operators' : List Operator} {conditions conditions' : List Condition} {count actions used goal number : ℕ} {sizes start : List ℕ} {vs : List DescribedVariable} {r : List Condition × List DescribedOperator} (unit : Bool) (gs : List (List Condition)) → VariablesFilled variables sizes variables' vs → length sizes ≤ room.variables → count ≡ length sizes → number ≡ numbered sizes start → RestFilled room actions used goal operators operators' conditions conditions' r → FileFilled room variables variables' operators operators' conditions conditions' (record { variables = count; operators = actions; conditions = used; goal = goal; start = number; unit_cost = unit }) (record { unit = unit; variables = vs; mutexes = gs; start = start; goal = r.0; operators = r.1 })
file_filled {count = count} {sizes = sizes} {start = start} {vs = vs} {r = r} unit gs front inside counted is rest =
    let many : count ≡ length vs = counted ∙ ap length front.sized ∙ length-map vs (λ (v : DescribedVariable). v.size) in
    let at : _ ≡ numbered (sizes_in vs) start = is ∙ ap (λ ns. numbered ns start) front.sized in
    record {
      is = λ i. record { variables = many i; operators = sym rest.long i; conditions = rest.ends i; goal = sym rest.goal_long i; start = at i; unit_cost = unit };
      variables_fit = omega (arith, many, counted, length-map vs variable_record);
      operators_fit = omega (arith, length-operator_records (length r.0) r.1, rest.long, rest.few);
      conditions_fit = omega (arith, rest.ends, rest.within);
      variables_laid = front.laid;
      operators_laid = rest.laid;
      conditions_laid = rest.conditions;
    }
