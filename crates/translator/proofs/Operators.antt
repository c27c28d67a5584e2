-- An operator read from its lines, and the operators read so far. Assumes nothing.
use Rattle.std.proofs.Common.{◌≡◌, ℕ, suc, ◌+◌, ◌-◌, ◌<◌, ◌≤◌, Bool, List, [], ◌∷◌, ◌++◌, length, set, Ok, Err, codes, sym, refl, ap, ◌∙◌, subst, subst₂, arith}
use Rattle.task.specs.declared.faults.Fault.{Fault}
use Rattle.std.proofs.lemmas.List.{length-append, length_push, append_assoc, append-nil}
use Rattle.sas.specs.declared.tables.Condition.{Condition}
use Rattle.sas.specs.declared.tables.Operator.{Operator}
use Rattle.translator.specs.declared.forms.Form.TheVariants.{Fact, Effect}
use Rattle.translator.specs.Lines.{Place}
use Rattle.translator.specs.Reads.{Read, keyword}
use Rattle.translator.specs.Description.{Text, DescribedOperator, conditions_in, all_conditions}
use Rattle.translator.specs.Filled.{ConditionsFilled, OperatorFilled, OperatorsFilled}
use Rattle.translator.specs.Filling.{put, operator_record, operator_records}
use Rattle.translator.specs.Sections.{Noted, text_line, conditions_section, cost_line, operator_section, next_operator, none_seen, repeated}
use Rattle.translator.proofs.Fills.{put_more, put_then}
use Rattle.translator.proofs.Repeats.{repeat_on, repeat_fault, chain, stop}

-- the lines of an operator, one after the other
pub operator_read : (unit : Bool) (sizes : List ℕ) (room : ℕ) (p : Place) {q₁ q₂ q₃ q₄ q₅ q₆ : Place} {name : Text} {s t : List Condition × Noted} {prevail cost : ℕ} {seen : Noted} → keyword (codes "begin_operator") p ≡ Ok (tt, q₁) → text_line q₁ ≡ Ok (name, q₂) → conditions_section Fact room (none_seen sizes) q₂ ≡ Ok (s, q₃) → length s.0 ≡ prevail → s.1 ≡ seen → conditions_section Effect (room - prevail) seen q₃ ≡ Ok (t, q₄) → cost_line unit q₄ ≡ Ok (cost, q₅) → keyword (codes "end_operator") q₅ ≡ Ok (tt, q₆) → operator_section unit sizes room p ≡ Ok (record { name = name; prevail = s.0; effects = t.0; cost = cost }, q₆)
operator_read unit sizes room p {q₃ = q₃} {q₄ = q₄} {s = s} {t = t} e₁ e₂ e₃ long noted e₄ e₅ e₆ =
    let e₄' : conditions_section Effect (room - length s.0) s.1 q₃ ≡ Ok (t, q₄) = subst₂ (λ k z. conditions_section Effect (room - k) z q₃ ≡ Ok (t, q₄)) (sym long) (sym noted) e₄ in
    chain _ e₁ (chain _ e₂ (chain _ e₃ (chain _ e₄' (chain _ e₅ (chain _ e₆ refl)))))

pub operator_filled : {first : ℕ} {old mid new : List Condition} {seen seen' : Noted} {n l prevail effects : ℕ} {name : Text} {s t : List Condition × Noted} (cost : ℕ) → name.place ≡ n → length name.letters ≡ l → ConditionsFilled first prevail old seen mid s → ConditionsFilled (first + prevail) effects mid seen' new t → OperatorFilled first old new (record { name = n; name_length = l; first = first; count = prevail + effects; cost = cost }) (record { name = name; prevail = s.0; effects = t.0; cost = cost })
operator_filled {first} {old} {mid} {new} {prevail = prevail} {effects = effects} {s = s} {t = t} cost place long here there =
    let count : prevail + effects ≡ length (s.0 ++ t.0) = omega (arith, length-append s.0 t.0, here.long, there.long) in
    record {
      is = λ i. record { name = sym place i; name_length = sym long i; first = first; count = count i; cost = cost };
      laid = put_then old mid new first s.0 t.0 here.laid (there.laid ∙ ap (λ k. put mid (first + k) t.0) (sym here.long));
    }

all_conditions-push : (os : List DescribedOperator) (o : DescribedOperator) → all_conditions (os ++ o ∷ []) ≡ all_conditions os ++ conditions_in o
all_conditions-push [] o = append-nil (conditions_in o)
all_conditions-push (x ∷ os) o = ap (λ cs. conditions_in x ++ cs) (all_conditions-push os o) ∙ sym (append_assoc (conditions_in x) (all_conditions os) (conditions_in o))

operator_records-push : (first : ℕ) (os : List DescribedOperator) (o : DescribedOperator) → operator_records first (os ++ o ∷ []) ≡ operator_records first os ++ operator_record (first + length (all_conditions os)) o ∷ []
operator_records-push first [] o = ap (λ k. operator_record k o ∷ []) (omega arith)
operator_records-push first (x ∷ os) o =
    let far : first + length (conditions_in x) + length (all_conditions os) ≡ first + length (all_conditions (x ∷ os)) = omega (arith, length-append (conditions_in x) (all_conditions os)) in
    ap (λ rs. operator_record first x ∷ rs) (operator_records-push (first + length (conditions_in x)) os o)
    ∙ ap (λ k. operator_record first x ∷ (operator_records (first + length (conditions_in x)) os ++ operator_record k o ∷ [])) far

pub length-operator_records : (first : ℕ) (os : List DescribedOperator) → length (operator_records first os) ≡ length os
length-operator_records first [] = refl
length-operator_records first (o ∷ os) = ap suc (length-operator_records (first + length (conditions_in o)) os)

-- what stays the same over the loop
pub record Frame : Type 0 where
  pub unit : Bool
  pub sizes : List ℕ
  pub count : ℕ
  pub first : ℕ
  pub room : ℕ
  pub operators : List Operator
  pub table : List Condition
  pub start : Place

abbrev pub step : Frame → List DescribedOperator → Place → Read (List DescribedOperator)
step f = next_operator f.unit f.sizes (f.room - f.first)

abbrev pub whole : Frame → Read (List DescribedOperator)
whole f = repeated (step f) f.count [] f.start

pub record Sofar (f : Frame) (i : ℕ) (p : Place) (operators : List Operator) (table : List Condition) (used : ℕ) (os : List DescribedOperator) : Type 0 where
  pub on : whole f ≡ repeated (step f) (f.count - i) os p
  pub filled_up : OperatorsFilled i f.first f.room f.operators operators f.table table used os

module _ {f : Frame} {i : ℕ} {p : Place} {operators : List Operator} {table : List Condition} {used : ℕ} {os : List DescribedOperator} (so : Sofar f i p operators table used os) where
  -- the room that the program has left is the one that the definition gives
  room_left : f.room - used ≡ f.room - f.first - length (all_conditions os)
  room_left = omega (arith, so.filled_up.ends)

  pub one_more : i < f.count → (o : DescribedOperator) (r : Operator) (q : Place) → operator_section f.unit f.sizes (f.room - used) p ≡ Ok (o, q) → (table' : List Condition) → OperatorFilled used table table' r o → used + r.count ≤ f.room → (operators' : List Operator) → operators' ≡ set operators i r → Sofar f (i + 1) q operators' table' (used + r.count) (os ++ o ∷ [])
  one_more h o r q reads table' there within operators' stored =
      let ends = so.filled_up.ends in
      let count : r.count ≡ length (conditions_in o) = ap (λ (x : Operator). x.count) there.is in
      let more : length (all_conditions (os ++ o ∷ [])) ≡ length (all_conditions os) + length (conditions_in o) = ap length (all_conditions-push os o) ∙ length-append (all_conditions os) (conditions_in o) in
      let place : i ≡ 0 + length (operator_records f.first os) = omega (arith, so.filled_up.long, length-operator_records f.first os) in
      record {
        on = repeat_on (step f) f.count i os p _ h so.on (os ++ o ∷ []) q (chain _ (subst (λ k. operator_section f.unit f.sizes k p ≡ Ok (o, q)) room_left reads) refl);
        filled_up =
            record {
              long = length_push os o ∙ ap (λ k. k + 1) so.filled_up.long;
              ends = omega (arith, ends, count, more);
              within = within;
              laid =
                  stored ∙ ap (λ x. set operators i x) (there.is ∙ ap (λ k. operator_record k o) ends)
                  ∙ ap (λ k. set operators k (operator_record (f.first + length (all_conditions os)) o)) place
                  ∙ put_more f.operators operators 0 (operator_records f.first os) (operator_record (f.first + length (all_conditions os)) o) so.filled_up.laid
                  ∙ ap (put f.operators 0) (sym (operator_records-push f.first os o));
              conditions =
                  put_then f.table table table' f.first (all_conditions os) (conditions_in o) so.filled_up.conditions (there.laid ∙ ap (λ k. put table k (conditions_in o)) ends)
                  ∙ ap (put f.table f.first) (sym (all_conditions-push os o));
            };
      }

  pub operator_fault : i < f.count → (e : Fault) → operator_section f.unit f.sizes (f.room - used) p ≡ Err e → whole f ≡ Err e
  operator_fault h e reads = repeat_fault (step f) f.count i os p _ h so.on e (stop _ (subst (λ k. operator_section f.unit f.sizes k p ≡ Err e) room_left reads))
