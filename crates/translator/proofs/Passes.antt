-- Two passes over one file: the first finds it good, the second fills the tables. Assumes nothing.
use Rattle.std.proofs.Common.{◌≡◌, ℕ, ◌≤◌, ltb, List, ◌++◌, length, Ok, Err, Result, sym, ap, ◌∙◌, arith}
use Rattle.std.proofs.lemmas.Bool.{cond-false, le-ltb}
use Rattle.task.specs.declared.faults.Fault.{Fault}
use Rattle.sas.specs.declared.tables.Variable.{Variable}
use Rattle.sas.specs.declared.tables.Operator.{Operator}
use Rattle.sas.specs.declared.tables.Condition.{Condition}
use Rattle.sas.specs.declared.tables.Reading.{Reading}
use Rattle.translator.specs.declared.stores.Room.{Room}
use Rattle.translator.specs.Lines.{Place, opening}
use Rattle.translator.specs.Reads.{Read, Finds}
use Rattle.translator.specs.Description.{Description, all_conditions}
use Rattle.translator.specs.Filled.{FileFilled}
use Rattle.translator.specs.Filling.{variable_records, operator_records, room_in}
use Rattle.translator.specs.Sections.{whole_file, without_place, described}
use Rattle.translator.specs.Taken.{Taken}
use Rattle.translator.proofs.Fills.{put_first}

-- a file within the limit gives what its lines give
described_is : (room : Room) (bs : List ℕ) (p : Place) (d : Read Description) → length bs ≤ 65536 → p ≡ opening bs → whole_file room p ≡ d → described room bs ≡ without_place d
described_is room bs p d h start e = cond-false (ltb 65536 (length bs)) _ _ (le-ltb 65536 (length bs) h) ∙ ap (λ q. without_place (whole_file room q)) (sym start) ∙ ap without_place e

module _ (bs : List ℕ) (small : length bs ≤ 65536) (vs vs' : List Variable) (os os' : List Operator) (cs cs' : List Condition) (p₁ p₂ q₁ q₂ : Place) (start₁ : p₁ ≡ opening bs) (start₂ : p₂ ≡ opening bs) where
  pub taken : (d₁ : Description) → whole_file (room_in vs os cs) p₁ ≡ Ok (d₁, q₁) → (r : Result Reading Fault) → Finds (λ d u. FileFilled (room_in vs os cs) vs vs' os os' cs cs' u d) (whole_file (room_in vs os cs) p₂) r q₂ → Taken bs vs vs' os os' cs cs' r
  taken d₁ first (Ok used) h =
      let d = h.0 in
      let f = h.2 in (
        d,
        described_is (room_in vs os cs) bs p₂ (Ok (d, q₂)) small start₂ h.1,
        record {
          is = f.is;
          variables_hold = f.variables_laid ∙ put_first vs (variable_records d.variables) f.variables_fit;
          operators_hold = f.operators_laid ∙ put_first os (operator_records (length d.goal) d.operators) f.operators_fit;
          conditions_hold = f.conditions_laid ∙ put_first cs (d.goal ++ all_conditions d.operators) f.conditions_fit;
        },
      )
  taken d₁ first (Err f) h = absurd (never _ (described_is (room_in vs os cs) bs p₁ (Ok (d₁, q₁)) small start₁ first) (described_is (room_in vs os cs) bs p₂ (Err f) small start₂ h))
    where
      never : (r : Result Description Fault) → r ≡ Ok d₁ → r ≡ Err f → ⊥
      never r e g = let z : ◌≡◌ {A = ℕ} 0 1 = cc in omega arith
