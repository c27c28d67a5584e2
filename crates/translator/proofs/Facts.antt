-- The conditions read so far: their records, and the variables seen. Assumes nothing.
use Rattle.std.proofs.Common.{◌≡◌, ℕ, ◌+◌, ◌-◌, ◌<◌, List, [], ◌∷◌, ◌++◌, length, set, Ok, Err, sym, refl, ap, ◌∙◌}
use Rattle.std.proofs.lemmas.List.{length_push}
use Rattle.task.specs.declared.faults.Fault.{Fault}
use Rattle.sas.specs.declared.tables.Condition.{Condition}
use Rattle.translator.specs.declared.forms.Form.{Form}
use Rattle.translator.specs.Lines.{Place}
use Rattle.translator.specs.Filling.{put}
use Rattle.translator.specs.Reads.{Read}
use Rattle.translator.specs.Sections.{Noted, repeated, condition_line, next_condition}
use Rattle.translator.proofs.Fills.{put_more}
use Rattle.translator.proofs.Repeats.{repeat_on, repeat_fault, chain, stop}

-- what stays the same over the loop
pub record Frame : Type 0 where
  pub form : Form
  pub count : ℕ
  pub first : ℕ
  pub table : List Condition
  pub seen : Noted
  pub start : Place

abbrev pub whole : Frame → Read (List Condition × Noted)
whole f = repeated (next_condition f.form) f.count ([], f.seen) f.start

pub record Sofar (f : Frame) (i : ℕ) (p : Place) (seen : Noted) (table : List Condition) (cs : List Condition) : Type 0 where
  pub on : whole f ≡ repeated (next_condition f.form) (f.count - i) (cs, seen) p
  pub long : length cs ≡ i
  pub laid : table ≡ put f.table f.first cs

module _ {f : Frame} {i : ℕ} {p : Place} {seen : Noted} {table cs : List Condition} (so : Sofar f i p seen table cs) where
  pub one_more : i < f.count → (c : Condition) (seen' : Noted) (q : Place) → condition_line f.form seen p ≡ Ok ((c, seen'), q) → (table' : List Condition) → table' ≡ set table (f.first + i) c → Sofar f (i + 1) q seen' table' (cs ++ c ∷ [])
  one_more h c seen' q reads table' stored =
      record {
        on = repeat_on (next_condition f.form) f.count i (cs, seen) p _ h so.on (cs ++ c ∷ [], seen') q (chain _ reads refl);
        long = length_push cs c ∙ ap (λ k. k + 1) so.long;
        laid = stored ∙ ap (λ k. set table (f.first + k) c) (sym so.long) ∙ put_more f.table table f.first cs c so.laid;
      }

  pub condition_fault : i < f.count → (e : Fault) → condition_line f.form seen p ≡ Err e → whole f ≡ Err e
  condition_fault h e reads = repeat_fault (next_condition f.form) f.count i (cs, seen) p _ h so.on e (stop _ reads)
