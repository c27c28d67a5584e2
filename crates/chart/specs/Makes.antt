-- What a made chart is known to hold. Assumes nothing.
use Rattle.std.proofs.Common.{◌≡◌, ℕ, ◌≤◌, [], Some, None, Option, refl}
use Rattle.task.specs.Model.{Lawful}
use Rattle.task.proofs.Nothing.{nothing_lawful}
use Rattle.chart.specs.declared.index.IndexedTables.{IndexedTables}
use Rattle.chart.specs.declared.shape.Chart.{Chart}
use Rattle.chart.specs.Meaning.{meaning_of, naming_of, task_meaning, task_names}
use Rattle.chart.specs.Tables.{contents}
use Rattle.chart.specs.Lawful.{Passed, no_fault_passed, charted_lawful, charted_nameless}

module _ (c : Chart) where
  pub made_passed : (t : IndexedTables) → c.held ≡ Some t → Passed (contents t.fit.tables)
  made_passed t e = no_fault_passed (contents t.fit.tables) (c.faultless t e)

  pub task_lawful : Lawful (task_meaning c)
  task_lawful = go c.held refl
    where
      go : (held : Option IndexedTables) → c.held ≡ held → Lawful (meaning_of held)
      go (Some t) e = charted_lawful (contents t.fit.tables) (made_passed t e)
      go None e = nothing_lawful

  pub task_nameless : (o : ℕ) → (task_meaning c).operators ≤ o → (task_names c).name o ≡ []
  task_nameless o h = go c.held refl h
    where
      go : (held : Option IndexedTables) → c.held ≡ held → (meaning_of held).operators ≤ o → (naming_of held).name o ≡ []
      go (Some t) e h = charted_nameless (contents t.fit.tables) (made_passed t e) o h
      go None e h = refl
