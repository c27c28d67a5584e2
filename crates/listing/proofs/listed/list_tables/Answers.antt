use Rattle.std.proofs.lemmas.Result.{IfOk-weaker}
use Rattle.sas.specs.Meaning.{task_meaning, task_names}
use Rattle.listing.proofs.listed.list_tables.Goals as goal

pub returns : goal.returns
returns c =
    let made = c.new.ensures.made in
    let task = c.new.result in
    IfOk-weaker c.list_task.result _ _ (λ o e. (task_meaning task, task_names task, record { held = made.held; refused = made.refused }, e)) c.list_task.ensures
