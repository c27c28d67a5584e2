use Rattle.sas.specs.Checks.{contents}
use Rattle.sas.specs.Makes.{made_of_use, made_span}
use Rattle.sas.proofs.shape.SasTask.new.Goals as goal

pub returns-clause-span : goal.returns-clause-span
returns-clause-span c = made_span (contents c.args.tables) _ (made_of_use (contents c.args.tables) c.of.result c.of.ensures)
