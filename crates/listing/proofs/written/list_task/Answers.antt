use Rattle.std.proofs.Common.{◌∙◌, ap, map, take, vec_items, subst, inr}
use Rattle.std.proofs.lemmas.Result.{IfOk-weaker}
use Rattle.enumerate.specs.Found.{Found}
use Rattle.enumerate.specs.Lists.{plans_of}
use Rattle.listing.specs.Outcome.{texts}
use Rattle.listing.proofs.written.list_task.Goals as goal

pub returns-in_ok-buffer-in-Some : goal.returns-in_ok-buffer-in-Some
returns-in_ok-buffer-in-Some g c =
    let found = subst (Found (g.T.Task.meaning c.args.task.now) 8) c.in-Some.is c.in_ok-cheapest.ensures in
    IfOk-weaker c.write_plans.result _ _ (λ o e. inr (plans_of c.in-Some.plans, found.0, found.1, found.2, e ∙ ap (λ l. texts (g.T.Task.meaning c.args.task.now) (g.T.NamedTask.names c.args.task.now) (take 100 (map vec_items l))) c.deref.ensures.value)) c.write_plans.ensures
