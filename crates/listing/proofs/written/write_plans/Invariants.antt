use Rattle.std.proofs.Common.{map, take, vec_items}
use Rattle.std.specs.Slice.Iter.{iter_rest}
use Rattle.std.specs.Iterator.Adapters.{take_source, take_count}
use Rattle.listing.proofs.Plans.{Sofar}
use Rattle.listing.proofs.written.write_plans.Given as goal

abbrev pub invariant-loop-steps : goal.invariant-loop-steps
invariant-loop-steps g l =
    (goal.iterator-loop-steps g).can_next l.steps-iterator
    × (goal.iterator-loop-steps g).is_finite l.steps-iterator
    × Sofar (g.T.Task.meaning l.task) (g.T.NamedTask.names l.task) (take 100 (map vec_items l.plans)) (take (take_count l.steps-iterator) (map vec_items (iter_rest (take_source l.steps-iterator)))) (vec_items l.text)
