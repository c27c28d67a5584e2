use Rattle.std.proofs.Common.{◌∙◌, ap}
use Rattle.std.specs.Slice.Iter.{iter_rest}
use Rattle.std.specs.Iterator.Adapters.{take_source, take_count}
use Rattle.listing.proofs.Plans.{first_hundred, one_more, stopped, turned, all_written}
use Rattle.listing.proofs.written.write_plans.Goals as goal

pub loop-steps-init : goal.loop-steps-init
loop-steps-init g c =
    let same = c.into_iter-steps-iterator.ensures.into_iter_gives in
    (tt, tt, first_hundred _ _ (ap take_count same ∙ c.take-steps-items.ensures.count) (ap (λ s. iter_rest (take_source s)) same ∙ ap iter_rest c.take-steps-items.ensures.source ∙ c.iter.ensures.rest) _ c.new-text.ensures.items)

pub returns-then-is_some : goal.returns-then-is_some
returns-then-is_some g c = stopped _ _ _ _ (turned _ _ _ _ c.loop-steps.invariant.2 c.in-Some.ensures.steps c.deref.ensures.value) c.if-is_some.ensures c.in_ok-refusal.ensures

pub loop-steps-preserved : goal.loop-steps-preserved
loop-steps-preserved g c = (tt, tt, one_more _ _ _ _ (turned _ _ _ _ c.loop-steps.invariant.2 c.in-Some.ensures.steps c.deref.ensures.value) c.if-is_some.ensures c.in_ok-refusal.ensures)

pub returns : goal.returns
returns g c = all_written _ _ _ c.loop-steps.invariant.2 (λ h. (c.in-None.ensures.steps h).0)
