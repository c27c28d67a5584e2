use Rattle.std.proofs.Common.{[], refl}
use Rattle.translator.specs.Readers.{place_of}
use Rattle.translator.specs.Sections.{next_mutex}
use Rattle.translator.proofs.Repeats.{onward_more, onward_fault, finds_fault, chain, stop}
use Rattle.translator.proofs.cursor.Reader.mutex_list.Goals as goal

pub loop-preserved : goal.loop-preserved
loop-preserved c =
    onward_more (next_mutex c.args.sizes.now.all.items) c.args.count [] (place_of c.args.self.now) c.loop.counter (place_of c.loop.self) c.loop.invariant c.loop-test.true _ (λ a. (_, chain _ c.in_ok-mutex_group.ensures.1 refl))

pub returns-in_err-mutex_group : goal.returns-in_err-mutex_group
returns-in_err-mutex_group c =
    finds_fault _ _ _ _ c.in_err-mutex_group.field-0.0 c.from_residual.ensures.1
    (onward_fault (next_mutex c.args.sizes.now.all.items) c.args.count [] (place_of c.args.self.now) c.loop.counter (place_of c.loop.self) c.loop.invariant c.loop-test.true _ (λ a. stop _ c.in_err-mutex_group.ensures))
