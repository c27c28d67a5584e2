-- The empty task keeps the laws. Assumes nothing.
use Rattle.std.proofs.Common.{refl, arith}
use Rattle.task.specs.Model.{Lawful}
use Rattle.task.specs.Nothing.{nothing}

pub nothing_lawful : Lawful nothing
nothing_lawful =
    record {
      few = omega arith;
      priced = λ o h. omega arith;
      unpriced = λ o h. refl;
      wide = omega arith;
      starts = omega arith;
      moves = λ s o t e. grind arith;
      inside = λ s e. grind arith;
      estimates = λ s h e. grind arith;
      aware = λ s e. grind arith;
      consistent = λ s o t e. grind arith;
    }
