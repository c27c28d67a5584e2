use Rattle.std.proofs.Common.{◌-◌}
use Rattle.translator.specs.Readers.{place_of}
use Rattle.translator.proofs.Operators.{operator_filled, operator_read}
use Rattle.translator.proofs.cursor.Reader.operator.Goals as goal

pub returns-clause-tells : goal.returns-clause-tells
returns-clause-tells c =
    let name = c.in_ok-name.ensures in
    let front = c.in_ok-prevail.ensures in
    let back = c.in_ok-effects.ensures in (
      _,
      operator_read c.args.unit c.args.sizes.now.all.items (c.args.room - c.args.first) (place_of c.args.self.now) c.in_ok-keyword.ensures name.1 (rw c.new-seen.ensures at front.tells.1) front.tells.2.long front.tells.2.noted back.tells.1 c.in_ok-cost.ensures c.in_ok-keyword-2.ensures,
      operator_filled c.in_ok-cost.cost name.2.0 name.2.1 front.tells.2 back.tells.2,
    )
