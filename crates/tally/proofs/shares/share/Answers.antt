use Rattle.std.proofs.Common.{arith}
use Rattle.tally.proofs.Quotients.{quotient_share}
use Rattle.tally.proofs.shares.share.Goals as goal

pub returns-clause-between : goal.returns-clause-between
returns-clause-between c = quotient_share c.args.pair (record { some = omega arith; within = omega arith }) (omega arith)
