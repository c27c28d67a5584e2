use Rattle.std.proofs.Common.{◌≡◌, ◌^◌, ◌≤◌, drop}
use Rattle.sas.specs.Checks.{product}
use Rattle.sas.specs.Values.{sizes}
use Rattle.sas.proofs.range.product_of.Given as goal

abbrev pub invariant-loop-variable : goal.invariant-loop-variable
invariant-loop-variable l = (l.result ≤ 2 ^ 60) × (product l.result (sizes (drop l.variable-index l.variables)) ≡ product 1 (sizes l.variables))
