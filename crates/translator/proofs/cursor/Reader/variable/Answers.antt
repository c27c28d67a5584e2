use Rattle.std.proofs.Common.{refl}
use Rattle.translator.proofs.Repeats.{chain}
use Rattle.translator.proofs.cursor.Reader.variable.Goals as goal

pub returns-clause-tells : goal.returns-clause-tells
returns-clause-tells c =
    let told = c.in_ok-size.ensures in
    let most = c.min-most.ensures in
    let name = c.in_ok-text_line.ensures in
    let values = c.in_ok-value_lines.ensures in
    (record { name = name.0; size = c.in_ok-size.size; values = values.0 }, chain _ c.in_ok-keyword.ensures (chain _ name.1 (chain _ c.in_ok-layer_line.ensures (chain _ (rw most at told.tells) (chain _ values.1 (chain _ c.in_ok-keyword-2.ensures refl))))), refl)
