use Rattle.std.proofs.Common.{◌≡◌, Ok, refl, subst, arith}
use Rattle.translator.specs.Readers.{place_of}
use Rattle.translator.specs.Sections.{mutexes_section, state_section, rest_of_file}
use Rattle.translator.proofs.Repeats.{chain}
use Rattle.translator.proofs.Wholes.{file_filled}
use Rattle.translator.proofs.cursor.Reader.file.Goals as goal

pub returns : goal.returns
returns c =
    let front = c.in_ok-sizes.ensures in
    let sized = front.tells.2.sized in
    let mutexes = c.in_ok-mutexes.ensures in
    let state = c.in_ok-start.ensures in
    let rest = c.in_ok-actions.ensures in (
      _,
      chain _ c.in_ok-version.ensures (chain _ c.in_ok-unit_cost.ensures (chain _ front.tells.1 (chain _ (subst (λ ns. mutexes_section ns (place_of c.variables.new.self) ≡ Ok (mutexes.0, place_of c.mutexes.new.self)) sized mutexes.1) (chain _ (subst (λ ns. state_section ns (place_of c.mutexes.new.self) ≡ Ok (state.0, place_of c.state.new.self)) sized state.1) (chain _ (subst (λ ns. rest_of_file c.args.room c.in_ok-unit_cost.unit_cost ns (place_of c.state.new.self) ≡ Ok (rest.0, place_of c.rest.new.self)) sized rest.1) refl))))),
      file_filled c.in_ok-unit_cost.unit_cost mutexes.0 front.tells.2 front.within (omega arith) state.2 rest.2,
    )
