-- The place at which the program's reader stands, and the variables that it has noted. Assumes nothing.
use Rattle.std.specs.Prelude.{ℕ, ◌-◌, cond, List, [], nat_lt}
use Rattle.sas.specs.Tables.{part}
use Rattle.translator.specs.Lines.{Place, cut}
use Rattle.translator.specs.declared.cursor.Reader.{Reader}
use Rattle.translator.specs.declared.seen.Seen.{Seen}
use Rattle.translator.specs.Sections.{Noted}

-- the parts from `place` on of the line that ends before `next`; none where `place` has come to `next`
abbrev pub left_of : List ℕ → ℕ → ℕ → List (List ℕ)
left_of bs place next = cond (nat_lt place next) (cut (part bs place (next - 1 - place))) []

abbrev pub place_of : Reader → Place
place_of r = record { bytes = r.bytes.now; left = left_of r.bytes.now r.place r.next; next = r.next; line = r.line }

abbrev pub noted_in : Seen → Noted
noted_in s = record { sizes = s.sizes.now.all.items; marks = s.marks }
