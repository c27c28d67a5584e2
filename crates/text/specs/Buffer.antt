-- Text in a buffer: where it fits, and what the buffer becomes. Assumes nothing.
use Rattle.std.specs.Prelude.{ℕ, ◌-◌, cond, List, ◌++◌, length, drop, Ok, Err, Result, nat_lt}
use Rattle.std.specs.Borrow.{Bor}
use Rattle.std.specs.List.{flat_map}
use Rattle.task.specs.declared.faults.Fault.{Fault}
use Rattle.task.specs.declared.faults.Kind.{Kind}
use Rattle.task.specs.declared.faults.Kind.TheVariants.{BufferShort}
use Rattle.task.specs.declared.faults.Layer.TheVariants.{Text}

-- a fault of text
abbrev pub text_fault : Kind → ℕ → Fault
text_fault kind place = record { kind = kind; place = place; layer = Text }

-- the end of a text, where the room is at least that
abbrev pub fit : ℕ → ℕ → Result ℕ Fault
fit room end = cond (nat_lt room end) (Err (text_fault BufferShort 0)) (Ok end)

-- the room behind a text of this length, where the text is no longer than the room
abbrev pub room_behind : ℕ → ℕ → Result ℕ Fault
room_behind room long = cond (nat_lt room long) (Err (text_fault BufferShort 0)) (Ok (room - long))

-- a buffer after an answer: the text at its front, or as it was
abbrev pub after : Result ℕ Fault → List ℕ → List ℕ → List ℕ
after (Ok end) text old = text ++ drop end old
after (Err f) text old = old

-- a buffer with the bytes over its front
abbrev pub over : List ℕ → List ℕ → List ℕ
over bytes old = bytes ++ drop (length bytes) old

-- lent pieces, one after another
abbrev pub pieces : List (Bor (List ℕ)) → List ℕ
pieces parts = flat_map (λ part. part.now) parts
