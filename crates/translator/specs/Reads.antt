-- What a step of reading answers at a place: a value and the place after it, or the first fault.
-- Assumes nothing.
use Rattle.std.specs.Prelude.{◌≡◌, ℕ, ◌+◌, Bool, true, false, List, [], ◌∷◌, drop, ℤ, Some, None, Ok, Err, Option, Result}
use Rattle.task.specs.declared.faults.Fault.{Fault}
use Rattle.task.specs.declared.faults.Kind.{Kind}
use Rattle.task.specs.declared.faults.Kind.TheVariants.{EndsEarly, WrongWord, BadNumber}
use Rattle.task.specs.declared.faults.Layer.TheVariants.{Reading}
use Rattle.sas.specs.Tables.{part}
use Rattle.translator.specs.Lines.{Place, line_length, cut}
use Rattle.translator.specs.Numerals.{number_in, signed_in, same}

abbrev pub Read : Type 0 → Type 0
Read A = Result (A × Place) Fault

abbrev pub and_then : {A B : Type 0} → Read A → (A → Place → Read B) → Read B
and_then (Ok x) f = f x.0 x.1
and_then (Err e) f = Err e

abbrev pub fault_at : Kind → ℕ → Fault
fault_at k line = record { kind = k; place = line; layer = Reading }

-- a fault of the line in hand
abbrev pub refuse : {A : Type 0} → Kind → Place → Read A
refuse k p = Err (fault_at k p.line)

-- a fault of the line in hand where the test holds
abbrev pub refuse_if : {A : Type 0} → Bool → Kind → Place → Read A → Read A
refuse_if true k p d = refuse k p
refuse_if false k p d = d

abbrev pub lined : Place → Option ℕ → Read (List ℕ)
lined p None = Err (fault_at EndsEarly (p.line + 1))
lined p (Some n) = Ok (part p.bytes p.next n, record { bytes = p.bytes; left = cut (part p.bytes p.next n); next = p.next + n + 1; line = p.line + 1 })

-- the next line
abbrev pub next_line : Place → Read (List ℕ)
next_line p = lined p (line_length (drop p.next p.bytes))

abbrev pub matched : Bool → Place → Read (Unit {0})
matched true p = Ok (tt, p)
matched false p = refuse WrongWord p

-- a line that is this word
abbrev pub keyword : List ℕ → Place → Read (Unit {0})
keyword w p = and_then (next_line p) (λ l q. matched (same l w) q)

abbrev pub parted : Place → List (List ℕ) → Read (List ℕ)
parted p [] = refuse BadNumber p
parted p (w ∷ ws) = Ok (w, record { bytes = p.bytes; left = ws; next = p.next; line = p.line })

-- the next part of the line in hand
abbrev pub next_part : Place → Read (List ℕ)
next_part p = parted p p.left

abbrev pub given : {A : Type 0} → Place → Option A → Read A
given p None = refuse BadNumber p
given p (Some v) = Ok (v, p)

abbrev pub next_number : Place → Read ℕ
next_number p = and_then (next_part p) (λ w q. given q (number_in w))

abbrev pub next_signed : Place → Read ℤ
next_signed p = and_then (next_part p) (λ w q. given q (signed_in w))

abbrev pub ended : Place → List (List ℕ) → Read (Unit {0})
ended p [] = Ok (tt, p)
ended p (w ∷ ws) = refuse BadNumber p

-- no part of the line in hand is left
abbrev pub line_end : Place → Read (Unit {0})
line_end p = ended p p.left

-- r is what d answers, its value seen by f, and p the place after it
abbrev pub Tells : {A V : Type 0} → (V → A) → Read A → Result V Fault → Place → Type 0
Tells f d (Ok v) p = d ≡ Ok (f v, p)
Tells f d (Err e) p = d ≡ Err e

-- the same where r shows only so much of what d answers
abbrev pub Finds : {A V : Type 0} → (A → V → Type 0) → Read A → Result V Fault → Place → Type 0
Finds {A = A} K d (Ok v) p = (a : A) × (d ≡ Ok (a, p)) × K a v
Finds K d (Err e) p = d ≡ Err e
