-- The line of a refusal is short. Assumes nothing.
use Rattle.std.proofs.Common.{◌≡◌, ℕ, ◌^◌, ◌<◌, ◌≤◌, List, ◌++◌, length, take, drop, IfSome, Some, None, Ok, codes, decimal, Option, Result, sym, ap, ◌∙◌, arith}
use Rattle.std.proofs.lemmas.Fmt.{length-decimal-le}
use Rattle.std.proofs.lemmas.List.{length-append, take_at}
use Rattle.std.proofs.lemmas.Bool.{cond-false, le-ltb}
use Rattle.task.specs.Numbers.{number_of}
use Rattle.task.specs.declared.faults.Fault.{Fault}
use Rattle.task.specs.declared.faults.Kind.{Kind}
use Rattle.task.specs.declared.faults.Kind.TheVariants.{EndsEarly, WrongWord, BadNumber, NotCarried, VariableTwice, OverLimit, BytesAfterEnd, OutOfRange, ArcRepeated, EstimateLaw, SpanTooWide, Unfinished, Full, NoPlan, PastEnd, BufferShort, TooMany, NotThisTask, NoMemory}
use Rattle.text.specs.Buffer.{fit}
use Rattle.text.specs.RefusalLine.{stop_line, refusal_line}

number_small : (k : Kind) → IfSome (number_of k) (λ n. n < 100)
number_small EndsEarly = omega arith
number_small WrongWord = omega arith
number_small BadNumber = omega arith
number_small NotCarried = omega arith
number_small VariableTwice = omega arith
number_small OverLimit = omega arith
number_small BytesAfterEnd = omega arith
number_small OutOfRange = omega arith
number_small ArcRepeated = omega arith
number_small EstimateLaw = omega arith
number_small SpanTooWide = omega arith
number_small Unfinished = omega arith
number_small Full = omega arith
number_small NoPlan = omega arith
number_small PastEnd = omega arith
number_small BufferShort = omega arith
number_small TooMany = omega arith
number_small NotThisTask = omega arith
number_small NoMemory = tt

line_short : (o : Option ℕ) (place : ℕ) → IfSome o (λ n. n < 100) → place < 2 ^ 32 → length (stop_line o place) ≤ 64
line_short None place h k = omega arith
line_short (Some n) place h k =
    omega (
      arith,
      length-append (codes "refused ") (decimal n ++ (codes " at " ++ (decimal place ++ codes "\n"))),
      length-append (decimal n) (codes " at " ++ (decimal place ++ codes "\n")),
      length-append (codes " at ") (decimal place ++ codes "\n"),
      length-append (decimal place) (codes "\n"),
      length-decimal-le 2 n (omega arith) (omega arith) (omega arith),
      length-decimal-le 10 place (omega arith) (omega arith) (omega arith),
    )

-- a buffer of 64 bytes takes the line
pub line_fits : (f : Fault) → f.place < 2 ^ 32 → fit 64 (length (refusal_line f)) ≡ Ok (length (refusal_line f))
line_fits f h = cond-false _ _ _ (le-ltb 64 (length (refusal_line f)) (line_short (number_of f.kind) f.place (number_small f.kind) h))

ok_is : (m n : ℕ) (r : Result ℕ Fault) → Ok m ≡ r → r ≡ Ok n → m ≡ n
ok_is m n r p q = cc

pub line_length : (f : Fault) (end : ℕ) → f.place < 2 ^ 32 → Ok end ≡ fit 64 (length (refusal_line f)) → end ≡ length (refusal_line f)
line_length f end h p = ok_is end _ _ p (line_fits f h)

-- the front of a buffer that begins with a text, as a slice has it
pub front_of : (end : ℕ) (text old buffer : List ℕ) → end ≡ length text → buffer ≡ text ++ drop end old → take end buffer ≡ text
front_of end text old buffer e b = ap (take end) b ∙ take_at text (drop end old) end (sym e)
