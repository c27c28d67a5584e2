-- Where a reader stands in a file: its lines, and the parts of a line between spaces. Assumes nothing.
use Rattle.std.specs.Prelude.{ℕ, suc, ◌+◌, cond, List, [], ◌∷◌, length, take, drop, Some, None, Option, ◌==◌, nat_lt}

abbrev pub one_more : Option ℕ → Option ℕ
one_more None = None
one_more (Some n) = Some (suc n)

-- how many bytes stand before the first newline, if there is one
abbrev pub line_length : List ℕ → Option ℕ
line_length [] = None
line_length (b ∷ bs) = cond (b == 10) (Some 0) (one_more (line_length bs))

abbrev pub onto : ℕ → List (List ℕ) → List (List ℕ)
onto b [] = (b ∷ []) ∷ []
onto b (w ∷ ws) = (b ∷ w) ∷ ws

-- the parts of a line between single spaces: one more than it has spaces, and some may be empty
abbrev pub cut : List ℕ → List (List ℕ)
cut [] = [] ∷ []
cut (b ∷ bs) = cond (b == 32) ([] ∷ cut bs) (onto b (cut bs))

-- a line of which the first part has n bytes: that part, and those after it, if a space follows
abbrev pub cut_at : List ℕ → ℕ → List (List ℕ)
cut_at bs n = take n bs ∷ cond (nat_lt n (length bs)) (cut (drop (n + 1) bs)) []

-- the file, the parts not yet read of the line in hand, where the next line begins, and the number of the
-- line in hand, from 1; 0 before the first
pub record Place : Type 0 where
  pub bytes : List ℕ
  pub left : List (List ℕ)
  pub next : ℕ
  pub line : ℕ

abbrev pub opening : List ℕ → Place
opening bs = record { bytes = bs; left = []; next = 0; line = 0 }
