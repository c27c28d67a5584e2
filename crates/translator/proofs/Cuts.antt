-- The first newline of a text, and the first space of a line. Assumes nothing.
use Rattle.std.proofs.Common.{◌≡◌, ℕ, ◌+◌, ◌≤◌, Bool, true, false, cond, not, eqb, ltb, List, [], ◌∷◌, length, Some, None, position, unwrap_or, refl, ap, arith}
use Rattle.std.specs.List.{position_or_len}
use Rattle.std.proofs.lemmas.List.Sums.{prefix_len-le-length}
use Rattle.std.proofs.lemmas.Bool.Decides.{nat_tests}
use Rattle.translator.specs.Lines.{one_more, line_length, cut, cut_at, onto}

pub position_newline : (bs : List ℕ) → position (λ b. eqb b 10) bs ≡ line_length bs
position_newline [] = refl
position_newline (b ∷ bs) = go (eqb b 10) (position_or_len (λ x. eqb x 10) bs) (position_newline bs)
  where
    go : (t : Bool) (n : ℕ) → cond (ltb n (length bs)) (Some n) None ≡ line_length bs → cond (ltb (cond (not t) (1 + n) 0) (length (b ∷ bs))) (Some (cond (not t) (1 + n) 0)) None ≡ cond t (Some 0) (one_more (line_length bs))
    go true n e = grind (arith, nat_tests)
    go false n e = grind (arith, nat_tests)

-- a line is cut at its first space
pub cut_first : (bs : List ℕ) → cut bs ≡ cut_at bs (position_or_len (λ b. eqb b 32) bs)
cut_first [] = refl
cut_first (b ∷ bs) = go (eqb b 32) (position_or_len (λ x. eqb x 32) bs) (cut_first bs)
  where
    go : (t : Bool) (n : ℕ) → cut bs ≡ cut_at bs n → cond t ([] ∷ cut bs) (onto b (cut bs)) ≡ cut_at (b ∷ bs) (cond (not t) (1 + n) 0)
    go true n e = grind (arith, nat_tests)
    go false n e = grind (arith, nat_tests)

pub position_else_length : (p : ℕ → Bool) (bs : List ℕ) → unwrap_or (position p bs) (length bs) ≡ position_or_len p bs
position_else_length p bs = go (position_or_len p bs) (prefix_len-le-length (λ b. not (p b)) bs)
  where
    go : (n : ℕ) → n ≤ length bs → unwrap_or (cond (ltb n (length bs)) (Some n) None) (length bs) ≡ n
    go n h = grind (arith, nat_tests)

-- a line has a part
pub some_part : (bs : List ℕ) → (w : List ℕ) × (ws : List (List ℕ)) × (cut bs ≡ w ∷ ws)
some_part [] = ([], [], refl)
some_part (b ∷ bs) = go (eqb b 32) (some_part bs)
  where
    go : (t : Bool) → ((w : List ℕ) × (ws : List (List ℕ)) × (cut bs ≡ w ∷ ws)) → (w : List ℕ) × (ws : List (List ℕ)) × (cond t ([] ∷ cut bs) (onto b (cut bs)) ≡ w ∷ ws)
    go true s = ([], cut bs, refl)
    go false s = (b ∷ s.0, s.1, ap (onto b) s.2)
