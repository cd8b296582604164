-- The fields of a line, from its first byte on.
use Rattle.std.proofs.Common.{◌≡◌, ℕ, eqb, ◌+◌, ◌%◌, ◌^◌, ◌<◌, ◌≤◌, Bool, true, false, cond, List, [], ◌∷◌, length, sym, ap, ◌∙◌, add_assoc, arith}
use Rattle.std.proofs.lemmas.Bool.{eq-eqb, ne_eqb}
use Rattle.std.proofs.lemmas.List.Splits.{slice_split-cons_yes, slice_split-cons_no, length-slice_split}
use Rattle.std.proofs.lemmas.List.Sums.{sum_by-cons}
use Rattle.std.specs.List.{fold, onto_first, sum_by}
use Rattle.notation.specs.Fields.{fields_of}

-- a separator ends an empty field, and any other byte belongs to the first one
pub at_separator : (s b : ℕ) (bs : List ℕ) → b ≡ s → fields_of s (b ∷ bs) ≡ [] ∷ fields_of s bs
at_separator s b bs e = slice_split-cons_yes (λ x. eqb x s) b bs (eq-eqb b s e)

pub at_other : (s b : ℕ) (bs : List ℕ) → (b ≡ s → ⊥) → fields_of s (b ∷ bs) ≡ onto_first b (fields_of s bs)
at_other s b bs ne = slice_split-cons_no (λ x. eqb x s) b bs (ne_eqb b s ne)

-- a line has at least one field
pub some_field : (s : ℕ) (bs : List ℕ) → 1 ≤ length (fields_of s bs)
some_field s bs = omega (arith, length-slice_split (λ x. eqb x s) bs)

-- 1 for a separator
abbrev separates : ℕ → ℕ → ℕ
separates s b = cond (eqb b s) 1 0

-- one more at each separator, in 64 bits
abbrev pub one_more : ℕ → ℕ → ℕ → ℕ
one_more s n b = (n + separates s b) % 2 ^ 64

at_most_one : (t : Bool) → cond t 1 0 ≤ 1
at_most_one true = omega arith
at_most_one false = omega arith

-- a sum that does not wrap
summed : (s n : ℕ) (bs : List ℕ) → n + length bs < 2 ^ 64 → fold (one_more s) n bs ≡ n + sum_by (separates s) bs
summed s n [] fits = omega arith
summed s n (b ∷ bs) fits =
    let small = at_most_one (eqb b s) in
    let long : length (b ∷ bs) ≡ 1 + length bs = omega arith in
    let step : one_more s n b ≡ n + separates s b = omega (arith, fits) in
    ap (λ m. fold (one_more s) m bs) step
    ∙ summed s (n + separates s b) bs (omega (arith, fits))
    ∙ add_assoc n (separates s b) (sum_by (separates s) bs)
    ∙ ap (λ k. n + k) (sym (sum_by-cons (separates s) b bs))

-- so the fields of a line are counted
pub fields_counted : (s : ℕ) (bs : List ℕ) → 1 + length bs < 2 ^ 64 → fold (one_more s) 1 bs ≡ length (fields_of s bs)
fields_counted s bs fits =
    let all = length-slice_split (λ x. eqb x s) bs in
    summed s 1 bs fits ∙ omega arith
