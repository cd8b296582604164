-- Bytes at the front of an array whose rest is zero.
use Rattle.std.specs.Prelude.{◌≡◌, ℕ, ◌-◌, ◌≤◌, List, ◌++◌, length, take, drop, replicate}
use Rattle.std.proofs.Common.{sym, ap, ◌∙◌, subst}
use Rattle.std.proofs.lemmas.List.{length-take-le, take-append-drop}

-- so many of the array's bytes are in use, and the others are zero
pub record Padded (size : ℕ) (bytes : List ℕ) (len : ℕ) : Type 0 where
  pub fits : len ≤ size
  pub whole : length bytes ≡ size
  pub rest : drop len bytes ≡ replicate (size - len) 0

-- the law of the model: the bytes in use give back their number and the array
pub length-padded : (size : ℕ) (bytes : List ℕ) (len : ℕ) → Padded size bytes len → length (take len bytes) ≡ len
length-padded size bytes len p = length-take-le len bytes (subst (λ n. len ≤ n) (sym p.whole) p.fits)

pub padded_again : (size : ℕ) (bytes : List ℕ) (len : ℕ) → Padded size bytes len → take len bytes ++ replicate (size - length (take len bytes)) 0 ≡ bytes
padded_again size bytes len p =
    ap (λ n. take len bytes ++ replicate (size - n) 0) (length-padded size bytes len p)
    ∙ ap (λ z. take len bytes ++ z) (sym p.rest)
    ∙ take-append-drop len bytes
