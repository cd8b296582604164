-- How an array fills up whose bytes that are not in use are zero.
use Rattle.std.proofs.Common.{◌≡◌, ℕ, ◌+◌, ◌-◌, ◌≤◌, List, ◌++◌, length, drop, replicate, sym, ap, ◌∙◌, arith}
use Rattle.std.proofs.lemmas.List.{length-append, length-drop, length-replicate, drop-drop, drop_at, drop-replicate}
use Rattle.held.specs.Padded.{Padded}

-- the first ones are laid over zeros
pub first_in_use : (size : ℕ) (first : List ℕ) (len : ℕ) → length first ≡ len → len ≤ size → Padded size (first ++ drop len (replicate size 0)) len
first_in_use size first len long fits =
    let zeros = drop len (replicate size 0) in
    let count : length zeros ≡ size - len = length-drop len (replicate size 0) ∙ ap (λ n. n - len) (length-replicate size 0) in
    record {
      fits = fits;
      whole = length-append first zeros ∙ omega (arith, long, count);
      rest = drop_at first zeros len long ∙ drop-replicate len size 0;
    }

-- more are in use, and those behind them are what they were
pub more_in_use : (size : ℕ) (bytes after : List ℕ) (len more : ℕ) → Padded size bytes len → len + more ≤ size → length after ≡ size → drop (len + more) after ≡ drop (len + more) bytes → Padded size after (len + more)
more_in_use size bytes after len more p room whole behind =
    let left : size - len - more ≡ size - (len + more) = omega arith in
    let zeros : drop more (drop len bytes) ≡ replicate (size - len - more) 0 = ap (drop more) p.rest ∙ drop-replicate more (size - len) 0 in
    record {
      fits = room;
      whole = whole;
      rest = behind ∙ sym (drop-drop more len bytes) ∙ zeros ∙ ap (λ k. replicate k 0) left;
    }
