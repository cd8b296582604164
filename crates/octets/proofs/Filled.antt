-- Bytes filled up with zeros.
use Rattle.std.proofs.Common.{◌≡◌, ℕ, suc, ◌+◌, ◌-◌, ◌<◌, ◌≤◌, List, [], ◌∷◌, ◌++◌, length, take, set, replicate, sym, ap, ◌∙◌, append_assoc, append-nil, arith}
use Rattle.std.proofs.lemmas.List.{length-append, length-replicate, replicate-append-replicate, set_at, take_all, take_at}
use Rattle.octets.specs.Laying.{filled}

-- where there are enough bytes, nothing is filled up
pub filled_whole : (n : ℕ) (xs : List ℕ) → n ≤ length xs → filled n xs ≡ take n xs
filled_whole n xs h =
    let none : n - length xs ≡ 0 = omega arith in
    ap (λ k. take n xs ++ replicate k 0) none ∙ append-nil (take n xs)

-- where there are no more than fit, all of them stand in front
pub filled_few : (n : ℕ) (xs : List ℕ) → length xs ≤ n → filled n xs ≡ xs ++ replicate (n - length xs) 0
filled_few n xs h = ap (λ ys. ys ++ replicate (n - length xs) 0) (take_all n xs h)

pub length-filled : (n : ℕ) (xs : List ℕ) → length xs ≤ n → length (filled n xs) ≡ n
length-filled n xs h =
    let zeros = length-replicate {A = ℕ} (n - length xs) 0 in
    let both = length-append xs (replicate (n - length xs) 0) in
    ap length (filled_few n xs h) ∙ omega arith

-- the byte behind those that are there
pub set_filled : (n : ℕ) (xs : List ℕ) (i x : ℕ) → length xs ≡ i → i < n → set (filled n xs) i x ≡ filled n (xs ++ x ∷ [])
set_filled n xs i x e h =
    let one : n - length xs ≡ suc (n - suc i) = omega arith in
    let long = length-append xs (x ∷ []) in
    let rest : n - length (xs ++ x ∷ []) ≡ n - suc i = omega arith in
    let fits : length (xs ++ x ∷ []) ≤ n = omega arith in
    ap (λ ys. set ys i x) (filled_few n xs (omega arith) ∙ ap (λ k. xs ++ replicate k 0) one)
    ∙ set_at xs 0 (replicate (n - suc i) 0) x i e
    ∙ sym (append_assoc xs (x ∷ []) (replicate (n - suc i) 0))
    ∙ ap (λ k. (xs ++ x ∷ []) ++ replicate k 0) (sym rest)
    ∙ sym (filled_few n (xs ++ x ∷ []) fits)

-- the front of bytes that are filled up
pub take-filled : (m n : ℕ) (xs : List ℕ) → length xs ≤ m → m ≤ n → take m (filled n xs) ≡ filled m xs
take-filled m n xs h k =
    let zeros = replicate-append-replicate {A = ℕ} (m - length xs) (n - m) 0 in
    let parts : n - length xs ≡ (m - length xs) + (n - m) = omega arith in
    let fits : length xs ≤ n = omega arith in
    ap (take m)
    (filled_few n xs fits ∙ ap (λ j. xs ++ replicate j 0) parts ∙ ap (λ ys. xs ++ ys) (sym zeros)
    ∙ sym (append_assoc xs (replicate (m - length xs) 0) (replicate (n - m) 0))
    ∙ ap (λ ys. ys ++ replicate (n - m) 0) (sym (filled_few m xs h)))
    ∙ take_at (filled m xs) (replicate (n - m) 0) m (length-filled m xs h)
