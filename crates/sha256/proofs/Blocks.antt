-- Blocks taken one after the other.
use Rattle.std.proofs.Common.{◌≡◌, ℕ, zero, suc, ◌+◌, ◌*◌, ◌/◌, ◌≤◌, List, ◌∷◌, ◌++◌, length, take, drop, refl, ap, ◌∙◌, zero-add, arith}
use Rattle.std.proofs.lemmas.List.{drop-append-le, drop_at, drop-drop, length-append, length-drop, take-append-le, take_at}
use Rattle.std.proofs.lemmas.List.Sums.{fold-append}
use Rattle.std.specs.List.{fold}
use Rattle.std.specs.Simd.{first_chunks}
use Rattle.sha256.specs.Compression.{compressed}
use Rattle.sha256.specs.Hashing.{absorbed, absorbed_all}

-- the first n blocks, and k more behind them
chunks_split : (n k : ℕ) (xs : List ℕ) → first_chunks 64 (n + k) xs ≡ first_chunks 64 n xs ++ first_chunks 64 k (drop (n * 64) xs)
chunks_split zero k xs = ap (λ j. first_chunks 64 j xs) (zero-add k)
chunks_split (suc n) k xs =
    let more : suc n + k ≡ suc (n + k) = omega arith in
    let far : 64 + n * 64 ≡ suc n * 64 = omega arith in
    ap (λ j. first_chunks 64 j xs) more
    ∙ ap (λ ys. take 64 xs ∷ ys) (chunks_split n k (drop 64 xs))
    ∙ ap (λ ys. first_chunks 64 (suc n) xs ++ first_chunks 64 k ys) (drop-drop (n * 64) 64 xs ∙ ap (λ j. drop j xs) far)

-- the first blocks do not depend on what follows them
chunks_front : (n : ℕ) (a b : List ℕ) → n * 64 ≤ length a → first_chunks 64 n (a ++ b) ≡ first_chunks 64 n a
chunks_front zero a b h = refl
chunks_front (suc n) a b h =
    let left = length-drop 64 a in
    let one : 64 ≤ length a = omega arith in
    ap (λ xs. xs ∷ first_chunks 64 n (drop 64 (a ++ b))) (take-append-le 64 a b one)
    ∙ ap (λ xs. take 64 a ∷ first_chunks 64 n xs) (drop-append-le 64 a b one)
    ∙ ap (λ xs. take 64 a ∷ xs) (chunks_front n (drop 64 a) b (omega arith))

-- the whole blocks of a message first, and then what is left of it with what follows
pub absorbed_rest : (m p h : List ℕ) → absorbed_all (m ++ p) h ≡ absorbed_all (drop (length m / 64 * 64) m ++ p) (absorbed (length m / 64) m h)
unfolding absorbed
absorbed_rest m p h =
    let n = length m / 64 in
    let rest = drop (n * 64) m in
    let k = length (rest ++ p) / 64 in
    let left = length-drop (n * 64) m in
    let all = length-append m p in
    let end = length-append rest p in
    let blocks : length (m ++ p) / 64 ≡ n + k = omega arith in
    let whole : n * 64 ≤ length m = omega arith in
    ap (λ j. fold compressed h (first_chunks 64 j (m ++ p))) blocks
    ∙ ap (fold compressed h) (chunks_split n k (m ++ p))
    ∙ fold-append compressed h (first_chunks 64 n (m ++ p)) (first_chunks 64 k (drop (n * 64) (m ++ p)))
    ∙ ap (λ xs. fold compressed (fold compressed h xs) (first_chunks 64 k (drop (n * 64) (m ++ p)))) (chunks_front n m p whole)
    ∙ ap (λ xs. fold compressed (absorbed n m h) (first_chunks 64 k xs)) (drop-append-le (n * 64) m p whole)

-- a block in front is taken first
pub absorbed_after : (n : ℕ) (a b h : List ℕ) → length a ≡ 64 → absorbed (suc n) (a ++ b) h ≡ absorbed n b (compressed h a)
unfolding absorbed
absorbed_after n a b h e =
    ap (λ xs. absorbed n (drop 64 (a ++ b)) (compressed h xs)) (take_at a b 64 e)
    ∙ ap (λ xs. absorbed n xs (compressed h a)) (drop_at a b 64 e)
