-- The chunks of a list, each as a part of the list.
use Rattle.std.proofs.Common.{◌≡◌, ℕ, zero, suc, ◌*◌, ◌/◌, ◌<◌, List, length, get_or, take, drop, sym, ap, ◌∙◌, add_comm, arith}
use native.Mathlib.Nat.{mul-suc}
use Rattle.std.specs.Simd.{first_chunks}
use Rattle.std.proofs.lemmas.List.{drop-drop, length-drop}
use Rattle.octets.specs.Laying.{filled}
use Rattle.octets.proofs.Filled.{filled_whole}

pub get_or-first_chunks : (n k i : ℕ) (xs d : List ℕ) → i < k → get_or (first_chunks n k xs) i d ≡ take n (drop (n * i) xs)
get_or-first_chunks n zero i xs d h = absurd (omega arith)
get_or-first_chunks n (suc k) zero xs d h =
    let none : 0 ≡ n * 0 = omega arith in
    ap (λ j. take n (drop j xs)) none
get_or-first_chunks n (suc k) (suc i) xs d h =
    get_or-first_chunks n k i (drop n xs) d (omega arith)
    ∙ ap (take n) (drop-drop (n * i) n xs)
    ∙ ap (λ j. take n (drop j xs)) (add_comm n (n * i) ∙ sym (mul-suc n i))

-- a chunk of 64 bytes: nothing is filled up
pub whole_block : (i : ℕ) (bytes d : List ℕ) → i < length bytes / 64 → get_or (first_chunks 64 (length bytes / 64) bytes) i d ≡ filled 64 (drop (64 * i) bytes)
whole_block i bytes d h =
    get_or-first_chunks 64 (length bytes / 64) i bytes d h
    ∙ sym (filled_whole 64 (drop (64 * i) bytes) (rw length-drop (omega arith)))
