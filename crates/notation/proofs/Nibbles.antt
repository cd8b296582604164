-- Hexadecimal digits, two by two.
use Rattle.std.proofs.Common.{◌≡◌, ℕ, zero, suc, ◌+◌, ◌*◌, ◌/◌, ◌<◌, Bool, true, false, ◌&&◌, List, [], ◌∷◌, ◌++◌, length, get_or, drop, refl, ap, ◌∙◌, add-one, arith}
use Rattle.std.specs.List.{fold}
use Rattle.std.specs.Simd.{first_chunks}
use Rattle.std.proofs.lemmas.List.{get_or-take, get_or-drop}
use Rattle.std.proofs.lemmas.List.Recursion.{and_at}
use Rattle.notation.specs.Hex.{is_hex, hex_value, all_hex, spelled_bytes}

-- digit j of pair i is digit k of all
paired : (n : ℕ) (ds : List ℕ) (i j k : ℕ) → i < n → j < 2 → 2 * i + j ≡ k → get_or (get_or (first_chunks 2 n ds) i []) j 0 ≡ get_or ds k 0
paired zero ds i j k h t e = absurd (omega arith)
paired (suc n) ds zero j k h t e = get_or-take 2 ds j 0 t ∙ ap (λ (m : ℕ). get_or ds m 0) (omega arith)
paired (suc n) ds (suc i) j k h t e =
    paired n (drop 2 ds) i j (2 * i + j) (omega arith) t refl ∙ get_or-drop 2 ds (2 * i + j) 0 ∙ ap (λ (m : ℕ). get_or ds m 0) (omega arith)

pub digit_at : (ds : List ℕ) (pairs : List (List ℕ)) (i j k : ℕ) → pairs ≡ first_chunks 2 (length ds / 2) ds → i < length ds / 2 → j < 2 → 2 * i + j ≡ k → get_or (get_or pairs i []) j 0 ≡ get_or ds k 0
digit_at ds pairs i j k p h t e =
    ap (λ (ps : List (List ℕ)). get_or (get_or ps i []) j 0) p ∙ paired (length ds / 2) ds i j k h t e

-- one test after the other, from a first answer on
tested : (first : Bool) (ds : List ℕ) → fold (λ all d. all && is_hex d) first ds ≡ (first && all_hex ds)
tested true [] = refl
tested false [] = refl
tested true (d ∷ ds) = tested (is_hex d) ds
tested false (d ∷ ds) = tested false ds

pub all_tested : (ds : List ℕ) → fold (λ all d. all && is_hex d) true ds ≡ all_hex ds
all_tested ds = tested true ds

pub hex_at : (ds : List ℕ) (k d : ℕ) → d ≡ get_or ds k 0 → k < length ds → all_hex ds ≡ true → is_hex d ≡ true
hex_at ds k d e h all = ap is_hex e ∙ and_at all_hex is_hex refl (λ _ _. refl) ds k 0 h all

pub spelled_more : (n : ℕ) (ds : List ℕ) (high low : ℕ) → high ≡ get_or ds (2 * n) 0 → low ≡ get_or ds (2 * n + 1) 0 → spelled_bytes (n + 1) ds ≡ spelled_bytes n ds ++ (16 * hex_value high + hex_value low) ∷ []
unfolding spelled_bytes
spelled_more n ds high low h l = rw (add-one n, h, l)
