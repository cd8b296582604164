-- The schedule, one word at a time, and the rounds, eight at a time.
use Rattle.std.proofs.Common.{◌≡◌, ℕ, zero, suc, ◌+◌, ◌*◌, List, [], ◌∷◌, ◌++◌, length, take, drop, sym, refl, ap, ◌∙◌, add-one, arith}
use Rattle.std.proofs.lemmas.List.{get_or-take, length-drop, length-take-le, take-append-drop}
use Rattle.std.specs.List.{fold, zip}
use Rattle.std.specs.Simd.{first_chunks}
use Rattle.sha256.specs.Compression.{next_word, round, rounds, scheduled}

pub scheduled_more : (n : ℕ) (block : List ℕ) → scheduled (n + 1) block ≡ scheduled n block ++ next_word (scheduled n block) n ∷ []
unfolding scheduled
scheduled_more n block = ap (λ k. scheduled k block) (add-one n)

-- the next word looks only at the words before it
pub next_word-front : (w : List ℕ) (n : ℕ) → next_word (take (n + 16) w) n ≡ next_word w n
next_word-front w n =
    let a = get_or-take (n + 16) w (n + 14) 0 (omega arith) in
    let b = get_or-take (n + 16) w (n + 9) 0 (omega arith) in
    let c = get_or-take (n + 16) w (n + 1) 0 (omega arith) in
    let d = get_or-take (n + 16) w n 0 (omega arith) in
    rw (a, b, c, d)

-- rounds, and more behind them
rounds_behind : (ks ls ws vs s : List ℕ) → length ks ≡ length ws → rounds (ks ++ ls) (ws ++ vs) s ≡ rounds ls vs (rounds ks ws s)
rounds_behind [] ls [] vs s e = refl
rounds_behind [] ls (w ∷ ws) vs s e = absurd (omega arith)
rounds_behind (k ∷ ks) ls [] vs s e = absurd (omega arith)
rounds_behind (k ∷ ks) ls (w ∷ ws) vs s e = rounds_behind ks ls ws vs (round s k w) (omega arith)

-- n times eight rounds
pub rounds_by_eights : (n : ℕ) (ks ws s : List ℕ) → length ks ≡ n * 8 → length ws ≡ n * 8 → fold (λ r p. rounds p.0 p.1 r) s (zip (first_chunks 8 n ks) (first_chunks 8 n ws)) ≡ rounds ks ws s
rounds_by_eights zero [] ws s e f = refl
rounds_by_eights zero (k ∷ ks) ws s e f = absurd (omega arith)
rounds_by_eights (suc n) ks ws s e f =
    let ks_left = length-drop 8 ks in
    let ws_left = length-drop 8 ws in
    let same : length (take 8 ks) ≡ length (take 8 ws) = length-take-le 8 ks (omega arith) ∙ sym (length-take-le 8 ws (omega arith)) in
    rounds_by_eights n (drop 8 ks) (drop 8 ws) (rounds (take 8 ks) (take 8 ws) s) (omega arith) (omega arith)
    ∙ sym (rounds_behind (take 8 ks) (drop 8 ks) (take 8 ws) (drop 8 ws) s same)
    ∙ ap (λ xs. rounds xs (take 8 ws ++ drop 8 ws) s) (take-append-drop 8 ks)
    ∙ ap (λ xs. rounds ks xs s) (take-append-drop 8 ws)
