-- One block into the hash's words: FIPS 180-4, section 6.2.2.
use Rattle.std.specs.Prelude.{ℕ, zero, suc, ◌+◌, List, [], ◌∷◌, ◌++◌, map, slice_index, slice_index_or}
use Rattle.std.specs.List.{fold, zip}
use Rattle.octets.specs.Words.{◌⊞◌, words_of}
use Rattle.octets.specs.declared.order.ByteOrder.TheVariants.{HighFirst}
use Rattle.sha256.specs.Functions.{ch, maj, big_sigma0, big_sigma1, small_sigma0, small_sigma1}
use Rattle.sha256.specs.Tables.{round_constants}

-- word number n + 16 of the message schedule, from the words before it
abbrev pub next_word : List ℕ → ℕ → ℕ
next_word w n = small_sigma1 (slice_index w (n + 14)) ⊞ slice_index_or w (n + 9) 0 ⊞ small_sigma0 (slice_index w (n + 1)) ⊞ slice_index_or w n 0

-- the message schedule: the block's sixteen words, and n more
unfoldable pub scheduled : ℕ → List ℕ → List ℕ
scheduled zero block = block
scheduled (suc n) block = scheduled n block ++ next_word (scheduled n block) n ∷ []

-- one round, on the words a to h, with its constant k and its word w of the schedule
unfoldable pub round : List ℕ → ℕ → ℕ → List ℕ
round s k w =
    let a = slice_index_or s 0 0 in let b = slice_index_or s 1 0 in let c = slice_index_or s 2 0 in let d = slice_index_or s 3 0 in
    let e = slice_index_or s 4 0 in let f = slice_index_or s 5 0 in let g = slice_index_or s 6 0 in let h = slice_index_or s 7 0 in
    let t1 = h ⊞ big_sigma1 e ⊞ ch e f g ⊞ k ⊞ w in
    let t2 = big_sigma0 a ⊞ maj a b c in
    (t1 ⊞ t2) ∷ a ∷ b ∷ c ∷ (d ⊞ t1) ∷ e ∷ f ∷ g ∷ []

-- rounds: one for each of the constants ks and of the words ws of the schedule
abbrev pub rounds : List ℕ → List ℕ → List ℕ → List ℕ
rounds ks ws s = fold (λ r p. round r p.0 p.1) s (zip ks ws)

-- the hash's words after one block more
abbrev pub compressed : List ℕ → List ℕ → List ℕ
compressed h block =
    let s = rounds round_constants (scheduled 48 (words_of HighFirst 16 block)) h in
    map (λ i. slice_index_or h i 0 ⊞ slice_index_or s i 0) (0 ∷ 1 ∷ 2 ∷ 3 ∷ 4 ∷ 5 ∷ 6 ∷ 7 ∷ [])
