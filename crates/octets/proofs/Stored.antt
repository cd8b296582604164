-- Words of bytes and bytes of words, one word at a time.
use Rattle.std.proofs.Common.{◌≡◌, ℕ, zero, suc, ◌+◌, ◌*◌, ◌<◌, List, [], ◌∷◌, ◌++◌, map, length, get_or, take, sym, refl, ap, ◌∙◌, add-one, arith}
use Rattle.std.specs.List.{flat_map, range_with_len}
use Rattle.std.proofs.lemmas.List.{flat_map_more, length-append, take_more}
use Rattle.std.proofs.lemmas.List.FromFn.{map-range_with_len_more}
use Rattle.octets.specs.Order.{bytes_of}
use Rattle.octets.specs.Words.{bytes_of_words, word_at, words_of}
use Rattle.octets.specs.declared.order.ByteOrder.{ByteOrder}
use Rattle.octets.specs.declared.order.ByteOrder.TheVariants.{HighFirst, LowFirst}

-- the words, made one by one
pub words_of_range : (order : ByteOrder) (n : ℕ) (bytes : List ℕ) → words_of order n bytes ≡ map (λ i. word_at order bytes (4 * i)) (range_with_len 0 n)
unfolding words_of
words_of_range order zero bytes = refl
words_of_range order (suc n) bytes =
    ap (λ ws. ws ++ word_at order bytes (4 * n) ∷ []) (words_of_range order n bytes)
    ∙ sym (map-range_with_len_more (λ i. word_at order bytes (4 * i)) 0 n n (omega arith))
    ∙ ap (λ k. map (λ i. word_at order bytes (4 * i)) (range_with_len 0 k)) (add-one n)

-- the bytes of one word more
pub bytes_more : (order : ByteOrder) (words : List ℕ) (i : ℕ) → i < length words → bytes_of_words order (take (i + 1) words) ≡ bytes_of_words order (take i words) ++ bytes_of order (get_or words i 0)
bytes_more order words i h =
    ap (flat_map (bytes_of order)) (take_more words i 0 h) ∙ sym (flat_map_more (bytes_of order) [] (take i words) (get_or words i 0))

pub length-bytes_of : (order : ByteOrder) (w : ℕ) → length (bytes_of order w) ≡ 4
length-bytes_of HighFirst w = refl
length-bytes_of LowFirst w = refl

pub length-bytes : (order : ByteOrder) (words : List ℕ) → length (bytes_of_words order words) ≡ 4 * length words
length-bytes order [] = refl
length-bytes order (w ∷ ws) =
    let one = length-bytes_of order w in
    let rest = length-bytes order ws in
    let both = length-append (bytes_of order w) (bytes_of_words order ws) in
    omega arith
