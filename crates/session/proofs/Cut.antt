-- The lines of a file when one byte more is taken.
use Rattle.std.proofs.Common.{◌≡◌, ℕ, eqb, ◌+◌, ◌-◌, ◌≤◌, List, [], ◌∷◌, ◌++◌, length, get_or, take, sym, refl, ap, ◌∙◌, ⊎_elim, arith}
use Rattle.std.proofs.lemmas.List.{length_push, take_at, get_or_push, take-append-drop, drop_more, drop_all, length-take-le}
use Rattle.std.proofs.lemmas.Bool.{cases_eq}
use Rattle.std.proofs.lemmas.List.Splits.{length-slice_split}
use Rattle.std.proofs.lemmas.List.Sums.{count_by-le-length}
use Rattle.std.specs.List.{onto_first}
use Rattle.notation.specs.Fields.{fields_of}
use Rattle.notation.proofs.Parts.{at_separator, at_other, some_field}
use Rattle.session.specs.Files.{parts, ended_lines, remainder}

-- a byte behind the last of these parts
abbrev pushed : ℕ → List (List ℕ) → List (List ℕ)
pushed b [] = (b ∷ []) ∷ []
pushed b (p ∷ []) = (p ++ b ∷ []) ∷ []
pushed b (p ∷ (q ∷ ps)) = p ∷ pushed b (q ∷ ps)

pushed_under : (b : ℕ) (p : List ℕ) (ps : List (List ℕ)) → 1 ≤ length ps → pushed b (p ∷ ps) ≡ p ∷ pushed b ps
pushed_under b p [] h = absurd (omega arith)
pushed_under b p (q ∷ ps) h = refl

pushed_onto : (b c : ℕ) (ps : List (List ℕ)) → 1 ≤ length ps → pushed b (onto_first c ps) ≡ onto_first c (pushed b ps)
pushed_onto b c [] h = absurd (omega arith)
pushed_onto b c (p ∷ []) h = refl
pushed_onto b c (p ∷ (q ∷ ps)) h = refl

onto_push : (c : ℕ) (ps : List (List ℕ)) (q : List ℕ) → 1 ≤ length ps → onto_first c (ps ++ q ∷ []) ≡ onto_first c ps ++ q ∷ []
onto_push c [] q h = absurd (omega arith)
onto_push c (p ∷ ps) q h = refl

-- a separator begins a part, and any other byte goes to the last one
separated : (s : ℕ) (xs : List ℕ) → fields_of s (xs ++ s ∷ []) ≡ fields_of s xs ++ [] ∷ []
separated s [] = at_separator s s [] refl
separated s (x ∷ xs) =
    ⊎_elim
    (λ e.
    at_separator s x (xs ++ s ∷ []) e
    ∙ ap (λ (ps : List (List ℕ)). [] ∷ ps) (separated s xs)
    ∙ sym (ap (λ (ps : List (List ℕ)). ps ++ [] ∷ []) (at_separator s x xs e)))
    (λ ne.
    at_other s x (xs ++ s ∷ []) ne
    ∙ ap (onto_first x) (separated s xs)
    ∙ onto_push x (fields_of s xs) [] (some_field s xs)
    ∙ sym (ap (λ (ps : List (List ℕ)). ps ++ [] ∷ []) (at_other s x xs ne)))
    (cases_eq x s)

lengthened : (s b : ℕ) (xs : List ℕ) → (b ≡ s → ⊥) → fields_of s (xs ++ b ∷ []) ≡ pushed b (fields_of s xs)
lengthened s b [] other = at_other s b [] other
lengthened s b (x ∷ xs) other =
    ⊎_elim
    (λ e.
    at_separator s x (xs ++ b ∷ []) e
    ∙ ap (λ (ps : List (List ℕ)). [] ∷ ps) (lengthened s b xs other)
    ∙ sym (pushed_under b [] (fields_of s xs) (some_field s xs))
    ∙ sym (ap (pushed b) (at_separator s x xs e)))
    (λ ne.
    at_other s x (xs ++ b ∷ []) ne
    ∙ ap (onto_first x) (lengthened s b xs other)
    ∙ sym (pushed_onto b x (fields_of s xs) (some_field s xs))
    ∙ sym (ap (pushed b) (at_other s x xs ne)))
    (cases_eq x s)

-- all but the last of some parts, and the last
abbrev front : List (List ℕ) → List (List ℕ)
front ps = take (length ps - 1) ps

abbrev last : List (List ℕ) → List ℕ
last ps = get_or ps (length ps - 1) []

front_last : (ps : List (List ℕ)) → 1 ≤ length ps → ps ≡ front ps ++ last ps ∷ []
front_last ps h =
    sym (take-append-drop (length ps - 1) ps)
    ∙ ap (λ (rest : List (List ℕ)). front ps ++ rest)
    (drop_more ps (length ps - 1) [] (omega arith) ∙ ap (λ (rest : List (List ℕ)). last ps ∷ rest) (drop_all (length ps - 1 + 1) ps (omega arith)))

pushed_last : (b : ℕ) (ps : List (List ℕ)) (p : List ℕ) → pushed b (ps ++ p ∷ []) ≡ ps ++ (p ++ b ∷ []) ∷ []
pushed_last b [] p = refl
pushed_last b (q ∷ ps) p =
    pushed_under b q (ps ++ p ∷ []) (omega (arith, length_push ps p)) ∙ ap (λ (rest : List (List ℕ)). q ∷ rest) (pushed_last b ps p)

front_push : (ps : List (List ℕ)) (p : List ℕ) → front (ps ++ p ∷ []) ≡ ps
front_push ps p = take_at ps (p ∷ []) (length (ps ++ p ∷ []) - 1) (omega (arith, length_push ps p))

last_push : (ps : List (List ℕ)) (p : List ℕ) → last (ps ++ p ∷ []) ≡ p
last_push ps p = get_or_push ps p [] (length (ps ++ p ∷ []) - 1) (omega (arith, length_push ps p))

-- after a line feed
parts_end : (file : List ℕ) → parts (file ++ 10 ∷ []) ≡ parts file ++ [] ∷ []
parts_end file = separated 10 file

pub lines_end : (file : List ℕ) → ended_lines (file ++ 10 ∷ []) ≡ ended_lines file ++ remainder file ∷ []
lines_end file = ap front (parts_end file) ∙ front_push (parts file) [] ∙ front_last (parts file) (some_field 10 file)

pub remainder_end : (file : List ℕ) → remainder (file ++ 10 ∷ []) ≡ []
remainder_end file = ap last (parts_end file) ∙ last_push (parts file) []

pub count_end : (file : List ℕ) → length (parts (file ++ 10 ∷ [])) ≡ length (parts file) + 1
count_end file = ap length (parts_end file) ∙ length_push (parts file) []

-- after any other byte
parts_more : (file : List ℕ) (b : ℕ) → (b ≡ 10 → ⊥) → parts (file ++ b ∷ []) ≡ ended_lines file ++ (remainder file ++ b ∷ []) ∷ []
parts_more file b other =
    lengthened 10 b file other
    ∙ ap (pushed b) (front_last (parts file) (some_field 10 file))
    ∙ pushed_last b (ended_lines file) (remainder file)

pub lines_more : (file : List ℕ) (b : ℕ) → (b ≡ 10 → ⊥) → ended_lines (file ++ b ∷ []) ≡ ended_lines file
lines_more file b other = ap front (parts_more file b other) ∙ front_push (ended_lines file) (remainder file ++ b ∷ [])

pub remainder_more : (file : List ℕ) (b : ℕ) → (b ≡ 10 → ⊥) → remainder (file ++ b ∷ []) ≡ remainder file ++ b ∷ []
remainder_more file b other = ap last (parts_more file b other) ∙ last_push (ended_lines file) (remainder file ++ b ∷ [])

-- there are as many parts as ended lines and one more, and no more than bytes and one more
pub count_lines : (file : List ℕ) → length (parts file) ≡ 1 + length (ended_lines file)
count_lines file =
    let some = some_field 10 file in
    let long = length-take-le (length (parts file) - 1) (parts file) (omega arith) in
    omega arith

pub count_more : (file : List ℕ) (b : ℕ) → (b ≡ 10 → ⊥) → length (parts (file ++ b ∷ [])) ≡ length (parts file)
count_more file b other = count_lines (file ++ b ∷ []) ∙ ap (λ (ls : List (List ℕ)). 1 + length ls) (lines_more file b other) ∙ sym (count_lines file)

pub count_bound : (file : List ℕ) → length (parts file) ≤ length file + 1
count_bound file =
    let newline = λ (b : ℕ). eqb b 10 in
    omega (arith, length-slice_split newline file, count_by-le-length newline file)
