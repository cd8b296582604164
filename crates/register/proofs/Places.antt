-- Looking for a name among those of rows, and what a name that is not found says of each of them.
use Rattle.std.proofs.Common.{◌≡◌, ℕ, ◌+◌, ◌<◌, Bool, true, false, cond, not, ltb, List, [], ◌∷◌, map, length, get_or, Some, None, refl, ap, arith}
use Rattle.std.proofs.lemmas.Slice.Eq.{bytes_eq-Decides}
use Rattle.std.proofs.lemmas.Bool.{both_ways, ltb-false}
use Rattle.std.proofs.lemmas.List.{length-map}
use Rattle.std.proofs.lemmas.List.Sums.{fails_before_first}
use Rattle.std.specs.List.{position, position_or_len}
use Rattle.std.specs.Str.{bytes_eq}
use Rattle.register.specs.Names.{place_in}

first-map : {X Y : Type 0} (f : X → Y) (p : Y → Bool) (xs : List X) → position_or_len p (map f xs) ≡ position_or_len (λ x. p (f x)) xs
first-map f p [] = refl
first-map f p (x ∷ xs) = ap (λ n. cond (not (p (f x))) (1 + n) 0) (first-map f p xs)

-- the rows' names are looked through where the rows are
pub position-map : {X Y : Type 0} (f : X → Y) (p : Y → Bool) (xs : List X) → position p (map f xs) ≡ position (λ x. p (f x)) xs
position-map f p xs = λ j. cond (ltb (first-map f p xs j) (length-map xs f j)) (Some (first-map f p xs j)) None

none_lem : (i n : ℕ) (below : Bool) → ltb i n ≡ below → cond below (Some i) None ≡ None → below ≡ false
none_lem i n true e z = let o : ◌≡◌ {A = ℕ} 0 1 = cc in absurd (omega arith)
none_lem i n false e z = refl

-- a name that is not found is that of no row
pub absent : (sought : List ℕ) (names : List (List ℕ))
    → place_in sought names ≡ None
    → (k : ℕ) → k < length names → get_or names k [] ≡ sought → ⊥
absent sought names e k h same =
    let p = λ (name : List ℕ). bytes_eq name sought in
    let first = position_or_len p names in
    let over = ltb-false first (length names) (none_lem first (length names) (ltb first (length names)) refl e) in
    both_ways _ (fails_before_first p names k [] (omega arith)) ((bytes_eq-Decides (get_or names k []) sought).1 same)
