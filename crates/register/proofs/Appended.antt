-- What adding a row comes to, on each way through it.
use Rattle.std.proofs.Common.{◌≡◌, ℕ, ◌+◌, ◌<◌, ◌≤◌, min, Bool, true, false, cond, not, ltb, List, [], ◌∷◌, ◌++◌, map, length, get_or, take, drop, set, is_some, is_ok, Some, None, Ok, Option, Result, sym, refl, ap, ◌∙◌, subst, ⊎_elim, arith}
use mathlib.Core.List.{map-map}
use Rattle.std.proofs.lemmas.List.{drop-map, length-map, get_or_append_left, get_or_push, length-take-le, length-drop, drop-drop, length_push, take_more_set, drop-set-lt, length-set, map_push}
use Rattle.std.proofs.lemmas.Bool.{both_ways, cases_lt, lt-ltb}
use Rattle.refusal.specs.Checks.{first_refused}
use Rattle.refusal.specs.declared.Refusal.{Refusal}
use Rattle.refusal.specs.declared.Refusal.TheVariants.{AlreadyListed, ListFull}
use Rattle.register.specs.Names.{place_in, Distinct}
use Rattle.register.specs.Adding.{new_row, Adds}
use Rattle.register.specs.Table.{Table, room, shown}
use Rattle.register.proofs.Places.{absent}

pub distinct_push : (names : List (List ℕ)) (n : List ℕ) → place_in n names ≡ None → Distinct names → Distinct (names ++ n ∷ [])
distinct_push names n e apart i j lower within same =
    let short : j < length names + 1 = omega (arith, length_push names n) in
    let before : get_or (names ++ n ∷ []) i [] ≡ get_or names i [] = get_or_append_left names (n ∷ []) [] i (omega arith) in
    ⊎_elim
    (λ (inside : j < length names). apart i j lower inside (sym before ∙ same ∙ get_or_append_left names (n ∷ []) [] j inside))
    (λ (last : length names ≤ j). absent n names e i (omega arith) (sym before ∙ same ∙ get_or_push names n [] j (omega arith)))
    (cases_lt j (length names))

-- the two checks of a new row, by what finding its name gave and whether there is room
checks : (name : List ℕ) (names : List (List ℕ)) (room : ℕ) (found fits : Bool)
    → is_some (place_in name names) ≡ found
    → ltb (length names) room ≡ fits
    → first_refused (new_row name names room) ≡ cond (not found) (cond fits None (Some ListFull)) (Some AlreadyListed)
checks name names room found fits e f =
    ap (λ b. cond (not b) (cond (ltb (length names) room) None (Some ListFull)) (Some AlreadyListed)) e
    ∙ ap (λ b. cond (not found) (cond b None (Some ListFull)) (Some AlreadyListed)) f

none_found : {X : Type 0} (found : Option X) → is_some found ≡ false → found ≡ None
none_found None e = refl
none_found (Some x) e = absurd (both_ways true e refl)

-- the row laid at the first place that is not in use
pub added : {X : Type 0} (name : X → List ℕ) (most : ℕ) (row : X) (used : ℕ) (rows : List X)
    → is_some (place_in (name row) (map name (take used rows))) ≡ false
    → used < length rows
    → used < most
    → Adds name most [] row record { listed = take used rows; spare = drop used rows } (Ok tt)
    record { listed = take (used + 1) (set rows used row); spare = drop (used + 1) (set rows used row) }
added name most row used rows e h below =
    let names = map name (take used rows) in
    let free = room most record { listed = take used rows; spare = drop used rows } in
    let front = length-take-le used rows (omega arith) in
    let back = length-drop used rows in
    let long = length-map (take used rows) name in
    let fits : ltb (length names) free ≡ true = lt-ltb (length names) free (omega arith) in
    let behind = take_more_set rows used row h in
    record {
      answers = sym (checks (name row) names free false true e fits);
      listed = behind;
      spare = drop-set-lt (used + 1) rows used row (omega arith) ∙ sym (drop-drop 1 used rows);
      size =
          let whole = length-set rows used row in
          let first = length-take-le (used + 1) (set rows used row) (omega arith) in
          let last = length-drop (used + 1) (set rows used row) in
          omega arith;
      distinct = λ d. subst Distinct (sym (ap (map name) behind ∙ map_push name (take used rows) row)) (distinct_push names (name row) (none_found _ e) d);
    }

-- a check that holds may stand in front, and equals may stand for equals
same_checks : (own : Bool) (otherwise : Refusal) (n n' : List ℕ) (ns ns' : List (List ℕ)) (room room' : ℕ)
    → own ≡ true
    → n ≡ n'
    → ns ≡ ns'
    → room ≡ room'
    → first_refused (new_row n ns room) ≡ first_refused ((own, otherwise) ∷ new_row n' ns' room')
same_checks own otherwise n n' ns ns' room room' holds p q r =
    sym (λ j. cond (holds j) (first_refused (new_row (sym p j) (sym q j) (sym r j))) (Some otherwise))

push_viewed : {X V : Type 0} (view : X → V) (ok : Bool) (xs : List X) (x : X) (y : V) → view x ≡ y → map view (cond ok (xs ++ x ∷ []) xs) ≡ cond ok (map view xs ++ y ∷ []) (map view xs)
push_viewed view true xs x y e = map_push view xs x ∙ ap (λ z. map view xs ++ z ∷ []) e
push_viewed view false xs x y e = refl

drop_viewed : {X V : Type 0} (view : X → V) (ok : Bool) (xs : List X) → map view (cond ok (drop 1 xs) xs) ≡ cond ok (drop 1 (map view xs)) (map view xs)
drop_viewed view true xs = sym (drop-map view 1 xs)
drop_viewed view false xs = refl

-- the same, told of a view of the rows that shows their names, after a check of the row's own that holds
pub viewed : {X V : Type 0} (view : X → V) (name : V → List ℕ) (most : ℕ) (own : Bool) (otherwise : Refusal) (row : X) (seen : V) (before : Table X) (answer : Result (Unit {0}) Refusal) (after : Table X)
    → own ≡ true
    → view row ≡ seen
    → Adds (λ x. name (view x)) most [] row before answer after
    → Adds name most ((own, otherwise) ∷ []) seen (shown view before) answer (shown view after)
viewed view name most own otherwise row seen before answer after holds e h =
    let front = length-map before.listed view in
    let back = length-map before.spare view in
    let front' = length-map after.listed view in
    let back' = length-map after.spare view in
    let places : room most before ≡ room most (shown view before) = λ j. min most (sym front j + sym back j) in
    record {
      answers = h.answers ∙ same_checks own otherwise _ _ _ _ _ _ holds (ap name e) (sym (map-map name view before.listed)) places;
      listed = ap (map view) h.listed ∙ push_viewed view (is_ok answer) before.listed row seen e;
      spare = ap (map view) h.spare ∙ drop_viewed view (is_ok answer) before.spare;
      size = let same = h.size in omega arith;
      distinct = λ d. subst Distinct (sym (map-map name view after.listed)) (h.distinct (subst Distinct (map-map name view before.listed) d));
    }
