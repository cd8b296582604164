-- What `array::from_fn` makes with a closure that stays as it is: each element is a function of its place.
use Rattle.std.proofs.Common.{◌≡◌, ℕ, zero, suc, ◌+◌, ◌<◌, List, map, length, get_or, sym, ap, ◌∙◌, subst, add-zero, zero-add, arith}
use Rattle.std.specs.Array.{IsFromFnResult, IsFromFnResultFrom}
use Rattle.std.specs.Fn.{Called}
use Rattle.std.specs.List.{range_with_len}
use Rattle.std.proofs.lemmas.List.{get_or-map, length-map}
use Rattle.std.proofs.lemmas.List.FromFn.{fill_by_all}
use denote.Param.Members.{Mut}

each_made : {F : Type 0} (g : Mut F (ℕ × Unit {0}) ℕ) (of : ℕ → ℕ) (f : F) (ys : List ℕ) → ((i y : ℕ) (q : F) → Called g f (i, tt) y q → (q ≡ f) × (y ≡ of i)) → (n i k : ℕ) → IsFromFnResultFrom g f ys i n → k < n → get_or ys (i + k) 0 ≡ of (i + k)
each_made g of f ys call zero i k made h = absurd (omega arith)
each_made g of f ys call (suc n) i zero (q, y, here, met, rest) h =
    ap (λ j. get_or ys j 0) (add-zero i) ∙ here.1 0 ∙ (call i y q met).1 ∙ ap of (sym (add-zero i))
each_made g of f ys call (suc n) i (suc k) (q, y, here, met, rest) h =
    let e : i + suc k ≡ i + 1 + k = omega arith in
    ap (λ j. get_or ys j 0) e
    ∙ each_made g of f ys call n (i + 1) k (subst (λ p. IsFromFnResultFrom g p ys (i + 1) n) (call i y q met).0 rest) (omega arith)
    ∙ ap of (sym e)

pub made : {F : Type 0} (g : Mut F (ℕ × Unit {0}) ℕ) (of : ℕ → ℕ) {f : F} {ys : List ℕ} {n : ℕ} → IsFromFnResult g f ys n → ((i y : ℕ) (q : F) → Called g f (i, tt) y q → (q ≡ f) × (y ≡ of i)) → ys ≡ map of (range_with_len 0 n)
made g of {f} {ys} {n} calls call =
    fill_by_all of ys n 0 calls.long
    (λ k h. subst (λ j. get_or ys j 0 ≡ of j) (zero-add k) (each_made g of f ys call n 0 k calls.each h))

-- where each element is made of the element at its place in a list
pub images : (of : ℕ → ℕ) (xs : List ℕ) (n : ℕ) → length xs ≡ n → map (λ i. of (get_or xs i 0)) (range_with_len 0 n) ≡ map of xs
images of xs n long =
    sym (fill_by_all (λ i. of (get_or xs i 0)) (map of xs) n 0 (length-map xs of ∙ long) (λ k h. get_or-map of xs k 0 0 (omega arith)))
