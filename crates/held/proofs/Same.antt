-- Two arrays whose rest is zero, as a derived `==` compares them: array by array, and number by number.
use Rattle.std.proofs.Common.{◌≡◌, ℕ, ◌-◌, Bool, true, false, ◌&&◌, eqb, List, ◌++◌, length, take, replicate, sym, refl, ap, ◌∙◌, subst}
use Rattle.std.proofs.lemmas.Bool.{and_parts, and_from, eq-eqb}
use Rattle.std.proofs.lemmas.Bool.Decides.{Decides-eqb}
use Rattle.std.proofs.lemmas.List.{take_at}
use Rattle.std.proofs.lemmas.Slice.Eq.{bytes_eq-Decides, slice_eq-Decides}
use Rattle.std.specs.Str.{bytes_eq}
use lib.Pointwise.{pointwise}

-- two tests of the same
both_tell : {P : Type 0} (b c : Bool) → (b ≡ true → P) → (P → b ≡ true) → (c ≡ true → P) → (P → c ≡ true) → b ≡ c
both_tell true true p q r s = refl
both_tell true false p q r s = sym (s (p refl))
both_tell false true p q r s = q (r refl)
both_tell false false p q r s = refl

module _ (size : ℕ) where
  abbrev padded : List ℕ → List ℕ
  padded xs = xs ++ replicate (size - length xs) 0

  abbrev same_parts : List ℕ → List ℕ → Bool
  same_parts xs ys = pointwise eqb (padded xs) (padded ys) && eqb (length xs) (length ys)

  same_bytes : (xs ys : List ℕ) → same_parts xs ys ≡ true → xs ≡ ys
  same_bytes xs ys e =
      let parts = and_parts (pointwise eqb (padded xs) (padded ys)) (eqb (length xs) (length ys)) e in
      let long = (Decides-eqb (length xs) (length ys)).0 parts.1 in
      let all = (slice_eq-Decides Decides-eqb (padded xs) (padded ys) _ refl).0 parts.0 in
      sym (take_at xs (replicate (size - length xs) 0) (length xs) refl)
      ∙ ap (take (length xs)) all
      ∙ take_at ys (replicate (size - length ys) 0) (length xs) (sym long)

  all_same : (xs : List ℕ) → same_parts xs xs ≡ true
  all_same xs =
      and_from _ _ ((slice_eq-Decides Decides-eqb (padded xs) (padded xs) _ refl).1 refl) (eq-eqb (length xs) (length xs) refl)

  pub same_parts-bytes_eq : (xs ys : List ℕ) → same_parts xs ys ≡ bytes_eq xs ys
  same_parts-bytes_eq xs ys =
      both_tell (same_parts xs ys) (bytes_eq xs ys)
      (same_bytes xs ys)
      (λ e. subst (λ zs. same_parts xs zs ≡ true) e (all_same xs))
      (bytes_eq-Decides xs ys).0
      (bytes_eq-Decides xs ys).1
