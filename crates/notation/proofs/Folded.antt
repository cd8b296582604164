-- What `try_fold` gives over an Option: the steps one after another, until one gives nothing.
use Rattle.std.proofs.Common.{◌≡◌, List, [], ◌∷◌, Option, Some, None, sym, refl, ap, subst, ◌∙◌}
use Rattle.std.specs.Option.{MatchOption, option_and_then}
use Rattle.std.specs.ControlFlow.{continue_value}
use Rattle.std.specs.declared.ops.ControlFlow.{ControlFlow}
use Rattle.std.specs.declared.ops.ControlFlow.TheVariants.{Continue, Break}
use Rattle.std.specs.Fn.{Called}
use Rattle.std.specs.Iterator.{AlwaysYields, Yields, TryFoldTurn, TryFoldsItems}
use Rattle.std.specs.List.{FoldsTo}
use denote.Param.Members.{Mut}

abbrev pub folded : {B C : Type 0} → (C → B → Option C) → C → List B → Option C
folded step a [] = Some a
folded step a (y ∷ ys) = option_and_then (λ b. folded step b ys) (step a y)

module _ {S A B C F : Type 0} (E : Type 0) (steps : S → Option A → S → Type 0) (v : A → B) (g : Mut F (C × (A × Unit {0})) (Option C)) (step : C → B → Option C) (f : F)
    (calls : (a : C) (x : A) (w : Option C) (h : F) → Called g f (a, (x, tt)) w h → (h ≡ f) × (w ≡ step a (v x))) where
  abbrev branches : Option C → ControlFlow E C → Type 0
  branches w b = w ≡ continue_value b

  -- a call whose closure is f
  called_at : (p : F × C) (x : A) (w : Option C) (h : F) → p.0 ≡ f → Called g p.0 (p.1, (x, tt)) w h → (h ≡ f) × (w ≡ step p.1 (v x))
  called_at p x w h e c = calls p.1 x w h (subst (λ q. Called g q (p.1, (x, tt)) w h) e c)

  -- what is said where the items have ended, or a call gave nothing
  abbrev Last : Option C → F × C → Option A → Type 0
  Last r q o = MatchOption o (branches r (Continue q.1)) (λ x. (w : Option C) × (h : F) × (e : E) × Called g q.0 (q.1, (x, tt)) w h × branches w (Break e) × (r ≡ None))

  after_turns : (r : Option C) (q : F × C) (t u : S) (o : Option A) → steps t o u → Last r q o → (xs : List A) (all : List B) (s : S) (p : F × C) → p.0 ≡ f → AlwaysYields steps v s all → Yields steps s xs t
      → FoldsTo {P = F × C} (TryFoldTurn g branches) p xs q → r ≡ folded step p.1 all
  after_turns r q t u None n l [] [] s p e a y k = l ∙ ap Some (ap (λ (z : F × C). z.1) (sym k))
  after_turns r q t u None n l [] (b ∷ bs) s p e a y k = absurd (a.0 u (subst (λ z. steps z None u) (sym y) n))
  after_turns r q t u (Some x) n l [] [] s p e a y k = absurd (a x u (subst (λ z. steps z (Some x) u) (sym y) n))
  after_turns r q t u (Some x) n l [] (b ∷ bs) s p e a y k =
      let here = (a.1 x u (subst (λ z. steps z (Some x) u) (sym y) n)).0 in
      let call = called_at p x l.0 l.1 e (subst (λ (z : F × C). Called g z.0 (z.1, (x, tt)) l.0 l.1) (sym k) l.3) in
      l.5 ∙ sym (ap (option_and_then (λ c. folded step c bs)) (sym (ap (step p.1) here) ∙ sym call.1 ∙ l.4))
  after_turns r q t u o n l (x ∷ xs) [] s p e a y k = absurd (a x y.0 y.1)
  after_turns r q t u o n l (x ∷ xs) (b ∷ bs) s p e a y k =
      let here = a.1 x y.0 y.1 in
      let turn = k.1 in
      let call = called_at p x turn.0 k.0.0 e turn.1 in
      after_turns r q t u o n l xs bs y.0 k.0 call.0 here.1 y.2 k.2
      ∙ sym (ap (option_and_then (λ c. folded step c bs)) (sym (ap (step p.1) here.0) ∙ sym call.1 ∙ turn.2))

  -- the clause `ran` of a call of `try_fold`
  pub folded_from_try_fold : (s u : S) (init : C) (r : Option C) (all : List B) → TryFoldsItems steps g branches (λ _ w. w ≡ None) s f init r u → AlwaysYields steps v s all → r ≡ folded step init all
  folded_from_try_fold s u init r all h a = after_turns r (h.2, h.3) h.4.0 u h.1 h.4.2 h.6 h.0 all s (f, init) refl a h.4.1 h.5
