-- What is printed when one line more is answered.
use Rattle.std.proofs.Common.{◌≡◌, ℕ, suc, ◌+◌, Bool, true, false, cond, List, [], ◌∷◌, ◌++◌, length, Option, sym, refl, ap, ◌∙◌, add-zero, arith}
use Rattle.std.proofs.lemmas.List.{append-nil, append_assoc}
use Rattle.std.proofs.lemmas.Bool.{both_ways, cond-true}
use Rattle.answer.specs.Written.{line_for}
use Rattle.command.specs.Commands.{asked}
use Rattle.command.specs.Lines.{line_in}
use Rattle.command.specs.declared.Command.{Command}
use Rattle.session.specs.Files.{after, printed, reply_to}
use Rattle.session.specs.Replies.{State, Reply, reply, reply_in, unreadable, has_ended, ended_in}
use Rattle.session.specs.declared.setup.Phase.{Phase}
use Rattle.session.specs.declared.setup.Phase.TheVariants.{Start, Lists, Ended}

-- a run that has ended stays as it is
ended_in_lem : (p : Phase) (state : State) (c : Option (Command (List ℕ))) → ended_in p ≡ true → reply_in p state c ≡ unreadable state
ended_in_lem Start state c e = absurd (both_ways false refl e)
ended_in_lem (Lists s) state c e = absurd (both_ways false refl e)
ended_in_lem Ended state c e = refl

pub ended_reply : (state : State) (c : Option (Command (List ℕ))) → has_ended state ≡ true → (reply state c).after ≡ state
ended_reply state c e = ap (λ (r : Reply). r.after) (ended_in_lem state.phase state c e)

ended_after : (state : State) (lines : List (List ℕ)) → has_ended state ≡ true → after state lines ≡ state
ended_after state [] e = refl
ended_after state (l ∷ ls) e = ap (λ (b : State). after b ls) (ended_reply state (asked (line_in l)) e) ∙ ended_after state ls e

pub after_push : (state : State) (lines : List (List ℕ)) (line : List ℕ) → after state (lines ++ line ∷ []) ≡ (reply_to (after state lines) line).after
after_push state [] line = refl
after_push state (l ∷ ls) line = after_push (reply_to state l).after ls line

-- what one line more adds to what is printed: nothing where the run has ended
abbrev pub told : State → ℕ → List ℕ → List ℕ
told state number line = cond (has_ended state) [] (line_for number (reply_to state line).answer)

alone : (ended : Bool) (text : List ℕ) → cond ended [] (text ++ []) ≡ cond ended [] text
alone true text = refl
alone false text = append-nil text

behind : (ended : Bool) (text before both more : List ℕ) → both ≡ before ++ more → (ended ≡ true → more ≡ []) → cond ended [] (text ++ both) ≡ cond ended [] (text ++ before) ++ more
behind true text before both more e none = sym (none refl)
behind false text before both more e none = ap (λ (t : List ℕ). text ++ t) e ∙ sym (append_assoc text before more)

pub printed_push : (state : State) (number : ℕ) (lines : List (List ℕ)) (line : List ℕ)
    → printed state number (lines ++ line ∷ []) ≡ printed state number lines ++ told (after state lines) (number + length lines) line
printed_push state number [] line =
    alone (has_ended state) (line_for number (reply_to state line).answer) ∙ ap (λ n. told state n line) (sym (add-zero number))
printed_push state number (l ∷ ls) line =
    let next : State = (reply_to state l).after in
    let count : number + 1 + length ls ≡ number + suc (length ls) = omega arith in
    behind (has_ended state) (line_for number (reply_to state l).answer) (printed next (number + 1) ls) (printed next (number + 1) (ls ++ line ∷ []))
    (told (after next ls) (number + suc (length ls)) line)
    (printed_push next (number + 1) ls line ∙ ap (λ n. printed next (number + 1) ls ++ told (after next ls) n line) count)
    (λ e. cond-true (has_ended (after next ls)) [] _ (ap has_ended (ended_after state (l ∷ ls) e) ∙ e))
