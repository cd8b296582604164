-- A run when one byte more is taken, on each way through it.
use Rattle.std.proofs.Common.{◌≡◌, ℕ, ◌+◌, ◌-◌, ◌^◌, ◌<◌, min, Bool, true, false, cond, leb, List, [], ◌∷◌, ◌++◌, length, Some, None, Result, sym, refl, ap, ◌∙◌, ⊎_elim, arith}
use Rattle.std.proofs.lemmas.List.{append-nil, length_push}
use Rattle.std.proofs.lemmas.Bool.{cases_eq, cond-true, cond-false, leb-false, lt-leb}
use Rattle.answer.specs.Written.{line_for}
use Rattle.refusal.specs.declared.Refusal.{Refusal}
use Rattle.command.specs.Commands.{asked}
use Rattle.command.specs.Lines.{line_in, longer}
use Rattle.session.specs.Files.{parts, ended_lines, remainder, after, printed, reply_to}
use Rattle.session.specs.Replies.{State, has_ended}
use Rattle.session.proofs.Cut.{lines_end, lines_more, count_lines, count_end, count_bound}
use Rattle.session.proofs.Told.{ended_reply, after_push, printed_push, told}

-- the state, and what was printed, after a line feed
after_end : (start : State) (file : List ℕ) → after start (ended_lines (file ++ 10 ∷ [])) ≡ (reply_to (after start (ended_lines file)) (remainder file)).after
after_end start file = ap (after start) (lines_end file) ∙ after_push start (ended_lines file) (remainder file)

printed_end : (start : State) (file : List ℕ)
    → printed start 1 (ended_lines (file ++ 10 ∷ [])) ≡ printed start 1 (ended_lines file) ++ told (after start (ended_lines file)) (length (parts file)) (remainder file)
printed_end start file =
    ap (printed start 1) (lines_end file)
    ∙ printed_push start 1 (ended_lines file) (remainder file)
    ∙ ap (λ n. printed start 1 (ended_lines file) ++ told (after start (ended_lines file)) n (remainder file)) (sym (count_lines file))

-- and after a byte, of whatever kind, that comes when the run has ended
pub still : (start : State) (file : List ℕ) (b : ℕ) → has_ended (after start (ended_lines file)) ≡ true → after start (ended_lines (file ++ b ∷ [])) ≡ after start (ended_lines file)
still start file b e =
    ⊎_elim
    (λ lf. ap (λ c. after start (ended_lines (file ++ c ∷ []))) lf ∙ after_end start file ∙ ended_reply (after start (ended_lines file)) (asked (line_in (remainder file))) e)
    (λ other. ap (after start) (lines_more file b other))
    (cases_eq b 10)

pub silent : (start : State) (file : List ℕ) (b : ℕ) → has_ended (after start (ended_lines file)) ≡ true → printed start 1 (ended_lines (file ++ b ∷ [])) ≡ printed start 1 (ended_lines file) ++ []
silent start file b e =
    ⊎_elim
    (λ lf.
    ap (λ c. printed start 1 (ended_lines (file ++ c ∷ []))) lf
    ∙ printed_end start file
    ∙ ap (λ (t : List ℕ). printed start 1 (ended_lines file) ++ t) (cond-true (has_ended (after start (ended_lines file))) [] _ e))
    (λ other. ap (printed start 1) (lines_more file b other) ∙ sym (append-nil (printed start 1 (ended_lines file))))
    (cases_eq b 10)

-- a line feed, when the line is answered
pub line_answered : (start : State) (file : List ℕ) (state state' : State)
    → state ≡ after start (ended_lines file)
    → state' ≡ (reply_to state (remainder file)).after
    → state' ≡ after start (ended_lines (file ++ 10 ∷ []))
line_answered start file state state' at next =
    next ∙ ap (λ (x : State). (reply_to x (remainder file)).after) at ∙ sym (after_end start file)

pub line_printed : (start : State) (file : List ℕ) (state : State) (number : ℕ) (answer : Result (Unit {0}) Refusal) (text : List ℕ)
    → state ≡ after start (ended_lines file)
    → has_ended state ≡ false
    → number ≡ length (parts file)
    → answer ≡ (reply_to state (remainder file)).answer
    → text ≡ line_for number answer
    → printed start 1 (ended_lines (file ++ 10 ∷ [])) ≡ printed start 1 (ended_lines file) ++ text
line_printed start file state number answer text at going n a t =
    printed_end start file
    ∙ ap (λ (x : List ℕ). printed start 1 (ended_lines file) ++ x)
    (cond-false (has_ended (after start (ended_lines file))) [] _ (ap has_ended (sym at) ∙ going)
    ∙ sym (t ∙ (λ j. line_for (n j) (a j)) ∙ ap (λ (x : State). line_for (length (parts file)) (reply_to x (remainder file)).answer) at))

-- the next line begins
pub line_counted : (file : List ℕ) (number next : ℕ)
    → length file + 2 < 2 ^ 64
    → number ≡ length (parts file)
    → next ≡ min (number + 1) (2 ^ 64 - 1)
    → next ≡ length (parts (file ++ 10 ∷ []))
line_counted file number next small n e =
    let few = count_bound file in
    let more : next ≡ length (parts file) + 1 = omega arith in
    more ∙ sym (count_end file)

-- a line with a byte more
extended_by : (fits : Bool) (line : List ℕ) (b : ℕ) → leb (length line) 10240 ≡ fits → longer (cond fits (Some line) None) b ≡ line_in (line ++ b ∷ [])
extended_by true line b e = refl
extended_by false line b e =
    let over = leb-false (length line) 10240 e in
    let more = length_push line b in
    sym (cond-false (leb (length (line ++ b ∷ [])) 10240) _ _ (lt-leb (length (line ++ b ∷ [])) 10240 (omega arith)))

pub line_extended : (line : List ℕ) (b : ℕ) → longer (line_in line) b ≡ line_in (line ++ b ∷ [])
line_extended line b = extended_by (leb (length line) 10240) line b refl
