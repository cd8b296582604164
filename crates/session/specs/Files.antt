-- What is printed for a whole file.
use Rattle.std.specs.Prelude.{ℕ, ◌+◌, ◌-◌, cond, ◌||◌, List, [], ◌∷◌, ◌++◌, length, take, Some, None, Err, Option, ◌==◌, slice_index_or}
use Rattle.notation.specs.Fields.{fields_of}
use Rattle.answer.specs.Lines.{text_of}
use Rattle.answer.specs.Written.{line_for}
use Rattle.answer.specs.declared.line.OutputLine.{OutputLine}
use Rattle.command.specs.Commands.{asked}
use Rattle.command.specs.Lines.{line_in}
use Rattle.refusal.specs.declared.Refusal.TheVariants.{UnreadableLine}
use Rattle.session.specs.Replies.{State, Reply, reply, has_ended}

-- the parts of a file between its line feeds: all but the last are lines that a line feed ends
abbrev pub parts : List ℕ → List (List ℕ)
parts file = fields_of 10 file

abbrev pub ended_lines : List ℕ → List (List ℕ)
ended_lines file = take (length (parts file) - 1) (parts file)

-- what stands behind the last line feed
abbrev pub remainder : List ℕ → List ℕ
remainder file = slice_index_or (parts file) (length (parts file) - 1) []

-- the reply to a line
abbrev pub reply_to : State → List ℕ → Reply
reply_to state line = reply state (asked (line_in line))

-- the state after these lines
abbrev pub after : State → List (List ℕ) → State
after state [] = state
after state (line ∷ lines) = after (reply_to state line).after lines

-- what is printed for these lines, the first of them having this number: nothing more once the run has ended
abbrev pub printed : State → ℕ → List (List ℕ) → List ℕ
printed state number [] = []
printed state number (line ∷ lines) =
    cond (has_ended state) []
    (line_for number (reply_to state line).answer ++ printed (reply_to state line).after (number + 1) lines)

-- what is printed for a file: for its lines, and for what stands behind the last line feed, which cannot be read
abbrev pub output : State → List ℕ → List ℕ
output state file =
    printed state 1 (ended_lines file)
    ++ cond (has_ended (after state (ended_lines file)) || length (remainder file) == 0) []
    (line_for (length (parts file)) (Err UnreadableLine))

-- the bytes of an output line, if there is one
abbrev pub text_in : Option OutputLine → List ℕ
text_in None = []
text_in (Some line) = text_of line
