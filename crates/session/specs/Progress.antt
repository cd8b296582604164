-- A run that has taken the bytes of a file.
use Rattle.std.specs.Prelude.{◌≡◌, ℕ, ◌+◌, ◌^◌, ◌<◌, false, List, [], ◌∷◌, ◌++◌, length}
use Rattle.command.specs.Lines.{line_in}
use Rattle.session.specs.Files.{parts, ended_lines, remainder, after, printed}
use Rattle.session.specs.Replies.{State, has_ended}
use Rattle.session.specs.declared.run.Run.{Run}

-- From the state at the start it has come to where these bytes lead. A run that has ended counts and keeps no more lines.
pub record Reached (run : Run) (start : State) (file : List ℕ) : Type 0 where
  pub state : run.setup ≡ after start (ended_lines file)
  pub number : has_ended run.setup ≡ false → run.number ≡ length (parts file)
  pub line : has_ended run.setup ≡ false → run.line ≡ line_in (remainder file)

-- it has come one byte further, and this text is what is printed more by then
pub record OneFurther (start : State) (file : List ℕ) (byte : ℕ) (text : List ℕ) (run : Run) : Type 0 where
  pub reached : Reached run start (file ++ byte ∷ [])
  pub prints : printed start 1 (ended_lines (file ++ byte ∷ [])) ≡ printed start 1 (ended_lines file) ++ text

-- So a run takes a byte, wherever it had come, in files of fewer than 2^64 - 2 bytes: past that its number stays the largest
-- of 64 bits.
abbrev pub Takes : Run → ℕ → List ℕ → Run → Type 0
Takes run byte text run' = (start : State) (file : List ℕ) → length file + 2 < 2 ^ 64 → Reached run start file → OneFurther start file byte text run'
