-- Which lines are commands, and which commands.
use Rattle.std.specs.Prelude.{ℕ, cond, List, [], length, Some, None, Option, ◌==◌, slice_index, slice_index_or}
use Rattle.std.specs.Borrow.{Bor}
use Rattle.std.specs.Option.{option_map, option_zip}
use Rattle.notation.specs.Decimal.{number_in}
use Rattle.notation.specs.Fields.{fields_of}
use Rattle.notation.specs.Hex.{bytes_in}
use Rattle.command.specs.declared.Command.{Command}
use Rattle.command.specs.declared.Command.TheVariants.{Scheme, Account, Office, Sheet}
use Rattle.command.specs.declared.Scheme.{Scheme as Schemes}
use Rattle.command.specs.Schemes.{scheme_numbered}

-- a command with the bytes that its parts of the line hold
abbrev pub spoken : Command (Bor (List ℕ)) → Command (List ℕ)
spoken (Scheme s) = Scheme s
spoken (Account number key) = Account number key
spoken (Office number key) = Office number key
spoken (Sheet path account cards) = Sheet path.now account cards

-- a number of at most 16 bits, and one of at most 32
abbrev pub number16 : List ℕ → Option ℕ
number16 field = number_in 65535 field

abbrev pub number32 : List ℕ → Option ℕ
number32 field = number_in 4294967295 field

abbrev pub scheme_of : Option ℕ → Option Schemes
scheme_of None = None
scheme_of (Some number) = scheme_numbered number

-- what the fields of a line hold, the letter among them: each command has so many
abbrev pub scheme_line : List (List ℕ) → Option Schemes
scheme_line fields = cond (length fields == 2) (scheme_of (number16 (slice_index_or fields 1 []))) None

abbrev pub number_and_key : List (List ℕ) → Option (ℕ × List ℕ)
number_and_key fields = cond (length fields == 3) (option_zip (number16 (slice_index_or fields 1 [])) (bytes_in 32 (slice_index_or fields 2 []))) None

abbrev pub sheet_line : List (List ℕ) → Option (Command (List ℕ))
sheet_line fields =
    cond (length fields == 4)
    (option_map (λ p. Sheet (slice_index_or fields 1 []) p.0 p.1) (option_zip (number16 (slice_index_or fields 2 [])) (number32 (slice_index_or fields 3 []))))
    None

-- the letters S, A, O and F
abbrev pub by_letter : ℕ → List (List ℕ) → Option (Command (List ℕ))
by_letter letter fields =
    cond (letter == 83) (option_map Scheme (scheme_line fields))
    (cond (letter == 65) (option_map (λ p. Account p.0 p.1) (number_and_key fields))
    (cond (letter == 79) (option_map (λ p. Office p.0 p.1) (number_and_key fields))
    (cond (letter == 70) (sheet_line fields)
    None)))

-- the first field is the letter alone
abbrev pub command_in : List ℕ → Option (Command (List ℕ))
command_in line =
    cond (length (slice_index_or (fields_of 9 line) 0 []) == 1) (by_letter (slice_index (slice_index_or (fields_of 9 line) 0 []) 0) (fields_of 9 line)) None

-- the command that a line of a file spells, if it can be read
abbrev pub asked : Option (List ℕ) → Option (Command (List ℕ))
asked None = None
asked (Some line) = command_in line
