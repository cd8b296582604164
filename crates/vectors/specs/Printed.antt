-- What a line prints.
use Rattle.std.specs.Prelude.{ℕ, ◌^◌, ◌-◌, false, List, [], ◌∷◌, ◌++◌, codes, decimal}
use Rattle.std.specs.List.{flat_map}
use Rattle.std.specs.Fmt.{digits, padded_integral, format_spec}
use Rattle.refusal.specs.Numbers.{number_of}
use Rattle.vectors.specs.declared.outcome.Outcome.{Outcome}
use Rattle.vectors.specs.declared.outcome.Outcome.TheVariants.{Tag, Block, Ciphered}
use Rattle.vectors.specs.declared.outcome.Failure.{Failure}
use Rattle.vectors.specs.declared.outcome.Failure.TheVariants.{Unreadable, Refused, Memory}

-- a byte in two hexadecimal digits, letters in lower case, as `{:02x}` writes it
abbrev pub two_digits : ℕ → List ℕ
two_digits byte = padded_integral (format_spec 32 0 4 2 (2 ^ 64 - 1)) false [] (digits 16 false byte)

abbrev pub hex_text : List ℕ → List ℕ
hex_text bytes = flat_map two_digits bytes

-- two results are parted by a tab
abbrev pub outcome_text : Outcome → List ℕ
outcome_text (Tag tag) = hex_text tag
outcome_text (Block block) = hex_text block
outcome_text (Ciphered hidden revealed) = hex_text hidden ++ 9 ∷ hex_text revealed

abbrev pub failure_text : Failure → List ℕ
failure_text Unreadable = codes "unreadable"
failure_text (Refused refusal) = decimal (number_of refusal)
failure_text (Memory error) = codes "out of memory"
