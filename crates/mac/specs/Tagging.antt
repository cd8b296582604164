-- What a message authentication code answers.
use Rattle.std.specs.Prelude.{ℕ, cond, List, length, Ok, Err, Result, nat_le}
use Rattle.refusal.specs.declared.Refusal.{Refusal}
use Rattle.refusal.specs.declared.Refusal.TheVariants.{MessageTooLong}

-- the tag where the message is within the limit, else the refusal of a message that is too long
abbrev pub tagged : ℕ → (List ℕ → List ℕ → List ℕ) → List ℕ → List ℕ → Result (List ℕ) Refusal
tagged limit tagof key message = cond (nat_le (length message) limit) (Ok (tagof key message)) (Err MessageTooLong)
