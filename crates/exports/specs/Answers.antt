-- What a call from another language answers and leaves.
use Rattle.std.specs.Prelude.{ℕ, List, Ok, Err, Result}
use Rattle.refusal.specs.Numbers.{number_of}
use Rattle.refusal.specs.declared.Refusal.{Refusal}

-- 0, or the number of the refusal
abbrev pub answer_of : Result (List ℕ) Refusal → ℕ
answer_of (Ok bytes) = 0
answer_of (Err refusal) = number_of refusal

-- the result, or what stood there before
abbrev pub result_of : Result (List ℕ) Refusal → List ℕ → List ℕ
result_of (Ok bytes) before = bytes
result_of (Err refusal) before = before
