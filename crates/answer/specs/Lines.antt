-- The bytes of an output line.
use Rattle.std.specs.Prelude.{ℕ, List, take}
use Rattle.answer.specs.declared.line.OutputLine.{OutputLine}

abbrev pub text_of : OutputLine → List ℕ
text_of line = take line.len line.bytes
