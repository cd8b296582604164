-- A 32-bit word and its four bytes, in either order.
use Rattle.std.specs.Prelude.{ℕ, ◌+◌, ◌*◌, ◌/◌, ◌%◌, List, [], ◌∷◌}
use Rattle.octets.specs.declared.order.ByteOrder.{ByteOrder}
use Rattle.octets.specs.declared.order.ByteOrder.TheVariants.{HighFirst, LowFirst}

abbrev pub word_of : ByteOrder → ℕ → ℕ → ℕ → ℕ → ℕ
word_of HighFirst a b c d = a * 16777216 + b * 65536 + c * 256 + d
word_of LowFirst a b c d = a + b * 256 + c * 65536 + d * 16777216

abbrev pub bytes_of : ByteOrder → ℕ → List ℕ
bytes_of HighFirst w = (w / 16777216 % 256) ∷ (w / 65536 % 256) ∷ (w / 256 % 256) ∷ (w % 256) ∷ []
bytes_of LowFirst w = (w % 256) ∷ (w / 256 % 256) ∷ (w / 65536 % 256) ∷ (w / 16777216 % 256) ∷ []
