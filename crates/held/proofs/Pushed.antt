-- Bytes laid behind those that an array holds.
use Rattle.std.proofs.Common.{◌≡◌, ℕ, ◌+◌, ◌-◌, ◌≤◌, List, ◌++◌, length, take, drop, ap, ◌∙◌, sym, arith}
use Rattle.std.proofs.lemmas.List.{length-append, length-drop, length-take-le, take-append-drop}
use Rattle.std.proofs.lemmas.Slice.{take-put_mid, drop-put_mid}
use Rattle.held.specs.Padded.{Padded}
use Rattle.held.proofs.Filling.{more_in_use}
use borrow.Rule.Slice.PartMut.{put_mid}

-- what is laid there is what is pushed
module _ (size : ℕ) (bytes : List ℕ) (len : ℕ) (more laid : List ℕ) (same : laid ≡ more) (room : len + length more ≤ size) (p : Padded size bytes len) where
  abbrev end : ℕ
  end = len + length more

  abbrev after : List ℕ
  after = put_mid len (end - len) bytes laid

  pub front : take end after ≡ take len bytes ++ more
  front =
      let n = ap length same in
      take-put_mid len (end - len) bytes laid end (omega arith) (omega (arith, p.whole)) ∙ ap (λ z. take len bytes ++ z) same

  behind : drop end after ≡ drop end bytes
  behind =
      let n = ap length same in
      drop-put_mid len (end - len) bytes laid end (omega arith) (omega (arith, p.whole)) (omega arith)

  pub pushed : Padded size after end
  pushed =
      let front_len : length (take end after) ≡ end =
      ap length front ∙ length-append (take len bytes) more ∙ ap (λ k. k + length more) (length-take-le len bytes (omega (arith, p.whole, p.fits))) in
      let back_len : length (drop end after) ≡ size - end = ap length behind ∙ length-drop end bytes ∙ ap (λ n. n - end) p.whole in
      let all = sym (ap length (take-append-drop end after)) ∙ length-append (take end after) (drop end after) in
      more_in_use size bytes after len (length more) p room (all ∙ omega arith) behind
