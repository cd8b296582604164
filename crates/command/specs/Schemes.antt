-- The numbers of the schemes.
use Rattle.std.specs.Prelude.{ℕ, cond, Some, None, Option, ◌==◌}
use Rattle.command.specs.declared.Scheme.{Scheme}
use Rattle.command.specs.declared.Scheme.TheVariants.{HmacSha256, Blake2s}

abbrev pub scheme_numbered : ℕ → Option Scheme
scheme_numbered number = cond (number == 1) (Some HmacSha256) (cond (number == 2) (Some Blake2s) None)
