use Rattle.std.proofs.Common.{◌≡◌, ℕ, Bool, true, false, cond, List, Some, None, refl, sym, ◌∙◌, rules, arith}
use Rattle.std.specs.Option.{option_map}
use Rattle.register.specs.Paths.{path_of}
use Rattle.register.proofs.Appended.{viewed}
use Rattle.register.proofs.lists.add_sheet.Goals as goal

-- bytes that spell a path pass the test, and are its bytes
spelled : (fits : Bool) (path bytes : List ℕ) → Some path ≡ cond fits (Some bytes) None → (fits ≡ true) × (path ≡ bytes)
spelled true path bytes e = (refl, cc)
spelled false path bytes e = let z : ◌≡◌ {A = ℕ} 0 1 = cc in absurd (omega arith)

pub returns : goal.returns
returns c =
    let found : option_map path_of c.new.result ≡ Some (path_of c.in_ok-path.path) = search rules in
    let s = spelled _ _ _ (sym found ∙ c.new.ensures) in
    viewed _ _ _ _ _ _ _ _ _ _
    s.0
    (λ j. record { path = s.1 j; account = c.args.account; cards = c.args.cards })
    c.add.ensures
