-- Lists stay sound, whatever the lines.
use Rattle.std.proofs.Common.{◌≡◌, ℕ, ◌+◌, ◌<◌, min, Bool, true, false, cond, not, ltb, List, [], ◌∷◌, ◌++◌, map, length, is_some, Some, None, Option, sym, refl, ap, ◌∙◌, subst, arith}
use Rattle.std.proofs.ByRecursion.{All-push}
use Rattle.std.proofs.lemmas.List.{length-map, length_push, map_push}
use Rattle.std.proofs.lemmas.Bool.{both_ways, cond-true, ltb-true}
use Rattle.refusal.specs.Checks.{Check, first_refused}
use Rattle.refusal.specs.declared.Refusal.{Refusal}
use Rattle.refusal.specs.declared.Refusal.TheVariants.{AlreadyListed, ListFull, WrongLength, WrongOffice}
use Rattle.register.specs.Adding.{new_row}
use Rattle.register.specs.Listing.{is_office, number_name, office_checks, path_checks}
use Rattle.register.specs.Names.{Distinct, place_in}
use Rattle.register.specs.Paths.{is_path}
use Rattle.register.proofs.Appended.{distinct_push}
use Rattle.command.specs.Commands.{asked}
use Rattle.command.specs.Lines.{line_in}
use Rattle.command.specs.declared.Command.{Command}
use Rattle.command.specs.declared.Command.TheVariants.{Scheme, Account, Office, Sheet}
use Rattle.command.specs.declared.Scheme.{Scheme as Schemes}
use Rattle.session.specs.Files.{after}
use Rattle.register.specs.Table.{Table}
use Rattle.session.specs.Replies.{Rows, State, rows_in, begun, chosen, extended, fresh, in_phase, later_line, listed, refusal, reply, reply_in}
use Rattle.session.specs.Soundness.{Sound, SoundList, StaysSound}
use Rattle.session.specs.declared.setup.Phase.{Phase}
use Rattle.session.specs.declared.setup.Phase.TheVariants.{Start, Lists, Ended}

-- where nothing is refused, each check holds
holding : (b : Bool) (rest : Option Refusal) (r : Refusal) → cond b rest (Some r) ≡ None → (b ≡ true) × (rest ≡ None)
holding true rest r e = (refl, e)
holding false rest r e = let z : ◌≡◌ {A = ℕ} 0 1 = cc in absurd (omega arith)

both_hold : (xs ys : List Check) → first_refused (xs ++ ys) ≡ None → (first_refused xs ≡ None) × (first_refused ys ≡ None)
both_hold [] ys e = (refl, e)
both_hold (c ∷ cs) ys e =
    let first = holding c.0 (first_refused (cs ++ ys)) c.1 e in
    let rest = both_hold cs ys first.1 in
    (cond-true c.0 (first_refused cs) (Some c.1) first.0 ∙ rest.0, rest.1)

none_found : (place : Option ℕ) → not (is_some place) ≡ true → place ≡ None
none_found None e = refl
none_found (Some i) e = absurd (both_ways false refl e)

new_row_lem : (name : List ℕ) (names : List (List ℕ)) (room : ℕ) → first_refused (new_row name names room) ≡ None → (place_in name names ≡ None) × (length names < room)
new_row_lem name names room e =
    let apart = holding (not (is_some (place_in name names))) _ AlreadyListed e in
    let fits = holding (ltb (length names) room) None ListFull apart.1 in
    (none_found (place_in name names) apart.0, ltb-true (length names) room fits.0)

extended_sound : {X : Type 0} (name : X → List ℕ) (Within : X → Type 0) (own : List Check) (row : X) (list : Rows X) (refused : Option Refusal)
    → refusal name own row list ≡ refused
    → (first_refused own ≡ None → Within row)
    → SoundList name Within list
    → SoundList name Within (extended refused row list)
extended_sound name Within own row list (Some r) e fits h = h
extended_sound name Within own row list None e fits h =
    let checks = both_hold own (new_row (name row) (map name list.rows) list.room) e in
    let free = new_row_lem (name row) (map name list.rows) list.room checks.1 in
    let count = length-map list.rows name in
    let more = length_push list.rows row in
    record {
      distinct = subst Distinct (sym (map_push name list.rows row)) (distinct_push (map name list.rows) (name row) free.0 h.distinct);
      few = omega (arith, free.1);
      limits = All-push Within list.rows row h.limits (fits checks.0);
    }

own_check : (within : Bool) (otherwise : Refusal) → first_refused ((within, otherwise) ∷ []) ≡ None → within ≡ true
own_check within otherwise e = (holding within None otherwise e).0

pub listed_sound : (s : State) (c : Command (List ℕ)) → Sound s → Sound (listed s c).after
listed_sound s (Scheme scheme) h = h
listed_sound s (Account number key) h = record {
  accounts = extended_sound number_name _ [] record { number = number; key = key } s.accounts _ refl (λ _. tt) h.accounts;
  offices = h.offices;
  sheets = h.sheets;
}
listed_sound s (Office number key) h = record {
  accounts = h.accounts;
  offices = extended_sound number_name _ (office_checks number) record { number = number; key = key } s.offices _ refl (own_check (is_office number) WrongOffice) h.offices;
  sheets = h.sheets;
}
listed_sound s (Sheet path account cards) h = record {
  accounts = h.accounts;
  offices = h.offices;
  sheets = extended_sound (λ l. l.path) _ (path_checks path) record { path = path; account = account; cards = cards } s.sheets _ refl (own_check (is_path path) WrongLength) h.sheets;
}

-- the phase does not matter to the lists
pub in_phase_sound : (p : Phase) (s : State) → Sound s → Sound (in_phase p s)
in_phase_sound p s h = record { accounts = h.accounts; offices = h.offices; sheets = h.sheets }

begun_sound : (s : State) (scheme : Option Schemes) → Sound s → Sound (begun s scheme).after
begun_sound s None h = in_phase_sound Ended s h
begun_sound s (Some scheme) h = in_phase_sound (Lists scheme) s h

later_sound : (s : State) (c : Option (Command (List ℕ))) → Sound s → Sound (later_line s c).after
later_sound s None h = h
later_sound s (Some c) h = listed_sound s c h

reply_in_sound : (p : Phase) (s : State) (c : Option (Command (List ℕ))) → Sound s → Sound (reply_in p s c).after
reply_in_sound Start s c h = begun_sound s (chosen c) h
reply_in_sound (Lists scheme) s c h = later_sound s c h
reply_in_sound Ended s c h = h

pub after_sound : (s : State) (lines : List (List ℕ)) → Sound s → Sound (after s lines)
after_sound s [] h = h
after_sound s (line ∷ lines) h = after_sound (reply s (asked (line_in line))).after lines (reply_in_sound s.phase s (asked (line_in line)) h)

none_sound : {X : Type 0} (name : X → List ℕ) (Within : X → Type 0) (room : ℕ) → SoundList name Within record { rows = []; room = room }
none_sound name Within room = record { distinct = λ i j lower within same. omega arith; few = omega arith; limits = tt }

fresh_sound : (accounts offices sheets : ℕ) → Sound (fresh accounts offices sheets)
fresh_sound accounts offices sheets = record { accounts = none_sound _ _ _; offices = none_sound _ _ _; sheets = none_sound _ _ _ }

-- a register with no row, in memory of this many
pub empty_list : {X : Type 0} (most : ℕ) (t : Table X) (memory : ℕ) → t.listed ≡ [] → length t.spare ≡ memory → rows_in most t ≡ record { rows = []; room = min most memory }
empty_list most t memory none all =
    let front : length t.listed ≡ 0 = ap length none in
    let places : length t.listed + length t.spare ≡ memory = omega arith in
    λ j. record { rows = none j; room = min most (places j) }

pub fresh_stays_sound : (accounts offices sheets : ℕ) → StaysSound (fresh accounts offices sheets)
fresh_stays_sound accounts offices sheets lines = after_sound (fresh accounts offices sheets) lines (fresh_sound accounts offices sheets)
