-- What the lines of a command file set up, and the reply to a line.
use Rattle.std.specs.Prelude.{◌≡◌, ℕ, min, Bool, true, false, List, [], ◌∷◌, ◌++◌, map, Some, None, Ok, Err, Option, Result}
use Rattle.refusal.specs.Checks.{Check, first_refused}
use Rattle.refusal.specs.declared.Refusal.{Refusal}
use Rattle.refusal.specs.declared.Refusal.TheVariants.{UnreadableLine}
use Rattle.register.specs.Adding.{new_row}
use Rattle.register.specs.Listing.{Listing, most_accounts, most_offices, most_sheets, number_name, office_checks, path_checks}
use Rattle.register.specs.Table.{Table, room}
use Rattle.register.specs.declared.rows.Keyed.{Keyed}
use Rattle.command.specs.declared.Command.{Command}
use Rattle.command.specs.declared.Command.TheVariants.{Scheme, Account, Office, Sheet}
use Rattle.command.specs.declared.Scheme.{Scheme as Schemes}
use Rattle.session.specs.declared.setup.Phase.{Phase}
use Rattle.session.specs.declared.setup.Phase.TheVariants.{Start, Lists, Ended}

-- a list: its rows in the order in which they were added, and how many there is room for
pub record Rows (X : Type 0) : Type 0 where
  pub rows : List X
  pub room : ℕ

-- how far the run has come, and the lists
pub record State : Type 0 where
  pub phase : Phase
  pub accounts : Rows (Keyed ℕ)
  pub offices : Rows (Keyed ℕ)
  pub sheets : Rows Listing

-- before the first line, where memory has so many rows for each list
abbrev pub fresh : ℕ → ℕ → ℕ → State
fresh accounts offices sheets = record {
  phase = Start;
  accounts = record { rows = []; room = min most_accounts accounts };
  offices = record { rows = []; room = min most_offices offices };
  sheets = record { rows = []; room = min most_sheets sheets };
}

-- the list that a register of this kind holds
abbrev pub rows_in : {X : Type 0} → ℕ → Table X → Rows X
rows_in most table = record { rows = table.listed; room = room most table }

-- the state that is held in a phase and three registers
abbrev pub state_in : Phase → Table (Keyed ℕ) → Table (Keyed ℕ) → Table Listing → State
state_in phase accounts offices sheets = record {
  phase = phase;
  accounts = rows_in most_accounts accounts;
  offices = rows_in most_offices offices;
  sheets = rows_in most_sheets sheets;
}

-- the answer to a line, and the state after it
pub record Reply : Type 0 where
  pub answer : Result (Unit {0}) Refusal
  pub after : State

-- a reply is given: with this answer, and this state after it
pub record Gives (reply : Reply) (told : Result (Unit {0}) Refusal) (left : State) : Type 0 where
  pub answer : told ≡ reply.answer
  pub after : left ≡ reply.after

-- the answer to a call, by its refusal if it is refused
abbrev pub answer_of : Option Refusal → Result (Unit {0}) Refusal
answer_of None = Ok tt
answer_of (Some r) = Err r

-- a line that cannot be read, or is out of place
abbrev pub unreadable : State → Reply
unreadable s = record { answer = Err UnreadableLine; after = s }

-- the refusal of a new row, if it is refused: by a check of its own, since its name is listed, or for want of room
abbrev pub refusal : {X : Type 0} → (X → List ℕ) → List Check → X → Rows X → Option Refusal
refusal name own row list = first_refused (own ++ new_row (name row) (map name list.rows) list.room)

-- the list with the row behind the others, unless it is refused
abbrev pub extended : {X : Type 0} → Option Refusal → X → Rows X → Rows X
extended None row list = record { rows = list.rows ++ row ∷ []; room = list.room }
extended (Some r) row list = list

-- a row is added to a list, and the list put back
abbrev pub added : {X : Type 0} → (Rows X → State) → (X → List ℕ) → List Check → X → Rows X → Reply
added put name own row list = record {
  answer = answer_of (refusal name own row list);
  after = put (extended (refusal name own row list) row list);
}

abbrev pub with_accounts : State → Rows (Keyed ℕ) → State
with_accounts s list = record { phase = s.phase; accounts = list; offices = s.offices; sheets = s.sheets }

abbrev pub with_offices : State → Rows (Keyed ℕ) → State
with_offices s list = record { phase = s.phase; accounts = s.accounts; offices = list; sheets = s.sheets }

abbrev pub with_sheets : State → Rows Listing → State
with_sheets s list = record { phase = s.phase; accounts = s.accounts; offices = s.offices; sheets = list }

-- a command while the lists are filled: the scheme is chosen already, so choosing it again is out of place
abbrev pub listed : State → Command (List ℕ) → Reply
listed s (Scheme scheme) = unreadable s
listed s (Account number key) = added (with_accounts s) number_name [] record { number = number; key = key } s.accounts
listed s (Office number key) = added (with_offices s) number_name (office_checks number) record { number = number; key = key } s.offices
listed s (Sheet path account cards) =
    added (with_sheets s) (λ l. l.path) (path_checks path) record { path = path; account = account; cards = cards } s.sheets

-- the scheme that a first line chooses, if it does
abbrev pub chosen : Option (Command (List ℕ)) → Option Schemes
chosen None = None
chosen (Some (Scheme scheme)) = Some scheme
chosen (Some (Account number key)) = None
chosen (Some (Office number key)) = None
chosen (Some (Sheet path account cards)) = None

abbrev pub in_phase : Phase → State → State
in_phase p s = record { phase = p; accounts = s.accounts; offices = s.offices; sheets = s.sheets }

-- a first line: it chooses the scheme, or the run ends with it
abbrev pub begun : State → Option Schemes → Reply
begun s None = record { answer = Err UnreadableLine; after = in_phase Ended s }
begun s (Some scheme) = record { answer = Ok tt; after = in_phase (Lists scheme) s }

-- a line that follows
abbrev pub later_line : State → Option (Command (List ℕ)) → Reply
later_line s None = unreadable s
later_line s (Some c) = listed s c

abbrev pub reply_in : Phase → State → Option (Command (List ℕ)) → Reply
reply_in Start s c = begun s (chosen c)
reply_in (Lists scheme) s c = later_line s c
reply_in Ended s c = unreadable s

-- the reply to a line, by the command that it spells, if it spells one
abbrev pub reply : State → Option (Command (List ℕ)) → Reply
reply s c = reply_in s.phase s c

abbrev pub ended_in : Phase → Bool
ended_in Start = false
ended_in (Lists scheme) = false
ended_in Ended = true

-- whether no further line is looked at
abbrev pub has_ended : State → Bool
has_ended s = ended_in s.phase
