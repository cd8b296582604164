-- The table of refusals: each with its number, and the place that is reported with it where it has one.
-- Every contract of the repository that speaks of a refusal means the numbers of this table.
use Rattle.std.specs.Prelude.{ℕ, Some, None, Option}
use Rattle.refusal.specs.declared.Refusal.{Refusal}
use Rattle.refusal.specs.declared.Refusal.TheVariants.{Truncated, WrongVersion, UnexpectedField, LengthOutOfLimits, WrongIdentifier, TooManyCaveats, WrongSeat, NoSuchSlot, SlotEmpty, SlotTaken, WrongKind, WrongLength, TokenFull, WrongOffice, NoKey, TooManyDischarges, MemoryTooShort, MessageTooLong, AlreadyListed, ListFull, WrongRequest, SheetNotListed, OtherAccount, WrongSignature, ConditionFails, ReferenceUnanswered, UnreadableLine}

-- a refusal as it is reported: its number, and its place if it has one
pub record Report : Type 0 where
  pub number : ℕ
  pub place : Option ℕ

abbrev pub placed : ℕ → ℕ → Report
placed number place = record { number = number; place = Some place }

abbrev pub plain : ℕ → Report
plain number = record { number = number; place = None }

abbrev pub reported : Refusal → Report
reported (Truncated token) = placed 1 token
reported (WrongVersion token) = placed 2 token
reported (UnexpectedField token) = placed 3 token
reported (LengthOutOfLimits token) = placed 4 token
reported (WrongIdentifier token) = placed 5 token
reported (TooManyCaveats token) = placed 6 token
reported (WrongSeat token) = placed 7 token
reported NoSuchSlot = plain 8
reported SlotEmpty = plain 9
reported SlotTaken = plain 10
reported WrongKind = plain 11
reported WrongLength = plain 12
reported TokenFull = plain 13
reported WrongOffice = plain 14
reported NoKey = plain 15
reported TooManyDischarges = plain 16
reported MemoryTooShort = plain 17
reported MessageTooLong = plain 18
reported AlreadyListed = plain 19
reported ListFull = plain 20
reported WrongRequest = plain 21
reported SheetNotListed = plain 22
reported OtherAccount = plain 23
reported WrongSignature = plain 24
reported (ConditionFails caveat) = placed 25 caveat
reported (ReferenceUnanswered caveat) = placed 26 caveat
reported UnreadableLine = plain 27

abbrev pub number_of : Refusal → ℕ
number_of r = (reported r).number

abbrev pub place_of : Refusal → Option ℕ
place_of r = (reported r).place
