-- The number of each refusal, and the places that it names.
use Rattle.std.specs.Prelude.{ℕ, Ok, Err, Result}
use Rattle.refusal.specs.declared.refusals.Answer.{Answer}
use Rattle.refusal.specs.declared.refusals.Refusal.{Refusal}
use Rattle.refusal.specs.declared.refusals.Refusal.TheVariants.{FirstDayTooLate, NoSuchAccount, AlreadyEnrolled, NotEnrolled, OtherProgramme, OutOfRange, DayOutsideBook, UnknownLetter, KindAlreadyFiled, PriceTooHigh, MomentOutOfRange, OfferTooLate, NoticeStands, DayWithoutKind, NoBusinessDay, OutOfSeason, PassesMidnight, NoticeTooLate, CapPassed, NothingToWithdraw, MonthOutsideBook, BufferTooShort, KindLacking, TooFewBaselineDays, ReadingAbsent, TableMisfit, OutsideTable, NumberUnlawful, HeadCut, RecordOutOfRange, RecordOutOfOrder, EmptyMap, ReadingsCut, ReadingTooHigh, RecordTooLong, ReadingBeyondMap, ReadingsLacking, GroupMisfit}

-- A refusal that names no place.
abbrev pub plain : ℕ → Answer
plain n = record { number = n; day = 0; quarter = 0; offset = 0 }

-- A refusal that names a day.
abbrev pub on_day : ℕ → ℕ → Answer
on_day n d = record { number = n; day = d; quarter = 0; offset = 0 }

-- A refusal of a record of a packed file, which begins at a byte.
abbrev pub at_byte : ℕ → ℕ → Answer
at_byte n b = record { number = n; day = 0; quarter = 0; offset = b }

-- The number of each refusal, with its places, 0 where unused.
abbrev pub answer_of : Refusal → Answer
answer_of FirstDayTooLate = plain 1
answer_of NoSuchAccount = plain 2
answer_of AlreadyEnrolled = plain 3
answer_of NotEnrolled = plain 4
answer_of OtherProgramme = plain 5
answer_of OutOfRange = plain 6
answer_of DayOutsideBook = plain 7
answer_of UnknownLetter = plain 8
answer_of KindAlreadyFiled = plain 9
answer_of PriceTooHigh = plain 10
answer_of MomentOutOfRange = plain 11
answer_of OfferTooLate = plain 12
answer_of NoticeStands = plain 13
answer_of DayWithoutKind = plain 14
answer_of NoBusinessDay = plain 15
answer_of OutOfSeason = plain 16
answer_of PassesMidnight = plain 17
answer_of NoticeTooLate = plain 18
answer_of CapPassed = plain 19
answer_of NothingToWithdraw = plain 20
answer_of MonthOutsideBook = plain 21
answer_of BufferTooShort = plain 22
answer_of (KindLacking d) = on_day 23 d
answer_of (TooFewBaselineDays d) = on_day 24 d
answer_of (ReadingAbsent d q) = record { number = 25; day = d; quarter = q; offset = 0 }
answer_of TableMisfit = plain 26
answer_of OutsideTable = plain 27
answer_of NumberUnlawful = plain 28
answer_of (HeadCut b) = at_byte 29 b
answer_of (RecordOutOfRange b) = at_byte 30 b
answer_of (RecordOutOfOrder b) = at_byte 31 b
answer_of (EmptyMap b) = at_byte 32 b
answer_of (ReadingsCut b) = at_byte 33 b
answer_of (ReadingTooHigh b) = at_byte 34 b
answer_of RecordTooLong = plain 35
answer_of ReadingBeyondMap = plain 36
answer_of ReadingsLacking = plain 37
answer_of GroupMisfit = plain 38

-- What a call told: its refusal's answer, or number 0 where it was accepted.
abbrev pub told : {T : Type 0} → Result T Refusal → Answer
told (Ok v) = plain 0
told (Err e) = answer_of e
