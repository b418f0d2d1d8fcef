-- No refusal has the number 0, which stands for an accepted call.
use Rattle.std.proofs.Common.{◌<◌, lit<}
use Rattle.refusal.specs.Answers.{answer_of}
use Rattle.refusal.specs.declared.refusals.Refusal.{Refusal}
use Rattle.refusal.specs.declared.refusals.Refusal.TheVariants.{FirstDayTooLate, NoSuchAccount, AlreadyEnrolled, NotEnrolled, OtherProgramme, OutOfRange, DayOutsideBook, UnknownLetter, KindAlreadyFiled, PriceTooHigh, MomentOutOfRange, OfferTooLate, NoticeStands, DayWithoutKind, NoBusinessDay, OutOfSeason, PassesMidnight, NoticeTooLate, CapPassed, NothingToWithdraw, MonthOutsideBook, BufferTooShort, KindLacking, TooFewBaselineDays, ReadingAbsent, TableMisfit, OutsideTable, NumberUnlawful, HeadCut, RecordOutOfRange, RecordOutOfOrder, EmptyMap, ReadingsCut, ReadingTooHigh, RecordTooLong, ReadingBeyondMap, ReadingsLacking, GroupMisfit}

pub numbered : (r : Refusal) → 0 < (answer_of r).number
numbered FirstDayTooLate = lit< tt
numbered NoSuchAccount = lit< tt
numbered AlreadyEnrolled = lit< tt
numbered NotEnrolled = lit< tt
numbered OtherProgramme = lit< tt
numbered OutOfRange = lit< tt
numbered DayOutsideBook = lit< tt
numbered UnknownLetter = lit< tt
numbered KindAlreadyFiled = lit< tt
numbered PriceTooHigh = lit< tt
numbered MomentOutOfRange = lit< tt
numbered OfferTooLate = lit< tt
numbered NoticeStands = lit< tt
numbered DayWithoutKind = lit< tt
numbered NoBusinessDay = lit< tt
numbered OutOfSeason = lit< tt
numbered PassesMidnight = lit< tt
numbered NoticeTooLate = lit< tt
numbered CapPassed = lit< tt
numbered NothingToWithdraw = lit< tt
numbered MonthOutsideBook = lit< tt
numbered BufferTooShort = lit< tt
numbered (KindLacking d) = lit< tt
numbered (TooFewBaselineDays d) = lit< tt
numbered (ReadingAbsent d q) = lit< tt
numbered TableMisfit = lit< tt
numbered OutsideTable = lit< tt
numbered NumberUnlawful = lit< tt
numbered (HeadCut b) = lit< tt
numbered (RecordOutOfRange b) = lit< tt
numbered (RecordOutOfOrder b) = lit< tt
numbered (EmptyMap b) = lit< tt
numbered (ReadingsCut b) = lit< tt
numbered (ReadingTooHigh b) = lit< tt
numbered RecordTooLong = lit< tt
numbered ReadingBeyondMap = lit< tt
numbered ReadingsLacking = lit< tt
numbered GroupMisfit = lit< tt
