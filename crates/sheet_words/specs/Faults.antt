-- What the faults of a word say.
use Rattle.std.specs.Prelude.{◌≡◌, ℕ, List, string_bytes}
use Rattle.decimals.specs.Numerals.{Refused, places_of}
use Rattle.decimals.specs.declared.kinds.Misread.{Misread}
use Rattle.decimals.specs.declared.kinds.Misread.TheVariants.{Empty, NotANumber as NoNumber, TooManyDigits as ManyDigits, TooManyDecimals as ManyDecimals}
use Rattle.decimals.specs.declared.kinds.Places.{Places}
use Rattle.sheet_words.specs.declared.faults.Complaint.{Complaint}
use Rattle.sheet_words.specs.declared.faults.Complaint.TheVariants.{NotANumber, TooManyDigits, TooManyDecimals}
use Rattle.sheet_words.specs.declared.faults.LineFault.{LineFault}
use Rattle.sheet_words.specs.declared.faults.LineFault.TheVariants.{Wrong, WordCount, Twice, TooSoon, TooLate, Refused as Refusing, Memory}

-- The fault quotes the word with this complaint, or says that there was no memory for that.
abbrev pub Blames : List ℕ → Complaint → LineFault → Type 0
Blames text complaint (Wrong quoted c) = (string_bytes quoted ≡ text) × (c ≡ complaint)
Blames text complaint (WordCount word given) = ⊥
Blames text complaint (Twice word line) = ⊥
Blames text complaint (TooSoon word) = ⊥
Blames text complaint (TooLate word) = ⊥
Blames text complaint (Refusing refusal) = ⊥
Blames text complaint Memory = Unit {0}

-- What is said of a word that is no number.
abbrev pub complaint_of : Places → Misread → Complaint
complaint_of places Empty = NotANumber
complaint_of places NoNumber = NotANumber
complaint_of places ManyDigits = TooManyDigits
complaint_of places ManyDecimals = TooManyDecimals places

-- The word is no number for a reason that the fault gives.
abbrev pub IsNoNumber : Places → List ℕ → LineFault → Type 0
IsNoNumber places text fault = (why : Misread) × Refused (places_of places) text why × Blames text (complaint_of places why) fault
