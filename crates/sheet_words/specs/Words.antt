-- The words that begin a statement of a sheet.
use Rattle.std.specs.Prelude.{◌≡◌, ◌≢◌, ℕ, List, codes, MatchResult, Result}
use Rattle.sheet_words.specs.declared.faults.Complaint.{Complaint}
use Rattle.sheet_words.specs.declared.faults.Complaint.TheVariants.{UnknownWord}
use Rattle.sheet_words.specs.declared.keys.Word.{Word}
use Rattle.sheet_words.specs.declared.keys.Word.TheVariants.{Programme, Account, Month, Capacity, Reduction, Hours, Event}

-- How each word is spelt.
abbrev pub spelling : Word → List ℕ
spelling Programme = codes "programme"
spelling Account = codes "account"
spelling Month = codes "month"
spelling Capacity = codes "capacity"
spelling Reduction = codes "reduction"
spelling Hours = codes "hours"
spelling Event = codes "event"

-- A text reads as the word that it spells; where it spells none, it is an unknown word.
abbrev pub ParsesWord : List ℕ → Result Word Complaint → Type 0
ParsesWord text read =
    MatchResult read (λ word. text ≡ spelling word) (λ complaint. (complaint ≡ UnknownWord) × ((word : Word) → text ≢ spelling word))
