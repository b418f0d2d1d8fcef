-- What a line of a sheet says.
use Rattle.std.specs.Prelude.{◌≡◌, ◌≢◌, ℕ, ◌<◌, ◌⊎◌, List, [], ◌∷◌, ◌++◌, length, map, codes, string_bytes, ◌==◌, Ok, Err, Result}
use Rattle.std.specs.Borrow.{Bor}
use Rattle.std.specs.List.{before_first}
use Rattle.std.specs.Str.{NoCharPasses, EmptyOrStartsWithPassing}
use Rattle.std.specs.Char.{is_whitespace, is_not_whitespace}
use Rattle.sheet_words.specs.declared.faults.LineFault.{LineFault}
use Rattle.sheet_words.specs.declared.faults.LineFault.TheVariants.{Wrong, WordCount, Twice, TooSoon, TooLate, Refused as Refusing, Memory}
use Rattle.sheet_words.specs.declared.faults.Complaint.TheVariants.{UnknownWord}
use Rattle.sheet_words.specs.declared.keys.Word.{Word}
use Rattle.sheet_words.specs.declared.keys.Word.TheVariants.{Programme, Account, Month, Capacity, Reduction, Hours, Event as CallOf}
use Rattle.sheet_words.specs.declared.statements.Statement.{Statement}
use Rattle.sheet_words.specs.declared.statements.Statement.TheVariants.{Blank, Header, Event}
use Rattle.sheet_words.specs.Words.{spelling}

-- A comment begins with the first '#' of its line, and is none of its words.
abbrev pub bare : List ℕ → List ℕ
bare line = before_first (λ byte. byte == 35) line

-- A text is white space, a word, and what follows, which is empty or begins with white space.
pub record BeginsWith (text word rest : List ℕ) : Type 0 where
  pub gap : List ℕ
  pub split : text ≡ gap ++ (word ++ rest)
  pub nonempty : 0 < length word
  pub gap_is_blank : NoCharPasses is_not_whitespace gap
  pub word_has_no_space : NoCharPasses is_whitespace word
  pub rest_begins_blank : (more : List ℕ) × EmptyOrStartsWithPassing is_whitespace rest more

-- The words of a text, in their order: white space parts them.
abbrev pub SplitsInto : List ℕ → List (List ℕ) → Type 0
SplitsInto text [] = NoCharPasses is_not_whitespace text
SplitsInto text (word ∷ words) = (rest : List ℕ) × BeginsWith text word rest × SplitsInto rest words

-- How many words follow the first.
abbrev pub arity : Word → ℕ
arity Programme = 1
arity Account = 1
arity Month = 1
arity Capacity = 1
arity Reduction = 1
arity Hours = 1
arity CallOf = 6

-- No words say nothing; a word of the header is followed by one that gives its value; an event's by the six that describe it.
abbrev pub Says : List (List ℕ) → Statement → Type 0
Says words Blank = words ≡ []
Says words (Header word text) = (word ≢ CallOf) × (words ≡ spelling word ∷ text.now ∷ [])
Says words (Event e) = words ≡ codes "event" ∷ e.date.now ∷ e.start.now ∷ e.notice.now ∷ e.price.now ∷ e.baseline.now ∷ e.load.now ∷ []

-- Words that are no statement: the first is none of those that begin one, or another number of words follows it. Or there was no memory.
abbrev pub SaysNothing : List (List ℕ) → LineFault → Type 0
SaysNothing words (Wrong text complaint) =
    (rest : List (List ℕ)) × (words ≡ string_bytes text ∷ rest) × (complaint ≡ UnknownWord) × ((word : Word) → string_bytes text ≢ spelling word)
SaysNothing words (WordCount word given) =
    (rest : List (List ℕ)) × (words ≡ spelling word ∷ rest) × (given ≡ length rest) × (given ≢ arity word)
SaysNothing words (Twice word line) = ⊥
SaysNothing words (TooSoon word) = ⊥
SaysNothing words (TooLate word) = ⊥
SaysNothing words (Refusing refusal) = ⊥
SaysNothing words Memory = Unit {0}

-- The statement of a line, or why it has none.
abbrev pub ReadsLine : List ℕ → Result Statement LineFault → Type 0
ReadsLine line (Ok statement) = (words : List (List ℕ)) × SplitsInto (bare line) words × Says words statement
ReadsLine line (Err fault) = (fault ≡ Memory) ⊎ ((words : List (List ℕ)) × SplitsInto (bare line) words × SaysNothing words fault)

-- The texts of a list of words.
abbrev pub texts : List (Bor (List ℕ)) → List (List ℕ)
texts words = map (λ word. word.now) words
