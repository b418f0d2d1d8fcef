-- What the lines of a text say together.
use Rattle.std.specs.Prelude.{◌≡◌, ℕ, ◌+◌, ◌⊎◌, true, false, List, [], ◌∷◌, ◌++◌, length, None, Some, Option, vec_items}
use Rattle.std.specs.Str.{IsUtf8, IsValidUpTo}
use Rattle.std.specs.Str.Lines.{lines}
use Rattle.settlement.specs.declared.events.Event.{Event}
use Rattle.sheet_words.specs.declared.statements.Statement.{Statement}
use Rattle.sheet_words.specs.declared.statements.Statement.TheVariants.{Blank, Header as HeaderLine, Event as EventLine}
use Rattle.sheet_words.specs.declared.faults.LineFault.{LineFault}
use Rattle.sheet_words.specs.declared.faults.LineFault.TheVariants.{Wrong, WordCount, Twice, TooSoon, TooLate, Refused as Refusing, Memory as NoMemory}
use Rattle.sheet_words.specs.declared.faults.SheetFault.{SheetFault}
use Rattle.sheet_words.specs.declared.faults.SheetFault.TheVariants.{NotText, Empty, Lacking, Line, Memory}
use Rattle.sheet_words.specs.declared.keys.Word.{Word}
use Rattle.sheet_words.specs.Lines.{bare, Says, SaysNothing, SplitsInto}
use Rattle.sheet_values.specs.Drafts.{Completes, is_blank, Lacks, Takes}
use Rattle.sheet_values.specs.Events.{EventText}
use Rattle.sheet_values.specs.Refusals.{NoEvent, Refuses}
use Rattle.sheet_values.specs.declared.headers.Header.{Header}
use Rattle.sheet_values.specs.declared.noted.Draft.{Draft}
use Rattle.sheet_values.specs.declared.noted.Noted.{Noted}
use Rattle.sheet.specs.declared.sheets.Sheet.{Sheet}

-- What a statement on line n adds to the header, after the events of the lines before it: nothing if it is blank;
-- its word, if there is no event yet; or nothing, and then it is an event, for which the header is complete.
abbrev pub Adds : ℕ → Statement → List (Noted Event) → Draft → Draft → Option Event → Type 0
Adds n Blank events d e None = e ≡ d
Adds n Blank events d e (Some event) = ⊥
Adds n (HeaderLine word text) events d e None = (events ≡ []) × Takes word text.now n d e
Adds n (HeaderLine word text) events d e (Some event) = ⊥
Adds n (EventLine w) events d e None = ⊥
Adds n (EventLine w) events d e (Some event) =
    (e ≡ d) × ((h : Header) × Completes d h × EventText h w.date.now w.start.now w.notice.now w.price.now w.baseline.now w.load.now event)

-- The same of a line by its text.
abbrev pub LineAdds : ℕ → List ℕ → List (Noted Event) → Draft → Draft → Option Event → Type 0
LineAdds n line events d e event =
    (words : List (List ℕ)) × (s : Statement) × SplitsInto (bare line) words × Says words s × Adds n s events d e event

-- The events with one more, if a line has one.
abbrev pub noted_on : ℕ → Option Event → List (Noted Event) → List (Noted Event)
noted_on n None events = events
noted_on n (Some event) events = events ++ (record { value = event; line = n } ∷ [])

-- The lines from line n on, each in its turn, lead from what was read before them to what is read with them.
abbrev pub Reads : ℕ → List (List ℕ) → Draft → List (Noted Event) → Draft → List (Noted Event) → Type 0
Reads n [] d events e all = (e ≡ d) × (all ≡ events)
Reads n (line ∷ rest) d events e all =
    (next : Draft) × (event : Option Event) × LineAdds n line events d next event × Reads (n + 1) rest next (noted_on n event events) e all

-- Before the first line nothing is noted of the header.
abbrev pub blank : Draft
blank = record { code = None; account = None; month = None; capacity = None; reduction = None; hours = None }

-- A text writes a sheet: it is UTF-8, and its lines say the header's words and the events, each with its line.
abbrev pub Writes : List ℕ → Sheet → Type 0
Writes text sheet = IsUtf8 text × (d : Draft) × Reads 1 (lines text) blank [] d (vec_items sheet.events) × Completes d sheet.header

-- Why a statement adds nothing, after the events of the lines before it: a word of the header is refused, or comes after an event;
-- an event comes before a word that the header still lacks, or its words describe none.
abbrev pub Fails : Statement → List (Noted Event) → Draft → LineFault → Type 0
Fails Blank events d fault = ⊥
Fails (HeaderLine word text) [] d fault = Refuses word text.now d fault
Fails (HeaderLine word text) (first ∷ events) d fault = fault ≡ TooLate word
Fails (EventLine w) events d fault =
    ((word : Word) × Lacks d word × (fault ≡ TooSoon word))
    ⊎ ((h : Header) × Completes d h × NoEvent h w.date.now w.start.now w.notice.now w.price.now w.baseline.now w.load.now fault)

-- The same of a line by its text, whose words may be no statement; or there was no memory to read it.
abbrev pub LineFails : List ℕ → List (Noted Event) → Draft → LineFault → Type 0
LineFails line events d fault =
    (fault ≡ NoMemory)
    ⊎ ((words : List (List ℕ)) × SplitsInto (bare line) words × (SaysNothing words fault ⊎ ((s : Statement) × Says words s × Fails s events d fault)))

-- A fault of a line is told with the line, but for want of memory, which is none of the line's.
abbrev pub told_on : ℕ → LineFault → SheetFault
told_on n (Wrong text complaint) = Line n (Wrong text complaint)
told_on n (WordCount word given) = Line n (WordCount word given)
told_on n (Twice word line) = Line n (Twice word line)
told_on n (TooSoon word) = Line n (TooSoon word)
told_on n (TooLate word) = Line n (TooLate word)
told_on n (Refusing refusal) = Line n (Refusing refusal)
told_on n NoMemory = Memory

-- Lines give no header: none of its words, or not all of them.
abbrev pub LacksHeader : Draft → SheetFault → Type 0
LacksHeader d Empty = is_blank d ≡ true
LacksHeader d (Lacking word) = (is_blank d ≡ false) × Lacks d word
LacksHeader d (NotText byte) = ⊥
LacksHeader d (Line n fault) = ⊥
LacksHeader d Memory = ⊥

-- A line of the text fails, after the header and the events that the lines before it add up to.
pub record FailsAfter (text : List ℕ) (before : List (List ℕ)) (line : List ℕ) (why : LineFault) : Type 0 where
  pub after : List (List ℕ)
  pub is : lines text ≡ before ++ (line ∷ after)
  pub draft : Draft
  pub events : List (Noted Event)
  pub reads : Reads 1 before blank [] draft events
  pub fails : LineFails line events draft why

-- Why a text writes no sheet: from some byte on it is no UTF-8; or it is, and its lines give no header, or not the whole of it,
-- or a line fails, after lines that do not; or there was no memory.
abbrev pub WritesNone : List ℕ → SheetFault → Type 0
WritesNone text fault =
    ((byte : ℕ) × ¬ (IsUtf8 text) × IsValidUpTo text byte × (fault ≡ NotText byte))
    ⊎ (IsUtf8 text × (d : Draft) × (events : List (Noted Event)) × Reads 1 (lines text) blank [] d events × LacksHeader d fault)
    ⊎ (IsUtf8 text × (before : List (List ℕ)) × (line : List ℕ) × (why : LineFault) × FailsAfter text before line why × (fault ≡ told_on (1 + length before) why))
    ⊎ (fault ≡ Memory)
