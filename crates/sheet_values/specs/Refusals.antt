-- Why a statement of a line is not taken: the fault quotes what gives no value, or names the earlier line.
use Rattle.std.specs.Prelude.{◌≡◌, ◌≢◌, ℕ, ◌≤◌, ◌⊎◌, Bool, List, [], ◌∷◌, ◌++◌, codes, Some, Option}
use Rattle.std.specs.Option.{option_map}
use Rattle.calendar.specs.Months.{month_of}
use Rattle.calendar.specs.Texts.{date_text, month_text, time_text}
use Rattle.decimals.specs.declared.kinds.Places.TheVariants.{Zero, Two, Three}
use Rattle.programme.specs.Programmes.{letter_of}
use Rattle.programme.specs.declared.codes.Code.{Code}
use Rattle.sheet_words.specs.Faults.{Blames, IsNoNumber}
use Rattle.sheet_words.specs.declared.faults.Complaint.TheVariants.{UnknownProgramme, NoMonth, NoDate, OutsideMonth, NoTime, NoNotice}
use Rattle.sheet_words.specs.declared.faults.LineFault.{LineFault}
use Rattle.sheet_words.specs.declared.faults.LineFault.TheVariants.{Twice}
use Rattle.sheet_words.specs.declared.keys.Word.{Word}
use Rattle.sheet_words.specs.declared.keys.Word.TheVariants.{Programme, Account, Month, Capacity, Reduction, Hours, Event}
use Rattle.sheet_values.specs.Events.{notice_text}
use Rattle.sheet_values.specs.declared.headers.Header.{Header}
use Rattle.sheet_values.specs.declared.noted.Draft.{Draft}
use Rattle.sheet_values.specs.declared.noted.Noted.{Noted}

-- The text gives no value of the word, and the fault quotes it: no letter of a programme, no whole number, no month.
abbrev pub GivesNone : Word → List ℕ → LineFault → Type 0
GivesNone Programme text fault = ((code : Code) → text ≢ letter_of code ∷ []) × Blames text UnknownProgramme fault
GivesNone Account text fault = IsNoNumber Zero text fault
GivesNone Month text fault = ((month : ℕ) → month ≤ 359 → text ≢ month_text month) × Blames text NoMonth fault
GivesNone Capacity text fault = IsNoNumber Zero text fault
GivesNone Reduction text fault = IsNoNumber Zero text fault
GivesNone Hours text fault = IsNoNumber Zero text fault
GivesNone Event text fault = ⊥

-- A value was noted on this line.
abbrev pub NotedOn : {T : Type 0} → Option (Noted T) → ℕ → Type 0
NotedOn slot line = option_map (λ noted. noted.line) slot ≡ Some line

-- The word was noted on this line.
abbrev pub WordOn : Draft → Word → ℕ → Type 0
WordOn d Programme line = NotedOn d.code line
WordOn d Account line = NotedOn d.account line
WordOn d Month line = NotedOn d.month line
WordOn d Capacity line = NotedOn d.capacity line
WordOn d Reduction line = NotedOn d.reduction line
WordOn d Hours line = NotedOn d.hours line
WordOn d Event line = ⊥

-- A statement of the header is refused for its text, or for an earlier line that gave its word.
abbrev pub Refuses : Word → List ℕ → Draft → LineFault → Type 0
Refuses word text d fault = GivesNone word text fault ⊎ ((line : ℕ) × WordOn d word line × (fault ≡ Twice word line))

-- The text is no figure: before the suffix of a demand stands no number with up to three decimals; or there is no suffix, and the text is no whole number.
abbrev pub NoFigure : List ℕ → LineFault → Type 0
NoFigure text fault =
    ((kilowatts : List ℕ) × (text ≡ kilowatts ++ codes "kW") × IsNoNumber Three kilowatts fault)
    ⊎ (((kilowatts : List ℕ) → text ≢ kilowatts ++ codes "kW") × IsNoNumber Zero text fault)

-- Six words are no event of a sheet: the date is none, or none of the sheet's month; or the start, the notice, the price or a figure is none.
abbrev pub NoEvent : Header → List ℕ → List ℕ → List ℕ → List ℕ → List ℕ → List ℕ → LineFault → Type 0
NoEvent h date start notice price baseline load fault =
    (((day : ℕ) → day ≤ 10957 → date ≢ date_text day) × Blames date NoDate fault)
    ⊎ (((day : ℕ) × (day ≤ 10957) × (date ≡ date_text day) × (month_of day ≢ h.month.number)) × Blames date OutsideMonth fault)
    ⊎ (((quarter : ℕ) → quarter ≤ 95 → start ≢ time_text quarter) × Blames start NoTime fault)
    ⊎ (((late : Bool) → notice ≢ notice_text late) × Blames notice NoNotice fault)
    ⊎ IsNoNumber Two price fault
    ⊎ NoFigure baseline fault
    ⊎ NoFigure load fault
