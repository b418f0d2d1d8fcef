-- What an accepted sheet promises.
use Rattle.std.specs.Prelude.{◌≡◌, ◌<◌, List, All, AllPairs, vec_items}
use Rattle.calendar.specs.Months.{month_of}
use Rattle.settlement.specs.declared.events.Event.{Event}
use Rattle.sheet_values.specs.declared.headers.Header.{Header}
use Rattle.sheet_values.specs.declared.noted.Noted.{Noted}
use Rattle.sheet.specs.declared.sheets.Sheet.{Sheet}

-- The event's day is one of the sheet's month.
abbrev pub FallsIn : Header → Event → Type 0
FallsIn h e = month_of e.day.number ≡ h.month.number

-- Each event's line is above the lines of the events before it.
abbrev pub Rising : List (Noted Event) → Type 0
Rising events = AllPairs (λ x y. x.line < y.line) events

-- The lines of the events rise, and every event falls in the sheet's month.
pub record Sound (s : Sheet) : Type 0 where
  pub rising : Rising (vec_items s.events)
  pub in_month : All (λ noted. FallsIn s.header noted.value) (vec_items s.events)
