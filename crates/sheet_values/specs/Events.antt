-- What the words of an event's line mean.
use Rattle.std.specs.Prelude.{◌≡◌, ℕ, min, Bool, true, false, List, codes}
use Rattle.calendar.specs.Months.{month_of}
use Rattle.calendar.specs.Texts.{date_text, time_text}
use Rattle.programme.specs.Bounds.{quarters}
use Rattle.programme.specs.Programmes.{meaning_of}
use Rattle.decimals.specs.Numerals.{Spells}
use Rattle.settlement.specs.declared.events.Event.{Event}
use Rattle.sheet_values.specs.declared.headers.Header.{Header}
use Rattle.sheet_values.specs.declared.measured.Figure.{Figure}
use Rattle.sheet_values.specs.Figures.{baseline_of, load_of, FigureText}

-- A notice is late or early.
abbrev pub notice_text : Bool → List ℕ
notice_text true = codes "late"
notice_text false = codes "early"

-- An event reads as six words: a date of the sheet's month, a start, the notice, the price in dollars, and the two figures,
-- which are those of the programme's baseline days and of the event's window. A price that 16 bits do not hold is as high as they can hold.
pub record EventText (h : Header) (date start notice price baseline load : List ℕ) (e : Event) : Type 0 where
  pub on_date : date ≡ date_text e.day.number
  pub in_month : month_of e.day.number ≡ h.month.number
  pub starts : start ≡ time_text e.start.number
  pub notified : notice ≡ notice_text e.dispatch.late
  pub priced : (n : ℕ) × Spells 2 price n × (e.dispatch.price ≡ min n 65535)
  pub based : (f : Figure) × FigureText baseline f
      × (e.dispatch.baseline ≡ baseline_of (meaning_of h.agreement.code).figures.baseline_days (meaning_of h.agreement.code).figures.fold (quarters h.agreement.terms) f)
  pub loaded : (f : Figure) × FigureText load f
      × (e.dispatch.event_load ≡ load_of (meaning_of h.agreement.code).figures.fold (quarters h.agreement.terms) f)
