-- What settling a sheet answers.
use Rattle.std.specs.Prelude.{◌≡◌, ℕ, Some, None, Ok, Err, List, map, vec_items, Option, option_map, Result, slice_get}
use Rattle.std.specs.Option.{unwrap_or}
use Rattle.settlement.specs.Month.{Settles}
use Rattle.settlement.specs.declared.events.Event.{Event}
use Rattle.settlement.specs.declared.events.Refused.{Refused}
use Rattle.settlement.specs.declared.events.Totals.{Totals}
use Rattle.sheet_words.specs.declared.faults.LineFault.TheVariants.{Refused as Refusing}
use Rattle.sheet_words.specs.declared.faults.SheetFault.{SheetFault}
use Rattle.sheet_words.specs.declared.faults.SheetFault.TheVariants.{Line}
use Rattle.sheet_values.specs.Headers.{refused_line}
use Rattle.sheet.specs.declared.sheets.Sheet.{Sheet}

-- Where a refusal is at fault: at the line of the event that it names, if there is such an event, or at the header.
abbrev pub noted_line : Sheet → Option ℕ → Option ℕ
noted_line s None = Some (refused_line s.header)
noted_line s (Some i) = option_map (λ noted. noted.line) (slice_get (vec_items s.events) i)

-- The same as a number: 0, which is no line, where there is no such event.
abbrev pub line_at : Sheet → Option ℕ → ℕ
line_at s event = unwrap_or (noted_line s event) 0

-- The events of the month, in the order of their lines.
abbrev pub events_of : Sheet → List Event
events_of s = map (λ noted. noted.value) (vec_items s.events)

-- The totals of the month; or the refusal of the month, at its line, which there is.
abbrev pub Settled : Sheet → Result Totals SheetFault → Type 0
Settled s (Ok totals) = Settles s.header.agreement (events_of s) (Ok totals)
Settled s (Err fault) =
    (refused : Refused) × (line : ℕ) × Settles s.header.agreement (events_of s) (Err refused)
    × (noted_line s refused.event ≡ Some line)
    × (fault ≡ Line line (Refusing refused.refusal))
