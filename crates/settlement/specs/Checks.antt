-- The checks of an agreement and of an event: each has a number, they are made in rising order, and the first that is met refuses.
use Rattle.std.specs.Prelude.{ℕ, ◌+◌, ◌*◌, Bool, cond, not, ◌&&◌, List, [], ◌∷◌, length, ◌==◌, nat_lt}
use Rattle.std.specs.List.{list_any}
use Rattle.calendar.specs.Months.{calendar_month, month_of}
use Rattle.calendar.specs.Weekdays.{monday_to_friday, weekday_of}
use Rattle.programme.specs.Bounds.{allowed_terms, ends_by_midnight, from_readings, in_season, lawful_price, quarters}
use Rattle.programme.specs.Programmes.{meaning_of}
use Rattle.programme.specs.declared.figures.Figures.{Figures}
use Rattle.programme.specs.declared.terms.Terms.{Terms}
use Rattle.settlement.specs.declared.events.Agreement.{Agreement}
use Rattle.settlement.specs.declared.events.Event.{Event}

-- The number of the first test that is met, 0 for none.
abbrev pub first_met : List (Bool × ℕ) → ℕ
first_met [] = 0
first_met (test ∷ tests) = cond test.0 test.1 (first_met tests)

-- There are the accounts 0 to 7 (2), and the terms are those that the programme allows (6).
abbrev pub agreement_tests : Agreement → List (Bool × ℕ)
agreement_tests a = (nat_lt 7 a.account, 2) ∷ (not (allowed_terms (meaning_of a.code).figures a.terms), 6) ∷ []

-- The number by which an agreement is refused, 0 if it is not.
abbrev pub agreement_test : Agreement → ℕ
agreement_test a = first_met (agreement_tests a)

-- One of the events is on that day.
abbrev pub called_on : List Event → ℕ → Bool
called_on es day = list_any (λ e. e.day.number == day) es

-- What an event meets, after the earlier events of its month: figures that no lawful readings give (6), a price above 1,000 (10),
-- another event that day (13), a Saturday or Sunday (15), a month of the year that is none of the programme's (16),
-- a window past midnight (17), a late notice where none is taken (18), hours of the month above the cap (19).
abbrev pub event_tests : Figures → Terms → List Event → Event → List (Bool × ℕ)
event_tests f t earlier e =
    (not (from_readings f (quarters t) e.dispatch.baseline e.dispatch.event_load), 6)
    ∷ (not (lawful_price e.dispatch.price), 10)
    ∷ (called_on earlier e.day.number, 13)
    ∷ (not (monday_to_friday (weekday_of e.day.number)), 15)
    ∷ (not (in_season f (calendar_month (month_of e.day.number))), 16)
    ∷ (not (ends_by_midnight t e.start.number), 17)
    ∷ (e.dispatch.late && not f.late_notices, 18)
    ∷ (nat_lt f.cap_hours (t.hours * (length earlier + 1)), 19)
    ∷ []

-- The number by which an event is refused, 0 if it is not.
abbrev pub event_test : Figures → Terms → List Event → Event → ℕ
event_test f t earlier e = first_met (event_tests f t earlier e)
