-- The days of the week.
use Rattle.std.specs.Prelude.{ℕ, ◌+◌, ◌%◌, Bool, ◌&&◌, nat_le}
use Rattle.calendar.specs.declared.weekdays.Weekday.{Weekday}
use Rattle.calendar.specs.declared.weekdays.Weekday.TheVariants.{Sunday, Monday, Tuesday, Wednesday, Thursday, Friday, Saturday}

-- The number of a day of the week: 0 for Sunday to 6 for Saturday.
abbrev pub weekday_number : Weekday → ℕ
weekday_number Sunday = 0
weekday_number Monday = 1
weekday_number Tuesday = 2
weekday_number Wednesday = 3
weekday_number Thursday = 4
weekday_number Friday = 5
weekday_number Saturday = 6

-- The number of the day of the week on which a day falls: day 0 is a Thursday.
abbrev pub weekday_of : ℕ → ℕ
weekday_of d = (d + 4) % 7

-- Whether the number of a day of the week is one from Monday to Friday.
abbrev pub monday_to_friday : ℕ → Bool
monday_to_friday n = nat_le 1 n && nat_le n 5
