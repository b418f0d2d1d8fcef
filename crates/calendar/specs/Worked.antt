-- Figures of the calendar that were worked by hand.
use Rattle.std.specs.Prelude.{◌≡◌, true, codes}
use Rattle.calendar.specs.Months.{leap, month_length, first_day, month_of, day_of_month}
use Rattle.calendar.specs.Texts.{month_text, date_text, time_text}
use Rattle.calendar.specs.Weekdays.{weekday_of}

-- Month 14, March 2016, begins on day 425, and month 13, February of that leap year, has 29 days.
-- Day 10957 is the last of month 359, and day 1000 a Wednesday.
-- Day 4053 is 2026-02-05, in month 133, and quarter 64 begins at 16:00.
pub record CalendarFacts : Type 0 where
  pub march_2016 : first_day 14 ≡ 425
  pub leap_2016 : leap 2016 ≡ true
  pub february_2016 : month_length 13 ≡ 29
  pub last_month : month_of 10957 ≡ 359
  pub last_place : day_of_month 10957 ≡ month_length 359
  pub day_1000 : weekday_of 1000 ≡ 3
  pub month_133 : month_text 133 ≡ codes "2026-02"
  pub day_4053 : date_text 4053 ≡ codes "2026-02-05"
  pub quarter_64 : time_text 64 ≡ codes "16:00"
