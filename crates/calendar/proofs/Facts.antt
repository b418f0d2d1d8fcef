-- The worked figures: each is computed, the month of a day from the month's first day and the next one's.
use Rattle.std.proofs.Common.{◌≡◌, ℕ, ◌+◌, ◌-◌, ◌∷◌, ◌++◌, sym, refl, ap, arith}
use Rattle.calendar.specs.Months.{first_day, month_of}
use Rattle.calendar.specs.Texts.{month_text, two_digits}
use Rattle.calendar.specs.Worked.{CalendarFacts}
use Rattle.calendar.proofs.Laws.{only_month}

last : month_of 10957 ≡ 359
unfolding first_day
last = sym (only_month 359 10957 (omega arith) (omega arith))

february : month_of 4053 ≡ 133
unfolding first_day
february = sym (only_month 133 4053 (omega arith) (omega arith))

pub calendar_facts : CalendarFacts
unfolding first_day
calendar_facts =
    record {
      march_2016 = refl;
      leap_2016 = refl;
      february_2016 = refl;
      last_month = last;
      last_place = ap (λ (m : ℕ). 10957 - first_day m + 1) last;
      day_1000 = refl;
      month_133 = refl;
      day_4053 = ap (λ (m : ℕ). month_text m ++ 45 ∷ two_digits (4053 - first_day m + 1)) february;
      quarter_64 = refl;
    }
