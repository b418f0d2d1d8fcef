-- What follows from the rules of the months: they are 28 to 31 days long, begin one after another, and each day is in exactly one.
use Rattle.std.proofs.Common.{◌≡◌, ℕ, zero, suc, ◌+◌, ◌<◌, ◌≤◌, Bool, true, false, cond, eqb, refl, ap, inl, inr, add-one, arith}
use Rattle.std.proofs.lemmas.Bool.Decides.{leb_tells, eqb_tells}
use Rattle.calendar.specs.Months.{leap, has_thirty, year_of, calendar_month, month_length, first_day, month_of, day_of_month}

between : (b : Bool) (x y : ℕ) → (28 ≤ x) × (x ≤ 31) → (28 ≤ y) × (y ≤ 31) → (28 ≤ cond b x y) × (cond b x y ≤ 31)
between true x y p q = p
between false x y p q = q

pub month_length_range : (m : ℕ) → (28 ≤ month_length m) × (month_length m ≤ 31)
month_length_range m =
    between (eqb (calendar_month m) 2) _ _
    (between (leap (year_of m)) 29 28 (omega arith, omega arith) (omega arith, omega arith))
    (between (has_thirty (calendar_month m)) 30 31 (omega arith, omega arith) (omega arith, omega arith))

pub first_day_0 : first_day 0 ≡ 0
unfolding first_day
first_day_0 = refl

-- the rule of `first_day` at m + 1, as clauses have it
pub first_day_step : (m : ℕ) → first_day (m + 1) ≡ first_day m + month_length m
unfolding first_day
first_day_step m = ap first_day (add-one m)

pub first_day_rises : (m n : ℕ) → m ≤ n → first_day m ≤ first_day n
unfolding first_day
first_day_rises m zero h = let e : m ≡ 0 = omega arith in omega (arith, ap first_day e)
first_day_rises m (suc n) h =
    let rises : m ≤ n → first_day m ≤ first_day n = first_day_rises m n in
    elim (leb_tells m n) [
      | inl t ↦ omega (arith, rises t.1)
      | inr f ↦ let e : m ≡ suc n = omega (arith, f.1) in omega (arith, ap first_day e)
    ]

-- a day that is not before month m and is before the end of month n shows that m is not after n
pub not_after : (m n d : ℕ) → first_day m ≤ d → d < first_day (n + 1) → m ≤ n
not_after m n d begun ahead =
    elim (leb_tells m n) [
      | inl t ↦ t.1
      | inr f ↦ absurd (omega (arith, first_day_rises (n + 1) m (omega (arith, f.1))))
    ]

pub in_month : (d : ℕ) → (first_day (month_of d) ≤ d) × (d < first_day (month_of d + 1))
unfolding first_day month_of
in_month zero = (omega arith, omega (arith, month_length_range 0))
in_month (suc d) =
    let m = month_of d in
    let day = in_month d in
    let step : first_day (m + 1) ≡ first_day (suc m) = ap first_day (add-one m) in
    elim (eqb_tells (suc d) (first_day (suc m))) [
      | inl t ↦ rw t.0 (omega (arith, t.1), omega (arith, t.1, first_day_step (suc m), month_length_range (suc m)))
      | inr f ↦ rw f.0 (omega (arith, day.0), omega (arith, day.1, step, f.1))
    ]

pub only_month : (m d : ℕ) → first_day m ≤ d → d < first_day (m + 1) → m ≡ month_of d
only_month m d begun ahead =
    let day = in_month d in
    omega (arith, not_after m (month_of d) d begun day.1, not_after (month_of d) m d day.0 ahead)

-- month 359 is the last, and day 10957 its last day
pub first_day_360 : first_day 360 ≡ 10958
unfolding first_day
first_day_360 = refl

pub month_inside : (m : ℕ) → m ≤ 359 → first_day m + month_length m ≤ 10958
month_inside m h = omega (arith, first_day_step m, first_day_rises (m + 1) 360 (omega arith), first_day_360)

pub month_of_most : (d : ℕ) → d ≤ 10957 → month_of d ≤ 359
month_of_most d h = not_after (month_of d) 359 d (in_month d).0 (omega (arith, first_day_360))

-- the day's place in its month
pub day_of_month_range : (d : ℕ) → (1 ≤ day_of_month d) × (day_of_month d ≤ month_length (month_of d))
day_of_month_range d = (omega arith, omega (arith, (in_month d).0, (in_month d).1, first_day_step (month_of d)))
