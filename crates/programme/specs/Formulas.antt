-- The amounts of an event and of a month: economic and joint bidding, and reliable bidding. Amounts are whole dollars.
use Rattle.std.specs.Prelude.{ℕ, ◌+◌, ◌-◌, ◌*◌, ◌/◌, ◌<◌, ◌≤◌, Bool, cond, ◌==◌, nat_le, nat_lt}
use Rattle.programme.specs.declared.terms.Terms.{Terms}
use Rattle.programme.specs.Bounds.{quarters}

-- a / b rounded to the nearest whole number, a half upward.
abbrev pub rounded : ℕ → ℕ → ℕ
rounded a b = (2 * a + b) / (2 * b)

-- What that means: a / b lies from half below the result to less than half above it.
abbrev pub Nearest : ℕ → ℕ → ℕ → Type 0
Nearest a b r = (2 * (b * r) ≤ 2 * a + b) × (2 * a + b < 2 * (b * r) + 2 * b)

-- D, what was saved: the baseline of five days less five times the event load, or 0 if that is negative.
abbrev pub saving : ℕ → ℕ → ℕ
saving baseline load = baseline - 5 * load

-- The rate of an early notice in per cent, by the saving's share of the agreed reduction over n quarters.
-- One per cent of the reduction C over five days is u = 50 × n × C: below 60 per cent nothing is paid, then 100, from 80 to 120 per cent 110, above that 100.
abbrev pub early_rate : ℕ → ℕ → ℕ
early_rate u d = cond (nat_lt d (60 * u)) 0 (cond (nat_lt d (80 * u)) 100 (cond (nat_le d (120 * u)) 110 100))

-- A late notice always has the rate 120.
abbrev pub rate : Bool → ℕ → ℕ → ℕ
rate late u d = cond late 120 (early_rate u d)

-- The saving of an event of n quarters is on average below the programme's lowest reduction.
abbrev pub below_lowest : ℕ → ℕ → ℕ → Bool
below_lowest lowest n d = nat_lt d (5000 * n * lowest)

-- Economic bidding's credit, p in hundredths of a dollar per kWh: 0 if the mean saving is below the lowest reduction, else D × p × rate / 200,000,000, rounded.
abbrev pub economic_credit : ℕ → ℕ → ℕ → ℕ → Bool → ℕ → ℕ
economic_credit lowest n reduction p late d =
    cond (below_lowest lowest n d) 0 (rounded (d * p * rate late (50 * n * reduction) d) 200000000)

-- Economic bidding knows no surcharge and no missed event.
abbrev pub economic_event : ℕ → Terms → ℕ → Bool → ℕ → ℕ → ℕ × ℕ × ℕ
economic_event lowest t p late baseline load =
    (economic_credit lowest (quarters t) t.reduction_kw p late (saving baseline load), 0, 0)

-- Economic bidding knows no basic credit.
abbrev pub economic_basic : Terms → ℕ → ℕ → ℕ
economic_basic t events missed = 0

-- Reliable bidding's credit: 0 if the saving is below 50 kW a day, else D × hours × p / 500,000, rounded; the hours are n / 4.
abbrev pub reliable_credit : ℕ → ℕ → ℕ → ℕ
reliable_credit n p d = cond (nat_lt d 250000) 0 (rounded (d * n * p) 2000000)

-- An event is missed exactly when the saving is below the agreed reduction.
abbrev pub missed : ℕ → ℕ → Bool
missed reduction d = nat_lt d (5000 * reduction)

-- A missed event's surcharge is half the price for what is lacking: (5,000 × C − D) × hours × p / 1,000,000, rounded; the hours are n / 4.
abbrev pub reliable_surcharge : ℕ → ℕ → ℕ → ℕ → ℕ
reliable_surcharge n reduction p d = cond (missed reduction d) (rounded ((5000 * reduction - d) * n * p) 4000000) 0

-- Credit, surcharge, and 1 for a missed event, else 0; the notice's lateness does not matter.
abbrev pub reliable_event : Terms → ℕ → Bool → ℕ → ℕ → ℕ × ℕ × ℕ
reliable_event t p late baseline load = (
  reliable_credit (quarters t) p (saving baseline load),
  reliable_surcharge (quarters t) t.reduction_kw p (saving baseline load),
  cond (missed t.reduction_kw (saving baseline load)) 1 0,
)

-- Reliable bidding's basic credit for N events of which m were missed: nothing for no event, 72 × C if none was missed, else 60 × C × (N − m) / N, rounded.
abbrev pub reliable_basic : Terms → ℕ → ℕ → ℕ
reliable_basic t events misses =
    cond (events == 0) 0 (cond (misses == 0) (72 * t.reduction_kw) (rounded (60 * t.reduction_kw * (events - misses)) events))
