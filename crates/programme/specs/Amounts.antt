-- No amount passes 10^12.
use Rattle.std.specs.Prelude.{◌≡◌, ℕ, ◌+◌, ◌-◌, ◌*◌, ◌≤◌, Bool, true, false, cond, ◌==◌, nat_le, nat_lt, refl}
use Rattle.std.proofs.Common.{mul-le-mul, mul-le-mul_left, mul-add, mul_assoc, mul_comm, le_trans, arith, lit≤, lit<}
use Rattle.std.proofs.Math.Nat.{div-le_of_le-mul}
use Rattle.programme.specs.declared.terms.Terms.{Terms}
use Rattle.programme.specs.Bounds.{lawful_terms, quarters}
use Rattle.programme.specs.Formulas.{rounded, saving, rate, economic_event, missed, reliable_event, reliable_basic}
use Rattle.programme.specs.Meaning.{Amounts, Lawful}
use Rattle.programme.specs.Programmes.{bidding, economic, joint_bidding, reliable}
use Rattle.programme.specs.Orders.{InRanges, in_ranges, settled}
use Rattle.programme.specs.Rounding.{rounded_mono}

either_le : (b : Bool) {x y m : ℕ} → x ≤ m → y ≤ m → cond b x y ≤ m
either_le true hx hy = hx
either_le false hx hy = hy

pub rate_most : (late : Bool) (u d : ℕ) → rate late u d ≤ 120
rate_most late u d =
    either_le late (omega arith) (either_le (nat_lt d (60 * u)) (omega arith) (either_le (nat_lt d (80 * u)) (omega arith) (either_le (nat_le d (120 * u)) (omega arith) (omega arith))))

-- a product of three numbers, each with its bound
pub thrice : {a b c x y z : ℕ} → a ≤ x → b ≤ y → c ≤ z → a * b * c ≤ x * y * z
thrice p q r = mul-le-mul (mul-le-mul p q) r

pub economic_amounts : (lowest : ℕ) (t : Terms) (price : ℕ) (late : Bool) (baseline load : ℕ) → price ≤ 1000 → baseline ≤ 100000000000 → Amounts (economic_event lowest t price late baseline load)
economic_amounts lowest t price late baseline load p b =
    let d : saving baseline load ≤ 100000000000 = omega arith in
    let u : ℕ = 50 * quarters t * t.reduction_kw in
    record {
      credit_most =
          either_le (nat_lt (saving baseline load) (5000 * quarters t * lowest)) (omega arith)
          (le_trans (rounded_mono _ 12000000000000000 200000000 (lit< tt) (thrice d p (rate_most late u (saving baseline load)))) (lit≤ tt));
      surcharge_most = omega arith;
      missed_most = omega arith;
    }

pub reliable_amounts : (t : Terms) (price : ℕ) (late : Bool) (baseline load : ℕ) → InRanges t → price ≤ 1000 → baseline ≤ 1000000000 → Amounts (reliable_event t price late baseline load)
reliable_amounts t price late baseline load h p b =
    let d : saving baseline load ≤ 1000000000 = omega arith in
    let n : quarters t ≤ 24 = omega arith in
    let lacking : 5000 * t.reduction_kw - saving baseline load ≤ 1000000000 = omega arith in
    record {
      credit_most =
          either_le (nat_lt (saving baseline load) 250000) (omega arith)
          (le_trans (rounded_mono _ 24000000000000 2000000 (lit< tt) (thrice d n p)) (lit≤ tt));
      surcharge_most =
          either_le (missed t.reduction_kw (saving baseline load))
          (le_trans (rounded_mono _ 24000000000000 4000000 (lit< tt) (thrice lacking n p)) (lit≤ tt)) (omega arith);
      missed_most = either_le (missed t.reduction_kw (saving baseline load)) (omega arith) (omega arith);
    }

-- a share (n - m) / n of x, rounded, passes x by less than one
share_most : (x n m : ℕ) → rounded (x * (n - m)) n ≤ x + 1
share_most x n m =
    let part : x * (n - m) ≤ x * n = mul-le-mul_left x (omega arith) in
    div-le_of_le-mul (2 * n) (omega (arith, part, mul-add (2 * n) x 1, mul_assoc 2 n x, mul_comm n x))

pub reliable_basic_most : (t : Terms) (events misses : ℕ) → lawful_terms t ≡ true → reliable_basic t events misses ≤ 1000000000000
reliable_basic_most t events misses h =
    let ranges = in_ranges t h in
    let share = share_most (60 * t.reduction_kw) events misses in
    either_le (events == 0) (omega arith) (either_le (misses == 0) (omega arith) (omega arith))

pub lawful_bidding : (letter lowest : ℕ) → 1 ≤ lowest → Lawful (bidding letter lowest)
lawful_bidding letter lowest low =
    record {
      figures = record { days_low = lit≤ tt; days_high = lit≤ tt; lowest_low = low; hours_long = lit≤ tt; hours_zero = refl; hours_one = refl; first_month_low = lit≤ tt; first_month_high = lit≤ tt; last_month_low = lit≤ tt; last_month_high = lit≤ tt; cap_low = lit≤ tt; cap_high = lit≤ tt; deadline_high = lit< tt };
      event = λ t price late baseline load h. let s = settled (bidding letter lowest).figures t price baseline load h in economic_amounts lowest t price late baseline load (omega arith) (omega arith);
      basic = λ t events misses h. omega arith;
    }

pub lawful_economic : Lawful economic
lawful_economic = lawful_bidding 69 20 (lit≤ tt)

pub lawful_joint_bidding : Lawful joint_bidding
lawful_joint_bidding = lawful_bidding 74 100 (lit≤ tt)

pub lawful_reliable : Lawful reliable
lawful_reliable =
    record {
      figures = record { days_low = lit≤ tt; days_high = lit≤ tt; lowest_low = lit≤ tt; hours_long = lit≤ tt; hours_zero = refl; hours_one = refl; first_month_low = lit≤ tt; first_month_high = lit≤ tt; last_month_low = lit≤ tt; last_month_high = lit≤ tt; cap_low = lit≤ tt; cap_high = lit≤ tt; deadline_high = lit< tt };
      event = λ t price late baseline load h. let s = settled reliable.figures t price baseline load h in reliable_amounts t price late baseline load s.terms (omega arith) (omega arith);
      basic = reliable_basic_most;
    }
