-- A table of first days: its rule is one test over the whole table, carried here to each entry.
use Rattle.std.proofs.Common.{◌≡◌, ℕ, zero, suc, ◌+◌, ◌-◌, ◌<◌, ◌≤◌, true, false, eqb, leb, List, [], ◌∷◌, length, get_or, sym, ap, ◌∙◌, inl, inr, le_of_suc-le-suc, not-suc-le-zero, add-zero, add-suc, suc-add, zero-add, arith, eqb-true, leb-true}
use Rattle.std.proofs.lemmas.List.Sorted.{IsNonDecreasingBy-from_default, IsPartitionedBy-leb}
use Rattle.std.proofs.lemmas.Bool.{and_parts, leb-false}
use Rattle.std.proofs.lemmas.Bool.Decides.{leb_tells}
use Rattle.std.specs.List.Sorted.{IsPartitionedBy, IsPartitionPoint}
use Rattle.calendar.specs.Months.{month_length, first_day, month_of, steps, ruled}
use Rattle.calendar.proofs.Laws.{first_day_0, first_day_360, first_day_step, first_day_rises, only_month}

from : (ys : List ℕ) (i x : ℕ) → x ≡ first_day i → steps i x ys ≡ true → (k : ℕ) → k < length (x ∷ ys) → get_or (x ∷ ys) k 0 ≡ first_day (i + k)
unfolding first_day
from ys i x e t zero h = e ∙ ap first_day (sym (add-zero i))
from [] i x e t (suc k) h = absurd (not-suc-le-zero (le_of_suc-le-suc h))
from (y ∷ ys) i x e t (suc k) h =
    let parts = and_parts (eqb y (x + month_length i)) (steps (suc i) y ys) t in
    from ys (suc i) y (eqb-true y (x + month_length i) parts.0 ∙ ap (λ (n : ℕ). n + month_length i) e) parts.1 k (le_of_suc-le-suc h)
    ∙ ap first_day (suc-add i k ∙ sym (add-suc i k))

pub entry : (table : List ℕ) → ruled table ≡ true → (k : ℕ) → k < length table → get_or table k 0 ≡ first_day k
unfolding first_day
entry [] t k h = absurd (not-suc-le-zero h)
entry (x ∷ later) t k h =
    let parts = and_parts (eqb x 0) (steps 0 x later) t in
    from later 0 x (eqb-true x 0 parts.0) parts.1 k h ∙ ap first_day (zero-add k)

-- the first days rise, so that a day parts the months that have begun from the others
pub parted : (table : List ℕ) → ruled table ≡ true → (day : ℕ) → IsPartitionedBy (λ y. leb y day) table
parted table t day = IsPartitionedBy-leb (λ y. y) table day (IsNonDecreasingBy-from_default (λ y. y) table 0 (λ i j h l.
    omega (arith, entry table t i (omega arith), entry table t j l, first_day_rises i j h)))

-- what is known of the month of a day, where n months have begun
pub record Begun (n day : ℕ) : Type 0 where
  pub some : 1 ≤ n
  pub value : n - 1 ≡ month_of day
  pub begun : first_day (n - 1) ≤ day
  pub ahead : day < first_day (n - 1 + 1)
  pub inside : day < first_day (n - 1) + month_length (n - 1)

pub begun : (table : List ℕ) → ruled table ≡ true → length table ≡ 360 → (day : ℕ) → day ≤ 10957 → (n : ℕ) → n ≤ length table → IsPartitionPoint (λ y. leb y day ≡ true) (λ y. leb y day ≡ false) table n → Begun n day
begun table t c day small n most point =
    let some : 1 ≤ n = elim (leb_tells 1 n) [
      | inl y ↦ y.1
      | inr f ↦ absurd (omega (arith, leb-false _ _ (point.1 0 0 (omega (arith, f.1)) (omega (arith, c))), entry table t 0 (omega (arith, c)), first_day_0))
    ] in
    let low : first_day (n - 1) ≤ day = omega (arith, leb-true _ _ (point.0 (n - 1) 0 (omega arith) (omega arith)), entry table t (n - 1) (omega arith)) in
    let same : first_day (n - 1 + 1) ≡ first_day n = ap first_day (omega arith) in
    let high : day < first_day (n - 1 + 1) = elim (leb_tells 360 n) [
      | inl y ↦ let e : n ≡ 360 = omega (arith, c, y.1) in omega (arith, same, ap first_day e, first_day_360)
      | inr f ↦ omega (arith, same, leb-false _ _ (point.1 n 0 (omega arith) (omega (arith, c, f.1))), entry table t n (omega (arith, c, f.1)))
    ] in
    record { some = some; value = only_month (n - 1) day low high; begun = low; ahead = high; inside = omega (arith, first_day_step (n - 1)) }
