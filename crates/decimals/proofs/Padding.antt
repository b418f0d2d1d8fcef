-- What a hole with zeros up to a width of 2 or 3 writes.
use Rattle.std.proofs.Common.{◌≡◌, ℕ, ◌+◌, ◌-◌, ◌^◌, ◌/◌, ◌%◌, ◌<◌, ◌≤◌, false, List, [], ◌∷◌, decimal, refl, inl, inr, arith}
use Rattle.std.specs.Fmt.{padded_integral, format_spec, char_count}
use Rattle.std.proofs.lemmas.Fmt.{decimal_digit, decimal_step}
use Rattle.std.proofs.lemmas.Bool.{cases_lt}
use Rattle.decimals.specs.Written.{two_digits, three_digits}

abbrev zeros : ℕ → ℕ → List ℕ
zeros width n = padded_integral (format_spec 32 0 4 width (2 ^ 64 - 1)) false [] (decimal n)

two : (n : ℕ) → n < 100 → zeros 2 n ≡ (48 + n / 10) ∷ (48 + n % 10) ∷ []
unfolding padded_integral char_count
two n small = elim (cases_lt n 10) [
  | inl one ↦ let tens : n / 10 ≡ 0 = omega arith in let ones : n % 10 ≡ n = omega arith in rw (decimal_digit n one, tens, ones) refl
  | inr more ↦ let s : n < 2 ^ 64 = omega arith in let t : n / 10 < 10 = omega arith in rw (decimal_step n more s, decimal_digit (n / 10) t) refl
]

three : (n : ℕ) → n < 1000 → zeros 3 n ≡ (48 + n / 100) ∷ (48 + n / 10 % 10) ∷ (48 + n % 10) ∷ []
unfolding padded_integral char_count
three n small = elim (cases_lt n 10) [
  | inl one ↦ let hundreds : n / 100 ≡ 0 = omega arith in let tens : n / 10 % 10 ≡ 0 = omega arith in let ones : n % 10 ≡ n = omega arith in rw (decimal_digit n one, hundreds, tens, ones) refl
  | inr more ↦
      let s : n < 2 ^ 64 = omega arith in
      let t : n / 10 < 2 ^ 64 = omega arith in
      elim (cases_lt n 100) [
        | inl few ↦ let d : n / 10 < 10 = omega arith in let hundreds : n / 100 ≡ 0 = omega arith in let tens : n / 10 % 10 ≡ n / 10 = omega arith in rw (decimal_step n more s, decimal_digit (n / 10) d, hundreds, tens) refl
        | inr many ↦ let m : 10 ≤ n / 10 = omega arith in let d : n / 10 / 10 < 10 = omega arith in let hundreds : n / 100 ≡ n / 10 / 10 = omega arith in rw (decimal_step n more s, decimal_step (n / 10) m t, decimal_digit (n / 10 / 10) d, hundreds) refl
      ]
]

pub padded_two : (n : ℕ) → zeros 2 (n % 100) ≡ two_digits n
padded_two n =
    let d : n / 10 % 10 < 10 = omega arith in
    let e : n % 10 < 10 = omega arith in
    let tens : n % 100 / 10 ≡ n / 10 % 10 = omega arith in
    let ones : n % 100 % 10 ≡ n % 10 = omega arith in
    let small : n % 100 < 100 = omega arith in
    rw (decimal_digit (n / 10 % 10) d, decimal_digit (n % 10) e, ← tens, ← ones) (two (n % 100) small)

pub padded_three : (n : ℕ) → zeros 3 (n % 1000) ≡ three_digits n
padded_three n =
    let c : n / 100 % 10 < 10 = omega arith in
    let d : n / 10 % 10 < 10 = omega arith in
    let e : n % 10 < 10 = omega arith in
    let hundreds : n % 1000 / 100 ≡ n / 100 % 10 = omega arith in
    let tens : n % 1000 / 10 % 10 ≡ n / 10 % 10 = omega arith in
    let ones : n % 1000 % 10 ≡ n % 10 = omega arith in
    let small : n % 1000 < 1000 = omega arith in
    rw (decimal_digit (n / 100 % 10) c, decimal_digit (n / 10 % 10) d, decimal_digit (n % 10) e, ← hundreds, ← tens, ← ones) (three (n % 1000) small)
