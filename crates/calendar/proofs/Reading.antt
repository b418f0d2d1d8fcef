-- A text read part by part: when each part is the number that its bytes write, so is the whole.
use Rattle.std.proofs.Common.{◌≡◌, ℕ, ◌+◌, ◌-◌, ◌*◌, ◌/◌, ◌%◌, ◌≤◌, List, [], ◌∷◌, ◌++◌, length, get_or, take, drop, Some, None, sym, refl, ap, ◌∙◌, arith}
use Rattle.std.proofs.lemmas.List.{drop_more, drop_all, take-append-drop}
use Rattle.calendar.specs.Months.{year_of, calendar_month, month_length, first_day, month_of, day_of_month}
use Rattle.calendar.specs.Texts.{Reads, two_digits, four_digits, month_text, date_text}
use Rattle.calendar.proofs.Laws.{month_length_range, first_day_step, in_month, only_month, month_of_most, day_of_month_range}

-- two digits determine their number
pub two_same : (m n : ℕ) → m ≤ 99 → n ≤ 99 → two_digits m ≡ two_digits n → m ≡ n
two_same m n p q e =
    let tens : 48 + m / 10 ≡ 48 + n / 10 = cc in
    let ones : 48 + m % 10 ≡ 48 + n % 10 = cc in
    omega arith

pub four_same : (m n : ℕ) → m ≤ 9999 → n ≤ 9999 → four_digits m ≡ four_digits n → m ≡ n
four_same m n p q e =
    let high : m / 100 ≡ n / 100 = two_same (m / 100) (n / 100) (omega arith) (omega arith) (cc) in
    let low : m % 100 ≡ n % 100 = two_same (m % 100) (n % 100) (omega arith) (omega arith) (cc) in
    omega arith

-- a reader whose answer has this text is right, if no other number has it
pub reads_same : (write : ℕ → List ℕ) (most : ℕ) (text : List ℕ) (k : ℕ) → k ≤ most → text ≡ write k → ((m n : ℕ) → m ≤ most → n ≤ most → write m ≡ write n → m ≡ n) → Reads write most text (Some k)
reads_same write most text k small e same =
    record {
      back = λ n le t. ap (λ (x : ℕ). Some x) (same k n small le (cc));
      only = λ n s. let i : k ≡ n = cc in (omega arith, (cc));
    }

pub four : (a b c d high low : ℕ) → Reads two_digits 99 (a ∷ b ∷ []) (Some high) → Reads two_digits 99 (c ∷ d ∷ []) (Some low) → Reads four_digits 9999 (a ∷ b ∷ c ∷ d ∷ []) (Some (100 * high + low))
four a b c d high low H L =
    let h = H.only high refl in
    let l = L.only low refl in
    let n = 100 * high + low in
    let front : n / 100 ≡ high = omega (arith, h.0, l.0) in
    let rest : n % 100 ≡ low = omega (arith, h.0, l.0) in
    let hs = h.1 in
    let ls = l.1 in
    reads_same four_digits 9999 _ n (omega (arith, h.0, l.0)) (cc) four_same

pub month_same : (m n : ℕ) → m ≤ 359 → n ≤ 359 → month_text m ≡ month_text n → m ≡ n
month_same m n p q e =
    let years : year_of m ≡ year_of n = four_same (year_of m) (year_of n) (omega arith) (omega arith) (cc) in
    let months : calendar_month m ≡ calendar_month n = two_same (calendar_month m) (calendar_month n) (omega arith) (omega arith) (cc) in
    omega arith

-- what a date's text says of its parts
record Dated (text : List ℕ) (d : ℕ) : Type 0 where
  front : take (length text - 3) text ≡ month_text (month_of d)
  rest : get_or text (length text - 2) 0 ∷ get_or text (length text - 1) 0 ∷ [] ≡ two_digits (day_of_month d)
  month : month_of d ≤ 359
  day : (1 ≤ day_of_month d) × (day_of_month d ≤ month_length (month_of d))
  short : day_of_month d ≤ 31

dated : (text : List ℕ) (d : ℕ) → d ≤ 10957 → text ≡ date_text d → Dated text d
dated text d small e =
    record {
      front = ap (λ (l : List ℕ). take (length l - 3) l) e;
      rest = ap (λ (l : List ℕ). get_or l (length l - 2) 0 ∷ get_or l (length l - 1) 0 ∷ []) e;
      month = month_of_most d small;
      day = day_of_month_range d;
      short = omega (arith, (day_of_month_range d).1, month_length_range (month_of d));
    }

pub date_same : (d e : ℕ) → d ≤ 10957 → e ≤ 10957 → date_text d ≡ date_text e → d ≡ e
date_same d e p q h =
    let x = dated (date_text d) d p refl in
    let y = dated (date_text d) e q h in
    let months : month_of d ≡ month_of e = month_same (month_of d) (month_of e) x.month y.month (cc) in
    let days : day_of_month d ≡ day_of_month e = two_same (day_of_month d) (day_of_month e) (omega arith) (omega arith) (cc) in
    omega (arith, (in_month d).0, (in_month e).0, ap first_day months)

-- a text that no number has is refused
pub reads_none : (write : ℕ → List ℕ) (most : ℕ) (text : List ℕ) → ((n : ℕ) → n ≤ most → text ≡ write n → ⊥) → Reads write most text None
reads_none write most text none =
    record {
      back = λ n le t. absurd (none n le t);
      only = λ n s. let z : ◌≡◌ {A = ℕ} 0 1 = cc in absurd (omega arith);
    }

pub no_month : (text : List ℕ) → Reads month_text 359 (take (length text - 3) text) None → Reads date_text 10957 text None
no_month text r =
    reads_none date_text 10957 text
    (λ n le e. let d = dated text n le e in let s = r.back (month_of n) d.month d.front in let z : ◌≡◌ {A = ℕ} 0 1 = cc in omega arith)

pub no_day : (text : List ℕ) → Reads two_digits 99 (get_or text (length text - 2) 0 ∷ get_or text (length text - 1) 0 ∷ []) None → Reads date_text 10957 text None
no_day text r =
    reads_none date_text 10957 text
    (λ n le e. let d = dated text n le e in let s = r.back (day_of_month n) (omega arith) d.rest in let z : ◌≡◌ {A = ℕ} 0 1 = cc in omega arith)

-- no month has a day 0, or one past its length
pub no_place : (text : List ℕ) (m day : ℕ) → Reads month_text 359 (take (length text - 3) text) (Some m) → Reads two_digits 99 (get_or text (length text - 2) 0 ∷ get_or text (length text - 1) 0 ∷ []) (Some day) → (1 ≤ day → day ≤ month_length m → ⊥) → Reads date_text 10957 text None
no_place text m day M D outside =
    reads_none date_text 10957 text
    (λ n le e.
    let d = dated text n le e in
    let s = M.back (month_of n) d.month d.front in
    let t = D.back (day_of_month n) (omega arith) d.rest in
    let months : month_of n ≡ m = cc in
    let days : day_of_month n ≡ day = cc in
    outside (omega arith) (omega (arith, ap month_length months)))

pub date_parts : (text : List ℕ) → 3 ≤ length text → get_or text (length text - 3) 0 ≡ 45 → (m day k : ℕ) → Reads month_text 359 (take (length text - 3) text) (Some m) → Reads two_digits 99 (get_or text (length text - 2) 0 ∷ get_or text (length text - 1) 0 ∷ []) (Some day) → 1 ≤ day → day ≤ month_length m → k ≤ 10957 → k + 1 ≡ first_day m + day → Reads date_text 10957 text (Some k)
date_parts text long dash m day k M D low high small place =
    let months : m ≡ month_of k = only_month m k (omega arith) (omega (arith, first_day_step m)) in
    let days : day ≡ day_of_month k = omega (arith, ap first_day months) in
    let n = length text - 3 in
    let front : take n text ≡ month_text (month_of k) = (M.only m refl).1 ∙ ap month_text months in
    let tens : n + 1 ≡ length text - 2 = omega arith in
    let ones : n + 1 + 1 ≡ length text - 1 = omega arith in
    let behind : drop (n + 1 + 1 + 1) text ≡ [] = drop_all _ text (omega arith) in
    let places : drop n text ≡ 45 ∷ get_or text (length text - 2) 0 ∷ get_or text (length text - 1) 0 ∷ [] = cc (drop_more text n 0 (omega arith), drop_more text (n + 1) 0 (omega arith), drop_more text (n + 1 + 1) 0 (omega arith)) in
    let rest : drop n text ≡ 45 ∷ two_digits (day_of_month k) = places ∙ ap (λ (l : List ℕ). 45 ∷ l) ((D.only day refl).1 ∙ ap two_digits days) in
    reads_same date_text 10957 text k small (sym (take-append-drop n text) ∙ (λ i. front i ++ rest i)) date_same
