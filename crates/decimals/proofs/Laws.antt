-- Where the point of a decimal number stands, how large the number of some digits is, and that a refused text writes no number.
use Rattle.std.proofs.Common.{◌≡◌, ℕ, suc, ◌+◌, ◌-◌, ◌*◌, ◌^◌, ◌<◌, ◌≤◌, Bool, true, false, List, [], ◌∷◌, ◌++◌, length, get_or, take, drop, map, fold, Bor, Iter, sym, refl, ap, ◌∙◌, subst, inl, inr, append_assoc, arith, length-append, length-drop, length-take, rules}
use Rattle.std.specs.Bool.{then_some, Decides}
use Rattle.std.specs.Iterator.{Yields}
use Rattle.std.specs.Option.{MatchOption}
use Rattle.std.proofs.lemmas.Fn.{fronts}
use Rattle.std.proofs.lemmas.List.Sums.{fold_push}
use Rattle.std.proofs.lemmas.List.{get_or_at, get_or_append_left, take-append-le, get_or-take, drop_more, take-append-drop, take_all, append_cancel_left}
use Rattle.std.proofs.lemmas.Str.Parse.{IsNumeralModel, numerals_by_fold, tells_by_index, digits_value_short}
use Rattle.decimals.specs.Numerals.{Decimal, Digits, Numeral, Refused, Spells, value}
use Rattle.decimals.specs.declared.kinds.Misread.{Misread}
use Rattle.decimals.specs.declared.kinds.Misread.TheVariants.{Empty, NotANumber, TooManyDigits, TooManyDecimals}

own : IsNumeralModel Digits value
own = numerals_by_fold Digits tells_by_index (λ n ds. fold (λ m b. 10 * m + (b - 48)) n ds) (search rules)

pub digits_take : (ds : List ℕ) (i : ℕ) → i ≤ length ds → Digits ds → Digits (take i ds)
digits_take ds i h d k less =
    let low : k < i = omega (arith, length-take i ds) in
    let here : k < length ds = omega arith in
    rw get_or-take (d k here)

pub value_small : (ds : List ℕ) (k : ℕ) → Digits ds → length ds ≤ k → value ds < 10 ^ k
value_small ds k d short = digits_value_short own ds k d short

-- what a slice's iterator has given, before what it has left
pub given : (s t : Iter ℕ) (xs : List (Bor ℕ)) → Yields fronts s xs t → map (λ b. b.now) xs ++ t.rest.now ≡ s.rest.now
given s t [] e = ap (λ (u : Iter ℕ). u.rest.now) (sym e)
given s t (x ∷ xs) (j, first, more) = ap (λ (l : List ℕ). x.now ∷ l) (given j t xs more) ∙ sym first

-- one more digit of at most 15
pub one_more : (ds front rest : List ℕ) (d : ℕ) → front ++ d ∷ rest ≡ ds → Digits ds → length ds ≤ 15 → (48 ≤ d) × (d ≤ 57) × (10 * value front + (d - 48) < 1000000000000000)
one_more ds front rest d e all few =
    let more : List ℕ = front ++ d ∷ [] in
    let whole : more ++ rest ≡ ds = append_assoc front (d ∷ []) rest ∙ e in
    let within : length more + length rest ≡ length ds = sym (length-append more rest) ∙ ap length whole in
    let front_long : length more ≡ length front + 1 = length-append front (d ∷ []) in
    let taken : take (length more) ds ≡ more = ap (λ (l : List ℕ). take (length more) l) (sym whole) ∙ (take-append-le (length more) more rest (omega arith) ∙ take_all (length more) more (omega arith)) in
    let digits : Digits more = subst Digits taken (digits_take ds (length more) (omega arith) all) in
    let last : get_or more (length front) 0 ≡ d = get_or_at front d [] 0 (length front) refl in
    let digit = digits (length front) (omega arith) in
    let small : value more < 1000000000000000 = value_small more 15 digits (omega arith) in
    let pushed : value more ≡ 10 * value front + (d - 48) = fold_push (λ n b. 10 * n + (b - 48)) 0 front d in
    (omega (arith, digit.0), omega (arith, digit.1), omega arith)

-- a number with no point is its own numeral
pub no_point : (text whole part : List ℕ) → ((k : ℕ) → k < length text → get_or text k 0 ≡ 46 → ⊥) → Decimal text whole part → Numeral text
no_point text whole part none (n, inl (e, p)) = subst Numeral (sym e) n
no_point text whole part none (n, inr (e, m)) =
    let long : length text ≡ length whole + length (46 ∷ part) = ap length e ∙ length-append whole (46 ∷ part) in
    let some : length (46 ∷ part) ≡ suc (length part) = refl in
    let within : length whole < length text = omega arith in
    absurd (none (length whole) within (ap (λ (xs : List ℕ). get_or xs (length whole) 0) e ∙ get_or_at whole 46 part 0 (length whole) refl))

-- the first point stands right behind the whole part
pub point_at : (text whole part : List ℕ) (at : ℕ) → at < length text → get_or text at 0 ≡ 46 → ((k : ℕ) → k < at → get_or text k 0 ≡ 46 → ⊥) → Decimal text whole part → (at ≡ length whole) × (text ≡ whole ++ (46 ∷ part)) × Numeral part
point_at text whole part at within here none (n, inl (e, p)) =
    let l : at < length whole = subst (λ (xs : List ℕ). at < length xs) e within in
    let d = n.1 at l in
    let same : get_or whole at 0 ≡ 46 = ap (λ (xs : List ℕ). get_or xs at 0) (sym e) ∙ here in
    absurd (omega arith)
point_at text whole part at within here none (n, inr (e, m)) =
    let behind : get_or text (length whole) 0 ≡ 46 = ap (λ (xs : List ℕ). get_or xs (length whole) 0) e ∙ get_or_at whole 46 part 0 (length whole) refl in
    let no_later : length whole < at → ⊥ = λ h. none (length whole) h behind in
    let no_sooner : at < length whole → ⊥ = λ h.
    let d = n.1 at h in
    let same : get_or whole at 0 ≡ 46 = sym (get_or_append_left whole (46 ∷ part) 0 at h) ∙ ap (λ (xs : List ℕ). get_or xs at 0) (sym e) ∙ here in
    omega arith in
    (grind (arith, no_later, no_sooner), e, m)

-- a text parted at a point
pub joined : (text : List ℕ) (at : ℕ) → at < length text → get_or text at 0 ≡ 46 → text ≡ take at text ++ (46 ∷ drop (at + 1) text)
joined text at within here =
    let e = drop_more text at 0 within in
    sym (take-append-drop at text) ∙ ap (λ (xs : List ℕ). take at text ++ xs) (e ∙ ap (λ (x : ℕ). x ∷ drop (at + 1) text) here)

-- what a slice to the end holds
pub back_is : (text : List ℕ) (from : ℕ) → take (length text - from) (drop from text) ≡ drop from text
back_is text from = take_all (length text - from) (drop from text) (omega (arith, length-drop from text))

-- the first point divides a number that has one
pub at_point : (text whole part front back : List ℕ) (at : ℕ) → at < length text → get_or text at 0 ≡ 46 → ((k : ℕ) → k < at → get_or text k 0 ≡ 46 → ⊥) → front ≡ take at text → back ≡ drop (at + 1) text → Decimal text whole part → Numeral front × Numeral back
at_point text whole part front back at within here none f b d =
    let p = point_at text whole part at within here none d in
    let t : take at text ≡ whole = rw (p.0, p.1) (take-append-le (length whole) whole (46 ∷ part) (omega arith) ∙ take_all (length whole) whole (omega arith)) in
    let u : text ≡ take at text ++ (46 ∷ drop (at + 1) text) = joined text at within here in
    let v : whole ++ (46 ∷ drop (at + 1) text) ≡ whole ++ (46 ∷ part) = ap (λ (xs : List ℕ). xs ++ (46 ∷ drop (at + 1) text)) (sym t) ∙ sym u ∙ p.1 in
    let w = append_cancel_left whole (46 ∷ drop (at + 1) text) (46 ∷ part) v in
    let x : drop (at + 1) text ≡ part = cc in
    (subst Numeral (sym (f ∙ t)) d.0, subst Numeral (sym (b ∙ x)) p.2)

-- two numerals with a point between them
pub pointed : (text front back : List ℕ) (at : ℕ) → at < length text → get_or text at 0 ≡ 46 → front ≡ take at text → back ≡ drop (at + 1) text → Numeral front → Numeral back → Decimal text front back
pointed text front back at within here f b m n =
    (m, inr (joined text at within here ∙ (λ i. sym f i ++ (46 ∷ sym b i)), n))

-- a number with a point has its parts where its first point is
with_point : (text whole part front back : List ℕ) → Numeral whole → text ≡ whole ++ (46 ∷ part) → Decimal text front back → (length front ≡ length whole) × (length back ≡ length part)
with_point text whole part front back n e d =
    let long : length text ≡ length whole + length (46 ∷ part) = ap length e ∙ length-append whole (46 ∷ part) in
    let some : length (46 ∷ part) ≡ suc (length part) = refl in
    let within : length whole < length text = omega arith in
    let here : get_or text (length whole) 0 ≡ 46 = ap (λ (xs : List ℕ). get_or xs (length whole) 0) e ∙ get_or_at whole 46 part 0 (length whole) refl in
    let none : (k : ℕ) → k < length whole → get_or text k 0 ≡ 46 → ⊥ = λ k h is.
    let digit = n.1 k h in
    let same : get_or whole k 0 ≡ 46 = sym (get_or_append_left whole (46 ∷ part) 0 k h) ∙ ap (λ (xs : List ℕ). get_or xs k 0) (sym e) ∙ is in
    omega arith in
    let p = point_at text front back (length whole) within here none d in
    let wide : length text ≡ length front + length (46 ∷ back) = ap length p.1 ∙ length-append front (46 ∷ back) in
    let more : length (46 ∷ back) ≡ suc (length back) = refl in
    (sym p.0, omega arith)

-- a text is a decimal number in one way only
pub one_way : (text whole part front back : List ℕ) → Decimal text whole part → Decimal text front back → (length front ≡ length whole) × (length back ≡ length part)
one_way text whole part front back (n, inr (e, m)) d = with_point text whole part front back n e d
one_way text whole part front back (n, inl (e, m)) (k, inl (f, l)) = (ap length (sym f ∙ e), ap length (l ∙ sym m))
one_way text whole part front back (n, inl (e, m)) (k, inr (f, l)) =
    let p = with_point text front back whole part k f (n, inl (e, m)) in (sym p.0, sym p.1)

some_text : (text whole part : List ℕ) → Decimal text whole part → 0 < length text
some_text text whole part (n, inl (e, m)) = subst (λ (xs : List ℕ). 0 < length xs) (sym e) n.0
some_text text whole part (n, inr (e, m)) = omega (arith, ap length e ∙ length-append whole (46 ∷ part), n.0)

-- what is refused writes no number
pub none_spelt : (places : ℕ) (text : List ℕ) (why : Misread) → Refused places text why → (n : ℕ) → Spells places text n → ⊥
none_spelt places text Empty e n s = let p = some_text text s.whole s.part s.reads in omega (arith, ap length e)
none_spelt places text NotANumber r n s = r.1 s.whole s.part s.reads
none_spelt places text TooManyDigits r n s =
    let p = one_way text r.0 r.1 s.whole s.part r.2 s.reads in omega (arith, r.3, s.digits)
none_spelt places text TooManyDecimals r n s =
    let p = one_way text r.0 r.1 s.whole s.part r.2 s.reads in omega (arith, r.4, s.decimals)

-- what `then_some` answers of a text with no point, and of one that is parted at its first point
pub unparted : (text : List ℕ) (x : Bor (List ℕ) × Bor (List ℕ)) (b : Bool) → ((k : ℕ) → k < length text → get_or text k 0 ≡ 46 → ⊥) → x.0.now ≡ text → x.1.now ≡ [] → Decides b (Numeral text) → MatchOption (then_some b x) ((whole part : List ℕ) → Decimal text whole part → ⊥) (λ y. Decimal text y.0.now y.1.now)
unparted text x true none e f d = (subst Numeral (sym e) (d.0 refl), inl (sym e, f))
unparted text x false none e f d = λ whole part h. absurd (let t = d.1 (no_point text whole part none h) in cc)

pub parted : (text : List ℕ) (at : ℕ) (x : Bor (List ℕ) × Bor (List ℕ)) (b : Bool) → at < length text → get_or text at 0 ≡ 46 → ((k : ℕ) → k < at → get_or text k 0 ≡ 46 → ⊥) → x.0.now ≡ take at text → x.1.now ≡ take (length text - (at + 1)) (drop (at + 1) text) → Decides b (Numeral x.0.now × Numeral x.1.now) → MatchOption (then_some b x) ((whole part : List ℕ) → Decimal text whole part → ⊥) (λ y. Decimal text y.0.now y.1.now)
parted text at x true within here none e f d = let n = d.0 refl in pointed text x.0.now x.1.now at within here e (f ∙ back_is text (at + 1)) n.0 n.1
parted text at x false within here none e f d = λ whole part h. absurd (let t = d.1 (at_point text whole part x.0.now x.1.now at within here none e (f ∙ back_is text (at + 1)) h) in cc)
