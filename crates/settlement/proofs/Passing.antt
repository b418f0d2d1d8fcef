-- What an agreement and an event that pass their checks are known to keep.
use Rattle.std.proofs.Common.{◌≡◌, ℕ, ◌+◌, ◌*◌, ◌<◌, ◌≤◌, true, All, List, [], ◌∷◌, length, get_or, map, take, Result, Ok, Err, Some, MatchResult, sym, refl, ap, ◌∙◌, mul-le-mul_right, add-one, rules, arith, lit≤, length-take}
use Rattle.std.specs.Result.{is_ok}
use Rattle.std.proofs.lemmas.Bool.{false≢true}
use Rattle.std.proofs.lemmas.Bool.Decides.{nat_tests}
use Rattle.std.proofs.lemmas.List.{get_or-map, take-map}
use Rattle.refusal.specs.Answers.{plain, told}
use Rattle.refusal.proofs.Numbers.{numbered}
use Rattle.refusal.specs.declared.refusals.Answer.{Answer}
use Rattle.refusal.specs.declared.refusals.Refusal.{Refusal}
use Rattle.programme.specs.Bounds.{settleable}
use Rattle.programme.specs.Programmes.{meaning_of}
use Rattle.programme.specs.declared.codes.Code.{Code}
use Rattle.programme.specs.declared.codes.Code.TheVariants.{Economic, JointBidding, Reliable}
use Rattle.programme.specs.declared.figures.Figures.{Figures}
use Rattle.programme.specs.declared.terms.Terms.{Terms}
use Rattle.settlement.specs.Checks.{agreement_test, event_test}
use Rattle.settlement.specs.Month.{Names, Passed}
use Rattle.settlement.specs.declared.events.Agreement.{Agreement}
use Rattle.settlement.specs.declared.events.Event.{Event}
use Rattle.settlement.specs.declared.events.Refused.{Refused}

hours_low : (a : Agreement) → agreement_test a ≡ 0 → 2 ≤ a.terms.hours
hours_low a h = grind (arith, nat_tests)

in_cap : (f : Figures) (t : Terms) (earlier : List Event) (e : Event) → event_test f t earlier e ≡ 0 → t.hours * (length earlier + 1) ≤ f.cap_hours
in_cap f t earlier e h = grind (arith, nat_tests)

cap_most : (code : Code) → (meaning_of code).figures.cap_hours ≤ 36
cap_most Economic = lit≤ tt
cap_most JointBidding = lit≤ tt
cap_most Reliable = lit≤ tt

-- a month has at most 18 events: each takes two hours or more of a cap of at most 36
pub few : (a : Agreement) (earlier : List Event) (e : Event) → agreement_test a ≡ 0 → event_test (meaning_of a.code).figures a.terms earlier e ≡ 0 → length earlier + 1 ≤ 18
few a earlier e h p =
    let hours = mul-le-mul_right (length earlier + 1) (hours_low a h) in
    omega (arith, in_cap (meaning_of a.code).figures a.terms earlier e p, cap_most a.code)

-- so a month whose events all pass has at most 18 of them
pub month_few : (a : Agreement) (es : List Event) → Passed a es (length es) → length es ≤ 18
month_few a es passed = by es refl
  where
    by : (xs : List Event) → es ≡ xs → length es ≤ 18
    by [] w = rw w (lit≤ tt)
    by (x ∷ xs) w =
        let count : length es ≡ length xs + 1 = ap length w ∙ sym (add-one (length xs)) in
        let last = few a (take (length xs) es) (get_or es (length xs) x) passed.0 (passed.1 (length xs) (omega arith) x) in
        omega (arith, count, length-take (length xs) es)

-- a call that was accepted met no test
accepted : {T : Type 0} (r : Result T Refusal) (n : ℕ) → is_ok r ≡ true → told r ≡ plain n → n ≡ 0
accepted (Ok v) n ok t = sym (ap (λ (a : Answer). a.number) t)
accepted (Err e) n ok t = absurd (false≢true ok)

-- what the event of a place meets, after the events before it
pub meets_at : {X T : Type 0} (f : Figures) (t : Terms) (event : X → Event) (xs : List X) (i : ℕ) (x : X) (r : Result T Refusal) →
    i < length xs → x ≡ get_or xs i x → told r ≡ plain (event_test f t (map event (take i xs)) (event x)) → (d : Event) → told r ≡ plain (event_test f t (take i (map event xs)) (get_or (map event xs) i d))
meets_at f t event xs i x r within is meets d =
    let place : get_or (map event xs) i d ≡ event x = get_or-map event xs i x d within ∙ sym (ap event is) in
    rw (take-map event i xs, place) meets

-- the event of a place passes, after the events before it
pub passes_at : {T : Type 0} (f : Figures) (t : Terms) (es : List Event) (i : ℕ) (r : Result T Refusal) →
    is_ok r ≡ true → ((d : Event) → told r ≡ plain (event_test f t (take i es) (get_or es i d))) → (d : Event) → event_test f t (take i es) (get_or es i d) ≡ 0
passes_at f t es i r ok meets d = accepted r _ ok (meets d)

-- a refusal of the event of a place names it
pub names_at : {T : Type 0} (a : Agreement) (es : List Event) (i : ℕ) (r : Result T Refusal) (refused : Refused) →
    MatchResult r (λ x. Err refused ≡ Ok x) (λ e. refused ≡ record { event = Some i; refusal = e }) →
    i < length es → Passed a es i → ((d : Event) → told r ≡ plain (event_test (meaning_of a.code).figures a.terms (take i es) (get_or es i d))) → Names a es refused
names_at a es i (Ok v) refused is within passed meets = search rules
names_at a es i (Err e) refused is within passed meets = rw is ((within, passed, λ d. ap (λ (x : Answer). x.number) (meets d)), numbered e)

-- the events of a month that passes can be settled
pub settleable_each : {X : Type 0} (a : Agreement) (event : X → Event) (xs : List X) (n : ℕ) → n ≡ length xs → Passed a (map event xs) n → (code : Code) → a.code ≡ code →
    All (λ x. settleable (meaning_of code).figures a.terms (event x).dispatch.price (event x).dispatch.baseline (event x).dispatch.event_load ≡ true) xs
settleable_each a event xs n all passed code is k d within =
    let here : event_test (meaning_of a.code).figures a.terms (take k (map event xs)) (event (get_or xs k d)) ≡ 0 =
    rw (sym (get_or-map event xs k d (event d) within)) (passed.1 k (rw all within) (event d)) in
    grind (arith, nat_tests)
