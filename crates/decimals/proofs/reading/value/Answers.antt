use Rattle.std.proofs.Common.{◌≡◌, ◌+◌, ◌-◌, ◌*◌, ◌<◌, ℕ, List, ◌++◌, map, Bor, sym, refl, ap, ◌∙◌, arith, rules}
use Rattle.std.proofs.lemmas.Fn.{serves_by}
use Rattle.std.proofs.lemmas.List.{map_push}
use Rattle.std.proofs.lemmas.List.Sums.{fold_push}
use Rattle.decimals.specs.Numerals.{value}
use Rattle.decimals.proofs.Laws.{given, one_more, value_small}
use Rattle.decimals.proofs.reading.value.Goals as goal

pub fold-requires-clause-callable : goal.fold-requires-clause-callable
fold-requires-clause-callable c =
    serves_by _ (λ xs q. q.1 ≡ value (map (λ b. b.now) xs))
    (λ xs q x v j r.
    let step : v.1 ≡ 10 * q.1 + (x.now - 48) = search rules in
    step ∙ (ap (λ (n : ℕ). 10 * n + (x.now - 48)) j ∙ (sym (fold_push (λ n b. 10 * n + (b - 48)) 0 (map (λ (b : Bor ℕ). b.now) xs) x.now) ∙ ap value (sym (map_push (λ (b : Bor ℕ). b.now) xs x)))))
    _ _ _ _ refl
    (λ xs t q x u y s j.
    let e = ap (λ (l : List ℕ). map (λ (b : Bor ℕ). b.now) xs ++ l) (sym s) ∙ (given c.iter.result t xs y ∙ c.iter.ensures.rest) in
    let m = one_more c.args.digits.now (map (λ (b : Bor ℕ). b.now) xs) u.rest.now x.now e c.requires.all c.requires.few in
    let low = m.0 in
    let fits : 10 * q.1 + (x.now - 48) < 1000000000000000 = omega (arith, m.2) in
    search rules)

pub returns-clause-small : goal.returns-clause-small
returns-clause-small c =
    let is : c.fold.result ≡ value c.args.digits.now = search rules in
    omega (arith, value_small c.args.digits.now 15 c.requires.all c.requires.few)
