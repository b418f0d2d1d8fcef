use Rattle.std.proofs.Common.{◌≡◌, ℕ, List, Ok, Err, Result, MatchResult, IsErrAnd, subst, sym, rules}
use Rattle.decimals.specs.Numerals.{Refused, Spells, places_of}
use Rattle.sheet_values.proofs.numbers.number.Goals as goal

-- What is known of both outcomes, through a `map_err`.
mapped : {T E F : Type 0} (r : Result T E) (m : Result T F) (P : T → Type 0) (Q : E → Type 0) (R : E → F → Type 0) (S : F → Type 0) → MatchResult r P Q → MatchResult r (λ x. m ≡ Ok x) (λ e. IsErrAnd m (R e)) → ((e : E) (f : F) → Q e → R e f → S f) → MatchResult m P S
mapped (Ok x) m P Q R S p is k = subst (λ o. MatchResult o P S) (sym is) p
mapped (Err e) (Ok x) P Q R S q is k = absurd is
mapped (Err e) (Err f) P Q R S q is k = k e f q is

pub returns : goal.returns
returns c =
    let places = places_of c.args.places in
    let means = subst (λ (xs : List ℕ). MatchResult c.read.result (Spells places xs) (Refused places xs)) c.as_bytes.ensures.value c.read.ensures.means in
    mapped c.read.result c.map_err.result _ _ _ _ means c.map_err.ensures.cases (λ why fault refused blamed. (why, refused, search rules))
