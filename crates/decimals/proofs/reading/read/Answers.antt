use Rattle.std.proofs.Common.{rules}
use Rattle.std.proofs.lemmas.Result.{MatchResult-from_err}
use Rattle.decimals.specs.Numerals.{places_of, Refused}
use Rattle.decimals.specs.declared.kinds.Misread.TheVariants.{NotANumber, TooManyDigits, TooManyDecimals}
use Rattle.decimals.proofs.Laws.{none_spelt}
use Rattle.decimals.proofs.reading.read.Goals as goal

pub returns-in_err-whole-clause-only : goal.returns-in_err-whole-clause-only
returns-in_err-whole-clause-only c =
    let means : Refused (places_of c.args.places) c.args.text.now NotANumber = search rules in
    MatchResult-from_err c.from_residual.result _ _ (search rules) (λ e. none_spelt (places_of c.args.places) c.args.text.now NotANumber means)

pub returns-then-whole-part-gt-MOST_DIGITS-clause-only : goal.returns-then-whole-part-gt-MOST_DIGITS-clause-only
returns-then-whole-part-gt-MOST_DIGITS-clause-only c =
    let means : Refused (places_of c.args.places) c.args.text.now TooManyDigits = search rules in
    none_spelt (places_of c.args.places) c.args.text.now TooManyDigits means

pub returns-then-part-count-clause-only : goal.returns-then-part-count-clause-only
returns-then-part-count-clause-only c =
    let means : Refused (places_of c.args.places) c.args.text.now TooManyDecimals = search rules in
    none_spelt (places_of c.args.places) c.args.text.now TooManyDecimals means
