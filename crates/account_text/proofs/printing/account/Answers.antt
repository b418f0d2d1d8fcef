use Rattle.std.proofs.Common.{◌≡◌, Err, inl, inr, rules}
use Rattle.std.proofs.lemmas.Result.{MatchResult-weaker}
use Rattle.account_text.proofs.printing.account.Goals as goal

pub returns-in_err-sheet : goal.returns-in_err-sheet
returns-in_err-sheet c =
    let is : c.from_residual.result ≡ Err c.in_err-sheet.field-0.0 = search rules in
    rw is (inl c.in_err-sheet.ensures.means)

pub returns : goal.returns
returns c =
    let read = c.in_ok-sheet.ensures in
    MatchResult-weaker c.account_text.result c.account_text.ensures (λ x p. (c.in_ok-sheet.sheet, read.means, read.sound, p))
    (λ fault q. inr (c.in_ok-sheet.sheet, read.means, q))
