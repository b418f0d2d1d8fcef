use Rattle.std.proofs.Common.{◌≡◌, ◌-◌, [], ◌∷◌, ◌∙◌, ap, length, take, drop, rules, arith}
use Rattle.std.proofs.lemmas.Grind.{common_steps}
use Rattle.std.specs.List.{slice_index_or}
use Rattle.sheet_words.specs.Words.{spelling}
use Rattle.sheet_words.specs.Lines.{texts}
use Rattle.sheet_words.proofs.Cutting.{counted, first_word, unknown}
use Rattle.sheet_words.proofs.statements.said_by.Goals as goal

pub returns-in_err-word : goal.returns-in_err-word
returns-in_err-word c =
    let first = first_word c.args.words.now c.in-len1-up.len_at_least in
    let u = unknown (texts c.args.words.now) (texts (take (length c.args.words.now - 1) (drop 1 c.args.words.now))) in
    search rules

pub returns : goal.returns
returns c =
    let words = c.args.words.now in
    let rest = take (length words - 1) (drop 1 words) in
    let is : (slice_index_or words 0 (record { ref_ptr = (0, 0); now = [] })).now ≡ spelling c.in_ok-word.word = search rules in
    rw c.ok_or.ensures.value (counted (texts words) (texts rest) c.in_ok-word.word (length rest) c.said.result (first_word words c.in-len1-up.len_at_least ∙ ap (λ w. w ∷ texts rest) is) (grind (arith, common_steps)) c.said.ensures)
