use Rattle.std.proofs.Common.{◌≡◌, sym, ◌∙◌, subst, vec_items}
use Rattle.std.proofs.lemmas.Result.{IfOk-weaker}
use Rattle.std.specs.Str.Iter.{split_whitespace_rest}
use Rattle.sheet_words.specs.Lines.{bare, SplitsInto, texts}
use Rattle.sheet_words.proofs.Cutting.{cut}
use Rattle.sheet_words.proofs.statements.words_of.Goals as goal

pub returns : goal.returns
returns c =
    let whole : split_whitespace_rest c.split_whitespace.result ≡ bare c.args.line.now = c.split_whitespace.ensures.rest ∙ c.bare.ensures in
    IfOk-weaker c.collect.result _ (λ words. SplitsInto (bare c.args.line.now) (texts (vec_items words)))
    (λ v given. subst (λ xs. SplitsInto (bare c.args.line.now) (texts xs)) (sym given.2.0) (subst (λ b. SplitsInto b (texts given.0)) whole (cut c.split_whitespace.result given.0 given.1)))
    c.collect.ensures.ran
