use Rattle.std.proofs.Common.{◌≡◌, [], Ok, Err, inl, inr, length, refl, rules}
use Rattle.std.proofs.lemmas.List.{nil_from_length}
use Rattle.sheet_words.specs.declared.keys.Word.{Word}
use Rattle.sheet_values.specs.Refusals.{Refuses}
use Rattle.std.proofs.lemmas.Result.{MatchResult-at_err, MatchResult-at_ok}
use Rattle.sheet_words.specs.declared.faults.LineFault.TheVariants.{TooSoon}
use Rattle.sheet_values.specs.Drafts.{Completes, Lacks}
use Rattle.sheet.specs.Reading.{Fails}
use Rattle.sheet.proofs.Adding.{header_fails}
use Rattle.sheet.proofs.reading.read_line.Goals as goal

pub returns-in_err-take-in-Header-2 : goal.returns-in_err-take-in-Header-2
returns-in_err-take-in-Header-2 c =
    let said = c.in_ok-parse.ensures in
    let fault = c.in_err-take-in-Header-2.field-0.0 in
    let is : c.from_residual-in_err-take-in-Header-2.result ≡ Err fault = search rules in
    let long : length c.args.events.now ≡ 0 = search rules in
    let none : c.args.events.now ≡ [] = nil_from_length c.args.events.now long in
    let why : Refuses c.in-Header-2.word c.in-Header-2.text.now c.args.draft.now fault = search rules in
    let fails : Fails c.in_ok-parse.field-0 c.args.events.now c.args.draft.now fault = rw c.in-Header-2.is (header_fails c.in-Header-2.word c.in-Header-2.text c.args.events.now c.args.draft.now fault none why) in
    rw is (inr (said.0, said.1, inr (c.in_ok-parse.field-0, said.2, fails)))

pub returns-in_err-header-in-Event : goal.returns-in_err-header-in-Event
returns-in_err-header-in-Event c =
    let said = c.in_ok-parse.ensures in
    let fault = c.in_err-header-in-Event.field-0.0 in
    let is : c.from_residual-in_err-header-in-Event.result ≡ Err fault = search rules in
    let soon : (word : Word) × (c.complete.result ≡ Err word) × (fault ≡ TooSoon word) = search rules in
    let lacks : Lacks c.args.draft.now soon.0 = MatchResult-at_err _ (Lacks c.args.draft.now) soon.0 soon.1 c.complete.ensures in
    let fails : Fails c.in_ok-parse.field-0 c.args.events.now c.args.draft.now fault = rw c.in-Event.is (inl (soon.0, lacks, soon.2)) in
    rw is (inr (said.0, said.1, inr (c.in_ok-parse.field-0, said.2, fails)))

pub returns-in_err-read_event-in-Event : goal.returns-in_err-read_event-in-Event
returns-in_err-read_event-in-Event c =
    let said = c.in_ok-parse.ensures in
    let h = c.in_ok-header-in-Event.header in
    let fault = c.in_err-read_event-in-Event.field-0.0 in
    let ok : c.complete.result ≡ Ok h = search rules in
    let complete : Completes c.args.draft.now h = MatchResult-at_ok (Completes c.args.draft.now) _ h ok c.complete.ensures in
    let is : c.from_residual-in_err-read_event-in-Event.result ≡ Err fault = search rules in
    let fails : Fails c.in_ok-parse.field-0 c.args.events.now c.args.draft.now fault = rw c.in-Event.is (inr (h, complete, c.in_err-read_event-in-Event.ensures)) in
    rw is (inr (said.0, said.1, inr (c.in_ok-parse.field-0, said.2, fails)))

pub returns-in_ok-read_event-in-Event : goal.returns-in_ok-read_event-in-Event
returns-in_ok-read_event-in-Event c =
    let said = c.in_ok-parse.ensures in
    let h = c.in_ok-header-in-Event.header in
    let ok : c.complete.result ≡ Ok h = search rules in
    let complete : Completes c.args.draft.now h = MatchResult-at_ok (Completes c.args.draft.now) _ h ok c.complete.ensures in
    (said.0, c.in_ok-parse.field-0, said.1, said.2, rw c.in-Event.is (refl, (h, complete, c.in_ok-read_event-in-Event.ensures)))
