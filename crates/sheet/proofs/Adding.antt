-- What a line adds, as the invariant of the reading takes it.
use Rattle.std.proofs.Common.{◌≡◌, ℕ, List, [], ◌∷◌, ◌++◌, ◌+◌, ◌<◌, ◌≤◌, ◌⊎◌, inl, inr, drop, Some, None, Option, Bor, All, length, vec_items, ap, refl, ◌∙◌, subst, sym, arith}
use Rattle.std.proofs.lemmas.List.Elements.{All-push, All-weaker}
use Rattle.std.proofs.lemmas.List.Quantifiers.{all_pairs_push}
use Rattle.std.specs.Option.{IfSome}
use Rattle.calendar.specs.Months.{month_of}
use Rattle.std.specs.Iterator.{AlwaysYields}
use Rattle.std.specs.Str.Iter.{lines_rest, lines_steps}
use Rattle.std.specs.Str.Lines.{lines}
use Rattle.std.specs.Str.{EmptyOrStartsWithPassing, IsUtf8}
use Rattle.std.specs.Char.{encode_utf8, is_newline}
use Rattle.std.proofs.Common.{append_assoc, append-nil, length-append, length-drop}
use Rattle.std.proofs.lemmas.Str.{len_utf8_bounds, length-encode}
use Rattle.std.proofs.Common.{true, false, Ok, Err, Result, is_ok}
use Rattle.std.specs.Result.{MatchResult}
use Rattle.std.proofs.lemmas.Bool.{both_ways, cases_order}
use Rattle.std.specs.declared.str.Lines.{Lines}
use Rattle.std.proofs.lemmas.Iterator.Splits.{YieldsList-from_lines}
use Rattle.settlement.specs.declared.events.Event.{Event}
use Rattle.sheet_words.specs.declared.faults.LineFault.{LineFault}
use Rattle.sheet_words.specs.declared.faults.SheetFault.{SheetFault}
use Rattle.sheet_words.specs.declared.keys.Word.{Word}
use Rattle.sheet_words.specs.declared.statements.Statement.{Statement}
use Rattle.sheet_values.specs.Refusals.{Refuses}
use Rattle.sheet_words.specs.declared.statements.Statement.TheVariants.{Blank, Header as HeaderLine, Event as EventLine}
use Rattle.sheet_values.specs.declared.noted.Draft.{Draft}
use Rattle.sheet_values.specs.declared.noted.Noted.{Noted}
use Rattle.sheet.specs.Reading.{Adds, blank, Fails, LineFails, told_on, WritesNone, LineAdds, noted_on, Reads}
use Rattle.sheet.specs.Sheets.{FallsIn, Rising, Sound}
use Rattle.sheet_values.specs.Drafts.{Completes}
use Rattle.sheet.specs.declared.sheets.Sheet.{Sheet}

-- a text that was read is UTF-8
pub utf8_of : {E : Type 0} (text : List ℕ) (r : Result (Bor (List ℕ)) E) (Q : E → Type 0) → is_ok r ≡ true → MatchResult r (λ s. (s.now ≡ text) × IsUtf8 text) Q → IsUtf8 text
utf8_of text (Ok s) Q o m = m.1
utf8_of text (Err e) Q o m = absurd (both_ways false refl o)

-- an event's day is one of the month that is noted
abbrev pub DatedIn : Draft → Event → Type 0
DatedIn d e = IfSome d.month (λ month. month_of e.day.number ≡ month.value.number)

-- a line's event lies in the month that is noted, and leaves it as it is; and nothing is noted after the first of the events
abbrev pub Extends : List (Noted Event) → Draft → Draft → Option Event → Type 0
Extends events d e (Some event) = (e ≡ d) × DatedIn d event
Extends [] d e None = Unit {0}
Extends (first ∷ events) d e None = e ≡ d

adds : (n : ℕ) (s : Statement) (events : List (Noted Event)) (d e : Draft) (event : Option Event) → Adds n s events d e event → Extends events d e event
adds n Blank [] d e None a = tt
adds n Blank (x ∷ xs) d e None a = a
adds n (HeaderLine word text) [] d e None a = tt
adds n (HeaderLine word text) (x ∷ xs) d e None a = let none = ap length a.0 in absurd (omega arith)
adds n (EventLine w) events d e (Some event) a = (a.0, subst (λ m. IfSome m (λ month. month_of event.day.number ≡ month.value.number)) (sym a.1.1.month.1) a.1.2.in_month)
adds n Blank events d e (Some event) a = absurd a
adds n (HeaderLine word text) events d e (Some event) a = absurd a
adds n (EventLine w) [] d e None a = absurd a
adds n (EventLine w) (x ∷ xs) d e None a = absurd a

extends : (n : ℕ) (line : List ℕ) (events : List (Noted Event)) (d e : Draft) (event : Option Event) → LineAdds n line events d e event → Extends events d e event
extends n line events d e event a = adds n a.1 events d e event a.4

-- a word of the header is refused where no event came before
pub header_fails : (word : Word) (text : Bor (List ℕ)) (events : List (Noted Event)) (d : Draft) (fault : LineFault) → events ≡ [] → Refuses word text.now d fault → Fails (HeaderLine word text) events d fault
header_fails word text [] d fault e r = r
header_fails word text (first ∷ events) d fault e r = let none = ap length e in absurd (omega arith)

abbrev pub Below : ℕ → List (Noted Event) → Type 0
Below n = All (λ x. x.line < n)

abbrev pub Dated : Draft → List (Noted Event) → Type 0
Dated d = All (λ x. DatedIn d x.value)

dated : (n : ℕ) (events : List (Noted Event)) (d e : Draft) (event : Option Event) → Dated d events → Extends events d e event → Dated e (noted_on n event events)
dated n events d e (Some event) h x = subst (λ f. Dated f (events ++ (record { value = event; line = n } ∷ []))) (sym x.0) (All-push (λ y. DatedIn d y.value) events (record { value = event; line = n }) h x.1)
dated n [] d e None h x = λ k y l. absurd (omega arith)
dated n (first ∷ events) d e None h x = subst (λ f. Dated f (first ∷ events)) (sym x) h

rising : (n : ℕ) (events : List (Noted Event)) (event : Option Event) → Rising events → Below n events → Rising (noted_on n event events)
rising n events None r b = r
rising n events (Some event) r b = all_pairs_push (λ x y. x.line < y.line) events (record { value = event; line = n }) r b

below : (n : ℕ) (events : List (Noted Event)) (event : Option Event) → Below n events → Below (n + 1) (noted_on n event events)
below n events None b = All-weaker (λ x. x.line < n) (λ x. x.line < n + 1) (λ x l. omega arith) events b
below n events (Some event) b =
    All-push (λ x. x.line < n + 1) events (record { value = event; line = n }) (All-weaker (λ x. x.line < n) (λ x. x.line < n + 1) (λ x l. omega arith) events b) (omega arith)

-- a line takes a byte or more of what is left
shorter : (s t : Lines) (x : Bor (List ℕ)) → lines_steps s (Some x) t → length (lines_rest t) < length (lines_rest s)
shorter s t x step = by step.0.2.0 step.0.0 step.0.2.2 step.0.2.3 (cases_order step.0.2.0 (length (lines_rest s)))
  where
    by : (k : ℕ) → 0 < length (lines_rest s) → EmptyOrStartsWithPassing is_newline (drop k (lines_rest s)) (lines_rest t) → k + length (lines_rest t) ≤ length (lines_rest s) → (k ≡ length (lines_rest s)) ⊎ ((k < length (lines_rest s)) ⊎ (length (lines_rest s) < k)) → length (lines_rest t) < length (lines_rest s)
    by k some starts fits (inl e) = omega arith
    by k some starts fits (inr (inr gt)) = omega arith
    by k some starts fits (inr (inl lt)) =
        let cut = length-drop k (lines_rest s) in
        let first = starts (omega arith) in
        let one = len_utf8_bounds first.0 in
        omega (arith, cut, ap length first.2, length-append (encode_utf8 first.0) (lines_rest t), length-encode first.0)

-- one line more
reads_push : (m : ℕ) (xs : List (List ℕ)) (line : List ℕ) (c d e : Draft) (none events : List (Noted Event)) (event : Option Event) (k : ℕ) → k ≡ m + length xs →
    Reads m xs c none d events → LineAdds k line events d e event → Reads m (xs ++ (line ∷ [])) c none e (noted_on k event events)
reads_push m [] line c d e none events event k place r adds =
    let here : k ≡ m = omega arith in (
      e,
      event,
      subst (λ i. LineAdds i line none c e event) here (subst (λ es. LineAdds k line es c e event) r.1 (subst (λ f. LineAdds k line events f e event) r.0 adds)),
      (refl, ap (λ i. noted_on i event events) here ∙ ap (noted_on m event) r.1),
    )
reads_push m (x ∷ xs) line c d e none events event k place r adds =
    (r.0, r.1, r.2, reads_push (m + 1) xs line r.0 d e (noted_on m r.1 none) events event k (omega arith) r.3 adds)

-- What is read when line n comes next: the lines of the events rise, and they lie in the month that is noted;
-- and the lines before, which are read, and those that are left are all of the text's.
pub record SoFar (text : List ℕ) (it : Lines) (n : ℕ) (d : Draft) (events : List (Noted Event)) : Type 0 where
  pub rises : Rising events
  pub read : Below n events
  pub dates : Dated d events
  pub counted : n + length (lines_rest it) ≤ 1 + length text
  pub before : List (List ℕ)
  pub rest : List (List ℕ)
  pub whole : lines text ≡ before ++ rest
  pub place : n ≡ 1 + length before
  pub behind : Reads 1 before blank [] d events
  pub gives : AlwaysYields lines_steps (λ x. x.now) it rest

begins : (text : List ℕ) (it : Lines) → lines_rest it ≡ text → SoFar text it 1 blank []
begins text it whole =
    record {
      rises = λ i j d l m. absurd (omega arith);
      read = λ k d l. absurd (omega arith);
      dates = λ k d l. absurd (omega arith);
      counted = rw whole (omega arith);
      before = [];
      rest = lines text;
      whole = refl;
      place = refl;
      behind = (refl, refl);
      gives = (YieldsList-from_lines text whole).runs;
    }

-- the same under the names that the loop has
pub begins_so : (text : List ℕ) (it : Lines) (n : ℕ) (d : Draft) (events : List (Noted Event)) → lines_rest it ≡ text → n ≡ 1 → d ≡ blank → events ≡ [] → SoFar text it n d events
begins_so text it n d events whole first nothing none =
    subst (λ i. SoFar text it i d events) (sym first) (subst (λ f. SoFar text it 1 f events) (sym nothing) (subst (λ es. SoFar text it 1 blank es) (sym none) (begins text it whole)))

module _ {text : List ℕ} {it : Lines} {n : ℕ} {d : Draft} {events : List (Noted Event)} (so : SoFar text it n d events) where
  -- the line that comes is the first of those that are left
  next : (x : Bor (List ℕ)) (j : Lines) → lines_steps it (Some x) j → (rest : List (List ℕ)) × (so.rest ≡ x.now ∷ rest) × AlwaysYields lines_steps (λ x. x.now) j rest
  next x j step = by so.rest so.gives
    where
      by : (rest : List (List ℕ)) → AlwaysYields lines_steps (λ x. x.now) it rest → (more : List (List ℕ)) × (rest ≡ x.now ∷ more) × AlwaysYields lines_steps (λ x. x.now) j more
      by [] none = absurd (none x j step)
      by (line ∷ rest) gives = let here = gives.1 x j step in (rest, ap (λ l. l ∷ rest) (sym here.0), here.1)

  goes : (x : Bor (List ℕ)) (j : Lines) (e : Draft) (event : Option Event) → lines_steps it (Some x) j → LineAdds n x.now events d e event → SoFar text j (n + 1) e (noted_on n event events)
  goes x j e event step adds =
      let more = next x j step in
      record {
        rises = rising n events event so.rises so.read;
        read = below n events event so.read;
        dates = dated n events d e event so.dates (extends n x.now events d e event adds);
        counted = let less = shorter it j x step in let so_far = so.counted in omega arith;
        before = so.before ++ (x.now ∷ []);
        rest = more.0;
        whole = so.whole ∙ ap (λ ls. so.before ++ ls) more.1 ∙ sym (append_assoc so.before (x.now ∷ []) more.0);
        place = omega (arith, so.place, length-append so.before (x.now ∷ []));
        behind = reads_push 1 so.before x.now blank d e [] events event n so.place so.behind adds;
        gives = more.2;
      }

  -- the next line, under the names that the loop has for its numbers and lists
  pub goes_on : (x : Bor (List ℕ)) (j : Lines) (e : Draft) (event : Option Event) (k m : ℕ) (seen after : List (Noted Event)) → lines_steps it (Some x) j →
      k ≡ n → m ≡ n + 1 → seen ≡ events → after ≡ noted_on k event seen → LineAdds k x.now seen d e event → SoFar text j m e after
  goes_on x j e event k m seen after step number later same noted adds =
      subst (λ i. SoFar text j i e after) (sym later)
      (subst (λ es. SoFar text j (n + 1) e es) (sym (noted ∙ ap (λ i. noted_on i event seen) number ∙ ap (noted_on n event) same))
      (goes x j e event step (subst (λ i. LineAdds i x.now events d e event) number (subst (λ es. LineAdds k x.now es d e event) same adds))))

  -- the next line fails
  pub fails : IsUtf8 text → (x : Bor (List ℕ)) (j : Lines) (k : ℕ) (seen : List (Noted Event)) (why : LineFault) (fault : SheetFault) → lines_steps it (Some x) j → k ≡ n → seen ≡ events → LineFails x.now seen d why → fault ≡ told_on k why →
      WritesNone text fault
  fails utf8 x j k seen why fault step number same bad told =
      let more = next x j step in
      inr (inr (inl (
        utf8,
        so.before,
        x.now,
        why,
        record {
          after = more.0;
          is = so.whole ∙ ap (λ ls. so.before ++ ls) more.1;
          draft = d;
          events = events;
          reads = so.behind;
          fails = subst (λ es. LineFails x.now es d why) same bad;
        },
        told ∙ ap (λ i. told_on i why) (number ∙ so.place),
      )))

  -- no line is left
  pub ends : (u : Lines) → lines_steps it None u → Reads 1 (lines text) blank [] d events
  ends u step = subst (λ ls. Reads 1 ls blank [] d events) (sym (so.whole ∙ ap (λ ls. so.before ++ ls) (by so.rest so.gives) ∙ append-nil so.before)) so.behind
    where
      by : (rest : List (List ℕ)) → AlwaysYields lines_steps (λ x. x.now) it rest → rest ≡ []
      by [] none = refl
      by (line ∷ rest) gives = absurd (gives.0 u step)

  -- what is read is a sound sheet, under a header that it makes complete
  pub sound : (sheet : Sheet) → Completes d sheet.header → vec_items sheet.events ≡ events → Sound sheet
  sound sheet complete same =
      record {
        rising = subst Rising (sym same) so.rises;
        in_month = subst (All (λ x. FallsIn sheet.header x.value)) (sym same)
            (All-weaker (λ x. DatedIn d x.value) (λ x. FallsIn sheet.header x.value) (λ x h. subst (λ m. IfSome m (λ month. month_of x.value.day.number ≡ month.value.number)) complete.month.1 h) events so.dates);
      }
