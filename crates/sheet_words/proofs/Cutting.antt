-- The words that the library cuts off a text are the words of the text.
use Rattle.std.proofs.Common.{◌≡◌, ◌≢◌, ℕ, ◌-◌, ◌≤◌, List, [], ◌∷◌, length, take, drop, Some, None, Option, Ok, Err, Result, Bor, sym, refl, ap, ◌∙◌, subst, inl, arith}
use Rattle.std.proofs.lemmas.List.{take_all}
use Rattle.std.specs.Option.{MatchOption, ok_or}
use Rattle.std.specs.Result.{IsErrAnd, MatchResult}
use Rattle.std.specs.List.{slice_index_or}
use Rattle.std.specs.Iterator.{DrainsIf, Yields}
use Rattle.std.specs.Str.Iter.{split_whitespace_rest, split_whitespace_steps}
use Rattle.std.specs.declared.str.SplitWhitespace.{SplitWhitespace}
use Rattle.sheet_words.specs.declared.faults.Complaint.{Complaint}
use Rattle.sheet_words.specs.declared.faults.Complaint.TheVariants.{UnknownWord}
use Rattle.sheet_words.specs.declared.faults.LineFault.{LineFault}
use Rattle.sheet_words.specs.declared.faults.LineFault.TheVariants.{Wrong, WordCount, Twice, TooSoon, TooLate, Refused as Refusing, Memory}
use Rattle.sheet_words.specs.declared.keys.Word.{Word}
use Rattle.sheet_words.specs.declared.statements.Statement.{Statement}
use Rattle.sheet_words.specs.Faults.{Blames}
use Rattle.sheet_words.specs.Words.{spelling}
use Rattle.sheet_words.specs.Lines.{arity, ReadsLine, Says, SaysNothing, SplitsInto, texts}

run : (s t u : SplitWhitespace) (words : List (Bor (List ℕ))) → Yields split_whitespace_steps s words t → split_whitespace_steps t None u → SplitsInto (split_whitespace_rest s) (texts words)
run s t u [] is none = subst (λ i. SplitsInto (split_whitespace_rest i) []) (sym is) none.1
run s t u (word ∷ words) more none =
    let step = more.1 in (
      split_whitespace_rest more.0,
      record { gap = step.0; split = step.1; nonempty = step.2; gap_is_blank = step.3; word_has_no_space = step.4; rest_begins_blank = step.5 },
      run more.0 t u words more.2 none,
    )

pub cut : (s : SplitWhitespace) (words : List (Bor (List ℕ))) → DrainsIf split_whitespace_steps (Unit {0}) s words → SplitsInto (split_whitespace_rest s) (texts words)
cut s words d = let end = d.2 tt in run s d.0 end.0 words d.1 end.1

-- the first word, and the words behind it
pub first_word : (words : List (Bor (List ℕ))) → 1 ≤ length words → texts words ≡ (slice_index_or words 0 (record { ref_ptr = (0, 0); now = [] })).now ∷ texts (take (length words - 1) (drop 1 words))
first_word [] few = absurd (omega arith)
first_word (w ∷ words) few =
    ap (λ ws. w.now ∷ texts ws) (sym (take_all (length (w ∷ words) - 1) words (omega arith)))

-- an event's six words
pub six : (words : List (Bor (List ℕ))) → length words ≡ 6 → let at : ℕ → List ℕ = λ i. (slice_index_or words i (record { ref_ptr = (0, 0); now = [] })).now in texts words ≡ at 0 ∷ at 1 ∷ at 2 ∷ at 3 ∷ at 4 ∷ at 5 ∷ []
six [] long = absurd (omega arith)
six (a ∷ []) long = absurd (omega arith)
six (a ∷ b ∷ []) long = absurd (omega arith)
six (a ∷ b ∷ c ∷ []) long = absurd (omega arith)
six (a ∷ b ∷ c ∷ d ∷ []) long = absurd (omega arith)
six (a ∷ b ∷ c ∷ d ∷ e ∷ []) long = absurd (omega arith)
six (a ∷ b ∷ c ∷ d ∷ e ∷ f ∷ []) long = refl
six (a ∷ b ∷ c ∷ d ∷ e ∷ f ∷ g ∷ more) long = absurd (omega arith)

-- what a word and those behind it make, or that they are too few or too many
pub counted : (words rest : List (List ℕ)) (word : Word) (given : ℕ) (o : Option Statement) → words ≡ spelling word ∷ rest → given ≡ length rest → MatchOption o (given ≢ arity word) (Says (spelling word ∷ rest)) → MatchResult (ok_or o (WordCount word given)) (Says words) (SaysNothing words)
counted words rest word given None e l m = (rest, e, l, m)
counted words rest word given (Some s) e l m = subst (λ ws. Says ws s) (sym e) m

-- a first word that is none of the sheet's says nothing
pub unknown : (words rest : List (List ℕ)) (first : List ℕ) (complaint : Complaint) (fault : LineFault) → words ≡ first ∷ rest → complaint ≡ UnknownWord → ((word : Word) → first ≢ spelling word) → Blames first complaint fault → SaysNothing words fault
unknown words rest first complaint (Wrong text said) e u none b = (rest, e ∙ ap (λ w. w ∷ rest) (sym b.0), b.1 ∙ u, λ word t. none word (sym b.0 ∙ t))
unknown words rest first complaint (WordCount word given) e u none b = absurd b
unknown words rest first complaint (Twice word line) e u none b = absurd b
unknown words rest first complaint (TooSoon word) e u none b = absurd b
unknown words rest first complaint (TooLate word) e u none b = absurd b
unknown words rest first complaint (Refusing refusal) e u none b = absurd b
unknown words rest first complaint Memory e u none b = tt

-- without memory a line says nothing
pub unread : (line : List ℕ) (r : Result Statement LineFault) → IsErrAnd r (λ fault. fault ≡ Memory) → ReadsLine line r
unread line (Ok s) e = absurd e
unread line (Err fault) e = inl e
