-- The three programmes: economic bidding (E), joint bidding (J), reliable bidding (R).
use Rattle.std.specs.Prelude.{◌≡◌, ◌≢◌, ℕ, Bool, true, false, List, [], ◌∷◌, Result, MatchResult}
use Rattle.programme.specs.declared.codes.Code.{Code}
use Rattle.programme.specs.declared.codes.Code.TheVariants.{Economic, JointBidding, Reliable}
use Rattle.programme.specs.declared.codes.UnknownProgramme.{UnknownProgramme}
use Rattle.programme.specs.declared.figures.Fold.TheVariants.{Sum, Peak}
use Rattle.programme.specs.Formulas.{economic_event, economic_basic, reliable_event, reliable_basic}
use Rattle.programme.specs.Meaning.{Meaning}

-- All three allow events of 2 and of 4 hours.
abbrev pub two_or_four : List Bool
two_or_four = false ∷ false ∷ true ∷ false ∷ true ∷ false ∷ false ∷ []

-- What E and J share, which differ in their letter and in the lowest reduction:
-- five baseline days, all year, at most 36 hours a month, offers before 10:00, late notices taken, readings added up.
abbrev pub bidding : ℕ → ℕ → Meaning
bidding letter lowest =
    record {
      figures = record { code = letter; baseline_days = 5; lowest_kw = lowest; hours = two_or_four; first_month = 1; last_month = 12; cap_hours = 36; deadline = 40; late_notices = true; fold = Sum };
      event = economic_event lowest;
      basic = economic_basic;
    }

-- E: at least 20 kW.
abbrev pub economic : Meaning
economic = bidding 69 20

-- J: at least 100 kW.
abbrev pub joint_bidding : Meaning
joint_bidding = bidding 74 100

-- R: five baseline days, at least 50 kW, May to December, at most 28 hours a month, offers before 11:00, no late notices, the largest reading.
abbrev pub reliable : Meaning
reliable =
    record {
      figures = record { code = 82; baseline_days = 5; lowest_kw = 50; hours = two_or_four; first_month = 5; last_month = 12; cap_hours = 28; deadline = 44; late_notices = false; fold = Peak };
      event = reliable_event;
      basic = reliable_basic;
    }

-- What each code stands for.
abbrev pub meaning_of : Code → Meaning
meaning_of Economic = economic
meaning_of JointBidding = joint_bidding
meaning_of Reliable = reliable

-- The letters E, J and R as characters.
abbrev pub letter_of : Code → ℕ
letter_of Economic = 69
letter_of JointBidding = 74
letter_of Reliable = 82

-- What a letter names: the programme that has it, or none where no programme has it.
abbrev pub NamesProgramme : ℕ → Result Code UnknownProgramme → Type 0
NamesProgramme letter result =
    MatchResult result (λ code. letter ≡ letter_of code) (λ _. (code : Code) → letter ≢ letter_of code)

-- What a text names: the programme whose letter it is, and nothing but the letter; or none.
abbrev pub ParsesProgramme : List ℕ → Result Code UnknownProgramme → Type 0
ParsesProgramme text result =
    MatchResult result (λ code. text ≡ letter_of code ∷ []) (λ _. (code : Code) → text ≢ letter_of code ∷ [])
