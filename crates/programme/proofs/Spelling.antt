-- A letter as a character and as the only byte of a text.
use Rattle.std.proofs.Common.{◌≡◌, ◌≢◌, ℕ, ◌<◌, List, [], ◌∷◌, ◌++◌, Ok, Err, Result, sym, ap, ◌∙◌, lit<, lit≤}
use lib.Utf8.{low_scalar}
use Rattle.std.proofs.Common.{le_trans}
use Rattle.std.specs.Char.{encode_utf8, IsScalar}
use Rattle.std.proofs.lemmas.Str.{encode_ascii, encode_same}
use Rattle.programme.specs.declared.codes.Code.{Code}
use Rattle.programme.specs.declared.codes.Code.TheVariants.{Economic, JointBidding, Reliable}
use Rattle.programme.specs.declared.codes.UnknownProgramme.{UnknownProgramme}
use Rattle.programme.specs.Programmes.{letter_of, NamesProgramme, ParsesProgramme}

small : (code : Code) → letter_of code < 128
small Economic = lit< tt
small JointBidding = lit< tt
small Reliable = lit< tt

spelt : (code : Code) → encode_utf8 (letter_of code) ≡ letter_of code ∷ []
spelt code = encode_ascii (letter_of code) (small code)

-- the letter of a text with one character names what the text names
pub named : (text : List ℕ) (letter : ℕ) (r : Result Code UnknownProgramme) → text ≡ encode_utf8 letter → NamesProgramme letter r → ParsesProgramme text r
named text letter (Ok code) e n = e ∙ ap encode_utf8 n ∙ spelt code
named text letter (Err u) e n =
    λ code t. n code (encode_same letter (letter_of code) [] [] (ap (λ x. x ++ []) (sym e ∙ t ∙ sym (spelt code)))).0

-- a text that is no character is no programme's letter
pub unnamed : (text : List ℕ) → ((c : ℕ) → IsScalar c → text ≢ encode_utf8 c) → (code : Code) → text ≢ letter_of code ∷ []
unnamed text none code t = none (letter_of code) (low_scalar (letter_of code) (le_trans (small code) (lit≤ tt))) (t ∙ sym (spelt code))
