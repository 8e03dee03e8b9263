-- Headers, computed. Assumes nothing.
use Rattle.std.specs.Prelude.{◌≡◌, refl, [], ◌∷◌, ◌++◌}
use Rattle.ground.specs.Basics.{ascii}
use Rattle.ground.specs.Verdict.{verdict, counted, refused}
use Rattle.output.specs.Output.{fitted}
use Rattle.loose_header.specs.Header.{kind_word, digits, decimal, loose_header, header_answer}

pub headers : (loose_header 1 0 ≡ ascii "commit 0" ++ 0 ∷ []) × (loose_header 3 18446744073709551615 ≡ ascii "blob 18446744073709551615" ++ 0 ∷ [])
unfolding kind_word digits decimal loose_header
headers = (refl, refl)

pub answers : (header_answer 1 18446744073709551615 28 ≡ counted 28) × (header_answer 4 100 7 ≡ refused (verdict 8 8)) × (header_answer 5 1 0 ≡ refused (verdict 23 0)) × (header_answer 0 1 9 ≡ refused (verdict 23 0))
unfolding kind_word digits decimal loose_header header_answer fitted
answers = (refl, refl, refl, refl)
