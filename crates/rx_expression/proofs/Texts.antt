-- Texts that name a resource.
use Rattle.std.proofs.Common.{◌≡◌, ℕ, ◌<◌, List, [], ◌∷◌, length, refl, arith}
use Rattle.std.specs.List.{list_all}
use Rattle.rx_lex.specs.Tokens.{is_word_byte}
use Rattle.rx_grammar.specs.Reading.{is_resource}

pub resource_is : (r : List ℕ) → 0 < length r → is_resource r ≡ list_all is_word_byte r
resource_is [] h = absurd (omega arith)
resource_is (b ∷ bs) h = refl
