-- Tokens that begin an attribute.
use Rattle.std.proofs.Common.{◌≡◌, ◌||◌, List, [], ◌∷◌, refl}
use Rattle.rx_lex.specs.declared.token.Keyword.TheVariants as word
use Rattle.rx_lex.specs.declared.token.Kind.{Kind}
use Rattle.rx_grammar.specs.Steps.{next, is_word, is_lower}
use Rattle.rx_grammar.specs.Reading.{is_attribute}

pub attribute_next : (ts : List Kind) → next is_attribute ts ≡ (next (is_word word.Key) ts || next is_lower ts)
attribute_next [] = refl
attribute_next (k ∷ ts) = refl
