-- The parts of an opening tag.
use Rattle.std.specs.Prelude.{List, [], ◌∷◌, codes}
use Rattle.std.specs.List.{flat_map}
use Rattle.rx_lex.specs.declared.token.Keyword.TheVariants as word
use Rattle.rx_lex.specs.declared.token.Kind.{Kind}
use Rattle.rx_lex.specs.declared.token.Kind.TheVariants.{Upper, Lower, Word}
use Rattle.rx_ast.specs.SlotView.{key_place_of}
use Rattle.rx_ast.specs.declared.slot.Tag.{Tag}
use Rattle.rx_ast.specs.declared.slot.Tag.TheVariants as tag
use Rattle.rx_print.specs.Printing.{expr_tokens, attribute_tokens, keyed, given, provider_name, slot_tokens}

-- the name of an element, as it stands in its tags
abbrev pub name_tokens : Tag → List Kind
name_tokens (tag.Host x attrs) = Lower x ∷ []
name_tokens (tag.Component x attrs) = Upper x ∷ []
name_tokens (tag.Suspense k s) = Word word.Suspense ∷ []
name_tokens (tag.Catch k s) = Word word.Catch ∷ []
name_tokens (tag.Provider x k e) = provider_name x

-- what stands behind the name in the opening tag
abbrev pub given_tokens : Tag → List Kind
given_tokens (tag.Host x attrs) = flat_map attribute_tokens attrs.items
given_tokens (tag.Component x attrs) = flat_map attribute_tokens attrs.items
given_tokens (tag.Suspense k s) = keyed (key_place_of k) (given (Lower (codes "fallback")) (slot_tokens s.value))
given_tokens (tag.Catch k s) = keyed (key_place_of k) (given (Lower (codes "fallback")) (slot_tokens s.value))
given_tokens (tag.Provider x k e) = keyed (key_place_of k) (given (Lower (codes "value")) (expr_tokens e.value))
