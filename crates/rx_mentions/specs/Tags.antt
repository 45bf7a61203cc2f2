-- What the opening tag of an element mentions.
use Rattle.std.specs.Prelude.{Bool, false, List, ◌∷◌, ◌++◌, length}
use Rattle.rx_ast.specs.SlotView.{key_place_of}
use Rattle.rx_ast.specs.declared.slot.Tag.{Tag}
use Rattle.rx_ast.specs.declared.slot.Tag.TheVariants as tag
use Rattle.rx_mentions.specs.Mentions.{Scope, expr_mentions, attributes_mentions, given_names, first_key_mentions, last_key_mentions, taken_first, slot_mentions}
use Rattle.rx_mentions.specs.declared.count.Count.TheVariants as count
use Rattle.rx_mentions.specs.Mention.{Mention}
use Rattle.rx_mentions.specs.Mention as mention

-- what the opening tag of an element mentions, which is filled or not
abbrev pub tag_mentions : Scope → (second filled : Bool) → Tag → List Mention
tag_mentions s second filled (tag.Host n attrs) =
    mention.Host n ∷ mention.Counted count.Attributes (length attrs.items) ∷ attributes_mentions s.values (taken_first second) attrs.items
tag_mentions s second filled (tag.Component n attrs) =
    mention.Element n (given_names attrs.items) filled
    ∷ mention.Counted count.Attributes (length attrs.items)
    ∷ attributes_mentions s.values (taken_first second) attrs.items
tag_mentions s second filled (tag.Suspense k f) =
    first_key_mentions s.values second (key_place_of k) ++ (slot_mentions s false f.value ++ last_key_mentions s.values second (key_place_of k))
tag_mentions s second filled (tag.Catch k f) =
    first_key_mentions s.values second (key_place_of k) ++ (slot_mentions s false f.value ++ last_key_mentions s.values second (key_place_of k))
tag_mentions s second filled (tag.Provider n k e) =
    mention.Context n
    ∷ (first_key_mentions s.values second (key_place_of k) ++ (expr_mentions s.values e.value ++ last_key_mentions s.values second (key_place_of k)))
