-- What is found below a node.
use Rattle.std.specs.Prelude.{◌≡◌, Bool, true, false, not, ◌&&◌, flat_map, length}
use Rattle.rx_elem.specs.Trees.{none, mark_of, is_hidden, elements_in, children_of, children_if, fallback_of, fallback_if, places}
use Rattle.rx_elem.specs.Compare.{Change, Compared, compared, pasts, above_children, above_fallback, gone_below, gone_from, compare_in}
use Rattle.rx_effect.specs.EffectLog.{destroyed_in}
use Rattle.rx_node.specs.Texts.{are_texts}
use Rattle.rx_changes.specs.Found.{Found, hiding, logged, no_effects, with_effects, with_list}

-- neither a node nor its past has anything below it
pub record IsLeaf (c : Change) : Type 0 where
  pub old : children_if c.old ≡ none
  pub behind : fallback_if c.old ≡ none
  pub new : children_of c.new ≡ none
  pub beside : fallback_of c.new ≡ none

-- a node and its past have texts alone below them, as many, and these stay where they are and visible or not as they were
pub record HasTextsInPlace (c : Change) : Type 0 where
  pub old : are_texts (children_if c.old) ≡ true
  pub new : are_texts (children_of c.new) ≡ true
  pub same : length (places (children_if c.old)) ≡ length (places (children_of c.new))
  pub behind : fallback_if c.old ≡ none
  pub beside : fallback_of c.new ≡ none
  pub still : (above_children c).displaced ≡ false
  pub shown : is_hidden (mark_of c.new) ≡ false

-- what is found, with that of all below a node: what is gone of its children and of its fallback, its children, what hiding them does, and its fallback
abbrev pub with_below : (logs : Bool) → Change → Found → Found
with_below logs c f =
    let gone = gone_from (above_children c).was_visible (children_if c.old) (children_of c.new) in
    let behind = gone_from c.was_visible (fallback_if c.old) (fallback_of c.new) in
    let kids = compare_in (above_children c) (pasts (children_if c.old) (elements_in (children_of c.new))) (children_of c.new) in
    let others = compare_in (above_fallback c) (pasts (fallback_if c.old) (elements_in (fallback_of c.new))) (fallback_of c.new) in
    with_list logs others
    (with_effects (logged logs (hiding c)) no_effects
    (with_list (logs && not (is_hidden (mark_of c.new))) kids
    (with_effects (logged logs (λ q. flat_map (destroyed_in q) behind)) no_effects
    (with_effects (logged logs (λ q. flat_map (destroyed_in q) gone)) no_effects f))))

-- the same of a node that has no fallback, as its past has none: what is gone of its children, its children, and what hiding them does
abbrev pub with_children : (logs : Bool) → Change → Found → Found
with_children logs c f =
    let gone = gone_from (above_children c).was_visible (children_if c.old) (children_of c.new) in
    let kids = compare_in (above_children c) (pasts (children_if c.old) (elements_in (children_of c.new))) (children_of c.new) in
    with_effects (logged logs (hiding c)) no_effects
    (with_list (logs && not (is_hidden (mark_of c.new))) kids
    (with_effects (logged logs (λ q. flat_map (destroyed_in q) gone)) no_effects f))

-- a node beside its past, with all below it
abbrev pub compared_of : Change → Compared
compared_of c =
    compared c (gone_below c)
    (compare_in (above_children c) (pasts (children_if c.old) (elements_in (children_of c.new))) (children_of c.new))
    (compare_in (above_fallback c) (pasts (fallback_if c.old) (elements_in (fallback_of c.new))) (fallback_of c.new))
