-- A walk of a new tree beside the old one, place by place.
use Rattle.std.proofs.Common.{◌≡◌, ℕ, zero, suc, ◌+◌, ◌<◌, ◌≤◌, Bool, not, ◌&&◌, List, [], ◌∷◌, length, get_or, drop, Option, Some, None, refl, ap, sym, ◌∙◌, flat_map, add-one}
use Rattle.std.proofs.lemmas.List.{drop_all}
use Rattle.std.proofs.Math.Seq.{drop-cons}
use Rattle.rx_elem.specs.Trees.{Node, node, Forest, vacant, forest, elements_in, mark_of, is_hidden, children_of, children_if, fallback_of, fallback_if}
use Rattle.rx_elem.specs.Compare.{Past, pasts, Above, Change, change_of, above_children, above_fallback, gone_from, compare, compare_in}
use Rattle.rx_effect.specs.EffectLog.{destroyed_in, own_destroyed, own_created}
use Rattle.rx_changes.specs.Below.{compared_of, with_below}
use Rattle.rx_changes.specs.Found.{Found, with_changes, with_effects, no_effects, logged, hiding, with_node, with_list}
use Rattle.rx_changes.proofs.Sums.{node-sum, list-sum, none-sum}

-- what is left begins with the item at the place
front : {A : Type 0} (xs : List A) (k : ℕ) (x : A) → k < length xs → x ≡ get_or xs k x → drop k xs ≡ x ∷ drop (k + 1) xs
front xs k x h e = rw add-one (drop-cons xs k x h ∙ ap (λ a. a ∷ drop (suc k) xs) (sym e))

-- a child more
pub list-child : (a : Above) (ps : List Past) (ns : List (Option Node)) (k : ℕ) (x : Option Node) (p : Past) (n : Node) (logs : Bool) (f g whole : Found)
    → k < length ns → x ≡ get_or ns k x → x ≡ Some n → drop k ps ≡ p ∷ drop (k + 1) ps → g ≡ with_node logs (compare a p n) f
    → with_list logs (compare_in a (drop k ps) (forest (drop k ns))) f ≡ whole
    → with_list logs (compare_in a (drop (k + 1) ps) (forest (drop (k + 1) ns))) g ≡ whole
list-child a ps ns k x p n logs f g whole h e some past is so_far =
    ap (with_list logs (compare_in a (drop (k + 1) ps) (forest (drop (k + 1) ns)))) is
    ∙ list-sum logs (compare a p n) (compare_in a (drop (k + 1) ps) (forest (drop (k + 1) ns))) f
    ∙ ap (λ y. with_list logs (compare_in a (p ∷ drop (k + 1) ps) (forest (y ∷ drop (k + 1) ns))) f) (sym some)
    ∙ ap (λ xs. with_list logs (compare_in a (p ∷ drop (k + 1) ps) (forest xs)) f) (sym (front ns k x h e))
    ∙ ap (λ xs. with_list logs (compare_in a xs (forest (drop k ns))) f) (sym past)
    ∙ so_far

passed_by : (a : Above) (ps : List Past) (k : ℕ) (ns : Forest) → compare_in a (drop (suc k) ps) ns ≡ compare_in a (drop k ps) (vacant ns)
passed_by a [] zero ns = refl
passed_by a [] (suc k) ns = refl
passed_by a (p ∷ ps) zero ns = refl
passed_by a (p ∷ ps) (suc k) ns = passed_by a ps k ns

-- a place without a child is passed by
pub list-vacant : (a : Above) (ps : List Past) (ns : List (Option Node)) (k : ℕ) (x : Option Node) (logs : Bool) (f g whole : Found)
    → k < length ns → x ≡ get_or ns k x → x ≡ None → g ≡ f
    → with_list logs (compare_in a (drop k ps) (forest (drop k ns))) f ≡ whole
    → with_list logs (compare_in a (drop (k + 1) ps) (forest (drop (k + 1) ns))) g ≡ whole
list-vacant a ps ns k x logs f g whole h e none same so_far =
    ap (with_list logs (compare_in a (drop (k + 1) ps) (forest (drop (k + 1) ns)))) same
    ∙ ap (λ j. with_list logs (compare_in a (drop j ps) (forest (drop (k + 1) ns))) f) (add-one k)
    ∙ ap (λ cs. with_list logs cs f) (passed_by a ps k (forest (drop (k + 1) ns)))
    ∙ ap (λ y. with_list logs (compare_in a (drop k ps) (forest (y ∷ drop (k + 1) ns))) f) (sym none)
    ∙ ap (λ xs. with_list logs (compare_in a (drop k ps) (forest xs)) f) (sym (front ns k x h e))
    ∙ so_far

-- none is left at the end
pub list-end : (a : Above) (ps : List Past) (ns : List (Option Node)) (k : ℕ) (logs : Bool) (f whole : Found)
    → length ns ≤ k → with_list logs (compare_in a (drop k ps) (forest (drop k ns))) f ≡ whole → f ≡ whole
list-end a ps ns k logs f whole h so_far =
    sym (none-sum logs f) ∙ ap (λ xs. with_list logs (compare_in a (drop k ps) (forest xs)) f) (sym (drop_all k ns h)) ∙ so_far

-- all below a node by its parts
pub below-parts : (logs : Bool) (c : Change) (f f2 f3 f4 f5 f6 : Found)
    → f2 ≡ with_effects (logged logs (λ q. flat_map (destroyed_in q) (gone_from (above_children c).was_visible (children_if c.old) (children_of c.new)))) no_effects f
    → f3 ≡ with_effects (logged logs (λ q. flat_map (destroyed_in q) (gone_from c.was_visible (fallback_if c.old) (fallback_of c.new)))) no_effects f2
    → f4 ≡ with_list (logs && not (is_hidden (mark_of c.new))) (compare_in (above_children c) (pasts (children_if c.old) (elements_in (children_of c.new))) (children_of c.new)) f3
    → f5 ≡ with_effects (logged logs (hiding c)) no_effects f4
    → f6 ≡ with_list logs (compare_in (above_fallback c) (pasts (fallback_if c.old) (elements_in (fallback_of c.new))) (fallback_of c.new)) f5
    → f6 ≡ with_below logs c f
below-parts logs c f f2 f3 f4 f5 f6 e2 e3 e4 e5 e6 =
    let gone = gone_from (above_children c).was_visible (children_if c.old) (children_of c.new) in
    let behind = gone_from c.was_visible (fallback_if c.old) (fallback_of c.new) in
    let below = compare_in (above_children c) (pasts (children_if c.old) (elements_in (children_of c.new))) (children_of c.new) in
    let beside = compare_in (above_fallback c) (pasts (fallback_if c.old) (elements_in (fallback_of c.new))) (fallback_of c.new) in
    e6
    ∙ ap (with_list logs beside)
    (e5
    ∙ ap (with_effects (logged logs (hiding c)) no_effects)
    (e4
    ∙ ap (with_list (logs && not (is_hidden (mark_of c.new))) below)
    (e3
    ∙ ap (with_effects (logged logs (λ q. flat_map (destroyed_in q) behind)) no_effects)
    (e2 ∙ ap (with_effects (logged logs (λ q. flat_map (destroyed_in q) gone)) no_effects) refl))))

-- a node, with what is below it and its own effects
pub node-parts : (logs : Bool) (c : Change) (f f1 f2 f3 : Found) → f1 ≡ with_changes (c ∷ []) f → f2 ≡ with_below logs c f1
    → f3 ≡ with_effects (logged logs (λ q. own_destroyed q c)) (logged logs (λ q. own_created q c)) f2 → f3 ≡ with_node logs (compared_of c) f
node-parts logs c f f1 f2 f3 e1 e2 e3 =
    e3
    ∙ ap (with_effects (logged logs (λ q. own_destroyed q c)) (logged logs (λ q. own_created q c))) (e2 ∙ ap (with_below logs c) e1)
    ∙ node-sum logs c (gone_from (above_children c).was_visible (children_if c.old) (children_of c.new)) (gone_from c.was_visible (fallback_if c.old) (fallback_of c.new))
    (compare_in (above_children c) (pasts (children_if c.old) (elements_in (children_of c.new))) (children_of c.new))
    (compare_in (above_fallback c) (pasts (fallback_if c.old) (elements_in (fallback_of c.new))) (fallback_of c.new)) f

-- a node beside its past
pub compare-step : (a : Above) (p : Past) (n : Node) (c : Change) → c ≡ change_of a p n → compared_of c ≡ compare a p n
compare-step a p (node e m ns ms) c is = ap compared_of is
