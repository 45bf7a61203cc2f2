-- Nodes that tell nothing below them, or by effects.
use Rattle.std.proofs.Common.{◌≡◌, Bool, true, false, not, ◌&&◌, ◌||◌, List, [], ◌++◌, Option, Some, None, is_none, refl, ap, sym, ◌∙◌, flat_map, map, if◌then◌else◌}
use Rattle.std.specs.List.{filter, zip}
use Rattle.rx_elem.specs.Trees.{Forest, Node, children_if, children_of, effects_in, elements_in, fallback_if, fallback_of, is_hidden, is_shown, mark_of, none}
use Rattle.rx_elem.specs.Compare.{Change, above_children, above_fallback, compare_in, gone_from, pasts}
use Rattle.rx_elem.specs.Spots.{Around, spots_in}
use Rattle.rx_effect.specs.EffectLog.{Phase, around_old, changed_effects, destroyed_at, destroyed_by_hiding, destroyed_in, differs, is_live, layout, lines_at, own_created, own_destroyed, passive}
use Rattle.rx_effect.specs.declared.log.LogLine.{LogLine}
use Rattle.rx_compare.specs.InPlace.{AreInPlace}
use Rattle.rx_compare.proofs.InPlace.{no_nodes_gone}
use Rattle.rx_changes.specs.Below.{HasTextsInPlace, IsLeaf, with_below, with_children}
use Rattle.rx_changes.specs.Found.{Found, hiding, logged, no_effects, with_effects, with_list}
use Rattle.rx_changes.specs.Owned.{HasNoEffects, effects_if}
use Rattle.rx_changes.proofs.Logged.{lines_at-nil}
use Rattle.rx_changes.proofs.Sums.{none-sum, nothing_more}

abbrev nil : List LogLine
nil = []

either : (b : Bool) → (if b then nil else nil) ≡ nil
either true = refl
either false = refl

-- effects of which there are none add nothing
pub without-effects : (logs : Bool) (destroys creates : Phase → List LogLine) (f : Found) → ((q : Phase) → destroys q ≡ []) → ((q : Phase) → creates q ≡ [])
    → f ≡ with_effects (logged logs destroys) (logged logs creates) f
without-effects logs destroys creates f no_old no_new =
    λ i. record {
      layout = record { destroyed = same destroys no_old layout f.layout.destroyed i; created = same creates no_new layout f.layout.created i };
      passive = record { destroyed = same destroys no_old passive f.passive.destroyed i; created = same creates no_new passive f.passive.created i };
      placed = f.placed;
      caught = f.caught;
      hidden = f.hidden;
    }
  where
    same : (effects : Phase → List LogLine) → ((q : Phase) → effects q ≡ []) → (q : Phase) (ls : List LogLine) → ls ≡ ls ++ logged logs effects q
    same effects empty q ls = sym (nothing_more logs ls) ∙ ap (λ es. ls ++ (if logs then es else [])) (sym (empty q))

pub without-destroyed : (logs : Bool) (destroys : Phase → List LogLine) (f : Found) → ((q : Phase) → destroys q ≡ []) → f ≡ with_effects (logged logs destroys) no_effects f
without-destroyed logs destroys f empty =
    without-effects logs destroys (λ q. []) f empty (λ q. refl) ∙ (λ i. with_effects (logged logs destroys) (λ q. either logs i) f)

hides-nothing : (q : Phase) (visible : Bool) (old : Option Node) → children_if old ≡ none → destroyed_by_hiding q visible old ≡ []
hides-nothing passive visible old h = refl
hides-nothing layout visible None h = refl
hides-nothing layout visible (Some n) h = ap (λ ns. if is_shown (mark_of n) then flat_map (destroyed_at layout) (spots_in (around_old visible) ns) else []) h ∙ either (is_shown (mark_of n))

hiding-nothing : (c : Change) → children_if c.old ≡ none → (q : Phase) → hiding c q ≡ []
hiding-nothing c h q = ap (λ ls. if is_hidden (mark_of c.new) then ls else []) (hides-nothing q c.was_visible c.old h) ∙ either (is_hidden (mark_of c.new))

-- what is gone of no list, and what none has
gone-nothing : (visible : Bool) (old new : Forest) → old ≡ none → new ≡ none → (q : Phase) → flat_map (destroyed_in q) (gone_from visible old new) ≡ []
gone-nothing visible old new h k q = λ i. flat_map (destroyed_in q) (gone_from visible (h i) (k i))

-- below a leaf nothing is found
pub leaf-below : (logs : Bool) (c : Change) (f : Found) → IsLeaf c → f ≡ with_below logs c f
leaf-below logs c f leaf =
    let shows = logs && not (is_hidden (mark_of c.new)) in
    let first : Phase → List LogLine = λ q. flat_map (destroyed_in q) (gone_from (above_children c).was_visible (children_if c.old) (children_of c.new)) in
    let second : Phase → List LogLine = λ q. flat_map (destroyed_in q) (gone_from c.was_visible (fallback_if c.old) (fallback_of c.new)) in
    let inner = compare_in (above_children c) (pasts (children_if c.old) (elements_in (children_of c.new))) (children_of c.new) in
    let outer = compare_in (above_fallback c) (pasts (fallback_if c.old) (elements_in (fallback_of c.new))) (fallback_of c.new) in
    let gone : f ≡ with_effects (logged logs first) no_effects f = without-destroyed logs first f (gone-nothing (above_children c).was_visible (children_if c.old) (children_of c.new) leaf.old leaf.new) in
    let behind : f ≡ with_effects (logged logs second) no_effects f = without-destroyed logs second f (gone-nothing c.was_visible (fallback_if c.old) (fallback_of c.new) leaf.behind leaf.beside) in
    let kids : f ≡ with_list shows inner f =
    sym (none-sum shows f) ∙ (λ i. with_list shows (compare_in (above_children c) (pasts (children_if c.old) (elements_in (sym leaf.new i))) (sym leaf.new i)) f) in
    let hides : f ≡ with_effects (logged logs (hiding c)) no_effects f = without-destroyed logs (hiding c) f (hiding-nothing c leaf.old) in
    let others : f ≡ with_list logs outer f =
    sym (none-sum logs f) ∙ (λ i. with_list logs (compare_in (above_fallback c) (pasts (fallback_if c.old) (elements_in (sym leaf.beside i))) (sym leaf.beside i)) f) in
    others
    ∙ ap (with_list logs outer)
    (hides
    ∙ ap (with_effects (logged logs (hiding c)) no_effects)
    (kids ∙ ap (with_list shows inner) (behind ∙ ap (with_effects (logged logs second) no_effects) gone)))

-- below a node without a fallback is found what its children tell
pub children-below : (logs : Bool) (c : Change) (f : Found) → fallback_if c.old ≡ none → fallback_of c.new ≡ none → with_children logs c f ≡ with_below logs c f
children-below logs c f old new =
    let first : Phase → List LogLine = λ q. flat_map (destroyed_in q) (gone_from (above_children c).was_visible (children_if c.old) (children_of c.new)) in
    let second : Phase → List LogLine = λ q. flat_map (destroyed_in q) (gone_from c.was_visible (fallback_if c.old) (fallback_of c.new)) in
    let inner = compare_in (above_children c) (pasts (children_if c.old) (elements_in (children_of c.new))) (children_of c.new) in
    let outer = compare_in (above_fallback c) (pasts (fallback_if c.old) (elements_in (fallback_of c.new))) (fallback_of c.new) in
    let shows = logs && not (is_hidden (mark_of c.new)) in
    let gone = with_effects (logged logs first) no_effects f in
    let behind : gone ≡ with_effects (logged logs second) no_effects gone = without-destroyed logs second gone (gone-nothing c.was_visible (fallback_if c.old) (fallback_of c.new) old new) in
    let kids : Found → Found = λ g. with_effects (logged logs (hiding c)) no_effects (with_list shows inner g) in
    ap kids behind
    ∙ sym (none-sum logs (kids (with_effects (logged logs second) no_effects gone)))
    ∙ (λ i. with_list logs (compare_in (above_fallback c) (pasts (fallback_if c.old) (elements_in (sym new i))) (sym new i)) (kids (with_effects (logged logs second) no_effects gone)))

-- nothing is gone of a list whose children are each at their places
pub in_place-gone : (logs visible : Bool) (old new : Forest) (f : Found) → AreInPlace old new
    → f ≡ with_effects (logged logs (λ q. flat_map (destroyed_in q) (gone_from visible old new))) no_effects f
in_place-gone logs visible old new f same =
    without-destroyed logs (λ q. flat_map (destroyed_in q) (gone_from visible old new)) f
    (λ q. ap (λ ns. flat_map (destroyed_in q) (map (λ n. record { node = n; was_visible = visible }) ns)) (no_nodes_gone old new same))

-- a leaf is one wherever it stands
pub leaf-around : (a : Around) (c : Change) → IsLeaf c → IsLeaf (record c { around = a })
leaf-around a c h = record { old = h.old; behind = h.behind; new = h.new; beside = h.beside }

-- and so is a node with texts in place
pub texts-around : (a : Around) (c : Change) → HasTextsInPlace c → HasTextsInPlace (record c { around = a })
texts-around a c h = record { old = h.old; new = h.new; same = h.same; behind = h.behind; beside = h.beside; still = h.still; shown = h.shown }

no-changes : (old : Option Node) (new : Node) → effects_if old ≡ [] → changed_effects old new ≡ []
no-changes None new h = refl
no-changes (Some n) new h = ap (λ es. filter differs (zip es (effects_in (mark_of new)))) h

-- a node without effects destroys none of its own
pub no-own-destroyed : (c : Change) → HasNoEffects c → (q : Phase) → own_destroyed q c ≡ []
no-own-destroyed c h q =
    ap (λ xs. if is_live q c.was_visible then lines_at q false (mark_of c.new) (map (λ x. x.0) xs) else []) (no-changes c.old c.new h.old) ∙ unsaid (is_live q c.was_visible)
  where
    unsaid : (b : Bool) → (if b then lines_at q false (mark_of c.new) [] else []) ≡ []
    unsaid true = lines_at-nil q false (mark_of c.new)
    unsaid false = refl

-- nor creates any
pub no-own-created : (c : Change) → HasNoEffects c → (q : Phase) → own_created q c ≡ []
no-own-created c h q =
    (λ i. if is_none c.old || not (is_live q c.was_visible) then lines_at q true (mark_of c.new) (h.new i) else lines_at q true (mark_of c.new) (map (λ x. x.1) (no-changes c.old c.new h.old i)))
    ∙ unsaid (is_none c.old || not (is_live q c.was_visible))
  where
    unsaid : (b : Bool) → (if b then lines_at q true (mark_of c.new) [] else lines_at q true (mark_of c.new) []) ≡ []
    unsaid true = lines_at-nil q true (mark_of c.new)
    unsaid false = lines_at-nil q true (mark_of c.new)
