-- The touched component places of a whole render, by the count of its units.
use Rattle.std.specs.Prelude.{◌≡◌, ℕ, ◌+◌, Bool, true, false, not, ◌||◌, cond, List, [], ◌∷◌, Option, Some, refl}
use Rattle.std.proofs.Common.{arith, sym}
use Rattle.rx_elem.specs.Elements.{Element}
use Rattle.rx_elem.specs.Elements as elements
use Rattle.rx_elem.specs.Trees.{Node}
use Rattle.rx_meaning.specs.Fresh.{Sight, Contexts, Place, made, rendered, old_instance}
use Rattle.rx_meaning.specs.Touched.{Visit, visits, has_same_inputs, touched_instance}
use Rattle.rx_meaning.specs.Cursor.{Frame, Cursor, at_place, ended, arrive, unit, start, StandsAtNode}
use Rattle.rx_meaning.specs.Counts.{counted, whole, next_counts, left}
use Rattle.render_laws.specs.TouchedCounts.{each_touched, touched_in, NonePassedOver}
use Rattle.render_laws.proofs.Counting.{unit_counts, start_counts}
use Rattle.render_laws.proofs.GoingLaws.{taken_left}
use Rattle.render_laws.proofs.VisitCounts.{CountsHere, whole_counted}

one_visit : (v : Visit) (b : Bool) → v.touched ≡ b → touched_in (v ∷ []) ≡ cond b 1 0
one_visit v true h = rw h refl
one_visit v false h = rw h refl

touched_here : (s : Sight) → CountsHere (λ v. v.touched) (each_touched s) s
touched_here s at elements.null old = refl
touched_here s at (elements.text x) old = refl
touched_here s at (elements.host n k attrs es) old = refl
touched_here s at (elements.comp c k ps es) old =
    let touched = touched_instance s at.contexts (old_instance old) in
    let dirty = touched || not (has_same_inputs (elements.comp c k ps es) old) in
    one_visit (record { address = at.address; component = Some c; touched = touched; dirty = dirty; spared = at.spared }) touched refl
touched_here s at (elements.list marked es) old = refl
touched_here s at (elements.boundary k f es) old = refl
touched_here s at (elements.catcher k f es) old = refl
touched_here s at (elements.provider c k x es) old = refl

-- The touched places of a whole render are those that its units evaluate.
pub touched_are_visits : (s : Sight) (old : Option Node) → whole (each_touched s) s old ≡ touched_in (visits s old)
touched_are_visits s old = sym (whole_counted (λ v. v.touched) (each_touched s) refl refl s (touched_here s) old)

pub start_passes : (s : Sight) (old : Option Node) → NonePassedOver s old 0 (start s old)
start_passes s old = omega (arith, start_counts (each_touched s) s old)

pub unit_passes : (s : Sight) (old : Option Node) (touched : ℕ) (c : Cursor) → StandsAtNode c → NonePassedOver s old touched c
    → NonePassedOver s old (touched + next_counts (each_touched s) s c) (unit s c)
unit_passes s old touched c stands h = omega (arith, h, unit_counts (each_touched s) s c stands)

-- What is taken over holds no touched place.
pub take_passes : (s : Sight) (old : Option Node) (touched n : ℕ) (fs : List Frame) (cs : Contexts) (e : Element) (o : Node) → rendered n s cs e (Some o) ≡ made o
    → counted (each_touched s) n s cs e (Some o) ≡ 0 → NonePassedOver s old touched (at_place n fs cs e (Some o)) → NonePassedOver s old touched (arrive n fs (Some o))
take_passes s old touched n fs cs e o again none h = omega (arith, h, taken_left (each_touched s) s n fs cs e o again, none)

end_left : (s : Sight) (p : Place) → left (each_touched s) s (ended p) ≡ 0
unfolding left
end_left s p = refl

-- At the end the touched places that were evaluated are all that there are.
pub end_passes : (s : Sight) (old : Option Node) (touched : ℕ) (p : Place) → NonePassedOver s old touched (ended p) → touched ≡ touched_in (visits s old)
end_passes s old touched p h = omega (arith, h, end_left s p, touched_are_visits s old)
