-- How many touched component places a render evaluates.
use Rattle.std.specs.Prelude.{◌≡◌, ℕ, ◌+◌, cond, List, Option, filter, length}
use Rattle.rx_elem.specs.Elements.{Element}
use Rattle.rx_elem.specs.Elements as elements
use Rattle.rx_elem.specs.Trees.{Node}
use Rattle.rx_meaning.specs.Fresh.{Sight, Contexts, old_instance}
use Rattle.rx_meaning.specs.Touched.{Visit, touched_instance}
use Rattle.rx_meaning.specs.Cursor.{Cursor}
use Rattle.rx_meaning.specs.Counts.{Weights, left, whole}

-- one if a component's place is touched
abbrev pub one_if_touched : Sight → Contexts → Element → Option Node → ℕ
one_if_touched s cs elements.null old = 0
one_if_touched s cs (elements.text t) old = 0
one_if_touched s cs (elements.host n k attrs es) old = 0
one_if_touched s cs (elements.comp c k ps es) old = cond (touched_instance s cs (old_instance old)) 1 0
one_if_touched s cs (elements.list marked es) old = 0
one_if_touched s cs (elements.boundary k f es) old = 0
one_if_touched s cs (elements.catcher k f es) old = 0
one_if_touched s cs (elements.provider c k x es) old = 0

-- the touched places that are evaluated
abbrev pub each_touched : Sight → Weights
each_touched s = record { begins = one_if_touched s; misses = 0; completes = 0 }

-- how many of these places are touched
abbrev pub touched_in : List Visit → ℕ
touched_in vs = length (filter (λ v. v.touched) vs)

-- so many touched places were evaluated, and none was passed over
abbrev pub NonePassedOver : Sight → Option Node → (touched : ℕ) → Cursor → Type 0
NonePassedOver s old touched c = touched + left (each_touched s) s c ≡ whole (each_touched s) s old
