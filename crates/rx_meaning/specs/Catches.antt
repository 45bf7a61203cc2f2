-- What error boundaries have caught in a tree that a render gives: what they had caught, or else what their children throw.
use Rattle.std.specs.Prelude.{◌≡◌, ℕ, zero, suc, List, [], ◌∷◌, ℤ, Option, Some, None, is_some, option_and_then, unwrap_or, if◌then◌else◌}
use Rattle.rx_catch.specs.declared.state.CatchState.{CatchState}
use Rattle.rx_catch.specs.declared.state.CatchState.TheVariants.{Fine}
use Rattle.rx_catch.specs.Catching.{after}
use Rattle.rx_elem.specs.Elements.{Element, listed}
use Rattle.rx_elem.specs.Elements as elements
use Rattle.rx_elem.specs.Trees.{Mark, of_catcher, Node, node, Forest, none, vacant, child, mark_of, catch_in, children_if, fallback_if, elements_in, is_caught, is_hidden, old_caught}
use Rattle.rx_elem.specs.Compare.{old_nodes}
use Rattle.rx_meaning.specs.Fresh.{Sight, Contexts, Places, all_made, one_waits, one_throws, rendered, part, render_part}
use Rattle.rx_meaning.specs.Touched.{contexts_below}
use Rattle.rx_meaning.specs.Settled.{IfHidden}

-- the value that a list of places throws, if it does
abbrev pub thrown_in : Places → Option ℤ
thrown_in (all_made ns) = None
thrown_in (one_waits a) = None
thrown_in (one_throws x) = Some x

-- what an error boundary had caught; one that is new has caught nothing
abbrev pub old_catch : Option Node → CatchState
old_catch old = unwrap_or (option_and_then (λ n. catch_in (mark_of n)) old) Fine

-- an error boundary's mark is what its old one and its children make it
abbrev pub OwnCatch : ℕ → Sight → Contexts → Element → (old : Option Node) → Mark → Type 0
OwnCatch n s cs elements.null old m = Unit {0}
OwnCatch n s cs (elements.text t) old m = Unit {0}
OwnCatch n s cs (elements.host name key attrs es) old m = Unit {0}
OwnCatch n s cs (elements.comp c key props given) old m = Unit {0}
OwnCatch n s cs (elements.list marked es) old m = Unit {0}
OwnCatch n s cs (elements.boundary key f es) old m = Unit {0}
OwnCatch n s cs (elements.catcher key f es) old m =
    m ≡ of_catcher (after (old_catch old) (thrown_in (render_part (rendered n s) (part cs (listed es) (children_if old)))))
OwnCatch n s cs (elements.provider c key x es) old m = Unit {0}

-- the old fallback that a fallback stands beside; that of an error boundary that catches a value now is new
abbrev pub fallback_before : Mark → (old : Option Node) → Forest
fallback_before m old = if is_caught m then (if is_some (old_caught old) then fallback_if old else none) else fallback_if old

-- the old node of the first child
abbrev pub first_old : List (Option Node) → Option Node
first_old [] = None
first_old (o ∷ os) = o

-- the old nodes of the other children
abbrev pub rest_old : List (Option Node) → List (Option Node)
rest_old [] = []
rest_old (o ∷ os) = os

-- each visible error boundary of a tree beside the old one is so
abbrev mutual
  pub Catches : ℕ → Sight → Contexts → (old : Option Node) → Node → Type 0
  Catches zero s cs old (node e m ns fs) = Unit {0}
  Catches (suc n) s cs old (node e m ns fs) =
      OwnCatch n s cs e old m
      × IfHidden (is_hidden m) (Unit {0}) (AllCatch n s (contexts_below e cs) (old_nodes (children_if old) (elements_in ns)) ns)
      × AllCatch n s cs (old_nodes (fallback_before m old) (elements_in fs)) fs

  -- the same for the trees of a list
  pub AllCatch : ℕ → Sight → Contexts → (olds : List (Option Node)) → Forest → Type 0
  AllCatch n s cs os none = Unit {0}
  AllCatch n s cs os (vacant ns) = AllCatch n s cs (rest_old os) ns
  AllCatch n s cs os (child x ns) = Catches n s cs (first_old os) x × AllCatch n s cs (rest_old os) ns
