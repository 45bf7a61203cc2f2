-- Each old node that a render comes to has instances of the old tree alone.
use Rattle.std.specs.Prelude.{◌≡◌, ◌⊎◌, ℕ, zero, suc, Bool, List, [], ◌∷◌, ◌++◌, Option, Some, None, option_and_then, slice_get, refl}
use Rattle.std.proofs.Common.{ap, subst, inl, inr}
use Rattle.std.proofs.lemmas.List.Elements.{filter_map-append}
use Rattle.rx_elem.specs.Trees.{Instance, Mark, Node, node, Forest, none, vacant, child, instance_in}
use Rattle.rx_elem.specs.Spots.{Around, at_root, Spot, spots, spots_in, around_children, Mounted, mounted_as, mounted_in, mounted_at, mounted}
use Rattle.rx_base.specs.Awaits.{Awaits}
use Rattle.rx_elem.specs.Elements.{Element}
use Rattle.rx_meaning.specs.Fresh.{Sight, Contexts, Part, two_lists, shape_of}
use Rattle.rx_meaning.specs.Cursor.{Frame, falling, Cursor, at_place, open_part, arrive, start, unit}
use Rattle.render_laws.specs.OldNodes.{AllHave, OldHas, FramesHave, CursorHas}
use Rattle.render_laws.proofs.Descent.{GoesDown, unit_has, attempt_has, arrive_has, start_has}
use Rattle.rx_ast.specs.Syntax.{Program}
use Rattle.rx_meaning.specs.Settled.{Known, AllSettled, IfSettled}
use Rattle.commit_laws.specs.Idle.{IsIdleMark}
use Rattle.rx_ways.specs.Ways.{CoversIf, CoversIn}
use Rattle.cost_laws.specs.Undue.{IsUndue}
use Rattle.begin_laws.specs.Mounting.{IsMountedIn, HasInstances, HasInstancesIn}
use Rattle.rx_render.specs.Mounting.{GoesWith}

-- an instance is among some
abbrev Among : List Mounted → Mounted → Type 0
Among [] m = ⊥
Among (x ∷ xs) m = (x ≡ m) ⊎ Among xs m

-- it stands at a place of them
abbrev Stands : List Mounted → Mounted → Type 0
Stands xs m = (k : ℕ) × (slice_get xs k ≡ Some m)

among_stands : (xs : List Mounted) (m : Mounted) → Among xs m → Stands xs m
among_stands [] m h = absurd h
among_stands (x ∷ xs) m (inl e) = (zero, ap Some e)
among_stands (x ∷ xs) m (inr h) = let (k, e) = among_stands xs m h in (suc k, e)

-- some instances are among others
abbrev Within : List Mounted → List Mounted → Type 0
Within all xs = (m : Mounted) → Among xs m → Among all m

left_within : (all xs ys : List Mounted) → Within all (xs ++ ys) → Within all xs
left_within all [] ys w m h = absurd h
left_within all (x ∷ xs) ys w m (inl e) = w m (inl e)
left_within all (x ∷ xs) ys w m (inr h) = left_within all xs ys (λ n i. w n (inr i)) m h

right_within : (all xs ys : List Mounted) → Within all (xs ++ ys) → Within all ys
right_within all [] ys w m h = w m h
right_within all (x ∷ xs) ys w m h = right_within all xs ys (λ n i. w n (inr i)) m h

spots_left : (all : List Mounted) (xs ys : List Spot) → Within all (mounted_at (xs ++ ys)) → Within all (mounted_at xs)
spots_left all xs ys w = left_within all (mounted_at xs) (mounted_at ys) (subst (Within all) (filter_map-append mounted_in xs ys) w)

spots_right : (all : List Mounted) (xs ys : List Spot) → Within all (mounted_at (xs ++ ys)) → Within all (mounted_at ys)
spots_right all xs ys w = right_within all (mounted_at xs) (mounted_at ys) (subst (Within all) (filter_map-append mounted_in xs ys) w)

first_among : (xs : List Spot) (x : Spot) (m : Mounted) → mounted_in x ≡ Some m → Among (mounted_at (x ∷ xs)) m
first_among xs x m e = rw e (inl refl)

-- the instance at a spot
spot_mounted : (a : Around) (m : Mark) (x : Node) (i : Instance) (n : ℕ) → instance_in m ≡ Some i → i.number ≡ Some n
    → option_and_then (mounted_as a) (instance_in m) ≡ Some (record { number = n; component = i.component; initials = i.initials; owner = a.owner; visible = a.visible })
spot_mounted a m x i n e f = rw (e, f) refl

module _ (tree : Option Node) where
  abbrev all : List Mounted
  all = mounted tree

  stands_mounted : (m : Mounted) → Among all m → IsMountedIn tree m.number m.initials
  stands_mounted m h = let (k, e) = among_stands all m h in record { place = k; instance = m; there = e; is_numbered = refl; is_initially = refl }

  mutual
    node_within : (a : Around) (x : Node) → Within all (mounted_at (spots a x)) → HasInstances tree x
    node_within a (node e m ns fs) w =
        let spot : Spot = record { at = node e m ns fs; around = a } in
        let rest : Within all (mounted_at (spots_in (around_children a m) ns ++ spots_in a fs)) = spots_right all (spot ∷ []) (spots_in (around_children a m) ns ++ spots_in a fs) w in (
          (λ i n has number.
              stands_mounted (record { number = n; component = i.component; initials = i.initials; owner = a.owner; visible = a.visible })
              (w _ (first_among (spots_in (around_children a m) ns ++ spots_in a fs) spot _ (spot_mounted a m (node e m ns fs) i n has number)))),
          list_within (around_children a m) ns (spots_left all (spots_in (around_children a m) ns) (spots_in a fs) rest),
          list_within a fs (spots_right all (spots_in (around_children a m) ns) (spots_in a fs) rest),
        )

    list_within : (a : Around) (ns : Forest) → Within all (mounted_at (spots_in a ns)) → HasInstancesIn tree ns
    list_within a none w = tt
    list_within a (vacant ns) w = list_within a ns w
    list_within a (child x ns) w = (node_within a x (spots_left all (spots a x) (spots_in a ns) w), list_within a ns (spots_right all (spots a x) (spots_in a ns) w))

  all_have : (ns : Forest) → HasInstancesIn tree ns → AllHave (HasInstances tree) ns
  all_have none h = tt
  all_have (vacant ns) h = all_have ns h
  all_have (child x ns) h = (h.0, all_have ns h.1)

  goes_down : GoesDown (HasInstances tree)
  goes_down (node e m ns fs) h = (all_have ns h.1, all_have fs h.2)

  pub unit_instances : (s : Sight) (c : Cursor) → CursorHas (HasInstances tree) c → CursorHas (HasInstances tree) (unit s c)
  unit_instances s c h = unit_has (HasInstances tree) goes_down s c h

  pub attempt_instances : (n : ℕ) (fs : List Frame) (s : Sight) (cs : Contexts) (e : Element) (o : Option Node) (p f : Part) (a : Awaits) → shape_of s cs e o ≡ two_lists p f
      → CursorHas (HasInstances tree) (at_place (suc n) fs cs e o) → CursorHas (HasInstances tree) (open_part n fs (falling e o a) f)
  attempt_instances n fs s cs e o p f a shape h = attempt_has (HasInstances tree) goes_down n fs s cs e o p f a shape h

  -- past a place that is done
  pub past_instances : (n : ℕ) (fs : List Frame) (m : Option Node) → FramesHave (HasInstances tree) fs → CursorHas (HasInstances tree) (arrive n fs m)
  past_instances n fs m h = arrive_has (HasInstances tree) goes_down n fs m h

pub tree_instances : (tree : Option Node) → OldHas (HasInstances tree) tree
tree_instances None = tt
tree_instances (Some x) = node_within (Some x) at_root x (λ m h. h)

pub start_instances : (s : Sight) (tree : Option Node) → CursorHas (HasInstances tree) (start s tree)
start_instances s tree = start_has (HasInstances tree) (goes_down tree) s tree (tree_instances tree)

-- So each is settled if the old tree is.

module _ (tree : Option Node) where
  all_go : (ns : Forest) → ((p : Program) (k : Known) → IfSettled p k tree → AllSettled p k ns) → ((way : ℕ → Bool) (s : Sight) → CoversIf way (IsIdleMark s) tree → CoversIn way (IsIdleMark s) ns)
      → ((way : ℕ → Bool) (s : Sight) → CoversIf way (IsUndue s) tree → CoversIn way (IsUndue s) ns) → AllHave (GoesWith tree) ns
  all_go none h c d = tt
  all_go (vacant ns) h c d = all_go ns h c d
  all_go (child x ns) h c d =
      (record { settles = λ p k s. (h p k s).0; covered = λ way s w. (c way s w).0; undue = λ way s w. (d way s w).0 }, all_go ns (λ p k s. (h p k s).1) (λ way s w. (c way s w).1) (λ way s w. (d way s w).1))

  goes_with_down : GoesDown (GoesWith tree)
  goes_with_down (node e m ns fs) h = (
    all_go ns (λ p k s. (h.settles p k s).1) (λ way s w. (h.covered way s w).1) (λ way s w. (h.undue way s w).1),
    all_go fs (λ p k s. (h.settles p k s).2) (λ way s w. (h.covered way s w).2) (λ way s w. (h.undue way s w).2),
  )

  pub unit_rests : (s : Sight) (c : Cursor) → CursorHas (GoesWith tree) c → CursorHas (GoesWith tree) (unit s c)
  unit_rests s c h = unit_has (GoesWith tree) goes_with_down s c h

  pub attempt_rests : (n : ℕ) (fs : List Frame) (s : Sight) (cs : Contexts) (e : Element) (o : Option Node) (p f : Part) (a : Awaits) → shape_of s cs e o ≡ two_lists p f
      → CursorHas (GoesWith tree) (at_place (suc n) fs cs e o) → CursorHas (GoesWith tree) (open_part n fs (falling e o a) f)
  attempt_rests n fs s cs e o p f a shape h = attempt_has (GoesWith tree) goes_with_down n fs s cs e o p f a shape h

  pub past_rests : (n : ℕ) (fs : List Frame) (m : Option Node) → FramesHave (GoesWith tree) fs → CursorHas (GoesWith tree) (arrive n fs m)
  past_rests n fs m h = arrive_has (GoesWith tree) goes_with_down n fs m h

tree_goes_with : (tree : Option Node) → OldHas (GoesWith tree) tree
tree_goes_with None = tt
tree_goes_with (Some x) = record { settles = λ p k s. s; covered = λ way s w. w; undue = λ way s w. w }

pub start_rests : (s : Sight) (tree : Option Node) → CursorHas (GoesWith tree) (start s tree)
start_rests s tree = start_has (GoesWith tree) (goes_with_down tree) s tree (tree_goes_with tree)
