-- The instance that a path leads to.
use Rattle.std.proofs.Common.{◌≡◌, ℕ, ◌≤◌, List, [], ◌∷◌, Option, Some, None, filter, map, slice_get, refl, sym, ap, ◌∙◌}
use Rattle.std.specs.Prelude.{option_map, option_and_then}
use Rattle.std.proofs.lemmas.Option.{none-some, same_Some, slice_get-map}
use Rattle.rx_base.specs.Values.{Name}
use Rattle.rx_ast.specs.Syntax.{Program}
use Rattle.rx_step.specs.Steps.{Path}
use Rattle.rx_elem.specs.Spots.{Mounted, at_root, mounted}
use Rattle.rx_elem.specs.Trees.{Node, children_of, mark_of, node, of_boundary, of_catcher, of_host, of_instance, plain}
use Rattle.commit_laws.specs.HiddenWaits.{IfNumbered, Numbered}
use Rattle.rx_meaning.specs.Settled.{HasOwnNumbers, number_of, times_numbered}
use Rattle.rx_model.specs.State.{find_from, instance_found, is_step, step_to}
use Rattle.rx_instances.specs.Nearest.{Told, found_as, is_named, named, nearest, nearest_if, nearest_in, node_at, node_from, told}
use Rattle.rx_instances.proofs.Nearest.{Has, all_told, each_filter, found_below, has_below, near_below, near_each, near_each_in, numbered_others}

-- what the parts of a path that are left lead to, from node to node
abbrev pub led_from : Program → Node → Path → Option Told
led_from p n [] = told n
led_from p n (part ∷ parts) = option_and_then (λ x. led_from p x parts) (slice_get (named p part.0 (nearest_in (children_of n))) part.1)

-- and so from the root of a tree
abbrev pub led : Program → Option Node → Path → Option Told
led p tree [] = None
led p tree (part ∷ parts) = option_and_then (λ x. led_from p x parts) (slice_get (named p part.0 (nearest_if tree)) part.1)

-- that is what is told of the node to which they lead
from_told : (p : Program) (n : Node) (path : Path) → led_from p n path ≡ option_and_then told (node_from p n path)
from_told p n [] = refl
from_told p n (part ∷ parts) = go (λ x. from_told p x parts) (slice_get (named p part.0 (nearest_in (children_of n))) part.1)
  where
    go : ((x : Node) → led_from p x parts ≡ option_and_then told (node_from p x parts)) → (s : Option Node)
        → option_and_then (λ x. led_from p x parts) s ≡ option_and_then told (option_and_then (λ x. node_from p x parts) s)
    go later None = refl
    go later (Some x) = later x

pub led_told : (p : Program) (tree : Option Node) (path : Path) → led p tree path ≡ option_and_then told (node_at p tree path)
led_told p tree [] = refl
led_told p tree (part ∷ parts) = go (slice_get (named p part.0 (nearest_if tree)) part.1)
  where
    go : (s : Option Node) → option_and_then (λ x. led_from p x parts) s ≡ option_and_then told (option_and_then (λ x. node_from p x parts) s)
    go None = refl
    go (Some x) = from_told p x parts

-- the same among the mounted instances
abbrev find_rest : Program → List Mounted → Mounted → Path → Option Mounted
find_rest p all m [] = Some m
find_rest p all m (part ∷ parts) = find_from p all (Some m.number) (part ∷ parts)

found_first : (p : Program) (all : List Mounted) (o : Option ℕ) (part : Name × ℕ) (parts : Path)
    → find_from p all o (part ∷ parts) ≡ option_and_then (λ m. find_rest p all m parts) (step_to p all o part)
found_first p all o part [] = go (step_to p all o part)
  where
    go : (r : Option Mounted) → r ≡ option_and_then (λ m. Some m) r
    go None = refl
    go (Some m) = refl
found_first p all o part (q ∷ parts) = refl

-- the number of an instance is the one that is told of it
pub told_number : (n : Node) (f : Told) → told n ≡ Some f → number_of (mark_of n) ≡ Some f.number
told_number (node e (of_instance i) ns fs) f is = go i.number is
  where
    go : (r : Option ℕ) → option_map (λ n. let y : Told = record { number = n; component = i.component } in y) r ≡ Some f → r ≡ Some f.number
    go None is = absurd (none-some f is)
    go (Some n) is = ap (λ (g : Told). Some g.number) (same_Some (record { number = n; component = i.component }) f is)
told_number (node e (of_host h) ns fs) f is = absurd (none-some f is)
told_number (node e (of_boundary b) ns fs) f is = absurd (none-some f is)
told_number (node e (of_catcher c) ns fs) f is = absurd (none-some f is)
told_number (node e plain ns fs) f is = absurd (none-some f is)

-- one step, if what is right below the owner is known
one_step : (p : Program) (all : List Mounted) (o : Option ℕ) (ns : List Node) (part : Name × ℕ)
    → map (λ m. Some (found_as m)) (filter (is_step p o part.0) all) ≡ all_told p part.0 ns
    → option_map (λ m. Some (found_as m)) (step_to p all o part) ≡ option_map told (slice_get (named p part.0 ns) part.1)
one_step p all o ns part are =
    sym (slice_get-map (λ (m : Mounted). Some (found_as m)) (filter (is_step p o part.0) all) part.1)
    ∙ ap (λ (xs : List (Option Told)). slice_get xs part.1) are
    ∙ slice_get-map told (named p part.0 ns) part.1

module _ (p : Program) (x : Node) (numbered : Numbered x) (once : (n : ℕ) → times_numbered n x ≤ 1) where
  -- the parts that are left lead on from the nodes that a step leads to
  goes_on : (parts : Path) → ((y : Node) (m : Mounted) → Has y x → told y ≡ Some (found_as m) → option_map found_as (find_rest p (mounted (Some x)) m parts) ≡ led_from p y parts)
      → (r : Option Mounted) (s : Option Node) → option_map (λ m. Some (found_as m)) r ≡ option_map told s → ((y : Node) → s ≡ Some y → Has y x)
      → option_map found_as (option_and_then (λ m. find_rest p (mounted (Some x)) m parts) r) ≡ option_and_then (λ y. led_from p y parts) s
  goes_on parts later None None e has = refl
  goes_on parts later None (Some y) e has = absurd (none-some (told y) e)
  goes_on parts later (Some m) None e has = absurd (none-some (Some (found_as m)) (sym e))
  goes_on parts later (Some m) (Some y) e has = later y m (has y refl) (sym (same_Some (Some (found_as m)) (told y) e))

  led_on : (parts : Path) (y : Node) (m : Mounted) → Has y x → told y ≡ Some (found_as m) → option_map found_as (find_rest p (mounted (Some x)) m parts) ≡ led_from p y parts
  led_on [] y m has is = sym is
  led_on (part ∷ parts) y m has is =
      ap (option_map found_as) (found_first p (mounted (Some x)) (Some m.number) part parts)
      ∙ goes_on parts (led_on parts) (step_to p (mounted (Some x)) (Some m.number) part) (slice_get (named p part.0 (nearest_in (children_of y))) part.1)
      (one_step p (mounted (Some x)) (Some m.number) (nearest_in (children_of y)) part
      (found_below p part.0 m.number y (told_number y (found_as m) is) at_root x has numbered (once m.number) (none-some m.number)))
      (each_filter (λ z. Has z x) (is_named p part.0) (nearest_in (children_of y)) (near_each_in (λ z. Has z x) (children_of y) (λ z h. has_below z y h x has)) part.1)

  led_first : (part : Name × ℕ) (parts : Path)
      → option_map found_as (find_from p (mounted (Some x)) None (part ∷ parts)) ≡ option_and_then (λ y. led_from p y parts) (slice_get (named p part.0 (nearest x)) part.1)
  led_first part parts =
      ap (option_map found_as) (found_first p (mounted (Some x)) None part parts)
      ∙ goes_on parts (led_on parts) (step_to p (mounted (Some x)) None part) (slice_get (named p part.0 (nearest x)) part.1)
      (one_step p (mounted (Some x)) None (nearest x) part (near_below p part.0 None at_root x (numbered_others x numbered) refl))
      (each_filter (λ z. Has z x) (is_named p part.0) (nearest x) (near_each (λ z. Has z x) x (λ z h. h)) part.1)

-- the walk leads to the instance that a path leads to
pub all_led : (p : Program) (tree : Option Node) (next : ℕ) → IfNumbered tree → HasOwnNumbers next tree → (path : Path) → option_map found_as (instance_found p tree path) ≡ led p tree path
all_led p tree next numbered own [] = refl
all_led p None next numbered own (part ∷ []) = refl
all_led p None next numbered own (part ∷ q ∷ parts) = refl
all_led p (Some x) next numbered own (part ∷ parts) = led_first p x numbered (λ n. (own n).0) part parts
