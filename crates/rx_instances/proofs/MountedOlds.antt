-- The instances of a list of current fibers are those of the nodes for which it stands.
use Rattle.std.proofs.Common.{◌≡◌, ℕ, suc, Bool, true, false, ◌&&◌, List, [], ◌++◌, Option, Some, None, refl, sym, ap, ◌∙◌, append_assoc, append-nil}
use Rattle.std.specs.Prelude.{option_and_then, if◌then◌else◌}
use Rattle.std.specs.List.{cons_option}
use Rattle.std.proofs.lemmas.List.Elements.{filter_map-append}
use Rattle.rx_elem.specs.Elements.{Element}
use Rattle.rx_elem.specs.Spots.{Around, Mounted, Spot, around_children, at_root, mounted, mounted_as, mounted_at, mounted_in, spots, spots_in}
use Rattle.rx_elem.specs.Trees.{Forest, Instance, Mark, Node, child, instance_in, is_hidden, node, none, vacant, of_boundary, of_catcher, of_host, of_instance, plain, shows_fallback}
use Rattle.rx_susp.specs.declared.boundary.BoundaryState.TheVariants.{Shown, Hidden}
use Rattle.rx_lists.specs.Shapes.{Shape, fiber}
use Rattle.rx_fiber.specs.Fibers.{Fiber, Stage, begun}
use Rattle.rx_fiber.specs.OldLists.{begins_fallback, is_fallback}
use Rattle.rx_fiber.specs.Reading.{AreFor, IsFor, IsTreeOf, alone, beside, gap, has_node, next, no_more, whole}
use Rattle.rx_fiber.proofs.OldLists.{list_begins, no_fallback, not_hidden}
use Rattle.rx_instances.specs.NearFibers.{instance_at}
use Rattle.rx_instances.specs.MountedFibers.{around_kids, mounted_from, own_mounted}

own_before : (o : Option Mounted) (ms : List Mounted) → cons_option o ms ≡ cons_option o [] ++ ms
own_before None ms = refl
own_before (Some m) ms = refl

-- a node comes before what is below it, and a boundary's primary before its fallback; then come the nodes behind
node_mounted : (a : Around) (e : Element) (m : Mark) (ns fs : Forest) (more : List Spot)
    → mounted_at (spots a (node e m ns fs) ++ more)
    ≡ own_mounted a (instance_in m) ++ (mounted_at (spots_in (around_children a m) ns) ++ (mounted_at (spots_in a fs) ++ mounted_at more))
node_mounted a e m ns fs more =
    own_before (option_and_then (mounted_as a) (instance_in m)) (mounted_at ((spots_in (around_children a m) ns ++ spots_in a fs) ++ more))
    ∙ ap (λ (ms : List Mounted). own_mounted a (instance_in m) ++ ms)
    (ap mounted_at (append_assoc (spots_in (around_children a m) ns) (spots_in a fs) more)
    ∙ filter_map-append mounted_in (spots_in (around_children a m) ns) (spots_in a fs ++ more)
    ∙ ap (λ (ms : List Mounted). mounted_at (spots_in (around_children a m) ns) ++ ms) (filter_map-append mounted_in (spots_in a fs) more))

-- if a list has no node, there is no spot
pub gone_spots : (a : Around) (ns : Forest) → has_node ns ≡ false → spots_in a ns ≡ []
gone_spots a none e = refl
gone_spots a (vacant ns) e = gone_spots a ns e
gone_spots a (child x ns) e = cc

-- the mark of a fiber's node tells what surrounds its children
shown_around : (a : Around) (m : Mark) (keeps : Bool) → is_hidden m ≡ false → around_kids a (begun m) keeps ≡ around_children a m
shown_around a m keeps e = rw e refl

alone_around : (a : Around) (m : Mark) (keeps : Bool) → shows_fallback m ≡ true → keeps ≡ false → around_kids a (begun m) keeps ≡ a
alone_around a (of_instance i) keeps e f = absurd (cc e)
alone_around a (of_host h) keeps e f = absurd (cc e)
alone_around a (of_boundary Shown) keeps e f = absurd (cc e)
alone_around a (of_boundary (Hidden w)) keeps e f = rw f refl
alone_around a (of_catcher c) keeps e f = refl
alone_around a plain keeps e f = absurd (cc e)

beside_around : (a : Around) (m : Mark) (keeps : Bool) → keeps ≡ true → around_kids a (begun m) keeps ≡ around_children a m
beside_around a m keeps f = rw f (go (is_hidden m))
  where
    go : (b : Bool) → (if b && false then a else around_children a m) ≡ around_children a m
    go true = refl
    go false = refl

-- the first fiber, by its stage and what surrounds its children
first_by : (a b : Around) (id : ℕ) (v : Fiber) (o : Option Instance) (ks rs : Shape Fiber) (kids behind : List Mounted)
    → instance_at v.stage ≡ o → around_kids a v.stage (begins_fallback rs) ≡ b → mounted_from b ks ≡ kids → mounted_from a rs ≡ behind
    → mounted_from a (fiber id v ks rs) ≡ own_mounted a o ++ (kids ++ behind)
first_by a b id v o ks rs kids behind own around inside after =
    (λ i. own_mounted a (own i) ++ (mounted_from (around i) ks ++ mounted_from a rs))
    ∙ (λ i. own_mounted a o ++ (inside i ++ after i))

-- The instances of a list of fibers are those of its nodes.
mutual
  pub list_mounted : (a : Around) (n : ℕ) (ns : Forest) (s : Shape Fiber) → AreFor n ns s → mounted_from a s ≡ mounted_at (spots_in a ns)
  list_mounted a n _ _ no_more = refl
  list_mounted a n (vacant ns) s (gap are) = list_mounted a (suc n) ns s are
  list_mounted a n (child x ns) s (next {rest = rest} is are) =
      node_list a n x s rest ns is (no_fallback (suc n) rest (list_begins (suc n) ns rest are)) (list_mounted a (suc n) ns rest are)

  node_list : (a : Around) (n : ℕ) (x : Node) (s rest : Shape Fiber) (ns : Forest) → IsFor n x s rest → begins_fallback rest ≡ false
      → mounted_from a rest ≡ mounted_at (spots_in a ns) → mounted_from a s ≡ mounted_at (spots a x ++ spots_in a ns)
  node_list a n _ _ rest more (whole {id = id} {v = v} {e = e} {m = m} {ns = ns} {ks = ks} is shown are) last later =
      first_by a (around_children a m) id v (instance_in m) ks rest (mounted_at (spots_in (around_children a m) ns)) (mounted_at (spots_in a more)) (ap instance_at is.stage)
      (ap (λ (t : Stage). around_kids a t (begins_fallback rest)) is.stage ∙ shown_around a m (begins_fallback rest) (not_hidden m shown))
      (list_mounted (around_children a m) 0 ns ks are) later
      ∙ sym (node_mounted a e m ns none (spots_in a more))
  node_list a n _ _ rest more (alone {id = id} {v = v} {e = e} {m = m} {ns = ns} {fs = fs} {ks = ks} is hidden gone are) last later =
      first_by a a id v (instance_in m) ks rest (mounted_at (spots_in a fs)) (mounted_at (spots_in a more)) (ap instance_at is.stage)
      (ap (λ (t : Stage). around_kids a t (begins_fallback rest)) is.stage
      ∙ alone_around a m (begins_fallback rest) hidden last)
      (list_mounted a 0 fs ks are) later
      ∙ sym (node_mounted a e m ns fs (spots_in a more)
      ∙ ap (λ (ss : List Spot). own_mounted a (instance_in m) ++ (mounted_at ss ++ (mounted_at (spots_in a fs) ++ mounted_at (spots_in a more)))) (gone_spots (around_children a m) ns gone))
  node_list a n _ _ rest more (beside {id = id} {jd = jd} {v = v} {w = w} {e = e} {m = m} {ns = ns} {fs = fs} {ks = ks} {ws = ws} is hidden some are f d) last later =
      first_by a (around_children a m) id v (instance_in m) ks (fiber jd w ws rest) (mounted_at (spots_in (around_children a m) ns)) (mounted_at (spots_in a fs) ++ mounted_at (spots_in a more))
      (ap instance_at is.stage)
      (ap (λ (t : Stage). around_kids a t (begins_fallback (fiber jd w ws rest))) is.stage ∙ beside_around a m (is_fallback w.stage) (ap is_fallback f))
      (list_mounted (around_children a m) 0 ns ks are)
      (first_by a a jd w None ws rest (mounted_at (spots_in a fs)) (mounted_at (spots_in a more)) (ap instance_at f)
      (ap (λ (t : Stage). around_kids a t (begins_fallback rest)) f) (list_mounted a 0 fs ws d) later)
      ∙ sym (node_mounted a e m ns fs (spots_in a more))

-- So are those of the current tree.
pub tree_mounted : (y : Option Node) (c : Shape Fiber) → IsTreeOf y c → mounted_from at_root c ≡ mounted y
tree_mounted None c is = list_mounted at_root 0 (vacant none) c is
tree_mounted (Some x) c is = list_mounted at_root 0 (child x none) c is ∙ ap mounted_at (append-nil (spots at_root x))
