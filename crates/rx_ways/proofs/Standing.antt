-- What a walk finds among fibers is what it finds in the tree that they stand for.
use Rattle.std.proofs.Common.{◌≡◌, ℕ, suc, List, Bool, true, false, Option, Some, None, refl, sym, ap, ◌∙◌}
use Rattle.std.specs.Prelude.{◌||◌, ◌&&◌, not, is_some}
use Rattle.std.specs.Option.{option_map_or}
use Rattle.std.proofs.lemmas.Bool.{or_parts}
use Rattle.rx_elem.specs.Elements.{Element}
use Rattle.rx_elem.specs.Trees.{Forest, Mark, Node, child, instance_in, is_hidden, node, none, of_boundary, of_catcher, of_host, of_instance, plain, vacant}
use Rattle.rx_lists.specs.Shapes.{Shape, fiber}
use Rattle.rx_lists.specs.Shapes as shapes
use Rattle.rx_meaning.specs.Settled.{is_numbered_so, number_of}
use Rattle.rx_node.specs.Hides.{hides_within, hides_in}
use Rattle.rx_node.specs.Mounts.{mounts_in, mounts_within}
use Rattle.rx_fiber.specs.declared.subtree.Subtree.{Subtree}
use Rattle.rx_fiber.specs.Fibers.{Fiber, Stage, begun, fallback, joined, marked_subtree, own_subtree}
use Rattle.rx_fiber.specs.Reading.{AreFor, IsFor, IsTreeOf, has_node, no_more, gap, next, whole, alone, beside}
use Rattle.rx_fiber.specs.Subtrees.{IsGathered, subtrees_of}
use Rattle.rx_ways.specs.Leads.{is_cause}
use Rattle.rx_ways.specs.Walk.{finds, finds_in, finds_among, is_cause_at, is_spared, is_spared_at, number_at, puts, puts_in, puts_among, spares}

-- ---- tests

or_none : (b : Bool) → (b || false) ≡ b
or_none true = refl
or_none false = refl

or_all : (b : Bool) → (b || true) ≡ true
or_all true = refl
or_all false = refl

twice : (s i f p : Bool) → (not s && ((i && f) || p)) ≡ (not s && ((i && (not s && f)) || p))
twice true i f p = refl
twice false i f p = refl

pub or_joined : (a b c : Bool) → ((a || b) || c) ≡ (a || (b || c))
or_joined true b c = refl
or_joined false b c = refl

five : (a b c d : Bool) → ((a || b) || (c || d)) ≡ ((a || (b || c)) || d)
five true b c d = refl
five false true c d = refl
five false false c d = refl

-- ---- lists without a node

none_hide : (ns : Forest) → has_node ns ≡ false → hides_in ns ≡ false
none_hide none h = refl
none_hide (vacant ns) h = none_hide ns h
none_hide (child x ns) h = absurd (cc h)

none_have : (ns : Forest) → has_node ns ≡ false → mounts_in ns ≡ false
none_have none h = refl
none_have (vacant ns) h = none_have ns h
none_have (child x ns) h = absurd (cc h)

none_finds : (hint stirred : ℕ → Bool) (ns : Forest) → has_node ns ≡ false → finds_in hint stirred ns ≡ false
none_finds hint stirred none h = refl
none_finds hint stirred (vacant ns) h = none_finds hint stirred ns h
none_finds hint stirred (child x ns) h = absurd (cc h)

none_put : (hint stirred : ℕ → Bool) (n : ℕ) (ns : Forest) → has_node ns ≡ false → puts_in hint stirred n ns ≡ false
none_put hint stirred n none h = refl
none_put hint stirred n (vacant ns) h = none_put hint stirred n ns h
none_put hint stirred n (child x ns) h = absurd (cc h)

-- ---- what is kept on fibers

-- a fiber of a node tells what its mark and the nodes of its children tell
record Tells (v : Fiber) (m : Mark) (hides has : Bool) : Type 0 where
  hides_are : v.subtree.hides ≡ (is_hidden m || hides)
  instances_are : v.subtree.instances ≡ (is_some (instance_in m) || has)

own_tells : (v : Fiber) (m : Mark) (ks : Shape Fiber) (hides has : Bool) → v.stage ≡ begun m → v.subtree ≡ joined (own_subtree v.stage) (subtrees_of ks)
    → (subtrees_of ks).hides ≡ hides → (subtrees_of ks).instances ≡ has → Tells v m hides has
own_tells v m ks hides has stage is a b =
    let own : own_subtree v.stage ≡ marked_subtree m = ap own_subtree stage in
    let all : v.subtree ≡ joined (marked_subtree m) (subtrees_of ks) = is ∙ ap (λ x. joined x (subtrees_of ks)) own in
    record {
      hides_are = ap (λ (x : Subtree). x.hides) all ∙ ap (λ b. is_hidden m || b) a;
      instances_are = ap (λ (x : Subtree). x.instances) all ∙ ap (λ c. is_some (instance_in m) || c) b;
    }

fallback_tells : (w : Fiber) (a : List ℕ) (ws : Shape Fiber) → w.stage ≡ fallback a → w.subtree ≡ joined (own_subtree w.stage) (subtrees_of ws)
    → (w.subtree.hides ≡ (subtrees_of ws).hides) × (w.subtree.instances ≡ (subtrees_of ws).instances)
fallback_tells w a ws stage is =
    let all : w.subtree ≡ joined (own_subtree (fallback a)) (subtrees_of ws) = is ∙ ap (λ s. joined (own_subtree s) (subtrees_of ws)) stage in
    (ap (λ (x : Subtree). x.hides) all, ap (λ (x : Subtree). x.instances) all)

-- the fibers of a list tell of its nodes
pub record TellsList (ns : Forest) (s : Shape Fiber) : Type 0 where
  pub hides : (subtrees_of s).hides ≡ hides_in ns
  pub instances : (subtrees_of s).instances ≡ mounts_in ns

-- the first fibers of a list tell of a node, and those behind them of the rest
record TellsNode (x : Node) (s rest : Shape Fiber) : Type 0 where
  hides : (subtrees_of s).hides ≡ (hides_within x || (subtrees_of rest).hides)
  instances : (subtrees_of s).instances ≡ (mounts_within x || (subtrees_of rest).instances)

mutual
  pub list_tells : (k : ℕ) (ns : Forest) (s : Shape Fiber) → AreFor k ns s → IsGathered s → TellsList ns s
  list_tells _ _ _ no_more g = record { hides = refl; instances = refl }
  list_tells _ _ _ (gap {n = n} {ns = ns} {s = s} a) g = let t = list_tells (suc n) ns s a g in record { hides = t.hides; instances = t.instances }
  list_tells _ _ _ (next {n = n} {x = x} {ns = ns} {s = s} {rest = rest} is a) g =
      let first = node_tells n x s rest is g in
      let behind = list_tells (suc n) ns rest a (rest_gathered n x s rest is g) in
      record {
        hides = first.hides ∙ ap (λ b. hides_within x || b) behind.hides;
        instances = first.instances ∙ ap (λ b. mounts_within x || b) behind.instances;
      }

  node_tells : (k : ℕ) (x : Node) (s rest : Shape Fiber) → IsFor k x s rest → IsGathered s → TellsNode x s rest
  node_tells _ _ _ _ (whole {v = v} {m = m} {ns = ns} {ks = ks} {rest = rest} of shown a) g =
      let t = list_tells 0 ns ks a g.1 in
      let own = own_tells v m ks (hides_in ns) (mounts_in ns) of.stage g.0 t.hides t.instances in
      record {
        hides = ap (λ b. b || (subtrees_of rest).hides) (own.hides_are ∙ ap (λ b. is_hidden m || b) (sym (or_none (hides_in ns))));
        instances = ap (λ b. b || (subtrees_of rest).instances) (own.instances_are ∙ ap (λ b. is_some (instance_in m) || b) (sym (or_none (mounts_in ns))));
      }
  node_tells _ _ _ _ (alone {v = v} {m = m} {ns = ns} {fs = fs} {ks = ks} {rest = rest} of hidden bare a) g =
      let t = list_tells 0 fs ks a g.1 in
      let own = own_tells v m ks (hides_in fs) (mounts_in fs) of.stage g.0 t.hides t.instances in
      record {
        hides = ap (λ b. b || (subtrees_of rest).hides) (own.hides_are ∙ ap (λ b. is_hidden m || (b || hides_in fs)) (sym (none_hide ns bare)));
        instances = ap (λ b. b || (subtrees_of rest).instances) (own.instances_are ∙ ap (λ b. is_some (instance_in m) || (b || mounts_in fs)) (sym (none_have ns bare)));
      }
  node_tells _ _ _ _ (beside {v = v} {w = w} {m = m} {ns = ns} {fs = fs} {ks = ks} {ws = ws} {rest = rest} of hidden kept a stage b) g =
      let t = list_tells 0 ns ks a g.1 in
      let u = list_tells 0 fs ws b g.2.1 in
      let own = own_tells v m ks (hides_in ns) (mounts_in ns) of.stage g.0 t.hides t.instances in
      let behind = fallback_tells w _ ws stage g.2.0 in
      record {
        hides = ap (λ c. c || (w.subtree.hides || (subtrees_of rest).hides)) own.hides_are ∙ ap (λ c. (is_hidden m || hides_in ns) || (c || (subtrees_of rest).hides)) (behind.0 ∙ u.hides)
            ∙ five (is_hidden m) (hides_in ns) (hides_in fs) (subtrees_of rest).hides;
        instances = ap (λ c. c || (w.subtree.instances || (subtrees_of rest).instances)) own.instances_are
            ∙ ap (λ c. (is_some (instance_in m) || mounts_in ns) || (c || (subtrees_of rest).instances)) (behind.1 ∙ u.instances)
            ∙ five (is_some (instance_in m)) (mounts_in ns) (mounts_in fs) (subtrees_of rest).instances;
      }

  rest_gathered : (k : ℕ) (x : Node) (s rest : Shape Fiber) → IsFor k x s rest → IsGathered s → IsGathered rest
  rest_gathered _ _ _ _ (whole of shown a) g = g.2
  rest_gathered _ _ _ _ (alone of hidden bare a) g = g.2
  rest_gathered _ _ _ _ (beside of hidden kept a stage b) g = g.2.2

-- ---- what is found

hidden_number : (m : Mark) → is_hidden m ≡ true → number_of m ≡ None
hidden_number (of_instance i) h = absurd (cc h)
hidden_number (of_host k) h = absurd (cc h)
hidden_number (of_boundary b) h = refl
hidden_number (of_catcher c) h = absurd (cc h)
hidden_number plain h = absurd (cc h)

-- a hidden boundary is found
hidden_found : (hint : ℕ → Bool) (hides has : Bool) (o : Option ℕ) (c k : Bool) → hides ≡ true → c ≡ true → (not (spares hint hides has o) && (c || k)) ≡ true
hidden_found hint true has o true k h e = refl
hidden_found hint true has o false k h e = absurd (cc e)
hidden_found hint false has o c k h e = absurd (cc h)

-- of what it keeps and shows all is put on the ways
hidden_put : (hint : ℕ → Bool) (hides has : Bool) (o : Option ℕ) (p : Bool) → hides ≡ true → (not (spares hint hides has o) && p) ≡ p
hidden_put hint true has o p h = refl
hidden_put hint false has o p h = absurd (cc h)

-- so it is of a fallback, of which only what has no instance is spared
fallback_put : (hint : ℕ → Bool) (hides has p : Bool) → (has ≡ false → p ≡ false) → (not (spares hint hides has None) && p) ≡ p
fallback_put hint true has p without = refl
fallback_put hint false true p without = refl
fallback_put hint false false p without = sym (without refl)

without_number : (m : Mark) → is_some (instance_in m) ≡ false → number_of m ≡ None
without_number (of_instance i) h = absurd (cc h)
without_number (of_host k) h = refl
without_number (of_boundary b) h = refl
without_number (of_catcher c) h = refl
without_number plain h = refl

and_none : (b : Bool) → (b && false) ≡ false
and_none true = refl
and_none false = refl

mutual
  without_put : (hint stirred : ℕ → Bool) (n : ℕ) (x : Node) → mounts_within x ≡ false → puts hint stirred n x ≡ false
  without_put hint stirred n (node e m ns fs) is =
      let own = or_parts (is_some (instance_in m)) (mounts_in ns || mounts_in fs) is in
      let below = or_parts (mounts_in ns) (mounts_in fs) own.1 in
      let number : number_of m ≡ None = without_number m own.0 in
      let one = without_put_in hint stirred n ns below.0 in
      let two = without_put_in hint stirred n fs below.1 in
      ap (λ o. not (is_spared hint (node e m ns fs)) && ((is_numbered_so n o && finds hint stirred (node e m ns fs)) || (puts_in hint stirred n ns || puts_in hint stirred n fs))) number
      ∙ ap (λ b. not (is_spared hint (node e m ns fs)) && (b || puts_in hint stirred n fs)) one
      ∙ ap (λ b. not (is_spared hint (node e m ns fs)) && b) two
      ∙ and_none (not (is_spared hint (node e m ns fs)))

  without_put_in : (hint stirred : ℕ → Bool) (n : ℕ) (ns : Forest) → mounts_in ns ≡ false → puts_in hint stirred n ns ≡ false
  without_put_in hint stirred n none is = refl
  without_put_in hint stirred n (vacant ns) is = without_put_in hint stirred n ns is
  without_put_in hint stirred n (child x ns) is =
      let parts = or_parts (mounts_within x) (mounts_in ns) is in
      ap (λ b. b || puts_in hint stirred n ns) (without_put hint stirred n x parts.0) ∙ without_put_in hint stirred n ns parts.1

module _ (hint stirred : ℕ → Bool) where
  -- a fiber of a node is spared as the node is
  spared_is : (v : Fiber) (m : Mark) (hides has within_hides within_has : Bool) → v.stage ≡ begun m → v.subtree.hides ≡ within_hides → v.subtree.instances ≡ within_has
      → is_spared_at hint v ≡ spares hint within_hides within_has (number_of m)
  spared_is v m hides has within_hides within_has stage a b =
      ap (λ h. spares hint h v.subtree.instances (number_at v.stage)) a ∙ ap (λ i. spares hint within_hides i (number_at v.stage)) b
      ∙ ap (λ (s : Stage). spares hint within_hides within_has (number_at s)) stage

  -- a hidden boundary is found by its fiber and by its node, whatever is behind it
  both_found : (v : Fiber) (e : Element) (m : Mark) (ns fs : Forest) (ks : Shape Fiber) → v.stage ≡ begun m → is_hidden m ≡ true → v.subtree.hides ≡ true → (b c : Bool)
      → ((not (is_spared_at hint v) && (is_cause_at stirred v.stage || finds_among hint stirred ks)) || b) ≡ (finds hint stirred (node e m ns fs) || c)
  both_found v e m ns fs ks stage hidden hides b c =
      let cause : is_cause stirred m ≡ true = ap (λ h. option_map_or stirred (number_of m) false || h) hidden ∙ or_all (option_map_or stirred (number_of m) false) in
      let here : (not (is_spared_at hint v) && (is_cause_at stirred v.stage || finds_among hint stirred ks)) ≡ true =
      hidden_found hint v.subtree.hides v.subtree.instances (number_at v.stage) (is_cause_at stirred v.stage) (finds_among hint stirred ks) hides (ap (is_cause_at stirred) stage ∙ cause) in
      let there : finds hint stirred (node e m ns fs) ≡ true =
      hidden_found hint (hides_within (node e m ns fs)) (mounts_within (node e m ns fs)) (number_of m) (is_cause stirred m) (finds_in hint stirred ns || finds_in hint stirred fs)
      (ap (λ h. h || (hides_in ns || hides_in fs)) hidden) cause in
      ap (λ x. x || b) here ∙ sym (ap (λ x. x || c) there)

  mutual
    list_found : (k : ℕ) (ns : Forest) (s : Shape Fiber) → AreFor k ns s → IsGathered s → finds_among hint stirred s ≡ finds_in hint stirred ns
    list_found _ _ _ no_more g = refl
    list_found _ _ _ (gap {n = n} {ns = ns} {s = s} a) g = list_found (suc n) ns s a g
    list_found _ _ _ (next {n = n} {x = x} {ns = ns} {s = s} {rest = rest} is a) g =
        node_found n x s rest is g ∙ ap (λ b. finds hint stirred x || b) (list_found (suc n) ns rest a (rest_gathered n x s rest is g))

    node_found : (k : ℕ) (x : Node) (s rest : Shape Fiber) → IsFor k x s rest → IsGathered s → finds_among hint stirred s ≡ (finds hint stirred x || finds_among hint stirred rest)
    node_found _ _ _ _ (whole {v = v} {e = e} {m = m} {ns = ns} {ks = ks} {rest = rest} of shown a) g =
        let t = list_tells 0 ns ks a g.1 in
        let own = own_tells v m ks (hides_in ns) (mounts_in ns) of.stage g.0 t.hides t.instances in
        let hides : v.subtree.hides ≡ hides_within (node e m ns none) = own.hides_are ∙ ap (λ b. is_hidden m || b) (sym (or_none (hides_in ns))) in
        let has : v.subtree.instances ≡ mounts_within (node e m ns none) = own.instances_are ∙ ap (λ b. is_some (instance_in m) || b) (sym (or_none (mounts_in ns))) in
        let spared : is_spared_at hint v ≡ is_spared hint (node e m ns none) = spared_is v m false false (hides_within (node e m ns none)) (mounts_within (node e m ns none)) of.stage hides has in
        let cause : is_cause_at stirred v.stage ≡ is_cause stirred m = ap (is_cause_at stirred) of.stage in
        let below : finds_among hint stirred ks ≡ (finds_in hint stirred ns || false) = list_found 0 ns ks a g.1 ∙ sym (or_none (finds_in hint stirred ns)) in
        ap (λ b. (not b && (is_cause_at stirred v.stage || finds_among hint stirred ks)) || finds_among hint stirred rest) spared
        ∙ ap (λ b. (not (is_spared hint (node e m ns none)) && (b || finds_among hint stirred ks)) || finds_among hint stirred rest) cause
        ∙ ap (λ b. (not (is_spared hint (node e m ns none)) && (is_cause stirred m || b)) || finds_among hint stirred rest) below
    node_found _ _ _ _ (alone {v = v} {e = e} {m = m} {ns = ns} {fs = fs} {ks = ks} {rest = rest} of hidden bare a) g =
        let t = list_tells 0 fs ks a g.1 in
        let own = own_tells v m ks (hides_in fs) (mounts_in fs) of.stage g.0 t.hides t.instances in
        let hides : v.subtree.hides ≡ hides_within (node e m ns fs) = own.hides_are ∙ ap (λ b. is_hidden m || (b || hides_in fs)) (sym (none_hide ns bare)) in
        let has : v.subtree.instances ≡ mounts_within (node e m ns fs) = own.instances_are ∙ ap (λ b. is_some (instance_in m) || (b || mounts_in fs)) (sym (none_have ns bare)) in
        let spared : is_spared_at hint v ≡ is_spared hint (node e m ns fs) = spared_is v m false false (hides_within (node e m ns fs)) (mounts_within (node e m ns fs)) of.stage hides has in
        let cause : is_cause_at stirred v.stage ≡ is_cause stirred m = ap (is_cause_at stirred) of.stage in
        let below : finds_among hint stirred ks ≡ (finds_in hint stirred ns || finds_in hint stirred fs) = list_found 0 fs ks a g.1 ∙ ap (λ b. b || finds_in hint stirred fs) (sym (none_finds hint stirred ns bare)) in
        ap (λ b. (not b && (is_cause_at stirred v.stage || finds_among hint stirred ks)) || finds_among hint stirred rest) spared
        ∙ ap (λ b. (not (is_spared hint (node e m ns fs)) && (b || finds_among hint stirred ks)) || finds_among hint stirred rest) cause
        ∙ ap (λ b. (not (is_spared hint (node e m ns fs)) && (is_cause stirred m || b)) || finds_among hint stirred rest) below
    node_found _ _ _ _ (beside {v = v} {w = w} {e = e} {m = m} {ns = ns} {fs = fs} {ks = ks} {ws = ws} {rest = rest} of hidden kept a stage b) g =
        let t = list_tells 0 ns ks a g.1 in
        let own = own_tells v m ks (hides_in ns) (mounts_in ns) of.stage g.0 t.hides t.instances in
        both_found v e m ns fs ks of.stage hidden (own.hides_are ∙ ap (λ b. b || hides_in ns) hidden)
        ((not (is_spared_at hint w) && (is_cause_at stirred w.stage || finds_among hint stirred ws)) || finds_among hint stirred rest) (finds_among hint stirred rest)

  whole_put : (n : ℕ) (s s' i i' f f' p p' r : Bool) → s ≡ s' → i ≡ i' → f ≡ f' → p ≡ p' → ((not s && ((i && f) || p)) || r) ≡ ((not s' && ((i' && (not s' && f')) || p')) || r)
  whole_put n s s' i i' f f' p p' r a b c d =
      ap (λ x. (not x && ((i && f) || p)) || r) a ∙ ap (λ x. (not s' && ((x && f) || p)) || r) b ∙ ap (λ x. (not s' && ((i' && x) || p)) || r) c
      ∙ ap (λ x. (not s' && ((i' && f') || x)) || r) d ∙ ap (λ x. x || r) (twice s' i' f' p')

  -- of the fiber of a hidden boundary what is below it is put on the ways
  kept_put : (n : ℕ) (v : Fiber) (m : Mark) (ks : Shape Fiber) → v.stage ≡ begun m → is_hidden m ≡ true → v.subtree.hides ≡ true
      → (not (is_spared_at hint v) && ((is_numbered_so n (number_at v.stage) && (is_cause_at stirred v.stage || finds_among hint stirred ks)) || puts_among hint stirred n ks)) ≡ puts_among hint stirred n ks
  kept_put n v m ks stage hidden hides =
      let number : number_at v.stage ≡ None = ap number_at stage ∙ hidden_number m hidden in
      hidden_put hint v.subtree.hides v.subtree.instances (number_at v.stage)
      ((is_numbered_so n (number_at v.stage) && (is_cause_at stirred v.stage || finds_among hint stirred ks)) || puts_among hint stirred n ks) hides
      ∙ ap (λ o. (is_numbered_so n o && (is_cause_at stirred v.stage || finds_among hint stirred ks)) || puts_among hint stirred n ks) number

  hidden_node : (n : ℕ) (e : Element) (m : Mark) (ns fs : Forest) → is_hidden m ≡ true → puts hint stirred n (node e m ns fs) ≡ (puts_in hint stirred n ns || puts_in hint stirred n fs)
  hidden_node n e m ns fs hidden =
      hidden_put hint (hides_within (node e m ns fs)) (mounts_within (node e m ns fs)) (number_of m)
      ((is_numbered_so n (number_of m) && finds hint stirred (node e m ns fs)) || (puts_in hint stirred n ns || puts_in hint stirred n fs)) (ap (λ h. h || (hides_in ns || hides_in fs)) hidden)
      ∙ ap (λ o. (is_numbered_so n o && finds hint stirred (node e m ns fs)) || (puts_in hint stirred n ns || puts_in hint stirred n fs)) (hidden_number m hidden)

  mutual
    list_put : (n : ℕ) (k : ℕ) (ns : Forest) (s : Shape Fiber) → AreFor k ns s → IsGathered s → puts_among hint stirred n s ≡ puts_in hint stirred n ns
    list_put n _ _ _ no_more g = refl
    list_put n _ _ _ (gap {n = k} {ns = ns} {s = s} a) g = list_put n (suc k) ns s a g
    list_put n _ _ _ (next {n = k} {x = x} {ns = ns} {s = s} {rest = rest} is a) g =
        node_put n k x s rest is g ∙ ap (λ b. puts hint stirred n x || b) (list_put n (suc k) ns rest a (rest_gathered k x s rest is g))

    node_put : (n : ℕ) (k : ℕ) (x : Node) (s rest : Shape Fiber) → IsFor k x s rest → IsGathered s → puts_among hint stirred n s ≡ (puts hint stirred n x || puts_among hint stirred n rest)
    node_put n _ _ _ _ (whole {v = v} {e = e} {m = m} {ns = ns} {ks = ks} {rest = rest} of shown a) g =
        let t = list_tells 0 ns ks a g.1 in
        let own = own_tells v m ks (hides_in ns) (mounts_in ns) of.stage g.0 t.hides t.instances in
        let hides : v.subtree.hides ≡ hides_within (node e m ns none) = own.hides_are ∙ ap (λ b. is_hidden m || b) (sym (or_none (hides_in ns))) in
        let has : v.subtree.instances ≡ mounts_within (node e m ns none) = own.instances_are ∙ ap (λ b. is_some (instance_in m) || b) (sym (or_none (mounts_in ns))) in
        let spared : is_spared_at hint v ≡ is_spared hint (node e m ns none) = spared_is v m false false (hides_within (node e m ns none)) (mounts_within (node e m ns none)) of.stage hides has in
        let found : (is_cause_at stirred v.stage || finds_among hint stirred ks) ≡ (is_cause stirred m || (finds_in hint stirred ns || false)) =
        ap (λ b. b || finds_among hint stirred ks) (ap (is_cause_at stirred) of.stage) ∙ ap (λ b. is_cause stirred m || b) (list_found 0 ns ks a g.1 ∙ sym (or_none (finds_in hint stirred ns))) in
        let number : is_numbered_so n (number_at v.stage) ≡ is_numbered_so n (number_of m) = ap (λ (s : Stage). is_numbered_so n (number_at s)) of.stage in
        let below : puts_among hint stirred n ks ≡ (puts_in hint stirred n ns || false) = list_put n 0 ns ks a g.1 ∙ sym (or_none (puts_in hint stirred n ns)) in
        whole_put n (is_spared_at hint v) (is_spared hint (node e m ns none)) (is_numbered_so n (number_at v.stage)) (is_numbered_so n (number_of m))
        (is_cause_at stirred v.stage || finds_among hint stirred ks) (is_cause stirred m || (finds_in hint stirred ns || false)) (puts_among hint stirred n ks) (puts_in hint stirred n ns || false)
        (puts_among hint stirred n rest) spared number found below
    node_put n _ _ _ _ (alone {v = v} {e = e} {m = m} {ns = ns} {fs = fs} {ks = ks} {rest = rest} of hidden bare a) g =
        let t = list_tells 0 fs ks a g.1 in
        let own = own_tells v m ks (hides_in fs) (mounts_in fs) of.stage g.0 t.hides t.instances in
        let hides : v.subtree.hides ≡ hides_within (node e m ns fs) = own.hides_are ∙ ap (λ b. is_hidden m || (b || hides_in fs)) (sym (none_hide ns bare)) in
        let has : v.subtree.instances ≡ mounts_within (node e m ns fs) = own.instances_are ∙ ap (λ b. is_some (instance_in m) || (b || mounts_in fs)) (sym (none_have ns bare)) in
        let spared : is_spared_at hint v ≡ is_spared hint (node e m ns fs) = spared_is v m false false (hides_within (node e m ns fs)) (mounts_within (node e m ns fs)) of.stage hides has in
        let found : (is_cause_at stirred v.stage || finds_among hint stirred ks) ≡ (is_cause stirred m || (finds_in hint stirred ns || finds_in hint stirred fs)) =
        ap (λ b. b || finds_among hint stirred ks) (ap (is_cause_at stirred) of.stage) ∙ ap (λ b. is_cause stirred m || b) (list_found 0 fs ks a g.1 ∙ ap (λ b. b || finds_in hint stirred fs) (sym (none_finds hint stirred ns bare))) in
        let number : is_numbered_so n (number_at v.stage) ≡ is_numbered_so n (number_of m) = ap (λ (s : Stage). is_numbered_so n (number_at s)) of.stage in
        let below : puts_among hint stirred n ks ≡ (puts_in hint stirred n ns || puts_in hint stirred n fs) = list_put n 0 fs ks a g.1 ∙ ap (λ b. b || puts_in hint stirred n fs) (sym (none_put hint stirred n ns bare)) in
        whole_put n (is_spared_at hint v) (is_spared hint (node e m ns fs)) (is_numbered_so n (number_at v.stage)) (is_numbered_so n (number_of m))
        (is_cause_at stirred v.stage || finds_among hint stirred ks) (is_cause stirred m || (finds_in hint stirred ns || finds_in hint stirred fs)) (puts_among hint stirred n ks) (puts_in hint stirred n ns || puts_in hint stirred n fs)
        (puts_among hint stirred n rest) spared number found below
    node_put n _ _ _ _ (beside {v = v} {w = w} {e = e} {m = m} {ns = ns} {fs = fs} {ks = ks} {ws = ws} {rest = rest} of hidden kept a stage b) g =
        let t = list_tells 0 ns ks a g.1 in
        let u = list_tells 0 fs ws b g.2.1 in
        let own = own_tells v m ks (hides_in ns) (mounts_in ns) of.stage g.0 t.hides t.instances in
        let behind = fallback_tells w _ ws stage g.2.0 in
        let first = kept_put n v m ks of.stage hidden (own.hides_are ∙ ap (λ b. b || hides_in ns) hidden) ∙ list_put n 0 ns ks a g.1 in
        let second : puts_among hint stirred n (fiber 0 w ws shapes.none) ≡ puts_in hint stirred n fs =
        or_none (not (is_spared_at hint w) && ((is_numbered_so n (number_at w.stage) && (is_cause_at stirred w.stage || finds_among hint stirred ws)) || puts_among hint stirred n ws))
        ∙ ap (λ (s : Stage). not (spares hint w.subtree.hides w.subtree.instances (number_at s)) && ((is_numbered_so n (number_at s) && (is_cause_at stirred s || finds_among hint stirred ws)) || puts_among hint stirred n ws)) stage
        ∙ fallback_put hint w.subtree.hides w.subtree.instances (puts_among hint stirred n ws)
        (λ bare. list_put n 0 fs ws b g.2.1 ∙ without_put_in hint stirred n fs (sym (behind.1 ∙ u.instances) ∙ bare))
        ∙ list_put n 0 fs ws b g.2.1 in
        let here = not (is_spared_at hint v) && ((is_numbered_so n (number_at v.stage) && (is_cause_at stirred v.stage || finds_among hint stirred ks)) || puts_among hint stirred n ks) in
        let there = not (is_spared_at hint w) && ((is_numbered_so n (number_at w.stage) && (is_cause_at stirred w.stage || finds_among hint stirred ws)) || puts_among hint stirred n ws) in
        ap (λ x. x || (there || puts_among hint stirred n rest)) first
        ∙ ap (λ x. puts_in hint stirred n ns || (x || puts_among hint stirred n rest)) (sym (or_none there) ∙ second)
        ∙ sym (or_joined (puts_in hint stirred n ns) (puts_in hint stirred n fs) (puts_among hint stirred n rest))
        ∙ ap (λ x. x || puts_among hint stirred n rest) (sym (hidden_node n e m ns fs hidden))

  -- the fibers of a tree
  pub tree_put : (n : ℕ) (x : Node) (c : Shape Fiber) → IsTreeOf (Some x) c → IsGathered c → puts_among hint stirred n c ≡ puts hint stirred n x
  tree_put n x c a g = list_put n 0 (child x none) c a g ∙ or_none (puts hint stirred n x)

  -- if there is no tree none is put on the ways
  pub none_of_tree : (n : ℕ) (c : Shape Fiber) → IsTreeOf None c → IsGathered c → puts_among hint stirred n c ≡ false
  none_of_tree n c a g = list_put n 0 (vacant none) c a g
