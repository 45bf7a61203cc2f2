-- What holds of the instances of a tree, of those that are mounted, and of those of a tree whose new nodes have their numbers.
use Rattle.std.specs.Prelude.{◌≡◌, ◌≤◌, ◌⊎◌, ℕ, zero, suc, ℤ, Bool, true, false, List, [], ◌∷◌, ◌++◌, Option, Some, None, filter_map, option_map, option_and_then, slice_get, refl}
use Rattle.std.specs.List.{AllByRecursion, cons_option}
use Rattle.std.proofs.Common.{inl, inr, subst, sym, ap, ◌∙◌, arith}
use Rattle.rx_elem.specs.Elements.{Element}
use Rattle.rx_elem.specs.Numbers.{Numbers, numbered, numbered_host, numbered_in, numbered_instance, numbered_mark}
use Rattle.rx_elem.specs.Spots.{Around, Mounted, Spot, around_children, at_root, mounted_as, mounted_in, spots, spots_in}
use Rattle.rx_elem.specs.Trees.{Forest, Instance, Mark, Node, child, children_if, instance_in, is_hidden, node, none, of_boundary, of_catcher, of_host, of_instance, plain, vacant}
use Rattle.rx_susp.specs.declared.boundary.BoundaryState.TheVariants.{Hidden, Shown}
use Rattle.rx_meaning.specs.Fresh.{Place, empty, made, throws, waits}
use Rattle.rx_meaning.specs.Settled.{IfHidden}
use Rattle.rx_meaning.specs.Cursor.{Cursor, Frame, Open, around, at_end, at_place, ended, falling, guarding, trying}
use Rattle.render_laws.specs.OldNodes.{AllHave, CursorHas, FramesHave, OldHas, OpenHas, PairsHave}
use Rattle.commit_laws.proofs.CommitSettles.{mark_rises, number_rises, numbers_rise}
use Rattle.commit_laws.proofs.Soundness.{marked_hidden}
use Rattle.draw_laws.specs.Made.{AllMade, AllMeet, DoneMade, EachMounted, FramesMade, InstancesMade, IsNewOrMeets, MarkMeets, MountedMeets, NodesMade, OpenMade, PlaceMade, TreeMade, TreeMeets}

-- ---- what holds of more

-- what meets the one meets the other
abbrev pub Gives : (ℕ → List ℤ → Type 0) → (ℕ → List ℤ → Type 0) → Type 0
Gives Q S = (n : ℕ) (xs : List ℤ) → Q n xs → S n xs

module _ (Q S : ℕ → List ℤ → Type 0) (gives : Gives Q S) where
  mark_more : (m : Mark) → MarkMeets Q m → MarkMeets S m
  mark_more (of_instance i) h = λ n e. gives n i.initials (h n e)
  mark_more (of_host k) h = tt
  mark_more (of_boundary b) h = tt
  mark_more (of_catcher z) h = tt
  mark_more plain h = tt

  mutual
    tree_more : (n : Node) → TreeMeets Q n → TreeMeets S n
    tree_more (node e m ns fs) h = (mark_more m h.0, all_more ns h.1, all_more fs h.2)

    all_more : (ns : Forest) → AllMeet Q ns → AllMeet S ns
    all_more none h = tt
    all_more (vacant ns) h = all_more ns h
    all_more (child n ns) h = (tree_more n h.0, all_more ns h.1)

  olds_more : (ns : Forest) → AllHave (TreeMeets Q) ns → AllHave (TreeMeets S) ns
  olds_more none h = tt
  olds_more (vacant ns) h = olds_more ns h
  olds_more (child n ns) h = (tree_more n h.0, olds_more ns h.1)

  old_more : (o : Option Node) → OldHas (TreeMeets Q) o → OldHas (TreeMeets S) o
  old_more None h = tt
  old_more (Some n) h = tree_more n h

  pairs_more : (xs : List (Element × Option Node)) → PairsHave (TreeMeets Q) xs → PairsHave (TreeMeets S) xs
  pairs_more [] h = tt
  pairs_more (x ∷ xs) h = (old_more x.1 h.0, pairs_more xs h.1)

  open_more : (o : Open) → OpenHas (TreeMeets Q) o → OpenHas (TreeMeets S) o
  open_more (around e m) h = tt
  open_more (trying e old f) h = (old_more old h.0, olds_more f.old h.1)
  open_more (falling e old a) h = old_more old h
  open_more (guarding e f) h = olds_more f.old h

  frames_more : (fs : List Frame) → FramesHave (TreeMeets Q) fs → FramesHave (TreeMeets S) fs
  frames_more [] h = tt
  frames_more (f ∷ fs) h = (pairs_more f.rest h.0, open_more f.node h.1, frames_more fs h.2)

  cursor_more : (c : Cursor) → CursorHas (TreeMeets Q) c → CursorHas (TreeMeets S) c
  cursor_more (at_place n fs cs e old) h = (old_more old h.0, frames_more fs h.1)
  cursor_more (at_end n fs o done) h = frames_more fs h
  cursor_more (ended p) h = tt

if_hidden_more : (A B C D : Type 0) (b : Bool) → (A → C) → (B → D) → IfHidden b A B → IfHidden b C D
if_hidden_more A B C D true f g h = f h
if_hidden_more A B C D false f g h = g h

module _ (Q R S T : ℕ → List ℤ → Type 0) (shows : Gives Q S) (keeps : Gives R T) where
  mutual
    made_more : (n : Node) → TreeMade Q R n → TreeMade S T n
    made_more (node e m ns fs) h = (
      mark_more Q S shows m h.0,
      if_hidden_more (AllMeet R ns) (AllMade Q R ns) (AllMeet T ns) (AllMade S T ns) (is_hidden m) (all_more R T keeps ns) (all_made_more ns) h.1,
      all_made_more fs h.2,
    )

    all_made_more : (ns : Forest) → AllMade Q R ns → AllMade S T ns
    all_made_more none h = tt
    all_made_more (vacant ns) h = all_made_more ns h
    all_made_more (child n ns) h = (made_more n h.0, all_made_more ns h.1)

  done_more : (ns : List (Option Node)) → DoneMade Q R ns → DoneMade S T ns
  done_more [] h = tt
  done_more (None ∷ ns) h = done_more ns h
  done_more (Some n ∷ ns) h = (made_more n h.0, done_more ns h.1)

  opened_more : (o : Open) → OpenMade Q R o → OpenMade S T o
  opened_more (around e m) h = (mark_more Q S shows m h.0, h.1)
  opened_more (trying e old f) h = all_more R T keeps (children_if old) h
  opened_more (falling e old a) h = all_more R T keeps (children_if old) h
  opened_more (guarding e f) h = tt

  frames_made_more : (fs : List Frame) → FramesMade Q R fs → FramesMade S T fs
  frames_made_more [] h = tt
  frames_made_more (f ∷ fs) h = (opened_more f.node h.0, done_more f.done h.1, frames_made_more fs h.2)

  place_more : (p : Place) → PlaceMade Q R p → PlaceMade S T p
  place_more empty h = tt
  place_more (made n) h = made_more n h
  place_more (waits a) h = tt
  place_more (throws x) h = tt

  nodes_more : (c : Cursor) → NodesMade Q R c → NodesMade S T c
  nodes_more (at_place n fs cs e old) h = frames_made_more fs h
  nodes_more (at_end n fs o done) h = (opened_more o h.0, done_more done h.1, frames_made_more fs h.2)
  nodes_more (ended p) h = place_more p h

  -- what holds of the instances holds of more
  pub instances_more : (c : Cursor) → InstancesMade Q R c → InstancesMade S T c
  instances_more c h = record { nodes = nodes_more c h.nodes; olds = cursor_more R T keeps c h.olds }

-- ---- lists of spots

-- the instance at a spot has this property, if it is one of a component
abbrev SpotHas : (Mounted → Type 0) → Spot → Type 0
SpotHas P x = (m : Mounted) → mounted_in x ≡ Some m → P m

abbrev SpotsHave : (Mounted → Type 0) → List Spot → Type 0
SpotsHave P xs = AllByRecursion (SpotHas P) xs

module _ (P : Mounted → Type 0) where
  spots_join : (xs ys : List Spot) → SpotsHave P xs → SpotsHave P ys → SpotsHave P (xs ++ ys)
  spots_join [] ys h k = k
  spots_join (x ∷ xs) ys h k = (h.0, spots_join xs ys h.1 k)

  spots_first : (xs ys : List Spot) → SpotsHave P (xs ++ ys) → SpotsHave P xs
  spots_first [] ys h = tt
  spots_first (x ∷ xs) ys h = (h.0, spots_first xs ys h.1)

  spots_second : (xs ys : List Spot) → SpotsHave P (xs ++ ys) → SpotsHave P ys
  spots_second [] ys h = h
  spots_second (x ∷ xs) ys h = spots_second xs ys h.1

  -- each instance at a spot
  mounted_have : (xs : List Spot) → SpotsHave P xs → (k : ℕ) (m : Mounted) → slice_get (filter_map mounted_in xs) k ≡ Some m → P m
  mounted_have [] h k m e = cc
  mounted_have (x ∷ xs) h k m e = go (mounted_in x) refl k e (λ l at. mounted_have xs h.1 l m at)
    where
      go : (o : Option Mounted) → mounted_in x ≡ o → (k : ℕ) → slice_get (cons_option o (filter_map mounted_in xs)) k ≡ Some m
          → ((l : ℕ) → slice_get (filter_map mounted_in xs) l ≡ Some m → P m) → P m
      go None is k e rest = rest k e
      go (Some y) is zero e rest = let same : y ≡ m = cc in h.0 m (is ∙ ap (λ z. Some z) same)
      go (Some y) is (suc k) e rest = rest k e

  -- each spot of an instance
  spots_have : (xs : List Spot) → ((k : ℕ) (m : Mounted) → slice_get (filter_map mounted_in xs) k ≡ Some m → P m) → SpotsHave P xs
  spots_have [] h = tt
  spots_have (x ∷ xs) h = go (mounted_in x) refl h (λ each. spots_have xs each)
    where
      go : (o : Option Mounted) → mounted_in x ≡ o → ((k : ℕ) (m : Mounted) → slice_get (cons_option o (filter_map mounted_in xs)) k ≡ Some m → P m)
          → (((k : ℕ) (m : Mounted) → slice_get (filter_map mounted_in xs) k ≡ Some m → P m) → SpotsHave P xs) → SpotHas P x × SpotsHave P xs
      go None is each rest = (λ m e. let bad : None ≡ Some m = sym is ∙ e in cc, rest each)
      go (Some y) is each rest = (λ m e. let same : y ≡ m = cc in each 0 m (ap (λ z. Some z) same), rest (λ k m e. each (suc k) m e))

-- ---- what is mounted

-- an instance that is mounted, visible or not
met_where : (Q R : ℕ → List ℤ → Type 0) (n : ℕ) (xs : List ℤ) (m : Mounted) (v : Bool) → m.number ≡ n → m.initials ≡ xs → m.visible ≡ v → IfHidden v (Q n xs) (R n xs)
    → MountedMeets Q R m
met_where Q R n xs m true number initials visible h =
    let here : Q m.number m.initials = subst (λ k. Q k m.initials) (sym number) (subst (λ ys. Q n ys) (sym initials) h) in
    record { where_visible = λ _. here; where_hidden = λ hidden. let bad : true ≡ false = sym visible ∙ hidden in cc }
met_where Q R n xs m false number initials visible h =
    let here : R m.number m.initials = subst (λ k. R k m.initials) (sym number) (subst (λ ys. R n ys) (sym initials) h) in
    record { where_visible = λ shown. let bad : false ≡ true = sym visible ∙ shown in cc; where_hidden = λ _. here }

module _ (Q R : ℕ → List ℤ → Type 0) where
  -- what a mark's instance meets, if it is visible or if it isn't
  abbrev MarkAt : Bool → Mark → Type 0
  MarkAt v m = IfHidden v (MarkMeets Q m) (MarkMeets R m)

  number_at : (a : Around) (i : Instance) (m : Mounted) → (o : Option ℕ) → i.number ≡ o → ((v : Bool) → a.visible ≡ v → MarkAt v (of_instance i))
      → option_map (λ n. record { number = n; component = i.component; initials = i.initials; owner = a.owner; visible = a.visible }) o ≡ Some m → MountedMeets Q R m
  number_at a i m None is h e = cc
  number_at a i m (Some n) is h e =
      let y : Mounted = record { number = n; component = i.component; initials = i.initials; owner = a.owner; visible = a.visible } in
      let same : y ≡ m = cc in
      go a.visible (h a.visible refl) (ap (λ (z : Mounted). z.number) (sym same)) (ap (λ (z : Mounted). z.initials) (sym same)) (ap (λ (z : Mounted). z.visible) (sym same))
    where
      go : (v : Bool) → MarkAt v (of_instance i) → m.number ≡ n → m.initials ≡ i.initials → m.visible ≡ v → MountedMeets Q R m
      go true k number initials visible = met_where Q R n i.initials m true number initials visible (k n is)
      go false k number initials visible = met_where Q R n i.initials m false number initials visible (k n is)

  mark_at : (a : Around) (mark : Mark) → ((v : Bool) → a.visible ≡ v → MarkAt v mark) → (m : Mounted) → option_and_then (mounted_as a) (instance_in mark) ≡ Some m → MountedMeets Q R m
  mark_at a (of_instance i) h m e = number_at a i m i.number refl h e
  mark_at a (of_host k) h m e = cc
  mark_at a (of_boundary b) h m e = cc
  mark_at a (of_catcher z) h m e = cc
  mark_at a plain h m e = cc

  shown_mark : (a : Around) (mark : Mark) → a.visible ≡ true → MarkMeets Q mark → (v : Bool) → a.visible ≡ v → MarkAt v mark
  shown_mark a mark seen h true e = h
  shown_mark a mark seen h false e = let bad : true ≡ false = sym seen ∙ e in cc

  hidden_mark : (a : Around) (mark : Mark) → a.visible ≡ false → MarkMeets R mark → (v : Bool) → a.visible ≡ v → MarkAt v mark
  hidden_mark a mark seen h true e = let bad : false ≡ true = sym seen ∙ e in cc
  hidden_mark a mark seen h false e = h

  -- the surroundings of what a hidden boundary keeps, and of other children
  still_hidden : (a : Around) (mark : Mark) → a.visible ≡ false → (around_children a mark).visible ≡ false
  still_hidden a (of_instance i) e = e
  still_hidden a (of_host None) e = e
  still_hidden a (of_host (Some k)) e = e
  still_hidden a (of_boundary Shown) e = e
  still_hidden a (of_boundary (Hidden w)) e = refl
  still_hidden a (of_catcher z) e = e
  still_hidden a plain e = e

  mutual
    -- the instances of a tree that is hidden
    hidden_spots : (a : Around) (n : Node) → a.visible ≡ false → TreeMeets R n → SpotsHave (MountedMeets Q R) (spots a n)
    hidden_spots a (node e m ns fs) seen h = (
      mark_at a m (hidden_mark a m seen h.0),
      spots_join (MountedMeets Q R) (spots_in (around_children a m) ns) (spots_in a fs)
          (all_hidden (around_children a m) ns (still_hidden a m seen) h.1) (all_hidden a fs seen h.2),
    )

    all_hidden : (a : Around) (ns : Forest) → a.visible ≡ false → AllMeet R ns → SpotsHave (MountedMeets Q R) (spots_in a ns)
    all_hidden a none seen h = tt
    all_hidden a (vacant ns) seen h = all_hidden a ns seen h
    all_hidden a (child n ns) seen h = spots_join (MountedMeets Q R) (spots a n) (spots_in a ns) (hidden_spots a n seen h.0) (all_hidden a ns seen h.1)

  -- the children of a visible node: hidden if it is a hidden boundary, else visible
  children_at : (a : Around) (mark : Mark) (ns : Forest) → a.visible ≡ true
      → ((b : Around) → b.visible ≡ true → AllMade Q R ns → SpotsHave (MountedMeets Q R) (spots_in b ns))
      → IfHidden (is_hidden mark) (AllMeet R ns) (AllMade Q R ns) → SpotsHave (MountedMeets Q R) (spots_in (around_children a mark) ns)
  children_at a (of_instance i) ns seen made_spots h = made_spots (around_children a (of_instance i)) seen h
  children_at a (of_host None) ns seen made_spots h = made_spots (around_children a (of_host None)) seen h
  children_at a (of_host (Some k)) ns seen made_spots h = made_spots (around_children a (of_host (Some k))) seen h
  children_at a (of_boundary Shown) ns seen made_spots h = made_spots (around_children a (of_boundary Shown)) seen h
  children_at a (of_boundary (Hidden w)) ns seen made_spots h = all_hidden (around_children a (of_boundary (Hidden w))) ns refl h
  children_at a (of_catcher z) ns seen made_spots h = made_spots (around_children a (of_catcher z)) seen h
  children_at a plain ns seen made_spots h = made_spots (around_children a plain) seen h

  mutual
    -- the instances of a tree that is visible
    made_spots : (a : Around) (n : Node) → a.visible ≡ true → TreeMade Q R n → SpotsHave (MountedMeets Q R) (spots a n)
    made_spots a (node e m ns fs) seen h = (
      mark_at a m (shown_mark a m seen h.0),
      spots_join (MountedMeets Q R) (spots_in (around_children a m) ns) (spots_in a fs)
          (children_at a m ns seen (λ b is k. all_made_spots b ns is k) h.1) (all_made_spots a fs seen h.2),
    )

    all_made_spots : (a : Around) (ns : Forest) → a.visible ≡ true → AllMade Q R ns → SpotsHave (MountedMeets Q R) (spots_in a ns)
    all_made_spots a none seen h = tt
    all_made_spots a (vacant ns) seen h = all_made_spots a ns seen h
    all_made_spots a (child n ns) seen h = spots_join (MountedMeets Q R) (spots a n) (spots_in a ns) (made_spots a n seen h.0) (all_made_spots a ns seen h.1)

  -- each instance of a tree that is made
  pub each_made : (n : Node) → TreeMade Q R n → EachMounted (MountedMeets Q R) (Some n)
  each_made n h = mounted_have (MountedMeets Q R) (spots at_root n) (made_spots at_root n refl h)

-- ---- from what is mounted

module _ (R : ℕ → List ℤ → Type 0) where
  abbrev Meets : Mounted → Type 0
  Meets m = R m.number m.initials

  mark_from : (a : Around) (mark : Mark) → ((m : Mounted) → option_and_then (mounted_as a) (instance_in mark) ≡ Some m → Meets m) → MarkMeets R mark
  mark_from a (of_instance i) h =
      λ n e. h (record { number = n; component = i.component; initials = i.initials; owner = a.owner; visible = a.visible })
      (ap (option_map (λ n. let y : Mounted = record { number = n; component = i.component; initials = i.initials; owner = a.owner; visible = a.visible } in y)) e)
  mark_from a (of_host k) h = tt
  mark_from a (of_boundary b) h = tt
  mark_from a (of_catcher z) h = tt
  mark_from a plain h = tt

  mutual
    tree_from : (a : Around) (n : Node) → SpotsHave Meets (spots a n) → TreeMeets R n
    tree_from a (node e m ns fs) h = (
      mark_from a m h.0,
      all_from (around_children a m) ns (spots_first Meets (spots_in (around_children a m) ns) (spots_in a fs) h.1),
      all_from a fs (spots_second Meets (spots_in (around_children a m) ns) (spots_in a fs) h.1),
    )

    all_from : (a : Around) (ns : Forest) → SpotsHave Meets (spots_in a ns) → AllMeet R ns
    all_from a none h = tt
    all_from a (vacant ns) h = all_from a ns h
    all_from a (child n ns) h = (tree_from a n (spots_first Meets (spots a n) (spots_in a ns) h), all_from a ns (spots_second Meets (spots a n) (spots_in a ns) h))

  -- if each instance that is mounted meets this, each one of the tree does
  pub old_from : (old : Option Node) → EachMounted (λ (m : Mounted). R m.number m.initials) old → OldHas (TreeMeets R) old
  old_from None h = tt
  old_from (Some n) h = tree_from at_root n (spots_have Meets (spots at_root n) h)

-- ---- new nodes get their numbers

-- an instance is new, or meets this
abbrev pub OrNew : (base : ℕ) → (ℕ → List ℤ → Type 0) → ℕ → List ℤ → Type 0
OrNew base Q n xs = (base ≤ n) ⊎ Q n xs

module _ (base : ℕ) (Q R : ℕ → List ℤ → Type 0) where
  mark_numbered : (S : ℕ → List ℤ → Type 0) (c : Numbers) (m : Mark) → base ≤ c.instance → MarkMeets S m → MarkMeets (OrNew base S) (numbered_mark c m).1
  mark_numbered S c (of_instance i) le h = go i.number refl
    where
      go : (o : Option ℕ) → i.number ≡ o → MarkMeets (OrNew base S) (numbered_instance c i o).1
      go None is = λ n e. let same : c.instance ≡ n = cc in inl (omega arith)
      go (Some k) is = λ n e. inr (h n e)
  mark_numbered S c (of_host k) le h = go k
    where
      go : (o : Option ℕ) → MarkMeets (OrNew base S) (numbered_host c o).1
      go None = tt
      go (Some n) = tt
  mark_numbered S c (of_boundary b) le h = tt
  mark_numbered S c (of_catcher z) le h = tt
  mark_numbered S c plain le h = tt

  mutual
    tree_numbered : (S : ℕ → List ℤ → Type 0) (c : Numbers) (n : Node) → base ≤ c.instance → TreeMeets S n → TreeMeets (OrNew base S) (numbered c n).1
    tree_numbered S c (node e m ns fs) le h = (
      mark_numbered S c m le h.0,
      all_numbered S (numbered_mark c m).0 ns (omega (arith, mark_rises c m)) h.1,
      all_numbered S (numbered_in (numbered_mark c m).0 ns).0 fs (omega (arith, mark_rises c m, numbers_rise (numbered_mark c m).0 ns)) h.2,
    )

    all_numbered : (S : ℕ → List ℤ → Type 0) (c : Numbers) (ns : Forest) → base ≤ c.instance → AllMeet S ns → AllMeet (OrNew base S) (numbered_in c ns).1
    all_numbered S c none le h = tt
    all_numbered S c (vacant ns) le h = all_numbered S c ns le h
    all_numbered S c (child n ns) le h = (tree_numbered S c n le h.0, all_numbered S (numbered c n).0 ns (omega (arith, number_rises c n)) h.1)

  mutual
    made_numbered : (c : Numbers) (n : Node) → base ≤ c.instance → TreeMade Q R n → TreeMade (OrNew base Q) (OrNew base R) (numbered c n).1
    made_numbered c (node e m ns fs) le h = (
      mark_numbered Q c m le h.0,
      subst (λ b. IfHidden b (AllMeet (OrNew base R) (numbered_in (numbered_mark c m).0 ns).1) (AllMade (OrNew base Q) (OrNew base R) (numbered_in (numbered_mark c m).0 ns).1)) (marked_hidden c m)
          (if_hidden_more (AllMeet R ns) (AllMade Q R ns) (AllMeet (OrNew base R) (numbered_in (numbered_mark c m).0 ns).1)
          (AllMade (OrNew base Q) (OrNew base R) (numbered_in (numbered_mark c m).0 ns).1) (is_hidden m)
          (all_numbered R (numbered_mark c m).0 ns (omega (arith, mark_rises c m)))
          (all_made_numbered (numbered_mark c m).0 ns (omega (arith, mark_rises c m)))
          h.1),
      all_made_numbered (numbered_in (numbered_mark c m).0 ns).0 fs (omega (arith, mark_rises c m, numbers_rise (numbered_mark c m).0 ns)) h.2,
    )

    all_made_numbered : (c : Numbers) (ns : Forest) → base ≤ c.instance → AllMade Q R ns → AllMade (OrNew base Q) (OrNew base R) (numbered_in c ns).1
    all_made_numbered c none le h = tt
    all_made_numbered c (vacant ns) le h = all_made_numbered c ns le h
    all_made_numbered c (child n ns) le h = (made_numbered c n le h.0, all_made_numbered (numbered c n).0 ns (omega (arith, number_rises c n)) h.1)

-- ---- a whole render

-- what a render gives meets what its nodes did
pub last_made : (Q R : ℕ → List ℤ → Type 0) (n : Node) → InstancesMade Q R (ended (made n)) → EachMounted (MountedMeets Q R) (Some n)
last_made Q R n h = each_made Q R n h.nodes

new_or : (next : ℕ) (Q R : ℕ → List ℤ → Type 0) (m : Mounted) → MountedMeets (OrNew next Q) (OrNew next R) m → IsNewOrMeets next Q R m
new_or next Q R m h = go m.visible refl
  where
    shown_or : m.visible ≡ true → OrNew next Q m.number m.initials → IsNewOrMeets next Q R m
    shown_or is (inl new) = inl new
    shown_or is (inr meets) = inr (record { where_visible = λ _. meets; where_hidden = λ hidden. let bad : true ≡ false = sym is ∙ hidden in cc })

    kept_or : m.visible ≡ false → OrNew next R m.number m.initials → IsNewOrMeets next Q R m
    kept_or is (inl new) = inl new
    kept_or is (inr meets) = inr (record { where_visible = λ shown. let bad : false ≡ true = sym is ∙ shown in cc; where_hidden = λ _. meets })

    go : (v : Bool) → m.visible ≡ v → IsNewOrMeets next Q R m
    go true is = shown_or is (h.where_visible is)
    go false is = kept_or is (h.where_hidden is)

-- so does it once new instances have their numbers, but for these
pub numbered_made : (Q R : ℕ → List ℤ → Type 0) (n : Node) (next : Numbers) → InstancesMade Q R (ended (made n))
    → EachMounted (IsNewOrMeets next.instance Q R) (Some (numbered next n).1)
numbered_made Q R n next h k m at =
    new_or next.instance Q R m
    (each_made (OrNew next.instance Q) (OrNew next.instance R) (numbered next n).1 (made_numbered next.instance Q R next n (omega arith) h.nodes) k m at)
