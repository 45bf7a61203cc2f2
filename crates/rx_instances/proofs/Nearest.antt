-- The mounted instances right below an instance are the nearest ones below its node.
use Rattle.std.proofs.Common.{◌≡◌, ℕ, zero, suc, ◌≤◌, Bool, true, false, cond, List, [], ◌∷◌, ◌++◌, ◌⊎◌, inl, inr, Option, Some, None, nat_eq, filter, map, slice_get, refl, sym, ap, subst, ◌∙◌, arith, append-nil}
use Rattle.std.specs.List.{cons_option}
use Rattle.std.specs.Option.{option_eq}
use Rattle.std.specs.Prelude.{bytes_eq, option_map}
use Rattle.std.proofs.lemmas.Bool.Decides.{Decides-eqb}
use Rattle.std.proofs.lemmas.List.{map-append}
use Rattle.std.proofs.lemmas.List.Elements.{filter-append, filter_map-append}
use Rattle.std.proofs.lemmas.Option.{none-some, same_Some}
use Rattle.rx_base.specs.Values.{Name}
use Rattle.rx_ast.specs.Syntax.{Program}
use Rattle.rx_susp.specs.declared.boundary.BoundaryState.TheVariants.{Shown, Hidden}
use Rattle.rx_elem.specs.Elements.{Element}
use Rattle.rx_elem.specs.Spots.{Around, Mounted, Spot, around_children, mounted_at, mounted_in, spots, spots_in}
use Rattle.rx_elem.specs.Trees.{Forest, Instance, Mark, Node, child, children_of, mark_of, node, none, of_boundary, of_catcher, of_host, of_instance, plain, vacant}
use Rattle.commit_laws.specs.HiddenWaits.{AllNumbered, IsNumbered, Numbered}
use Rattle.rx_meaning.specs.Settled.{is_numbered_so, number_of, times_numbered, times_numbered_in}
use Rattle.rx_model.specs.State.{is_step, name_of}
use Rattle.rx_instances.specs.Nearest.{Told, found_as, itself_or, named, nearest, nearest_in, told}

-- what is told of the mounted instances of a name right below this owner, among those at some spots
abbrev pub right_below : Program → Name → (owner : Option ℕ) → List Spot → List (Option Told)
right_below p name o ss = map (λ m. Some (found_as m)) (filter (is_step p o name) (mounted_at ss))

-- what is told of the nodes of a name among these
abbrev pub all_told : Program → Name → List Node → List (Option Told)
all_told p name ns = map told (named p name ns)

-- ---- numbers

same_owner : (o : Option ℕ) → option_eq nat_eq o o ≡ true
same_owner None = refl
same_owner (Some n) = (Decides-eqb n n).1 refl

other_owner : (a b : Option ℕ) → (a ≡ b → ⊥) → option_eq nat_eq a b ≡ false
other_owner None None h = absurd (h refl)
other_owner None (Some k) h = refl
other_owner (Some n) None h = refl
other_owner (Some n) (Some k) h = go (nat_eq n k) refl
  where
    go : (b : Bool) → nat_eq n k ≡ b → b ≡ false
    go true e = absurd (h (ap Some ((Decides-eqb n k).0 e)))
    go false e = refl

-- an instance has a number, and another one than this
abbrev pub IsOther : Option ℕ → Mark → Type 0
IsOther o (of_instance i) = (n : ℕ) × (i.number ≡ Some n) × (Some n ≡ o → ⊥)
IsOther o (of_host h) = Unit {0}
IsOther o (of_boundary b) = Unit {0}
IsOther o (of_catcher c) = Unit {0}
IsOther o plain = Unit {0}

-- each instance of a tree has a number, and another one than this
abbrev mutual
  pub Others : Option ℕ → Node → Type 0
  Others o (node e m ns fs) = IsOther o m × OthersIn o ns × OthersIn o fs

  -- the same for the trees of a list
  pub OthersIn : Option ℕ → Forest → Type 0
  OthersIn o none = Unit {0}
  OthersIn o (vacant ns) = OthersIn o ns
  OthersIn o (child n ns) = Others o n × OthersIn o ns

numbered_mark : (m : Mark) → IsNumbered m → IsOther None m
numbered_mark (of_instance i) h = (h.0, h.1, λ e. none-some h.0 (sym e))
numbered_mark (of_host k) h = tt
numbered_mark (of_boundary b) h = tt
numbered_mark (of_catcher c) h = tt
numbered_mark plain h = tt

-- if each instance has a number, it is another one than none
mutual
  pub numbered_others : (x : Node) → Numbered x → Others None x
  numbered_others (node e m ns fs) h = (numbered_mark m h.0, numbered_others_in ns h.1, numbered_others_in fs h.2)

  numbered_others_in : (ns : Forest) → AllNumbered ns → OthersIn None ns
  numbered_others_in none h = tt
  numbered_others_in (vacant ns) h = numbered_others_in ns h
  numbered_others_in (child n ns) h = (numbered_others n h.0, numbered_others_in ns h.1)

-- how often the number of a node with this mark is this one
abbrev own_times : ℕ → Mark → ℕ
own_times n m = cond (is_numbered_so n (number_of m)) 1 0

times_own : (n : ℕ) (m : Mark) → number_of m ≡ Some n → own_times n m ≡ 1
times_own n m is = rw is (rw ((Decides-eqb n n).1 refl) refl)

other_mark : (n : ℕ) (m : Mark) → IsNumbered m → own_times n m ≡ 0 → IsOther (Some n) m
other_mark n (of_instance i) h z = (h.0, h.1, λ e. let own : own_times n (of_instance i) ≡ 1 = times_own n (of_instance i) (h.1 ∙ e) in omega (arith, own, z))
other_mark n (of_host k) h z = tt
other_mark n (of_boundary b) h z = tt
other_mark n (of_catcher c) h z = tt
other_mark n plain h z = tt

-- if a number does not occur, each instance has another one
mutual
  times_others : (n : ℕ) (x : Node) → Numbered x → times_numbered n x ≡ 0 → Others (Some n) x
  times_others n (node e m ns fs) h z = (other_mark n m h.0 (omega arith), times_others_in n ns h.1 (omega arith), times_others_in n fs h.2 (omega arith))

  times_others_in : (n : ℕ) (ns : Forest) → AllNumbered ns → times_numbered_in n ns ≡ 0 → OthersIn (Some n) ns
  times_others_in n none h z = tt
  times_others_in n (vacant ns) h z = times_others_in n ns h z
  times_others_in n (child x ns) h z = (times_others n x h.0 (omega arith), times_others_in n ns h.1 (omega arith))

-- ---- nodes of a tree

-- a node stands in a tree
abbrev mutual
  pub Has : Node → Node → Type 0
  Has y (node e m ns fs) = (node e m ns fs ≡ y) ⊎ (HasIn y ns ⊎ HasIn y fs)

  -- the same for the trees of a list
  pub HasIn : Node → Forest → Type 0
  HasIn y none = ⊥
  HasIn y (vacant ns) = HasIn y ns
  HasIn y (child x ns) = Has y x ⊎ HasIn y ns

-- the number of a node that stands in a tree occurs there
mutual
  has_times : (n : ℕ) (y : Node) → number_of (mark_of y) ≡ Some n → (x : Node) → Has y x → 1 ≤ times_numbered n x
  has_times n y is (node e m ns fs) (inl same) = let own = times_own n m (ap (λ (z : Node). number_of (mark_of z)) same ∙ is) in omega (arith, own)
  has_times n y is (node e m ns fs) (inr (inl h)) = omega (arith, has_times_in n y is ns h)
  has_times n y is (node e m ns fs) (inr (inr h)) = omega (arith, has_times_in n y is fs h)

  has_times_in : (n : ℕ) (y : Node) → number_of (mark_of y) ≡ Some n → (ns : Forest) → HasIn y ns → 1 ≤ times_numbered_in n ns
  has_times_in n y is none h = absurd h
  has_times_in n y is (vacant ns) h = has_times_in n y is ns h
  has_times_in n y is (child x ns) (inl h) = omega (arith, has_times n y is x h)
  has_times_in n y is (child x ns) (inr h) = omega (arith, has_times_in n y is ns h)

-- what stands below a node of a tree stands in the tree
mutual
  pub has_below : (z y : Node) → HasIn z (children_of y) → (x : Node) → Has y x → Has z x
  has_below z y h (node e m ns fs) (inl same) = inr (inl (subst (λ (w : Node). HasIn z (children_of w)) (sym same) h))
  has_below z y h (node e m ns fs) (inr (inl k)) = inr (inl (has_below_in z y h ns k))
  has_below z y h (node e m ns fs) (inr (inr k)) = inr (inr (has_below_in z y h fs k))

  has_below_in : (z y : Node) → HasIn z (children_of y) → (ns : Forest) → HasIn y ns → HasIn z ns
  has_below_in z y h none k = k
  has_below_in z y h (vacant ns) k = has_below_in z y h ns k
  has_below_in z y h (child x ns) (inl k) = inl (has_below z y h x k)
  has_below_in z y h (child x ns) (inr k) = inr (has_below_in z y h ns k)

-- something holds of each of these nodes
abbrev pub EachOf : (Node → Type 0) → List Node → Type 0
EachOf Q ns = (k : ℕ) (y : Node) → slice_get ns k ≡ Some y → Q y

each_more : (Q : Node → Type 0) (x : Node) (ns : List Node) → Q x → EachOf Q ns → EachOf Q (x ∷ ns)
each_more Q x ns here more zero y is = subst Q (same_Some x y is) here
each_more Q x ns here more (suc k) y is = more k y is

each_append : (Q : Node → Type 0) (xs ys : List Node) → EachOf Q xs → EachOf Q ys → EachOf Q (xs ++ ys)
each_append Q [] ys a b = b
each_append Q (x ∷ xs) ys a b = each_more Q x (xs ++ ys) (a 0 x refl) (each_append Q xs ys (λ k. a (suc k)) b)

pub each_filter : (Q : Node → Type 0) (test : Node → Bool) (xs : List Node) → EachOf Q xs → EachOf Q (filter test xs)
each_filter Q test [] a = a
each_filter Q test (x ∷ xs) a = go (test x) (each_filter Q test xs (λ k. a (suc k)))
  where
    go : (b : Bool) → EachOf Q (filter test xs) → EachOf Q (cond b (x ∷ filter test xs) (filter test xs))
    go true more = each_more Q x (filter test xs) (a 0 x refl) more
    go false more = more

each_own : (Q : Node → Type 0) (m : Mark) (n : Node) (below : List Node) → Q n → EachOf Q below → EachOf Q (itself_or m n below)
each_own Q (of_instance i) n below here more = each_more Q n [] here (λ k y is. absurd (none-some y is))
each_own Q (of_host k) n below here more = more
each_own Q (of_boundary b) n below here more = more
each_own Q (of_catcher c) n below here more = more
each_own Q plain n below here more = more

-- the nearest instances of a tree stand in it
mutual
  pub near_each : (Q : Node → Type 0) (x : Node) → ((y : Node) → Has y x → Q y) → EachOf Q (nearest x)
  near_each Q (node e m ns fs) h =
      each_append Q (itself_or m (node e m ns fs) (nearest_in ns)) (nearest_in fs)
      (each_own Q m (node e m ns fs) (nearest_in ns) (h (node e m ns fs) (inl refl)) (near_each_in Q ns (λ y k. h y (inr (inl k)))))
      (near_each_in Q fs (λ y k. h y (inr (inr k))))

  pub near_each_in : (Q : Node → Type 0) (ns : Forest) → ((y : Node) → HasIn y ns → Q y) → EachOf Q (nearest_in ns)
  near_each_in Q none h = λ k y is. absurd (none-some y is)
  near_each_in Q (vacant ns) h = near_each_in Q ns h
  near_each_in Q (child x ns) h = each_append Q (nearest x) (nearest_in ns) (near_each Q x (λ y k. h y (inl k))) (near_each_in Q ns (λ y k. h y (inr k)))

-- ---- the instances right below an owner

owner_below : (a : Around) (m : Mark) (o : Option ℕ) → IsOther o m → (a.owner ≡ o → ⊥) → (around_children a m).owner ≡ o → ⊥
owner_below a (of_instance i) o h other = λ e. h.2 (sym h.1 ∙ e)
owner_below a (of_host None) o h other = other
owner_below a (of_host (Some k)) o h other = other
owner_below a (of_boundary Shown) o h other = other
owner_below a (of_boundary (Hidden w)) o h other = other
owner_below a (of_catcher c) o h other = other
owner_below a plain o h other = other

module _ (p : Program) (name : Name) where
  below-append : (o : Option ℕ) (ss ts : List Spot) → right_below p name o (ss ++ ts) ≡ right_below p name o ss ++ right_below p name o ts
  below-append o ss ts =
      ap (λ (ms : List Mounted). map (λ m. Some (found_as m)) (filter (is_step p o name) ms)) (filter_map-append mounted_in ss ts)
      ∙ ap (map (λ (m : Mounted). Some (found_as m))) (filter-append (is_step p o name) (mounted_at ss) (mounted_at ts))
      ∙ map-append (λ (m : Mounted). Some (found_as m)) (filter (is_step p o name) (mounted_at ss)) (filter (is_step p o name) (mounted_at ts))

  told-append : (xs ys : List Node) → all_told p name (xs ++ ys) ≡ all_told p name xs ++ all_told p name ys
  told-append xs ys = ap (map told) (filter-append _ xs ys) ∙ map-append told (named p name xs) (named p name ys)

  abbrev spot : Around → Node → List Spot
  spot a x = record { at = x; around = a } ∷ []

  -- a node, what is below it, and its fallback
  parts : (o : Option ℕ) (a : Around) (e : Element) (m : Mark) (ns fs : Forest) → right_below p name o (spots a (node e m ns fs))
      ≡ right_below p name o (spot a (node e m ns fs)) ++ (right_below p name o (spots_in (around_children a m) ns) ++ right_below p name o (spots_in a fs))
  parts o a e m ns fs =
      below-append o (spot a (node e m ns fs)) (spots_in (around_children a m) ns ++ spots_in a fs)
      ∙ ap (λ (xs : List (Option Told)). right_below p name o (spot a (node e m ns fs)) ++ xs) (below-append o (spots_in (around_children a m) ns) (spots_in a fs))

  -- a node whose owner is another
  own_none : (o : Option ℕ) (a : Around) (e : Element) (m : Mark) (ns fs : Forest) → (a.owner ≡ o → ⊥) → right_below p name o (spot a (node e m ns fs)) ≡ []
  own_none o a e (of_instance i) ns fs other = go i.number
    where
      go : (r : Option ℕ)
          → map (λ m. Some (found_as m)) (filter (is_step p o name) (cons_option (option_map (λ n. let y : Mounted = record { number = n; component = i.component; initials = i.initials; owner = a.owner; visible = a.visible } in y) r) [])) ≡ []
      go None = refl
      go (Some n) = rw (other_owner a.owner o other) refl
  own_none o a e (of_host h) ns fs other = refl
  own_none o a e (of_boundary b) ns fs other = refl
  own_none o a e (of_catcher c) ns fs other = refl
  own_none o a e plain ns fs other = refl

  -- an instance whose owner this is
  own_told : (o : Option ℕ) (a : Around) (e : Element) (i : Instance) (ns fs : Forest) (n : ℕ) → i.number ≡ Some n → a.owner ≡ o
      → right_below p name o (spot a (node e (of_instance i) ns fs)) ≡ all_told p name (node e (of_instance i) ns fs ∷ [])
  own_told o a e i ns fs n is owner = go (bytes_eq (name_of p i.component) name) refl
    where
      go : (b : Bool) → bytes_eq (name_of p i.component) name ≡ b → right_below p name o (spot a (node e (of_instance i) ns fs)) ≡ all_told p name (node e (of_instance i) ns fs ∷ [])
      go true t = rw is (rw owner (rw (same_owner o) (rw t refl)))
      go false t = rw is (rw owner (rw (same_owner o) (rw t refl)))

  -- below another owner there is none, if each instance has another number
  mutual
    none_below : (o : Option ℕ) (a : Around) (x : Node) → Others o x → (a.owner ≡ o → ⊥) → right_below p name o (spots a x) ≡ []
    none_below o a (node e m ns fs) h other =
        parts o a e m ns fs
        ∙ (λ i. own_none o a e m ns fs other i ++ (none_below_in o (around_children a m) ns h.1 (owner_below a m o h.0 other) i ++ none_below_in o a fs h.2 other i))

    none_below_in : (o : Option ℕ) (a : Around) (ns : Forest) → OthersIn o ns → (a.owner ≡ o → ⊥) → right_below p name o (spots_in a ns) ≡ []
    none_below_in o a none h other = refl
    none_below_in o a (vacant ns) h other = none_below_in o a ns h other
    none_below_in o a (child x ns) h other = below-append o (spots a x) (spots_in a ns) ∙ (λ i. none_below o a x h.0 other i ++ none_below_in o a ns h.1 other i)

  -- right below an owner are the nearest ones, if each instance has another number
  mutual
    pub near_below : (o : Option ℕ) (a : Around) (x : Node) → Others o x → a.owner ≡ o → right_below p name o (spots a x) ≡ all_told p name (nearest x)
    near_below o a (node e (of_instance i) ns fs) h owner =
        parts o a e (of_instance i) ns fs
        ∙ (λ j. own_told o a e i ns fs h.0.0 h.0.1 owner j ++ (none_below_in o (around_children a (of_instance i)) ns h.1 (λ e. h.0.2 (sym h.0.1 ∙ e)) j ++ near_below_in o a fs h.2 owner j))
        ∙ sym (told-append (node e (of_instance i) ns fs ∷ []) (nearest_in fs))
    near_below o a (node e (of_host None) ns fs) h owner =
        parts o a e (of_host None) ns fs ∙ (λ j. near_below_in o a ns h.1 owner j ++ near_below_in o a fs h.2 owner j) ∙ sym (told-append (nearest_in ns) (nearest_in fs))
    near_below o a (node e (of_host (Some k)) ns fs) h owner =
        parts o a e (of_host (Some k)) ns fs
        ∙ (λ j. near_below_in o (around_children a (of_host (Some k))) ns h.1 owner j ++ near_below_in o a fs h.2 owner j)
        ∙ sym (told-append (nearest_in ns) (nearest_in fs))
    near_below o a (node e (of_boundary Shown) ns fs) h owner =
        parts o a e (of_boundary Shown) ns fs ∙ (λ j. near_below_in o a ns h.1 owner j ++ near_below_in o a fs h.2 owner j) ∙ sym (told-append (nearest_in ns) (nearest_in fs))
    near_below o a (node e (of_boundary (Hidden w)) ns fs) h owner =
        parts o a e (of_boundary (Hidden w)) ns fs
        ∙ (λ j. near_below_in o (around_children a (of_boundary (Hidden w))) ns h.1 owner j ++ near_below_in o a fs h.2 owner j)
        ∙ sym (told-append (nearest_in ns) (nearest_in fs))
    near_below o a (node e (of_catcher c) ns fs) h owner =
        parts o a e (of_catcher c) ns fs ∙ (λ j. near_below_in o a ns h.1 owner j ++ near_below_in o a fs h.2 owner j) ∙ sym (told-append (nearest_in ns) (nearest_in fs))
    near_below o a (node e plain ns fs) h owner =
        parts o a e plain ns fs ∙ (λ j. near_below_in o a ns h.1 owner j ++ near_below_in o a fs h.2 owner j) ∙ sym (told-append (nearest_in ns) (nearest_in fs))

    near_below_in : (o : Option ℕ) (a : Around) (ns : Forest) → OthersIn o ns → a.owner ≡ o → right_below p name o (spots_in a ns) ≡ all_told p name (nearest_in ns)
    near_below_in o a none h owner = refl
    near_below_in o a (vacant ns) h owner = near_below_in o a ns h owner
    near_below_in o a (child x ns) h owner =
        below-append o (spots a x) (spots_in a ns)
        ∙ (λ j. near_below o a x h.0 owner j ++ near_below_in o a ns h.1 owner j)
        ∙ sym (told-append (nearest x) (nearest_in ns))

  -- and so of one that stands in a tree, if its number occurs once
  mutual
    pub found_below : (n : ℕ) (y : Node) → number_of (mark_of y) ≡ Some n → (a : Around) (x : Node) → Has y x → Numbered x → times_numbered n x ≤ 1 → (a.owner ≡ Some n → ⊥)
        → right_below p name (Some n) (spots a x) ≡ all_told p name (nearest_in (children_of y))
    found_below n y is a (node e m ns fs) (inl same) h once other =
        let number : number_of m ≡ Some n = ap (λ (z : Node). number_of (mark_of z)) same ∙ is in
        let own = times_own n m number in
        parts (Some n) a e m ns fs
        ∙ (λ i. own_none (Some n) a e m ns fs other i
        ++ (near_below_in (Some n) (around_children a m) ns (times_others_in n ns h.1 (omega (arith, own))) (owned m number) i ++ none_below_in (Some n) a fs (times_others_in n fs h.2 (omega (arith, own))) other i))
        ∙ append-nil (all_told p name (nearest_in ns))
        ∙ ap (λ (z : Node). all_told p name (nearest_in (children_of z))) same
      where
        owned : (m : Mark) → number_of m ≡ Some n → (around_children a m).owner ≡ Some n
        owned (of_instance i) is = is
        owned (of_host k) is = absurd (none-some n is)
        owned (of_boundary b) is = absurd (none-some n is)
        owned (of_catcher c) is = absurd (none-some n is)
        owned plain is = absurd (none-some n is)
    found_below n y is a (node e m ns fs) (inr (inl k)) h once other =
        let some = has_times_in n y is ns k in
        parts (Some n) a e m ns fs
        ∙ (λ i. own_none (Some n) a e m ns fs other i
        ++ (found_below_in n y is (around_children a m) ns k h.1 (omega (arith, some)) (owner_below a m (Some n) (other_mark n m h.0 (omega (arith, some))) other) i
        ++ none_below_in (Some n) a fs (times_others_in n fs h.2 (omega (arith, some))) other i))
        ∙ append-nil (all_told p name (nearest_in (children_of y)))
    found_below n y is a (node e m ns fs) (inr (inr k)) h once other =
        let some = has_times_in n y is fs k in
        parts (Some n) a e m ns fs
        ∙ (λ i. own_none (Some n) a e m ns fs other i
        ++ (none_below_in (Some n) (around_children a m) ns (times_others_in n ns h.1 (omega (arith, some))) (owner_below a m (Some n) (other_mark n m h.0 (omega (arith, some))) other) i
        ++ found_below_in n y is a fs k h.2 (omega (arith, some)) other i))

    found_below_in : (n : ℕ) (y : Node) → number_of (mark_of y) ≡ Some n → (a : Around) (ns : Forest) → HasIn y ns → AllNumbered ns → times_numbered_in n ns ≤ 1 → (a.owner ≡ Some n → ⊥)
        → right_below p name (Some n) (spots_in a ns) ≡ all_told p name (nearest_in (children_of y))
    found_below_in n y is a none k h once other = absurd k
    found_below_in n y is a (vacant ns) k h once other = found_below_in n y is a ns k h once other
    found_below_in n y is a (child x ns) (inl k) h once other =
        let some = has_times n y is x k in
        below-append (Some n) (spots a x) (spots_in a ns)
        ∙ (λ i. found_below n y is a x k h.0 (omega (arith, some)) other i ++ none_below_in (Some n) a ns (times_others_in n ns h.1 (omega (arith, some))) other i)
        ∙ append-nil (all_told p name (nearest_in (children_of y)))
    found_below_in n y is a (child x ns) (inr k) h once other =
        let some = has_times_in n y is ns k in
        below-append (Some n) (spots a x) (spots_in a ns)
        ∙ (λ i. none_below (Some n) a x (times_others n x h.0 (omega (arith, some))) other i ++ found_below_in n y is a ns k h.1 (omega (arith, some)) other i)
