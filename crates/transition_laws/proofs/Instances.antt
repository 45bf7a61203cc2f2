-- The instances of committed trees: each has a number of its own, one that stays keeps its component, and its flags began with 0.
use Rattle.std.specs.Prelude.{◌≡◌, ◌⊎◌, ℕ, ℤ, zero, suc, ◌+◌, ◌≤◌, true, Option, Some, None, List, [], ◌∷◌, ◌++◌, filter_map, nat_eq, option_and_then, option_map, refl, slice_get}
use Rattle.std.specs.List.{AllByRecursion, cons_option}
use Rattle.std.proofs.Common.{ap, arith, inl, inr, le_trans, subst, sym, ◌∙◌}
use Rattle.rx_ast.specs.Syntax.{Component, Program}
use Rattle.rx_rules.specs.Names.{hooks_of}
use Rattle.rx_elem.proofs.Deciding.{same_itself}
use Rattle.rx_elem.proofs.Equality.{same_kind-self}
use Rattle.rx_elem.specs.Elements.{Element, kind_of, same_kind}
use Rattle.rx_elem.specs.Numbers.{Numbers, numbered, numbered_host, numbered_in, numbered_instance, numbered_mark}
use Rattle.rx_elem.specs.Spots.{Around, Mounted, Spot, around_children, at_root, mounted, mounted_as, mounted_at, mounted_in, numbers_of, spot_mark, spots, spots_in}
use Rattle.rx_elem.specs.Trees.{Forest, Mark, Node, child, element_of, instance_in, node, none, of_boundary, of_catcher, of_host, of_instance, plain, vacant}
use Rattle.rx_meaning.specs.Fresh.{IsTree, Sight, fresh, given, made, none_yet, root_element}
use Rattle.rx_meaning.specs.Settled.{HasOwnNumbers}
use Rattle.commit_laws.proofs.CommitSettles.{mark_rises, number_rises, numbers_rise}
use Rattle.commit_laws.proofs.HiddenLaw.{all_mounted, numbered_at}
use Rattle.commit_laws.proofs.OwnNumbers.{occurs, occurs_option, spot_times, spots_times}
use Rattle.commit_laws.proofs.QuietTree.{root_stays}
use Rattle.rx_meaning.specs.Settled.{number_of, times_numbered}
use Rattle.replay_laws.proofs.Rendering.{IfSameKind}
use Rattle.transition_laws.proofs.Rendered.{AllMeet, IfMeets, MarkMeets, Mounts, TreeMeets, fresh_meets}
use Rattle.transition_laws.proofs.Mounting.{Begins, FlagsBegin, mount_begins}

-- An instance is one of these

abbrev pub IsIn : Mounted → List Mounted → Type 0
IsIn m [] = ⊥
IsIn m (x ∷ xs) = (m ≡ x) ⊎ IsIn m xs

pub got_in : (xs : List Mounted) (k : ℕ) (m : Mounted) → slice_get xs k ≡ Some m → IsIn m xs
got_in [] k m at = absurd (cc at)
got_in (x ∷ xs) zero m at = let same : x ≡ m = cc in inl (sym same)
got_in (x ∷ xs) (suc k) m at = inr (got_in xs k m at)

pub in_got : (xs : List Mounted) (m : Mounted) → IsIn m xs → (k : ℕ) × (slice_get xs k ≡ Some m)
in_got [] m h = absurd h
in_got (x ∷ xs) m (inl e) = (0, ap (λ (z : Mounted). Some z) (sym e))
in_got (x ∷ xs) m (inr h) = let r = in_got xs m h in (suc r.0, r.1)

-- Numbers of their own

in_occurs : (ms : List Mounted) (x : Mounted) → IsIn x ms → 1 ≤ occurs x.number (numbers_of ms)
in_occurs [] x h = absurd h
in_occurs (m ∷ ms) x (inl e) =
    let itself : nat_eq x.number m.number ≡ true = subst (λ (y : Mounted). nat_eq x.number y.number ≡ true) e (same_itself x.number) in
    rw itself (omega arith)
in_occurs (m ∷ ms) x (inr h) = omega (arith, in_occurs ms x h)

twice : (m : Mounted) (ms : List Mounted) (x : Mounted) → m.number ≡ x.number → IsIn x ms → occurs x.number (numbers_of (m ∷ ms)) ≤ 1 → ⊥
twice m ms x same h once =
    let itself : nat_eq x.number m.number ≡ true = subst (λ (n : ℕ). nat_eq x.number n ≡ true) (sym same) (same_itself x.number) in
    let few : 1 + occurs x.number (numbers_of ms) ≤ 1 = rw itself at once in
    omega (arith, in_occurs ms x h)

unique : (ms : List Mounted) → ((n : ℕ) → occurs n (numbers_of ms) ≤ 1) → (x y : Mounted) → IsIn x ms → IsIn y ms → x.number ≡ y.number → x ≡ y
unique [] once x y h k same = absurd h
unique (m ∷ ms) once x y (inl h) (inl k) same = h ∙ sym k
unique (m ∷ ms) once x y (inl h) (inr k) same = absurd (twice m ms y (ap (λ (z : Mounted). z.number) (sym h) ∙ same) k (once y.number))
unique (m ∷ ms) once x y (inr h) (inl k) same = absurd (twice m ms x (ap (λ (z : Mounted). z.number) (sym k) ∙ sym same) h (once x.number))
unique (m ∷ ms) once x y (inr h) (inr k) same = unique ms (λ n. omega (arith, once n)) x y h k same

listed_times : (n : ℕ) (xs : List Spot) → occurs n (filter_map numbered_at xs) ≡ spot_times n xs
listed_times n [] = refl
listed_times n (x ∷ xs) = omega (arith, occurs_option n (number_of (spot_mark x)) (filter_map numbered_at xs), listed_times n xs)

mounted_times : (n : ℕ) (x : Node) → occurs n (numbers_of (mounted (Some x))) ≡ times_numbered n x
mounted_times n x = ap (occurs n) (all_mounted (spots at_root x)) ∙ (listed_times n (spots at_root x) ∙ spots_times n at_root x)

-- Two instances of a tree with one number are one.
pub one_number : (next : ℕ) (tree : Option Node) → HasOwnNumbers next tree → (x y : Mounted) → IsIn x (mounted tree) → IsIn y (mounted tree) → x.number ≡ y.number → x ≡ y
one_number next None own x y h k same = absurd h
one_number next (Some n) own x y h k same = unique (mounted (Some n)) (λ i. let few = (own i).0 in let many = mounted_times i n in omega (arith, few, many)) x y h k same

-- Flags at mount, in each tree of a program

module _ (B : ℕ → List ℤ → Type 0) where
  mark_stays : (e : Element) (c : Numbers) (m : Mark) → MarkMeets (λ o. B) e m → MarkMeets (λ o. B) e (numbered_mark c m).1
  mark_stays e c (of_instance i) h = go i.number
    where
      go : (o : Option ℕ) → MarkMeets (λ o. B) e (numbered_instance c i o).1
      go None = h
      go (Some n) = h
  mark_stays e c (of_host k) h = go k
    where
      go : (o : Option ℕ) → MarkMeets (λ o. B) e (numbered_host c o).1
      go None = tt
      go (Some n) = tt
  mark_stays e c (of_boundary b) h = tt
  mark_stays e c (of_catcher z) h = tt
  mark_stays e c plain h = tt

  mutual
    tree_stays : (c : Numbers) (n : Node) → TreeMeets (λ o. B) n → TreeMeets (λ o. B) (numbered c n).1
    tree_stays c (node e m ns fs) h = (mark_stays e c m h.0, all_stay (numbered_mark c m).0 ns h.1, all_stay (numbered_in (numbered_mark c m).0 ns).0 fs h.2)

    all_stay : (c : Numbers) (ns : Forest) → AllMeet (λ o. B) ns → AllMeet (λ o. B) (numbered_in c ns).1
    all_stay c none h = tt
    all_stay c (vacant ns) h = all_stay c ns h
    all_stay c (child n ns) h = (tree_stays c n h.0, all_stay (numbered c n).0 ns h.1)

pub root_kind : (p : Program) (tree : Option Node) → IsTree p tree → IfSameKind (root_element p) tree
root_kind p tree none_yet = tt
root_kind p tree (given s old n next same t h) =
    let at : element_of (numbered next n).1 ≡ root_element p = subst (λ (q : Program). element_of (numbered next n).1 ≡ root_element q) same (root_stays s old n next h) in
    subst (λ (e : Element). same_kind (kind_of (root_element p)) (kind_of e) ≡ true) (sym at) (same_kind-self (root_element p) refl)

-- flags begin with 0
begins_at_mount : (p : Program) → Mounts (λ o. Begins p) p
begins_at_mount p c d there i new es effects initials reads versions is e at =
    let one : d ≡ e = cc in subst (λ (k : Component). FlagsBegin (hooks_of k) initials) one (mount_begins p d i new es effects initials reads versions is)

-- of the instances of each tree of a program flags began with 0
pub trees_begin : (p : Program) (tree : Option Node) → IsTree p tree → IfMeets (λ o. Begins p) tree
trees_begin p tree none_yet = tt
trees_begin p tree (given s old n next same t h) =
    let before : IfMeets (λ o. Begins s.program) old = subst (λ (q : Program). IfMeets (λ o. Begins q) old) (sym same) (trees_begin p old t) in
    let kind : IfSameKind (root_element s.program) old = subst (λ (q : Program). IfSameKind (root_element q) old) (sym same) (root_kind p old t) in
    subst (λ (q : Program). TreeMeets (λ o. Begins q) (numbered next n).1) same
    (tree_stays (Begins s.program) next n (fresh_meets (λ o. Begins s.program) s (begins_at_mount s.program) old n before kind h))

-- so of those of a tree that is rendered
rendered_begins : (p : Program) (s : Sight) (old : Option Node) (n : Node) → s.program ≡ p → IsTree p old → fresh s old ≡ made n → TreeMeets (λ o. Begins s.program) n
rendered_begins p s old n same t h =
    fresh_meets (λ o. Begins s.program) s (begins_at_mount s.program) old n (subst (λ (q : Program). IfMeets (λ o. Begins q) old) (sym same) (trees_begin p old t))
    (subst (λ (q : Program). IfSameKind (root_element q) old) (sym same) (root_kind p old t)) h

-- Instances once they have their numbers

module _ (Q : Option ℕ → ℕ → List ℤ → Type 0) (next : ℕ) where
  -- an instance is new and its number is this one or a later one, or its number is an old one
  abbrev pub IsNumbered : ℕ → ℕ → List ℤ → Type 0
  IsNumbered n c xs = ((next ≤ n) × Q None c xs) ⊎ Q (Some n) c xs

  abbrev MarkHas : Mark → Type 0
  MarkHas (of_instance i) = (n : ℕ) → i.number ≡ Some n → IsNumbered n i.component i.initials
  MarkHas (of_host h) = Unit {0}
  MarkHas (of_boundary b) = Unit {0}
  MarkHas (of_catcher z) = Unit {0}
  MarkHas plain = Unit {0}

  abbrev SpotsHave : List Spot → Type 0
  SpotsHave xs = AllByRecursion (λ x. MarkHas (spot_mark x)) xs

  both_have : (xs ys : List Spot) → SpotsHave xs → SpotsHave ys → SpotsHave (xs ++ ys)
  both_have [] ys h k = k
  both_have (x ∷ xs) ys h k = (h.0, both_have xs ys h.1 k)

  mark_numbered : (e : Element) (c : Numbers) → next ≤ c.instance → (m : Mark) → MarkMeets Q e m → MarkHas (numbered_mark c m).1
  mark_numbered e c late (of_instance i) h = go i.number refl
    where
      go : (o : Option ℕ) → i.number ≡ o → MarkHas (numbered_instance c i o).1
      go None is = λ n at. inl ((let same : c.instance ≡ n = cc in subst (λ (k : ℕ). next ≤ k) same late), subst (λ (o : Option ℕ). Q o i.component i.initials) is h.1)
      go (Some k) is = λ n at. inr (subst (λ (o : Option ℕ). Q o i.component i.initials) at h.1)
  mark_numbered e c late (of_host k) h = go k
    where
      go : (o : Option ℕ) → MarkHas (numbered_host c o).1
      go None = tt
      go (Some n) = tt
  mark_numbered e c late (of_boundary b) h = tt
  mark_numbered e c late (of_catcher z) h = tt
  mark_numbered e c late plain h = tt

  mutual
    tree_numbered : (c : Numbers) → next ≤ c.instance → (a : Around) (n : Node) → TreeMeets Q n → SpotsHave (spots a (numbered c n).1)
    tree_numbered c late a (node e m ns fs) h =
        let own = numbered_mark c m in
        let below = numbered_in own.0 ns in (
          mark_numbered e c late m h.0,
          both_have (spots_in (around_children a own.1) below.1) (spots_in a (numbered_in below.0 fs).1)
              (all_numbered own.0 (le_trans late (mark_rises c m)) (around_children a own.1) ns h.1)
              (all_numbered below.0 (le_trans (le_trans late (mark_rises c m)) (numbers_rise own.0 ns)) a fs h.2),
        )

    all_numbered : (c : Numbers) → next ≤ c.instance → (a : Around) (ns : Forest) → AllMeet Q ns → SpotsHave (spots_in a (numbered_in c ns).1)
    all_numbered c late a none h = tt
    all_numbered c late a (vacant ns) h = all_numbered c late a ns h
    all_numbered c late a (child n ns) h =
        both_have (spots a (numbered c n).1) (spots_in a (numbered_in (numbered c n).0 ns).1)
        (tree_numbered c late a n h.0) (all_numbered (numbered c n).0 (le_trans late (number_rises c n)) a ns h.1)

  mounted_has : (a : Around) (m : Mark) (y : Mounted) → MarkHas m → option_and_then (mounted_as a) (instance_in m) ≡ Some y → IsNumbered y.number y.component y.initials
  mounted_has a (of_instance i) y h at = go i.number refl at
    where
      go : (o : Option ℕ) → i.number ≡ o → option_map (λ n. record { number = n; component = i.component; initials = i.initials; owner = a.owner; visible = a.visible }) o ≡ Some y
          → IsNumbered y.number y.component y.initials
      go None is at = absurd (cc at)
      go (Some n) is at =
          let z : Mounted = record { number = n; component = i.component; initials = i.initials; owner = a.owner; visible = a.visible } in
          let same : z ≡ y = cc in subst (λ (w : Mounted). IsNumbered w.number w.component w.initials) same (h n is)
  mounted_has a (of_host k) y h at = absurd (cc at)
  mounted_has a (of_boundary b) y h at = absurd (cc at)
  mounted_has a (of_catcher z) y h at = absurd (cc at)
  mounted_has a plain y h at = absurd (cc at)

  listed_has : (xs : List Spot) → SpotsHave xs → (m : Mounted) → IsIn m (mounted_at xs) → IsNumbered m.number m.component m.initials
  listed_has [] h m at = absurd at
  listed_has (x ∷ xs) h m at = go (mounted_in x) refl at (listed_has xs h.1 m)
    where
      go : (o : Option Mounted) → mounted_in x ≡ o → IsIn m (cons_option o (mounted_at xs)) → (IsIn m (mounted_at xs) → IsNumbered m.number m.component m.initials)
          → IsNumbered m.number m.component m.initials
      go None is k later = later k
      go (Some y) is (inl same) later = mounted_has x.around (spot_mark x) m h.0 (is ∙ ap (λ (z : Mounted). Some z) (sym same))
      go (Some y) is (inr k) later = later k

  -- the instances of a tree once they have their numbers
  pub instances_numbered : (c : Numbers) → next ≤ c.instance → (n : Node) → TreeMeets Q n → (m : Mounted) → IsIn m (mounted (Some (numbered c n).1)) → IsNumbered m.number m.component m.initials
  instances_numbered c late n h m at = listed_has (spots at_root (numbered c n).1) (tree_numbered c late at_root n h) m at

-- So of each mounted instance flags began with 0.
pub mounted_begin : (p : Program) (tree : Option Node) → IsTree p tree → (m : Mounted) → IsIn m (mounted tree) → Begins p m.component m.initials
mounted_begin p tree none_yet m at = absurd at
mounted_begin p tree (given s old n next same t h) m at =
    subst (λ (q : Program). Begins q m.component m.initials) same
    (go (instances_numbered (λ o. Begins s.program) next.instance next (omega arith) n (rendered_begins p s old n same t h) m at))
  where
    go : IsNumbered (λ o. Begins s.program) next.instance m.number m.component m.initials → Begins s.program m.component m.initials
    go (inl k) = k.1
    go (inr k) = k
