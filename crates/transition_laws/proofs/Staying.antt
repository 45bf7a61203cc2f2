-- After a commit each instance that was mounted before has its component still, and what was gone stays gone.
use Rattle.std.specs.Prelude.{◌≡◌, ◌⊎◌, ℕ, ℤ, ◌≤◌, Bool, true, false, cond, not, ◌||◌, Option, Some, None, IfSome, List, [], ◌∷◌, ◌++◌, filter, nat_eq, option_and_then, option_map, refl}
use Rattle.std.specs.List.{cons_option, list_any}
use Rattle.std.proofs.Common.{ap, arith, inl, inr, subst, sym, ◌∙◌}
use Rattle.rx_ast.specs.Syntax.{Program}
use Rattle.rx_elem.proofs.Deciding.{or_left, or_right, same_itself, same_number}
use Rattle.rx_elem.specs.Elements.{Element}
use Rattle.rx_elem.specs.Numbers.{Numbers, numbered}
use Rattle.rx_elem.specs.Spots.{Around, Mounted, Spot, around_children, at_root, kept_instances, mounted, mounted_as, mounted_at, numbers_of, spot_mark, spots, spots_in, visible_instances}
use Rattle.rx_elem.specs.Trees.{Forest, Mark, Node, child, instance_in, node, none, of_boundary, of_catcher, of_host, of_instance, plain, vacant}
use Rattle.rx_queue.specs.Journal.{Target, belongs_to, hook, resource, same_target}
use Rattle.rx_meaning.specs.Fresh.{IsTree, Sight, fresh, made}
use Rattle.transition_laws.specs.Transitions.{is_gone}
use Rattle.transition_laws.proofs.Rendered.{AllMeet, IfMeets, MarkMeets, TreeMeets, fresh_meets}
use Rattle.transition_laws.proofs.Mounting.{Begins}
use Rattle.transition_laws.proofs.Instances.{IsIn, IsNumbered, instances_numbered, root_kind, trees_begin}

-- an instance with this number and this component stands among these
abbrev pub Stands : List Mounted → ℕ → ℕ → Type 0
Stands all n c = (m : Mounted) × IsIn m all × (m.number ≡ n) × (m.component ≡ c)

-- the same of an instance that has a number
abbrev StandsIf : List Mounted → Option ℕ → ℕ → List ℤ → Type 0
StandsIf all o c xs = IfSome o (λ n. Stands all n c)

in_later : (m : Mounted) (o : Option Mounted) (xs : List Mounted) → IsIn m xs → IsIn m (cons_option o xs)
in_later m None xs h = h
in_later m (Some x) xs h = inr h

in_first : (m : Mounted) (xs ys : List Spot) → IsIn m (mounted_at xs) → IsIn m (mounted_at (xs ++ ys))
in_first m [] ys h = absurd h
in_first m (x ∷ xs) ys h = go (option_and_then (mounted_as x.around) (instance_in (spot_mark x))) h (in_first m xs ys)
  where
    go : (o : Option Mounted) → IsIn m (cons_option o (mounted_at xs)) → (IsIn m (mounted_at xs) → IsIn m (mounted_at (xs ++ ys))) → IsIn m (cons_option o (mounted_at (xs ++ ys)))
    go None k rest = rest k
    go (Some y) (inl e) rest = inl e
    go (Some y) (inr k) rest = inr (rest k)

in_last : (m : Mounted) (xs ys : List Spot) → IsIn m (mounted_at ys) → IsIn m (mounted_at (xs ++ ys))
in_last m [] ys h = h
in_last m (x ∷ xs) ys h = in_later m (option_and_then (mounted_as x.around) (instance_in (spot_mark x))) (mounted_at (xs ++ ys)) (in_last m xs ys h)

module _ (all : List Mounted) (Q : Option ℕ → ℕ → List ℤ → Type 0) where
  -- each instance of a list is among them
  abbrev Within : List Spot → Type 0
  Within xs = (m : Mounted) → IsIn m (mounted_at xs) → IsIn m all

  mark_stands : (e : Element) (m : Mark) (a : Around) (rest : List Mounted) → ((y : Mounted) → IsIn y (cons_option (option_and_then (mounted_as a) (instance_in m)) rest) → IsIn y all)
      → MarkMeets Q e m → MarkMeets (StandsIf all) e m
  mark_stands e (of_instance i) a rest within h = (h.0, go i.number within)
    where
      go : (o : Option ℕ)
          → ((y : Mounted) → IsIn y (cons_option (option_map (λ n. record { number = n; component = i.component; initials = i.initials; owner = a.owner; visible = a.visible }) o) rest) → IsIn y all)
          → IfSome o (λ n. Stands all n i.component)
      go None k = tt
      go (Some n) k =
          let y : Mounted = record { number = n; component = i.component; initials = i.initials; owner = a.owner; visible = a.visible } in (y, k y (inl refl), refl, refl)
  mark_stands e (of_host k) a rest within h = tt
  mark_stands e (of_boundary b) a rest within h = tt
  mark_stands e (of_catcher z) a rest within h = tt
  mark_stands e plain a rest within h = tt

  mutual
    tree_stands : (a : Around) (n : Node) → Within (spots a n) → TreeMeets Q n → TreeMeets (StandsIf all) n
    tree_stands a (node e m ns fs) within h =
        let below = spots_in (around_children a m) ns in
        let behind = spots_in a fs in
        let later : Within (below ++ behind) = λ y k. within y (in_later y (option_and_then (mounted_as a) (instance_in m)) (mounted_at (below ++ behind)) k) in (
          mark_stands e m a (mounted_at (below ++ behind)) within h.0,
          all_stand (around_children a m) ns (λ y k. later y (in_first y below behind k)) h.1,
          all_stand a fs (λ y k. later y (in_last y below behind k)) h.2,
        )

    all_stand : (a : Around) (ns : Forest) → Within (spots_in a ns) → AllMeet Q ns → AllMeet (StandsIf all) ns
    all_stand a none within h = tt
    all_stand a (vacant ns) within h = all_stand a ns within h
    all_stand a (child n ns) within h = (
      tree_stands a n (λ y k. within y (in_first y (spots a n) (spots_in a ns) k)) h.0,
      all_stand a ns (λ y k. within y (in_last y (spots a n) (spots_in a ns) k)) h.1,
    )

old_stands : (p : Program) (old : Option Node) → IsTree p old → IfMeets (StandsIf (mounted old)) old
old_stands p None t = tt
old_stands p (Some n) t = tree_stands (mounted (Some n)) (λ o. Begins p) at_root n (λ m h. h) (trees_begin p (Some n) t)

-- An instance of a tree that is committed is new, or stood in the old one with its component.
pub instance_stood : (s : Sight) (old : Option Node) (new : Node) (next : Numbers) → IsTree s.program old → fresh s old ≡ made new
    → (m : Mounted) → IsIn m (mounted (Some (numbered next new).1)) → (next.instance ≤ m.number) ⊎ Stands (mounted old) m.number m.component
instance_stood s old new next t gives m at =
    go (instances_numbered (StandsIf (mounted old)) next.instance next (omega arith) new
    (fresh_meets (StandsIf (mounted old)) s (λ c d there i fresh es effects initials reads versions is. tt) old new (old_stands s.program old t) (root_kind s.program old t) gives) m at)
  where
    go : IsNumbered (StandsIf (mounted old)) next.instance m.number m.component m.initials → (next.instance ≤ m.number) ⊎ Stands (mounted old) m.number m.component
    go (inl h) = inl h.0
    go (inr h) = inr h

-- Mounted and gone

-- a number is that of one of these that passes a test
number_listed : (test : Mounted → Bool) (xs : List Mounted) (m : Mounted) → IsIn m xs → test m ≡ true → list_any (nat_eq m.number) (numbers_of (filter test xs)) ≡ true
number_listed test [] m h passes = absurd h
number_listed test (x ∷ xs) m h passes = go (test x) refl h (λ k. number_listed test xs m k passes)
  where
    go : (b : Bool) → test x ≡ b → (m ≡ x) ⊎ IsIn m xs → (IsIn m xs → list_any (nat_eq m.number) (numbers_of (filter test xs)) ≡ true)
        → list_any (nat_eq m.number) (numbers_of (cond b (x ∷ filter test xs) (filter test xs))) ≡ true
    go true is (inl same) later =
        or_left (nat_eq m.number x.number) (list_any (nat_eq m.number) (numbers_of (filter test xs))) (subst (λ (y : Mounted). nat_eq m.number y.number ≡ true) same (same_itself m.number))
    go true is (inr k) later = or_right (nat_eq m.number x.number) (list_any (nat_eq m.number) (numbers_of (filter test xs))) (later k)
    go false is (inl same) later = absurd (cc (sym is ∙ (sym (ap test same) ∙ passes)))
    go false is (inr k) later = later k

listed_number : (test : Mounted → Bool) (xs : List Mounted) (n : ℕ) → list_any (nat_eq n) (numbers_of (filter test xs)) ≡ true → (m : Mounted) × IsIn m xs × (m.number ≡ n)
listed_number test [] n h = absurd (cc h)
listed_number test (x ∷ xs) n h = go (test x) h (listed_number test xs n)
  where
    later : ((m : Mounted) × IsIn m xs × (m.number ≡ n)) → (m : Mounted) × IsIn m (x ∷ xs) × (m.number ≡ n)
    later r = (r.0, inr r.1, r.2)

    here : (b : Bool) → nat_eq n x.number ≡ b → (b || list_any (nat_eq n) (numbers_of (filter test xs))) ≡ true
        → (list_any (nat_eq n) (numbers_of (filter test xs)) ≡ true → (m : Mounted) × IsIn m xs × (m.number ≡ n)) → (m : Mounted) × IsIn m (x ∷ xs) × (m.number ≡ n)
    here true is k rest = (x, inl refl, sym (same_number n x.number is))
    here false is k rest = later (rest k)

    go : (b : Bool) → list_any (nat_eq n) (numbers_of (cond b (x ∷ filter test xs) (filter test xs))) ≡ true
        → (list_any (nat_eq n) (numbers_of (filter test xs)) ≡ true → (m : Mounted) × IsIn m xs × (m.number ≡ n)) → (m : Mounted) × IsIn m (x ∷ xs) × (m.number ≡ n)
    go true k rest = here (nat_eq n x.number) refl k rest
    go false k rest = later (rest k)

-- a visible instance is one of the visible ones
pub visible_listed : (tree : Option Node) (m : Mounted) (k : ℕ) → IsIn m (mounted tree) → m.visible ≡ true → belongs_to (visible_instances tree) (hook m.number k) ≡ true
visible_listed tree m k at seen = number_listed (λ m. m.visible) (mounted tree) m at seen

-- an instance that is mounted isn't gone
pub mounted_here : (tree : Option Node) (m : Mounted) (k : ℕ) → IsIn m (mounted tree) → is_gone tree (hook m.number k) ≡ false
mounted_here tree m k at = go m.visible refl
  where
    either : (a b : Bool) → (a ≡ true) ⊎ (b ≡ true) → not (a || b) ≡ false
    either true b h = refl
    either false true h = refl
    either false false (inl h) = absurd (cc h)
    either false false (inr h) = absurd (cc h)

    go : (b : Bool) → m.visible ≡ b → is_gone tree (hook m.number k) ≡ false
    go true is = either (belongs_to (visible_instances tree) (hook m.number k)) (belongs_to (kept_instances tree) (hook m.number k)) (inl (number_listed (λ m. m.visible) (mounted tree) m at is))
    go false is =
        either (belongs_to (visible_instances tree) (hook m.number k)) (belongs_to (kept_instances tree) (hook m.number k))
        (inr (number_listed (λ m. not m.visible) (mounted tree) m at (ap not is)))

-- what isn't gone is mounted
here_mounted : (tree : Option Node) (i k : ℕ) → is_gone tree (hook i k) ≡ false → (m : Mounted) × IsIn m (mounted tree) × (m.number ≡ i)
here_mounted tree i k h = go (belongs_to (visible_instances tree) (hook i k)) (belongs_to (kept_instances tree) (hook i k)) refl refl h
  where
    go : (a b : Bool) → belongs_to (visible_instances tree) (hook i k) ≡ a → belongs_to (kept_instances tree) (hook i k) ≡ b → not (a || b) ≡ false
        → (m : Mounted) × IsIn m (mounted tree) × (m.number ≡ i)
    go true b e f g = listed_number (λ m. m.visible) (mounted tree) i e
    go false true e f g = listed_number (λ m. not m.visible) (mounted tree) i f
    go false false e f g = absurd (cc g)

-- What was gone stays gone, unless it has yet to come.
pub gone_stays : (s : Sight) (old : Option Node) (new : Node) (next : Numbers) → IsTree s.program old → fresh s old ≡ made new
    → (t : Target) → ((k i : ℕ) → next.instance ≤ i → same_target (hook i k) t ≡ false) → is_gone old t ≡ true → is_gone (Some (numbered next new).1) t ≡ true
gone_stays s old new next t gives (resource r) below h = absurd (cc h)
gone_stays s old new next t gives (hook i k) below h = go (is_gone (Some (numbered next new).1) (hook i k)) refl
  where
    clash : {b : Bool} → b ≡ true → b ≡ false → ⊥
    clash x y = cc (x, y)

    itself : same_target (hook i k) (hook i k) ≡ true
    itself = rw (same_itself i, same_itself k) refl

    from : (m : Mounted) → m.number ≡ i → (next.instance ≤ m.number) ⊎ Stands (mounted old) m.number m.component → ⊥
    from m is (inl late) = clash itself (below k i (subst (λ (n : ℕ). next.instance ≤ n) is late))
    from m is (inr stood) =
        clash h (subst (λ (n : ℕ). is_gone old (hook n k) ≡ false) (stood.2 ∙ is) (mounted_here old stood.0 k stood.1))

    go : (b : Bool) → is_gone (Some (numbered next new).1) (hook i k) ≡ b → b ≡ true
    go true e = refl
    go false e = let m = here_mounted (Some (numbered next new).1) i k e in absurd (from m.0 m.2 (instance_stood s old new next t gives m.0 m.1))
