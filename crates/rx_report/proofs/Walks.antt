-- A walk of a forest lists the hosts that it stands for, in tree order and each on its level.
use Rattle.std.specs.Prelude.{◌≡◌, ℕ, ◌+◌, Bool, true, false, ◌||◌, List, [], ◌∷◌, ◌++◌, Some, nat_eq, refl}
use Rattle.std.specs.List.{AllByRecursion}
use Rattle.std.proofs.Common.{sym, ◌∙◌, ap, subst, arith}
use Rattle.std.proofs.lemmas.Bool.Decides.{nat_tests, Decides-eqb}
use Rattle.std.proofs.lemmas.List.{append-nil}
use Rattle.rx_elem.specs.Spots.{container}
use Rattle.rx_forest.specs.Hosts.{Host, has_host}
use Rattle.rx_forest.specs.Forests.{held_of, children_in, forest_of}
use Rattle.rx_lines.specs.Lines.{Line, tree_host, level_in, host_lines}
use Rattle.host_laws.specs.Related.{AreDistinct}
use Rattle.host_laws.proofs.Placing.{neither}
use Rattle.host_laws.proofs.Placements.{children_in-append, other_number}
use Rattle.host_laws.proofs.Listing.{has_host-append, distinct-append}
use Rattle.host_laws.proofs.Owned.{IsOwn, each_own, all_first, all_last}
use Rattle.rx_report.specs.TreeOrder.{StandBelow, nothing, child, IsByName, AreInTreeOrder}
use Rattle.rx_report.specs.Walks.{Walk, walked, step}

-- the levels that are known behind some hosts
abbrev pub known_after : List (ℕ × ℕ) → List Host → List (ℕ × ℕ)
known_after known [] = known
known_after known (h ∷ hs) = known_after ((h.number, level_in known h.parent + 1) ∷ known) hs

host_lines-append : (known : List (ℕ × ℕ)) (xs ys : List Host) → host_lines known (xs ++ ys) ≡ host_lines known xs ++ host_lines (known_after known xs) ys
host_lines-append known [] ys = refl
host_lines-append known (x ∷ xs) ys =
    let level : ℕ = level_in known x.parent + 1 in
    ap (λ (ls : List Line). tree_host level x ∷ ls) (host_lines-append ((x.number, level) ∷ known) xs ys)

-- the level of a number is the same behind hosts of other numbers
level-after : (known : List (ℕ × ℕ)) (hs : List Host) (q : ℕ) → has_host hs q ≡ false → level_in (known_after known hs) q ≡ level_in known q
level-after known [] q h = refl
level-after known (g ∷ hs) q h =
    let parts : (nat_eq g.number q ≡ false) × (has_host hs q ≡ false) = neither (nat_eq g.number q) (has_host hs q) h in
    let other : nat_eq g.number q ≡ false = parts.0 in
    level-after ((g.number, level_in known g.parent + 1) ∷ known) hs q parts.1 ∙ rw other refl

flipped : (m n : ℕ) → nat_eq n m ≡ false → nat_eq m n ≡ false
flipped m n e = grind (arith, nat_tests)

-- below a number stands no child of what is neither that number nor one of the hosts
none_under : (p : ℕ) (hs : List Host) → StandBelow p hs → (q : ℕ) → nat_eq p q ≡ false → has_host hs q ≡ false → children_in hs q ≡ []
none_under _ _ nothing q e h = refl
none_under p _ (child {below = below} {later = later} g par b l) q e h =
    let out = neither (nat_eq g.number q) (has_host (below ++ later) q) h in
    let both = neither (has_host below q) (has_host later q) (sym (has_host-append below later q) ∙ out.1) in
    let other : nat_eq g.parent q ≡ false = ap (λ n. nat_eq n q) par ∙ e in
    rw other (children_in-append below later q ∙ rw (none_under g.number below b q out.0 both.0, none_under p later l q e both.1) refl)

-- some of all hosts, which stand below a number
record IsPart (all : List Host) (p : ℕ) (hs : List Host) : Type 0 where
  pub distinct : AreDistinct hs
  pub above : has_host hs p ≡ false
  pub children : (q : ℕ) → has_host hs q ≡ true → children_in all q ≡ children_in hs q
  pub own : AllByRecursion (IsOwn all) hs
  pub by_name : AllByRecursion (λ h. IsByName h.content) hs

or_right : (a b : Bool) → b ≡ true → (a || b) ≡ true
or_right true b h = refl
or_right false b h = h

module _ (all : List Host) (p : ℕ) (h : Host) (below later : List Host) (par : h.parent ≡ p) (b : StandBelow h.number below) (l : StandBelow p later)
    (part : IsPart all p (h ∷ below ++ later)) where
  out : (nat_eq h.number p ≡ false) × (has_host (below ++ later) p ≡ false)
  out = neither (nat_eq h.number p) (has_host (below ++ later) p) part.above

  out_both : (has_host below p ≡ false) × (has_host later p ≡ false)
  out_both = neither (has_host below p) (has_host later p) (sym (has_host-append below later p) ∙ out.1)

  own_both : (has_host below h.number ≡ false) × (has_host later h.number ≡ false)
  own_both = neither (has_host below h.number) (has_host later h.number) (sym (has_host-append below later h.number) ∙ part.distinct.0)

  parts : AreDistinct below × AreDistinct later × ((q : ℕ) → has_host below q ≡ true → has_host later q ≡ false)
  parts = distinct-append below later part.distinct.1

  -- the parent's own children
  parents : children_in (h ∷ below ++ later) p ≡ h.number ∷ children_in later p
  parents =
      let here : nat_eq h.parent p ≡ true = ap (λ n. nat_eq n p) par ∙ (Decides-eqb p p).1 refl in
      rw here (ap (λ ns. h.number ∷ ns) (children_in-append below later p ∙ rw (none_under h.number below b p out.0 out_both.0) refl))

  -- the children of the first host
  own_children : children_in all h.number ≡ children_in below h.number
  own_children =
      let apart : nat_eq p h.number ≡ false = flipped p h.number out.0 in
      let other : nat_eq h.parent h.number ≡ false = ap (λ n. nat_eq n h.number) par ∙ apart in
      let self : nat_eq h.number h.number ≡ true = (Decides-eqb h.number h.number).1 refl in
      part.children h.number (rw self refl) ∙ rw other (children_in-append below later h.number ∙ rw (none_under p later l h.number apart own_both.1) (append-nil (children_in below h.number)))

  below_children : (q : ℕ) → has_host below q ≡ true → children_in all q ≡ children_in below q
  below_children q k =
      let apart : nat_eq p q ≡ false = flipped p q (other_number below p q out_both.0 k) in
      let other : nat_eq h.parent q ≡ false = ap (λ n. nat_eq n q) par ∙ apart in
      let there : has_host (below ++ later) q ≡ true = has_host-append below later q ∙ rw k refl in
      part.children q (or_right (nat_eq h.number q) (has_host (below ++ later) q) there)
      ∙ rw other (children_in-append below later q ∙ rw (none_under p later l q apart (parts.2 q k)) (append-nil (children_in below q)))

  not_below : (q : ℕ) → has_host later q ≡ true → (c : Bool) → has_host below q ≡ c → c ≡ false
  not_below q k true e = let none : has_host later q ≡ false = parts.2 q e in absurd (cc)
  not_below q k false e = refl

  later_children : (q : ℕ) → has_host later q ≡ true → children_in all q ≡ children_in later q
  later_children q k =
      let apart : nat_eq p q ≡ false = flipped p q (other_number later p q out_both.1 k) in
      let own : nat_eq h.number q ≡ false = flipped h.number q (other_number later h.number q own_both.1 k) in
      let other : nat_eq h.parent q ≡ false = ap (λ n. nat_eq n q) par ∙ apart in
      let there : has_host (below ++ later) q ≡ true = has_host-append below later q ∙ or_right (has_host below q) (has_host later q) k in
      part.children q (or_right (nat_eq h.number q) (has_host (below ++ later) q) there)
      ∙ rw other (children_in-append below later q ∙ rw (none_under h.number below b q own (not_below q k (has_host below q) refl)) refl)

  below_part : IsPart all h.number below
  below_part = record {
    distinct = parts.0;
    above = own_both.0;
    children = below_children;
    own = all_first (IsOwn all) below later part.own.1;
    by_name = all_first (λ h. IsByName h.content) below later part.by_name.1;
  }

  later_part : IsPart all p later
  later_part = record {
    distinct = parts.1;
    above = out_both.1;
    children = later_children;
    own = all_last (IsOwn all) below later part.own.1;
    by_name = all_last (λ h. IsByName h.content) below later part.by_name.1;
  }

  -- the first host, with what follows from the walks below it and behind it
  joined_walk : (level : ℕ) (known : List (ℕ × ℕ)) → level_in known p + 1 ≡ level
      → (let known' : List (ℕ × ℕ) = (h.number, level) ∷ known in
      Walk (forest_of all) h.number (level + 1) (children_in below h.number) below (host_lines known' below)
      → Walk (forest_of all) p level (children_in later p) later (host_lines (known_after known' below) later)
      → Walk (forest_of all) p level (children_in (h ∷ below ++ later) p) (h ∷ below ++ later) (host_lines known (h ∷ below ++ later)))
  joined_walk level known e first second =
      let known' : List (ℕ × ℕ) = (h.number, level) ∷ known in
      let is_level : level_in known h.parent + 1 ≡ level = ap (λ n. level_in known n + 1) par ∙ e in
      let lines : host_lines known (h ∷ below ++ later) ≡ tree_host level h ∷ (host_lines known' below ++ host_lines (known_after known' below) later) =
      ap (λ n. tree_host n h ∷ host_lines ((h.number, n) ∷ known) (below ++ later)) is_level
      ∙ ap (λ ls. tree_host level h ∷ ls) (host_lines-append known' below later) in
      let held : (forest_of all).held h.number ≡ Some (held_of h) = rw part.own.0 refl in
      let walk : Walk (forest_of all) p level (h.number ∷ children_in later p) (h ∷ below ++ later) (tree_host level h ∷ (host_lines known' below ++ host_lines (known_after known' below) later)) =
      step h refl par held part.by_name.0
      (subst (λ ns. Walk (forest_of all) h.number (level + 1) ns below (host_lines known' below)) (sym own_children) first) second in
      subst (λ ls. Walk (forest_of all) p level (children_in (h ∷ below ++ later) p) (h ∷ below ++ later) ls) (sym lines)
      (subst (λ ns. Walk (forest_of all) p level ns (h ∷ below ++ later) (tree_host level h ∷ (host_lines known' below ++ host_lines (known_after known' below) later))) (sym parents) walk)

  level_below : (level : ℕ) (known : List (ℕ × ℕ)) → level_in ((h.number, level) ∷ known) h.number + 1 ≡ level + 1
  level_below level known = let self : nat_eq h.number h.number ≡ true = (Decides-eqb h.number h.number).1 refl in rw self refl

  level_later : (level : ℕ) (known : List (ℕ × ℕ)) → level_in known p + 1 ≡ level → level_in (known_after ((h.number, level) ∷ known) below) p + 1 ≡ level
  level_later level known e =
      let other = out.0 in
      ap (λ n. n + 1) (level-after ((h.number, level) ∷ known) below p out_both.0 ∙ rw other refl) ∙ e

-- hosts that stand below a number in tree order are what a walk below it lists
walk_part : (all : List Host) (p : ℕ) (hs : List Host) → StandBelow p hs → (level : ℕ) (known : List (ℕ × ℕ)) → level_in known p + 1 ≡ level → IsPart all p hs
    → Walk (forest_of all) p level (children_in hs p) hs (host_lines known hs)
walk_part all _ _ nothing level known e part = walked
walk_part all p _ (child {below = below} {later = later} h par b l) level known e part =
    joined_walk all p h below later par b l part level known e
    (walk_part all h.number below b (level + 1) ((h.number, level) ∷ known) (level_below all p h below later par b l part level known) (below_part all p h below later par b l part))
    (walk_part all p later l level (known_after ((h.number, level) ∷ known) below) (level_later all p h below later par b l part level known e) (later_part all p h below later par b l part))

-- a walk from the container lists the hosts that a forest stands for, in tree order and each on its level
pub walk_of : (hs : List Host) → AreInTreeOrder hs → Walk (forest_of hs) container 1 ((forest_of hs).children container) hs (host_lines [] hs)
walk_of hs t =
    walk_part hs container hs t.order 1 [] refl
    (record { distinct = t.distinct; above = t.above; children = λ q k. refl; own = each_own hs t.distinct; by_name = t.by_name })
