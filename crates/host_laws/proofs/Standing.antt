-- Each placement can be made: its parent can have children and isn't below the host, and the host that it goes before is another child.
use Rattle.std.specs.Prelude.{◌≡◌, ℕ, Bool, true, false, ◌||◌, ◌⊎◌, List, [], ◌∷◌, ◌++◌, Option, filter, nat_eq, refl, if◌then◌else◌}
use Rattle.std.specs.List.{list_all, AllByRecursion}
use Rattle.std.proofs.Common.{sym, ◌∙◌, ap, subst, inl, inr, append_assoc}
use Rattle.std.proofs.lemmas.Bool.Decides.{Decides-eqb}
use Rattle.rx_forest.specs.Hosts.{Host, has_host}
use Rattle.rx_forest.specs.HostOps.{is_placed, next_standing, placements}
use Rattle.rx_forest.specs.Forests.{HostForest, Held, children_in, is_among, IsUnder, itself, below, is_held, can_be_parent, can_stand, CanBeMade, CanBeReplayed}
use Rattle.rx_forest.specs.Forests as forests
use Rattle.host_laws.specs.Related.{stands, AreDistinct, ParentsFirst}
use Rattle.host_laws.proofs.IdentityLaws.{both}
use Rattle.host_laws.proofs.Placing.{or_is}
use Rattle.host_laws.proofs.Placements.{Placing, Next, next_cases, stay, put, among_later, other_number, not_sibling}
use Rattle.host_laws.proofs.Listing.{has_host-append}
use Rattle.host_laws.proofs.Removals.{child_is, either, or_right}

-- Parents stand first

-- a number is the container, or one of these hosts
abbrev pub IsAbove : List Host → ℕ → Type 0
IsAbove hs n = (n ≡ 0) ⊎ (has_host hs n ≡ true)

-- each parent is one of the hosts before
abbrev pub Follow : List Host → List Host → Type 0
Follow before [] = Unit {0}
Follow before (h ∷ hs) = IsAbove before h.parent × Follow (before ++ h ∷ []) hs

pub follow : (before later : List Host) → ParentsFirst later → AllByRecursion (λ h. IsAbove (before ++ later) h.parent) later → Follow before later
follow before [] first all = tt
follow before (h ∷ hs) first all = (
  elim all.0 [
    | inl e ↦ inl e
    | inr k ↦ inr (earlier (has_host before h.parent) (sym (has_host-append before (h ∷ hs) h.parent) ∙ k) first.0)
  ],
  follow (before ++ h ∷ []) hs first.1 (subst (λ all. AllByRecursion (λ h. IsAbove all h.parent) hs) (sym (append_assoc before (h ∷ []) hs)) all.1),
)
  where
    earlier : (b : Bool) → (b || has_host (h ∷ hs) h.parent) ≡ true → has_host (h ∷ hs) h.parent ≡ false → b ≡ true
    earlier true k l = refl
    earlier false k l = absurd (cc)

above_more : (before : List Host) (h : Host) (n : ℕ) → IsAbove before n → IsAbove (before ++ h ∷ []) n
above_more before h n (inl e) = inl e
above_more before h n (inr k) = inr (has_host-append before (h ∷ []) n ∙ ap (λ b. b || has_host (h ∷ []) n) k)

each_above_more : (before : List Host) (h : Host) (hs : List Host) → AllByRecursion (λ g. IsAbove before g.parent) hs → AllByRecursion (λ g. IsAbove (before ++ h ∷ []) g.parent) hs
each_above_more before h [] a = tt
each_above_more before h (g ∷ hs) a = (above_more before h g.parent a.0, each_above_more before h hs a.1)

one_more : (P : Host → Type 0) (hs : List Host) (h : Host) → AllByRecursion P hs → P h → AllByRecursion P (hs ++ h ∷ [])
one_more P [] h a p = (p, tt)
one_more P (g ∷ hs) h a p = (a.0, one_more P hs h a.1 p)

-- What is in a list that was filtered

in_filter : (p : ℕ → Bool) (ms : List ℕ) (k : ℕ) → is_among (filter p ms) k ≡ true → (p k ≡ true) × (is_among ms k ≡ true)
in_filter p [] k h = absurd (cc)
in_filter p (m ∷ ms) k h = go (in_filter p ms k) (p m) refl h
  where
    go : (is_among (filter p ms) k ≡ true → (p k ≡ true) × (is_among ms k ≡ true)) → (b : Bool) → p m ≡ b
        → is_among (if b then m ∷ filter p ms else filter p ms) k ≡ true → (p k ≡ true) × ((nat_eq k m || is_among ms k) ≡ true)
    go rest true e l = elim (either (nat_eq k m) (is_among (filter p ms) k) l) [
      | inl f ↦ (ap p ((Decides-eqb k m).0 f) ∙ e, ap (λ b. b || is_among ms k) f)
      | inr f ↦ let parts = rest f in (parts.0, or_right (nat_eq k m) _ parts.1)
    ]
    go rest false e l = let parts = rest l in (parts.0, or_right (nat_eq k m) _ parts.1)

filter_in : (p : ℕ → Bool) (ms : List ℕ) (k : ℕ) → p k ≡ true → is_among ms k ≡ true → is_among (filter p ms) k ≡ true
filter_in p [] k h l = absurd (cc)
filter_in p (m ∷ ms) k h l = go (filter_in p ms k h) (nat_eq k m) refl (p m) refl l
  where
    go : (is_among ms k ≡ true → is_among (filter p ms) k ≡ true) → (b : Bool) → nat_eq k m ≡ b → (c : Bool) → p m ≡ c → (b || is_among ms k) ≡ true
        → is_among (filter p (m ∷ ms)) k ≡ true
    go rest true e true f l = rw (f, e) refl
    go rest true e false f l = let same : k ≡ m = (Decides-eqb k m).0 e in absurd (cc (ap p same))
    go rest false e true f l = rw (f, e) (rest l)
    go rest false e false f l = rw f (rest l)

among-append : (xs ys : List ℕ) (k : ℕ) → is_among (xs ++ ys) k ≡ (is_among xs k || is_among ys k)
among-append [] ys k = refl
among-append (x ∷ xs) ys k = ap (λ b. nat_eq k x || b) (among-append xs ys k) ∙ go (nat_eq k x)
  where
    go : (b : Bool) → (b || (is_among xs k || is_among ys k)) ≡ ((b || is_among xs k) || is_among ys k)
    go true = refl
    go false = refl

known_child : (u : ℕ → Bool) (ms : List ℕ) (k : ℕ) → list_all u ms ≡ true → is_among ms k ≡ true → u k ≡ true
known_child u [] k h l = absurd (cc)
known_child u (m ∷ ms) k h l =
    let parts : (u m ≡ true) × (list_all u ms ≡ true) = both _ _ h in
    elim (either (nat_eq k m) (is_among ms k) l) [ inl e ↦ ap u ((Decides-eqb k m).0 e) ∙ parts.0 | inr e ↦ known_child u ms k parts.1 e ]

-- A host of the list among the children of its parent
host_child : (hs : List Host) (k : ℕ) → has_host hs k ≡ true → (q : ℕ) × (is_among (children_in hs q) k ≡ true)
host_child [] k h = absurd (cc)
host_child (g ∷ hs) k h = go (host_child hs k) (nat_eq g.number k) refl h
  where
    self : nat_eq g.parent g.parent ≡ true
    self = (Decides-eqb g.parent g.parent).1 refl

    more : (q : ℕ) (b : Bool) → nat_eq g.parent q ≡ b → is_among (children_in hs q) k ≡ true → is_among (children_in (g ∷ hs) q) k ≡ true
    more q true e l = rw e (or_right (nat_eq k g.number) _ l)
    more q false e l = rw e l

    go : (has_host hs k ≡ true → (q : ℕ) × (is_among (children_in hs q) k ≡ true)) → (b : Bool) → nat_eq g.number k ≡ b → (b || has_host hs k) ≡ true
        → (q : ℕ) × (is_among (children_in (g ∷ hs) q) k ≡ true)
    go rest true e l =
        let turned : nat_eq k g.number ≡ true = (Decides-eqb k g.number).1 (sym ((Decides-eqb g.number k).0 e)) in
        (g.parent, rw (self, turned) refl)
    go rest false e l = let r = rest l in (r.0, more r.0 (nat_eq g.parent r.0) refl r.1)

module _ (placed : List ℕ) (u p : ℕ → Bool) (before : List Host) (h : Host) (hs : List Host) (f : HostForest)
    (i : Placing placed u p before (h ∷ hs) f) (no_zero : u 0 ≡ false) (above : AllByRecursion (λ g. IsAbove before g.parent) before) where
  own : has_host (h ∷ hs) h.number ≡ true
  own = ap (λ b. b || has_host hs h.number) ((Decides-eqb h.number h.number).1 refl)

  -- if a host that has come to its place is a child, its parent stands before
  settled_parent : (m k : ℕ) → has_host before k ≡ true → is_among (f.children m) k ≡ true → IsAbove before m
  settled_parent m k there child = go (either (is_among (children_in before m) k) _ (sym (among-append (children_in before m) later k) ∙ ap (λ ms. is_among ms k) (sym (i.lists m)) ∙ in_list))
    where
      later : List ℕ
      later = filter (stands placed) (children_in (h ∷ hs) m)

      settled : p k ≡ true
      settled =
          let c = host_child before k there in
          let j : is_among (filter p (f.children c.0)) k ≡ true =
          ap (λ ms. is_among ms k) (i.lists c.0) ∙ among-append (children_in before c.0) (filter (stands placed) (children_in (h ∷ hs) c.0)) k
          ∙ ap (λ b. b || is_among (filter (stands placed) (children_in (h ∷ hs) c.0)) k) c.1 in
          (in_filter p (f.children c.0) k j).0

      in_list : is_among (filter p (f.children m)) k ≡ true
      in_list = filter_in p (f.children m) k settled child

      not_later : (b : Bool) → has_host (h ∷ hs) k ≡ b → b ≡ false
      not_later true e = absurd (i.apart k there e)
      not_later false e = refl

      go : (is_among (children_in before m) k ≡ true) ⊎ (is_among later k ≡ true) → IsAbove before m
      go (inl c) = let g = child_is before above m k c in subst (IsAbove before) g.2 g.3
      go (inr c) =
          let out : is_among (children_in (h ∷ hs) m) k ≡ false = not_sibling (h ∷ hs) m k (not_later (has_host (h ∷ hs) k) refl) in
          let in' : is_among (children_in (h ∷ hs) m) k ≡ true = (in_filter (stands placed) (children_in (h ∷ hs) m) k c).1 in
          absurd (cc)

  -- so what stands before isn't below the host
  not_under : u h.number ≡ true → {m : ℕ} → IsUnder f h.number m → IsAbove before m → ⊥
  not_under fits itself (inl e) = absurd (cc (ap u e))
  not_under fits itself (inr k) = i.apart h.number k own
  not_under fits (below {m} {k} under child) (inl e) =
      let known : u k ≡ true = known_child u (f.children m) k (i.known m) child in absurd (cc (ap u e))
  not_under fits (below {m} {k} under child) (inr there) = not_under fits under (settled_parent m k there child)

  -- and the host that it goes before is another child of the parent
  next_stands : stands placed h.number ≡ false → has_host hs h.number ≡ false → can_stand f h.number h.parent (next_standing placed h.parent hs) ≡ true
  next_stands s new = go (next_cases placed h.parent hs)
    where
      go : Next placed h.parent hs → can_stand f h.number h.parent (next_standing placed h.parent hs) ≡ true
      go (inl l) = rw l.next refl
      go (inr r) =
          let other : nat_eq r.0 h.number ≡ false = other_number hs h.number r.0 new r.2.among in
          let self : nat_eq h.parent h.parent ≡ true = (Decides-eqb h.parent h.parent).1 refl in
          let here : nat_eq r.0 r.0 ≡ true = (Decides-eqb r.0 r.0).1 refl in
          let later : filter (stands placed) (children_in (h ∷ hs) h.parent) ≡ r.0 ∷ r.1 = rw (self, s) r.2.first in
          let j : is_among (filter p (f.children h.parent)) r.0 ≡ true =
          ap (λ ms. is_among ms r.0) (i.lists h.parent ∙ ap (λ ms. children_in before h.parent ++ ms) later)
          ∙ among-append (children_in before h.parent) (r.0 ∷ r.1) r.0 ∙ or_right (is_among (children_in before h.parent) r.0) _ (ap (λ b. b || is_among r.1 r.0) here) in
          rw (r.2.next, other) (in_filter p (f.children h.parent) r.0 j).1

-- what is held of a host that is placed, and of its parent
abbrev pub IsReady : HostForest → Host → Type 0
IsReady f h = (is_held f h.number ≡ true) × (can_be_parent f h.parent ≡ true)

abbrev held_by : (ℕ → Option Held) → (ℕ → List ℕ) → HostForest
held_by held children = record { held = held; children = children }

ready_still : (f g : HostForest) → g.held ≡ f.held → (hs : List Host) → AllByRecursion (IsReady f) hs → AllByRecursion (IsReady g) hs
ready_still f g e [] a = tt
ready_still f g e (h ∷ hs) a =
    (subst (λ held. IsReady (held_by held g.children) h) (sym e) a.0, ready_still f g e hs a.1)

pub placements_made : (placed : List ℕ) (u p : ℕ → Bool) (before later : List Host) (f : HostForest) → AreDistinct later → ((n : ℕ) → has_host later n ≡ true → u n ≡ true)
    → u 0 ≡ false → AllByRecursion (λ g. IsAbove before g.parent) before → Follow before later → AllByRecursion (IsReady f) later → Placing placed u p before later f
    → CanBeReplayed f (placements placed later)
placements_made placed u p before [] f distinct fits no_zero above follows ready i = tt
placements_made placed u p before (h ∷ hs) f distinct fits no_zero above follows ready i =
    go (λ s. placements_made placed u p (before ++ h ∷ []) hs f distinct.1 (λ n k. fits n (among_later h hs n k)) no_zero above' follows.1 ready.1
    (stay placed u p before h hs f distinct.0 s i))
    (λ s. placements_made placed u (or_is p h.number) (before ++ h ∷ []) hs (forests.placed f h.number h.parent (next_standing placed h.parent hs)) distinct.1
    (λ n k. fits n (among_later h hs n k)) no_zero above' follows.1 (ready_still f (forests.placed f h.number h.parent (next_standing placed h.parent hs)) refl hs ready.1)
    (put placed u p before h hs f distinct.0 s own_fits i))
    (is_placed placed h.number) refl
  where
    own_fits : u h.number ≡ true
    own_fits = fits h.number (ap (λ b. b || has_host hs h.number) ((Decides-eqb h.number h.number).1 refl))

    above' : AllByRecursion (λ g. IsAbove (before ++ h ∷ []) g.parent) (before ++ h ∷ [])
    above' = one_more (λ g. IsAbove (before ++ h ∷ []) g.parent) before h (each_above_more before h before above) (above_more before h h.parent follows.0)

    go : (stands placed h.number ≡ true → CanBeReplayed f (placements placed hs))
        → (stands placed h.number ≡ false → CanBeReplayed (forests.placed f h.number h.parent (next_standing placed h.parent hs)) (placements placed hs))
        → (b : Bool) → is_placed placed h.number ≡ b → CanBeReplayed f (placements placed (h ∷ hs))
    go one two true e = rw e (
      (
        ready.0.0,
        ready.0.1,
        next_stands placed u p before h hs f i no_zero above (rw e refl) distinct.0,
        λ under. not_under placed u p before h hs f i no_zero above own_fits under follows.0,
      ),
      λ g b. subst (λ g. CanBeReplayed g (placements placed hs)) (sym b) (two (rw e refl)),
    )
    go one two false e = rw e (one (rw e refl))
