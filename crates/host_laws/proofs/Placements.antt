-- The placements of a commit, over a forest from which what is gone was taken: each list of children becomes the new one.
use Rattle.std.specs.Prelude.{◌≡◌, ℕ, Bool, true, false, ◌||◌, ◌⊎◌, List, [], ◌∷◌, ◌++◌, Option, Some, None, map, filter, nat_eq, refl, if◌then◌else◌}
use Rattle.std.specs.List.{list_all}
use Rattle.std.proofs.Math.Path.{fun_ext}
use Rattle.std.proofs.Common.{sym, ◌∙◌, ap, subst, arith, inl, inr, append_assoc}
use Rattle.std.proofs.lemmas.Bool.Decides.{nat_tests, Decides-eqb}
use Rattle.std.proofs.lemmas.List.Elements.{filter-append}
use Rattle.std.proofs.lemmas.Option.{none-some, same_Some}
use Rattle.std.proofs.lemmas.List.{append-nil, map-append}
use Rattle.host_laws.specs.Related.{stands, AreDistinct}
use Rattle.rx_forest.specs.Forests.{HostForest, children_in, without, insert_before, inserted, Replays, is_among}
use Rattle.rx_forest.specs.HostOps.{is_placed, next_standing, placements}
use Rattle.rx_forest.specs.Hosts.{Host, has_host}
use Rattle.rx_forest.specs.Forests as forests
use Rattle.host_laws.proofs.IdentityLaws.{both}
use Rattle.host_laws.proofs.Placing.{or_is, neither, settled_without, filter_inserted, insert_before_first}

-- Tests that hold of all

pub all_pass : (p : ℕ → Bool) (ms : List ℕ) → list_all p ms ≡ true → filter p ms ≡ ms
all_pass p [] h = refl
all_pass p (m ∷ ms) h =
    let parts : (p m ≡ true) × (list_all p ms ≡ true) = both _ _ h in
    rw parts.0 (ap (λ xs. m ∷ xs) (all_pass p ms parts.1))

pub all_weaker : (p q : ℕ → Bool) → ((n : ℕ) → p n ≡ true → q n ≡ true) → (ms : List ℕ) → list_all p ms ≡ true → list_all q ms ≡ true
all_weaker p q h [] k = refl
all_weaker p q h (m ∷ ms) k =
    let parts : (p m ≡ true) × (list_all p ms ≡ true) = both _ _ k in
    rw (h m parts.0) (all_weaker p q h ms parts.1)

pub all_without : (p : ℕ → Bool) (n : ℕ) (ms : List ℕ) → list_all p ms ≡ true → list_all p (without n ms) ≡ true
all_without p n [] h = refl
all_without p n (m ∷ ms) h =
    let parts : (p m ≡ true) × (list_all p ms ≡ true) = both _ _ h in
    go parts.0 (all_without p n ms parts.1) (nat_eq m n) refl
  where
    go : p m ≡ true → list_all p (without n ms) ≡ true → (b : Bool) → nat_eq m n ≡ b → list_all p (without n (m ∷ ms)) ≡ true
    go k rest true e = rw e rest
    go k rest false e = rw (e, k) rest

pub all_insert_before : (p : ℕ → Bool) (n b : ℕ) → p n ≡ true → (ms : List ℕ) → list_all p ms ≡ true → list_all p (insert_before n b ms) ≡ true
all_insert_before p n b new [] h = rw new refl
all_insert_before p n b new (m ∷ ms) h =
    let parts : (p m ≡ true) × (list_all p ms ≡ true) = both _ _ h in
    go parts.0 parts.1 (all_insert_before p n b new ms parts.1) (nat_eq m b) refl
  where
    go : p m ≡ true → list_all p ms ≡ true → list_all p (insert_before n b ms) ≡ true → (c : Bool) → nat_eq m b ≡ c
        → list_all p (insert_before n b (m ∷ ms)) ≡ true
    go k all rest true e = rw (e, new, k) all
    go k all rest false e = rw (e, k) rest

all_append : (p : ℕ → Bool) (n : ℕ) → p n ≡ true → (ms : List ℕ) → list_all p ms ≡ true → list_all p (ms ++ n ∷ []) ≡ true
all_append p n new [] h = rw new refl
all_append p n new (m ∷ ms) h =
    let parts : (p m ≡ true) × (list_all p ms ≡ true) = both _ _ h in
    rw (parts.0) (all_append p n new ms parts.1)

pub all_inserted : (p : ℕ → Bool) (n : ℕ) (before : Option ℕ) → p n ≡ true → (ms : List ℕ) → list_all p ms ≡ true
    → list_all p (inserted n before ms) ≡ true
all_inserted p n None new ms h = all_append p n new ms h
all_inserted p n (Some b) new ms h = all_insert_before p n b new ms h

-- Siblings

pub children_in-append : (hs gs : List Host) (q : ℕ) → children_in (hs ++ gs) q ≡ children_in hs q ++ children_in gs q
children_in-append hs gs q =
    ap (map (λ h. h.number)) (filter-append (λ h. nat_eq h.parent q) hs gs)
    ∙ map-append (λ h. h.number) (filter (λ h. nat_eq h.parent q) hs) (filter (λ h. nat_eq h.parent q) gs)

-- what is no host's number is no sibling
pub not_sibling : (hs : List Host) (q n : ℕ) → has_host hs n ≡ false → is_among (children_in hs q) n ≡ false
not_sibling [] q n h = refl
not_sibling (g ∷ hs) q n h =
    let parts : (nat_eq g.number n ≡ false) × (has_host hs n ≡ false) = neither _ _ h in
    go parts.0 (not_sibling hs q n parts.1) (nat_eq g.parent q) refl
  where
    go : nat_eq g.number n ≡ false → is_among (children_in hs q) n ≡ false → (b : Bool) → nat_eq g.parent q ≡ b → is_among (children_in (g ∷ hs) q) n ≡ false
    go other rest true e = let turned : nat_eq n g.number ≡ false = grind (arith, nat_tests) in rw (e, turned) rest
    go other rest false e = rw e rest

-- the first sibling that stands
pub record IsFirst (placed : List ℕ) (q : ℕ) (hs : List Host) (b : ℕ) (ys : List ℕ) : Type 0 where
  pub next : next_standing placed q hs ≡ Some b
  pub first : filter (stands placed) (children_in hs q) ≡ b ∷ ys
  pub among : has_host hs b ≡ true
  pub stands : stands placed b ≡ true

pub record IsLast (placed : List ℕ) (q : ℕ) (hs : List Host) : Type 0 where
  pub next : next_standing placed q hs ≡ None
  pub last : filter (stands placed) (children_in hs q) ≡ []

abbrev pub Next : List ℕ → ℕ → List Host → Type 0
Next placed q hs = IsLast placed q hs ⊎ ((b : ℕ) × (ys : List ℕ) × IsFirst placed q hs b ys)

later_next : (placed : List ℕ) (q : ℕ) (h : Host) (hs : List Host)
    → next_standing placed q (h ∷ hs) ≡ next_standing placed q hs
    → filter (stands placed) (children_in (h ∷ hs) q) ≡ filter (stands placed) (children_in hs q)
    → Next placed q hs → Next placed q (h ∷ hs)
later_next placed q h hs e f (inl l) = inl (record { next = e ∙ l.next; last = f ∙ l.last })
later_next placed q h hs e f (inr r) =
    inr (r.0, r.1, record { next = e ∙ r.2.next; first = f ∙ r.2.first; among = or_later (nat_eq h.number r.0) _ r.2.among; stands = r.2.stands })
  where
    or_later : (a b : Bool) → b ≡ true → (a || b) ≡ true
    or_later true b k = refl
    or_later false b k = k

pub next_cases : (placed : List ℕ) (q : ℕ) (hs : List Host) → Next placed q hs
next_cases placed q [] = inl (record { next = refl; last = refl })
next_cases placed q (h ∷ hs) = go (next_cases placed q hs) (nat_eq h.parent q) refl (stands placed h.number) refl
  where
    go : Next placed q hs → (a : Bool) → nat_eq h.parent q ≡ a → (b : Bool) → stands placed h.number ≡ b → Next placed q (h ∷ hs)
    go rest true e true f = inr (
      h.number,
      filter (stands placed) (children_in hs q),
      record {
        next = rw (e, f) refl;
        first = rw (e, f) refl;
        among = rw ((Decides-eqb h.number h.number).1 refl) refl;
        stands = f;
      },
    )
    go rest true e false f = later_next placed q h hs (rw (e, f) refl) (rw (e, f) refl) rest
    go rest false e b f = later_next placed q h hs (rw e refl) (rw e refl) rest

-- the number goes between the siblings before it and those that stand after it
put_between : (placed : List ℕ) (q n : ℕ) (before later : List Host) → ((m : ℕ) → has_host before m ≡ true → has_host later m ≡ true → ⊥)
    → inserted n (next_standing placed q later) (children_in before q ++ filter (stands placed) (children_in later q))
    ≡ (children_in before q ++ n ∷ []) ++ filter (stands placed) (children_in later q)
put_between placed q n before later apart = go (next_cases placed q later)
  where
    not_both : (b : ℕ) → has_host later b ≡ true → (t : Bool) → has_host before b ≡ t → t ≡ false
    not_both b k true e = absurd (apart b e k)
    not_both b k false e = refl

    go : Next placed q later → inserted n (next_standing placed q later) (children_in before q ++ filter (stands placed) (children_in later q))
        ≡ (children_in before q ++ n ∷ []) ++ filter (stands placed) (children_in later q)
    go (inl l) = rw (l.next, l.last, append-nil (children_in before q)) (sym (append-nil (children_in before q ++ n ∷ [])))
    go (inr r) =
        let other : is_among (children_in before q) r.0 ≡ false = not_sibling before q r.0 (not_both r.0 r.2.among _ refl) in
        rw (r.2.next, r.2.first) (insert_before_first n r.0 (children_in before q) r.1 other ∙ sym (append_assoc (children_in before q) (n ∷ []) (r.0 ∷ r.1)))

-- How far the placements have come: the hosts before are in their places, beside those later that stand
pub record Placing (placed : List ℕ) (u p : ℕ → Bool) (before later : List Host) (f : HostForest) : Type 0 where
  pub standing : (n : ℕ) → stands placed n ≡ true → p n ≡ true
  pub waiting : (n : ℕ) → has_host later n ≡ true → stands placed n ≡ false → p n ≡ false
  pub apart : (n : ℕ) → has_host before n ≡ true → has_host later n ≡ true → ⊥
  pub lists : (q : ℕ) → filter p (f.children q) ≡ children_in before q ++ filter (stands placed) (children_in later q)
  pub known : (q : ℕ) → list_all u (f.children q) ≡ true

flipped : (m n : ℕ) (b : Bool) → nat_eq m n ≡ b → nat_eq n m ≡ b
flipped m n true e = grind (arith, nat_tests)
flipped m n false e = grind (arith, nat_tests)

pub among_later : (h : Host) (hs : List Host) (n : ℕ) → has_host hs n ≡ true → has_host (h ∷ hs) n ≡ true
among_later h hs n k = go (nat_eq h.number n)
  where
    go : (a : Bool) → (a || has_host hs n) ≡ true
    go true = refl
    go false = k

among_append : (hs : List Host) (h : Host) (n : ℕ) → has_host (hs ++ h ∷ []) n ≡ true → (has_host hs n ≡ true) ⊎ (h.number ≡ n)
among_append [] h n k = go (nat_eq h.number n) refl k
  where
    go : (a : Bool) → nat_eq h.number n ≡ a → (a || false) ≡ true → (has_host [] n ≡ true) ⊎ (h.number ≡ n)
    go true e l = inr ((Decides-eqb h.number n).0 e)
    go false e l = absurd (cc)
among_append (g ∷ hs) h n k = go (among_append hs h n) (nat_eq g.number n) k
  where
    go : (has_host (hs ++ h ∷ []) n ≡ true → (has_host hs n ≡ true) ⊎ (h.number ≡ n)) → (a : Bool) → (a || has_host (hs ++ h ∷ []) n) ≡ true
        → ((a || has_host hs n) ≡ true) ⊎ (h.number ≡ n)
    go rest true l = inl refl
    go rest false l = rest l

-- a number that is among hosts and one that isn't
pub other_number : (hs : List Host) (m n : ℕ) → has_host hs m ≡ false → has_host hs n ≡ true → nat_eq n m ≡ false
other_number hs m n h k = go (nat_eq n m) refl
  where
    go : (b : Bool) → nat_eq n m ≡ b → b ≡ false
    go true e = let same : n ≡ m = (Decides-eqb n m).0 e in absurd (cc (ap (has_host hs) same))
    go false e = refl

pub still_apart : (before : List Host) (h : Host) (hs : List Host) → ((n : ℕ) → has_host before n ≡ true → has_host (h ∷ hs) n ≡ true → ⊥)
    → has_host hs h.number ≡ false → (n : ℕ) → has_host (before ++ h ∷ []) n ≡ true → has_host hs n ≡ true → ⊥
still_apart before h hs apart new n k l = elim (among_append before h n k) [
  | inl m ↦ apart n m (among_later h hs n l)
  | inr e ↦ absurd (cc (ap (has_host hs) e))
]

-- a host that stands is passed over
pub stay : (placed : List ℕ) (u p : ℕ → Bool) (before : List Host) (h : Host) (hs : List Host) (f : HostForest)
    → has_host hs h.number ≡ false → stands placed h.number ≡ true → Placing placed u p before (h ∷ hs) f → Placing placed u p (before ++ h ∷ []) hs f
stay placed u p before h hs f new s i = record {
  standing = i.standing;
  waiting = λ n k l. i.waiting n (among_later h hs n k) l;
  apart = still_apart before h hs i.apart new;
  lists = λ q. i.lists q ∙ go q (nat_eq h.parent q) refl;
  known = i.known;
}
  where
    go : (q : ℕ) (b : Bool) → nat_eq h.parent q ≡ b
        → children_in before q ++ filter (stands placed) (children_in (h ∷ hs) q) ≡ children_in (before ++ h ∷ []) q ++ filter (stands placed) (children_in hs q)
    go q true e =
        rw (children_in-append before (h ∷ []) q) (rw (e, s) (sym (append_assoc (children_in before q) (h.number ∷ []) (filter (stands placed) (children_in hs q)))))
    go q false e = rw (children_in-append before (h ∷ []) q) (rw e (rw (append-nil (children_in before q)) refl))

-- a host that is placed comes to its place
pub put : (placed : List ℕ) (u p : ℕ → Bool) (before : List Host) (h : Host) (hs : List Host) (f : HostForest)
    → has_host hs h.number ≡ false → stands placed h.number ≡ false → u h.number ≡ true → Placing placed u p before (h ∷ hs) f
    → Placing placed u (or_is p h.number) (before ++ h ∷ []) hs (forests.placed f h.number h.parent (next_standing placed h.parent hs))
put placed u p before h hs f new s fits i = record {
  standing = λ n k. rw (i.standing n k) refl;
  waiting = λ n k l. rw (i.waiting n (among_later h hs n k) l) (other_number hs h.number n new k);
  apart = still_apart before h hs i.apart new;
  lists = λ q. lists q (nat_eq q h.parent) refl;
  known = λ q. known q (nat_eq q h.parent) refl;
}
  where
    own : p h.number ≡ false
    own = i.waiting h.number (rw ((Decides-eqb h.number h.number).1 refl) refl) s

    itself : or_is p h.number h.number ≡ true
    itself = rw (own, (Decides-eqb h.number h.number).1 refl) refl

    known : (q : ℕ) (b : Bool) → nat_eq q h.parent ≡ b
        → list_all u ((forests.placed f h.number h.parent (next_standing placed h.parent hs)).children q) ≡ true
    known q true e = rw e (all_inserted u h.number (next_standing placed h.parent hs) fits (without h.number (f.children q)) (all_without u h.number (f.children q) (i.known q)))
    known q false e = rw e (all_without u h.number (f.children q) (i.known q))

    settled : (q : ℕ) → filter (or_is p h.number) (without h.number (f.children q)) ≡ children_in before q ++ filter (stands placed) (children_in (h ∷ hs) q)
    settled q = settled_without p h.number own (f.children q) ∙ i.lists q

    next_passes : (b : ℕ) → next_standing placed h.parent hs ≡ Some b → or_is p h.number b ≡ true
    next_passes b e = elim (next_cases placed h.parent hs) [
      | inl l ↦ absurd (none-some b (sym l.next ∙ e))
      | inr r ↦
          let same : r.0 ≡ b = same_Some _ _ (sym r.2.next ∙ e) in
          rw (i.standing b (ap (stands placed) (sym same) ∙ r.2.stands)) refl
    ]

    self : nat_eq h.parent h.parent ≡ true
    self = (Decides-eqb h.parent h.parent).1 refl

    at_parent : filter (or_is p h.number) ((forests.placed f h.number h.parent (next_standing placed h.parent hs)).children h.parent)
        ≡ children_in (before ++ h ∷ []) h.parent ++ filter (stands placed) (children_in hs h.parent)
    at_parent =
        let e : filter (stands placed) (children_in (h ∷ hs) h.parent) ≡ filter (stands placed) (children_in hs h.parent) = rw (self, s) refl in
        rw self (filter_inserted (or_is p h.number) h.number (next_standing placed h.parent hs) itself next_passes (without h.number (f.children h.parent))
        ∙ rw (settled h.parent, e) (put_between placed h.parent h.number before hs (still_apart_left i.apart)
        ∙ rw (children_in-append before (h ∷ []) h.parent, self) refl))
      where
        still_apart_left : ((n : ℕ) → has_host before n ≡ true → has_host (h ∷ hs) n ≡ true → ⊥) → (n : ℕ) → has_host before n ≡ true → has_host hs n ≡ true → ⊥
        still_apart_left a n k l = a n k (among_later h hs n l)

    lists : (q : ℕ) (b : Bool) → nat_eq q h.parent ≡ b
        → filter (or_is p h.number) ((forests.placed f h.number h.parent (next_standing placed h.parent hs)).children q)
        ≡ children_in (before ++ h ∷ []) q ++ filter (stands placed) (children_in hs q)
    lists q true e =
        let P : ℕ → Type 0 = λ q. filter (or_is p h.number) ((forests.placed f h.number h.parent (next_standing placed h.parent hs)).children q)
        ≡ children_in (before ++ h ∷ []) q ++ filter (stands placed) (children_in hs q) in
        subst P (sym ((Decides-eqb q h.parent).0 e)) at_parent
    lists q false e =
        rw e (settled q ∙ rw (children_in-append before (h ∷ []) q, flipped q h.parent false e, append-nil (children_in before q)) refl)

-- the hosts that have come to their places in the end
abbrev pub settled : List ℕ → (ℕ → Bool) → List Host → ℕ → Bool
settled placed p [] = p
settled placed p (h ∷ hs) = settled placed (if stands placed h.number then p else or_is p h.number) hs

pub settled_first : (placed : List ℕ) (p : ℕ → Bool) (hs : List Host) (n : ℕ) → p n ≡ true → settled placed p hs n ≡ true
settled_first placed p [] n h = h
settled_first placed p (g ∷ hs) n h = settled_first placed (if stands placed g.number then p else or_is p g.number) hs n (go (stands placed g.number))
  where
    go : (b : Bool) → (if b then p else or_is p g.number) n ≡ true
    go true = h
    go false = rw h refl

pub settled_all : (placed : List ℕ) (p : ℕ → Bool) → ((n : ℕ) → stands placed n ≡ true → p n ≡ true)
    → (hs : List Host) (n : ℕ) → has_host hs n ≡ true → settled placed p hs n ≡ true
settled_all placed p stand [] n h = absurd (cc)
settled_all placed p stand (g ∷ hs) n h =
    go (settled_all placed (if stands placed g.number then p else or_is p g.number) (still (stands placed g.number)) hs n) (nat_eq g.number n) refl h
  where
    still : (b : Bool) (m : ℕ) → stands placed m ≡ true → (if b then p else or_is p g.number) m ≡ true
    still true m k = stand m k
    still false m k = rw (stand m k) refl

    own : (b : Bool) → stands placed g.number ≡ b → (if b then p else or_is p g.number) g.number ≡ true
    own true e = stand g.number e
    own false e = last (p g.number)
      where
        last : (b : Bool) → (b || nat_eq g.number g.number) ≡ true
        last true = refl
        last false = (Decides-eqb g.number g.number).1 refl

    go : (has_host hs n ≡ true → settled placed (if stands placed g.number then p else or_is p g.number) hs n ≡ true) → (b : Bool) → nat_eq g.number n ≡ b
        → (b || has_host hs n) ≡ true → settled placed (if stands placed g.number then p else or_is p g.number) hs n ≡ true
    go rest true e k =
        settled_first placed (if stands placed g.number then p else or_is p g.number) hs n
        (ap (if stands placed g.number then p else or_is p g.number) (sym ((Decides-eqb g.number n).0 e)) ∙ own (stands placed g.number) refl)
    go rest false e k = rest k

-- what the placements leave
record Settled (placed : List ℕ) (u p : ℕ → Bool) (all : List Host) (f g : HostForest) : Type 0 where
  held : g.held ≡ f.held
  lists : (q : ℕ) → filter p (g.children q) ≡ children_in all q
  known : (q : ℕ) → list_all u (g.children q) ≡ true

all_settle : (placed : List ℕ) (u p : ℕ → Bool) (before later : List Host) (f : HostForest)
    → AreDistinct later → ((n : ℕ) → has_host later n ≡ true → u n ≡ true) → Placing placed u p before later f
    → (g : HostForest) × Replays f (placements placed later) g × Settled placed u (settled placed p later) (before ++ later) f g
all_settle placed u p before [] f distinct fits i =
    (f, refl, record { held = refl; lists = λ q. rw (append-nil before) (i.lists q ∙ append-nil (children_in before q)); known = i.known })
all_settle placed u p before (h ∷ hs) f distinct fits i =
    go (λ s. all_settle placed u p (before ++ h ∷ []) hs f distinct.1 (λ n k. fits n (among_later h hs n k)) (stay placed u p before h hs f distinct.0 s i))
    (λ s. all_settle placed u (or_is p h.number) (before ++ h ∷ []) hs (forests.placed f h.number h.parent (next_standing placed h.parent hs)) distinct.1
    (λ n k. fits n (among_later h hs n k))
    (put placed u p before h hs f distinct.0 s (fits h.number (rw ((Decides-eqb h.number h.number).1 refl) refl)) i))
    (is_placed placed h.number) refl
  where
    go : (stands placed h.number ≡ true → (g : HostForest) × Replays f (placements placed hs) g × Settled placed u (settled placed p hs) ((before ++ h ∷ []) ++ hs) f g)
        → (stands placed h.number ≡ false → let f' = forests.placed f h.number h.parent (next_standing placed h.parent hs) in
        (g : HostForest) × Replays f' (placements placed hs) g × Settled placed u (settled placed (or_is p h.number) hs) ((before ++ h ∷ []) ++ hs) f' g)
        → (b : Bool) → is_placed placed h.number ≡ b
        → (g : HostForest) × Replays f (placements placed (h ∷ hs)) g × Settled placed u (settled placed p (h ∷ hs)) (before ++ h ∷ hs) f g
    go one two true e =
        let r = two (rw e refl) in
        rw (e, ← append_assoc before (h ∷ []) hs) (
          r.0,
          (forests.placed f h.number h.parent (next_standing placed h.parent hs), refl, r.1),
          record { held = r.2.held; lists = r.2.lists; known = r.2.known },
        )
    go one two false e = let r = one (rw e refl) in rw (e, ← append_assoc before (h ∷ []) hs) r

-- If the children that stand have the old order, the placements give each number the new children, and change nothing else.
pub placements_settle : (placed : List ℕ) (new : List Host) (f : HostForest) → AreDistinct new
    → ((q : ℕ) → filter (stands placed) (f.children q) ≡ filter (stands placed) (children_in new q))
    → ((q : ℕ) → list_all (has_host new) (f.children q) ≡ true)
    → (g : HostForest) × Replays f (placements placed new) g × (g.held ≡ f.held) × (g.children ≡ children_in new)
placements_settle placed new f distinct order known =
    let r = all_settle placed (has_host new) (stands placed) [] new f distinct (λ n k. k) (record {
      standing = λ n k. k;
      waiting = λ n k l. l;
      apart = λ n k l. absurd (cc);
      lists = order;
      known = known;
    }) in
    let same : (q : ℕ) → (r.0).children q ≡ children_in new q = λ q.
    sym (all_pass (settled placed (stands placed) new) ((r.0).children q)
    (all_weaker (has_host new) (settled placed (stands placed) new) (settled_all placed (stands placed) (λ n k. k) new) ((r.0).children q) (r.2.known q)))
    ∙ r.2.lists q in
    (r.0, r.1, r.2.held, fun_ext same)
