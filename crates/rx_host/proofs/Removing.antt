-- A host is removed with all below it: its children go one after another, each leaving its own children to the host.
use Rattle.std.specs.Prelude.{◌≡◌, ◌⊎◌, ◌≤◌, ◌<◌, ℕ, Bool, true, false, not, ◌||◌, ◌&&◌, List, [], ◌∷◌, ◌++◌, Option, Some, None, nat_eq, refl, length, if◌then◌else◌}
use Rattle.std.proofs.Common.{sym, ◌∙◌, ap, subst, inl, inr, arith}
use Rattle.rx_forest.specs.Forests.{HostForest, Held, placed, without, IsUnder, itself, below, is_among, Removed}
use Rattle.rx_host.specs.Steps.{Lifts}
use Rattle.rx_host.specs.Kept.{first_of}
use Rattle.rx_host.proofs.Numbers.{split, self, same, among-without, without-absent}

-- a host is nobody's child
abbrev pub Nowhere : HostForest → ℕ → Type 0
Nowhere f n = (q : ℕ) → is_among (f.children q) n ≡ false

-- a host is taken out of where it stands
abbrev pub cut_off : HostForest → ℕ → HostForest
cut_off f n = record { held = f.held; children = λ q. without n (f.children q) }

-- a child of a host goes, and leaves its children to the host
pub record Adopts (f : HostForest) (n : ℕ) (g : HostForest) : Type 0 where
  pub child : ℕ
  pub other : nat_eq child n ≡ false
  pub was_child : is_among (f.children n) child ≡ true
  pub gone : (g.held child ≡ None) × (g.children child ≡ [])
  pub held : (m : ℕ) → nat_eq m child ≡ false → g.held m ≡ f.held m
  pub children : (m : ℕ) → nat_eq m child ≡ false → nat_eq m n ≡ false → g.children m ≡ f.children m
  pub were : (m : ℕ) → is_among (g.children n) m ≡ true → (is_among (f.children n) m ≡ true) ⊎ (is_among (f.children child) m ≡ true)
  pub stay : (m : ℕ) → nat_eq m child ≡ false → (is_among (f.children n) m ≡ true) ⊎ (is_among (f.children child) m ≡ true) → is_among (g.children n) m ≡ true

-- of a host that is being removed: what isn't below it is as before, and what is below it is gone or still there
pub record IsRemoving (f : HostForest) (n : ℕ) (h : HostForest) : Type 0 where
  pub kept : (m : ℕ) → ¬ IsUnder f n m → (h.held m ≡ f.held m) × (h.children m ≡ f.children m)
  pub under : (m : ℕ) → IsUnder h n m → IsUnder f n m
  pub gone : (m : ℕ) → IsUnder f n m → ((h.held m ≡ None) × (h.children m ≡ [])) ⊎ IsUnder h n m

pub removing-begin : (f : HostForest) (n : ℕ) → IsRemoving f n f
removing-begin f n = record { kept = λ m apart. (refl, refl); under = λ m u. u; gone = λ m u. inr u }

-- Tests

either : (a b : Bool) → (a || b) ≡ true → (a ≡ true) ⊎ (b ≡ true)
either true b e = inl refl
either false b e = inr e

one-of : (a b : Bool) → (a ≡ true) ⊎ (b ≡ true) → (a || b) ≡ true
one-of true b s = refl
one-of false b (inl e) = absurd (cc e)
one-of false b (inr e) = e

and-left : (a b : Bool) → (a && b) ≡ true → a ≡ true
and-left true b e = refl
and-left false b e = absurd (cc e)

false-and : (a b : Bool) → a ≡ false → (a && b) ≡ false
false-and true b e = absurd (cc e)
false-and false b e = refl

-- what isn't among some isn't among fewer
pub fewer : (n m : ℕ) (ms : List ℕ) → is_among ms m ≡ false → is_among (without n ms) m ≡ false
fewer n m ms out = among-without n ms m ∙ false-and (is_among ms m) (not (nat_eq m n)) out

was : (n m : ℕ) (ms : List ℕ) → is_among (without n ms) m ≡ true → is_among ms m ≡ true
was n m ms among = and-left (is_among ms m) (not (nat_eq m n)) (sym (among-without n ms m) ∙ among)

stays : (n m : ℕ) (ms : List ℕ) → nat_eq m n ≡ false → is_among ms m ≡ true → is_among (without n ms) m ≡ true
stays n m ms other among = among-without n ms m ∙ rw (among, other) refl

pub first-among : (ms : List ℕ) (n : ℕ) → Some n ≡ first_of ms → is_among ms n ≡ true
first-among [] n is = absurd (cc is)
first-among (m ∷ ms) n is = let at : n ≡ m = cc is in rw (at, self) refl

pub first-none : (ms : List ℕ) → None ≡ first_of ms → ms ≡ []
first-none [] is = refl
first-none (m ∷ ms) is = absurd (cc is)

-- nothing is among no numbers
none-among : (ms : List ℕ) (m : ℕ) → ms ≡ [] → is_among ms m ≡ true → ⊥
none-among ms m is among = let nowhere : is_among [] m ≡ true = subst (λ (ls : List ℕ). is_among ls m ≡ true) is among in cc nowhere

-- One child goes

-- below the host nothing is new
under-adopts : (h : HostForest) (n : ℕ) (g : HostForest) (a : Adopts h n g) (m : ℕ) → IsUnder g n m → IsUnder h n m
under-adopts h n g a m itself = itself
under-adopts h n g a m (below {m = p} u among) = go (under-adopts h n g a p u) (nat_eq p n) refl (nat_eq p a.child) refl
  where
    from_host : (is_among (h.children n) m ≡ true) ⊎ (is_among (h.children a.child) m ≡ true) → IsUnder h n m
    from_host (inl own) = below itself own
    from_host (inr given) = below (below itself a.was_child) given

    go : IsUnder h n p → (b : Bool) → nat_eq p n ≡ b → (c : Bool) → nat_eq p a.child ≡ c → IsUnder h n m
    go before true e c k = from_host (a.were m (subst (λ (q : ℕ). is_among (g.children q) m ≡ true) (same p n e) among))
    go before false e true k = absurd (none-among (g.children p) m (ap g.children (same p a.child k) ∙ a.gone.1) among)
    go before false e false k = below before (subst (λ (ms : List ℕ). is_among ms m ≡ true) (a.children p k e) among)

-- what is below the host stays there, but for the child that goes
still-adopts : (h : HostForest) (n : ℕ) (g : HostForest) (a : Adopts h n g) (m : ℕ) → IsUnder h n m → nat_eq m a.child ≡ false → IsUnder g n m
still-adopts h n g a m itself other = itself
still-adopts h n g a m (below {m = p} u among) other = go (λ apart. still-adopts h n g a p u apart) (nat_eq p n) refl (nat_eq p a.child) refl
  where
    go : (nat_eq p a.child ≡ false → IsUnder g n p) → (b : Bool) → nat_eq p n ≡ b → (c : Bool) → nat_eq p a.child ≡ c → IsUnder g n m
    go rest true e c k = below itself (a.stay m other (inl (subst (λ (q : ℕ). is_among (h.children q) m ≡ true) (same p n e) among)))
    go rest false e true k = below itself (a.stay m other (inr (subst (λ (q : ℕ). is_among (h.children q) m ≡ true) (same p a.child k) among)))
    go rest false e false k = below (rest k) (subst (λ (ms : List ℕ). is_among ms m ≡ true) (sym (a.children p k e)) among)

-- one more child goes
pub removing-next : (f h g : HostForest) (n : ℕ) → IsRemoving f n h → Adopts h n g → IsRemoving f n g
removing-next f h g n r a =
    record {
      kept = λ m apart. kept m apart (nat_eq m a.child) refl (nat_eq m n) refl;
      under = λ m u. r.under m (under-adopts h n g a m u);
      gone = λ m u. gone m (nat_eq m a.child) refl (nat_eq m n) refl (r.gone m u);
    }
  where
    child_under : IsUnder f n a.child
    child_under = r.under a.child (below itself a.was_child)

    kept : (m : ℕ) → ¬ IsUnder f n m → (b : Bool) → nat_eq m a.child ≡ b → (c : Bool) → nat_eq m n ≡ c → (g.held m ≡ f.held m) × (g.children m ≡ f.children m)
    kept m apart true e c k = absurd (apart (subst (λ (q : ℕ). IsUnder f n q) (sym (same m a.child e)) child_under))
    kept m apart false e true k = absurd (apart (subst (λ (q : ℕ). IsUnder f n q) (sym (same m n k)) itself))
    kept m apart false e false k = (a.held m e ∙ (r.kept m apart).0, a.children m e k ∙ (r.kept m apart).1)

    gone : (m : ℕ) → (b : Bool) → nat_eq m a.child ≡ b → (c : Bool) → nat_eq m n ≡ c → ((h.held m ≡ None) × (h.children m ≡ [])) ⊎ IsUnder h n m
        → ((g.held m ≡ None) × (g.children m ≡ [])) ⊎ IsUnder g n m
    gone m true e c k was = inl (ap g.held (same m a.child e) ∙ a.gone.0, ap g.children (same m a.child e) ∙ a.gone.1)
    gone m false e true k was = inr (subst (λ (q : ℕ). IsUnder g n q) (sym (same m n k)) itself)
    gone m false e false k (inl none) = inl (a.held m e ∙ none.0, a.children m e k ∙ none.1)
    gone m false e false k (inr u) = inr (still-adopts h n g a m u e)

-- a child leaves its children to the host, and goes
pub adopts : (h h1 h2 g : HostForest) (n child : ℕ) → Nowhere h n → is_among (h.children n) child ≡ true → ((q : ℕ) → nat_eq q n ≡ false → is_among (h.children q) child ≡ false)
    → Lifts h child n h1 → h2.held ≡ h1.held → h2.children ≡ (λ q. without child (h1.children q)) → g.held ≡ (λ m. if nat_eq m child then None else h2.held m) → g.children ≡ h2.children
    → Adopts h n g
adopts h h1 h2 g n child nowhere among alone lifts held2 children2 held3 children3 =
    record {
      child = child;
      other = split (nat_eq child n) (λ e. absurd (cc (among, ap (is_among (h.children n)) (same child n e) ∙ nowhere n))) (λ e. e);
      was_child = among;
      gone = (ap (λ (k : ℕ → Option Held). k child) held3 ∙ rw self refl, left child ∙ ap (without child) lifts.none);
      held = λ m e. ap (λ (k : ℕ → Option Held). k m) held3 ∙ rw e (ap (λ (k : ℕ → Option Held). k m) (held2 ∙ lifts.held));
      children = λ m e k. left m ∙ ap (without child) (lifts.others m e k) ∙ without-absent child (h.children m) (alone m k);
      were = λ m is. either (is_among (h.children n) m) (is_among (h.children child) m)
          (sym (lifts.both m) ∙ was child m (h1.children n) (sym (ap (λ (ms : List ℕ). is_among ms m) (left n)) ∙ is));
      stay = λ m e one. ap (λ (ms : List ℕ). is_among ms m) (left n)
          ∙ stays child m (h1.children n) e (lifts.both m ∙ one-of (is_among (h.children n) m) (is_among (h.children child) m) one);
    }
  where
    left : (q : ℕ) → g.children q ≡ without child (h1.children q)
    left q = ap (λ (k : ℕ → List ℕ). k q) (children3 ∙ children2)

-- and the host is still nobody's child
pub nowhere-next : (h h1 h2 g : HostForest) (n child : ℕ) → Nowhere h n → Lifts h child n h1 → h2.children ≡ (λ q. without child (h1.children q)) → g.children ≡ h2.children → Nowhere g n
nowhere-next h h1 h2 g n child nowhere lifts children2 children3 q =
    ap (λ (k : ℕ → List ℕ). is_among (k q) n) (children3 ∙ children2)
    ∙ fewer child n (h1.children q)
    (split (nat_eq q child)
    (λ e. ap (λ (i : ℕ). is_among (h1.children i) n) (same q child e) ∙ ap (λ (ms : List ℕ). is_among ms n) lifts.none)
    (λ e. split (nat_eq q n)
    (λ k. ap (λ (i : ℕ). is_among (h1.children i) n) (same q n k) ∙ lifts.both n ∙ rw (nowhere n, nowhere child) refl)
    (λ k. ap (λ (ms : List ℕ). is_among ms n) (lifts.others q e k) ∙ nowhere q)))

-- The host goes

under-cut : (f : HostForest) (n m : ℕ) → IsUnder f n m → IsUnder (cut_off f n) n m
under-cut f n m itself = itself
under-cut f n m (below {m = p} u among) = go (under-cut f n p u) (nat_eq m n) refl
  where
    go : IsUnder (cut_off f n) n p → (b : Bool) → nat_eq m n ≡ b → IsUnder (cut_off f n) n m
    go before true e = subst (λ (q : ℕ). IsUnder (cut_off f n) n q) (sym (same m n e)) itself
    go before false e = below before (stays n m (f.children p) e among)

under-whole : (f : HostForest) (n m : ℕ) → IsUnder (cut_off f n) n m → IsUnder f n m
under-whole f n m itself = itself
under-whole f n m (below {m = p} u among) = below (under-whole f n p u) (was n m (f.children p) among)

-- below a host without children is nothing else
pub alone : (h : HostForest) (n : ℕ) → h.children n ≡ [] → (m : ℕ) → IsUnder h n m → nat_eq m n ≡ true
alone h n childless m itself = self n
alone h n childless m (below {m = p} u among) =
    let up : nat_eq p n ≡ true = alone h n childless p u in
    absurd (none-among (h.children n) m childless (subst (λ (q : ℕ). is_among (h.children q) m ≡ true) (same p n up) among))

-- the host is removed with all below it
pub removing-end : (f h g : HostForest) (n : ℕ) → IsRemoving (cut_off f n) n h → h.children n ≡ [] → g.held ≡ (λ m. if nat_eq m n then None else h.held m) → g.children ≡ h.children
    → Removed f n g
removing-end f h g n r childless held children =
    record {
      gone = λ m u. gone m (nat_eq m n) refl (r.gone m (under-cut f n m u));
      kept = λ m apart. kept m apart (nat_eq m n) refl;
    }
  where
    holds : (m : ℕ) → g.held m ≡ (if nat_eq m n then None else h.held m)
    holds m = ap (λ (k : ℕ → Option Held). k m) held

    has_children : (m : ℕ) → g.children m ≡ h.children m
    has_children m = ap (λ (k : ℕ → List ℕ). k m) children

    here : (m : ℕ) → nat_eq m n ≡ true → (g.held m ≡ None) × (g.children m ≡ [])
    here m e = (holds m ∙ rw e refl, has_children m ∙ ap h.children (same m n e) ∙ childless)

    gone : (m : ℕ) (b : Bool) → nat_eq m n ≡ b → ((h.held m ≡ None) × (h.children m ≡ [])) ⊎ IsUnder h n m → (g.held m ≡ None) × (g.children m ≡ [])
    gone m true e was = here m e
    gone m false e (inl none) = (holds m ∙ rw e none.0, has_children m ∙ none.1)
    gone m false e (inr u) = here m (alone h n childless m u)

    kept : (m : ℕ) → ¬ IsUnder f n m → (b : Bool) → nat_eq m n ≡ b → (g.held m ≡ f.held m) × (g.children m ≡ without n (f.children m))
    kept m apart true e = absurd (apart (subst (λ (q : ℕ). IsUnder f n q) (sym (same m n e)) itself))
    kept m apart false e =
        let before = r.kept m (λ u. apart (under-whole f n m u)) in
        (holds m ∙ rw e before.0, has_children m ∙ before.1)

-- Children become those of another host

length-without : (n : ℕ) (ms : List ℕ) → length (without n ms) ≤ length ms
length-without n [] = omega arith
length-without n (m ∷ ms) =
    let rest : length (without n ms) ≤ length ms = length-without n ms in
    split (nat_eq m n) (λ e. rw e (omega arith)) (λ e. rw e (omega arith))

among-end : (ms : List ℕ) (n m : ℕ) → is_among (ms ++ n ∷ []) m ≡ (is_among ms m || nat_eq m n)
among-end [] n m = go (nat_eq m n)
  where
    go : (b : Bool) → (b || false) ≡ b
    go true = refl
    go false = refl
among-end (k ∷ ks) n m = ap (λ (b : Bool). nat_eq m k || b) (among-end ks n m) ∙ go (nat_eq m k) (is_among ks m) (nat_eq m n)
  where
    go : (x y z : Bool) → (x || (y || z)) ≡ ((x || y) || z)
    go true y z = refl
    go false y z = refl

-- as far as the children have come
pub record IsLifting (f : HostForest) (child host : ℕ) (h : HostForest) : Type 0 where
  pub held : h.held ≡ f.held
  pub others : (m : ℕ) → nat_eq m child ≡ false → nat_eq m host ≡ false → h.children m ≡ f.children m
  pub both : (m : ℕ) → (is_among (h.children host) m || is_among (h.children child) m) ≡ (is_among (f.children host) m || is_among (f.children child) m)
  pub nowhere : Nowhere h host

pub lifting-begin : (f : HostForest) (child host : ℕ) → Nowhere f host → IsLifting f child host f
lifting-begin f child host nowhere = record { held = refl; others = λ m a b. refl; both = λ m. refl; nowhere = nowhere }

module _ (f h g : HostForest) (child host n : ℕ) (other : nat_eq child host ≡ false) (l : IsLifting f child host h) (first : Some n ≡ first_of (h.children child))
    (single : (q : ℕ) → nat_eq q child ≡ false → is_among (h.children q) n ≡ false) (is : g ≡ placed h n host None) where
  children-are : (q : ℕ) → g.children q ≡ (if nat_eq q host then without n (h.children q) ++ n ∷ [] else without n (h.children q))
  children-are q = ap (λ (k : HostForest). k.children q) is

  away : (q : ℕ) → nat_eq q host ≡ false → g.children q ≡ without n (h.children q)
  away q e = children-are q ∙ rw e refl

  own : (q : ℕ) → nat_eq q host ≡ true → g.children q ≡ without n (h.children q) ++ n ∷ []
  own q e = children-are q ∙ rw e refl

  among : is_among (h.children child) n ≡ true
  among = first-among (h.children child) n first

  not-host : nat_eq host n ≡ false
  not-host = split (nat_eq host n) (λ e. absurd (cc (among, ap (is_among (h.children child)) (sym (same host n e)) ∙ l.nowhere child))) (λ e. e)

  joined : (m : ℕ) → (is_among (g.children host) m || is_among (g.children child) m) ≡ (is_among (h.children host) m || is_among (h.children child) m)
  joined m =
      ap (λ (ms : List ℕ). is_among ms m || is_among (g.children child) m) (own host (self host)) ∙ ap (λ (ms : List ℕ). is_among (without n (h.children host) ++ n ∷ []) m || is_among ms m) (away child other)
      ∙ ap (λ (b : Bool). b || is_among (without n (h.children child)) m) (among-end (without n (h.children host)) n m ∙ ap (λ (b : Bool). b || nat_eq m n) (among-without n (h.children host) m))
      ∙ ap (λ (b : Bool). ((is_among (h.children host) m && not (nat_eq m n)) || nat_eq m n) || b) (among-without n (h.children child) m)
      ∙ split (nat_eq m n)
      (λ e.
      let here : is_among (h.children child) m ≡ true = ap (is_among (h.children child)) (same m n e) ∙ among in
      rw (e, here) (yes (is_among (h.children host) m)))
      (λ e. rw e (plain (is_among (h.children host) m) (is_among (h.children child) m)))
    where
      yes : (x : Bool) → (((x && false) || true) || false) ≡ (x || true)
      yes true = refl
      yes false = refl

      plain : (x y : Bool) → (((x && true) || false) || (y && true)) ≡ (x || y)
      plain true y = refl
      plain false true = refl
      plain false false = refl

  pub lifting-next : IsLifting f child host g
  lifting-next = record {
    held = ap (λ (k : HostForest). k.held) is ∙ l.held;
    others = λ m a b. away m b ∙ without-absent n (h.children m) (single m a) ∙ l.others m a b;
    both = λ m. joined m ∙ l.both m;
    nowhere = λ q.
        split (nat_eq q host)
        (λ e. ap (λ (ms : List ℕ). is_among ms host) (own q e) ∙ among-end (without n (h.children q)) n host ∙ rw (fewer n host (h.children q) (l.nowhere q), not-host) refl)
        (λ e. ap (λ (ms : List ℕ). is_among ms host) (away q e) ∙ fewer n host (h.children q) (l.nowhere q));
  }

  pub fewer-children : length (g.children child) < length (h.children child)
  fewer-children = rw (away child other) (go (h.children child) first)
    where
      go : (ms : List ℕ) → Some n ≡ first_of ms → length (without n ms) < length ms
      go [] e = absurd (cc e)
      go (m ∷ ms) e =
          let at : n ≡ m = cc e in
          let here : nat_eq m n ≡ true = ap (nat_eq m) at ∙ self m in
          let rest : length (without n ms) ≤ length ms = length-without n ms in
          rw here (omega arith)

pub lifting-end : (f h : HostForest) (child host : ℕ) → IsLifting f child host h → h.children child ≡ [] → Lifts f child host h
lifting-end f h child host l none =
    record {
      held = l.held;
      none = none;
      others = l.others;
      both = λ m. sym (nothing (is_among (h.children host) m)) ∙ ap (λ (ms : List ℕ). is_among (h.children host) m || is_among ms m) (sym none) ∙ l.both m;
    }
  where
    nothing : (b : Bool) → (b || false) ≡ b
    nothing true = refl
    nothing false = refl

-- two forests that hold the same and have the same children
pub same-forest : (f g : HostForest) → f.held ≡ g.held → f.children ≡ g.children → f ≡ g
same-forest f g held children = λ i. record { held = held i; children = children i }
