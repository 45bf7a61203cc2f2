-- The removals of a commit take exactly the hosts that are gone.
use Rattle.std.specs.Prelude.{◌≡◌, ℕ, Bool, true, false, cond, not, ◌&&◌, ◌||◌, ◌⊎◌, List, [], ◌∷◌, Option, Some, None, map, option_map, filter, nat_eq, refl, if◌then◌else◌}
use Rattle.std.specs.List.{AllByRecursion}
use Rattle.std.proofs.Math.Path.{fun_ext}
use Rattle.std.proofs.Common.{sym, ◌∙◌, ap, subst, arith, inl, inr}
use Rattle.std.proofs.lemmas.Bool.Decides.{nat_tests, Decides-eqb}
use Rattle.std.proofs.lemmas.Option.{none-some, same_Some}
use Rattle.host_laws.specs.Related.{AreDistinct, ParentsFirst, has_gone, GoneBelow, rest_of}
use Rattle.rx_forest.specs.Forests.{HostForest, Held, held_of, children_in, forest_of, without, IsUnder, itself, below, Removed, Replays, is_among}
use Rattle.rx_forest.specs.HostOps.{removals}
use Rattle.rx_forest.specs.Hosts.{Host, host_numbered, has_host}
use Rattle.rx_forest.specs.declared.op.HostOp.TheVariants as op
use Rattle.host_laws.proofs.IdentityLaws.{both}
use Rattle.host_laws.proofs.Placing.{neither}

-- a host is gone and its parent isn't
abbrev pub is_top : List Host → List Host → Host → Bool
is_top old new h = not (has_host new h.number) && not (has_gone old new h.parent)

-- the hosts that are removed
abbrev pub tops : List Host → List Host → List Host → List ℕ
tops old new hs = map (λ h. h.number) (filter (is_top old new) hs)

pub removals_are : (old new hs : List Host) → map (λ h. op.Remove h.number) (filter (is_top old new) hs) ≡ map op.Remove (tops old new hs)
removals_are old new [] = refl
removals_are old new (h ∷ hs) = go (removals_are old new hs) (is_top old new h)
  where
    go : map (λ h. op.Remove h.number) (filter (is_top old new) hs) ≡ map op.Remove (tops old new hs) → (b : Bool)
        → map (λ h. op.Remove h.number) (cond b (h ∷ filter (is_top old new) hs) (filter (is_top old new) hs))
        ≡ map op.Remove (map (λ h. h.number) (cond b (h ∷ filter (is_top old new) hs) (filter (is_top old new) hs)))
    go rest true = ap (λ xs. op.Remove h.number ∷ xs) rest
    go rest false = rest

-- With which removed host each host goes

abbrev noted : List Host → List Host → (ℕ → Option ℕ) → Host → ℕ → Option ℕ
noted old new acc h n =
    if nat_eq n h.number then (if is_top old new h then Some h.number else (if has_host new h.number then None else acc h.parent)) else acc n

abbrev pub notes : List Host → List Host → (ℕ → Option ℕ) → List Host → ℕ → Option ℕ
notes old new acc [] = acc
notes old new acc (h ∷ hs) = notes old new (noted old new acc h) hs

self : (n : ℕ) → nat_eq n n ≡ true
self n = (Decides-eqb n n).1 refl

flip : (m n : ℕ) (b : Bool) → nat_eq m n ≡ b → nat_eq n m ≡ b
flip m n true e = grind (arith, nat_tests)
flip m n false e = grind (arith, nat_tests)

-- a number that is none of the hosts keeps its note
kept_note : (old new : List Host) (acc : ℕ → Option ℕ) (hs : List Host) (n : ℕ) → has_host hs n ≡ false → notes old new acc hs n ≡ acc n
kept_note old new acc [] n h = refl
kept_note old new acc (g ∷ hs) n h =
    let parts : (nat_eq g.number n ≡ false) × (has_host hs n ≡ false) = neither _ _ h in
    kept_note old new (noted old new acc g) hs n parts.1 ∙ rw (flip g.number n false parts.0) refl

tops_go_themselves : (old new : List Host) (acc : ℕ → Option ℕ) (hs : List Host) → AreDistinct hs
    → AllByRecursion (λ h. is_top old new h ≡ true → notes old new acc hs h.number ≡ Some h.number) hs
tops_go_themselves old new acc [] d = tt
tops_go_themselves old new acc (g ∷ hs) d =
    (λ t. kept_note old new (noted old new acc g) hs g.number d.0 ∙ rw (self g.number, t) refl, tops_go_themselves old new (noted old new acc g) hs d.1)

others_like_parents : (old new : List Host) (acc : ℕ → Option ℕ) (hs : List Host) → AreDistinct hs → ParentsFirst hs
    → AllByRecursion (λ h. is_top old new h ≡ false → has_host new h.number ≡ false → notes old new acc hs h.number ≡ notes old new acc hs h.parent) hs
others_like_parents old new acc [] d p = tt
others_like_parents old new acc (g ∷ hs) d p = (
  λ t u. kept_note old new (noted old new acc g) hs g.number d.0 ∙ rw (self g.number, t, u) (sym (kept_note old new acc (g ∷ hs) g.parent p.0)),
  others_like_parents old new (noted old new acc g) hs d.1 p.1,
)

pub each_weaker : {P Q : Host → Type 0} → ((h : Host) → P h → Q h) → (hs : List Host) → AllByRecursion P hs → AllByRecursion Q hs
each_weaker w [] a = tt
each_weaker w (h ∷ hs) a = (w h a.0, each_weaker w hs a.1)

pub or_right : (a b : Bool) → b ≡ true → (a || b) ≡ true
or_right true b h = refl
or_right false b h = h

pub either : (a b : Bool) → (a || b) ≡ true → (a ≡ true) ⊎ (b ≡ true)
either true b h = inl refl
either false b h = inr h

-- each removed host is among the numbers that are removed
pub tops_are_in : (old new hs : List Host) → AllByRecursion (λ h. is_top old new h ≡ true → is_among (tops old new hs) h.number ≡ true) hs
tops_are_in old new [] = tt
tops_are_in old new (g ∷ hs) = (λ t. rw (t, self g.number) refl, each_weaker (λ h k t. more h (is_top old new g) (k t)) hs (tops_are_in old new hs))
  where
    more : (h : Host) (b : Bool) → is_among (tops old new hs) h.number ≡ true
        → is_among (map (λ h. h.number) (cond b (g ∷ filter (is_top old new) hs) (filter (is_top old new) hs))) h.number ≡ true
    more h true k = or_right (nat_eq h.number g.number) _ k
    more h false k = k

-- each host is among the children of its parent
pub each_is_child : (hs : List Host) → AllByRecursion (λ h. is_among (children_in hs h.parent) h.number ≡ true) hs
each_is_child [] = tt
each_is_child (g ∷ hs) = (rw (self g.parent, self g.number) refl, each_weaker (λ h k. more h (nat_eq g.parent h.parent) k) hs (each_is_child hs))
  where
    more : (h : Host) (b : Bool) → is_among (children_in hs h.parent) h.number ≡ true
        → is_among (map (λ h. h.number) (cond b (g ∷ filter (λ k. nat_eq k.parent h.parent) hs) (filter (λ k. nat_eq k.parent h.parent) hs))) h.number ≡ true
    more h true k = or_right (nat_eq h.number g.number) _ k
    more h false k = k

-- each host is among the hosts
pub each_is_among : (hs : List Host) → AllByRecursion (λ h. has_host hs h.number ≡ true) hs
each_is_among [] = tt
each_is_among (g ∷ hs) = (rw (self g.number) refl, each_weaker (λ h k. or_right (nat_eq g.number h.number) _ k) hs (each_is_among hs))

-- a child is one of the hosts
pub child_is : {P : Host → Type 0} → (hs : List Host) → AllByRecursion P hs → (m k : ℕ) → is_among (children_in hs m) k ≡ true
    → (h : Host) × (h.number ≡ k) × (h.parent ≡ m) × P h
child_is [] a m k h = absurd (cc)
child_is {P} (g ∷ hs) a m k h = go (child_is hs a.1 m k) (nat_eq g.parent m) refl h
  where
    go : (is_among (children_in hs m) k ≡ true → (h : Host) × (h.number ≡ k) × (h.parent ≡ m) × P h) → (b : Bool) → nat_eq g.parent m ≡ b
        → is_among (map (λ h. h.number) (cond b (g ∷ filter (λ h. nat_eq h.parent m) hs) (filter (λ h. nat_eq h.parent m) hs))) k ≡ true
        → (h : Host) × (h.number ≡ k) × (h.parent ≡ m) × P h
    go rest true e l = elim (either _ _ l) [
      | inl f ↦ (g, sym ((Decides-eqb k g.number).0 f), (Decides-eqb g.parent m).0 e, a.0)
      | inr f ↦ rest f
    ]
    go rest false e l = rest l

not_gone : (b c : Bool) → (not b && not c) ≡ false → b ≡ false → c ≡ true
not_gone b true h e = refl
not_gone b false h e = absurd (cc (ap not e))

-- The notes of all hosts

HasNote : List Host → List Host → (ℕ → Option ℕ) → ℕ → Type 0
HasNote old new note m = (r : ℕ) × (note m ≡ Some r) × (is_among (tops old new old) r ≡ true)

pub gone_parts : (a b : Bool) → (a && not b) ≡ true → (a ≡ true) × (b ≡ false)
gone_parts true true h = absurd (cc)
gone_parts true false h = (refl, refl)
gone_parts false b h = absurd (cc)

-- each host that is gone has a note
gone_have_notes : (old new : List Host) (acc : ℕ → Option ℕ) (hs : List Host) → ParentsFirst hs
    → AllByRecursion (λ h. is_top old new h ≡ true → is_among (tops old new old) h.number ≡ true) hs
    → ((m : ℕ) → has_gone old new m ≡ true → has_host hs m ≡ false → (r : ℕ) × (acc m ≡ Some r) × (is_among (tops old new old) r ≡ true))
    → (m : ℕ) → has_gone old new m ≡ true → (r : ℕ) × (notes old new acc hs m ≡ Some r) × (is_among (tops old new old) r ≡ true)
gone_have_notes old new acc [] p t a m g = a m g refl
gone_have_notes old new acc (h ∷ hs) p t a m g =
    gone_have_notes old new (noted old new acc h) hs p.1 t.1 (λ m g n. next m g n (nat_eq m h.number) refl) m g
  where
    own : (b : Bool) → is_top old new h ≡ b → has_gone old new h.number ≡ true
        → (r : ℕ) × ((if b then Some h.number else (if has_host new h.number then None else acc h.parent)) ≡ Some r) × (is_among (tops old new old) r ≡ true)
    own true e g = (h.number, refl, t.0 e)
    own false e g =
        let out : has_host new h.number ≡ false = (gone_parts _ _ g).1 in
        let up : has_gone old new h.parent ≡ true = not_gone (has_host new h.number) (has_gone old new h.parent) e out in
        carry out (a h.parent up p.0)
      where
        carry : has_host new h.number ≡ false → (r : ℕ) × (acc h.parent ≡ Some r) × (is_among (tops old new old) r ≡ true)
            → (r : ℕ) × ((if has_host new h.number then None else acc h.parent) ≡ Some r) × (is_among (tops old new old) r ≡ true)
        carry out r = (r.0, rw out r.1, r.2)

    next : (m : ℕ) → has_gone old new m ≡ true → has_host hs m ≡ false → (b : Bool) → nat_eq m h.number ≡ b
        → (r : ℕ) × (noted old new acc h m ≡ Some r) × (is_among (tops old new old) r ≡ true)
    next m g n true e =
        let same : m ≡ h.number = (Decides-eqb m h.number).0 e in
        let r = own (is_top old new h) refl (ap (has_gone old new) (sym same) ∙ g) in
        (r.0, rw e r.1, r.2)
    next m g n false e =
        let r = a m g (rw (flip m h.number false e) n) in
        (r.0, rw e r.1, r.2)

-- what has a note is gone
noted_are_gone : (old new : List Host) (acc : ℕ → Option ℕ) (hs : List Host) → AllByRecursion (λ h. has_host old h.number ≡ true) hs
    → ((m r : ℕ) → acc m ≡ Some r → has_gone old new m ≡ true) → (m r : ℕ) → notes old new acc hs m ≡ Some r → has_gone old new m ≡ true
noted_are_gone old new acc [] k a m r e = a m r e
noted_are_gone old new acc (h ∷ hs) k a m r e =
    noted_are_gone old new (noted old new acc h) hs k.1 (λ m r e. next m r (nat_eq m h.number) refl e) m r e
  where
    not_true_is : (b : Bool) → not b ≡ true → b ≡ false
    not_true_is true h = absurd (cc)
    not_true_is false h = refl

    own : (r : ℕ) (b : Bool) → is_top old new h ≡ b → (c : Bool) → has_host new h.number ≡ c
        → (if b then Some h.number else (if c then None else acc h.parent)) ≡ Some r → has_gone old new h.number ≡ true
    own r true e c f l =
        let parts : (not (has_host new h.number) ≡ true) × (not (has_gone old new h.parent) ≡ true) = both _ _ e in
        let out : has_host new h.number ≡ false = not_true_is (has_host new h.number) parts.0 in
        let in' : has_host old h.number ≡ true = k.0 in
        rw (in', out) refl
    own r false e true f l = absurd (cc)
    own r false e false f l = let in' : has_host old h.number ≡ true = k.0 in rw (in', f) refl

    next : (m r : ℕ) (b : Bool) → nat_eq m h.number ≡ b
        → (if b then (if is_top old new h then Some h.number else (if has_host new h.number then None else acc h.parent)) else acc m) ≡ Some r
        → has_gone old new m ≡ true
    next m r true e l =
        let same : m ≡ h.number = (Decides-eqb m h.number).0 e in
        ap (has_gone old new) same ∙ own r (is_top old new h) refl (has_host new h.number) refl l
    next m r false e l = a m r l

-- What a table of notes says of the hosts that are gone
pub record Notes (old new : List Host) (note : ℕ → Option ℕ) : Type 0 where
  pub gone : (m r : ℕ) → note m ≡ Some r → has_gone old new m ≡ true
  pub noted : (m : ℕ) → has_gone old new m ≡ true → (r : ℕ) × (note m ≡ Some r) × (is_among (tops old new old) r ≡ true)
  pub selves : AllByRecursion (λ h. is_top old new h ≡ true → note h.number ≡ Some h.number) old
  pub others : AllByRecursion (λ h. is_top old new h ≡ false → has_host new h.number ≡ false → note h.number ≡ note h.parent) old

among_gone : (old new : List Host) (m : ℕ) → has_gone old new m ≡ true → has_host old m ≡ false → ⊥
among_gone old new m g n = let parts = gone_parts (has_host old m) (has_host new m) g in absurd (cc)

pub notes_of : (old new : List Host) → AreDistinct old → ParentsFirst old → Notes old new (notes old new (λ n. None) old)
notes_of old new d p = record {
  gone = noted_are_gone old new (λ n. None) old (each_is_among old) (λ m r e. absurd (cc));
  noted = gone_have_notes old new (λ n. None) old p (tops_are_in old new old) (λ m g n. absurd (among_gone old new m g n));
  selves = tops_go_themselves old new (λ n. None) old d;
  others = others_like_parents old new (λ n. None) old d p;
}

-- A forest without the hosts that go with these

abbrev pub goes_with : List ℕ → Option ℕ → Bool
goes_with done None = false
goes_with done (Some r) = is_among done r

abbrev pub cut : (ℕ → Option ℕ) → List ℕ → HostForest → HostForest
cut note done f = record {
  held = λ n. if goes_with done (note n) then None else f.held n;
  children = λ n. if goes_with done (note n) then [] else filter (λ m. not (is_among done m)) (f.children n);
}

both_each : (P Q : Host → Type 0) (hs : List Host) → AllByRecursion P hs → AllByRecursion Q hs → AllByRecursion (λ h. P h × Q h) hs
both_each P Q [] a b = tt
both_each P Q (h ∷ hs) a b = ((a.0, b.0), both_each P Q hs a.1 b.1)

-- at most what was listed is under a host that goes next
under_has_note : (old new : List Host) (note : ℕ → Option ℕ) → Notes old new note → GoneBelow old new
    → (done : List ℕ) (r : ℕ) → note r ≡ Some r → {m : ℕ} → IsUnder (cut note done (forest_of old)) r m → note m ≡ Some r
under_has_note old new note n closed done r start itself = start
under_has_note old new note n closed done r start (below {m} {k} u c) = next (under_has_note old new note n closed done r start u) c
  where
    filtered : (ms : List ℕ) → is_among (filter (λ m. not (is_among done m)) ms) k ≡ true → is_among ms k ≡ true
    filtered [] h = h
    filtered (x ∷ xs) h = go (not (is_among done x)) (filtered xs) h
      where
        go : (b : Bool) → (is_among (filter (λ m. not (is_among done m)) xs) k ≡ true → is_among xs k ≡ true)
            → is_among (cond b (x ∷ filter (λ m. not (is_among done m)) xs) (filter (λ m. not (is_among done m)) xs)) k ≡ true → (nat_eq k x || is_among xs k) ≡ true
        go true rest l = elim (either _ _ l) [ inl e ↦ ap (λ b. b || is_among xs k) e | inr e ↦ or_right (nat_eq k x) _ (rest e) ]
        go false rest l = or_right (nat_eq k x) _ (rest l)

    child : (b : Bool) → is_among (if b then [] else filter (λ m. not (is_among done m)) (children_in old m)) k ≡ true → is_among (children_in old m) k ≡ true
    child true l = absurd (cc)
    child false l = filtered (children_in old m) l

    next : note m ≡ Some r → is_among ((cut note done (forest_of old)).children m) k ≡ true → note k ≡ Some r
    next e c = like (child_is old (both_each (λ h. is_top old new h ≡ false → has_host new h.number ≡ false → note h.number ≡ note h.parent) (λ h. has_gone old new h.parent ≡ true → has_host new h.number ≡ false) old n.others closed) m k (child (goes_with done (note m)) c))
      where
        up : has_gone old new m ≡ true
        up = n.gone m r e

        like : (h : Host) × (h.number ≡ k) × (h.parent ≡ m) × ((is_top old new h ≡ false → has_host new h.number ≡ false → note h.number ≡ note h.parent)
            × (has_gone old new h.parent ≡ true → has_host new h.number ≡ false)) → note k ≡ Some r
        like h =
            let up' : has_gone old new (h.0).parent ≡ true = ap (has_gone old new) h.2 ∙ up in
            let out : has_host new (h.0).number ≡ false = h.3.1 up' in
            let top : is_top old new h.0 ≡ false = rw (out, up') refl in
            ap note (sym h.1) ∙ h.3.0 top out ∙ ap note h.2 ∙ e

still_in : (done : List ℕ) (k : ℕ) → is_among done k ≡ false → (ms : List ℕ) → is_among ms k ≡ true → is_among (filter (λ m. not (is_among done m)) ms) k ≡ true
still_in done k out [] h = absurd (cc)
still_in done k out (x ∷ xs) h = go (still_in done k out xs) (nat_eq k x) refl (is_among done x) refl h
  where
    go : (is_among xs k ≡ true → is_among (filter (λ m. not (is_among done m)) xs) k ≡ true) → (b : Bool) → nat_eq k x ≡ b → (c : Bool) → is_among done x ≡ c
        → (b || is_among xs k) ≡ true → is_among (filter (λ m. not (is_among done m)) (x ∷ xs)) k ≡ true
    go rest true e true f l = let same : k ≡ x = (Decides-eqb k x).0 e in absurd (cc (ap (is_among done) same))
    go rest true e false f l = rw (f, e) refl
    go rest false e true f l = rw f (rest l)
    go rest false e false f l = rw (f, e) (rest l)

-- what goes with a host is under it, while it and its like are still there
noted_are_under : (old new : List Host) (note : ℕ → Option ℕ) → Notes old new note → (done : List ℕ) (r : ℕ) → is_among done r ≡ false
    → ((m : ℕ) → is_among done m ≡ true → note m ≡ Some m) → (hs : List Host) → ParentsFirst hs
    → AllByRecursion (λ h. is_top old new h ≡ true → note h.number ≡ Some h.number) hs
    → AllByRecursion (λ h. is_top old new h ≡ false → has_host new h.number ≡ false → note h.number ≡ note h.parent) hs
    → AllByRecursion (λ h. is_among (children_in old h.parent) h.number ≡ true) hs
    → ((m : ℕ) → has_host hs m ≡ false → note m ≡ Some r → IsUnder (cut note done (forest_of old)) r m)
    → (m : ℕ) → note m ≡ Some r → IsUnder (cut note done (forest_of old)) r m
noted_are_under old new note n done r out selves [] p s o c a m e = a m refl e
noted_are_under old new note n done r out selves (h ∷ hs) p s o c a m e =
    noted_are_under old new note n done r out selves hs p.1 s.1 o.1 c.1 (λ m n e. next m n (nat_eq m h.number) refl e) m e
  where
    not_done : note h.number ≡ Some r → (b : Bool) → is_among done h.number ≡ b → b ≡ false
    not_done e true f =
        let same : h.number ≡ r = same_Some _ _ (sym (selves h.number f) ∙ e) in absurd (cc (ap (is_among done) same))
    not_done e false f = refl

    own : note h.number ≡ Some r → (b : Bool) → is_top old new h ≡ b → IsUnder (cut note done (forest_of old)) r h.number
    own e true t =
        let same : r ≡ h.number = same_Some _ _ (sym e ∙ s.0 t) in
        subst (IsUnder (cut note done (forest_of old)) r) same itself
    own e false t =
        let parts = gone_parts (has_host old h.number) (has_host new h.number) (n.gone h.number r e) in
        let up : has_gone old new h.parent ≡ true = not_gone (has_host new h.number) (has_gone old new h.parent) t parts.1 in
        let with : note h.parent ≡ Some r = sym (o.0 t parts.1) ∙ e in
        let there : is_among ((cut note done (forest_of old)).children h.parent) h.number ≡ true =
        rw (with, out) (still_in done h.number (not_done e (is_among done h.number) refl) (children_in old h.parent) c.0) in
        below (a h.parent p.0 with) there

    next : (m : ℕ) → has_host hs m ≡ false → (b : Bool) → nat_eq m h.number ≡ b → note m ≡ Some r → IsUnder (cut note done (forest_of old)) r m
    next m n true f e =
        let same : m ≡ h.number = (Decides-eqb m h.number).0 f in
        subst (IsUnder (cut note done (forest_of old)) r) (sym same) (own (ap note (sym same) ∙ e) (is_top old new h) refl)
    next m n false f e = a m (rw (flip m h.number false f) n) e

without_twice : (done : List ℕ) (r : ℕ) (ms : List ℕ) → filter (λ m. not (is_among (r ∷ done) m)) ms ≡ without r (filter (λ m. not (is_among done m)) ms)
without_twice done r [] = refl
without_twice done r (m ∷ ms) = go (without_twice done r ms) (nat_eq m r) refl (is_among done m) refl
  where
    go : filter (λ m. not (is_among (r ∷ done) m)) ms ≡ without r (filter (λ m. not (is_among done m)) ms) → (b : Bool) → nat_eq m r ≡ b → (c : Bool) → is_among done m ≡ c
        → filter (λ m. not (is_among (r ∷ done) m)) (m ∷ ms) ≡ without r (filter (λ m. not (is_among done m)) (m ∷ ms))
    go rest true e true f = rw (e, f) rest
    go rest true e false f = rw (e, f, e) rest
    go rest false e true f = rw (e, f) rest
    go rest false e false f = rw (e, f, e) (ap (λ xs. m ∷ xs) rest)

-- one removal
pub removes_one : (old new : List Host) (note : ℕ → Option ℕ) → Notes old new note → ParentsFirst old → GoneBelow old new → (done : List ℕ) (r : ℕ)
    → is_among done r ≡ false → ((m : ℕ) → is_among done m ≡ true → note m ≡ Some m) → note r ≡ Some r
    → Removed (cut note done (forest_of old)) r (cut note (r ∷ done) (forest_of old))
removes_one old new note n first closed done r out selves start = record {
  gone = λ m u. gone m (under_has_note old new note n closed done r start u);
  kept = λ m u. kept m (note m) refl (λ e. u (noted_are_under old new note n done r out selves old first n.selves n.others (each_is_child old)
      (λ m k e. absurd (among_gone old new m (n.gone m r e) k)) m e));
}
  where
    gone : (m : ℕ) → note m ≡ Some r → ((cut note (r ∷ done) (forest_of old)).held m ≡ None) × ((cut note (r ∷ done) (forest_of old)).children m ≡ [])
    gone m e = (rw (e, self r) refl, rw (e, self r) refl)

    kept : (m : ℕ) (o : Option ℕ) → note m ≡ o → (note m ≡ Some r → ⊥)
        → ((cut note (r ∷ done) (forest_of old)).held m ≡ (cut note done (forest_of old)).held m)
        × ((cut note (r ∷ done) (forest_of old)).children m ≡ without r ((cut note done (forest_of old)).children m))
    kept m None e other = (rw e refl, rw e (without_twice done r (children_in old m)))
    kept m (Some t) e other = go (nat_eq t r) refl (is_among done t) refl
      where
        go : (b : Bool) → nat_eq t r ≡ b → (c : Bool) → is_among done t ≡ c
            → ((cut note (r ∷ done) (forest_of old)).held m ≡ (cut note done (forest_of old)).held m)
            × ((cut note (r ∷ done) (forest_of old)).children m ≡ without r ((cut note done (forest_of old)).children m))
        go true f c g = absurd (other (e ∙ ap Some ((Decides-eqb t r).0 f)))
        go false f true g = (rw (e, f, g) refl, rw (e, f, g) refl)
        go false f false g = (rw (e, f, g) refl, rw (e, f, g) (without_twice done r (children_in old m)))

abbrev all_done : List ℕ → List ℕ → List ℕ
all_done done [] = done
all_done done (r ∷ rs) = all_done (r ∷ done) rs

abbrev pub NumbersApart : List ℕ → Type 0
NumbersApart [] = Unit {0}
NumbersApart (r ∷ rs) = (is_among rs r ≡ false) × NumbersApart rs

-- all removals
removes_all : (old new : List Host) (note : ℕ → Option ℕ) → Notes old new note → ParentsFirst old → GoneBelow old new → (done rs : List ℕ)
    → ((m : ℕ) → is_among done m ≡ true → note m ≡ Some m) → ((m : ℕ) → is_among rs m ≡ true → note m ≡ Some m)
    → ((m : ℕ) → is_among done m ≡ true → is_among rs m ≡ true → ⊥) → NumbersApart rs
    → Replays (cut note done (forest_of old)) (map op.Remove rs) (cut note (all_done done rs) (forest_of old))
removes_all old new note n first closed done [] selves more apart d = refl
removes_all old new note n first closed done (r ∷ rs) selves more apart d = (
  cut note (r ∷ done) (forest_of old),
  removes_one old new note n first closed done r (not_done (is_among done r) refl) selves start,
  removes_all old new note n first closed (r ∷ done) rs selves' (λ m k. more m (or_right (nat_eq m r) _ k)) apart' d.1,
)
  where
    start : note r ≡ Some r
    start = more r (ap (λ b. b || is_among rs r) (self r))

    not_done : (b : Bool) → is_among done r ≡ b → b ≡ false
    not_done true e = absurd (apart r e (ap (λ b. b || is_among rs r) (self r)))
    not_done false e = refl

    selves' : (m : ℕ) → is_among (r ∷ done) m ≡ true → note m ≡ Some m
    selves' m k = elim (either (nat_eq m r) (is_among done m) k) [
      | inl e ↦ let same : m ≡ r = (Decides-eqb m r).0 e in ap note same ∙ start ∙ ap Some (sym same)
      | inr e ↦ selves m e
    ]

    apart' : (m : ℕ) → is_among (r ∷ done) m ≡ true → is_among rs m ≡ true → ⊥
    apart' m k l = elim (either (nat_eq m r) (is_among done m) k) [
      | inl e ↦ let same : m ≡ r = (Decides-eqb m r).0 e in absurd (cc (ap (is_among rs) same, d.0))
      | inr e ↦ apart m e (or_right (nat_eq m r) _ l)
    ]

-- what is no host's number is not removed
not_top : (old new hs : List Host) (n : ℕ) → has_host hs n ≡ false → is_among (tops old new hs) n ≡ false
not_top old new [] n h = refl
not_top old new (g ∷ hs) n h =
    let parts : (nat_eq g.number n ≡ false) × (has_host hs n ≡ false) = neither _ _ h in
    go parts.0 (not_top old new hs n parts.1) (is_top old new g)
  where
    go : nat_eq g.number n ≡ false → is_among (tops old new hs) n ≡ false → (b : Bool)
        → is_among (map (λ h. h.number) (cond b (g ∷ filter (is_top old new) hs) (filter (is_top old new) hs))) n ≡ false
    go other rest true = rw (flip g.number n false other) rest
    go other rest false = rest

pub tops_apart : (old new hs : List Host) → AreDistinct hs → NumbersApart (tops old new hs)
tops_apart old new [] d = tt
tops_apart old new (g ∷ hs) d = go (tops_apart old new hs d.1) (is_top old new g)
  where
    go : NumbersApart (tops old new hs) → (b : Bool) → NumbersApart (map (λ h. h.number) (cond b (g ∷ filter (is_top old new) hs) (filter (is_top old new) hs)))
    go rest true = (not_top old new hs g.number d.0, rest)
    go rest false = rest

pub tops_selves : (old new : List Host) (note : ℕ → Option ℕ) (hs : List Host) → AllByRecursion (λ h. is_top old new h ≡ true → note h.number ≡ Some h.number) hs
    → (m : ℕ) → is_among (tops old new hs) m ≡ true → note m ≡ Some m
tops_selves old new note [] a m k = absurd (cc)
tops_selves old new note (g ∷ hs) a m k = go (tops_selves old new note hs a.1 m) (is_top old new g) refl k
  where
    go : (is_among (tops old new hs) m ≡ true → note m ≡ Some m) → (b : Bool) → is_top old new g ≡ b
        → is_among (map (λ h. h.number) (cond b (g ∷ filter (is_top old new) hs) (filter (is_top old new) hs))) m ≡ true → note m ≡ Some m
    go rest true t l = elim (either _ _ l) [
      | inl e ↦ let same : m ≡ g.number = (Decides-eqb m g.number).0 e in ap note same ∙ a.0 t ∙ ap Some (sym same)
      | inr e ↦ rest e
    ]
    go rest false t l = rest l

done_are : (done rs : List ℕ) (m : ℕ) → is_among (all_done done rs) m ≡ true → (is_among done m ≡ true) ⊎ (is_among rs m ≡ true)
done_are done [] m h = inl h
done_are done (r ∷ rs) m h = elim (done_are (r ∷ done) rs m h) [
  | inl e ↦ elim (either (nat_eq m r) (is_among done m) e) [ inl f ↦ inr (ap (λ b. b || is_among rs m) f) | inr f ↦ inl f ]
  | inr e ↦ inr (or_right (nat_eq m r) _ e)
]

are_done : (done rs : List ℕ) (m : ℕ) → (is_among done m ≡ true) ⊎ (is_among rs m ≡ true) → is_among (all_done done rs) m ≡ true
are_done done [] m (inl e) = e
are_done done [] m (inr e) = absurd (cc)
are_done done (r ∷ rs) m (inl e) = are_done (r ∷ done) rs m (inl (or_right (nat_eq m r) _ e))
are_done done (r ∷ rs) m (inr e) = elim (either (nat_eq m r) (is_among rs m) e) [
  | inl f ↦ are_done (r ∷ done) rs m (inl (ap (λ b. b || is_among done m) f))
  | inr f ↦ are_done (r ∷ done) rs m (inr f)
]

-- two tests that agree at the children of a number
agree_at : (p q : ℕ → Bool) (P : ℕ → Type 0) (hs : List Host) → AllByRecursion (λ h. P h.parent → p h.number ≡ q h.number) hs → (n : ℕ) → P n
    → filter p (children_in hs n) ≡ filter q (children_in hs n)
agree_at p q P [] a n k = refl
agree_at p q P (g ∷ hs) a n k = go (agree_at p q P hs a.1 n k) (nat_eq g.parent n) refl
  where
    go : filter p (children_in hs n) ≡ filter q (children_in hs n) → (b : Bool) → nat_eq g.parent n ≡ b
        → filter p (map (λ h. h.number) (cond b (g ∷ filter (λ h. nat_eq h.parent n) hs) (filter (λ h. nat_eq h.parent n) hs)))
        ≡ filter q (map (λ h. h.number) (cond b (g ∷ filter (λ h. nat_eq h.parent n) hs) (filter (λ h. nat_eq h.parent n) hs)))
    go rest true e =
        let here : p g.number ≡ q g.number = a.0 (subst P (sym ((Decides-eqb g.parent n).0 e)) k) in
        rw here (ap (λ xs. cond (q g.number) (g.number ∷ xs) xs) rest)
    go rest false e = rest

pub missing : (hs : List Host) (n : ℕ) → has_host hs n ≡ false → host_numbered hs n ≡ None
missing [] n h = refl
missing (g ∷ hs) n h = let parts : (nat_eq g.number n ≡ false) × (has_host hs n ≡ false) = neither _ _ h in rw parts.0 (missing hs n parts.1)

abbrev forest_with : (ℕ → Option Held) → (ℕ → List ℕ) → HostForest
forest_with h c = record { held = h; children = c }

-- forests with the same hosts and children are one
pub same_forest : (f g : HostForest) → ((n : ℕ) → f.held n ≡ g.held n) → ((n : ℕ) → f.children n ≡ g.children n) → f ≡ g
same_forest f g a b = ap (λ h. forest_with h f.children) (fun_ext a) ∙ ap (forest_with g.held) (fun_ext b)

-- before the first removal
pub cut_nothing : (note : ℕ → Option ℕ) (old : List Host) → cut note [] (forest_of old) ≡ forest_of old
cut_nothing note old = same_forest (cut note [] (forest_of old)) (forest_of old) (λ n. held (note n) (option_map held_of (host_numbered old n))) (λ n. children (note n) (children_in old n))
  where
    held : (o : Option ℕ) (x : Option Held) → (if goes_with [] o then None else x) ≡ x
    held None x = refl
    held (Some r) x = refl

    all : (ms : List ℕ) → filter (λ m. not (is_among [] m)) ms ≡ ms
    all [] = refl
    all (m ∷ ms) = ap (λ xs. m ∷ xs) (all ms)

    children : (o : Option ℕ) (ms : List ℕ) → (if goes_with [] o then [] else filter (λ m. not (is_among [] m)) ms) ≡ ms
    children None ms = all ms
    children (Some r) ms = all ms

-- the removals leave the old forest without what is gone
pub removals_replay : (old new : List Host) → AreDistinct old → ParentsFirst old → GoneBelow old new
    → Replays (forest_of old) (removals old new) (rest_of old new)
removals_replay old new d first closed =
    subst (λ ops. Replays (forest_of old) ops (rest_of old new)) (sym (removals_are old new old))
    (subst (λ g. Replays (forest_of old) (map op.Remove (tops old new old)) g) whole
    (subst (λ f. Replays f (map op.Remove (tops old new old)) (cut note (all_done [] (tops old new old)) (forest_of old))) (cut_nothing note old)
    (removes_all old new note n first closed [] (tops old new old) (λ m k. absurd (cc)) (tops_selves old new note old n.selves) (λ m k l. absurd (cc)) (tops_apart old new old d))))
  where
    note : ℕ → Option ℕ
    note = notes old new (λ n. None) old

    n : Notes old new note
    n = notes_of old new d first

    whole : cut note (all_done [] (tops old new old)) (forest_of old) ≡ rest_of old new
    whole = same_forest (cut note (all_done [] (tops old new old)) (forest_of old)) (rest_of old new)
        (λ m. rw (goes m) (held m (has_host old m) refl (has_host new m) refl)) (λ m. rw (goes m) (children m (has_gone old new m) refl))
      where
        goes : (m : ℕ) → goes_with (all_done [] (tops old new old)) (note m) ≡ has_gone old new m
        goes m = by_note (note m) refl
          where
            not_gone_is : note m ≡ None → (b : Bool) → has_gone old new m ≡ b → false ≡ b
            not_gone_is e true g = let r = n.noted m g in absurd (none-some r.0 (sym e ∙ r.1))
            not_gone_is e false g = refl

            by_note : (o : Option ℕ) → note m ≡ o → goes_with (all_done [] (tops old new old)) (note m) ≡ has_gone old new m
            by_note None e = rw e (not_gone_is e (has_gone old new m) refl)
            by_note (Some r) e =
                let g : has_gone old new m ≡ true = n.gone m r e in
                let s = n.noted m g in
                let same : r ≡ s.0 = same_Some _ _ (sym e ∙ s.1) in
                let top : is_among (tops old new old) r ≡ true = ap (is_among (tops old new old)) same ∙ s.2 in
                rw (e, g) (are_done [] (tops old new old) r (inr top))

        held : (m : ℕ) (a : Bool) → has_host old m ≡ a → (b : Bool) → has_host new m ≡ b
            → (if has_gone old new m then None else option_map held_of (host_numbered old m)) ≡ (if has_host new m then option_map held_of (host_numbered old m) else None)
        held m true e true f = rw (e, f) refl
        held m true e false f = rw (e, f) refl
        held m false e true f = rw (e, f) refl
        held m false e false f = rw (e, f, missing old m e) refl

        tests : (hs : List Host) → AllByRecursion (λ h. is_top old new h ≡ true → is_among (tops old new old) h.number ≡ true) hs
            → AllByRecursion (λ h. has_gone old new h.parent ≡ false → not (is_among (all_done [] (tops old new old)) h.number) ≡ has_host new h.number) hs
        tests [] a = tt
        tests (h ∷ hs) a = (λ g. test g (has_host new h.number) refl, tests hs a.1)
          where
            not_in : has_host new h.number ≡ true → (b : Bool) → is_among (all_done [] (tops old new old)) h.number ≡ b → b ≡ false
            not_in e true k = elim (done_are [] (tops old new old) h.number k) [
              | inl x ↦ absurd (cc)
              | inr x ↦
                  let parts = gone_parts (has_host old h.number) (has_host new h.number) (n.gone h.number h.number (tops_selves old new note old n.selves h.number x)) in
                  absurd (cc)
            ]
            not_in e false k = refl

            test : has_gone old new h.parent ≡ false → (b : Bool) → has_host new h.number ≡ b
                → not (is_among (all_done [] (tops old new old)) h.number) ≡ has_host new h.number
            test g true e = rw (not_in e (is_among (all_done [] (tops old new old)) h.number) refl, e) refl
            test g false e =
                let top : is_top old new h ≡ true = rw (e, g) refl in
                rw (are_done [] (tops old new old) h.number (inr (a.0 top)), e) refl

        children : (m : ℕ) (b : Bool) → has_gone old new m ≡ b
            → (if has_gone old new m then [] else filter (λ k. not (is_among (all_done [] (tops old new old)) k)) (children_in old m))
            ≡ (if has_gone old new m then [] else filter (has_host new) (children_in old m))
        children m true e = rw e refl
        children m false e =
            rw e (agree_at (λ k. not (is_among (all_done [] (tops old new old)) k)) (has_host new) (λ k. has_gone old new k ≡ false) old
            (tests old (tops_are_in old new old)) m e)
