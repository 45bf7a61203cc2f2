-- The operations between two listings of hosts make the new forest of the old one.
use Rattle.std.specs.Prelude.{◌≡◌, ℕ, Bool, true, false, cond, not, ◌||◌, List, [], ◌∷◌, ◌++◌, Option, Some, None, map, option_map, filter, flat_map, nat_eq, refl, if◌then◌else◌}
use Rattle.std.specs.List.{list_all}
use Rattle.std.specs.List.{AllByRecursion}
use Rattle.std.specs.Option.{option_map_or}
use Rattle.std.proofs.Common.{sym, ◌∙◌, ap, subst, arith}
use Rattle.std.proofs.lemmas.Bool.Decides.{nat_tests, Decides-eqb}
use Rattle.std.proofs.lemmas.Option.{same_Some}
use Rattle.host_laws.specs.Related.{AreAlike, AreDistinct, AreRelated, has_gone, rest_of, old_content}
use Rattle.rx_forest.specs.Forests.{HostForest, Held, Body, body_of, held_of, children_in, forest_of, with_held, with_body, new_host, with_mark, Replays}
use Rattle.rx_forest.specs.HostOps.{removals, creations, creation, placements, contents, content_ops, bare, hidings, hiding_ops, ops_between}
use Rattle.rx_forest.specs.Hosts.{Host, Content, host_numbered, has_host}
use Rattle.rx_forest.specs.declared.op.HostOp.{HostOp}
use Rattle.rx_forest.specs.Hosts as hosts
use Rattle.host_laws.proofs.Placing.{neither}
use Rattle.host_laws.proofs.Placements.{placements_settle}
use Rattle.host_laws.proofs.Held.{replays-append, with_held-same, changed, changes_all}
use Rattle.host_laws.proofs.Contents.{content_change, contents_replay, content_becomes}
use Rattle.host_laws.proofs.Removals.{removals_replay, same_forest}

-- what the changes of other hosts leave
pub changed_other : (change : Host → Option Held → Option Held) (hs : List Host) (n : ℕ) (x : Option Held) → has_host hs n ≡ false → changed change hs n x ≡ x
changed_other change [] n x h = refl
changed_other change (g ∷ hs) n x h =
    let parts : (nat_eq g.number n ≡ false) × (has_host hs n ≡ false) = neither _ _ h in
    let other : nat_eq n g.number ≡ false = let e = parts.0 in grind (arith, nat_tests) in
    rw other (changed_other change hs n x parts.1)

-- what the change of a host leaves of it
pub changed_one : (change : Host → Option Held → Option Held) (hs : List Host) → AreDistinct hs → (n : ℕ) (h : Host) (x : Option Held) → host_numbered hs n ≡ Some h
    → changed change hs n x ≡ change h x
changed_one change [] d n h x e = absurd (cc)
changed_one change (g ∷ hs) d n h x e = go (changed_one change hs d.1 n h x) (nat_eq g.number n) refl e
  where
    go : (host_numbered hs n ≡ Some h → changed change hs n x ≡ change h x) → (b : Bool) → nat_eq g.number n ≡ b
        → cond b (Some g) (host_numbered hs n) ≡ Some h → changed change hs n (if nat_eq n g.number then change g x else x) ≡ change h x
    go rest true f k =
        let same : g.number ≡ n = (Decides-eqb g.number n).0 f in
        let turned : nat_eq n g.number ≡ true = (Decides-eqb n g.number).1 (sym same) in
        rw turned (changed_other change hs n (change g x) (ap (has_host hs) (sym same) ∙ d.0) ∙ ap (λ y. change y x) (same_Some _ _ k))
    go rest false f k =
        let turned : nat_eq n g.number ≡ false = grind (arith, nat_tests) in
        rw turned (rest k)

-- Creations

abbrev pub creation_if : List Host → Host → List HostOp
creation_if old h = if has_host old h.number then [] else creation h.number h.content ∷ []

pub creations_are : (old new : List Host) → creations old new ≡ flat_map (creation_if old) new
creations_are old [] = refl
creations_are old (h ∷ hs) = go (has_host old h.number) (creations_are old hs)
  where
    go : (b : Bool) → creations old hs ≡ flat_map (creation_if old) hs
        → map (λ h. creation h.number h.content) (cond (not b) (h ∷ filter (λ h. not (has_host old h.number)) hs) (filter (λ h. not (has_host old h.number)) hs))
        ≡ (if b then [] else creation h.number h.content ∷ []) ++ flat_map (creation_if old) hs
    go true rest = rest
    go false rest = ap (λ xs. creation h.number h.content ∷ xs) rest

abbrev pub create_change : List Host → Host → Option Held → Option Held
create_change old h x = if has_host old h.number then x else new_host (body_of (bare h.content)) x

pub creation_replay : (old : List Host) (h : Host) (f : HostForest) → Replays f (creation_if old h) (with_held f h.number (create_change old h))
creation_replay old h f = go (has_host old h.number)
  where
    one : (c : Content) → Replays f (creation h.number c ∷ []) (with_held f h.number (new_host (body_of (bare c))))
    one (hosts.tag name attrs) = (with_held f h.number (new_host (body_of (bare (hosts.tag name attrs)))), refl, refl)
    one (hosts.letters t) = (with_held f h.number (new_host (body_of (bare (hosts.letters t)))), refl, refl)

    go : (b : Bool) → Replays f (if b then [] else creation h.number h.content ∷ []) (with_held f h.number (λ x. if b then x else new_host (body_of (bare h.content)) x))
    go true = with_held-same f h.number
    go false = one h.content

-- Contents

abbrev pub content_ops_of : List Host → Host → List HostOp
content_ops_of old h = content_ops h.number (old_content (host_numbered old h.number) h) h.content

abbrev pub content_change_of : List Host → Host → Option Held → Option Held
content_change_of old h = option_map (with_body (content_change (old_content (host_numbered old h.number) h) h.content))

-- Marks

-- a host that may be missing had the mark
abbrev pub was_hidden : Option Host → Bool
was_hidden o = option_map_or (λ g. g.hidden) o false

abbrev pub mark_change : Bool → Bool → Option Held → Option Held
mark_change false true x = option_map (with_mark true) x
mark_change true false x = option_map (with_mark false) x
mark_change false false x = x
mark_change true true x = x

pub mark_replay : (before after : Bool) (n : ℕ) (f : HostForest) → Replays f (hiding_ops n before after) (with_held f n (mark_change before after))
mark_replay false true n f = (with_held f n (option_map (with_mark true)), refl, refl)
mark_replay true false n f = (with_held f n (option_map (with_mark false)), refl, refl)
mark_replay false false n f = with_held-same f n
mark_replay true true n f = with_held-same f n

abbrev pub mark_change_of : List Host → Host → Option Held → Option Held
mark_change_of old h = mark_change (was_hidden (host_numbered old h.number)) h.hidden

mark_becomes : (before after : Bool) (b : Body) → mark_change before after (Some (record { body = b; hidden = before })) ≡ Some (record { body = b; hidden = after })
mark_becomes false true b = refl
mark_becomes true false b = refl
mark_becomes false false b = refl
mark_becomes true true b = refl

-- What is held in the end

pub found_among : (hs : List Host) (n : ℕ) (h : Host) → host_numbered hs n ≡ Some h → (has_host hs n ≡ true) × (h.number ≡ n)
found_among [] n h e = absurd (cc)
found_among (g ∷ hs) n h e = go (found_among hs n h) (nat_eq g.number n) refl e
  where
    go : (host_numbered hs n ≡ Some h → (has_host hs n ≡ true) × (h.number ≡ n)) → (b : Bool) → nat_eq g.number n ≡ b → cond b (Some g) (host_numbered hs n) ≡ Some h
        → (has_host (g ∷ hs) n ≡ true) × (h.number ≡ n)
    go rest true f k = (rw f refl, ap (λ y. y.number) (sym (same_Some _ _ k)) ∙ (Decides-eqb g.number n).0 f)
    go rest false f k = (rw f (rest k).0, (rest k).1)

pub each_found : (P : Host → Type 0) (hs : List Host) → AllByRecursion P hs → (n : ℕ) (h : Host) → host_numbered hs n ≡ Some h → P h
each_found P [] a n h e = absurd (cc)
each_found P (g ∷ hs) a n h e = go (each_found P hs a.1 n h) (nat_eq g.number n) e
  where
    go : (host_numbered hs n ≡ Some h → P h) → (b : Bool) → cond b (Some g) (host_numbered hs n) ≡ Some h → P h
    go rest true k = subst P (same_Some _ _ k) a.0
    go rest false k = rest k

-- not found, not among
pub none_among : (hs : List Host) (n : ℕ) → host_numbered hs n ≡ None → has_host hs n ≡ false
none_among [] n e = refl
none_among (g ∷ hs) n e = go (none_among hs n) (nat_eq g.number n) e
  where
    go : (host_numbered hs n ≡ None → has_host hs n ≡ false) → (b : Bool) → cond b (Some g) (host_numbered hs n) ≡ None → (b || has_host hs n) ≡ false
    go rest true k = absurd (cc)
    go rest false k = rest k

becomes_held : (h : Host) (o : Option Host) → AreAlike (old_content o h) h.content → (a : Bool) → ((o ≡ None) → a ≡ false) → ((g : Host) → o ≡ Some g → a ≡ true)
    → mark_change (was_hidden o) h.hidden (option_map (with_body (content_change (old_content o h) h.content))
    (if a then option_map held_of o else new_host (body_of (bare h.content)) (option_map held_of o)))
    ≡ Some (held_of h)
becomes_held h None alike true e f = absurd (cc (e refl))
becomes_held h None alike false e f =
    let same : content_change (bare h.content) h.content (body_of (bare h.content)) ≡ body_of h.content = content_becomes (bare h.content) h.content alike in
    rw same (mark_becomes false h.hidden (body_of h.content))
becomes_held h (Some g) alike true e f =
    let same : content_change g.content h.content (body_of g.content) ≡ body_of h.content = content_becomes g.content h.content alike in
    rw same (mark_becomes g.hidden h.hidden (body_of h.content))
becomes_held h (Some g) alike false e f = absurd (cc (f g refl))

pub all_among : (p : ℕ → Bool) (ms : List ℕ) → list_all p (filter p ms) ≡ true
all_among p [] = refl
all_among p (m ∷ ms) = go (all_among p ms) (p m) refl
  where
    go : list_all p (filter p ms) ≡ true → (b : Bool) → p m ≡ b → list_all p (cond b (m ∷ filter p ms) (filter p ms)) ≡ true
    go rest true e = rw e rest
    go rest false e = rest

-- the operations between two listings make the forest of the new one of the forest of the old one
pub between_replays : (old new : List Host) (placed : List ℕ) → AreRelated old new placed
    → Replays (forest_of old) (ops_between old new placed) (forest_of new)
between_replays old new placed r =
    subst (Replays (forest_of old) (ops_between old new placed)) whole
    (replays-append (removals old new ++ creations old new ++ placements placed new ++ contents old new) (hidings old new) (forest_of old) four five
    (replays-append (removals old new ++ creations old new ++ placements placed new) (contents old new) (forest_of old) settled.0 four
    (replays-append (removals old new ++ creations old new) (placements placed new) (forest_of old) two settled.0
    (replays-append (removals old new) (creations old new) (forest_of old) (rest_of old new) two
    (removals_replay old new r.distinct_old r.parents_first r.gone_below)
    (rw (creations_are old new) (changes_all (creation_if old) (create_change old) (creation_replay old) new (rest_of old new))))
    settled.1)
    (changes_all (content_ops_of old) (content_change_of old) (λ h f. contents_replay h.number (old_content (host_numbered old h.number) h) h.content f) new settled.0))
    (changes_all (λ h. hiding_ops h.number (was_hidden (host_numbered old h.number)) h.hidden) (mark_change_of old)
    (λ h f. mark_replay (was_hidden (host_numbered old h.number)) h.hidden h.number f) new four))
  where
    two : HostForest
    two = record { held = λ n. changed (create_change old) new n ((rest_of old new).held n); children = (rest_of old new).children }

    known : (q : ℕ) (b : Bool) → list_all (has_host new) (if b then [] else filter (has_host new) (children_in old q)) ≡ true
    known q true = refl
    known q false = all_among (has_host new) (children_in old q)

    settled : (g : HostForest) × Replays two (placements placed new) g × (g.held ≡ two.held) × (g.children ≡ children_in new)
    settled = placements_settle placed new two r.distinct_new r.order (λ q. known q (has_gone old new q))

    four : HostForest
    four = record { held = λ n. changed (content_change_of old) new n ((settled.0).held n); children = (settled.0).children }

    five : HostForest
    five = record { held = λ n. changed (mark_change_of old) new n (four.held n); children = four.children }

    -- what the three changes make of a host
    last : (n : ℕ) (o : Option Host) → host_numbered new n ≡ o
        → changed (mark_change_of old) new n (changed (content_change_of old) new n (changed (create_change old) new n ((rest_of old new).held n)))
        ≡ option_map held_of (host_numbered new n)
    last n None e =
        let out : has_host new n ≡ false = none_among new n e in
        rw (
          changed_other (create_change old) new n ((rest_of old new).held n) out,
          changed_other (content_change_of old) new n ((rest_of old new).held n) out,
          changed_other (mark_change_of old) new n ((rest_of old new).held n) out,
          out,
          e,
        ) refl
    last n (Some h) e =
        let found = found_among new n h e in
        let x0 : Option Held = option_map held_of (host_numbered old n) in
        let in' : has_host new n ≡ true = found.0 in
        let start : (rest_of old new).held n ≡ x0 = rw in' refl in
        let one : changed (create_change old) new n ((rest_of old new).held n) ≡ create_change old h x0 =
        changed_one (create_change old) new r.distinct_new n h ((rest_of old new).held n) e ∙ ap (create_change old h) start in
        let two' : changed (content_change_of old) new n (changed (create_change old) new n ((rest_of old new).held n)) ≡ content_change_of old h (create_change old h x0) =
        changed_one (content_change_of old) new r.distinct_new n h (changed (create_change old) new n ((rest_of old new).held n)) e ∙ ap (content_change_of old h) one in
        let three : changed (mark_change_of old) new n (changed (content_change_of old) new n (changed (create_change old) new n ((rest_of old new).held n)))
        ≡ mark_change_of old h (content_change_of old h (create_change old h x0)) =
        changed_one (mark_change_of old) new r.distinct_new n h (changed (content_change_of old) new n (changed (create_change old) new n ((rest_of old new).held n))) e
        ∙ ap (mark_change_of old h) two' in
        let P : ℕ → Type 0 = λ m. mark_change (was_hidden (host_numbered old m)) h.hidden
        (option_map (with_body (content_change (old_content (host_numbered old m) h) h.content))
        (if has_host old m then x0 else new_host (body_of (bare h.content)) x0)) ≡ Some (held_of h) in
        three ∙ subst P (sym found.1) (becomes_held h (host_numbered old n) (subst (λ m. AreAlike (old_content (host_numbered old m) h) h.content) found.1
        (each_found (λ h. AreAlike (old_content (host_numbered old h.number) h) h.content) new r.kinds n h e)) (has_host old n) (none_among old n) (λ g k. (found_among old n g k).0))
        ∙ rw e refl

    whole : five ≡ forest_of new
    whole = same_forest five (forest_of new)
        (λ n. ap (λ x. changed (mark_change_of old) new n (changed (content_change_of old) new n (x n))) settled.2 ∙ last n (host_numbered new n) refl)
        (λ n. ap (λ c. c n) settled.3)
