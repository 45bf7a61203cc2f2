-- Each operation of a commit can be made in its turn.
use Rattle.std.specs.Prelude.{◌≡◌, ℕ, Bool, true, false, ◌||◌, List, [], ◌∷◌, ◌++◌, Option, Some, None, filter, is_some, map, nat_eq, option_map, refl, if◌then◌else◌}
use Rattle.std.specs.List.{AllByRecursion, list_all}
use Rattle.std.specs.Option.{option_map_or}
use Rattle.std.proofs.Common.{sym, ap, subst, inl, inr, ◌∙◌}
use Rattle.std.proofs.lemmas.Bool.Decides.{Decides-eqb}
use Rattle.rx_elem.specs.Trees.{Node}
use Rattle.rx_elem.specs.Spots.{at_root}
use Rattle.rx_forest.specs.declared.op.HostOp.TheVariants as op
use Rattle.rx_forest.specs.Hosts.{Host, Content, hosts, host_numbered, has_host}
use Rattle.rx_forest.specs.Hosts as hosts_of
use Rattle.rx_forest.specs.HostOps.{bare, host_ops, removals, creations, placements, contents, hidings, ops_between, hiding_ops}
use Rattle.rx_forest.specs.Forests.{HostForest, Held, body_of, held_of, forest_of, children_in, is_tag, is_held, holds_tag, can_be_parent, Replays, CanBeReplayed}
use Rattle.host_laws.specs.Related.{ParentsFirst, AreAlike, AreRelated, has_gone, rest_of, stands, old_content, is_element, can_hold, ParentsHold}
use Rattle.host_laws.specs.Commits.{IsCommit, TextsAreLeaves, placed_by}
use Rattle.host_laws.proofs.Held.{changed, changes_all, replays-append}
use Rattle.host_laws.proofs.Contents.{contents_replay}
use Rattle.host_laws.proofs.Removals.{notes, Notes, notes_of, tops, tops_selves, tops_apart, cut_nothing, removals_are, removals_replay, missing, each_weaker}
use Rattle.host_laws.proofs.Placements.{placements_settle}
use Rattle.host_laws.proofs.Between.{changed_one, creation_if, creations_are, create_change, creation_replay, content_ops_of, content_change_of, was_hidden, mark_change_of, mark_replay, each_found, found_among, none_among, all_among}
use Rattle.host_laws.proofs.Owned.{IsOwn, each_own}
use Rattle.host_laws.proofs.Making.{can_append, removals_made, changes_made, IsNew, creation_made, IsHeldAs, contents_made, marks_made}
use Rattle.host_laws.proofs.Standing.{IsAbove, follow, IsReady, placements_made}
use Rattle.host_laws.proofs.Replay.{related}
use Rattle.host_laws.proofs.Parents.{good_at}
use Rattle.host_laws.proofs.Leaves.{parents_hold_at}

body_kind : (c : Content) → is_tag (body_of c) ≡ is_element c
body_kind (hosts_of.tag name attrs) = refl
body_kind (hosts_of.letters t) = refl

alike_kind : (c d : Content) → AreAlike c d → is_element c ≡ is_element d
alike_kind (hosts_of.tag m old) (hosts_of.tag name new) h = refl
alike_kind (hosts_of.letters s) (hosts_of.letters t) h = refl
alike_kind (hosts_of.tag m old) (hosts_of.letters t) h = absurd h
alike_kind (hosts_of.letters s) (hosts_of.tag name new) h = absurd h

module _ (old new : List Host) (placed : List ℕ) (r : AreRelated old new placed) (first : ParentsFirst new) (hold : ParentsHold new) (no_zero : has_host new 0 ≡ false) where
  -- the forest after the removals and the creations
  abbrev two : HostForest
  two = record { held = λ n. changed (create_change old) new n ((rest_of old new).held n); children = (rest_of old new).children }

  settled : (g : HostForest) × Replays two (placements placed new) g × (g.held ≡ two.held) × (g.children ≡ children_in new)
  settled = placements_settle placed new two r.distinct_new r.order (λ q. known q (has_gone old new q))
    where
      known : (q : ℕ) (b : Bool) → list_all (has_host new) (if b then [] else filter (has_host new) (children_in old q)) ≡ true
      known q true = refl
      known q false = all_among (has_host new) (children_in old q)

  -- the forest after the changes of contents
  abbrev four : HostForest
  four = record { held = λ n. changed (content_change_of old) new n ((settled.0).held n); children = (settled.0).children }

  owns : AllByRecursion (IsOwn new) new
  owns = each_own new r.distinct_new

  -- what is said of each new host, with its content beside the old one
  each_host : (P : Host → Type 0) → ((h : Host) → IsOwn new h → AreAlike (old_content (host_numbered old h.number) h) h.content → P h) → AllByRecursion P new
  each_host P f = go new owns r.kinds
    where
      go : (hs : List Host) → AllByRecursion (IsOwn new) hs → AllByRecursion (λ h. AreAlike (old_content (host_numbered old h.number) h) h.content) hs → AllByRecursion P hs
      go [] a b = tt
      go (h ∷ hs) a b = (f h a.0 b.0, go hs a.1 b.1)

  -- what is left of a new host by the removals
  rest_held : (h : Host) → IsOwn new h → (rest_of old new).held h.number ≡ option_map held_of (host_numbered old h.number)
  rest_held h own = rw (found_among new h.number h own).0 refl

  -- each new host is held after the creations, as the old one or as it was made
  two_held : (h : Host) → IsOwn new h → IsHeldAs (old_content (host_numbered old h.number) h) (two.held h.number)
  two_held h own =
      let start = changed_one (create_change old) new r.distinct_new h.number h ((rest_of old new).held h.number) own ∙ ap (create_change old h) (rest_held h own) in
      let y = go (host_numbered old h.number) refl in
      (y.0, start ∙ y.1, y.2)
    where
      go : (o : Option Host) → host_numbered old h.number ≡ o → IsHeldAs (old_content o h) (create_change old h (option_map held_of o))
      go None e =
          let out : has_host old h.number ≡ false = none_among old h.number e in
          (record { body = body_of (bare h.content); hidden = false }, rw out refl, body_kind (bare h.content))
      go (Some g) e =
          let was : has_host old h.number ≡ true = (found_among old h.number g e).0 in
          (held_of g, rw was refl, body_kind g.content)

  -- Removals

  removals_can : CanBeReplayed (forest_of old) (removals old new)
  removals_can =
      subst (λ ops. CanBeReplayed (forest_of old) ops) (sym (removals_are old new old))
      (subst (λ f. CanBeReplayed f (map op.Remove (tops old new old))) (cut_nothing note old)
      (removals_made old new note n r.parents_first r.gone_below [] (tops old new old) (λ m k. absurd (cc)) (tops_selves old new note old n.selves)
      (λ m k l. absurd (cc)) (tops_apart old new old r.distinct_old)))
    where
      note : ℕ → Option ℕ
      note = notes old new (λ n. None) old

      n : Notes old new (notes old new (λ n. None) old)
      n = notes_of old new r.distinct_old r.parents_first

  -- Creations

  not_zero : (h : Host) → IsOwn new h → nat_eq h.number 0 ≡ false
  not_zero h own = go (nat_eq h.number 0) refl
    where
      go : (b : Bool) → nat_eq h.number 0 ≡ b → b ≡ false
      go true e =
          let same : h.number ≡ 0 = (Decides-eqb h.number 0).0 e in
          let there : has_host new h.number ≡ true = (found_among new h.number h own).0 in
          absurd (cc (ap (has_host new) same))
      go false e = refl

  creations_can : CanBeReplayed (rest_of old new) (creations old new)
  creations_can =
      rw (creations_are old new)
      (changes_made (creation_if old) (create_change old) (IsNew old) (creation_replay old) (creation_made old) new r.distinct_new (rest_of old new)
      (each_host (λ h. IsNew old h ((rest_of old new).held h.number)) (λ h own alike. (not_zero h own, λ out. rest_held h own ∙ ap (option_map held_of) (missing old h.number out)))))

  -- Placements

  above : (h : Host) → can_hold new h.parent ≡ true → IsAbove new h.parent
  above h k = go (nat_eq h.parent 0) refl (host_numbered new h.parent) refl k
    where
      go : (b : Bool) → nat_eq h.parent 0 ≡ b → (o : Option Host) → host_numbered new h.parent ≡ o → (b || option_map_or (λ h. is_element h.content) o false) ≡ true → IsAbove new h.parent
      go true e o f k = inl ((Decides-eqb h.parent 0).0 e)
      go false e None f k = absurd (cc)
      go false e (Some g) f k = inr (found_among new h.parent g f).0

  held_tag : (n : ℕ) (g : Host) → host_numbered new n ≡ Some g → is_element g.content ≡ true → AreAlike (old_content (host_numbered old g.number) g) g.content → holds_tag two n ≡ true
  held_tag n g e element alike =
      let number : g.number ≡ n = (found_among new n g e).1 in
      let own : IsOwn new g = ap (host_numbered new) number ∙ e in
      let y = two_held g own in
      let at : two.held n ≡ Some y.0 = ap two.held (sym number) ∙ y.1 in
      let kind : is_tag (y.0).body ≡ true = y.2 ∙ alike_kind (old_content (host_numbered old g.number) g) g.content alike ∙ element in
      rw at kind

  parent_can : (p : ℕ) → can_hold new p ≡ true → can_be_parent two p ≡ true
  parent_can p k = go (nat_eq p 0) (host_numbered new p) refl k
    where
      go : (b : Bool) (o : Option Host) → host_numbered new p ≡ o → (b || option_map_or (λ h. is_element h.content) o false) ≡ true → (b || holds_tag two p) ≡ true
      go true o e k = refl
      go false None e k = absurd (cc)
      go false (Some g) e k = held_tag p g e k (each_found (λ h. AreAlike (old_content (host_numbered old h.number) h) h.content) new r.kinds p g e)

  ready : AllByRecursion (IsReady two) new
  ready = go new owns hold
    where
      go : (hs : List Host) → AllByRecursion (IsOwn new) hs → AllByRecursion (λ h. can_hold new h.parent ≡ true) hs → AllByRecursion (IsReady two) hs
      go [] a b = tt
      go (h ∷ hs) a b = ((ap is_some (two_held h a.0).1, parent_can h.parent b.0), go hs a.1 b.1)

  placements_can : CanBeReplayed two (placements placed new)
  placements_can =
      placements_made placed (has_host new) (stands placed) [] new two r.distinct_new (λ n k. k) no_zero tt
      (follow [] new first (each_weaker {P = λ h. can_hold new h.parent ≡ true} {Q = λ h. IsAbove new h.parent} above new hold)) ready (record {
        standing = λ n k. k;
        waiting = λ n k l. l;
        apart = λ n k l. absurd (cc);
        lists = r.order;
        known = λ q. known q (has_gone old new q);
      })
    where
      known : (q : ℕ) (b : Bool) → list_all (has_host new) (if b then [] else filter (has_host new) (children_in old q)) ≡ true
      known q true = refl
      known q false = all_among (has_host new) (children_in old q)

  -- Contents

  abbrev HeldAlike : Host → Option Held → Type 0
  HeldAlike h x = AreAlike (old_content (host_numbered old h.number) h) h.content × IsHeldAs (old_content (host_numbered old h.number) h) x

  settled_held : (n : ℕ) → (settled.0).held n ≡ two.held n
  settled_held n = ap (λ held. held n) settled.2

  contents_can : CanBeReplayed settled.0 (contents old new)
  contents_can =
      changes_made (content_ops_of old) (content_change_of old) HeldAlike
      (λ h f. contents_replay h.number (old_content (host_numbered old h.number) h) h.content f)
      (λ h f k. contents_made h.number (old_content (host_numbered old h.number) h) h.content f k.0 k.1) new r.distinct_new settled.0
      (each_host (λ h. HeldAlike h ((settled.0).held h.number)) (λ h own alike. (alike, subst (IsHeldAs (old_content (host_numbered old h.number) h)) (sym (settled_held h.number)) (two_held h own))))

  -- Marks

  four_held : (h : Host) → IsOwn new h → is_held four h.number ≡ true
  four_held h own =
      let y = two_held h own in
      ap is_some (changed_one (content_change_of old) new r.distinct_new h.number h ((settled.0).held h.number) own ∙ ap (content_change_of old h) (settled_held h.number ∙ y.1))

  hidings_can : CanBeReplayed four (hidings old new)
  hidings_can =
      changes_made (λ h. hiding_ops h.number (was_hidden (host_numbered old h.number)) h.hidden) (mark_change_of old) (λ h x. is_some x ≡ true)
      (λ h f. mark_replay (was_hidden (host_numbered old h.number)) h.hidden h.number f)
      (λ h f k. marks_made (was_hidden (host_numbered old h.number)) h.hidden h.number f k) new r.distinct_new four
      (each_host (λ h. is_some (four.held h.number) ≡ true) (λ h own alike. four_held h own))

  -- each operation between two related lists can be made in its turn
  pub operations_made : CanBeReplayed (forest_of old) (ops_between old new placed)
  operations_made =
      can_append (removals old new ++ creations old new ++ placements placed new ++ contents old new) (hidings old new) (forest_of old) four all_four can_four hidings_can
    where
      to_rest : Replays (forest_of old) (removals old new) (rest_of old new)
      to_rest = removals_replay old new r.distinct_old r.parents_first r.gone_below

      to_two : Replays (rest_of old new) (creations old new) two
      to_two = rw (creations_are old new) (changes_all (creation_if old) (create_change old) (creation_replay old) new (rest_of old new))

      to_four : Replays settled.0 (contents old new) four
      to_four = changes_all (content_ops_of old) (content_change_of old) (λ h f. contents_replay h.number (old_content (host_numbered old h.number) h) h.content f) new settled.0

      all_two : Replays (forest_of old) (removals old new ++ creations old new) two
      all_two = replays-append (removals old new) (creations old new) (forest_of old) (rest_of old new) two to_rest to_two

      can_two : CanBeReplayed (forest_of old) (removals old new ++ creations old new)
      can_two = can_append (removals old new) (creations old new) (forest_of old) (rest_of old new) to_rest removals_can creations_can

      all_three : Replays (forest_of old) (removals old new ++ creations old new ++ placements placed new) settled.0
      all_three = replays-append (removals old new ++ creations old new) (placements placed new) (forest_of old) two settled.0 all_two settled.1

      can_three : CanBeReplayed (forest_of old) (removals old new ++ creations old new ++ placements placed new)
      can_three = can_append (removals old new ++ creations old new) (placements placed new) (forest_of old) two all_two can_two placements_can

      all_four : Replays (forest_of old) (removals old new ++ creations old new ++ placements placed new ++ contents old new) four
      all_four = replays-append (removals old new ++ creations old new ++ placements placed new) (contents old new) (forest_of old) settled.0 four all_three to_four

      can_four : CanBeReplayed (forest_of old) (removals old new ++ creations old new ++ placements placed new ++ contents old new)
      can_four = can_append (removals old new ++ creations old new ++ placements placed new) (contents old new) (forest_of old) settled.0 all_three can_three contents_can

-- each operation of a commit can be made in its turn, if no text has children
pub commit_made : (old : Option Node) (new : Node) → IsCommit old new → TextsAreLeaves new → CanBeReplayed (forest_of (hosts old)) (host_ops old new)
unfolding host_ops
commit_made old new c leaves =
    operations_made (hosts old) (hosts (Some new)) (placed_by old new) (related old new c)
    (good_at at_root new c.new_sound.numbered c.new_sound.distinct c.new_sound.above).0
    (parents_hold_at (hosts (Some new)) at_root new refl c.new_sound.numbered leaves (each_own (hosts (Some new)) c.new_sound.distinct)) c.new_sound.above
