-- An instance that stays and has no effects says nothing: its comparison is alike to that of its children.
use Rattle.std.specs.Prelude.{◌≡◌, ℕ, Bool, true, false, List, [], Option, Some, None, cond, not, ◌++◌, option_and_then, refl}
use Rattle.std.proofs.Common.{sym, subst, ◌∙◌}
use Rattle.std.proofs.lemmas.List.{append-nil}
use Rattle.rx_elem.specs.Elements.{Element}
use Rattle.rx_elem.specs.Trees.{Mark, of_instance, of_host, of_boundary, of_catcher, plain, node, Forest, none, boundary_in, catch_in, host_number, instance_in, is_hidden, is_host}
use Rattle.rx_elem.specs.Compare.{Above, AllCompared, Change, Compared, above_children, change_of, changes_in, compare, compare_in, comparison, no_comparisons}
use Rattle.rx_effect.specs.EffectLog.{Phase, created, created_all, destroyed, destroyed_all, is_live, own_created, own_destroyed}
use Rattle.rx_forest.specs.HostOps.{placed_in}
use Rattle.rx_meaning.specs.Outcome.{caught_anew, hides_shown}
use Rattle.rx_compare.specs.InPlace.{AreInPlace, stayed}
use Rattle.rx_compare.proofs.InPlace.{no_nodes_gone, pasts_in_place}
use Rattle.rx_pruned.specs.Pruned.{StaysBare, was}
use Rattle.prune_laws.proofs.Alike.{AreAlike, alike_back, alike_both}
use Rattle.prune_laws.proofs.Arounds.{above_in, all_alike_anywhere}
use Rattle.prune_laws.proofs.SelfLogs.{no_lines, nothing_either}

-- a mark is one of neither a host nor a boundary of any kind
pub record IsOnlyInstance (m : Mark) : Type 0 where
  pub host : is_host m ≡ false
  pub unnumbered : host_number m ≡ None
  pub boundary : boundary_in m ≡ None
  pub catcher : catch_in m ≡ None

-- what has the number of an instance is one alone
pub only_instance : (m : Mark) (n : ℕ) → option_and_then (λ i. i.number) (instance_in m) ≡ Some n → IsOnlyInstance m
only_instance (of_instance i) n h = record { host = refl; unnumbered = refl; boundary = refl; catcher = refl }
only_instance (of_host k) n h = absurd (cc h)
only_instance (of_boundary b) n h = absurd (cc h)
only_instance (of_catcher c) n h = absurd (cc h)
only_instance plain n h = absurd (cc h)

pub not_hidden : (m : Mark) → IsOnlyInstance m → is_hidden m ≡ false
not_hidden m only = rw only.boundary refl

nothing_placed : (b : Bool) → cond b (let r : Option ℕ = None in r) None ≡ None
nothing_placed true = refl
nothing_placed false = refl

twice_nothing : {X : Type 0} (xs : List X) → (xs ++ []) ++ [] ≡ xs
twice_nothing xs = append-nil (xs ++ []) ∙ append-nil xs

module _ (a : Above) (e f : Element) (m w : Mark) (os ns : Forest) (bare : StaysBare m w) where
  -- the change of the instance itself
  abbrev pub bare_change : Change
  bare_change = change_of a (was (node e m os none) false) (node f w ns none)

  -- it was an instance, and is one
  was_only : IsOnlyInstance m
  was_only = only_instance m bare.number bare.was

  is_only : IsOnlyInstance w
  is_only = only_instance w bare.number bare.is

  -- it destroys nothing of its own, creates nothing, places no host, catches nothing and hides nothing anew
  bare_destroys : (phase : Phase) → own_destroyed phase bare_change ≡ []
  bare_destroys phase = rw (bare.had_none, no_lines phase false w) (nothing_either (is_live phase bare_change.was_visible))

  bare_creates : (phase : Phase) → own_created phase bare_change ≡ []
  bare_creates phase = rw (bare.had_none, bare.has_none, no_lines phase true w) (nothing_either (not (is_live phase bare_change.was_visible)))

  bare_places : placed_in bare_change ≡ None
  bare_places = rw is_only.unnumbered (nothing_placed bare_change.displaced)

  bare_catches : caught_anew bare_change ≡ None
  bare_catches = rw (was_only.catcher, is_only.catcher) refl

  bare_hides : hides_shown bare_change ≡ false
  bare_hides = rw is_only.boundary refl

  -- if its children stand where they stood, none is gone
  module _ (stands : AreInPlace os ns) where
    -- the comparisons of its children, and its own
    abbrev kids : AllCompared
    kids = compare_in (above_children bare_change) (stayed os) ns

    abbrev its_compared : Compared
    its_compared = compare a (was (node e m os none) false) (node f w ns none)

    abbrev its_own : AllCompared
    its_own = comparison its_compared no_comparisons

    -- its comparison is alike to those of its children
    pub bare_alike : AreAlike kids its_own
    bare_alike =
        record {
          destroys = λ phase.
              let here : destroyed phase its_compared ≡ destroyed_all phase kids =
              rw (no_nodes_gone os ns stands, pasts_in_place os ns stands, not_hidden w is_only, bare_destroys phase) (twice_nothing (destroyed_all phase kids)) in
              sym (append-nil (destroyed phase its_compared) ∙ here);
          creates = λ phase.
              let here : created phase its_compared ≡ created_all phase kids =
              rw (pasts_in_place os ns stands, not_hidden w is_only, bare_creates phase) (twice_nothing (created_all phase kids)) in
              sym (append-nil (created phase its_compared) ∙ here);
          places = rw (pasts_in_place os ns stands, twice_nothing (changes_in kids), bare_places) refl;
          catches = rw (pasts_in_place os ns stands, twice_nothing (changes_in kids), bare_catches) refl;
          hides = rw (pasts_in_place os ns stands, twice_nothing (changes_in kids), bare_hides) refl;
        }

    -- what its children are compared below is what it is compared below, but for what surrounds it
    same_above : a.was_visible ≡ true → a.displaced ≡ false → above_children bare_change ≡ above_in (above_children bare_change).around a
    same_above seen still =
        let visible : (above_children bare_change).was_visible ≡ a.was_visible = rw (seen, not_hidden m was_only) refl in
        let displaced : (above_children bare_change).displaced ≡ a.displaced = rw (is_only.host, still) refl in
        λ i. record { around = (above_children bare_change).around; was_visible = visible i; displaced = displaced i }

    -- below what was visible and is not displaced its children are compared as if they stood in its place
    pub bare_says_nothing : a.was_visible ≡ true → a.displaced ≡ false
        → AreAlike (compare_in a (stayed os) ns) (comparison (compare a (was (node e m os none) false) (node f w ns none)) no_comparisons)
    bare_says_nothing seen still =
        let surrounded : AreAlike (compare_in (above_in (above_children bare_change).around a) (stayed os) ns) (compare_in a (stayed os) ns) =
        all_alike_anywhere (above_children bare_change).around a (stayed os) ns in
        let in_place : AreAlike (compare_in a (stayed os) ns) kids =
        subst (λ b. AreAlike (compare_in a (stayed os) ns) (compare_in b (stayed os) ns)) (sym (same_above seen still)) (alike_back surrounded) in
        alike_both in_place bare_alike
