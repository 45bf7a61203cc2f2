-- A tree against itself, if it was visible, destroys and creates nothing.
use Rattle.std.specs.Prelude.{◌≡◌, ℕ, Bool, true, false, List, [], ◌∷◌, ℤ, Option, Some, None, cond, filter, option_and_then, refl}
use Rattle.std.specs.List.{zip}
use Rattle.std.specs.Ordering.{int_eq}
use Rattle.std.specs.Cmp.Lexicographic.{pointwise}
use Rattle.std.proofs.Common.{sym, subst}
use Rattle.std.proofs.lemmas.Bool.Decides.{Decides-int_eq}
use Rattle.rx_susp.specs.declared.boundary.BoundaryState.TheVariants.{Hidden, Shown}
use Rattle.rx_elem.specs.declared.effect.EffectRecord.{EffectRecord}
use Rattle.rx_elem.specs.Trees.{Mark, of_instance, of_host, of_boundary, of_catcher, plain, Node, node, Forest, none, vacant, child, elements_in, mark_of, effects_in, instance_in, is_hidden, is_shown}
use Rattle.rx_elem.specs.Compare.{Above, Change, AllCompared, Compared, compare, compare_in, above_children, above_fallback, pasts, gone_below}
use Rattle.rx_effect.specs.declared.log.LogLine.{LogLine}
use Rattle.rx_effect.specs.EffectLog.{Phase, layout, passive, is_live, lines_at, destroyed, destroyed_all, destroyed_by_hiding, created, created_all, own_destroyed, own_created, differs}
use Rattle.rx_pruned.specs.Pruned.{was}
use Rattle.prune_laws.specs.Present.{HasNoNull, AllHaveNoNull}
use Rattle.prune_laws.proofs.SelfPasts.{itself, unmoved, pasts_unmoved, none_gone}

-- Own effects

ints_self : (xs : List ℤ) → pointwise int_eq xs xs ≡ true
ints_self [] = refl
ints_self (x ∷ xs) =
    let first : int_eq x x ≡ true = (Decides-int_eq x x).1 refl in rw (first, ints_self xs) refl

none_differ : (es : List EffectRecord) → filter differs (zip es es) ≡ []
none_differ [] = refl
none_differ (e ∷ es) = rw (ints_self e.values, none_differ es) refl

pub no_lines : (phase : Phase) (made : Bool) (m : Mark) → lines_at phase made m [] ≡ []
no_lines phase made m = go (option_and_then (λ i. i.number) (instance_in m)) refl
  where
    go : (n : Option ℕ) → option_and_then (λ i. i.number) (instance_in m) ≡ n → lines_at phase made m [] ≡ []
    go None e = rw e refl
    go (Some n) e = rw e refl

pub nothing_either : (b : Bool) → cond b (let r : List LogLine = [] in r) [] ≡ []
nothing_either true = refl
nothing_either false = refl

own_destroys_nothing : (phase : Phase) (a : Above) (n : Node) → own_destroyed phase (itself a n) ≡ []
own_destroys_nothing phase a n =
    rw (none_differ (effects_in (mark_of n)), no_lines phase false (mark_of n)) (nothing_either (is_live phase (itself a n).was_visible))

own_creates_nothing : (phase : Phase) (a : Above) → a.was_visible ≡ true → (n : Node) → own_created phase (itself a n) ≡ []
own_creates_nothing layout a h n = rw (h, none_differ (effects_in (mark_of n))) (no_lines layout true (mark_of n))
own_creates_nothing passive a h n = rw (none_differ (effects_in (mark_of n))) (no_lines passive true (mark_of n))

-- What is below

-- comparisons that log nothing
pub record AreSilent (cs : AllCompared) : Type 0 where
  pub destroys : (phase : Phase) → destroyed_all phase cs ≡ []
  pub creates : (phase : Phase) → created_all phase cs ≡ []

-- a comparison that logs nothing
pub record IsSilent (c : Compared) : Type 0 where
  pub destroys : (phase : Phase) → destroyed phase c ≡ []
  pub creates : (phase : Phase) → created phase c ≡ []

hidden_not_shown : (m : Mark) → is_hidden m ≡ true → is_shown m ≡ false
hidden_not_shown (of_instance i) h = refl
hidden_not_shown (of_host n) h = refl
hidden_not_shown (of_boundary Shown) h = absurd (cc h)
hidden_not_shown (of_boundary (Hidden waits)) h = refl
hidden_not_shown (of_catcher z) h = absurd (cc h)
hidden_not_shown plain h = refl

hides_nothing : (phase : Phase) (visible : Bool) (n : Node) → is_hidden (mark_of n) ≡ true → destroyed_by_hiding phase visible (Some n) ≡ []
hides_nothing passive visible n h = refl
hides_nothing layout visible n h = rw (hidden_not_shown (mark_of n) h) refl

still_visible : (a : Above) (n : Node) → a.was_visible ≡ true → is_hidden (mark_of n) ≡ false → (above_children (itself a n)).was_visible ≡ true
still_visible a n h k = rw (h, k) refl

was_seen : (a : Above) (n : Node) → a.was_visible ≡ true → (above_fallback (itself a n)).was_visible ≡ true
was_seen a n h = rw h refl

no_gone : (a : Above) (n : Node) → gone_below (itself a n) ≡ []
no_gone a (node e m ns fs) =
    let c : Change = itself a (node e m ns fs) in rw (none_gone (above_children c).was_visible ns, none_gone c.was_visible fs) refl

-- children log nothing against their own elements if none of them does that was itself
against_own : (a : Above) (ns : Forest) → AllHaveNoNull ns → AreSilent (compare_in a (unmoved ns) ns) → AreSilent (compare_in a (pasts ns (elements_in ns)) ns)
against_own a ns present silent = subst (λ ps. AreSilent (compare_in a ps ns)) (sym (pasts_unmoved ns present)) silent

mutual
  -- A node that was itself and stayed logs nothing.
  pub self_silent : (a : Above) → a.was_visible ≡ true → (n : Node) → HasNoNull n → IsSilent (compare a (was n false) n)
  self_silent a h (node e m ns fs) present =
      let c : Change = itself a (node e m ns fs) in
      parts (is_hidden m) refl (λ seen. against_own (above_children c) ns present.1 (all_self_silent (above_children c) seen ns present.1))
      (against_own (above_fallback c) fs present.2 (all_self_silent (above_fallback c) (was_seen a (node e m ns fs) h) fs present.2))
    where
      parts : (b : Bool) → is_hidden m ≡ b
          → ((above_children (itself a (node e m ns fs))).was_visible ≡ true → AreSilent (compare_in (above_children (itself a (node e m ns fs))) (pasts ns (elements_in ns)) ns))
          → AreSilent (compare_in (above_fallback (itself a (node e m ns fs))) (pasts fs (elements_in fs)) fs)
          → IsSilent (compare a (was (node e m ns fs) false) (node e m ns fs))
      parts true hidden kids fallback =
          let n : Node = node e m ns fs in record {
            destroys = λ phase. rw (no_gone a n, hidden, hides_nothing phase (itself a n).was_visible n hidden, fallback.destroys phase, own_destroys_nothing phase a n) refl;
            creates = λ phase. rw (hidden, fallback.creates phase, own_creates_nothing phase a h n) refl;
          }
      parts false shown kids fallback =
          let n : Node = node e m ns fs in
          let below = kids (still_visible a n h shown) in record {
            destroys = λ phase. rw (no_gone a n, below.destroys phase, shown, fallback.destroys phase, own_destroys_nothing phase a n) refl;
            creates = λ phase. rw (below.creates phase, shown, fallback.creates phase, own_creates_nothing phase a h n) refl;
          }

  -- Children that were themselves and stayed log nothing.
  pub all_self_silent : (a : Above) → a.was_visible ≡ true → (ns : Forest) → AllHaveNoNull ns → AreSilent (compare_in a (unmoved ns) ns)
  all_self_silent a h none present = record { destroys = λ phase. refl; creates = λ phase. refl }
  all_self_silent a h (vacant ns) present =
      let later = all_self_silent a h ns present in record { destroys = later.destroys; creates = later.creates }
  all_self_silent a h (child n ns) present =
      let first = self_silent a h n present.0 in
      let later = all_self_silent a h ns present.1 in record {
        destroys = λ phase. rw (first.destroys phase, later.destroys phase) refl;
        creates = λ phase. rw (first.creates phase, later.creates phase) refl;
      }
