-- A flag shows 0 exactly if its started transitions are settled.
use Rattle.std.specs.Prelude.{◌≡◌, ◌⊎◌, ◌↔◌, ℕ, Bool, true, false, cond, ◌||◌, List, [], ◌∷◌, ℤ, pos, Option, filter, fold, length, refl}
use Rattle.std.specs.List.{AllByRecursion}
use Rattle.std.proofs.Common.{inl, inr, subst, sym, ap, ◌∙◌}
use Rattle.rx_lane.specs.declared.lane.Lane.{Lane}
use Rattle.rx_lane.specs.Lanes.{Lanes}
use Rattle.rx_elem.specs.Trees.{Node}
use Rattle.rx_elem.specs.Spots.{visible_instances}
use Rattle.rx_elem.proofs.Deciding.{and_passes, both_hold}
use Rattle.rx_queue.specs.declared.update.Op.TheVariants as op
use Rattle.rx_queue.specs.History.{Answers, applied, stands_done, stands_owed}
use Rattle.rx_queue.specs.Journal.{Target, Posted, belongs_to, committed_value, same_target}
use Rattle.rx_sched.specs.Links.{Links}
use Rattle.rx_meaning.specs.Again.{NoneOwed}
use Rattle.rx_model.specs.State.{Progress}
use Rattle.transition_laws.specs.Transitions.{AllSettled, IsStarted, Transition, are_settled, is_accounted, is_gone, is_settled, marked_in, transitions_in, updates_in}
use Rattle.transition_laws.specs.Flags.{EachToLater}
use Rattle.transition_laws.proofs.Journals.{AreStarts, AreStartsFrom, IsSetting, each_update, past_other, past_start}
use Rattle.transition_laws.proofs.Lists.{all_and, all_more, passed_by_all}
use Rattle.transition_laws.proofs.Facts.{FlagFacts, OneKept, TwoKept, Yet, settled_accounted, target_is}

-- The value, by transitions

-- what a transition makes of the value of its flag
abbrev value_after : ℤ → Transition → ℤ
value_after x e = cond (stands_done e.unsetting.standing) (pos 0) (cond (stands_done e.setting.standing) (pos 1) x)

-- the value of a flag after transitions
abbrev shown : ℤ → List Transition → ℤ
shown x [] = x
shown x (e ∷ es) = shown (value_after x e) es

abbrev done : Posted → Bool
done u = stands_done u.standing

abbrev mine : Target → Posted → Bool
mine flag u = same_target flag u.target

-- the done updates on top of a value
abbrev folded : Answers → ℤ → List Posted → ℤ
folded answers x us = fold (λ now u. applied answers now u.update.op) x (filter done us)

pair_folded : (answers : Answers) (x : ℤ) (u v : Posted) (us : List Posted) → u.update.op ≡ op.Set (pos 1) → v.update.op ≡ op.Set (pos 0)
    → folded answers x (u ∷ v ∷ us) ≡ folded answers (cond (done v) (pos 0) (cond (done u) (pos 1) x)) us
pair_folded answers x u v us sets unsets = go (done u) (done v)
  where
    one : (y : ℤ) → applied answers y u.update.op ≡ pos 1
    one y = ap (applied answers y) sets

    two : (y : ℤ) → applied answers y v.update.op ≡ pos 0
    two y = ap (applied answers y) unsets

    on : ℤ → List Posted → ℤ
    on y xs = fold (λ now w. applied answers now w.update.op) y xs

    go : (a b : Bool) → fold (λ now w. applied answers now w.update.op) x (cond a (u ∷ cond b (v ∷ filter done us) (filter done us)) (cond b (v ∷ filter done us) (filter done us)))
        ≡ fold (λ now w. applied answers now w.update.op) (cond b (pos 0) (cond a (pos 1) x)) (filter done us)
    go true true = ap (λ (y : ℤ). fold (λ now w. applied answers now w.update.op) y (filter done us)) (two (applied answers x u.update.op))
    go true false = ap (λ (y : ℤ). fold (λ now w. applied answers now w.update.op) y (filter done us)) (one x)
    go false true = ap (λ (y : ℤ). fold (λ now w. applied answers now w.update.op) y (filter done us)) (two x)
    go false false = refl

mutual
  folded_is : (answers : Answers) (flag : Target) (us : List Posted) (x : ℤ) → AreStarts flag us → folded answers x (filter (mine flag) us) ≡ shown x (transitions_in flag us)
  folded_is answers flag [] x h = refl
  folded_is answers flag (u ∷ us) x (inl h) =
      ap (λ (b : Bool). folded answers x (cond b (u ∷ filter (mine flag) us) (filter (mine flag) us))) h.0 ∙ (folded_is answers flag us x h.1 ∙ sym (ap (shown x) (past_other flag u us h.0)))
  folded_is answers flag (u ∷ us) x (inr h) = folded_start answers flag u us x h.0 h.1

  folded_start : (answers : Answers) (flag : Target) (u : Posted) (us : List Posted) (x : ℤ) → IsSetting flag u → AreStartsFrom flag true us
      → folded answers x (filter (mine flag) (u ∷ us)) ≡ shown x (transitions_in flag (u ∷ us))
  folded_start answers flag u [] x setting h = absurd h
  folded_start answers flag u (v ∷ us) x setting h =
      ap (λ (b : Bool). folded answers x (cond b (u ∷ filter (mine flag) (v ∷ us)) (filter (mine flag) (v ∷ us)))) setting.own
      ∙ (ap (λ (b : Bool). folded answers x (u ∷ cond b (v ∷ filter (mine flag) us) (filter (mine flag) us))) h.0.own
      ∙ (pair_folded answers x u v (filter (mine flag) us) setting.sets h.0.sets
      ∙ (folded_is answers flag us (cond (done v) (pos 0) (cond (done u) (pos 1) x)) h.1 ∙ sym (ap (shown x) (past_start flag u v us setting h.0)))))

-- the committed value of a flag is what its transitions show
pub value_is : (answers : Answers) (flag : Target) (us : List Posted) (x : ℤ) → AreStarts flag us → committed_value answers x (filter (λ u. same_target flag u.target) us) ≡ shown x (transitions_in flag us)
unfolding committed_value
value_is answers flag us x h = folded_is answers flag us x h

-- What it shows

-- as long as no later transition unsets the flag, it stays set
stays_set : (es : List Transition) → AllByRecursion (λ f. is_accounted f.unsetting ≡ false) es → shown (pos 1) es ≡ pos 1
stays_set [] h = refl
stays_set (e ∷ es) h = go (done e.unsetting) (stands_owed e.unsetting.standing) (done e.setting) refl h.0 (stays_set es h.1)
  where
    go : (a o b : Bool) → done e.unsetting ≡ a → (a || o) ≡ false → shown (pos 1) es ≡ pos 1 → shown (cond a (pos 0) (cond b (pos 1) (pos 1))) es ≡ pos 1
    go true o b is n rest = absurd (cc n)
    go false o true is n rest = rest
    go false o false is n rest = rest

module _ (tree : Option Node) (flag : Target) (linked : Lanes) (links : Links) (progress : Option Progress) (on : Option Lane) (next : Lane) (count : ℕ) (seen : is_gone tree flag ≡ false) where
  abbrev IsSettledIfStarted : Transition → Type 0
  IsSettledIfStarted e = IsStarted e → AllSettled tree e

  -- what is known of a transition: what is kept, and it doesn't owe to unset its flag
  abbrev Known : Transition → Type 0
  Known e = OneKept tree flag linked progress on next count e × (stands_owed e.unsetting.standing ≡ false)

  clash : {b : Bool} → b ≡ true → b ≡ false → ⊥
  clash h k = cc (h, k)

  -- if it has yet to unset the flag, it isn't settled
  left : (e : Transition) → Known e → done e.unsetting ≡ false → are_settled tree e ≡ true → ⊥
  left e known none all =
      let unset = settled_accounted tree flag e.unsetting seen known.0.own (passed_by_all (is_settled tree) (marked_in e) all).0 in
      clash unset (go (done e.unsetting) (stands_owed e.unsetting.standing) none known.1)
    where
      go : (a b : Bool) → a ≡ false → b ≡ false → (a || b) ≡ false
      go true b h k = absurd (cc h)
      go false b h k = k

  -- if it has unset the flag and had set it, all of it is settled
  all_settled : (e : Transition) → Known e → done e.unsetting ≡ true → done e.setting ≡ true → AllSettled tree e
  all_settled e known unset set =
      both_hold (is_settled tree e.setting) (are_settled tree e)
      (or_first (is_accounted e.setting) (is_gone tree e.setting.target) (or_first (done e.setting) (stands_owed e.setting.standing) set))
      (known.0.last (or_first (done e.unsetting) (stands_owed e.unsetting.standing) unset))
    where
      or_first : (a b : Bool) → a ≡ true → (a || b) ≡ true
      or_first true b h = refl
      or_first false b h = absurd (cc h)

  pub shows : (es : List Transition) → AllByRecursion Known es → EachToLater (TwoKept tree links progress) es → (shown (pos 0) es ≡ pos 0) ↔ AllByRecursion IsSettledIfStarted es
  shows [] known order = ((λ h. tt), (λ h. refl))
  shows (e ∷ es) known order = go (done e.unsetting) refl (done e.setting) refl (shows es known.1 order.1)
    where
      later_wait : are_settled tree e ≡ false → AllByRecursion (λ f. is_accounted f.unsetting ≡ false) es
      later_wait is = all_more (TwoKept tree links progress e) (λ f. is_accounted f.unsetting ≡ false) (λ f k. pick f k.waits) es order.0
        where
          pick : (f : Transition) → (are_settled tree e ≡ true) ⊎ Yet links progress e f → is_accounted f.unsetting ≡ false
          pick f (inl s) = absurd (clash s is)
          pick f (inr y) = y.yet

      unsettled : done e.unsetting ≡ false → are_settled tree e ≡ false
      unsettled none = pick (are_settled tree e) refl
        where
          pick : (b : Bool) → are_settled tree e ≡ b → b ≡ false
          pick true is = absurd (left e known.0 none is)
          pick false is = refl

      one_is_zero : pos 1 ≡ pos 0 → ⊥
      one_is_zero h = cc h

      go : (a : Bool) → done e.unsetting ≡ a → (b : Bool) → done e.setting ≡ b → (shown (pos 0) es ≡ pos 0) ↔ AllByRecursion IsSettledIfStarted es
          → (shown (cond a (pos 0) (cond b (pos 1) (pos 0))) es ≡ pos 0) ↔ AllByRecursion IsSettledIfStarted (e ∷ es)
      go true unset b set rest = ((λ h. ((λ started. all_settled e known.0 unset started), rest.0 h)), (λ h. rest.1 h.1))
      go false none true set rest =
          let wait = stays_set es (later_wait (unsettled none)) in (
            (λ h. absurd (one_is_zero (sym wait ∙ h))),
            (λ h. absurd (clash (and_passes (is_settled tree e.setting) (are_settled tree e) (h.0 set)).1 (unsettled none))),
          )
      go false none false set rest = ((λ h. ((λ started. absurd (clash started set)), rest.0 h)), (λ h. rest.1 h.1))

-- no update of a visible flag is owed
none_owed_of : (visible : List ℕ) (us : List Posted) → NoneOwed visible us → AllByRecursion (λ u. belongs_to visible u.target ≡ true → stands_owed u.standing ≡ false) us
none_owed_of visible [] h = tt
none_owed_of visible (u ∷ us) h = (h.0, none_owed_of visible us h.1)

-- A flag of a visible instance has the value 0 exactly if its started transitions are settled, if it began with 0.
pub flag_shows : (tree : Option Node) (flag : Target) (linked : Lanes) (links : Links) (progress : Option Progress) (on : Option Lane) (next : Lane) (us : List Posted) (answers : Answers)
    → is_gone tree flag ≡ false → belongs_to (visible_instances tree) flag ≡ true → NoneOwed (visible_instances tree) us → FlagFacts tree flag linked links progress on next us
    → (committed_value answers (pos 0) (filter (λ u. same_target flag u.target) us) ≡ pos 0) ↔ AllByRecursion (λ e. IsStarted e → AllSettled tree e) (transitions_in flag us)
flag_shows tree flag linked links progress on next us answers seen visible owed h =
    let es = transitions_in flag us in
    let each = each_update (λ u. belongs_to (visible_instances tree) u.target ≡ true → stands_owed u.standing ≡ false) flag us (none_owed_of (visible_instances tree) us owed) in
    let known = all_more (λ e. OneKept tree flag linked progress on next (length us) e
    × AllByRecursion (λ u. belongs_to (visible_instances tree) u.target ≡ true → stands_owed u.standing ≡ false) (updates_in e))
    (λ e. OneKept tree flag linked progress on next (length us) e × (stands_owed e.unsetting.standing ≡ false))
    (λ e k. (k.0, k.1.1.0 (subst (λ (t : Target). belongs_to (visible_instances tree) t ≡ true) (target_is flag e.unsetting.target k.0.own) visible))) es
    (all_and (OneKept tree flag linked progress on next (length us)) (λ e. AllByRecursion (λ u. belongs_to (visible_instances tree) u.target ≡ true → stands_owed u.standing ≡ false) (updates_in e)) es h.each each) in
    let told = shows tree flag linked links progress on next (length us) seen es known h.order in
    let same = value_is answers flag us (pos 0) h.starts in
    ((λ k. told.0 (sym same ∙ k)), (λ k. same ∙ told.1 k))
