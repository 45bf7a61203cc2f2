-- The instances of a list in whose hooks a render has work, one after the other.
use Rattle.std.proofs.Common.{◌≡◌, ◌⊎◌, inl, inr, ℕ, zero, suc, ◌+◌, ◌<◌, Bool, true, false, cond, ◌||◌, ◌&&◌, not, nat_eq, Option, option_map, Some, None, List, [], ◌∷◌, ◌++◌, length, slice_get, refl, sym, ap, ◌∙◌, subst, below_more, arith}
use Rattle.std.proofs.lemmas.Bool.Decides.{nat_tests}
use Rattle.std.proofs.lemmas.List.{length-map}
use Rattle.std.proofs.lemmas.List.Folds.{list_any-append}
use Rattle.std.proofs.lemmas.Option.{slice_get-map, slice_get_within}
use Rattle.std.specs.Borrow.{Bor}
use Rattle.rx_base.specs.declared.cut.Cut.{Cut}
use Rattle.rx_lane.specs.Lanes.{Lanes}
use Rattle.rx_ast.specs.Syntax.{Program}
use Rattle.rx_elem.specs.Spots.{Mounted}
use Rattle.rx_hooks.specs.declared.hook.Hook.{Hook}
use Rattle.rx_hook_store.specs.Gives.{has_work_in}
use Rattle.rx_hook_store.specs.Working.{AreAllWorking, AreOnlyWorking}
use Rattle.rx_hook_store.proofs.Stores.{KeptBy, same_number}
use Rattle.rx_set.specs.Sets.{holds}
use Rattle.rx_settle.specs.Found.{AreIn, AreTaken, HasWorkElsewhere, HasWorking, seen}
use Rattle.rx_settle.specs.Passes.{AreApart, AreKept, AreSettled, IsSettledOver, KeepsOn, RendersShown, TellsOf, rests, has_instance, is_gone}
use Rattle.rx_settle.specs.declared.made.NewHooks.{NewHooks}
use Rattle.rx_settle.specs.Made.{AreMadeFor, AreOfNew, kept_with}
use Rattle.rx_settle.proofs.Again.{goes_on_before, renders_before}
use Rattle.rx_settle.proofs.Kept.{neither, other_than, other_way}
use Rattle.rx_settle.proofs.Making.{elsewhere_stays, old_or_last, or_left, or_right}
use Rattle.rx_settle.proofs.Numbers.{has_itself, is_there}
use Rattle.rx_settle.proofs.Whole.{all_settled, one_instance}

-- ---- one instance more

-- an instance at the end has another number than those before it
apart_more : (ws : List Mounted) (m : Mounted) → AreApart ws → has_instance ws m.number ≡ false → AreApart (ws ++ m ∷ [])
apart_more [] m apart none j zero a b lt here there = absurd (omega arith)
apart_more [] m apart none j (suc k) a b lt here there = absurd (let f : ⊥ = cc in f)
apart_more (x ∷ ws) m apart none j zero a b lt here there = absurd (omega arith)
apart_more (x ∷ ws) m apart none zero (suc k) a b lt here there = go (old_or_last ws m b k there)
  where
    same : x ≡ a
    same = cc

    go : ((i : ℕ) × (slice_get ws i ≡ Some b)) ⊎ (m ≡ b) → nat_eq a.number b.number ≡ false
    go (inl h) = apart zero (suc h.0) a b (omega arith) here h.1
    go (inr last) = subst (λ (y : Mounted). nat_eq a.number y.number ≡ false) last (other_than (x ∷ ws) zero a m.number here none)
apart_more (x ∷ ws) m apart none (suc j) (suc k) a b lt here there =
    apart_more ws m (λ i n c d less at in_it. apart (suc i) (suc n) c d (omega arith) at in_it) (neither (nat_eq m.number x.number) (has_instance ws m.number) none).1 j k a b (omega arith) here there

itself : (n : ℕ) → nat_eq n n ≡ true
itself n = grind (arith, nat_tests)

pub clash : {P : Type 0} (b : Bool) → b ≡ true → b ≡ false → P
clash b is isnt = absurd (let f : ⊥ = cc in f)

module _ (old now new : ℕ → Bool) (ms : List Mounted) (i : ℕ) (m : Mounted) (at : slice_get ms i ≡ Some m) (ws : List Mounted) (h : AreTaken old now ms i ws)
    (updates : (n : ℕ) → new n ≡ cond (nat_eq m.number n) false (now n)) where
  -- what is not in the set does not come into it
  still_out : (n : ℕ) → now n ≡ false → new n ≡ false
  still_out n out = go (nat_eq m.number n) (updates n)
    where
      go : (b : Bool) → new n ≡ cond b false (now n) → new n ≡ false
      go true e = e
      go false e = e ∙ out

  is_out : new m.number ≡ false
  is_out = updates m.number ∙ ap (λ b. cond b false (now m.number)) (itself m.number)

  passed_more : (k : ℕ) → k < i + 1 → (x : Mounted) → slice_get ms k ≡ Some x → new x.number ≡ false
  passed_more =
      below_more (λ k. (x : Mounted) → slice_get ms k ≡ Some x → new x.number ≡ false) i
      (λ k lt x there. still_out x.number (h.passed k lt x there))
      (λ x there. let same : m ≡ x = cc in subst (λ (y : Mounted). new y.number ≡ false) same is_out)

  -- what is in the set was in it
  not_new : (n : ℕ) → new n ≡ true → (b : Bool) → nat_eq m.number n ≡ b → now n ≡ true
  not_new n is true e = clash (new n) is (updates n ∙ ap (λ b. cond b false (now n)) e)
  not_new n is false e = sym (updates n ∙ ap (λ b. cond b false (now n)) e) ∙ is

  -- an instance whose number is in the set is found
  pub take_more : now m.number ≡ true → AreTaken old new ms (i + 1) (ws ++ m ∷ [])
  take_more is_in =
      record {
        within = λ k x there. here_or_before x (old_or_last ws m x k there);
        apart = apart_more ws m h.apart (unseen (has_instance ws m.number) refl);
        were_in = λ n is. h.were_in n (not_new n is (nat_eq m.number n) refl);
        are_out = λ n has. gone n (nat_eq m.number n) refl (sym (list_any-append (λ y. nat_eq n y.number) ws (m ∷ [])) ∙ has);
        taken = λ n was_in is_not_in. list_any-append (λ y. nat_eq n y.number) ws (m ∷ []) ∙ comes n was_in is_not_in (nat_eq m.number n) refl;
        passed = passed_more;
      }
    where
      here_or_before : (x : Mounted) → ((j : ℕ) × (slice_get ws j ≡ Some x)) ⊎ (m ≡ x) → (j : ℕ) × (slice_get ms j ≡ Some x)
      here_or_before x (inl f) = h.within f.0 x f.1
      here_or_before x (inr same) = (i, subst (λ (y : Mounted). slice_get ms i ≡ Some y) same at)

      unseen : (b : Bool) → has_instance ws m.number ≡ b → b ≡ false
      unseen true e = clash (now m.number) is_in (h.are_out m.number e)
      unseen false e = refl

      gone : (n : ℕ) (b : Bool) → nat_eq m.number n ≡ b → (has_instance ws n || has_instance (m ∷ []) n) ≡ true → new n ≡ false
      gone n true e has = subst (λ (k : ℕ). new k ≡ false) (same_number m.number n e) is_out
      gone n false e has = before (has_instance ws n) refl has
        where
          before : (b : Bool) → has_instance ws n ≡ b → (b || has_instance (m ∷ []) n) ≡ true → new n ≡ false
          before true f t = still_out n (h.are_out n f)
          before false f t = let other = other_way m.number n e in clash (nat_eq n m.number || false) t (ap (λ b. b || false) other)

      comes : (n : ℕ) → old n ≡ true → new n ≡ false → (b : Bool) → nat_eq m.number n ≡ b → (has_instance ws n || has_instance (m ∷ []) n) ≡ true
      comes n was_in is_not_in true e =
          or_right (has_instance ws n) (has_instance (m ∷ []) n) (or_left (nat_eq n m.number) false (subst (λ (k : ℕ). nat_eq k m.number ≡ true) (same_number m.number n e) (itself m.number)))
      comes n was_in is_not_in false e =
          or_left (has_instance ws n) (has_instance (m ∷ []) n) (h.taken n was_in (sym (updates n ∙ ap (λ b. cond b false (now n)) e) ∙ is_not_in))

  -- one whose number is not in it is passed
  pub pass_more : now m.number ≡ false → AreTaken old new ms (i + 1) ws
  pass_more is_not =
      record {
        within = h.within;
        apart = h.apart;
        were_in = λ n is. h.were_in n (not_new n is (nat_eq m.number n) refl);
        are_out = λ n has. still_out n (h.are_out n has);
        taken = λ n was_in is_not_in. h.taken n was_in (was n is_not_in (nat_eq m.number n) refl);
        passed = passed_more;
      }
    where
      was : (n : ℕ) → new n ≡ false → (b : Bool) → nat_eq m.number n ≡ b → now n ≡ false
      was n is_not_in true e = subst (λ (k : ℕ). now k ≡ false) (same_number m.number n e) is_not
      was n is_not_in false e = sym (updates n ∙ ap (λ b. cond b false (now n)) e) ∙ is_not_in

-- ---- the whole list

-- a number of an instance that is found is one of the list
pub in_whole : (ms ws : List Mounted) → AreIn ms ws → (n : ℕ) → has_instance ws n ≡ true → has_instance ms n ≡ true
in_whole ms ws within n has =
    let t = is_there ws n has in
    let w = within t.place t.instance t.at in
    subst (λ (k : ℕ). has_instance ms k ≡ true) t.number_is (has_itself ms w.0 t.instance w.1)

module _ (lanes : Lanes) (cut : Cut) (kept : KeptBy) (old new : ℕ → Bool) (ms ws : List Mounted) (all : AreAllWorking lanes cut kept old) (h : AreTaken old new ms (length ms) ws) where
  -- in the hooks of those that are not found there is no work
  pub has_working : HasWorking lanes cut kept ms ws
  has_working = record { within = h.within; apart = h.apart; rest = rests }
    where
      rests : (k : ℕ) (m : Mounted) → slice_get ms k ≡ Some m → has_instance ws m.number ≡ false → TellsOf lanes cut (kept m.number) false
      rests k m at none answers hooks histories is stand = go (has_work_in lanes cut histories) refl
        where
          go : (b : Bool) → has_work_in lanes cut histories ≡ b → false ≡ has_work_in lanes cut histories
          go false e = sym e
          go true e =
              clash (has_instance ws m.number)
              (h.taken m.number (all m.number hooks is (record { answers = answers; histories = histories; stand = stand; has = e })) (h.passed k (slice_get_within ms k m at) m at)) none

  -- if the set is empty in the end, each one with work is of the list
  pub all_in_list : ((n : ℕ) → new n ≡ false) → AreAllWorking lanes cut kept (has_instance ms)
  all_in_list empty n hooks is work = in_whole ms ws h.within n (h.taken n (all n hooks is work) (empty n))

module _ (lanes : Lanes) (cut : Cut) (kept : KeptBy) (old new : ℕ → Bool) (ms ws : List Mounted) (only : AreOnlyWorking lanes cut kept old) (h : AreTaken old new ms (length ms) ws) where
  -- a number that is left in the set is that of none of the list
  elsewhere : (n : ℕ) → new n ≡ true → has_instance ms n ≡ false
  elsewhere n left = go (has_instance ms n) refl
    where
      go : (b : Bool) → has_instance ms n ≡ b → b ≡ false
      go true e =
          let t = is_there ms n e in
          clash (new n) left (subst (λ (k : ℕ). new k ≡ false) t.number_is (h.passed t.place (slice_get_within ms t.place t.instance t.at) t.instance t.at))
      go false e = refl

  -- so in its hooks there is work elsewhere
  pub works_elsewhere : (n : ℕ) → new n ≡ true → HasWorkElsewhere lanes cut kept ms
  works_elsewhere n left = record {
    number = n;
    elsewhere = elsewhere n left;
    works = λ answers hooks histories is stand. only n answers hooks histories (h.were_in n left) is stand;
  }

-- a set that is not empty has a member
pub first_member : (xs : List ℕ) → (xs ≡ [] → ⊥) → (n : ℕ) × (holds xs n ≡ true)
first_member [] some = absurd (some refl)
first_member (x ∷ xs) some = (x, ap (λ b. b || holds xs x) (itself x))

-- hooks are kept of those that are found
pub kept_of : (first : ℕ) (kept : KeptBy) (ms ws : List Mounted) → AreIn ms ws → AreKept first kept ms → AreKept first kept ws
kept_of first kept ms ws within are_kept k m at = let w = within k m at in are_kept w.0 m w.1

module _ (lanes : Lanes) (cut : Cut) (first : ℕ) (kept rendered : KeptBy) (ms ws : List Mounted) (apart : AreApart ms) (h : HasWorking lanes cut kept ms ws)
    (others : (n : ℕ) → has_instance ws n ≡ false → rendered n ≡ kept n) where
  -- a number that no instance of the list has is none of those that are found
  pub not_found : (n : ℕ) → has_instance ms n ≡ false → has_instance ws n ≡ false
  not_found n none = go (has_instance ws n) refl
    where
      go : (b : Bool) → has_instance ws n ≡ b → b ≡ false
      go true e = clash (has_instance ms n) (in_whole ms ws h.within n e) none
      go false e = refl

  -- what holds of those that are found, and of those whose numbers are not, holds of each of the list
  each_of : (P : Mounted → Type 0) → ((k : ℕ) (m : Mounted) → slice_get ws k ≡ Some m → P m) → ((k : ℕ) (m : Mounted) → slice_get ms k ≡ Some m → has_instance ws m.number ≡ false → P m)
      → (k : ℕ) (m : Mounted) → slice_get ms k ≡ Some m → P m
  each_of P working resting k m at = go (has_instance ws m.number) refl
    where
      go : (b : Bool) → has_instance ws m.number ≡ b → P m
      go true e =
          let t = is_there ws m.number e in
          let w = h.within t.place t.instance t.at in
          let same : t.instance ≡ m = one_instance ms apart w.0 k t.instance m w.1 at t.number_is in
          working t.place m (subst (λ (y : Mounted). slice_get ws t.place ≡ Some y) same t.at)
      go false e = resting k m at e

  -- after the render there is still no work in the hooks of the others
  still_rests : (k : ℕ) (m : Mounted) → slice_get ms k ≡ Some m → has_instance ws m.number ≡ false → TellsOf lanes cut (rendered m.number) false
  still_rests k m at none = subst (λ (o : Option (List Hook)). TellsOf lanes cut o false) (sym (others m.number none)) (h.rest k m at none)

  pub all_rendered : (p : Program) → ((k : ℕ) (m : Mounted) → slice_get ws k ≡ Some m → RendersShown p lanes cut first kept rendered m)
      → (k : ℕ) (m : Mounted) → slice_get ms k ≡ Some m → RendersShown p lanes cut first kept rendered m
  all_rendered p working = each_of (RendersShown p lanes cut first kept rendered) working (λ k m at none visible below. inl (still_rests k m at none))

  pub settled_each : (settled : KeptBy) → ((k : ℕ) (m : Mounted) → slice_get ws k ≡ Some m → AreSettled lanes cut first rendered settled m)
      → ((n : ℕ) → has_instance ws n ≡ false → settled n ≡ rendered n) → (k : ℕ) (m : Mounted) → slice_get ms k ≡ Some m → AreSettled lanes cut first rendered settled m
  settled_each settled working stays =
      each_of (AreSettled lanes cut first rendered settled) working
      (λ k m at none. record {
        shown = λ below visible. rests (still_rests k m at none) (stays m.number none);
        hidden = λ below visible. rests (still_rests k m at none) (stays m.number none);
      })

-- ---- the commit

module _ (p : Program) (lanes : Lanes) (cut : Cut) (first : ℕ) (kept reserved rendered settled inserted new : KeptBy) (before ms ws : List Mounted) (xs : List NewHooks)
    (apart : AreApart ms) (found : HasWorking lanes cut kept ms ws) (are_made : AreMadeFor first ms (length ms) xs)
    (same : (n : ℕ) → reserved n ≡ kept n) (goes_on : KeepsOn p lanes cut reserved rendered)
    (renders : (k : ℕ) (m : Mounted) → slice_get ws k ≡ Some m → RendersShown p lanes cut first reserved rendered m)
    (not_rendered : (n : ℕ) → has_instance ws n ≡ false → rendered n ≡ reserved n)
    (settles : (k : ℕ) (m : Mounted) → slice_get ws k ≡ Some m → AreSettled lanes cut first rendered settled m)
    (not_settled : (n : ℕ) → has_instance ws n ≡ false → settled n ≡ rendered n)
    (inserts : (n : ℕ) → inserted n ≡ kept_with xs settled n) (removes : (n : ℕ) → new n ≡ cond (is_gone before ms n) None (inserted n)) where
  others_stay : (n : ℕ) → has_instance ws n ≡ false → rendered n ≡ kept n
  others_stay n none = not_rendered n none ∙ same n

  -- what is kept of an instance of the list is not removed
  not_removed : (n : ℕ) → has_instance ms n ≡ true → new n ≡ inserted n
  not_removed n has = removes n ∙ ap (λ b. cond b None (inserted n)) (go (has_instance before n) (has_instance ms n) has)
    where
      go : (a b : Bool) → b ≡ true → (a && not b) ≡ false
      go true b e = ap not e
      go false b e = refl

  gone_then : (k : ℕ) (m : Mounted) → slice_get before k ≡ Some m → has_instance ms m.number ≡ false → is_gone before ms m.number ≡ true
  gone_then k m at none = ap (λ b. b && not (has_instance ms m.number)) (has_itself before k m at) ∙ ap not none

  -- what is kept is settled over the whole list
  pub settled_over : IsSettledOver p lanes cut first kept new before ms
  settled_over =
      record {
        rendered = rendered;
        goes_on = goes_on_before p lanes cut first kept reserved rendered same goes_on;
        renders =
            all_rendered lanes cut first kept rendered ms ws apart found others_stay p
            (λ k m at. renders_before p lanes cut first kept reserved rendered same m (renders k m at));
        settles =
            all_settled lanes cut first ms xs rendered settled inserted new apart are_made
            (settled_each lanes cut first kept rendered ms ws apart found others_stay settled settles not_settled) inserts not_removed;
        gone = λ k m at none. removes m.number ∙ ap (λ b. cond b None (inserted m.number)) (gone_then k m at none);
        not_rendered = λ n none. others_stay n (none_found n none);
        others = λ n none free.
            removes n ∙ (ap (λ b. cond (b && not (has_instance ms n)) None (inserted n)) free
            ∙ (inserts n ∙ (elsewhere_stays xs settled n (λ k x at. not_new n none (are_made.all_new k x at)) ∙ not_settled n (none_found n none))));
      }
    where
      none_found : (n : ℕ) → has_instance ms n ≡ false → has_instance ws n ≡ false
      none_found = not_found lanes cut first kept rendered ms ws apart found others_stay

      not_new : (n : ℕ) → has_instance ms n ≡ false → {x : NewHooks} → AreOfNew first ms x → nat_eq x.number n ≡ false
      not_new n none of_new = subst (λ (i : ℕ). nat_eq i n ≡ false) (sym of_new.are_for.number_is) (other_than ms of_new.place of_new.instance n of_new.there none)

-- ---- references

-- what a reference of a list stands for is in the list that it stands for
pub seen_at : (rs : List (Bor Mounted)) (k : ℕ) (r : Bor Mounted) → slice_get rs k ≡ Some r → slice_get (seen rs) k ≡ Some r.now
seen_at rs k r at = slice_get-map (λ (x : Bor Mounted). x.now) rs k ∙ ap (option_map (λ (x : Bor Mounted). x.now)) at

-- a list that references stand for is no longer than theirs
pub seen_within : (rs : List (Bor Mounted)) (k : ℕ) (m : Mounted) → slice_get (seen rs) k ≡ Some m → k < length rs
seen_within rs k m at = subst (λ (n : ℕ). k < n) (length-map rs (λ (x : Bor Mounted). x.now)) (slice_get_within (seen rs) k m at)
