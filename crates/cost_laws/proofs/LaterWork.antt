-- What a render evaluates is the same for two sights that see the same work, and a longer journal shows no other work.
use Rattle.std.specs.Prelude.{◌≡◌, ℕ, zero, suc, ◌+◌, Bool, true, false, not, ◌&&◌, ◌||◌, cond, List, [], ◌∷◌, ◌++◌, ℤ, Option, Some, None, filter, is_some, nat_eq, slice_index_or, refl}
use Rattle.std.specs.List.{enumerate_from, list_any}
use Rattle.std.specs.Option.{option_map_or}
use Rattle.std.proofs.Common.{ap, sym, ◌∙◌}
use Rattle.rx_susp.specs.declared.boundary.BoundaryState.{BoundaryState}
use Rattle.rx_susp.specs.Boundary.{awaits_of, hides}
use Rattle.rx_elem.specs.Elements.{Element}
use Rattle.rx_elem.specs.Elements as elements
use Rattle.rx_elem.specs.Trees.{Forest, Instance, Mark, Node, boundary_in, child, children_of, instance_in, mark_of, node, none, of_boundary, of_catcher, of_host, of_instance, plain, vacant}
use Rattle.rx_queue.specs.Journal.{Journal, Posted, Resolution, Target, hook, is_included, same_target, updates_of}
use Rattle.rx_queue.specs.History.{stands_done, stands_open}
use Rattle.rx_meaning.specs.Fresh.{Sight, Contexts, Renders, Place, made, rendered, depth_limit, default_contexts, root_element, old_instance, Shape, absent, waiting, throwing, one_list, two_lists, guarded, shape_of, render_part}
use Rattle.rx_meaning.specs.Counts.{count_part, if_waits, unless_waits, try_all}
use Rattle.rx_meaning.specs.Cursor.{Frame, Cursor, at_place, at_end, ended, finished}
use Rattle.rx_meaning.specs.Rest.{from_open, list_from}
use Rattle.rx_meaning.specs.Touched.{component_in, is_read_anew, may_throw_anew}
use Rattle.render_laws.specs.SameSight.{SeesSame, AllAfter}
use Rattle.render_laws.proofs.LaterEntries.{renders_same, shape_same, AllFail, late_fail, longer_refresh}
use Rattle.rx_meaning.specs.Again.{AllOpen}
use Rattle.cost_laws.specs.Causes.{has_cause, instance_news, is_called, is_due, is_left_waiting, is_news, news_at, news_in, some_update, waits_still}
use Rattle.cost_laws.specs.Evaluated.{Evaluates, Flag, above_root, below_node, evaluate_shape, evaluated, is_evaluated, own_body, stood, whole_evaluated}
use Rattle.cost_laws.specs.Untouched.{is_element_of, is_untouched}
use Rattle.cost_laws.specs.Left.{Flags, flag, outer, evaluate_open, evaluate_around, left_evaluated}
use Rattle.cost_laws.specs.SameWork.{SeesSameWork}
use Rattle.cost_laws.specs.Undue.{IsUndue}

module _ (s : Sight) (j : Journal) (same : SeesSame s j) (work : SeesSameWork s j) where
  -- the sight with the other journal
  abbrev seen : Sight
  seen = record s { journal = j }

  some_same : (test : Posted → Bool) → ((t : Target) → list_any test (updates_of t s.journal) ≡ list_any test (updates_of t j)) → (n : ℕ) (initials : List ℤ)
      → some_update test s n initials ≡ some_update test seen n initials
  some_same test each n initials = λ i. list_any (λ h. each (hook n h.0) i) (enumerate_from 0 initials)

  called_same : (cs : Contexts) (i : Option Instance) → is_called s cs i ≡ is_called seen cs i
  called_same cs None = refl
  called_same cs (Some i) = λ k. option_map_or (λ n. some_same (is_due s) work.due n i.initials k) i.number true || (list_any (is_read_anew cs) i.reads || list_any (λ r. not (nat_eq (same.versions r.resource k) r.version)) i.versions)

  news_same : (i : Option Instance) → instance_news s i ≡ instance_news seen i
  news_same i = λ k. option_map_or (λ j. option_map_or (λ n. some_same (is_news s) work.news n j.initials k) j.number false) i false

  mutual
    news_at_same : (n : Node) → news_at s n ≡ news_at seen n
    news_at_same (node e m ns fs) = λ k. news_same (instance_in m) k || (news_in_same ns k || news_in_same fs k)

    news_in_same : (ns : Forest) → news_in s ns ≡ news_in seen ns
    news_in_same none = refl
    news_in_same (vacant ns) = news_in_same ns
    news_in_same (child n ns) = λ k. news_at_same n k || news_in_same ns k

  -- The same places have a cause.
  pub cause_same : (cs : Contexts) (e : Element) (old : Option Node) → has_cause s cs e old ≡ has_cause seen cs e old
  cause_same cs elements.null old = refl
  cause_same cs (elements.text t) old = refl
  cause_same cs (elements.host n k attrs es) old = refl
  cause_same cs (elements.comp c k ps es) old = called_same cs (old_instance old)
  cause_same cs (elements.list marked es) old = refl
  cause_same cs (elements.boundary k f es) old = refl
  cause_same cs (elements.catcher k f es) old = refl
  cause_same cs (elements.provider c k x es) old = refl

  waiting_same : (n : Node) (b : Option BoundaryState) → option_map_or (is_left_waiting s (children_of n)) b false ≡ option_map_or (is_left_waiting seen (children_of n)) b false
  waiting_same n b = λ k. option_map_or (λ state. hides state && not (work.refresh k || (list_any (λ r. is_some (slice_index_or (same.resources k) r None)) (awaits_of state) || (news_in_same (children_of n) k || may_throw_anew s)))) b false

  -- The same boundaries wait still.
  pub still_same : (old : Option Node) → waits_still s old ≡ waits_still seen old
  still_same None = refl
  still_same (Some n) = waiting_same n (boundary_in (mark_of n))

  -- The same are untouched.
  pub untouched_same : (there : Bool) (e : Element) (old : Option Node) → is_untouched s there e old ≡ is_untouched seen there e old
  untouched_same there e old = ap (λ b. there && (is_element_of e old && b)) (still_same old)

  called_here : (cs : Contexts) (e : Element) (old : Option Node) → is_evaluated s cs e old ≡ is_evaluated seen cs e old
  called_here cs e old = ap (λ b. is_some (component_in e) && (b || not (is_element_of e old))) (cause_same cs e old)

  own_same : (cs : Contexts) (e : Element) (old : Option Node) → own_body s cs e old ≡ own_body seen cs e old
  own_same cs e old = ap (λ b. cond b 1 0) (called_here cs e old)

  place_same : (evaluate : Evaluates) (below : Contexts → Renders) (u : Flag) (cs : Contexts) (e : Element) (old : Option Node) (shape : Shape)
      → evaluate_shape evaluate below s u cs e old shape ≡ evaluate_shape evaluate below seen u cs e old shape
  place_same evaluate below u cs e old absent = refl
  place_same evaluate below u cs e old (waiting r v) = own_same cs e old
  place_same evaluate below u cs e old (throwing x) = own_same cs e old
  place_same evaluate below u cs e old (one_list m p) = ap (λ k. k + count_part (evaluate (below_node u e old)) below p) (own_same cs e old)
  place_same evaluate below u cs e old (two_lists p f) =
      ap (λ b. cond b 0 (count_part (evaluate (below_node u e old)) below p) + if_waits (render_part below p) (count_part (evaluate u) below f)) (untouched_same (stood u) e old)
  place_same evaluate below u cs e old (guarded p f) = refl

  evaluated_same : (n : ℕ) (u : Flag) (cs : Contexts) (e : Element) (old : Option Node) → evaluated n s u cs e old ≡ evaluated n seen u cs e old
  unfolding evaluated
  evaluated_same zero u cs e old = refl
  evaluated_same (suc n) u cs e old =
      place_same (evaluated n s) (rendered n s) u cs e old (shape_of s cs e old)
      ∙ (λ i. evaluate_shape (λ w ds f o. evaluated_same n w ds f o i) (renders_same s j same n i) seen u cs e old (shape_same s j same cs e old i))

  evaluates_same : (n : ℕ) → evaluated n s ≡ evaluated n seen
  evaluates_same n = λ i u cs e old. evaluated_same n u cs e old i

  around_evaluates_same : (n : ℕ) (fs : List Frame) (us : Flags) (p : Place) → evaluate_around n s fs us p ≡ evaluate_around n seen fs us p
  around_evaluates_same n [] us p = refl
  around_evaluates_same n (f ∷ fs) us p =
      ap (λ k. unless_waits p (try_all (evaluated n s (flag us) f.contexts) (rendered n s f.contexts) f.rest) + (evaluate_open (evaluated n s) (rendered n s) (flag (outer us)) f.node (list_from (rendered n s) f p) + k))
      (around_evaluates_same (suc n) fs (outer us) (from_open (rendered n s) f.node (list_from (rendered n s) f p)))
      ∙ (λ i. unless_waits p (try_all (evaluates_same n i (flag us) f.contexts) (renders_same s j same n i f.contexts) f.rest)
      + (evaluate_open (evaluates_same n i) (renders_same s j same n i) (flag (outer us)) f.node (list_from (renders_same s j same n i) f p)
      + evaluate_around (suc n) seen fs (outer us) (from_open (renders_same s j same n i) f.node (list_from (renders_same s j same n i) f p))))

  -- What is left to evaluate is the same.
  pub left_evaluated_same : (us : Flags) (c : Cursor) → left_evaluated s us c ≡ left_evaluated seen us c
  unfolding left_evaluated
  left_evaluated_same us (at_place n fs cs e old) =
      ap (λ k. evaluated n s (flag us) cs e old + k) (around_evaluates_same n fs us (rendered n s cs e old))
      ∙ (λ i. evaluated_same n (flag us) cs e old i + evaluate_around n seen fs us (renders_same s j same n i cs e old))
  left_evaluated_same us (at_end n fs o done) = around_evaluates_same n fs (outer us) (made (finished o done))
  left_evaluated_same us (ended p) = refl

  -- What a whole render evaluates is the same.
  pub whole_evaluated_same : (old : Option Node) → whole_evaluated s old ≡ whole_evaluated seen old
  unfolding whole_evaluated
  whole_evaluated_same old = evaluated_same depth_limit above_root (default_contexts s.program) (root_element s.program) old

-- Longer journals

-- if no update of a later list passes a first test, it adds none that passes both
any_more : (first second : Posted → Bool) (test : Posted → Bool) (us new : List Posted) → AllFail first new
    → list_any (λ u. first u && second u) (filter test us) ≡ list_any (λ u. first u && second u) (filter test (us ++ new))
any_more first second test [] [] h = refl
any_more first second test [] (u ∷ new) h = any_more first second test [] new h.1 ∙ go (test u)
  where
    go : (b : Bool) → list_any (λ v. first v && second v) (filter test new) ≡ list_any (λ v. first v && second v) (cond b (u ∷ filter test new) (filter test new))
    go true = rw (h.0) refl
    go false = refl
any_more first second test (u ∷ us) new h = go (test u) (any_more first second test us new h)
  where
    go : (b : Bool) → list_any (λ v. first v && second v) (filter test us) ≡ list_any (λ v. first v && second v) (filter test (us ++ new))
        → list_any (λ v. first v && second v) (cond b (u ∷ filter test us) (filter test us)) ≡ list_any (λ v. first v && second v) (cond b (u ∷ filter test (us ++ new)) (filter test (us ++ new)))
    go true e = ap (λ b. (first u && second u) || b) e
    go false e = e

-- A longer journal shows no other work, if all that is new is open and comes after the cut.
pub longer_sees_same_work : (s : Sight) (new : List Posted) (more : List Resolution) → AllAfter s.cut.updates new → AllOpen new
    → SeesSameWork s (record { updates = s.journal.updates ++ new; resolutions = s.journal.resolutions ++ more })
longer_sees_same_work s new more late opened =
    record {
      due = λ t. any_more (is_included s.lanes s.cut) (λ u. not (stands_done u.standing)) (λ u. same_target t u.target) s.journal.updates new (late_fail s new late);
      news = λ t. any_more (is_included s.lanes s.cut) (λ u. stands_open u.standing) (λ u. same_target t u.target) s.journal.updates new (late_fail s new late);
      refresh = longer_refresh s new more late opened;
    }

-- An instance of which each included update is done is one for another journal that shows the same work.
pub undue_later : (s : Sight) (j : Journal) (m : Mark) → SeesSameWork s j → IsUndue s m → IsUndue (record s { journal = j }) m
undue_later s j (of_instance i) work h = (h.0, h.1, sym (λ k. list_any (λ x. work.due (hook h.0 x.0) k) (enumerate_from 0 i.initials)) ∙ h.2)
undue_later s j (of_host n) work h = tt
undue_later s j (of_boundary b) work h = tt
undue_later s j (of_catcher c) work h = tt
undue_later s j plain work h = tt
