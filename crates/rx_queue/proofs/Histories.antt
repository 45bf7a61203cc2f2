-- Folds over a whole history and over its base queue.
use Rattle.std.proofs.Common.{Vec, ◌≡◌, ◌<◌, ◌+◌, ℕ, Bool, true, false, cond, not, ◌&&◌, ◌||◌, nat_lt, if◌then◌else◌, List, [], ◌∷◌, ◌++◌, map, take, drop, length, get_or, take-append-drop, fold, filter, suc, refl, sym, ap, ◌∙◌, arith, ℤ}
use Rattle.std.specs.List.{list_any, prefix_len, AllByRecursion}
use Rattle.std.specs.Vec.{with_items}
use Rattle.std.proofs.lemmas.List.{length-map, with_items_is}
use Rattle.std.proofs.lemmas.List.Folds.{list_any_more}
use Rattle.std.proofs.lemmas.Bool.Decides.{nat_tests}
use Rattle.rx_base.specs.declared.cut.Cut.{Cut}
use Rattle.rx_lane.specs.declared.lane.Lane.{Lane}
use Rattle.rx_lane.specs.Lanes.{Lanes, has, same_lane, one, union}
use Rattle.rx_lane.specs.SetLaws.{lanes_agree, has-lanes_where}
use Rattle.rx_queue.specs.declared.update.Update.{Update}
use Rattle.rx_queue.specs.declared.entry.Standing.{Standing}
use Rattle.rx_queue.specs.declared.entry.Standing.TheVariants.{Open, Done, Owed}
use Rattle.rx_queue.specs.declared.entry.Entry.{Entry}
use Rattle.rx_queue.specs.declared.queue.Processed.{Processed}
use Rattle.rx_queue.specs.History.{Answers, History, AllDone, IsAboveDone, applied, becomes_owed, committed, committed_value, in_order, is_before, is_done, is_included, is_new, is_open, is_owed, is_owed_before, is_pending, marked_owed, new_entry, noted, owed_after, pending_of, processed, pushed, settled, stands_done, stands_open, stands_owed, state_from, state_of, was_included}
use Rattle.rx_queue.specs.Stands.{Kept, IsLast, StandsFor, base_queue, state_before, work_of}

-- ---- one update more

fold_if : (answers : Answers) (b : Bool) (state : ℤ) (x : Entry) (ys : List Entry)
    → fold (λ now e. applied answers now e.update.op) state (cond b (x ∷ ys) ys) ≡ fold (λ now e. applied answers now e.update.op) (if b then applied answers state x.update.op else state) ys
fold_if answers true state x ys = refl
fold_if answers false state x ys = refl

pub state_from-cons : (answers : Answers) (p : Entry → Bool) (state : ℤ) (x : Entry) (xs : List Entry)
    → state_from answers p state (x ∷ xs) ≡ state_from answers p (if p x then applied answers state x.update.op else state) xs
state_from-cons answers p state x xs = fold_if answers (p x) state x (filter p xs)

pub state_from-append : (answers : Answers) (p : Entry → Bool) (state : ℤ) (xs ys : List Entry)
    → state_from answers p state (xs ++ ys) ≡ state_from answers p (state_from answers p state xs) ys
state_from-append answers p state [] ys = refl
state_from-append answers p state (x ∷ xs) ys =
    let now = if p x then applied answers state x.update.op else state in
    state_from-cons answers p state x (xs ++ ys) ∙ state_from-append answers p now xs ys
    ∙ ap (λ s. state_from answers p s ys) (sym (state_from-cons answers p state x xs))

-- an update at the end that fails the test changes nothing
pub state_from-push : (answers : Answers) (p : Entry → Bool) (state : ℤ) (xs : List Entry) (y : Entry) → p y ≡ false
    → state_from answers p state (xs ++ y ∷ []) ≡ state_from answers p state xs
state_from-push answers p state xs y out =
    state_from-append answers p state xs (y ∷ []) ∙ state_from-cons answers p (state_from answers p state xs) y []
    ∙ ap (λ b. if b then applied answers (state_from answers p state xs) y.update.op else state_from answers p state xs) out

-- an update at the end that fails the test changes nothing
pub state_before-push : (answers : Answers) (p : Entry → Bool) (state : ℤ) (xs : List Entry) (y : Entry) → p y ≡ false
    → state_before answers p state (xs ++ y ∷ []) ≡ state_before answers p state xs
state_before-push answers p state [] y out = rw out refl
state_before-push answers p state (x ∷ xs) y out =
    ap (λ s. if p x then s else state) (state_before-push answers p (applied answers state x.update.op) xs y out)

pub base_queue-push : (xs : List Entry) (y : Entry) → is_done y ≡ false → base_queue (xs ++ y ∷ []) ≡ base_queue xs ++ y ∷ []
base_queue-push [] y out = rw out refl
base_queue-push (x ∷ xs) y out = go (base_queue-push xs y out) (is_done x)
  where
    go : base_queue (xs ++ y ∷ []) ≡ base_queue xs ++ y ∷ [] → (b : Bool)
        → (if b then base_queue (xs ++ y ∷ []) else x ∷ (xs ++ y ∷ [])) ≡ (if b then base_queue xs else x ∷ xs) ++ y ∷ []
    go rest true = rest
    go rest false = refl

pub each-push : (p q : Entry → Bool) (xs : List Entry) (y : Entry) → p y ≡ false
    → AllByRecursion (λ e. p e ≡ true → q e ≡ true) xs → AllByRecursion (λ e. p e ≡ true → q e ≡ true) (xs ++ y ∷ [])
each-push p q [] y out all = (λ h. cc, tt)
each-push p q (x ∷ xs) y out all = (all.0, each-push p q xs y out all.1)

-- ---- tests that agree

-- an edit that keeps what updates do, and after which one test says what another said before
pub state_from-map : (answers : Answers) (p q : Entry → Bool) (f : Entry → Entry) → ((e : Entry) → (f e).update ≡ e.update) → (state : ℤ) (xs : List Entry)
    → AllByRecursion (λ e. q (f e) ≡ p e) xs → state_from answers q state (map f xs) ≡ state_from answers p state xs
state_from-map answers p q f keeps state [] all = refl
state_from-map answers p q f keeps state (x ∷ xs) all =
    state_from-cons answers q state (f x) (map f xs)
    ∙ ap (λ b. state_from answers q (if b then applied answers state (f x).update.op else state) (map f xs)) all.0
    ∙ ap (λ (u : Update). state_from answers q (if p x then applied answers state u.op else state) (map f xs)) (keeps x)
    ∙ state_from-map answers p q f keeps (if p x then applied answers state x.update.op else state) xs all.1
    ∙ sym (state_from-cons answers p state x xs)

pub state_before-map : (answers : Answers) (p q : Entry → Bool) (f : Entry → Entry) → ((e : Entry) → (f e).update ≡ e.update) → (state : ℤ) (xs : List Entry)
    → AllByRecursion (λ e. q (f e) ≡ p e) xs → state_before answers q state (map f xs) ≡ state_before answers p state xs
state_before-map answers p q f keeps state [] all = refl
state_before-map answers p q f keeps state (x ∷ xs) all =
    ap (λ b. if b then state_before answers q (applied answers state (f x).update.op) (map f xs) else state) all.0
    ∙ ap (λ (u : Update). if p x then state_before answers q (applied answers state u.op) (map f xs) else state) (keeps x)
    ∙ ap (λ s. if p x then s else state) (state_before-map answers p q f keeps (applied answers state x.update.op) xs all.1)

pub state_from-agree : (answers : Answers) (p q : Entry → Bool) (state : ℤ) (xs : List Entry)
    → AllByRecursion (λ e. p e ≡ q e) xs → state_from answers p state xs ≡ state_from answers q state xs
state_from-agree answers p q state [] all = refl
state_from-agree answers p q state (x ∷ xs) all =
    state_from-cons answers p state x xs
    ∙ ap (λ b. state_from answers p (if b then applied answers state x.update.op else state) xs) all.0
    ∙ state_from-agree answers p q (if q x then applied answers state x.update.op else state) xs all.1
    ∙ sym (state_from-cons answers q state x xs)

-- an edit that keeps which updates are done
pub base_queue-map : (f : Entry → Entry) → ((e : Entry) → is_done (f e) ≡ is_done e) → (xs : List Entry) → base_queue (map f xs) ≡ map f (base_queue xs)
base_queue-map f keeps [] = refl
base_queue-map f keeps (x ∷ xs) = ap (λ b. if b then base_queue (map f xs) else f x ∷ map f xs) (keeps x) ∙ go (base_queue-map f keeps xs) (is_done x)
  where
    go : base_queue (map f xs) ≡ map f (base_queue xs) → (b : Bool)
        → (if b then base_queue (map f xs) else f x ∷ map f xs) ≡ map f (if b then base_queue xs else x ∷ xs)
    go rest true = rest
    go rest false = refl

-- an edit that keeps done updates done
pub base_queue-map_more : (f : Entry → Entry) → ((e : Entry) → is_done e ≡ true → is_done (f e) ≡ true) → (xs : List Entry)
    → base_queue (map f (base_queue xs)) ≡ base_queue (map f xs)
base_queue-map_more f keeps [] = refl
base_queue-map_more f keeps (x ∷ xs) = go (base_queue-map_more f keeps xs) (is_done x) refl
  where
    go : base_queue (map f (base_queue xs)) ≡ base_queue (map f xs) → (b : Bool) → is_done x ≡ b
        → base_queue (map f (base_queue (x ∷ xs))) ≡ base_queue (map f (x ∷ xs))
    go rest true e = let done = keeps x e in rw (e, done) rest
    go rest false e = rw e refl

-- ---- the base queue in place of the whole list

-- if done updates pass a test, the base state and the base queue give what the whole list gives
pub state_from-base : (answers : Answers) (p : Entry → Bool) (state : ℤ) (xs : List Entry) → AllByRecursion (λ e. is_done e ≡ true → p e ≡ true) xs
    → state_from answers p (state_before answers is_done state xs) (base_queue xs) ≡ state_from answers p state xs
state_from-base answers p state [] all = refl
state_from-base answers p state (x ∷ xs) all = go (state_from-base answers p (applied answers state x.update.op) xs all.1) (is_done x) refl
  where
    go : state_from answers p (state_before answers is_done (applied answers state x.update.op) xs) (base_queue xs) ≡ state_from answers p (applied answers state x.update.op) xs
        → (b : Bool) → is_done x ≡ b
        → state_from answers p (state_before answers is_done state (x ∷ xs)) (base_queue (x ∷ xs)) ≡ state_from answers p state (x ∷ xs)
    go rest true e =
        let passes = all.0 e in
        rw e (rest
        ∙ sym (state_from-cons answers p state x xs ∙ ap (λ b. state_from answers p (if b then applied answers state x.update.op else state) xs) passes))
    go rest false e = rw e refl

pub state_before-base : (answers : Answers) (p : Entry → Bool) (state : ℤ) (xs : List Entry) → AllByRecursion (λ e. is_done e ≡ true → p e ≡ true) xs
    → state_before answers p (state_before answers is_done state xs) (base_queue xs) ≡ state_before answers p state xs
state_before-base answers p state [] all = refl
state_before-base answers p state (x ∷ xs) all = go (state_before-base answers p (applied answers state x.update.op) xs all.1) (is_done x) refl
  where
    go : state_before answers p (state_before answers is_done (applied answers state x.update.op) xs) (base_queue xs) ≡ state_before answers p (applied answers state x.update.op) xs
        → (b : Bool) → is_done x ≡ b
        → state_before answers p (state_before answers is_done state (x ∷ xs)) (base_queue (x ∷ xs)) ≡ state_before answers p state (x ∷ xs)
    go rest true e = let passes = all.0 e in rw (e, passes) rest
    go rest false e = rw e refl

-- if done updates fail a test, the base queue has one that passes exactly if the whole list has
pub list_any-base : (p : Entry → Bool) → ((e : Entry) → is_done e ≡ true → p e ≡ false) → (xs : List Entry) → list_any p (base_queue xs) ≡ list_any p xs
list_any-base p fails [] = refl
list_any-base p fails (x ∷ xs) = go (list_any-base p fails xs) (is_done x) refl
  where
    go : list_any p (base_queue xs) ≡ list_any p xs → (b : Bool) → is_done x ≡ b → list_any p (base_queue (x ∷ xs)) ≡ list_any p (x ∷ xs)
    go rest true e = let out = fails x e in rw (e, out) rest
    go rest false e = rw e refl

-- ---- counts of leading updates

one_more : (n : ℕ) → 1 + n ≡ suc n
one_more n = omega arith

pub base_queue-drop : (xs : List Entry) → drop (prefix_len is_done xs) xs ≡ base_queue xs
base_queue-drop [] = refl
base_queue-drop (x ∷ xs) = go (base_queue-drop xs) (is_done x)
  where
    go : drop (prefix_len is_done xs) xs ≡ base_queue xs → (b : Bool) → drop (cond b (1 + prefix_len is_done xs) 0) (x ∷ xs) ≡ (if b then base_queue xs else x ∷ xs)
    go rest true = ap (λ n. drop n (x ∷ xs)) (one_more (prefix_len is_done xs)) ∙ rest
    go rest false = refl

pub state_before-take : (answers : Answers) (p : Entry → Bool) (state : ℤ) (xs : List Entry)
    → state_from answers p state (take (prefix_len p xs) xs) ≡ state_before answers p state xs
state_before-take answers p state [] = refl
state_before-take answers p state (x ∷ xs) = go (state_before-take answers p (applied answers state x.update.op) xs) (p x) refl
  where
    go : state_from answers p (applied answers state x.update.op) (take (prefix_len p xs) xs) ≡ state_before answers p (applied answers state x.update.op) xs
        → (b : Bool) → p x ≡ b → state_from answers p state (take (prefix_len p (x ∷ xs)) (x ∷ xs)) ≡ state_before answers p state (x ∷ xs)
    go rest true e =
        rw e (ap (λ n. state_from answers p state (take n (x ∷ xs))) (one_more (prefix_len p xs))
        ∙ state_from-cons answers p state x (take (prefix_len p xs) xs)
        ∙ ap (λ b. state_from answers p (if b then applied answers state x.update.op else state) (take (prefix_len p xs) xs)) e
        ∙ rest)
    go rest false e = rw e refl

-- ---- what each call keeps

is_below : (a b : ℕ) → a < b → nat_lt a b ≡ true
is_below a b h = grind (arith, nat_tests)

included_if : (below done owed has : Bool) → below ≡ true → done ≡ true → (below && (done || owed || has)) ≡ true
included_if true true owed has b d = refl
included_if true false owed has b d = cc
included_if false done owed has b d = cc

-- below a cut above all done updates, these are included
pub done_are_included : (lanes : Lanes) (cut : Cut) (xs : List Entry) → AllByRecursion (λ e. is_done e ≡ true → e.update.number < cut.updates) xs
    → AllByRecursion (λ e. is_done e ≡ true → is_included lanes cut e ≡ true) xs
done_are_included lanes cut [] all = tt
done_are_included lanes cut (x ∷ xs) all =
    (λ done. included_if (is_before cut x) (is_done x) (is_owed x) (has lanes x.update.lane) (is_below x.update.number cut.updates (all.0 done)) done, done_are_included lanes cut xs all.1)

pub each : (P : Entry → Type 0) → ((e : Entry) → P e) → (xs : List Entry) → AllByRecursion P xs
each P h [] = tt
each P h (x ∷ xs) = (h x, each P h xs)

-- an edit that keeps which updates are done, and that those are included
pub each-map : (f : Entry → Entry) → ((e : Entry) → is_done (f e) ≡ is_done e) → ((e : Entry) → was_included (f e) ≡ was_included e) → (xs : List Entry)
    → AllByRecursion (λ e. is_done e ≡ true → was_included e ≡ true) xs → AllByRecursion (λ e. is_done e ≡ true → was_included e ≡ true) (map f xs)
each-map f done included [] all = tt
each-map f done included (x ∷ xs) all = (λ h. included x ∙ all.0 (sym (done x) ∙ h), each-map f done included xs all.1)

settled_update : (e : Entry) → (settled e).update ≡ e.update
settled_update e = go e.included
  where
    go : (b : Bool) → (if b then record e { standing = Done } else e).update ≡ e.update
    go true = refl
    go false = refl

settled_included : (e : Entry) → was_included (settled e) ≡ was_included e
settled_included e = go e.included
  where
    go : (b : Bool) → was_included (if b then record e { standing = Done } else e) ≡ was_included e
    go true = refl
    go false = refl

settled_done : (e : Entry) → is_done e ≡ true → is_done (settled e) ≡ true
settled_done e h = go e.included
  where
    go : (b : Bool) → is_done (if b then record e { standing = Done } else e) ≡ true
    go true = refl
    go false = h

not_true : (b : Bool) → (b ≡ true → false ≡ true) → b ≡ false
not_true true h = cc (h refl)
not_true false h = refl

-- after a commit an update is done if it was included
settled_is_done : (e : Entry) → (is_done e ≡ true → was_included e ≡ true) → is_done (settled e) ≡ was_included e
settled_is_done e h = go e.included refl
  where
    go : (b : Bool) → e.included ≡ b → is_done (settled e) ≡ e.included
    go true i = rw i refl
    go false i = rw i (not_true (is_done e) (λ done. sym i ∙ h done))

settled_are_done : (xs : List Entry) → AllByRecursion (λ e. is_done e ≡ true → was_included e ≡ true) xs → AllByRecursion (λ e. is_done (settled e) ≡ was_included e) xs
settled_are_done [] all = tt
settled_are_done (x ∷ xs) all = (settled_is_done x all.0, settled_are_done xs all.1)

settled_are_included : (xs : List Entry) → AllByRecursion (λ e. is_done e ≡ true → was_included e ≡ true) xs
    → AllByRecursion (λ e. is_done e ≡ true → was_included e ≡ true) (map settled xs)
settled_are_included [] all = tt
settled_are_included (x ∷ xs) all =
    (λ done. settled_included x ∙ sym (settled_is_done x all.0) ∙ done, settled_are_included xs all.1)

-- owed marks
owed_done_if : (b : Bool) (e : Entry) → (b ≡ true → is_done e ≡ false) → is_done (if b then record e { standing = Owed } else e) ≡ is_done e
owed_done_if true e h = sym (h refl)
owed_done_if false e h = refl

not_done : (a b c : Bool) → (a && not b && c) ≡ true → b ≡ false
not_done a b c h = grind arith

owed_done : (lanes : Lanes) (cut : Cut) (e : Entry) → is_done (owed_after lanes cut e) ≡ is_done e
owed_done lanes cut e = owed_done_if (becomes_owed lanes cut e) e (λ h. not_done (is_before cut e) (is_done e) (has lanes e.update.lane) h)

owed_update : (lanes : Lanes) (cut : Cut) (e : Entry) → (owed_after lanes cut e).update ≡ e.update
owed_update lanes cut e = go (becomes_owed lanes cut e)
  where
    go : (b : Bool) → (if b then record e { standing = Owed } else e).update ≡ e.update
    go true = refl
    go false = refl

owed_included : (lanes : Lanes) (cut : Cut) (e : Entry) → was_included (owed_after lanes cut e) ≡ was_included e
owed_included lanes cut e = go (becomes_owed lanes cut e)
  where
    go : (b : Bool) → was_included (if b then record e { standing = Owed } else e) ≡ was_included e
    go true = refl
    go false = refl

-- ---- the calls of a queue

-- the room for more updates is none of what it stands for
pub with_room : (answers : Answers) (kept : Kept) (room : ℕ) (history : History) → StandsFor answers kept history → StandsFor answers (record kept { room = room }) history
with_room answers kept room history stands = record { queue_is = stands.queue_is; base_is = stands.base_is; committed_is = stands.committed_is }

pub pushes : (answers : Answers) (kept : Kept) (queue : List Entry) (room : ℕ) (history : History) (update : Update) → queue ≡ kept.queue ++ new_entry update ∷ []
    → StandsFor answers kept history → StandsFor answers (record kept { queue = queue; room = room }) (pushed update history)
pushes answers kept queue room history update is stands =
    record {
      queue_is = is ∙ ap (λ (l : List Entry). l ++ new_entry update ∷ []) stands.queue_is ∙ sym (base_queue-push history.entries (new_entry update) refl);
      base_is = stands.base_is ∙ sym (state_before-push answers is_done history.initial history.entries (new_entry update) refl);
      committed_is = stands.committed_is ∙ sym (state_from-push answers is_done history.initial history.entries (new_entry update) refl);
    }

pub last-pushes : (answers : Answers) (history : History) (update : Update) (given : Processed) → IsLast answers history given → IsLast answers (pushed update history) given
last-pushes answers history update given last =
    record {
      value_is = last.value_is ∙ sym (state_from-push answers was_included history.initial history.entries (new_entry update) refl);
      base_is = last.base_is ∙ sym (state_before-push answers was_included history.initial history.entries (new_entry update) refl);
      done_included = each-push is_done was_included history.entries (new_entry update) refl last.done_included;
    }

pub notes : (answers : Answers) (kept : Kept) (history : History) (lanes : Lanes) (cut : Cut) → StandsFor answers kept history
    → StandsFor answers (record kept { queue = map (noted lanes cut) kept.queue }) (processed lanes cut history)
notes answers kept history lanes cut stands =
    record {
      queue_is = ap (map (noted lanes cut)) stands.queue_is ∙ sym (base_queue-map (noted lanes cut) (λ e. refl) history.entries);
      base_is = stands.base_is ∙ sym (state_before-map answers is_done is_done (noted lanes cut) (λ e. refl) history.initial history.entries (each _ (λ e. refl) history.entries));
      committed_is = stands.committed_is ∙ sym (state_from-map answers is_done is_done (noted lanes cut) (λ e. refl) history.initial history.entries (each _ (λ e. refl) history.entries));
    }

-- after a processing the updates that are noted as included give the state for its lanes at its cut
pub state_of-noted : (answers : Answers) (history : History) (lanes : Lanes) (cut : Cut)
    → state_from answers was_included history.initial (map (noted lanes cut) history.entries) ≡ state_of answers lanes cut history
state_of-noted answers history lanes cut =
    state_from-map answers (is_included lanes cut) was_included (noted lanes cut) (λ e. refl) history.initial history.entries (each _ (λ e. refl) history.entries)

-- what the updates of the queue give that are noted as included
value-noted : (answers : Answers) (kept : Kept) (history : History) (lanes : Lanes) (cut : Cut) → StandsFor answers kept history → IsAboveDone cut history
    → state_from answers was_included kept.base (map (noted lanes cut) kept.queue) ≡ state_of answers lanes cut history
value-noted answers kept history lanes cut stands above =
    state_from-map answers (is_included lanes cut) was_included (noted lanes cut) (λ e. refl) kept.base kept.queue (each _ (λ e. refl) kept.queue)
    ∙ ap (λ (l : List Entry). state_from answers (is_included lanes cut) kept.base l) stands.queue_is
    ∙ ap (λ (s : ℤ). state_from answers (is_included lanes cut) s (base_queue history.entries)) stands.base_is
    ∙ state_from-base answers (is_included lanes cut) history.initial history.entries (done_are_included lanes cut history.entries above)

base-noted : (answers : Answers) (kept : Kept) (history : History) (lanes : Lanes) (cut : Cut) → StandsFor answers kept history → IsAboveDone cut history
    → state_before answers was_included kept.base (map (noted lanes cut) kept.queue) ≡ state_before answers (is_included lanes cut) history.initial history.entries
base-noted answers kept history lanes cut stands above =
    state_before-map answers (is_included lanes cut) was_included (noted lanes cut) (λ e. refl) kept.base kept.queue (each _ (λ e. refl) kept.queue)
    ∙ ap (λ (l : List Entry). state_before answers (is_included lanes cut) kept.base l) stands.queue_is
    ∙ ap (λ (s : ℤ). state_before answers (is_included lanes cut) s (base_queue history.entries)) stands.base_is
    ∙ state_before-base answers (is_included lanes cut) history.initial history.entries (done_are_included lanes cut history.entries above)

noted_are_included : (lanes : Lanes) (cut : Cut) (xs : List Entry) → AllByRecursion (λ e. is_done e ≡ true → is_included lanes cut e ≡ true) xs
    → AllByRecursion (λ e. is_done e ≡ true → was_included e ≡ true) (map (noted lanes cut) xs)
noted_are_included lanes cut [] all = tt
noted_are_included lanes cut (x ∷ xs) all = (all.0, noted_are_included lanes cut xs all.1)

pub last-noted : (answers : Answers) (kept : Kept) (history : History) (lanes : Lanes) (cut : Cut) (given : Processed) → StandsFor answers kept history → IsAboveDone cut history
    → given.value ≡ state_from answers was_included kept.base (map (noted lanes cut) kept.queue)
    → given.base ≡ state_before answers was_included kept.base (map (noted lanes cut) kept.queue)
    → IsLast answers (processed lanes cut history) given
last-noted answers kept history lanes cut given stands above value base =
    record {
      value_is = value ∙ value-noted answers kept history lanes cut stands above
          ∙ sym (state_of-noted answers history lanes cut);
      base_is = base ∙ base-noted answers kept history lanes cut stands above
          ∙ sym (state_before-map answers (is_included lanes cut) was_included (noted lanes cut) (λ e. refl) history.initial history.entries (each _ (λ e. refl) history.entries));
      done_included = noted_are_included lanes cut history.entries (done_are_included lanes cut history.entries above);
    }

pub commits : (answers : Answers) (kept : Kept) (queue : List Entry) (room : ℕ) (history : History) (given : Processed)
    → queue ≡ drop (prefix_len is_done (map settled kept.queue)) (map settled kept.queue) → StandsFor answers kept history → IsLast answers history given
    → StandsFor answers (record { base = given.base; committed = given.value; queue = queue; room = room }) (committed history)
commits answers kept queue room history given is stands last =
    record {
      queue_is = is ∙ base_queue-drop (map settled kept.queue) ∙ ap (λ (l : List Entry). base_queue (map settled l)) stands.queue_is
          ∙ base_queue-map_more settled settled_done history.entries;
      base_is = last.base_is ∙ sym (state_before-map answers was_included is_done settled settled_update history.initial history.entries (settled_are_done history.entries last.done_included));
      committed_is = last.value_is ∙ sym (state_from-map answers was_included is_done settled settled_update history.initial history.entries (settled_are_done history.entries last.done_included));
    }

pub last-commits : (answers : Answers) (history : History) (given : Processed) → IsLast answers history given → IsLast answers (committed history) given
last-commits answers history given last =
    record {
      value_is = last.value_is ∙ sym (state_from-map answers was_included was_included settled settled_update history.initial history.entries (each _ settled_included history.entries));
      base_is = last.base_is ∙ sym (state_before-map answers was_included was_included settled settled_update history.initial history.entries (each _ settled_included history.entries));
      done_included = settled_are_included history.entries last.done_included;
    }

pub marks : (answers : Answers) (kept : Kept) (history : History) (lanes : Lanes) (cut : Cut) → StandsFor answers kept history
    → StandsFor answers (record kept { queue = map (owed_after lanes cut) kept.queue }) (marked_owed lanes cut history)
marks answers kept history lanes cut stands =
    record {
      queue_is = ap (map (owed_after lanes cut)) stands.queue_is ∙ sym (base_queue-map (owed_after lanes cut) (owed_done lanes cut) history.entries);
      base_is = stands.base_is ∙ sym (state_before-map answers is_done is_done (owed_after lanes cut) (owed_update lanes cut) history.initial history.entries (each _ (owed_done lanes cut) history.entries));
      committed_is = stands.committed_is ∙ sym (state_from-map answers is_done is_done (owed_after lanes cut) (owed_update lanes cut) history.initial history.entries (each _ (owed_done lanes cut) history.entries));
    }

pub last-marks : (answers : Answers) (history : History) (lanes : Lanes) (cut : Cut) (given : Processed) → IsLast answers history given → IsLast answers (marked_owed lanes cut history) given
last-marks answers history lanes cut given last =
    record {
      value_is = last.value_is ∙ sym (state_from-map answers was_included was_included (owed_after lanes cut) (owed_update lanes cut) history.initial history.entries (each _ (owed_included lanes cut) history.entries));
      base_is = last.base_is ∙ sym (state_before-map answers was_included was_included (owed_after lanes cut) (owed_update lanes cut) history.initial history.entries (each _ (owed_included lanes cut) history.entries));
      done_included = each-map (owed_after lanes cut) (owed_done lanes cut) (owed_included lanes cut) history.entries last.done_included;
    }

-- if all updates are done, the committed value is the in-order fold
pub committed-in_order : (answers : Answers) (history : History) → AllDone history → committed_value answers history ≡ in_order answers history
committed-in_order answers history all = state_from-agree answers is_done (λ e. true) history.initial history.entries all

-- ---- work

done_not_open : (s : Standing) → stands_done s ≡ true → stands_open s ≡ false
done_not_open Open d = cc
done_not_open Done d = refl
done_not_open Owed d = cc

done_not_owed : (s : Standing) → stands_done s ≡ true → stands_owed s ≡ false
done_not_owed Open d = cc
done_not_owed Done d = refl
done_not_owed Owed d = cc

and_false : (a b : Bool) → b ≡ false → (a && b) ≡ false
and_false a b h = grind arith

false_and : (a b : Bool) → a ≡ false → (a && b) ≡ false
false_and a b h = grind arith

pub work_of-base : (lanes : Lanes) (cut : Cut) (xs : List Entry) → work_of lanes cut (base_queue xs) ≡ work_of lanes cut xs
work_of-base lanes cut xs =
    let new = list_any-base (is_new lanes cut) (λ e d. and_false (is_included lanes cut e) (is_open e) (done_not_open e.standing d)) xs in
    let owed = list_any-base (is_owed_before cut) (λ e d. and_false (is_before cut e) (is_owed e) (done_not_owed e.standing d)) xs in
    rw (new, owed) refl

pub pending_of-base : (xs : List Entry) → pending_of (base_queue xs) ≡ pending_of xs
pending_of-base xs =
    lanes_agree (is_pending (base_queue xs)) (is_pending xs)
    (λ l. list_any-base (λ e. is_open e && same_lane e.update.lane l) (λ e d. false_and (is_open e) (same_lane e.update.lane l) (done_not_open e.standing d)) xs)

or_false : (b : Bool) → (b || false) ≡ b
or_false true = refl
or_false false = refl

-- one update more that is open adds its lane
pub pending-open : (xs : List Entry) (i : ℕ) (x : Entry) → i < length xs → x ≡ get_or xs i x → is_open x ≡ true
    → union (pending_of (take i xs)) (one x.update.lane) ≡ pending_of (take (i + 1) xs)
pending-open xs i x within here is =
    let q : Lane → Entry → Bool = λ l e. is_open e && same_lane e.update.lane l in
    lanes_agree (λ l. has (pending_of (take i xs)) l || has (one x.update.lane) l) (is_pending (take (i + 1) xs))
    (λ l. ap (λ b. b || has (one x.update.lane) l) (has-lanes_where (is_pending (take i xs)) l)
    ∙ ap (λ b. is_pending (take i xs) l || b) (has-lanes_where (same_lane x.update.lane) l ∙ sym (ap (λ b. b && same_lane x.update.lane l) is) ∙ ap (q l) here)
    ∙ sym (list_any_more (q l) xs i x within))

-- and one that is done or owed adds none
pub pending-closed : (xs : List Entry) (i : ℕ) (x : Entry) → i < length xs → x ≡ get_or xs i x → is_open x ≡ false
    → pending_of (take i xs) ≡ pending_of (take (i + 1) xs)
pending-closed xs i x within here is =
    let q : Lane → Entry → Bool = λ l e. is_open e && same_lane e.update.lane l in
    lanes_agree (is_pending (take i xs)) (is_pending (take (i + 1) xs))
    (λ l. sym (list_any_more (q l) xs i x within
    ∙ ap (λ b. is_pending (take i xs) l || b) (sym (ap (q l) here) ∙ ap (λ b. b && same_lane x.update.lane l) is)
    ∙ or_false (is_pending (take i xs) l)))

-- a part at the front, and then the rest
pub state_from-cut : (answers : Answers) (p : Entry → Bool) (state : ℤ) (n : ℕ) (xs : List Entry)
    → state_from answers p (state_from answers p state (take n xs)) (drop n xs) ≡ state_from answers p state xs
state_from-cut answers p state n xs = sym (state_from-append answers p state (take n xs) (drop n xs)) ∙ ap (state_from answers p state) (take-append-drop n xs)

-- a vector after each element of its slice is edited
pub written : {Z : Type 0} (v : Vec Entry Z) (f : Entry → Entry) (entries : List Entry) → entries ≡ map f v.items → (with_items v entries).items ≡ map f v.items
written v f entries is = with_items_is v entries (ap length is ∙ length-map v.items f ∙ sym v.ok.0) ∙ is
