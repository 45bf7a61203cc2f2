-- Whether a resource that is waited for got its value after a cut, by the values that are known now and those before.
use Rattle.std.proofs.Common.{◌≡◌, ◌⊎◌, inl, inr, ℕ, ◌<◌, ◌≤◌, ◌^◌, Bool, true, false, ◌||◌, List, [], ◌∷◌, length, refl, sym, ap, ◌∙◌, arith, Option, None}
use Rattle.std.specs.Prelude.{ℤ, not, ◌&&◌, is_some, map, nat_eq, slice_index_or, if◌then◌else◌}
use Rattle.std.specs.List.{list_any}
use Rattle.std.proofs.lemmas.Bool.Decides.{nat_tests}
use Rattle.rx_base.specs.Awaits.{Awaits, has}
use Rattle.rx_ast.specs.Syntax.{Program}
use Rattle.rx_rules.specs.Names.{resources}
use Rattle.rx_check.specs.Accepted.{IsAccepted}
use Rattle.rx_check.proofs.Limited.{few-resources}
use Rattle.rx_queue.specs.Pairs.{Pair, in_versions}
use Rattle.rx_queue.specs.Journal.{resolutions_by, resolved_by, resolved_now, resolved_since, version_of}
use Rattle.rx_meaning.specs.Fresh.{Sight}
use Rattle.rx_model.specs.State.{State, Progress}
use Rattle.rx_model.specs.Committing.{schedule_deferred, sight_of}
use Rattle.rx_sched.specs.Schedule.{after_deferral}
use Rattle.commit_laws.proofs.Versions.{value_at, version_at}
use Rattle.rx_resources.specs.Kept.{Kept, value_of}
use Rattle.rx_resources.specs.Seen.{Resources, is_new, is_news}
use Rattle.rx_resources.specs.Store.{kept_at}
use Rattle.rx_resources.proofs.Counting.{value_agrees}
use Rattle.rx_kept.specs.Keeping.{AreDeclared, KeepsResources}
use Rattle.rx_kept.specs.Seeing.{AreSeen, resources_by}
use Rattle.rx_kept.proofs.Resources.{asks_for_declared, values_length, version_listed, versions_length}

-- two tests of which each follows from the other
same_test : (a b : Bool) → (a ≡ true → b ≡ true) → (b ≡ true → a ≡ true) → a ≡ b
same_test true true f g = refl
same_test true false f g = sym (f refl)
same_test false true f g = g refl
same_test false false f g = refl

or_parts : (a b : Bool) → (a || b) ≡ true → (a ≡ true) ⊎ (b ≡ true)
or_parts true b h = inl refl
or_parts false b h = inr h

and_parts : (a b : Bool) → (a && b) ≡ true → (a ≡ true) × (b ≡ true)
and_parts true b h = (refl, h)
and_parts false b h = absurd (let e : false ≡ true = h in cc)

-- a test of some resources holds of one of them
any_has : (q : ℕ → Bool) (ws : Awaits) (r : ℕ) → has ws r ≡ true → q r ≡ true → list_any q ws ≡ true
any_has q [] r h e = absurd (let f : false ≡ true = h in cc)
any_has q (w ∷ ws) r h e =
    elim (or_parts (nat_eq w r) (has ws r) h) [
      | inl k ↦ let same : w ≡ r = grind (arith, nat_tests) in let here : q w ≡ true = ap q same ∙ e in rw here refl
      | inr k ↦ go (q w) (any_has q ws r k e)
    ]
  where
    go : (b : Bool) → list_any q ws ≡ true → (b || list_any q ws) ≡ true
    go true f = refl
    go false f = f

any_parts : (q : ℕ → Bool) (ws : Awaits) → list_any q ws ≡ true → (r : ℕ) × (has ws r ≡ true) × (q r ≡ true)
any_parts q [] h = absurd (let f : false ≡ true = h in cc)
any_parts q (w ∷ ws) h =
    elim (or_parts (q w) (list_any q ws) h) [
      | inl k ↦ (w, itself w (has ws w), k)
      | inr k ↦ let rest = any_parts q ws k in (rest.0, behind (nat_eq w rest.0) (has ws rest.0) rest.1, rest.2)
    ]
  where
    itself : (w : ℕ) (b : Bool) → (nat_eq w w || b) ≡ true
    itself w b = let e : nat_eq w w ≡ true = grind (arith, nat_tests) in rw e refl

    behind : (a b : Bool) → b ≡ true → (a || b) ≡ true
    behind true b f = refl
    behind false b f = f

-- who is told all that a render sees is told its versions and values
pub all_seen : (s : Sight) (r : Resources) → r ≡ resources_by s → AreSeen s r
all_seen s r is = record { versions = ap (λ (x : Resources). x.versions) is; values = ap (λ (x : Resources). x.values) is }

-- what a render sees of the resources tells which of them are news
seen_news : (kept : List Kept) (waits : Awaits) (sight : Sight) (seen : Resources) → AreSeen sight seen → (r : ℕ) → is_news kept seen waits r ≡ is_news kept (resources_by sight) waits r
seen_news kept waits sight seen f r = λ i. is_news kept (record { versions = f.versions i; values = f.values i; refreshes = seen.refreshes }) waits r

-- the version of a resource that a render sees
abbrev seen_in : State → Progress → ℕ → ℕ
seen_in s g r = version_of g.lanes g.cut s.journal r

-- in the version that a render sees, a resource got its value after the render's cut
abbrev got_since : State → Progress → ℕ → Bool
got_since s g r = is_some (resolved_now s.journal r (seen_in s g r)) && not (is_some (resolved_by g.cut s.journal r (seen_in s g r)))

any_mapped : (test : Pair → Bool) (f : ℕ → Pair) (ws : List ℕ) → list_any test (map f ws) ≡ list_any (λ w. test (f w)) ws
any_mapped test f [] = refl
any_mapped test f (w ∷ ws) = ap (λ b. test (f w) || b) (any_mapped test f ws)

-- one of some resources did
since_is : (s : State) (g : Progress) (waits : Awaits) → resolved_since g.cut s.journal (in_versions (seen_in s g) waits) ≡ list_any (got_since s g) waits
since_is s g waits =
    any_mapped (λ w. is_some (resolved_now s.journal w.resource w.version) && not (is_some (resolved_by g.cut s.journal w.resource w.version))) (λ r. record { resource = r; version = seen_in s g r }) waits

module _ (p : Program) (s : State) (g : Progress) (kept : List Kept) (h : KeepsResources p s.journal s.linked kept) where
  -- a resource of the program is new if it did
  new_at : (r : ℕ) → r < length (resources p) → is_new kept (resources_by (sight_of p s g)) r ≡ got_since s g r
  new_at r few =
      let version : slice_index_or (resources_by (sight_of p s g)).versions r 0 ≡ seen_in s g r = version_at (seen_in s g) (length (resources p)) r few in
      let before : slice_index_or (resources_by (sight_of p s g)).values r None ≡ resolved_by g.cut s.journal r (seen_in s g r) = value_at (resolutions_by g.cut s.journal) (seen_in s g) (length (resources p)) r few in
      let now : value_of (kept_at kept r) (seen_in s g r) ≡ resolved_now s.journal r (seen_in s g r) =
      value_agrees s.journal r (seen_in s g r) (kept_at kept r) (h.each r (let all = h.all in omega (arith, all, few))) in
      ap (λ v. is_some (value_of (kept_at kept r) v) && not (is_some (slice_index_or (resources_by (sight_of p s g)).values r None))) version
      ∙ ap (λ o. is_some (value_of (kept_at kept r) (seen_in s g r)) && not (is_some o)) before
      ∙ ap (λ o. is_some o && not (is_some (resolved_by g.cut s.journal r (seen_in s g r)))) now

  -- so a test for news among the resources of the program tells whether one did
  news_since : (waits : Awaits) (b : Bool) → AreDeclared p s.journal
      → (b ≡ true → (r : ℕ) × (r < length (resources p)) × (is_news kept (resources_by (sight_of p s g)) waits r ≡ true))
      → (b ≡ false → (r : ℕ) → r < length (resources p) → is_news kept (resources_by (sight_of p s g)) waits r ≡ false)
      → b ≡ list_any (got_since s g) waits
  news_since waits b declared some none = same_test b (list_any (got_since s g) waits) there back
    where
      there : b ≡ true → list_any (got_since s g) waits ≡ true
      there e =
          let n = some e in
          let parts = and_parts (has waits n.0) (got_since s g n.0) (ap (λ x. has waits n.0 && x) (sym (new_at n.0 n.1)) ∙ n.2) in
          any_has (got_since s g) waits n.0 parts.0 parts.1

      -- a resource with a value is one of the program
      known : (r : ℕ) → is_some (resolved_now s.journal r (seen_in s g r)) ≡ true → length (resources p) ≤ r → ⊥
      known r e late =
          let none : resolved_now s.journal r (seen_in s g r) ≡ None = declared.values r (seen_in s g r) late in
          let f : false ≡ true = sym (ap (λ (x : Option ℤ). is_some x) none) ∙ e in cc

      back : list_any (got_since s g) waits ≡ true → b ≡ true
      back e = go b refl
        where
          n : (r : ℕ) × (has waits r ≡ true) × (got_since s g r ≡ true)
          n = any_parts (got_since s g) waits e

          within : n.0 < length (resources p)
          within = by_order (known n.0 (and_parts (is_some (resolved_now s.journal n.0 (seen_in s g n.0))) (not (is_some (resolved_by g.cut s.journal n.0 (seen_in s g n.0)))) n.2).0)
            where
              by_order : (length (resources p) ≤ n.0 → ⊥) → n.0 < length (resources p)
              by_order never = grind (arith, never)

          go : (c : Bool) → b ≡ c → b ≡ true
          go true f = f
          go false f =
              let not_there = none f n.0 within in
              let yes : is_news kept (resources_by (sight_of p s g)) waits n.0 ≡ true = ap (λ x. has waits n.0 && x) (new_at n.0 within) ∙ rw (n.1, n.2) refl in
              absurd (let k : false ≡ true = sym not_there ∙ yes in cc)

  -- the same, by what the render in progress tells that it sees
  pub news_is : (waits : Awaits) (seen : Resources) (b : Bool) → AreSeen (sight_of p s g) seen → AreDeclared p s.journal
      → (b ≡ true → (r : ℕ) × (r < length kept) × (is_news kept seen waits r ≡ true))
      → (b ≡ false → (r : ℕ) → r < length kept → is_news kept seen waits r ≡ false) → b ≡ resolved_since g.cut s.journal (in_versions (seen_in s g) waits)
  news_is waits seen b f declared some none =
      news_since waits b declared
      (λ e. let t = some e in (t.0, (let long = h.all in omega (arith, t.1, long)), sym (seen_news kept waits (sight_of p s g) seen f t.0) ∙ t.2))
      (λ e r few. sym (seen_news kept waits (sight_of p s g) seen f r) ∙ none e r (let long = h.all in omega (arith, few, long)))
      ∙ sym (since_is s g waits)

  -- if no resource is new, none that is waited for is
  pub none_new : (seen : Resources) → AreSeen (sight_of p s g) seen → AreDeclared p s.journal
      → ((r : ℕ) → r < length kept → is_new kept seen r ≡ false) → (waits : Awaits) → resolved_since g.cut s.journal (in_versions (seen_in s g) waits) ≡ false
  none_new seen f declared none waits =
      sym (news_is waits seen false f declared (λ e. absurd (let k : false ≡ true = e in cc)) (λ e r few. rw (none r few) (never (has waits r))))
    where
      never : (b : Bool) → (b && false) ≡ false
      never true = refl
      never false = refl

  -- there are few resources
  pub few_kept : IsAccepted p → length kept < 2 ^ 32
  few_kept accepted = let long = h.all in omega (arith, long, few-resources p accepted)

  -- what is kept and what the render sees are as many
  pub as_many_versions : (seen : Resources) → AreSeen (sight_of p s g) seen → length seen.versions ≡ length kept
  as_many_versions seen f = ap (λ (x : List ℕ). length x) f.versions ∙ versions_length (sight_of p s g) ∙ sym h.all

  pub as_many_values : (seen : Resources) → AreSeen (sight_of p s g) seen → length seen.values ≡ length kept
  as_many_values seen f = ap (λ (x : List (Option ℤ)). length x) f.values ∙ values_length (sight_of p s g) ∙ sym h.all

-- and so of lists of what is waited for
pub none_of_all : (s : State) (g : Progress) → ((waits : Awaits) → resolved_since g.cut s.journal (in_versions (seen_in s g) waits) ≡ false) → (all : List Awaits)
    → list_any (λ waits. resolved_since g.cut s.journal (in_versions (seen_in s g) waits)) all ≡ false
none_of_all s g none [] = refl
none_of_all s g none (waits ∷ all) = rw (none waits) (none_of_all s g none all)

-- what a render in progress sees of the versions tells those of what it waits for
pub waits_seen : (p : Program) (s : State) (g : Progress) (waits : Awaits) (seen : Resources) → AreSeen (sight_of p s g) seen → AreDeclared p s.journal
    → in_versions (λ r. slice_index_or seen.versions r 0) waits ≡ in_versions (seen_in s g) waits
waits_seen p s g waits seen is declared =
    ap (λ (f : ℕ → ℕ). in_versions f waits)
    (λ i r. (ap (λ (x : List ℕ). slice_index_or x r 0) is.versions ∙ version_listed (sight_of p s g) (asks_for_declared p s.journal g.lanes g.cut s.seen declared) r) i)

module _ (p : Program) (s : State) (g : Progress) (waits : Awaits) where
  -- a render of which something got its value since is not suspended
  pub not_suspended : resolved_since g.cut s.journal (in_versions (seen_in s g) waits) ≡ true → schedule_deferred s g waits ≡ s.schedule
  not_suspended since = ap (λ (b : Bool). if b then s.schedule else after_deferral s.schedule g.lanes (in_versions (seen_in s g) waits) s.now) since

  -- another one is
  pub suspended : resolved_since g.cut s.journal (in_versions (seen_in s g) waits) ≡ false → schedule_deferred s g waits ≡ after_deferral s.schedule g.lanes (in_versions (seen_in s g) waits) s.now
  suspended none = ap (λ (b : Bool). if b then s.schedule else after_deferral s.schedule g.lanes (in_versions (seen_in s g) waits) s.now) none
