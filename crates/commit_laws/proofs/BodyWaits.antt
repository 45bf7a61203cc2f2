-- A body waits only for a resource that has no value.
use Rattle.std.specs.List.{position_or_len}
use Rattle.std.specs.Prelude.{Bool, List, None, Option, Some, [], bytes_eq, if◌then◌else◌, cond, false, filter_map, flat_map, length, nat_lt, refl, slice_get, slice_index_or, suc, true, unwrap_or, zero, ℕ, ℤ, ◌++◌, ◌<◌, ◌∷◌, ◌≡◌}
use Rattle.std.proofs.Common.{arith, subst, sym, ◌∙◌}
use Rattle.std.proofs.lemmas.Bool.Decides.{nat_tests}
use Rattle.rx_ast.specs.Syntax.{Component, Program, Statement, body_slots, components, constant, context, effect, reducer, state, throw_if, transition, use_resource}
use Rattle.rx_base.specs.Arithmetic.{is_zero}
use Rattle.rx_base.specs.Values.{Name}
use Rattle.rx_rules.specs.Names.{component_at, distinct, resource_in, resource_number, resources, resources_of}
use Rattle.rx_meaning.specs.Body.{Frame, Inputs, Taken, and_then, body_of, finished, opening_frame, stopped_at, take_all, take_one, taken, thrown, wait, with_resource, with_throw}
use Rattle.rx_meaning.specs.Expressions.{value_in}
use Rattle.rx_meaning.specs.Fresh.{Sight, resources_seen, version_seen}
use Rattle.rx_queue.specs.Journal.{resolutions_by, resolved_by}
use Rattle.commit_laws.proofs.Versions.{value_at}

-- Statements that read resources

abbrev ReadsNone : List Statement → Type 0
ReadsNone [] = Unit {0}
ReadsNone (s ∷ ss) = (resource_in s ≡ None) × ReadsNone ss

none_read : (ss : List Statement) → filter_map resource_in ss ≡ [] → ReadsNone ss
none_read [] h = tt
none_read (s ∷ ss) h = go (resource_in s) refl (none_read ss)
  where
    go : (o : Option Name) → resource_in s ≡ o → (filter_map resource_in ss ≡ [] → ReadsNone ss) → ReadsNone (s ∷ ss)
    go None e k = let rest : filter_map resource_in ss ≡ [] = rw e at h in (e, k rest)
    go (Some n) e k = let some : n ∷ filter_map resource_in ss ≡ [] = rw e at h in absurd (cc some)

first_empty : {X : Type 0} (xs ys : List X) → xs ++ ys ≡ [] → (xs ≡ []) × (ys ≡ [])
first_empty [] ys h = (refl, h)
first_empty (x ∷ xs) ys h = absurd (cc h)

each_empty : (cs : List Component) → flat_map resources_of cs ≡ [] → (c : ℕ) (d : Component) → slice_get cs c ≡ Some d → resources_of d ≡ []
each_empty [] h c d there = absurd (cc there)
each_empty (x ∷ cs) h zero d there =
    let same : x ≡ d = cc in
    subst (λ (y : Component). resources_of y ≡ []) same (first_empty (resources_of x) (flat_map resources_of cs) h).0
each_empty (x ∷ cs) h (suc c) d there = each_empty cs (first_empty (resources_of x) (flat_map resources_of cs) h).1 c d there

distinct_empty : (ns : List Name) → length (distinct ns) ≡ 0 → ns ≡ []
distinct_empty [] h = refl
distinct_empty (n ∷ ns) h = absurd (omega (arith, h))

-- if a program has no resources, no statement reads one
no_reads : (p : Program) → length (resources p) ≡ 0 → (c : ℕ) (d : Component) → component_at p c ≡ Some d → ReadsNone d.statements
no_reads p h c d there = none_read d.statements (each_empty (components p) (distinct_empty (flat_map resources_of (components p)) h) c d there)

-- What a body waits for

abbrev StopsAt : List (Option ℤ) → ℕ → Taken → Type 0
StopsAt res n (stopped_at r v) = (slice_index_or res r None ≡ None) × (r < n)
StopsAt res n (thrown x) = Unit {0}
StopsAt res n (taken f) = Unit {0}

throw_stops : (res : List (Option ℤ)) (n : ℕ) (x : ℤ) (f : Frame) → StopsAt res n (with_throw x f)
throw_stops res n x f = go (is_zero x)
  where
    go : (b : Bool) → StopsAt res n (if b then taken f else thrown x)
    go true = tt
    go false = tt

one_stop : (name : Name) (r v n : ℕ) (res : List (Option ℤ)) (x : Option ℤ) (f : Frame) → slice_index_or res r None ≡ x → r < n → StopsAt res n (with_resource name r v x f)
one_stop name r v n res None f e l = (e, l)
one_stop name r v n res (Some x) f e l = tt

number_within : (names : List Name) → 0 < length names → (k : ℕ) (b : Bool) → nat_lt k (length names) ≡ b → unwrap_or (cond b (Some k) None) 0 < length names
number_within names some k true e = grind (arith, nat_tests)
number_within names some k false e = some

resource_within : (p : Program) → 0 < length (resources p) → (name : Name) → resource_number p name < length (resources p)
resource_within p some name =
    number_within (resources p) some (position_or_len (bytes_eq name) (resources p)) (nat_lt (position_or_len (bytes_eq name) (resources p)) (length (resources p))) refl

statement_stops : (p : Program) → 0 < length (resources p) → (i : Inputs) (s : Statement) (f : Frame) → StopsAt i.resources (length (resources p)) (take_one p i s f)
statement_stops p some i (state name setter e) f = tt
statement_stops p some i (reducer name setter function e) f = tt
statement_stops p some i (transition name starter) f = tt
statement_stops p some i (context name source) f = tt
statement_stops p some i (use_resource name resource) f =
    one_stop name (resource_number p resource) (slice_index_or i.versions (resource_number p resource) 0) (length (resources p)) i.resources (slice_index_or i.resources (resource_number p resource) None) f refl (resource_within p some resource)
statement_stops p some i (constant name e) f = tt
statement_stops p some i (effect layout label depends) f = tt
statement_stops p some i (throw_if e) f = throw_stops i.resources (length (resources p)) (value_in p f.env e) f

statements_stop : (p : Program) → 0 < length (resources p) → (i : Inputs) (ss : List Statement) (f : Frame) → StopsAt i.resources (length (resources p)) (take_all p i ss f)
statements_stop p some i [] f = tt
statements_stop p some i (s ∷ ss) f = go (take_one p i s f) (statement_stops p some i s f) (statements_stop p some i ss)
  where
    go : (t : Taken) → StopsAt i.resources (length (resources p)) t → ((g : Frame) → StopsAt i.resources (length (resources p)) (take_all p i ss g))
        → StopsAt i.resources (length (resources p)) (and_then t (take_all p i ss))
    go (stopped_at r v) h k = h
    go (thrown x) h k = h
    go (taken g) h k = k g

abbrev NeverStops : Taken → Type 0
NeverStops (stopped_at r v) = ⊥
NeverStops (thrown x) = Unit {0}
NeverStops (taken f) = Unit {0}

throw_goes_on : (x : ℤ) (f : Frame) → NeverStops (with_throw x f)
throw_goes_on x f = go (is_zero x)
  where
    go : (b : Bool) → NeverStops (if b then taken f else thrown x)
    go true = tt
    go false = tt

statement_goes_on : (p : Program) (i : Inputs) (s : Statement) (f : Frame) → resource_in s ≡ None → NeverStops (take_one p i s f)
statement_goes_on p i (state name setter e) f h = tt
statement_goes_on p i (reducer name setter function e) f h = tt
statement_goes_on p i (transition name starter) f h = tt
statement_goes_on p i (context name source) f h = tt
statement_goes_on p i (use_resource name resource) f h = absurd (cc h)
statement_goes_on p i (constant name e) f h = tt
statement_goes_on p i (effect layout label depends) f h = tt
statement_goes_on p i (throw_if e) f h = throw_goes_on (value_in p f.env e) f

statements_go_on : (p : Program) (i : Inputs) (ss : List Statement) (f : Frame) → ReadsNone ss → NeverStops (take_all p i ss f)
statements_go_on p i [] f h = tt
statements_go_on p i (s ∷ ss) f h = go (take_one p i s f) (statement_goes_on p i s f h.0) (λ g. statements_go_on p i ss g h.1)
  where
    go : (t : Taken) → NeverStops t → ((g : Frame) → NeverStops (take_all p i ss g)) → NeverStops (and_then t (take_all p i ss))
    go (stopped_at r v) h k = absurd h
    go (thrown x) h k = h
    go (taken g) h k = k g

-- what the body of a component waits for is a resource without a value
body_stops : (p : Program) (c : ℕ) (d : Component) → component_at p c ≡ Some d → (i : Inputs) (r v : ℕ) → body_of p d i ≡ wait r v
    → (slice_index_or i.resources r None ≡ None) × (r < length (resources p))
unfolding body_of
body_stops p c d there i r v h = pick (length (resources p)) refl
  where
    stops : (t : Taken) → StopsAt i.resources (length (resources p)) t → finished p i (body_slots d.body) t ≡ wait r v → (slice_index_or i.resources r None ≡ None) × (r < length (resources p))
    stops (stopped_at q w) x same =
        let equal : q ≡ r = cc in
        subst (λ (n : ℕ). (slice_index_or i.resources n None ≡ None) × (n < length (resources p))) equal x
    stops (thrown y) x same = absurd (cc same)
    stops (taken f) x same = absurd (cc same)

    never : (t : Taken) → NeverStops t → finished p i (body_slots d.body) t ≡ wait r v → (slice_index_or i.resources r None ≡ None) × (r < length (resources p))
    never (stopped_at q w) x same = absurd x
    never (thrown y) x same = absurd (cc same)
    never (taken f) x same = absurd (cc same)

    pick : (n : ℕ) → length (resources p) ≡ n → (slice_index_or i.resources r None ≡ None) × (r < length (resources p))
    pick zero e = never (take_all p i d.statements (opening_frame d i.props)) (statements_go_on p i d.statements (opening_frame d i.props) (no_reads p e c d there)) h
    pick (suc n) e =
        let some : 0 < length (resources p) = omega (arith, e) in
        stops (take_all p i d.statements (opening_frame d i.props)) (statements_stop p some i d.statements (opening_frame d i.props)) h

-- So a body of a render waits for a resource whose version was not resolved before the cut.
pub body_waits : (s : Sight) (c : ℕ) (d : Component) → component_at s.program c ≡ Some d → (i : Inputs) → i.resources ≡ resources_seen s → (r v : ℕ) → body_of s.program d i ≡ wait r v
    → resolved_by s.cut s.journal r (version_seen s r) ≡ None
body_waits s c d there i seen r v h =
    let stops = body_stops s.program c d there i r v h in
    let none : slice_index_or (resources_seen s) r None ≡ None = subst (λ (l : List (Option ℤ)). slice_index_or l r None ≡ None) seen stops.0 in
    sym (value_at (resolutions_by s.cut s.journal) (version_seen s) (length (resources s.program)) r stops.1) ∙ none
