-- Which component the instance has that a path leads to, and of which kind the hook is that a dispatch names.
use Rattle.std.specs.Prelude.{◌≡◌, ◌⊎◌, ℕ, zero, suc, ◌+◌, ◌≤◌, Bool, true, false, cond, not, bytes_eq, filter, filter_map, length, List, [], ◌∷◌, map, nat_eq, nat_lt, Option, Some, None, option_and_then, position, refl, slice_get, unwrap_or}
use Rattle.std.specs.List.{cons_option, position_or_len}
use Rattle.std.specs.Option.{option_eq, option_map_or}
use Rattle.std.proofs.Common.{ap, arith, inl, inr, subst, sym, ◌∙◌}
use Rattle.std.proofs.lemmas.Bool.Decides.{nat_tests}
use Rattle.std.proofs.lemmas.List.{length-map}
use Rattle.std.proofs.lemmas.Option.{slice_get_past}
use Rattle.std.proofs.lemmas.Slice.Eq.{bytes_eq-Decides}
use Rattle.rx_base.specs.Values.{Name}
use Rattle.rx_ast.specs.Syntax.{Component, Program, Statement, constant, context, effect, reducer, state, throw_if, transition, use_resource}
use Rattle.rx_rules.specs.Names.{StateHook, component_at, component_names, hook_in, hook_names, hooks_of, place_among, root_name}
use Rattle.rx_names.specs.Listed.{function_names}
use Rattle.rx_check.specs.Accepted.{IsAccepted}
use Rattle.rx_check.specs.Tables.{hook_among, hook_named, kind_of, plain_kind}
use Rattle.rx_check.specs.declared.hook.HookKind.{HookKind}
use Rattle.rx_check.specs.declared.hook.HookKind.TheVariants as kind
use Rattle.rx_step.specs.Steps.{Path}
use Rattle.rx_script.specs.Lines.{hook_at, is_reducer, is_state, target_from, target_of}
use Rattle.rx_elem.proofs.Deciding.{and_passes}
use Rattle.rx_elem.specs.Spots.{Mounted}
use Rattle.rx_model.specs.State.{find_from, hook_number, is_step, name_of, step_to}
use Rattle.transition_laws.specs.Flags.{flags_a_transition, is_flag_among}
use Rattle.transition_laws.proofs.Instances.{IsIn}
use Rattle.transition_laws.proofs.NamesApart.{found_by_name}

-- the name that a path ends with
abbrev pub last_name : Name × ℕ → Path → Name
last_name part [] = part.0
last_name part (q ∷ parts) = last_name q parts

-- the component that a path ends at is found by that name
target_last : (p : Program) (c : ℕ) (part : Name × ℕ) (parts : Path) (d : ℕ) → target_from p c (part ∷ parts) ≡ Some d
    → position (bytes_eq (last_name part parts)) (component_names p) ≡ Some d
target_last p c part [] d is = go (position (bytes_eq part.0) (component_names p)) is
  where
    go : (o : Option ℕ) → option_and_then (λ e. target_from p e []) o ≡ Some d → o ≡ Some d
    go None is = is
    go (Some e) is = is
target_last p c part (q ∷ parts) d is = go (position (bytes_eq part.0) (component_names p)) (λ e. target_last p e q parts d) is
  where
    go : (o : Option ℕ) → ((e : ℕ) → target_from p e (q ∷ parts) ≡ Some d → position (bytes_eq (last_name q parts)) (component_names p) ≡ Some d)
        → option_and_then (λ e. target_from p e (q ∷ parts)) o ≡ Some d → position (bytes_eq (last_name q parts)) (component_names p) ≡ Some d
    go None later is = cc
    go (Some e) later is = later e is

pub target_ends : (p : Program) (part : Name × ℕ) (parts : Path) (d : ℕ) → target_of p (part ∷ parts) ≡ Some d
    → position (bytes_eq (last_name part parts)) (component_names p) ≡ Some d
target_ends p part parts d is = go (bytes_eq part.0 root_name) is
  where
    go : (b : Bool) → cond b (option_and_then (λ c. target_from p c parts) (position (bytes_eq part.0) (component_names p))) None ≡ Some d
        → position (bytes_eq (last_name part parts)) (component_names p) ≡ Some d
    go true is = target_last p 0 part parts d is
    go false is = cc

-- The instance that a path leads to

passes : (f : Mounted → Bool) (xs : List Mounted) (k : ℕ) (m : Mounted) → slice_get (filter f xs) k ≡ Some m → IsIn m xs × (f m ≡ true)
passes f [] k m at = absurd (cc at)
passes f (x ∷ xs) k m at = go (f x) refl k at (λ l. passes f xs l m)
  where
    go : (b : Bool) → f x ≡ b → (k : ℕ) → slice_get (cond b (x ∷ filter f xs) (filter f xs)) k ≡ Some m
        → ((l : ℕ) → slice_get (filter f xs) l ≡ Some m → IsIn m xs × (f m ≡ true)) → IsIn m (x ∷ xs) × (f m ≡ true)
    go true is zero at later = let same : x ≡ m = cc in (inl (sym same), subst (λ z. f z ≡ true) same is)
    go true is (suc k) at later = let r = later k at in (inr r.0, r.1)
    go false is k at later = let r = later k at in (inr r.0, r.1)

-- the instance that a path leads to is one of those, and has the name that the path ends with
abbrev IsLed : Program → List Mounted → Name → Mounted → Type 0
IsLed p all name m = IsIn m all × (bytes_eq (name_of p m.component) name ≡ true)

find_led : (p : Program) (all : List Mounted) (owner : Option ℕ) (part : Name × ℕ) (parts : Path) (m : Mounted) → find_from p all owner (part ∷ parts) ≡ Some m
    → IsLed p all (last_name part parts) m
find_led p all owner part [] m is =
    let r = passes (is_step p owner part.0) all part.1 m is in (r.0, (and_passes (option_eq nat_eq m.owner owner) (bytes_eq (name_of p m.component) part.0) r.1).1)
find_led p all owner part (q ∷ parts) m is = go (step_to p all owner part) (λ x. find_led p all (Some x.number) q parts m) is
  where
    go : (o : Option Mounted) → ((x : Mounted) → find_from p all (Some x.number) (q ∷ parts) ≡ Some m → IsLed p all (last_name q parts) m)
        → option_and_then (λ x. find_from p all (Some x.number) (q ∷ parts)) o ≡ Some m → IsLed p all (last_name q parts) m
    go None later is = absurd (cc is)
    go (Some x) later is = later x is

-- It is one of those.
pub found_in : (p : Program) (all : List Mounted) (path : Path) (m : Mounted) → find_from p all None path ≡ Some m → IsIn m all
found_in p all [] m is = absurd (cc is)
found_in p all (part ∷ parts) m is = (find_led p all None part parts m is).0

-- Hooks by name

-- the hook of a name stands at the place of that name
record IsAt (fs : List Name) (hs : List StateHook) (place : ℕ) (k : HookKind) : Type 0 where
  hook : StateHook
  there : slice_get hs place ≡ Some hook
  number : ℕ
  kind_is : kind_of fs number hook ≡ k

among_at : (fs : List Name) (name : Name) (n : ℕ) (hs : List StateHook) (k : HookKind) → hook_among fs name n hs ≡ Some k
    → IsAt fs hs (position_or_len (bytes_eq name) (map (λ h. h.name) hs)) k
among_at fs name n [] k is = absurd (cc is)
among_at fs name n (h ∷ hs) k is = go (bytes_eq name h.name) is (among_at fs name (n + 1) hs k)
  where
    go : (b : Bool) → cond b (Some (kind_of fs n h)) (hook_among fs name (n + 1) hs) ≡ Some k
        → (hook_among fs name (n + 1) hs ≡ Some k → IsAt fs hs (position_or_len (bytes_eq name) (map (λ h. h.name) hs)) k)
        → IsAt fs (h ∷ hs) (cond (not b) (1 + position_or_len (bytes_eq name) (map (λ h. h.name) hs)) 0) k
    go true e rest = record { hook = h; there = refl; number = n; kind_is = (let same : kind_of fs n h ≡ k = cc in same) }
    go false e rest =
        let r = rest e in
        let next : 1 + position_or_len (bytes_eq name) (map (λ h. h.name) hs) ≡ suc (position_or_len (bytes_eq name) (map (λ h. h.name) hs)) = omega arith in
        record { hook = r.hook; there = rw next r.there; number = r.number; kind_is = r.kind_is }

-- and so the number of the hook is that place
place_is : (hs : List StateHook) (name : Name) (h : StateHook) → slice_get hs (position_or_len (bytes_eq name) (map (λ h. h.name) hs)) ≡ Some h
    → slice_get hs (place_among (map (λ h. h.name) hs) name) ≡ Some h
place_is hs name h there = go (nat_lt place (length (map (λ h. h.name) hs))) refl
  where
    place : ℕ
    place = position_or_len (bytes_eq name) (map (λ h. h.name) hs)

    go : (b : Bool) → nat_lt place (length (map (λ h. h.name) hs)) ≡ b → slice_get hs (unwrap_or (cond b (Some place) None) 0) ≡ Some h
    go true e = there
    go false e =
        let late : length (map (λ h. h.name) hs) ≤ place = grind (arith, nat_tests) in
        let many : length (map (λ h. h.name) hs) ≡ length hs = length-map hs (λ (h : StateHook). h.name) in
        let past : length hs ≤ place = omega (arith, late, many) in
        absurd (cc (sym (slice_get_past hs place past) ∙ there))

-- a reducer is no flag
reducers_plain : (ts : List Statement) (k : ℕ) (h : StateHook) → slice_get (filter_map hook_in ts) k ≡ Some h → (f : Name) → h.reducer ≡ Some f → h.flag ≡ false
reducers_plain [] k h at f is = absurd (cc at)
reducers_plain (t ∷ ts) k h at f is = go (hook_in t) (λ j e. own t j e) k at (λ l e. reducers_plain ts l h e f is)
  where
    own : (t : Statement) (j : StateHook) → hook_in t ≡ Some j → j ≡ h → h.flag ≡ false
    own (state x s e) j at same = let one : (record { name = x; reducer = None; flag = false }) ≡ j = cc in sym (ap (λ (z : StateHook). z.flag) (one ∙ same))
    own (reducer x s g e) j at same = let one : (record { name = x; reducer = Some g; flag = false }) ≡ j = cc in sym (ap (λ (z : StateHook). z.flag) (one ∙ same))
    own (transition x s) j at same =
        let one : (record { name = x; reducer = None; flag = true }) ≡ j = cc in absurd (cc (ap (λ (z : StateHook). z.reducer) (one ∙ same) ∙ is))
    own (context x c) j at same = absurd (cc at)
    own (use_resource x r) j at same = absurd (cc at)
    own (constant x e) j at same = absurd (cc at)
    own (effect l x es) j at same = absurd (cc at)
    own (throw_if e) j at same = absurd (cc at)

    go : (o : Option StateHook) → ((j : StateHook) → o ≡ Some j → j ≡ h → h.flag ≡ false) → (k : ℕ) → slice_get (cons_option o (filter_map hook_in ts)) k ≡ Some h
        → ((l : ℕ) → slice_get (filter_map hook_in ts) l ≡ Some h → h.flag ≡ false) → h.flag ≡ false
    go None first k at later = later k at
    go (Some j) first zero at later = first j refl (let same : j ≡ h = cc in same)
    go (Some j) first (suc k) at later = later k at

-- the hook is of useState or of useReducer
abbrev pub IsPlain : Option HookKind → Type 0
IsPlain o = (is_state o ≡ true) ⊎ (is_reducer o ≡ true)

plain_some : (o : Option HookKind) → IsPlain o → (k : HookKind) × (o ≡ Some k)
plain_some None (inl h) = absurd (cc h)
plain_some None (inr h) = absurd (cc h)
plain_some (Some k) h = (k, refl)

-- so it is no flag
plain_kinds : (fs : List Name) (n : ℕ) (h : StateHook) → ((f : Name) → h.reducer ≡ Some f → h.flag ≡ false) → IsPlain (Some (kind_of fs n h)) → h.flag ≡ false
plain_kinds fs n h reducers plain = go h.reducer h.flag reducers plain
  where
    go : (r : Option Name) (b : Bool) → ((f : Name) → r ≡ Some f → b ≡ false) → IsPlain (Some (option_map_or (λ f. kind.Reducer n (place_among fs f)) r (plain_kind b n))) → b ≡ false
    go (Some f) b k q = k f refl
    go None false k q = refl
    go None true k (inl q) = absurd (cc q)
    go None true k (inr q) = absurd (cc q)

plain_hook : (p : Program) (c : ℕ) (d : Component) (name : Name) → component_at p c ≡ Some d → IsPlain (hook_named p c name) → flags_a_transition p c (hook_number p c name) ≡ false
plain_hook p c d name at plain =
    subst (λ (o : Option Component). is_flag_among (option_map_or hooks_of o []) (place_among (option_map_or hook_names o []) name) ≡ false) (sym at)
    (let found = plain_some (hook_among (function_names p) name 0 (hooks_of d)) here in
    let r = among_at (function_names p) name 0 (hooks_of d) found.0 found.1 in
    let there = place_is (hooks_of d) name r.hook r.there in
    subst (λ (o : Option StateHook). option_map_or (λ h. h.flag) o false ≡ false) (sym there)
    (plain_kinds (function_names p) r.number r.hook (λ f is. reducers_plain d.statements _ r.hook r.there f is)
    (subst IsPlain (found.1 ∙ ap (λ (k : HookKind). Some k) (sym r.kind_is)) here)))
  where
    here : IsPlain (hook_among (function_names p) name 0 (hooks_of d))
    here = subst (λ (o : Option Component). IsPlain (option_and_then (λ c. hook_among (function_names p) name 0 (hooks_of c)) o)) at plain

-- The hook that a path and a name lead to is no flag, if the path ends at a component in which the name is that of a useState or of a useReducer.
pub no_flag : (p : Program) → IsAccepted p → (all : List Mounted) (path : Path) (name : Name) → IsPlain (hook_at p path name) → (m : Mounted) → find_from p all None path ≡ Some m
    → flags_a_transition p m.component (hook_number p m.component name) ≡ false
no_flag p a all [] name plain m led = absurd (cc led)
no_flag p a all (part ∷ parts) name plain m led = go (component_at p m.component) refl
  where
    named : bytes_eq (name_of p m.component) (last_name part parts) ≡ true
    named = (find_led p all None part parts m led).1

    -- the component that the path ends at
    ends : (o : Option ℕ) → target_of p (part ∷ parts) ≡ o → IsPlain (option_and_then (λ c. hook_named p c name) o) → (c : ℕ) × (target_of p (part ∷ parts) ≡ Some c) × IsPlain (hook_named p c name)
    ends None is (inl h) = absurd (cc h)
    ends None is (inr h) = absurd (cc h)
    ends (Some c) is h = (c, is, h)

    go : (o : Option Component) → component_at p m.component ≡ o → flags_a_transition p m.component (hook_number p m.component name) ≡ false
    go None at = rw at refl
    go (Some d) at =
        let target = ends (target_of p (part ∷ parts)) refl plain in
        let at_name : d.name ≡ last_name part parts =
        (bytes_eq-Decides d.name (last_name part parts)).0 (subst (λ (o : Option Component). bytes_eq (option_map_or (λ d. d.name) o []) (last_name part parts) ≡ true) at named) in
        let there : position (bytes_eq (last_name part parts)) (component_names p) ≡ Some target.0 = target_ends p part parts target.0 target.1 in
        let here : position (bytes_eq (last_name part parts)) (component_names p) ≡ Some m.component = found_by_name p a m.component d (last_name part parts) at at_name in
        let same : target.0 ≡ m.component = cc in
        plain_hook p m.component d name at (subst (λ (n : ℕ). IsPlain (hook_named p n name)) same target.2)
