-- Steps of a script can be taken, and the instance that the path of a dispatch leads to has the hook of the dispatch.
use Rattle.std.proofs.Common.{◌≡◌, ℕ, zero, suc, ◌+◌, Bool, true, false, ◌||◌, cond, nat_eq, Option, Some, None, Result, Ok, Err, List, [], ◌∷◌, length, refl, sym, ◌∙◌, subst}
use Rattle.std.specs.Prelude.{bytes_eq, filter, map, option_and_then, position, slice_get}
use Rattle.std.specs.Option.{option_eq, option_map_or}
use Rattle.std.proofs.lemmas.List.{length-map}
use Rattle.std.proofs.lemmas.Slice.Eq.{bytes_eq-Decides}
use Rattle.rx_base.specs.Values.{Name, Text}
use Rattle.rx_ast.specs.Syntax.{Component, Program}
use Rattle.rx_rules.specs.Names.{StateHook, component_at, component_names, has_name, hook_names, hooks_of}
use Rattle.rx_names.specs.Listed.{function_names}
use Rattle.rx_check.specs.Accepted.{IsAccepted}
use Rattle.rx_check.specs.Tables.{hook_among, hook_named, kind_of}
use Rattle.rx_check.specs.declared.hook.HookKind.{HookKind}
use Rattle.rx_step.specs.Steps.{Path, hook_name, path_of}
use Rattle.rx_step.specs.declared.step.Dispatch.{Dispatch}
use Rattle.rx_step.specs.declared.step.Dispatch.TheVariants.{Set, Call, Send, Start, Refresh}
use Rattle.rx_step.specs.declared.step.Step.{Step}
use Rattle.rx_step.specs.declared.step.Step.TheVariants as step
use Rattle.rx_script.specs.Lines.{BadStep, Line, bad, form_of, formed, good, has_targets, hook_at, in_bounds, is_comment, is_flag, is_reducer, is_state, line_of, meant, out_of_range, silent, steps_from, steps_of, target_of, unknown_target, with_line}
use Rattle.rx_script.specs.Words.{lines_of, words_of}
use Rattle.rx_elem.specs.Spots.{Mounted}
use Rattle.rx_model.specs.State.{find_from, hooks_at, is_step, name_of, step_to}
use Rattle.host_laws.proofs.IdentityLaws.{both}
use Rattle.rx_kept.specs.Taking.{AllCanTake, CanTake}
use Rattle.rx_kept.proofs.HookCounts.{HasHooks}
use Rattle.transition_laws.proofs.NamesApart.{found_by_name}
use Rattle.transition_laws.proofs.Names.{last_name, target_ends}

-- ---- scripts

good_can : (p : Program) (s : Step) (a b : Bool) → has_targets p s ≡ a → in_bounds p s ≡ b → (x : Step) → cond a (cond b (good s) (bad out_of_range)) (bad unknown_target) ≡ good x → CanTake p x
good_can p s true true t i x is = let same : s ≡ x = cc in subst (CanTake p) same (t, i)
good_can p s true false t i x is = cc
good_can p s false b t i x is = cc

formed_can : (p : Program) (o : Option Step) (x : Step) → formed p o ≡ good x → CanTake p x
formed_can p None x is = cc
formed_can p (Some s) x is = good_can p s (has_targets p s) (in_bounds p s) refl refl x is

meant_can : (p : Program) (ws : List Text) (x : Step) → meant p ws ≡ good x → CanTake p x
meant_can p [] x is = cc
meant_can p (w ∷ ws) x is = formed_can p (form_of (w ∷ ws)) x is

line_can : (p : Program) (l : Text) (x : Step) → line_of p l ≡ good x → CanTake p x
line_can p l x is = go (is_comment l) is
  where
    go : (b : Bool) → cond b silent (meant p (words_of l)) ≡ good x → CanTake p x
    go true is = cc
    go false is = meant_can p (words_of l) x is

from_can : (p : Program) (n : ℕ) (ls : List Text) (steps : List Step) → steps_from p n ls ≡ Ok steps → AllCanTake p steps
from_can p n [] steps is = let none : [] ≡ steps = cc in subst (AllCanTake p) none tt
from_can p n (l ∷ ls) steps is = go (line_of p l) refl (steps_from p (n + 1) ls) (from_can p (n + 1) ls) is
  where
    go : (x : Line) → line_of p l ≡ x → (rest : Result (List Step) BadStep) → ((more : List Step) → rest ≡ Ok more → AllCanTake p more)
        → with_line n x rest ≡ Ok steps → AllCanTake p steps
    go silent at rest later is = later steps is
    go (bad f) at rest later is = cc
    go (good s) at (Ok more) later is =
        let all : s ∷ more ≡ steps = cc in subst (AllCanTake p) all (line_can p l s at, later more refl)
    go (good s) at (Err e) later is = cc

-- the steps of a script can be taken
pub steps_can : (p : Program) (bytes : List ℕ) (steps : List Step) → steps_of p bytes ≡ Ok steps → AllCanTake p steps
unfolding steps_of
steps_can p bytes steps is = from_can p 1 (lines_of bytes) steps is

-- so can each of them, by its place
pub each_can : (p : Program) (steps : List Step) → AllCanTake p steps → (k : ℕ) (x : Step) → slice_get steps k ≡ Some x → CanTake p x
each_can p [] all k x at = cc
each_can p (s ∷ steps) all zero x at = let same : s ≡ x = cc in subst (CanTake p) same all.0
each_can p (s ∷ steps) all (suc k) x at = each_can p steps all.1 k x at

-- ---- paths

passes : {X : Type 0} (f : X → Bool) (xs : List X) (k : ℕ) (x : X) → slice_get (filter f xs) k ≡ Some x → (j : ℕ) × (slice_get xs j ≡ Some x) × (f x ≡ true)
passes f [] k x at = cc
passes f (y ∷ ys) k x at = go (f y) refl k at (λ l. passes f ys l x)
  where
    go : (b : Bool) → f y ≡ b → (k : ℕ) → slice_get (cond b (y ∷ filter f ys) (filter f ys)) k ≡ Some x
        → ((l : ℕ) → slice_get (filter f ys) l ≡ Some x → (j : ℕ) × (slice_get ys j ≡ Some x) × (f x ≡ true)) → (j : ℕ) × (slice_get (y ∷ ys) j ≡ Some x) × (f x ≡ true)
    go true is zero at later = let same : y ≡ x = cc in (0, at, subst (λ z. f z ≡ true) same is)
    go true is (suc k) at later = let r = later k at in (suc r.0, r.1, r.2)
    go false is k at later = let r = later k at in (suc r.0, r.1, r.2)

-- the instance that a path leads to is one of those, and has the name that the path ends with
pub record IsLed (p : Program) (all : List Mounted) (name : Name) (m : Mounted) : Type 0 where
  pub place : ℕ
  pub there : slice_get all place ≡ Some m
  pub named : bytes_eq (name_of p m.component) name ≡ true

step_led : (p : Program) (all : List Mounted) (owner : Option ℕ) (part : Name × ℕ) (m : Mounted) → step_to p all owner part ≡ Some m → IsLed p all part.0 m
step_led p all owner part m is =
    let r = passes (is_step p owner part.0) all part.1 m is in
    record { place = r.0; there = r.1; named = (both (option_eq nat_eq m.owner owner) (bytes_eq (name_of p m.component) part.0) r.2).1 }

find_led : (p : Program) (all : List Mounted) (owner : Option ℕ) (part : Name × ℕ) (parts : Path) (m : Mounted) → find_from p all owner (part ∷ parts) ≡ Some m
    → IsLed p all (last_name part parts) m
find_led p all owner part [] m is = step_led p all owner part m is
find_led p all owner part (q ∷ parts) m is = go (step_to p all owner part) (λ x. find_led p all (Some x.number) q parts m) is
  where
    go : (o : Option Mounted) → ((x : Mounted) → find_from p all (Some x.number) (q ∷ parts) ≡ Some m → IsLed p all (last_name q parts) m)
        → option_and_then (λ x. find_from p all (Some x.number) (q ∷ parts)) o ≡ Some m → IsLed p all (last_name q parts) m
    go None later is = cc
    go (Some x) later is = later x is

-- it is one of those
pub found_there : (p : Program) (all : List Mounted) (path : Path) (m : Mounted) → find_from p all None path ≡ Some m → (k : ℕ) × (slice_get all k ≡ Some m)
found_there p all [] m is = cc
found_there p all (part ∷ parts) m is = let found = find_led p all None part parts m is in (found.place, found.there)

-- ---- hooks

among_named : (fs : List Name) (name : Name) (n : ℕ) (hs : List StateHook) (k : HookKind) → hook_among fs name n hs ≡ Some k → has_name (map (λ h. h.name) hs) name ≡ true
among_named fs name n [] k is = cc
among_named fs name n (h ∷ hs) k is = go (bytes_eq name h.name) (among_named fs name (n + 1) hs k) is
  where
    go : (b : Bool) → (hook_among fs name (n + 1) hs ≡ Some k → has_name (map (λ h. h.name) hs) name ≡ true)
        → cond b (Some (kind_of fs n h)) (hook_among fs name (n + 1) hs) ≡ Some k → (b || has_name (map (λ h. h.name) hs) name) ≡ true
    go true later is = refl
    go false later is = later is

-- the hook of an instance that is found
pub record HasHook (p : Program) (m : Mounted) (name : Name) : Type 0 where
  pub named : has_name (hooks_at p m.component) name ≡ true
  pub each : length m.initials ≡ length (hooks_at p m.component)

hook_of_component : (p : Program) (c : ℕ) (d : Component) (name : Name) (k : HookKind) → component_at p c ≡ Some d → hook_named p c name ≡ Some k
    → has_name (hook_names d) name ≡ true
hook_of_component p c d name k at is =
    let here : hook_among (function_names p) name 0 (hooks_of d) ≡ Some k =
    subst (λ (o : Option Component). option_and_then (λ c. hook_among (function_names p) name 0 (hooks_of c)) o ≡ Some k) at is in
    among_named (function_names p) name 0 (hooks_of d) k here

-- what is known of the component that a path ends at
target_hook : (p : Program) (path : Path) (name : Name) (k : HookKind) → hook_at p path name ≡ Some k → (c : ℕ) × (target_of p path ≡ Some c) × (hook_named p c name ≡ Some k)
target_hook p path name k is = go (target_of p path) is
  where
    go : (o : Option ℕ) → option_and_then (λ c. hook_named p c name) o ≡ Some k → (c : ℕ) × (o ≡ Some c) × (hook_named p c name ≡ Some k)
    go None is = cc
    go (Some c) is = (c, refl, is)

-- the instance that a path leads to has the hook of that name, if the path ends at a component that has it
pub found_hook : (p : Program) → IsAccepted p → (all : List Mounted) → ((k : ℕ) (m : Mounted) → slice_get all k ≡ Some m → HasHooks p m.component m.initials)
    → (path : Path) (name : Name) (k : HookKind) → hook_at p path name ≡ Some k → (m : Mounted) → find_from p all None path ≡ Some m → HasHook p m name
found_hook p a all hooks [] name k is m led = cc
found_hook p a all hooks (part ∷ parts) name k is m led =
    let found = find_led p all None part parts m led in
    let has = hooks found.place m found.there in
    let named : has.of.name ≡ last_name part parts =
    (bytes_eq-Decides has.of.name (last_name part parts)).0
    (subst (λ (o : Option Component). bytes_eq (option_map_or (λ d. d.name) o []) (last_name part parts) ≡ true) has.is found.named) in
    let target = target_hook p (part ∷ parts) name k is in
    let at : position (bytes_eq (last_name part parts)) (component_names p) ≡ Some target.0 = target_ends p part parts target.0 target.1 in
    let here : position (bytes_eq (last_name part parts)) (component_names p) ≡ Some m.component = found_by_name p a m.component has.of (last_name part parts) has.is named in
    let same : target.0 ≡ m.component = cc in
    let known : hook_named p m.component name ≡ Some k = subst (λ n. hook_named p n name ≡ Some k) same target.2 in
    record {
      named = subst (λ (o : Option Component). has_name (option_map_or hook_names o []) name ≡ true) (sym has.is) (hook_of_component p m.component has.of name k has.is known);
      each = subst (λ (o : Option Component). length m.initials ≡ length (option_map_or hook_names o [])) (sym has.is) (has.each ∙ sym (length-map (hooks_of has.of) (λ (h : StateHook). h.name)));
    }

-- ---- dispatches

state_some : (o : Option HookKind) → is_state o ≡ true → (k : HookKind) × (o ≡ Some k)
state_some None is = cc
state_some (Some k) is = (k, refl)

reducer_some : (o : Option HookKind) → is_reducer o ≡ true → (k : HookKind) × (o ≡ Some k)
reducer_some None is = cc
reducer_some (Some k) is = (k, refl)

flag_some : (o : Option HookKind) → is_flag o ≡ true → (k : HookKind) × (o ≡ Some k)
flag_some None is = cc
flag_some (Some k) is = (k, refl)

-- a dispatch that can be taken, and has a path, names a hook of the component that the path ends at
pub dispatch_hook : (p : Program) (d : Dispatch) → CanTake p (step.Dispatch d) → (path_of d ≡ [] → ⊥) → (k : HookKind) × (hook_at p (path_of d) (hook_name d) ≡ Some k)
dispatch_hook p (Set word path name x) can some = state_some (hook_at p path name) can.0
dispatch_hook p (Call word path name f x) can some = state_some (hook_at p path name) (both (is_state (hook_at p path name)) _ can.0).0
dispatch_hook p (Send word path name x) can some = reducer_some (hook_at p path name) can.0
dispatch_hook p (Start word path name) can some = flag_some (hook_at p path name) can.0
dispatch_hook p (Refresh word name) can some = absurd (some refl)
