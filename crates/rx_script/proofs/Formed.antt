-- What a line is, from what is read of its form.
use Rattle.std.proofs.Common.{◌≡◌, ◌∙◌, sym, ap, ℕ, pos, ◌<◌, Bool, true, false, cond, ◌&&◌, ◌==◌, nat_le, bytes_eq, List, [], ◌∷◌, map, length, Option, Some, None, option_map, refl, arith}
use Rattle.std.specs.Prelude.{position, option_and_then}
use Rattle.std.specs.Borrow.{Bor}
use Rattle.rx_base.specs.Values.{Name, Text}
use Rattle.rx_ast.specs.Syntax.{Program}
use Rattle.rx_rules.specs.Names.{component_names, root_name}
use Rattle.rx_check.specs.Tables.{hook_named}
use Rattle.rx_step.specs.declared.step.Dispatch.TheVariants.{Set, Call, Send, Start, Refresh}
use Rattle.rx_step.specs.declared.step.Step.{Step}
use Rattle.rx_step.specs.declared.step.Step.TheVariants as step
use Rattle.rx_script.specs.declared.form.Form.{Form}
use Rattle.rx_step.specs.Steps.{Path}
use Rattle.rx_script.specs.Lines.{form_of, meant, formed, bad, good, bad_line, unknown_target, out_of_range, has_targets, in_bounds, is_integer, path_in_bounds, step_limit, target_from, target_of, hook_at, is_state, is_reducer, is_flag, is_updater}
use Rattle.rx_script.specs.Readings.{held_path, held_step, reading, form_in_bounds, target_in}
use Rattle.rx_script.proofs.Bounds.{zero-fits, fits-held, limit-held, one-held, path-held, held-small, held-path-small, held_value-small, both-true}

-- The targets of a step are those of the step with held numbers.

by-next : {A : Type 0} (f g : ℕ → Option A) (o : Option ℕ) → ((d : ℕ) → f d ≡ g d) → option_and_then f o ≡ option_and_then g o
by-next f g None same = refl
by-next f g (Some d) same = same d

target_from-held : (p : Program) (c : ℕ) (path : Path) → target_from p c (held_path path) ≡ target_from p c path
target_from-held p c [] = refl
target_from-held p c ((name, k) ∷ path) =
    by-next (λ d. target_from p d (held_path path)) (λ d. target_from p d path) (position (bytes_eq name) (component_names p))
    (λ d. target_from-held p d path)

pub target-held : (p : Program) (path : Path) → target_of p (held_path path) ≡ target_of p path
target-held p [] = refl
target-held p ((name, k) ∷ path) =
    ap (λ o. cond (bytes_eq name root_name) o None)
    (by-next (λ c. target_from p c (held_path path)) (λ c. target_from p c path) (position (bytes_eq name) (component_names p))
    (λ c. target_from-held p c path))

hook-held : (p : Program) (path : Path) (name : Name) → hook_at p (held_path path) name ≡ hook_at p path name
hook-held p path name = ap (λ o. option_and_then (λ c. hook_named p c name) o) (target-held p path)

targets-held : (p : Program) (s : Step) → has_targets p (held_step s) ≡ has_targets p s
targets-held p (step.Dispatch (Set lane path name x)) = ap is_state (hook-held p path name)
targets-held p (step.Dispatch (Call lane path name f x)) = ap (λ h. is_state h && is_updater p f) (hook-held p path name)
targets-held p (step.Dispatch (Send lane path name x)) = ap is_reducer (hook-held p path name)
targets-held p (step.Dispatch (Start lane path name)) = ap is_flag (hook-held p path name)
targets-held p (step.Dispatch (Refresh lane name)) = refl
targets-held p (step.Resolve name x) = refl
targets-held p (step.Tick n) = refl
targets-held p (step.Work n) = refl
targets-held p step.Flush = refl
targets-held p step.FlushSync = refl
targets-held p step.Passive = refl
targets-held p step.Event = refl
targets-held p step.State = refl
targets-held p step.Tree = refl

target-step : (p : Program) (s : Step) → target_in p (held_step s) ≡ target_in p s
target-step p (step.Dispatch (Set lane path name x)) = target-held p path
target-step p (step.Dispatch (Call lane path name f x)) = target-held p path
target-step p (step.Dispatch (Send lane path name x)) = target-held p path
target-step p (step.Dispatch (Start lane path name)) = target-held p path
target-step p (step.Dispatch (Refresh lane name)) = refl
target-step p (step.Resolve name x) = refl
target-step p (step.Tick n) = refl
target-step p (step.Work n) = refl
target-step p step.Flush = refl
target-step p step.FlushSync = refl
target-step p step.Passive = refl
target-step p step.Event = refl
target-step p step.State = refl
target-step p step.Tree = refl

-- What was read is in bounds if the step is.

and_true : (a : Bool) → (a && true) ≡ a
and_true true = refl
and_true false = refl

bounds-held : (p : Program) (s : Step) → form_in_bounds p (reading p s) ≡ in_bounds p s
bounds-held p (step.Dispatch (Set lane path name x)) = rw (fits-held p x, path-held p path) refl
bounds-held p (step.Dispatch (Call lane path name f x)) = rw (fits-held p x, path-held p path) refl
bounds-held p (step.Dispatch (Send lane path name x)) = rw (fits-held p x, path-held p path) refl
bounds-held p (step.Dispatch (Start lane path name)) = rw (zero-fits p, path-held p path) refl
bounds-held p (step.Dispatch (Refresh lane name)) = rw (zero-fits p) refl
bounds-held p (step.Resolve name x) = and_true _ ∙ fits-held p x
bounds-held p (step.Tick n) = rw (zero-fits p) (limit-held n)
bounds-held p (step.Work n) = rw (zero-fits p, one-held n, limit-held n) refl
bounds-held p step.Flush = rw (zero-fits p) refl
bounds-held p step.FlushSync = rw (zero-fits p) refl
bounds-held p step.Passive = rw (zero-fits p) refl
bounds-held p step.Event = rw (zero-fits p) refl
bounds-held p step.State = rw (zero-fits p) refl
bounds-held p step.Tree = rw (zero-fits p) refl

-- A step in bounds is the step with held numbers.

step-held : (p : Program) (s : Step) → in_bounds p s ≡ true → held_step s ≡ s
step-held p (step.Dispatch (Set lane path name x)) is =
    let both = both-true (is_integer p x) (path_in_bounds p path) is in
    let here = held-path-small p path both.1 in
    let value = held_value-small p x both.0 in rw (here, value) refl
step-held p (step.Dispatch (Call lane path name f x)) is =
    let both = both-true (is_integer p x) (path_in_bounds p path) is in
    let here = held-path-small p path both.1 in
    let value = held_value-small p x both.0 in rw (here, value) refl
step-held p (step.Dispatch (Send lane path name x)) is =
    let both = both-true (is_integer p x) (path_in_bounds p path) is in
    let here = held-path-small p path both.1 in
    let value = held_value-small p x both.0 in rw (here, value) refl
step-held p (step.Dispatch (Start lane path name)) is =
    let both = both-true (is_integer p (pos 0)) (path_in_bounds p path) is in
    let here = held-path-small p path both.1 in rw here refl
step-held p (step.Dispatch (Refresh lane name)) is = refl
step-held p (step.Resolve name x) is = ap (λ y. step.Resolve name y) (held_value-small p x is)
step-held p (step.Tick n) is = ap (λ k. step.Tick k) (held-small n step_limit (omega arith) is)
step-held p (step.Work n) is =
    let both = both-true (nat_le 1 n) (nat_le n step_limit) is in ap (λ k. step.Work k) (held-small n step_limit (omega arith) both.1)
step-held p step.Flush is = refl
step-held p step.FlushSync is = refl
step-held p step.Passive is = refl
step-held p step.Event is = refl
step-held p step.State is = refl
step-held p step.Tree is = refl

-- What the words of a line are

-- the words that slices of a line are
abbrev pub texts : List (Bor Text) → List Text
texts ws = map (λ w. w.now) ws

-- a list that is not empty
pub some-length : (ws : List (Bor Text)) → false ≡ (length ws == 0) → 0 < length ws
some-length [] some = cc
some-length (w ∷ ws) some = omega arith

meant-words : (p : Program) (ws : List (Bor Text)) → 0 < length ws → meant p (texts ws) ≡ formed p (form_of (texts ws))
meant-words p [] some = absurd (omega arith)
meant-words p (w ∷ ws) some = refl

pub words-no_form : (p : Program) (ws : List (Bor Text)) → 0 < length ws → None ≡ option_map (reading p) (form_of (texts ws)) → meant p (texts ws) ≡ bad bad_line
words-no_form p ws some is = meant-words p ws some ∙ by_form (form_of (texts ws)) is where
  by_form : (o : Option Step) → None ≡ option_map (reading p) o → formed p o ≡ bad bad_line
  by_form None e = refl
  by_form (Some s) e = cc

targets-of : (p : Program) (s : Step) (f : Form) → Some f ≡ option_map (reading p) (Some s) → has_targets p f.step ≡ has_targets p s
targets-of p s f is = let same : f ≡ reading p s = cc in rw same (targets-held p s)

-- the component of a form is the one that the path of its step ends at
pub form-target : (p : Program) (o : Option Step) (f : Form) → Some f ≡ option_map (reading p) o → f.target ≡ target_in p f.step
form-target p None f is = cc
form-target p (Some s) f is = let same : f ≡ reading p s = cc in rw same (sym (target-step p s))

bounds-of : (p : Program) (s : Step) (f : Form) → Some f ≡ option_map (reading p) (Some s) → form_in_bounds p f ≡ in_bounds p s
bounds-of p s f is = let same : f ≡ reading p s = cc in rw same (bounds-held p s)

pub words-no_target : (p : Program) (ws : List (Bor Text)) (f : Form) → 0 < length ws → Some f ≡ option_map (reading p) (form_of (texts ws))
    → has_targets p f.step ≡ false → meant p (texts ws) ≡ bad unknown_target
words-no_target p ws f some is targets = meant-words p ws some ∙ by_form (form_of (texts ws)) is where
  by_form : (o : Option Step) → Some f ≡ option_map (reading p) o → formed p o ≡ bad unknown_target
  by_form None e = cc
  by_form (Some s) e = let no : has_targets p s ≡ false = sym (targets-of p s f e) ∙ targets in rw no refl

pub words-out : (p : Program) (ws : List (Bor Text)) (f : Form) → 0 < length ws → Some f ≡ option_map (reading p) (form_of (texts ws))
    → has_targets p f.step ≡ true → form_in_bounds p f ≡ false → meant p (texts ws) ≡ bad out_of_range
words-out p ws f some is targets bounds = meant-words p ws some ∙ by_form (form_of (texts ws)) is where
  by_form : (o : Option Step) → Some f ≡ option_map (reading p) o → formed p o ≡ bad out_of_range
  by_form None e = cc
  by_form (Some s) e =
      let there : has_targets p s ≡ true = sym (targets-of p s f e) ∙ targets in
      let out : in_bounds p s ≡ false = sym (bounds-of p s f e) ∙ bounds in rw (there, out) refl

pub words-step : (p : Program) (ws : List (Bor Text)) (f : Form) → 0 < length ws → Some f ≡ option_map (reading p) (form_of (texts ws))
    → has_targets p f.step ≡ true → form_in_bounds p f ≡ true → meant p (texts ws) ≡ good f.step
words-step p ws f some is targets bounds = meant-words p ws some ∙ by_form (form_of (texts ws)) is where
  by_form : (o : Option Step) → Some f ≡ option_map (reading p) o → formed p o ≡ good f.step
  by_form None e = cc
  by_form (Some s) e =
      let there : has_targets p s ≡ true = sym (targets-of p s f e) ∙ targets in
      let within : in_bounds p s ≡ true = sym (bounds-of p s f e) ∙ bounds in
      let same : f ≡ reading p s = cc in
      let step_is : s ≡ f.step = sym (ap (λ (g : Form). g.step) same ∙ step-held p s within) in rw (there, within) (ap good step_is)
