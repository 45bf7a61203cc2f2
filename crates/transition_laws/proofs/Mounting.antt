-- The value of a flag at mount is 0.
use Rattle.std.specs.Prelude.{◌≡◌, ℕ, ℤ, zero, suc, pos, Bool, true, false, if◌then◌else◌, Option, Some, None, List, [], ◌∷◌, ◌++◌, filter_map, refl, slice_get}
use Rattle.std.specs.List.{cons_option}
use Rattle.std.specs.Option.{option_map_or}
use Rattle.std.proofs.Common.{append-nil, append_assoc, subst, sym, ◌∙◌}
use Rattle.rx_ast.specs.Syntax.{Component, Program, Statement, body_slots, constant, context, effect, reducer, state, throw_if, transition, use_resource}
use Rattle.rx_rules.specs.Names.{StateHook, component_at, hook_in, hooks_of}
use Rattle.rx_base.specs.Arithmetic.{is_zero}
use Rattle.rx_elem.specs.Elements.{Element}
use Rattle.rx_elem.specs.declared.effect.ContextRead.{ContextRead}
use Rattle.rx_elem.specs.declared.effect.VersionRead.{VersionRead}
use Rattle.rx_elem.specs.declared.effect.EffectRecord.{EffectRecord}
use Rattle.rx_meaning.specs.Expressions.{value_in}
use Rattle.rx_meaning.specs.Body.{Frame, Inputs, Taken, and_then, body_of, finished, opening_frame, ready, stopped_at, take_all, take_one, taken, thrown, with_hook, with_resource, with_throw}
use Rattle.transition_laws.specs.Flags.{flags_a_transition, is_flag_among}

-- of these hooks, each flag has the value 0 at mount
abbrev pub FlagsBegin : List StateHook → List ℤ → Type 0
FlagsBegin [] xs = Unit {0}
FlagsBegin (h ∷ hs) [] = Unit {0}
FlagsBegin (h ∷ hs) (x ∷ xs) = (h.flag ≡ true → x ≡ pos 0) × FlagsBegin hs xs

-- as many hooks as values, of which each flag has 0
abbrev AreGiven : List StateHook → List ℤ → Type 0
AreGiven [] [] = Unit {0}
AreGiven [] (x ∷ xs) = ⊥
AreGiven (h ∷ hs) [] = ⊥
AreGiven (h ∷ hs) (x ∷ xs) = (h.flag ≡ true → x ≡ pos 0) × AreGiven hs xs

given_begin : (hs : List StateHook) (xs : List ℤ) → AreGiven hs xs → FlagsBegin hs xs
given_begin [] xs h = tt
given_begin (k ∷ hs) [] h = tt
given_begin (k ∷ hs) (x ∷ xs) h = (h.0, given_begin hs xs h.1)

given_more : (hs : List StateHook) (xs : List ℤ) (k : StateHook) (x : ℤ) → (k.flag ≡ true → x ≡ pos 0) → AreGiven hs xs → AreGiven (hs ++ k ∷ []) (xs ++ x ∷ [])
given_more [] [] k x f h = (f, tt)
given_more [] (y ∷ ys) k x f h = absurd h
given_more (j ∷ hs) [] k x f h = absurd h
given_more (j ∷ hs) (y ∷ ys) k x f h = (h.0, given_more hs ys k x f h.1)

-- what statements have given
abbrev HaveGiven : List StateHook → Taken → Type 0
HaveGiven hs (stopped_at r v) = Unit {0}
HaveGiven hs (thrown x) = Unit {0}
HaveGiven hs (taken f) = AreGiven hs f.initials

-- hooks with one more, if it is one
abbrev and_own : List StateHook → Option StateHook → List StateHook
and_own hs None = hs
and_own hs (Some k) = hs ++ k ∷ []

hook_given : (states : Option (List ℤ)) (name : _) (x : ℤ) (f : Frame) (hs : List StateHook) (k : StateHook) → states ≡ None → (k.flag ≡ true → x ≡ pos 0) → AreGiven hs f.initials
    → AreGiven (hs ++ k ∷ []) (with_hook states name x f).initials
hook_given None name x f hs k e zero_at h = given_more hs f.initials k x zero_at h
hook_given (Some states) name x f hs k e zero_at h = absurd (cc e)

resource_given : (name : _) (r v : ℕ) (x : Option ℤ) (f : Frame) (hs : List StateHook) → AreGiven hs f.initials → HaveGiven hs (with_resource name r v x f)
resource_given name r v None f hs h = tt
resource_given name r v (Some x) f hs h = h

throw_given : (x : ℤ) (f : Frame) (hs : List StateHook) → AreGiven hs f.initials → HaveGiven hs (with_throw x f)
throw_given x f hs h = go (is_zero x)
  where
    go : (z : Bool) → HaveGiven hs (if z then taken f else thrown x)
    go true = h
    go false = tt

one_given : (p : Program) (i : Inputs) (t : Statement) (f : Frame) (hs : List StateHook) → i.hooks ≡ None → AreGiven hs f.initials → HaveGiven (and_own hs (hook_in t)) (take_one p i t f)
one_given p i (state name setter e) f hs new h = hook_given i.hooks name _ f hs _ new (λ k. absurd (cc k)) h
one_given p i (reducer name setter function e) f hs new h = hook_given i.hooks name _ f hs _ new (λ k. absurd (cc k)) h
one_given p i (transition name starter) f hs new h = hook_given i.hooks name (pos 0) f hs _ new (λ k. refl) h
one_given p i (context name source) f hs new h = h
one_given p i (use_resource name resource) f hs new h = resource_given name _ _ _ f hs h
one_given p i (constant name e) f hs new h = h
one_given p i (effect layout label es) f hs new h = h
one_given p i (throw_if e) f hs new h = throw_given (value_in p f.env e) f hs h

all_given : (p : Program) (i : Inputs) (ts : List Statement) (f : Frame) (hs : List StateHook) → i.hooks ≡ None → AreGiven hs f.initials → HaveGiven (hs ++ filter_map hook_in ts) (take_all p i ts f)
all_given p i [] f hs new h = subst (λ (ks : List StateHook). AreGiven ks f.initials) (sym (append-nil hs)) h
all_given p i (t ∷ ts) f hs new h = go (take_one p i t f) (one_given p i t f hs new h) (λ g k. all_given p i ts g (and_own hs (hook_in t)) new k)
  where
    joined : (o : Option StateHook) → and_own hs o ++ filter_map hook_in ts ≡ hs ++ cons_option o (filter_map hook_in ts)
    joined None = refl
    joined (Some k) = append_assoc hs (k ∷ []) (filter_map hook_in ts)

    go : (x : Taken) → HaveGiven (and_own hs (hook_in t)) x
        → ((g : Frame) → AreGiven (and_own hs (hook_in t)) g.initials → HaveGiven (and_own hs (hook_in t) ++ filter_map hook_in ts) (take_all p i ts g))
        → HaveGiven (hs ++ filter_map hook_in (t ∷ ts)) (and_then x (take_all p i ts))
    go (stopped_at r v) k rest = tt
    go (thrown x) k rest = tt
    go (taken g) k rest = subst (λ (ks : List StateHook). HaveGiven ks (take_all p i ts g)) (joined (hook_in t)) (rest g k)

-- At its mount each flag of an instance has the value 0.
pub mount_begins : (p : Program) (d : Component) (i : Inputs) → i.hooks ≡ None
    → (es : List Element) (effects : List EffectRecord) (initials : List ℤ) (reads : List ContextRead) (versions : List VersionRead)
    → body_of p d i ≡ ready es effects initials reads versions → FlagsBegin (hooks_of d) initials
unfolding body_of
mount_begins p d i new es effects initials reads versions is = go (take_all p i d.statements (opening_frame d i.props)) (all_given p i d.statements (opening_frame d i.props) [] new tt) is
  where
    go : (x : Taken) → HaveGiven (filter_map hook_in d.statements) x → finished p i (body_slots d.body) x ≡ ready es effects initials reads versions → FlagsBegin (hooks_of d) initials
    go (stopped_at r v) h e = absurd (cc e)
    go (thrown x) h e = absurd (cc e)
    go (taken f) h e = let same : f.initials ≡ initials = cc in subst (FlagsBegin (hooks_of d)) same (given_begin (hooks_of d) f.initials h)

-- the value at the place of a flag
at_flag : (hs : List StateHook) (xs : List ℤ) → FlagsBegin hs xs → (k : ℕ) (x : ℤ) → is_flag_among hs k ≡ true → slice_get xs k ≡ Some x → x ≡ pos 0
at_flag [] xs h k x flag at = absurd (cc flag)
at_flag (j ∷ hs) [] h k x flag at = absurd (cc at)
at_flag (j ∷ hs) (y ∷ ys) h zero x flag at = let same : y ≡ x = cc in sym same ∙ h.0 flag
at_flag (j ∷ hs) (y ∷ ys) h (suc k) x flag at = at_flag hs ys h.1 k x flag at

-- what the values of an instance of a component are at mount
abbrev pub Begins : Program → (component : ℕ) → List ℤ → Type 0
Begins p c xs = (d : Component) → component_at p c ≡ Some d → FlagsBegin (hooks_of d) xs

-- So a flag's is 0.
pub flag_begins : (p : Program) (c : ℕ) (xs : List ℤ) → Begins p c xs → (k : ℕ) (x : ℤ) → flags_a_transition p c k ≡ true → slice_get xs k ≡ Some x → x ≡ pos 0
flag_begins p c xs h k x flag at = go (component_at p c) refl flag
  where
    go : (o : Option Component) → component_at p c ≡ o → is_flag_among (option_map_or hooks_of o []) k ≡ true → x ≡ pos 0
    go None is f = absurd (cc f)
    go (Some d) is f = at_flag (hooks_of d) xs (h d is) k x f at
