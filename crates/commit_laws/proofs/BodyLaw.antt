-- A body depends on its contexts and versions by what it reads alone, and gives the same once it is mounted and once more resources have values.
use Rattle.std.specs.List.{list_any}
use Rattle.std.specs.Option.{option_eq}
use Rattle.std.specs.Ordering.{int_eq}
use Rattle.std.specs.Prelude.{Bool, List, None, Option, Some, [], false, length, map, nat_eq, nat_lt, not, pos, refl, if◌then◌else◌, slice_get, slice_index_or, suc, true, zero, ℕ, ℤ, ◌++◌, ◌+◌, ◌<◌, ◌∷◌, ◌≡◌}
use Rattle.std.proofs.Common.{ap, append-nil, append_assoc, arith, subst, sym, ◌∙◌}
use Rattle.std.proofs.lemmas.Bool.Decides.{Decides-int_eq, nat_tests}
use Rattle.std.proofs.lemmas.List.{length-append}
use Rattle.rx_base.specs.Arithmetic.{is_zero}
use Rattle.rx_ast.specs.Syntax.{Component, Program, Statement, body_slots, constant, context, contexts, effect, reducer, state, throw_if, transition, use_resource}
use Rattle.rx_rules.specs.Names.{context_number, resource_number, resources}
use Rattle.rx_elem.specs.Elements.{Element}
use Rattle.rx_elem.specs.declared.effect.ContextRead.{ContextRead}
use Rattle.rx_elem.specs.declared.effect.EffectRecord.{EffectRecord}
use Rattle.rx_elem.specs.declared.effect.VersionRead.{VersionRead}
use Rattle.rx_queue.specs.Journal.{Resolution, value_in as value_by, values_at}
use Rattle.rx_meaning.specs.Body.{Body, Frame, Inputs, Taken, and_then, body_of, bound, elements_of, finished, opening_frame, ready, stopped_at, take_all, take_one, taken, throw, thrown, wait, with_hook, with_resource, with_throw}
use Rattle.rx_meaning.specs.Expressions.{value_in}
use Rattle.rx_meaning.specs.Fresh.{before, resource_numbers}
use Rattle.rx_meaning.specs.Touched.{is_read_anew}
use Rattle.rx_meaning.specs.Settled.{HasValuesOf, read_anew, refreshed}
use Rattle.rx_rules.specs.Reads.{AllDeclared, IsDeclared}
use Rattle.rx_elem.proofs.Deciding.{or_fails, same_itself, same_number}
use Rattle.commit_laws.proofs.Versions.{value_at, value_there, version_at}

-- one list begins another
abbrev pub Begins : {X : Type 0} → List X → List X → Type 0
Begins {X = X} xs ys = (more : List X) × (ys ≡ xs ++ more)

begins_itself : {X : Type 0} (xs : List X) → Begins xs xs
begins_itself xs = ([], sym (append-nil xs))

begins_through : {X : Type 0} (xs ys zs : List X) → Begins xs ys → Begins ys zs → Begins xs zs
begins_through xs ys zs (a, same) (b, also) = (a ++ b, also ∙ (ap (λ l. l ++ b) same ∙ append_assoc xs a b))

-- what statements give begins with what was given before them
record Grows (f g : Frame) : Type 0 where
  initials : Begins f.initials g.initials
  reads : Begins f.reads g.reads
  versions : Begins f.versions g.versions

abbrev IfTaken : (Frame → Type 0) → Taken → Type 0
IfTaken P (stopped_at r v) = Unit {0}
IfTaken P (thrown x) = Unit {0}
IfTaken P (taken g) = P g

both_taken : {P Q R : Frame → Type 0} (t : Taken) → IfTaken P t → IfTaken Q t → ((g : Frame) → P g → Q g → R g) → IfTaken R t
both_taken (stopped_at r v) h k f = tt
both_taken (thrown x) h k f = tt
both_taken (taken g) h k f = f g h k

grows_itself : (f : Frame) → Grows f f
grows_itself f = record { initials = begins_itself f.initials; reads = begins_itself f.reads; versions = begins_itself f.versions }

grows_through : (f g h : Frame) → Grows f g → Grows g h → Grows f h
grows_through f g h k l =
    record {
      initials = begins_through f.initials g.initials h.initials k.initials l.initials;
      reads = begins_through f.reads g.reads h.reads k.reads l.reads;
      versions = begins_through f.versions g.versions h.versions k.versions l.versions;
    }

hook_grows : (states : Option (List ℤ)) (name : _) (v : ℤ) (f : Frame) → Grows f (with_hook states name v f)
hook_grows None name v f = record { initials = (v ∷ [], refl); reads = begins_itself f.reads; versions = begins_itself f.versions }
hook_grows (Some states) name v f = record { initials = begins_itself f.initials; reads = begins_itself f.reads; versions = begins_itself f.versions }

resource_grows : (name : _) (r v : ℕ) (x : Option ℤ) (f : Frame) → IfTaken (Grows f) (with_resource name r v x f)
resource_grows name r v None f = tt
resource_grows name r v (Some x) f =
    record { initials = begins_itself f.initials; reads = begins_itself f.reads; versions = ((record { resource = r; version = v }) ∷ [], refl) }

-- a statement that throws changes nothing unless it does
throw_takes : (P : Frame → Type 0) (x : ℤ) (f : Frame) → P f → IfTaken P (with_throw x f)
throw_takes P x f h = go (is_zero x)
  where
    go : (b : Bool) → IfTaken P (if b then taken f else thrown x)
    go true = h
    go false = tt

throw_same : (x : ℤ) (f : Frame) → IfTaken (λ g. with_throw x f ≡ taken g) (with_throw x f)
throw_same x f = go (is_zero x) refl
  where
    go : (b : Bool) → is_zero x ≡ b → IfTaken (λ g. with_throw x f ≡ taken g) (if b then taken f else thrown x)
    go true e = rw e refl
    go false e = tt

one_grows : (p : Program) (i : Inputs) (s : Statement) (f : Frame) → IfTaken (Grows f) (take_one p i s f)
one_grows p i (state name setter e) f = hook_grows i.hooks name (value_in p f.env e) f
one_grows p i (reducer name setter function e) f = hook_grows i.hooks name (value_in p f.env e) f
one_grows p i (transition name starter) f = hook_grows i.hooks name (pos 0) f
one_grows p i (context name source) f =
    record { initials = begins_itself f.initials; reads = ((record { context = context_number p source; value = slice_index_or i.contexts (context_number p source) (pos 0) }) ∷ [], refl); versions = begins_itself f.versions }
one_grows p i (use_resource name resource) f =
    resource_grows name (resource_number p resource) (slice_index_or i.versions (resource_number p resource) 0) (slice_index_or i.resources (resource_number p resource) None) f
one_grows p i (constant name e) f = record { initials = begins_itself f.initials; reads = begins_itself f.reads; versions = begins_itself f.versions }
one_grows p i (effect layout label depends) f = record { initials = begins_itself f.initials; reads = begins_itself f.reads; versions = begins_itself f.versions }
one_grows p i (throw_if e) f = throw_takes (Grows f) (value_in p f.env e) f (grows_itself f)

all_grow : (p : Program) (i : Inputs) (ss : List Statement) (f : Frame) → IfTaken (Grows f) (take_all p i ss f)
all_grow p i [] f = grows_itself f
all_grow p i (s ∷ ss) f = go (take_one p i s f) (one_grows p i s f) (all_grow p i ss)
  where
    go : (t : Taken) → IfTaken (Grows f) t → ((g : Frame) → IfTaken (Grows g) (take_all p i ss g)) → IfTaken (Grows f) (and_then t (take_all p i ss))
    go (stopped_at r v) h k = tt
    go (thrown x) h k = tt
    go (taken g) h k = both_taken {P = Grows g} {Q = Grows g} (take_all p i ss g) (k g) (k g) (λ m a b. grows_through f g m h a)

-- Contexts, versions and resources

pushed_fails : {X : Type 0} (test : X → Bool) (xs : List X) (x : X) (more : List X) → list_any test ((xs ++ x ∷ []) ++ more) ≡ false → test x ≡ false
pushed_fails test [] x more h = (or_fails (test x) (list_any test more) h).0
pushed_fails test (y ∷ ys) x more h = pushed_fails test ys x more (or_fails (test y) (list_any test ((ys ++ x ∷ []) ++ more)) h).1

pub not_false : (b : Bool) → not b ≡ false → b ≡ true
not_false true h = refl
not_false false h = absurd (cc h)

same_option : (o : Option ℤ) (x : ℤ) → option_eq int_eq o (Some x) ≡ true → o ≡ Some x
same_option None x h = absurd (cc h)
same_option (Some y) x h = ap Some ((Decides-int_eq y x).0 h)

got_value : (cs : List ℤ) (c : ℕ) (x : ℤ) → slice_get cs c ≡ Some x → slice_index_or cs c (pos 0) ≡ x
got_value [] c x h = absurd (cc h)
got_value (y ∷ ys) zero x h = cc
got_value (y ∷ ys) (suc c) x h = got_value ys c x h

-- other contexts, versions and resources agree with what a frame took
pub record Agrees (i : Inputs) (cs : List ℤ) (version : ℕ → ℕ) (vs : List ℕ) (res : List (Option ℤ)) (reads : List ContextRead) (versions : List VersionRead) : Type 0 where
  pub contexts_agree : read_anew cs reads ≡ false
  pub versions_agree : refreshed version versions ≡ false
  pub resources_agree : (r : ℕ) (x : ℤ) → slice_index_or i.resources r None ≡ Some x → version r ≡ slice_index_or i.versions r 0
      → (slice_index_or vs r 0 ≡ slice_index_or i.versions r 0) × (slice_index_or res r None ≡ Some x)

-- the versions and values of a program's resources agree with those of before, if versions keep their values
pub agreeing : (p : Program) (i : Inputs) (cs : List ℤ) (was version : ℕ → ℕ) (rs more : List Resolution)
    → i.versions ≡ map was (resource_numbers p) → i.resources ≡ values_at rs (map was (resource_numbers p)) → HasValuesOf rs more
    → (reads : List ContextRead) (versions : List VersionRead) → read_anew cs reads ≡ false → refreshed version versions ≡ false
    → Agrees i cs version (map version (resource_numbers p)) (values_at more (map version (resource_numbers p))) reads versions
agreeing p i cs was version rs more are have kept reads versions contexts_agree versions_agree =
    record { contexts_agree = contexts_agree; versions_agree = versions_agree; resources_agree = agree }
  where
    n : ℕ
    n = length (resources p)

    agree : (r : ℕ) (x : ℤ) → slice_index_or i.resources r None ≡ Some x → version r ≡ slice_index_or i.versions r 0
        → (slice_index_or (map version (resource_numbers p)) r 0 ≡ slice_index_or i.versions r 0)
        × (slice_index_or (values_at more (map version (resource_numbers p))) r None ≡ Some x)
    agree r x there same =
        let seen : slice_index_or (values_at rs (map was (resource_numbers p))) r None ≡ Some x = ap (λ (l : List (Option ℤ)). slice_index_or l r None) (sym have) ∙ there in
        let found = value_there rs was n r x seen in
        let now : version r ≡ was r = same ∙ (ap (λ (l : List ℕ). slice_index_or l r 0) are ∙ version_at was n r found.0) in (
          version_at version n r found.0 ∙ same,
          value_at more version n r found.0 ∙ (ap (value_by more r) now ∙ kept r (was r) x found.1),
        )

read_agrees : (cs : List ℤ) (reads : List ContextRead) (before : List ContextRead) (c : ℕ) (x : ℤ)
    → Begins (before ++ (record { context = c; value = x }) ∷ []) reads → read_anew cs reads ≡ false → slice_index_or cs c (pos 0) ≡ x
read_agrees cs reads before c x begins agree =
    let all : read_anew cs ((before ++ (record { context = c; value = x }) ∷ []) ++ begins.0) ≡ false = rw begins.1 at agree in
    let fails = pushed_fails (is_read_anew cs) before (record { context = c; value = x }) begins.0 all in
    got_value cs c x (same_option (slice_get cs c) x (not_false (option_eq int_eq (slice_get cs c) (Some x)) fails))

version_agrees : (version : ℕ → ℕ) (versions : List VersionRead) (before : List VersionRead) (r v : ℕ)
    → Begins (before ++ (record { resource = r; version = v }) ∷ []) versions → refreshed version versions ≡ false → version r ≡ v
version_agrees version versions before r v begins agree =
    let all : refreshed version ((before ++ (record { resource = r; version = v }) ∷ []) ++ begins.0) ≡ false = rw begins.1 at agree in
    let fails = pushed_fails (λ x. not (nat_eq (version x.resource) x.version)) before (record { resource = r; version = v }) begins.0 all in
    same_number (version r) v (not_false (nat_eq (version r) v) fails)

module _ (p : Program) (i : Inputs) (cs : List ℤ) (version : ℕ → ℕ) (vs : List ℕ) (res : List (Option ℤ)) where
  abbrev with_others : Inputs
  with_others = record i { contexts = cs; versions = vs; resources = res }

  -- a statement takes the same if what comes of it agrees
  abbrev OneAgrees : Statement → Frame → Frame → Type 0
  OneAgrees s f g1 = (g : Frame) → Grows g1 g → Agrees i cs version vs res g.reads g.versions → take_one p with_others s f ≡ taken g1

  resource_agrees : (name : _) (r : ℕ) (f : Frame) (x : Option ℤ) → slice_index_or i.resources r None ≡ x
      → IfTaken (λ g1. (g : Frame) → Grows g1 g → Agrees i cs version vs res g.reads g.versions → with_resource name r (slice_index_or vs r 0) (slice_index_or res r None) f ≡ taken g1)
      (with_resource name r (slice_index_or i.versions r 0) x f)
  resource_agrees name r f None same = tt
  resource_agrees name r f (Some x) same = λ g grows a.
      let both = a.resources_agree r x same (version_agrees version g.versions f.versions r (slice_index_or i.versions r 0) grows.versions a.versions_agree) in
      rw (both.0, both.1) refl

  one_agrees : (s : Statement) (f : Frame) → IfTaken (OneAgrees s f) (take_one p i s f)
  one_agrees (state name setter e) f = λ g grows a. refl
  one_agrees (reducer name setter function e) f = λ g grows a. refl
  one_agrees (transition name starter) f = λ g grows a. refl
  one_agrees (context name source) f =
      λ g grows a. rw (read_agrees cs g.reads f.reads (context_number p source)
      (slice_index_or i.contexts (context_number p source) (pos 0)) grows.reads a.contexts_agree) refl
  one_agrees (use_resource name resource) f =
      resource_agrees name (resource_number p resource) f (slice_index_or i.resources (resource_number p resource) None) refl
  one_agrees (constant name e) f = λ g grows a. refl
  one_agrees (effect layout label depends) f = λ g grows a. refl
  one_agrees (throw_if e) f =
      let same = throw_same (value_in p f.env e) f in
      both_taken {P = λ g1. with_throw (value_in p f.env e) f ≡ taken g1} {Q = λ g1. with_throw (value_in p f.env e) f ≡ taken g1} (with_throw (value_in p f.env e) f) same same
      (λ g1 is also g grows a. is)

  abbrev AllAgree : List Statement → Frame → Frame → Type 0
  AllAgree ss f g = Agrees i cs version vs res g.reads g.versions → take_all p with_others ss f ≡ taken g

  all_agree : (ss : List Statement) (f : Frame) → IfTaken (AllAgree ss f) (take_all p i ss f)
  all_agree [] f = λ a. refl
  all_agree (s ∷ ss) f = go (take_one p i s f) (one_agrees s f) (all_agree ss)
    where
      go : (t : Taken) → IfTaken (OneAgrees s f) t → ((g : Frame) → IfTaken (AllAgree ss g) (take_all p i ss g))
          → IfTaken (AllAgree (s ∷ ss) f) (and_then t (take_all p i ss))
      go (stopped_at r v) h k = tt
      go (thrown x) h k = tt
      go (taken g1) h k =
          both_taken {P = AllAgree ss g1} {Q = Grows g1} (take_all p i ss g1) (k g1) (all_grow p i ss g1)
          (λ g rest grows a. rw (h g grows a) (rest a))

  -- the same effects, reads and elements if what was taken agrees
  pub body_agrees : (c : Component) (es : List Element) (effects : List EffectRecord) (initials : List ℤ) (reads : List ContextRead) (versions : List VersionRead)
      → Agrees i cs version vs res reads versions → body_of p c i ≡ ready es effects initials reads versions → body_of p c with_others ≡ ready es effects initials reads versions
  unfolding body_of
  body_agrees c es effects initials reads versions a h = go (take_all p i c.statements (opening_frame c i.props)) (all_agree c.statements (opening_frame c i.props)) h
    where
      go : (t : Taken) → IfTaken (AllAgree c.statements (opening_frame c i.props)) t → finished p i (body_slots c.body) t ≡ ready es effects initials reads versions
          → finished p with_others (body_slots c.body) (take_all p with_others c.statements (opening_frame c i.props)) ≡ ready es effects initials reads versions
      go (stopped_at r v) k same = absurd (cc same)
      go (thrown x) k same = absurd (cc same)
      go (taken g) k same =
          let the_reads : reads ≡ g.reads = cc in
          let the_versions : versions ≡ g.versions = cc in
          let agrees : Agrees i cs version vs res g.reads versions = subst (λ (x : List ContextRead). Agrees i cs version vs res x versions) the_reads a in
          let again : take_all p with_others c.statements (opening_frame c i.props) ≡ taken g =
          k (subst (λ (x : List VersionRead). Agrees i cs version vs res g.reads x) the_versions agrees) in
          rw again same

-- Once it is mounted, with its initial values as its states, a body gives the same, but no initial values.

pushed_there : (xs : List ℤ) (v : ℤ) (more : List ℤ) (k : ℕ) → k ≡ length xs → slice_index_or ((xs ++ v ∷ []) ++ more) k (pos 0) ≡ v
pushed_there [] v more k same = rw same refl
pushed_there (x ∷ xs) v more zero same = absurd (omega arith)
pushed_there (x ∷ xs) v more (suc k) same = pushed_there xs v more k (omega arith)

module _ (p : Program) (i : Inputs) (initials : List ℤ) where
  abbrev at_mount : Inputs
  at_mount = record i { hooks = None }

  abbrev once_mounted : Inputs
  once_mounted = record i { hooks = Some initials }

  abbrev later : Frame → Frame
  later f = record f { initials = [] }

  -- as many hooks as initial values
  abbrev IsCounted : Frame → Type 0
  IsCounted f = f.hooks ≡ length f.initials

  hook_counted : (name : _) (v : ℤ) (f : Frame) → IsCounted f → IsCounted (with_hook None name v f)
  hook_counted name v f h = rw (h, length-append) (omega arith)

  resource_counted : (name : _) (r v : ℕ) (x : Option ℤ) (f : Frame) → IsCounted f → IfTaken IsCounted (with_resource name r v x f)
  resource_counted name r v None f h = tt
  resource_counted name r v (Some x) f h = h

  one_counted : (s : Statement) (f : Frame) → IsCounted f → IfTaken IsCounted (take_one p at_mount s f)
  one_counted (state name setter e) f h = hook_counted name (value_in p f.env e) f h
  one_counted (reducer name setter function e) f h = hook_counted name (value_in p f.env e) f h
  one_counted (transition name starter) f h = hook_counted name (pos 0) f h
  one_counted (context name source) f h = h
  one_counted (use_resource name resource) f h =
      resource_counted name (resource_number p resource) (slice_index_or i.versions (resource_number p resource) 0) (slice_index_or i.resources (resource_number p resource) None) f h
  one_counted (constant name e) f h = h
  one_counted (effect layout label depends) f h = h
  one_counted (throw_if e) f h = throw_takes IsCounted (value_in p f.env e) f h

  abbrev OneLater : Statement → Frame → Frame → Type 0
  OneLater s f g1 = (g : Frame) → Grows g1 g → Begins g.initials initials → take_one p once_mounted s (later f) ≡ taken (later g1)

  hook_later : (name : _) (v : ℤ) (f : Frame) → IsCounted f → (g : Frame) → Grows (with_hook None name v f) g → Begins g.initials initials
      → taken (with_hook (Some initials) name v (later f)) ≡ taken (later (with_hook None name v f))
  hook_later name v f h g grows begins =
      let whole = begins_through (f.initials ++ v ∷ []) g.initials initials grows.initials begins in
      let there : slice_index_or ((f.initials ++ v ∷ []) ++ whole.0) f.hooks (pos 0) ≡ v = pushed_there f.initials v whole.0 f.hooks h in
      let same : slice_index_or initials f.hooks (pos 0) ≡ v = ap (λ (xs : List ℤ). slice_index_or xs f.hooks (pos 0)) whole.1 ∙ there in
      ap (λ (x : ℤ). taken (bound name x (record f { hooks = f.hooks + 1; initials = [] }))) same

  resource_later : (name : _) (r v : ℕ) (f : Frame) (x : Option ℤ)
      → IfTaken (λ g1. (g : Frame) → Grows g1 g → Begins g.initials initials → with_resource name r v x (later f) ≡ taken (later g1)) (with_resource name r v x f)
  resource_later name r v f None = tt
  resource_later name r v f (Some x) = λ g grows begins. refl

  throw_later : (x : ℤ) (f : Frame)
      → IfTaken (λ g1. (g : Frame) → Grows g1 g → Begins g.initials initials → with_throw x (later f) ≡ taken (later g1)) (with_throw x f)
  throw_later x f = go (is_zero x) refl
    where
      go : (b : Bool) → is_zero x ≡ b
          → IfTaken (λ g1. (g : Frame) → Grows g1 g → Begins g.initials initials → with_throw x (later f) ≡ taken (later g1)) (if b then taken f else thrown x)
      go true e = λ g grows begins. rw e refl
      go false e = tt

  one_later : (s : Statement) (f : Frame) → IsCounted f → IfTaken (OneLater s f) (take_one p at_mount s f)
  one_later (state name setter e) f h = hook_later name (value_in p f.env e) f h
  one_later (reducer name setter function e) f h = hook_later name (value_in p f.env e) f h
  one_later (transition name starter) f h = hook_later name (pos 0) f h
  one_later (context name source) f h = λ g grows begins. refl
  one_later (use_resource name resource) f h =
      resource_later name (resource_number p resource) (slice_index_or i.versions (resource_number p resource) 0) f (slice_index_or i.resources (resource_number p resource) None)
  one_later (constant name e) f h = λ g grows begins. refl
  one_later (effect layout label depends) f h = λ g grows begins. refl
  one_later (throw_if e) f h = throw_later (value_in p f.env e) f

  abbrev AllLater : List Statement → Frame → Frame → Type 0
  AllLater ss f g = Begins g.initials initials → take_all p once_mounted ss (later f) ≡ taken (later g)

  all_later : (ss : List Statement) (f : Frame) → IsCounted f → IfTaken (AllLater ss f) (take_all p at_mount ss f)
  all_later [] f h = λ begins. refl
  all_later (s ∷ ss) f h = go (take_one p at_mount s f) (one_counted s f h) (one_later s f h) (all_later ss)
    where
      go : (t : Taken) → IfTaken IsCounted t → IfTaken (OneLater s f) t → ((g : Frame) → IsCounted g → IfTaken (AllLater ss g) (take_all p at_mount ss g))
          → IfTaken (AllLater (s ∷ ss) f) (and_then t (take_all p at_mount ss))
      go (stopped_at r v) c h k = tt
      go (thrown x) c h k = tt
      go (taken g1) c h k =
          both_taken {P = AllLater ss g1} {Q = Grows g1} (take_all p at_mount ss g1) (k g1 c) (all_grow p at_mount ss g1)
          (λ g rest grows begins. rw (h g grows begins) (rest begins))

  pub body_mounted : (c : Component) (es : List Element) (effects : List EffectRecord) (reads : List ContextRead) (versions : List VersionRead)
      → body_of p c at_mount ≡ ready es effects initials reads versions → body_of p c once_mounted ≡ ready es effects [] reads versions
  unfolding body_of
  body_mounted c es effects reads versions h = go (take_all p at_mount c.statements (opening_frame c i.props)) (all_later c.statements (opening_frame c i.props) refl) h
    where
      go : (t : Taken) → IfTaken (AllLater c.statements (opening_frame c i.props)) t → finished p at_mount (body_slots c.body) t ≡ ready es effects initials reads versions
          → finished p once_mounted (body_slots c.body) (take_all p once_mounted c.statements (opening_frame c i.props)) ≡ ready es effects [] reads versions
      go (stopped_at r v) k same = absurd (cc same)
      go (thrown x) k same = absurd (cc same)
      go (taken g) k same =
          let the_initials : initials ≡ g.initials = cc in
          let the_elements : elements_of p i.children g.env (body_slots c.body) ≡ es = cc in
          let the_effects : g.effects ≡ effects = cc in
          let the_reads : g.reads ≡ reads = cc in
          let the_versions : g.versions ≡ versions = cc in
          let again : take_all p once_mounted c.statements (opening_frame c i.props) ≡ taken (later g) = k (subst (λ (xs : List ℤ). Begins xs initials) the_initials (begins_itself initials)) in
          rw (again, the_elements, the_effects, the_reads, the_versions) refl

-- What a body read is what its contexts give if all that it reads are there.

list_any_push : {X : Type 0} (test : X → Bool) (xs : List X) (x : X) → list_any test xs ≡ false → test x ≡ false → list_any test (xs ++ x ∷ []) ≡ false
list_any_push test [] x h k = rw k refl
list_any_push test (y ∷ ys) x h k = let both = or_fails (test y) (list_any test ys) h in rw (both.0, list_any_push test ys x both.1 k) refl

value_got : (cs : List ℤ) (c : ℕ) → c < length cs → slice_get cs c ≡ Some (slice_index_or cs c (pos 0))
value_got [] c h = absurd (omega arith)
value_got (y ∷ ys) zero h = refl
value_got (y ∷ ys) (suc c) h = value_got ys c (omega arith)

int_is_itself : (x : ℤ) → int_eq x x ≡ true
int_is_itself x = (Decides-int_eq x x).1 refl

-- there is a value for each context of the program
abbrev pub IsFull : Program → List ℤ → Type 0
IsFull p cs = length cs ≡ length (contexts p)

found_not_anew : (p : Program) (cs : List ℤ) (c : ℕ) → IsFull p cs → nat_lt c (length (contexts p)) ≡ true
    → is_read_anew cs (record { context = c; value = slice_index_or cs c (pos 0) }) ≡ false
found_not_anew p cs c full h =
    let there : c < length cs = grind (arith, nat_tests) in
    rw (value_got cs c there) (ap not (int_is_itself (slice_index_or cs c (pos 0))))

abbrev WasRead : Inputs → Frame → Type 0
WasRead i f = read_anew i.contexts f.reads ≡ false

hook_read : (i : Inputs) (states : Option (List ℤ)) (name : _) (v : ℤ) (f : Frame) → WasRead i f → WasRead i (with_hook states name v f)
hook_read i None name v f h = h
hook_read i (Some states) name v f h = h

resource_read : (i : Inputs) (name : _) (r v : ℕ) (x : Option ℤ) (f : Frame) → WasRead i f → IfTaken (WasRead i) (with_resource name r v x f)
resource_read i name r v None f h = tt
resource_read i name r v (Some x) f h = h

one_read : (p : Program) (i : Inputs) → IsFull p i.contexts → (s : Statement) (f : Frame) → IsDeclared p s → WasRead i f → IfTaken (WasRead i) (take_one p i s f)
one_read p i full (state name setter e) f d h = hook_read i i.hooks name (value_in p f.env e) f h
one_read p i full (reducer name setter function e) f d h = hook_read i i.hooks name (value_in p f.env e) f h
one_read p i full (transition name starter) f d h = hook_read i i.hooks name (pos 0) f h
one_read p i full (context name source) f d h =
    list_any_push (is_read_anew i.contexts) f.reads
    (record { context = context_number p source; value = slice_index_or i.contexts (context_number p source) (pos 0) }) h
    (found_not_anew p i.contexts (context_number p source) full d)
one_read p i full (use_resource name resource) f d h =
    resource_read i name (resource_number p resource) (slice_index_or i.versions (resource_number p resource) 0) (slice_index_or i.resources (resource_number p resource) None) f h
one_read p i full (constant name e) f d h = h
one_read p i full (effect layout label depends) f d h = h
one_read p i full (throw_if e) f d h = throw_takes (WasRead i) (value_in p f.env e) f h

all_read : (p : Program) (i : Inputs) → IsFull p i.contexts → (ss : List Statement) (f : Frame) → AllDeclared p ss → WasRead i f → IfTaken (WasRead i) (take_all p i ss f)
all_read p i full [] f d h = h
all_read p i full (s ∷ ss) f d h = go (take_one p i s f) (one_read p i full s f d.0 h) (λ g k. all_read p i full ss g d.1 k)
  where
    go : (t : Taken) → IfTaken (WasRead i) t → ((g : Frame) → WasRead i g → IfTaken (WasRead i) (take_all p i ss g)) → IfTaken (WasRead i) (and_then t (take_all p i ss))
    go (stopped_at r v) k rest = tt
    go (thrown x) k rest = tt
    go (taken g) k rest = rest g k

pub body_read : (p : Program) (c : Component) (i : Inputs) (es : List Element) (effects : List EffectRecord) (initials : List ℤ) (reads : List ContextRead) (versions : List VersionRead)
    → IsFull p i.contexts → AllDeclared p c.statements → body_of p c i ≡ ready es effects initials reads versions → read_anew i.contexts reads ≡ false
unfolding body_of
body_read p c i es effects initials reads versions full declared h =
    go (take_all p i c.statements (opening_frame c i.props)) (all_read p i full c.statements (opening_frame c i.props) declared refl) h
  where
    go : (t : Taken) → IfTaken (WasRead i) t → finished p i (body_slots c.body) t ≡ ready es effects initials reads versions → read_anew i.contexts reads ≡ false
    go (stopped_at r v) k same = absurd (cc same)
    go (thrown x) k same = absurd (cc same)
    go (taken g) k same = let the_reads : g.reads ≡ reads = cc in subst (λ (x : List ContextRead). read_anew i.contexts x ≡ false) the_reads k

-- The versions that a body read are those of the resources.

-- each resource that has a value is in this version
abbrev InVersions : (version : ℕ → ℕ) → Inputs → Type 0
InVersions version i = (r : ℕ) (x : ℤ) → slice_index_or i.resources r None ≡ Some x → slice_index_or i.versions r 0 ≡ version r

abbrev WasSeen : (version : ℕ → ℕ) → Frame → Type 0
WasSeen version f = refreshed version f.versions ≡ false

hook_seen : (version : ℕ → ℕ) (states : Option (List ℤ)) (name : _) (v : ℤ) (f : Frame) → WasSeen version f → WasSeen version (with_hook states name v f)
hook_seen version None name v f h = h
hook_seen version (Some states) name v f h = h

resource_seen : (version : ℕ → ℕ) (name : _) (r v : ℕ) (x : Option ℤ) (f : Frame) → ((y : ℤ) → x ≡ Some y → v ≡ version r) → WasSeen version f
    → IfTaken (WasSeen version) (with_resource name r v x f)
resource_seen version name r v None f is h = tt
resource_seen version name r v (Some x) f is h =
    list_any_push (λ x. not (nat_eq (version x.resource) x.version)) f.versions (record { resource = r; version = v }) h
    (ap not (ap (nat_eq (version r)) (is x refl) ∙ same_itself (version r)))

one_seen : (p : Program) (version : ℕ → ℕ) (i : Inputs) → InVersions version i → (s : Statement) (f : Frame) → WasSeen version f → IfTaken (WasSeen version) (take_one p i s f)
one_seen p version i is (state name setter e) f h = hook_seen version i.hooks name (value_in p f.env e) f h
one_seen p version i is (reducer name setter function e) f h = hook_seen version i.hooks name (value_in p f.env e) f h
one_seen p version i is (transition name starter) f h = hook_seen version i.hooks name (pos 0) f h
one_seen p version i is (context name source) f h = h
one_seen p version i is (use_resource name resource) f h =
    resource_seen version name (resource_number p resource) (slice_index_or i.versions (resource_number p resource) 0) (slice_index_or i.resources (resource_number p resource) None) f
    (is (resource_number p resource)) h
one_seen p version i is (constant name e) f h = h
one_seen p version i is (effect layout label depends) f h = h
one_seen p version i is (throw_if e) f h = throw_takes (WasSeen version) (value_in p f.env e) f h

all_seen : (p : Program) (version : ℕ → ℕ) (i : Inputs) → InVersions version i → (ss : List Statement) (f : Frame) → WasSeen version f → IfTaken (WasSeen version) (take_all p i ss f)
all_seen p version i is [] f h = h
all_seen p version i is (s ∷ ss) f h = go (take_one p i s f) (one_seen p version i is s f h) (λ g k. all_seen p version i is ss g k)
  where
    go : (t : Taken) → IfTaken (WasSeen version) t → ((g : Frame) → WasSeen version g → IfTaken (WasSeen version) (take_all p i ss g)) → IfTaken (WasSeen version) (and_then t (take_all p i ss))
    go (stopped_at r v) k rest = tt
    go (thrown x) k rest = tt
    go (taken g) k rest = rest g k

pub body_seen : (p : Program) (c : Component) (i : Inputs) (version : ℕ → ℕ) → ((r : ℕ) (x : ℤ) → slice_index_or i.resources r None ≡ Some x → slice_index_or i.versions r 0 ≡ version r)
    → (es : List Element) (effects : List EffectRecord) (initials : List ℤ) (reads : List ContextRead) (versions : List VersionRead)
    → body_of p c i ≡ ready es effects initials reads versions → refreshed version versions ≡ false
unfolding body_of
body_seen p c i version is es effects initials reads versions h =
    go (take_all p i c.statements (opening_frame c i.props)) (all_seen p version i is c.statements (opening_frame c i.props) refl) h
  where
    go : (t : Taken) → IfTaken (WasSeen version) t → finished p i (body_slots c.body) t ≡ ready es effects initials reads versions → refreshed version versions ≡ false
    go (stopped_at r v) k same = absurd (cc same)
    go (thrown x) k same = absurd (cc same)
    go (taken g) k same = let the_versions : g.versions ≡ versions = cc in subst (λ (x : List VersionRead). refreshed version x ≡ false) the_versions k

-- If more resources have values, a body that was ready is ready as before, one that threw throws the same, and one that waits for a resource waits for it still, unless that one has a value.

abbrev IfWaits : (ℕ → ℕ → Type 0) → (ℤ → Type 0) → (Frame → Type 0) → Taken → Type 0
IfWaits W E T (stopped_at r v) = W r v
IfWaits W E T (thrown x) = E x
IfWaits W E T (taken g) = T g

module _ (p : Program) (i : Inputs) (res : List (Option ℤ)) (more : (r : ℕ) (x : ℤ) → slice_index_or i.resources r None ≡ Some x → slice_index_or res r None ≡ Some x) where
  abbrev with_more : Inputs
  with_more = record i { resources = res }

  abbrev OneAgain : Statement → Frame → Taken → Type 0
  OneAgain s f = IfWaits (λ r v. slice_index_or res r None ≡ None → take_one p with_more s f ≡ stopped_at r v) (λ x. take_one p with_more s f ≡ thrown x) (λ g. take_one p with_more s f ≡ taken g)

  resource_again : (name : _) (r v : ℕ) (f : Frame) (x : Option ℤ) → slice_index_or i.resources r None ≡ x
      → IfWaits (λ q w. slice_index_or res q None ≡ None → with_resource name r v (slice_index_or res r None) f ≡ stopped_at q w)
      (λ y. with_resource name r v (slice_index_or res r None) f ≡ thrown y) (λ g. with_resource name r v (slice_index_or res r None) f ≡ taken g) (with_resource name r v x f)
  resource_again name r v f None same = λ none. rw none refl
  resource_again name r v f (Some x) same = rw (more r x same) refl

  throw_again : (x : ℤ) (f : Frame) → IfWaits (λ q w. slice_index_or res q None ≡ None → with_throw x f ≡ stopped_at q w) (λ y. with_throw x f ≡ thrown y) (λ g. with_throw x f ≡ taken g) (with_throw x f)
  throw_again x f = go (is_zero x) refl
    where
      go : (b : Bool) → is_zero x ≡ b
          → IfWaits (λ q w. slice_index_or res q None ≡ None → with_throw x f ≡ stopped_at q w) (λ y. with_throw x f ≡ thrown y) (λ g. with_throw x f ≡ taken g) (if b then taken f else thrown x)
      go true e = rw e refl
      go false e = rw e refl

  one_again : (s : Statement) (f : Frame) → OneAgain s f (take_one p i s f)
  one_again (state name setter e) f = refl
  one_again (reducer name setter function e) f = refl
  one_again (transition name starter) f = refl
  one_again (context name source) f = refl
  one_again (use_resource name resource) f =
      resource_again name (resource_number p resource) (slice_index_or i.versions (resource_number p resource) 0) f (slice_index_or i.resources (resource_number p resource) None) refl
  one_again (constant name e) f = refl
  one_again (effect layout label depends) f = refl
  one_again (throw_if e) f = throw_again (value_in p f.env e) f

  abbrev AllAgain : List Statement → Frame → Taken → Type 0
  AllAgain ss f = IfWaits (λ r v. slice_index_or res r None ≡ None → take_all p with_more ss f ≡ stopped_at r v) (λ x. take_all p with_more ss f ≡ thrown x) (λ g. take_all p with_more ss f ≡ taken g)

  all_take_again : (ss : List Statement) (f : Frame) → AllAgain ss f (take_all p i ss f)
  all_take_again [] f = refl
  all_take_again (s ∷ ss) f = go (take_one p i s f) (one_again s f) (all_take_again ss)
    where
      then_all : (g : Frame) (t : Taken) → take_one p with_more s f ≡ taken g → AllAgain ss g t → AllAgain (s ∷ ss) f t
      then_all g (stopped_at r v) h k = λ none. rw h (k none)
      then_all g (thrown x) h k = rw h k
      then_all g (taken m) h k = rw h k

      go : (t : Taken) → OneAgain s f t → ((g : Frame) → AllAgain ss g (take_all p i ss g)) → AllAgain (s ∷ ss) f (and_then t (take_all p i ss))
      go (stopped_at r v) h k = λ none. rw (h none) refl
      go (thrown x) h k = rw h refl
      go (taken g) h k = then_all g (take_all p i ss g) h (k g)

  abbrev pub BodyAgain : Body → Body → Type 0
  BodyAgain (wait r v) b = slice_index_or res r None ≡ None → b ≡ wait r v
  BodyAgain (throw x) b = b ≡ throw x
  BodyAgain (ready es effects initials reads versions) b = b ≡ ready es effects initials reads versions

  pub body_again : (c : Component) → BodyAgain (body_of p c i) (body_of p c with_more)
  unfolding body_of
  body_again c = go (take_all p i c.statements (opening_frame c i.props)) (all_take_again c.statements (opening_frame c i.props))
    where
      go : (t : Taken) → AllAgain c.statements (opening_frame c i.props) t
          → BodyAgain (finished p i (body_slots c.body) t) (finished p with_more (body_slots c.body) (take_all p with_more c.statements (opening_frame c i.props)))
      go (stopped_at r v) h = λ none. rw (h none) refl
      go (thrown x) h = rw h refl
      go (taken g) h = rw h refl
