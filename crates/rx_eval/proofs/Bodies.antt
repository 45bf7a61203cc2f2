-- What is known before the first statement, and what a body gives.
use Rattle.std.specs.Prelude.{◌≡◌, ℕ, ◌+◌, List, [], ◌∷◌, ◌++◌, ℤ, Option, Some, None, Result, Ok, Err, IfOk, length, filter_map, option_map, refl}
use Rattle.std.specs.List.{zip}
use Rattle.std.specs.Option.{option_and_then}
use Rattle.std.proofs.Common.{sym, ◌∙◌, ap, length-append}
use Rattle.std.proofs.lemmas.List.{append_assoc}
use Rattle.rx_base.specs.Values.{Name}
use Rattle.rx_ast.specs.Syntax.{Parameter, integer, given_children, Component, Program, Slots, no_slots, body_slots}
use Rattle.rx_ast.specs.Syntax as syntax
use Rattle.rx_rules.specs.Names.{integer_in, component_at}
use Rattle.rx_meaning.specs.Expressions.{Env}
use Rattle.rx_meaning.specs.Body.{Inputs, Taken, stopped_at, thrown, taken, finished, take_all, opening_frame, body_of}
use Rattle.rx_eval.specs.declared.body.Body.{Body}
use Rattle.rx_eval.specs.Given.{body_seen, initials_of}
use Rattle.rx_eval.proofs.Calls.{zip-push}

-- Parameters

names-push_none : (ps : List Parameter) (q : Parameter) → integer_in q ≡ None → filter_map integer_in (ps ++ q ∷ []) ≡ filter_map integer_in ps
names-push_none [] q e = rw e refl
names-push_none (integer y ∷ ps) q e = ap (λ ns. y ∷ ns) (names-push_none ps q e)
names-push_none (given_children ∷ ps) q e = names-push_none ps q e

names-push_some : (ps : List Parameter) (q : Parameter) (x : Name) → integer_in q ≡ Some x → filter_map integer_in (ps ++ q ∷ []) ≡ filter_map integer_in ps ++ x ∷ []
names-push_some [] q x e = rw e refl
names-push_some (integer y ∷ ps) q x e = ap (λ ns. y ∷ ns) (names-push_some ps q x e)
names-push_some (given_children ∷ ps) q x e = names-push_some ps q x e

-- `children` binds no name
pub names_before : (ps bs : List Parameter) (q : Parameter) → ps ≡ bs ++ q ∷ [] → integer_in q ≡ None → filter_map integer_in ps ≡ filter_map integer_in bs
names_before ps bs q e none = ap (filter_map integer_in) e ∙ names-push_none bs q none

-- an integer binds its name
pub names_with : (ps bs : List Parameter) (q : Parameter) (x : Name) → ps ≡ bs ++ q ∷ [] → integer_in q ≡ Some x → filter_map integer_in ps ≡ filter_map integer_in bs ++ x ∷ []
names_with ps bs q x e some = ap (filter_map integer_in) e ∙ names-push_some bs q x some

pub count_with : (ps bs : List Parameter) (q : Parameter) (x : Name) → ps ≡ bs ++ q ∷ [] → integer_in q ≡ Some x → length (filter_map integer_in ps) ≡ length (filter_map integer_in bs) + 1
count_with ps bs q x e some = ap length (names_with ps bs q x e some) ∙ length-append (filter_map integer_in bs) (x ∷ [])

-- one more name is bound to its prop
pub prop_bound : (ps bs : List Parameter) (q : Parameter) (x : Name) (vs ws : List ℤ) (v : ℤ) (more : Env) →
    ps ≡ bs ++ q ∷ [] → integer_in q ≡ Some x → vs ≡ ws ++ v ∷ [] → length (filter_map integer_in bs) ≡ length ws →
    zip (filter_map integer_in ps) vs ++ more ≡ zip (filter_map integer_in bs) ws ++ ((x, v) ∷ more)
prop_bound ps bs q x vs ws v more e some given same =
    ap (λ ns. zip ns vs ++ more) (names_with ps bs q x e some)
    ∙ ap (λ us. zip (filter_map integer_in bs ++ x ∷ []) us ++ more) given
    ∙ ap (λ b. b ++ more) (zip-push (filter_map integer_in bs) ws x v same)
    ∙ append_assoc (zip (filter_map integer_in bs) ws) ((x, v) ∷ []) more

-- Bodies

-- what is evaluated is the body of the component of a number
pub body_gives : {E : Type 0} (p q : Program) (n : ℕ) (c : Component) (s : syntax.Body) (i : Inputs) (r : Result Body E) → q ≡ p → s ≡ c.body → component_at p n ≡ Some c →
    IfOk r (λ b. body_seen b ≡ finished q i (body_slots s) (take_all q i c.statements (opening_frame c i.props))) →
    IfOk r (λ b. option_map (λ d. body_of p d i) (component_at p n) ≡ Some (body_seen b))
unfolding body_of
body_gives p q n c s i (Ok b) same returned at h =
    ap (option_map (λ d. body_of p d i)) at
    ∙ ap Some (sym (h
    ∙ ap (λ k. finished k i (body_slots s) (take_all k i c.statements (opening_frame c i.props))) same
    ∙ ap (λ k. finished p i (body_slots k) (take_all p i c.statements (opening_frame c i.props))) returned))
body_gives p q n c s i (Err e) same returned at h = tt

-- the initial values of hooks do not depend on what is returned
initials_same : (p : Program) (i : Inputs) (ss : Slots) (t : Taken) → initials_of (finished p i no_slots t) ≡ initials_of (finished p i ss t)
initials_same p i ss (stopped_at r v) = refl
initials_same p i ss (thrown x) = refl
initials_same p i ss (taken f) = refl

-- the statements of a component give the initial values of its hooks
pub hooks_given : (p q : Program) (n : ℕ) (c : Component) (i : Inputs) → q ≡ p → component_at p n ≡ Some c →
    option_and_then (λ d. initials_of (body_of p d i)) (component_at p n) ≡ initials_of (finished q i no_slots (take_all q i c.statements (opening_frame c i.props)))
unfolding body_of
hooks_given p q n c i same at =
    ap (option_and_then (λ d. initials_of (body_of p d i))) at
    ∙ sym (ap (λ k. initials_of (finished k i no_slots (take_all k i c.statements (opening_frame c i.props)))) same
    ∙ initials_same p i (body_slots c.body) (take_all p i c.statements (opening_frame c i.props)))

pub hooks_result : {E : Type 0} (x y : Option (List ℤ)) (r : Result (List ℤ) E) → x ≡ y → IfOk r (λ xs. y ≡ Some xs) → IfOk r (λ xs. x ≡ Some xs)
hooks_result x y (Ok xs) e h = e ∙ h
hooks_result x y (Err a) e h = tt
