-- App never waits and never throws: what its body places outside of boundaries reads no resource, and outside of error boundaries throws nothing, however deep it nests.
use Rattle.std.proofs.Common.{◌≡◌, ℕ, zero, suc, ◌<◌, ◌≤◌, Bool, true, false, cond, List, [], ◌∷◌, ℤ, length, map, refl, sym, ap, ◌∙◌, subst, arith, Option, Some, None}
use Rattle.std.specs.Prelude.{◌&&◌, ◌||◌, pos, is_some, slice_get, unwrap_or, bytes_eq, nat_lt, nat_eq, find, if◌then◌else◌}
use Rattle.std.specs.Option.{option_map_or}
use Rattle.std.proofs.lemmas.List.{length-map}
use Rattle.std.proofs.lemmas.Bool.Decides.{nat_tests}
use Rattle.std.specs.List.{list_any, zip, range_with_len, position_or_len}
use Rattle.rx_base.specs.Arithmetic.{is_zero}
use Rattle.rx_ast.specs.Syntax.{Statement, Slot, Slots, Component, Program, components, body_slots}
use Rattle.rx_ast.specs.Syntax as syntax
use Rattle.rx_rules.specs.Names.{component_number, component_at, component_names, root_name, resource_in, throws as throws_by}
use Rattle.rx_rules.specs.Bounds.{Column, Waits, no_waits, either, passed, slot_by, slots_by, body_by, body_if, reads_resource, has_throw, root_waits, root_throws}
use Rattle.rx_elem.specs.Elements.{Element, Elements, listed, gathered}
use Rattle.rx_elem.specs.Elements as elements
use Rattle.rx_base.specs.Values.{Name}
use Rattle.rx_catch.specs.declared.state.CatchState.TheVariants.{Caught}
use Rattle.rx_elem.specs.Trees.{Node, Forest, Mark, none, of_instance, of_host, of_catcher, plain, children_if, fallback_if, old_caught}
use Rattle.rx_elem.specs.Compare.{old_nodes}
use Rattle.rx_meaning.specs.Expressions.{Env, value_in}
use Rattle.rx_meaning.specs.Body.{Inputs, Body, wait, throw, ready, Frame, Taken, stopped_at, thrown, taken, with_resource, with_throw, take_one, take_all, and_then, element_of, elements_of, finished, opening_frame, body_of, turns}
use Rattle.rx_meaning.specs.Fresh.{Sight, Contexts, Place, empty, made, waits, throws, Places, all_made, one_waits, one_throws, before, render_all, render_list, shape_of_component, shape_of_body, shape_of_catcher, inputs_at, instance_after, old_host, old_instance, over, over_boundary, over_catcher, place_of, rendered, fresh, default_contexts}
use Rattle.rx_model.specs.Laws.{AppNeverWaits}

-- whether a component may stop a render by itself: by a wait, or by a throw
abbrev stops : (by_wait : Bool) → Component → Bool
stops true c = reads_resource c
stops false c = has_throw c

-- the column of waits or of throws, if those of every component count
abbrev column : (by_wait : Bool) → Column Waits
column b =
    record {
      nothing = no_waits;
      text = no_waits;
      children = record { own = false; given = true };
      repeated = λ limit w. w;
      choice = either;
      around = λ w. w;
      boundary = λ w f. cond b f (either w f);
      catcher = λ w f. cond b (either w f) f;
      component = passed;
      body = λ c w. record w { own = stops b c || w.own };
      beside = either;
    }

-- the column at a slot, if components nest at most so deep
abbrev at_slot : Bool → ℕ → Program → Slot → Waits
at_slot b n p s = slot_by (column b) (body_by (column b) n p) p s

-- the column at a child list
abbrev at_slots : Bool → ℕ → Program → Slots → Waits
at_slots b n p ss = slots_by (column b) (body_by (column b) n p) p ss

-- no wait, if waits are asked for, and no throw otherwise
abbrev IfWait : Bool → Type 0
IfWait true = ⊥
IfWait false = Unit {0}

abbrev IfThrow : Bool → Type 0
IfThrow true = Unit {0}
IfThrow false = ⊥

-- a place gives no wait, or no throw
abbrev Settles : Bool → Place → Type 0
Settles b empty = Unit {0}
Settles b (made n) = Unit {0}
Settles b (waits a) = IfWait b
Settles b (throws x) = IfThrow b

abbrev AllSettle : Bool → Places → Type 0
AllSettle b (all_made ns) = Unit {0}
AllSettle b (one_waits a) = IfWait b
AllSettle b (one_throws x) = IfThrow b

-- an element gives none with so many levels below it
abbrev Quiet : Sight → Bool → ℕ → Element → Type 0
Quiet s b d e = (cs : Contexts) (old : Option Node) → Settles b (rendered d s cs e old)

-- nor with fewer
abbrev QuietUpTo : Sight → Bool → ℕ → Element → Type 0
QuietUpTo s b zero e = Quiet s b 0 e
QuietUpTo s b (suc d) e = QuietUpTo s b d e × Quiet s b (suc d) e

abbrev AllQuiet : (Element → Type 0) → List Element → Type 0
AllQuiet q [] = Unit {0}
AllQuiet q (e ∷ es) = q e × AllQuiet q es

quiet-here : (s : Sight) (b : Bool) (d : ℕ) (e : Element) → QuietUpTo s b d e → Quiet s b d e
quiet-here s b zero e h = h
quiet-here s b (suc d) e h = h.1

all-quiet-here : (s : Sight) (b : Bool) (d : ℕ) (es : List Element) → AllQuiet (QuietUpTo s b d) es → AllQuiet (Quiet s b d) es
all-quiet-here s b d [] h = tt
all-quiet-here s b d (e ∷ es) h = (quiet-here s b d e h.0, all-quiet-here s b d es h.1)

all-quiet-below : (s : Sight) (b : Bool) (d : ℕ) (es : List Element) → AllQuiet (QuietUpTo s b (suc d)) es → AllQuiet (QuietUpTo s b d) es
all-quiet-below s b d [] h = tt
all-quiet-below s b d (e ∷ es) h = (h.0.0, all-quiet-below s b d es h.1)

listed-gathered : (es : List Element) → listed (gathered es) ≡ es
listed-gathered [] = refl
listed-gathered (e ∷ es) = ap (λ fs. e ∷ fs) (listed-gathered es)

-- ---- lists

before-settles : (b : Bool) (x : Place) (rest : Places) → Settles b x → AllSettle b rest → AllSettle b (before x rest)
before-settles b empty (all_made ns) h k = tt
before-settles b empty (one_waits a) h k = k
before-settles b empty (one_throws x) h k = k
before-settles b (made n) (all_made ns) h k = tt
before-settles b (made n) (one_waits a) h k = k
before-settles b (made n) (one_throws x) h k = k
before-settles b (waits a) rest h k = h
before-settles b (throws x) rest h k = h

all-settle : (s : Sight) (b : Bool) (d : ℕ) (cs : Contexts) (es : List Element) (olds : List (Option Node)) → AllQuiet (Quiet s b d) es → AllSettle b (render_all (rendered d s cs) (zip es olds))
all-settle s b d cs [] olds h = tt
all-settle s b d cs (e ∷ es) [] h = tt
all-settle s b d cs (e ∷ es) (o ∷ olds) h =
    before-settles b (rendered d s cs e o) (render_all (rendered d s cs) (zip es olds)) (h.0 cs o) (all-settle s b d cs es olds h.1)

list-settles : (s : Sight) (b : Bool) (d : ℕ) (cs : Contexts) (es : List Element) (old : Forest) → AllQuiet (Quiet s b d) es → AllSettle b (render_list (rendered d s cs) es old)
list-settles s b d cs es old h = all-settle s b d cs es (old_nodes old es) h

over-settles : (b : Bool) (e : Element) (m : Mark) (ns : Places) → AllSettle b ns → Settles b (over e m ns)
over-settles b e m (all_made ns) h = tt
over-settles b e m (one_waits a) h = h
over-settles b e m (one_throws x) h = h

boundary-waits : (e : Element) (old : Option Node) (ps fs : Places) → AllSettle true fs → Settles true (over_boundary e old ps fs)
boundary-waits e old (all_made ns) fs h = tt
boundary-waits e old (one_waits a) (all_made ns) h = tt
boundary-waits e old (one_waits a) (one_waits c) h = absurd h
boundary-waits e old (one_waits a) (one_throws x) h = tt
boundary-waits e old (one_throws x) fs h = tt

boundary-throws : (e : Element) (old : Option Node) (ps fs : Places) → AllSettle false ps → AllSettle false fs → Settles false (over_boundary e old ps fs)
boundary-throws e old (all_made ns) fs h k = tt
boundary-throws e old (one_waits a) (all_made ns) h k = tt
boundary-throws e old (one_waits a) (one_waits c) h k = tt
boundary-throws e old (one_waits a) (one_throws x) h k = absurd k
boundary-throws e old (one_throws x) fs h k = absurd h

catcher-waits : (e : Element) (ps fs : Places) → AllSettle true ps → AllSettle true fs → Settles true (over_catcher e ps fs)
catcher-waits e (all_made ns) fs h k = tt
catcher-waits e (one_waits a) fs h k = absurd h
catcher-waits e (one_throws x) fs h k = over-settles true e (of_catcher (Caught x)) fs k

catcher-throws : (e : Element) (ps fs : Places) → AllSettle false fs → Settles false (over_catcher e ps fs)
catcher-throws e (all_made ns) fs h = tt
catcher-throws e (one_waits a) fs h = tt
catcher-throws e (one_throws x) fs h = over-settles false e (of_catcher (Caught x)) fs h

-- ---- bodies

or-left : (a b : Bool) → (a || b) ≡ false → a ≡ false
or-left true b e = e
or-left false b e = refl

or-right : (a b : Bool) → (a || b) ≡ false → b ≡ false
or-right true b e = absurd (cc)
or-right false b e = e

-- a statement may wait, or throw
abbrev stops_at : Bool → Statement → Bool
stops_at true t = is_some (resource_in t)
stops_at false t = throws_by t

-- statements don't stop so
abbrev TakenSettles : Bool → Taken → Type 0
TakenSettles b (stopped_at r v) = IfWait b
TakenSettles b (thrown x) = IfThrow b
TakenSettles b (taken f) = Unit {0}

resource-taken : (name : Name) (r v : ℕ) (o : Option ℤ) (f : Frame) → TakenSettles false (with_resource name r v o f)
resource-taken name r v None f = tt
resource-taken name r v (Some x) f = tt

throw-taken : (x : ℤ) (f : Frame) → TakenSettles true (with_throw x f)
throw-taken x f = go (is_zero x)
  where
    go : (z : Bool) → TakenSettles true (if z then taken f else thrown x)
    go true = tt
    go false = tt

takes-one : (b : Bool) (p : Program) (i : Inputs) (t : Statement) (f : Frame) → stops_at b t ≡ false → TakenSettles b (take_one p i t f)
takes-one b p i (syntax.state x y e) f h = tt
takes-one b p i (syntax.reducer x y g e) f h = tt
takes-one b p i (syntax.transition x y) f h = tt
takes-one b p i (syntax.context x c) f h = tt
takes-one true p i (syntax.use_resource x r) f h = absurd (cc h)
takes-one false p i (syntax.use_resource x r) f h = resource-taken x _ _ _ f
takes-one b p i (syntax.constant x e) f h = tt
takes-one b p i (syntax.effect l t es) f h = tt
takes-one true p i (syntax.throw_if e) f h = throw-taken (value_in p f.env e) f
takes-one false p i (syntax.throw_if e) f h = absurd (cc h)

then-settles : (b : Bool) (x : Taken) (next : Frame → Taken) → TakenSettles b x → ((g : Frame) → TakenSettles b (next g)) → TakenSettles b (and_then x next)
then-settles b (stopped_at r v) next h k = h
then-settles b (thrown x) next h k = h
then-settles b (taken f) next h k = k f

takes-all : (b : Bool) (p : Program) (i : Inputs) (ts : List Statement) (f : Frame) → list_any (stops_at b) ts ≡ false → TakenSettles b (take_all p i ts f)
takes-all b p i [] f h = tt
takes-all b p i (t ∷ ts) f h =
    then-settles b (take_one p i t f) (take_all p i ts) (takes-one b p i t f (or-left _ _ h)) (λ g. takes-all b p i ts g (or-right _ _ h))

-- those of a component
component-taken : (b : Bool) (p : Program) (i : Inputs) (c : Component) (f : Frame) → stops b c ≡ false → TakenSettles b (take_all p i c.statements f)
component-taken true p i c f h = takes-all true p i c.statements f h
component-taken false p i c f h = takes-all false p i c.statements f h

-- ---- slots

-- if the given children would be waited for, or their throws come out, they give none
abbrev KidsQuiet : Sight → Bool → ℕ → List Element → Bool → Type 0
KidsQuiet s b d kids given = given ≡ true → AllQuiet (QuietUpTo s b d) kids

-- each slot whose column has none gives an element that gives none, with at most so many levels below it
abbrev SlotsQuiet : Sight → Bool → ℕ → Type 0
SlotsQuiet s b d =
    (n : ℕ) → d ≤ n → (slot : Slot) (kids : List Element) (env : Env) → (at_slot b n s.program slot).own ≡ false → KidsQuiet s b d kids (at_slot b n s.program slot).given
    → QuietUpTo s b d (element_of s.program kids env slot)

kids-below : (s : Sight) (b : Bool) (d : ℕ) (kids : List Element) (g : Bool) → KidsQuiet s b (suc d) kids g → KidsQuiet s b d kids g
kids-below s b d kids g h e = all-quiet-below s b d kids (h e)

or-true-left : (a b : Bool) → a ≡ true → (a || b) ≡ true
or-true-left true b e = refl
or-true-left false b e = absurd (cc)

or-true-right : (a b : Bool) → b ≡ true → (a || b) ≡ true
or-true-right true b e = refl
or-true-right false b e = e

-- a child list of such slots
list-quiet : (s : Sight) (b : Bool) (d : ℕ) → SlotsQuiet s b d → (n : ℕ) → d ≤ n → (ss : Slots) (kids : List Element) (env : Env) → (at_slots b n s.program ss).own ≡ false → KidsQuiet s b d kids (at_slots b n s.program ss).given
    → AllQuiet (QuietUpTo s b d) (elements_of s.program kids env ss)
list-quiet s b d each n le syntax.no_slots kids env own given = tt
list-quiet s b d each n le (syntax.slot t ts) kids env own given = (
  each n le t kids env (or-left _ _ own) (λ e. given (or-true-left _ _ e)),
  list-quiet s b d each n le ts kids env (or-right _ _ own) (λ e. given (or-true-right _ _ e)),
)

turns-quiet : (s : Sight) (b : Bool) (d : ℕ) → SlotsQuiet s b d → (n : ℕ) → d ≤ n → (t : Slot) (kids : List Element) (index : List ℕ) (env : Env) (ks : List ℕ) → (at_slot b n s.program t).own ≡ false → KidsQuiet s b d kids (at_slot b n s.program t).given
    → AllQuiet (QuietUpTo s b d) (map (λ k. element_of s.program kids ((index, pos k) ∷ env) t) ks)
turns-quiet s b d each n le t kids index env [] own given = tt
turns-quiet s b d each n le t kids index env (k ∷ ks) own given =
    (each n le t kids ((index, pos k) ∷ env) own given, turns-quiet s b d each n le t kids index env ks own given)

regather : (s : Sight) (b : Bool) (d : ℕ) (es : List Element) → AllQuiet (QuietUpTo s b d) es → AllQuiet (Quiet s b d) (listed (gathered es))
regather s b d es h = subst (λ (fs : List Element). AllQuiet (Quiet s b d) fs) (sym (listed-gathered es)) (all-quiet-here s b d es h)

regather-up : (s : Sight) (b : Bool) (d : ℕ) (es : List Element) → AllQuiet (QuietUpTo s b d) es → AllQuiet (QuietUpTo s b d) (listed (gathered es))
regather-up s b d es h = subst (λ (fs : List Element). AllQuiet (QuietUpTo s b d) fs) (sym (listed-gathered es)) h

and-bools : (o k g : Bool) → (o || (g && k)) ≡ false → g ≡ true → k ≡ false
and-bools true k g e h = absurd (cc)
and-bools false k true e h = e
and-bools false k false e h = absurd (cc)

-- a component's place gives none
comp-quiet : (s : Sight) (b : Bool) (d : ℕ) → SlotsQuiet s b d → (m : ℕ) → d ≤ m → (c : ℕ) (key : elements.Key) (props : List ℤ) (es : List Element) → (body_by (column b) (suc m) s.program c).own ≡ false
    → ((body_by (column b) (suc m) s.program c).given ≡ true → AllQuiet (QuietUpTo s b d) es) → Quiet s b (suc d) (elements.comp c key props (gathered es))
unfolding rendered body_by body_of
comp-quiet s b d each m le c key props es own given cs old = go (component_at s.program c) refl
  where
    el : Element
    el = elements.comp c key props (gathered es)

    i : Inputs
    i = inputs_at s cs props (gathered es) (old_instance old)

    taken-settles : (f : Component) → (at_slots b m s.program (body_slots f.body)).own ≡ false → KidsQuiet s b d (listed (gathered es)) (at_slots b m s.program (body_slots f.body)).given
        → (t : Taken) → TakenSettles b t → Settles b (place_of (rendered d s) el old (shape_of_body cs c old (finished s.program i (body_slots f.body) t)))
    taken-settles f quiet kids (stopped_at r v) h = h
    taken-settles f quiet kids (thrown x) h = h
    taken-settles f quiet kids (taken g) h =
        over-settles b el (of_instance (instance_after c (old_instance old) g.initials g.reads g.versions g.effects)) (render_list (rendered d s cs) (elements_of s.program (listed (gathered es)) g.env (body_slots f.body)) (children_if old)) (list-settles s b d cs _ (children_if old) (all-quiet-here s b d _ (list-quiet s b d each m le (body_slots f.body) (listed (gathered es)) g.env quiet kids)))

    go : (x : Option Component) → component_at s.program c ≡ x → Settles b (rendered (suc d) s cs el old)
    go None e = subst (λ (x : Option Component). Settles b (place_of (rendered d s) el old (shape_of_component s cs c props (gathered es) old x))) (sym e) tt
    go (Some f) e =
        let w : Waits = at_slots b m s.program (body_slots f.body) in
        let body_is : body_if (column b) (body_by (column b) m s.program) s.program (component_at s.program c) ≡ record w { own = stops b f || w.own } =
        ap (body_if (column b) (body_by (column b) m s.program) s.program) e in
        let own_is : (stops b f || w.own) ≡ false = sym (ap (λ (v : Waits). v.own) body_is) ∙ own in
        let kids : KidsQuiet s b d (listed (gathered es)) w.given = λ g. regather-up s b d es (given (ap (λ (v : Waits). v.given) body_is ∙ g)) in
        subst (λ (x : Option Component). Settles b (place_of (rendered d s) el old (shape_of_component s cs c props (gathered es) old x))) (sym e)
        (taken-settles f (or-right _ _ own_is) kids (take_all s.program i f.statements (opening_frame f i.props)) (component-taken b s.program i f (opening_frame f i.props) (or-left _ _ own_is)))

-- what the column of a boundary says of its parts
boundary-own : (b : Bool) (w f : Waits) → (cond b f (either w f)).own ≡ false → f.own ≡ false
boundary-own true w f h = h
boundary-own false w f h = or-right w.own f.own h

boundary-given : (b : Bool) (w f : Waits) → f.given ≡ true → (cond b f (either w f)).given ≡ true
boundary-given true w f h = h
boundary-given false w f h = or-true-right w.given f.given h

catcher-own : (b : Bool) (w f : Waits) → (cond b (either w f) f).own ≡ false → f.own ≡ false
catcher-own true w f h = or-right w.own f.own h
catcher-own false w f h = h

catcher-given : (b : Bool) (w f : Waits) → f.given ≡ true → (cond b (either w f) f).given ≡ true
catcher-given true w f h = or-true-right w.given f.given h
catcher-given false w f h = h

-- a boundary's place gives none
boundary-quiet : (b : Bool) (s : Sight) (d : ℕ) → SlotsQuiet s b d → (n : ℕ) → d ≤ n → (ss : Slots) (kids : List Element) (env : Env) (w f : Waits) → at_slots b n s.program ss ≡ w
    → (cond b f (either w f)).own ≡ false → KidsQuiet s b d kids (cond b f (either w f)).given
    → (e : Element) (cs : Contexts) (old : Option Node) (fs : Places) → AllSettle b fs
    → Settles b (over_boundary e old (render_list (rendered d s cs) (listed (gathered (elements_of s.program kids env ss))) (children_if old)) fs)
boundary-quiet true s d each n le ss kids env w f is own given e cs old fs h = boundary-waits e old _ fs h
boundary-quiet false s d each n le ss kids env w f is own given e cs old fs h =
    boundary-throws e old _ fs
    (list-settles s false d cs _ (children_if old) (regather s false d _
    (list-quiet s false d each n le ss kids env (ap (λ (v : Waits). v.own) is ∙ or-left w.own f.own own) (λ g. given (or-true-left w.given f.given (sym (ap (λ (v : Waits). v.given) is) ∙ g))))))
    h

-- so does an error boundary's, whether it had caught a value or not
catcher-quiet : (b : Bool) (s : Sight) (d : ℕ) → SlotsQuiet s b d → (n : ℕ) → d ≤ n → (ss : Slots) (kids : List Element) (env : Env) (w f : Waits) → at_slots b n s.program ss ≡ w
    → (cond b (either w f) f).own ≡ false → KidsQuiet s b d kids (cond b (either w f) f).given
    → (e g : Element) (cs : Contexts) (old : Option Node) → QuietUpTo s b d g → (caught : Option ℤ)
    → Settles b (place_of (rendered d s) e old (shape_of_catcher cs g (gathered (elements_of s.program kids env ss)) old caught))
catcher-quiet true s d each n le ss kids env w f is own given e g cs old quiet None =
    catcher-waits e _ _
    (list-settles s true d cs _ (children_if old) (regather s true d _
    (list-quiet s true d each n le ss kids env (ap (λ (v : Waits). v.own) is ∙ or-left w.own f.own own) (λ k. given (or-true-left w.given f.given (sym (ap (λ (v : Waits). v.given) is) ∙ k))))))
    (list-settles s true d cs (g ∷ []) none (quiet-here s true d g quiet, tt))
catcher-quiet false s d each n le ss kids env w f is own given e g cs old quiet None =
    catcher-throws e _ _ (list-settles s false d cs (g ∷ []) none (quiet-here s false d g quiet, tt))
catcher-quiet b s d each n le ss kids env w f is own given e g cs old quiet (Some x) =
    over-settles b e (of_catcher (Caught x)) _ (list-settles s b d cs (g ∷ []) (fallback_if old) (quiet-here s b d g quiet, tt))

-- one level more
slots-quiet-more : (s : Sight) (b : Bool) (d : ℕ) → SlotsQuiet s b d → SlotsQuiet s b (suc d)
unfolding rendered
slots-quiet-more s b d each n le syntax.null kids env own given = (each n (omega (arith, le)) syntax.null kids env own (λ e. absurd (cc)), λ cs old. tt)
slots-quiet-more s b d each n le (syntax.words t) kids env own given = (each n (omega (arith, le)) (syntax.words t) kids env own (λ e. absurd (cc)), λ cs old. tt)
slots-quiet-more s b d each n le (syntax.number_of x) kids env own given = (each n (omega (arith, le)) (syntax.number_of x) kids env own (λ e. absurd (cc)), λ cs old. tt)
slots-quiet-more s b d each n le syntax.children kids env own given = (
  each n (omega (arith, le)) syntax.children kids env own (kids-below s b d kids _ given),
  λ cs old. over-settles b (element_of s.program kids env syntax.children) plain _ (list-settles s b d cs _ (children_if old) (regather s b d kids (all-quiet-below s b d kids (given refl)))),
)
slots-quiet-more s b d each n le (syntax.repeated index bound limit t) kids env own given = (
  each n (omega (arith, le)) (syntax.repeated index bound limit t) kids env own (kids-below s b d kids _ given),
  λ cs old. over-settles b (element_of s.program kids env (syntax.repeated index bound limit t)) plain _ (list-settles s b d cs _ (children_if old) (regather s b d _
      (turns-quiet s b d each n (omega (arith, le)) t kids index env (range_with_len 0 (turns (value_in s.program env bound) limit)) own (kids-below s b d kids _ given)))),
)
slots-quiet-more s b d each n le (syntax.choice c t u) kids env own given =
    go (is_zero (value_in s.program env c)) (slots-quiet-more s b d each n le t kids env (or-left _ _ own) (λ e. given (or-true-left _ _ e))) (slots-quiet-more s b d each n le u kids env (or-right _ _ own) (λ e. given (or-true-right _ _ e)))
  where
    go : (z : Bool) → QuietUpTo s b (suc d) (element_of s.program kids env t) → QuietUpTo s b (suc d) (element_of s.program kids env u)
        → QuietUpTo s b (suc d) (cond z (element_of s.program kids env u) (element_of s.program kids env t))
    go true x y = y
    go false x y = x
slots-quiet-more s b d each n le (syntax.host name attrs w ss) kids env own given = (
  each n (omega (arith, le)) (syntax.host name attrs w ss) kids env own (kids-below s b d kids _ given),
  λ cs old. over-settles b (element_of s.program kids env (syntax.host name attrs w ss)) (of_host (old_host old)) _ (list-settles s b d cs _ (children_if old) (regather s b d _ (list-quiet s b d each n (omega (arith, le)) ss kids env own (kids-below s b d kids _ given)))),
)
slots-quiet-more s b d each zero le (syntax.comp name attrs w ss) kids env own given = absurd (omega (arith, le))
slots-quiet-more s b d each (suc m) le (syntax.comp name attrs w ss) kids env own given =
    let c = component_number s.program name in
    let body : Waits = body_by (column b) (suc m) s.program c in
    let inner : Waits = at_slots b (suc m) s.program ss in
    let inside : body.given ≡ true → AllQuiet (QuietUpTo s b d) (elements_of s.program kids env ss) =
    λ g. list-quiet s b d each (suc m) (omega (arith, le)) ss kids env (and-bools body.own inner.own body.given own g) (λ e. all-quiet-below s b d kids (given (rw (g, e) refl))) in (
      each (suc m) (omega (arith, le)) (syntax.comp name attrs w ss) kids env own (kids-below s b d kids _ given),
      comp-quiet s b d each m (omega (arith, le)) c _ _ (elements_of s.program kids env ss) (or-left _ _ own) inside,
    )
slots-quiet-more s b d each n le (syntax.boundary key fallback w ss) kids env own given =
    let primary : Waits = at_slots b n s.program ss in
    let other : Waits = at_slot b n s.program fallback in
    let below = kids-below s b d kids (cond b other (either primary other)).given given in
    let quiet = each n (omega (arith, le)) fallback kids env (boundary-own b primary other own) (λ e. below (boundary-given b primary other e)) in (
      each n (omega (arith, le)) (syntax.boundary key fallback w ss) kids env own below,
      λ cs old. boundary-quiet b s d each n (omega (arith, le)) ss kids env primary other refl own below _ cs old _
          (list-settles s b d cs (element_of s.program kids env fallback ∷ []) (fallback_if old) (quiet-here s b d _ quiet, tt)),
    )
slots-quiet-more s b d each n le (syntax.catcher key fallback w ss) kids env own given =
    let primary : Waits = at_slots b n s.program ss in
    let other : Waits = at_slot b n s.program fallback in
    let below = kids-below s b d kids (cond b (either primary other) other).given given in
    let quiet = each n (omega (arith, le)) fallback kids env (catcher-own b primary other own) (λ e. below (catcher-given b primary other e)) in (
      each n (omega (arith, le)) (syntax.catcher key fallback w ss) kids env own below,
      λ cs old. catcher-quiet b s d each n (omega (arith, le)) ss kids env primary other refl own below _ (element_of s.program kids env fallback) cs old quiet (old_caught old),
    )
slots-quiet-more s b d each n le (syntax.provider name key x w ss) kids env own given = (
  each n (omega (arith, le)) (syntax.provider name key x w ss) kids env own (kids-below s b d kids _ given),
  λ cs old. over-settles b (element_of s.program kids env (syntax.provider name key x w ss)) plain _ (list-settles s b d _ _ (children_if old) (regather s b d _ (list-quiet s b d each n (omega (arith, le)) ss kids env own (kids-below s b d kids _ given)))),
)
slots-quiet-more s b d each n le (syntax.enclosed q t) kids env own given = slots-quiet-more s b d each n le t kids env own given

slots-quiet : (s : Sight) (b : Bool) (d : ℕ) → SlotsQuiet s b d
unfolding rendered
slots-quiet s b zero = λ n le slot kids env own given cs old. tt
slots-quiet s b (suc d) = slots-quiet-more s b d (slots-quiet s b d)

-- ---- the root

component-there : {A : Type 0} (n : ℕ) (cs : List A) → n < length cs → (c : A) × (slice_get cs n ≡ Some c)
component-there n [] h = absurd (omega arith)
component-there zero (c ∷ cs) h = (c, refl)
component-there (suc n) (c ∷ cs) h = component-there n cs (omega arith)

place-below : (n len : ℕ) → 0 < len → unwrap_or (cond (nat_lt n len) (Some n) None) 0 < len
place-below n len h = go (nat_lt n len) refl
  where
    go : (b : Bool) → nat_lt n len ≡ b → unwrap_or (cond b (Some n) None) 0 < len
    go true e = grind (arith, nat_tests)
    go false e = h

-- the root's number is that of a component, if there is one
root-below : (p : Program) → 0 < length (components p) → component_number p root_name < length (components p)
root-below p h =
    let count : length (component_names p) ≡ length (components p) = length-map (components p) (λ c. c.name) in
    subst (λ (n : ℕ). component_number p root_name < n) count (place-below (position_or_len (bytes_eq root_name) (component_names p)) (length (component_names p)) (omega (arith, count)))

some-component : (cs : List Component) → option_map_or (λ c. nat_eq (length c.parameters) 0) (find (λ c. bytes_eq c.name root_name) cs) false ≡ true → 0 < length cs
some-component [] h = absurd (cc h)
some-component (c ∷ cs) h = omega arith

-- something stands in a place
abbrev IsThere : Place → Type 0
IsThere empty = ⊥
IsThere (made n) = Unit {0}
IsThere (waits a) = Unit {0}
IsThere (throws x) = Unit {0}

over-there : (e : Element) (m : Mark) (ps : Places) → IsThere (over e m ps)
over-there e m (all_made ns) = tt
over-there e m (one_waits a) = tt
over-there e m (one_throws x) = tt

body-there : (s : Sight) (d : ℕ) (e : Element) (cs : Contexts) (c : ℕ) (old : Option Node) (b : Body) → IsThere (place_of (rendered d s) e old (shape_of_body cs c old b))
body-there s d e cs c old (wait r v) = tt
body-there s d e cs c old (throw x) = tt
body-there s d e cs c old (ready es effects initials reads versions) =
    over-there e (of_instance (instance_after c (old_instance old) initials reads versions effects)) (render_list (rendered d s cs) es (children_if old))

comp-there : (s : Sight) (d c : ℕ) (key : elements.Key) (props : List ℤ) (es : Elements) (f : Component) → component_at s.program c ≡ Some f → (cs : Contexts) (old : Option Node)
    → IsThere (rendered (suc d) s cs (elements.comp c key props es) old)
unfolding rendered
comp-there s d c key props es f e cs old =
    subst (λ (x : Option Component). IsThere (place_of (rendered d s) (elements.comp c key props es) old (shape_of_component s cs c props es old x))) (sym e)
    (body-there s d (elements.comp c key props es) cs c old (body_of s.program f (inputs_at s cs props es (old_instance old))))

-- what is there, and neither waits nor throws, is a node
node-made : (x : Place) → IsThere x → Settles true x → Settles false x → (n : Node) × (x ≡ made n)
node-made empty h k l = absurd h
node-made (made n) h k l = (n, refl)
node-made (waits a) h k l = absurd k
node-made (throws x) h k l = absurd l

-- App never waits and never throws
pub app_never_waits : (p : Program) → AppNeverWaits p
unfolding fresh root_waits root_throws
app_never_waits p bounded s old is =
    let c : ℕ = component_number s.program root_name in
    let ready : (body_by (column true) 256 s.program c).own ≡ false = subst (λ (q : Program). (body_by (column true) 256 q (component_number q root_name)).own ≡ false) (sym is) bounded.ready in
    let caught : (body_by (column false) 256 s.program c).own ≡ false = subst (λ (q : Program). (body_by (column false) 256 q (component_number q root_name)).own ≡ false) (sym is) bounded.caught in
    let some : 0 < length (components s.program) = subst (λ (q : Program). 0 < length (components q)) (sym is) (some-component (components p) bounded.rooted) in
    let there = component-there c (components s.program) (root-below s.program some) in
    node-made (fresh s old) (comp-there s 255 c None [] (gathered []) there.0 there.1 (default_contexts s.program) old)
    (comp-quiet s true 255 (slots-quiet s true 255) 255 (omega arith) c None [] [] ready (λ g. tt) (default_contexts s.program) old)
    (comp-quiet s false 255 (slots-quiet s false 255) 255 (omega arith) c None [] [] caught (λ g. tt) (default_contexts s.program) old)
