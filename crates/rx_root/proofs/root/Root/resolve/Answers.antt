use Rattle.std.proofs.Common.{◌≡◌, ◌+◌, ℕ, ◌<◌, ◌∙◌, ap, refl, sym, subst, length, Some, None, arith}
use Rattle.rx_rules.specs.Names.{resource_number, resources}
use Rattle.rx_queue.specs.Journal.{next_version}
use Rattle.rx_sched.specs.Schedule.{after_resolution}
use Rattle.rx_model.specs.Accepting.{is_awaited_in, last_value}
use Rattle.rx_resources.specs.Kept.{Kept, value_of}
use Rattle.rx_resources.specs.Kept as kept_of
use Rattle.rx_resources.specs.Store.{kept_at, resolved_at}
use Rattle.rx_resources.proofs.Counting.{next_agrees}
use Rattle.rx_root.specs.Rooted.{Rooted}
use Rattle.rx_root.proofs.Broken.{for_some}
use Rattle.rx_kept.proofs.Resources.{next_asked}
use Rattle.rx_root.proofs.Taken.{already_stands, resolved_stands, value_kept}
use Rattle.rx_root.proofs.root.Root.resolve.Goals as goal

-- what is kept of a resource of the program, at a root that stands for a state
pub get-requires : goal.get-requires
get-requires c =
    let lt = c.resource-number.ensures.below c.requires.fits in
    let all = c.requires.stands.1.resources.all in
    let view = ap (λ (v : Rooted). length v.resources) c.self.view_is in
    omega (arith, lt, all, view)

pub is_awaited-waits-requires : goal.is_awaited-waits-requires
is_awaited-waits-requires c =
    let lt = c.resource-number.ensures.below c.requires.fits in
    let all = c.requires.stands.1.resources.all in
    omega (arith, lt, all)

pub give-requires-clause-within : goal.give-requires-clause-within
give-requires-clause-within c =
    let lt = c.resource-number.ensures.below c.requires.fits in
    let all = c.requires.stands.1.resources.all in
    omega (arith, lt, all)

pub give-requires-clause-asked : goal.give-requires-clause-asked
give-requires-clause-asked c =
    let r = c.resource-number.result in
    next_asked (kept_at c.args.self.now.resources r)
    (sym (c.last_value.ensures ∙ ap (λ (k : Kept). value_of k (kept_of.last_version k)) (c.get.ensures ∙ ap (λ (x : Rooted). kept_at x.resources r) c.self.view_is)) ∙ c.in-None.is)

pub returns-in-Some-clause-already : goal.returns-in-Some-clause-already
returns-in-Some-clause-already c s known h =
    let v = c.args.self.now in
    let p = v.rendering.program in
    let r = c.resource-number.result in
    let read : c.last_value.result ≡ last_value s r =
    c.last_value.ensures ∙ ap (λ (k : Kept). value_of k (kept_of.last_version k)) (c.get.ensures ∙ ap (λ (x : Rooted). kept_at x.resources r) c.self.view_is) ∙ value_kept p s v r h (c.resource-number.ensures.below c.requires.fits) in
    let has : last_value s (resource_number p c.args.name.now) ≡ Some c.in-Some.known =
    subst (λ (k : ℕ). last_value s k ≡ Some c.in-Some.known) c.resource-number.ensures.number (sym read ∙ c.in-Some.is) in
    (λ is. let all = has in cc, λ e. let all = has in cc)

pub returns-in-Some-clause-after : goal.returns-in-Some-clause-after
returns-in-Some-clause-after c s h =
    already_stands c.args.self.now.rendering.program s c.args.name.now c.args.value c.in-Some.known c.args.self.now _ h ((returns-in-Some-clause-already c s c.in-Some.known h).0 refl)
    (λ i. record (c.self.view_is i) { event = c.new-self-inside.ensures i })

pub returns-in-Some-clause-stands : goal.returns-in-Some-clause-stands
returns-in-Some-clause-stands c =
    for_some c.args.self.now.rendering.program _ _ (returns-in-Some-clause-after c c.requires.stands.0 c.requires.stands.1)

pub returns-in-None-clause-after : goal.returns-in-None-clause-after
returns-in-None-clause-after c s h =
    let v = c.args.self.now in
    let p = v.rendering.program in
    let r = c.resource-number.result in
    let lt : r < length (resources p) = c.resource-number.ensures.below c.requires.fits in
    let read : c.last_value.result ≡ last_value s r =
    c.last_value.ensures ∙ ap (λ (k : Kept). value_of k (kept_of.last_version k)) (c.get.ensures ∙ ap (λ (x : Rooted). kept_at x.resources r) c.self.view_is) ∙ value_kept p s v r h lt in
    let number = c.resource-number.ensures.number in
    let none : last_value s (resource_number p c.args.name.now) ≡ None =
    subst (λ (k : ℕ). last_value s k ≡ None) number (sym read ∙ c.in-None.is) in
    let within : resource_number p c.args.name.now < length (resources p) = subst (λ (k : ℕ). k < length (resources p)) number lt in
    let next : length (kept_at v.resources r).values ≡ next_version s.journal r = next_agrees s.journal r (kept_at v.resources r) (h.resources.each r (let all = h.resources.all in omega (arith, all, lt))) in
    resolved_stands p s c.args.name.now c.args.value v _ h none within
    (λ j. record ((c.self-in-None.view_is ∙ c.give.ensures
    ∙ (λ i. record v { schedule = after_resolution v.schedule (number i) ((next ∙ ap (λ (k : ℕ). next_version s.journal k) number) i) ((c.is_awaited-waits.ensures s h ∙ ap (λ (k : ℕ). is_awaited_in s k (next_version s.journal k)) number) i) v.now; resolutions = v.resolutions + 1; resources = resolved_at c.args.value (number i) v.resources })) j) { event = c.new-self-inside-in-None.ensures j })

pub returns-in-None-clause-already : goal.returns-in-None-clause-already
returns-in-None-clause-already c s known h =
    let v = c.args.self.now in
    let p = v.rendering.program in
    let r = c.resource-number.result in
    let read : c.last_value.result ≡ last_value s r =
    c.last_value.ensures ∙ ap (λ (k : Kept). value_of k (kept_of.last_version k)) (c.get.ensures ∙ ap (λ (x : Rooted). kept_at x.resources r) c.self.view_is) ∙ value_kept p s v r h (c.resource-number.ensures.below c.requires.fits) in
    let none : last_value s (resource_number p c.args.name.now) ≡ None =
    subst (λ (k : ℕ). last_value s k ≡ None) c.resource-number.ensures.number (sym read ∙ c.in-None.is) in
    (λ is. absurd (cc), λ e. absurd (let no : None ≡ Some known = sym none ∙ e in cc))

pub returns-in-None-clause-stands : goal.returns-in-None-clause-stands
returns-in-None-clause-stands c =
    for_some c.args.self.now.rendering.program _ _ (returns-in-None-clause-after c c.requires.stands.0 c.requires.stands.1)
