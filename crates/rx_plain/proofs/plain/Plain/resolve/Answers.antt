use Rattle.std.proofs.Common.{◌≡◌, ◌+◌, ℕ, ◌<◌, ◌∙◌, ap, sym, subst, length, Some, None, arith}
use Rattle.std.proofs.lemmas.Result.{on_ok_weaker}
use Rattle.rx_rules.specs.Names.{resource_number, resources}
use Rattle.rx_queue.specs.Journal.{next_version}
use Rattle.rx_sched.specs.Schedule.{after_resolution}
use Rattle.rx_model.specs.Accepting.{is_awaited_in, last_value}
use Rattle.rx_resources.specs.Kept.{Kept, value_of}
use Rattle.rx_resources.specs.Kept as kept_of
use Rattle.rx_resources.specs.Store.{kept_at, resolved_at}
use Rattle.rx_resources.proofs.Counting.{next_agrees}
use Rattle.rx_plain.specs.Plained.{Plained}
use Rattle.rx_kept.proofs.Resources.{next_asked}
use Rattle.rx_plain.proofs.Taken.{already_done, resolved_done, resolved_room, room_kept, value_kept}
use Rattle.rx_plain.proofs.plain.Plain.resolve.Goals as goal

-- what is kept of a resource of the program
pub get-requires : goal.get-requires
get-requires c =
    let lt = c.resource_number-number.ensures.below c.requires.fits in
    let all = c.requires.stands.1.resources.all in
    let view = ap (λ (v : Plained). length v.resources) c.self.view_is in
    omega (arith, lt, all, view)

pub is_awaited-waits-requires : goal.is_awaited-waits-requires
is_awaited-waits-requires c =
    let lt = c.resource_number-number.ensures.below c.requires.fits in
    let all = c.requires.stands.1.resources.all in
    omega (arith, lt, all)

pub give-requires-clause-within : goal.give-requires-clause-within
give-requires-clause-within c =
    let lt = c.resource_number-number.ensures.below c.requires.fits in
    let all = c.requires.stands.1.resources.all in
    omega (arith, lt, all)

pub give-requires-clause-asked : goal.give-requires-clause-asked
give-requires-clause-asked c =
    let r = c.resource_number-number.result in
    next_asked (kept_at c.args.self.now.resources r)
    (sym (c.last_value.ensures ∙ ap (λ (k : Kept). value_of k (kept_of.last_version k)) (c.get.ensures ∙ ap (λ (x : Plained). kept_at x.resources r) c.self.view_is)) ∙ c.in-None.is)

pub returns-in-Some-clause-ok : goal.returns-in-Some-clause-ok
returns-in-Some-clause-ok c =
    on_ok_weaker c.already_line.result
    (λ are s h.
    let v = c.args.self.now in
    let p = c.args.checked.now in
    let r = c.resource_number-number.result in
    let read : c.last_value.result ≡ last_value s r =
    c.last_value.ensures ∙ ap (λ (k : Kept). value_of k (kept_of.last_version k)) (c.get.ensures ∙ ap (λ (x : Plained). kept_at x.resources r) c.self.view_is) ∙ value_kept p s v r h (c.resource_number-number.ensures.below c.requires.fits) in
    let has : last_value s (resource_number p c.args.name.now) ≡ Some c.in-Some.known =
    subst (λ (k : ℕ). last_value s k ≡ Some c.in-Some.known) c.resource_number-number.ensures.number (sym read ∙ c.in-Some.is) in
    already_done p s c.args.name.now c.args.value c.in-Some.known v _ c.args.log.now c.already_line.new.self h has (λ i. record (c.self.view_is i) { event = c.new-self-inside.ensures i }) are)
    c.already_line.ensures.written

pub returns-in-None-clause-ok : goal.returns-in-None-clause-ok
returns-in-None-clause-ok c s h =
    let v = c.args.self.now in
    let p = c.args.checked.now in
    let r = c.resource_number-number.result in
    let lt : r < length (resources p) = c.resource_number-number.ensures.below c.requires.fits in
    let read : c.last_value.result ≡ last_value s r =
    c.last_value.ensures ∙ ap (λ (k : Kept). value_of k (kept_of.last_version k)) (c.get.ensures ∙ ap (λ (x : Plained). kept_at x.resources r) c.self.view_is) ∙ value_kept p s v r h lt in
    let number = c.resource_number-number.ensures.number in
    let none : last_value s (resource_number p c.args.name.now) ≡ None =
    subst (λ (k : ℕ). last_value s k ≡ None) number (sym read ∙ c.in-None.is) in
    let within : resource_number p c.args.name.now < length (resources p) = subst (λ (k : ℕ). k < length (resources p)) number lt in
    let next : length (kept_at v.resources r).values ≡ next_version s.journal r = next_agrees s.journal r (kept_at v.resources r) (h.resources.each r (let all = h.resources.all in omega (arith, all, lt))) in
    resolved_done p s c.args.name.now c.args.value v _ c.args.log.now h none within
    (λ j. record ((c.self-in-None.view_is ∙ c.give.ensures
    ∙ (λ i. record v { schedule = after_resolution v.schedule (number i) ((next ∙ ap (λ (k : ℕ). next_version s.journal k) number) i) ((c.is_awaited-waits.ensures s h ∙ ap (λ (k : ℕ). is_awaited_in s k (next_version s.journal k)) number) i) v.now; resolutions = v.resolutions + 1; resources = resolved_at c.args.value (number i) v.resources })) j) { event = c.new-self-inside-in-None.ensures j })

pub returns-in-Some-clause-left : goal.returns-in-Some-clause-left
returns-in-Some-clause-left c =
    on_ok_weaker c.already_line.result
    (λ are k. room_kept c.args.self.now _ (ap (λ (v : Plained). v.updates) c.self.view_is) (ap (λ (v : Plained). v.resolutions) c.self.view_is) (ap (λ (v : Plained). v.commits) c.self.view_is) (ap (λ (v : Plained). v.numbers) c.self.view_is) k)
    c.already_line.ensures.written

pub returns-in-None-clause-left : goal.returns-in-None-clause-left
returns-in-None-clause-left c k =
    let is = c.self-in-None.view_is ∙ c.give.ensures in
    resolved_room c.args.self.now _ (ap (λ (v : Plained). v.updates) is) (ap (λ (v : Plained). v.resolutions) is) (ap (λ (v : Plained). v.commits) is) (ap (λ (v : Plained). v.numbers) is) k
