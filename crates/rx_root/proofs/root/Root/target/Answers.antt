use Rattle.std.proofs.Common.{◌≡◌, ◌∙◌, ap, sym, subst, ℕ, ◌<◌, true, length}
use Rattle.std.specs.Prelude.{option_map}
use Rattle.rx_ast.specs.Syntax.{Program}
use Rattle.rx_base.specs.Values.{Name}
use Rattle.rx_check.specs.Accepted.{IsAccepted}
use Rattle.rx_elem.specs.Spots.{Mounted}
use Rattle.rx_fiber.specs.Fibers.{Fiber}
use Rattle.rx_fiber.specs.Reading.{IsTreeOf}
use Rattle.rx_links.specs.Drafts.{Trees}
use Rattle.rx_rules.specs.Names.{has_name}
use Rattle.rx_step.specs.Steps.{hook_name, path_of}
use Rattle.rx_instances.specs.declared.find.Found.{Found}
use Rattle.rx_instances.specs.Nearest.{found_as}
use Rattle.rx_model.specs.State.{hook_number, hooks_at, instance_found}
use Rattle.rx_model.specs.Accepting.{op_of}
use Rattle.rx_model.specs.Laws.{IsBounded}
use Rattle.rx_root.specs.Rooted.{Rooted}
use Rattle.rx_root.specs.Taking.{IsTargetOf}
use Rattle.rx_root.proofs.Findable.{found_none, found_one, state_numbered}
use Rattle.rx_root.proofs.Sending.{is_for}
use Rattle.rx_root.proofs.root.Root.target.Goals as goal

pub returns-in_err-found-clause-target : goal.returns-in_err-found-clause-target
returns-in_err-found-clause-target c s h can =
    let v = c.args.self.now in
    let p = v.rendering.program in
    let d = c.args.dispatch.now in
    let program : c.checked-checked.result.now ≡ p = c.checked-checked.ensures ∙ ap (λ (r : Rooted). r.rendering.program) c.self.view_is in
    let bounded = subst IsBounded (ap (λ (r : Rooted). r.rendering.program) c.self.view_is) c.facts.ensures.bounded in
    let numbered = state_numbered p bounded s h.reached in
    let fibers : c.fibers.result.now ≡ v.rendering.trees = c.fibers.ensures.trees ∙ ap (λ (r : Rooted). r.rendering.trees) c.self.view_is in
    let current = subst (λ (t : Trees Fiber). IsTreeOf s.tree t.current) (sym fibers) h.current in
    let same : instance_found c.checked-checked.result.now s.tree c.dispatch_path.result.now ≡ instance_found p s.tree (path_of d) =
    (λ i. instance_found (program i) s.tree (c.dispatch_path.ensures i)) in
    subst (IsTargetOf p s d) (sym c.from_residual.ensures)
    (found_none (instance_found p s.tree (path_of d)) (c.in_err-found.ensures.found s.tree s.numbers.instance current numbered.0 numbered.1 ∙ ap (option_map found_as) same))

pub returns-clause-target : goal.returns-clause-target
returns-clause-target c s h can =
    let v = c.args.self.now in
    let p = v.rendering.program in
    let d = c.args.dispatch.now in
    let f : Found = c.in_ok-found.found in
    let program : c.checked-checked.result.now ≡ p = c.checked-checked.ensures ∙ ap (λ (r : Rooted). r.rendering.program) c.self.view_is in
    let accepted = subst IsAccepted program c.program.ensures.accepted in
    let bounded = subst IsBounded (ap (λ (r : Rooted). r.rendering.program) c.self.view_is) c.facts.ensures.bounded in
    let numbered = state_numbered p bounded s h.reached in
    let fibers : c.fibers.result.now ≡ v.rendering.trees = c.fibers.ensures.trees ∙ ap (λ (r : Rooted). r.rendering.trees) c.self.view_is in
    let current = subst (λ (t : Trees Fiber). IsTreeOf s.tree t.current) (sym fibers) h.current in
    let same : instance_found c.checked-checked.result.now s.tree c.dispatch_path.result.now ≡ instance_found p s.tree (path_of d) =
    (λ i. instance_found (program i) s.tree (c.dispatch_path.ensures i)) in
    let one = found_one (instance_found p s.tree (path_of d)) f (c.in_ok-found.ensures.found s.tree s.numbers.instance current numbered.0 numbered.1 ∙ ap (option_map found_as) same) in
    let m : Mounted = one.0 in
    let component : f.component ≡ m.component = one.3 in
    let place : c.hook_place.result ≡ hook_number p m.component (hook_name d) =
    c.hook_place.ensures.number ∙ (λ i. hook_number (program i) (component i) (c.dispatch_hook.ensures i)) in
    let below : has_name (hooks_at p m.component) (hook_name d) ≡ true → c.hook_place.result < length (hooks_at p m.component) =
    subst (λ (n : Name). has_name (hooks_at p m.component) n ≡ true → c.hook_place.result < length (hooks_at p m.component)) c.dispatch_hook.ensures
    (subst (λ (x : ℕ). has_name (hooks_at p x) c.dispatch_hook.result.now ≡ true → c.hook_place.result < length (hooks_at p x)) component
    (subst (λ (q : Program). has_name (hooks_at q f.component) c.dispatch_hook.result.now ≡ true → c.hook_place.result < length (hooks_at q f.component)) program
    c.hook_place.ensures.below)) in
    let op : c.dispatch_op.result ≡ op_of p m.component d = c.dispatch_op.ensures ∙ (λ i. op_of (program i) (component i) d) in
    is_for p s v d m (record { instance = f.number; place = c.hook_place.result; op = c.dispatch_op.result }) accepted h can one.1 one.2 place below op
