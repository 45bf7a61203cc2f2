use Rattle.std.proofs.Common.{◌≡◌, ◌∙◌, ◌+◌, ap, ◌++◌, refl, drop, get_or, ℤ}
use Rattle.rx_base.specs.Values.{Name}
use Rattle.rx_lines.specs.Lines.{hook_text}
use Rattle.rx_report.proofs.PieceLists.{hooks_text, hooks-next, hooks-past, hooks-end}
use Rattle.rx_report.proofs.draft.Draft.put_hooks.Goals as goal
use Rattle.rx_report.proofs.draft.Draft.put_hooks.Goals.{in-Some+in_ok-put_hook, in_default}

pub hooks-init : goal.hooks-init
hooks-init c = record { done = refl; hooks = refl }

pub hooks-preserved : goal.hooks-preserved
hooks-preserved c =
    elim c.match-get.branch [
      | in-Some+in_ok-put_hook w ↦
          let looked = w.in-Some.ensures.lookup in
          let name = c.index-names-hook.result in
          let value = w.in-Some.value.now in
          let wrote : c.match-get.self.begun ≡ c.hooks.self.begun ++ hook_text (record { name = name; value = value }) = ap (λ v. v.begun) w.self-is ∙ w.in_ok-put_hook.ensures.put in
          record {
            done = ap (λ v. v.done) w.self-is ∙ w.put_hook.ensures.done ∙ c.hooks.invariant.done;
            hooks = hooks-next c.args.names.now c.args.values.now c.hooks.hook name value c.hooks.self.begun c.match-get.self.begun _ c.hooks-test.true looked.3.0
                (wrote ∙ ap (λ (n : Name). c.hooks.self.begun ++ hook_text (record { name = n; value = value })) c.index-names-hook.is
                ∙ ap (λ (x : ℤ). c.hooks.self.begun ++ hook_text (record { name = get_or c.args.names.now c.hooks.hook name; value = x })) looked.1) c.hooks.invariant.hooks;
          }
      | in_default w ↦
          record {
            done = ap (λ v. v.done) w.self-is ∙ c.hooks.invariant.done;
            hooks = ap (λ v. v.begun ++ hooks_text (drop (c.hooks.hook + 1) c.args.names.now) (drop (c.hooks.hook + 1) c.args.values.now)) w.self-is
                ∙ hooks-past c.args.names.now c.args.values.now c.hooks.hook c.hooks.self.begun _ w.in_default.ensures.lookup.3 c.hooks.invariant.hooks;
          }
    ]

pub returns-clause-put : goal.returns-clause-put
returns-clause-put c = hooks-end c.args.names.now c.args.values.now c.hooks.hook _ _ c.hooks-test.false c.hooks.invariant.hooks
