use Rattle.std.proofs.Common.{◌≡◌, sym, ◌∙◌, ap, refl, [], ◌∷◌, ◌++◌, None}
use Rattle.rx_ast.specs.Syntax.{Context, as_context}
use Rattle.rx_ast.specs.ProgramView.{declaration_of}
use Rattle.rx_ast.specs.declared.declaration.DeclarationKind.{DeclarationKind}
use Rattle.rx_ast.specs.declared.declaration.DeclarationKind.TheVariants as kind
use Rattle.rx_fresh.proofs.Defaults.{default_taken, default_passed}
use Rattle.rx_fresh.proofs.roots.default_contexts.Goals as goal
use Rattle.rx_fresh.proofs.roots.default_contexts.Goals.{in-Context+in_ok-push, in_default}

no_context : (k : DeclarationKind) → ((x : Context) → k ≡ kind.Context x → ⊥) → as_context (declaration_of k) ≡ None
no_context (kind.Context x) n = absurd (n x refl)
no_context (kind.Function f) n = refl
no_context (kind.Component f) n = refl

pub loop-declaration-preserved : goal.loop-declaration-preserved
loop-declaration-preserved c =
    elim c.match-declaration.branch [
      | in-Context+in_ok-push w ↦
          default_taken c.args.checked.now c.loop-declaration.values.items _ _ c.declarations-declaration-items.result.now c.loop-declaration.declaration-index c.declaration-item.result
          w.in-Context.context c.loop-declaration-test.true c.declaration-item.is
          (ap as_context (sym c.declaration.view_is) ∙ ap (λ k. as_context (declaration_of k)) w.in-Context.is)
          (ap (λ v. v.items) w.values-is ∙ (w.in_ok-push.ensures.items ∙ ap (λ d. c.loop-declaration.values.items ++ d ∷ []) w.default_of.ensures))
          c.loop-declaration.invariant
      | in_default w ↦
          default_passed c.args.checked.now c.loop-declaration.values.items _ _ c.declarations-declaration-items.result.now c.loop-declaration.declaration-index c.declaration-item.result c.loop-declaration-test.true
          c.declaration-item.is (ap as_context (sym c.declaration.view_is) ∙ no_context c.declaration.inside.kind w.in_default.not-Context) (ap (λ v. v.items) w.values-is) c.loop-declaration.invariant
    ]
