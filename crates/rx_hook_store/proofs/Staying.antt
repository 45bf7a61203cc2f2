-- What is kept stays that of the machine's state if nothing of it changes.
use Rattle.std.proofs.Common.{◌≡◌, ℕ, ℤ, suc, ◌<◌, Option, Some, List, [], ◌∷◌, filter, length, slice_get, refl, sym, ap, ◌∙◌, subst, arith}
use Rattle.std.specs.Option.{IsSome, IsSomeAnd}
use Rattle.rx_base.specs.declared.cut.Cut.{Cut}
use Rattle.rx_lane.specs.Lanes.{Lanes}
use Rattle.rx_ast.specs.Syntax.{Program}
use Rattle.rx_elem.specs.Spots.{mounted}
use Rattle.rx_queue.specs.Journal.{Posted, hook, same_target}
use Rattle.rx_hooks.specs.declared.hook.Hook.{Hook}
use Rattle.rx_hooks.specs.Hooks.{HookHistory}
use Rattle.rx_hooks.proofs.Lists.{stand-length}
use Rattle.rx_meaning.specs.Expressions.{answers_of}
use Rattle.rx_model.specs.State.{State, linked_lanes}
use Rattle.rx_model.specs.HooksOf.{AreHooksFrom, KeepsAllHooks}
use Rattle.rx_hook_store.specs.Rendered.{IsRendered, KeepsInstance}
use Rattle.rx_hook_store.proofs.Stores.{KeptBy, all-keep, each-keeps}

-- ---- another state

module _ (s t : State) (updates : t.journal.updates ≡ s.journal.updates) (links : t.linked ≡ s.linked) where
  hooks_stay : (i k : ℕ) (xs : List ℤ) (hs : List HookHistory) → AreHooksFrom s i k xs hs → AreHooksFrom t i k xs hs
  hooks_stay i k [] [] are = tt
  hooks_stay i k [] (h ∷ hs) are = absurd are
  hooks_stay i k (x ∷ xs) [] are = absurd are
  hooks_stay i k (x ∷ xs) (h ∷ hs) are = (
    record {
      history_is = record {
        initial_is = are.0.history_is.initial_is;
        updates_are = are.0.history_is.updates_are ∙ ap (filter (λ (u : Posted). same_target (hook i k) u.target)) (sym updates);
      };
      linked_is = are.0.linked_is ∙ ap (λ ls. linked_lanes ls (hook i k)) (sym links);
    },
    hooks_stay i (suc k) xs hs are.1,
  )

  pub instance_stays : (p : Program) (old new : KeptBy) (k : ℕ) (initials : List ℤ) → new k ≡ old k → KeepsInstance p s old k initials → KeepsInstance p t new k initials
  instance_stays p old new k initials same g =
      record { hooks = g.hooks; kept_is = same ∙ g.kept_is; histories = g.histories; stand = g.stand; are_of = hooks_stay k 0 initials g.histories g.are_of }

  pub rendered_stays : (p : Program) (lanes : Lanes) (cut : Cut) (old new : KeptBy) (k : ℕ) (initials : List ℤ) → new k ≡ old k → IsRendered p s lanes cut old k initials
      → IsRendered p t lanes cut new k initials
  rendered_stays p lanes cut old new k initials same g =
      record { hooks = g.hooks; kept_is = same ∙ g.kept_is; histories = g.histories; stand = g.stand; are_of = hooks_stay k 0 initials g.histories g.are_of }

  pub all_stay : (p : Program) (old new : KeptBy) → t.tree ≡ s.tree → ((n : ℕ) → new n ≡ old n) → KeepsAllHooks p s old → KeepsAllHooks p t new
  all_stay p old new tree same keeps =
      all-keep p t new
      (λ k m at. instance_stays p old new m.number m.initials (same m.number) (each-keeps p s old keeps k m (subst (λ x. slice_get (mounted x) k ≡ Some m) tree at)))

-- ---- what is there

pub there_is : (p : Program) (s : State) (kept : KeptBy) (i : ℕ) (initials : List ℤ) → KeepsInstance p s kept i initials → IsSome (kept i)
there_is p s kept i initials g = subst IsSome (sym g.kept_is) refl

as_many : (s : State) (i k : ℕ) (xs : List ℤ) (hs : List HookHistory) → AreHooksFrom s i k xs hs → length xs ≡ length hs
as_many s i k [] [] are = refl
as_many s i k [] (h ∷ hs) are = absurd are
as_many s i k (x ∷ xs) [] are = absurd are
as_many s i k (x ∷ xs) (h ∷ hs) are = omega (arith, as_many s i (suc k) xs hs are.1)

pub hook_is : (p : Program) (s : State) (kept : KeptBy) (i place : ℕ) (initials : List ℤ) → place < length initials → KeepsInstance p s kept i initials
    → IsSomeAnd (kept i) (λ (hooks : List Hook). place < length hooks)
hook_is p s kept i place initials lt g =
    let same = as_many s i 0 initials g.histories g.are_of in
    let also = stand-length (answers_of p) g.hooks g.histories g.stand in
    let within : place < length g.hooks = omega arith in
    subst (λ (o : Option (List Hook)). IsSomeAnd o (λ (hooks : List Hook). place < length hooks)) (sym g.kept_is) within
