-- What is kept by instance, if the hooks of one instance go on standing for what they stood for.
use Rattle.std.proofs.Common.{ℕ, ℤ, List, map}
use Rattle.rx_base.specs.declared.cut.Cut.{Cut}
use Rattle.rx_lane.specs.Lanes.{Lanes}
use Rattle.rx_ast.specs.Syntax.{Program}
use Rattle.rx_hooks.specs.Hooks.{HookHistory, rendered}
use Rattle.rx_meaning.specs.Expressions.{answers_of}
use Rattle.rx_meaning.specs.Fresh.{Sight}
use Rattle.rx_model.specs.State.{State}
use Rattle.rx_model.specs.HooksOf.{KeepsAllHooks}
use Rattle.rx_hook_store.specs.Gives.{GivesValues}
use Rattle.rx_hook_store.specs.Rendered.{IsRendered, KeepsInstance}
use Rattle.rx_hook_store.specs.Changing.{ChangesHooks}
use Rattle.rx_hook_store.proofs.Stores.{KeptBy, all-keep, by_number, each-keeps, gives-same, keeps-same, rendered-same}
use Rattle.rx_hook_store.proofs.Sending.{change_stands, is_after}

-- the histories as they are
abbrev as_were : List HookHistory → List HookHistory
as_were histories = histories

module _ (i : ℕ) (old new : KeptBy) (c : ChangesHooks (λ histories. histories) i old new) where
  pub gives_reserved : (s : Sight) (k : ℕ) (initials : List ℤ) → GivesValues s old k initials → GivesValues s new k initials
  gives_reserved s k initials g =
      by_number i k
      (λ same. record {
        hooks = c.here.after;
        kept_is = is_after as_were i old new c k same;
        histories = g.histories;
        stand = change_stands as_were i old new c (answers_of s.program) k g.hooks g.histories same g.kept_is g.stand;
        above_done = g.above_done;
        values_are = g.values_are;
        without_are = g.without_are;
        done_are = g.done_are;
      })
      (λ other. gives-same s k old new initials (c.others k other) g)

  keeps_reserved : (p : Program) (s : State) (k : ℕ) (initials : List ℤ) → KeepsInstance p s old k initials → KeepsInstance p s new k initials
  keeps_reserved p s k initials g =
      by_number i k
      (λ same. record {
        hooks = c.here.after;
        kept_is = is_after as_were i old new c k same;
        histories = g.histories;
        stand = change_stands as_were i old new c (answers_of p) k g.hooks g.histories same g.kept_is g.stand;
        are_of = g.are_of;
      })
      (λ other. keeps-same p s k old new initials (c.others k other) g)

  pub all_reserved : (p : Program) (s : State) → KeepsAllHooks p s old → KeepsAllHooks p s new
  all_reserved p s keeps = all-keep p s new (λ k m at. keeps_reserved p s m.number m.initials (each-keeps p s old keeps k m at))

  pub rendered_reserved : (p : Program) (s : State) (lanes : Lanes) (cut : Cut) (k : ℕ) (initials : List ℤ) → IsRendered p s lanes cut old k initials
      → IsRendered p s lanes cut new k initials
  rendered_reserved p s lanes cut k initials g =
      by_number i k
      (λ same. record {
        hooks = c.here.after;
        kept_is = is_after as_were i old new c k same;
        histories = g.histories;
        stand = change_stands as_were i old new c (answers_of p) k g.hooks (map (rendered lanes cut) g.histories) same g.kept_is g.stand;
        are_of = g.are_of;
      })
      (λ other. rendered-same p s lanes cut k old new initials (c.others k other) g)
