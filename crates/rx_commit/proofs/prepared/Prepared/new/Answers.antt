use Rattle.std.proofs.Common.{◌++◌, ◌∙◌, ap, subst, sym}
use Rattle.rx_effect.specs.EffectLog.{Passive}
use Rattle.rx_changes.specs.Found.{Found}
use Rattle.rx_commit.specs.Shown.{TellsWhere}
use Rattle.rx_commit.proofs.Beside.{caught-of, layout-of, ops-of, passive-of}
use Rattle.rx_commit.proofs.prepared.Prepared.new.Goals as goal

abbrev passive_in : Found → Passive
passive_in f = record { destroyed = f.passive.destroyed; created = f.passive.created }

pub ops_beside-requires-clause-placed : goal.ops_beside-requires-clause-placed
ops_beside-requires-clause-placed c = c.deref.ensures.value ∙ ap (λ (f : Found). f.placed) c.requires.changes

pub returns : goal.returns
returns c = λ old new beside present commits tells.
    let b = c.args.beside.now in
    record {
      ops_are =
          ops-of old new b beside present c.deref.result.now c.args.told.now c.in_ok-ops_beside.field-0.items c.in_ok-ops_beside.ensures commits
          (subst (λ placed. TellsWhere placed c.args.told.now new) (sym c.deref.ensures.value) tells);
      caught_is = ap (λ (x : Found). x.caught) c.requires.changes ∙ caught-of old new b beside present;
      layout_is = ap (λ (x : Found). x.layout.destroyed ++ x.layout.created) c.requires.changes ∙ layout-of old new b beside present;
      passive_is = ap passive_in c.requires.changes ∙ passive-of old new b beside present;
    }
