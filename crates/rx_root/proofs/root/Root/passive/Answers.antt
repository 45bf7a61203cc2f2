use Rattle.std.proofs.Common.{◌≡◌, ◌∙◌, ap, sym, subst}
use Rattle.rx_effect.specs.EffectLog.{no_passive}
use Rattle.rx_writing.specs.Written.{passive_lines, with_lines}
use Rattle.rx_model.specs.Accepting.{between_events}
use Rattle.rx_model.specs.Committing.{passive_run}
use Rattle.rx_root.specs.Rooted.{Rooted}
use Rattle.rx_root.specs.Stands.{StandsForSome}
use Rattle.rx_root.proofs.Broken.{for_some, room_same}
use Rattle.rx_root.proofs.Taken.{passive_done}
use Rattle.rx_root.proofs.root.Root.passive.Goals as goal

pub returns-clause-ok : goal.returns-clause-ok
returns-clause-ok c s h =
    let shown : c.flush_passive.new.self ≡ record c.args.self.now.shown { passive = no_passive } = c.in_ok-flush_passive.ensures.ended ∙ ap (λ (v : Rooted). record v.shown { passive = no_passive }) c.self.view_is in
    passive_done c.args.self.now.rendering.program s c.args.self.now _ c.args.log.now c.flush_passive.new.log h (λ i. record (c.self.view_is i) { shown = shown i; event = c.new-self-inside.ensures i })
    (c.in_ok-flush_passive.ensures.written ∙ ap (λ (v : Rooted). with_lines c.args.log.now (passive_lines v.shown.passive)) c.self.view_is)

pub returns-clause-stands : goal.returns-clause-stands
returns-clause-stands c = let s = c.requires.stands.0 in for_some c.args.self.now.rendering.program (passive_run (between_events s)).after _ (returns-clause-ok c s c.requires.stands.1).stands

pub returns-clause-room : goal.returns-clause-room
returns-clause-room c k h =
    let is = c.self.view_is in
    room_same c.args.self.now _ (ap (λ (v : Rooted). v.updates) is) (ap (λ (v : Rooted). v.resolutions) is) (ap (λ (v : Rooted). v.commits) is) (ap (λ (v : Rooted). v.numbers) is) k h

pub returns-in_err-flush_passive-clause-stands : goal.returns-in_err-flush_passive-clause-stands
returns-in_err-flush_passive-clause-stands c =
    let shown : c.flush_passive.new.self ≡ c.args.self.now.shown = c.in_err-flush_passive.ensures.same ∙ ap (λ (v : Rooted). v.shown) c.self.view_is in
    subst StandsForSome (sym (λ i. record (c.self.view_is i) { shown = shown i })) c.requires.stands
