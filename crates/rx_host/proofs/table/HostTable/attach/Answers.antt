use Rattle.rx_host.proofs.Tabled.{attach-steps}
use Rattle.rx_host.proofs.table.HostTable.attach.Goals as goal

pub returns-clause-links : goal.returns-clause-links
returns-clause-links c children sound within =
    attach-steps c.args.self.now c.set_place.new.self c.set_behind.new.self c.set_ahead.new.self children c.args.host c.args.parent c.ahead_of-ahead.result c.args.before sound
    c.requires.nowhere c.requires.held c.requires.parent within c.ahead_of-ahead.ensures c.set_place.ensures.links c.set_place.ensures.kept c.set_behind.ensures.links
    c.set_behind.ensures.kept c.set_ahead.ensures.links
