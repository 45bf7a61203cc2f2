use Rattle.rx_forest.specs.Forests.{without}
use Rattle.rx_host.specs.Linking.{forest_in}
use Rattle.rx_host.proofs.Tabled.{stands-within}
use Rattle.rx_host.proofs.table.HostTable.stand.Goals as goal

pub returns-clause-links : goal.returns-clause-links
returns-clause-links c children sound can =
    c.attach.ensures.links (λ q. without c.args.host (children q)) (c.detach.ensures.links children sound)
    (stands-within (forest_in c.args.self.now children) c.args.host c.args.parent c.args.before can)
