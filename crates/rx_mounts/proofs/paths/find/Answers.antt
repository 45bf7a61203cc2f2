use Rattle.rx_mounts.proofs.Finding.{first_led}
use Rattle.rx_mounts.proofs.paths.find.Goals as goal

pub walking-init : goal.walking-init
walking-init c =
    first_led c.args.checked.now c.args.all.now c.args.path.now c.in_ok-part.rest.now c.in_ok-part.part.now c.in_ok-found.found.now c.in_ok-part.ensures.cases.0 c.in_ok-found.ensures
