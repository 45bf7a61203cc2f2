use Rattle.machine_examples.proofs.MountingComputed.{no_script, mount_and_set, remount, unmounted, wrapping}
use Rattle.machine_examples.proofs.examples.mounting.Goals as goal

pub returns : goal.returns
returns c = record { no_script = no_script; mount_and_set = mount_and_set; remount = remount; unmounted = unmounted; wrapping = wrapping }
