use Rattle.std.proofs.Common.{ap}
use Rattle.rx_set.specs.Sets.{holds}
use Rattle.rx_hook_store.specs.Store.{kept_hooks}
use Rattle.rx_settle.specs.Found.{seen}
use Rattle.rx_settle.proofs.Found.{all_in_list, clash, first_member, has_working, works_elsewhere}
use Rattle.rx_settle.proofs.working.working_of.Goals as goal

pub returns-clause-found : goal.returns-clause-found
returns-clause-found c =
    has_working c.args.lanes c.args.cut (kept_hooks c.args.store.now) (holds c.in_ok-numbers.numbers) (holds c.take_known.new.numbers) c.args.instances.now
    (seen c.in_ok-found.found.items) c.in_ok-numbers.ensures.all c.in_ok-found.ensures

pub returns-clause-all : goal.returns-clause-all
returns-clause-all c all =
    all_in_list c.args.lanes c.args.cut (kept_hooks c.args.store.now) (holds c.in_ok-numbers.numbers) (holds c.take_known.new.numbers) c.args.instances.now
    (seen c.in_ok-found.found.items) c.in_ok-numbers.ensures.all c.in_ok-found.ensures (λ n. ap (λ l. holds l n) (c.is_empty-are_all.ensures.0 all))

pub returns-clause-others : goal.returns-clause-others
returns-clause-others c others =
    let m = first_member c.take_known.new.numbers (λ none. clash (c.is_empty-are_all.result) (c.is_empty-are_all.ensures.1 none) others) in
    works_elsewhere c.args.lanes c.args.cut (kept_hooks c.args.store.now) (holds c.in_ok-numbers.numbers) (holds c.take_known.new.numbers) c.args.instances.now
    (seen c.in_ok-found.found.items) c.in_ok-numbers.ensures.only c.in_ok-found.ensures m.0 m.1
