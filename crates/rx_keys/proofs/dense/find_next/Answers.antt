use Rattle.std.proofs.Common.{◌≡◌, ◌∙◌, ℤ, Some, sym, ap, rules, w64}
use Rattle.std.proofs.lemmas.Int.{ints, to_z-of_z}
use mir.Val.{to_z, of_z}
use Rattle.rx_elem.specs.Elements.{key_of}
use Rattle.rx_keys.proofs.ByKey.{next-keyed}
use Rattle.rx_keys.proofs.dense.find_next.Goals as goal

pub returns-in-Some-clause-next : goal.returns-in-Some-clause-next
returns-in-Some-clause-next c earlier h =
    let key : ℤ = to_z w64 (of_z w64 c.value.result) in
    let written : key ≡ c.in-Some.key = to_z-of_z w64 c.value.result (search (rules, ints)) ∙ c.value.ensures in
    let there : key_of c.args.child.now ≡ Some c.in-Some.key = search rules in
    next-keyed c.args.old.now earlier c.args.child.now key c.args.table.now c.take_entry.new.table c.requires.once (there ∙ ap Some (sym written)) c.take_entry.ensures.taken h
