use Rattle.std.proofs.Common.{◌≡◌, ◌∙◌, ℤ, Some, None, cond, sym, ap, rules, w64}
use Rattle.std.specs.Ordering.{int_eq}
use Rattle.std.proofs.lemmas.Int.{ints, to_z-of_z}
use mir.Val.{to_z, of_z}
use Rattle.rx_elem.specs.Elements.{key_of}
use Rattle.rx_keys.specs.Dense.{entry_at}
use Rattle.rx_keys.proofs.ByKey.{keys-keyed, keys-unkeyed}
use Rattle.rx_keys.proofs.dense.note_child.Goals as goal

pub returns-in-None : goal.returns-in-None
returns-in-None c earlier size h noted =
    let none : key_of c.args.child.now ≡ None = search rules in
    keys-unkeyed earlier c.args.child.now c.args.table.now none h

pub returns-in-Some : goal.returns-in-Some
returns-in-Some c earlier size h noted =
    let key : ℤ = to_z w64 (of_z w64 c.value.result) in
    let written : key ≡ c.in-Some.key = to_z-of_z w64 c.value.result (search (rules, ints)) ∙ c.value.ensures in
    let there : key_of c.args.child.now ≡ Some c.in-Some.key = search rules in
    keys-keyed earlier c.args.child.now key c.args.table.now c.note_entry.new.table (there ∙ ap Some (sym written)) (c.note_entry.ensures.free noted)
    (λ k. c.note_entry.ensures.noted noted k ∙ ap (λ n. cond (int_eq key k) (Some n) (entry_at c.args.table.now k)) (sym size)) h
