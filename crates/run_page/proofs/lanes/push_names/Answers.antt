use Rattle.std.proofs.Common.{◌≡◌, ◌∙◌, ◌++◌, sym, ap, get_or, true, false, append_assoc}
use Rattle.std.specs.Prelude.{codes}
use Rattle.rx_base.specs.Values.{Text}
use Rattle.rx_lane.specs.Lanes.{all_lanes, has}
use Rattle.rx_lane.specs.declared.lane.Lane.TheVariants.{Sync}
use Rattle.rx_lines.specs.Lines.{lane_name}
use Rattle.run_page.specs.Facts.{name_behind}
use Rattle.run_page.proofs.Names.{names-begin, names-next, names-skip, names-end}
use Rattle.run_page.proofs.lanes.push_names.Goals as goal
use Rattle.run_page.proofs.lanes.push_names.Goals.{then-has+in_ok-extend_from_slice+in_ok-extend_from_slice-2, else-has}

pub naming-init : goal.naming-init
naming-init c = ap (λ (t : Text). c.args.text.now.items ++ t) (names-begin c.args.lanes)

pub naming-preserved : goal.naming-preserved
naming-preserved c =
    elim c.if-has.branch [
      | then-has+in_ok-extend_from_slice+in_ok-extend_from_slice-2 w ↦
          let here : has c.args.lanes (get_or all_lanes c.naming.lane-index Sync) ≡ true = sym c.has.ensures ∙ w.if-has.true in
          let name : Text = lane_name (get_or all_lanes c.naming.lane-index Sync) in
          let wrote : c.if-has.text.items ≡ c.naming.text.items ++ name_behind (get_or all_lanes c.naming.lane-index Sync) =
          ap (λ v. v.items) w.text-is ∙ w.in_ok-extend_from_slice-2.ensures.items ∙ ap (λ (t : Text). w.extend_from_slice.new.self.items ++ t) w.lane_name.ensures
          ∙ ap (λ (t : Text). t ++ name) w.in_ok-extend_from_slice.ensures.items ∙ append_assoc c.naming.text.items (codes " ") name in
          names-next c.args.lanes all_lanes c.naming.lane-index c.naming.text.items c.if-has.text.items _ c.naming-test.true c.naming.invariant here wrote
      | else-has w ↦
          let here : has c.args.lanes (get_or all_lanes c.naming.lane-index Sync) ≡ false = sym c.has.ensures ∙ w.if-has.false in
          rw w.text-is (names-skip c.args.lanes all_lanes c.naming.lane-index _ _ c.naming-test.true c.naming.invariant here)
    ]

pub returns : goal.returns
returns c = names-end c.args.lanes all_lanes c.naming.lane-index _ _ c.naming-test.false c.naming.invariant
