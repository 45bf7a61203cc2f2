use Rattle.std.proofs.Common.{◌≡◌, ◌∙◌, sym, ap, subst, List, refl, true, false, get_or, ◌++◌, []}
use Rattle.std.specs.Prelude.{map, codes, if◌then◌else◌}
use Rattle.rx_base.specs.Values.{Text}
use Rattle.rx_lane.specs.Lanes.{all_lanes, lanes_where, has}
use Rattle.rx_lane.specs.declared.lane.Lane.TheVariants.{Sync}
use Rattle.rx_lines.specs.Lines.{lane_name}
use Rattle.rx_report.proofs.Joins.{Joins, joins-begin, names-begin, names-next, names-skip, names-end}
use Rattle.rx_report.proofs.draft.Draft.put_names.Goals as goal
use Rattle.rx_report.proofs.draft.Draft.put_names.Goals.{then-has+in_ok-put_between+in_ok-put, else-has}

pub naming-init : goal.naming-init
naming-init c =
    let names : List Text = map lane_name (lanes_where (has c.args.lanes)) in
    record {
      done = refl;
      names = subst (λ (ts : List Text). Joins c.args.self.now.begun c.args.self.now.begun true (codes "+") names ts) (sym (names-begin c.args.lanes)) (joins-begin c.args.self.now.begun (codes "+") names);
    }

pub naming-preserved : goal.naming-preserved
naming-preserved c =
    elim c.if-has.branch [
      | then-has+in_ok-put_between+in_ok-put w ↦
          let here : has c.args.lanes (get_or all_lanes c.naming.lane-index Sync) ≡ true = sym c.has.ensures ∙ w.if-has.true in
          let between : Text = if c.naming.first then [] else codes "+" in
          let name : Text = lane_name (get_or all_lanes c.naming.lane-index Sync) in
          let wrote : c.if-has.self.begun ≡ (c.naming.self.begun ++ between) ++ name = ap (λ v. v.begun) w.self-is ∙ w.in_ok-put.ensures.put
          ∙ ap (λ (l : Text). w.put_between.new.self.begun ++ l) (w.as_bytes.ensures.value ∙ w.lane_name.ensures) ∙ ap (λ (l : Text). l ++ name) w.in_ok-put_between.ensures.put in
          record {
            done = ap (λ v. v.done) w.self-is ∙ w.put.ensures.done ∙ w.put_between.ensures.done ∙ c.naming.invariant.done;
            names = rw w.first-is (names-next c.args.lanes all_lanes c.naming.lane-index c.naming.self.begun _ c.if-has.self.begun c.naming.first (codes "+") _ c.naming-test.true c.naming.invariant.names here wrote);
          }
      | else-has w ↦
          let here : has c.args.lanes (get_or all_lanes c.naming.lane-index Sync) ≡ false = sym c.has.ensures ∙ w.if-has.false in
          record {
            done = ap (λ v. v.done) w.self-is ∙ c.naming.invariant.done;
            names = rw (w.self-is, w.first-is) (names-skip c.args.lanes all_lanes c.naming.lane-index _ _ _ _ _ c.naming-test.true c.naming.invariant.names here);
          }
    ]

pub returns-clause-put : goal.returns-clause-put
returns-clause-put c = names-end c.args.lanes all_lanes c.naming.lane-index _ _ _ _ _ c.naming-test.false c.naming.invariant.names
