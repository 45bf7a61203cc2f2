-- The premises of the law of Sync, by computing both runs.
use Rattle.std.specs.Prelude.{◌≡◌, ℕ, zero, suc, ◌≤◌, IsTrue, true, false, List, [], ◌∷◌, ◌++◌, Option, Some, None, refl}
use Rattle.std.proofs.Common.{arith, subst}
use Rattle.std.specs.Fmt.{digits}
use Rattle.rx_base.specs.Awaits.{awaits_where}
use Rattle.rx_lane.specs.Lanes.{lanes_where}
use Rattle.rx_ast.specs.Syntax.{Component, Program, body_slots}
use Rattle.rx_rules.specs.Bounds.{body_by, depth_bound, node_bound, root_throws, root_waits}
use Rattle.rx_rules.specs.Versions.{node_limit}
use Rattle.rx_rules.specs.Keys.{KeysApart, SlotsKeysApart, keyed_places}
use Rattle.rx_rules.specs.Names.{component_at}
use Rattle.rx_rules.specs.Reads.{AllDeclared, ReadsDeclared}
use Rattle.rx_sched.specs.Links.{linked_by, links_among, one_link_on, links_on}
use Rattle.rx_sched.specs.Deadlines.{timed}
use Rattle.rx_step.specs.declared.step.Step.{Step}
use Rattle.rx_queue.specs.Journal.{state_of, committed_value}
use Rattle.rx_meaning.specs.Body.{body_of}
use Rattle.rx_meaning.specs.Fresh.{depth_limit, rendered, fresh}
use Rattle.rx_forest.specs.HostOps.{host_ops}
use Rattle.rx_model.specs.Laws.{IsBounded}
use Rattle.rx_model.specs.State.{end_line, is_quiet, opening}
use Rattle.rx_model.specs.Stretch.{Stretch}
use Rattle.replay_laws.specs.Attributes.{AttributesApart, SlotsAttributesApart}
use Rattle.sync_laws.specs.Sync.{IsSteady, all_in_sync}
use Rattle.machine_examples.specs.Programs.{appending}
use Rattle.machine_examples.specs.Queues.{rebased_script}
use Rattle.machine_examples.specs.Sync.{AllSyncPremises, MeetsPremises, SyncPremises, all_sync_script}
use Rattle.machine_examples.proofs.Chosen.{chosen_run, run-tells}

-- a run is steady and ends quiet
abbrev IsWell : List Step → Option Stretch → Type 0
IsWell steps None = ⊥
IsWell steps (Some r) = IsSteady steps (r.lines ++ end_line r.after ∷ []) × IsTrue (is_quiet r.after)

met : (p : Program) (steps : List Step) → IsBounded p → AttributesApart p → (o q : Option Stretch) → chosen_run p opening steps ≡ o → chosen_run p opening (all_in_sync steps) ≡ q
    → IsWell steps o → IsWell (all_in_sync steps) q → MeetsPremises p steps
met p steps bounded apart None q e f h k = absurd h
met p steps bounded apart (Some r) None e f h k = absurd k
met p steps bounded apart (Some r) (Some t) e f h k =
    record {
      bounded = bounded;
      apart = apart;
      lines = r.lines ++ end_line r.after ∷ [];
      others = t.lines ++ end_line t.after ∷ [];
      bodies = r.bodies;
      more = t.bodies;
      run = record { whole = r; runs = run-tells p opening steps r e; lines_are = refl; bodies_are = refl };
      run_in_sync = record { whole = t; runs = run-tells p opening (all_in_sync steps) t f; lines_are = refl; bodies_are = refl };
      steady = h.0;
      steady_in_sync = k.0;
      quiet = h.1;
      quiet_in_sync = k.1;
    }

-- The program

abbrev IfApart : Option Component → Type 0
IfApart None = Unit {0}
IfApart (Some d) = (keyed_places (body_slots d.body) ≤ 1) × SlotsKeysApart (body_slots d.body)

abbrev IfDeclared : Option Component → Type 0
IfDeclared None = Unit {0}
IfDeclared (Some d) = AllDeclared appending d.statements

abbrev IfAttributesApart : Option Component → Type 0
IfAttributesApart None = Unit {0}
IfAttributesApart (Some d) = SlotsAttributesApart (body_slots d.body)

apart_at : (c : ℕ) → IfApart (component_at appending c)
apart_at zero = search arith
apart_at (suc c) = tt

declared_at : (c : ℕ) → IfDeclared (component_at appending c)
declared_at zero = (tt, tt)
declared_at (suc c) = tt

attributes_at : (c : ℕ) → IfAttributesApart (component_at appending c)
attributes_at zero = ((tt, (tt, tt)), tt)
attributes_at (suc c) = tt

keys : KeysApart appending
keys c d e = subst IfApart e (apart_at c)

attributes : AttributesApart appending
attributes c d e = subst IfAttributesApart e (attributes_at c)

declared : ReadsDeclared appending
declared c d e = subst IfDeclared e (declared_at c)

small : node_bound appending ≤ node_limit appending
unfolding node_bound body_by
small = omega arith

shallow : depth_bound appending ≤ depth_limit
unfolding depth_bound body_by
shallow = omega arith

ready : root_waits (λ c. true) appending ≡ false
unfolding root_waits body_by
ready = refl

caught : root_throws (λ c. true) appending ≡ false
unfolding root_throws body_by
caught = refl

bounded : IsBounded appending
bounded = record { rooted = refl; ready = ready; caught = caught; shallow = shallow; small = small; apart = keys; declared = declared }

-- Both runs

run_is_well : IsWell rebased_script (chosen_run appending opening rebased_script)
unfolding digits awaits_where lanes_where body_by node_bound linked_by links_among one_link_on links_on timed state_of committed_value body_of rendered fresh host_ops
run_is_well = (
  record {
    begins = refl;
    alike = (
      record { instances = refl; none_hidden = refl; none_caught = refl },
      (record { instances = refl; none_hidden = refl; none_caught = refl }, (record { instances = refl; none_hidden = refl; none_caught = refl }, tt)),
    );
  },
  refl,
)

sync_run_is_well : IsWell (all_in_sync rebased_script) (chosen_run appending opening (all_in_sync rebased_script))
unfolding digits awaits_where lanes_where body_by node_bound linked_by links_among one_link_on links_on timed state_of committed_value body_of rendered fresh host_ops
sync_run_is_well = (
  record {
    begins = refl;
    alike = (
      record { instances = refl; none_hidden = refl; none_caught = refl },
      (
        record { instances = refl; none_hidden = refl; none_caught = refl },
        (
          record { instances = refl; none_hidden = refl; none_caught = refl },
          (record { instances = refl; none_hidden = refl; none_caught = refl }, (record { instances = refl; none_hidden = refl; none_caught = refl }, tt)),
        ),
      ),
    );
  },
  refl,
)

pub sync_premises : SyncPremises
sync_premises =
    met appending rebased_script bounded attributes (chosen_run appending opening rebased_script) (chosen_run appending opening (all_in_sync rebased_script)) refl refl run_is_well
    sync_run_is_well

-- Both runs of the script that is all in Sync

all_sync_run_is_well : IsWell all_sync_script (chosen_run appending opening all_sync_script)
unfolding digits awaits_where lanes_where body_by node_bound linked_by links_among one_link_on links_on timed state_of committed_value body_of rendered fresh host_ops
all_sync_run_is_well = (
  record {
    begins = refl;
    alike = (record { instances = refl; none_hidden = refl; none_caught = refl }, (record { instances = refl; none_hidden = refl; none_caught = refl }, tt));
  },
  refl,
)

all_sync_run_in_sync_is_well : IsWell (all_in_sync all_sync_script) (chosen_run appending opening (all_in_sync all_sync_script))
unfolding digits awaits_where lanes_where body_by node_bound linked_by links_among one_link_on links_on timed state_of committed_value body_of rendered fresh host_ops
all_sync_run_in_sync_is_well = (
  record {
    begins = refl;
    alike = (
      record { instances = refl; none_hidden = refl; none_caught = refl },
      (record { instances = refl; none_hidden = refl; none_caught = refl }, (record { instances = refl; none_hidden = refl; none_caught = refl }, tt)),
    );
  },
  refl,
)

pub all_sync_premises : AllSyncPremises
all_sync_premises =
    met appending all_sync_script bounded attributes (chosen_run appending opening all_sync_script) (chosen_run appending opening (all_in_sync all_sync_script)) refl refl all_sync_run_is_well
    all_sync_run_in_sync_is_well
