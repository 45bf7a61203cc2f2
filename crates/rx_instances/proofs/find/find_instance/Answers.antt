use Rattle.std.proofs.Common.{◌≡◌, ◌+◌, ◌<◌, ◌≤◌, ℕ, suc, ◌∷◌, length, get_or, take, sym, ap, ◌∙◌, arith}
use Rattle.std.specs.Prelude.{option_map, option_and_then}
use Rattle.rx_base.specs.Values.{Name}
use Rattle.rx_step.specs.Steps.{Path}
use Rattle.rx_instances.specs.Nearest.{found_as, told}
use Rattle.rx_instances.specs.NearFibers.{told_in}
use Rattle.rx_instances.proofs.Led.{all_led, led_told}
use Rattle.rx_instances.proofs.Walked.{is_led, none_first, none_prefix, nowhere_way, walked_nowhere, walked_whole}
use Rattle.rx_instances.proofs.Walking.{first_none, first_walks, found_at, more_none, more_walks, told_fiber}
use Rattle.rx_instances.proofs.find.find_instance.Goals as goal

-- the further parts of a path, from their places in it
is_within : (path rest : Path) (part : Name × ℕ) (i : ℕ) → path ≡ part ∷ rest → i < length rest → i + 1 < length path
is_within path rest part i is lt = omega (arith, ap length is)

is_all : (path rest : Path) (part : Name × ℕ) (i : ℕ) → path ≡ part ∷ rest → length rest ≤ i → length path ≤ i + 1
is_all path rest part i is le = omega (arith, ap length is)

is_next : (path rest : Path) (part x : Name × ℕ) (i : ℕ) → path ≡ part ∷ rest → x ≡ get_or rest i x → x ≡ get_or path (i + 1) x
is_next path rest part x i is at =
    let one : suc i ≡ i + 1 = omega arith in
    at ∙ ap (λ j. get_or (part ∷ rest) j x) one ∙ sym (ap (λ (q : Path). get_or q (i + 1) x) is)

pub returns-in_err-id-clause-found : goal.returns-in_err-id-clause-found
returns-in_err-id-clause-found c y next tree numbered own =
    let p = c.args.checked.now in
    let path = c.args.path.now in
    let none = first_none p y c.args.tree.now.current c.facts.ensures.linked c.in_ok-part.part.now tree c.in_err-id.ensures.at in
    ap (option_map told_in) c.from_residual-in_err-id.ensures
    ∙ sym (none_first p y path c.in_ok-part.rest.now c.in_ok-part.part.now c.in_ok-part.ensures.cases.0 none)
    ∙ sym (all_led p y next numbered own path)

pub returns-in_err-id-clause-way : goal.returns-in_err-id-clause-way
returns-in_err-id-clause-way c y next k m tree numbered own below e =
    let p = c.args.checked.now in
    let path = c.args.path.now in
    let none = first_none p y c.args.tree.now.current c.facts.ensures.linked c.in_ok-part.part.now tree c.in_err-id.ensures.at in
    absurd (none_prefix p y path c.in_ok-part.rest.now c.in_ok-part.part.now k (found_as m) c.in_ok-part.ensures.cases.0 none
    (is_led p y next numbered own (take (suc k) path) m e))

pub walking-init : goal.walking-init
walking-init c = record {
  held = c.in_ok-id.ensures.held;
  grows = c.put.ensures.others;
  walks = λ y tree.
      first_walks c.args.checked.now y c.args.tree.now.current c.facts.ensures.linked c.args.path.now c.in_ok-part.rest.now c.in_ok-part.part.now c.in_ok-id.id
      c.args.known.now c.args.sent.now _ tree c.in_ok-part.ensures.cases.0 c.in_ok-id.ensures.at c.put.ensures.here c.put.ensures.others;
}

pub walking-preserved : goal.walking-preserved
walking-preserved c =
    let path = c.args.path.now in
    let rest : Path = c.in_ok-part.rest.now in
    let i = c.walking.part-index in
    record {
      held = c.in_ok-id-2.ensures.held;
      grows = λ m e. c.put-in-walking.ensures.others m (c.walking.invariant.grows m e);
      walks = λ y tree.
          more_walks c.args.checked.now y c.args.tree.now.current c.facts.ensures.linked path (i + 1) c.walking.id c.in_ok-id-2.id c.part-item.result
          c.args.known.now c.args.sent.now c.walking.sent _ (c.walking.invariant.walks y tree)
          (is_within path rest c.in_ok-part.part.now i c.in_ok-part.ensures.cases.0 c.walking-test.true)
          (is_next path rest c.in_ok-part.part.now c.part-item.result i c.in_ok-part.ensures.cases.0 c.part-item.is)
          c.in_ok-id-2.ensures.at c.put-in-walking.ensures.here c.put-in-walking.ensures.others;
    }

pub returns-in_err-id-2-clause-found : goal.returns-in_err-id-2-clause-found
returns-in_err-id-2-clause-found c y next tree numbered own =
    let p = c.args.checked.now in
    let path = c.args.path.now in
    let rest : Path = c.in_ok-part.rest.now in
    let i = c.walking.part-index in
    let walks = c.walking.invariant.walks y tree in
    let none = more_none p y c.args.tree.now.current c.facts.ensures.linked path (i + 1) c.walking.id c.part-item.result c.args.known.now c.args.sent.now c.walking.sent walks c.in_err-id-2.ensures.at in
    ap (option_map told_in) c.from_residual-in_err-id-2.ensures
    ∙ sym (walked_nowhere p y path (i + 1) walks.node c.part-item.result c.args.known.now c.args.sent.now c.walking.sent walks.walked
    (is_within path rest c.in_ok-part.part.now i c.in_ok-part.ensures.cases.0 c.walking-test.true)
    (is_next path rest c.in_ok-part.part.now c.part-item.result i c.in_ok-part.ensures.cases.0 c.part-item.is)
    none)
    ∙ sym (all_led p y next numbered own path)

pub returns-in_err-id-2-clause-grows : goal.returns-in_err-id-2-clause-grows
returns-in_err-id-2-clause-grows c = c.walking.invariant.grows

pub returns-in_err-id-2-clause-way : goal.returns-in_err-id-2-clause-way
returns-in_err-id-2-clause-way c y next k m tree numbered own below e =
    let p = c.args.checked.now in
    let path = c.args.path.now in
    let rest : Path = c.in_ok-part.rest.now in
    let i = c.walking.part-index in
    let walks = c.walking.invariant.walks y tree in
    let none = more_none p y c.args.tree.now.current c.facts.ensures.linked path (i + 1) c.walking.id c.part-item.result c.args.known.now c.args.sent.now c.walking.sent walks c.in_err-id-2.ensures.at in
    nowhere_way p y path (i + 1) walks.node c.part-item.result c.args.known.now c.args.sent.now c.walking.sent walks.walked
    (is_within path rest c.in_ok-part.part.now i c.in_ok-part.ensures.cases.0 c.walking-test.true)
    (is_next path rest c.in_ok-part.part.now c.part-item.result i c.in_ok-part.ensures.cases.0 c.part-item.is)
    none k (found_as m) below
    (is_led p y next numbered own (take (suc k) path) m e)

pub returns-clause-found : goal.returns-clause-found
returns-clause-found c y next tree numbered own =
    let p = c.args.checked.now in
    let path = c.args.path.now in
    let i = c.walking.part-index in
    let walks = c.walking.invariant.walks y tree in
    let all : length path ≤ i + 1 = is_all path c.in_ok-part.rest.now c.in_ok-part.part.now i c.in_ok-part.ensures.cases.0 c.walking-test.false in
    ap (option_map told_in) c.told.ensures
    ∙ told_fiber c.args.tree.now.current c.walking.id walks.node c.value.result.now walks.stands (c.value.ensures.current c.walking.invariant.held)
    ∙ sym (led_told p y path ∙ ap (option_and_then told) (walked_whole p y path (i + 1) walks.node c.args.known.now c.args.sent.now c.walking.sent walks.walked all))
    ∙ sym (all_led p y next numbered own path)

pub returns-clause-fiber : goal.returns-clause-fiber
returns-clause-fiber c y tree =
    let p = c.args.checked.now in
    let path = c.args.path.now in
    let i = c.walking.part-index in
    let walks = c.walking.invariant.walks y tree in
    let all : length path ≤ i + 1 = is_all path c.in_ok-part.rest.now c.in_ok-part.part.now i c.in_ok-part.ensures.cases.0 c.walking-test.false in
    found_at p y path c.args.tree.now.current c.walking.id walks.node c.value.result.now c.told.result
    (walked_whole p y path (i + 1) walks.node c.args.known.now c.args.sent.now c.walking.sent walks.walked all)
    walks.stands (c.value.ensures.current c.walking.invariant.held) c.told.ensures

pub returns-clause-grows : goal.returns-clause-grows
returns-clause-grows c = c.walking.invariant.grows

pub returns-clause-way : goal.returns-clause-way
returns-clause-way c y next k m tree numbered own below e =
    let p = c.args.checked.now in
    let path = c.args.path.now in
    let i = c.walking.part-index in
    let walks = c.walking.invariant.walks y tree in
    let all : length path ≤ i + 1 = is_all path c.in_ok-part.rest.now c.in_ok-part.part.now i c.in_ok-part.ensures.cases.0 c.walking-test.false in
    walks.walked.way k (found_as m) (omega (arith, all, below))
    (is_led p y next numbered own (take (suc k) path) m e)
