use Rattle.std.proofs.Common.{refl}
use Rattle.std.specs.Option.{option_copied}
use Rattle.std.proofs.lemmas.Result.{IfOk-weaker}
use Rattle.rx_fresh.proofs.body.body_anew.Goals as goal

pub returns-clause-given : goal.returns-clause-given
returns-clause-given g c =
    IfOk-weaker c.evaluate.result _ _ (λ b h. record {
      inputs =
          record {
            props = c.args.props.now;
            children = c.args.children.now;
            hooks = option_copied c.slice_of-states.result;
            contexts = c.args.contexts.now;
            versions = c.args.shot.now.versions.now;
            resources = c.args.shot.now.resources.now;
          };
      given = refl;
      gives = h;
    })
    c.evaluate.ensures
