-- What stays along a render stays over several units.
use Rattle.std.specs.Prelude.{◌≡◌, refl}
use Rattle.std.proofs.Common.{sym, ◌∙◌, subst}
use Rattle.rx_meaning.specs.Settled.{DoneBefore}
use Rattle.rx_render.specs.Rendering.{Rendering}
use Rattle.rx_render.specs.Turning.{KeepsHooks, Proceeds, GivesUp}

-- a rendering goes on as it is
abbrev pub proceeds_same : (x : Rendering) → Proceeds x x
proceeds_same x =
    record { program = refl; current = refl; lanes = refl; cut = refl; resources = refl; seen = refl; keeps = λ st done h. h; renders = λ st g h. h }

-- hooks that stand for a state still do after two stretches
abbrev pub keeps_join : (x y z : Rendering) → y.cut ≡ x.cut → KeepsHooks x y → KeepsHooks y z → KeepsHooks x z
keeps_join x y z cut a b st done h = b st (subst (λ c. DoneBefore c st.journal.updates) (sym cut) done) (a st done h)

-- one that goes on and then goes on goes on
abbrev pub proceeds_join : (x y z : Rendering) → Proceeds x y → Proceeds y z → Proceeds x z
proceeds_join x y z a b =
    record {
      program = b.program ∙ a.program;
      current = b.current ∙ a.current;
      lanes = b.lanes ∙ a.lanes;
      cut = b.cut ∙ a.cut;
      resources = b.resources ∙ a.resources;
      seen = b.seen ∙ a.seen;
      keeps = keeps_join x y z a.cut a.keeps b.keeps;
      renders = λ st g h. b.renders st g (a.renders st g h);
    }

-- one that goes on and is then given up is given up
abbrev pub gives_up_after : (x y z : Rendering) → Proceeds x y → GivesUp y z → GivesUp x z
gives_up_after x y z a b =
    record { program = b.program ∙ a.program; current = b.current ∙ a.current; seen = b.seen ∙ a.seen; keeps = keeps_join x y z a.cut a.keeps b.keeps; idle = b.idle }
