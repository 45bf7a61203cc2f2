-- A node over its one list: an error boundary that has caught a value has its fallback there, and any other node its children.
use Rattle.std.proofs.Common.{◌≡◌, true, false, refl}
use Rattle.rx_catch.specs.declared.state.CatchState.TheVariants.{Fine, Caught}
use Rattle.rx_elem.specs.Elements.{Element}
use Rattle.rx_elem.specs.Trees.{Mark, of_instance, of_host, of_boundary, of_catcher, plain, node, Forest, none, is_caught, node_over}

pub over_children : (e : Element) (m : Mark) (ns : Forest) → is_caught m ≡ false → node_over e m ns ≡ node e m ns none
over_children e (of_instance i) ns h = refl
over_children e (of_host n) ns h = refl
over_children e (of_boundary b) ns h = refl
over_children e (of_catcher Fine) ns h = refl
over_children e (of_catcher (Caught x)) ns h = absurd (cc)
over_children e plain ns h = refl

pub over_fallback : (e : Element) (m : Mark) (ns : Forest) → is_caught m ≡ true → node_over e m ns ≡ node e m none ns
over_fallback e (of_instance i) ns h = absurd (cc)
over_fallback e (of_host n) ns h = absurd (cc)
over_fallback e (of_boundary b) ns h = absurd (cc)
over_fallback e (of_catcher Fine) ns h = absurd (cc)
over_fallback e (of_catcher (Caught x)) ns h = refl
over_fallback e plain ns h = absurd (cc)
