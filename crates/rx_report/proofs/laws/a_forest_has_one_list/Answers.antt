use Rattle.rx_report.proofs.OneList.{one_list}
use Rattle.rx_report.proofs.laws.a_forest_has_one_list.Goals as goal

pub returns : goal.returns
returns c = one_list
